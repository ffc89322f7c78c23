use Rattle.std.proofs.Common.{◌≡◌, ℤ, neg_ℤ, true, false, refl, sym, ap, ◌∙◌, subst, rules, FitsSigned, to_z, of_z}
use Rattle.std.specs.Int.{w32}
use Rattle.std.proofs.lemmas.Int.{to_z-of_z}
use Rattle.kat_cases.specs.Guests.{IsPath}
use Rattle.kat_cases.specs.Walks.{has_literal}
use Rattle.kat_cases.specs.Stacks.{Progress, Stands, path_of}
use Rattle.kat_cases.proofs.Branches.{first_unused, first_used}
use Rattle.kat_cases.proofs.Ways.{path_tail, path_other}
use Rattle.kat_cases.proofs.stack.Walk.leave_first.Goals as goal

pub returns-then-not-uses : goal.returns-then-not-uses
returns-then-not-uses c =
    let l = c.args.literal in
    let now = c.args.self.now in
    let fits : FitsSigned w32 c.args.literal = search rules in
    let none : has_literal c.args.literal c.args.core.items ≡ false = sym (c.uses.ensures ∙ ap (λ (x : ℤ). has_literal x c.deref.result.now) (to_z-of_z w32 l fits) ∙ ap (has_literal l) c.deref.ensures.value) ∙ c.if-not-uses.true in
    record {
      left = λ s effort h. first_unused s effort l now.steps now.lines now.left c.args.core.items none h;
      path = λ g h. path_tail g l (path_of now.steps) h;
      leaves = refl;
      steps = refl;
    }

pub returns : goal.returns
returns c =
    let l = c.args.literal in
    let now = c.args.self.now in
    let fits : FitsSigned w32 c.args.literal = search rules in
    let fits_o : FitsSigned w32 c.opposite.result = search rules in
    let used : has_literal c.args.literal c.args.core.items ≡ true = sym (c.uses.ensures ∙ ap (λ (x : ℤ). has_literal x c.deref.result.now) (to_z-of_z w32 l fits) ∙ ap (has_literal l) c.deref.ensures.value) ∙ c.if-not-uses.false in
    let m = to_z w32 (of_z w32 c.opposite.result) in
    let is : m ≡ neg_ℤ c.args.literal = to_z-of_z w32 c.opposite.result fits_o ∙ c.opposite.ensures ∙ ap neg_ℤ (to_z-of_z w32 l fits) in
    record {
      left = λ s effort h. (let P : Progress → Type 0 = λ p. Stands s effort p.steps p.left p.lines in subst P (sym c.in_ok-turn.ensures) (first_used s effort l m now.steps now.lines now.left c.args.core.items used is h));
      path = λ g h. (let Q : Progress → Type 0 = λ p. IsPath g (path_of p.steps) in subst Q (sym c.in_ok-turn.ensures) (path_other g l m (path_of now.steps) is h));
      leaves = ap (λ (p : Progress). p.left) c.in_ok-turn.ensures;
      steps = tt;
    }
