use Rattle.std.proofs.Common.{◌≡◌, ℤ, List, [], ◌∷◌, ◌++◌, true, false, reverse, ◌^◌, refl, sym, ap, ◌∙◌, subst, rules, FitsSigned}
use Rattle.std.specs.Int.{w32}
use Rattle.std.proofs.lemmas.Int.{to_z-of_z}
use Rattle.kat_cases.specs.Guests.{IsPath}
use Rattle.kat_cases.specs.Walks.{has_literal, joined, core_line}
use Rattle.kat_cases.specs.Stacks.{Progress, HasCore, AreSmall, path_of}
use Rattle.kat_cases.proofs.Branches.{second_unused, second_both, up_to_tail, small_joined}
use Rattle.kat_cases.proofs.Ways.{path_tail}
use Rattle.kat_cases.proofs.stack.Walk.leave_second.Goals as goal

pub record-requires : goal.record-requires
record-requires c =
    let path = path_of c.args.self.now.steps in
    let is : c.deref-4.result.now ≡ joined path c.args.first.now c.args.core.items =
    c.deref-4.ensures.value ∙ c.in_ok-joined.ensures ∙ ap (λ (p : List ℤ). joined p c.args.first.now c.deref-3.result.now) (ap reverse c.deref-2.ensures.value ∙ c.in_ok-path.ensures) ∙ ap (joined path c.args.first.now) c.deref-3.ensures.value in
    let P : List ℤ → Type 0 = AreSmall in
    subst P (sym is) (small_joined path c.args.first.now c.args.core.items (up_to_tail (2 ^ 28) c.args.literal path c.requires))

pub returns-then-not-uses : goal.returns-then-not-uses
returns-then-not-uses c =
    let l = c.args.literal in
    let now = c.args.self.now in
    let fits : FitsSigned w32 c.args.literal = search rules in
    let none : has_literal c.args.literal c.args.core.items ≡ false = sym (c.uses.ensures ∙ ap (λ (x : ℤ). has_literal x c.deref.result.now) (to_z-of_z w32 l fits) ∙ ap (has_literal l) c.deref.ensures.value) ∙ c.if-not-uses.true in
    record {
      left = λ s effort h. second_unused s effort l c.args.first.now now.steps now.lines now.left c.args.core.items none h;
      path = λ g h. path_tail g l (path_of now.steps) h;
      leaves = refl;
      steps = refl;
    }

pub returns : goal.returns
returns c =
    let l = c.args.literal in
    let now = c.args.self.now in
    let path = path_of c.args.self.now.steps in
    let j = joined path c.args.first.now c.args.core.items in
    let fits : FitsSigned w32 c.args.literal = search rules in
    let used : has_literal c.args.literal c.args.core.items ≡ true = sym (c.uses.ensures ∙ ap (λ (x : ℤ). has_literal x c.deref.result.now) (to_z-of_z w32 l fits) ∙ ap (has_literal l) c.deref.ensures.value) ∙ c.if-not-uses.false in
    let core_is : c.in_ok-joined.joined.items ≡ j =
    c.in_ok-joined.ensures ∙ ap (λ (p : List ℤ). joined p c.args.first.now c.deref-3.result.now) (ap reverse c.deref-2.ensures.value ∙ c.in_ok-path.ensures) ∙ ap (joined path c.args.first.now) c.deref-3.ensures.value in
    let recorded : c.record.new.self ≡ record { steps = now.steps; lines = now.lines ++ core_line j ∷ []; left = now.left } =
    c.in_ok-record.ensures ∙ ap (λ (x : List ℤ). let p : Progress = record { steps = now.steps; lines = now.lines ++ core_line x ∷ []; left = now.left } in p) (c.deref-4.ensures.value ∙ core_is) in
    record {
      left = λ s effort h. (
          let P : Progress → Type 0 = λ p. HasCore s effort p c.in_ok-joined.joined.items in
          let R : List ℤ → Type 0 = λ x. HasCore s effort (record { steps = now.steps; lines = now.lines ++ core_line j ∷ []; left = now.left }) x in
          subst P (sym recorded) (subst R (sym core_is) (second_both s effort l c.args.first.now now.steps now.lines now.left c.args.core.items used h)));
      path = λ g h. (let Q : Progress → Type 0 = λ p. IsPath g (path_of p.steps) in subst Q (sym recorded) (path_tail g l path h));
      leaves = ap (λ (p : Progress). p.left) recorded;
      steps = ap (λ (p : Progress). p.steps) recorded;
    }
