use Rattle.std.proofs.Common.{◌≡◌, ◌↔◌, ℤ, neg_ℤ, [], ◌∷◌, ◌++◌, false, IsTrue, IfOk, refl, sym, rules, arith, subst, Contains, FitsSigned}
use Rattle.std.specs.Int.{w32}
use Rattle.std.proofs.lemmas.Bool.{false≢true}
use Rattle.std.proofs.lemmas.Int.{to_z-of_z}
use Rattle.std.proofs.lemmas.List.Elements.{Contains-get_or}
use Rattle.kat_clause.specs.Clauses.{Follows, opposites}
use Rattle.kat_clause.specs.Literals.{has_of}
use Rattle.kat_cases.specs.Guests.{AreApart}
use Rattle.kat_cases.proofs.LookedAt.{falsified_guest, idle_guest, last_open, last_apart, unit_guest}
use Rattle.kat_cases.proofs.assumptions.Assumptions.look_at_guest.Goals as goal

pub look_at-requires : goal.look_at-requires
look_at-requires c = λ k d h. (let is = c.requires.literals _ (Contains-get_or c.args.guest.now k d h) in omega (arith, is.1, c.tells_apart.ensures.limit))

pub propagates_under-requires-clause-apart : goal.propagates_under-requires-clause-apart
propagates_under-requires-clause-apart c =
    let known = c.args.self.now in
    let m = c.in-Unit.literal in
    let fits : FitsSigned w32 c.in-Unit.literal = search rules in
    let P : ℤ → Type 0 = λ z. Contains c.args.self.now.assumed (neg_ℤ z) → ⊥ in
    subst P (sym (to_z-of_z w32 m fits)) (last_apart (has_of c.marks.result.now) known.clauses known.assumed c.args.guest.now m c.marks.ensures c.in-Unit.ensures)

pub returns-in-Falsified-clause-falsified : goal.returns-in-Falsified-clause-falsified
returns-in-Falsified-clause-falsified c =
    let known = c.args.self.now in
    (λ t. falsified_guest (has_of c.marks.result.now) known.clauses known.assumed c.args.guest.now c.marks.ensures c.in-Falsified.ensures, λ f. refl)

pub returns-in-Idle-clause-falsified : goal.returns-in-Idle-clause-falsified
returns-in-Idle-clause-falsified c =
    let known = c.args.self.now in (
      λ t. absurd (false≢true t),
      λ f. absurd (idle_guest (has_of c.marks.result.now) known.clauses known.assumed c.args.guest.now c.marks.ensures c.tells_apart.ensures.apart c.requires.unfollowed c.in-Idle.ensures f),
    )

pub returns-in-Unit-clause-falsified : goal.returns-in-Unit-clause-falsified
returns-in-Unit-clause-falsified c =
    let known = c.args.self.now in
    let m = c.in-Unit.literal in
    let fits : FitsSigned w32 c.in-Unit.literal = search rules in
    let r = c.propagates_under.result in
    let P : ℤ → Type 0 = λ z. IfOk c.propagates_under.result (λ b. IsTrue b ↔ Follows c.args.self.now.clauses (opposites (c.args.self.now.assumed ++ z ∷ []))) in
    let Q : ℤ → Type 0 = λ z. IfOk c.propagates_under.result (λ b. b ≡ false → AreApart c.args.self.now.clauses (c.args.self.now.assumed ++ z ∷ [])) in
    unit_guest r known.clauses known.assumed c.args.guest.now m (last_open (has_of c.marks.result.now) known.clauses known.assumed c.args.guest.now m c.marks.ensures c.in-Unit.ensures)
    (subst P (to_z-of_z w32 m fits) c.propagates_under.ensures.falsified) (subst Q (to_z-of_z w32 m fits) c.propagates_under.ensures.apart)
