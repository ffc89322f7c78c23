use Rattle.std.proofs.Common.{◌↔◌, [], ◌∷◌, ◌++◌, IsTrue, IfOk, option_map, refl, subst}
use Rattle.kat_clause.specs.Clauses.{Follows, opposites}
use Rattle.kat_clause.specs.Known.{Known}
use Rattle.kat_cases.proofs.LookedAt.{guest_more}
use Rattle.kat_cases.proofs.assumptions.Assumptions.propagate_with.Goals as goal

pub returns-then-propagate-clause-falsified : goal.returns-then-propagate-clause-falsified
returns-then-propagate-clause-falsified c =
    let known = c.args.self.now in
    (λ t. guest_more known.clauses (option_map (λ g. g.now) c.args.guest) (opposites known.assumed) (c.propagate.ensures.falsified.0 c.if-propagate.true), λ f. refl)

pub returns-in-Some-clause-falsified : goal.returns-in-Some-clause-falsified
returns-in-Some-clause-falsified c =
    let P : Known → Type 0 = λ v. IfOk c.look_at_guest.result (λ b. IsTrue b ↔ Follows (v.clauses ++ c.in-Some.guest.now ∷ []) (opposites v.assumed)) in
    rw c.in-Some.is (subst P c.propagate.ensures.state c.look_at_guest.ensures.falsified)
