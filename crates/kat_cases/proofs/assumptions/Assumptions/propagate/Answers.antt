use Rattle.std.proofs.Common.{false, refl, sym, ◌∙◌, subst}
use Rattle.std.proofs.lemmas.Bool.{false≢true}
use Rattle.kat_clause.specs.Clauses.{Follows, opposites}
use Rattle.kat_clause.specs.Known.{Known}
use Rattle.kat_cases.specs.Assuming.{assumed_in, kept_in, IsAssuming}
use Rattle.kat_cases.proofs.Assuming.{clash_refutes_all, assuming_grows, assuming_quiet, conflict_follows, quiet_follows_not}
use Rattle.kat_cases.proofs.assumptions.Assumptions.propagate.Goals as goal

pub returns-then-is_some-clause-falsified : goal.returns-then-is_some-clause-falsified
returns-then-is_some-clause-falsified c =
    let inside = c.self.inside in
    let P : Known → Type 0 = λ v. Follows v.clauses (opposites v.assumed) in
    let follows = subst P c.self.view_is (clash_refutes_all inside.watches (assumed_in inside.levels.items) (kept_in inside.levels.items) inside.clash inside.settled (sym c.is_some.ensures ∙ c.if-is_some.true) c.tells_supported.ensures.supported c.self.invariant) in
    (λ _. follows, λ _. refl)

pub invariant_of-self-in-Conflict : goal.invariant_of-self-in-Conflict
invariant_of-self-in-Conflict c =
    let inside = c.self.inside in
    assuming_grows inside.watches c.propagate.new.self (assumed_in inside.levels.items) (kept_in inside.levels.items) inside.clash inside.settled (sym c.is_some.ensures ∙ c.if-is_some.false) c.propagate.ensures.clauses c.propagate.ensures.grows c.self.invariant

pub returns-in-Conflict-clause-falsified : goal.returns-in-Conflict-clause-falsified
returns-in-Conflict-clause-falsified c =
    let inside = c.self.inside in
    let assumed = assumed_in inside.levels.items in
    let none = sym c.is_some.ensures ∙ c.if-is_some.false in
    let now : IsAssuming c.propagate.new.self assumed (kept_in inside.levels.items) inside.clash false = assuming_grows inside.watches c.propagate.new.self assumed (kept_in inside.levels.items) inside.clash inside.settled none c.propagate.ensures.clauses c.propagate.ensures.grows c.self.invariant in
    let first = conflict_follows c.propagate.new.self assumed (kept_in inside.levels.items) inside.clash c.in-Conflict.field-0 none c.tells_supported-in-Conflict.ensures.supported c.in-Conflict.ensures.answers now in
    let P : Known → Type 0 = λ v. Follows v.clauses (opposites v.assumed) in
    let follows = subst P c.self.view_is (subst (λ cs. Follows cs (opposites assumed)) c.propagate.ensures.clauses first) in
    (λ _. follows, λ _. refl)

pub invariant_of-self-2 : goal.invariant_of-self-2
invariant_of-self-2 c =
    let inside = c.self.inside in
    let assumed = assumed_in inside.levels.items in
    let none = sym c.is_some.ensures ∙ c.if-is_some.false in
    let now : IsAssuming c.propagate.new.self assumed (kept_in inside.levels.items) inside.clash false = assuming_grows inside.watches c.propagate.new.self assumed (kept_in inside.levels.items) inside.clash inside.settled none c.propagate.ensures.clauses c.propagate.ensures.grows c.self.invariant in
    assuming_quiet c.propagate.new.self assumed (kept_in inside.levels.items) inside.clash none c.in_default.ensures.answers now

pub returns-clause-falsified : goal.returns-clause-falsified
returns-clause-falsified c =
    let inside = c.self.inside in
    let assumed = assumed_in inside.levels.items in
    let none = sym c.is_some.ensures ∙ c.if-is_some.false in
    let now : IsAssuming c.propagate.new.self assumed (kept_in inside.levels.items) inside.clash false = assuming_grows inside.watches c.propagate.new.self assumed (kept_in inside.levels.items) inside.clash inside.settled none c.propagate.ensures.clauses c.propagate.ensures.grows c.self.invariant in
    let first = quiet_follows_not c.propagate.new.self assumed (kept_in inside.levels.items) inside.clash none c.tells_supported-2.ensures.supported c.in_default.ensures.answers now in
    let P : Known → Type 0 = λ v. Follows v.clauses (opposites v.assumed) → ⊥ in
    let never = subst P c.self.view_is (subst (λ cs. Follows cs (opposites assumed) → ⊥) c.propagate.ensures.clauses first) in
    (λ e. absurd (false≢true e), λ f. absurd (never f))
