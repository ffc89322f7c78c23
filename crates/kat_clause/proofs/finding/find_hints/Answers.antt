use Rattle.std.proofs.Common.{◌≡◌, ◌+◌, ◌++◌, ◌∷◌, ℕ, ℤ, List, [], length, sym, ap, ◌∙◌, subst, arith, rules, FitsSigned, to_z, of_z, Contains, Vec, ⊎_elim}
use Rattle.std.specs.Global.{Global}
use Rattle.std.specs.Int.{w32}
use Rattle.std.proofs.lemmas.Int.{to_z-of_z}
use Rattle.std.proofs.lemmas.List.{length-map}
use Rattle.kat_clause.specs.declared.finding.Step.{Step}
use Rattle.kat_clause.specs.Clauses.{lists, SameMembers, opposites}
use Rattle.kat_clause.specs.Tables.{rows, AreBelow, clause_at}
use Rattle.kat_clause.specs.Choices.{Chooses}
use Rattle.kat_clause.specs.Hints.{IsOnlyOpen}
use Rattle.kat_clause.specs.Findings.{AreNoticed, restored}
use Rattle.kat_clause.specs.Walkings.{Goes}
use Rattle.kat_clause.proofs.HintTests.{cases_cons, in_nothing}
use Rattle.kat_clause.proofs.WalkLaws.{fresh_walk, fresh_noticed, goes_begin, goes_more, goes_end, goes_out, shortened_answer}
use Rattle.kat_clause.proofs.finding.find_hints.Goals as goal

pub look_all-requires-clause-below : goal.look_all-requires-clause-below
look_all-requires-clause-below c =
    let size : length (rows c.args.table.now) ≡ length c.in_ok-walk.walk.set.marks.items = length-map c.args.table.now (λ (r : Vec ℕ Global). r.items) ∙ sym c.in_ok-walk.ensures.size in
    let P : ℕ → Type 0 = λ n. AreBelow n (lists c.args.clauses.now) in
    subst P size c.requires.index.below

pub look_all-requires-clause-walk : goal.look_all-requires-clause-walk
look_all-requires-clause-walk c =
    let made = c.in_ok-walk.ensures in
    fresh_walk (lists c.args.clauses.now) c.in_ok-walk.walk made.set made.trail made.places made.falsified

pub turns-init : goal.turns-init
turns-init c =
    let clauses = lists c.args.clauses.now in
    let line = c.args.line.now in
    let size = length (rows c.args.table.now) in
    let new = c.deny.new.self in
    let marks : length new.set.marks.items ≡ size =
    c.in_ok-deny.ensures.size ∙ ap length c.in_ok-look_all.ensures.set.marks ∙ c.in_ok-walk.ensures.size ∙ sym (length-map c.args.table.now (λ (r : Vec ℕ Global). r.items)) in
    let start : c.look_all.new.self.set.trail.items ≡ [] = c.in_ok-look_all.ensures.set.trail ∙ c.in_ok-walk.ensures.trail in
    let Q : List ℤ → Type 0 = λ old. SameMembers new.set.trail.items (old ++ opposites line) in
    let members : SameMembers new.set.trail.items (opposites line) = subst Q start c.in_ok-deny.ensures.entered in
    let P : List Step → Type 0 = λ steps. Goes clauses line size steps new in
    subst P (sym c.new-steps.ensures.items) (goes_begin clauses line size new marks c.in_ok-deny.ensures.walk
    (c.in_ok-deny.ensures.noticed (c.in_ok-look_all.ensures.noticed (fresh_noticed clauses c.args.short.now c.in_ok-walk.walk c.in_ok-walk.ensures.trail c.requires.short))) members)

pub shortened-requires-clause-below : goal.shortened-requires-clause-below
shortened-requires-clause-below c =
    let P : ℕ → Type 0 = λ n. AreBelow n (lists c.args.clauses.now) in
    subst P (length-map c.args.table.now (λ (r : Vec ℕ Global). r.items)) c.requires.index.below

pub returns-in-Some : goal.returns-in-Some
returns-in-Some c =
    let clauses = lists c.args.clauses.now in
    let line = c.args.line.now in
    let steps = c.turns.steps.items in
    let P : List Step → Type 0 = λ s. Chooses clauses (opposites line) (restored clauses s ((c.in-Some.last + 1) ∷ [])) in
    let chosen = subst P (sym c.deref.ensures.value) (goes_end clauses line (length (rows c.args.table.now)) steps c.turns.walk c.in-Some.last c.turns.invariant c.in-Some.is) in
    shortened_answer c.shortened.result clauses line (restored clauses c.deref.result.now ((c.in-Some.last + 1) ∷ [])) chosen c.shortened.ensures

pub next-requires-clause-below : goal.next-requires-clause-below
next-requires-clause-below c =
    let P : ℕ → Type 0 = λ n. AreBelow n (lists c.args.clauses.now) in
    subst P (sym c.turns.invariant.marks) c.requires.index.below

pub returns-in_default-next : goal.returns-in_default-next
returns-in_default-next c =
    goes_out (lists c.args.clauses.now) c.args.line.now (length (rows c.args.table.now)) c.turns.steps.items c.turns.walk c.turns.invariant c.in_default.is (c.in_default-next.ensures.none c.turns.invariant.noticed c.in_default.is)

pub enter-requires-clause-literal : goal.enter-requires-clause-literal
enter-requires-clause-literal c =
    let literal = c.in-Some-next.step.literal in
    let fits : FitsSigned w32 literal = search rules in
    let found = c.in-Some-next.ensures.step in
    let size : length c.next.new.self.set.marks.items ≡ length (rows c.args.table.now) = ap length c.in-Some-next.ensures.set.marks ∙ c.turns.invariant.marks in
    rw (to_z-of_z w32 literal fits, size) (c.requires.index.below c.in-Some-next.step.number found.0 literal found.1.only.has).0

pub turns-smaller : goal.turns-smaller
turns-smaller c =
    let literal = c.in-Some-next.step.literal in
    let fits : FitsSigned w32 literal = search rules in
    let found = c.in-Some-next.ensures.step in
    let P : ℤ → Type 0 = λ k. Contains c.next.new.self.set.trail.items k → ⊥ in
    let fresh : Contains c.next.new.self.set.trail.items literal → ⊥ = λ has. found.1.fresh (rw c.in-Some-next.ensures.set.trail at has) in
    let less = c.in_ok-enter.ensures.fresh (subst P (sym (to_z-of_z w32 literal fits)) fresh) in
    let same = c.in-Some-next.ensures.set.marks in
    rw (sym same) (omega (arith, less))

giving : (P : ℕ → Type 0) (number i : ℕ) → P number → Contains (number ∷ []) i → P i
giving P number i h has = ⊎_elim (λ (e : number ≡ i). subst P e h) (λ (none : Contains [] i). absurd (in_nothing i none)) (cases_cons number i [] has)

pub turns-preserved : goal.turns-preserved
turns-preserved c =
    let clauses = lists c.args.clauses.now in
    let line = c.args.line.now in
    let size = length (rows c.args.table.now) in
    let step = c.in-Some-next.step in
    let old = c.turns.walk in
    let new = c.enter.new.self in
    let fits : FitsSigned w32 step.literal = search rules in
    let found = c.in-Some-next.ensures.step in
    let same = c.in-Some-next.ensures.set in
    let is : to_z w32 (of_z w32 step.literal) ≡ step.literal = to_z-of_z w32 step.literal fits in
    let marks : length new.set.marks.items ≡ size = c.in_ok-enter.ensures.size ∙ ap length same.marks ∙ c.turns.invariant.marks in
    let Q : List ℤ → Type 0 = λ trail. SameMembers new.set.trail.items (trail ++ (to_z w32 (of_z w32 step.literal)) ∷ []) in
    let R : ℤ → Type 0 = λ k. SameMembers new.set.trail.items (old.set.trail.items ++ k ∷ []) in
    let members : SameMembers new.set.trail.items (old.set.trail.items ++ step.literal ∷ []) = subst R is (subst Q same.trail c.in_ok-enter.ensures.entered) in
    let S : ℤ → Type 0 = IsOnlyOpen c.next.new.self.set.trail.items (clause_at clauses step.number) in
    let T : List ℤ → Type 0 = λ trail. IsOnlyOpen trail (clause_at clauses step.number) step.literal in
    let only : IsOnlyOpen c.next.new.self.set.trail.items (clause_at clauses step.number) (to_z w32 (of_z w32 step.literal)) = subst S (sym is) (subst T (sym same.trail) found.1.only) in
    let U : ℕ → Type 0 = λ i. IsOnlyOpen c.next.new.self.set.trail.items (clause_at clauses i) (to_z w32 (of_z w32 step.literal)) in
    let noticed : AreNoticed clauses [] new = c.in_ok-enter.ensures.noticed (step.number ∷ []) (λ i has h. giving U step.number i only has) (c.in-Some-next.ensures.noticed c.turns.invariant.noticed) in
    let P : List Step → Type 0 = λ steps. Goes clauses line size steps new in
    subst P (sym c.in_ok-push.ensures.items) (goes_more clauses line size c.turns.steps.items step old new c.turns.invariant c.requires.index.below c.in_default.is (c.in-Some-next.ensures.none c.turns.invariant.noticed c.in_default.is) found.1 marks c.in_ok-enter.ensures.walk members noticed)
