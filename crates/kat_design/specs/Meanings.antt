-- What a list of operations gives: states of cells, tables and sets by joins, of tallies by sums, and of several components together.
use Rattle.std.specs.Prelude.{◌≡◌, ℕ, List, [], ◌∷◌, ◌++◌}
use Rattle.kat_lattice.specs.JoinLaws.{JoinLaws}
use Rattle.kat_lattice.specs.Tallies.{Sums, tallies_joined}
use Rattle.kat_type.specs.Lists.{HaveSame, IsOnce}
use Rattle.kat_type.specs.declared.done.Done.{Done}
use Rattle.kat_design.specs.Tallied.{bumped, tally_of}
use Rattle.kat_type.specs.Unions.{AreNested, united}

-- the state of a list of operations, the join of two states, and a state with one operation more
pub record Meaning (S : Type 0) : Type 0 where
  pub state_of : List Done → S
  pub joined : S → S → S
  pub added : S → Done → S

-- A state depends on the operations alone, not on their order; one operation more is added to it; and the join of two
-- states is the state of both lists, if of each origin the one list's operations are among the other's.
pub record Means {S : Type 0} (kin : S → S → Type 0) (m : Meaning S) : Type 0 where
  pub goes : (xs ys : List Done) → kin (m.state_of xs) (m.state_of ys)
  pub same : (xs ys : List Done) → IsOnce xs → IsOnce ys → HaveSame xs ys → m.state_of xs ≡ m.state_of ys
  pub adds : (xs : List Done) (one : Done) → m.added (m.state_of xs) one ≡ m.state_of (xs ++ one ∷ [])
  pub unites : (xs ys : List Done) → IsOnce xs → IsOnce ys → AreNested xs ys → m.joined (m.state_of xs) (m.state_of ys) ≡ m.state_of (united xs ys)

-- a start, a join, and what an operation alone gives; an operation without an effect gives the start
pub record Effects (L : Type 0) : Type 0 where
  pub start : L
  pub joined : L → L → L
  pub effect : Done → L

-- the start joined with the effects
abbrev pub denotation : {L : Type 0} → Effects L → List Done → L
denotation m [] = m.start
denotation m (done ∷ dones) = m.joined (m.effect done) (denotation m dones)

-- the join is lawful, and effects go with the start
pub record AreEffects {L : Type 0} (kin : L → L → Type 0) (m : Effects L) : Type 0 where
  pub laws : JoinLaws kin m.joined
  pub start_kin : kin m.start m.start
  pub effect_kin : (done : Done) → kin m.start (m.effect done)

-- cells, tables and sets
abbrev pub joins : {L : Type 0} → Effects L → Meaning L
joins e = record { state_of = denotation e; joined = e.joined; added = λ s one. e.joined s (e.effect one) }

-- tallies
abbrev pub tallied : (Done → ℕ) → Meaning Sums
tallied weight = record { state_of = tally_of weight; joined = tallies_joined; added = λ s one. bumped s one.replica (weight one) }

-- component by component
abbrev pub joined_each : {S : Type 0} → List (Meaning S) → List S → List S → List S
joined_each [] xs ys = []
joined_each (m ∷ ms) [] ys = []
joined_each (m ∷ ms) (x ∷ xs) [] = []
joined_each (m ∷ ms) (x ∷ xs) (y ∷ ys) = m.joined x y ∷ joined_each ms xs ys

abbrev pub added_each : {S : Type 0} → List (Meaning S) → List S → Done → List S
added_each [] xs one = []
added_each (m ∷ ms) [] one = []
added_each (m ∷ ms) (x ∷ xs) one = m.added x one ∷ added_each ms xs one

abbrev pub are_kin : {S : Type 0} → (S → S → Type 0) → List S → List S → Type 0
are_kin kin [] [] = Unit {0}
are_kin kin [] (y ∷ ys) = ⊥
are_kin kin (x ∷ xs) [] = ⊥
are_kin kin (x ∷ xs) (y ∷ ys) = kin x y × are_kin kin xs ys

abbrev pub states_of : {S : Type 0} → List (Meaning S) → List Done → List S
states_of [] ones = []
states_of (m ∷ ms) ones = m.state_of ones ∷ states_of ms ones

abbrev pub all_of : {S : Type 0} → List (Meaning S) → Meaning (List S)
all_of ms = record { state_of = states_of ms; joined = joined_each ms; added = added_each ms }
