-- A node of the walk, and how it is judged.
use Rattle.std.specs.Prelude.{◌≡◌, ℕ, suc, ◌↔◌, ℤ, pos, neg_ℤ, int_lt, List, [], ◌∷◌, ◌++◌, map, Bool, true, false, not, ◌||◌, if◌then◌else◌, IsTrue, Option, Some, None}
use Rattle.std.specs.List.{list_all}
use Rattle.kat_linear.specs.Rows.{Form, negated_form}
use Rattle.kat_clause.specs.Clauses.{Derived, Follows, opposites}
use Rattle.kat_form.specs.Encodings.{Encoding, Sense, form_in}
use Rattle.kat_form.specs.Encodings.Sense.{truth, atom, gate}
use Rattle.kat_refute.specs.Lines.{Line}
use Rattle.kat_refute.specs.Lines.Line.{linear}
use Rattle.kat_fm.specs.Eliminations.{Solution}
use Rattle.kat_fm.specs.Eliminations.Solution.{met_at, refuted_by, crowded, goes_wide}

-- How a walk ends before the first node has its core: its leaves are used up; at a point, numerators over a denominator and
-- the truth variables' values; or elimination gives up on the rows of these literals.
pub data End : Type 0 where
  spent : End
  at_point : ℤ → List ℤ → List Bool → End
  at_rows : List ℤ → ℕ → ℕ → ℕ → End
  at_wide : List ℤ → ℤ → ℤ → End

-- What a walk is taken over: an encoding; what elimination makes of rows; and, of rows under multipliers, the two numbers of
-- the first product or sum that is wide, if one is.
pub record Setting : Type 0 where
  pub encoding : Encoding
  pub solve : List Form → Solution
  pub wide : List Form → List ℤ → Option (ℤ × ℤ)

-- with these literals assumed, unit propagation falsifies a clause
abbrev pub denies : List (List ℤ) → List ℤ → Type 0
denies clauses literals = Follows clauses (opposites literals)

-- A node is the list of the literals that are assumed at it, the last one first: its path. The literals that are known there
-- are those that unit propagation derives.
abbrev pub IsKnown : Encoding → List ℤ → ℤ → Type 0
IsKnown e path = Derived e.clauses (opposites path)

-- a table of the known literals
abbrev pub IsTable : Encoding → List ℤ → (ℤ → Bool) → Type 0
IsTable e path has = (k : ℤ) → IsTrue (has k) ↔ IsKnown e path k

-- a known literal of an atom, with its row: the atom's form, or 1 less it for the opposite
pub record Held : Type 0 where
  pub literal : ℤ
  pub row : Form

abbrev pub held_of : (ℤ → Bool) → ℕ → Option Form → List Held
held_of has v None = []
held_of has v (Some form) =
    if has (pos v)
    then record { literal = pos v; row = form } ∷ []
    else if has (neg_ℤ (pos v)) then record { literal = neg_ℤ (pos v); row = negated_form form } ∷ [] else []

-- the known literals of atoms, by variable; `v` is the number of the first variable
abbrev pub held_from : (ℤ → Bool) → ℕ → List Sense → List Held
held_from has v [] = []
held_from has v (s ∷ ss) = held_of has v (form_in s) ++ held_from has (suc v) ss

abbrev pub literals : List Held → List ℤ
literals held = map (λ (h : Held). h.literal) held

abbrev pub rows : List Held → List Form
rows held = map (λ (h : Held). h.row) held

-- the opposites of the literals whose multiplier is above 0, and these multipliers
abbrev pub used_literals : List ℤ → List ℤ → List ℤ
used_literals [] ms = []
used_literals (k ∷ ks) [] = []
used_literals (k ∷ ks) (m ∷ ms) = if int_lt (pos 0) m then neg_ℤ k ∷ used_literals ks ms else used_literals ks ms

abbrev pub used_multipliers : List ℤ → List ℤ
used_multipliers [] = []
used_multipliers (m ∷ ms) = if int_lt (pos 0) m then m ∷ used_multipliers ms else used_multipliers ms

-- no literal of the clause is known
abbrev pub is_unmet : (ℤ → Bool) → List ℤ → Bool
is_unmet has clause = list_all (λ k. not (has k)) clause

-- the first literal of the clause whose opposite isn't known
abbrev pub first_open : (ℤ → Bool) → List ℤ → Option ℤ
first_open has [] = None
first_open has (k ∷ ks) = if has (neg_ℤ k) then first_open has ks else Some k

abbrev pub or_else : Option ℤ → Option ℤ → Option ℤ
or_else (Some k) other = Some k
or_else None other = other

-- the first open literal of the last clause of which no literal is known
abbrev pub last_unmet : (ℤ → Bool) → List (List ℤ) → Option ℤ
last_unmet has [] = None
last_unmet has (c ∷ cs) = or_else (last_unmet has cs) (if is_unmet has c then first_open has c else None)

-- the lowest variable of which no literal is known
abbrev pub lowest_open : (ℤ → Bool) → ℕ → List Sense → Option ℤ
lowest_open has v [] = None
lowest_open has v (s ∷ ss) = if has (pos v) || has (neg_ℤ (pos v)) then lowest_open has (suc v) ss else Some (pos v)

abbrev pub is_truth_sense : Sense → Bool
is_truth_sense (truth t) = true
is_truth_sense (atom form) = false
is_truth_sense gate = false

-- the truth values of the truth variables that have a propositional number, in the order of these numbers
abbrev pub truths_from : (ℤ → Bool) → ℕ → List Sense → List Bool
truths_from has v [] = []
truths_from has v (s ∷ ss) = if is_truth_sense s then has (pos v) ∷ truths_from has (suc v) ss else truths_from has (suc v) ss

-- What a node is: a leaf, with the line by linear arithmetic that it has, or none; an end; or a split on a literal.
pub data Judgement : Type 0 where
  leaf : Option Line → Judgement
  ends : End → Judgement
  splits : ℤ → Judgement

abbrev pub judged_width : List ℤ → List ℤ → Option (ℤ × ℤ) → Judgement
judged_width lits ms None = leaf (Some (linear (used_literals lits ms) (used_multipliers ms)))
judged_width lits ms (Some (left, right)) = ends (at_wide lits left right)

-- a split if some variable has no known literal: on the choice by clauses, or else on the lowest such variable
abbrev pub judged_open : Option ℤ → End → Option ℤ → Judgement
judged_open chosen end None = ends end
judged_open (Some l) end (Some v) = splits l
judged_open None end (Some v) = splits v

abbrev pub judged_solution : Setting → (ℤ → Bool) → List Held → Solution → Judgement
judged_solution s has held (met_at den nums) = judged_open (last_unmet has s.encoding.clauses) (at_point den nums (truths_from has 1 s.encoding.senses)) (lowest_open has 1 s.encoding.senses)
judged_solution s has held (refuted_by ms) = judged_width (literals held) ms (s.wide (rows held) ms)
judged_solution s has held (crowded plus minus rest) = ends (at_rows (literals held) plus minus rest)
judged_solution s has held (goes_wide left right) = ends (at_wide (literals held) left right)

abbrev pub held_in : Setting → (ℤ → Bool) → List Held
held_in s has = held_from has 1 s.encoding.senses

-- how a node with these known literals is judged, if no clause is falsified
unfoldable pub judged : Setting → (ℤ → Bool) → Judgement
judged s has = judged_solution s has (held_in s has) (s.solve (rows (held_in s has)))

-- The node of this path is judged so: if a clause is falsified it is a leaf without a line of its own.
pub data IsJudged (s : Setting) (path : List ℤ) (j : Judgement) : Type 0 where
  falsified : denies s.encoding.clauses path → j ≡ leaf None → IsJudged s path j
  not_falsified : (denies s.encoding.clauses path → ⊥) → (has : ℤ → Bool) → IsTable s.encoding path has → j ≡ judged s has → IsJudged s path j
