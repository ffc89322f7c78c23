-- The walk: a case split over the propositional variables (after Davis, Putnam, Logemann and Loveland 1962), as a relation with
-- a rule for each case.
use Rattle.std.specs.Prelude.{◌≡◌, ℕ, suc, ℤ, pos, neg_ℤ, unsigned_abs, List, [], ◌∷◌, ◌++◌, Bool, true, false, ◌||◌, if◌then◌else◌, Option, Some, None, filter, int_le}
use Rattle.std.specs.List.{list_any}
use Rattle.std.specs.Ordering.{int_eq}
use Rattle.kat_clause.specs.Clauses.{opposites}
use Rattle.kat_refute.specs.Lines.{Line, added}
use Rattle.kat_refute.specs.Lines.Line.{rup}
use Rattle.kat_cases.specs.Nodes.{Setting, End, IsJudged, denies}
use Rattle.kat_cases.specs.Nodes.End.{spent}
use Rattle.kat_cases.specs.Nodes.Judgement.{leaf, ends, splits}

-- a leaf's own line, as a list
abbrev pub own : Option Line → List Line
own None = []
own (Some line) = line ∷ []

-- The core of a leaf. Literals are tried from the first of `rest` on, which is the last of the path, and `stay` have stayed. One
-- is left out if the others that are still there falsify a clause by themselves.
pub data Shrinks (clauses : List (List ℤ)) : List ℤ → List ℤ → List ℤ → Type 0 where
  done : {stay : List ℤ} → Shrinks clauses [] stay stay
  left_out : {l : ℤ} {rest stay core : List ℤ} → denies clauses (rest ++ stay) → Shrinks clauses rest stay core → Shrinks clauses (l ∷ rest) stay core
  kept : {l : ℤ} {rest stay core : List ℤ} → (denies clauses (rest ++ stay) → ⊥) → Shrinks clauses rest (stay ++ l ∷ []) core → Shrinks clauses (l ∷ rest) stay core

-- put in by variable, before those of no lower variable
abbrev pub put : ℤ → List ℤ → List ℤ
put k [] = k ∷ []
put k (l ∷ ls) = if int_le (pos (unsigned_abs k)) (pos (unsigned_abs l)) then k ∷ l ∷ ls else l ∷ put k ls

abbrev pub ascending : List ℤ → List ℤ
ascending [] = []
ascending (k ∷ ks) = put k (ascending ks)

-- the line of the core's opposites, by variable
abbrev pub core_line : List ℤ → Line
core_line core = rup (ascending (opposites core))

abbrev pub has_literal : ℤ → List ℤ → Bool
has_literal k ls = list_any (λ l. int_eq l k) ls

-- the union of both cores without the literal of the split and its opposite: the literals of the path that are in one of them
abbrev pub joined : List ℤ → List ℤ → List ℤ → List ℤ
joined path first second = filter (λ k. has_literal k first || has_literal k second) path

-- what comes of a node: its core, with the lines recorded at it and below it and the leaves still left, or an end
pub data Outcome : Type 0 where
  core : List ℤ → List Line → ℕ → Outcome
  ended : End → Outcome

-- The walk of the node with this path, with so many leaves left. A leaf has the core that it shrinks to. A split walks the node with its
-- literal; only if that node's core uses the literal does it walk the node with the opposite, and only if that core uses the opposite does
-- it join both cores and record a line.
pub data Walks (s : Setting) : List ℤ → ℕ → Outcome → Type 0 where
  ends_here : {path : List ℤ} {left : ℕ} {end : End} → IsJudged s path (ends end) → Walks s path left (ended end)
  is_spent : {path : List ℤ} {line : Option Line} → IsJudged s path (leaf line) → Walks s path 0 (ended spent)
  is_leaf : {path : List ℤ} {left : ℕ} {line : Option Line} {c : List ℤ} → IsJudged s path (leaf line)
      → Shrinks (s.encoding.clauses ++ added (own line)) path [] c
      → Walks s path (suc left) (core c (own line ++ core_line c ∷ []) left)
  first_ends : {path : List ℤ} {left : ℕ} {l : ℤ} {end : End} → IsJudged s path (splits l) → Walks s (l ∷ path) left (ended end) → Walks s path left (ended end)
  first_serves : {path : List ℤ} {left behind : ℕ} {l : ℤ} {c : List ℤ} {lines : List Line} → IsJudged s path (splits l)
      → Walks s (l ∷ path) left (core c lines behind) → has_literal l c ≡ false
      → Walks s path left (core c lines behind)
  second_ends : {path : List ℤ} {left behind : ℕ} {l : ℤ} {c : List ℤ} {lines : List Line} {end : End} → IsJudged s path (splits l)
      → Walks s (l ∷ path) left (core c lines behind) → has_literal l c ≡ true
      → Walks s (neg_ℤ l ∷ path) behind (ended end)
      → Walks s path left (ended end)
  second_serves : {path : List ℤ} {left behind last : ℕ} {l : ℤ} {c d : List ℤ} {lines more : List Line} → IsJudged s path (splits l)
      → Walks s (l ∷ path) left (core c lines behind) → has_literal l c ≡ true
      → Walks s (neg_ℤ l ∷ path) behind (core d more last) → has_literal (neg_ℤ l) d ≡ false
      → Walks s path left (core d (lines ++ more) last)
  both : {path : List ℤ} {left behind last : ℕ} {l : ℤ} {c d : List ℤ} {lines more : List Line} → IsJudged s path (splits l)
      → Walks s (l ∷ path) left (core c lines behind) → has_literal l c ≡ true
      → Walks s (neg_ℤ l ∷ path) behind (core d more last) → has_literal (neg_ℤ l) d ≡ true
      → Walks s path left (core (joined path c d) (lines ++ more ++ core_line (joined path c d) ∷ []) last)

-- what a whole walk gives: lines that refute the encoding, or an end
pub data Answer : Type 0 where
  refuted : List Line → Answer
  stopped : End → Answer

-- The walk over a setting with so many leaves gives this.
abbrev pub WalkGives : Setting → ℕ → Answer → Type 0
WalkGives s effort (refuted lines) = (behind : ℕ) × Walks s [] effort (core [] lines behind)
WalkGives s effort (stopped end) = Walks s [] effort (ended end)

-- the lines have a property, if the walk refutes
abbrev pub IfRefuted : Answer → (List Line → Type 0) → Type 0
IfRefuted (refuted lines) P = P lines
IfRefuted (stopped end) P = Unit {0}
