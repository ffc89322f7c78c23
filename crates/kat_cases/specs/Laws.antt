-- Used inside only.
-- Laws of the walk, as the public calls state them.
use Rattle.std.specs.Prelude.{◌≡◌, ℕ, ◌+◌, ◌*◌, ◌^◌, ◌<◌, ◌≤◌, ℤ, List, length, Some, None}
use Rattle.std.specs.List.{All}
use Rattle.kat_linear.specs.Rows.{Form}
use Rattle.kat_linear.specs.Sums.{AreNarrow, IsCertificate}
use Rattle.kat_form.specs.Encodings.{IsFit, encoding}
use Rattle.kat_form.specs.declared.Encoded.{Encoded}
use Rattle.kat_refute.specs.Lines.{Line, denial_forms, IsMultiplier, AreARefutation}
use Rattle.kat_fm.specs.Eliminations.Solution.{refuted_by}
use Rattle.kat_cases.specs.Decisions.{HasNoHints}
use Rattle.kat_cases.specs.Nodes.{Setting}
use Rattle.kat_cases.specs.Nodes.End.{spent}
use Rattle.kat_cases.specs.Walks.{Outcome, Walks, Answer, WalkGives}
use Rattle.kat_cases.specs.Walks.Outcome.{core}
use Rattle.kat_cases.specs.Walks.Answer.{refuted, stopped}
use Rattle.kat_cases.specs.Frees.{free, IsBounded}
use Rattle.kat_cases.specs.Settings.{setting_of, IsWalkable}

-- a walk has one outcome
abbrev pub OneOutcome : Type 0
OneOutcome = (s : Setting) (path : List ℤ) (left : ℕ) (a b : Outcome) → Walks s path left a → Walks s path left b → a ≡ b

-- and so it gives one answer
abbrev pub OneAnswer : Type 0
OneAnswer = (s : Setting) (effort : ℕ) (a b : Answer) → WalkGives s effort a → WalkGives s effort b → a ≡ b

-- each leaf is taken from those that were left, and there are fewer than three lines for each leaf
abbrev pub FewLines : Type 0
FewLines = (s : Setting) (path : List ℤ) (left behind : ℕ) (c : List ℤ) (lines : List Line) → Walks s path left (core c lines behind) → (behind < left) × (length lines + 3 * behind < 3 * left)

-- the lines of a walk have no hints
abbrev pub LinesHaveNoHints : Type 0
LinesHaveNoHints = (s : Setting) (path : List ℤ) (left behind : ℕ) (c : List ℤ) (lines : List Line) → Walks s path left (core c lines behind) → All HasNoHints lines

-- Multipliers that elimination gives, and under which nothing is wide, are a certificate that a line may have.
abbrev pub IsSound : Setting → Type 0
IsSound s = (lits : List ℤ) (forms : List Form) (ms : List ℤ) → denial_forms s.encoding.senses lits ≡ Some forms → s.solve forms ≡ refuted_by ms → s.wide forms ms ≡ None
    → (length forms ≡ length ms) × All IsMultiplier ms × AreNarrow forms ms × IsCertificate forms ms

-- so it is over the number variables of every encoding that may be walked
abbrev pub SettingsAreSound : Type 0
SettingsAreSound = (e : Encoded) → IsWalkable e.numbers (encoding e) → IsSound (setting_of e)

-- if a walk refutes, its lines refute the encoding
abbrev pub WalksRefute : Type 0
WalksRefute = (s : Setting) → IsFit s.encoding → IsSound s → (effort : ℕ) (lines : List Line) → WalkGives s effort (refuted lines) → AreARefutation s.encoding lines

-- a node with so many free variables has its core after at most 2 to the power of that number of leaves
abbrev pub WalksAreBounded : Type 0
WalksAreBounded = (s : Setting) → IsFit s.encoding → (path : List ℤ) (left : ℕ) (o : Outcome) → Walks s path left o → IsBounded left (2 ^ free s path) o

-- with as many leaves as there are valuations the walk isn't spent
abbrev pub EffortSuffices : Type 0
EffortSuffices = (s : Setting) → IsFit s.encoding → (effort : ℕ) → 2 ^ length s.encoding.senses ≤ effort → WalkGives s effort (stopped spent) → ⊥
