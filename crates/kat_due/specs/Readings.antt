-- Used inside only.
-- What was read of a report, and what comes of the lines that are left.
use Rattle.std.specs.Prelude.{◌≡◌, ℕ, suc, ◌+◌, ◌<◌, ◌≤◌, All, List, [], ◌∷◌, length, map, Option, None, Some, Result, Ok, Err, slice_index_or}
use Rattle.kat_design.specs.Designs.{DesignForm}
use Rattle.kat_design.specs.Faults.{faults_of}
use Rattle.kat_design.specs.Sorted.{IsWellSorted}
use Rattle.kat_histories.specs.Histories.{histories, history_of}
use Rattle.kat_histories.specs.declared.histories.History.{History}
use Rattle.kat_said.specs.Judging.{Judges, lines_of}
use Rattle.kat_points.specs.Points.{PointForm}
use Rattle.kat_relation.specs.declared.relations.Conjunct.{Conjunct}
use Rattle.kat_said.specs.Sayings.{SaidForm, said_form}
use Rattle.kat_said.specs.Sayings.SaidForm.{drops, fails, spends, crowds, widens, is_long}
use Rattle.kat_said.specs.declared.judging.Audit.{Audit}
use Rattle.kat_said.specs.declared.said.Place.{Place}
use Rattle.kat_said.specs.declared.said.Said.{Said}
use Rattle.kat_said.specs.declared.judging.Audit.TheVariants.{Bad}
use Rattle.kat_type.specs.Signatures.{signature_of}
use Rattle.kat_type.specs.Types.{TypeForm}
use Rattle.kat_type.specs.declared.signatures.Signature.{Signature}
use Rattle.kat_due.specs.Dues.{Ask, Due, IsOver, IsWide, Phase, State, behind_said, or_number}
use Rattle.kat_due.specs.Dues.Phase.{in_block}
use Rattle.kat_due.specs.declared.reading.Reading.{Reading}

-- the history with a number among all of a signature
abbrev pub history_at : Signature → ℕ → History
history_at sig number = slice_index_or (histories sig) number (history_of [])

-- those with these numbers
abbrev pub histories_at : Signature → List ℕ → List History
histories_at sig numbers = map (history_at sig) numbers

-- each is the number of one
abbrev pub EachIsNumber : Signature → List ℕ → Type 0
EachIsNumber sig numbers = All (λ (number : ℕ). number < length (histories sig)) numbers

pub record AreNumbers (sig : Signature) (numbers : List ℕ) : Type 0 where
  pub each : EachIsNumber sig numbers

-- a design that a listing of the type has
pub record IsTryable (ty : TypeForm) (d : DesignForm) : Type 0 where
  pub sorted : IsWellSorted d
  pub accepted : faults_of d ≡ []
  pub agrees : d.sig ≡ signature_of ty

-- the state in which a report is read
abbrev pub state_at : Signature → Reading → Phase → State
state_at sig r phase = record { lines = r.lines; count = r.count; cited = histories_at sig r.cited.items; passed = r.passed; hidden = r.hidden; phase = phase }

-- what comes of the lines of a text in a state
abbrev pub JudgesFrom : Ask → State → List ℕ → Audit → Type 0
JudgesFrom ask s left verdict = Judges (IsWide ask) (Due ask) IsOver s.lines s (lines_of left) verdict

-- If lines were read without a fault, the result of those after them is that of all; otherwise the fault is.
abbrev pub ComesTo : Ask → State → List ℕ → State → List ℕ → Option Audit → Type 0
ComesTo ask s left t rest None = (verdict : Audit) → JudgesFrom ask t rest verdict → JudgesFrom ask s left verdict
ComesTo ask s left t rest (Some verdict) = JudgesFrom ask s left verdict

-- only this line is due in the state, it leads to the other one alone, and no line is too wide
pub record Expects (ask : Ask) (s : State) (line : List ℕ) (t : State) : Type 0 where
  pub due : Due ask s line t
  pub only : (l : List ℕ) (u : State) → Due ask s l u → (l ≡ line) × (u ≡ t)
  pub narrow : (l : List ℕ) → IsWide ask s l → ⊥
  pub going : (verdict : Audit) → IsOver s verdict → ⊥
  pub next : t.lines ≡ suc s.lines

-- nothing of the text was read yet
pub record IsFirst (r : Reading) (text : List ℕ) : Type 0 where
  pub left : r.left.now ≡ text
  pub lines : r.lines ≡ 0
  pub count : r.count ≡ 0
  pub cited : r.cited.items ≡ []
  pub passed : r.passed ≡ 0
  pub hidden : r.hidden ≡ None

-- one line was cut off the text, and no more was read
pub record IsCut (old new : Reading) (line : List ℕ) : Type 0 where
  pub cut : lines_of old.left.now ≡ line ∷ lines_of new.left.now
  pub lines : new.lines ≡ old.lines + 1
  pub room : new.lines + length new.left.now ≤ old.lines + length old.left.now
  pub count : new.count ≡ old.count
  pub cited : new.cited.items ≡ old.cited.items
  pub passed : new.passed ≡ old.passed
  pub hidden : new.hidden ≡ old.hidden

-- the text begins with this line, which was cut off; else there is a fault at the next one
abbrev pub IsMet : Reading → Reading → List ℕ → Option Audit → Type 0
IsMet old new line None = IsCut old new line
IsMet old new line (Some verdict) = (verdict ≡ Bad (suc old.lines)) × ((ls : List (List ℕ)) → lines_of old.left.now ≡ line ∷ ls → ⊥)

-- after a line that ends a block: the number of the first line that ends one with `long`
abbrev pub hidden_behind : Option ℕ → ℕ → SaidForm → Option ℕ
hidden_behind hidden line (drops at point) = hidden
hidden_behind hidden line (fails query point) = hidden
hidden_behind hidden line (spends at) = hidden
hidden_behind hidden line (crowds at plus minus rest lits) = hidden
hidden_behind hidden line (widens at left right lits) = hidden
hidden_behind hidden line (is_long bytes) = or_number hidden line

-- the line ends a block
abbrev pub IsEnding : SaidForm → Type 0
IsEnding (drops at point) = ⊥
IsEnding (fails query point) = Unit {0}
IsEnding (spends at) = Unit {0}
IsEnding (crowds at plus minus rest lits) = Unit {0}
IsEnding (widens at left right lits) = Unit {0}
IsEnding (is_long bytes) = Unit {0}

-- a candidate of a place is dropped; or else the block ends
abbrev pub DropsAt : SaidForm → Place → Type 0
DropsAt said at = (point : PointForm) × (said ≡ drops at point)

-- a block was ended
pub record IsClosed (old new : Reading) (said : SaidForm) : Type 0 where
  pub left : new.left.now ≡ old.left.now
  pub lines : new.lines ≡ old.lines
  pub count : new.count ≡ old.count + 1
  pub cited : new.cited.items ≡ old.cited.items
  pub passed : new.passed ≡ old.passed + 1
  pub hidden : new.hidden ≡ hidden_behind old.hidden old.lines said

-- lines were read, at which no more was told than of this many designs
pub record IsBehind (old new : Reading) (designs undecided : ℕ) : Type 0 where
  pub count : new.count ≡ old.count + designs
  pub passed : new.passed ≤ old.passed + undecided
  pub room : new.lines + length new.left.now ≤ old.lines + length old.left.now

-- what was asked is this of the type, with this effort
pub record IsAskedOf (ask : Ask) (ty : TypeForm) (effort : ℕ) : Type 0 where
  pub of_type : ask.ty ≡ ty
  pub of_effort : ask.effort ≡ effort

-- what is reported of a line of a block: it is due; else there is the fault
abbrev pub IsToldIn : Ask → Signature → List Conjunct → List ℕ → Reading → Reading → Result Said Audit → Type 0
IsToldIn ask sig candidates dropped old new (Ok said) = (verdict : Audit)
    → JudgesFrom ask (behind_said (state_at sig old (in_block candidates dropped)) candidates dropped (said_form said)) new.left.now verdict
    → JudgesFrom ask (state_at sig old (in_block candidates dropped)) old.left.now verdict
IsToldIn ask sig candidates dropped old new (Err verdict) = JudgesFrom ask (state_at sig old (in_block candidates dropped)) old.left.now verdict
