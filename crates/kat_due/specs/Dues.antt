-- What is due at each line of a report, given the lines before it.
use Rattle.std.specs.Prelude.{◌≡◌, ℕ, ◌+◌, ◌<◌, nat_lt, nat_eq, if◌then◌else◌, List, [], ◌∷◌, ◌++◌, length, slice_get, Option, Some, None}
use Rattle.kat_block.specs.Blocks.{IsDueIn, IsWideIn, conjunct_in}
use Rattle.kat_candidate.specs.Candidates.{AreCandidates}
use Rattle.kat_design.specs.Designs.{DesignForm}
use Rattle.kat_histories.specs.declared.histories.History.{History}
use Rattle.kat_relation.specs.declared.relations.Conjunct.{Conjunct}
use Rattle.kat_said.specs.Sayings.{IsLineOf, SaidForm}
use Rattle.kat_said.specs.Sayings.SaidForm.{drops, fails, spends, crowds, widens, is_long}
use Rattle.kat_said.specs.declared.judging.Audit.{Audit}
use Rattle.kat_said.specs.declared.judging.Audit.TheVariants.{Confirmed, NotShown}
use Rattle.kat_type.specs.Signatures.{signature_of}
use Rattle.kat_type.specs.Types.{TypeForm}
use Rattle.kat_due.specs.Differences.{AgreesOn, FirstDiffersAt, IsFirstDifference, histories_for}
use Rattle.kat_due.specs.Texts.{begin_line, differs_line, history_line, none_line, stopped_line, undecided_line}
use Rattle.kat_due.specs.declared.limits.TheConstants.{UNDECIDED_LIMIT}

-- what was asked of a search: the type, the designs of the listing, how many are tried at most, the leaves of each walk, and the
-- greatest size of a design
pub record Ask : Type 0 where
  pub ty : TypeForm
  pub designs : List DesignForm
  pub most : ℕ
  pub effort : ℕ
  pub size : ℕ

-- Where a report is read: before a design, or after the last one; after a history that the next line cites; in the block of an undecided
-- design with these candidates, of which those with these numbers are dropped; or after the last line.
pub data Phase : Type 0 where
  at_design : Phase
  cites : History → Phase
  in_block : List Conjunct → List ℕ → Phase
  finished : Phase

-- how many lines were read, of how many designs they tell, the histories that are cited, how many designs are undecided, the number
-- of the first line that ends a block with `long`, and where it is
pub record State : Type 0 where
  pub lines : ℕ
  pub count : ℕ
  pub cited : List History
  pub passed : ℕ
  pub hidden : Option ℕ
  pub phase : Phase

abbrev pub first_state : State
first_state = record { lines = 0; count = 0; cited = []; passed = 0; hidden = None; phase = at_design }

-- one line further: in another phase
abbrev pub goes_to : State → Phase → State
goes_to s phase = record { lines = s.lines + 1; count = s.count; cited = s.cited; passed = s.passed; hidden = s.hidden; phase = phase }

-- one line further: a design is refuted, and these histories are cited then
abbrev pub behind_refuted : State → List History → State
behind_refuted s cited = record { lines = s.lines + 1; count = s.count + 1; cited = cited; passed = s.passed; hidden = s.hidden; phase = at_design }

-- one line further: a block ends
abbrev pub behind_block : State → Option ℕ → State
behind_block s hidden = record { lines = s.lines + 1; count = s.count + 1; cited = s.cited; passed = s.passed + 1; hidden = hidden; phase = at_design }

-- the first number that is there
abbrev pub or_number : Option ℕ → ℕ → Option ℕ
or_number None n = Some n
or_number (Some m) n = Some m

-- one line further in a block: a candidate is dropped, or the block ends
abbrev pub behind_said : State → List Conjunct → List ℕ → SaidForm → State
behind_said s candidates dropped (drops at point) = goes_to s (in_block candidates (dropped ++ conjunct_in at))
behind_said s candidates dropped (fails query point) = behind_block s s.hidden
behind_said s candidates dropped (spends at) = behind_block s s.hidden
behind_said s candidates dropped (crowds at plus minus rest lits) = behind_block s s.hidden
behind_said s candidates dropped (widens at left right lits) = behind_block s s.hidden
behind_said s candidates dropped (is_long bytes) = behind_block s (or_number s.hidden (s.lines + 1))

-- the next design of those that are tried: they end with the listing, after as many as were asked for, or after the 100th
-- that is undecided
pub record IsNext (ask : Ask) (s : State) (d : DesignForm) : Type 0 where
  pub there : slice_get ask.designs s.count ≡ Some d
  pub asked : s.count < ask.most
  pub few : s.passed < UNDECIDED_LIMIT

-- the last line: the listing has more designs than were tried, or each is refuted, or some are undecided
abbrev pub last_line : Ask → State → List ℕ
last_line ask s = if nat_lt s.count (length ask.designs) then stopped_line s.count ask.size else if nat_eq s.passed 0 then none_line ask.size else undecided_line ask.size

-- The line is due, and leads to the state after it. A design is refuted by the first of the histories that are cited on which it
-- differs; or it differs on none of these, and the first of all on which it does is cited, and then the design told. One that
-- differs on none has a block, in which candidates are dropped until it ends. After the last design comes the last line.
pub data Due (ask : Ask) : State → List ℕ → State → Type 0 where
  same_history : {s : State} {l : List ℕ} (d : DesignForm) (place : ℕ) → s.phase ≡ at_design → IsNext ask s d → FirstDiffersAt ask.ty d s.cited place
      → l ≡ differs_line (s.count + 1) (place + 1) d → Due ask s l (behind_refuted s s.cited)
  new_history : {s : State} {l : List ℕ} (d : DesignForm) (h : History) → s.phase ≡ at_design → IsNext ask s d → AgreesOn ask.ty d s.cited → IsFirstDifference ask.ty d (histories_for ask.ty) h
      → l ≡ history_line (signature_of ask.ty) (length s.cited + 1) h → Due ask s l (goes_to s (cites h))
  its_design : {s : State} {l : List ℕ} (d : DesignForm) (h : History) → s.phase ≡ cites h → IsNext ask s d
      → l ≡ differs_line (s.count + 1) (length s.cited + 1) d → Due ask s l (behind_refuted s (s.cited ++ h ∷ []))
  begins : {s : State} {l : List ℕ} (d : DesignForm) (candidates : List Conjunct) → s.phase ≡ at_design → IsNext ask s d → AgreesOn ask.ty d s.cited → AgreesOn ask.ty d (histories_for ask.ty) → AreCandidates ask.ty d candidates
      → l ≡ begin_line (s.count + 1) d → Due ask s l (goes_to s (in_block candidates []))
  says : {s : State} {l : List ℕ} (d : DesignForm) (candidates : List Conjunct) (dropped : List ℕ) (said : SaidForm) → s.phase ≡ in_block candidates dropped → IsNext ask s d → IsDueIn ask.ty d candidates ask.effort dropped said
      → IsLineOf l said → Due ask s l (behind_said s candidates dropped said)
  last : {s : State} {l : List ℕ} → s.phase ≡ at_design → ((d : DesignForm) → IsNext ask s d → ⊥)
      → l ≡ last_line ask s → Due ask s l (goes_to s finished)

-- the line of a block has a point that is too wide
pub record IsWide (ask : Ask) (s : State) (l : List ℕ) : Type 0 where
  pub d : DesignForm
  pub candidates : List Conjunct
  pub dropped : List ℕ
  pub said : SaidForm
  pub place : s.phase ≡ in_block candidates dropped
  pub next : IsNext ask s d
  pub line : IsLineOf l said
  pub wide : IsWideIn ask.ty d candidates dropped said

-- the verdict of a report after its last line: a block that ends with `long` shows no file
abbrev pub verdict_of : Option ℕ → Audit
verdict_of None = Confirmed
verdict_of (Some line) = NotShown line

pub record IsOver (s : State) (verdict : Audit) : Type 0 where
  pub ended : s.phase ≡ finished
  pub told : verdict ≡ verdict_of s.hidden
