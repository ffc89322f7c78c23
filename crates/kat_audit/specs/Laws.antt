-- Used inside only.
-- Laws of what comes of a report.
use Rattle.std.specs.Prelude.{◌≡◌, ◌↔◌, ℕ, List, ◌∷◌, ◌++◌}
use Rattle.kat_design.specs.Designs.{DesignForm}
use Rattle.kat_histories.specs.Histories.{FitsHistory}
use Rattle.kat_hist.specs.Words.{HasWords}
use Rattle.kat_histories.specs.declared.histories.History.{History}
use Rattle.kat_said.specs.Judging.{IsDetermined, Judges, Reads, lines_of}
use Rattle.kat_said.specs.Sayings.{IsNarrowSaid, SaidForm, said_line}
use Rattle.kat_said.specs.declared.judging.Audit.{Audit}
use Rattle.kat_said.specs.declared.judging.Audit.TheVariants.{Confirmed}
use Rattle.kat_type.specs.Types.{TypeForm}
use Rattle.kat_type.specs.declared.signatures.Signature.{Signature}
use Rattle.kat_audit.specs.Audits.{IsAudited}
use Rattle.kat_due.specs.Dues.{Ask, Due, IsOver, IsWide, State, first_state}
use Rattle.kat_due.specs.Texts.{begin_line, differs_line, history_line, none_line, stopped_line, undecided_line}
use Rattle.kat_audit.specs.declared.options.Options.{Options}

-- one state comes after a line, and a state has one verdict
abbrev pub LinesDetermine : Type 0
LinesDetermine = (ask : Ask) → IsDetermined (Due ask) IsOver

-- a report has one verdict
abbrev pub HaveOneVerdict : Type 0
HaveOneVerdict = (ty : TypeForm) (options : Options) (bytes : List ℕ) (v w : Audit) → IsAudited ty options bytes v → IsAudited ty options bytes w → v ≡ w

-- all lines are due, none of them has a point that is too wide, nothing more is due, and no block ends with `long`
pub record AreRead (ask : Ask) (lines : List (List ℕ)) : Type 0 where
  pub end : State
  pub read : Reads (IsWide ask) (Due ask) first_state lines end
  pub over : IsOver end Confirmed

-- a report is confirmed if and only if that is so
abbrev pub ConfirmedAreRead : Type 0
ConfirmedAreRead = (ask : Ask) (bytes : List ℕ) → Judges (IsWide ask) (Due ask) IsOver 0 first_state (lines_of bytes) Confirmed ↔ AreRead ask (lines_of bytes)

-- each line that may be due is one line of a text, whatever comes after it
pub record AreLines : Type 0 where
  pub differs : (n h : ℕ) (d : DesignForm) (rest : List ℕ) → lines_of (differs_line n h d ++ rest) ≡ differs_line n h d ∷ lines_of rest
  pub history : (sig : Signature) (n : ℕ) (h : History) (rest : List ℕ) → HasWords sig → FitsHistory sig h → lines_of (history_line sig n h ++ rest) ≡ history_line sig n h ∷ lines_of rest
  pub begin : (n : ℕ) (d : DesignForm) (rest : List ℕ) → lines_of (begin_line n d ++ rest) ≡ begin_line n d ∷ lines_of rest
  pub said : (said : SaidForm) (rest : List ℕ) → IsNarrowSaid said → lines_of (said_line said ++ rest) ≡ said_line said ∷ lines_of rest
  pub none : (n : ℕ) (rest : List ℕ) → lines_of (none_line n ++ rest) ≡ none_line n ∷ lines_of rest
  pub undecided : (n : ℕ) (rest : List ℕ) → lines_of (undecided_line n ++ rest) ≡ undecided_line n ∷ lines_of rest
  pub stopped : (n m : ℕ) (rest : List ℕ) → lines_of (stopped_line n m ++ rest) ≡ stopped_line n m ∷ lines_of rest
