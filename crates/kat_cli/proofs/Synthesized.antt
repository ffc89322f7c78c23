-- How a search ends a command.
use Rattle.std.proofs.Common.{◌≡◌, ℕ, ◌≤◌, inl, true, List, [], ◌∷◌, refl, subst, arith, Option}
use Rattle.std.specs.Prelude.{Vec}
use Rattle.std.specs.Global.{Global}
use Rattle.kat_sample.specs.Carts.{cart}
use Rattle.kat_search.specs.Verdicts as verdicts
use Rattle.kat_telling.specs.Narrow.{AreNarrow}
use Rattle.kat_search.specs.NarrowVerdicts.{IsNarrowVerdict}
use Rattle.kat_search.specs.Verdicts.{HasNone, IsCutOff, IsEmitted, IsLeftOpen, IsVerdict}
use Rattle.kat_search.specs.declared.options.Options.{Options}
use Rattle.kat_search.specs.declared.outcome.Outcome.{Outcome}
use Rattle.kat_search.specs.declared.outcome.Outcome.TheVariants as outcome
use Rattle.kat_type_file.specs.TypeFiles.{IsTypeFile, TellsFileRefusal}
use Rattle.kat_type.specs.Types.{TypeForm}
use Rattle.kat_type.specs.declared.errors.TypeError.{TypeError}
use Rattle.kat_type.specs.declared.errors.TypeError.TheVariants as type_file
use Rattle.kat_words.specs.Words.{IsSynthInRange}
use Rattle.kat_words.specs.declared.options.SampleOptions.{SampleOptions}
use Rattle.kat_words.specs.declared.options.SynthOptions.{SynthOptions}
use Rattle.kat_words.specs.declared.words.Command.TheVariants as command
use Rattle.kat_cli.specs.Ending.{Judges, OutputSeen, Prints}
use Rattle.kat_cli.specs.Outcome.{IsEnd}
use Rattle.kat_cli.specs.Refusals.{type_status}
use Rattle.kat_cli.specs.SampleCommand as sample
use Rattle.kat_cli.specs.SampleCommand.{IsCartFile, output}
use Rattle.kat_cli.specs.SynthCommand.{Ends, bounds}
use Rattle.kat_cli.specs.declared.status.Status.{Status}
use Rattle.kat_cli.specs.declared.status.Status.TheVariants.{Done, NoDesign, Undecided, Stopped}
use Rattle.kat_cli.proofs.Ending.{prints_judged}
use Rattle.kat_cli.proofs.TextLines.{grown-none}

-- a type file that isn't read
pub type_refused : (options : SynthOptions) (text : List ℕ) (seen : OutputSeen) (error : TypeError) → TellsFileRefusal text error → seen.written_after ≡ seen.written
    → Judges (command.Synth options) (text ∷ []) seen (type_status 0 error)
type_refused options text seen (type_file.Refused number at) tells same = (inl (type_file.Refused number at, tells, refl), same)
type_refused options text seen type_file.Memory tells same = inl same

-- the bounds are in their ranges
pub in_range : (options : SynthOptions) → IsSynthInRange options → verdicts.AreInRange (bounds options)
in_range options is = record {
  some_size = is.some_size;
  small_size = is.small_size;
  some_effort = is.some_effort;
  small_effort = is.small_effort;
  some_designs = is.some_designs;
  few_designs = is.few_designs;
}

-- the text of the verdict is written
pub synth_ends : (options : SynthOptions) (text bytes : List ℕ) (ty : TypeForm) (end status : Status) (seen : OutputSeen) → IsTypeFile text ty → IsEnd end
    → Ends options ty end bytes → Prints bytes end seen status → Judges (command.Synth options) (text ∷ []) seen status
synth_ends options text bytes ty end status seen is ends so prints =
    prints_judged (command.Synth options) (text ∷ []) bytes end status seen ends (record { inputs = ty; accepted = is; ends = so }) prints

-- the same of a text that is written, which is the verdict's
pub synth_told : (options : SynthOptions) (text bytes written : List ℕ) (ty : TypeForm) (end status : Status) (seen : OutputSeen) → IsTypeFile text ty → IsEnd end
    → Ends options ty end bytes → written ≡ bytes → Prints written end seen status → Judges (command.Synth options) (text ∷ []) seen status
synth_told options text bytes written ty end status seen is ends so same prints =
    synth_ends options text bytes ty end status seen is ends so (subst (λ (w : List ℕ). Prints w end seen status) same prints)

-- how the command ends with each outcome of the search
pub emitted_ends : (options : SynthOptions) (asked : Options) (ty : TypeForm) (found : Outcome) (number : ℕ) (file : Vec ℕ Global) → asked ≡ bounds options
    → IsVerdict ty asked found → found ≡ outcome.Emitted number file → Ends options ty Done file.items
emitted_ends options asked ty found number file same is e =
    (number, subst (λ (o : Options). IsEmitted ty o number file.items) same (subst (λ (out : Outcome). IsVerdict ty asked out) e is))

pub none_ends : (options : SynthOptions) (asked : Options) (ty : TypeForm) (found : Outcome) (report : Vec ℕ Global) → asked ≡ bounds options
    → IsNarrowVerdict ty asked found → found ≡ outcome.NoDesign report → Ends options ty NoDesign report.items
none_ends options asked ty found report same is e =
    subst (λ (o : Options). (none : HasNone ty o report.items) × AreNarrow none.entries) same (subst (λ (out : Outcome). IsNarrowVerdict ty asked out) e is)

pub open_ends : (options : SynthOptions) (asked : Options) (ty : TypeForm) (found : Outcome) (report : Vec ℕ Global) → asked ≡ bounds options
    → IsNarrowVerdict ty asked found → found ≡ outcome.Undecided report → Ends options ty Undecided report.items
open_ends options asked ty found report same is e =
    subst (λ (o : Options). (left : IsLeftOpen ty o report.items) × AreNarrow left.entries) same (subst (λ (out : Outcome). IsNarrowVerdict ty asked out) e is)

pub cut_ends : (options : SynthOptions) (asked : Options) (ty : TypeForm) (found : Outcome) (report : Vec ℕ Global) → asked ≡ bounds options
    → IsNarrowVerdict ty asked found → found ≡ outcome.Stopped report → Ends options ty Stopped report.items
cut_ends options asked ty found report same is e =
    subst (λ (o : Options). (cut : IsCutOff ty o report.items) × AreNarrow cut.entries) same (subst (λ (out : Outcome). IsNarrowVerdict ty asked out) e is)

-- the summary is written if a design of the cart is proved, and otherwise nothing
pub sample_done : (options : SampleOptions) (file : List ℕ) (status : Status) (seen : OutputSeen) → IsCartFile file → Prints (output options) Done seen status
    → Judges (command.Sample options) [] seen status
sample_done options file status seen is prints =
    prints_judged (command.Sample options) [] (output options) Done status seen tt (record { inputs = tt; accepted = tt; ends = ((file, is), refl) }) prints

-- a search for a design of the cart doesn't end with none
pub sample_none : ((asked : Options) (report : List ℕ) → 4 ≤ asked.size → asked.kinds.tallies ≡ true → HasNone cart asked report → ⊥)
    → (report : List ℕ) → HasNone cart sample.bounds report → ⊥
sample_none some report is = some sample.bounds report (omega arith) refl is

pub sample_open : (options : SampleOptions) (report : List ℕ) (told : Option (List ℕ)) (faults after : ℕ) → IsLeftOpen cart sample.bounds report
    → Judges (command.Sample options) [] (record { written = told; written_after = told; faults = faults; faults_after = after }) Undecided
sample_open options report told faults after is = ([], record { inputs = tt; accepted = tt; ends = ((report, is), refl) }, grown-none told)

pub sample_cut : (options : SampleOptions) (report : List ℕ) (told : Option (List ℕ)) (faults after : ℕ) → IsCutOff cart sample.bounds report
    → Judges (command.Sample options) [] (record { written = told; written_after = told; faults = faults; faults_after = after }) Stopped
sample_cut options report told faults after is = ([], record { inputs = tt; accepted = tt; ends = ((report, is), refl) }, grown-none told)
