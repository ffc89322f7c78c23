-- What `migrate` writes is a file that may be read, and that `check` accepts.
use Rattle.std.proofs.Common.{◌≡◌, ℕ, suc, ◌≤◌, ◌⊎◌, inr, ℤ, List, [], ◌∷◌, ◌++◌, length, Some, refl, sym, subst}
use Rattle.kat_check.specs.Migration.{hinted_lists, migrated_file}
use Rattle.kat_check.specs.Acceptance.{encoding_at}
use Rattle.kat_check.proofs.Migrating.{migrated_accepted}
use Rattle.kat_design.specs.Sorted.{EachHas}
use Rattle.kat_refute.specs.HintedLines.{hinted_line, hinted_lines}
use Rattle.kat_refute.specs.Lines.{Line, literals_of, rup, linear, hinted}
use Rattle.kat_type.specs.Types.{TypeForm}
use Rattle.kat_wire.specs.FileForms.{FileForm, IsFileLine}
use Rattle.kat_wire.specs.Files.{IsFile, IsFileText}
use Rattle.kat_wire.proofs.AcceptedFiles.{file_accepted}
use Rattle.kat_wire.proofs.PlainFiles.{printed_read}
use Rattle.kat_words.specs.declared.words.Command.TheVariants as command
use Rattle.kat_cli.specs.CheckCommand.{output}
use Rattle.kat_cli.specs.MigrateCommand.{HasSmallHints, HaveSmallHints}
use Rattle.kat_cli.specs.Outcome.{EndsSo, IsRead, Verdict}
use Rattle.kat_cli.specs.declared.reading.TheConstants.{FILE_LIMIT}
use Rattle.kat_cli.specs.declared.status.Status.{Status}
use Rattle.kat_cli.specs.declared.status.Status.TheVariants.{Done, Memory}
use Rattle.kat_cli.proofs.Found.{checked_so}

-- each line with its hints is one that a file of version 2 may have
line_kept : (version : ℕ) (clauses : List (List ℤ)) (line : Line) → IsFileLine version line → HasSmallHints (hinted_line clauses line) → IsFileLine 2 (hinted_line clauses line)
line_kept version clauses (rup literals) h small = (refl, h.1, small)
line_kept version clauses (linear literals multipliers) h small = h
line_kept version clauses (hinted literals hints) h small = (refl, h.1, small)

lines_kept : (version : ℕ) (clauses : List (List ℤ)) (lines : List Line) → EachHas (IsFileLine version) lines → EachHas HasSmallHints (hinted_lines clauses lines)
    → EachHas (IsFileLine 2) (hinted_lines clauses lines)
lines_kept version clauses [] h small = tt
lines_kept version clauses (line ∷ lines) h small = (line_kept version clauses line h.0 small.0, lines_kept version (clauses ++ literals_of line ∷ []) lines h.1 small.1)

lists_kept : (ty : TypeForm) (f : FileForm) (version k : ℕ) (lists : List (List Line)) → EachHas (EachHas (IsFileLine version)) lists → HaveSmallHints (hinted_lists ty f k lists)
    → EachHas (EachHas (IsFileLine 2)) (hinted_lists ty f k lists)
lists_kept ty f version k [] h small = tt
lists_kept ty f version k (lines ∷ lists) h small =
    (lines_kept version (encoding_at ty f k).clauses lines h.0 small.0, lists_kept ty f version (suc k) lists h.1 small.1)

file_kept : (ty : TypeForm) (f : FileForm) → IsFile f → HaveSmallHints (migrated_file ty f).proof → IsFile (migrated_file ty f)
file_kept ty f is small = record {
  version = inr refl;
  signature = is.signature;
  accepted = is.accepted;
  indices = is.indices;
  lines = lists_kept ty f f.version 1 f.proof is.lines small;
}

-- so its text is read again
again : (first second text : List ℕ) (e : EndsSo command.Migrate (first ∷ second ∷ []) Done text) → HaveSmallHints (migrated_file e.inputs.ty e.inputs.file).proof
    → IsFileText text (migrated_file e.inputs.ty e.inputs.file)
again first second text e small =
    subst (λ (bytes : List ℕ). IsFileText bytes (migrated_file e.inputs.ty e.inputs.file)) (sym e.ends.migrated)
    (printed_read (migrated_file e.inputs.ty e.inputs.file) [] (file_kept e.inputs.ty e.inputs.file (file_accepted second e.inputs.file e.accepted.is_file) small) tt)

pub migrated_again : (first second text : List ℕ) (e : EndsSo command.Migrate (first ∷ second ∷ []) Done text) → HaveSmallHints (migrated_file e.inputs.ty e.inputs.file).proof
    → IsRead (Some text) text × EndsSo command.Check (first ∷ text ∷ []) Done output
migrated_again first second text e small = (
  record { tells = refl; short = subst (λ (bytes : List ℕ). length bytes ≤ FILE_LIMIT) (sym e.ends.migrated) e.ends.short },
  record {
    inputs = record { ty = e.inputs.ty; file = migrated_file e.inputs.ty e.inputs.file };
    accepted = record { says = e.accepted.says; is_file = again first second text e small; agree = e.accepted.agree };
    ends = (migrated_accepted e.inputs.ty e.inputs.file e.ends.accepted, refl, refl);
  },
)

-- so `check` ends well, unless memory runs out, if the type file is read
pub migrated_checked : (first second text : List ℕ) (status : Status) (e : EndsSo command.Migrate (first ∷ second ∷ []) Done text) → IsRead (Some first) first
    → HaveSmallHints (migrated_file e.inputs.ty e.inputs.file).proof → Verdict command.Check (first ∷ text ∷ []) status → (status ≡ Done) ⊎ (status ≡ Memory)
migrated_checked first second text status e read small v =
    let written = migrated_again first second text e small in
    checked_so first text status (first ∷ text ∷ [], (read, (written.0, tt)), written.1) v
