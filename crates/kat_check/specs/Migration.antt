-- The file of version 2 that a file becomes.
use Rattle.std.specs.Prelude.{◌≡◌, ℕ, suc, List, [], ◌∷◌}
use Rattle.kat_refute.specs.HintedLines.{hinted_lines}
use Rattle.kat_form.specs.Encodings.{Encoding}
use Rattle.kat_refute.specs.Lines.{AreARefutation, IsVerdict, Line, lines_of}
use Rattle.kat_refute.specs.declared.Verdict.TheVariants as verdict
use Rattle.kat_type.specs.Types.{TypeForm}
use Rattle.kat_wire.specs.FileForms.{AreOfVersion, FileForm, HaveNoZero, file_form}
use Rattle.kat_check.specs.Acceptance.{IsAcceptedFile, IsFirstFault, encoding_at}
use Rattle.kat_check.specs.declared.migration.Hinting.{Hinting}
use Rattle.kat_check.specs.declared.migration.Hinting.TheVariants.{Hinted, Bad}
use Rattle.kat_check.specs.declared.migration.Migrated.{Migrated}
use Rattle.kat_check.specs.declared.migration.Migrated.TheVariants.{Done, Refused}

-- lists of lines with their hints: the first is for the condition of the number, the next for the one after it, and so on
abbrev pub hinted_lists : TypeForm → FileForm → ℕ → List (List Line) → List (List Line)
hinted_lists ty f k [] = []
hinted_lists ty f k (lines ∷ lists) = hinted_lines (encoding_at ty f k).clauses lines ∷ hinted_lists ty f (suc k) lists

-- the same design and relation in version 2, each line by propagation with the hints that are found for it
abbrev pub migrated_file : TypeForm → FileForm → FileForm
migrated_file ty f = record { version = 2; design = f.design; relation = f.relation; proof = hinted_lists ty f 1 f.proof }

-- what is answered of a file
abbrev pub IsMigrated : TypeForm → FileForm → Migrated → Type 0
IsMigrated ty f (Done file) = IsAcceptedFile ty f × (file_form file ≡ migrated_file ty f)
IsMigrated ty f (Refused condition line) = IsFirstFault ty f condition line

-- Used inside only: what is answered of the lines for one condition.
abbrev pub IsHinting : Encoding → List Line → Hinting → Type 0
IsHinting e lines (Hinted others) = AreARefutation e lines × (lines_of others ≡ hinted_lines e.clauses lines)
IsHinting e lines (Bad n) = IsVerdict e lines (verdict.Bad n)

-- an accepted file stays accepted
abbrev pub MigratedFilesAreAccepted : Type 0
MigratedFilesAreAccepted = (ty : TypeForm) (f : FileForm) → IsAcceptedFile ty f → IsAcceptedFile ty (migrated_file ty f)

-- its lines are of version 2, whatever the file's version was
abbrev pub MigratedFilesAreOfVersionTwo : Type 0
MigratedFilesAreOfVersionTwo = (ty : TypeForm) (f : FileForm) → AreOfVersion 2 (migrated_file ty f).proof

-- it has a literal 0 only if the file has one
abbrev pub MigratedFilesKeepLiterals : Type 0
MigratedFilesKeepLiterals = (ty : TypeForm) (f : FileForm) → HaveNoZero f.proof → HaveNoZero (migrated_file ty f).proof
