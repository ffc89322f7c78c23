-- The text of a file that is written.
use Rattle.std.proofs.Common.{◌≡◌, ℕ, false, List, [], ◌∷◌, ◌++◌, ap, ◌∙◌, ◌≢◌, ℤ, pos, subst, sym}
use Rattle.serde_json.specs.Data.{Data}
use Rattle.serde_json.specs.Written.{compact_text, has_float}
use Rattle.kat_wire.specs.FileForms.{FileForm, AreOfVersion, IsOfVersion, IsFileLiteral, HasNoZero, IsFileLine, HaveNoZero}
use Rattle.kat_wire.specs.Printed.{earlier_data, file_data, file_text}
use Rattle.kat_wire.specs.declared.causes.Cause.{Cause}
use Rattle.kat_wire.proofs.PrintedFiles.{file_whole}
use Rattle.kat_design.specs.Sorted.{EachHas}
use Rattle.kat_wire.specs.WrittenParts.{Is32Bits, HasSizedNumbers}
use Rattle.kat_refute.specs.Lines.{hinted, Line, rup, linear}
use Rattle.kat_wire.specs.Files.{AreNumbered, IsFile, IsFileText}
use Rattle.kat_wire.proofs.PlainFiles.{printed_read}

pub written : (value : Data) (f : FileForm) (earlier : List (ℕ × Cause)) (text line : List ℕ) → value ≡ file_data f (earlier_data earlier) → (has_float value ≡ false → text ≡ compact_text value)
    → line ≡ text ++ 10 ∷ [] → line ≡ file_text f earlier
written value f earlier text line is printed pushed =
    pushed ∙ ap (λ (xs : List ℕ). xs ++ 10 ∷ []) (printed (ap has_float is ∙ file_whole f earlier) ∙ ap compact_text is)

-- numbers of 32 bits that aren't 0 are literals
literals_fit : (zs : List ℤ) → EachHas Is32Bits zs → EachHas (λ z. z ≢ pos 0) zs → EachHas IsFileLiteral zs
literals_fit [] sized nonzero = tt
literals_fit (z ∷ zs) sized nonzero = (record { nonzero = nonzero.0; least = sized.0.least; most = sized.0.most }, literals_fit zs sized.1 nonzero.1)

line_fits : (version : ℕ) (line : Line) → HasSizedNumbers line → HasNoZero line → IsOfVersion version line → IsFileLine version line
line_fits version (rup literals) sized nonzero fits = (fits, literals_fit literals sized nonzero)
line_fits version (linear literals multipliers) sized nonzero fits = (literals_fit literals sized.0 nonzero, sized.1)
line_fits version (hinted literals hints) sized nonzero fits = (fits, literals_fit literals sized.0 nonzero, sized.1)

lines_fit : (version : ℕ) (lines : List Line) → EachHas HasSizedNumbers lines → EachHas HasNoZero lines → EachHas (IsOfVersion version) lines → EachHas (IsFileLine version) lines
lines_fit version [] sized nonzero fits = tt
lines_fit version (line ∷ lines) sized nonzero fits = (line_fits version line sized.0 nonzero.0 fits.0, lines_fit version lines sized.1 nonzero.1 fits.1)

pub proof_fits : (version : ℕ) (proof : List (List Line)) → EachHas (EachHas HasSizedNumbers) proof → HaveNoZero proof → AreOfVersion version proof → EachHas (EachHas (IsFileLine version)) proof
proof_fits version [] sized nonzero fits = tt
proof_fits version (lines ∷ proof) sized nonzero fits = (lines_fit version lines sized.0 nonzero.0 fits.0, proof_fits version proof sized.1 nonzero.1 fits.1)

pub written_read : (f : FileForm) (earlier : List (ℕ × Cause)) (line : List ℕ) → IsFile f → AreNumbered earlier → line ≡ file_text f earlier → IsFileText line f
written_read f earlier line is numbered same = subst (λ (bytes : List ℕ). IsFileText bytes f) (sym same) (printed_read f earlier is numbered)
