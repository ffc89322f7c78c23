-- Design files: the design of a text, and its refusal.
use Rattle.std.specs.Prelude.{◌≡◌, [], ℕ, ◌<◌, ◌^◌, List, Option, Some, None, Bool, codes, bytes_eq, not, option_map, if◌then◌else◌}
use Rattle.std.specs.Option.{option_or}
use Rattle.kat_design.specs.Sorted.{EachHas}
use Rattle.kat_design.specs.Faults.{faults_of, first_of}
use Rattle.kat_wire.specs.FileForms.{FileForm, IsVersion, HasOnlyIndices, IsFileLine}
use Rattle.kat_design_json.specs.Signatures.{IsSignature}
use Rattle.kat_wire.specs.declared.causes.Cause.{Cause}
use Rattle.serde_json.specs.Data.{Data}
use Rattle.kat_wire.specs.Printed.{file_data}
use Rattle.kat_json.specs.Texts.{IsJson}
use Rattle.kat_wire.specs.Versions.{has_version}
use Rattle.kat_wire.specs.Builtins.{builtin_file, builtin_of}
use Rattle.kat_wire.specs.declared.builtin.Builtin.{Builtin}
use Rattle.kat_json.specs.Lists.{tag_of, elements_of}
use Rattle.kat_wire.specs.FileFaults.{file_faults}
use Rattle.kat_wire.specs.FileParts.{design_said}
use Rattle.kat_json.specs.declared.errors.WireError.{WireError}
use Rattle.kat_json.specs.declared.errors.WireError.TheVariants.{Form, Version, BadDesign, Json, Memory}

-- a file that a text can have: a version, a signature, a design in which no rule is broken, numbers in their ranges, and
-- lines of the version
pub record IsFile (f : FileForm) : Type 0 where
  pub version : IsVersion f.version
  pub signature : IsSignature f.design.sig
  pub accepted : faults_of f.design ≡ []
  pub indices : EachHas HasOnlyIndices f.relation
  pub lines : EachHas (EachHas (IsFileLine f.version)) f.proof

-- designs that were passed over have numbers of 64 bits
abbrev pub AreNumbered : List (ℕ × Cause) → Type 0
AreNumbered earlier = EachHas (λ (item : ℕ × Cause). item.0 < 2 ^ 64) earlier

-- the JSON text of a file; what comes last in it isn't judged
pub record IsWrittenFile (bytes : List ℕ) (f : FileForm) : Type 0 where
  pub earlier : Data
  pub json : IsJson bytes (file_data f earlier)
  pub file : IsFile f

-- the file of a text: one that is built in, or that of a JSON text
abbrev pub IsFileOf : Option Builtin → List ℕ → FileForm → Type 0
IsFileOf (Some builtin) bytes f = f ≡ builtin_file builtin
IsFileOf None bytes f = IsWrittenFile bytes f

abbrev pub IsFileText : List ℕ → FileForm → Type 0
IsFileText bytes f = IsFileOf (builtin_of bytes) bytes f

-- a file begins with `"katara"`
abbrev pub is_katara : List Data → Bool
is_katara parts = bytes_eq (tag_of parts) (codes "katara")

-- the refusal of a file with these parts, if there is one: the first of these, in this order
abbrev pub refusal_of : List Data → Option WireError
refusal_of parts =
    if not (is_katara parts) then Some (Form [])
    else if not (has_version parts) then Some Version
    else option_or (option_map Form (first_of (file_faults parts))) (option_map BadDesign (first_of (faults_of (design_said parts))))

-- the text of a value that is refused; what is no list has no parts
pub record IsRefusedAs (bytes : List ℕ) (error : WireError) : Type 0 where
  pub value : Data
  pub json : IsJson bytes value
  pub refused : refusal_of (elements_of value) ≡ Some error

-- the refusal of a text that isn't built in; out of memory says nothing
abbrev pub IsFileRefusal : List ℕ → WireError → Type 0
IsFileRefusal bytes Memory = Unit {0}
IsFileRefusal bytes Json = (builtin_of bytes ≡ None) × ((d : Data) → IsJson bytes d → ⊥)
IsFileRefusal bytes (Form place) = (builtin_of bytes ≡ None) × IsRefusedAs bytes (Form place)
IsFileRefusal bytes Version = (builtin_of bytes ≡ None) × IsRefusedAs bytes Version
IsFileRefusal bytes (BadDesign place) = (builtin_of bytes ≡ None) × IsRefusedAs bytes (BadDesign place)
