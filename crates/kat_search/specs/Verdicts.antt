-- What a search answers.
use Rattle.std.specs.Prelude.{◌≡◌, ℕ, ◌+◌, ◌<◌, ◌≤◌, ◌⊎◌, List, ◌++◌, length, map, take, slice_get, Some}
use Rattle.kat_check.specs.Acceptance.{IsAcceptedFile}
use Rattle.kat_design.specs.Designs.{DesignForm}
use Rattle.kat_rules.specs.Listed.{IsListing}
use Rattle.kat_type.specs.Signatures.{signature_of}
use Rattle.kat_type.specs.Types.{TypeForm}
use Rattle.kat_wire.specs.FileForms.{FileForm}
use Rattle.kat_wire.specs.Files.{IsFileText}
use Rattle.kat_wire.specs.Printed.{file_text}
use Rattle.kat_telling.specs.Entries.{AgreesOn, AreTold, Entry, design_of, histories_for, nothing_told, told_by}
use Rattle.kat_telling.specs.Hinted.{IsHintedFile}
use Rattle.kat_telling.specs.Reports.{none_line, stopped_line, told_text, undecided_line}
use Rattle.kat_search.specs.declared.options.Options.{Options}
use Rattle.kat_search.specs.declared.outcome.Outcome.{Outcome}
use Rattle.kat_search.specs.declared.outcome.Outcome.TheVariants as outcome
use Rattle.kat_telling.specs.declared.limits.TheConstants.{TEXT_LIMIT, UNDECIDED_LIMIT}

-- the ranges of what a search is asked
pub record AreInRange (options : Options) : Type 0 where
  pub some_size : 1 ≤ options.size
  pub small_size : options.size ≤ 24
  pub some_effort : 1 ≤ options.effort
  pub small_effort : options.effort ≤ 10_000
  pub some_designs : 1 ≤ options.designs
  pub few_designs : options.designs ≤ 1_000_000

-- how many of the designs are neither refuted nor proved
abbrev pub undecided_among : List Entry → ℕ
undecided_among entries = length (told_by nothing_told entries).passed

-- The first designs of a listing were tried, and what is reported of them is so. They are at most as many as were asked, and no
-- design was tried after the 100th that is undecided.
pub record AreTried (ty : TypeForm) (options : Options) (designs : List DesignForm) (entries : List Entry) : Type 0 where
  pub first : take (length entries) designs ≡ map design_of entries
  pub told : AreTold ty options.effort nothing_told entries
  pub asked : length entries ≤ options.designs
  pub few : (n : ℕ) → n < length entries → undecided_among (take n entries) < UNDECIDED_LIMIT

-- The design with the number is the first that is proved: the bytes are the text of an accepted file of version 2 with it, whose
-- lines have exactly the hints that are found for them. It is read again as that file, and the earlier designs that aren't refuted
-- come last in it, each with the cause that the evidence shows.
pub record IsEmitted (ty : TypeForm) (options : Options) (number : ℕ) (bytes : List ℕ) : Type 0 where
  pub designs : List DesignForm
  pub listing : IsListing ty options.size options.kinds designs
  pub earlier : List Entry
  pub tried : AreTried ty options designs earlier
  pub behind : number ≡ length earlier + 1
  pub asked : number ≤ options.designs
  pub few : undecided_among earlier < UNDECIDED_LIMIT
  pub file : FileForm
  pub version : file.version ≡ 2
  pub listed : slice_get designs (length earlier) ≡ Some file.design
  pub agrees : AgreesOn ty file.design (histories_for ty)
  pub accepted : IsAcceptedFile ty file
  pub hints : IsHintedFile ty file
  pub text : bytes ≡ file_text file (told_by nothing_told earlier).passed
  pub read_again : IsFileText bytes file
  pub short : length bytes ≤ TEXT_LIMIT

-- The listing has at most as many designs as were asked, and each is refuted: the bytes are the report.
pub record HasNone (ty : TypeForm) (options : Options) (bytes : List ℕ) : Type 0 where
  pub designs : List DesignForm
  pub listing : IsListing ty options.size options.kinds designs
  pub entries : List Entry
  pub tried : AreTried ty options designs entries
  pub all : length entries ≡ length designs
  pub none_open : undecided_among entries ≡ 0
  pub text : bytes ≡ told_text (signature_of ty) entries ++ none_line options.size

-- The listing has at most as many designs as were asked, and none is proved: some aren't refuted, and no design comes after the
-- 100th of these. The bytes are the report, with the evidence of each.
pub record IsLeftOpen (ty : TypeForm) (options : Options) (bytes : List ℕ) : Type 0 where
  pub designs : List DesignForm
  pub listing : IsListing ty options.size options.kinds designs
  pub entries : List Entry
  pub tried : AreTried ty options designs entries
  pub all : length entries ≡ length designs
  pub some_open : 1 ≤ undecided_among entries
  pub text : bytes ≡ told_text (signature_of ty) entries ++ undecided_line options.size

-- The designs that were tried, up to the number that was asked or to the 100th that isn't refuted, aren't proved, and the listing
-- has more. The bytes are the report of those that were tried.
pub record IsCutOff (ty : TypeForm) (options : Options) (bytes : List ℕ) : Type 0 where
  pub designs : List DesignForm
  pub listing : IsListing ty options.size options.kinds designs
  pub entries : List Entry
  pub tried : AreTried ty options designs entries
  pub more : length entries < length designs
  pub over : (length entries ≡ options.designs) ⊎ (undecided_among entries ≡ UNDECIDED_LIMIT)
  pub text : bytes ≡ told_text (signature_of ty) entries ++ stopped_line (length entries) options.size

-- what is answered of a type
abbrev pub IsVerdict : TypeForm → Options → Outcome → Type 0
IsVerdict ty options (outcome.Emitted number file) = IsEmitted ty options number file.items
IsVerdict ty options (outcome.NoDesign report) = HasNone ty options report.items
IsVerdict ty options (outcome.Undecided report) = IsLeftOpen ty options report.items
IsVerdict ty options (outcome.Stopped report) = IsCutOff ty options report.items
