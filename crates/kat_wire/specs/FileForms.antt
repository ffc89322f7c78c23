-- Design files as plain data.
use Rattle.std.specs.Prelude.{◌≡◌, ◌⊎◌, List, map, ℕ, ◌^◌, ◌<◌, ◌≢◌, ℤ, pos, neg_ℤ, ◌≤ℤ◌, ◌<ℤ◌}
use Rattle.kat_design.specs.Designs.{DesignForm, design_form}
use Rattle.kat_refute.specs.Lines.{hinted, Line, lines_of, rup, linear, literals_of}
use Rattle.kat_relation.specs.declared.relations.Conjunct.{Conjunct}
use Rattle.kat_wire.specs.declared.files.DesignFile.{DesignFile}
use Rattle.kat_relation.specs.declared.relations.LeafRef.{LeafRef}
use Rattle.kat_design.specs.Sorted.{EachHas}
use Rattle.kat_relation.specs.declared.relations.Conjunct.TheVariants.{Query, Equal, Bounded, AtLeast, Matched, Total}

-- a version, a design, the conjuncts of a relation, and a list of lines for each condition
pub record FileForm : Type 0 where
  pub version : ℕ
  pub design : DesignForm
  pub relation : List Conjunct
  pub proof : List (List Line)

abbrev pub file_form : DesignFile → FileForm
file_form file = record { version = file.version; design = design_form file.design; relation = file.relation.conjuncts; proof = map lines_of file.proof }

-- the version of a file
abbrev pub IsVersion : ℕ → Type 0
IsVersion version = (version ≡ 1) ⊎ (version ≡ 2)

-- indices of 32 bits
abbrev pub IsIndex : ℕ → Type 0
IsIndex n = n < 2 ^ 32

pub record HasIndices (leaf : LeafRef) : Type 0 where
  pub component : IsIndex leaf.component
  pub leaf_there : IsIndex leaf.leaf

abbrev pub HasOnlyIndices : Conjunct → Type 0
HasOnlyIndices (Query n) = IsIndex n
HasOnlyIndices (Equal field leaf) = IsIndex field × HasIndices leaf
HasOnlyIndices (Bounded leaves position) = EachHas HasIndices leaves × IsIndex position
HasOnlyIndices (AtLeast leaf position digit) = HasIndices leaf × IsIndex position × IsIndex digit
HasOnlyIndices (Matched first position second later digit) = HasIndices first × IsIndex position × HasIndices second × IsIndex later × IsIndex digit
HasOnlyIndices (Total n) = IsIndex n

-- literals of 32 bits other than 0, and multipliers of 64 bits
pub record IsFileLiteral (z : ℤ) : Type 0 where
  pub nonzero : z ≢ pos 0
  pub least : neg_ℤ (pos (2 ^ 31)) ≤ℤ z
  pub most : z <ℤ pos (2 ^ 31)

pub record IsFileMultiplier (z : ℤ) : Type 0 where
  pub least : neg_ℤ (pos (2 ^ 63)) ≤ℤ z
  pub most : z <ℤ pos (2 ^ 63)

-- a line by propagation is without hints in a file of version 1, and with hints in one of version 2
abbrev pub IsOfVersion : ℕ → Line → Type 0
IsOfVersion version (rup literals) = version ≡ 1
IsOfVersion version (linear literals multipliers) = Unit {0}
IsOfVersion version (hinted literals hints) = version ≡ 2

abbrev pub AreOfVersion : ℕ → List (List Line) → Type 0
AreOfVersion version proof = EachHas (EachHas (IsOfVersion version)) proof

-- a line of a file of a version: hints are numbers of 32 bits
abbrev pub IsFileLine : ℕ → Line → Type 0
IsFileLine version (rup literals) = (version ≡ 1) × EachHas IsFileLiteral literals
IsFileLine version (linear literals multipliers) = EachHas IsFileLiteral literals × EachHas IsFileMultiplier multipliers
IsFileLine version (hinted literals hints) = (version ≡ 2) × EachHas IsFileLiteral literals × EachHas IsIndex hints

-- no literal is 0
abbrev pub HasNoZero : Line → Type 0
HasNoZero line = EachHas (λ z. z ≢ pos 0) (literals_of line)

abbrev pub HaveNoZero : List (List Line) → Type 0
HaveNoZero proof = EachHas (EachHas HasNoZero) proof
