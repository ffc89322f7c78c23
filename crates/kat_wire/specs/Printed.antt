-- The texts of design files: the value that is printed for each part.
use Rattle.std.specs.Prelude.{[], ◌∷◌, List, map, codes, ℕ, ◌++◌}
use Rattle.kat_relation.specs.declared.relations.LeafRef.{LeafRef}
use Rattle.serde_json.specs.Data.{Data, string}
use Rattle.kat_json.specs.Lists.{list}
use Rattle.kat_json.specs.Printed.{natural, integers_data}
use Rattle.kat_relation.specs.declared.relations.Conjunct.{Conjunct}
use Rattle.kat_relation.specs.declared.relations.Conjunct.TheVariants.{Query, Equal, Bounded, AtLeast, Matched, Total}
use Rattle.kat_refute.specs.Lines.{hinted, Line, rup, linear}
use Rattle.kat_wire.specs.FileForms.{FileForm}
use Rattle.kat_design_json.specs.PrintedDesigns.{signature_data, design_data}
use Rattle.kat_wire.specs.declared.causes.Cause.{Cause}
use Rattle.serde_json.specs.Written.{compact_text}
use Rattle.kat_wire.specs.declared.causes.Cause.TheVariants as cause

-- relations
abbrev pub ref_data : LeafRef → Data
ref_data leaf = list (natural leaf.component ∷ natural leaf.leaf ∷ [])

abbrev pub refs_data : List LeafRef → Data
refs_data leaves = list (map ref_data leaves)

abbrev pub conjunct_data : Conjunct → Data
conjunct_data (Query n) = list (string (codes "q") ∷ natural n ∷ [])
conjunct_data (Equal field leaf) = list (string (codes "e") ∷ natural field ∷ ref_data leaf ∷ [])
conjunct_data (Bounded leaves position) = list (string (codes "k") ∷ refs_data leaves ∷ natural position ∷ [])
conjunct_data (AtLeast leaf position digit) = list (string (codes "b") ∷ ref_data leaf ∷ natural position ∷ natural digit ∷ [])
conjunct_data (Matched first position second later digit) =
    list (string (codes "c") ∷ ref_data first ∷ natural position ∷ ref_data second ∷ natural later ∷ natural digit ∷ [])
conjunct_data (Total n) = list (string (codes "t") ∷ natural n ∷ [])

abbrev pub relation_data : List Conjunct → Data
relation_data relation = list (map conjunct_data relation)

-- proofs
abbrev pub hints_data : List ℕ → Data
hints_data hints = list (map natural hints)

abbrev pub line_data : Line → Data
line_data (rup literals) = list (string (codes "r") ∷ integers_data literals ∷ [])
line_data (linear literals multipliers) = list (string (codes "l") ∷ integers_data literals ∷ integers_data multipliers ∷ [])
line_data (hinted literals hints) = list (string (codes "r") ∷ integers_data literals ∷ hints_data hints ∷ [])

abbrev pub lines_data : List Line → Data
lines_data lines = list (map line_data lines)

abbrev pub proof_data : List (List Line) → Data
proof_data proof = list (map lines_data proof)

-- a file; what comes last isn't judged
abbrev pub file_data : FileForm → Data → Data
file_data f earlier =
    list (string (codes "katara") ∷ natural f.version ∷ signature_data f.design.sig ∷ design_data f.design ∷ relation_data f.relation ∷ proof_data f.proof ∷ earlier ∷ [])

-- the designs that were passed over: their numbers, and why each was
abbrev pub cause_data : Cause → Data
cause_data cause.OpenCert = string (codes "open")
cause_data cause.Spent = string (codes "spent")
cause_data cause.Rows = string (codes "rows")
cause_data cause.Wide = string (codes "wide")
cause_data cause.Long = string (codes "long")

abbrev pub passed_over_data : ℕ × Cause → Data
passed_over_data item = list (natural item.0 ∷ cause_data item.1 ∷ [])

abbrev pub earlier_data : List (ℕ × Cause) → Data
earlier_data earlier = list (map passed_over_data earlier)

-- the compact text of a file, and a newline
abbrev pub file_text : FileForm → List (ℕ × Cause) → List ℕ
file_text f earlier = compact_text (file_data f (earlier_data earlier)) ++ codes "\n"
