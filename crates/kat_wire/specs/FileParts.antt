-- What the parts of a file say. What doesn't have the form says anything.
use Rattle.std.specs.Prelude.{ℕ, List, Option, Some, None, []}
use Rattle.kat_design.specs.Designs.{DesignForm}
use Rattle.serde_json.specs.Data.{Data}
use Rattle.kat_json.specs.Parts.{part_said, index_said, list_said, literal_said, multiplier_said}
use Rattle.kat_design_json.specs.DesignParts.{signature_said, body_said}
use Rattle.kat_relation.specs.declared.relations.LeafRef.{LeafRef}
use Rattle.kat_json.specs.Lists.{elements_of, tag_of}
use Rattle.kat_relation.specs.declared.relations.Conjunct.{Conjunct}
use Rattle.kat_relation.specs.declared.relations.Conjunct.TheVariants.{Query, Equal, Bounded, AtLeast, Matched, Total}
use Rattle.kat_wire.specs.declared.tags.ConjunctTag.{ConjunctTag}
use Rattle.kat_wire.specs.Words.{conjunct_words, line_words}
use Rattle.kat_json.specs.Words.{spelled}
use Rattle.kat_refute.specs.Lines.{hinted, Line, rup, linear}
use Rattle.kat_wire.specs.declared.tags.LineTag.{LineTag}
use Rattle.kat_wire.specs.FileForms.{FileForm}
use Rattle.kat_wire.specs.declared.tags.ConjunctTag.TheVariants as conjunct
use Rattle.kat_wire.specs.declared.tags.LineTag.TheVariants as line
use Rattle.kat_wire.specs.Versions.{version_said}

-- the design of a file with these parts
abbrev pub design_said : List Data → DesignForm
design_said parts = record {
  sig = part_said signature_said 2 parts;
  components = (part_said body_said 3 parts).0;
  asks = (part_said body_said 3 parts).1;
}

abbrev pub ref_parts_said : List Data → LeafRef
ref_parts_said parts = record { component = part_said index_said 0 parts; leaf = part_said index_said 1 parts }

abbrev pub ref_said : Data → LeafRef
ref_said d = ref_parts_said (elements_of d)

abbrev pub conjunct_parts_said : Option ConjunctTag → List Data → Conjunct
conjunct_parts_said None parts = Query 0
conjunct_parts_said (Some conjunct.Query) parts = Query (part_said index_said 1 parts)
conjunct_parts_said (Some conjunct.Equal) parts = Equal (part_said index_said 1 parts) (part_said ref_said 2 parts)
conjunct_parts_said (Some conjunct.Bounded) parts = Bounded (part_said (list_said ref_said) 1 parts) (part_said index_said 2 parts)
conjunct_parts_said (Some conjunct.AtLeast) parts = AtLeast (part_said ref_said 1 parts) (part_said index_said 2 parts) (part_said index_said 3 parts)
conjunct_parts_said (Some conjunct.Matched) parts =
    Matched (part_said ref_said 1 parts) (part_said index_said 2 parts) (part_said ref_said 3 parts) (part_said index_said 4 parts) (part_said index_said 5 parts)
conjunct_parts_said (Some conjunct.Total) parts = Total (part_said index_said 1 parts)

abbrev pub conjunct_said : Data → Conjunct
conjunct_said d = conjunct_parts_said (spelled conjunct_words (tag_of (elements_of d))) (elements_of d)

abbrev pub relation_said : Data → List Conjunct
relation_said d = list_said conjunct_said d

abbrev pub line_parts_said : Option LineTag → List Data → Line
line_parts_said None parts = rup []
line_parts_said (Some line.Propagated) parts = rup (part_said (list_said literal_said) 1 parts)
line_parts_said (Some line.Hinted) parts = hinted (part_said (list_said literal_said) 1 parts) (part_said (list_said index_said) 2 parts)
line_parts_said (Some line.Linear) parts = linear (part_said (list_said literal_said) 1 parts) (part_said (list_said multiplier_said) 2 parts)

abbrev pub line_said : List (List ℕ × LineTag) → Data → Line
line_said words d = line_parts_said (spelled words (tag_of (elements_of d))) (elements_of d)

abbrev pub lines_said : List (List ℕ × LineTag) → Data → List Line
lines_said words d = list_said (line_said words) d

abbrev pub proof_said : List (List ℕ × LineTag) → Data → List (List Line)
proof_said words d = list_said (lines_said words) d

-- the file with these parts
abbrev pub file_said : List Data → FileForm
file_said parts = record {
  version = version_said parts;
  design = design_said parts;
  relation = part_said relation_said 4 parts;
  proof = part_said (proof_said (line_words (version_said parts))) 5 parts;
}
