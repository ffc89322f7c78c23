-- The places of a design file that don't have its form, in the order of the text.
use Rattle.std.specs.Prelude.{ℕ, List, ◌++◌, true, Option, Some, None, ◌==◌, length, if◌then◌else◌}
use Rattle.kat_design.specs.Faults.{Path, here_if, within}
use Rattle.serde_json.specs.Data.{Data}
use Rattle.kat_json.specs.FormFaults.{part_faults, past_faults, index_faults, in_list, list_of_faults, literal_faults, multiplier_faults, any_value_faults}
use Rattle.kat_wire.specs.declared.tags.ConjunctTag.{ConjunctTag}
use Rattle.kat_json.specs.Lists.{tag_of}
use Rattle.kat_wire.specs.Words.{conjunct_words, line_words}
use Rattle.kat_json.specs.Words.{spelled}
use Rattle.kat_wire.specs.declared.tags.LineTag.{LineTag}
use Rattle.kat_design_json.specs.DesignFaults.{signature_faults, design_faults}
use Rattle.kat_wire.specs.declared.tags.ConjunctTag.TheVariants as conjunct
use Rattle.kat_wire.specs.declared.tags.LineTag.TheVariants as line
use Rattle.kat_wire.specs.Versions.{version_said}

abbrev pub ref_parts_faults : List Data → List Path
ref_parts_faults parts = part_faults index_faults 0 parts ++ part_faults index_faults 1 parts ++ past_faults 2 parts

abbrev pub ref_faults : Data → List Path
ref_faults d = in_list ref_parts_faults d

abbrev pub conjunct_parts_faults : Option ConjunctTag → List Data → List Path
conjunct_parts_faults None parts = within 0 (here_if true)
conjunct_parts_faults (Some conjunct.Query) parts = part_faults index_faults 1 parts ++ past_faults 2 parts
conjunct_parts_faults (Some conjunct.Equal) parts = part_faults index_faults 1 parts ++ part_faults ref_faults 2 parts ++ past_faults 3 parts
conjunct_parts_faults (Some conjunct.Bounded) parts = part_faults (list_of_faults ref_faults) 1 parts ++ part_faults index_faults 2 parts ++ past_faults 3 parts
conjunct_parts_faults (Some conjunct.AtLeast) parts =
    part_faults ref_faults 1 parts ++ part_faults index_faults 2 parts ++ part_faults index_faults 3 parts ++ past_faults 4 parts
conjunct_parts_faults (Some conjunct.Matched) parts =
    part_faults ref_faults 1 parts ++ part_faults index_faults 2 parts ++ part_faults ref_faults 3 parts ++ part_faults index_faults 4 parts
    ++ part_faults index_faults 5 parts ++ past_faults 6 parts
conjunct_parts_faults (Some conjunct.Total) parts = part_faults index_faults 1 parts ++ past_faults 2 parts

abbrev pub conjunct_faults : Data → List Path
conjunct_faults d = in_list (λ parts. conjunct_parts_faults (spelled conjunct_words (tag_of parts)) parts) d

abbrev pub relation_faults : Data → List Path
relation_faults d = list_of_faults conjunct_faults d

abbrev pub line_parts_faults : Option LineTag → List Data → List Path
line_parts_faults None parts = within 0 (here_if true)
line_parts_faults (Some line.Propagated) parts = if length parts == 2 then part_faults (list_of_faults literal_faults) 1 parts else here_if true
line_parts_faults (Some line.Hinted) parts =
    if length parts == 3 then part_faults (list_of_faults literal_faults) 1 parts ++ part_faults (list_of_faults index_faults) 2 parts else here_if true
line_parts_faults (Some line.Linear) parts =
    part_faults (list_of_faults literal_faults) 1 parts ++ part_faults (list_of_faults multiplier_faults) 2 parts ++ past_faults 3 parts

abbrev pub line_faults : List (List ℕ × LineTag) → Data → List Path
line_faults words d = in_list (λ parts. line_parts_faults (spelled words (tag_of parts)) parts) d

abbrev pub lines_faults : List (List ℕ × LineTag) → Data → List Path
lines_faults words d = list_of_faults (line_faults words) d

abbrev pub proof_faults : List (List ℕ × LineTag) → Data → List Path
proof_faults words d = list_of_faults (lines_faults words) d

-- a file after its name and version: a signature, a design, a relation, a proof, and any value
abbrev pub rest_faults : List Data → List Path
rest_faults parts = part_faults relation_faults 4 parts ++ part_faults (proof_faults (line_words (version_said parts))) 5 parts ++ part_faults any_value_faults 6 parts ++ past_faults 7 parts

abbrev pub file_faults : List Data → List Path
file_faults parts = part_faults signature_faults 2 parts ++ part_faults design_faults 3 parts ++ rest_faults parts
