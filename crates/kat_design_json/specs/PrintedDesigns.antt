-- The values that are printed for a signature and a design, and the text of a design.
use Rattle.std.specs.Prelude.{[], ◌∷◌, map, codes, ℕ, List, Some, None}
use Rattle.kat_num.specs.Names.{name_of_code}
use Rattle.kat_type.specs.declared.signatures.OpSig.{OpSig}
use Rattle.serde_json.specs.Data.{Data, string}
use Rattle.kat_json.specs.Lists.{list}
use Rattle.kat_json.specs.Printed.{sorts_data, sort_data, value_data, key_data, leaf_data, leaves_data, keyed_data, effects_data, natural}
use Rattle.kat_type.specs.declared.signatures.QuerySig.{QuerySig}
use Rattle.kat_type.specs.declared.signatures.Signature.{Signature}
use Rattle.kat_shape.specs.Forms.{CellForm, numbers, names, truths, lex, pair}
use Rattle.kat_design.specs.Designs.{ComponentForm, AskForm, DesignForm}
use Rattle.kat_design.specs.Designs.ComponentForm.{a_cell, a_table, a_set, a_tally, tallies}
use Rattle.kat_design.specs.Designs.AskForm.{leaf as a_leaf, parameter, constant, negation, both, either, less, sum, difference}
use Rattle.serde_json.specs.Written.{compact_text}

-- a signature: operations and queries
abbrev pub operation_data : OpSig → Data
operation_data op = list (string (name_of_code op.name) ∷ sorts_data op.sorts ∷ [])

abbrev pub query_data : QuerySig → Data
query_data query = list (string (name_of_code query.name) ∷ sorts_data query.sorts ∷ sort_data query.sort ∷ [])

abbrev pub signature_data : Signature → Data
signature_data sig = list (list (map operation_data sig.ops) ∷ list (map query_data sig.queries) ∷ [])

abbrev pub shape_data : CellForm → Data
shape_data numbers = string (codes "max")
shape_data names = string (codes "name")
shape_data truths = string (codes "or")
shape_data (lex a b) = list (string (codes "lex") ∷ shape_data a ∷ shape_data b ∷ [])
shape_data (pair a b) = list (string (codes "pair") ∷ shape_data a ∷ shape_data b ∷ [])

abbrev pub component_data : ComponentForm → Data
component_data (a_cell shape starts effects) = list (string (codes "cell") ∷ shape_data shape ∷ list (map value_data starts) ∷ effects_data leaves_data effects ∷ [])
component_data (a_table key shape starts effects) =
    list (string (codes "table") ∷ sort_data key ∷ shape_data shape ∷ list (map value_data starts) ∷ effects_data (keyed_data leaves_data) effects ∷ [])
component_data (a_set key effects) = list (string (codes "set") ∷ sort_data key ∷ effects_data key_data effects ∷ [])
component_data (a_tally effects) = list (string (codes "tally") ∷ effects_data leaf_data effects ∷ [])
component_data (tallies key effects) = list (string (codes "tallies") ∷ sort_data key ∷ effects_data (keyed_data leaf_data) effects ∷ [])

-- asks
abbrev pub two_data : List ℕ → Data → Data → Data
two_data word a b = list (string word ∷ a ∷ b ∷ [])

abbrev pub ask_data : AskForm → Data
ask_data (a_leaf component place None) = list (string (codes "leaf") ∷ natural component ∷ natural place ∷ [])
ask_data (a_leaf component place (Some key)) = list (string (codes "leaf") ∷ natural component ∷ natural place ∷ natural key ∷ [])
ask_data (parameter place) = list (string (codes "p") ∷ natural place ∷ [])
ask_data (constant v) = value_data v
ask_data (negation a) = list (string (codes "not") ∷ ask_data a ∷ [])
ask_data (both a b) = two_data (codes "and") (ask_data a) (ask_data b)
ask_data (either a b) = two_data (codes "or") (ask_data a) (ask_data b)
ask_data (less a b) = two_data (codes "<") (ask_data a) (ask_data b)
ask_data (sum a b) = two_data (codes "+") (ask_data a) (ask_data b)
ask_data (difference a b) = two_data (codes "-") (ask_data a) (ask_data b)

-- a design: components and asks
abbrev pub design_data : DesignForm → Data
design_data d = list (list (map component_data d.components) ∷ list (map ask_data d.asks) ∷ [])

-- the compact text of a design
abbrev pub design_text : DesignForm → List ℕ
design_text d = compact_text (design_data d)
