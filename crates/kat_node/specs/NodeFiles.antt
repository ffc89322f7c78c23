-- State files: the text of a node, and the refusal of a text.
use Rattle.std.specs.Prelude.{◌≡◌, ℕ, ℤ, pos, Bool, false, not, List, [], codes, bytes_eq, Option, None, Some, option_map, if◌then◌else◌}
use Rattle.std.specs.Option.{option_or}
use Rattle.std.specs.Ordering.{int_eq}
use Rattle.kat_design.specs.Designs.{ComponentForm, DesignForm}
use Rattle.kat_design.specs.Faults.{first_of}
use Rattle.serde_json.specs.Data.{Data}
use Rattle.kat_json.specs.Lists.{at_place, elements_of, tag_of}
use Rattle.kat_json.specs.Texts.{IsJson}
use Rattle.kat_json.specs.Words.{whole_of}
use Rattle.kat_node.specs.Nodes.{IsNode}
use Rattle.kat_node.specs.Possible.{possible_faults}
use Rattle.kat_node.specs.StateData.{node_data}
use Rattle.kat_node.specs.StateForms.{node_faults, node_said}
use Rattle.kat_node.specs.declared.errors.NodeError.{NodeError}
use Rattle.kat_node.specs.declared.errors.NodeError.TheVariants.{Json, Form, Version, BadState, Memory}
use Rattle.kat_node.specs.declared.nodes.Node.{Node}

-- the JSON text of a node of the design
pub record IsNodeText (d : DesignForm) (bytes : List ℕ) (node : Node) : Type 0 where
  pub json : IsJson bytes (node_data node)
  pub possible : IsNode d node

-- a state file begins with `"state"` and 1
abbrev pub is_state : List Data → Bool
is_state parts = bytes_eq (tag_of parts) (codes "state")

abbrev pub is_one : Option ℤ → Bool
is_one None = false
is_one (Some z) = int_eq z (pos 1)

abbrev pub has_version : List Data → Bool
has_version parts = is_one (whole_of (at_place parts 1))

-- the refusal of a file with these parts, if there is one: the first of these, in this order
abbrev pub refusal_of : List ComponentForm → List Data → Option NodeError
refusal_of components parts =
    if not (is_state parts) then Some (Form [])
    else if not (has_version parts) then Some Version
    else option_or (option_map Form (first_of (node_faults components parts))) (option_map BadState (first_of (possible_faults components (node_said components parts))))

-- the text of a value that is refused; what is no list has no parts
pub record IsRefusedAs (d : DesignForm) (bytes : List ℕ) (error : NodeError) : Type 0 where
  pub value : Data
  pub json : IsJson bytes value
  pub refused : refusal_of d.components (elements_of value) ≡ Some error

-- the refusal of a text; out of memory says nothing
abbrev pub IsNodeRefusal : DesignForm → List ℕ → NodeError → Type 0
IsNodeRefusal d bytes Memory = Unit {0}
IsNodeRefusal d bytes Json = (value : Data) → IsJson bytes value → ⊥
IsNodeRefusal d bytes (Form place) = IsRefusedAs d bytes (Form place)
IsNodeRefusal d bytes Version = IsRefusedAs d bytes Version
IsNodeRefusal d bytes (BadState place) = IsRefusedAs d bytes (BadState place)

-- used inside only: the error is this refusal; out of memory says nothing
abbrev pub IsRefusalOf : Option NodeError → NodeError → Type 0
IsRefusalOf refusal Json = ⊥
IsRefusalOf refusal (Form place) = refusal ≡ Some (Form place)
IsRefusalOf refusal Version = refusal ≡ Some Version
IsRefusalOf refusal (BadState place) = refusal ≡ Some (BadState place)
IsRefusalOf refusal Memory = Unit {0}
