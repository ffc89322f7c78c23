-- Lists of a JSON text: the elements at their places.
use Rattle.std.specs.Prelude.{List, [], ◌∷◌, Option, Some, None, ℕ, unwrap_or, slice_get}
use Rattle.serde_json.specs.Data.{Data, Items, no_items, item, null, boolean, number, string, array, object}
use Rattle.serde_json.specs.View.{items_of}

-- the elements of a list
abbrev pub elements : Items → List Data
elements no_items = []
elements (item d ds) = d ∷ elements ds

-- the elements of a value that is a list
abbrev pub list_of : Data → Option (List Data)
list_of null = None
list_of (boolean b) = None
list_of (number n) = None
list_of (string s) = None
list_of (array ds) = Some (elements ds)
list_of (object ms) = None

-- the text of a value that is one
abbrev pub text_of : Data → Option (List ℕ)
text_of null = None
text_of (boolean b) = None
text_of (number n) = None
text_of (string s) = Some s
text_of (array ds) = None
text_of (object ms) = None

-- a list as a value
abbrev pub list : List Data → Data
list ds = array (items_of ds)

-- the element at a place of a list, and `null` if there is none
abbrev pub at_place : List Data → ℕ → Data
at_place ds place = unwrap_or (slice_get ds place) null

-- the elements of a value; what is no list has none
abbrev pub elements_of : Data → List Data
elements_of d = unwrap_or (list_of d) []

-- the text that a list begins with, or the empty one, which is no tag
abbrev pub tag_of : List Data → List ℕ
tag_of ds = unwrap_or (text_of (at_place ds 0)) []
