-- How words are taken apart into options with their values, and paths.
use Rattle.std.specs.Prelude.{ℕ, Bool, true, false, ◌&&◌, not, ◌==◌, List, [], ◌∷◌, ◌++◌, Option, None, Some, if◌then◌else◌, bytes_eq, is_some, option_and_then}
use Rattle.std.specs.List.{after_first, before_first, list_any}

abbrev pub Text : Type 0
Text = List ℕ

-- a word that begins with `-` is an option, except for `-` alone
abbrev pub is_option : Text → Bool
is_option (first ∷ second ∷ word) = first == 45
is_option word = false

-- what a word is where an option or a path may be
pub data Kind : Type 0 where
  -- `--`, after which each word is a path
  marker : Kind
  -- `--name=value`
  setting : Text → Text → Kind
  -- `--name`, whose value is the next word
  asking : Text → Kind
  -- another word that begins with `-`
  stray : Kind
  path : Kind

-- what follows the `--` that a word begins with
abbrev pub behind_dashes : Text → Option Text
behind_dashes (first ∷ second ∷ name) = if first == 45 && second == 45 then Some name else None
behind_dashes word = None

abbrev pub named_kind : Text → Kind
named_kind [] = marker
named_kind (byte ∷ name) =
    if list_any (λ b. b == 61) (byte ∷ name)
    then setting (before_first (λ b. b == 61) (byte ∷ name)) (after_first (λ b. b == 61) (byte ∷ name))
    else asking (byte ∷ name)

abbrev pub kind_by : Option Text → Bool → Kind
kind_by (Some name) dash = named_kind name
kind_by None true = stray
kind_by None false = path

abbrev pub kind_of : Text → Kind
kind_of word = kind_by (behind_dashes word) (is_option word)

-- options with their values, and paths, each in the order of the words
pub record Parts : Type 0 where
  pub options : List (Text × Text)
  pub paths : List Text

abbrev pub no_parts : Parts
no_parts = record { options = []; paths = [] }

-- the value that an option has
abbrev pub value_of : Text → List (Text × Text) → Option Text
value_of name [] = None
value_of name (option ∷ options) = if bytes_eq option.0 name then Some option.1 else value_of name options

-- the name is one of these
abbrev pub is_known : List Text → Text → Bool
is_known names name = list_any (λ known. bytes_eq known name) names

-- one more option, of these names and not given before
abbrev pub with_option : List Text → Text → Text → Parts → Option Parts
with_option names name value parts =
    if is_known names name && not (is_some (value_of name parts.options))
    then Some (record parts { options = parts.options ++ (name, value) ∷ [] })
    else None

abbrev pub with_path : Text → Parts → Parts
with_path word parts = record parts { paths = parts.paths ++ word ∷ [] }

-- what the next word may be
pub data Turn : Type 0 where
  any : Turn
  value : Text → Turn
  only_path : Turn

-- a word where any may be, with how the words after it are read
abbrev pub taken : List Text → Kind → Text → Parts → (Turn → Parts → Option Parts) → Option Parts
taken names marker word parts next = next only_path parts
taken names (setting name given) word parts next = option_and_then (next any) (with_option names name given parts)
taken names (asking name) word parts next = next (value name) parts
taken names stray word parts next = None
taken names path word parts next = next any (with_path word parts)

-- the words, read after what was read before: an option's value is no option, and comes
unfoldable pub parts_from : List Text → Turn → Parts → List Text → Option Parts
parts_from names any parts [] = Some parts
parts_from names (value name) parts [] = None
parts_from names only_path parts [] = Some parts
parts_from names any parts (word ∷ words) = taken names (kind_of word) word parts (λ turn now. parts_from names turn now words)
parts_from names (value name) parts (word ∷ words) =
    if is_option word then None else option_and_then (λ now. parts_from names any now words) (with_option names name word parts)
parts_from names only_path parts (word ∷ words) = parts_from names only_path (with_path word parts) words

abbrev pub parts_of : List Text → List Text → Option Parts
parts_of names words = parts_from names any no_parts words
