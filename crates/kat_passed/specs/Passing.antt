-- What plain bytes say: words, and files by name.
use Rattle.std.specs.Prelude.{◌≡◌, ℕ, ◌==◌, List, [], ◌∷◌, All, IsUtf8, Option, None, Some, String, Vec, drop, find, map, string_bytes, take}
use Rattle.std.specs.List.{slice_split}
use Rattle.std.specs.Option.{option_map}
use Rattle.std.specs.Str.{bytes_eq}
use Rattle.std.specs.Global.{Global}

-- the pieces between zero bytes
abbrev pub pieces : List ℕ → List (List ℕ)
pieces bytes = slice_split (λ byte. byte == 0) bytes

-- the words after the first, which names the program
abbrev pub words_said : List ℕ → List (List ℕ)
words_said bytes = drop 1 (pieces bytes)

-- Each name with as many bytes as its length says, or as are left, as far as there are names and lengths. The bytes of a file come after
-- those of the file before it.
abbrev pub files_said : List (List ℕ) → List ℕ → List ℕ → List (List ℕ × List ℕ)
files_said (name ∷ names) (count ∷ counts) bytes = (name, take count bytes) ∷ files_said names counts (drop count bytes)
files_said (name ∷ names) [] bytes = []
files_said [] counts bytes = []

-- these texts are the pieces; if there are none, a piece isn't text
abbrev pub AreTexts : List (List ℕ) → Option (Vec (String Global) Global) → Type 0
AreTexts said (Some texts) = map (λ (text : String Global). string_bytes text) texts.items ≡ said
AreTexts said None = All IsUtf8 said → ⊥

-- a file in memory: its name, and its bytes
abbrev pub named : String Global × Vec ℕ Global → List ℕ × List ℕ
named file = (string_bytes file.0, file.1.items)

-- these files are those that are said; if there are none, a name isn't text
abbrev pub AreFiles : List (List ℕ) → List ℕ → List ℕ → Option (Vec (String Global × Vec ℕ Global) Global) → Type 0
AreFiles names lengths bytes (Some files) = map named files.items ≡ files_said names lengths bytes
AreFiles names lengths bytes None = All IsUtf8 names → ⊥

-- what is reported of a path: the bytes of the first file of that name
abbrev pub told_in : List (String Global × Vec ℕ Global) → List ℕ → Option (List ℕ)
told_in files path = option_map (λ file. file.1.items) (find (λ file. bytes_eq (string_bytes file.0) path) files)
