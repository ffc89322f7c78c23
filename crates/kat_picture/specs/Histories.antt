-- The histories that a report cites, as scripts.
use Rattle.std.specs.Prelude.{ℕ, Bool, ◌==◌, List, [], ◌∷◌, ◌++◌, codes, drop, length, map, take, if◌then◌else◌, Option, None, Some, option_map}
use Rattle.std.specs.List.{slice_split}
use Rattle.std.specs.Str.{bytes_eq}

-- the lines of a text
abbrev pub lines_of : List ℕ → List (List ℕ)
lines_of text = slice_split (λ byte. byte == 10) text

-- the line begins with the head
abbrev pub has_head : List ℕ → List ℕ → Bool
has_head head line = bytes_eq (take (length head) line) head

-- what comes after the head in the first line that begins with it
abbrev pub behind_head : List ℕ → List (List ℕ) → Option (List ℕ)
behind_head head [] = None
behind_head head (line ∷ lines) = if has_head head line then Some (drop (length head) line) else behind_head head lines

-- a `;` ends a line of the script
abbrev pub script_byte : ℕ → ℕ
script_byte byte = if byte == 59 then 10 else byte

-- two replicas, the operations, and after them a packet from each replica to the other
abbrev pub script_of : List ℕ → List ℕ
script_of operations =
    codes "replicas 2\n" ++ map script_byte operations ++ codes "\nship 1 one\nship 2 two\ndeliver one 2\ndeliver two 1\n"

-- how the line of a history begins, by its number as it is written
abbrev pub head_of : List ℕ → List ℕ
head_of number = codes "history " ++ number ++ codes ":"

-- the script of the first history of this number that a report cites
abbrev pub cited : List ℕ → List ℕ → Option (List ℕ)
cited report number = option_map script_of (behind_head (head_of number) (lines_of report))
