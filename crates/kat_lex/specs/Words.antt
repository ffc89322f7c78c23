-- The words that type files, scripts and design files fix.
use Rattle.std.specs.Prelude.{ℕ, Bool, ◌==◌, List, [], ◌∷◌, codes}
use Rattle.std.specs.List.{list_any}
use Rattle.kat_num.specs.Names.{code_of}

-- the words that name nothing: those of the grammar of types and scripts
abbrev pub reserved : List (List ℕ)
reserved =
    codes "type" ∷ codes "state" ∷ codes "table" ∷ codes "op" ∷ codes "rank" ∷ codes "query"
    ∷ codes "if" ∷ codes "then" ∷ codes "else" ∷ codes "or" ∷ codes "and" ∷ codes "not"
    ∷ codes "max" ∷ codes "min" ∷ codes "true" ∷ codes "false" ∷ codes "bool" ∷ codes "int"
    ∷ codes "nat" ∷ codes "name" ∷ codes "time" ∷ codes "replica" ∷ codes "at" ∷ []

abbrev pub is_reserved : ℕ → Bool
is_reserved word = list_any (λ text. code_of text == word) reserved
