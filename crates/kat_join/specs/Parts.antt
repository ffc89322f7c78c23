-- Used inside only.
-- The join of a lexicographic pair: by its first parts first.
use Rattle.std.specs.Prelude.{Bool, not, ◌&&◌, ◌||◌, if◌then◌else◌}
use Rattle.kat_join.specs.declared.lex.Lex.{Lex}

-- two lexicographic pairs go together if their parts do
abbrev pub lexes_kin : {A B : Type 0} → (A → A → Type 0) → (B → B → Type 0) → Lex A B → Lex A B → Type 0
lexes_kin kin_a kin_b a b = kin_a a.first b.first × kin_b a.second b.second

-- the one with the greater first part; if the first parts are equal, that part with the second parts joined
abbrev pub lexes_joined : {A B : Type 0} → (A → A → Bool) → (B → B → B) → Lex A B → Lex A B → Lex A B
lexes_joined at_most joined_b a b =
    if at_most a.first b.first
    then (if at_most b.first a.first then record { first = a.first; second = joined_b a.second b.second } else b)
    else a

-- lexicographic order: below at the first parts, or equal there and at or below at the second
abbrev pub lexes_at_most : {A B : Type 0} → (A → A → Bool) → (B → B → Bool) → Lex A B → Lex A B → Bool
lexes_at_most at_most_a at_most_b a b =
    at_most_a a.first b.first && (not (at_most_a b.first a.first) || at_most_b a.second b.second)
