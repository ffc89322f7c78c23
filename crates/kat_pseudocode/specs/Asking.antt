-- How each query is answered, in pseudo-code.
use Rattle.std.specs.Prelude.{ℕ, nat_lt, Bool, true, false, ◌==◌, ◌&&◌, List, [], ◌∷◌, ◌++◌, length, codes, Option, None, Some, slice_get, if◌then◌else◌}
use Rattle.kat_num.specs.Values.{value_text}
use Rattle.kat_design.specs.Designs.{AskForm, ComponentForm}
use Rattle.kat_design.specs.Designs.AskForm.{leaf, parameter, constant, negation, both, either, less, sum, difference}
use Rattle.kat_design.specs.Designs.ComponentForm.{a_cell, a_table, a_set, a_tally, tallies}
use Rattle.kat_pseudocode.specs.Phrases.{say}
use Rattle.kat_pseudocode.specs.declared.asking.Tone.{Tone}
use Rattle.kat_pseudocode.specs.declared.asking.Tone.TheVariants.{Plain, Denied, Turned, Equated}
use Rattle.kat_pseudocode.specs.declared.phrases.Phrase.TheVariants as phrase
use Rattle.kat_pseudocode.specs.Leaves.{distinct, leaf_words}
use Rattle.kat_pseudocode.specs.Texts.{at_key, call_text, own, param_text, text_at}
use Rattle.kat_type.specs.Types.{OperationForm, QueryForm}
use Rattle.kat_type.specs.declared.types.Param.{Param}

-- the name of a leaf after that of its component, if there are several
unfoldable pub leaf_suffix : List ℕ → ℕ → List ℕ
leaf_suffix words place = if nat_lt 1 (length words) then codes "." ++ text_at (distinct words) place else []

-- a leaf of a component of this name, at a key
abbrev pub leaf_at_text : List OperationForm → List ℕ → ComponentForm → ℕ → List ℕ → List ℕ
leaf_at_text ops name (a_cell shape starts effects) place key =
    own name ++ leaf_suffix (leaf_words ops (a_cell shape starts effects)) place
leaf_at_text ops name (a_table sort shape starts effects) place key =
    at_key (own name) key ++ leaf_suffix (leaf_words ops (a_table sort shape starts effects)) place
leaf_at_text ops name (a_set sort effects) place key = key ++ codes " in " ++ own name
leaf_at_text ops name (a_tally effects) place key = codes "sum(" ++ own name ++ codes ")"
leaf_at_text ops name (tallies sort effects) place key = codes "sum(" ++ at_key (own name) key ++ codes ")"

abbrev pub leaf_or_empty : List OperationForm → List ℕ → Option ComponentForm → ℕ → List ℕ → List ℕ
leaf_or_empty ops name None place key = []
leaf_or_empty ops name (Some c) place key = leaf_at_text ops name c place key

-- a leaf of the component with a number
abbrev pub reference : List OperationForm → List ComponentForm → List (List ℕ) → ℕ → ℕ → List ℕ → List ℕ
reference ops components names component place key =
    leaf_or_empty ops (text_at names component) (slice_get components component) place key

-- the parameter that is a key
unfoldable pub key_text : List Param → Option ℕ → List ℕ
key_text params None = []
key_text params (Some key) = param_text params key

-- Parentheses, if a text, which binds as its own level says, is at a place of a higher level. The levels: 1 `or`, 2 `and`, 3 `not`,
-- 4 comparisons, 5 sums, 6 what is one word.
unfoldable pub opened : ℕ → ℕ → List ℕ
opened level binds = if nat_lt binds level then codes "(" else []

unfoldable pub closed : ℕ → ℕ → List ℕ
closed level binds = if nat_lt binds level then codes ")" else []

-- what comes before a text that is denied or not, and after it
unfoldable pub front_text : Bool → ℕ → ℕ → List ℕ
front_text true level binds = opened level 3 ++ codes "not " ++ opened 3 binds
front_text false level binds = opened level binds

unfoldable pub back_text : Bool → ℕ → ℕ → List ℕ
back_text true level binds = closed 3 binds ++ closed level 3
back_text false level binds = closed level binds

-- every tone but the plain one denies
abbrev pub is_denied : Tone → Bool
is_denied Plain = false
is_denied Denied = true
is_denied Turned = true
is_denied Equated = true

-- a comparison of two texts: as it is, denied, denied with its sides exchanged, and as an equation
unfoldable pub sides : Tone → List ℕ → List ℕ → List ℕ
sides Plain a b = a ++ codes " < " ++ b
sides Denied a b = a ++ codes " >= " ++ b
sides Turned a b = b ++ codes " >= " ++ a
sides Equated a b = b ++ codes " == " ++ a

-- a comparison, and one that is denied
abbrev pub is_less : AskForm → Bool
is_less (less a b) = true
is_less a = false

abbrev pub is_denied_less : AskForm → Bool
is_denied_less (negation a) = is_less a
is_denied_less a = false

-- two texts are one
abbrev pub are_same : List ℕ → List ℕ → Bool
are_same [] [] = true
are_same [] (b ∷ v) = false
are_same (a ∷ u) [] = false
are_same (a ∷ u) (b ∷ v) = a == b && are_same u v

-- an `and`: an equation, if that is so, or both of its parts
abbrev pub both_text : Bool → ℕ → Bool → List ℕ → List ℕ → List ℕ → List ℕ
both_text denied level true equated a b = front_text denied level 4 ++ equated ++ back_text denied level 4
both_text denied level false equated a b = front_text denied level 2 ++ a ++ codes " and " ++ b ++ back_text denied level 2

-- An ask in a tone at a place of a level. An equation is written in place of `a >= b and b >= a`.
abbrev pub ask_text : List OperationForm → List ComponentForm → List (List ℕ) → List Param → Tone → ℕ → AskForm → List ℕ
ask_text ops components names params tone level (leaf component place key) =
    front_text (is_denied tone) level 6 ++ reference ops components names component place (key_text params key)
    ++ back_text (is_denied tone) level 6
ask_text ops components names params tone level (parameter place) =
    front_text (is_denied tone) level 6 ++ param_text params place ++ back_text (is_denied tone) level 6
ask_text ops components names params tone level (constant value) =
    front_text (is_denied tone) level 6 ++ value_text value ++ back_text (is_denied tone) level 6
ask_text ops components names params Denied level (negation a) =
    opened level 3 ++ codes "not " ++ ask_text ops components names params Denied 3 a ++ closed level 3
ask_text ops components names params Plain level (negation a) = ask_text ops components names params Denied level a
ask_text ops components names params Turned level (negation a) = ask_text ops components names params Turned level a
ask_text ops components names params Equated level (negation a) = ask_text ops components names params Equated level a
ask_text ops components names params tone level (both a b) =
    both_text (is_denied tone) level
    (is_denied_less a && is_denied_less b
    && are_same (ask_text ops components names params Turned 2 a) (ask_text ops components names params Plain 2 b))
    (ask_text ops components names params Equated 4 a)
    (ask_text ops components names params Plain 2 a) (ask_text ops components names params Plain 2 b)
ask_text ops components names params tone level (either a b) =
    front_text (is_denied tone) level 1 ++ ask_text ops components names params Plain 1 a ++ codes " or "
    ++ ask_text ops components names params Plain 1 b ++ back_text (is_denied tone) level 1
ask_text ops components names params tone level (less a b) =
    opened level 4 ++ sides tone (ask_text ops components names params Plain 5 a) (ask_text ops components names params Plain 5 b)
    ++ closed level 4
ask_text ops components names params tone level (sum a b) =
    front_text (is_denied tone) level 5 ++ ask_text ops components names params Plain 5 a ++ codes " + "
    ++ ask_text ops components names params Plain 6 b ++ back_text (is_denied tone) level 5
ask_text ops components names params tone level (difference a b) =
    front_text (is_denied tone) level 5 ++ ask_text ops components names params Plain 5 a ++ codes " - "
    ++ ask_text ops components names params Plain 6 b ++ back_text (is_denied tone) level 5

-- the answer of a query, if it has an ask
abbrev pub answer_text : List OperationForm → List ComponentForm → List (List ℕ) → List Param → Option AskForm → List ℕ
answer_text ops components names params None = []
answer_text ops components names params (Some a) = ask_text ops components names params Plain 0 a

-- a query with a number
abbrev pub query_text : List OperationForm → List ComponentForm → List (List ℕ) → List AskForm → ℕ → QueryForm → List ℕ
query_text ops components names asks place q =
    codes "    " ++ call_text q.name q.params ++ say phrase.Returns
    ++ answer_text ops components names q.params (slice_get asks place) ++ codes "\n"
