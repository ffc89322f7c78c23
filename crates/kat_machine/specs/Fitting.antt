-- Used inside only.
-- What an ask may begin with, part by part, without the atoms of other kinds.
use Rattle.std.specs.Prelude.{ℕ, suc, true, false, List, [], ◌∷◌, ◌++◌, map, length, Option, None, Some, if◌then◌else◌, slice_get}
use Rattle.std.specs.List.{range_with_len}
use Rattle.kat_num.specs.declared.values.Sort.{Sort}
use Rattle.kat_design.specs.Kinds.{is_wanted, sort_kind}
use Rattle.kat_design.specs.declared.kinds.Kind.{Kind}
use Rattle.kat_design.specs.declared.kinds.Kind.TheVariants as kind
use Rattle.kat_design.specs.declared.kinds.Wanted.{Wanted}
use Rattle.kat_machine.specs.Choices.{key_choices, operators, param_places}
use Rattle.kat_rules.specs.declared.constants.Constants.{Constants}
use Rattle.kat_machine.specs.declared.modes.Row.{Row}
use Rattle.kat_rules.specs.declared.tokens.Token.{Token}
use Rattle.kat_rules.specs.declared.tokens.Token.TheVariants as token

-- tokens of one kind, if it is wanted
abbrev pub if_wanted : Wanted → Kind → List Token → List Token
if_wanted wanted k tokens = if is_wanted wanted k then tokens else []

-- the reads of a leaf, of a component's leaves, and of all components' leaves
abbrev pub read_token : ℕ → ℕ → Option ℕ → Token
read_token component place key = token.Read component place key

abbrev pub leaf_reads : Wanted → List (Option ℕ) → ℕ → ℕ → List Kind → List Token
leaf_reads wanted keys component place [] = []
leaf_reads wanted keys component place (k ∷ kinds) = if_wanted wanted k (map (read_token component place) keys) ++ leaf_reads wanted keys component (suc place) kinds

abbrev pub row_reads : Wanted → List Sort → ℕ → List Row → List Token
row_reads wanted sorts component [] = []
row_reads wanted sorts component (row ∷ rows) = leaf_reads wanted (key_choices sorts row.key) component 0 row.kinds ++ row_reads wanted sorts (suc component) rows

-- the parameters of these places
abbrev pub argument_token : Wanted → ℕ → Option Sort → List Token
argument_token wanted place None = []
argument_token wanted place (Some s) = if_wanted wanted (sort_kind s) (token.Arg place ∷ [])

abbrev pub argument_tokens : Wanted → List Sort → List ℕ → List Token
argument_tokens wanted sorts [] = []
argument_tokens wanted sorts (place ∷ places) = argument_token wanted place (slice_get sorts place) ++ argument_tokens wanted sorts places

-- the constants
abbrev pub number_tokens : ℕ → List Token
number_tokens count = map token.NumberConstant (range_with_len 0 count)

abbrev pub name_tokens : ℕ → List Token
name_tokens count = map token.NameConstant (range_with_len 0 count)

abbrev pub truth_tokens : List Token
truth_tokens = token.Truth false ∷ token.Truth true ∷ []

abbrev pub fitting_tokens : Constants → List Sort → List Row → Wanted → List Token
fitting_tokens cs sorts rows wanted =
    ((((row_reads wanted sorts 0 rows ++ argument_tokens wanted sorts param_places) ++ if_wanted wanted kind.Number (number_tokens (length cs.numbers)))
    ++ if_wanted wanted kind.Name (name_tokens (length cs.names)))
    ++ if_wanted wanted kind.Truth truth_tokens)
    ++ operators wanted
