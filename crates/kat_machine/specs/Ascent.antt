-- Used inside only.
-- Used by kat_decoding and inside only: a component is left that has no effect, or whose tokens don't come after those of the
-- one before it.
use Rattle.std.specs.Prelude.{Bool, true, false, not, ◌&&◌, ◌||◌, List, [], ◌∷◌, ◌++◌, Option, None, Some, if◌then◌else◌}
use Rattle.kat_walk.specs.Pruning.{Pruner}
use Rattle.kat_walk.specs.Ties.{tie_keeps, tie_next}
use Rattle.kat_rules.specs.Tests.{is_before}
use Rattle.kat_machine.specs.declared.ascent.LatestComponent.{LatestComponent}
use Rattle.kat_rules.specs.declared.tokens.Token.{Token}
use Rattle.kat_rules.specs.declared.tokens.Token.TheVariants as token

-- the tokens at which a component begins, and the others that a component has
abbrev pub begins : Token → Bool
begins token.Cell = true
begins token.Table = true
begins token.Set = true
begins token.Tally = true
begins token.Tallies = true
begins _ = false

abbrev pub is_inside : Token → Bool
is_inside (token.Keys s) = true
is_inside token.Max = true
is_inside token.Name = true
is_inside token.Or = true
is_inside token.Lex = true
is_inside token.Pair = true
is_inside (token.Start place) = true
is_inside token.Nothing = true
is_inside (token.At place) = true
is_inside (token.Effect l) = true
is_inside _ = false

abbrev pub at_least : Token → Token → Bool
at_least t u = not (is_before t u)

-- the tokens that say what an operation gives
abbrev pub is_given : Token → Bool
is_given (token.At place) = true
is_given (token.Effect l) = true
is_given _ = false

abbrev pub has_given : List Token → Bool
has_given [] = false
has_given (t ∷ w) = is_given t || has_given w

-- some operation has an effect on the component that was read, if one was; the first token is its kind
abbrev pub is_whole : List Token → Bool
is_whole [] = true
is_whole (t ∷ w) = has_given w

abbrev pub is_free : Option (List Token) → Bool
is_free None = true
is_free (Some tie) = false

-- a component that ends has an effect, and is greater than the one before it
abbrev pub may_end : LatestComponent → Bool
may_end latest = is_whole latest.read && is_free latest.tie

-- a component that begins is compared with the one that was read, token by token
abbrev pub may_begin : LatestComponent → Token → Bool
may_begin latest t = if begins t then tie_keeps at_least (Some latest.read) t else true

-- the token may follow: what it begins or goes on with may still ascend, and what ends before it did
abbrev pub may_ascend : LatestComponent → Token → Bool
may_ascend latest t = if is_inside t then tie_keeps at_least latest.tie t else may_end latest && may_begin latest t

-- no component was read yet; one begins; it goes on; and which was read last, after any token
abbrev pub no_component : LatestComponent
no_component = record { read = []; tie = None }

abbrev pub component_begun : LatestComponent → Token → LatestComponent
component_begun latest t = record { read = t ∷ []; tie = tie_next at_least (Some latest.read) t }

abbrev pub component_continued : LatestComponent → Token → LatestComponent
component_continued latest t = record { read = latest.read ++ t ∷ []; tie = tie_next at_least latest.tie t }

abbrev pub latest_behind : LatestComponent → Token → LatestComponent
latest_behind latest t = if begins t then component_begun latest t else (if is_inside t then component_continued latest t else no_component)

abbrev pub by_ascent : {S : Type 0} → Pruner S LatestComponent Token
by_ascent = record { keeps = λ s latest t. may_ascend latest t; notes = λ s latest t. latest_behind latest t }
