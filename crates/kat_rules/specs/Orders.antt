-- The order of tokens.
use Rattle.std.specs.Prelude.{ℕ, suc, ◌<◌, Bool, true, false, List, [], ◌∷◌, Option, None, Some}
use Rattle.kat_num.specs.declared.values.Sort.{Sort}
use Rattle.kat_num.specs.declared.values.Sort.TheVariants as sort
use Rattle.kat_walk.specs.Machines.{IsLess}
use Rattle.kat_design.specs.declared.designs.Leaf.{Leaf}
use Rattle.kat_design.specs.declared.designs.Leaf.TheVariants as given
use Rattle.kat_rules.specs.declared.tokens.Token.{Token}
use Rattle.kat_rules.specs.declared.tokens.Token.TheVariants as token

abbrev pub sort_rank : Sort → ℕ
sort_rank sort.Int = 0
sort_rank sort.Nat = 1
sort_rank sort.Name = 2
sort_rank sort.Bool = 3

-- an effect: its place among the others, and its argument
abbrev pub leaf_place : Leaf → ℕ
leaf_place (given.Arg place) = 1
leaf_place given.Time = 2
leaf_place given.Replica = 3
leaf_place given.Zero = 4
leaf_place given.One = 5
leaf_place (given.Pos place) = 6
leaf_place (given.Neg place) = 7
leaf_place given.False = 8
leaf_place given.True = 9

abbrev pub leaf_argument : Leaf → ℕ
leaf_argument (given.Arg place) = place
leaf_argument (given.Pos place) = place
leaf_argument (given.Neg place) = place
leaf_argument _ = 0

abbrev pub key_rank : Option ℕ → ℕ
key_rank None = 0
key_rank (Some place) = suc place

abbrev pub truth_rank : Bool → ℕ
truth_rank false = 0
truth_rank true = 1

-- the place of a token. The first number tells what this place of a list has: a component or the end, a key sort, a
-- shape, a start, an effect, or an ask. At one place of two lists of a listing it is the same, and the others decide.
abbrev pub rank : Token → List ℕ
rank token.End = 0 ∷ 0 ∷ 0 ∷ 0 ∷ 0 ∷ []
rank token.Cell = 0 ∷ 1 ∷ 0 ∷ 0 ∷ 0 ∷ []
rank token.Table = 0 ∷ 2 ∷ 0 ∷ 0 ∷ 0 ∷ []
rank token.Set = 0 ∷ 3 ∷ 0 ∷ 0 ∷ 0 ∷ []
rank token.Tally = 0 ∷ 4 ∷ 0 ∷ 0 ∷ 0 ∷ []
rank token.Tallies = 0 ∷ 5 ∷ 0 ∷ 0 ∷ 0 ∷ []
rank (token.Keys s) = 1 ∷ sort_rank s ∷ 0 ∷ 0 ∷ 0 ∷ []
rank token.Max = 2 ∷ 0 ∷ 0 ∷ 0 ∷ 0 ∷ []
rank token.Name = 2 ∷ 1 ∷ 0 ∷ 0 ∷ 0 ∷ []
rank token.Or = 2 ∷ 2 ∷ 0 ∷ 0 ∷ 0 ∷ []
rank token.Lex = 2 ∷ 3 ∷ 0 ∷ 0 ∷ 0 ∷ []
rank token.Pair = 2 ∷ 4 ∷ 0 ∷ 0 ∷ 0 ∷ []
rank (token.Start place) = 3 ∷ place ∷ 0 ∷ 0 ∷ 0 ∷ []
rank token.Nothing = 4 ∷ 0 ∷ 0 ∷ 0 ∷ 0 ∷ []
rank (token.At place) = 4 ∷ 1 ∷ place ∷ 0 ∷ 0 ∷ []
rank (token.Effect l) = 4 ∷ leaf_place l ∷ leaf_argument l ∷ 1 ∷ 0 ∷ []
rank (token.Read component place key) = 5 ∷ 0 ∷ component ∷ place ∷ key_rank key ∷ []
rank (token.Arg place) = 5 ∷ 1 ∷ place ∷ 0 ∷ 0 ∷ []
rank (token.NumberConstant place) = 5 ∷ 2 ∷ place ∷ 0 ∷ 0 ∷ []
rank (token.NameConstant place) = 5 ∷ 3 ∷ place ∷ 0 ∷ 0 ∷ []
rank (token.Truth b) = 5 ∷ 4 ∷ truth_rank b ∷ 0 ∷ 0 ∷ []
rank token.Not = 5 ∷ 5 ∷ 0 ∷ 0 ∷ 0 ∷ []
rank token.And = 5 ∷ 6 ∷ 0 ∷ 0 ∷ 0 ∷ []
rank token.Either = 5 ∷ 7 ∷ 0 ∷ 0 ∷ 0 ∷ []
rank token.Less = 5 ∷ 8 ∷ 0 ∷ 0 ∷ 0 ∷ []
rank token.Plus = 5 ∷ 9 ∷ 0 ∷ 0 ∷ 0 ∷ []
rank token.Minus = 5 ∷ 10 ∷ 0 ∷ 0 ∷ 0 ∷ []

-- a token comes before another
abbrev pub before : Token → Token → Type 0
before t u = IsLess (λ (a : ℕ) (b : ℕ). a < b) (rank t) (rank u)

-- a list of tokens comes before another: at the first place where they differ
abbrev pub come_before : List Token → List Token → Type 0
come_before v w = IsLess before v w
