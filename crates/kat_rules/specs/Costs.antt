-- Used inside only.
-- What each token counts for the size of a design.
use Rattle.std.specs.Prelude.{ℕ}
use Rattle.kat_rules.specs.declared.tokens.Token.{Token}
use Rattle.kat_rules.specs.declared.tokens.Token.TheVariants as token

abbrev pub cost : Token → ℕ
cost token.Table = 1
cost token.Set = 1
cost token.Tally = 1
cost token.Tallies = 2
cost token.Max = 1
cost token.Name = 1
cost token.Or = 1
cost token.Lex = 1
cost token.Pair = 1
cost (token.Effect l) = 1
cost (token.Read component leaf key) = 1
cost (token.Arg place) = 1
cost (token.NumberConstant place) = 1
cost (token.NameConstant place) = 1
cost (token.Truth b) = 1
cost token.Not = 1
cost token.And = 1
cost token.Either = 1
cost token.Less = 1
cost token.Plus = 1
cost token.Minus = 1
cost _ = 0
