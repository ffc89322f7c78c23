-- Expressions as plain data, without the places at which a program keeps them.
use Rattle.std.specs.Prelude.{ℕ, ◌+◌}
use Rattle.kat_num.specs.declared.values.Value.{Value}
use Rattle.kat_expr.specs.declared.expressions.Expr.{Expr}
use Rattle.kat_expr.specs.declared.expressions.Expr.TheVariants.{Const, Plain, Keyed, Arg, Not', And', Or', Less', AtMost', Same', Plus', Minus', Max', Min', If'}

-- an expression: a constant, a field, a table at a key parameter, a parameter, or an operation
pub data Term : Type 0 where
  constant : Value → Term
  field : ℕ → Term
  entry : (field key : ℕ) → Term
  parameter : ℕ → Term
  negation : Term → Term
  both : Term → Term → Term
  either : Term → Term → Term
  less : Term → Term → Term
  at_most : Term → Term → Term
  same : Term → Term → Term
  sum : Term → Term → Term
  difference : Term → Term → Term
  greater : Term → Term → Term
  lesser : Term → Term → Term
  choice : Term → Term → Term → Term

-- what an expression of the program says
abbrev pub term_of : Expr → Term
term_of (Const value) = constant value
term_of (Plain place) = field place
term_of (Keyed place key) = entry place key
term_of (Arg place) = parameter place
term_of (Not' _ a) = negation (term_of a)
term_of (And' _ a _ b) = both (term_of a) (term_of b)
term_of (Or' _ a _ b) = either (term_of a) (term_of b)
term_of (Less' _ a _ b) = less (term_of a) (term_of b)
term_of (AtMost' _ a _ b) = at_most (term_of a) (term_of b)
term_of (Same' _ a _ b) = same (term_of a) (term_of b)
term_of (Plus' _ a _ b) = sum (term_of a) (term_of b)
term_of (Minus' _ a _ b) = difference (term_of a) (term_of b)
term_of (Max' _ a _ b) = greater (term_of a) (term_of b)
term_of (Min' _ a _ b) = lesser (term_of a) (term_of b)
term_of (If' _ a _ b _ c) = choice (term_of a) (term_of b) (term_of c)

-- how many nodes the expression has
abbrev pub node_count : Term → ℕ
node_count (constant _) = 1
node_count (field _) = 1
node_count (entry _ _) = 1
node_count (parameter _) = 1
node_count (negation a) = 1 + node_count a
node_count (both a b) = 1 + node_count a + node_count b
node_count (either a b) = 1 + node_count a + node_count b
node_count (less a b) = 1 + node_count a + node_count b
node_count (at_most a b) = 1 + node_count a + node_count b
node_count (same a b) = 1 + node_count a + node_count b
node_count (sum a b) = 1 + node_count a + node_count b
node_count (difference a b) = 1 + node_count a + node_count b
node_count (greater a b) = 1 + node_count a + node_count b
node_count (lesser a b) = 1 + node_count a + node_count b
node_count (choice a b c) = 1 + node_count a + node_count b + node_count c
