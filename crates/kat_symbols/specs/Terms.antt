-- The reading of the type's expressions, by the kind that is asked: a number (or a name), or a truth value.
use Rattle.std.specs.Prelude.{pos, false, Option, Some, None}
use Rattle.kat_expr.specs.Terms.{Term}
use Rattle.kat_expr.specs.Terms.Term.{constant, field, entry, parameter, negation, both, either, less, at_most, same, sum, difference, greater, lesser, choice}
use Rattle.kat_linear.specs.Rows.{Form}
use Rattle.kat_form.specs.Facts.{Fact}
use Rattle.kat_form.specs.Facts.Fact.{known}
use Rattle.kat_symbols.specs.Connectives.{denied, or_of, and_of, fact_lt, fact_le, fact_same}
use Rattle.kat_symbols.specs.Readers.{Reader, choose, read_flag, read_name}
use Rattle.kat_symbols.specs.Sides.{Side, given}
use Rattle.kat_symbols.specs.Sums.{numeral, plus, minus}
use Rattle.kat_symbols.specs.Symbols.{number_in, symbol_of, truth_in}
use Rattle.kat_symbols.specs.declared.names.Instance.{Instance}
use Rattle.kat_symbols.specs.declared.names.Name.TheVariants.{Key}
use Rattle.kat_symbols.specs.declared.names.Place.{Place}
use Rattle.kat_symbols.specs.declared.names.Place.TheVariants.{Field}

-- what a side keeps, as a number and as a truth value
abbrev pub number_kept : Side → Place → Option Instance → Reader → Form × Reader
number_kept side place at r = let x = side.value place at r in (number_in x.0, x.1)

abbrev pub truth_kept : Side → Place → Option Instance → Reader → Fact × Reader
truth_kept side place at r = let x = side.value place at r in (truth_in x.0, x.1)

-- Each part is read once, from left to right. What has another kind than is asked counts as 0 or false.
abbrev mutual
  pub number_read : Side → Option Instance → Term → Reader → Form × Reader
  number_read side at (constant v) r = (number_in (symbol_of v), r)
  number_read side at (field f) r = number_kept side (Field f) None r
  number_read side at (entry f j) r = number_kept side (Field f) (Some (given at j)) r
  number_read side at (parameter j) r = read_name (Key (given at j)) r
  number_read side at (negation a) r = (numeral (pos 0), r)
  number_read side at (both a b) r = (numeral (pos 0), r)
  number_read side at (either a b) r = (numeral (pos 0), r)
  number_read side at (less a b) r = (numeral (pos 0), r)
  number_read side at (at_most a b) r = (numeral (pos 0), r)
  number_read side at (same a b) r = (numeral (pos 0), r)
  number_read side at (sum a b) r = let x = number_read side at a r in let y = number_read side at b x.1 in (plus x.0 y.0, y.1)
  number_read side at (difference a b) r = let x = number_read side at a r in let y = number_read side at b x.1 in (minus x.0 y.0, y.1)
  number_read side at (greater a b) r = let x = number_read side at a r in let y = number_read side at b x.1 in choose (fact_lt x.0 y.0) y.0 x.0 y.1
  number_read side at (lesser a b) r = let x = number_read side at a r in let y = number_read side at b x.1 in choose (fact_lt x.0 y.0) x.0 y.0 y.1
  number_read side at (choice c a b) r = let z = truth_read side at c r in let x = number_read side at a z.1 in let y = number_read side at b x.1 in choose z.0 x.0 y.0 y.1

  pub truth_read : Side → Option Instance → Term → Reader → Fact × Reader
  truth_read side at (constant v) r = (truth_in (symbol_of v), r)
  truth_read side at (field f) r = truth_kept side (Field f) None r
  truth_read side at (entry f j) r = truth_kept side (Field f) (Some (given at j)) r
  truth_read side at (parameter j) r = read_flag (Key (given at j)) r
  truth_read side at (negation a) r = let x = truth_read side at a r in (denied x.0, x.1)
  truth_read side at (both a b) r = let x = truth_read side at a r in let y = truth_read side at b x.1 in (and_of x.0 y.0, y.1)
  truth_read side at (either a b) r = let x = truth_read side at a r in let y = truth_read side at b x.1 in (or_of x.0 y.0, y.1)
  truth_read side at (less a b) r = let x = number_read side at a r in let y = number_read side at b x.1 in (fact_lt x.0 y.0, y.1)
  truth_read side at (at_most a b) r = let x = number_read side at a r in let y = number_read side at b x.1 in (fact_le x.0 y.0, y.1)
  truth_read side at (same a b) r = let x = number_read side at a r in let y = number_read side at b x.1 in (fact_same x.0 y.0, y.1)
  truth_read side at (sum a b) r = (known false, r)
  truth_read side at (difference a b) r = (known false, r)
  truth_read side at (greater a b) r = (known false, r)
  truth_read side at (lesser a b) r = (known false, r)
  truth_read side at (choice c a b) r = (known false, r)
