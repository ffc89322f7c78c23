-- The reading of a design's asks, by the kind that is asked.
use Rattle.std.specs.Prelude.{pos, false, Option, option_map}
use Rattle.kat_linear.specs.Rows.{Form}
use Rattle.kat_form.specs.Facts.{Fact}
use Rattle.kat_form.specs.Facts.Fact.{known}
use Rattle.kat_design.specs.Designs.{AskForm}
use Rattle.kat_design.specs.Designs.AskForm.{leaf as a_leaf, parameter, constant, negation, both, either, less, sum, difference}
use Rattle.kat_symbols.specs.Connectives.{denied, or_of, and_of, fact_lt}
use Rattle.kat_symbols.specs.Readers.{Reader, read_flag, read_name}
use Rattle.kat_symbols.specs.Sides.{Side, given}
use Rattle.kat_symbols.specs.Sums.{numeral, plus, minus}
use Rattle.kat_symbols.specs.Symbols.{number_in, symbol_of, truth_in}
use Rattle.kat_symbols.specs.Terms.{number_kept, truth_kept}
use Rattle.kat_symbols.specs.declared.names.Instance.{Instance}
use Rattle.kat_symbols.specs.declared.names.Name.TheVariants.{Key}
use Rattle.kat_symbols.specs.declared.names.Place.TheVariants.{Leaf}

-- Each part is read once, from left to right. What has another kind than is asked counts as 0 or false.
abbrev pub number_asked : Side → Option Instance → AskForm → Reader → Form × Reader
number_asked side at (a_leaf c l key) r = number_kept side (Leaf c l) (option_map (given at) key) r
number_asked side at (parameter j) r = read_name (Key (given at j)) r
number_asked side at (constant v) r = (number_in (symbol_of v), r)
number_asked side at (negation a) r = (numeral (pos 0), r)
number_asked side at (both a b) r = (numeral (pos 0), r)
number_asked side at (either a b) r = (numeral (pos 0), r)
number_asked side at (less a b) r = (numeral (pos 0), r)
number_asked side at (sum a b) r = let x = number_asked side at a r in let y = number_asked side at b x.1 in (plus x.0 y.0, y.1)
number_asked side at (difference a b) r = let x = number_asked side at a r in let y = number_asked side at b x.1 in (minus x.0 y.0, y.1)

abbrev pub truth_asked : Side → Option Instance → AskForm → Reader → Fact × Reader
truth_asked side at (a_leaf c l key) r = truth_kept side (Leaf c l) (option_map (given at) key) r
truth_asked side at (parameter j) r = read_flag (Key (given at j)) r
truth_asked side at (constant v) r = (truth_in (symbol_of v), r)
truth_asked side at (negation a) r = let x = truth_asked side at a r in (denied x.0, x.1)
truth_asked side at (both a b) r = let x = truth_asked side at a r in let y = truth_asked side at b x.1 in (and_of x.0 y.0, y.1)
truth_asked side at (either a b) r = let x = truth_asked side at a r in let y = truth_asked side at b x.1 in (or_of x.0 y.0, y.1)
truth_asked side at (less a b) r = let x = number_asked side at a r in let y = number_asked side at b x.1 in (fact_lt x.0 y.0, y.1)
truth_asked side at (sum a b) r = (known false, r)
truth_asked side at (difference a b) r = (known false, r)
