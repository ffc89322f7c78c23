-- Facts put together, and comparisons as facts.
use Rattle.std.specs.Prelude.{not, [], ◌∷◌}
use Rattle.kat_linear.specs.Rows.{Form}
use Rattle.kat_form.specs.Facts.{Fact, Facts, listed}
use Rattle.kat_form.specs.Facts.Fact.{known, truth_is, at_most, above, all_of, any_of}
use Rattle.kat_form.specs.Facts.Facts.{none, more}
use Rattle.kat_symbols.specs.Sums.{minus, raised}

abbrev mutual
  -- the negation, with De Morgan's rules
  pub denied : Fact → Fact
  denied (known b) = known (not b)
  denied (truth_is v positive) = truth_is v (not positive)
  denied (at_most form) = above form
  denied (above form) = at_most form
  denied (all_of fs) = any_of (denied_each fs)
  denied (any_of fs) = all_of (denied_each fs)

  pub denied_each : Facts → Facts
  denied_each none = none
  denied_each (more f fs) = more (denied f) (denied_each fs)

abbrev pub or_of : Fact → Fact → Fact
or_of f g = any_of (listed (f ∷ g ∷ []))

abbrev pub and_of : Fact → Fact → Fact
and_of f g = all_of (listed (f ∷ g ∷ []))

-- the first number is less than the second, at most it, equal to it
abbrev pub fact_lt : Form → Form → Fact
fact_lt a b = at_most (raised (minus a b))

abbrev pub fact_le : Form → Form → Fact
fact_le a b = at_most (minus a b)

abbrev pub fact_same : Form → Form → Fact
fact_same a b = and_of (fact_le a b) (fact_le b a)

-- the first truth value is less than the second, or equal to it: false is below true
abbrev pub truth_lt : Fact → Fact → Fact
truth_lt f g = and_of (denied f) g

abbrev pub truth_same : Fact → Fact → Fact
truth_same f g = and_of (or_of (denied f) g) (or_of f (denied g))

-- if the first, then the second, else the third
abbrev pub truth_if : Fact → Fact → Fact → Fact
truth_if c f g = and_of (or_of (denied c) f) (or_of c g)
