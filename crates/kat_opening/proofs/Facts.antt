-- Facts of two readers that are the same: built alike, of forms that are the same and of truth variables that stand for one another.
use Rattle.std.proofs.Common.{◌≡◌, ℕ, ◌<◌, ◌≤◌, ℤ, pos, ◌+ℤ◌, ◌*ℤ◌, Bool, false, not, option_map, List, [], ◌∷◌, refl, ap, ◌∙◌, arith}
use Rattle.kat_linear.specs.Rows.{Form, Term, term_sum}
use Rattle.kat_num.specs.declared.values.Value.{Value}
use Rattle.kat_num.specs.declared.values.Value.TheVariants.{Bool as Truth, Num, Name as Word}
use Rattle.kat_form.specs.Facts.{Fact, Facts, listed}
use Rattle.kat_form.specs.Facts.Fact.{known, truth_is, at_most, above, all_of, any_of}
use Rattle.kat_form.specs.Facts.Facts.{none, more}
use Rattle.kat_form.specs.Readings.{both, either, fact_readings, folded_value, value_of_all, value_of_any}
use Rattle.kat_symbols.specs.Connectives.{denied, denied_each, or_of, and_of, fact_lt, fact_le, fact_same, truth_lt, truth_same, truth_if}
use Rattle.kat_symbols.specs.Readers.{Symbol}
use Rattle.kat_symbols.specs.Readers.Symbol.{number, truth}
use Rattle.kat_symbols.specs.Sums.{minus, raised}
use Rattle.kat_symbols.specs.Symbols.{number_in, truth_in, symbol_of, symbol_lt, symbol_same, symbols_lt}
use Rattle.kat_opening.proofs.Forms.{World, Agrees, Each, SameForm, AlikeForm, alike_same, minus_alike, raised_alike, numeral_alike}

mutual
  pub data SameFact (w : World) : Fact → Fact → Type 0 where
    both_known : (b : Bool) → SameFact w (known b) (known b)
    both_truth : (v k : ℕ) (positive : Bool) → v < w.flags → w.truths v ≡ k → SameFact w (truth_is v positive) (truth_is k positive)
    both_at_most : (f g : Form) → SameForm w f g → SameFact w (at_most f) (at_most g)
    both_above : (f g : Form) → SameForm w f g → SameFact w (above f) (above g)
    both_all : (fs gs : Facts) → SameFacts w fs gs → SameFact w (all_of fs) (all_of gs)
    both_any : (fs gs : Facts) → SameFacts w fs gs → SameFact w (any_of fs) (any_of gs)

  pub data SameFacts (w : World) : Facts → Facts → Type 0 where
    both_none : SameFacts w none none
    both_more : (f g : Fact) (fs gs : Facts) → SameFact w f g → SameFacts w fs gs → SameFacts w (more f fs) (more g gs)

-- facts put together
mutual
  pub denied_same : (w : World) (f g : Fact) → SameFact w f g → SameFact w (denied f) (denied g)
  denied_same w _ _ (both_known b) = both_known (not b)
  denied_same w _ _ (both_truth v k positive below is) = both_truth v k (not positive) below is
  denied_same w _ _ (both_at_most f g h) = both_above f g h
  denied_same w _ _ (both_above f g h) = both_at_most f g h
  denied_same w _ _ (both_all fs gs h) = both_any (denied_each fs) (denied_each gs) (denied_each_same w fs gs h)
  denied_same w _ _ (both_any fs gs h) = both_all (denied_each fs) (denied_each gs) (denied_each_same w fs gs h)

  denied_each_same : (w : World) (fs gs : Facts) → SameFacts w fs gs → SameFacts w (denied_each fs) (denied_each gs)
  denied_each_same w _ _ both_none = both_none
  denied_each_same w _ _ (both_more f g fs gs h rest) = both_more (denied f) (denied g) (denied_each fs) (denied_each gs) (denied_same w f g h) (denied_each_same w fs gs rest)

pub two_same : (w : World) (a b c d : Fact) → SameFact w a b → SameFact w c d → SameFacts w (listed (a ∷ c ∷ [])) (listed (b ∷ d ∷ []))
two_same w a b c d p q = both_more a b _ _ p (both_more c d _ _ q both_none)

pub or_same : (w : World) (a b c d : Fact) → SameFact w a b → SameFact w c d → SameFact w (or_of a c) (or_of b d)
or_same w a b c d p q = both_any _ _ (two_same w a b c d p q)

pub and_same : (w : World) (a b c d : Fact) → SameFact w a b → SameFact w c d → SameFact w (and_of a c) (and_of b d)
and_same w a b c d p q = both_all _ _ (two_same w a b c d p q)

-- comparisons
pub lt_same : (w : World) (a b c d : Form) → AlikeForm w a b → AlikeForm w c d → SameFact w (fact_lt a c) (fact_lt b d)
lt_same w a b c d p q = both_at_most _ _ (alike_same w (raised (minus a c)) (raised (minus b d)) (raised_alike w (minus a c) (minus b d) (minus_alike w a b c d p q)))

pub le_same : (w : World) (a b c d : Form) → AlikeForm w a b → AlikeForm w c d → SameFact w (fact_le a c) (fact_le b d)
le_same w a b c d p q = both_at_most _ _ (alike_same w (minus a c) (minus b d) (minus_alike w a b c d p q))

pub equal_same : (w : World) (a b c d : Form) → AlikeForm w a b → AlikeForm w c d → SameFact w (fact_same a c) (fact_same b d)
equal_same w a b c d p q = and_same w _ _ _ _ (le_same w a b c d p q) (le_same w c d a b q p)

pub truth_lt_same : (w : World) (a b c d : Fact) → SameFact w a b → SameFact w c d → SameFact w (truth_lt a c) (truth_lt b d)
truth_lt_same w a b c d p q = and_same w _ _ _ _ (denied_same w a b p) q

pub truth_equal_same : (w : World) (a b c d : Fact) → SameFact w a b → SameFact w c d → SameFact w (truth_same a c) (truth_same b d)
truth_equal_same w a b c d p q = and_same w _ _ _ _ (or_same w _ _ _ _ (denied_same w a b p) q) (or_same w _ _ _ _ p (denied_same w c d q))

pub truth_if_same : (w : World) (a b c d e f : Fact) → SameFact w a b → SameFact w c d → SameFact w e f → SameFact w (truth_if a c e) (truth_if b d f)
truth_if_same w a b c d e f p q s = and_same w _ _ _ _ (or_same w _ _ _ _ (denied_same w a b p) q) (or_same w _ _ _ _ p s)

-- they fold alike
mutual
  pub folded_alike : (w : World) (f g : Fact) → SameFact w f g → folded_value f ≡ folded_value g
  folded_alike w _ _ (both_known b) = refl
  folded_alike w _ _ (both_truth v k positive below is) = refl
  folded_alike w _ _ (both_at_most f g h) = h.constant
  folded_alike w _ _ (both_above f g h) = ap (option_map not) h.constant
  folded_alike w _ _ (both_all fs gs h) = all_alike w fs gs h
  folded_alike w _ _ (both_any fs gs h) = any_alike w fs gs h

  pub all_alike : (w : World) (fs gs : Facts) → SameFacts w fs gs → value_of_all (fact_readings fs) ≡ value_of_all (fact_readings gs)
  all_alike w _ _ both_none = refl
  all_alike w _ _ (both_more f g fs gs h rest) = ap (λ o. both o (value_of_all (fact_readings fs))) (folded_alike w f g h) ∙ ap (λ o. both (folded_value g) o) (all_alike w fs gs rest)

  pub any_alike : (w : World) (fs gs : Facts) → SameFacts w fs gs → value_of_any (fact_readings fs) ≡ value_of_any (fact_readings gs)
  any_alike w _ _ both_none = refl
  any_alike w _ _ (both_more f g fs gs h rest) = ap (λ o. either o (value_of_any (fact_readings fs))) (folded_alike w f g h) ∙ ap (λ o. either (folded_value g) o) (any_alike w fs gs rest)

-- symbolic values of one kind
pub data AlikeSymbol (w : World) : Symbol → Symbol → Type 0 where
  both_numbers : (f g : Form) → AlikeForm w f g → AlikeSymbol w (number f) (number g)
  both_truths : (f g : Fact) → SameFact w f g → AlikeSymbol w (truth f) (truth g)

pub number_in_alike : (w : World) (s t : Symbol) → AlikeSymbol w s t → AlikeForm w (number_in s) (number_in t)
number_in_alike w _ _ (both_numbers f g h) = h
number_in_alike w _ _ (both_truths f g h) = numeral_alike w (pos 0)

pub truth_in_same : (w : World) (s t : Symbol) → AlikeSymbol w s t → SameFact w (truth_in s) (truth_in t)
truth_in_same w _ _ (both_numbers f g h) = both_known false
truth_in_same w _ _ (both_truths f g h) = h

pub symbol_of_alike : (w : World) (v : Value) → AlikeSymbol w (symbol_of v) (symbol_of v)
symbol_of_alike w (Truth b) = both_truths _ _ (both_known b)
symbol_of_alike w (Num z) = both_numbers _ _ (numeral_alike w z)
symbol_of_alike w (Word code) = both_numbers _ _ (numeral_alike w (pos code))

pub symbol_lt_same : (w : World) (a b c d : Symbol) → AlikeSymbol w a b → AlikeSymbol w c d → SameFact w (symbol_lt a c) (symbol_lt b d)
symbol_lt_same w _ _ _ _ (both_numbers a b p) (both_numbers c d q) = lt_same w a b c d p q
symbol_lt_same w _ _ _ _ (both_numbers a b p) (both_truths c d q) = both_known false
symbol_lt_same w _ _ _ _ (both_truths a b p) (both_numbers c d q) = both_known false
symbol_lt_same w _ _ _ _ (both_truths a b p) (both_truths c d q) = truth_lt_same w a b c d p q

pub symbol_equal_same : (w : World) (a b c d : Symbol) → AlikeSymbol w a b → AlikeSymbol w c d → SameFact w (symbol_same a c) (symbol_same b d)
symbol_equal_same w _ _ _ _ (both_numbers a b p) (both_numbers c d q) = equal_same w a b c d p q
symbol_equal_same w _ _ _ _ (both_numbers a b p) (both_truths c d q) = both_known false
symbol_equal_same w _ _ _ _ (both_truths a b p) (both_numbers c d q) = both_known false
symbol_equal_same w _ _ _ _ (both_truths a b p) (both_truths c d q) = truth_equal_same w a b c d p q

-- pairs of them
pub data AlikePairs (w : World) : List (Symbol × Symbol) → List (Symbol × Symbol) → Type 0 where
  no_pairs : AlikePairs w [] []
  pair_more : (a b c d : Symbol) (ps qs : List (Symbol × Symbol)) → AlikeSymbol w a b → AlikeSymbol w c d → AlikePairs w ps qs → AlikePairs w ((a, c) ∷ ps) ((b, d) ∷ qs)

pub symbols_lt_same : (w : World) (ps qs : List (Symbol × Symbol)) → AlikePairs w ps qs → SameFact w (symbols_lt ps) (symbols_lt qs)
symbols_lt_same w _ _ no_pairs = both_known false
symbols_lt_same w _ _ (pair_more a b c d ps qs p q rest) =
    or_same w _ _ _ _ (symbol_lt_same w a b c d p q) (and_same w _ _ _ _ (symbol_equal_same w a b c d p q) (symbols_lt_same w ps qs rest))

-- what is the same stays so in worlds that agree
sum_agrees : (w v : World) → Agrees w v → (u : ℕ → ℤ) (ts : List Term) → Each (λ i. i < w.slots) ts → term_sum (λ i. u (v.nums i)) ts ≡ term_sum (λ i. u (w.nums i)) ts
sum_agrees w v h u [] below = refl
sum_agrees w v h u (t ∷ ts) below = rw (h.nums t.0 below.0, sum_agrees w v h u ts below.1) refl

each_below : (m n : ℕ) → m ≤ n → (ts : List Term) → Each (λ i. i < m) ts → Each (λ i. i < n) ts
each_below m n h [] below = tt
each_below m n h (t ∷ ts) below = (omega (arith, h, below.0), each_below m n h ts below.1)

form_agrees : (w v : World) → Agrees w v → (f g : Form) → SameForm w f g → SameForm v f g
form_agrees w v h f g same = record {
  values = λ den u. ap (λ x. x +ℤ f.constant *ℤ pos den) (sum_agrees w v h u f.terms same.below) ∙ same.values den u;
  below = each_below w.slots v.slots h.slots f.terms same.below;
  constant = same.constant;
}

mutual
  pub fact_agrees : (w v : World) → Agrees w v → (f g : Fact) → SameFact w f g → SameFact v f g
  fact_agrees w v h _ _ (both_known b) = both_known b
  fact_agrees w v h _ _ (both_truth i k positive below is) = both_truth i k positive (omega (arith, below, h.flags)) (h.truths i below ∙ is)
  fact_agrees w v h _ _ (both_at_most f g same) = both_at_most f g (form_agrees w v h f g same)
  fact_agrees w v h _ _ (both_above f g same) = both_above f g (form_agrees w v h f g same)
  fact_agrees w v h _ _ (both_all fs gs same) = both_all fs gs (facts_agree w v h fs gs same)
  fact_agrees w v h _ _ (both_any fs gs same) = both_any fs gs (facts_agree w v h fs gs same)

  facts_agree : (w v : World) → Agrees w v → (fs gs : Facts) → SameFacts w fs gs → SameFacts v fs gs
  facts_agree w v h _ _ both_none = both_none
  facts_agree w v h _ _ (both_more f g fs gs same rest) = both_more f g fs gs (fact_agrees w v h f g same) (facts_agree w v h fs gs rest)
