-- What facts say.
use Rattle.std.proofs.Common.{◌≡◌, ℕ, ℤ, pos, ◌+ℤ◌, ◌-ℤ◌, int_lt, int_le, Bool, true, false, not, ◌&&◌, ◌||◌, Option, Some, None, option_map, List, [], ◌∷◌, map, refl, ap, ◌∙◌}
use Rattle.kat_symbols.specs.Connectives.{denied, denied_each, fact_lt, fact_le, fact_same}
use Rattle.kat_symbols.specs.Sums.{minus, raised}
use Rattle.kat_invariant.proofs.Sums.{minus_value, numeral_value, raised_value, lt_shift, le_shift}
use Rattle.kat_linear.specs.Rows.{Form, Term, scaled_value}
use Rattle.kat_form.specs.Readings.{both, either, value_of_all, value_of_any, constant_form, constant_of as constant_terms, folded_value}
use Rattle.kat_form.specs.Meanings.{signed}
use Rattle.kat_form.specs.Facts.{Fact, Facts, listed}
use Rattle.kat_form.specs.Meanings.{holds, hold_each_at, all_true, any_true}
use Rattle.kat_form.specs.Readings.{fact_readings}
use Rattle.kat_form.specs.Facts.Fact.{known, truth_is, at_most, above, all_of, any_of}
use Rattle.kat_form.specs.Facts.Facts.{none, more}

abbrev pub int_same : ℤ → ℤ → Bool
int_same x y = int_le x y && int_le y x

abbrev pub all_say : (ℕ → Bool) → (ℕ → ℤ) → Facts → Bool
all_say t w fs = all_true (hold_each_at t 1 w fs)

abbrev pub one_says : (ℕ → Bool) → (ℕ → ℤ) → Facts → Bool
one_says t w fs = any_true (hold_each_at t 1 w fs)

not_not : (b : Bool) → b ≡ not (not b)
not_not true = refl
not_not false = refl

not_signed : (positive b : Bool) → signed (not positive) b ≡ not (signed positive b)
not_signed true b = refl
not_signed false b = not_not b

not_and : (a b : Bool) → (not a || not b) ≡ not (a && b)
not_and true b = refl
not_and false b = refl

not_or : (a b : Bool) → (not a && not b) ≡ not (a || b)
not_or true b = refl
not_or false b = refl

mutual
  pub says_negation : (t : ℕ → Bool) (w : ℕ → ℤ) (f : Fact) → holds t w (denied f) ≡ not (holds t w f)
  says_negation t w (known b) = refl
  says_negation t w (truth_is v positive) = not_signed positive (t v)
  says_negation t w (at_most form) = refl
  says_negation t w (above form) = not_not (int_le (scaled_value 1 w form) (pos 0))
  says_negation t w (all_of fs) = one_negation t w fs
  says_negation t w (any_of fs) = all_negation t w fs

  one_negation : (t : ℕ → Bool) (w : ℕ → ℤ) (fs : Facts) → one_says t w (denied_each fs) ≡ not (all_say t w fs)
  one_negation t w none = refl
  one_negation t w (more f fs) = rw (says_negation t w f, one_negation t w fs) (not_and (holds t w f) (all_say t w fs))

  all_negation : (t : ℕ → Bool) (w : ℕ → ℤ) (fs : Facts) → all_say t w (denied_each fs) ≡ not (one_says t w fs)
  all_negation t w none = refl
  all_negation t w (more f fs) = rw (says_negation t w f, all_negation t w fs) (not_or (holds t w f) (one_says t w fs))

pub says_lt : (t : ℕ → Bool) (w : ℕ → ℤ) (a b : Form) → holds t w (fact_lt a b) ≡ int_lt (scaled_value 1 w a) (scaled_value 1 w b)
says_lt t w a b =
    let shifted : scaled_value 1 w (raised (minus a b)) ≡ (scaled_value 1 w a -ℤ scaled_value 1 w b) +ℤ pos 1 = raised_value w (minus a b) ∙ rw (minus_value w a b) refl in
    ap (λ (x : ℤ). int_le x (pos 0)) shifted
    ∙ lt_shift (scaled_value 1 w a) (scaled_value 1 w b)

pub says_le : (t : ℕ → Bool) (w : ℕ → ℤ) (a b : Form) → holds t w (fact_le a b) ≡ int_le (scaled_value 1 w a) (scaled_value 1 w b)
says_le t w a b = ap (λ (x : ℤ). int_le x (pos 0)) (minus_value w a b) ∙ le_shift (scaled_value 1 w a) (scaled_value 1 w b)

and_end : (a : Bool) → (a && true) ≡ a
and_end true = refl
and_end false = refl

or_end : (a : Bool) → (a || false) ≡ a
or_end true = refl
or_end false = refl

pub says_and : (t : ℕ → Bool) (w : ℕ → ℤ) (f g : Fact) → holds t w (all_of (more f (more g none))) ≡ (holds t w f && holds t w g)
says_and t w f g = ap (λ (x : Bool). holds t w f && x) (and_end (holds t w g))

pub says_or : (t : ℕ → Bool) (w : ℕ → ℤ) (f g : Fact) → holds t w (any_of (more f (more g none))) ≡ (holds t w f || holds t w g)
says_or t w f g = ap (λ (x : Bool). holds t w f || x) (or_end (holds t w g))

pub says_same : (t : ℕ → Bool) (w : ℕ → ℤ) (a b : Form) → holds t w (fact_same a b) ≡ int_same (scaled_value 1 w a) (scaled_value 1 w b)
says_same t w a b = says_and t w (fact_le a b) (fact_le b a) ∙ rw (says_le t w a b, says_le t w b a) refl

-- a fact that folds away has its value everywhere
abbrev Tells : Option Bool → Bool → Type 0
Tells o s = (b : Bool) → o ≡ Some b → s ≡ b

both_tells : (o p : Option Bool) (s u : Bool) → Tells o s → Tells p u → Tells (both o p) (s && u)
both_tells (Some false) p s u h k b e = let l : s ≡ false = h false refl in rw l (cc)
both_tells (Some true) p s u h k b e = let l : s ≡ true = h true refl in rw l (k b e)
both_tells None (Some false) s u h k b e = let l : u ≡ false = k false refl in rw l (and_false s ∙ cc)
  where
    and_false : (a : Bool) → (a && false) ≡ false
    and_false true = refl
    and_false false = refl
both_tells None (Some true) s u h k b e = absurd (cc)
both_tells None None s u h k b e = absurd (cc)

either_tells : (o p : Option Bool) (s u : Bool) → Tells o s → Tells p u → Tells (either o p) (s || u)
either_tells (Some true) p s u h k b e = let l : s ≡ true = h true refl in rw l (cc)
either_tells (Some false) p s u h k b e = let l : s ≡ false = h false refl in rw l (k b e)
either_tells None (Some true) s u h k b e = let l : u ≡ true = k true refl in rw l (or_true s ∙ cc)
  where
    or_true : (a : Bool) → (a || true) ≡ true
    or_true true = refl
    or_true false = refl
either_tells None (Some false) s u h k b e = absurd (cc)
either_tells None None s u h k b e = absurd (cc)

some_same : (a b : Bool) → Some a ≡ Some b → a ≡ b
some_same a b e = cc

form_tells : (w : ℕ → ℤ) (ts : List Term) (c : ℤ) → Tells (constant_terms ts c) (int_le (scaled_value 1 w (record { terms = ts; constant = c })) (pos 0))
form_tells w [] c b e = ap (λ (x : ℤ). int_le x (pos 0)) (numeral_value w c) ∙ some_same (int_le c (pos 0)) b e
form_tells w (t ∷ ts) c b e = absurd (cc)

not_tells : (o : Option Bool) (s : Bool) → Tells o s → Tells (option_map not o) (not s)
not_tells (Some x) s h b e = ap not (h x refl) ∙ some_same (not x) b e
not_tells None s h b e = absurd (cc)

mutual
  pub constant_tells : (t : ℕ → Bool) (w : ℕ → ℤ) (f : Fact) → Tells (folded_value f) (holds t w f)
  constant_tells t w (known x) = λ b e. some_same x b e
  constant_tells t w (truth_is v positive) = λ b e. absurd (cc)
  constant_tells t w (at_most form) = form_tells w form.terms form.constant
  constant_tells t w (above form) = not_tells (constant_form form) (int_le (scaled_value 1 w form) (pos 0)) (form_tells w form.terms form.constant)
  constant_tells t w (all_of fs) = all_tell t w fs
  constant_tells t w (any_of fs) = one_tells t w fs

  all_tell : (t : ℕ → Bool) (w : ℕ → ℤ) (fs : Facts) → Tells (value_of_all (fact_readings fs)) (all_say t w fs)
  all_tell t w none = λ b e. some_same true b e
  all_tell t w (more f fs) = both_tells (folded_value f) (value_of_all (fact_readings fs)) (holds t w f) (all_say t w fs) (constant_tells t w f) (all_tell t w fs)

  one_tells : (t : ℕ → Bool) (w : ℕ → ℤ) (fs : Facts) → Tells (value_of_any (fact_readings fs)) (one_says t w fs)
  one_tells t w none = λ b e. some_same false b e
  one_tells t w (more f fs) = either_tells (folded_value f) (value_of_any (fact_readings fs)) (holds t w f) (one_says t w fs) (constant_tells t w f) (one_tells t w fs)

-- the denied_each of listed facts
pub each_listed : (fs : List Fact) → denied_each (listed fs) ≡ listed (map denied fs)
each_listed [] = refl
each_listed (f ∷ fs) = ap (more (denied f)) (each_listed fs)
