-- Values of sums, comparisons, connectives and symbolic values, over plain variables.
use Rattle.std.proofs.Common.{◌≡◌, ℤ, pos, ◌+ℤ◌, ◌-ℤ◌, int_lt, int_le, Bool, true, false, not, ◌&&◌, ◌||◌, refl, ap, ◌∙◌}
use Rattle.kat_num.specs.Values.{HasSort}
use Rattle.kat_num.specs.declared.values.Sort.{Sort}
use Rattle.kat_num.specs.declared.values.Value.{Value}
use Rattle.kat_num.specs.declared.values.Sort.TheVariants.{Bool as OfBool, Int as OfInt, Nat as OfNat, Name as OfName}
use Rattle.kat_num.specs.declared.values.Value.TheVariants.{Bool as Truth, Num, Name as Word}
use Rattle.kat_expr.specs.Evaluation.{truth_of}
use Rattle.kat_expr.specs.Sorts.{IsChosen}
use Rattle.kat_linear.specs.Rows.{Form}
use Rattle.kat_form.specs.Facts.{Fact}
use Rattle.kat_form.specs.Facts.Fact.{known}
use Rattle.kat_symbols.specs.Connectives.{denied, or_of, and_of, fact_lt, fact_le, fact_same}
use Rattle.kat_symbols.specs.Readers.{Reader, Symbol, read_flag, read_name}
use Rattle.kat_symbols.specs.Readers.Symbol.{number, truth}
use Rattle.kat_symbols.specs.Sums.{numeral, plus, minus}
use Rattle.kat_symbols.specs.Symbols.{number_in, truth_in, symbol_of, read_variable}
use Rattle.kat_symbols.specs.declared.names.Name.{Name}
use Rattle.kat_invariant.proofs.Sums.{plus_value, minus_value, numeral_value}
use Rattle.kat_invariant.proofs.Saying.{int_same, says_negation, says_lt, says_le, says_same, says_and, says_or}
use Rattle.kat_invariant.proofs.Logic.{World, Meant, measure, HasNumber, HasTruth, Means, Reads, reads_as, reads_two, reads_name, reads_flag}

pub plus_has : (w : World) (a b : Form) (x y : ℤ) → HasNumber a x w → HasNumber b y w → HasNumber (plus a b) (x +ℤ y) w
plus_has w a b x y p q = record { is = plus_value w.nums a b ∙ rw (p.is, q.is) refl }

pub minus_has : (w : World) (a b : Form) (x y : ℤ) → HasNumber a x w → HasNumber b y w → HasNumber (minus a b) (x -ℤ y) w
minus_has w a b x y p q = record { is = minus_value w.nums a b ∙ rw (p.is, q.is) refl }

pub lt_has : (w : World) (a b : Form) (x y : ℤ) → HasNumber a x w → HasNumber b y w → HasTruth (fact_lt a b) (int_lt x y) w
lt_has w a b x y p q = record { is = says_lt w.truths w.nums a b ∙ rw (p.is, q.is) refl }

pub le_has : (w : World) (a b : Form) (x y : ℤ) → HasNumber a x w → HasNumber b y w → HasTruth (fact_le a b) (int_le x y) w
le_has w a b x y p q = record { is = says_le w.truths w.nums a b ∙ rw (p.is, q.is) refl }

pub same_has : (w : World) (a b : Form) (x y : ℤ) → HasNumber a x w → HasNumber b y w → HasTruth (fact_same a b) (int_same x y) w
same_has w a b x y p q = record { is = says_same w.truths w.nums a b ∙ rw (p.is, q.is) refl }

pub and_has : (w : World) (f g : Fact) (b c : Bool) → HasTruth f b w → HasTruth g c w → HasTruth (and_of f g) (b && c) w
and_has w f g b c p q = record { is = says_and w.truths w.nums f g ∙ rw (p.is, q.is) refl }

pub or_has : (w : World) (f g : Fact) (b c : Bool) → HasTruth f b w → HasTruth g c w → HasTruth (or_of f g) (b || c) w
or_has w f g b c p q = record { is = says_or w.truths w.nums f g ∙ rw (p.is, q.is) refl }

pub not_has : (w : World) (f : Fact) (b : Bool) → HasTruth f b w → HasTruth (denied f) (not b) w
not_has w f b h = record { is = says_negation w.truths w.nums f ∙ ap not h.is }

pub numeral_has : (w : World) (z : ℤ) → HasNumber (numeral z) z w
numeral_has w z = record { is = numeral_value w.nums z }

pub known_has : (w : World) (b : Bool) → HasTruth (known b) b w
known_has w b = record { is = refl }

pub number_as : (w : World) (a : Form) (x y : ℤ) → x ≡ y → HasNumber a x w → HasNumber a y w
number_as w a x y e h = record { is = h.is ∙ e }

pub truth_as : (w : World) (f : Fact) (b c : Bool) → b ≡ c → HasTruth f b w → HasTruth f c w
truth_as w f b c e h = record { is = h.is ∙ e }

-- values by kinds: a number or a name, or a truth value
abbrev pub IsTruth : Value → Type 0
IsTruth (Truth _) = Unit {0}
IsTruth (Num _) = ⊥
IsTruth (Word _) = ⊥

abbrev pub IsNumber : Value → Type 0
IsNumber (Truth _) = ⊥
IsNumber (Num _) = Unit {0}
IsNumber (Word _) = Unit {0}

pub chosen_is : (asked : Sort) (v : Value) → IsChosen asked → HasSort asked v → IsNumber v
chosen_is OfBool v c h = absurd c
chosen_is OfInt (Num z) c h = tt
chosen_is OfInt (Truth _) c h = absurd h
chosen_is OfInt (Word _) c h = absurd h
chosen_is OfNat (Num z) c h = tt
chosen_is OfNat (Truth _) c h = absurd h
chosen_is OfNat (Word _) c h = absurd h
chosen_is OfName (Word z) c h = tt
chosen_is OfName (Truth _) c h = absurd h
chosen_is OfName (Num _) c h = absurd h

pub truth_is_truth : (v : Value) → HasSort OfBool v → IsTruth v
truth_is_truth (Truth b) h = tt
truth_is_truth (Num z) h = absurd h
truth_is_truth (Word z) h = absurd h

pub number_means : (w : World) (a : Form) (v : Value) → IsNumber v → HasNumber a (measure v) w → Means (number a) v w
number_means w a (Num z) k h = record { is = h }
number_means w a (Word n) k h = record { is = h }
number_means w a (Truth b) k h = absurd k

pub truth_means : (w : World) (f : Fact) (v : Value) → IsTruth v → HasTruth f (truth_of v) w → Means (truth f) v w
truth_means w f (Truth b) k h = record { is = h }
truth_means w f (Num z) k h = absurd k
truth_means w f (Word z) k h = absurd k

pub means_number : (w : World) (s : Symbol) (v : Value) → IsNumber v → Means s v w → HasNumber (number_in s) (measure v) w
means_number w (number a) (Num z) k h = h.is
means_number w (number a) (Word z) k h = h.is
means_number w (truth f) (Num z) k h = absurd h.is
means_number w (truth f) (Word z) k h = absurd h.is
means_number w s (Truth b) k h = absurd k

pub means_truth : (w : World) (s : Symbol) (v : Value) → IsTruth v → Means s v w → HasTruth (truth_in s) (truth_of v) w
means_truth w (truth f) (Truth b) k h = h.is
means_truth w (number f) (Truth b) k h = absurd h.is
means_truth w s (Num z) k h = absurd k
means_truth w s (Word z) k h = absurd k

pub symbol_has : (w : World) (v : Value) → Means (symbol_of v) v w
symbol_has w (Truth b) = record { is = known_has w b }
symbol_has w (Num z) = record { is = numeral_has w z }
symbol_has w (Word n) = record { is = numeral_has w (pos n) }

-- what is read has a value, from wherever it is read
abbrev pub ReadsNumber : Meant → (Reader → Form × Reader) → ℤ → Type 0
ReadsNumber m p z = (r : Reader) → Reads m r (p r).1 (HasNumber (p r).0 z)

abbrev pub ReadsTruth : Meant → (Reader → Fact × Reader) → Bool → Type 0
ReadsTruth m p b = (r : Reader) → Reads m r (p r).1 (HasTruth (p r).0 b)

abbrev pub ReadsValue : Meant → (Reader → Symbol × Reader) → Value → Type 0
ReadsValue m p v = (r : Reader) → Reads m r (p r).1 (Means (p r).0 v)

-- one after the other
pub numbers_then : (m : Meant) (p q : Reader → Form × Reader) (x y : ℤ) (r : Reader) (R : World → Type 0) → ReadsNumber m p x → ReadsNumber m q y → ((w : World) → HasNumber (p r).0 x w → HasNumber (q (p r).1).0 y w → R w) → Reads m r (q (p r).1).1 R
numbers_then m p q x y r R first second joined = reads_two m r (p r).1 (q (p r).1).1 _ _ R (first r) (second (p r).1) joined

pub truths_then : (m : Meant) (p q : Reader → Fact × Reader) (x y : Bool) (r : Reader) (R : World → Type 0) → ReadsTruth m p x → ReadsTruth m q y → ((w : World) → HasTruth (p r).0 x w → HasTruth (q (p r).1).0 y w → R w) → Reads m r (q (p r).1).1 R
truths_then m p q x y r R first second joined = reads_two m r (p r).1 (q (p r).1).1 _ _ R (first r) (second (p r).1) joined

pub values_then : (m : Meant) (p q : Reader → Symbol × Reader) (x y : Value) (r : Reader) (R : World → Type 0) → ReadsValue m p x → ReadsValue m q y → ((w : World) → Means (p r).0 x w → Means (q (p r).1).0 y w → R w) → Reads m r (q (p r).1).1 R
values_then m p q x y r R first second joined = reads_two m r (p r).1 (q (p r).1).1 _ _ R (first r) (second (p r).1) joined

-- a variable of its own
pub variable_reads : (m : Meant) (b : Bool) (n : Name) → (b ≡ true → IsTruth (m.now n)) → (b ≡ false → IsNumber (m.now n)) → ReadsValue m (read_variable b n) (m.now n)
variable_reads m true n t f r = reads_as m r (read_flag n r).1 _ _ (reads_flag m n r) (λ w h. truth_means w (read_flag n r).0 (m.now n) (t refl) h)
variable_reads m false n t f r = reads_as m r (read_name n r).1 _ _ (reads_name m n r) (λ w h. number_means w (read_name n r).0 (m.now n) (f refl) h)
