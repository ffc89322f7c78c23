-- Values are compared as the numbers that stand for them.
use Rattle.std.proofs.Common.{◌≡◌, ℤ, pos, int_lt, int_le, Bool, true, false, ◌||◌, eqb, if◌then◌else◌, ◌⊎◌, inl, inr, ⊎_elim, refl, sym, ◌∙◌, arith}
use Rattle.std.specs.Ordering.{int_eq}
use Rattle.std.proofs.lemmas.Int.{ints}
use Rattle.std.proofs.lemmas.Bool.Decides.{Decides-int_eq, Decides-eqb, same_from_decides}
use Rattle.kat_num.specs.Values.{HasSort}
use Rattle.kat_num.specs.declared.values.Sort.{Sort}
use Rattle.kat_num.specs.declared.values.Value.{Value}
use Rattle.kat_num.specs.declared.values.Sort.TheVariants.{Bool as OfBool, Int as OfInt, Nat as OfNat, Name as OfName}
use Rattle.kat_num.specs.declared.values.Value.TheVariants.{Bool as Truth, Num, Name as Word}
use Rattle.kat_expr.specs.Evaluation.{is_less, number_of}
use Rattle.kat_expr.specs.Slots.{is_same}
use Rattle.kat_expr.specs.Sorts.{IsChosen}
use Rattle.kat_invariant.proofs.Saying.{int_same}
use Rattle.kat_invariant.proofs.Logic.{measure}

pub int_same_is : (x y : ℤ) → int_eq x y ≡ int_same x y
int_same_is x y = same_from_decides (int_eq x y) (int_same x y) (Decides-int_eq x y) (told, tells)
  where
    told : int_same x y ≡ true → x ≡ y
    told h = grind (arith, ints)

    tells : x ≡ y → int_same x y ≡ true
    tells h = grind (arith, ints)

pub int_at_most : (x y : ℤ) → (int_lt x y || int_eq x y) ≡ int_le x y
int_at_most x y = rw (int_same_is x y) (grind (arith, ints))

-- two numbers, or two names
abbrev pub Comparable : Value → Value → Type 0
Comparable u v = (HasSort OfInt u × HasSort OfInt v) ⊎ (HasSort OfName u × HasSort OfName v)

pub number_less : (u v : Value) → HasSort OfInt u → HasSort OfInt v → is_less u v ≡ int_lt (measure u) (measure v)
number_less (Num x) (Num y) h k = refl
number_less (Truth _) v h k = absurd h
number_less (Word _) v h k = absurd h
number_less (Num x) (Truth _) h k = absurd k
number_less (Num x) (Word _) h k = absurd k

pub word_less : (u v : Value) → HasSort OfName u → HasSort OfName v → is_less u v ≡ int_lt (measure u) (measure v)
word_less (Word x) (Word y) h k = grind (arith, ints)
word_less (Truth _) v h k = absurd h
word_less (Num _) v h k = absurd h
word_less (Word x) (Truth _) h k = absurd k
word_less (Word x) (Num _) h k = absurd k

pub number_same : (u v : Value) → HasSort OfInt u → HasSort OfInt v → is_same u v ≡ int_same (measure u) (measure v)
number_same (Num x) (Num y) h k = int_same_is x y
number_same (Truth _) v h k = absurd h
number_same (Word _) v h k = absurd h
number_same (Num x) (Truth _) h k = absurd k
number_same (Num x) (Word _) h k = absurd k

pub word_same : (u v : Value) → HasSort OfName u → HasSort OfName v → is_same u v ≡ int_same (measure u) (measure v)
word_same (Word x) (Word y) h k = same_from_decides (eqb x y) (int_same (pos x) (pos y)) (Decides-eqb x y) (told, tells)
  where
    told : int_same (pos x) (pos y) ≡ true → x ≡ y
    told e = grind (arith, ints)

    tells : x ≡ y → int_same (pos x) (pos y) ≡ true
    tells e = grind (arith, ints)
word_same (Truth _) v h k = absurd h
word_same (Num _) v h k = absurd h
word_same (Word x) (Truth _) h k = absurd k
word_same (Word x) (Num _) h k = absurd k

pub less_is : (u v : Value) → Comparable u v → is_less u v ≡ int_lt (measure u) (measure v)
less_is u v h = ⊎_elim (λ (k : HasSort OfInt u × HasSort OfInt v). number_less u v k.0 k.1) (λ (k : HasSort OfName u × HasSort OfName v). word_less u v k.0 k.1) h

pub same_is : (u v : Value) → Comparable u v → is_same u v ≡ int_same (measure u) (measure v)
same_is u v h = ⊎_elim (λ (k : HasSort OfInt u × HasSort OfInt v). number_same u v k.0 k.1) (λ (k : HasSort OfName u × HasSort OfName v). word_same u v k.0 k.1) h

pub at_most_is : (u v : Value) → Comparable u v → (is_less u v || is_same u v) ≡ int_le (measure u) (measure v)
at_most_is u v h = rw (less_is u v h, same_is u v h, sym (int_same_is (measure u) (measure v))) (int_at_most (measure u) (measure v))

pub number_measure : (v : Value) → HasSort OfInt v → number_of v ≡ measure v
number_measure (Num z) h = refl
number_measure (Truth _) h = absurd h
number_measure (Word _) h = absurd h

pub natural_integer : (v : Value) → HasSort OfNat v → HasSort OfInt v
natural_integer (Num z) h = tt
natural_integer (Truth _) h = absurd h
natural_integer (Word _) h = absurd h

pub measure_if : (b : Bool) (u v : Value) → measure (if b then u else v) ≡ (if b then measure u else measure v)
measure_if true u v = refl
measure_if false u v = refl

-- what may be chosen can be compared
pub chosen_compare : (asked : Sort) (u v : Value) → IsChosen asked → HasSort asked u → HasSort asked v → Comparable u v
chosen_compare OfBool u v c h k = absurd c
chosen_compare OfInt u v c h k = inl (h, k)
chosen_compare OfNat u v c h k = inl (natural_integer u h, natural_integer v k)
chosen_compare OfName u v c h k = inr (h, k)

pub lesser_turned : (x y : ℤ) → (if int_lt y x then y else x) ≡ (if int_lt x y then x else y)
lesser_turned x y = grind (arith, ints)

pub lesser_is : (u v : Value) → Comparable u v → Comparable v u → measure (if is_less v u then v else u) ≡ (if int_lt (measure u) (measure v) then measure u else measure v)
lesser_is u v h k = measure_if (is_less v u) v u ∙ rw (less_is v u k) (lesser_turned (measure u) (measure v))

pub greater_is : (u v : Value) → Comparable u v → measure (if is_less u v then v else u) ≡ (if int_lt (measure u) (measure v) then measure v else measure u)
greater_is u v h = measure_if (is_less u v) v u ∙ rw (less_is u v h) refl
