-- One line and one answer more.
use Rattle.std.proofs.Common.{◌≡◌, ℕ, zero, suc, ◌+◌, ◌*◌, ◌^◌, ◌<◌, ◌≤◌, ◌+ℤ◌, ℤ, pos, Bool, true, false, List, [], ◌∷◌, ◌++◌, length, take, drop, get_or, All, refl, sym, ◌∙◌, ap, subst, arith}
use Rattle.std.specs.Prelude.{unsigned_abs}
use Rattle.std.proofs.lemmas.Int.{ints}
use Rattle.std.proofs.lemmas.List.Elements.{All-head, All-tail, All-take}
use Rattle.std.proofs.lemmas.List.{length-append, take_more}
use Rattle.kat_script.specs.Facts.{done_in}
use Rattle.kat_script.specs.declared.script.Line.{Line}
use Rattle.kat_script.specs.declared.script.Line.TheVariants.{Do, Ship, Deliver, Ask, Show}
use Rattle.kat_expr.specs.Evaluation.{number_of}
use Rattle.kat_expr.specs.Limits.{IsAtMost}
use Rattle.kat_num.specs.declared.values.Value.{Value}
use Rattle.kat_num.specs.declared.values.Value.TheVariants.{Bool as Truth, Num, Name}
use Rattle.kat_world.specs.Summaries.{total_of}

-- the sum of answers, the last of them apart
pub total_snoc : (values : List Value) (value : Value) → total_of (values ++ value ∷ []) ≡ total_of values +ℤ number_of value
total_snoc [] value = omega (arith, ints)
total_snoc (first ∷ values) value = (let h = total_snoc values value in omega (arith, ints, h))

number_small : (most : ℕ) (value : Value) → IsAtMost most value → unsigned_abs (number_of value) ≤ most
number_small most (Truth b) h = omega arith
number_small most (Num z) h = h
number_small most (Name code) h = omega arith

-- this many answers up to a bound add up to so much at most
both_sizes : (x y : ℤ) (a b : ℕ) → unsigned_abs x ≤ a → unsigned_abs y ≤ b → unsigned_abs (x +ℤ y) ≤ a + b
both_sizes x y a b h k = omega (arith, ints, h, k)

more_of : (n most a : ℕ) → a ≤ most + n * most → a ≤ suc n * most
more_of n most a h = omega (arith, h)

pub total_small : (most : ℕ) (values : List Value) → All (IsAtMost most) values → unsigned_abs (total_of values) ≤ length values * most
total_small most [] h = omega arith
total_small most (value ∷ values) h =
    more_of (length values) most _
    (both_sizes (number_of value) (total_of values) most (length values * most) (number_small most value (All-head (IsAtMost most) value values h))
    (total_small most values (All-tail (IsAtMost most) value values h)))

-- one answer more
pub total_on : (answers : List Value) (i : ℕ) (d answer total total' : Value) → i < length answers → answer ≡ get_or answers i d
    → total ≡ Num (total_of (take i answers)) → total' ≡ Num (number_of total +ℤ number_of answer) → total' ≡ Num (total_of (take (i + 1) answers))
total_on answers i d answer total total' lt is before sum =
    sum ∙ ap (λ (t : Value). Num (number_of t +ℤ number_of answer)) before
    ∙ ap (λ (a : Value). Num (total_of (take i answers) +ℤ number_of a)) is
    ∙ ap Num (sym (total_snoc (take i answers) (get_or answers i d)) ∙ ap total_of (sym (take_more answers i d lt)))

fits_sum : (n m a b : ℕ) → n ≤ m → m ≤ 100_000 → a ≤ n * 2 ^ 100 → b ≤ 2 ^ 100 → a + b < 2 ^ 127
fits_sum n m a b h k l o = omega (arith, h, k, l, o)

taken_few : {X : Type 0} (xs : List X) (i : ℕ) → length (take i xs) ≤ length xs
taken_few [] zero = omega arith
taken_few [] (suc i) = omega arith
taken_few (x ∷ xs) zero = omega arith
taken_few (x ∷ xs) (suc i) = (let h = taken_few xs i in omega (arith, h))

pub total_fits : (answers : List Value) (i : ℕ) (d answer total : Value) → i < length answers → length answers ≤ 100_000 → All (IsAtMost (2 ^ 100)) answers
    → answer ≡ get_or answers i d → total ≡ Num (total_of (take i answers)) → unsigned_abs (number_of total) + unsigned_abs (number_of answer) < 2 ^ 127
total_fits answers i d answer total lt few small is before =
    subst (λ (t : Value). unsigned_abs (number_of t) + unsigned_abs (number_of answer) < 2 ^ 127) (sym before)
    (fits_sum (length (take i answers)) (length answers) (unsigned_abs (total_of (take i answers))) (unsigned_abs (number_of answer)) (taken_few answers i) few
    (total_small (2 ^ 100) (take i answers) (All-take (IsAtMost (2 ^ 100)) i answers small))
    (number_small (2 ^ 100) answer (subst (λ (v : Value). IsAtMost (2 ^ 100) v) (sym is) (small i d lt))))

-- one line more
done_append : (xs ys : List Line) → done_in (xs ++ ys) ≡ done_in xs ++ done_in ys
done_append [] ys = refl
done_append (Do done ∷ xs) ys = ap (λ ds. done ∷ ds) (done_append xs ys)
done_append (Ship r p ∷ xs) ys = done_append xs ys
done_append (Deliver p r ∷ xs) ys = done_append xs ys
done_append (Ask r query args ∷ xs) ys = done_append xs ys
done_append (Show r ∷ xs) ys = done_append xs ys

pub counted_on : (lines : List Line) (i : ℕ) (d line : Line) (count count' : ℕ) → i < length lines → line ≡ get_or lines i d
    → count ≡ length (done_in (take i lines)) → count' ≡ count + length (done_in (line ∷ [])) → count' ≡ length (done_in (take (i + 1) lines))
counted_on lines i d line count count' lt is before more =
    more ∙ ap (λ n. n + length (done_in (line ∷ []))) before
    ∙ ap (λ (l : Line). length (done_in (take i lines)) + length (done_in (l ∷ []))) is
    ∙ sym (length-append (done_in (take i lines)) (done_in (get_or lines i d ∷ [])))
    ∙ ap length (sym (done_append (take i lines) (get_or lines i d ∷ [])) ∙ ap done_in (sym (take_more lines i d lt)))

one_more : (a b : ℕ) → a ≤ b → suc a ≤ suc b
one_more a b h = omega (arith, h)

still : (a b : ℕ) → a ≤ b → a ≤ suc b
still a b h = omega (arith, h)

done_few : (lines : List Line) → length (done_in lines) ≤ length lines
done_few [] = omega arith
done_few (Do done ∷ lines) = one_more (length (done_in lines)) (length lines) (done_few lines)
done_few (Ship r p ∷ lines) = still (length (done_in lines)) (length lines) (done_few lines)
done_few (Deliver p r ∷ lines) = still (length (done_in lines)) (length lines) (done_few lines)
done_few (Ask r query args ∷ lines) = still (length (done_in lines)) (length lines) (done_few lines)
done_few (Show r ∷ lines) = still (length (done_in lines)) (length lines) (done_few lines)

up_to_all : (a b c : ℕ) → a ≤ b → b ≤ c → c ≤ 100_000 → a ≤ 100_000
up_to_all a b c h k l = omega (arith, h, k, l)

pub count_small : (lines : List Line) (i count : ℕ) → length lines ≤ 100_000 → count ≡ length (done_in (take i lines)) → count ≤ 100_000
count_small lines i count few is =
    subst (λ n. n ≤ 100_000) (sym is) (up_to_all (length (done_in (take i lines))) (length (take i lines)) (length lines) (done_few (take i lines)) (taken_few lines i) few)
