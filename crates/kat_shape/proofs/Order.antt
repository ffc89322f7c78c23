-- What the order of a chain answers of equal values, and when the join of two lexicographic pairs is the second of them.
use Rattle.std.specs.Prelude.{ℤ, int_lt, cond}
use Rattle.std.proofs.Common.{◌≡◌, ◌↔◌, ℕ, Bool, true, false, ◌<◌, refl, sym, ◌∙◌, ap, arith}
use Rattle.std.specs.declared.cmp.Ordering.{Ordering}
use Rattle.std.specs.declared.cmp.Ordering.TheVariants.{Less, Equal, Greater}
use Rattle.std.specs.Ordering.{int_cmp, nat_cmp, ordering_then}
use Rattle.std.proofs.lemmas.Cmp.{ranked, by_ranked}
use Rattle.std.proofs.lemmas.Bool.Decides.{nat_tests}
use Rattle.std.proofs.lemmas.Int.{ints}
use Rattle.std.proofs.lemmas.Bool.{false≢true}
use Rattle.kat_shape.specs.Values.{Filled, a_number, a_name, a_truth, a_lex, a_pair, cells_compared, joined}

number_same_at : (x y : ℤ) (s t : Bool) → int_lt x y ≡ s → int_lt y x ≡ t → cond s Less (cond t Greater Equal) ≡ Equal → x ≡ y
number_same_at x y true t e f h = (cc)
number_same_at x y false true e f h = (cc)
number_same_at x y false false e f h = grind (arith, ints)

number_same : (x y : ℤ) → int_cmp x y ≡ Equal → x ≡ y
number_same x y h = number_same_at x y (int_lt x y) (int_lt y x) refl refl h

name_same : (x y : ℕ) → nat_cmp x y ≡ Equal → x ≡ y
name_same x y h = by_ranked (x < y) (x ≡ y) (y < x) (nat_cmp x y) (ranked x y (nat_cmp x y) refl) (λ e l. (cc)) (λ e l. l) (λ e l. (cc))

number_after_itself : (x : ℤ) (s : Bool) → int_lt x x ≡ s → cond s Less (cond s Greater Equal) ≡ Greater → ⊥
number_after_itself x true e h = (cc)
number_after_itself x false e h = (cc)

then_equal : (o r : Ordering) → ordering_then o r ≡ Equal → (o ≡ Equal) × (r ≡ Equal)
then_equal Less r h = (cc)
then_equal Equal r h = (refl, h)
then_equal Greater r h = (cc)

then_greater : (o r : Ordering) → (o ≡ Greater → ⊥) → (r ≡ Greater → ⊥) → ordering_then o r ≡ Greater → ⊥
then_greater Less r f g h = (cc)
then_greater Equal r f g h = g h
then_greater Greater r f g h = f refl

-- what the order answers of equal values, and what it says where it answers that they are equal
pub same_from_compared : (a b : Filled) → cells_compared a b ≡ Equal → a ≡ b
same_from_compared (a_number x) (a_number y) h = (let e : x ≡ y = number_same x y h in ap a_number e)
same_from_compared (a_name x) (a_name y) h = (let e : x ≡ y = name_same x y h in ap a_name e)
same_from_compared (a_truth true) (a_truth true) h = refl
same_from_compared (a_truth true) (a_truth false) h = (cc)
same_from_compared (a_truth false) (a_truth true) h = (cc)
same_from_compared (a_truth false) (a_truth false) h = refl
same_from_compared (a_lex a b) (a_lex c d) h =
    let both = then_equal (cells_compared a c) (cells_compared b d) h in
    let e : a ≡ c = same_from_compared a c both.0 in
    let f : b ≡ d = same_from_compared b d both.1 in
    cc
same_from_compared _ _ h = (cc)

pub not_after_itself : (a : Filled) → cells_compared a a ≡ Greater → ⊥
not_after_itself (a_number x) h = number_after_itself x (int_lt x x) refl h
not_after_itself (a_name x) h = absurd (grind (arith, nat_tests))
not_after_itself (a_truth true) h = (cc)
not_after_itself (a_truth false) h = (cc)
not_after_itself (a_lex a b) h = then_greater (cells_compared a a) (cells_compared b b) (not_after_itself a) (not_after_itself b) h
not_after_itself (a_pair a b) h = (cc)

second_lex : (a b c d : Filled) → a_lex a b ≡ a_lex c d → b ≡ d
second_lex a b c d e = cc

first_lex : (a b c d : Filled) → a_lex a b ≡ a_lex c d → a ≡ c
first_lex a b c d e = cc

same_lex : (a b c d : Filled) → a ≡ c → b ≡ d → a_lex a b ≡ a_lex c d
same_lex a b c d e f = cc

level_pair : (a b c d : Filled) (r : Bool) → cells_compared a c ≡ Equal → ((r ≡ true) ↔ (joined b d ≡ d)) → (r ≡ true) ↔ (joined (a_lex a b) (a_lex c d) ≡ a_lex c d)
level_pair a b c d r e h =
    let level : joined (a_lex a b) (a_lex c d) ≡ a_lex a (joined b d) = rw e in
    let same : a ≡ c = same_from_compared a c e in
    (λ t. level ∙ same_lex a (joined b d) c d same (h.0 t), λ t. h.1 (second_lex a (joined b d) c d (sym level ∙ t)))

after_pair : (a b c d : Filled) → cells_compared a c ≡ Greater → joined (a_lex a b) (a_lex c d) ≡ a_lex c d → ⊥
after_pair a b c d e t =
    let stays : joined (a_lex a b) (a_lex c d) ≡ a_lex a b = rw e in
    let same : a ≡ c = first_lex a b c d (sym stays ∙ t) in
    let again : cells_compared a a ≡ Greater = cc in
    not_after_itself a again

-- the same over the parts as the code reads them
pub level_below : (m n a b c d p q s t : Filled) (r : Bool) → m ≡ a_lex a b → n ≡ a_lex c d → p ≡ a → q ≡ c → s ≡ b → t ≡ d → Equal ≡ cells_compared p q → ((r ≡ true) ↔ (joined s t ≡ t)) → (r ≡ true) ↔ (joined m n ≡ n)
level_below m n a b c d p q s t r em en ep eq es et e h =
    let first : cells_compared a c ≡ Equal = cc in
    let second : (r ≡ true) ↔ (joined b d ≡ d) = (λ k. let j = h.0 k in (cc), λ k. h.1 (cc)) in
    let whole = level_pair a b c d r first second in
    (λ k. let j = whole.0 k in (cc), λ k. whole.1 (cc))

pub after_below : (m n a b c d p q : Filled) → m ≡ a_lex a b → n ≡ a_lex c d → p ≡ a → q ≡ c → Greater ≡ cells_compared p q → (false ≡ true) ↔ (joined m n ≡ n)
after_below m n a b c d p q em en ep eq e =
    let first : cells_compared a c ≡ Greater = cc in
    (λ k. absurd (false≢true k), λ k. absurd (after_pair a b c d first (cc)))
