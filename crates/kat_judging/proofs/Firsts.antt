-- The first fault of two lists is the earlier one of their first faults.
use Rattle.std.proofs.Common.{◌≡◌, ℕ, Bool, true, false, ◌||◌, ◌&&◌, List, [], ◌∷◌, ◌++◌, refl, sym, ◌∙◌, ap, arith, Option, None, Some}
use Rattle.std.specs.Prelude.{nat_lt, ◌==◌}
use Rattle.std.proofs.lemmas.Bool.{false≢true}
use Rattle.kat_judging.specs.Faults.{earlier, first_of, is_before}
use Rattle.kat_judging.specs.declared.faults.Fault.{Fault}

pub earlier_none : (a : Option Fault) → a ≡ earlier a None
earlier_none None = refl
earlier_none (Some a) = refl

chained : (x m y n z o : ℕ) → ((nat_lt x y) || ((x == y) && nat_lt m n)) ≡ true → ((nat_lt y z) || ((y == z) && nat_lt n o)) ≡ true
    → ((nat_lt x z) || ((x == z) && nat_lt m o)) ≡ true
chained x m y n z o p q = grind arith

unchained : (x m y n z o : ℕ) → ((nat_lt x y) || ((x == y) && nat_lt m n)) ≡ false → ((nat_lt y z) || ((y == z) && nat_lt n o)) ≡ false
    → ((nat_lt x z) || ((x == z) && nat_lt m o)) ≡ false
unchained x m y n z o p q = grind arith

first_three : (a b c : Fault) (cb ba ca : Bool) → is_before c b ≡ cb → is_before b a ≡ ba → is_before c a ≡ ca
    → earlier (Some a) (earlier (Some b) (Some c)) ≡ earlier (earlier (Some a) (Some b)) (Some c)
first_three a b c true true true p q r = rw (p, q, r, p) refl
first_three a b c true true false p q r = absurd (false≢true (sym r ∙ chained c.at c.number b.at b.number a.at a.number p q))
first_three a b c true false ca p q r = rw (p, q) refl
first_three a b c false true ca p q r = rw (p, q, p) refl
first_three a b c false false true p q r = absurd (false≢true (sym (unchained c.at c.number b.at b.number a.at a.number p q) ∙ r))
first_three a b c false false false p q r = rw (p, q, r) refl

pub earlier_assoc : (a b c : Option Fault) → earlier a (earlier b c) ≡ earlier (earlier a b) c
earlier_assoc None b c = refl
earlier_assoc (Some a) None c = refl
earlier_assoc (Some a) (Some b) None = earlier_none (earlier (Some a) (Some b))
earlier_assoc (Some a) (Some b) (Some c) = first_three a b c (is_before c b) (is_before b a) (is_before c a) refl refl refl

pub first_append : (xs ys : List Fault) → first_of (xs ++ ys) ≡ earlier (first_of xs) (first_of ys)
first_append [] ys = refl
first_append (x ∷ xs) ys = ap (λ f. earlier (Some x) f) (first_append xs ys) ∙ earlier_assoc (Some x) (first_of xs) (first_of ys)

-- the earlier one of two first faults is that of both lists
pub both_first : (xs ys : List Fault) (a b all : Option Fault) → a ≡ first_of xs → b ≡ first_of ys → all ≡ earlier a b → all ≡ first_of (xs ++ ys)
both_first xs ys a b all is_a is_b is = is ∙ ap (λ f. earlier f b) is_a ∙ ap (λ f. earlier (first_of xs) f) is_b ∙ sym (first_append xs ys)

-- two equations under one
pub earlier_both : (a b c d all : Option Fault) → a ≡ c → b ≡ d → all ≡ earlier a b → all ≡ earlier c d
earlier_both a b c d all is_a is_b is = is ∙ ap (λ f. earlier f b) is_a ∙ ap (λ f. earlier c f) is_b

pub four_first : (ws xs ys zs : List Fault) (a b c d ab abc all : Option Fault) → a ≡ first_of ws → b ≡ first_of xs → c ≡ first_of ys → d ≡ first_of zs
    → ab ≡ earlier a b → abc ≡ earlier ab c → all ≡ earlier abc d → all ≡ first_of (ws ++ xs ++ ys ++ zs)
four_first ws xs ys zs a b c d ab abc all is_a is_b is_c is_d is_ab is_abc is =
    both_first (ws ++ xs ++ ys) zs abc d all (both_first (ws ++ xs) ys ab c abc (both_first ws xs a b ab is_a is_b is_ab) is_c is_abc) is_d is

pub first_two : (xs ys zs : List Fault) → earlier (first_of xs) (earlier (first_of ys) (first_of zs)) ≡ first_of (xs ++ ys ++ zs)
first_two xs ys zs =
    earlier_assoc (first_of xs) (first_of ys) (first_of zs) ∙ ap (λ f. earlier f (first_of zs)) (sym (first_append xs ys)) ∙ sym (first_append (xs ++ ys) zs)

pub first_five : (vs ws xs ys zs : List Fault)
    → earlier (first_of vs) (earlier (first_of ws) (earlier (first_of xs) (earlier (first_of ys) (first_of zs)))) ≡ first_of (vs ++ ws ++ xs ++ ys ++ zs)
first_five vs ws xs ys zs =
    earlier_assoc (first_of vs) (first_of ws) (earlier (first_of xs) (earlier (first_of ys) (first_of zs)))
    ∙ ap (λ f. earlier f (earlier (first_of xs) (earlier (first_of ys) (first_of zs)))) (sym (first_append vs ws))
    ∙ earlier_assoc (first_of (vs ++ ws)) (first_of xs) (earlier (first_of ys) (first_of zs))
    ∙ ap (λ f. earlier f (earlier (first_of ys) (first_of zs))) (sym (first_append (vs ++ ws) xs))
    ∙ first_two (vs ++ ws ++ xs) ys zs
