-- Lists of tokens with the same places are one.
use Rattle.std.proofs.Common.{◌≡◌, ℕ, ◌==◌, ◌&&◌, Bool, true, false, List, [], ◌∷◌, refl, sym, ◌∙◌, ap, arith}
use Rattle.std.proofs.lemmas.Grind.{common_steps}
use Rattle.kat_rules.specs.Alike.{are_alike, are_equal}
use Rattle.kat_rules.specs.Orders.{rank}
use Rattle.kat_rules.specs.Tests.{is_same_list}
use Rattle.kat_rules.specs.declared.tokens.Token.{Token}
use Rattle.kat_rules.proofs.Ranked.{list_itself, one_list, token_back, token_from}

pub and_parts : (a b : Bool) → a && b ≡ true → (a ≡ true) × (b ≡ true)
and_parts true b h = (refl, h)
and_parts false b h = absurd cc

pub one_number : (a b : ℕ) → a == b ≡ true → a ≡ b
one_number a b h = grind (arith, common_steps)

pub number_itself : (a : ℕ) → a == a ≡ true
number_itself a = grind (arith, common_steps)

equal_one : (u v : List ℕ) → are_equal u v ≡ true → u ≡ v
equal_one [] [] h = refl
equal_one [] (b ∷ v) h = absurd cc
equal_one (a ∷ u) [] h = absurd cc
equal_one (a ∷ u) (b ∷ v) h =
    let p = and_parts (a == b) (are_equal u v) h in
    let e = one_number a b p.0 in
    let f = equal_one u v p.1 in
    cc

equal_itself : (u : List ℕ) → are_equal u u ≡ true
equal_itself [] = refl
equal_itself (a ∷ u) = rw (number_itself a) (equal_itself u)

alike_one : (u v : List Token) → are_alike u v ≡ true → u ≡ v
alike_one [] [] h = refl
alike_one [] (b ∷ v) h = absurd cc
alike_one (a ∷ u) [] h = absurd cc
alike_one (a ∷ u) (b ∷ v) h =
    let p = and_parts (are_equal (rank a) (rank b)) (are_alike u v) h in
    let e : a ≡ b = sym (token_back a) ∙ ap token_from (equal_one (rank a) (rank b) p.0) ∙ token_back b in
    let f = alike_one u v p.1 in
    cc

alike_itself : (u : List Token) → are_alike u u ≡ true
alike_itself [] = refl
alike_itself (a ∷ u) = rw (equal_itself (rank a)) (alike_itself u)

same_truth : (p q : Bool) → (p ≡ true → q ≡ true) → (q ≡ true → p ≡ true) → p ≡ q
same_truth true q h k = sym (h refl)
same_truth false true h k = k refl
same_truth false false h k = refl

pub alike_same : (u v : List Token) → are_alike u v ≡ is_same_list u v
alike_same u v =
    same_truth (are_alike u v) (is_same_list u v)
    (λ h. ap (λ (w : List Token). is_same_list u w) (sym (alike_one u v h)) ∙ list_itself u)
    (λ h. ap (λ (w : List Token). are_alike u w) (sym (one_list u v h)) ∙ alike_itself u)
