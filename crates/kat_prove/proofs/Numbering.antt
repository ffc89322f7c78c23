-- Numbers that are pushed one after the other.
use Rattle.std.proofs.Common.{◌≡◌, ℕ, suc, ◌+◌, ◌-◌, ◌<◌, List, [], ◌∷◌, ◌++◌, ap, ◌∙◌, arith}
use Rattle.std.proofs.lemmas.List.{append_assoc}
use Rattle.kat_prove.specs.Trials.{numbers_from}

numbers_here : (i count : ℕ) → i < count → i ∷ numbers_from (i + 1) (count - (i + 1)) ≡ numbers_from i (count - i)
numbers_here i count h =
    let more : suc (count - (i + 1)) ≡ count - i = omega (arith, h) in
    let next : i + 1 ≡ suc i = omega arith in
    ap (λ m. i ∷ numbers_from m (count - (i + 1))) next ∙ ap (numbers_from i) more

pub number_pushed : (items new : List ℕ) (i count n : ℕ) → i < count → items ++ numbers_from i (count - i) ≡ numbers_from 0 count → n ≡ i → new ≡ items ++ n ∷ []
    → new ++ numbers_from (i + 1) (count - (i + 1)) ≡ numbers_from 0 count
number_pushed items new i count n less h same is =
    let rest = numbers_from (i + 1) (count - (i + 1)) in
    ap (λ xs. xs ++ rest) is ∙ append_assoc items (n ∷ []) rest ∙ ap (λ z. items ++ z ∷ rest) same ∙ ap (λ xs. items ++ xs) (numbers_here i count less) ∙ h
