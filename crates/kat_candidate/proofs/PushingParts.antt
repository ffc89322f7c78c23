-- Lists that are made by pushing.
use Rattle.std.proofs.Common.{◌≡◌, ℕ, zero, suc, ◌+◌, ◌-◌, ◌<◌, List, [], ◌∷◌, ◌++◌, length, drop, refl, ap, ◌∙◌, arith}
use Rattle.std.proofs.lemmas.List.{append_assoc}
use Rattle.kat_candidate.specs.Parts.{leaves_from, numbers_from}
use Rattle.kat_design.specs.declared.kinds.Kind.{Kind}
use Rattle.kat_relation.specs.declared.relations.LeafRef.{LeafRef}

numbers_here : (i count : ℕ) → i < count → i ∷ numbers_from (i + 1) (count - (i + 1)) ≡ numbers_from i (count - i)
numbers_here i count h =
    let more : suc (count - (i + 1)) ≡ count - i = omega (arith, h) in
    let next : i + 1 ≡ suc i = omega arith in
    ap (λ m. i ∷ numbers_from m (count - (i + 1))) next ∙ ap (numbers_from i) more

pushed : {A : Type 0} (items new rest left whole : List A) (x y : A) → items ++ left ≡ whole → x ≡ y → new ≡ items ++ x ∷ [] → y ∷ rest ≡ left → new ++ rest ≡ whole
pushed items new rest left whole x y h same is here =
    ap (λ xs. xs ++ rest) is ∙ append_assoc items (x ∷ []) rest ∙ ap (λ z. items ++ z ∷ rest) same ∙ ap (λ xs. items ++ xs) here ∙ h

pub number_pushed : (items new : List ℕ) (i count n : ℕ) → i < count → items ++ numbers_from i (count - i) ≡ numbers_from 0 count → n ≡ i → new ≡ items ++ n ∷ []
    → new ++ numbers_from (i + 1) (count - (i + 1)) ≡ numbers_from 0 count
number_pushed items new i count n less h same is = pushed items new (numbers_from (i + 1) (count - (i + 1))) (numbers_from i (count - i)) (numbers_from 0 count) n i h same is (numbers_here i count less)

leaf_here : (c from i : ℕ) (kinds : List Kind) → i < length kinds → record { component = c; leaf = from } ∷ leaves_from c (suc from) (drop (suc i) kinds) ≡ leaves_from c from (drop i kinds)
leaf_here c from i [] h = absurd (omega (arith, h))
leaf_here c from zero (k ∷ ks) h = refl
leaf_here c from (suc i) (k ∷ ks) h = leaf_here c from i ks (omega (arith, h))

pub leaf_pushed : (items new whole : List LeafRef) (c i n : ℕ) (kinds : List Kind) → i < length kinds → items ++ leaves_from c i (drop i kinds) ≡ whole → n ≡ i → new ≡ items ++ record { component = c; leaf = n } ∷ []
    → new ++ leaves_from c (i + 1) (drop (i + 1) kinds) ≡ whole
leaf_pushed items new whole c i n kinds less h same is =
    let next : i + 1 ≡ suc i = omega arith in
    let here : record { component = c; leaf = i } ∷ leaves_from c (i + 1) (drop (i + 1) kinds) ≡ leaves_from c i (drop i kinds) =
    ap (λ (m : ℕ). record { component = c; leaf = i } ∷ leaves_from c m (drop m kinds)) next ∙ leaf_here c i i kinds less in
    pushed items new (leaves_from c (i + 1) (drop (i + 1) kinds)) (leaves_from c i (drop i kinds)) whole (record { component = c; leaf = n }) (record { component = c; leaf = i }) h
    (ap (λ (m : ℕ). record { component = c; leaf = m }) same) is here
