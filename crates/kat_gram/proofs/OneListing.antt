-- A type has one listing.
use Rattle.std.proofs.Common.{◌≡◌, ℕ, ◌⊎◌, inl, inr, List, [], ◌∷◌, refl, sym, ◌∙◌, subst, arith}
use Rattle.kat_design.specs.Designs.{DesignForm}
use Rattle.kat_design.specs.Sizes.{size_of}
use Rattle.kat_rules.specs.Constants.{constants_of}
use Rattle.kat_rules.specs.Listed.{IsBefore, IsListing}
use Rattle.kat_rules.specs.Tokens.{design_tokens}
use Rattle.kat_rules.specs.declared.constants.Constants.{Constants}
use Rattle.kat_rules.specs.declared.kind_sets.Kinds.{Kinds}
use Rattle.kat_rules.proofs.Comparing.{never_both}
use Rattle.kat_type.specs.Types.{TypeForm}
use Rattle.kat_walk.specs.Machines.{Ascends, IsOneOf}

-- two ascending lists with the same members have the same first one
one_first : {X : Type 0} (less : X → X → Type 0) → ((a b : X) → less a b → less b a → ⊥) → (x y : X) (xs ys : List X) → Ascends less (x ∷ xs) → Ascends less (y ∷ ys)
    → (x ≡ y) ⊎ IsOneOf x ys → (y ≡ x) ⊎ IsOneOf y xs → x ≡ y
one_first less never x y xs ys a b (inl e) q = e
one_first less never x y xs ys a b (inr p) (inl e) = sym e
one_first less never x y xs ys a b (inr p) (inr q) = absurd (never x y (a.0 y q) (b.0 x p))

-- what comes after the first one isn't the first one
behind_first : {X : Type 0} (less : X → X → Type 0) → ((a b : X) → less a b → less b a → ⊥) → (x y v : X) (ys : List X) → x ≡ y → less x v → (v ≡ y) ⊎ IsOneOf v ys → IsOneOf v ys
behind_first less never x y v ys same l (inl e) =
    let twice : less x x = subst (λ (z : _). less x z) (e ∙ sym same) l in absurd (never x x twice twice)
behind_first less never x y v ys same l (inr one) = one

-- and so they are one list
one_list : {X : Type 0} (less : X → X → Type 0) → ((a b : X) → less a b → less b a → ⊥) → (xs ys : List X) → Ascends less xs → Ascends less ys
    → ((x : X) → IsOneOf x xs → IsOneOf x ys) → ((x : X) → IsOneOf x ys → IsOneOf x xs) → xs ≡ ys
one_list less never [] [] a b there back = refl
one_list less never [] (y ∷ ys) a b there back = absurd (back y (inl refl))
one_list less never (x ∷ xs) [] a b there back = absurd (there x (inl refl))
one_list less never (x ∷ xs) (y ∷ ys) a b there back =
    let same = one_first less never x y xs ys a b (there x (inl refl)) (back y (inl refl)) in
    let rest =
    one_list less never xs ys a.1 b.1
    (λ v one. behind_first less never x y v ys same (a.0 v one) (there v (inr one)))
    (λ v one. behind_first less never y x v xs (sym same) (b.0 v one) (back v (inr one))) in
    λ i. same i ∷ rest i

pub never_before : (cs : Constants) (d e : DesignForm) → IsBefore cs d e → IsBefore cs e d → ⊥
never_before cs d e (inl l) (inl m) = omega (arith, l, m)
never_before cs d e (inl l) (inr m) = let same : size_of e ≡ size_of d = m.0 in omega (arith, l, same)
never_before cs d e (inr l) (inl m) = let same : size_of d ≡ size_of e = l.0 in omega (arith, m, same)
never_before cs d e (inr l) (inr m) = never_both (design_tokens cs d) (design_tokens cs e) l.1 m.1

pub one_listing : (ty : TypeForm) (n : ℕ) (kinds : Kinds) (some other : List DesignForm) → IsListing ty n kinds some → IsListing ty n kinds other → some ≡ other
one_listing ty n kinds some other a b =
    one_list (IsBefore (constants_of ty.fields)) (never_before (constants_of ty.fields)) some other a.ascends b.ascends
    (λ d one. (b.exactly d).1 ((a.exactly d).0 one))
    (λ d one. (a.exactly d).1 ((b.exactly d).0 one))
