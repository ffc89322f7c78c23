-- Sums over lists.
use Rattle.std.proofs.Common.{◌≡◌, ℕ, ◌+◌, ◌≤◌, ◌⊎◌, inl, inr, ⊎_elim, List, [], ◌∷◌, refl, sym, subst, arith}
use Rattle.kat_type.specs.Lists.{Has, IsOnce}
use Rattle.kat_design.specs.Tallied.{total}

-- zs is ys without one x
pub data Takes {X : Type 0} (x : X) : List X → List X → Type 0 where
  first : {zs : List X} → Takes x (x ∷ zs) zs
  later : {ys zs : List X} (y : X) → Takes x ys zs → Takes x (y ∷ ys) (y ∷ zs)

pub record Taken {X : Type 0} (x : X) (ys : List X) : Type 0 where
  pub rest : List X
  pub takes : Takes x ys rest

pub taken : {X : Type 0} (ys : List X) (x : X) → Has ys x → Taken x ys
taken [] x h = absurd h
taken {X} (y ∷ ys) x (inl e) = subst (λ z. Taken x (z ∷ ys)) (sym e) (record { rest = ys; takes = first })
taken (y ∷ ys) x (inr h) = let t = taken ys x h in record { rest = y ∷ t.rest; takes = later y t.takes }

pub total_taken : {X : Type 0} (f : X → ℕ) (x : X) (ys zs : List X) → Takes x ys zs → total f ys ≡ f x + total f zs
total_taken f x _ _ first = refl
total_taken f x _ _ (later {ys} {zs} y t) =
    let e : total f ys ≡ f x + total f zs = total_taken f x ys zs t in omega arith

pub has_taken : {X : Type 0} (x z : X) (ys zs : List X) → Takes x ys zs → Has ys z → (x ≡ z) ⊎ Has zs z
has_taken x z _ _ first h = h
has_taken x z _ _ (later {ys} {zs} y t) (inl e) = inr (inl e)
has_taken x z _ _ (later {ys} {zs} y t) (inr h) = ⊎_elim (λ e. inl e) (λ k. inr (inr k)) (has_taken x z ys zs t h)

-- what counts in one list is in the other: its sum is at most the other's
pub total_among : {X : Type 0} (f : X → ℕ) (xs ys : List X) → IsOnce xs → ((x : X) → Has xs x → (f x ≡ 0) ⊎ Has ys x) → total f xs ≤ total f ys
total_among f [] ys once among = omega arith
total_among {X} f (x ∷ xs) ys once among =
    ⊎_elim
    (λ (none : f x ≡ 0). let rest : total f xs ≤ total f ys = total_among f xs ys once.1 (λ z h. among z (inr h)) in omega arith)
    (λ (has : Has ys x).
    let t = taken ys x has in
    let whole : total f ys ≡ f x + total f t.rest = total_taken f x ys t.rest t.takes in
    let rest : total f xs ≤ total f t.rest = total_among f xs t.rest once.1 (λ z h.
    ⊎_elim (λ none. inl none) (λ k. ⊎_elim (λ (e : x ≡ z). absurd (once.0 (subst (λ w. Has xs w) (sym e) h))) (λ i. inr i) (has_taken x z ys t.rest t.takes k)) (among z (inr h))) in
    omega arith)
    (among x (inl refl))
