-- A list in all orders: they are the lists with the same elements, each once.
use Rattle.std.proofs.Common.{◌≡◌, ◌⊎◌, inl, inr, ⊎_elim, List, [], ◌∷◌, refl, sym, ◌∙◌, subst}
use Rattle.kat_histories.specs.Choices.{headed}
use Rattle.kat_type.specs.Lists.{Has, HaveSame, IsOnce}
use Rattle.kat_histories.specs.Orders.{orders_of, put_in}
use Rattle.kat_histories.proofs.Members.{flat_has, has_flat, has_map, mapped}

pub first_put : {X : Type 0} (x : X) (xs : List X) → Has (put_in x xs) (x ∷ xs)
first_put x [] = inl refl
first_put x (y ∷ ys) = inl refl

-- a list without one of its elements
record Removes {X : Type 0} (x : X) (whole : List X) : Type 0 where
  pub rest : List X
  pub put : Has (put_in x rest) whole
  pub once : IsOnce rest
  pub gone : Has rest x → ⊥
  pub back : (y : X) → Has rest y → Has whole y
  pub on : (y : X) → Has whole y → (x ≡ y) ⊎ Has rest y

removes : {X : Type 0} (x : X) (whole : List X) → IsOnce whole → Has whole x → Removes x whole
removes x [] once h = absurd h
removes {X} x (y ∷ ys) once (inl e) = record {
  rest = ys;
  put = subst (λ z. Has (put_in x ys) (z ∷ ys)) (sym e) (first_put x ys);
  once = once.1;
  gone = subst (λ z. Has ys z → ⊥) e once.0;
  back = λ z h. inr h;
  on = λ z h. ⊎_elim (λ i. inl (sym e ∙ i)) (λ k. inr k) h;
}
removes {X} x (y ∷ ys) once (inr h) =
    let r : Removes x ys = removes x ys once.1 h in
    record {
      rest = y ∷ r.rest;
      put = inr (has_map (headed y) (put_in x r.rest) ys r.put);
      once = (λ k. once.0 (r.back y k), r.once);
      gone = λ k. ⊎_elim (λ (e : y ≡ x). once.0 (subst (λ z. Has ys z) (sym e) h)) r.gone k;
      back = λ z k. ⊎_elim (λ e. inl e) (λ i. inr (r.back z i)) k;
      on = λ z k. ⊎_elim (λ e. inr (inl e)) (λ i. ⊎_elim (λ e. inl e) (λ j. inr (inr j)) (r.on z i)) k;
    }

-- each list with the same elements is one of the orders
pub order_there : {X : Type 0} (ones arranged : List X) → IsOnce ones → IsOnce arranged → HaveSame arranged ones → Has (orders_of ones) arranged
order_there [] [] once also same = inl refl
order_there [] (y ∷ ys) once also same = absurd (same.0 y (inl refl))
order_there {X} (x ∷ xs) arranged once also same =
    let r : Removes x arranged = removes x arranged also (same.1 x (inl refl)) in
    let rest_same : HaveSame r.rest xs = (
      λ y h. ⊎_elim (λ (e : x ≡ y). absurd (r.gone (subst (λ z. Has r.rest z) (sym e) h))) (λ k. k) (same.0 y (r.back y h)),
      λ y h. ⊎_elim (λ (e : x ≡ y). absurd (once.0 (subst (λ z. Has xs z) (sym e) h))) (λ k. k) (r.on y (same.1 y (inr h))),
    ) in
    has_flat (put_in x) (orders_of xs) r.rest arranged (order_there xs r.rest once.1 r.once rest_same) r.put

-- x was put somewhere into a list
record Puts {X : Type 0} (x : X) (ones whole : List X) : Type 0 where
  pub once : (Has ones x → ⊥) → IsOnce ones → IsOnce whole
  pub on : (y : X) → Has whole y → (x ≡ y) ⊎ Has ones y
  pub back : (y : X) → (x ≡ y) ⊎ Has ones y → Has whole y

puts : {X : Type 0} (x : X) (ones whole : List X) → Has (put_in x ones) whole → Puts x ones whole
puts {X} x [] whole (inl e) = subst (λ w. Puts x [] w) e (record { once = λ n o. (λ h. h, tt); on = λ y h. h; back = λ y h. h })
puts x [] whole (inr h) = absurd h
puts {X} x (y ∷ ys) whole (inl e) = subst (λ w. Puts x (y ∷ ys) w) e (record { once = λ n o. (n, o); on = λ z h. h; back = λ z h. h })
puts {X} x (y ∷ ys) whole (inr h) =
    let m = mapped (headed y) (put_in x ys) whole h in
    let p : Puts x ys m.0 = puts x ys m.0 m.1 in
    subst (λ w. Puts x (y ∷ ys) w) m.2 (record {
      once = λ n o. (λ k. ⊎_elim (λ (e : x ≡ y). n (inl (sym e))) o.0 (p.on y k), p.once (λ k. n (inr k)) o.1);
      on = λ z k. ⊎_elim (λ e. inr (inl e)) (λ i. ⊎_elim (λ e. inl e) (λ j. inr (inr j)) (p.on z i)) k;
      back = λ z k. ⊎_elim (λ e. inr (p.back z (inl e))) (λ i. ⊎_elim (λ e. inl e) (λ j. inr (p.back z (inr j))) i) k;
    })

-- each of the orders has the same elements, each once
pub order_same : {X : Type 0} (ones arranged : List X) → Has (orders_of ones) arranged → HaveSame arranged ones
order_same [] arranged (inl e) = subst (λ a. HaveSame a []) e (λ y h. h, λ y h. h)
order_same [] arranged (inr h) = absurd h
order_same {X} (x ∷ xs) arranged h =
    let m = flat_has (put_in x) (orders_of xs) arranged h in
    let p : Puts x m.0 arranged = puts x m.0 arranged m.2 in
    let same : HaveSame m.0 xs = order_same xs m.0 m.1 in (
      λ y k. ⊎_elim (λ e. inl e) (λ i. inr (same.0 y i)) (p.on y k),
      λ y k. p.back y (⊎_elim (λ e. inl e) (λ i. inr (same.1 y i)) k),
    )

pub order_once : {X : Type 0} (ones arranged : List X) → IsOnce ones → Has (orders_of ones) arranged → IsOnce arranged
order_once [] arranged once (inl e) = subst IsOnce e tt
order_once [] arranged once (inr h) = absurd h
order_once {X} (x ∷ xs) arranged once h =
    let m = flat_has (put_in x) (orders_of xs) arranged h in
    let p : Puts x m.0 arranged = puts x m.0 arranged m.2 in
    let same : HaveSame m.0 xs = order_same xs m.0 m.1 in
    p.once (λ k. once.0 (same.0 x k)) (order_once xs m.0 once.1 m.1)
