-- What the union of two lists of operations has.
use Rattle.std.proofs.Common.{◌≡◌, Bool, true, false, ◌⊎◌, inl, inr, ⊎_elim, List, [], ◌∷◌, refl, sym, ap, subst, cond}
use Rattle.std.specs.Prelude.{◌||◌, ◌&&◌, ◌==◌, not, filter}
use Rattle.std.specs.List.{list_any}
use Rattle.std.proofs.lemmas.Bool.{eq-eqb, cases_Bool}
use Rattle.std.proofs.lemmas.Bool.Decides.{Decides-int_eq}
use Rattle.kat_num.specs.declared.values.Value.{Value}
use Rattle.kat_num.specs.declared.values.Value.TheVariants as value
use Rattle.kat_type.specs.Unions.{is_same, is_same_value, are_same_values, united}
use Rattle.kat_type.specs.declared.done.Done.{Done}
use Rattle.kat_type.specs.Lists.{Has, IsOnce}
use Rattle.kat_type.proofs.Lists.{has_front, has_behind, has_either, once_append}
use Rattle.kat_type.proofs.Same.{same-done}

value_itself : (a : Value) → is_same_value a a ≡ true
value_itself (value.Bool true) = refl
value_itself (value.Bool false) = refl
value_itself (value.Num n) = (Decides-int_eq n n).1 refl
value_itself (value.Name n) = eq-eqb n n refl

all_true : (a b : Bool) → a ≡ true → b ≡ true → (a && b) ≡ true
all_true true b e f = f
all_true false b e f = absurd cc

pub values_itself : (args : List Value) → are_same_values args args ≡ true
values_itself [] = refl
values_itself (a ∷ args) = all_true (is_same_value a a) (are_same_values args args) (value_itself a) (values_itself args)

pub done_itself : (one : Done) → is_same one one ≡ true
done_itself one =
    all_true ((one.replica == one.replica) && (one.time == one.time) && (one.op == one.op)) (are_same_values one.args one.args)
    (all_true ((one.replica == one.replica) && (one.time == one.time)) (one.op == one.op)
    (all_true (one.replica == one.replica) (one.time == one.time) (eq-eqb one.replica one.replica refl) (eq-eqb one.time one.time refl))
    (eq-eqb one.op one.op refl))
    (values_itself one.args)

any_from : (a b : Bool) (P Q : Type 0) → (a ≡ true → P) → (b ≡ true → Q) → (a || b) ≡ true → P ⊎ Q
any_from true b P Q f g e = inl (f refl)
any_from false b P Q f g e = inr (g e)

pub any_has : (xs : List Done) (one : Done) → list_any (is_same one) xs ≡ true → Has xs one
any_has [] one h = absurd cc
any_has (x ∷ xs) one h = any_from (is_same one x) (list_any (is_same one) xs) (x ≡ one) (Has xs one) (λ e. sym (same-done one x e)) (λ e. any_has xs one e) h

left_true : (a b : Bool) → a ≡ true → (a || b) ≡ true
left_true true b e = refl
left_true false b e = absurd cc

right_true : (a b : Bool) → b ≡ true → (a || b) ≡ true
right_true true b e = refl
right_true false b e = e

pub has_any : (xs : List Done) (one : Done) → Has xs one → list_any (is_same one) xs ≡ true
has_any [] one h = absurd h
has_any (x ∷ xs) one (inl e) = left_true (is_same one x) (list_any (is_same one) xs) (subst (λ y. is_same one y ≡ true) (sym e) (done_itself one))
has_any (x ∷ xs) one (inr h) = right_true (is_same one x) (list_any (is_same one) xs) (has_any xs one h)

-- a filter of a list
kept_from : {X : Type 0} (b : Bool) (y x : X) (ys : List X) → Has (cond b (y ∷ ys) ys) x → ((b ≡ true) × (y ≡ x)) ⊎ Has ys x
kept_from true y x ys (inl e) = inl (refl, e)
kept_from true y x ys (inr h) = inr h
kept_from false y x ys h = inr h

pub filter_has : {X : Type 0} (p : X → Bool) (ys : List X) (x : X) → Has (filter p ys) x → Has ys x × (p x ≡ true)
filter_has p [] x h = absurd h
filter_has {X} p (y ∷ ys) x h =
    ⊎_elim (λ (k : (p y ≡ true) × (y ≡ x)). (inl k.1, subst (λ z. p z ≡ true) k.1 k.0))
    (λ k. let r = filter_has p ys x k in (inr r.0, r.1))
    (kept_from (p y) y x (filter p ys) h)

keeps_at : {X : Type 0} (b : Bool) (y x : X) (ys : List X) → (y ≡ x) → b ≡ true → Has (cond b (y ∷ ys) ys) x
keeps_at true y x ys e f = inl e
keeps_at false y x ys e f = absurd cc

keeps_on : {X : Type 0} (b : Bool) (y x : X) (ys : List X) → Has ys x → Has (cond b (y ∷ ys) ys) x
keeps_on true y x ys h = inr h
keeps_on false y x ys h = h

pub has_filter : {X : Type 0} (p : X → Bool) (ys : List X) (x : X) → Has ys x → p x ≡ true → Has (filter p ys) x
has_filter p [] x h e = absurd h
has_filter {X} p (y ∷ ys) x (inl i) e = keeps_at (p y) y x (filter p ys) i (subst (λ z. p z ≡ true) (sym i) e)
has_filter p (y ∷ ys) x (inr h) e = keeps_on (p y) y x (filter p ys) (has_filter p ys x h e)

once_from : {X : Type 0} (b : Bool) (y : X) (ys : List X) → (Has ys y → ⊥) → IsOnce ys → IsOnce (cond b (y ∷ ys) ys)
once_from true y ys n h = (n, h)
once_from false y ys n h = h

pub once_filter : {X : Type 0} (p : X → Bool) (ys : List X) → IsOnce ys → IsOnce (filter p ys)
once_filter p [] h = tt
once_filter p (y ∷ ys) h = once_from (p y) y (filter p ys) (λ has. h.0 (filter_has p ys y has).0) (once_filter p ys h.1)

pub has_mine : (xs ys : List Done) (one : Done) → Has xs one → Has (united xs ys) one
has_mine xs ys one h = has_front xs (filter (λ done. not (list_any (is_same done) xs)) ys) one h

pub has_theirs : (xs ys : List Done) (one : Done) → Has ys one → Has (united xs ys) one
has_theirs xs ys one h =
    ⊎_elim (λ (there : list_any (is_same one) xs ≡ true). has_mine xs ys one (any_has xs one there))
    (λ (not_there : list_any (is_same one) xs ≡ false). has_behind xs (filter (λ done. not (list_any (is_same done) xs)) ys) one
    (has_filter (λ done. not (list_any (is_same done) xs)) ys one h (ap not not_there)))
    (cases_Bool (list_any (is_same one) xs))

pub has_united : (xs ys : List Done) (one : Done) → Has (united xs ys) one → Has xs one ⊎ Has ys one
has_united xs ys one h =
    ⊎_elim (λ k. inl k) (λ k. inr (filter_has (λ done. not (list_any (is_same done) xs)) ys one k).0)
    (has_either xs (filter (λ done. not (list_any (is_same done) xs)) ys) one h)

not_both : (b : Bool) → b ≡ true → not b ≡ true → ⊥
not_both true e f = cc
not_both false e f = cc

pub once_united : (xs ys : List Done) → IsOnce xs → IsOnce ys → IsOnce (united xs ys)
once_united xs ys h k =
    let new = filter (λ done. not (list_any (is_same done) xs)) ys in
    once_append xs new h (once_filter (λ done. not (list_any (is_same done) xs)) ys k)
    (λ one i j. not_both (list_any (is_same one) xs) (has_any xs one i) (filter_has (λ done. not (list_any (is_same done) xs)) ys one j).1)
