-- The members of all histories are histories.
use Rattle.std.proofs.Common.{◌≡◌, ℕ, zero, suc, ◌+◌, ◌<◌, inl, inr, ⊎_elim, List, [], ◌∷◌, map, arith, refl, sym, ◌∙◌, ap, subst, Some}
use Rattle.std.specs.Prelude.{All, slice_get}
use Rattle.std.specs.Option.{option_map}
use Rattle.std.proofs.lemmas.List.Elements.{All-cons, All-head, All-tail}
use Rattle.kat_num.specs.declared.values.Sort.{Sort}
use Rattle.kat_num.specs.declared.values.Value.{Value}
use Rattle.kat_design.specs.Sorted.{AreMatched}
use Rattle.kat_type.specs.Lists.{Has}
use Rattle.kat_type.proofs.Lists.{has_behind, has_either, has_front}
use Rattle.kat_type.specs.declared.done.Done.{Done}
use Rattle.kat_type.specs.declared.signatures.OpSig.{OpSig}
use Rattle.kat_type.specs.declared.signatures.Signature.{Signature}
use Rattle.kat_histories.specs.Choices.{headed, one_of_each}
use Rattle.kat_histories.specs.Histories.{done_at, dones_at, stamps}
use Rattle.kat_histories.specs.Laws.{IsTried, stamp_of}
use Rattle.kat_histories.specs.Pools.{arguments_of, call_with, calls_from, calls_of, op_sorts, pool}
use Rattle.kat_histories.specs.declared.calls.Call.{Call}
use Rattle.kat_histories.specs.declared.stamps.Stamp.{Stamp}
use Rattle.kat_histories.proofs.Members.{flat_has, has_flat, has_map, mapped}

-- arguments are of the pools
abbrev pub AreOfPools : List Value → List Sort → Type 0
AreOfPools args sorts = AreMatched (λ (value : Value) (s : Sort). Has (pool s) value) args sorts

args_of_pools : (sorts : List Sort) (args : List Value) → Has (arguments_of sorts) args → AreOfPools args sorts
args_of_pools [] args (inl e) = subst (λ a. AreOfPools a []) e tt
args_of_pools [] args (inr h) = absurd h
args_of_pools (s ∷ sorts) args h =
    let first = flat_has (λ x. map (headed x) (arguments_of sorts)) (pool s) args h in
    let rest = mapped (headed first.0) (arguments_of sorts) args first.2 in
    subst (λ a. AreOfPools a (s ∷ sorts)) rest.2 (first.1, args_of_pools sorts rest.0 rest.1)

-- a call of items numbered from here on
pub record IsCallFrom (number : ℕ) (items : List (List Sort)) (call : Call) : Type 0 where
  pub place : ℕ
  pub sorts : List Sort
  pub found : slice_get items place ≡ Some sorts
  pub numbered : call.number ≡ number + place
  pub args : AreOfPools call.args sorts

pub call_from : (number : ℕ) (items : List (List Sort)) (call : Call) → Has (calls_from number items) call → IsCallFrom number items call
call_from number [] call h = absurd h
call_from number (sorts ∷ items) call h =
    ⊎_elim here (λ k. behind (call_from (number + 1) items call k)) (has_either (map (call_with number) (arguments_of sorts)) (calls_from (number + 1) items) call h) where
      here : Has (map (call_with number) (arguments_of sorts)) call → IsCallFrom number (sorts ∷ items) call
      here k =
          let m = mapped (call_with number) (arguments_of sorts) call k in
          subst (λ c. IsCallFrom number (sorts ∷ items) c) m.2
          (record { place = 0; sorts = sorts; found = refl; numbered = omega arith; args = args_of_pools sorts m.0 m.1 })

      behind : IsCallFrom (number + 1) items call → IsCallFrom number (sorts ∷ items) call
      behind c = record { place = suc c.place; sorts = c.sorts; found = c.found; numbered = let n = c.numbered in omega (arith, n); args = c.args }

-- what is got of a map was made of what is got of the list
pub got_made : {A B : Type 0} (f : A → B) (xs : List A) (place : ℕ) (y : B) → slice_get (map f xs) place ≡ Some y → (x : A) × (slice_get xs place ≡ Some x) × (f x ≡ y)
got_made f [] place y e = absurd (cc e)
got_made f (x ∷ xs) zero y e = (x, refl, some_same e) where
  some_same : {Z : Type 0} {a b : Z} → Some a ≡ Some b → a ≡ b
  some_same h = cc h
got_made f (x ∷ xs) (suc place) y e = got_made f xs place y e

tried : (sig : Signature) (at : Stamp) (call : Call) → Has stamps at → Has (calls_of sig) call → IsTried sig (done_at at call)
tried sig at call has called =
    let c = call_from 0 (op_sorts sig.ops) call called in
    let op = got_made (λ (op : OpSig). op.sorts) sig.ops c.place c.sorts c.found in
    record {
      op = op.0;
      found = ap (slice_get sig.ops) (let n = c.numbered in omega (arith, n)) ∙ op.1;
      args = subst (λ sorts. AreOfPools call.args sorts) (sym op.2) c.args;
      stamped = has;
    }

-- the operations of a history and its stamps
pub record AreTried (sig : Signature) (ops : List Done) (ats : List Stamp) : Type 0 where
  pub stamped : map stamp_of ops ≡ ats
  pub tried : All (IsTried sig) ops

none_tried : (sig : Signature) → All (IsTried sig) []
none_tried sig k d lt = absurd (none k lt) where
  none : (k : ℕ) → k < 0 → ⊥
  none k h = omega (arith, h)

pub all_tried : (sig : Signature) (ats : List Stamp) (ops : List Done) → ((at : Stamp) → Has ats at → Has stamps at)
    → Has (one_of_each (map (dones_at (calls_of sig)) ats)) ops → AreTried sig ops ats
all_tried sig [] ops among (inl e) = subst (λ o. AreTried sig o []) e (record { stamped = refl; tried = none_tried sig })
all_tried sig [] ops among (inr h) = absurd h
all_tried sig (at ∷ ats) ops among h =
    let first = flat_has (λ x. map (headed x) (one_of_each (map (dones_at (calls_of sig)) ats))) (dones_at (calls_of sig) at) ops h in
    let rest = mapped (headed first.0) (one_of_each (map (dones_at (calls_of sig)) ats)) ops first.2 in
    let call = mapped (done_at at) (calls_of sig) first.0 first.1 in
    let more = all_tried sig ats rest.0 (λ a k. among a (inr k)) rest.1 in
    subst (λ o. AreTried sig o (at ∷ ats)) rest.2 (subst (λ d. AreTried sig (d ∷ rest.0) (at ∷ ats)) call.2 (record {
      stamped = ap (λ s. at ∷ s) more.stamped;
      tried = All-cons (IsTried sig) (done_at at call.0) rest.0 (tried sig at call.0 (among at (inl refl)) call.1) more.tried;
    }))

-- tried operations are choices
args_had : (args : List Value) (sorts : List Sort) → AreOfPools args sorts → Has (arguments_of sorts) args
args_had [] [] m = inl refl
args_had [] (s ∷ sorts) m = absurd m
args_had (v ∷ args) [] m = absurd m
args_had (v ∷ args) (s ∷ sorts) m =
    has_flat (λ x. map (headed x) (arguments_of sorts)) (pool s) v (v ∷ args) m.0 (has_map (headed v) (arguments_of sorts) args (args_had args sorts m.1))

call_had : (number place : ℕ) (items : List (List Sort)) (sorts : List Sort) (args : List Value) → slice_get items place ≡ Some sorts → AreOfPools args sorts
    → Has (calls_from number items) (call_with (number + place) args)
call_had number place [] sorts args e m = absurd (cc e)
call_had number zero (s ∷ items) sorts args e m =
    has_front (map (call_with number) (arguments_of s)) (calls_from (number + 1) items) (call_with (number + 0) args)
    (subst (λ (n : ℕ). Has (map (call_with number) (arguments_of s)) (call_with n args)) (omega arith)
    (has_map (call_with number) (arguments_of s) args (args_had args s (subst (λ (l : List Sort). AreOfPools args l) (sym (some_same e)) m)))) where
      some_same : {Z : Type 0} {a b : Z} → Some a ≡ Some b → a ≡ b
      some_same h = cc h
call_had number (suc place) (s ∷ items) sorts args e m =
    has_behind (map (call_with number) (arguments_of s)) (calls_from (number + 1) items) (call_with (number + suc place) args)
    (subst (λ (n : ℕ). Has (calls_from (number + 1) items) (call_with n args)) (omega arith) (call_had (number + 1) place items sorts args e m))

done_had : (sig : Signature) (done : Done) → IsTried sig done → Has (dones_at (calls_of sig) (stamp_of done)) done
done_had sig done t =
    has_map (done_at (stamp_of done)) (calls_of sig) (call_with done.op done.args)
    (subst (λ (n : ℕ). Has (calls_of sig) (call_with n done.args)) (omega arith)
    (call_had 0 done.op (op_sorts sig.ops) t.op.sorts done.args (made_got (λ (op : OpSig). op.sorts) sig.ops done.op t.op t.found) t.args)) where
      made_got : {A B : Type 0} (f : A → B) (xs : List A) (place : ℕ) (x : A) → slice_get xs place ≡ Some x → slice_get (map f xs) place ≡ Some (f x)
      made_got f [] place x e = absurd (cc e)
      made_got f (y ∷ xs) zero x e = ap (λ o. option_map f o) e
      made_got f (y ∷ xs) (suc place) x e = made_got f xs place x e

pub tried_has : (sig : Signature) (ops : List Done) → All (IsTried sig) ops → Has (one_of_each (map (dones_at (calls_of sig)) (map stamp_of ops))) ops
tried_has sig [] all = inl refl
tried_has sig (done ∷ ops) all =
    has_flat (λ x. map (headed x) (one_of_each (map (dones_at (calls_of sig)) (map stamp_of ops)))) (dones_at (calls_of sig) (stamp_of done)) done (done ∷ ops)
    (done_had sig done (All-head (IsTried sig) done ops all))
    (has_map (headed done) (one_of_each (map (dones_at (calls_of sig)) (map stamp_of ops))) ops (tried_has sig ops (All-tail (IsTried sig) done ops all)))
