-- A machine that leaves tokens out accepts what the whole machine accepts and the pruner keeps.
use Rattle.std.proofs.Common.{◌≡◌, ℕ, ◌+◌, ◌⊎◌, inl, inr, Bool, true, false, ◌&&◌, List, [], ◌∷◌, ◌++◌, refl, sym, subst, append_assoc, append-nil, arith, if◌then◌else◌, filter}
use Rattle.kat_walk.specs.Machines.{Accepts, Ascends, IsOneOf, Machine}
use Rattle.kat_walk.specs.Pruning.{KeepsAll, Pruner, pruned, tested, total}

one_if : {T : Type 0} (b : Bool) (t u : T) (ts : List T) → IsOneOf t ts → IsOneOf t (if b then u ∷ ts else ts)
one_if true t u ts h = inr h
one_if false t u ts h = h

pub one_kept : {T : Type 0} (keeps : T → Bool) (t : T) (ts : List T) → IsOneOf t ts → keeps t ≡ true → IsOneOf t (filter keeps ts)
one_kept keeps t [] h k = absurd h
one_kept keeps t (u ∷ ts) (inl e) k = let f : keeps u ≡ true = cc in rw f (inl e)
one_kept keeps t (u ∷ ts) (inr h) k = one_if (keeps u) t u (filter keeps ts) (one_kept keeps t ts h k)

kept_one_if : {T : Type 0} (b : Bool) (t u : T) (ts : List T) → IsOneOf t (if b then u ∷ ts else ts) → (t ≡ u) ⊎ IsOneOf t ts
kept_one_if true t u ts h = h
kept_one_if false t u ts h = inr h

pub kept_one : {T : Type 0} (keeps : T → Bool) (t : T) (ts : List T) → IsOneOf t (filter keeps ts) → IsOneOf t ts
kept_one keeps t [] h = absurd h
kept_one keeps t (u ∷ ts) h = elim (kept_one_if (keeps u) t u (filter keeps ts) h) as (λ _. IsOneOf t (u ∷ ts)) [ inl e ↦ inl e | inr o ↦ inr (kept_one keeps t ts o) ]

-- a sublist of an ascending list ascends
ascend_if_kept : {T : Type 0} (less : T → T → Type 0) (b : Bool) (u : T) (ts : List T) → ((v : T) → IsOneOf v ts → less u v) → Ascends less ts → Ascends less (if b then u ∷ ts else ts)
ascend_if_kept less true u ts h a = (h, a)
ascend_if_kept less false u ts h a = a

pub ascend_kept : {T : Type 0} (less : T → T → Type 0) (keeps : T → Bool) (ts : List T) → Ascends less ts → Ascends less (filter keeps ts)
ascend_kept less keeps [] a = tt
ascend_kept less keeps (u ∷ ts) a = ascend_if_kept less (keeps u) u (filter keeps ts) (λ v h. a.0 v (kept_one keeps v ts h)) (ascend_kept less keeps ts a.1)

pub accepted_pruned : {S R T : Type 0} (m : Machine S T) (k : Pruner S R T) (s : S) (r : R) (w : List T) → Accepts m s w → KeepsAll m k s r w
    → Accepts (pruned m k) (s, r) w
accepted_pruned m k s r [] a h = a
accepted_pruned m k s r (t ∷ w) a h =
    (a.0, one_kept (k.keeps s r) t (m.allowed s) a.1 h.0, accepted_pruned m k (m.step s t) (k.notes s r t) w a.2 h.1)

-- the test
and_true : (a b : Bool) → a && b ≡ true → b ≡ true
and_true true b h = h
and_true false b h = absurd cc

and_false : (a b : Bool) → a ≡ false → a && b ≡ false
and_false true b h = absurd cc
and_false false b h = refl

and_both : (a b : Bool) → a ≡ true → b ≡ true → a && b ≡ true
and_both true b h k = k
and_both false b h k = absurd cc

pub accepted_tested : {S T : Type 0} (m : Machine S T) (test : List T → Bool) (s : S) (r w : List T) → Accepts m s w → test (r ++ w) ≡ true
    → Accepts (tested m test) (s, r) w
accepted_tested m test s r [] a h = and_both (m.done s) (test r) a (subst (λ (l : List _). test l ≡ true) (append-nil r) h)
accepted_tested m test s r (t ∷ w) a h =
    (and_false (m.done s) (test r) a.0, a.1, accepted_tested m test (m.step s t) (r ++ t ∷ []) w a.2 (subst (λ (l : List _). test l ≡ true) (sym (append_assoc r (t ∷ []) w)) h))

pub tested_passes : {S T : Type 0} (m : Machine S T) (test : List T → Bool) (s : S) (r w : List T) → Accepts (tested m test) (s, r) w → test (r ++ w) ≡ true
tested_passes m test s r [] a = subst (λ (l : List _). test l ≡ true) (sym (append-nil r)) (and_true (m.done s) (test r) a)
tested_passes m test s r (t ∷ w) a =
    subst (λ (l : List _). test l ≡ true) (append_assoc r (t ∷ []) w) (tested_passes m test (m.step s t) (r ++ t ∷ []) w a.2)

pub total_append : {T : Type 0} (cost : T → ℕ) (v w : List T) → total cost (v ++ w) ≡ total cost v + total cost w
total_append cost [] w = omega arith
total_append cost (t ∷ v) w = let e = total_append cost v w in omega (arith, e)
