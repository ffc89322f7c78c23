-- The operations that are known are done, one after the other.
use Rattle.std.proofs.Common.{◌≡◌, ℕ, zero, suc, ◌^◌, ◌<◌, ◌≤◌, Bool, true, false, not, ◌&&◌, List, [], ◌∷◌, ◌++◌, length, get_or, take, drop, refl, sym, ◌∙◌, ap, subst, arith}
use Rattle.std.specs.Prelude.{All, cond}
use Rattle.std.specs.List.{list_all}
use Rattle.std.proofs.lemmas.List.{append-nil, take-append-drop, take_all}
use Rattle.std.proofs.lemmas.List.Elements.{All-cons, All-head, All-tail, All-take}
use Rattle.kat_num.specs.declared.values.TheConstants.{NUMBER_LIMIT}
use Rattle.kat_expr.specs.Limits.{IsAtMost, IsSlotAtMost}
use Rattle.kat_expr.specs.declared.expressions.Slot.{Slot}
use Rattle.kat_expr.proofs.Limits.{more_slot, more_value}
use Rattle.kat_seq.specs.Sizes.{HaveSmallArguments, most_after}
use Rattle.kat_seq.specs.States.{started, state_after, stepped_by}
use Rattle.kat_seq.proofs.Growing.{state_small}
use Rattle.kat_seq.proofs.Sorting.{runs_on}
use Rattle.kat_type.specs.Types.{TypeForm}
use Rattle.kat_type.specs.Within.{IsWithinLimits}
use Rattle.kat_type.specs.declared.done.Done.{Done}
use Rattle.kat_world.specs.Tracked.{is_known, known_of}

known_front : (b : Bool) (x : Done) (xs ys : List Done) → cond b (x ∷ xs) xs ++ ys ≡ cond b (x ∷ (xs ++ ys)) (xs ++ ys)
known_front true x xs ys = refl
known_front false x xs ys = refl

known_behind : (times : List ℕ) (xs ys : List Done) → known_of times xs ++ known_of times ys ≡ known_of times (xs ++ ys)
known_behind times [] ys = refl
known_behind times (x ∷ xs) ys =
    known_front (is_known times x) x (known_of times xs) (known_of times ys)
    ∙ ap (λ (zs : List Done). cond (is_known times x) (x ∷ zs) zs) (known_behind times xs ys)

take_next : (xs : List Done) (i n : ℕ) (x : Done) → n ≡ suc i → i < length xs → x ≡ get_or xs i x → take i xs ++ x ∷ [] ≡ take n xs
take_next xs i n x m h e = more xs i x h e ∙ ap (λ (k : ℕ). take k xs) (sym m) where
  more : (xs : List Done) (i : ℕ) (x : Done) → i < length xs → x ≡ get_or xs i x → take i xs ++ x ∷ [] ≡ take (suc i) xs
  more [] i x h e = absurd (omega arith)
  more (y ∷ xs) zero x h e = ap (λ (z : Done). z ∷ []) e
  more (y ∷ xs) (suc i) x h e = ap (λ (zs : List Done). y ∷ zs) (more xs i x (omega arith) e)

-- one operation more
pub stepped_next : (ty : TypeForm) (start state new : List Slot) (times : List ℕ) (order : List Done) (i n : ℕ) (x : Done) → n ≡ suc i → i < length order
    → x ≡ get_or order i x → state ≡ stepped_by ty start (known_of times (take i order)) → new ≡ stepped_by ty state (known_of times (x ∷ []))
    → new ≡ stepped_by ty start (known_of times (take n order))
stepped_next ty start state new times order i n x m h e was is =
    is ∙ ap (λ (s : List Slot). stepped_by ty s (known_of times (x ∷ []))) was
    ∙ sym (runs_on ty start (known_of times (take i order)) (known_of times (x ∷ [])))
    ∙ ap (λ (zs : List Done). stepped_by ty start zs) (known_behind times (take i order) (x ∷ []) ∙ ap (λ (zs : List Done). known_of times zs) (take_next order i n x m h e))

all_known : (P : Done → Type 0) (times : List ℕ) (xs : List Done) → All P xs → All P (known_of times xs)
all_known P times [] all = all
all_known P times (x ∷ xs) all =
    elim (is_known times x) as (λ b. All P (cond b (x ∷ known_of times xs) (known_of times xs))) [
      | true ↦ All-cons P x (known_of times xs) (All-head P x xs all) (all_known P times xs (All-tail P x xs all))
      | false ↦ all_known P times xs (All-tail P x xs all)
    ]

cond_long : (b : Bool) (x : Done) (xs : List Done) (n : ℕ) → length xs ≤ n → length (cond b (x ∷ xs) xs) ≤ suc n
cond_long true x xs n h = omega arith
cond_long false x xs n h = omega arith

known_long : (times : List ℕ) (xs : List Done) → length (known_of times xs) ≤ length xs
known_long times [] = omega arith
known_long times (x ∷ xs) = cond_long (is_known times x) x (known_of times xs) (length xs) (known_long times xs)

taken_long : (xs : List Done) (i : ℕ) → length (take i xs) ≤ length xs
taken_long [] zero = omega arith
taken_long [] (suc i) = omega arith
taken_long (x ∷ xs) zero = omega arith
taken_long (x ∷ xs) (suc i) = (let h = taken_long xs i in omega arith)

few_fit : (n : ℕ) → n ≤ 100_000 → most_after n ≤ 2 ^ 100
few_fit n h = omega arith

-- no number of a state passes 2^100 along a script
pub state_fits : (ty : TypeForm) (times : List ℕ) (order : List Done) (i : ℕ) (state : List Slot) → IsWithinLimits ty → HaveSmallArguments order → length order ≤ 100_000
    → state ≡ stepped_by ty (started ty) (known_of times (take i order)) → All (IsSlotAtMost (2 ^ 100)) state
state_fits ty times order i state small args few is =
    let dones : List Done = known_of times (take i order) in
    let n : length dones ≤ 100_000 = (let k = known_long times (take i order) in let t = taken_long order i in omega arith) in
    subst (λ (s : List Slot). All (IsSlotAtMost (2 ^ 100)) s) (sym is)
    (λ k d l. more_slot (most_after (length dones)) (2 ^ 100) (get_or (state_after ty dones) k d) (few_fit (length dones) n)
    (state_small ty dones small (all_known (λ (done : Done). All (IsAtMost NUMBER_LIMIT) done.args) times (take i order)
    (All-take (λ (done : Done). All (IsAtMost NUMBER_LIMIT) done.args) i order args)) k d l))

pub whole_fits : (ty : TypeForm) (times : List ℕ) (order : List Done) (state : List Slot) → IsWithinLimits ty → HaveSmallArguments order → length order ≤ 100_000
    → state ≡ stepped_by ty (started ty) (known_of times order) → All (IsSlotAtMost (2 ^ 100)) state
whole_fits ty times order state small args few is =
    state_fits ty times order (length order) state small args few
    (is ∙ ap (λ (ds : List Done). stepped_by ty (started ty) (known_of times ds)) (sym (take_all (length order) order (omega arith))))

pub args_fit : (order : List Done) (i : ℕ) (done : Done) → HaveSmallArguments order → i < length order → done ≡ get_or order i done → All (IsAtMost (2 ^ 100)) done.args
args_fit order i done all h e = λ k d l. more_value NUMBER_LIMIT (2 ^ 100) (get_or done.args k d) (omega arith)
    (subst (λ (x : Done). All (IsAtMost NUMBER_LIMIT) x.args) (sym e) (all i done h) k d l)

-- none of the operations is known
not_kept : (b rest : Bool) (x : Done) (xs : List Done) → (not b && rest) ≡ true → (rest ≡ true → xs ≡ []) → cond b (x ∷ xs) xs ≡ []
not_kept true rest x xs h k = absurd (cc h)
not_kept false rest x xs h k = k h

pub none_known : (times : List ℕ) (xs : List Done) → list_all (λ (done : Done). not (is_known times done)) xs ≡ true → known_of times xs ≡ []
none_known times [] h = refl
none_known times (x ∷ xs) h =
    not_kept (is_known times x) (list_all (λ (done : Done). not (is_known times done)) xs) x (known_of times xs) h (none_known times xs)

-- one operation more that is known at both times, or at none
pub alike_next : (old new : List ℕ) (order : List Done) (i n : ℕ) (x : Done) → n ≡ suc i → i < length order → x ≡ get_or order i x
    → known_of old (take i order) ≡ known_of new (take i order) → is_known old x ≡ is_known new x → known_of old (take n order) ≡ known_of new (take n order)
alike_next old new order i n x m h e same alike =
    sym (apart old) ∙ ap (λ (ds : List Done). ds ++ known_of old (x ∷ [])) same
    ∙ ap (λ (b : Bool). known_of new (take i order) ++ cond b (x ∷ []) []) alike ∙ apart new where
      apart : (times : List ℕ) → known_of times (take i order) ++ known_of times (x ∷ []) ≡ known_of times (take n order)
      apart times = known_behind times (take i order) (x ∷ []) ∙ ap (λ (ds : List Done). known_of times ds) (take_next order i n x m h e)

-- The state at earlier times is that of what is known before the place, if the same is known up to there at both times
-- and nothing after it was.
pub same_before : (ty : TypeForm) (order : List Done) (old new : List ℕ) (from : ℕ) (state : List Slot) → state ≡ stepped_by ty (started ty) (known_of old order)
    → known_of old (take from order) ≡ known_of new (take from order) → known_of old (drop from order) ≡ []
    → state ≡ stepped_by ty (started ty) (known_of new (take from order))
same_before ty order old new from state is same none =
    is ∙ ap (λ (ds : List Done). stepped_by ty (started ty) ds) (
    ap (λ (ds : List Done). known_of old ds) (sym (take-append-drop from order)) ∙ sym (known_behind old (take from order) (drop from order))
    ∙ ap (λ (ds : List Done). known_of old (take from order) ++ ds) none ∙ append-nil (known_of old (take from order)) ∙ same)
