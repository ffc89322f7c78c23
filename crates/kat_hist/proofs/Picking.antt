-- Operations by their places, one after the other.
use Rattle.std.proofs.Common.{◌≡◌, ℕ, zero, suc, ◌+◌, ◌-◌, ◌^◌, ◌<◌, ◌≤◌, Bool, true, false, ◌&&◌, List, [], ◌∷◌, ◌++◌, length, drop, take, get_or, arith, refl, sym, ◌∙◌, ap, subst}
use Rattle.std.specs.Prelude.{All}
use Rattle.std.specs.List.{list_all}
use Rattle.std.proofs.Math.Seq.{take-length}
use Rattle.std.proofs.lemmas.List.{length-map, length-take}
use Rattle.kat_num.specs.declared.values.TheConstants.{NUMBER_LIMIT}
use Rattle.kat_expr.specs.Limits.{IsAtMost, IsSlotAtMost}
use Rattle.kat_expr.specs.declared.expressions.Slot.{Slot}
use Rattle.kat_expr.proofs.Limits.{more_slot}
use Rattle.kat_seq.specs.Sizes.{HaveSmallArguments, most_after}
use Rattle.kat_seq.specs.States.{started, state_after, stepped}
use Rattle.kat_seq.proofs.Growing.{read_all, state_small}
use Rattle.kat_seq.proofs.Sorting.{runs_on}
use Rattle.kat_type.specs.Types.{TypeForm}
use Rattle.kat_type.specs.Within.{IsWithinLimits}
use Rattle.kat_type.specs.declared.done.Done.{Done}
use Rattle.kat_histories.specs.Places.{AreWithin, done_of, picked}
use Rattle.kat_hist.specs.Arranging.{may_follow, respects_ranks}

-- what a pattern leaves of a list after its first element
abbrev pub behind_first : List ℕ → List ℕ
behind_first order = take (length order - 1) (drop 1 order)

-- the operation at a place that is there, whatever stands for the others
done_there : (ones : List Done) (place : ℕ) (one : Done) → place < length ones → one ≡ get_or ones place one → done_of ones place ≡ one
done_there [] place one lt e = absurd (none place lt) where
  none : (k : ℕ) → k < 0 → ⊥
  none k h = omega (arith, h)
done_there (x ∷ ones) zero one lt e = sym e
done_there (x ∷ ones) (suc place) one lt e = done_there ones place one (omega (arith, lt)) e

pub picked_first : (ones : List Done) (order : List ℕ) (one : Done) → 1 ≤ length order → AreWithin ones order → one ≡ get_or ones (get_or order 0 0) one
    → picked ones order ≡ one ∷ picked ones (behind_first order)
picked_first ones [] one some within e = absurd (none some) where
  none : 1 ≤ 0 → ⊥
  none h = omega (arith, h)
picked_first ones (place ∷ order) one some within e =
    let rest : behind_first (place ∷ order) ≡ order = ap (λ n. take n order) (omega arith) ∙ take-length order in
    ap (λ (x : Done). x ∷ picked ones order) (done_there ones place one (within 0 0 (omega arith)) e)
    ∙ ap (λ (l : List ℕ). one ∷ picked ones l) (sym rest)

pub all_then : (p : Done → Bool) (ones : List Done) (order : List ℕ) (one : Done) (first whole : Bool) → 1 ≤ length order → AreWithin ones order → one ≡ get_or ones (get_or order 0 0) one
    → first ≡ p one → first ≡ true → whole ≡ list_all p (picked ones (behind_first order)) → whole ≡ list_all p (picked ones order)
all_then p ones order one first whole some within e f t w =
    w ∙ sym (ap (λ b. b && list_all p (picked ones (behind_first order))) (sym f ∙ t)) ∙ sym (ap (list_all p) (picked_first ones order one some within e))

pub all_else : (p : Done → Bool) (ones : List Done) (order : List ℕ) (one : Done) (first : Bool) → 1 ≤ length order → AreWithin ones order → one ≡ get_or ones (get_or order 0 0) one
    → first ≡ p one → first ≡ false → first ≡ list_all p (picked ones order)
all_else p ones order one first some within e f t =
    t ∙ sym (ap (λ b. b && list_all p (picked ones (behind_first order))) (sym f ∙ t)) ∙ sym (ap (list_all p) (picked_first ones order one some within e))

pub respects_then : (ty : TypeForm) (ones : List Done) (order : List ℕ) (one : Done) (first whole : Bool) → 1 ≤ length order → AreWithin ones order → one ≡ get_or ones (get_or order 0 0) one
    → first ≡ list_all (may_follow ty one) (picked ones (behind_first order)) → first ≡ true → whole ≡ respects_ranks ty (picked ones (behind_first order)) → whole ≡ respects_ranks ty (picked ones order)
respects_then ty ones order one first whole some within e f t w =
    w ∙ sym (ap (λ b. b && respects_ranks ty (picked ones (behind_first order))) (sym f ∙ t)) ∙ sym (ap (respects_ranks ty) (picked_first ones order one some within e))

pub respects_else : (ty : TypeForm) (ones : List Done) (order : List ℕ) (one : Done) (first : Bool) → 1 ≤ length order → AreWithin ones order → one ≡ get_or ones (get_or order 0 0) one
    → first ≡ list_all (may_follow ty one) (picked ones (behind_first order)) → first ≡ false → first ≡ respects_ranks ty (picked ones order)
respects_else ty ones order one first some within e f t =
    t ∙ sym (ap (λ b. b && respects_ranks ty (picked ones (behind_first order))) (sym f ∙ t)) ∙ sym (ap (respects_ranks ty) (picked_first ones order one some within e))

-- the arguments of operations at places are small
no_args : All (IsAtMost NUMBER_LIMIT) []
no_args k d lt = absurd (none k lt) where
  none : (k : ℕ) → k < 0 → ⊥
  none k h = omega (arith, h)

picked_small : (ones : List Done) (order : List ℕ) → HaveSmallArguments ones → HaveSmallArguments (picked ones order)
picked_small ones [] small k d lt = absurd (none k lt) where
  none : (k : ℕ) → k < 0 → ⊥
  none k h = omega (arith, h)
picked_small ones (place ∷ order) small zero d lt =
    read_all (λ (done : Done). All (IsAtMost NUMBER_LIMIT) done.args) ones place (record { replica = 0; time = 0; op = 0; args = [] }) small no_args
picked_small ones (place ∷ order) small (suc k) d lt = picked_small ones order small k d (omega (arith, lt))

-- no number passes 2^100 on up to three operations
pub state_fits : (ty : TypeForm) (ones : List Done) (order : List ℕ) (i : ℕ) (state : List Slot) → IsWithinLimits ty → HaveSmallArguments ones → length order ≤ 3
    → state ≡ state_after ty (picked ones (take i order)) → All (IsSlotAtMost (2 ^ 100)) state
state_fits ty ones order i state limits small few is =
    let dones : List Done = picked ones (take i order) in
    let n : length dones ≤ 3 = (let k = length-map (take i order) (done_of ones) in let t = taken_long order i in omega (arith, k, t, few)) in
    subst (λ (s : List Slot). All (IsSlotAtMost (2 ^ 100)) s) (sym is)
    (λ k d l. more_slot (most_after (length dones)) (2 ^ 100) (get_or (state_after ty dones) k d) (few_fit (length dones) n) (state_small ty dones limits (picked_small ones (take i order) small) k d l)) where
      few_fit : (n : ℕ) → n ≤ 3 → most_after n ≤ 2 ^ 100
      few_fit n h = omega (arith, h)

      taken_long : (xs : List ℕ) (i : ℕ) → length (take i xs) ≤ length xs
      taken_long xs i = let t = length-take i xs in omega (arith, t)

-- one operation more
take_next : (xs : List ℕ) (i : ℕ) → i < length xs → take (i + 1) xs ≡ take i xs ++ get_or xs i 0 ∷ []
take_next [] i lt = absurd (none i lt) where
  none : (k : ℕ) → k < 0 → ⊥
  none k h = omega (arith, h)
take_next (x ∷ xs) zero lt = refl
take_next (x ∷ xs) (suc i) lt =
    let n : suc i + 1 ≡ suc (i + 1) = omega arith in
    ap (λ n. take n (x ∷ xs)) n ∙ ap (λ (l : List ℕ). x ∷ l) (take_next xs i (omega (arith, lt)))

map_next : (ones : List Done) (xs : List ℕ) (place : ℕ) → picked ones (xs ++ place ∷ []) ≡ picked ones xs ++ done_of ones place ∷ []
map_next ones [] place = refl
map_next ones (x ∷ xs) place = ap (λ (l : List Done). done_of ones x ∷ l) (map_next ones xs place)

pub stepped_next : (ty : TypeForm) (ones : List Done) (order : List ℕ) (i : ℕ) (one : Done) (state new : List Slot) → i < length order → AreWithin ones order
    → one ≡ get_or ones (get_or order i 0) one → state ≡ state_after ty (picked ones (take i order)) → new ≡ stepped ty state one
    → new ≡ state_after ty (picked ones (take (i + 1) order))
stepped_next ty ones order i one state new lt within e was is =
    is ∙ ap (λ (s : List Slot). stepped ty s one) was
    ∙ ap (λ (x : Done). stepped ty (state_after ty (picked ones (take i order))) x) (sym (done_there ones (get_or order i 0) one (within i 0 lt) e))
    ∙ sym (runs_on ty (started ty) (picked ones (take i order)) (done_of ones (get_or order i 0) ∷ []))
    ∙ ap (state_after ty) (sym (ap (picked ones) (take_next order i lt) ∙ map_next ones (take i order) (get_or order i 0)))
