-- The members of all histories are the histories, and can be asked of designs.
use Rattle.std.proofs.Common.{◌≡◌, ℕ, ◌<◌, List, [], ◌∷◌, map, length, get_or, arith, sym, ap, subst, Some}
use Rattle.std.specs.Prelude.{All, slice_get, ◌↔◌}
use Rattle.std.specs.Cmp.{IsTotalOrder}
use Rattle.std.specs.List.{AllPairs}
use Rattle.std.specs.declared.cmp.Ordering.TheVariants.{Less}
use Rattle.std.proofs.lemmas.Cmp.{nat_cmp_total, on_total, then_total}
use Rattle.std.proofs.lemmas.List.{get_or-map, length-map}
use Rattle.kat_num.specs.Values.{IsArgument}
use Rattle.kat_num.specs.declared.values.Sort.{Sort}
use Rattle.kat_num.specs.declared.values.Value.{Value}
use Rattle.kat_design.specs.Fitting.{FitsSignature}
use Rattle.kat_design.specs.Sorted.{AreMatched}
use Rattle.kat_type.specs.Lists.{Has}
use Rattle.kat_type.specs.declared.done.Done.{Done}
use Rattle.kat_type.specs.declared.signatures.Signature.{Signature}
use Rattle.kat_type.proofs.Ordered.{ascends_once, had_all, pairs_ascend}
use Rattle.kat_histories.specs.Choices.{one_of_each}
use Rattle.kat_histories.specs.Histories.{FitsHistory, IsTimed, all_histories, dones_at, histories, histories_at, history_of, stamp_lists, stamps}
use Rattle.kat_histories.specs.Laws.{IsHistory, IsTried, stamp_cmp, stamp_of}
use Rattle.kat_histories.specs.Pools.{calls_of, pool}
use Rattle.kat_histories.specs.declared.histories.History.{History}
use Rattle.kat_histories.specs.declared.histories.TheConstants.{HISTORY_LIMIT}
use Rattle.kat_histories.specs.declared.stamps.Stamp.{Stamp}
use Rattle.kat_histories.proofs.Members.{flat_has, has_flat, has_map, mapped}
use Rattle.kat_histories.proofs.Pieces.{get_has, taken_has}
use Rattle.kat_histories.proofs.PoolArguments.{pool_argument}
use Rattle.kat_histories.proofs.StampLists.{IsGood, good_has, good_list, in_range}
use Rattle.kat_histories.proofs.Trying.{AreTried, all_tried, tried_has}

-- ascending stamps
stamps_back : (ops : List Done) → AllPairs (λ some other. stamp_cmp some other ≡ Less) (map stamp_of ops) → AllPairs (λ earlier later. stamp_cmp (stamp_of earlier) (stamp_of later) ≡ Less) ops
stamps_back ops h = λ i j d lt le.
    subst (λ (p : Stamp). stamp_cmp p (stamp_of (get_or ops j d)) ≡ Less) (get_or-map stamp_of ops i d (stamp_of d) (omega (arith, lt, le)))
    (subst (λ (p : Stamp). stamp_cmp (get_or (map stamp_of ops) i (stamp_of d)) p ≡ Less) (get_or-map stamp_of ops j d (stamp_of d) le)
    (h i j (stamp_of d) lt (let n = length-map ops stamp_of in omega (arith, le, n))))

stamps_on : (ops : List Done) → AllPairs (λ earlier later. stamp_cmp (stamp_of earlier) (stamp_of later) ≡ Less) ops → AllPairs (λ some other. stamp_cmp some other ≡ Less) (map stamp_of ops)
stamps_on [] h = λ i j d lt le. absurd (none j le) where
  none : (k : ℕ) → k < 0 → ⊥
  none k h = omega (arith, h)
stamps_on (x ∷ ops) h = λ i j d lt le.
    let n = length-map (x ∷ ops) stamp_of in
    subst (λ (p : Stamp). stamp_cmp p (get_or (map stamp_of (x ∷ ops)) j d) ≡ Less) (sym (get_or-map stamp_of (x ∷ ops) i x d (omega (arith, lt, le, n))))
    (subst (λ (p : Stamp). stamp_cmp (stamp_of (get_or (x ∷ ops) i x)) p ≡ Less) (sym (get_or-map stamp_of (x ∷ ops) j x d (omega (arith, le, n))))
    (h i j x lt (omega (arith, le, n))))

-- a member is a history
is_history : (sig : Signature) (history : History) → Has (all_histories (calls_of sig)) history → IsHistory sig history
is_history sig history h =
    let ats = flat_has (histories_at (calls_of sig)) stamp_lists history h in
    let ops = mapped history_of (one_of_each (map (dones_at (calls_of sig)) ats.0)) history ats.2 in
    let good : IsGood ats.0 = good_list ats.0 ats.1 in
    let tried : AreTried sig ops.0 ats.0 = all_tried sig ats.0 ops.0 good.among ops.1 in
    subst (λ (x : History). IsHistory sig x) ops.2 (record {
      few = let n = length-map ops.0 stamp_of in let m = ap length tried.stamped in let f = good.few in omega (arith, n, m, f);
      tried = tried.tried;
      ascending = stamps_back ops.0 (subst (λ (l : List Stamp). AllPairs (λ some other. stamp_cmp some other ≡ Less) l) (sym tried.stamped) good.ascending);
    })

-- the stamps of a history
pub good_stamps : (sig : Signature) (history : History) → IsHistory sig history → IsGood (map stamp_of history.ops)
good_stamps sig history is = record {
  few = let n = length-map history.ops stamp_of in let f = is.few in omega (arith, n, f);
  among = λ at h. among history.ops is.tried at h;
  ascending = stamps_on history.ops is.ascending;
} where
  among : (ops : List Done) → All (IsTried sig) ops → (at : Stamp) → Has (map stamp_of ops) at → Has stamps at
  among ops all at h =
      let m = mapped stamp_of ops at h in
      let t : IsTried sig m.0 = had_all (IsTried sig) ops m.0 m.0 (λ k lt. all k m.0 lt) m.1 in
      subst (λ (a : Stamp). Has stamps a) m.2 t.stamped

-- a history is a member
has_history : (sig : Signature) (history : History) → IsHistory sig history → Has (all_histories (calls_of sig)) history
has_history sig history is =
    has_flat (histories_at (calls_of sig)) stamp_lists (map stamp_of history.ops) history (good_has (map stamp_of history.ops) (good_stamps sig history is))
    (has_map history_of (one_of_each (map (dones_at (calls_of sig)) (map stamp_of history.ops))) history.ops (tried_has sig history.ops is.tried))

pub complete : (sig : Signature) (history : History) → Has (all_histories (calls_of sig)) history ↔ IsHistory sig history
complete sig history = (is_history sig history, has_history sig history)

stamp_total : IsTotalOrder (λ (earlier later : Done). stamp_cmp (stamp_of earlier) (stamp_of later))
stamp_total = then_total (on_total (λ (d : Done). d.time) nat_cmp_total) (on_total (λ (d : Done). d.replica) nat_cmp_total)

-- arguments of the pools are arguments
pub pool_arguments : (args : List Value) (sorts : List Sort) → AreMatched (λ (value : Value) (s : Sort). Has (pool s) value) args sorts
    → AreMatched (λ (value : Value) (s : Sort). IsArgument s value) args sorts
pool_arguments [] [] m = tt
pool_arguments [] (s ∷ sorts) m = absurd m
pool_arguments (v ∷ args) [] m = absurd m
pool_arguments (v ∷ args) (s ∷ sorts) m = (pool_argument s v m.0, pool_arguments args sorts m.1)

tried_fits : (sig : Signature) (done : Done) → IsTried sig done → FitsSignature sig done
tried_fits sig done t =
    let r = in_range (stamp_of done) t.stamped in
    record { op = t.op; found = t.found; args = pool_arguments done.args t.op.sorts t.args; numbered = r.numbered; few = r.few; time = r.time }

each_tried : (sig : Signature) (P : Done → Type 0) (ops : List Done) → ((done : Done) → IsTried sig done → P done) → All (IsTried sig) ops → All P ops
each_tried sig P ops f all = λ k d lt. f (get_or ops k d) (all k d lt)

pub history_fits : (sig : Signature) (history : History) → IsHistory sig history → FitsHistory sig history
history_fits sig history is = record {
  few = is.few;
  once = ascends_once (λ (earlier later : Done). stamp_cmp (stamp_of earlier) (stamp_of later)) stamp_total history.ops
      (pairs_ascend (λ (earlier later : Done). stamp_cmp (stamp_of earlier) (stamp_of later)) history.ops is.ascending);
  fits = each_tried sig (FitsSignature sig) history.ops (tried_fits sig) is.tried;
  timed = each_tried sig IsTimed history.ops (λ done t. (in_range (stamp_of done) t.stamped).timed) is.tried;
}

pub histories_fit : (sig : Signature) (i : ℕ) (history : History) → slice_get (histories sig) i ≡ Some history → FitsHistory sig history
histories_fit sig i history e =
    history_fits sig history (is_history sig history (taken_has HISTORY_LIMIT (all_histories (calls_of sig)) history (get_has (histories sig) i history e)))
