-- The histories of a signature ascend.
use Rattle.std.proofs.Common.{◌≡◌, ℕ, ◌+◌, ◌<◌, inl, inr, true, List, [], ◌∷◌, map, length, arith, refl, sym, ◌∙◌, ap, subst}
use Rattle.std.specs.Cmp.{IsTotalOrder, nat_cmp_is}
use Rattle.std.specs.Cmp.Lexicographic.{slice_cmp}
use Rattle.std.specs.List.{AllPairs}
use Rattle.std.specs.Ordering.{nat_cmp, ordering_then}
use Rattle.std.specs.declared.cmp.Ordering.{Ordering}
use Rattle.std.specs.declared.cmp.Ordering.TheVariants.{Less, Equal}
use Rattle.std.proofs.lemmas.Cmp.{lists_total, nat_cmp_total, on_total, then_total, tied_itself}
use Rattle.kat_num.specs.Orders.{value_order}
use Rattle.kat_num.specs.contracts.values.ValueOrd.TheImpl.Laws.{total-law}
use Rattle.kat_num.specs.declared.values.Sort.{Sort}
use Rattle.kat_num.specs.declared.values.Sort.TheVariants as sort
use Rattle.kat_type.specs.Lists.{Has}
use Rattle.kat_type.specs.declared.done.Done.{Done}
use Rattle.kat_type.specs.declared.signatures.Signature.{Signature}
use Rattle.kat_type.proofs.Ordered.{Ascends, ascends_pairs, pairs_ascend}
use Rattle.kat_histories.specs.Choices.{headed, one_of_each}
use Rattle.kat_histories.specs.Histories.{all_histories, done_at, dones_at, histories_at, history_of, stamp_lists, stamps}
use Rattle.kat_histories.specs.Laws.{call_cmp, history_cmp, stamp_of, stamps_cmp}
use Rattle.kat_histories.specs.Orders.{each_pair, is_less}
use Rattle.kat_histories.specs.Pools.{arguments_of, call_with, calls_from, calls_of, op_sorts, pool}
use Rattle.kat_histories.specs.declared.calls.Call.{Call}
use Rattle.kat_histories.specs.declared.histories.History.{History}
use Rattle.kat_histories.specs.declared.stamps.Stamp.{Stamp}
use Rattle.kat_histories.proofs.Ascending.{EachAscends, ascends_append, ascends_flat, ascends_map, choices_ascend}
use Rattle.kat_histories.proofs.Members.{flat_has, mapped}
use Rattle.kat_histories.proofs.StampLists.{less_decided}
use Rattle.kat_histories.proofs.Tests.{pairs_decided}
use Rattle.kat_histories.proofs.Trying.{call_from}

nat_less : (x y : ℕ) → x < y → nat_cmp x y ≡ Less
nat_less x y lt = sym (nat_cmp_is x y Less lt)

nat_same : (x : ℕ) → nat_cmp x x ≡ Equal
nat_same x = tied_itself nat_cmp_total x

first_less : (a b : Ordering) → a ≡ Less → ordering_then a b ≡ Less
first_less a b e = ap (λ o. ordering_then o b) e

then_second : (a b : Ordering) → a ≡ Equal → b ≡ Less → ordering_then a b ≡ Less
then_second a b e h = ap (λ o. ordering_then o b) e ∙ h

-- what a test of all pairs says
pub tested : {X : Type 0} (R : X → X → Ordering) (xs : List X) → each_pair (λ x y. is_less (R x y)) xs ≡ true → Ascends R xs
tested R xs e = pairs_ascend R xs ((pairs_decided (λ x y. is_less (R x y)) (λ x y. R x y ≡ Less) xs (λ x y. less_decided (R x y))).0 e)

pool_ascends : (s : Sort) → Ascends value_order (pool s)
pool_ascends sort.Bool = tested value_order (pool sort.Bool) refl
pool_ascends sort.Int = tested value_order (pool sort.Int) refl
pool_ascends sort.Nat = tested value_order (pool sort.Nat) refl
pool_ascends sort.Name = tested value_order (pool sort.Name) refl

pools_ascend : (sorts : List Sort) → EachAscends value_order (map pool sorts)
pools_ascend [] = tt
pools_ascend (s ∷ sorts) = (pool_ascends s, pools_ascend sorts)

arguments_ascend : (sorts : List Sort) → Ascends (slice_cmp value_order) (arguments_of sorts)
arguments_ascend sorts = choices_ascend value_order (tied_itself total-law) (map pool sorts) (pools_ascend sorts)

-- calls by number, and then by arguments
abbrev numbered_cmp : Call → Call → Ordering
numbered_cmp some other = ordering_then (nat_cmp some.number other.number) (slice_cmp value_order some.args other.args)

calls_ascend : (number : ℕ) (items : List (List Sort)) → Ascends numbered_cmp (calls_from number items)
calls_ascend number [] = tt
calls_ascend number (sorts ∷ items) =
    ascends_append numbered_cmp (map (call_with number) (arguments_of sorts)) (calls_from (number + 1) items)
    (ascends_map (slice_cmp value_order) numbered_cmp (call_with number) (arguments_of sorts)
    (λ a b h k e. then_second (nat_cmp number number) (slice_cmp value_order a b) (nat_same number) e) (arguments_ascend sorts))
    (calls_ascend (number + 1) items)
    (λ x y h k.
    let m = mapped (call_with number) (arguments_of sorts) x h in
    let n : number ≡ x.number = ap (λ (c : Call). c.number) m.2 in
    let c = call_from (number + 1) items y k in
    let o = c.numbered in
    first_less (nat_cmp x.number y.number) (slice_cmp value_order x.args y.args) (nat_less x.number y.number (omega (arith, n, o))))

call_total : IsTotalOrder call_cmp
call_total = then_total (on_total (λ (d : Done). d.op) nat_cmp_total) (on_total (λ (d : Done). d.args) (lists_total total-law))

dones_ascend : (sig : Signature) (at : Stamp) → Ascends call_cmp (dones_at (calls_of sig) at)
dones_ascend sig at = ascends_map numbered_cmp call_cmp (done_at at) (calls_of sig) (λ x y h k e. e) (calls_ascend 0 (op_sorts sig.ops))

each_dones : (sig : Signature) (ats : List Stamp) → EachAscends call_cmp (map (dones_at (calls_of sig)) ats)
each_dones sig [] = tt
each_dones sig (at ∷ ats) = (dones_ascend sig at, each_dones sig ats)

-- the stamps of the operations of a history
choice_stamps : (calls : List Call) (ats : List Stamp) (ops : List Done) → Has (one_of_each (map (dones_at calls) ats)) ops → map stamp_of ops ≡ ats
choice_stamps calls [] ops (inl e) = ap (map stamp_of) (sym e)
choice_stamps calls [] ops (inr h) = absurd h
choice_stamps calls (at ∷ ats) ops h =
    let first = flat_has (λ x. map (headed x) (one_of_each (map (dones_at calls) ats))) (dones_at calls at) ops h in
    let rest = mapped (headed first.0) (one_of_each (map (dones_at calls) ats)) ops first.2 in
    let call = mapped (done_at at) calls first.0 first.1 in
    ap (map stamp_of) (sym rest.2) ∙ ap (λ (d : Done). stamp_of d ∷ map stamp_of rest.0) (sym call.2) ∙ ap (λ (l : List Stamp). at ∷ l) (choice_stamps calls ats rest.0 rest.1)

stamps_total : IsTotalOrder stamps_cmp
stamps_total = then_total (on_total (λ (l : List Stamp). length l) nat_cmp_total)
    (lists_total (then_total (on_total (λ (s : Stamp). s.time) nat_cmp_total) (on_total (λ (s : Stamp). s.replica) nat_cmp_total)))

group_ascends : (sig : Signature) (ats : List Stamp) → Ascends history_cmp (histories_at (calls_of sig) ats)
group_ascends sig ats =
    ascends_map (slice_cmp call_cmp) history_cmp history_of (one_of_each (map (dones_at (calls_of sig)) ats))
    (λ x y h k e.
    let i : map stamp_of x ≡ map stamp_of y = choice_stamps (calls_of sig) ats x h ∙ sym (choice_stamps (calls_of sig) ats y k) in
    then_second (stamps_cmp (map stamp_of x) (map stamp_of y)) (slice_cmp call_cmp x y)
    (ap (λ (l : List Stamp). stamps_cmp l (map stamp_of y)) i ∙ tied_itself stamps_total (map stamp_of y)) e)
    (choices_ascend call_cmp (tied_itself call_total) (map (dones_at (calls_of sig)) ats) (each_dones sig ats))

all_before : each_pair (λ x y. is_less (stamps_cmp x y)) stamp_lists ≡ true
unfolding stamp_lists stamps
all_before = refl

lists_ascend : Ascends stamps_cmp stamp_lists
lists_ascend = tested stamps_cmp stamp_lists all_before

pub histories_ascend : (sig : Signature) → AllPairs (λ some other. history_cmp some other ≡ Less) (all_histories (calls_of sig))
histories_ascend sig =
    ascends_pairs history_cmp (all_histories (calls_of sig))
    (ascends_flat stamps_cmp history_cmp (histories_at (calls_of sig)) stamp_lists (λ ats h. group_ascends sig ats)
    (λ a b u v ha hb e h k.
    let m = mapped history_of (one_of_each (map (dones_at (calls_of sig)) a)) u h in
    let n = mapped history_of (one_of_each (map (dones_at (calls_of sig)) b)) v k in
    let p : a ≡ map stamp_of u.ops = sym (choice_stamps (calls_of sig) a m.0 m.1) ∙ ap (λ (x : History). map stamp_of x.ops) m.2 in
    let q : b ≡ map stamp_of v.ops = sym (choice_stamps (calls_of sig) b n.0 n.1) ∙ ap (λ (x : History). map stamp_of x.ops) n.2 in
    first_less (stamps_cmp (map stamp_of u.ops) (map stamp_of v.ops)) (slice_cmp call_cmp u.ops v.ops)
    (subst (λ (l : List Stamp). stamps_cmp l (map stamp_of v.ops) ≡ Less) p (subst (λ (l : List Stamp). stamps_cmp a l ≡ Less) q e)))
    lists_ascend)
