-- Numbers of ways, which stop at the limit of histories.
use Rattle.std.proofs.Common.{◌≡◌, ℕ, zero, suc, ◌+◌, ◌-◌, ◌*◌, ◌^◌, ◌/◌, ◌%◌, ◌<◌, List, [], ◌∷◌, ◌++◌, map, length, take, get_or, arith, refl, sym, ◌∙◌, ap, subst}
use Rattle.std.specs.Prelude.{min}
use Rattle.std.specs.List.{flat_map, sum_by}
use Rattle.std.proofs.Math.Nat.{div-lt_iff_lt-mul, mod-le, mod-lt, mul_comm, pow-succ', pow-zero, mul-zero}
use Rattle.std.proofs.lemmas.List.{get_or-map, length-append, length-map, length-take}
use Rattle.std.proofs.lemmas.List.Sums.{sum_by-cons}
use Rattle.kat_histories.specs.Choices.{headed, one_of_each}
use Rattle.kat_histories.specs.Groups.{count_of, group_of, groups_of, ways}
use Rattle.kat_histories.specs.Histories.{all_histories, done_at, dones_at, histories_at, history_of, stamp_lists}
use Rattle.kat_histories.specs.declared.calls.Call.{Call}
use Rattle.kat_histories.specs.declared.groups.Group.{Group}
use Rattle.kat_histories.specs.declared.histories.TheConstants.{HISTORY_LIMIT}
use Rattle.kat_histories.specs.declared.stamps.Stamp.{Stamp}
use Rattle.kat_type.specs.declared.done.Done.{Done}
use Rattle.kat_histories.proofs.Counting.{capped_product, capped_quotient, capped_rest, each_block, each_length}

-- no operation is done in one way, and one more in as many times more as there are calls
pub ways_none : (calls : ℕ) → 1 ≡ ways calls 0
ways_none calls = let p = pow-zero calls in omega (arith, p)

pub ways_next : (calls k before : ℕ) → before ≡ ways calls k → min HISTORY_LIMIT (min (before * calls) (2 ^ 64 - 1)) ≡ ways calls (k + 1)
ways_next calls k before is =
    let e : before * calls ≡ calls * min (calls ^ k) HISTORY_LIMIT = ap (λ w. w * calls) is ∙ mul_comm (min (calls ^ k) HISTORY_LIMIT) calls in
    let p : min (calls * min (calls ^ k) HISTORY_LIMIT) HISTORY_LIMIT ≡ min (calls * calls ^ k) HISTORY_LIMIT = capped_product calls (calls ^ k) HISTORY_LIMIT in
    let s : calls ^ (k + 1) ≡ calls * calls ^ k = ap (λ n. calls ^ n) (omega arith) ∙ pow-succ' calls k in
    omega (arith, e, p, s)

dones_long : (calls : List Call) (at : Stamp) → length (dones_at calls at) ≡ length calls
dones_long calls at = length-map calls (done_at at)

-- a group has as many histories as there are ways
pub group_long : (calls : List Call) (ats : List Stamp) → length (histories_at calls ats) ≡ length calls ^ length ats
group_long calls ats = length-map (one_of_each (map (dones_at calls) ats)) history_of ∙ each_length (dones_at calls) (length calls) ats (dones_long calls)

counted : (calls : List Call) (lists : List (List Stamp)) → min (sum_by count_of (map (group_of (length calls)) lists)) HISTORY_LIMIT ≡ min (length (flat_map (histories_at calls) lists)) HISTORY_LIMIT
counted calls [] = refl
counted calls (ats ∷ lists) =
    let here = group_long calls ats in
    let whole : length (histories_at calls ats ++ flat_map (histories_at calls) lists) ≡ length (histories_at calls ats) + length (flat_map (histories_at calls) lists) =
    length-append (histories_at calls ats) (flat_map (histories_at calls) lists) in
    let rest = counted calls lists in
    let sums : sum_by count_of (group_of (length calls) ats ∷ map (group_of (length calls)) lists) ≡ ways (length calls) (length ats) + sum_by count_of (map (group_of (length calls)) lists) =
    sum_by-cons count_of (group_of (length calls) ats) (map (group_of (length calls)) lists) in
    omega (arith, here, whole, rest, sums)

-- all of them, up to the limit
pub total_is : (calls : List Call) (groups : List Group) (n : ℕ) → groups ≡ groups_of (length calls) → n ≡ min (sum_by count_of groups) HISTORY_LIMIT
    → n ≡ length (take HISTORY_LIMIT (all_histories calls))
total_is calls groups n is e =
    let c = counted calls stamp_lists in
    let s : sum_by count_of groups ≡ sum_by count_of (groups_of (length calls)) = ap (sum_by count_of) is in
    let t = length-take HISTORY_LIMIT (all_histories calls) in
    omega (arith, e, s, c, t)

-- the first operation of a history by its number, and the number of the rest
pub record Splits (calls : List Call) (at : Stamp) (ats : List Stamp) (number : ℕ) : Type 0 where
  pub block : 0 < ways (length calls) (length ats)
  pub first : number / ways (length calls) (length ats) < length calls
  pub little : number % ways (length calls) (length ats) < HISTORY_LIMIT
  pub rest : number % ways (length calls) (length ats) < length calls ^ length ats
  pub is : (e : Call) → get_or (one_of_each (map (dones_at calls) (at ∷ ats))) number []
      ≡ headed (done_at at (get_or calls (number / ways (length calls) (length ats)) e)) (get_or (one_of_each (map (dones_at calls) ats)) (number % ways (length calls) (length ats)) [])

pub splits : (calls : List Call) (at : Stamp) (ats : List Stamp) (number : ℕ) → number < HISTORY_LIMIT → number < length calls ^ suc (length ats) → Splits calls at ats number
splits calls at ats number few lt =
    let q = capped_quotient number (length calls ^ length ats) HISTORY_LIMIT few in
    let r = capped_rest number (length calls ^ length ats) HISTORY_LIMIT few in
    let whole : number < length calls * length calls ^ length ats = subst (λ m. number < m) (pow-succ' (length calls) (length ats)) lt in
    let some : 0 < length calls ^ length ats = positive (length calls ^ length ats) (length calls) number whole in
    let less : number / length calls ^ length ats < length calls = (div-lt_iff_lt-mul some).1 whole in
    let left : number % length calls ^ length ats < length calls ^ length ats = mod-lt number some in
    record {
      block = omega (arith, some);
      first = omega (arith, q, less);
      little = let m = mod-le number (ways (length calls) (length ats)) in omega (arith, m, few);
      rest = omega (arith, r, left);
      is = λ e. each_block (dones_at calls) (length calls) at ats number (done_at at e) (dones_long calls) lt
          ∙ ap (λ (d : Done). headed d (get_or (one_of_each (map (dones_at calls) ats)) (number % length calls ^ length ats) [])) (get_or-map (done_at at) calls (number / length calls ^ length ats) e (done_at at e) less)
          ∙ ap (λ (k : ℕ). headed (done_at at (get_or calls k e)) (get_or (one_of_each (map (dones_at calls) ats)) (number % length calls ^ length ats) [])) (sym q)
          ∙ ap (λ (k : ℕ). headed (done_at at (get_or calls (number / ways (length calls) (length ats)) e)) (get_or (one_of_each (map (dones_at calls) ats)) k [])) (sym r);
    } where
      positive : (m c n : ℕ) → n < c * m → 0 < m
      positive zero c n h = absurd (let z = mul-zero c in omega (arith, h, z))
      positive (suc m) c n h = omega arith

pub total_of_groups : (calls : List Call) (groups slice : List Group) (n : ℕ) → groups ≡ groups_of (length calls) → slice ≡ groups → n ≡ min (sum_by count_of slice) HISTORY_LIMIT
    → n ≡ length (take HISTORY_LIMIT (all_histories calls))
total_of_groups calls groups slice n is same e = total_is calls slice n (same ∙ is) e
