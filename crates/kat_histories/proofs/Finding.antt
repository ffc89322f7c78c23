-- The history with a number is sought among the groups, one after the other.
use Rattle.std.proofs.Common.{◌≡◌, ℕ, zero, suc, ◌+◌, ◌-◌, ◌^◌, ◌<◌, ◌≤◌, List, [], ◌∷◌, ◌++◌, length, drop, take, get_or, arith, refl, sym, ◌∙◌, ap, subst, Some}
use Rattle.std.specs.Prelude.{slice_get}
use Rattle.std.specs.List.{flat_map}
use Rattle.std.proofs.lemmas.List.{drop_all, get_or-map, length-append, length-map, length-take}
use Rattle.kat_histories.specs.Groups.{group_of, groups_of, ways}
use Rattle.kat_histories.specs.Histories.{all_histories, histories_at, stamp_lists}
use Rattle.kat_histories.specs.declared.calls.Call.{Call}
use Rattle.kat_histories.specs.declared.groups.Group.{Group}
use Rattle.kat_histories.specs.declared.histories.History.{History}
use Rattle.kat_histories.specs.declared.histories.TheConstants.{HISTORY_LIMIT}
use Rattle.kat_histories.specs.declared.stamps.Stamp.{Stamp}
use Rattle.kat_histories.proofs.Pieces.{get_behind, get_here, get_taken}
use Rattle.kat_histories.proofs.Ways.{group_long}

-- what is sought is what has this number among these groups
pub record Seeks (calls : List Call) (lists : List (List Stamp)) (i left : ℕ) : Type 0 where
  pub same : slice_get (all_histories calls) i ≡ slice_get (flat_map (histories_at calls) lists) left
  pub within : left < length (flat_map (histories_at calls) lists)
  pub few : left < HISTORY_LIMIT

pub seeks_first : (calls : List Call) (i : ℕ) → i < length (take HISTORY_LIMIT (all_histories calls)) → Seeks calls (drop 0 stamp_lists) i i
seeks_first calls i lt =
    let t = length-take HISTORY_LIMIT (all_histories calls) in
    record { same = refl; within = omega (arith, lt, t); few = omega (arith, lt, t) }

-- it isn't in the first group
seeks_on : (calls : List Call) (ats : List Stamp) (lists : List (List Stamp)) (i left : ℕ) → Seeks calls (ats ∷ lists) i left → ways (length calls) (length ats) ≤ left
    → Seeks calls lists i (left - ways (length calls) (length ats))
seeks_on calls ats lists i left s past =
    let long = group_long calls ats in
    let f = s.few in
    let all : ways (length calls) (length ats) ≡ length calls ^ length ats = omega (arith, past, f) in
    let both : length (histories_at calls ats ++ flat_map (histories_at calls) lists) ≡ length (histories_at calls ats) + length (flat_map (histories_at calls) lists) =
    length-append (histories_at calls ats) (flat_map (histories_at calls) lists) in
    let w = s.within in
    record {
      same = s.same ∙ get_behind (histories_at calls ats) (flat_map (histories_at calls) lists) left (omega (arith, long, all, past))
          ∙ ap (slice_get (flat_map (histories_at calls) lists)) (omega (arith, long, all));
      within = omega (arith, w, both, long, all, past);
      few = omega (arith, f);
    }

-- it is in the first group
seeks_here : (calls : List Call) (ats : List Stamp) (lists : List (List Stamp)) (i left : ℕ) → Seeks calls (ats ∷ lists) i left → left < ways (length calls) (length ats)
    → slice_get (all_histories calls) i ≡ slice_get (histories_at calls ats) left
seeks_here calls ats lists i left s lt =
    let long = group_long calls ats in
    s.same ∙ get_here (histories_at calls ats) (flat_map (histories_at calls) lists) left (omega (arith, long, lt))

-- the lists of stamps after a place
dropped : {X : Type 0} (xs : List X) (k : ℕ) (d : X) → k < length xs → drop k xs ≡ get_or xs k d ∷ drop (k + 1) xs
dropped [] k d lt = absurd (none k lt) where
  none : (k : ℕ) → k < 0 → ⊥
  none k h = omega (arith, h)
dropped (x ∷ xs) zero d lt = refl
dropped (x ∷ xs) (suc k) d lt =
    let n : suc (k + 1) ≡ suc k + 1 = omega arith in
    dropped xs k d (omega (arith, lt)) ∙ ap (λ n. get_or xs k d ∷ drop n (x ∷ xs)) n

-- the group at a place, by its stamps
group_at : (calls : List Call) (groups : List Group) (k : ℕ) (group : Group) → groups ≡ groups_of (length calls) → k < length groups → group ≡ get_or groups k group
    → (k < length stamp_lists) × (group ≡ group_of (length calls) (get_or stamp_lists k []))
group_at calls groups k group is lt e =
    let n : length groups ≡ length (groups_of (length calls)) = ap length is in
    let m = length-map stamp_lists (group_of (length calls)) in
    let l : k < length stamp_lists = omega (arith, lt, n, m) in
    (l, e ∙ ap (λ (gs : List Group). get_or gs k group) is ∙ get_or-map (group_of (length calls)) stamp_lists k [] group l)

pub seeks_next : (calls : List Call) (groups : List Group) (k n i left : ℕ) (group : Group) → n ≡ suc k → groups ≡ groups_of (length calls) → k < length groups → group ≡ get_or groups k group
    → Seeks calls (drop k stamp_lists) i left → group.count ≤ left → Seeks calls (drop n stamp_lists) i (left - group.count)
seeks_next calls groups k n i left group m is lt e s past =
    let g = group_at calls groups k group is lt e in
    let c : group.count ≡ ways (length calls) (length (get_or stamp_lists k [])) = ap (λ (x : Group). x.count) g.1 in
    subst (λ (j : ℕ). Seeks calls (drop j stamp_lists) i (left - group.count)) (omega (arith, m))
    (subst (λ (w : ℕ). Seeks calls (drop (k + 1) stamp_lists) i (left - w)) (sym c)
    (seeks_on calls (get_or stamp_lists k []) (drop (k + 1) stamp_lists) i left
    (subst (λ (l : List (List Stamp)). Seeks calls l i left) (dropped stamp_lists k [] g.0) s) (omega (arith, past, c))))

pub seeks_found : (calls : List Call) (groups : List Group) (k i left : ℕ) (group : Group) (found : History) → groups ≡ groups_of (length calls) → k < length groups → group ≡ get_or groups k group
    → Seeks calls (drop k stamp_lists) i left → left < group.count → i < length (take HISTORY_LIMIT (all_histories calls))
    → slice_get (histories_at calls group.stamps) left ≡ Some found → slice_get (take HISTORY_LIMIT (all_histories calls)) i ≡ Some found
seeks_found calls groups k i left group found is lt e s less within h =
    let g = group_at calls groups k group is lt e in
    let c : group.count ≡ ways (length calls) (length (get_or stamp_lists k [])) = ap (λ (x : Group). x.count) g.1 in
    let a : group.stamps ≡ get_or stamp_lists k [] = ap (λ (x : Group). x.stamps) g.1 in
    let t = length-take HISTORY_LIMIT (all_histories calls) in
    get_taken HISTORY_LIMIT (all_histories calls) i (omega (arith, within, t))
    ∙ seeks_here calls (get_or stamp_lists k []) (drop (k + 1) stamp_lists) i left
    (subst (λ (l : List (List Stamp)). Seeks calls l i left) (dropped stamp_lists k [] g.0) s) (omega (arith, less, c))
    ∙ ap (λ (l : List Stamp). slice_get (histories_at calls l) left) (sym a) ∙ h

-- if it is in the group, it is below the number of ways
pub seeks_few : (calls : List Call) (groups : List Group) (k left : ℕ) (group : Group) → groups ≡ groups_of (length calls) → k < length groups → group ≡ get_or groups k group
    → left < group.count → left < length calls ^ length group.stamps
seeks_few calls groups k left group is lt e less =
    let g = group_at calls groups k group is lt e in
    let c : group.count ≡ ways (length calls) (length (get_or stamp_lists k [])) = ap (λ (x : Group). x.count) g.1 in
    let a : length group.stamps ≡ length (get_or stamp_lists k []) = ap (λ (x : Group). length x.stamps) g.1 in
    let p : length calls ^ length group.stamps ≡ length calls ^ length (get_or stamp_lists k []) = ap (λ n. length calls ^ n) a in
    omega (arith, less, c, p)

-- after all groups nothing is left to find
pub seeks_nothing : (calls : List Call) (groups : List Group) (k i left : ℕ) → groups ≡ groups_of (length calls) → length groups ≤ k → Seeks calls (drop k stamp_lists) i left → ⊥
seeks_nothing calls groups k i left is past s =
    let n : length groups ≡ length (groups_of (length calls)) = ap length is in
    let m = length-map stamp_lists (group_of (length calls)) in
    let e : drop k stamp_lists ≡ [] = drop_all k stamp_lists (omega (arith, past, n, m)) in
    let w : left < length (flat_map (histories_at calls) []) = subst (λ (l : List (List Stamp)). left < length (flat_map (histories_at calls) l)) e s.within in
    omega (arith, w)
