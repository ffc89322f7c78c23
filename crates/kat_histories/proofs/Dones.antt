-- The operations of a history by its number, one after the other.
use Rattle.std.proofs.Common.{◌≡◌, ℕ, ◌-◌, ◌^◌, ◌/◌, ◌%◌, ◌<◌, ◌≤◌, List, [], ◌∷◌, ◌++◌, map, length, drop, take, get_or, arith, sym, ◌∙◌, ap, Some}
use Rattle.std.specs.Prelude.{slice_get}
use Rattle.std.proofs.lemmas.List.{append_assoc, get_or-map, length-map}
use Rattle.std.proofs.Math.Seq.{take-length}
use Rattle.std.proofs.lemmas.Option.{slice_get-get_or}
use Rattle.kat_histories.specs.Choices.{one_of_each}
use Rattle.kat_histories.specs.Groups.{ways}
use Rattle.kat_histories.specs.Histories.{done_at, dones_at, histories_at, history_of}
use Rattle.kat_histories.specs.declared.calls.Call.{Call}
use Rattle.kat_histories.specs.declared.histories.TheConstants.{HISTORY_LIMIT}
use Rattle.kat_histories.specs.declared.stamps.Stamp.{Stamp}
use Rattle.kat_type.specs.declared.done.Done.{Done}
use Rattle.kat_histories.proofs.Ways.{Splits, group_long, splits}

-- what a pattern leaves of a list after its first element
abbrev pub rest_of : List Stamp → List Stamp
rest_of stamps = take (length stamps - 1) (drop 1 stamps)

whole_rest : (first : Stamp) (more : List Stamp) → rest_of (first ∷ more) ≡ more
whole_rest first more = ap (λ n. take n more) (omega arith) ∙ take-length more

-- the first operation is done, and then the rest
pub next_dones : (calls : List Call) (stamps : List Stamp) (number block : ℕ) (call : Call) (d : Stamp) (done : Done) (old pushed new : List Done)
    → 1 ≤ length stamps → number < HISTORY_LIMIT → number < length calls ^ length stamps → block ≡ ways (length calls) (length (rest_of stamps)) → call ≡ get_or calls (number / block) call
    → done ≡ done_at (get_or stamps 0 d) call → pushed ≡ old ++ done ∷ []
    → new ≡ pushed ++ get_or (one_of_each (map (dones_at calls) (rest_of stamps))) (number % block) []
    → new ≡ old ++ get_or (one_of_each (map (dones_at calls) stamps)) number []
next_dones calls [] number block call d done old pushed new some few lt b c a p n = absurd (none some) where
  none : 1 ≤ 0 → ⊥
  none h = omega (arith, h)
next_dones calls (first ∷ more) number block call d done old pushed new some few lt b c a p n =
    let w : rest_of (first ∷ more) ≡ more = whole_rest first more in
    let b : block ≡ ways (length calls) (length more) = b ∙ ap (λ (l : List Stamp). ways (length calls) (length l)) w in
    let n : new ≡ pushed ++ get_or (one_of_each (map (dones_at calls) more)) (number % block) [] =
    n ∙ ap (λ (l : List Stamp). pushed ++ get_or (one_of_each (map (dones_at calls) l)) (number % block) []) w in
    let s : Splits calls first more number = splits calls first more number few lt in
    let e : get_or (one_of_each (map (dones_at calls) (first ∷ more))) number [] ≡ done ∷ get_or (one_of_each (map (dones_at calls) more)) (number % block) [] =
    s.is call
    ∙ ap (λ (k : ℕ). done_at first (get_or calls (number / k) call) ∷ get_or (one_of_each (map (dones_at calls) more)) (number % k) []) (sym b)
    ∙ ap (λ (x : Call). done_at first x ∷ get_or (one_of_each (map (dones_at calls) more)) (number % block) []) (sym c)
    ∙ ap (λ (x : Done). x ∷ get_or (one_of_each (map (dones_at calls) more)) (number % block) []) (sym a) in
    n ∙ ap (λ (xs : List Done). xs ++ get_or (one_of_each (map (dones_at calls) more)) (number % block) []) p
    ∙ append_assoc old (done ∷ []) (get_or (one_of_each (map (dones_at calls) more)) (number % block) [])
    ∙ ap (λ (xs : List Done). old ++ xs) (sym e)

-- so a history is made of its operations
pub history_there : (calls : List Call) (ats : List Stamp) (number : ℕ) (ops : List Done) → number < length calls ^ length ats
    → ops ≡ get_or (one_of_each (map (dones_at calls) ats)) number [] → slice_get (histories_at calls ats) number ≡ Some (history_of ops)
history_there calls ats number ops lt is =
    let long = group_long calls ats in
    let m = length-map (one_of_each (map (dones_at calls) ats)) history_of in
    slice_get-get_or (histories_at calls ats) number (history_of []) (omega (arith, long, lt))
    ∙ ap (λ h. Some h) (get_or-map history_of (one_of_each (map (dones_at calls) ats)) number [] (history_of []) (omega (arith, long, m, lt)) ∙ ap history_of (sym is))
