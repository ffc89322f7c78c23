-- How many rows have a positive and a negative coefficient of each variable.
use Rattle.std.proofs.Common.{◌≡◌, ◌≢◌, ℕ, ◌+◌, ◌-◌, ◌*◌, ◌<◌, ◌≤◌, ◌^◌, ℤ, pos, Bool, true, false, if◌then◌else◌, Option, Some, List, [], ◌∷◌, ◌++◌, All, length, set, replicate, take, get_or, refl, sym, ap, ◌∙◌, subst, ◌⊎◌, ⊎_elim, arith}
use Rattle.std.specs.Prelude.{int_lt, count_by, nat_le, ◌&&◌, not}
use Rattle.std.specs.List.{list_all}
use Rattle.std.proofs.lemmas.Int.{ints}
use Rattle.std.proofs.lemmas.Bool.{false≢true, cases_eq}
use Rattle.std.proofs.lemmas.List.Sums.{sum_by-cons, count_by_more_yes, count_by_more_no, count_by-le-length}
use Rattle.std.proofs.lemmas.List.{take_more, length-take, length-replicate, get_or-set_same, get_or-set_other, get_or-replicate, get_or_default}
use Rattle.kat_linear.specs.Rows.{Term, AreAscending, coefficient_in}
use Rattle.kat_fm.specs.declared.choosing.Counts.{Counts}
use Rattle.kat_fm.specs.Combinations.{Combination, at}
use Rattle.kat_fm.specs.Comparisons.{is_zero}
use Rattle.kat_fm.specs.Eliminations.{is_plus, is_minus, is_rest, pairs, better}
use Rattle.kat_fm.specs.Views.{IsCount, AreCounts, IsRoom, no_counts, with_number, AddsRow}
use Rattle.kat_fm.proofs.EntryPlaces.{pushed_apart, pushed_here, past_all}
use Rattle.kat_fm.proofs.Spreads.{all_before}

count-cons : (p : Combination → Bool) (row : Combination) (rows : List Combination) → count_by p (row ∷ rows) ≡ (if p row then 1 else 0) + count_by p rows
count-cons p row rows = sum_by-cons (λ x. if p x then 1 else 0) row rows

rest_is : (z : ℤ) → is_zero z ≡ (not (int_lt (pos 0) z) && not (int_lt z (pos 0)))
rest_is z = grind (arith, ints)

-- no row has the variable if and only if none has a positive or a negative coefficient of it
none_has : (v : ℕ) (rows : List Combination) → count_by (is_plus v) rows ≡ 0 → count_by (is_minus v) rows ≡ 0 → list_all (is_rest v) rows ≡ true
none_has v [] h k = refl
none_has v (row ∷ rows) h k =
    ap (λ b. b && list_all (is_rest v) rows) (rest_is (at v row)) ∙ at_signs (int_lt (pos 0) (at v row)) (int_lt (at v row) (pos 0)) (count_by (is_plus v) rows) (count_by (is_minus v) rows)
    (sym (count-cons (is_plus v) row rows) ∙ h) (sym (count-cons (is_minus v) row rows) ∙ k) (none_has v rows)
  where
    at_signs : (a b : Bool) (m n : ℕ) → (if a then 1 else 0) + m ≡ 0 → (if b then 1 else 0) + n ≡ 0 → (m ≡ 0 → n ≡ 0 → list_all (is_rest v) rows ≡ true) → ((not a && not b) && list_all (is_rest v) rows) ≡ true
    at_signs true b m n h k rest = absurd (omega arith)
    at_signs false true m n h k rest = absurd (omega arith)
    at_signs false false m n h k rest = rest (omega arith) (omega arith)

some_has : (v : ℕ) (rows : List Combination) → list_all (is_rest v) rows ≡ true → (count_by (is_plus v) rows ≡ 0) × (count_by (is_minus v) rows ≡ 0)
some_has v [] h = (refl, refl)
some_has v (row ∷ rows) h =
    let parts = at_signs (int_lt (pos 0) (at v row)) (int_lt (at v row) (pos 0)) (count_by (is_plus v) rows) (count_by (is_minus v) rows) (sym (ap (λ b. b && list_all (is_rest v) rows) (rest_is (at v row))) ∙ h) (some_has v rows) in
    (count-cons (is_plus v) row rows ∙ parts.0, count-cons (is_minus v) row rows ∙ parts.1)
  where
    at_signs : (a b : Bool) (m n : ℕ) → ((not a && not b) && list_all (is_rest v) rows) ≡ true → (list_all (is_rest v) rows ≡ true → (m ≡ 0) × (n ≡ 0)) → ((if a then 1 else 0) + m ≡ 0) × ((if b then 1 else 0) + n ≡ 0)
    at_signs true b m n h rest = absurd (false≢true h)
    at_signs false true m n h rest = absurd (false≢true h)
    at_signs false false m n h rest = let r = rest h in (omega (arith, r.0), omega (arith, r.1))

pub rest_none : (v : ℕ) (rows : List Combination) (counts : Counts) → IsCount rows v counts → counts.plus ≡ 0 → counts.minus ≡ 0 → list_all (is_rest v) rows ≡ true
rest_none v rows counts h a b = none_has v rows (sym h.plus ∙ a) (sym h.minus ∙ b)

pub rest_some : (v : ℕ) (rows : List Combination) (counts : Counts) → IsCount rows v counts → ((counts.plus ≡ 0) × (counts.minus ≡ 0) → ⊥) → list_all (is_rest v) rows ≡ false
rest_some v rows counts h no_zeros = at_test (list_all (is_rest v) rows) refl
  where
    at_test : (b : Bool) → list_all (is_rest v) rows ≡ b → list_all (is_rest v) rows ≡ false
    at_test false e = e
    at_test true e = let k = some_has v rows e in absurd (no_zeros (h.plus ∙ k.0, h.minus ∙ k.1))

pub pairs_are : (v : ℕ) (rows : List Combination) (counts : Counts) → IsCount rows v counts → counts.plus * counts.minus ≡ pairs v rows
pairs_are v rows counts h = ap (λ m. m * counts.minus) h.plus ∙ ap (λ n. count_by (is_plus v) rows * n) h.minus

-- one coefficient more, and one row more
pub with_zero : (counts : Counts) → with_number (pos 0) counts ≡ counts
with_zero counts = made counts.plus counts.minus (counts.plus + 0) (counts.minus + 0) (omega arith) (omega arith)
  where
    made : (a b c d : ℕ) → c ≡ a → d ≡ b → ◌≡◌ {A = Counts} (record { plus = c; minus = d }) (record { plus = a; minus = b })
    made a b c d e f = cc

-- the counts with the coefficients of some entries too
abbrev pub AddsEntries : List Term → List Counts → List Counts → Type 0
AddsEntries es old new = (v : ℕ) → v < length old → get_or new v no_counts ≡ with_number (coefficient_in es v) (get_or old v no_counts)

pub entries_begin : (old : List Counts) → AddsEntries [] old old
entries_begin old v h = sym (with_zero (get_or old v no_counts))

untouched : (es : List Term) (i : ℕ) (d : Term) (old new : List Counts) → AreAscending es → i < length es → (get_or es i d).0 < length old → AddsEntries (take i es) old new → get_or new (get_or es i d).0 no_counts ≡ get_or old (get_or es i d).0 no_counts
untouched es i d old new h below inside before =
    let v = (get_or es i d).0 in
    before v inside ∙ ap (λ z. with_number z (get_or old v no_counts)) (past_all (take i es) v (all_before es i d h below)) ∙ with_zero (get_or old v no_counts)

pub entries_more : (es : List Term) (i : ℕ) (d : Term) (old now new : List Counts) → AreAscending es → i < length es → length now ≡ length old → AddsEntries (take i es) old now
    → new ≡ set now (get_or es i d).0 (with_number (get_or es i d).1 (get_or now (get_or es i d).0 no_counts)) → AddsEntries (take (i + 1) es) old new
entries_more es i d old now new h below size before made v inside =
    let e : Term = get_or es i d in
    let written = with_number e.1 (get_or now e.0 no_counts) in
    let here : List Counts = set now e.0 written in
    let grown : coefficient_in (take (i + 1) es) v ≡ coefficient_in (take i es ++ e ∷ []) v = ap (λ xs. coefficient_in xs v) (take_more es i d below) in
    ap (λ (xs : List Counts). get_or xs v no_counts) made ∙ ⊎_elim
    (λ (same : e.0 ≡ v).
    let in_old : e.0 < length old = omega (arith, same) in
    ap (λ n. get_or here n no_counts) (sym same) ∙ get_or-set_same now e.0 written no_counts (omega arith)
    ∙ ap (with_number e.1) (untouched es i d old now h below in_old before)
    ∙ ap (λ z. with_number z (get_or old e.0 no_counts)) (sym (pushed_here (take i es) e (all_before es i d h below)) ∙ sym (ap (λ xs. coefficient_in xs e.0) (take_more es i d below)))
    ∙ ap (λ n. with_number (coefficient_in (take (i + 1) es) n) (get_or old n no_counts)) same)
    (λ (apart : e.0 ≢ v).
    get_or-set_other now e.0 v written no_counts (λ j. apart (sym j)) ∙ before v inside ∙ ap (λ z. with_number z (get_or old v no_counts)) (sym (grown ∙ pushed_apart (take i es) e v apart)))
    (cases_eq e.0 v)

pub room_left : (es : List Term) (i : ℕ) (d : Term) (old now : List Counts) → AreAscending es → i < length es → length now ≡ length old → AddsEntries (take i es) old now → All IsRoom old
    → (get_or es i d).0 < length now → IsRoom (get_or now (get_or es i d).0 no_counts)
room_left es i d old now h below size before room inside =
    let in_old : (get_or es i d).0 < length old = omega arith in
    subst IsRoom (sym (untouched es i d old now h below in_old before)) (room (get_or es i d).0 no_counts in_old)

counted_more : (p : Combination → Bool) (rows : List Combination) (i : ℕ) (d : Combination) → i < length rows → count_by p (take i rows) + (if p (get_or rows i d) then 1 else 0) ≡ count_by p (take (i + 1) rows)
counted_more p rows i d h = at_test (p (get_or rows i d)) refl
  where
    at_test : (b : Bool) → p (get_or rows i d) ≡ b → count_by p (take i rows) + (if b then 1 else 0) ≡ count_by p (take (i + 1) rows)
    at_test true e = sym (count_by_more_yes p rows i d h e)
    at_test false e = let same = count_by_more_no p rows i d h e in omega (arith, same)

pub counts_begin : (rows : List Combination) (vars : ℕ) (all : List Counts) → all ≡ replicate vars no_counts → AreCounts (take 0 rows) all
counts_begin rows vars all e v h =
    let below : v < vars = omega (arith, ap length e, length-replicate vars no_counts) in
    let is : get_or all v no_counts ≡ no_counts = ap (λ xs. get_or xs v no_counts) e ∙ get_or-replicate vars v no_counts no_counts below in
    let P : Counts → Type 0 = λ c. IsCount [] v c in
    subst P (sym is) (record { plus = refl; minus = refl })

pub counts_more : (rows : List Combination) (i : ℕ) (d : Combination) (old new : List Counts) → i < length rows → length new ≡ length old → AreCounts (take i rows) old → AddsRow (get_or rows i d) old new → AreCounts (take (i + 1) rows) new
counts_more rows i d old new below size before added v h =
    let row = get_or rows i d in
    let inside : v < length old = omega arith in
    let now = before v inside in
    let P : Counts → Type 0 = λ c. IsCount (take (i + 1) rows) v c in
    subst P (sym (added v inside)) (record {
      plus = ap (λ n. n + (if is_plus v row then 1 else 0)) now.plus ∙ counted_more (is_plus v) rows i d below;
      minus = ap (λ n. n + (if is_minus v row then 1 else 0)) now.minus ∙ counted_more (is_minus v) rows i d below;
    })

pub counts_room : (rows : List Combination) (i : ℕ) (all : List Counts) → i < 2 ^ 63 → AreCounts (take i rows) all → All IsRoom all
counts_room rows i all h before v d below =
    let is = before v below in
    let short : length (take i rows) ≤ i = omega (arith, length-take i rows) in
    let room : IsRoom (get_or all v no_counts) = record {
      plus = omega (arith, is.plus, count_by-le-length (is_plus v) (take i rows));
      minus = omega (arith, is.minus, count_by-le-length (is_minus v) (take i rows));
    } in
    subst IsRoom (get_or_default all v no_counts d below) room

-- the better variable so far
pub better_none : (rows : List Combination) (kept : Option ℕ) (v : ℕ) (counts : Counts) → (counts.plus ≡ 0) × (counts.minus ≡ 0) → IsCount rows v counts → kept ≡ (if list_all (is_rest v) rows then kept else better rows kept v)
better_none rows kept v counts zeros h = ap (λ b. if b then kept else better rows kept v) (sym (rest_none v rows counts h zeros.0 zeros.1))

pub better_some : (rows : List Combination) (kept : Option ℕ) (v : ℕ) (counts : Counts) (new : Option ℕ) → ((counts.plus ≡ 0) × (counts.minus ≡ 0) → ⊥) → IsCount rows v counts → new ≡ better rows kept v → new ≡ (if list_all (is_rest v) rows then kept else better rows kept v)
better_some rows kept v counts new some h e = e ∙ ap (λ b. if b then kept else better rows kept v) (sym (rest_some v rows counts h some))

pub keeps_better : (rows : List Combination) (kept v k : ℕ) (counts : Counts) → IsCount rows v counts → k ≡ pairs kept rows → k ≤ counts.plus * counts.minus → Some kept ≡ better rows (Some kept) v
keeps_better rows kept v k counts h e l =
    let more : nat_le (pairs kept rows) (pairs v rows) ≡ true = le_leb (pairs kept rows) (pairs v rows) (omega (arith, pairs_are v rows counts h, e)) in
    ap (λ b. if b then Some kept else Some v) (sym more)
  where
    le_leb : (a b : ℕ) → a ≤ b → nat_le a b ≡ true
    le_leb a b h = grind arith

pub takes_better : (rows : List Combination) (kept v k : ℕ) (counts : Counts) → IsCount rows v counts → k ≡ pairs kept rows → counts.plus * counts.minus < k → Some v ≡ better rows (Some kept) v
takes_better rows kept v k counts h e l =
    let less : nat_le (pairs kept rows) (pairs v rows) ≡ false = lt_leb (pairs kept rows) (pairs v rows) (omega (arith, pairs_are v rows counts h, e)) in
    ap (λ b. if b then Some kept else Some v) (sym less)
  where
    lt_leb : (a b : ℕ) → b < a → nat_le a b ≡ false
    lt_leb a b h = grind arith

pub count_at : (rows : List Combination) (all xs : List Counts) (v : ℕ) (d : Counts) → xs ≡ all → AreCounts rows all → v < length xs → IsCount rows v (get_or xs v d)
count_at rows all xs v d e h below =
    let inside : v < length all = omega (arith, ap length e) in
    let P : Counts → Type 0 = IsCount rows v in
    subst P (get_or_default all v no_counts d inside ∙ ap (λ (ys : List Counts). get_or ys v d) (sym e)) (h v inside)
