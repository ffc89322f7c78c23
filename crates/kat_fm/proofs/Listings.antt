-- The rows by their coefficients: a row is beaten if one of its list beats it.
use Rattle.std.proofs.Common.{◌≡◌, ◌≢◌, ℕ, zero, suc, ◌+◌, ◌-◌, ◌*◌, ◌/◌, ◌^◌, ◌<◌, ◌≤◌, Bool, true, false, if◌then◌else◌, List, length, map, replicate, set, take, drop, get_or, ◌⊎◌, inl, inr, ⊎_elim, refl, sym, ap, ◌∙◌, subst, arith}
use Rattle.std.specs.Prelude.{nat_lt, ◌&&◌, ◌||◌}
use Rattle.std.specs.List.{list_any}
use Rattle.std.proofs.lemmas.Bool.{false≢true, cases_eq, lt-ltb, ltb-true}
use Rattle.std.proofs.lemmas.List.{get_or-set_same, get_or-set_other, get_or-take, get_or-drop, length-take, length-drop, get_or_default, get_or-map, length-map, length-set, length-replicate}
use Rattle.std.proofs.lemmas.List.Folds.{Any-from_list_any, list_any-from_Any}
use Rattle.kat_fm.specs.Combinations.{Combination}
use Rattle.kat_fm.specs.Comparisons.{covers, exceeds}
use Rattle.kat_fm.specs.EntryViews.{combination_in}
use Rattle.kat_fm.specs.Views.{combinations, no_row, is_beaten_at}
use Rattle.kat_fm.specs.Entries.{entries_from}
use Rattle.kat_fm.specs.Lists.{spread_from, list_number, AreOnward, AreLinked, Leads, beats_at}
use Rattle.kat_fm.specs.Lists.Leads.{here, before}
use Rattle.kat_fm.specs.declared.working.Combination.{Combination as Working}
use Rattle.kat_fm.proofs.Certificates.{and_parts}
use Rattle.kat_fm.proofs.Members.{covers_is, exceeds_is, or_cases}

-- what beats a row comes before it and covers it, or after it and exceeds it
beats_told : (rows : List Combination) (place other : ℕ) → beats_at rows place other ≡ true → (other < length rows) × (((other < place) × (covers (get_or rows other no_row) (get_or rows place no_row) ≡ true)) ⊎ ((place < other) × (exceeds (get_or rows other no_row) (get_or rows place no_row) ≡ true)))
beats_told rows place other e =
    let c = covers (get_or rows other no_row) (get_or rows place no_row) in let x = exceeds (get_or rows other no_row) (get_or rows place no_row) in
    let parts = and_parts (nat_lt other (length rows)) (if nat_lt other place then c else (nat_lt place other && x)) e in
    (ltb-true other (length rows) parts.0, at_test (nat_lt other place) refl c x parts.1)
  where
    at_test : (t : Bool) → nat_lt other place ≡ t → (c x : Bool) → (if t then c else (nat_lt place other && x)) ≡ true → ((other < place) × (c ≡ true)) ⊎ ((place < other) × (x ≡ true))
    at_test true h c x f = inl (ltb-true other place h, f)
    at_test false h c x f = let both = and_parts (nat_lt place other) x f in inr (ltb-true place other both.0, both.1)

beats_before : (rows : List Combination) (place other : ℕ) → other < length rows → other < place → covers (get_or rows other no_row) (get_or rows place no_row) ≡ true → beats_at rows place other ≡ true
beats_before rows place other below less e =
    let c = covers (get_or rows other no_row) (get_or rows place no_row) in let x = exceeds (get_or rows other no_row) (get_or rows place no_row) in
    ap (λ b. b && (if nat_lt other place then c else (nat_lt place other && x))) (lt-ltb other (length rows) below) ∙ ap (λ b. if b then c else (nat_lt place other && x)) (lt-ltb other place less) ∙ e

beats_behind : (rows : List Combination) (place other : ℕ) → other < length rows → place < other → exceeds (get_or rows other no_row) (get_or rows place no_row) ≡ true → beats_at rows place other ≡ true
beats_behind rows place other below more e =
    let c = covers (get_or rows other no_row) (get_or rows place no_row) in let x = exceeds (get_or rows other no_row) (get_or rows place no_row) in
    ap (λ b. b && (if nat_lt other place then c else (nat_lt place other && x))) (lt-ltb other (length rows) below) ∙ ap (λ b. if b then c else (nat_lt place other && x)) (not_less other place (omega arith)) ∙ ap (λ b. b && x) (lt-ltb place other more) ∙ e
  where
    not_less : (a b : ℕ) → b ≤ a → nat_lt a b ≡ false
    not_less a b h = grind arith

or_left : (a b : Bool) → a ≡ true → (a || b) ≡ true
or_left true b e = refl
or_left false b e = absurd (false≢true e)

or_right : (a b : Bool) → b ≡ true → (a || b) ≡ true
or_right true b e = refl
or_right false b e = e

listed_to : (rows : List Combination) (place other : ℕ) → beats_at rows place other ≡ true → place < length rows → is_beaten_at rows place ≡ true
listed_to rows place other e below =
    let row = get_or rows place no_row in
    let told = beats_told rows place other e in
    ⊎_elim
    (λ (k : (other < place) × (covers (get_or rows other no_row) row ≡ true)).
    let read : get_or (take place rows) other no_row ≡ get_or rows other no_row = get_or-take place rows other no_row k.0 in
    or_left (list_any (λ x. covers x row) (take place rows)) (list_any (λ x. exceeds x row) (drop (place + 1) rows))
    (list_any-from_Any (λ x. covers x row) (take place rows) (other, get_or rows other no_row, omega (arith, told.0, k.0, length-take place rows), get_or_default (take place rows) other (get_or rows other no_row) no_row (omega (arith, told.0, k.0, length-take place rows)) ∙ read, k.1)))
    (λ (k : (place < other) × (exceeds (get_or rows other no_row) row ≡ true)).
    let j = other - (place + 1) in
    let there : (place + 1) + j ≡ other = omega (arith, k.0) in
    let read : get_or (drop (place + 1) rows) j no_row ≡ get_or rows other no_row = get_or-drop (place + 1) rows j no_row ∙ ap (λ n. get_or rows n no_row) there in
    let inside : j < length (drop (place + 1) rows) = omega (arith, told.0, k.0, length-drop (place + 1) rows) in
    or_right (list_any (λ x. covers x row) (take place rows)) (list_any (λ x. exceeds x row) (drop (place + 1) rows))
    (list_any-from_Any (λ x. exceeds x row) (drop (place + 1) rows) (j, get_or rows other no_row, inside, get_or_default (drop (place + 1) rows) j (get_or rows other no_row) no_row inside ∙ read, k.1)))
    told.1

-- some row beats it when it is beaten
beats_if : (rows : List Combination) (place : ℕ) → place < length rows → is_beaten_at rows place ≡ true → (k : ℕ) × (beats_at rows place k ≡ true)
beats_if rows place below e =
    let row = get_or rows place no_row in
    ⊎_elim
    (λ (k : list_any (λ x. covers x row) (take place rows) ≡ true).
    let found = Any-from_list_any (λ x. covers x row) (take place rows) k in
    let j = found.0 in
    let less : j < place = omega (arith, found.2, length-take place rows) in
    let inside : j < length rows = omega (arith, found.2, length-take place rows) in
    let read : get_or rows j no_row ≡ found.1 = sym (get_or-take place rows j no_row less) ∙ get_or_default (take place rows) j no_row found.1 found.2 ∙ found.3 in
    (j, beats_before rows place j inside less (ap (λ x. covers x row) read ∙ found.4)))
    (λ (k : list_any (λ x. exceeds x row) (drop (place + 1) rows) ≡ true).
    let found = Any-from_list_any (λ x. exceeds x row) (drop (place + 1) rows) k in
    let j = (place + 1) + found.0 in
    let inside : j < length rows = omega (arith, found.2, length-drop (place + 1) rows) in
    let read : get_or rows j no_row ≡ found.1 = sym (get_or-drop (place + 1) rows found.0 no_row) ∙ get_or_default (drop (place + 1) rows) found.0 no_row found.1 found.2 ∙ found.3 in
    (j, beats_behind rows place j inside (omega arith) (ap (λ x. exceeds x row) read ∙ found.4)))
    (or_cases (list_any (λ x. covers x row) (take place rows)) (list_any (λ x. exceeds x row) (drop (place + 1) rows)) e)

pub not_beaten : (rows : List Combination) (place : ℕ) → place < length rows → ((k : ℕ) → beats_at rows place k ≡ true → ⊥) → false ≡ is_beaten_at rows place
not_beaten rows place below none = at_test (is_beaten_at rows place) refl
  where
    at_test : (b : Bool) → is_beaten_at rows place ≡ b → false ≡ b
    at_test false e = refl
    at_test true e = let found = beats_if rows place below e in absurd (none found.0 found.1)

pub is_beaten : (rows : List Combination) (place other : ℕ) → beats_at rows place other ≡ true → place < length rows → true ≡ is_beaten_at rows place
is_beaten rows place other e below = sym (listed_to rows place other e below)

-- one more link, before the others
leads_more : (next : List ℕ) (place x from k : ℕ) → AreOnward next → (from ≡ 0) ⊎ (place + 1 < from) → Leads next from k → Leads (set next place x) from k
leads_more next place x from k on above (here {place = p}) = here
leads_more next place x from k on above (before {place = p} rest) =
    let up = on.up p in
    ⊎_elim
    (λ (e : suc p ≡ 0). absurd (omega arith))
    (λ (less : place + 1 < suc p).
    let apart : p ≢ place = λ e. omega arith in
    let same : get_or (set next place x) p 0 ≡ get_or next p 0 = get_or-set_other next place p x 0 apart in
    let P : ℕ → Type 0 = λ n. Leads (set next place x) n k in
    before (subst P (sym same) (leads_more next place x (get_or next p 0) k on (further place p (get_or next p 0) less up) rest)))
    above
  where
    further : (a p m : ℕ) → a + 1 < suc p → (m ≡ 0) ⊎ (p + 1 < m) → (m ≡ 0) ⊎ (a + 1 < m)
    further a p m l (inl e) = inl e
    further a p m l (inr h) = inr (omega arith)

onward_more : (next : List ℕ) (place x : ℕ) → place < length next → AreOnward next → (x ≡ 0) ⊎ (place + 1 < x) → x ≤ length next → AreOnward (set next place x)
onward_more next place x below on up within = record {
  up = λ k. let Q : ℕ → Type 0 = λ m. (m ≡ 0) ⊎ (k + 1 < m) in ⊎_elim
      (λ (e : k ≡ place).
      let same : get_or (set next place x) k 0 ≡ x = ap (λ j. get_or (set next place x) j 0) e ∙ get_or-set_same next place x 0 below in
      let R : ℕ → Type 0 = λ j. (x ≡ 0) ⊎ (j + 1 < x) in subst Q (sym same) (subst R (sym e) up))
      (λ (apart : k ≢ place). subst Q (sym (get_or-set_other next place k x 0 apart)) (on.up k))
      (cases_eq k place);
  within = λ k. let many : length (set next place x) ≡ length next = length-set next place x in ⊎_elim
      (λ (e : k ≡ place).
      let same : get_or (set next place x) k 0 ≡ x = ap (λ j. get_or (set next place x) j 0) e ∙ get_or-set_same next place x 0 below in
      omega arith)
      (λ (apart : k ≢ place).
      let same : get_or (set next place x) k 0 ≡ get_or next k 0 = get_or-set_other next place k x 0 apart in let l = on.within k in omega arith)
      (cases_eq k place);
}

zero_in : (n k : ℕ) → ◌≡◌ {A = ℕ} (get_or (replicate n 0) k 0) 0
zero_in zero k = refl
zero_in (suc n) zero = refl
zero_in (suc n) (suc k) = zero_in n k

pub links_begin : (numbers first next : List ℕ) → first ≡ replicate (length numbers) 0 → next ≡ replicate (length numbers) 0 → AreLinked numbers (length numbers) first next
links_begin numbers first next e f =
    let none : (k : ℕ) → ◌≡◌ {A = ℕ} (get_or first k 0) 0 = λ k. ap (λ (xs : List ℕ). get_or xs k 0) e ∙ zero_in (length numbers) k in
    let none_next : (k : ℕ) → ◌≡◌ {A = ℕ} (get_or next k 0) 0 = λ k. ap (λ (xs : List ℕ). get_or xs k 0) f ∙ zero_in (length numbers) k in
    record {
      count = ap length e ∙ length-replicate (length numbers) 0;
      size = ap length f ∙ length-replicate (length numbers) 0;
      onward = record { up = λ k. inl (none_next k); within = λ k. let z = none_next k in omega arith };
      first_up = λ k. inl (none k);
      first_within = λ k. let z = none k in omega arith;
      linked = λ k h l. absurd (omega arith);
    }

pub links_more : (numbers : List ℕ) (place number : ℕ) (first next new_first new_next : List ℕ) → number ≡ get_or numbers place 0 → place < length numbers → number < length numbers → AreLinked numbers (place + 1) first next
    → new_next ≡ set next place (get_or first number 0) → new_first ≡ set first number (place + 1) → AreLinked numbers place new_first new_next
links_more numbers place number first next new_first new_next is here_below below are made_next made_first =
    let head = get_or first number 0 in
    let inside : number < length first = omega (arith, are.count) in
    let next_inside : place < length next = omega (arith, are.size) in
    let next_set : List ℕ = set next place head in
    let first_set : List ℕ = set first number (place + 1) in
    let many : length next_set ≡ length next = length-set next place head in
    let at_number : get_or first_set number 0 ≡ place + 1 = get_or-set_same first number (place + 1) 0 inside in
    let at_place : get_or next_set place 0 ≡ head = get_or-set_same next place head 0 next_inside in
    let P : List ℕ → Type 0 = λ xs. AreLinked numbers place new_first xs in
    let Q : List ℕ → Type 0 = λ xs. AreLinked numbers place xs (set next place (get_or first number 0)) in
    subst P (sym made_next) (subst Q (sym made_first) (record {
      count = length-set first number (place + 1) ∙ are.count;
      size = many ∙ are.size;
      onward = onward_more next place head next_inside are.onward (are.first_up number) (are.first_within number);
      first_up = λ k. let U : ℕ → Type 0 = λ m. (m ≡ 0) ⊎ (place < m) in ⊎_elim
          (λ (e : k ≡ number). let same : get_or first_set k 0 ≡ place + 1 = ap (λ j. get_or first_set j 0) e ∙ at_number in inr (omega arith))
          (λ (apart : k ≢ number). subst U (sym (get_or-set_other first number k (place + 1) 0 apart)) (lower place (get_or first k 0) (are.first_up k)))
          (cases_eq k number);
      first_within = λ k. ⊎_elim
          (λ (e : k ≡ number). let same : get_or first_set k 0 ≡ place + 1 = ap (λ j. get_or first_set j 0) e ∙ at_number in omega arith)
          (λ (apart : k ≢ number). let same : get_or first_set k 0 ≡ get_or first k 0 = get_or-set_other first number k (place + 1) 0 apart in let l = are.first_within k in omega arith)
          (cases_eq k number);
      linked = λ k from_here k_below. ⊎_elim
          (λ (e : k ≡ place).
          let own : get_or numbers k 0 ≡ number = ap (λ j. get_or numbers j 0) e ∙ sym is in
          let R : ℕ → Type 0 = λ m. Leads next_set m k in
          let one : suc k ≡ place + 1 = omega arith in
          subst R (one ∙ sym (ap (λ j. get_or first_set j 0) own ∙ at_number)) here)
          (λ (apart : k ≢ place).
          let later : place + 1 ≤ k = omega arith in
          let old : Leads next_set (get_or first (get_or numbers k 0) 0) k =
          leads_more next place head (get_or first (get_or numbers k 0) 0) k are.onward (are.first_up (get_or numbers k 0)) (are.linked k later k_below) in
          ⊎_elim
          (λ (e : get_or numbers k 0 ≡ number).
          let R : ℕ → Type 0 = λ m. Leads next_set m k in
          let S : ℕ → Type 0 = λ m. Leads next_set (get_or first m 0) k in
          let step : Leads next_set (suc place) k = before (subst R (sym at_place) (subst S e old)) in
          let one : suc place ≡ place + 1 = omega arith in
          subst R (one ∙ sym (ap (λ j. get_or first_set j 0) e ∙ at_number)) step)
          (λ (other : get_or numbers k 0 ≢ number).
          let R : ℕ → Type 0 = λ m. Leads next_set m k in
          subst R (sym (get_or-set_other first number (get_or numbers k 0) (place + 1) 0 other)) old)
          (cases_eq (get_or numbers k 0) number))
          (cases_eq k place);
    }))
  where
    lower : (a m : ℕ) → (m ≡ 0) ⊎ (a + 1 < m) → (m ≡ 0) ⊎ (a < m)
    lower a m (inl e) = inl e
    lower a m (inr h) = inr (omega arith)

-- a row that beats another is in its list
pub linked_beats : (count : ℕ) (rows : List Combination) (numbers first next : List ℕ) (place k : ℕ) → numbers ≡ map (list_number count) rows → AreLinked numbers 0 first next → place < length rows → beats_at rows place k ≡ true
    → Leads next (get_or first (get_or numbers place 0) 0) k
linked_beats count rows numbers first next place k is are below e =
    let told = beats_told rows place k e in
    let same : (get_or rows k no_row).coefficients ≡ (get_or rows place no_row).coefficients = ⊎_elim
    (λ (c : (k < place) × (covers (get_or rows k no_row) (get_or rows place no_row) ≡ true)). (covers_is (get_or rows k no_row) (get_or rows place no_row) c.1).same)
    (λ (c : (place < k) × (exceeds (get_or rows k no_row) (get_or rows place no_row) ≡ true)). (exceeds_is (get_or rows k no_row) (get_or rows place no_row) c.1).0.same)
    told.1 in
    let number_at : (j : ℕ) → j < length rows → get_or numbers j 0 ≡ list_number count (get_or rows j no_row) = λ j h. ap (λ xs. get_or xs j 0) is ∙ get_or-map (list_number count) rows j no_row 0 h in
    let one : get_or numbers k 0 ≡ get_or numbers place 0 = number_at k told.0 ∙ ap (λ cs. spread_from 0 (entries_from 0 cs) * count / 2 ^ 64) same ∙ sym (number_at place below) in
    let P : ℕ → Type 0 = λ m. Leads next (get_or first m 0) k in
    let many : length numbers ≡ length rows = ap length is ∙ length-map rows (list_number count) in
    subst P one (are.linked k (omega arith) (omega (arith, told.0)))

pub row_seen : (ws : List Working) (place : ℕ) (w : Working) → place < length ws → w ≡ get_or ws place w → combination_in w ≡ get_or (combinations ws) place no_row
row_seen ws place w below is = ap combination_in is ∙ sym (get_or-map combination_in ws place w no_row below)

-- the walk along a list
pub ahead_more : (rows : List Combination) (place other : ℕ) (next : List ℕ) → beats_at rows place other ≡ false → ((k : ℕ) → beats_at rows place k ≡ true → Leads next (suc other) k)
    → (k : ℕ) → beats_at rows place k ≡ true → Leads next (get_or next other 0) k
ahead_more rows place other next e ahead k h = left (suc other) k refl (ahead k h) h
  where
    left : (from k : ℕ) → from ≡ suc other → Leads next from k → beats_at rows place k ≡ true → Leads next (get_or next other 0) k
    left from k is (here {place = p}) h = absurd (let same : p ≡ other = omega arith in false≢true (sym e ∙ ap (beats_at rows place) (sym same) ∙ h))
    left from k is (before {place = p} rest) h = let same : p ≡ other = omega arith in let P : ℕ → Type 0 = λ n. Leads next (get_or next n 0) k in subst P same rest

pub ahead_none : (rows : List Combination) (place : ℕ) (next : List ℕ) (from : ℕ) → from ≡ 0 → ((k : ℕ) → beats_at rows place k ≡ true → Leads next from k) → (k : ℕ) → beats_at rows place k ≡ true → ⊥
ahead_none rows place next from e ahead k h = none from e (ahead k h)
  where
    none : (n : ℕ) → n ≡ 0 → Leads next n k → ⊥
    none n z here = absurd (omega arith)
    none n z (before rest) = absurd (omega arith)

-- how far the end is
abbrev pub left : ℕ → ℕ → ℕ
left zero count = 0
left (suc place) count = count - place

pub left_falls : (link new count : ℕ) → 0 < link → link ≤ count → (new ≡ 0) ⊎ (link < new) → new ≤ count → left new count < left link count
left_falls zero new count h l up k = absurd (omega arith)
left_falls (suc place) zero count h l up k = omega arith
left_falls (suc place) (suc p) count h l up k = ⊎_elim (λ (e : suc p ≡ 0). absurd (omega arith)) (λ (m : suc place < suc p). omega arith) up

pub link_up : (next : List ℕ) (link : ℕ) → 0 < link → AreOnward next → (get_or next (link - 1) 0 ≡ 0) ⊎ (link < get_or next (link - 1) 0)
link_up next link h on = let one : link - 1 + 1 ≡ link = omega arith in let P : ℕ → Type 0 = λ n. (get_or next (link - 1) 0 ≡ 0) ⊎ (n < get_or next (link - 1) 0) in subst P one (on.up (link - 1))
