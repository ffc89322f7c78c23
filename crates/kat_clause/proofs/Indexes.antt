-- What an index keeps as clauses are added.
use Rattle.std.proofs.Common.{◌≡◌, ◌≢◌, ℕ, zero, suc, ◌+◌, ◌*◌, ◌<◌, ◌≤◌, ℤ, pos, negsuc, List, [], ◌∷◌, ◌++◌, length, get_or, set, take, subst, Vec, ⊎_elim, refl, sym, ap, ◌∙◌, arith, Contains}
use Rattle.std.specs.Global.{Global}
use Rattle.std.proofs.lemmas.Bool.{cases_eq, cases_lt}
use Rattle.std.proofs.lemmas.List.{map-set, length-set, length_push, get_or-set_same, get_or-set_other, get_or_push, get_or_append_left, get_or-map, set-get_or, length-map, length-take-le, get_or-take}
use Rattle.std.proofs.lemmas.List.Elements.{Contains-push, Contains-push_cases, Contains-append_left}
use Rattle.kat_clause.specs.Literals.{code_of, IsUpTo}
use Rattle.kat_clause.specs.Tables.{IsBelow, AreBelow, IsIndex, clause_at, rows, KeepsRows, KeepsBut, IsNoted}

-- literals of variables up to the greatest have their places in the table
pub below_size : (greatest : ℕ) (k : ℤ) → IsUpTo greatest k → IsBelow (2 * greatest + 2) k
below_size greatest (pos zero) h = (omega arith, omega arith)
below_size greatest (pos (suc n)) h = (omega arith, omega arith)
below_size greatest (negsuc n) h = (omega arith, omega arith)

pub KeepsRows-same : (table : List (List ℕ)) → KeepsRows table table
KeepsRows-same table = record { size = refl; kept = λ code i has. has }

pub KeepsRows-trans : (a b c : List (List ℕ)) → KeepsRows a b → KeepsRows b c → KeepsRows a c
KeepsRows-trans a b c f g = record { size = g.size ∙ f.size; kept = λ code i has. g.kept code i (f.kept code i has) }

-- one more number in a row
pub KeepsRows-push : (table : List (List ℕ)) (code number : ℕ) → code < length table → KeepsRows table (set table code (get_or table code [] ++ number ∷ []))
KeepsRows-push table code number h = record {
  size = length-set table code (get_or table code [] ++ number ∷ []);
  kept = λ other i has. ⊎_elim
      (λ (e : other ≡ code). rw (e, get_or-set_same table code (get_or table code [] ++ number ∷ []) [] h) (Contains-append_left (get_or table code []) (number ∷ []) i (rw e at has)))
      (λ (ne : other ≢ code). rw (get_or-set_other table code other (get_or table code [] ++ number ∷ []) [] ne) has)
      (cases_eq other code);
}

pub noted_push : (table : List (List ℕ)) (code number : ℕ) → code < length table → Contains (get_or (set table code (get_or table code [] ++ number ∷ [])) code []) number
noted_push table code number h = rw (get_or-set_same table code (get_or table code [] ++ number ∷ []) [] h) (Contains-push (get_or table code []) number)

-- rows as lists, after a write
pub rows-set : (table : List (Vec ℕ Global)) (code : ℕ) (row : Vec ℕ Global) → rows (set table code row) ≡ set (rows table) code row.items
rows-set table code row = map-set (λ (r : Vec ℕ Global). r.items) table code row

-- a longer table indexes the same clauses
pub IsIndex-longer : (clauses : List (List ℤ)) (table table' : List (List ℕ)) → KeepsRows table table' → IsIndex clauses table → IsIndex clauses table'
IsIndex-longer clauses table table' rows_more index = record {
  below = λ i h k has. rw rows_more.size (index.below i h k has);
  occurrences = λ i h k has. rows_more.kept (code_of k) i (index.occurrences i h k has);
}

-- a clause that has been noted may be added
pub IsIndex-push : (clauses : List (List ℤ)) (clause : List ℤ) (table : List (List ℕ)) → IsIndex clauses table
    → ((k : ℤ) → Contains clause k → IsBelow (length table) k) → IsNoted table clause (length clauses)
    → IsIndex (clauses ++ clause ∷ []) table
IsIndex-push clauses clause table index below noted =
    let at_end : clause_at (clauses ++ clause ∷ []) (length clauses) ≡ clause = get_or_push clauses clause [] (length clauses) refl in
    let before : (i : ℕ) → i < length clauses → clause_at (clauses ++ clause ∷ []) i ≡ clause_at clauses i = λ i h. get_or_append_left clauses (clause ∷ []) [] i h in
    let last : (i : ℕ) → i < length (clauses ++ clause ∷ []) → length clauses ≤ i → i ≡ length clauses = λ i h l. omega (arith, length_push clauses clause) in
    record {
      below = λ i h k has. ⊎_elim
          (λ (l : i < length clauses). index.below i l k (rw (before i l) at has))
          (λ (l : length clauses ≤ i). below k (rw (last i h l, at_end) at has))
          (cases_lt i (length clauses));
      occurrences = λ i h k has. ⊎_elim
          (λ (l : i < length clauses). index.occurrences i l k (rw (before i l) at has))
          (λ (l : length clauses ≤ i). rw (last i h l) (noted k (rw (last i h l, at_end) at has)))
          (cases_lt i (length clauses));
    }

row_items : (table : List (Vec ℕ Global)) (code : ℕ) (row : Vec ℕ Global) → code < length table → row ≡ get_or table code row → row.items ≡ get_or (rows table) code []
row_items table code row h is = ap (λ (r : Vec ℕ Global). r.items) is ∙ sym (get_or-map (λ (r : Vec ℕ Global). r.items) table code row [] h)

-- the rows after a push on one of them
pub rows-push : (table : List (Vec ℕ Global)) (code number : ℕ) (old new : Vec ℕ Global) → code < length table → old ≡ get_or table code old → new.items ≡ old.items ++ number ∷ [] → rows (set table code new) ≡ set (rows table) code (get_or (rows table) code [] ++ number ∷ [])
rows-push table code number old new h is e = rows-set table code new ∙ ap (λ (r : List ℕ). set (rows table) code r) (e ∙ ap (λ (r : List ℕ). r ++ number ∷ []) (row_items table code old h is))

-- the rows after a push that failed
pub rows-same : (table : List (Vec ℕ Global)) (code : ℕ) (old new : Vec ℕ Global) → code < length table → old ≡ get_or table code old → new.items ≡ old.items → rows (set table code new) ≡ rows table
rows-same table code old new h is e = rows-set table code new ∙ ap (λ (r : List ℕ). set (rows table) code r) (e ∙ row_items table code old h is) ∙ set-get_or (rows table) code []

-- the rows of another row
pub KeepsBut-same : (number : ℕ) (table : List (List ℕ)) → KeepsBut number table table
KeepsBut-same number table = record { size = refl; kept = λ code i ne has. has }

pub KeepsBut-trans : (number : ℕ) (a b c : List (List ℕ)) → KeepsBut number a b → KeepsBut number b c → KeepsBut number a c
KeepsBut-trans number a b c f g = record { size = g.size ∙ f.size; kept = λ code i ne has. g.kept code i ne (f.kept code i ne has) }

pub KeepsBut-set : (number : ℕ) (table : List (List ℕ)) (code : ℕ) (row : List ℕ) → code < length table → ((i : ℕ) → i ≢ number → Contains (get_or table code []) i → Contains row i) → KeepsBut number table (set table code row)
KeepsBut-set number table code row h keeps = record {
  size = length-set table code row;
  kept = λ other i ne has. ⊎_elim
      (λ (e : other ≡ code). rw (e, get_or-set_same table code row [] h) (keeps i ne (rw e at has)))
      (λ (apart : other ≢ code). rw (get_or-set_other table code other row [] apart) has)
      (cases_eq other code);
}

pub rows-written : (table : List (Vec ℕ Global)) (code : ℕ) (old new : Vec ℕ Global) (number : ℕ) → code < length table → old ≡ get_or table code old → ((i : ℕ) → i ≢ number → Contains old.items i → Contains new.items i) → KeepsBut number (rows table) (rows (set table code new))
rows-written table code old new number h is keeps =
    let P : List (List ℕ) → Type 0 = KeepsBut number (rows table) in
    let at : old.items ≡ get_or (rows table) code [] = row_items table code old h is in
    let Q : List ℕ → Type 0 = λ row. (i : ℕ) → i ≢ number → Contains row i → Contains new.items i in
    subst P (sym (rows-set table code new)) (KeepsBut-set number (rows table) code new.items (omega (arith, length-map table (λ (r : Vec ℕ Global). r.items))) (subst Q at keeps))

-- the clauses before the last keep their index
pub IsIndex-back : (clauses : List (List ℤ)) (number : ℕ) (table table' : List (List ℕ)) → number < length clauses → KeepsBut number table table' → IsIndex clauses table → IsIndex (take number clauses) table'
IsIndex-back clauses number table table' h keeps index =
    let size : length (take number clauses) ≡ number = length-take-le number clauses (omega (arith, h)) in
    let at : (i : ℕ) → i < number → clause_at (take number clauses) i ≡ clause_at clauses i = λ i l. get_or-take number clauses i [] l in
    record {
      below = λ i l k has. let low : i < number = omega (arith, l, size) in rw keeps.size (index.below i (omega (arith, low, h)) k (rw (at i low) at has));
      occurrences = λ i l k has. let low : i < number = omega (arith, l, size) in
          keeps.kept (code_of k) i (λ e. omega (arith, low, e)) (index.occurrences i (omega (arith, low, h)) k (rw (at i low) at has));
    }

-- all but the last number of a row
pub kept_popped : (row left : List ℕ) (last number : ℕ) → row ≡ left ++ last ∷ [] → last ≡ number → (i : ℕ) → i ≢ number → Contains row i → Contains left i
kept_popped row left last number e is i ne has = ⊎_elim
    (λ was. was)
    (λ (same : last ≡ i). absurd (ne (sym same ∙ is)))
    (Contains-push_cases left last i (rw e at has))

-- the last clause's literals have their places
pub below_last : (all front : List (List ℤ)) (clause : List ℤ) (size : ℕ) → all ≡ front ++ clause ∷ [] → AreBelow size all → (k : ℤ) → Contains clause k → IsBelow size k
below_last all front clause size whole below k has =
    let P : List (List ℤ) → Type 0 = AreBelow size in
    let there : AreBelow size (front ++ clause ∷ []) = subst P whole below in
    there (length front) (omega (arith, length_push front clause)) k (rw (get_or_push front clause [] (length front) refl) has)
