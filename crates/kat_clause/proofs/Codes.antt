-- A literal and its code stand for each other.
use Rattle.std.proofs.Common.{◌≡◌, ◌≢◌, ℕ, zero, suc, ◌+◌, ◌<◌, ◌≤◌, ℤ, pos, negsuc, neg_ℤ, unsigned_abs, List, length, get_or, set, Bool, true, false, ◌⊎◌, inl, inr, ⊎_elim, sym, ap, ◌∙◌, arith, Contains, if◌then◌else◌}
use Rattle.std.proofs.lemmas.Bool.{cases_eq, cases_Bool}
use Rattle.std.proofs.lemmas.List.{get_or-set_same, get_or-set_other, get_or_default}
use Rattle.std.proofs.lemmas.List.Sums.{sum_by-set}
use Rattle.kat_clause.specs.Literals.{code_of}
use Rattle.kat_clause.specs.Tables.{IsMarked}
use Rattle.kat_clause.specs.Propagations.{unmarked}

pub code_of-same : (a b : ℤ) → code_of a ≡ code_of b → a ≡ b
code_of-same (pos a) (pos b) e = let same : a ≡ b = omega arith in ap pos same
code_of-same (pos a) (negsuc b) e = absurd (omega arith)
code_of-same (negsuc a) (pos b) e = absurd (omega arith)
code_of-same (negsuc a) (negsuc b) e = let same : a ≡ b = omega arith in ap negsuc same

pub cases_literal : (a b : ℤ) → (a ≡ b) ⊎ (a ≢ b)
cases_literal a b = ⊎_elim (λ e. inl (code_of-same a b e)) (λ ne. inr (λ e. ne (ap code_of e))) (cases_eq (code_of a) (code_of b))

pub marked_at : (marks : List Bool) (i : ℕ) → i < length marks → IsMarked (set marks i true) i
marked_at marks i h = get_or-set_same marks i true false h

pub marked_kept : (marks : List Bool) (i j : ℕ) → i < length marks → IsMarked marks j → IsMarked (set marks i true) j
marked_kept marks i j h m = ⊎_elim
    (λ (e : j ≡ i). rw e (get_or-set_same marks i true false h))
    (λ (ne : j ≢ i). get_or-set_other marks i j true false ne ∙ m)
    (cases_eq j i)

pub marked_cases : (marks : List Bool) (i j : ℕ) → IsMarked (set marks i true) j → IsMarked marks j ⊎ (j ≡ i)
marked_cases marks i j m = ⊎_elim
    (λ (e : j ≡ i). inr e)
    (λ (ne : j ≢ i). inl (sym (get_or-set_other marks i j true false ne) ∙ m))
    (cases_eq j i)

-- a new mark leaves one code less
pub unmarked-set : (marks : List Bool) (i : ℕ) → i < length marks → (IsMarked marks i → ⊥) → unmarked (set marks i true) + 1 ≡ unmarked marks
unmarked-set marks i h free =
    let was : get_or marks i false ≡ false = ⊎_elim (λ yes'. absurd (free yes')) (λ e. e) (cases_Bool (get_or marks i false)) in
    let changes : unmarked (set marks i true) + (if get_or marks i false then 0 else 1) ≡ unmarked marks + 0 = sum_by-set (λ b. if b then 0 else 1) marks i true false h in
    let less : unmarked (set marks i true) + 1 ≡ unmarked marks + 0 = rw was at changes in
    omega arith

-- an element by its place
pub Contains-at : (clause : List ℤ) (j : ℕ) → j < length clause → Contains clause (get_or clause j (pos 0))
Contains-at clause j h = (j, h, get_or_default clause j _ (pos 0) h)

pub at-Contains : (clause : List ℤ) (k : ℤ) → (has : Contains clause k) → get_or clause has.0 (pos 0) ≡ k
at-Contains clause k has = get_or_default clause has.0 (pos 0) k has.1 ∙ has.2

-- opposite literals are of one variable
pub up_to_opposite : (greatest : ℕ) (k : ℤ) → unsigned_abs k ≤ greatest → unsigned_abs (neg_ℤ k) ≤ greatest
up_to_opposite greatest (pos zero) h = h
up_to_opposite greatest (pos (suc n)) h = h
up_to_opposite greatest (negsuc n) h = h
