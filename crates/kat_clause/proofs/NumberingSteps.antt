-- What clauses by number keep as clauses are added.
use Rattle.std.proofs.Common.{◌≡◌, ℕ, ◌+◌, ◌<◌, ◌≤◌, ◌^◌, ℤ, List, [], ◌∷◌, ◌++◌, length, get_or, ◌⊎◌, inl, inr, ⊎_elim, refl, sym, ◌∙◌, subst, arith, Contains}
use Rattle.std.proofs.lemmas.Bool.{cases_lt}
use Rattle.std.proofs.lemmas.List.{length_push, get_or_append_left, get_or_push}
use Rattle.kat_clause.specs.Clauses.{SameMembers}
use Rattle.kat_clause.specs.Literals.{code_of}
use Rattle.kat_clause.specs.Tables.{IsBelow, IsCovered, KeepsRows, clause_at}
use Rattle.kat_clause.specs.Findings.{HasTwo}
use Rattle.kat_clause.specs.Numberings.{IsNumbering, Covers, IsNotedClause}
use Rattle.kat_clause.proofs.HintSets.{sets_push}

pub numbering_kept : (greatest : ℕ) (clauses sets : List (List ℤ)) (table table' : List (List ℕ)) (short short' : List ℕ) → KeepsRows table table' → ((i : ℕ) → Contains short i → Contains short' i) → IsNumbering greatest clauses sets table short → IsNumbering greatest clauses sets table' short'
numbering_kept greatest clauses sets table table' short short' keeps kept is = record {
  are_sets = is.are_sets;
  index = record {
    below = λ i h k has. rw keeps.size (is.index.below i h k has);
    occurrences = λ i h once k has. keeps.kept (code_of k) i (is.index.occurrences i h once k has);
  };
  size = keeps.size ∙ is.size;
  limit = is.limit;
  count = is.count;
  listed = λ i h once. ⊎_elim (λ (has : Contains short i). inl (kept i has)) (λ (two : HasTwo (clause_at sets i)). inr two) (is.listed i h once);
}

-- a clause after the others: what was there stays, and what is covered stays so
at_front : (clauses : List (List ℤ)) (clause : List ℤ) (i : ℕ) → i < length clauses → clause_at (clauses ++ clause ∷ []) i ≡ clause_at clauses i
at_front clauses clause i h = get_or_append_left clauses (clause ∷ []) [] i h

at_end : (clauses : List (List ℤ)) (clause : List ℤ) → clause_at (clauses ++ clause ∷ []) (length clauses) ≡ clause
at_end clauses clause = get_or_push clauses clause [] (length clauses) refl

still_once : (sets : List (List ℤ)) (set : List ℤ) (i : ℕ) → i < length sets → (IsCovered (sets ++ set ∷ []) i → ⊥) → IsCovered sets i → ⊥
still_once sets set i h once (j, less, on) = once (j, less, λ k has. rw (at_front sets set i h) (on k (rw (at_front sets set j (omega (arith, less, h))) at has)))

not_covered : (sets : List (List ℤ)) (set : List ℤ) → (IsCovered (sets ++ set ∷ []) (length sets) → ⊥) → Covers sets set → ⊥
not_covered sets set once (j, less, on) = once (j, less, λ k has. rw (at_end sets set) (on k (rw (at_front sets set j less) at has)))

-- a fact of each place, of those before and of the last one
each_place : (clauses : List (List ℤ)) (clause : List ℤ) (P : ℕ → Type 0) → ((i : ℕ) → i < length clauses → P i) → P (length clauses) → (i : ℕ) → i < length (clauses ++ clause ∷ []) → P i
each_place clauses clause P before last i h = ⊎_elim
    (λ (l : i < length clauses). before i l)
    (λ (l : length clauses ≤ i). let e : length clauses ≡ i = omega (arith, h, l, length_push clauses clause) in subst P e last)
    (cases_lt i (length clauses))

pub numbering_push : (greatest : ℕ) (clauses sets : List (List ℤ)) (clause set : List ℤ) (table : List (List ℕ)) (short : List ℕ) → SameMembers set clause → ((k : ℤ) → Contains set k → IsBelow (length table) k)
    → Covers sets set ⊎ IsNotedClause table short set (length sets) → length sets + 1 < 2 ^ 32 → IsNumbering greatest clauses sets table short → IsNumbering greatest (clauses ++ clause ∷ []) (sets ++ set ∷ []) table short
numbering_push greatest clauses sets clause set table short same below noted count is = record {
  are_sets = sets_push clauses sets clause set same is.are_sets;
  index = record {
    below = each_place sets set (λ i. (k : ℤ) → Contains (clause_at whole i) k → IsBelow (length table) k)
        (λ i h k has. is.index.below i h k (rw (at_front sets set i h) at has))
        (λ k has. below k (rw (at_end sets set) at has));
    occurrences = each_place sets set (λ i. (IsCovered whole i → ⊥) → (k : ℤ) → Contains (clause_at whole i) k → Contains (get_or table (code_of k) []) i)
        (λ i h once k has. is.index.occurrences i h (still_once sets set i h once) k (rw (at_front sets set i h) at has))
        (λ once k has. (here once).0 k (rw (at_end sets set) at has));
  };
  size = is.size;
  limit = is.limit;
  count = omega (arith, count, length_push sets set);
  listed = each_place sets set (λ i. (IsCovered whole i → ⊥) → Contains short i ⊎ HasTwo (clause_at whole i))
      (λ i h once. let P : List ℤ → Type 0 = λ c. Contains short i ⊎ HasTwo c in subst P (sym (at_front sets set i h)) (is.listed i h (still_once sets set i h once)))
      (λ once. let P : List ℤ → Type 0 = λ c. Contains short (length sets) ⊎ HasTwo c in subst P (sym (at_end sets set)) ((here once).1));
}
  where
    whole : List (List ℤ)
    whole = sets ++ set ∷ []

    here : (IsCovered (sets ++ set ∷ []) (length sets) → ⊥) → IsNotedClause table short set (length sets)
    here once = ⊎_elim
        (λ (covers : Covers sets set). absurd (not_covered sets set once covers))
        (λ (is : IsNotedClause table short set (length sets)). is)
        noted
