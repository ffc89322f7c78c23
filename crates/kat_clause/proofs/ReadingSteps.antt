-- What reading a clause says of the literals that are known.
use Rattle.std.proofs.Common.{◌≡◌, ◌≢◌, ℕ, suc, ◌+◌, ◌^◌, ◌<◌, ◌≤◌, ℤ, pos, negsuc, neg_ℤ, unsigned_abs, List, [], ◌∷◌, ◌++◌, ◌↔◌, length, get_or, set, drop, true, ⊎_elim, refl, sym, ap, ◌∙◌, subst, arith, Contains, add-one, drop-cons, length-drop}
use Rattle.std.proofs.lemmas.Bool.{cases_order}
use Rattle.std.proofs.lemmas.List.{map-append, append_assoc}
use Rattle.kat_clause.specs.declared.propagation.Propagation.{Propagation}
use Rattle.kat_clause.specs.declared.reading.HintStep.TheVariants.{Falsified, Gives, Useless}
use Rattle.kat_clause.specs.Clauses.{SameMembers, opposites}
use Rattle.kat_clause.specs.Literals.{code_of}
use Rattle.kat_clause.specs.Hints.{numbered, Falsifies, IsOnlyOpen, Leads, IsHinted}
use Rattle.kat_clause.specs.Propagations.{IsIn, IsDenied, IsSet, Enters}
use Rattle.kat_clause.specs.Readings.{Reads}
use Rattle.kat_clause.proofs.Codes.{cases_literal, Contains-at, at-Contains}
use Rattle.kat_clause.proofs.Members.{members_again, members_more, members_trans}
use Rattle.kat_clause.proofs.Laws.{same_members}
use Rattle.kat_clause.proofs.Sets.{IsDenied-at}
use Rattle.kat_clause.proofs.HintLemmas.{leads_gives, leads_end, leads_nowhere}

-- a literal that enters is known
pub members_enter : (old new : Propagation) (m : ℤ) → IsSet old → Enters old new m → SameMembers new.trail.items (old.trail.items ++ m ∷ [])
members_enter old new m is_set enters = ⊎_elim
    (λ (same : IsIn old m × (new.marks.items ≡ old.marks.items) × (new.trail.items ≡ old.trail.items)).
    let P : List ℤ → Type 0 = λ trail. SameMembers trail (old.trail.items ++ m ∷ []) in
    subst P (sym same.2) (members_again old.trail.items old.trail.items m (is_set.listed m same.0) (same_members old.trail.items)))
    (λ (h : (IsIn old m → ⊥) × (new.marks.items ≡ set old.marks.items (code_of m) true) × (new.trail.items ≡ old.trail.items ++ m ∷ [])).
    let P : List ℤ → Type 0 = λ trail. SameMembers trail (old.trail.items ++ m ∷ []) in
    subst P (sym h.2) (same_members (old.trail.items ++ m ∷ [])))
    enters.is

-- one more literal of the line is denied
pub deny_more : (start front : List ℤ) (l : ℤ) (old new : List ℤ) → SameMembers old (start ++ opposites front) → SameMembers new (old ++ neg_ℤ l ∷ []) → SameMembers new (start ++ opposites (front ++ l ∷ []))
deny_more start front l old new before now =
    let same : start ++ opposites (front ++ l ∷ []) ≡ (start ++ opposites front) ++ neg_ℤ l ∷ [] =
    ap (λ (ls : List ℤ). start ++ ls) (map-append neg_ℤ front (l ∷ [])) ∙ sym (append_assoc start (opposites front) (neg_ℤ l ∷ [])) in
    let P : List ℤ → Type 0 = SameMembers new in
    subst P (sym same) (members_trans new (old ++ neg_ℤ l ∷ []) ((start ++ opposites front) ++ neg_ℤ l ∷ []) now (members_more old (start ++ opposites front) (neg_ℤ l) before))

-- or was denied before
pub deny_again : (start front : List ℤ) (l : ℤ) (old : List ℤ) → SameMembers old (start ++ opposites front) → Contains old (neg_ℤ l) → SameMembers old (start ++ opposites (front ++ l ∷ []))
deny_again start front l old before there = deny_more start front l old old before (members_again old old (neg_ℤ l) there (same_members old))

-- no literal is open
pub read_falsified : (clause : List ℤ) (state : Propagation) → IsSet state → ((j : ℕ) → j < length clause → IsDenied state (get_or clause j (pos 0))) → Falsifies state.trail.items clause
read_falsified clause state is_set all k has = is_set.listed (neg_ℤ k) (IsDenied-at clause state k has (all has.0 has.1))

-- the first open literal is so
pub read_unfalsified : (clause : List ℤ) (state : Propagation) (first : ℕ) → IsSet state → first < length clause → (IsDenied state (get_or clause first (pos 0)) → ⊥) → Falsifies state.trail.items clause → ⊥
read_unfalsified clause state first is_set h opens falsified = opens (is_set.marked (neg_ℤ (get_or clause first (pos 0))) (falsified (get_or clause first (pos 0)) (Contains-at clause first h)))

-- after it another one is open
pub read_many : (clause : List ℤ) (state : Propagation) (first : ℕ) → IsSet state → first < length clause → (IsDenied state (get_or clause first (pos 0)) → ⊥)
    → (((j : ℕ) → first < j → j < length clause → get_or clause j (pos 0) ≢ get_or clause first (pos 0) → IsDenied state (get_or clause j (pos 0))) → ⊥)
    → (m : ℤ) → IsOnlyOpen state.trail.items clause m → ⊥
read_many clause state first is_set h opens more m only = ⊎_elim
    (λ (e : get_or clause first (pos 0) ≡ m). more (λ j behind below apart. is_set.marked (neg_ℤ (get_or clause j (pos 0))) (only.others (get_or clause j (pos 0)) (Contains-at clause j below) (λ f. apart (f ∙ sym e)))))
    (λ (ne : get_or clause first (pos 0) ≢ m). opens (is_set.marked (neg_ℤ (get_or clause first (pos 0))) (only.others (get_or clause first (pos 0)) (Contains-at clause first h) ne)))
    (cases_literal (get_or clause first (pos 0)) m)

-- no other is open
pub read_only : (clause : List ℤ) (state : Propagation) (first : ℕ) → IsSet state → first < length clause → (IsDenied state (get_or clause first (pos 0)) → ⊥)
    → ((j : ℕ) → j < first → IsDenied state (get_or clause j (pos 0)))
    → ((j : ℕ) → first < j → j < length clause → get_or clause j (pos 0) ≢ get_or clause first (pos 0) → IsDenied state (get_or clause j (pos 0)))
    → IsOnlyOpen state.trail.items clause (get_or clause first (pos 0))
read_only clause state first is_set h opens before behind = record {
  has = Contains-at clause first h;
  free = λ there. opens (is_set.marked (neg_ℤ (get_or clause first (pos 0))) there);
  others = λ k has ne. is_set.listed (neg_ℤ k) (IsDenied-at clause state k has (⊎_elim
      (λ (e : has.0 ≡ first). absurd (ne (sym (at-Contains clause k has) ∙ ap (λ j. get_or clause j (pos 0)) e)))
      (⊎_elim
      (λ (low : has.0 < first). before has.0 low)
      (λ (high : first < has.0). behind has.0 high has.1 (λ e. ne (sym (at-Contains clause k has) ∙ e))))
      (cases_order has.0 first)));
}

-- the hints from a place on
hints_at : (hints : List ℕ) (i : ℕ) → i < length hints → drop i hints ≡ get_or hints i 0 ∷ drop (i + 1) hints
hints_at hints i h = let next : i + 1 ≡ suc i = add-one i in rw next (drop-cons hints i 0 h)

-- one more hint
pub hinted_goes : (clauses : List (List ℤ)) (line known new : List ℤ) (hints : List ℕ) (i : ℕ) → i < length hints → Reads (numbered clauses (get_or hints i 0)) known new Gives
    → Leads clauses known (drop i hints) ↔ IsHinted clauses line hints → Leads clauses new (drop (i + 1) hints) ↔ IsHinted clauses line hints
hinted_goes clauses line known new hints i h (m, only, members) before =
    let step = leads_gives clauses known new (get_or hints i 0) (drop (i + 1) hints) m only members in
    let P : List ℕ → Type 0 = λ hs. Leads clauses known hs ↔ IsHinted clauses line hints in
    let now : Leads clauses known (get_or hints i 0 ∷ drop (i + 1) hints) ↔ IsHinted clauses line hints = subst P (hints_at hints i h) before in
    (λ x. now.0 (step.1 x), λ x. step.0 (now.1 x))

ends_there : (hints : List ℕ) (i : ℕ) → i < length hints → (drop (i + 1) hints ≡ []) ↔ (i + 1 ≡ length hints)
ends_there hints i h = (
  λ e. let none : length (drop (i + 1) hints) ≡ 0 = ap length e in omega (arith, length-drop (i + 1) hints),
  λ e. empty (drop (i + 1) hints) (omega (arith, length-drop (i + 1) hints)),
)
  where
    empty : (xs : List ℕ) → length xs ≡ 0 → xs ≡ []
    empty [] e' = refl
    empty (x ∷ xs) e' = absurd (omega (arith, e'))

pub hinted_ends : (clauses : List (List ℤ)) (line known new : List ℤ) (hints : List ℕ) (i : ℕ) → i < length hints → Reads (numbered clauses (get_or hints i 0)) known new Falsified
    → Leads clauses known (drop i hints) ↔ IsHinted clauses line hints → (i + 1 ≡ length hints) ↔ IsHinted clauses line hints
hinted_ends clauses line known new hints i h read before =
    let step = leads_end clauses known (get_or hints i 0) (drop (i + 1) hints) read.0 in
    let there = ends_there hints i h in
    let P : List ℕ → Type 0 = λ hs. Leads clauses known hs ↔ IsHinted clauses line hints in
    let now : Leads clauses known (get_or hints i 0 ∷ drop (i + 1) hints) ↔ IsHinted clauses line hints = subst P (hints_at hints i h) before in
    (λ x. now.0 (step.1 (there.1 x)), λ x. there.0 (step.0 (now.1 x)))

pub hinted_fails : (clauses : List (List ℤ)) (line known new : List ℤ) (hints : List ℕ) (i : ℕ) → i < length hints → Reads (numbered clauses (get_or hints i 0)) known new Useless
    → Leads clauses known (drop i hints) ↔ IsHinted clauses line hints → IsHinted clauses line hints → ⊥
hinted_fails clauses line known new hints i h read before hinted =
    let P : List ℕ → Type 0 = Leads clauses known in
    leads_nowhere clauses known (get_or hints i 0) (drop (i + 1) hints) read.0 read.1 (subst P (hints_at hints i h) (before.1 hinted))

-- a literal with a place in a small table has an opposite
pub small_literal : (k : ℤ) (size : ℕ) → code_of k < size → size ≤ 2 ^ 30 → unsigned_abs k < 2 ^ 31
small_literal (pos n) size h l = omega arith
small_literal (negsuc n) size h l = omega arith
