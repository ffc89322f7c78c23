-- Whether hints lead on is decided.
use Rattle.std.proofs.Common.{◌≡◌, ◌≢◌, ℕ, ℤ, neg_ℤ, List, [], ◌∷◌, ◌++◌, true, false, ◌⊎◌, inl, inr, ⊎_elim, sym, ◌∙◌, subst, Contains}
use Rattle.std.proofs.lemmas.Bool.{false≢true, cases_Bool}
use Rattle.kat_clause.specs.Hints.{numbered, IsOnlyOpen, Leads, is_falsified, open_literal}
use Rattle.kat_clause.proofs.Codes.{cases_literal}
use Rattle.kat_clause.proofs.HintTests.{here, behind, cases_cons, in_nothing, cases_in, falsified_true, true_falsified, open_is}
use Rattle.kat_clause.proofs.HintLemmas.{only_one}

-- the opposites of all literals but this one are in the set
abbrev pub OthersKnown : List ℤ → List ℤ → ℤ → Type 0
OthersKnown known clause m = (k : ℤ) → Contains clause k → k ≢ m → Contains known (neg_ℤ k)

others_more : (known : List ℤ) (x : ℤ) (xs : List ℤ) (m : ℤ) → (x ≢ m → Contains known (neg_ℤ x)) → OthersKnown known xs m ⊎ (OthersKnown known xs m → ⊥) → OthersKnown known (x ∷ xs) m ⊎ (OthersKnown known (x ∷ xs) m → ⊥)
others_more known x xs m first (inl rest) = inl (λ k has ne. ⊎_elim
    (λ (e : x ≡ k). let P : ℤ → Type 0 = λ y. Contains known (neg_ℤ y) in subst P e (first (λ f. ne (sym e ∙ f))))
    (λ (later : Contains xs k). rest k later ne)
    (cases_cons x k xs has))
others_more known x xs m first (inr never) = inr (λ all. never (λ k has. all k (behind x k xs has)))

others_decided : (known clause : List ℤ) (m : ℤ) → OthersKnown known clause m ⊎ (OthersKnown known clause m → ⊥)
others_decided known [] m = inl (λ k has ne. absurd (in_nothing k has))
others_decided known (x ∷ xs) m = ⊎_elim {C = OthersKnown known (x ∷ xs) m ⊎ (OthersKnown known (x ∷ xs) m → ⊥)}
    (λ (e : x ≡ m). others_more known x xs m (λ ne. absurd (ne e)) (others_decided known xs m))
    (λ (ne : x ≢ m). ⊎_elim {C = OthersKnown known (x ∷ xs) m ⊎ (OthersKnown known (x ∷ xs) m → ⊥)}
    (λ (there : Contains known (neg_ℤ x)). others_more known x xs m (λ _. there) (others_decided known xs m))
    (λ (free : Contains known (neg_ℤ x) → ⊥). inr (λ all. free (all x (here x xs) ne)))
    (cases_in known (neg_ℤ x)))
    (cases_literal x m)

-- one literal alone is open, or none is so
abbrev pub SomeOpen : List ℤ → List ℤ → Type 0
SomeOpen known clause = (m : ℤ) × IsOnlyOpen known clause m

not_this : (known clause : List ℤ) → (IsOnlyOpen known clause (open_literal known clause) → ⊥) → SomeOpen known clause → ⊥
not_this known clause never (m, only) = let P : ℤ → Type 0 = IsOnlyOpen known clause in never (subst P (sym (open_is known clause m only)) only)

this_decided : (known clause : List ℤ) (m : ℤ) → IsOnlyOpen known clause m ⊎ (IsOnlyOpen known clause m → ⊥)
this_decided known clause m = ⊎_elim {C = IsOnlyOpen known clause m ⊎ (IsOnlyOpen known clause m → ⊥)}
    (λ (has : Contains clause m). ⊎_elim {C = IsOnlyOpen known clause m ⊎ (IsOnlyOpen known clause m → ⊥)}
    (λ (there : Contains known (neg_ℤ m)). inr (λ only. only.free there))
    (λ (free : Contains known (neg_ℤ m) → ⊥). ⊎_elim {C = IsOnlyOpen known clause m ⊎ (IsOnlyOpen known clause m → ⊥)}
    (λ (others : OthersKnown known clause m). inl (record { has = has; free = free; others = others }))
    (λ (never : OthersKnown known clause m → ⊥). inr (λ only. never only.others))
    (others_decided known clause m))
    (cases_in known (neg_ℤ m)))
    (λ (without : Contains clause m → ⊥). inr (λ only. without only.has))
    (cases_in clause m)

leads_by : (clauses : List (List ℤ)) (known : List ℤ) (hint next : ℕ) (more : List ℕ) (m : ℤ) → IsOnlyOpen known (numbered clauses hint) m → Leads clauses (known ++ m ∷ []) (next ∷ more) ⊎ (Leads clauses (known ++ m ∷ []) (next ∷ more) → ⊥)
    → Leads clauses known (hint ∷ next ∷ more) ⊎ (Leads clauses known (hint ∷ next ∷ more) → ⊥)
leads_by clauses known hint next more m only (inl rest) = inl (m, only, rest)
leads_by clauses known hint next more m only (inr never) = inr (λ h.
    let e : h.0 ≡ m = only_one known (numbered clauses hint) h.0 m h.1 only in
    let P : ℤ → Type 0 = λ u. Leads clauses (known ++ u ∷ []) (next ∷ more) in
    never (subst P e h.2))

pub leads_decided : (clauses : List (List ℤ)) (known : List ℤ) (hints : List ℕ) → Leads clauses known hints ⊎ (Leads clauses known hints → ⊥)
leads_decided clauses known [] = inr (λ h. h)
leads_decided clauses known (hint ∷ []) = ⊎_elim {C = Leads clauses known (hint ∷ []) ⊎ (Leads clauses known (hint ∷ []) → ⊥)}
    (λ (e : is_falsified known (numbered clauses hint) ≡ true). inl (falsified_true known (numbered clauses hint) e))
    (λ (e : is_falsified known (numbered clauses hint) ≡ false). inr (λ h. false≢true (sym e ∙ true_falsified known (numbered clauses hint) h)))
    (cases_Bool (is_falsified known (numbered clauses hint)))
leads_decided clauses known (hint ∷ next ∷ more) =
    let m = open_literal known (numbered clauses hint) in
    ⊎_elim {C = Leads clauses known (hint ∷ next ∷ more) ⊎ (Leads clauses known (hint ∷ next ∷ more) → ⊥)}
    (λ (only : IsOnlyOpen known (numbered clauses hint) m). leads_by clauses known hint next more m only (leads_decided clauses (known ++ m ∷ []) (next ∷ more)))
    (λ (never : IsOnlyOpen known (numbered clauses hint) m → ⊥). inr (λ h. not_this known (numbered clauses hint) never (h.0, h.1)))
    (this_decided known (numbered clauses hint) m)
