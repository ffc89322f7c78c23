-- Why accepted lines refute.
use Rattle.std.proofs.Common.{◌≡◌, ℕ, zero, suc, ◌-◌, ◌<◌, ◌≤◌, ℤ, pos, negsuc, unsigned_abs, List, [], ◌∷◌, ◌++◌, length, get_or, take, Bool, false, Some, ⊎_elim, refl, sym, ap, ◌∙◌, subst, arith, Contains, All}
use Rattle.std.proofs.lemmas.Bool.{false≢true, not-false}
use Rattle.std.proofs.lemmas.List.{append-nil, append_assoc, map-append, take_all}
use Rattle.std.proofs.lemmas.List.Elements.{All-nil, All-cons, All-push, All-contains, Contains-append_right}
use Rattle.std.proofs.Math.Seq.{take-suc}
use Rattle.kat_linear.specs.Rows.{Form, IsMet, negated_form}
use Rattle.kat_linear.proofs.Contradictions.{refuted, negation_met}
use Rattle.kat_clause.specs.Valuations.{literal_value, IsTrueClause, AreTrueClauses, HasNoZero}
use Rattle.kat_clause.proofs.Laws.{sound, cases_clause}
use Rattle.kat_clause.specs.Clauses.{Follows}
use Rattle.kat_clause.proofs.HintLemmas.{hinted_follows}
use Rattle.kat_form.specs.Encodings.{Encoding, Sense, atom_at, IsLiteral, ReadsAtoms}
use Rattle.kat_refute.specs.Lines.{Line, denial_form, denial_forms, literals_of, added, IsAcceptedLine, AreAccepted, AreARefutation}
use Rattle.kat_refute.specs.Lines.Line.{rup, linear, hinted}
use Rattle.kat_refute.specs.Laws.{HasOwnLiterals, ReadsAtomsAt}
use Rattle.kat_refute.proofs.Atoms.{negated_from, denials_from, denials_are_literals}

-- if a literal is false, the fractions meet its denial
denial_met : (values : ℕ → Bool) (den : ℕ) (nums : ℕ → ℤ) (senses : List Sense) → ReadsAtomsAt values den nums senses → (k : ℤ) (form : Form) → denial_form senses k ≡ Some form → literal_value values k ≡ false → IsMet den nums form
denial_met values den nums senses reads (pos n) form e no' =
    let h = negated_from (atom_at senses n) form e in
    let P : Form → Type 0 = IsMet den nums in
    subst P h.2 ((reads n h.0 h.1).1 no')
denial_met values den nums senses reads (negsuc n) form e no' = (reads (suc n) form e).0 (not-false (values (suc n)) no')

denials_met : (values : ℕ → Bool) (den : ℕ) (nums : ℕ → ℤ) (senses : List Sense) → ReadsAtomsAt values den nums senses → (ks : List ℤ) (forms : List Form) → denial_forms senses ks ≡ Some forms → ((k : ℤ) → Contains ks k → literal_value values k ≡ false) → All (IsMet den nums) forms
denials_met values den nums senses reads [] forms e none = let P : List Form → Type 0 = All (IsMet den nums) in subst P (some_same [] forms e) (All-nil (IsMet den nums))
  where
    some_same : (a b : List Form) → Some a ≡ Some b → a ≡ b
    some_same a b e' = cc
denials_met values den nums senses reads (x ∷ xs) forms e none =
    let parts = denials_from (denial_form senses x) (denial_forms senses xs) forms e in
    let P : List Form → Type 0 = All (IsMet den nums) in
    subst P parts.4 (All-cons (IsMet den nums) parts.0 parts.1
    (denial_met values den nums senses reads x parts.0 parts.2 (none x (0, omega arith, refl)))
    (denials_met values den nums senses reads xs parts.1 parts.3 (λ k has. none k (suc has.0, omega (arith, has.1), has.2))))

no_zero : (count : ℕ) (clause : List ℤ) → ((k : ℤ) → Contains clause k → IsLiteral count k) → HasNoZero clause
no_zero count clause all k has e = let h : IsLiteral count k = all k has in let at : unsigned_abs k ≡ 0 = ap unsigned_abs e in omega (arith, h.0, at)

-- the literals of an accepted line are of the encoding's variables
pub accepted_literals : (e : Encoding) (clauses : List (List ℤ)) (line : Line) → IsAcceptedLine e clauses line → (k : ℤ) → Contains (literals_of line) k → IsLiteral (length e.senses) k
accepted_literals e clauses (rup literals) accepted k has = All-contains (IsLiteral (length e.senses)) literals k accepted.0 has
accepted_literals e clauses (linear literals ms) accepted k has = denials_are_literals e.senses literals accepted.2.0 accepted.2.1 k has
accepted_literals e clauses (hinted literals hints) accepted k has = All-contains (IsLiteral (length e.senses)) literals k accepted.0 has

-- an accepted line is true wherever the clauses before it are
line_true : (e : Encoding) (clauses : List (List ℤ)) (values : ℕ → Bool) (den : ℕ) → 0 < den → (nums : ℕ → ℤ) → ReadsAtomsAt values den nums e.senses → All HasNoZero clauses → AreTrueClauses values clauses → (line : Line) → IsAcceptedLine e clauses line → IsTrueClause values (literals_of line)
line_true e clauses values den above nums reads some_in hold (rup literals) accepted =
    sound clauses literals values some_in (no_zero (length e.senses) literals (λ k has. All-contains (IsLiteral (length e.senses)) literals k accepted.0 has)) accepted.1 hold
line_true e clauses values den above nums reads some_in hold (linear literals ms) accepted = ⊎_elim
    (λ (h : IsTrueClause values literals). h)
    (λ (none : (k : ℤ) → Contains literals k → literal_value values k ≡ false).
    absurd (refuted accepted.2.0 ms accepted.2.3 den above nums (denials_met values den nums e.senses reads literals accepted.2.0 accepted.2.1 none)))
    (cases_clause values literals)
line_true e clauses values den above nums reads some_in hold (hinted literals hints) accepted =
    let follows : Follows clauses literals = hinted_follows clauses literals hints accepted.1 accepted.2 in
    sound clauses literals values some_in (no_zero (length e.senses) literals (λ k has. All-contains (IsLiteral (length e.senses)) literals k accepted.0 has)) follows hold

-- the clause of one more line, after the others
pub added_more : (clauses : List (List ℤ)) (lines : List Line) (n : ℕ) (d : Line) → n < length lines → clauses ++ added (take (suc n) lines) ≡ (clauses ++ added (take n lines)) ++ literals_of (get_or lines n d) ∷ []
added_more clauses lines n d h =
    ap (λ (front : List Line). clauses ++ added front) (take-suc lines n d h)
    ∙ ap (λ (more : List (List ℤ)). clauses ++ more) (map-append literals_of (take n lines) (get_or lines n d ∷ []))
    ∙ sym (append_assoc clauses (added (take n lines)) (literals_of (get_or lines n d) ∷ []))

-- the clauses of the encoding and of the first lines
hold_up_to : (e : Encoding) (lines : List Line) (d : Line) (values : ℕ → Bool) (den : ℕ) → 0 < den → (nums : ℕ → ℤ) → HasOwnLiterals e → ReadsAtomsAt values den nums e.senses → AreTrueClauses values e.clauses → (n : ℕ) → n ≤ length lines → AreAccepted e lines n → AreTrueClauses values (e.clauses ++ added (take n lines)) × All HasNoZero (e.clauses ++ added (take n lines))
hold_up_to e lines d values den above nums own reads hold zero h accepted =
    let P : List (List ℤ) → Type 0 = λ clauses. AreTrueClauses values clauses × All HasNoZero clauses in
    subst P (sym (append-nil e.clauses)) (hold, λ i d' below. no_zero (length e.senses) (get_or e.clauses i d') (own i d' below))
hold_up_to e lines d values den above nums own reads hold (suc n) h accepted =
    let before : AreTrueClauses values (e.clauses ++ added (take n lines)) × All HasNoZero (e.clauses ++ added (take n lines)) = hold_up_to e lines d values den above nums own reads hold n (omega arith) (λ j below. accepted j (omega arith)) in
    let line = get_or lines n d in
    let here : IsAcceptedLine e (e.clauses ++ added (take n lines)) line = accepted n (omega arith) d in
    let P : List (List ℤ) → Type 0 = λ clauses. AreTrueClauses values clauses × All HasNoZero clauses in
    subst P (sym (added_more e.clauses lines n d (omega arith))) (
      All-push (IsTrueClause values) (e.clauses ++ added (take n lines)) (literals_of line) before.0 (line_true e (e.clauses ++ added (take n lines)) values den above nums reads before.1 before.0 line here),
      All-push HasNoZero (e.clauses ++ added (take n lines)) (literals_of line) before.1 (no_zero (length e.senses) (literals_of line) (accepted_literals e (e.clauses ++ added (take n lines)) line here)),
    )

pub refutation_refutes_at : (e : Encoding) (lines : List Line) → HasOwnLiterals e → AreARefutation e lines → (values : ℕ → Bool) (den : ℕ) → 0 < den → (nums : ℕ → ℤ) → ReadsAtomsAt values den nums e.senses → AreTrueClauses values e.clauses → ⊥
refutation_refutes_at e [] own shown values den above nums reads hold = absurd (omega (arith, shown.ends.0))
refutation_refutes_at e (x ∷ xs) own shown values den above nums reads hold =
    let lines : List Line = x ∷ xs in
    let n = length lines in
    let all : AreTrueClauses values (e.clauses ++ added (take n lines)) × All HasNoZero (e.clauses ++ added (take n lines)) = hold_up_to e lines x values den above nums own reads hold n (omega arith) shown.accepted in
    let same : e.clauses ++ added (take n lines) ≡ e.clauses ++ added lines = ap (λ (front : List Line). e.clauses ++ added front) (take_all n lines (omega arith)) in
    let P : List (List ℤ) → Type 0 = AreTrueClauses values in
    let whole : AreTrueClauses values (e.clauses ++ added lines) = subst P same all.0 in
    let last : Contains (added lines) [] = (length (added lines) - 1, omega (arith, shown.ends.0), shown.ends.1) in
    let true_end : IsTrueClause values [] = All-contains (IsTrueClause values) (e.clauses ++ added lines) [] whole (Contains-append_right e.clauses (added lines) [] last) in
    omega (arith, true_end.1.1)

-- over whole numbers each atom is met, or its negation
reads_at : (values : ℕ → Bool) (nums : ℕ → ℤ) (senses : List Sense) → ReadsAtoms values nums senses → ReadsAtomsAt values 1 nums senses
reads_at values nums senses reads v form at = (
  (reads v form at).0,
  λ none. ⊎_elim (λ (met : IsMet 1 nums form). absurd (false≢true (sym none ∙ (reads v form at).1 met))) (λ (met : IsMet 1 nums (negated_form form)). met) (negation_met form nums),
)

pub refutation_refutes : (e : Encoding) (lines : List Line) → HasOwnLiterals e → AreARefutation e lines → (values : ℕ → Bool) (nums : ℕ → ℤ) → ReadsAtoms values nums e.senses → AreTrueClauses values e.clauses → ⊥
refutation_refutes e lines own shown values nums reads hold = refutation_refutes_at e lines own shown values 1 (omega arith) nums (reads_at values nums e.senses reads) hold
