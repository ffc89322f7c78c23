-- What is proved is accepted, and can be written.
use Rattle.std.proofs.Common.{◌≡◌, ◌≢◌, ℕ, suc, ◌-◌, ◌<◌, inl, inr, ℤ, pos, unsigned_abs, Bool, true, false, List, [], ◌∷◌, length, Option, None, Some, refl, sym, ◌∙◌, ap, subst, arith, slice_index_or, if◌then◌else◌}
use Rattle.kat_candidate.specs.Candidates.{AreCandidates}
use Rattle.kat_candidate.specs.Places.{has_number, left_from}
use Rattle.kat_drop.specs.Certificates.{DropForm, dropped_by}
use Rattle.kat_check.specs.Acceptance.{Fits, IsAcceptedFile}
use Rattle.kat_design.specs.Sorted.{EachHas}
use Rattle.kat_form.specs.Encodings.{Encoding, IsLiteral, Sense}
use Rattle.kat_form.specs.Readings.{encoding_of}
use Rattle.kat_linear.specs.Rows.{Form}
use Rattle.kat_prove.specs.Provings.{IsProved}
use Rattle.kat_refute.specs.Lines.{AreARefutation, IsAcceptedLine, Line, and_then_form, denial_form, denial_forms, hinted, linear, rup}
use Rattle.kat_relation.specs.declared.relations.Conjunct.{Conjunct}
use Rattle.kat_type.specs.Lists.{Has}
use Rattle.kat_type.specs.Types.{TypeForm}
use Rattle.kat_vc.specs.Conditions.{facts_of_condition}
use Rattle.kat_wire.specs.FileForms.{FileForm, HasNoZero, HaveNoZero}

-- what holds of each candidate holds of each that is left
left_one : (P : Conjunct → Type 0) (b : Bool) (c : Conjunct) (rest : List Conjunct) → P c → EachHas P rest → EachHas P (if b then rest else c ∷ rest)
left_one P true c rest first more = more
left_one P false c rest first more = (first, more)

pub left_have : (P : Conjunct → Type 0) (n : ℕ) (dropped : List ℕ) (cs : List Conjunct) → ((c : Conjunct) → Has cs c → P c) → EachHas P (left_from n dropped cs)
left_have P n dropped [] each = tt
left_have P n dropped (c ∷ cs) each =
    left_one P (has_number n dropped) c (left_from (suc n) dropped cs) (each c (inl refl)) (left_have P (suc n) dropped cs (λ d is. each d (inr is)))

pub proved_accepted : (ty : TypeForm) (f : FileForm) (candidates : List Conjunct) (effort : ℕ) (drops : List DropForm)
    → AreCandidates ty f.design candidates → IsProved ty f.design candidates effort drops f.relation f.proof → IsAcceptedFile ty f
proved_accepted ty f candidates effort drops are p = record {
  fits = subst (λ (cs : List Conjunct). EachHas (Fits ty f) cs) (sym p.left)
      (left_have (Fits ty f) 0 (dropped_by drops) candidates (λ c is. ((are.members c).0 is).0));
  as_many = p.as_many;
  proved = λ k above within. (p.refuted_each k above within).refutes;
}

-- a fact of each element by its place, by recursion
each_by : {A : Type 0} (P : A → Type 0) (d : A) (xs : List A) → ((i : ℕ) → i < length xs → P (slice_index_or xs i d)) → EachHas P xs
each_by P d [] each = tt
each_by P d (x ∷ xs) each = (each 0 (omega arith), each_by P d xs (λ i l. each (suc i) (omega (arith, l))))

literal_not_zero : (n : ℕ) (z : ℤ) → IsLiteral n z → z ≢ pos 0
literal_not_zero n z is e = let l = subst (λ (k : ℤ). 0 < unsigned_abs k) e is.0 in omega (arith, l)

none_some : {A : Type 0} (x : A) → ◌≡◌ {A = Option A} None (Some x) → ⊥
none_some x h = cc

-- no literal of an atom is 0
denial_not_zero : (senses : List Sense) (k : ℤ) (form : Form) → denial_form senses k ≡ Some form → k ≢ pos 0
denial_not_zero senses k form is e = none_some form (sym (ap (denial_form senses) e) ∙ is)

parts_not_zero : (senses : List Sense) (k : ℤ) (ks : List ℤ) (forms : List Form) (first : Option Form) (rest : Option (List Form))
    → ((more : List Form) → denial_forms senses ks ≡ Some more → EachHas (λ z. z ≢ pos 0) ks)
    → denial_form senses k ≡ first → denial_forms senses ks ≡ rest → and_then_form first rest ≡ Some forms → EachHas (λ z. z ≢ pos 0) (k ∷ ks)
parts_not_zero senses k ks forms None rest again a b is = absurd (none_some forms is)
parts_not_zero senses k ks forms (Some form) None again a b is = absurd (none_some forms is)
parts_not_zero senses k ks forms (Some form) (Some more) again a b is = (denial_not_zero senses k form a, again more b)

denials_not_zero : (senses : List Sense) (ks : List ℤ) (forms : List Form) → denial_forms senses ks ≡ Some forms → EachHas (λ z. z ≢ pos 0) ks
denials_not_zero senses [] forms is = tt
denials_not_zero senses (k ∷ ks) forms is =
    parts_not_zero senses k ks forms (denial_form senses k) (denial_forms senses ks) (λ more h. denials_not_zero senses ks more h) refl refl is

line_no_zero : (e : Encoding) (clauses : List (List ℤ)) (line : Line) → IsAcceptedLine e clauses line → HasNoZero line
line_no_zero e clauses (rup literals) is = each_by (λ z. z ≢ pos 0) (pos 0) literals (λ i l. literal_not_zero (length e.senses) (slice_index_or literals i (pos 0)) (is.0 i (pos 0) l))
line_no_zero e clauses (hinted literals hints) is = each_by (λ z. z ≢ pos 0) (pos 0) literals (λ i l. literal_not_zero (length e.senses) (slice_index_or literals i (pos 0)) (is.0 i (pos 0) l))
line_no_zero e clauses (linear literals multipliers) is = denials_not_zero e.senses literals is.2.0 is.2.1

lines_no_zero : (e : Encoding) (lines : List Line) → AreARefutation e lines → EachHas HasNoZero lines
lines_no_zero e lines r = each_by HasNoZero (rup []) lines (λ i l. line_no_zero e _ (slice_index_or lines i (rup [])) (r.accepted i l (rup [])))

one_back : (i : ℕ) → suc i - 1 ≡ i
one_back i = omega arith

pub proved_no_zero : (ty : TypeForm) (f : FileForm) (candidates : List Conjunct) (effort : ℕ) (drops : List DropForm)
    → IsProved ty f.design candidates effort drops f.relation f.proof → HaveNoZero f.proof
proved_no_zero ty f candidates effort drops p =
    each_by (EachHas HasNoZero) [] f.proof
    (λ i l. let e : Encoding = encoding_of (facts_of_condition ty f.design f.relation (suc i)) in
    let same = p.as_many in
    lines_no_zero e (slice_index_or f.proof i [])
    (subst (λ (j : ℕ). AreARefutation e (slice_index_or f.proof j [])) (one_back i) (p.refuted_each (suc i) (omega arith) (omega (arith, l, same))).refutes))
