-- Each file is accepted or has a first fault.
use Rattle.std.proofs.Common.{◌≡◌, ℕ, zero, suc, ◌+◌, ◌-◌, ◌<◌, ◌≤◌, ◌⊎◌, inl, inr, ℤ, Bool, true, false, List, [], ◌∷◌, ◌++◌, length, take, get_or, refl, sym, ap, ◌∙◌, subst, append_assoc, append-nil, ltb, below_more, add-one, arith}
use Rattle.std.proofs.Math.Seq.{get_or-append_seam, take-append_seam}
use Rattle.std.proofs.lemmas.Bool.{false≢true, ltb-false, ltb-true}
use Rattle.std.proofs.lemmas.List.{get_or_default, get_or_past, length-append}
use Rattle.kat_design.specs.Sorted.{EachHas}
use Rattle.kat_form.specs.Encodings.{Encoding}
use Rattle.kat_refute.specs.Lines.{AreAccepted, AreARefutation, EndsEmpty, IsAcceptedLine, IsFirstRefused, IsVerdict, Line, added, rup}
use Rattle.kat_refute.specs.declared.Verdict.TheVariants.{Bad}
use Rattle.kat_relation.specs.Fits.{conjunct_fits}
use Rattle.kat_relation.specs.declared.relations.Conjunct.{Conjunct}
use Rattle.kat_type.specs.Types.{TypeForm}
use Rattle.kat_wire.specs.FileForms.{FileForm}
use Rattle.kat_json.proofs.WritingLists.{each_snoc}
use Rattle.kat_check.specs.Acceptance.{AreProved, Fits, IsAcceptedFile, IsFirstFault, IsFirstUnfit, IsProved, count_of, encoding_at, lines_at}
use Rattle.kat_check.proofs.Certificates.{line_decided}
use Rattle.kat_check.proofs.Deciding.{Decided, both_decided, less_decided}
use Rattle.kat_check.proofs.Faults.{apart}

pub back_one : (n : ℕ) → suc n - 1 ≡ n
back_one n = omega arith

-- the element at a place is the same with any default
accepted_same : (e : Encoding) (clauses : List (List ℤ)) (lines : List Line) (n : ℕ) (c d : Line) → n < length lines → IsAcceptedLine e clauses (get_or lines n c) → IsAcceptedLine e clauses (get_or lines n d)
accepted_same e clauses lines n c d less h = subst (λ line. IsAcceptedLine e clauses line) (get_or_default lines n c d less) h

-- lines, one after the other
line_judged : (e : Encoding) (lines : List Line) (n : ℕ) → n < length lines → AreAccepted e lines n → Decided (IsAcceptedLine e (e.clauses ++ added (take n lines)) (get_or lines n (rup [])))
    → AreAccepted e lines (suc n) ⊎ ((m : ℕ) × IsFirstRefused e lines m)
line_judged e lines n less before (inl here) =
    inl (subst (λ m. AreAccepted e lines m) (add-one n)
    (below_more (λ j. (d : Line) → IsAcceptedLine e (e.clauses ++ added (take j lines)) (get_or lines j d)) n before
    (λ other. accepted_same e (e.clauses ++ added (take n lines)) lines n (rup []) other less here)))
line_judged e lines n less before (inr none) =
    inr (
      n + 1,
      record {
        place = n;
        counted = refl;
        within = less;
        before = before;
        here = λ other h. none (accepted_same e (e.clauses ++ added (take n lines)) lines n other (rup []) less h);
      },
    )

lines_by : (e : Encoding) (lines : List Line) (n : ℕ) → n < length lines → AreAccepted e lines n ⊎ ((m : ℕ) × IsFirstRefused e lines m) → AreAccepted e lines (suc n) ⊎ ((m : ℕ) × IsFirstRefused e lines m)
lines_by e lines n less (inl before) = line_judged e lines n less before (line_decided e (e.clauses ++ added (take n lines)) (get_or lines n (rup [])))
lines_by e lines n less (inr refused) = inr refused

lines_judged : (e : Encoding) (lines : List Line) (n : ℕ) → n ≤ length lines → AreAccepted e lines n ⊎ ((m : ℕ) × IsFirstRefused e lines m)
lines_judged e lines zero few = inl (λ j less d. absurd (omega (arith, less)))
lines_judged e lines (suc n) few = lines_by e lines n (omega (arith, few)) (lines_judged e lines n (omega (arith, few)))

empty_decided : (clause : List ℤ) → Decided (clause ≡ [])
empty_decided [] = inl refl
empty_decided (k ∷ ks) = inr (λ is. absurd (cc))

end_judged : (e : Encoding) (lines : List Line) → AreAccepted e lines (length lines) → Decided (EndsEmpty (added lines)) → AreARefutation e lines ⊎ ((m : ℕ) × IsVerdict e lines (Bad m))
end_judged e lines accepted (inl ends) = inl (record { accepted = accepted; ends = ends })
end_judged e lines accepted (inr none) = inr (length lines + 1, inr (record { behind = refl; accepted = accepted; open_end = none }))

verdict_by : (e : Encoding) (lines : List Line) → AreAccepted e lines (length lines) ⊎ ((m : ℕ) × IsFirstRefused e lines m) → AreARefutation e lines ⊎ ((m : ℕ) × IsVerdict e lines (Bad m))
verdict_by e lines (inl accepted) =
    end_judged e lines accepted (both_decided (less_decided 0 (length (added lines))) (empty_decided (get_or (added lines) (length (added lines) - 1) [])))
verdict_by e lines (inr refused) = inr (refused.0, inl refused.1)

pub verdict_of : (e : Encoding) (lines : List Line) → AreARefutation e lines ⊎ ((m : ℕ) × IsVerdict e lines (Bad m))
verdict_of e lines = verdict_by e lines (lines_judged e lines (length lines) (omega arith))

-- conditions, one after the other
pub proved_next : (ty : TypeForm) (f : FileForm) (n : ℕ) → AreProved ty f n → IsProved ty f (suc n) → AreProved ty f (suc n)
proved_next ty f n before here k above few = by_place (ltb k (suc n)) refl where
  by_place : (b : Bool) → ltb k (suc n) ≡ b → IsProved ty f k
  by_place true is = let less = ltb-true k (suc n) is in before k above (omega (arith, less))
  by_place false is = let more = ltb-false k (suc n) is in let same : suc n ≡ k = omega (arith, more, few) in subst (λ m. IsProved ty f m) same here

abbrev Fault : TypeForm → FileForm → Type 0
Fault ty f = (condition : ℕ) × (line : ℕ) × IsFirstFault ty f condition line

condition_judged : (ty : TypeForm) (f : FileForm) (n : ℕ) → n < count_of ty f → EachHas (Fits ty f) f.relation → AreProved ty f n ⊎ Fault ty f
    → AreARefutation (encoding_at ty f (suc n)) (lines_at f (suc n)) ⊎ ((m : ℕ) × IsVerdict (encoding_at ty f (suc n)) (lines_at f (suc n)) (Bad m)) → AreProved ty f (suc n) ⊎ Fault ty f
condition_judged ty f n less fits (inr fault) verdict = inr fault
condition_judged ty f n less fits (inl before) (inl here) = inl (proved_next ty f n before here)
condition_judged ty f n less fits (inl before) (inr bad) =
    inr (
      suc n,
      bad.0,
      inl (record {
        fits = fits;
        from_one = omega arith;
        there = omega (arith, less);
        before = subst (λ m. AreProved ty f m) (sym (back_one n)) before;
        bad = bad.1;
      }),
    )

conditions_judged : (ty : TypeForm) (f : FileForm) (n : ℕ) → n ≤ count_of ty f → EachHas (Fits ty f) f.relation → AreProved ty f n ⊎ Fault ty f
conditions_judged ty f zero few fits = inl (λ k above less. absurd (omega (arith, above, less)))
conditions_judged ty f (suc n) few fits =
    condition_judged ty f n (omega (arith, few)) fits (conditions_judged ty f n (omega (arith, few)) fits) (verdict_of (encoding_at ty f (suc n)) (lines_at f (suc n)))

-- a condition without a list isn't proved
lists_enough : (ty : TypeForm) (f : FileForm) → AreProved ty f (count_of ty f) → length f.proof < count_of ty f → ⊥
lists_enough ty f proved few =
    let k = length f.proof in
    let here : AreARefutation (encoding_at ty f (suc k)) (lines_at f (suc k)) = proved (suc k) (omega arith) (omega (arith, few)) in
    let none : lines_at f (suc k) ≡ [] = ap (λ m. get_or f.proof m []) (back_one k) ∙ get_or_past f.proof k [] (omega arith) in
    let empty : AreARefutation (encoding_at ty f (suc k)) [] = subst (λ (lines : List Line). AreARefutation (encoding_at ty f (suc k)) lines) none here in
    let ends = empty.ends.0 in absurd (omega (arith, ends))

-- the conjuncts, one after the other
abbrev Found : TypeForm → FileForm → Type 0
Found ty f = EachHas (Fits ty f) f.relation ⊎ ((n : ℕ) × IsFirstUnfit ty f n)

unfit_here : (ty : TypeForm) (f : FileForm) (done left : List Conjunct) (c : Conjunct) (b : Bool) → conjunct_fits ty f.design.components c ≡ b → EachHas (Fits ty f) done → f.relation ≡ done ++ c ∷ left
    → (EachHas (Fits ty f) (done ++ c ∷ []) → Found ty f) → Found ty f
unfit_here ty f done left c true fits h is onward = onward (each_snoc (Fits ty f) done c h fits)
unfit_here ty f done left c false unfit h is onward = inr (
  length done + 1,
  record {
    place = length done;
    counted = refl;
    within = let more : length f.relation ≡ length done + suc (length left) = ap length is ∙ length-append done (c ∷ left) in omega (arith, more);
    before = subst (λ cs. EachHas (Fits ty f) cs) (sym (ap (λ cs. take (length done) cs) is ∙ take-append_seam done (c ∷ left))) h;
    here = λ d fits. false≢true (sym unfit ∙ subst (λ x. Fits ty f x) (ap (λ cs. get_or cs (length done) d) is ∙ get_or-append_seam done c left d) fits);
  },
)

unfit_later : (ty : TypeForm) (f : FileForm) (done left : List Conjunct) → EachHas (Fits ty f) done → f.relation ≡ done ++ left → Found ty f
unfit_later ty f done [] h is = inl (subst (λ cs. EachHas (Fits ty f) cs) (sym (is ∙ append-nil done)) h)
unfit_later ty f done (c ∷ left) h is =
    unfit_here ty f done left c (conjunct_fits ty f.design.components c) refl h is
    (λ longer. unfit_later ty f (done ++ c ∷ []) left longer (is ∙ sym (append_assoc done (c ∷ []) left)))

by_conditions : (ty : TypeForm) (f : FileForm) → EachHas (Fits ty f) f.relation → AreProved ty f (count_of ty f) ⊎ Fault ty f → IsAcceptedFile ty f ⊎ Fault ty f
by_conditions ty f fits (inr fault) = inr fault
by_conditions ty f fits (inl proved) =
    apart {P = IsAcceptedFile ty f ⊎ Fault ty f} (length f.proof) (count_of ty f)
    (λ less. absurd (lists_enough ty f proved less))
    (λ same. inl (record { fits = fits; as_many = same; proved = proved }))
    (λ more. inr (suc (count_of ty f), 1, inr (record { fits = fits; proved = proved; more = more; next = omega arith; first = refl })))

by_conjuncts : (ty : TypeForm) (f : FileForm) → Found ty f → IsAcceptedFile ty f ⊎ Fault ty f
by_conjuncts ty f (inr unfit) = inr (0, unfit.0, unfit.1)
by_conjuncts ty f (inl fits) = by_conditions ty f fits (conditions_judged ty f (count_of ty f) (omega arith) fits)

pub file_judged : (ty : TypeForm) (f : FileForm) → IsAcceptedFile ty f ⊎ ((condition : ℕ) × (line : ℕ) × IsFirstFault ty f condition line)
file_judged ty f = by_conjuncts ty f (unfit_later ty f [] f.relation tt refl)
