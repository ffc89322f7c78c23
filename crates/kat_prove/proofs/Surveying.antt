-- Conditions are decided one after the other.
use Rattle.std.proofs.Common.{◌≡◌, ℕ, zero, suc, ◌+◌, ◌-◌, ◌<◌, ◌≤◌, ◌⊎◌, inl, inr, ⊎_elim, ℤ, Bool, List, [], ◌∷◌, ◌++◌, length, map, Option, Some, None, refl, sym, ap, subst, ◌∙◌, arith}
use Rattle.std.specs.Prelude.{slice_index_or}
use Rattle.std.proofs.lemmas.List.{length-append, length-map}
use Rattle.kat_form.specs.Facts.{Fact}
use Rattle.kat_form.specs.Readings.{encoding_of}
use Rattle.kat_refute.specs.Lines.{AreARefutation, Line, lines_of}
use Rattle.kat_refute.specs.declared.ProofLine.{ProofLine}
use Rattle.kat_relation.specs.declared.relations.Conjunct.{Conjunct}
use Rattle.kat_cases.specs.Answers.{answer_of}
use Rattle.kat_cases.specs.Decisions.{Decides, IsFurther}
use Rattle.kat_cases.specs.Nodes.{End}
use Rattle.kat_cases.specs.Nodes.End.{spent, at_point, at_rows, at_wide}
use Rattle.kat_cases.specs.Walks.{Answer, WalkGives}
use Rattle.kat_cases.specs.Walks.Answer.{refuted, stopped}
use Rattle.kat_cases.specs.declared.decision.Point.{Point}
use Rattle.kat_cases.specs.declared.decision.Decision.{Decision}
use Rattle.kat_cases.specs.declared.decision.Decision.TheVariants.{Refutation, Point as AtPoint, Spent, Rows, Wide}
use Rattle.kat_cases.proofs.Deciding.{decided_by_walk, decided_lines, refuted_no_point}
use Rattle.kat_cases.proofs.Outcomes.{one_answer}
use Rattle.kat_vc.specs.Conditions.{condition_count}
use Rattle.kat_prove.specs.Provings.{Gives, GivesNoPoint, GivesUp, IsRefuted, lines_at, setting_over}
use Rattle.kat_drop.specs.Certificates.{point_form}
use Rattle.kat_prove.specs.Trials.{TrialForm, condition_facts, IsDecided, IsDecisiveFor, IsFailure, IsFound, IsNoted, IsSurvey, Notes, NotesBy, Sorts, Stops}
use Rattle.kat_prove.specs.declared.surveys.Found.{Found}
use Rattle.kat_prove.specs.declared.surveys.Found.TheVariants.{Refuted, Fails, Open}
use Rattle.kat_prove.specs.declared.surveys.Stop.{Stop}
use Rattle.kat_prove.specs.declared.surveys.Survey.{Survey}
use Rattle.kat_prove.specs.declared.surveys.Surveyed.TheVariants as surveyed

-- if what is decided is that the walk gives up, the walk does
not_further : (effort : ℕ) (end : End) → GivesUp end → IsFurther effort (stopped end) → ⊥
not_further effort spent up is = is
not_further effort (at_point den nums truths) up is = up
not_further effort (at_rows lits plus minus rest) up is = is
not_further effort (at_wide lits left right) up is = is

walked : (facts : List Fact) (effort : ℕ) (end : End) → GivesUp end → Decides (setting_over facts) effort (stopped end) → WalkGives (setting_over facts) effort (stopped end)
walked facts effort end up d = decided_by_walk (setting_over facts) effort (stopped end) (not_further effort end up) d

-- what is found, by the kind of the decision
found_by : (facts : List Fact) (effort : ℕ) (decision : Decision) → IsDecided facts effort (answer_of decision) → (found : Found) → Sorts decision found → IsFound facts effort found
found_by facts effort (Refutation lines) d found is = subst (IsFound facts effort) (sym is) (d.gives, d.refutes)
found_by facts effort (AtPoint point) d found is = subst (IsFound facts effort) (sym is) d.decisive
found_by facts effort Spent d found is = subst (IsFound facts effort) (sym is) (spent, refl, tt, walked facts effort spent tt d.gives)
found_by facts effort (Rows lits plus minus rest) d found is = subst (IsFound facts effort) (sym is) (at_rows lits.items plus minus rest, refl, tt, walked facts effort (at_rows lits.items plus minus rest) tt d.gives)
found_by facts effort (Wide lits left right) d found is = subst (IsFound facts effort) (sym is) (at_wide lits.items left right, refl, d.narrow, walked facts effort (at_wide lits.items left right) d.narrow d.gives)

pub is_found : (facts : List Fact) (effort : ℕ) (decision : Decision) (found : Found) → IsDecided facts effort (answer_of decision) → Sorts decision found → IsFound facts effort found
is_found facts effort decision found d is = found_by facts effort decision d found is

-- the walk gives one answer
point_up : (end : End) (den : ℤ) (nums : List ℤ) (truths : List Bool) → GivesUp end → end ≡ at_point den nums truths → ⊥
point_up end den nums truths up e = subst GivesUp e up

abbrev end_of : Answer → End
end_of (refuted lines) = spent
end_of (stopped end) = end

abbrev DecidesLines : TrialForm → List Conjunct → ℕ → List Line → Type 0
DecidesLines trial relation k lines = Decides (setting_over (condition_facts trial relation k)) trial.effort (refuted lines)

no_point_where_refuted : (trial : TrialForm) (relation : List Conjunct) (k : ℕ) (lines : List Line) → DecidesLines trial relation k lines → GivesNoPoint trial.ty trial.design relation trial.effort k
no_point_where_refuted trial relation k lines d den nums truths point = refuted_no_point (setting_over (condition_facts trial relation k)) trial.effort lines den nums truths d point

no_point_where_stopped : (trial : TrialForm) (relation : List Conjunct) (k : ℕ) (end : End) → GivesUp end → Gives trial.ty trial.design relation trial.effort k (stopped end) → GivesNoPoint trial.ty trial.design relation trial.effort k
no_point_where_stopped trial relation k end up gives den nums truths point =
    point_up end den nums truths up (ap end_of (one_answer (setting_over (condition_facts trial relation k)) trial.effort (stopped end) (stopped (at_point den nums truths)) gives point))

-- nothing is decided at first
pub survey_first : (trial : TrialForm) (relation : List Conjunct) (survey : Survey) → survey.lists.items ≡ [] → survey.stop ≡ None → IsSurvey trial relation 0 survey
survey_first trial relation survey none open_end =
    let no_lists : length survey.lists.items ≡ 0 = ap length none in
    record {
      no_point = λ k positive most. absurd (nothing_between k positive most);
      refuted_each = λ k positive most. absurd (nothing_between k positive (omega (arith, most, no_lists)));
      stops = subst (Stops trial relation 0 (map lines_of survey.lists.items)) (sym open_end) (ap (λ ls. length (map lines_of ls)) none);
    }
  where
    nothing_between : (k : ℕ) → 0 < k → k ≤ 0 → ⊥
    nothing_between k positive most = omega (arith, positive, most)

-- up to one more
split_le : (n m : ℕ) → n ≤ m → (n ≡ m) ⊎ (n < m)
split_le zero zero h = inl refl
split_le zero (suc m) h = inr (omega arith)
split_le (suc n) zero h = absurd (omega (arith, h))
split_le (suc n) (suc m) h = ⊎_elim (λ e. inl (ap suc e)) (λ less. inr (omega (arith, less))) (split_le n m (omega (arith, h)))

up_to : (P : ℕ → Type 0) (n : ℕ) → ((k : ℕ) → 0 < k → k ≤ n → P k) → P (suc n) → (k : ℕ) → 0 < k → k ≤ suc n → P k
up_to P n h last k positive most = ⊎_elim (λ e. subst P (sym e) last) (λ less. h k positive (omega (arith, less))) (split_le k (suc n) most)

lines_before : (lists : List (List Line)) (lines : List Line) (k : ℕ) → 0 < k → k ≤ length lists → lines_at (lists ++ lines ∷ []) k ≡ lines_at lists k
lines_before lists lines k positive most = at_before lists (k - 1) (omega (arith, positive, most))
  where
    at_before : (ls : List (List Line)) (i : ℕ) → i < length ls → slice_index_or (ls ++ lines ∷ []) i [] ≡ slice_index_or ls i []
    at_before [] i h = absurd (omega (arith, h))
    at_before (l ∷ ls) zero h = refl
    at_before (l ∷ ls) (suc i) h = at_before ls i (omega (arith, h))

lines_last : (lists : List (List Line)) (lines : List Line) → lines_at (lists ++ lines ∷ []) (suc (length lists)) ≡ lines
lines_last lists lines = let back : suc (length lists) - 1 ≡ length lists = omega arith in ap (λ i. slice_index_or (lists ++ lines ∷ []) i []) back ∙ at_last lists
  where
    at_last : (ls : List (List Line)) → slice_index_or (ls ++ lines ∷ []) (length ls) [] ≡ lines
    at_last [] = refl
    at_last (l ∷ ls) = at_last ls

lists_last : (lists : List (List ProofLine)) (lines : List ProofLine) → map lines_of (lists ++ lines ∷ []) ≡ map lines_of lists ++ lines_of lines ∷ []
lists_last [] lines = refl
lists_last (l ∷ ls) lines = ap (λ xs. lines_of l ∷ xs) (lists_last ls lines)

-- what is known of the first lists stays known after one more
abbrev AreRefuted : TrialForm → List Conjunct → List (List Line) → Type 0
AreRefuted trial relation lists = (k : ℕ) → 0 < k → k ≤ length lists → IsRefuted trial.ty trial.design relation trial.effort k (lines_at lists k)

refuted_more : (trial : TrialForm) (relation : List Conjunct) (lists : List (List Line)) (lines : List Line)
    → AreRefuted trial relation lists → IsRefuted trial.ty trial.design relation trial.effort (suc (length lists)) lines → AreRefuted trial relation (lists ++ lines ∷ [])
refuted_more trial relation lists lines h last k positive most =
    up_to (λ m. IsRefuted trial.ty trial.design relation trial.effort m (lines_at (lists ++ lines ∷ []) m)) (length lists)
    (λ m p few. subst (IsRefuted trial.ty trial.design relation trial.effort m) (sym (lines_before lists lines m p few)) (h m p few))
    (subst (IsRefuted trial.ty trial.design relation trial.effort (suc (length lists))) (sym (lines_last lists lines)) last)
    k positive (omega (arith, most, length-append lists (lines ∷ [])))

stays_stopped : (trial : TrialForm) (relation : List Conjunct) (n : ℕ) (lists : List (List Line)) (stop : Stop) → Stops trial relation n lists (Some stop) → Stops trial relation (suc n) lists (Some stop)
stays_stopped trial relation n lists stop h = let most = h.1 in (h.0, omega (arith, most), h.2)

-- the lists of a survey, as lines
abbrev listed : Survey → List (List Line)
listed survey = map lines_of survey.lists.items

survey_with : (trial : TrialForm) (relation : List Conjunct) (n : ℕ) (survey : Survey) (lists : List (List ProofLine)) (stop : Option Stop) → survey.lists.items ≡ lists → survey.stop ≡ stop
    → ((k : ℕ) → 0 < k → k ≤ n → GivesNoPoint trial.ty trial.design relation trial.effort k) → AreRefuted trial relation (map lines_of lists) → Stops trial relation n (map lines_of lists) stop
    → IsSurvey trial relation n survey
survey_with trial relation n survey lists stop same stops none each end = record {
  no_point = none;
  refuted_each = λ k positive most. let few = most in subst (λ ls. IsRefuted trial.ty trial.design relation trial.effort k (lines_at (map lines_of ls) k)) (sym same)
      (each k positive (omega (arith, few, ap length same, length-map lists lines_of)));
  stops = subst (λ ls. Stops trial relation n (map lines_of ls) survey.stop) (sym same) (subst (Stops trial relation n (map lines_of lists)) (sym stops) end);
}

own_refuted : (trial : TrialForm) (relation : List Conjunct) (n : ℕ) (survey : Survey) → IsSurvey trial relation n survey → AreRefuted trial relation (listed survey)
own_refuted trial relation n survey h k positive most = h.refuted_each k positive (omega (arith, most, length-map survey.lists.items lines_of))

-- a further condition is refuted
refuted_by : (trial : TrialForm) (relation : List Conjunct) (n : ℕ) (survey next : Survey) (stop : Option Stop) (lines : List ProofLine) → survey.stop ≡ stop → IsSurvey trial relation n survey
    → DecidesLines trial relation (suc n) (lines_of lines) → AreARefutation (encoding_of (condition_facts trial relation (suc n))) (lines_of lines)
    → NotesBy stop survey.lists.items (Some lines) None next → IsSurvey trial relation (suc n) next
refuted_by trial relation n survey next None lines is h gives refutes notes =
    let ends : length (listed survey) ≡ n = subst (Stops trial relation n (listed survey)) is h.stops in
    let last : IsRefuted trial.ty trial.design relation trial.effort (suc (length (listed survey))) (lines_of lines) =
    subst (λ m. IsRefuted trial.ty trial.design relation trial.effort (suc m) (lines_of lines)) (sym ends) (record { lines_for = decided_lines (setting_over (condition_facts trial relation (suc n))) trial.effort (lines_of lines) gives; refutes = refutes }) in
    survey_with trial relation (suc n) next (survey.lists.items ++ lines ∷ []) None notes.0 notes.1
    (up_to (GivesNoPoint trial.ty trial.design relation trial.effort) n h.no_point (no_point_where_refuted trial relation (suc n) (lines_of lines) gives))
    (subst (AreRefuted trial relation) (sym (lists_last survey.lists.items lines)) (refuted_more trial relation (listed survey) (lines_of lines) (own_refuted trial relation n survey h) last))
    (ap length (lists_last survey.lists.items lines) ∙ length-append (listed survey) (lines_of lines ∷ []) ∙ one_more (length (listed survey)) n ends)
  where
    one_more : (a b : ℕ) → a ≡ b → a + 1 ≡ suc b
    one_more a b e = omega (arith, e)
refuted_by trial relation n survey next (Some stop) lines is h gives refutes notes =
    survey_with trial relation (suc n) next survey.lists.items (Some stop) notes.0 notes.1
    (up_to (GivesNoPoint trial.ty trial.design relation trial.effort) n h.no_point (no_point_where_refuted trial relation (suc n) (lines_of lines) gives))
    (own_refuted trial relation n survey h)
    (stays_stopped trial relation n (listed survey) stop (subst (Stops trial relation n (listed survey)) is h.stops))

pub survey_refuted : (trial : TrialForm) (relation : List Conjunct) (n m number : ℕ) (survey next : Survey) (lines : List ProofLine) → number ≡ n + 1 → m ≡ n + 1 → IsSurvey trial relation n survey
    → DecidesLines trial relation number (lines_of lines) × AreARefutation (encoding_of (condition_facts trial relation number)) (lines_of lines)
    → Notes survey (Some lines) None next → IsSurvey trial relation m next
survey_refuted trial relation n m number survey next lines e f h found notes =
    let same : number ≡ suc n = omega (arith, e) in let goes : suc n ≡ m = omega (arith, f) in
    subst (λ k. IsSurvey trial relation k next) goes
    (refuted_by trial relation n survey next survey.stop lines refl h
    (subst (λ k. DecidesLines trial relation k (lines_of lines)) same found.0)
    (subst (λ k. AreARefutation (encoding_of (condition_facts trial relation k)) (lines_of lines)) same found.1) notes)

-- a further condition isn't refuted
abbrev IsOpen : TrialForm → List Conjunct → ℕ → Decision → Type 0
IsOpen trial relation k decision = (end : End) × (answer_of decision ≡ stopped end) × GivesUp end × Gives trial.ty trial.design relation trial.effort k (stopped end)

stopped_by : (trial : TrialForm) (relation : List Conjunct) (n : ℕ) (survey next : Survey) (stop : Option Stop) (decision : Decision) → survey.stop ≡ stop → IsSurvey trial relation n survey
    → IsOpen trial relation (suc n) decision → NotesBy stop survey.lists.items None (Some (record { number = suc n; decision = decision })) next → IsSurvey trial relation (suc n) next
stopped_by trial relation n survey next None decision is h found notes =
    let ends : length (listed survey) ≡ n = subst (Stops trial relation n (listed survey)) is h.stops in
    survey_with trial relation (suc n) next survey.lists.items (Some (record { number = suc n; decision = decision })) notes.0 notes.1
    (up_to (GivesNoPoint trial.ty trial.design relation trial.effort) n h.no_point (no_point_where_stopped trial relation (suc n) found.0 found.2 found.3))
    (own_refuted trial relation n survey h)
    (ap suc (sym ends), omega arith, found)
stopped_by trial relation n survey next (Some stop) decision is h found notes =
    survey_with trial relation (suc n) next survey.lists.items (Some stop) notes.0 notes.1
    (up_to (GivesNoPoint trial.ty trial.design relation trial.effort) n h.no_point (no_point_where_stopped trial relation (suc n) found.0 found.2 found.3))
    (own_refuted trial relation n survey h)
    (stays_stopped trial relation n (listed survey) stop (subst (Stops trial relation n (listed survey)) is h.stops))

pub survey_stopped : (trial : TrialForm) (relation : List Conjunct) (n m number : ℕ) (survey next : Survey) (decision : Decision) → number ≡ n + 1 → m ≡ n + 1 → IsSurvey trial relation n survey
    → IsOpen trial relation number decision → Notes survey None (Some (record { number = number; decision = decision })) next → IsSurvey trial relation m next
survey_stopped trial relation n m number survey next decision e f h found notes =
    let same : number ≡ suc n = omega (arith, e) in let goes : suc n ≡ m = omega (arith, f) in
    subst (λ k. IsSurvey trial relation k next) goes
    (stopped_by trial relation n survey next survey.stop decision refl h
    (subst (λ k. IsOpen trial relation k decision) same found)
    (subst (λ k. Notes survey None (Some (record { number = k; decision = decision })) next) same notes))

-- what is found goes into the survey, or is the first failure
pub survey_goes : (trial : TrialForm) (relation : List Conjunct) (n m number : ℕ) (survey next : Survey) (found : Found) → number ≡ n + 1 → m ≡ n + 1 → IsSurvey trial relation n survey
    → IsFound (condition_facts trial relation number) trial.effort found → IsNoted survey number found (surveyed.Quiet next) → IsSurvey trial relation m next
survey_goes trial relation n m number survey next (Refuted lines) e f h is notes = survey_refuted trial relation n m number survey next lines.items e f h is notes
survey_goes trial relation n m number survey next (Fails point) e f h is notes = absurd notes
survey_goes trial relation n m number survey next (Open decision) e f h is notes = survey_stopped trial relation n m number survey next decision e f h is notes

pub survey_fails : (trial : TrialForm) (relation : List Conjunct) (n count number at : ℕ) (survey : Survey) (found : Found) (point : Point) → number ≡ n + 1 → n < count → count ≡ condition_count trial.ty relation
    → IsFound (condition_facts trial relation number) trial.effort found → IsNoted survey number found (surveyed.Fails at point) → IsFailure trial relation at (point_form point)
survey_fails trial relation n count number at survey (Refuted lines) point e less all is notes = absurd notes
survey_fails trial relation n count number at survey (Open decision) point e less all is notes = absurd notes
survey_fails trial relation n count number at survey (Fails p) point e less all is notes =
    let same = notes.0 in
    record {
      from_one = omega (arith, e, same);
      among = omega (arith, e, less, all, same);
      decisive = subst (λ q. IsDecisiveFor (condition_facts trial relation at) (point_form q)) (sym notes.1) (subst (λ k. IsDecisiveFor (condition_facts trial relation k) (point_form p)) (sym notes.0) is);
    }
