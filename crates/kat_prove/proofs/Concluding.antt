-- What is answered.
use Rattle.std.proofs.Common.{◌≡◌, ℕ, ◌-◌, ◌<◌, ◌≤◌, List, length, map, Some, None, sym, ap, subst, ◌∙◌, arith}
use Rattle.std.proofs.lemmas.List.{length-map}
use Rattle.kat_refute.specs.Lines.{lines_of}
use Rattle.kat_refute.specs.declared.ProofLine.{ProofLine}
use Rattle.kat_cases.specs.Walks.Answer.{stopped}
use Rattle.kat_cases.specs.declared.decision.Point.{Point}
use Rattle.kat_vc.specs.Conditions.{condition_count}
use Rattle.kat_candidate.specs.Places.{left_behind}
use Rattle.kat_drop.specs.Certificates.{dropped_by, drops_of, point_form}
use Rattle.kat_candidate.specs.declared.places.Place1.{Place1}
use Rattle.kat_candidate.specs.declared.places.Place1.TheVariants.{Query}
use Rattle.kat_prove.specs.Provings.{Gives, GivesNoPoint, IsRefuted, lines_at}
use Rattle.kat_prove.specs.Trials.{TrialForm, condition_facts, Holds, IsAnswer, IsDecisiveFor, IsFailed, IsFailure, IsSurvey, Stops, place_at}
use Rattle.kat_prove.specs.declared.provings.Proving.TheVariants.{Proved, OpenCert, Stuck}
use Rattle.kat_prove.specs.declared.skims.Failed.{Failed}
use Rattle.kat_prove.specs.declared.skims.Failed.TheVariants as failing
use Rattle.kat_prove.specs.declared.surveys.Stop.{Stop}
use Rattle.kat_prove.specs.declared.surveys.Survey.{Survey}
use Rattle.kat_prove.specs.declared.trials.Kept.{Kept}
use Rattle.kat_prove.proofs.Dropping.{query_fails, stuck_placed}

few_drops : (trial : TrialForm) (kept : Kept) → Holds trial kept → length (drops_of kept.drops.items) ≤ length trial.candidates
few_drops trial kept h = let few = h.few in omega (arith, few)

-- all conditions are refuted
pub all_proved : (trial : TrialForm) (kept : Kept) (survey : Survey) (proof : List (List ProofLine)) → Holds trial kept
    → IsSurvey trial kept.relation.conjuncts (condition_count trial.ty kept.relation.conjuncts) survey → survey.stop ≡ None → proof ≡ survey.lists.items
    → IsAnswer trial (Proved kept.drops kept.relation proof)
all_proved trial kept survey proof h s is same =
    let count : length (map lines_of survey.lists.items) ≡ condition_count trial.ty kept.relation.conjuncts = subst (Stops trial kept.relation.conjuncts (condition_count trial.ty kept.relation.conjuncts) (map lines_of survey.lists.items)) is s.stops in
    record {
      proving = record {
        dropped = h.drops;
        left = h.relation;
        as_many = ap (λ ls. length (map lines_of ls)) same ∙ count;
        refuted_each = λ k positive most. subst (λ ls. IsRefuted trial.ty trial.design kept.relation.conjuncts trial.effort k (lines_at (map lines_of ls) k)) (sym same)
            (s.refuted_each k positive (omega (arith, most, count, length-map survey.lists.items lines_of)));
      };
      first = tt;
      few = few_drops trial kept h;
    }

-- the first condition that isn't refuted
pub is_stuck : (trial : TrialForm) (kept : Kept) (survey : Survey) (stop : Stop) (at : Place1) → Holds trial kept
    → IsSurvey trial kept.relation.conjuncts (condition_count trial.ty kept.relation.conjuncts) survey → survey.stop ≡ Some stop → at ≡ place_at trial.ty.ops kept.numbers.items (stop.number - 1)
    → IsAnswer trial (Stuck kept.drops at stop.decision)
is_stuck trial kept survey stop at h s is placed =
    let left = left_behind trial.candidates (dropped_by (drops_of kept.drops.items)) in
    let own = subst (Stops trial kept.relation.conjuncts (condition_count trial.ty kept.relation.conjuncts) (map lines_of survey.lists.items)) is s.stops in
    let next = own.0 in
    let end = own.2 in
    let count = length-map survey.lists.items lines_of in
    let none : (k : ℕ) → 0 < k → k ≤ condition_count trial.ty left → GivesNoPoint trial.ty trial.design left trial.effort k =
    λ k positive most. subst (λ cs. GivesNoPoint trial.ty trial.design cs trial.effort k) h.relation (s.no_point k positive (subst (λ cs. k ≤ condition_count trial.ty cs) (sym h.relation) most)) in
    record {
      proving = (
        end.0,
        end.1,
        record {
          dropped = h.drops;
          number = stop.number;
          from_one = omega (arith, next);
          among = subst (λ cs. stop.number ≤ condition_count trial.ty cs) h.relation own.1;
          placed = stuck_placed trial kept stop.number at h placed;
          gives = subst (λ cs. Gives trial.ty trial.design cs trial.effort stop.number (stopped end.0)) h.relation end.3;
          gives_up = end.2;
          no_point = λ k positive most own. none k positive most;
        },
      );
      first = record {
        number = stop.number;
        from_one = omega (arith, next);
        among = subst (λ cs. stop.number ≤ condition_count trial.ty cs) h.relation own.1;
        placed = stuck_placed trial kept stop.number at h placed;
        before = λ k positive less. (
          lines_at (map lines_of survey.lists.items) k,
          subst (λ cs. IsRefuted trial.ty trial.design cs trial.effort k (lines_at (map lines_of survey.lists.items) k)) h.relation
              (s.refuted_each k positive (omega (arith, less, next, count))),
        );
        no_point = none;
      };
      few = few_drops trial kept h;
    }

-- a query fails
pub is_open : (trial : TrialForm) (kept : Kept) (number query : ℕ) (point : Point) → Holds trial kept
    → place_at trial.ty.ops kept.numbers.items (number - 1) ≡ Query query → 0 < number → number ≤ condition_count trial.ty kept.relation.conjuncts
    → IsDecisiveFor (condition_facts trial kept.relation.conjuncts number) (point_form point)
    → IsAnswer trial (OpenCert kept.drops query point)
is_open trial kept number query point h placed positive most decisive = record {
  proving = record { dropped = h.drops; fails = query_fails trial kept number query (point_form point) h placed positive most decisive };
  first = tt;
  few = few_drops trial kept h;
}

-- the same of what follows from the failure of a query's condition
failed_open : (trial : TrialForm) (kept same : Kept) (number query : ℕ) (point p : Point) → Holds trial kept → IsFailure trial kept.relation.conjuncts number (point_form point)
    → (same ≡ kept) × (p ≡ point) × (place_at trial.ty.ops kept.numbers.items (number - 1) ≡ Query query) → IsAnswer trial (OpenCert same.drops query p)
failed_open trial kept same number query point p h failure is =
    subst (λ (k : Kept). IsAnswer trial (OpenCert k.drops query p)) (sym is.0)
    (subst (λ (q : Point). IsAnswer trial (OpenCert kept.drops query q)) (sym is.1)
    (is_open trial kept number query point h is.2 failure.from_one failure.among failure.decisive))

pub query_open : (trial : TrialForm) (kept same : Kept) (number query : ℕ) (point p : Point) (failed : Failed) → Holds trial kept → IsFailure trial kept.relation.conjuncts number (point_form point)
    → failed ≡ failing.Query same query p → IsFailed trial kept number point failed → IsAnswer trial (OpenCert same.drops query p)
query_open trial kept same number query point p failed h failure is what =
    failed_open trial kept same number query point p h failure (subst (IsFailed trial kept number point) is what)
