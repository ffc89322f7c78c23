-- Both statements of evidence are one.
use Rattle.std.proofs.Common.{◌≡◌, ℕ, ℤ, Bool, false, List, [], ◌∷◌, Some, option_map, refl, sym, ap, ◌∙◌, subst}
use Rattle.std.specs.Prelude.{slice_get}
use Rattle.kat_search_laws.specs.Walks.{GivesEnd, plain_end}
use Rattle.kat_search_laws.proofs.PointsBack.{decisive}
use Rattle.kat_search_laws.proofs.PointsForth.{decides}
use Rattle.kat_search_laws.proofs.WalksBoth.{ends_are_ends, ends_are_given}
use Rattle.kat_block.specs.Blocks.{EndsAt, FailsAt, Fails, HasCondition, IsDueIn, IsLeftAt, WalkEnds, condition_in, conjunct_in, facts_under}
use Rattle.kat_block.specs.Blocks as block
use Rattle.kat_candidate.specs.Candidates.{AreCandidates}
use Rattle.kat_candidate.specs.Places.{condition_at, conjunct_at, has_number, left_behind}
use Rattle.kat_candidate.specs.declared.places.Place1.{Place1}
use Rattle.kat_candidate.specs.declared.places.Place1.TheVariants.{Start, Step, Query}
use Rattle.kat_design.specs.Designs.{DesignForm}
use Rattle.kat_drop.specs.Certificates as drop
use Rattle.kat_drop.specs.Certificates.{AreDrops, DropForm, IsOpenCertificate, MayDrop, dropped_by}
use Rattle.kat_form.specs.Facts.{Fact}
use Rattle.kat_form.specs.Readings.{encoding_of, numbers_of_facts}
use Rattle.kat_prove.specs.Provings.{setting_over}
use Rattle.kat_relation.specs.declared.relations.Conjunct.{Conjunct}
use Rattle.kat_cases.specs.Nodes as nodes
use Rattle.kat_cases.specs.Nodes.End.{spent, at_point, at_rows, at_wide}
use Rattle.kat_cases.specs.Walks.{WalkGives}
use Rattle.kat_cases.specs.Walks.Answer.{stopped}
use Rattle.kat_telling.specs.Evidence.{EndsAtPlace}
use Rattle.kat_telling.specs.Evidence.Ending.{fails as fails_at, is_spent, is_crowded, is_wide, is_long as is_too_long}
use Rattle.kat_type.specs.Lists.{Has}
use Rattle.kat_type.specs.Types.{TypeForm}
use Rattle.kat_vc.specs.Conditions.{Condition, start, step, answers, conditions}
use Rattle.kat_walks.specs.Walks.{End}
use Rattle.kat_walks.specs.Walks.End.{used_up, met_point, too_many, too_wide}
use Rattle.kat_search_laws.specs.Evidences.{DropsAreDue, DueDropsMayDrop, DueEndingsEnd, EndingsAreDue, said_place, said_point}
use Rattle.kat_search_laws.proofs.Membership.{answer_among, are_of_conjuncts, has_start, has_step, left_fresh, left_has, map_some, of_conjuncts, pairs_once, start_among, step_among, then_some}

pub place_same : (ty : TypeForm) (candidates : List Conjunct) (at : Place1) → condition_in ty candidates (said_place at) ≡ condition_at ty candidates at
place_same ty candidates (Start j) = refl
place_same ty candidates (Step o j) = refl
place_same ty candidates (Query q) = refl

pub conjunct_same : (at : Place1) → conjunct_in (said_place at) ≡ conjunct_at at
conjunct_same (Start j) = refl
conjunct_same (Step o j) = refl
conjunct_same (Query q) = refl

-- a condition fails by both statements
fails_forth : (ty : TypeForm) (d : DesignForm) (candidates : List Conjunct) (dropped : List ℕ) (at : Place1) (p : drop.PointForm) → IsLeftAt dropped (said_place at) → drop.FailsAt ty d candidates dropped at p
    → FailsAt ty d candidates dropped (said_place at) (said_point p)
fails_forth ty d candidates dropped at p left f =
    let facts = facts_under ty d candidates dropped f.condition in
    record {
      condition = f.condition;
      has = record { there = place_same ty candidates at ∙ f.there; left = left };
      decisive = decides facts (numbers_of_facts facts) (said_point p) f.decisive;
    }

fails_back : (ty : TypeForm) (d : DesignForm) (candidates : List Conjunct) (dropped : List ℕ) (at : Place1) (p : drop.PointForm) → FailsAt ty d candidates dropped (said_place at) (said_point p)
    → drop.FailsAt ty d candidates dropped at p
fails_back ty d candidates dropped at p f =
    let facts = facts_under ty d candidates dropped f.condition in
    record {
      condition = f.condition;
      there = sym (place_same ty candidates at) ∙ f.has.there;
      decisive = decisive facts (numbers_of_facts facts) (said_point p) f.decisive;
    }

number_same : (j number : ℕ) → j ∷ [] ≡ number ∷ [] → number ≡ j
number_same j number e = cc

nothing_of_query : (number : ℕ) → [] ≡ number ∷ [] → ⊥
nothing_of_query number e = cc

pub drops_are_due : DropsAreDue
drops_are_due ty d candidates effort dropped x may = by_place x.at x.point may.number may.of_candidate may.fresh may.fails
  where
    by_place : (at : Place1) (p : drop.PointForm) (number : ℕ) → conjunct_at at ≡ number ∷ [] → has_number number dropped ≡ false → drop.FailsAt ty d candidates dropped at p
        → block.IsOfConjunct (said_place at) × FailsAt ty d candidates dropped (said_place at) (said_point p)
    by_place (Start j) p number of fresh fails =
        (tt, fails_forth ty d candidates dropped (Start j) p (ap (λ n. has_number n dropped) (sym (number_same j number of)) ∙ fresh) fails)
    by_place (Step o j) p number of fresh fails =
        (tt, fails_forth ty d candidates dropped (Step o j) p (ap (λ n. has_number n dropped) (sym (number_same j number of)) ∙ fresh) fails)
    by_place (Query q) p number of fresh fails = absurd (nothing_of_query number of)

pub due_drops_may_drop : DueDropsMayDrop
due_drops_may_drop ty d candidates effort dropped x due = by_place x.at x.point due.0 due.1
  where
    by_place : (at : Place1) (p : drop.PointForm) → block.IsOfConjunct (said_place at) → FailsAt ty d candidates dropped (said_place at) (said_point p)
        → MayDrop ty d candidates dropped (record { at = at; point = p })
    by_place (Start j) p own fails = record { number = j; of_candidate = refl; fresh = fails.has.left; fails = fails_back ty d candidates dropped (Start j) p fails }
    by_place (Step o j) p own fails = record { number = j; of_candidate = refl; fresh = fails.has.left; fails = fails_back ty d candidates dropped (Step o j) p fails }
    by_place (Query q) p own fails = absurd own

-- a condition of those that are left has a candidate that is left, and the other way round
left_forth : (ty : TypeForm) (d : DesignForm) (candidates : List Conjunct) (dropped : List ℕ) (at : Place1) (condition : Condition) → AreCandidates ty d candidates → condition_at ty candidates at ≡ Some condition
    → Has (conditions ty (left_behind candidates dropped)) condition → IsLeftAt dropped (said_place at)
left_forth ty d candidates dropped (Start j) condition all there among =
    let c = map_some start (slice_get candidates j) condition there in
    let P : Condition → Type 0 = Has (conditions ty (left_behind candidates dropped)) in
    left_fresh dropped candidates j c.0 (pairs_once candidates all.ascending) c.1 (has_start ty (left_behind candidates dropped) c.0 (subst P (sym c.2) among))
left_forth ty d candidates dropped (Step o j) condition all there among =
    let op = then_some (λ op. option_map (step o op) (slice_get candidates j)) (slice_get ty.ops o) condition there in
    let c = map_some (step o op.0) (slice_get candidates j) condition op.2 in
    let P : Condition → Type 0 = Has (conditions ty (left_behind candidates dropped)) in
    left_fresh dropped candidates j c.0 (pairs_once candidates all.ascending) c.1 (has_step ty (left_behind candidates dropped) o op.0 c.0 (subst P (sym c.2) among))
left_forth ty d candidates dropped (Query q) condition all there among = tt

left_back : (ty : TypeForm) (candidates : List Conjunct) (dropped : List ℕ) (at : Place1) (condition : Condition) → condition_at ty candidates at ≡ Some condition → IsLeftAt dropped (said_place at)
    → Has (conditions ty (left_behind candidates dropped)) condition
left_back ty candidates dropped (Start j) condition there left =
    let c = map_some start (slice_get candidates j) condition there in
    let P : Condition → Type 0 = Has (conditions ty (left_behind candidates dropped)) in
    subst P c.2 (start_among ty (left_behind candidates dropped) c.0 (left_has dropped candidates j c.0 c.1 left))
left_back ty candidates dropped (Step o j) condition there left =
    let op = then_some (λ op. option_map (step o op) (slice_get candidates j)) (slice_get ty.ops o) condition there in
    let c = map_some (step o op.0) (slice_get candidates j) condition op.2 in
    let P : Condition → Type 0 = Has (conditions ty (left_behind candidates dropped)) in
    subst P c.2 (step_among ty (left_behind candidates dropped) o op.0 c.0 op.1 (left_has dropped candidates j c.0 c.1 left))
left_back ty candidates dropped (Query q) condition there left =
    let query = map_some (answers q) (slice_get ty.queries q) condition there in
    let P : Condition → Type 0 = Has (conditions ty (left_behind candidates dropped)) in
    subst P query.2 (answer_among ty (left_behind candidates dropped) q query.0 query.1)

-- walks
walk_forth : (facts : List Fact) (effort : ℕ) (end : nodes.End) → WalkGives (setting_over facts) effort (stopped end) → WalkEnds facts effort (plain_end end)
walk_forth facts effort end gives = ends_are_ends (encoding_of facts) (numbers_of_facts facts) effort end gives

walk_back : (facts : List Fact) (effort : ℕ) (end : End) → WalkEnds facts effort end → GivesEnd (encoding_of facts) (numbers_of_facts facts) effort end
walk_back facts effort end ends = ends_are_given (encoding_of facts) (numbers_of_facts facts) effort end ends

no_point_forth : (facts : List Fact) (effort : ℕ) → ((den : ℤ) (nums : List ℤ) (truths : List Bool) → WalkGives (setting_over facts) effort (stopped (at_point den nums truths)) → ⊥) → WalkEnds facts effort met_point → ⊥
no_point_forth facts effort none ends = let g = walk_back facts effort met_point ends in by_end g.end g.same g.gives
  where
    by_end : (end : nodes.End) → plain_end end ≡ met_point → WalkGives (setting_over facts) effort (stopped end) → ⊥
    by_end spent e gives = cc
    by_end (at_point den nums truths) e gives = none den nums truths gives
    by_end (at_rows lits plus minus rest) e gives = cc
    by_end (at_wide lits left right) e gives = cc

-- an end at a place
ends_forth : (ty : TypeForm) (d : DesignForm) (candidates : List Conjunct) (effort : ℕ) (xs : List DropForm) (at : Place1) (end : nodes.End) → AreCandidates ty d candidates → EndsAtPlace ty d candidates effort xs at end
    → EndsAt ty d candidates effort (dropped_by xs) (said_place at) (plain_end end)
ends_forth ty d candidates effort xs at end all e = record {
  condition = e.condition;
  has = record { there = place_same ty candidates at ∙ e.there; left = left_forth ty d candidates (dropped_by xs) at e.condition all e.there e.among };
  ends = walk_forth (facts_under ty d candidates (dropped_by xs) e.condition) effort end e.ends;
  no_point = λ other among.
      let own = are_of_conjuncts ty (left_behind candidates (dropped_by xs)) other among in
      no_point_forth (facts_under ty d candidates (dropped_by xs) other) effort (e.no_point other own.0 own.1);
}

ends_back : (ty : TypeForm) (d : DesignForm) (candidates : List Conjunct) (effort : ℕ) (xs : List DropForm) (at : Place1) (end : nodes.End) → AreDrops ty d candidates xs
    → ((other : nodes.End) → plain_end other ≡ plain_end end → other ≡ end)
    → EndsAt ty d candidates effort (dropped_by xs) (said_place at) (plain_end end) → EndsAtPlace ty d candidates effort xs at end
ends_back ty d candidates effort xs at end may one e =
    let there : condition_at ty candidates at ≡ Some e.condition = sym (place_same ty candidates at) ∙ e.has.there in
    let facts = facts_under ty d candidates (dropped_by xs) e.condition in
    let given = walk_back (facts_under ty d candidates (dropped_by xs) e.condition) effort (plain_end end) e.ends in
    let P : nodes.End → Type 0 = λ x. WalkGives (setting_over (facts_under ty d candidates (dropped_by xs) e.condition)) effort (stopped x) in
    record {
      dropped = may;
      condition = e.condition;
      there = there;
      among = left_back ty candidates (dropped_by xs) at e.condition there e.has.left;
      ends = subst P (one given.end given.same) given.gives;
      no_point = λ other among own den nums truths gives.
          e.no_point other (of_conjuncts ty (left_behind candidates (dropped_by xs)) other among own)
          (walk_forth (facts_under ty d candidates (dropped_by xs) other) effort (at_point den nums truths) gives);
    }

one_spent : (other : nodes.End) → plain_end other ≡ used_up → other ≡ spent
one_spent spent e = refl
one_spent (at_point den nums truths) e = absurd (cc)
one_spent (at_rows lits plus minus rest) e = absurd (cc)
one_spent (at_wide lits left right) e = absurd (cc)

one_rows : (ks : List ℤ) (p m r : ℕ) (other : nodes.End) → plain_end other ≡ too_many ks p m r → other ≡ at_rows ks p m r
one_rows ks p m r spent e = absurd (cc)
one_rows ks p m r (at_point den nums truths) e = absurd (cc)
one_rows ks p m r (at_rows lits plus minus rest) e = cc
one_rows ks p m r (at_wide lits left right) e = absurd (cc)

one_wide : (ks : List ℤ) (a b : ℤ) (other : nodes.End) → plain_end other ≡ too_wide ks a b → other ≡ at_wide ks a b
one_wide ks a b spent e = absurd (cc)
one_wide ks a b (at_point den nums truths) e = absurd (cc)
one_wide ks a b (at_rows lits plus minus rest) e = absurd (cc)
one_wide ks a b (at_wide lits left right) e = cc

pub endings_are_due : EndingsAreDue
endings_are_due ty d candidates effort earlier xs (fails_at query point) all e = (e.dropped, fails_forth ty d candidates (dropped_by xs) (Query query) point tt e.fails)
endings_are_due ty d candidates effort earlier xs (is_spent at) all e = (e.dropped, ends_forth ty d candidates effort xs at spent all e)
endings_are_due ty d candidates effort earlier xs (is_crowded at plus minus rest lits) all e = (e.dropped, ends_forth ty d candidates effort xs at (at_rows lits plus minus rest) all e)
endings_are_due ty d candidates effort earlier xs (is_wide at left right lits) all e = (e.0.dropped, ends_forth ty d candidates effort xs at (at_wide lits left right) all e.0)
endings_are_due ty d candidates effort earlier xs (is_too_long bytes) all e = (e.dropped, e.long)

pub due_endings_end : DueEndingsEnd
due_endings_end ty d candidates effort earlier xs (fails_at query point) may short narrow due = record { dropped = may; fails = fails_back ty d candidates (dropped_by xs) (Query query) point due }
due_endings_end ty d candidates effort earlier xs (is_spent at) may short narrow due = ends_back ty d candidates effort xs at spent may one_spent due
due_endings_end ty d candidates effort earlier xs (is_crowded at plus minus rest lits) may short narrow due = ends_back ty d candidates effort xs at (at_rows lits plus minus rest) may (one_rows lits plus minus rest) due
due_endings_end ty d candidates effort earlier xs (is_wide at left right lits) may short narrow due = (ends_back ty d candidates effort xs at (at_wide lits left right) may (one_wide lits left right) due, narrow.1.0, narrow.1.1)
due_endings_end ty d candidates effort earlier xs (is_too_long bytes) may short narrow due = absurd short
