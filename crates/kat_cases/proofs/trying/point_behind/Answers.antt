use Rattle.std.proofs.Common.{◌≡◌, ℤ, List, reverse, sym, ap, ◌∙◌, subst}
use Rattle.kat_clause.specs.Clauses.{AreAmong}
use Rattle.kat_form.specs.Encodings.{encoding}
use Rattle.kat_cases.specs.declared.decision.Ending.TheVariants.{Point as AtPoint}
use Rattle.kat_cases.specs.declared.judging.Judged.{Judged}
use Rattle.kat_cases.specs.declared.judging.Judged.TheVariants.{Ends}
use Rattle.kat_cases.specs.Nodes.{IsJudged}
use Rattle.kat_cases.specs.Settings.{setting_of}
use Rattle.kat_cases.specs.Stacks.{judgement_of}
use Rattle.kat_cases.proofs.Decisions.{judged_decisive}
use Rattle.kat_cases.proofs.trying.point_behind.Goals as goal

pub judge-requires-clause-keeps : goal.judge-requires-clause-keeps
judge-requires-clause-keeps c =
    let e = encoding c.args.encoded.now in
    let keeps = c.requires.keeps in
    let few : List (List ℤ) → Type 0 = λ cs. AreAmong cs (encoding c.args.encoded.now).clauses in
    let many : List (List ℤ) → Type 0 = λ cs. AreAmong (encoding c.args.encoded.now).clauses cs in
    record {
      greatest = c.falsifies.ensures.greatest ∙ keeps.greatest;
      among = subst few (sym c.falsifies.ensures.clauses) keeps.among;
      all = subst many (sym c.falsifies.ensures.clauses) keeps.all;
    }

pub returns-in-Ends-Point : goal.returns-in-Ends-Point
returns-in-Ends-Point c =
    let point = c.in-Ends-Point.point in
    let P : Judged → Type 0 = λ j. IsJudged (setting_of c.args.encoded.now) (reverse c.falsifies.new.known.assumed) (judgement_of j) in
    let is : c.in_ok-point.field-0 ≡ Ends (AtPoint c.in-Ends-Point.point) = c.in-Ends-Point.is ∙ ap Ends c.in-Ends-Point.field-0-is in
    record {
      further = tt;
      refutes = tt;
      point = judged_decisive c.args.encoded.now c.requires.walkable (reverse c.falsifies.new.known.assumed) point.den point.nums.items point.truths.items (subst P is c.in_ok-point.ensures.judged);
    }
