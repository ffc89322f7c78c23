use Rattle.std.proofs.Common.{sym, ◌∙◌}
use Rattle.std.proofs.lemmas.Bool.{false≢true}
use Rattle.kat_form.specs.Encodings.{senses_of}
use Rattle.kat_form.specs.Facts.{facts_of}
use Rattle.kat_points.specs.Answers.{point_form}
use Rattle.kat_points.proofs.PointFindings.{decisive, unsettled, untrue}
use Rattle.kat_points.proofs.points.judge_at.Goals as goal

pub returns-then-not-is_narrow : goal.returns-then-not-is_narrow
returns-then-not-is_narrow c =
    let sums = rw c.in-Some.is at c.in_ok-sums.ensures in (sums.0, λ small decides. false≢true (sym c.if-not-is_narrow.true ∙ c.is_narrow.ensures.1 small))

pub returns-then-not-are_settled : goal.returns-then-not-are_settled
returns-then-not-are_settled c =
    let sums = rw c.in-Some.is at c.in_ok-sums.ensures in (
      sums.0,
      λ small. unsettled (facts_of c.args.facts.now) (senses_of c.args.meanings.now) (point_form c.args.point.now) c.in-Some.sums.items c.deref.result.now c.are_settled.result c.deref.ensures.value sums.1 c.are_settled.ensures c.if-not-are_settled.true,
    )

pub returns-then-not-are_true : goal.returns-then-not-are_true
returns-then-not-are_true c =
    let sums = rw c.in-Some.is at c.in_ok-sums.ensures in (
      sums.0,
      λ small. untrue (facts_of c.args.facts.now) (senses_of c.args.meanings.now) (point_form c.args.point.now) c.in_ok-values.values.items c.deref-3.result.now c.are_true.result c.deref-3.ensures.value c.in_ok-values.ensures c.are_true.ensures c.if-not-are_true.true,
    )

pub returns : goal.returns
returns c =
    let sums = rw c.in-Some.is at c.in_ok-sums.ensures in (
      sums.0,
      c.is_narrow.ensures.0 c.if-not-is_narrow.false,
      decisive (facts_of c.args.facts.now) (senses_of c.args.meanings.now) (point_form c.args.point.now) c.in-Some.sums.items c.deref.result.now c.are_settled.result c.in_ok-values.values.items c.deref-3.result.now c.are_true.result
          c.deref.ensures.value sums.1 c.are_settled.ensures c.if-not-are_settled.false c.deref-3.ensures.value c.in_ok-values.ensures c.are_true.ensures c.if-not-are_true.false,
    )
