use Rattle.std.proofs.Common.{ap}
use Rattle.kat_form.specs.Encodings.{encoding, senses_of}
use Rattle.kat_form.specs.Facts.{facts_of}
use Rattle.kat_points.specs.Answers.{point_form}
use Rattle.kat_points.proofs.PointFindings.{found_none, found_ok}
use Rattle.kat_points.proofs.points.judge_point.Goals as goal

pub returns-then-not-is_point : goal.returns-then-not-is_point
returns-then-not-is_point c = found_none (facts_of c.args.facts.now) (encoding c.args.encoded.now).senses c.args.encoded.now.numbers (point_form c.args.point.now) c.is_point.result c.is_point.ensures c.if-not-is_point.true

pub returns : goal.returns
returns c =
    found_ok (facts_of c.args.facts.now) (encoding c.args.encoded.now).senses (senses_of c.as_slice.result.now) c.args.encoded.now.numbers (point_form c.args.point.now) c.judge_at.result
    (ap senses_of c.as_slice.ensures.value) (c.is_point.ensures.0 c.if-not-is_point.false) c.judge_at.ensures
