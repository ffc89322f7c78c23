use Rattle.std.proofs.Common.{◌≡◌, ◌+◌, ◌∙◌, ap, arith}
use Rattle.kat_gram.specs.Enumerations.{passed, stream_in}
use Rattle.kat_gram.proofs.EnumerationSteps.{all_passed, passed_more}
use Rattle.kat_gram.proofs.enumerating.pass.Goals as goal

pub returns-then-not-branch : goal.returns-then-not-branch
returns-then-not-branch c =
    let g = stream_in c.args.enumeration.now in
    let h = stream_in c.pass_one.new.enumeration in
    let is : h ≡ passed (c.loop-i.i + 1) g = c.in_ok-pass_one.ensures.passed ∙ ap (passed 1) c.loop-i.invariant ∙ passed_more c.loop-i.i g in
    all_passed c.args.count (c.loop-i.i + 1) g h (omega arith) is (c.in_ok-pass_one.ensures.none c.if-not-branch.true)

pub loop-i-preserved : goal.loop-i-preserved
loop-i-preserved c = c.in_ok-pass_one.ensures.passed ∙ ap (passed 1) c.loop-i.invariant ∙ passed_more c.loop-i.i (stream_in c.args.enumeration.now)
