use Rattle.std.proofs.Common.{◌∙◌}
use Rattle.kat_delta.proofs.OneSum.{one_bumped}
use Rattle.kat_delta.proofs.entry.one_sum.Goals as goal

pub returns : goal.returns
returns c = c.from_sums.ensures ∙ c.in_ok-vec.ensures.items ∙ one_bumped c.args.replica c.args.sum c.if-sum-eq0.false
