use Rattle.std.proofs.Common.{◌∙◌}
use Rattle.kat_difference.proofs.sharers.Sharer.deliver.Goals as goal

pub returns-clause-merges : goal.returns-clause-merges
returns-clause-merges c = record {
  clock = c.in_ok-take_in.ensures.clock;
  marks = c.commit.ensures ∙ c.in_ok-staged.ensures.next;
  state = c.in_ok-take_in.ensures.joins;
}
