use Rattle.std.proofs.Common.{rules}
use Rattle.kat_hist.specs.Trials.{IsCardAt, IsTrialAt}
use Rattle.kat_type.specs.Types.{type_form}
use Rattle.kat_hist.proofs.Made.{none_kept}
use Rattle.kat_hist.proofs.trials.Trials.new.Goals as goal

pub invariant_of-result : goal.invariant_of-result
invariant_of-result c = record {
  limits = c.requires.limits;
  sorted = c.requires.sorted;
  all = c.in_ok-whole.ensures;
  asked = search rules;
  tried = none_kept (IsTrialAt (type_form c.args.ty.now) c.in_ok-asks.asks.items c.in_ok-whole.whole) c.len.result c.in_ok-kept.kept.items c.in_ok-kept.ensures;
  carded = none_kept (IsCardAt (type_form c.args.ty.now) c.in_ok-whole.whole) c.len-2.result c.in_ok-cards.cards.items c.in_ok-cards.ensures;
}
