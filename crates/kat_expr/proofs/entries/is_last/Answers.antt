use Rattle.std.proofs.Common.{◌-◌, length, sym, ◌∙◌, arith}
use Rattle.kat_expr.proofs.KeyOrder.{last_of_all, nonzero}
use Rattle.kat_expr.proofs.entries.is_last.Goals as goal

pub returns : goal.returns
returns c = (
  λ yes_it_is. (c.is_key.ensures.0 c.if-not-is_key.false, last_of_all c.args.entries.now c.args.key _ c.requires c.if-count-eq0.false (sym c.is_before.ensures ∙ yes_it_is)),
  λ last. c.is_before.ensures ∙ last.1 (length c.args.entries.now - 1) _ (omega (arith, nonzero (length c.args.entries.now) c.if-count-eq0.false)),
)
