use Rattle.std.proofs.Common.{sym, ◌∙◌}
use Rattle.std.specs.Cmp.Rules.{signed_items}
use Rattle.kat_cases.proofs.judging.has_literals.Goals as goal

pub returns : goal.returns
returns c = λ e. sym c.as_slice.ensures.value ∙ (signed_items c.as_slice.result.now c.args.literals.now).0 (sym c.eq.ensures ∙ e)
