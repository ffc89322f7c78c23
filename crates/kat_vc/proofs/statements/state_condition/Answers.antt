use Rattle.std.proofs.Common.{sym, ap}
use Rattle.kat_design.specs.Designs.{design_form}
use Rattle.kat_type.specs.Types.{type_form}
use Rattle.kat_vc.specs.Numbered.{condition_of}
use Rattle.kat_symbols.specs.Views.{reader_of}
use Rattle.kat_vc.specs.declared.by_number.Condition.TheVariants.{Step}
use Rattle.kat_vc.proofs.Stated.{stated_as}
use Rattle.kat_vc.proofs.statements.state_condition.Goals as goal

pub returns-in-Step : goal.returns-in-Step
returns-in-Step c =
    stated_as c.state_step.result (type_form c.args.old.now.ty.now) (design_form c.args.old.now.design.now) c.args.conjuncts.now
    (condition_of (Step c.in-Step.number c.in-Step.op c.in-Step.claim)) (condition_of c.args.condition.now) (reader_of c.args.reader.now) (reader_of c.state_step.new.reader)
    (ap condition_of (sym c.in-Step.is)) c.state_step.ensures
