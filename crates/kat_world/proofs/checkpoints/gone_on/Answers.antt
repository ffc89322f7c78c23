use Rattle.std.proofs.Common.{◌∙◌, List, ap, sym}
use Rattle.kat_type.specs.Types.{type_form}
use Rattle.kat_type.specs.declared.done.Done.{Done}
use Rattle.kat_world.specs.Tracked.{known_of}
use Rattle.kat_world.proofs.Stepping.{none_known, same_before}
use Rattle.kat_world.proofs.checkpoints.gone_on.Goals as goal

pub step_all-requires-clause-state : goal.step_all-requires-clause-state
step_all-requires-clause-state c =
    same_before (type_form c.args.ty.now) c.args.order.now c.args.old.latest c.args.latest c.agreed-from.result c.args.old.state.items c.requires.old c.agreed-from.ensures
    (sym (ap (λ (ds : List Done). known_of c.args.old.latest ds) c.behind.ensures)
    ∙ none_known c.args.old.latest c.behind.result.now (sym c.knows_none.ensures ∙ c.if-not-knows_none.false))
