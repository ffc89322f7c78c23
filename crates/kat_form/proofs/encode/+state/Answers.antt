use Rattle.std.proofs.Common.{arith}
use Rattle.kat_form.proofs.Parts.{sized_at, no_deeper}
use Rattle.kat_form.proofs.encode.+state.Goals as goal

pub state_each-state-requires : goal.state_each-state-requires
state_each-state-requires t c =
    let i = c.loop-part.part-index in (
      omega (arith, no_deeper c.args.parts.now i c.part-item.result c.loop-part-test.true c.part-item.is, c.decreases),
      sized_at c.args.parts.now i c.part-item.result c.loop-part-test.true c.part-item.is c.requires.sized,
    )
