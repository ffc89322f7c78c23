use Rattle.std.proofs.Common.{List, subst, sym, arith}
use Rattle.std.specs.Prelude.{All}
use Rattle.kat_design.specs.Designs.{design_form}
use Rattle.kat_design.specs.Small.{IsSmallPart}
use Rattle.kat_design.specs.declared.states.Part.{Part}
use Rattle.kat_hist.proofs.Asked.{dones_small}
use Rattle.kat_hist.proofs.differing.differs_on.Goals as goal

pub some_order_tells-requires-clause-state : goal.some_order_tells-requires-clause-state
some_order_tells-requires-clause-state c =
    let few = c.requires.fits.few in
    subst (λ (parts : List Part). All IsSmallPart parts) (sym c.in_ok-state.ensures)
    (c.denotations_are_small.ensures.small (design_form c.args.design.now) c.args.ones.now c.requires.sorted (omega (arith, few)) c.requires.fits.fits)

pub some_order_tells-requires-clause-args : goal.some_order_tells-requires-clause-args
some_order_tells-requires-clause-args c = dones_small c.args.design.now.sig c.args.ones.now c.requires.fits.fits
