use Rattle.std.proofs.Common.{List, arith, subst, sym}
use Rattle.std.specs.Prelude.{All}
use Rattle.kat_design.specs.Designs.{design_form}
use Rattle.kat_design.specs.Small.{IsSmallPart}
use Rattle.kat_design.specs.declared.states.Part.{Part}
use Rattle.kat_hist.proofs.refuting.is_refuted.Goals as goal

pub some_other-requires-clause-state : goal.some_other-requires-clause-state
some_other-requires-clause-state c =
    let few = c.requires.fits.few in
    subst (λ (parts : List Part). All IsSmallPart parts) (sym c.in_ok-state.ensures)
    (c.denotations_are_small.ensures.small (design_form c.args.design.now) c.args.ones.now c.requires.sorted (omega (arith, few)) c.requires.fits.fits)
