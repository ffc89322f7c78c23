use Rattle.std.proofs.Common.{◌≡◌, take}
use Rattle.kat_design.specs.Denotations.{denotation_of}
use Rattle.kat_design.specs.Designs.{design_form}
use Rattle.kat_histories.proofs.denotations.denotation.Given as goal

abbrev pub invariant-loop-one : goal.invariant-loop-one
invariant-loop-one l = l.replica.state.parts ≡ denotation_of (design_form l.design) (take l.one-index l.ones)
