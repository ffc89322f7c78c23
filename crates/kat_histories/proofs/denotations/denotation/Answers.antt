use Rattle.std.proofs.Common.{◌≡◌, List, [], subst, sym, take, true}
use Rattle.std.specs.List.{list_all}
use Rattle.kat_design.specs.Denotations.{denotation_of}
use Rattle.kat_design.specs.Designs.{design_form}
use Rattle.kat_design.specs.Meanings.{are_kin}
use Rattle.kat_design.specs.Parts.{PartsKin}
use Rattle.kat_design.specs.Small.{is_roomy_part}
use Rattle.kat_design.specs.declared.states.Part.{Part}
use Rattle.kat_histories.proofs.Fronts.{front_fits, front_few}
use Rattle.kat_histories.proofs.denotations.denotation.Goals as goal

pub apply-requires-clause-kin : goal.apply-requires-clause-kin
apply-requires-clause-kin c =
    subst (λ (parts : List Part). are_kin PartsKin parts (denotation_of (design_form c.args.design.now) [])) (sym c.loop-one.invariant)
    (c.states_go_together.ensures.denotations (design_form c.args.design.now) (take c.loop-one.one-index c.args.ones.now) [] c.requires.sorted)

pub apply-requires-clause-room : goal.apply-requires-clause-room
apply-requires-clause-room c =
    subst (λ (parts : List Part). list_all is_roomy_part parts ≡ true) (sym c.loop-one.invariant)
    (c.denotations_are_small.ensures.roomy (design_form c.args.design.now) (take c.loop-one.one-index c.args.ones.now) (front_few c.args.ones.now c.loop-one.one-index c.requires.few)
    (front_fits c.args.design.now.sig c.args.ones.now c.loop-one.one-index c.requires.fits))
