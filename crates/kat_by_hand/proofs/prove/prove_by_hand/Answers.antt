use Rattle.std.proofs.Common.{◌∙◌, ap, sym}
use Rattle.kat_design.specs.Designs.{DesignForm}
use Rattle.kat_design.specs.Faults.{faults_of}
use Rattle.kat_by_hand.proofs.prove.prove_by_hand.Goals as goal

pub prove_design-requires-clause-accepted : goal.prove_design-requires-clause-accepted
prove_design-requires-clause-accepted c = ap faults_of c.in_ok-copy.ensures ∙ c.requires.accepted

pub prove_design-requires-clause-agrees : goal.prove_design-requires-clause-agrees
prove_design-requires-clause-agrees c = c.requires.agrees ∙ sym (ap (λ (d : DesignForm). d.sig) c.in_ok-copy.ensures)
