use Rattle.std.proofs.Common.{◌≡◌, ℕ, ◌<◌, ◌∙◌, Option, ap, length, subst, sym}
use Rattle.kat_design.specs.Designs.{design_form}
use Rattle.kat_histories.specs.Differing.{Differs}
use Rattle.kat_hist.specs.Firsts.{IsFirstPlace}
use Rattle.kat_histories.specs.Histories.{histories}
use Rattle.kat_type.specs.Signatures.{signature_of}
use Rattle.kat_type.specs.Types.{type_form}
use Rattle.kat_type.specs.declared.types.SeqType.{SeqType}
use Rattle.kat_by_hand.proofs.Firsts.{first_within}
use Rattle.kat_by_hand.proofs.report.first_difference.Goals as goal

pub first_difference-requires-clause-sorted : goal.first_difference-requires-clause-sorted
first_difference-requires-clause-sorted c = c.accepted_designs_are_well_sorted.ensures.sorted (design_form c.args.design.now) c.requires.accepted

pub first_difference-requires-clause-agrees : goal.first_difference-requires-clause-agrees
first_difference-requires-clause-agrees c = sym c.requires.agrees ∙ ap (λ (t : SeqType). signature_of (type_form t)) (sym c.in_ok-trials.ensures)

pub history-requires : goal.history-requires
history-requires c =
    let held = c.in_ok-trials.trials in
    let d = design_form c.args.design.now in
    subst (λ (t : SeqType). c.in-Some.number < length (histories (signature_of (type_form t)))) (sym c.first_difference.ensures.same)
    (first_within (Differs (type_form held) d) (histories (signature_of (type_form held))) c.in-Some.number
    (subst (λ (o : Option ℕ). IsFirstPlace (Differs (type_form held) d) (histories (signature_of (type_form held))) o) c.in-Some.is c.in_ok-number.ensures.first))
