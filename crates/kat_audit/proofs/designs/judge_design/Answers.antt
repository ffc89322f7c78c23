use Rattle.std.proofs.Common.{◌≡◌, ℕ, ◌<◌, ◌∙◌, List, Option, Some, length, subst, sym}
use Rattle.std.specs.Prelude.{slice_get}
use Rattle.kat_design.specs.Designs.{design_form}
use Rattle.kat_hist.specs.Firsts.{IsFirstPlace}
use Rattle.kat_histories.specs.Histories.{histories}
use Rattle.kat_type.specs.Signatures.{signature_of}
use Rattle.kat_type.specs.Types.{type_form}
use Rattle.kat_type.specs.declared.signatures.Signature.{Signature}
use Rattle.kat_type.specs.declared.types.SeqType.{SeqType}
use Rattle.kat_due.specs.Differences.{DiffersOn, histories_for}
use Rattle.kat_due.specs.Readings.{EachIsNumber}
use Rattle.kat_due.proofs.Citing.{first_for, first_within}
use Rattle.kat_due.proofs.Judged.{if_again, if_block, if_more, if_newly, if_same}
use Rattle.kat_audit.proofs.designs.judge_design.Goals as goal

pub first_cited-requires-clause-numbers : goal.first_cited-requires-clause-numbers
first_cited-requires-clause-numbers c = subst (λ (numbers : List ℕ). EachIsNumber (signature_of (type_form c.args.ty.now)) numbers) (sym c.deref.ensures.value) c.requires.numbers.each

pub returns-in-Some-clause-comes : goal.returns-in-Some-clause-comes
returns-in-Some-clause-comes c =
    if_again c.read_again.result (type_form c.args.ty.now) c.args.effort c.args.sig.now (design_form c.args.design.now) c.in-Some.place _ _ c.args.reading.now c.read_again.new.reading
    c.requires.sig c.deref.ensures.value c.in-Some.is c.in_ok-place.ensures.first c.read_again.ensures.comes

pub returns-in-Some-clause-numbers : goal.returns-in-Some-clause-numbers
returns-in-Some-clause-numbers c =
    if_same c.read_again.result (signature_of (type_form c.args.ty.now)) c.args.reading.now.cited.items c.read_again.new.reading.cited.items c.requires.numbers c.read_again.ensures.cited

pub history-requires : goal.history-requires
history-requires c =
    let held = type_form c.first_cited.new.trials in
    let d = design_form c.args.design.now in
    subst (λ (t : SeqType). c.in-Some-2.number < length (histories_for (type_form t))) (sym c.first_difference.ensures.same)
    (first_within (DiffersOn held d) (histories_for held) c.in-Some-2.number
    (subst (λ (o : Option ℕ). IsFirstPlace (DiffersOn held d) (histories_for held) o) c.in-Some-2.is c.in_ok-number.ensures.first))

pub read_newly-requires-clause-numbered : goal.read_newly-requires-clause-numbered
read_newly-requires-clause-numbered c =
    let there = subst (λ (t : SeqType). slice_get (histories_for (type_form t)) c.in-Some-2.number ≡ Some c.in_ok-history.history) (c.first_difference.ensures.same ∙ c.first_cited.ensures.of_type) c.in_ok-history.ensures in
    subst (λ (s : Signature). slice_get (histories s) c.in-Some-2.number ≡ Some c.in_ok-history.history) (sym c.requires.sig) there

pub returns-in-Some-2-clause-comes : goal.returns-in-Some-2-clause-comes
returns-in-Some-2-clause-comes c =
    let there = subst (λ (t : SeqType). slice_get (histories_for (type_form t)) c.in-Some-2.number ≡ Some c.in_ok-history.history) (c.first_difference.ensures.same ∙ c.first_cited.ensures.of_type) c.in_ok-history.ensures in
    if_newly c.read_newly.result (type_form c.args.ty.now) c.args.effort c.args.sig.now (design_form c.args.design.now) c.in-Some-2.number c.in_ok-history.history _ _ _ c.args.reading.now c.read_newly.new.reading
    c.requires.sig c.deref.ensures.value c.in_default.is c.in_ok-place.ensures.first there c.in-Some-2.is
    (first_for c.first_cited.new.trials c.args.ty.now (design_form c.args.design.now) _ c.first_cited.ensures.of_type c.in_ok-number.ensures.first) c.read_newly.ensures.comes

pub returns-in-Some-2-clause-numbers : goal.returns-in-Some-2-clause-numbers
returns-in-Some-2-clause-numbers c =
    let there = subst (λ (t : SeqType). slice_get (histories_for (type_form t)) c.in-Some-2.number ≡ Some c.in_ok-history.history) (c.first_difference.ensures.same ∙ c.first_cited.ensures.of_type) c.in_ok-history.ensures in
    if_more c.read_newly.result (signature_of (type_form c.args.ty.now)) c.args.reading.now.cited.items c.read_newly.new.reading.cited.items c.in-Some-2.number c.in_ok-history.history
    c.requires.numbers there c.read_newly.ensures.cited

pub returns-clause-comes : goal.returns-clause-comes
returns-clause-comes c =
    if_block c.read_block.result (type_form c.args.ty.now) c.args.effort c.args.sig.now (design_form c.args.design.now) _ _ _ c.args.reading.now c.read_block.new.reading
    c.requires.sig c.deref.ensures.value c.in_default.is c.in_ok-place.ensures.first c.in_default-2.is
    (first_for c.first_cited.new.trials c.args.ty.now (design_form c.args.design.now) _ c.first_cited.ensures.of_type c.in_ok-number.ensures.first) c.read_block.ensures.comes

pub returns-clause-numbers : goal.returns-clause-numbers
returns-clause-numbers c =
    if_same c.read_block.result (signature_of (type_form c.args.ty.now)) c.args.reading.now.cited.items c.read_block.new.reading.cited.items c.requires.numbers c.read_block.ensures.cited
