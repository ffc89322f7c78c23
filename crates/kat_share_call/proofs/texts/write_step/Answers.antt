use Rattle.std.proofs.Common.{refl}
use Rattle.kat_actions.specs.declared.calls.Verb.TheVariants.{Do}
use Rattle.kat_actions.proofs.Fitting.{calls_fit}
use Rattle.kat_design.specs.Designs.{design_form}
use Rattle.kat_share_step.proofs.Sums.{share_said}
use Rattle.kat_wire.specs.FileForms.{file_form}
use Rattle.kat_share_call.specs.Inside.{inputs_of}
use Rattle.kat_share_call.specs.Written.{contents}
use Rattle.kat_share_call.proofs.Ending.{ends_so, plain_ends, step_ends}
use Rattle.kat_share_call.proofs.Reading.{few_packets, packets_said, well_sorted_file}
use Rattle.kat_share_call.proofs.Writing.{met_gap, wrote_step}
use Rattle.kat_share_call.proofs.texts.write_step.Goals as goal

pub returns-in-Err : goal.returns-in-Err
returns-in-Err g c = plain_ends _ _ _ _ _ c.in-Err.ensures.plain refl

pub step_text-requires-clause-sorted : goal.step_text-requires-clause-sorted
step_text-requires-clause-sorted g c = well_sorted_file c.args.design.now (file_form c.in-Ok.inputs.file) c.in-Ok.ensures.read.is_design

pub step_text-requires-clause-share : goal.step_text-requires-clause-share
step_text-requires-clause-share g c = share_said (design_form c.in-Ok.inputs.file.design) c.args.share.now c.in-Ok.inputs.share c.in-Ok.ensures.read.is_share

pub step_text-requires-clause-packets : goal.step_text-requires-clause-packets
step_text-requires-clause-packets g c =
    rw c.deref.ensures.value (packets_said (design_form c.in-Ok.inputs.file.design) (contents c.args.packets.now) c.in-Ok.inputs.packets.items c.in-Ok.ensures.read.are_packets)

pub step_text-requires-clause-few : goal.step_text-requires-clause-few
step_text-requires-clause-few g c =
    rw c.deref.ensures.value (few_packets (design_form c.in-Ok.inputs.file.design) c.args.packets.now c.in-Ok.inputs.packets.items c.in-Ok.ensures.read.are_packets c.requires.few)

pub step_text-requires-clause-fit : goal.step_text-requires-clause-fit
step_text-requires-clause-fit g c =
    rw c.deref-2.ensures.value ((calls_fit Do c.in-Ok.inputs.file.design.sig c.args.actions.now c.in-Ok.inputs.actions.items c.in-Ok.ensures.read.are_actions).each)

pub returns-in-Ok-step_text : goal.returns-in-Ok-step_text
returns-in-Ok-step_text g c =
    let told = rw c.deref.ensures.value at (rw c.deref-2.ensures.value at c.in-Ok-step_text.ensures) in
    ends_so _ _ _ _ _ _
    (wrote_step c.args.design.now c.args.share.now c.args.actions.now (contents c.args.packets.now) (inputs_of c.in-Ok.inputs) c.in-Ok-step_text.text.items _ _ c.in-Ok.ensures.read told.covered
    told.passed
    (c.steps_keep_shares.ensures (design_form c.in-Ok.inputs.file.design) c.in-Ok.inputs.share c.in-Ok.inputs.packets.items c.in-Ok.inputs.actions.items
    (well_sorted_file c.args.design.now (file_form c.in-Ok.inputs.file) c.in-Ok.ensures.read.is_design) told.covered
    ((calls_fit Do c.in-Ok.inputs.file.design.sig c.args.actions.now c.in-Ok.inputs.actions.items c.in-Ok.ensures.read.are_actions).each) told.passed) told.text)
    (rw c.deref-in-Ok-step_text.ensures.value at c.print.ensures)

pub returns : goal.returns
returns g c =
    step_ends (design_form c.in-Ok.inputs.file.design) c.in-Ok.inputs.share c.in-Ok.inputs.packets.items c.in-Ok.inputs.actions.items c.in-Err-step_text.error _ _ _ _ _
    (rw c.deref.ensures.value at (rw c.deref-2.ensures.value at c.in-Err-step_text.ensures.refused)) c.refused_step.ensures
    (met_gap c.args.design.now c.args.share.now c.args.actions.now (contents c.args.packets.now) (inputs_of c.in-Ok.inputs) c.in-Ok.ensures.read) refl
