use Rattle.std.proofs.Common.{refl}
use Rattle.kat_wire.specs.FileForms.{file_form}
use Rattle.kat_share_call.proofs.Ending.{ends_so, plain_ends}
use Rattle.kat_share_call.proofs.Reading.{well_sorted_file}
use Rattle.kat_share_call.proofs.Writing.{wrote_new}
use Rattle.kat_share_call.proofs.texts.write_new.Goals as goal

pub returns-in-Err : goal.returns-in-Err
returns-in-Err g c = plain_ends _ _ _ _ _ c.refused_design.ensures refl

pub new_text-requires-clause-sorted : goal.new_text-requires-clause-sorted
new_text-requires-clause-sorted g c = well_sorted_file c.args.design.now (file_form c.in-Ok.file) c.in-Ok.ensures.read

pub returns-in-Ok-new_text : goal.returns-in-Ok-new_text
returns-in-Ok-new_text g c =
    ends_so _ _ _ _ _ _ (wrote_new c.args.design.now c.args.number (file_form c.in-Ok.file) c.in-Ok-new_text.text.items _ _ c.in-Ok.ensures.read c.in-Ok-new_text.ensures)
    (rw c.deref.ensures.value at c.print.ensures)
