use Rattle.std.proofs.Common.{refl}
use Rattle.kat_design.specs.Designs.{design_form}
use Rattle.kat_wire.specs.FileForms.{file_form}
use Rattle.kat_share_step.proofs.Sums.{share_said}
use Rattle.kat_share_call.proofs.Ending.{ends_so, plain_ends}
use Rattle.kat_share_call.proofs.Reading.{well_sorted_file}
use Rattle.kat_share_call.proofs.Writing.{wrote_difference}
use Rattle.kat_share_call.proofs.texts.write_difference.Goals as goal

pub returns-in-Err : goal.returns-in-Err
returns-in-Err g c = plain_ends _ _ _ _ _ c.refused_design.ensures refl

pub read_share-requires : goal.read_share-requires
read_share-requires g c = well_sorted_file c.args.design.now (file_form c.in-Ok.file) c.in-Ok.ensures.read

pub returns-in-Err-read_share : goal.returns-in-Err-read_share
returns-in-Err-read_share g c = plain_ends _ _ _ _ _ c.refused_share.ensures refl

pub known_share-requires-clause-sorted : goal.known_share-requires-clause-sorted
known_share-requires-clause-sorted g c = well_sorted_file c.args.design.now (file_form c.in-Ok.file) c.in-Ok.ensures.read

pub known_share-requires-clause-least : goal.known_share-requires-clause-least
known_share-requires-clause-least g c = c.in-Ok-read_share.ensures.read.state.possible.least

pub known_share-requires-clause-most : goal.known_share-requires-clause-most
known_share-requires-clause-most g c = c.in-Ok-read_share.ensures.read.state.possible.most

pub returns-in-Err-known_share : goal.returns-in-Err-known_share
returns-in-Err-known_share g c = plain_ends _ _ _ _ _ c.refused_share-in-Err-known_share.ensures refl

pub difference_text-requires-clause-sorted : goal.difference_text-requires-clause-sorted
difference_text-requires-clause-sorted g c = well_sorted_file c.args.design.now (file_form c.in-Ok.file) c.in-Ok.ensures.read

pub difference_text-requires-clause-whole : goal.difference_text-requires-clause-whole
difference_text-requires-clause-whole g c = share_said (design_form c.in-Ok.file.design) c.args.share.now c.in-Ok-read_share.whole c.in-Ok-read_share.ensures.read

pub returns-in-Ok-difference_text : goal.returns-in-Ok-difference_text
returns-in-Ok-difference_text g c =
    ends_so _ _ _ _ _ _
    (wrote_difference c.args.design.now c.args.share.now c.args.known.now (file_form c.in-Ok.file) c.in-Ok-read_share.whole c.in-Ok-known_share.before c.in-Ok-difference_text.ensures.packet
    c.in-Ok-difference_text.text.items _ _ c.in-Ok.ensures.read c.in-Ok-read_share.ensures.read c.in-Ok-known_share.ensures.says c.in-Ok-difference_text.ensures.beyond
    c.in-Ok-difference_text.ensures.says) (rw c.deref.ensures.value at c.print.ensures)
