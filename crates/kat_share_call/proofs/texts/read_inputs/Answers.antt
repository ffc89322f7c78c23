use Rattle.kat_wire.specs.FileForms.{file_form}
use Rattle.kat_share_call.proofs.Reading.{few_calls_file, well_sorted_file}
use Rattle.kat_share_call.proofs.texts.read_inputs.Goals as goal

pub read_share-requires : goal.read_share-requires
read_share-requires c = well_sorted_file c.args.design.now (file_form c.in-Ok.file) c.in-Ok.ensures.read

pub read_actions-requires : goal.read_actions-requires
read_actions-requires c = few_calls_file c.args.design.now (file_form c.in-Ok.file) c.in-Ok.ensures.read

pub read_packets-requires : goal.read_packets-requires
read_packets-requires c = record { sorted = well_sorted_file c.args.design.now (file_form c.in-Ok.file) c.in-Ok.ensures.read }
