use Rattle.kat_wire.proofs.PlainFiles.{printed_read}
use Rattle.kat_wire.proofs.laws.printed_files_are_read.Goals as goal

pub returns : goal.returns
returns c = printed_read
