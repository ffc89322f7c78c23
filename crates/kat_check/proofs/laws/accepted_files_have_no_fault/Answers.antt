use Rattle.kat_check.proofs.Faults.{accepted_without}
use Rattle.kat_check.proofs.laws.accepted_files_have_no_fault.Goals as goal

pub returns : goal.returns
returns c = accepted_without
