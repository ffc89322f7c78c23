use Rattle.kat_type_file.proofs.Limiting.{file_limited}
use Rattle.kat_type_file.proofs.laws.types_are_within_limits.Goals as goal

pub returns : goal.returns
returns c = file_limited
