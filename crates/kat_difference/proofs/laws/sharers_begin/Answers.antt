use Rattle.kat_difference.proofs.Standing.{sharers_begin}
use Rattle.kat_difference.proofs.laws.sharers_begin.Goals as goal

pub returns : goal.returns
returns c = sharers_begin
