use Rattle.kat_type.proofs.Signing.{small_signature}
use Rattle.kat_type.proofs.laws.signatures_are_small.Goals as goal

pub returns : goal.returns
returns c = small_signature
