use Rattle.kat_invariant.proofs.Keys.{type_files_have_keys}
use Rattle.kat_invariant.proofs.laws.type_files_have_keys.Goals as goal

pub returns : goal.returns
returns c = type_files_have_keys
