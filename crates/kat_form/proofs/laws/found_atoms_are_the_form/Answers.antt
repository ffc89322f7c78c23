use Rattle.kat_form.proofs.Places.{found}
use Rattle.kat_form.proofs.laws.found_atoms_are_the_form.Goals as goal

pub returns : goal.returns
returns c = found
