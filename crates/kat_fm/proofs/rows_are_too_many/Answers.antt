use Rattle.kat_fm.proofs.Crowds.{rows_are_too_many}
use Rattle.kat_fm.proofs.Signs.{sides_are_told}
use Rattle.kat_fm.proofs.rows_are_too_many.Goals as goal

pub returns-clause-many : goal.returns-clause-many
returns-clause-many c = rows_are_too_many

pub returns-clause-sides : goal.returns-clause-sides
returns-clause-sides c = sides_are_told
