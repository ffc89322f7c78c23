use Rattle.kat_opening.proofs.Opening.{candidates_have_no_proof, open_designs_have_no_file, open_designs_have_no_proof}
use Rattle.kat_opening.proofs.laws.open_designs_have_no_proof.Goals as goal

pub returns-clause-listed : goal.returns-clause-listed
returns-clause-listed c = open_designs_have_no_proof

pub returns-clause-candidates : goal.returns-clause-candidates
returns-clause-candidates c = candidates_have_no_proof

pub returns-clause-files : goal.returns-clause-files
returns-clause-files c = open_designs_have_no_file
