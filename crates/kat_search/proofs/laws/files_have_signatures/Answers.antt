use Rattle.kat_search.proofs.Signed.{file_signature}
use Rattle.kat_search.proofs.laws.files_have_signatures.Goals as goal

pub returns : goal.returns
returns c = λ text ty file. file_signature text ty (c.files_have_words.ensures text ty file) file
