use Rattle.kat_hist.proofs.Naming.{files_have_words}
use Rattle.kat_hist.proofs.laws.files_have_words.Goals as goal

pub returns : goal.returns
returns c = files_have_words
