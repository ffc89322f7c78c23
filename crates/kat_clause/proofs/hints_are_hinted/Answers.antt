use Rattle.kat_clause.proofs.HintLemmas.{hinted_follows}
use Rattle.kat_clause.proofs.HintChoices.{hints_hinted, hints_none}
use Rattle.kat_clause.proofs.hints_are_hinted.Goals as goal

pub returns : goal.returns
returns c = record { follows = hinted_follows; hinted = hints_hinted; none = hints_none }
