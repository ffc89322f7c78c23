use Rattle.kat_form.proofs.FitFacts.{encodings_are_whole, numbers_suffice, sized_facts_are_fit}
use Rattle.kat_form.proofs.laws.encodings_are_fit.Goals as goal

pub returns : goal.returns
returns c = record { whole = encodings_are_whole; numbers = numbers_suffice; fit = sized_facts_are_fit }
