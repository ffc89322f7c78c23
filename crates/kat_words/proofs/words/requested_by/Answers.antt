use Rattle.clap.specs.Matches.{found_of}
use Rattle.kat_words.proofs.Founds.{none_without_paths}
use Rattle.kat_words.proofs.words.requested_by.Goals as goal

pub returns-in_default-clause-is : goal.returns-in_default-clause-is
returns-in_default-clause-is c = none_without_paths (found_of c.args.matches.now) c.args.name.now c.in_default.ensures
