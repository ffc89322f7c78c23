use Rattle.std.proofs.Common.{arith}
use Rattle.kat_design.proofs.Converse.{no_faults}
use Rattle.kat_rules.specs.Listed.{setting_of}
use Rattle.kat_rules.proofs.Passing.{sorted_small}
use Rattle.kat_gram.proofs.laws.listed_designs_are_accepted.Goals as goal

pub returns : goal.returns
returns c = λ ty n kinds d l h. no_faults d (sorted_small (setting_of ty kinds) d h.rules (let s = h.small in omega (arith, s, l)))
