use Rattle.kat_fm.proofs.NarrowPairs.{wide_numbers_are_narrow}
use Rattle.kat_fm.proofs.WideNumbers.{wide_numbers_pass}
use Rattle.kat_fm.proofs.wide_numbers_pass.Goals as goal

pub returns-clause-passes : goal.returns-clause-passes
returns-clause-passes c = wide_numbers_pass

pub returns-clause-narrow : goal.returns-clause-narrow
returns-clause-narrow c = wide_numbers_are_narrow
