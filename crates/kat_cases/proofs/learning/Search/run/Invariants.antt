use Rattle.kat_cases.specs.Settings.{setting_of}
use Rattle.kat_cases.specs.Stacks.{Recalls}
use Rattle.kat_cases.proofs.learning.Search.run.Given as goal

abbrev pub invariant-loop-turn : goal.invariant-loop-turn
invariant-loop-turn l = Recalls (setting_of l.encoded) l.last
