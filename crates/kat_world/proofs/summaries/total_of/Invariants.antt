use Rattle.std.proofs.Common.{◌≡◌, take}
use Rattle.kat_num.specs.declared.values.Value.TheVariants.{Num}
use Rattle.kat_world.specs.Summaries.{total_of}
use Rattle.kat_world.proofs.summaries.total_of.Given as goal

abbrev pub invariant-answers : goal.invariant-answers
invariant-answers l = l.total ≡ Num (total_of (take l.answer-index l.answers))
