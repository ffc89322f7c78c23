use Rattle.std.proofs.Common.{All, take}
use Rattle.kat_form.specs.Encodings.{IsFitSense, senses_of}
use Rattle.kat_form.proofs.are_fit.Given as goal

abbrev pub invariant-loop-meaning : goal.invariant-loop-meaning
invariant-loop-meaning l = All IsFitSense (take l.meaning-index (senses_of l.meanings))
