use Rattle.std.proofs.Common.{All, take}
use Rattle.kat_form.specs.Encodings.{IsBelow, senses_of}
use Rattle.kat_cases.proofs.readiness.are_below.Given as goal

abbrev pub invariant-loop-meaning : goal.invariant-loop-meaning
invariant-loop-meaning l = All (IsBelow l.numbers) (take l.meaning-index (senses_of l.meanings))
