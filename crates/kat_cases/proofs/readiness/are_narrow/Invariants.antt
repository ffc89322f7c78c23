use Rattle.std.proofs.Common.{All, take}
use Rattle.kat_form.specs.Encodings.{senses_of}
use Rattle.kat_cases.specs.Settings.{HasNarrowNegation}
use Rattle.kat_cases.proofs.readiness.are_narrow.Given as goal

abbrev pub invariant-loop-meaning : goal.invariant-loop-meaning
invariant-loop-meaning l = All HasNarrowNegation (take l.meaning-index (senses_of l.meanings))
