use Rattle.std.specs.String.{string_bytes}
use Rattle.kat_emit.specs.Words.{AppendsParts}
use Rattle.kat_emit.proofs.cases.push_further.Given as goal

abbrev pub invariant-further : goal.invariant-further
invariant-further l = AppendsParts (string_bytes l.fn.into) (string_bytes l.into)
