use Rattle.kat_lex.proofs.CodeLemmas.{ReadsCode}
use Rattle.kat_lex.proofs.codes.code_at.Given as goal

abbrev pub invariant-loop-to : goal.invariant-loop-to
invariant-loop-to l = ReadsCode l.bytes l.from l.to l.code
