use Rattle.std.proofs.Common.{◌<◌, length, refl, arith}
use Rattle.kat_said.proofs.FirstLines.{cut_at, cut_none}
use Rattle.kat_said.proofs.judging.line_end.Goals as goal

pub returns-then-byte-eq10-clause-first : goal.returns-then-byte-eq10-clause-first
returns-then-byte-eq10-clause-first c = cut_at c.args.bytes.now c.loop-i.i c.loop-i-test.true c.loop-i.invariant c.if-byte-eq10.true

pub returns-clause-first : goal.returns-clause-first
returns-clause-first c =
    cut_none c.args.bytes.now (length c.args.bytes.now) refl c.requires (λ k less. let below : k < c.loop-i.i = omega (arith, less, c.loop-i-test.false) in c.loop-i.invariant k below)
