use Rattle.std.proofs.Common.{refl}
use Rattle.std.proofs.lemmas.Bool.{false≢true}
use Rattle.kat_said.proofs.Parts.{cut_found, cut_missing}
use Rattle.kat_said.proofs.cutting.has.Goals as goal

pub returns-then-b-byte : goal.returns-then-b-byte
returns-then-b-byte c = (λ e. cut_found c.args.byte c.args.bytes.now c.loop-i.i c.loop-i-test.true c.loop-i.invariant c.if-b-byte.true, λ is. refl)

pub returns : goal.returns
returns c = (λ e. absurd (false≢true e), λ is. absurd (cut_missing c.args.byte c.args.bytes.now c.loop-i.i c.loop-i-test.false c.loop-i.invariant is))
