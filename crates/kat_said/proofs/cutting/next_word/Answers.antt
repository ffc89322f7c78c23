use Rattle.kat_said.proofs.Parts.{word_found, word_missing}
use Rattle.kat_said.proofs.cutting.next_word.Goals as goal

pub returns-then-b-eq32 : goal.returns-then-b-eq32
returns-then-b-eq32 c = word_found c.args.bytes.now c.loop-i.i c.behind.result.now c.loop-i-test.true c.loop-i.invariant c.if-b-eq32.true c.behind.ensures

pub returns : goal.returns
returns c = word_missing c.args.bytes.now c.loop-i.i c.loop-i-test.false c.loop-i.invariant
