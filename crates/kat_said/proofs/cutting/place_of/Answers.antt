use Rattle.kat_said.proofs.Parts.{after_found, after_nothing, front_at, front_whole}
use Rattle.kat_said.proofs.cutting.place_of.Goals as goal

pub returns-then-b-byte-clause-front : goal.returns-then-b-byte-clause-front
returns-then-b-byte-clause-front c = front_at c.args.byte c.args.bytes.now c.loop-i.i c.loop-i-test.true c.loop-i.invariant c.if-b-byte.true

pub returns-then-b-byte-clause-after : goal.returns-then-b-byte-clause-after
returns-then-b-byte-clause-after c = after_found c.args.byte c.args.bytes.now c.loop-i.i c.loop-i-test.true c.loop-i.invariant c.if-b-byte.true

pub returns-clause-front : goal.returns-clause-front
returns-clause-front c = front_whole c.args.byte c.args.bytes.now c.loop-i.i c.loop-i-test.false c.loop-i.invariant

pub returns-clause-after : goal.returns-clause-after
returns-clause-after c = after_nothing c.args.byte c.args.bytes.now c.loop-i.i c.loop-i-test.false c.loop-i.invariant
