use Rattle.std.proofs.Common.{◌<◌, arith}
use Rattle.kat_block.proofs.Places.{none_has}
use Rattle.kat_block.proofs.numbers.place_among.Goals as goal

pub returns : goal.returns
returns c = none_has c.args.numbers.now c.args.number (λ k less. let below : k < c.loop-place.place = omega (arith, less, c.loop-place-test.false) in c.loop-place.invariant k below)
