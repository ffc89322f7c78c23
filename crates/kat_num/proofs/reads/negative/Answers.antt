use Rattle.std.proofs.Common.{refl}
use Rattle.kat_num.specs.Values.IsWhole.{minus}
use Rattle.kat_num.proofs.Arguments.{minus_none, minus_some}
use Rattle.kat_num.proofs.reads.negative.Goals as goal

pub returns-in-Some : goal.returns-in-Some
returns-in-Some c =
    rw c.minus.ensures (
      minus c.in-Some.n c.args.digits.now refl c.in-Some.ensures.0 refl,
      minus_some c.args.digits.now c.in-Some.n c.in-Some.ensures.0 c.in-Some.ensures.1,
    )

pub returns-in-None : goal.returns-in-None
returns-in-None c = minus_none c.args.digits.now c.in-None.ensures
