use Rattle.std.proofs.Common.{◌≡◌, true, subst}
use Rattle.std.specs.Prelude.{slice_range}
use Rattle.std.specs.Str.Parse.{digits_value}
use Rattle.kat_num.specs.Bytes.{is_digit}
use Rattle.kat_lex.specs.Classes.{byte_at}
use Rattle.kat_lex.specs.Found.{IsCapped}
use Rattle.kat_lex.proofs.DigitLemmas.{digits_more, each_next}
use Rattle.kat_lex.proofs.numbers.digits_at.Goals as goal

pub loop-to-preserved : goal.loop-to-preserved
loop-to-preserved c =
    let digit : is_digit (byte_at c.args.bytes.now c.loop-to.to) ≡ true = cc in (
      each_next is_digit c.args.bytes.now c.args.from c.loop-to.to c.loop-to.invariant.0 digit,
      subst (λ exact. IsCapped exact c.with_digit-value.result) (digits_more c.args.bytes.now c.args.from c.loop-to.to c.loop-to.auto.to c.loop-to-test.true digit)
          (c.with_digit-value.ensures (digits_value 10 (slice_range c.args.bytes.now c.args.from c.loop-to.to)) c.loop-to.invariant.1),
    )
