use Rattle.std.proofs.Common.{refl}
use Rattle.kat_lex.specs.Pieces.{IsDigits}
use Rattle.kat_lex.proofs.DigitLemmas.{capped_is, capped_past}
use Rattle.kat_lex.proofs.pieces.number_at.Goals as goal

pub returns-then-value-gt-NUMBER_LIMIT : goal.returns-then-value-gt-NUMBER_LIMIT
returns-then-value-gt-NUMBER_LIMIT c =
    let digits : IsDigits c.args.bytes.now c.args.at c.digits_at-to.result.0 = record { first = c.requires.class; run = c.digits_at-to.ensures.run } in
    (refl, (c.digits_at-to.result.0, digits, capped_past _ _ c.digits_at-to.ensures.value c.if-value-gt-NUMBER_LIMIT.true))

pub returns-else-value-gt-NUMBER_LIMIT : goal.returns-else-value-gt-NUMBER_LIMIT
returns-else-value-gt-NUMBER_LIMIT c =
    let digits : IsDigits c.args.bytes.now c.args.at c.digits_at-to.result.0 = record { first = c.requires.class; run = c.digits_at-to.ensures.run } in
    rw c.token.ensures (
      record {
        from = refl;
        kind = (digits, capped_is c.args.bytes.now c.args.at c.digits_at-to.result.0 c.digits_at-to.result.1 c.requires.in_text digits c.digits_at-to.ensures.value c.if-value-gt-NUMBER_LIMIT.false);
      },
      refl,
    )
