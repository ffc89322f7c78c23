use Rattle.std.proofs.Common.{◌≡◌, ◌+◌, ◌*◌, true, get_or}
use Rattle.std.proofs.lemmas.List.Folds.{list_all_more}
use Rattle.kat_num.specs.Bytes.{is_digit}
use Rattle.kat_num.proofs.Decimals.{digits_value-next, past_limit}
use Rattle.kat_num.proofs.reads.number.Goals as goal

pub returns-then-value-gt-NUMBER_LIMIT : goal.returns-then-value-gt-NUMBER_LIMIT
returns-then-value-gt-NUMBER_LIMIT c =
    let digit : is_digit (get_or c.args.digits.now c.loop-digit.digit-index 0) ≡ true = cc in
    let e = digits_value-next c.args.digits.now c.loop-digit.digit-index c.loop-digit.value c.loop-digit-test.true digit c.loop-digit.invariant.0 in
    past_limit c.args.digits.now (c.loop-digit.digit-index + 1) (c.loop-digit.value * 10 + c.from.result) (rw c.from.ensures e) c.if-value-gt-NUMBER_LIMIT.true

pub loop-digit-preserved : goal.loop-digit-preserved
loop-digit-preserved c =
    let digit : is_digit (get_or c.args.digits.now c.loop-digit.digit-index 0) ≡ true = cc in
    let e = digits_value-next c.args.digits.now c.loop-digit.digit-index c.loop-digit.value c.loop-digit-test.true digit c.loop-digit.invariant.0 in (
      rw c.from.ensures e,
      c.if-value-gt-NUMBER_LIMIT.false,
      rw (list_all_more is_digit c.args.digits.now c.loop-digit.digit-index 0 c.loop-digit-test.true, c.loop-digit.invariant.2, digit),
    )
