use Rattle.std.proofs.Common.{◌≡◌, ◌+◌, true, false, arith}
use Rattle.kat_num.specs.Bytes.{is_word_byte}
use Rattle.kat_lex.specs.Classes.{byte_at}
use Rattle.kat_lex.proofs.CodeLemmas.{code_fits, code_next, word_ends, word_is_long, word_stops}
use Rattle.kat_lex.proofs.codes.code_at.Goals as goal
use Rattle.kat_lex.proofs.codes.code_at.Goals.{else-last-bytes-via-then-last-bytes+else-is_word_byte, else-last-bytes-via-else-last-bytes}

pub loop-to-preserved : goal.loop-to-preserved
loop-to-preserved c =
    let passes : is_word_byte (byte_at c.args.bytes.now c.loop-to.to) ≡ true = cc in
    rw c.from.ensures (
    code_next c.args.bytes.now c.args.from c.loop-to.to c.loop-to.code c.loop-to.auto.to (omega (arith, c.loop-to-test.true, c.min.ensures, c.requires))
    (omega (arith, c.type_inv.bytes c.loop-to.to)) passes c.loop-to.invariant)

pub returns-then-not-is_word_byte : goal.returns-then-not-is_word_byte
returns-then-not-is_word_byte c =
    let fails : is_word_byte (byte_at c.args.bytes.now c.loop-to.to) ≡ false = cc in
    word_stops c.args.bytes.now c.args.from c.loop-to.to c.min.result c.loop-to.code c.loop-to.auto.to c.loop-to-test.true (omega (arith, c.min.ensures))
    (omega (arith, c.min.ensures, c.requires)) fails c.loop-to.invariant

pub returns-then-is_word_byte : goal.returns-then-is_word_byte
returns-then-is_word_byte c =
    let passes : is_word_byte (byte_at c.args.bytes.now (c.args.from + c.min.result)) ≡ true = cc in
    word_is_long c.args.bytes.now c.args.from c.loop-to.to c.min.result c.loop-to.code (c.loop-to.auto.to-end (omega arith)) c.loop-to-test.false
    (omega (arith, c.min.ensures, c.if-last-bytes.true)) c.if-last-bytes.true passes c.loop-to.invariant

pub returns-else-last-bytes : goal.returns-else-last-bytes
returns-else-last-bytes c =
    elim c.else-last-bytes.branch [
      | else-last-bytes-via-then-last-bytes+else-is_word_byte w ↦
          let fails : is_word_byte (byte_at c.args.bytes.now (c.args.from + c.min.result)) ≡ false = cc in
          word_ends c.args.bytes.now c.args.from c.loop-to.to c.min.result c.loop-to.code (c.loop-to.auto.to-end (omega arith)) c.loop-to-test.false
          (omega (arith, c.min.ensures)) (omega (arith, c.min.ensures, c.requires)) (λ h. fails) c.loop-to.invariant
      | else-last-bytes-via-else-last-bytes w ↦
          word_ends c.args.bytes.now c.args.from c.loop-to.to c.min.result c.loop-to.code (c.loop-to.auto.to-end (omega arith)) c.loop-to-test.false
          (omega (arith, c.min.ensures)) (omega (arith, c.min.ensures, c.requires)) (λ h. absurd (omega (arith, w.if-last-bytes.false, h))) c.loop-to.invariant
    ]

pub overflow_mul-code : goal.overflow_mul-code
overflow_mul-code c = omega (arith, code_fits c.args.bytes.now c.args.from c.loop-to.to c.loop-to.code (omega (arith, c.loop-to-test.true, c.min.ensures)) c.loop-to.invariant)

pub overflow_add-code : goal.overflow_add-code
overflow_add-code c =
    omega (
      arith,
      code_fits c.args.bytes.now c.args.from c.loop-to.to c.loop-to.code (omega (arith, c.loop-to-test.true, c.min.ensures)) c.loop-to.invariant,
      c.from.ensures,
      c.type_inv.bytes c.loop-to.to,
    )
