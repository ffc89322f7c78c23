use Rattle.std.proofs.Common.{ap, inl, inr, Err}
use Rattle.std.proofs.lemmas.Result.{err_from_is_err_and}
use Rattle.kat_lex.proofs.Reading.{reads_end, reads_fault, reads_gap, reads_token}
use Rattle.kat_lex.proofs.Unique.{not_both, told_and_fault, told_and_tokens, tokens_once}
use Rattle.kat_lex.proofs.lexer.tokens.Goals as goal

pub returns-in_err-to-clause-fault : goal.returns-in_err-to-clause-fault
returns-in_err-to-clause-fault c =
    let p = err_from_is_err_and c.from_residual.result c.from_residual.ensures.1 in
    rw (p.1, p.2) (reads_fault c.args.bytes.now c.loop-at.at c.loop-at.found.items c.in_err-to.field-0.0 c.loop-at-test.true c.in_err-to.ensures c.loop-at.invariant)

pub loop-at-preserved-in-Gap : goal.loop-at-preserved-in-Gap
loop-at-preserved-in-Gap c =
    reads_gap c.args.bytes.now c.loop-at.at c.in-Gap.to c.loop-at.found.items c.loop-at-test.true (rw c.in-Gap.is at c.in_ok-to.ensures) c.loop-at.invariant

pub loop-at-preserved : goal.loop-at-preserved
loop-at-preserved c =
    rw c.in_ok-push-in-Token.ensures.items (
    reads_token c.args.bytes.now c.loop-at.at c.in-Token.token c.loop-at.found.items c.loop-at-test.true (rw c.in-Token.is at c.in_ok-to.ensures) c.loop-at.invariant)

pub returns-clause-tokens : goal.returns-clause-tokens
returns-clause-tokens c = reads_end c.args.bytes.now c.loop-at.at c.loop-at.found.items c.loop-at-test.false c.loop-at.invariant

pub returns-clause-every_token : goal.returns-clause-every_token
returns-clause-every_token c = λ found is.
    tokens_once c.args.bytes.now c.loop-at.found.items found
    (reads_end c.args.bytes.now c.loop-at.at c.loop-at.found.items c.loop-at-test.false c.loop-at.invariant) is

pub returns-clause-first_fault : goal.returns-clause-first_fault
returns-clause-first_fault c = λ fault is.
    absurd (not_both c.args.bytes.now c.loop-at.found.items fault
    (reads_end c.args.bytes.now c.loop-at.at c.loop-at.found.items c.loop-at-test.false c.loop-at.invariant) is)

pub returns-in_err-to-clause-every_token : goal.returns-in_err-to-clause-every_token
returns-in_err-to-clause-every_token c = λ found is.
    let p = err_from_is_err_and c.from_residual.result c.from_residual.ensures.1 in
    let told = reads_fault c.args.bytes.now c.loop-at.at c.loop-at.found.items c.in_err-to.field-0.0 c.loop-at-test.true c.in_err-to.ensures c.loop-at.invariant in
    rw (p.1, p.2) (told_and_tokens c.args.bytes.now c.in_err-to.field-0.0 told found is)

pub returns-in_err-to-clause-first_fault : goal.returns-in_err-to-clause-first_fault
returns-in_err-to-clause-first_fault c = λ fault is.
    let p = err_from_is_err_and c.from_residual.result c.from_residual.ensures.1 in
    let told = reads_fault c.args.bytes.now c.loop-at.at c.loop-at.found.items c.in_err-to.field-0.0 c.loop-at-test.true c.in_err-to.ensures c.loop-at.invariant in
    rw (p.1, p.2) (elim (told_and_fault c.args.bytes.now c.in_err-to.field-0.0 told fault is) [
      | inl same ↦ inl (ap Err same)
      | inr memory ↦ inr (ap Err memory)
    ])
