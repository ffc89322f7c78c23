use Rattle.std.proofs.Common.{ℤ, neg_ℤ, ◌≢◌, subst, arith}
use Rattle.kat_clause.specs.Literals.{code_of}
use Rattle.kat_clause.specs.Tables.{IsMarked}
use Rattle.kat_clause.proofs.Codes.{at-Contains}
use Rattle.kat_watch.proofs.walking.free_literal.Goals as goal

pub returns : goal.returns
returns c = λ k has.
    let P : ℤ → Type 0 = λ j. code_of j ≢ c.args.other → IsMarked c.args.marks.now (code_of (neg_ℤ j)) in
    subst P (at-Contains c.args.clause.now k has) (c.loop-literal.invariant has.0 (omega (arith, has.1, c.loop-literal-test.false)))
