use Rattle.std.proofs.Common.{◌∙◌, ◌++◌, ap, arith}
use Rattle.std.proofs.lemmas.List.{take_all}
use Rattle.kat_walks.proofs.WalkPaths.{told_of}
use Rattle.kat_walks.proofs.cores.falsifies.Goals as goal

pub returns-clause-falsified : goal.returns-clause-falsified
returns-clause-falsified c =
    told_of c.propagate.result c.loop-literal.known.clauses c.args.known.now.clauses c.loop-literal.known.assumed (c.args.known.now.assumed ++ c.args.literals.now)
    c.loop-literal.invariant.1
    (c.loop-literal.invariant.0 ∙ ap (λ xs. c.args.known.now.assumed ++ xs) (take_all c.loop-literal.literal-index c.args.literals.now (omega arith)))
    c.propagate.ensures.falsified
