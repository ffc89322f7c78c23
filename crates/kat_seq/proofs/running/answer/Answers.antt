use Rattle.std.proofs.Common.{sym, length}
use Rattle.std.proofs.lemmas.Bool.{ltb-true}
use Rattle.kat_expr.specs.Terms.{term_of}
use Rattle.kat_type.specs.Within.{IsLimited}
use Rattle.kat_seq.proofs.Small.{small_constants, small_query}
use Rattle.kat_seq.proofs.running.answer.Goals as goal

right : (c : goal.In-Some) → IsLimited (term_of c.in-Some.query.now.right)
right c =
    let found = c.in-Some.ensures.lookup in
    small_query c.args.ty.now c.args.query c.in-Some.query.now c.requires.limits
    (rw c.as_slice.ensures at (ltb-true c.args.query (length c.as_slice.result.now) (sym found.0))) (rw c.as_slice.ensures at found.1)

pub eval-requires-clause-few : goal.eval-requires-clause-few
eval-requires-clause-few c = (right c).nodes

pub eval-requires-clause-constants : goal.eval-requires-clause-constants
eval-requires-clause-constants c = small_constants (term_of c.in-Some.query.now.right) (right c)
