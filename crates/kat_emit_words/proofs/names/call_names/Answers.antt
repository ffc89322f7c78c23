use Rattle.std.proofs.Common.{length}
use Rattle.kat_emit_words.specs.Naming.{names_in}
use Rattle.kat_emit_words.proofs.ScopeLemmas.{calls_further, calls_more}
use Rattle.kat_emit_words.proofs.names.call_names.Goals as goal

pub ops-preserved : goal.ops-preserved
ops-preserved c =
    calls_more c.args.language c.ops.op-index (names_in c.ops.names.items) (names_in c.push_new_code.new.names.items) c.ops.invariant c.in_ok-push_new_code.ensures

pub queries-preserved : goal.queries-preserved
queries-preserved c =
    calls_further c.args.language (length c.args.ops.now) c.queries.query-index (names_in c.queries.names.items)
    (names_in c.push_new_code-in-queries.new.names.items) c.queries.invariant c.in_ok-push_new_code-2.ensures
