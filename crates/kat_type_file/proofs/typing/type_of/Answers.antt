use Rattle.std.proofs.Common.{sym, ◌∙◌}
use Rattle.kat_type_file.proofs.Refusals.{passes_none, small_operations, small_queries}
use Rattle.kat_type_file.proofs.typing.type_of.Goals as goal

pub resolved-requires-clause-fields : goal.resolved-requires-clause-fields
resolved-requires-clause-fields c = (passes_none c.args.text.now (sym c.in_ok-fault.ensures ∙ c.in-None.is)).fields

pub resolved-requires-clause-operations : goal.resolved-requires-clause-operations
resolved-requires-clause-operations c = small_operations c.args.text.now c.requires.operations (sym c.in_ok-fault.ensures ∙ c.in-None.is)

pub resolved-requires-clause-queries : goal.resolved-requires-clause-queries
resolved-requires-clause-queries c = small_queries c.args.text.now (sym c.in_ok-fault.ensures ∙ c.in-None.is)
