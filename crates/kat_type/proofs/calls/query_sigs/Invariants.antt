use Rattle.std.proofs.Common.{◌≡◌, map, take}
use Rattle.kat_type.specs.Signatures.{query_sig}
use Rattle.kat_type.specs.Types.{query_form}
use Rattle.kat_type.proofs.calls.query_sigs.Given as goal

abbrev pub invariant-loop-query : goal.invariant-loop-query
invariant-loop-query l = l.sigs.items ≡ map query_sig (map query_form (take l.query-index l.queries))
