use Rattle.std.proofs.Common.{◌≡◌, ◌++◌, length, map}
use Rattle.std.specs.List.{flat_map}
use Rattle.kat_explain.specs.Relating.{rank_line}
use Rattle.kat_type.specs.Types.{operation_form}
use Rattle.kat_explain.proofs.pages.push_rank_lines.Given as goal

abbrev pub invariant-ops : goal.invariant-ops
invariant-ops l =
    l.into.items ++ flat_map rank_line (map operation_form l.rest) ≡ l.fn.into.items ++ flat_map rank_line (map operation_form l.fn.ops)

abbrev pub decreases-ops : goal.decreases-ops
decreases-ops l = length l.rest
