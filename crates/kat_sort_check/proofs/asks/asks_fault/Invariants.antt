use Rattle.std.proofs.Common.{drop, map}
use Rattle.kat_design.specs.Designs.{ask_form, component_form}
use Rattle.kat_design.specs.Faults.{query_faults}
use Rattle.kat_sort_check.proofs.Firsts.{MatchedLeft}
use Rattle.kat_sort_check.proofs.asks.asks_fault.Given as goal

abbrev pub invariant-loop-i : goal.invariant-loop-i
invariant-loop-i l = MatchedLeft (query_faults (map component_form l.components)) (map ask_form l.asks) l.queries l.i (map ask_form (drop l.i l.asks)) (drop l.i l.queries)
