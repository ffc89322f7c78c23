use Rattle.std.proofs.Common.{drop, map}
use Rattle.serde_json.specs.View.{view}
use Rattle.kat_design_json.proofs.NamedItems.{NamedSoFar}
use Rattle.kat_design_json.proofs.signatures.items.Given as goal

abbrev pub invariant-loop-i : goal.invariant-loop-i
invariant-loop-i g l = NamedSoFar g.N.Named.faults g.N.Named.said l.initial.used.items (map view l.values) l.i (map view (drop l.i l.values)) l.used.items l.items.items
