use Rattle.std.proofs.Common.{drop, map}
use Rattle.serde_json.specs.View.{view}
use Rattle.kat_json.proofs.Refusing.{ReadSoFar}
use Rattle.kat_json.proofs.seen.seen_each.Given as goal

abbrev pub invariant-loop-i : goal.invariant-loop-i
invariant-loop-i g l =
    ReadSoFar (g.S.SeenForm.faults l.form) (g.S.SeenForm.said l.form) (map view l.values) l.i (map view (drop l.i l.values)) (map g.S.SeenForm.seen l.items.items)
