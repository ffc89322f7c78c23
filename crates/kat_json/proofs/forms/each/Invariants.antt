use Rattle.std.proofs.Common.{drop, map}
use Rattle.serde_json.specs.View.{view}
use Rattle.kat_json.proofs.Refusing.{ReadSoFar}
use Rattle.kat_json.proofs.forms.each.Given as goal

abbrev pub invariant-loop-i : goal.invariant-loop-i
invariant-loop-i g l = ReadSoFar g.F.Form.faults g.F.Form.said (map view l.values) l.i (map view (drop l.i l.values)) l.items.items
