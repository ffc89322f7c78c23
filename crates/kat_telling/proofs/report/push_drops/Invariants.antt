use Rattle.std.proofs.Common.{◌≡◌, ◌++◌, All, take}
use Rattle.std.specs.List.{flat_map}
use Rattle.kat_drop.specs.Certificates.{drop_form, drops_of}
use Rattle.kat_drop.specs.declared.drops.Drop1.{Drop1}
use Rattle.kat_telling.specs.Narrow.{IsNarrowDrop}
use Rattle.kat_telling.specs.Reports.{drop_line}
use Rattle.kat_telling.proofs.report.push_drops.Given as goal

abbrev pub invariant-loop-drop : goal.invariant-loop-drop
invariant-loop-drop l = record {
  text : l.into.items ≡ l.fn.into.items ++ flat_map drop_line (drops_of (take l.drop-index l.drops));
  narrow : All (λ (drop : Drop1). IsNarrowDrop (drop_form drop)) (take l.drop-index l.drops);
}
