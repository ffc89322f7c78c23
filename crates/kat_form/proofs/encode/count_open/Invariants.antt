use Rattle.std.proofs.Common.{◌≡◌, ◌+◌, length, drop, map}
use Rattle.kat_form.specs.Readings.{kept}
use Rattle.kat_form.specs.Folds.{reading_of}
use Rattle.kat_form.proofs.encode.count_open.Given as goal

abbrev pub invariant-loop-part : goal.invariant-loop-part
invariant-loop-part l = l.count + length (kept (map reading_of (drop l.part-index l.parts))) ≡ length (kept (map reading_of l.parts))
