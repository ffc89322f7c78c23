use Rattle.std.proofs.Common.{◌≡◌, drop, map}
use Rattle.kat_form.specs.Readings.{kept, state_each}
use Rattle.kat_form.specs.Folds.{reading_of}
use Rattle.kat_form.proofs.encode.+state.Given as goal

abbrev pub invariant-state_each-loop-part : goal.invariant-state_each-loop-part
invariant-state_each-loop-part l = state_each (kept (map reading_of (drop l.part-index l.parts))) l.draft ≡ state_each (kept (map reading_of l.parts)) l.fn.draft
