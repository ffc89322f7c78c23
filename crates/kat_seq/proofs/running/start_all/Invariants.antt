use Rattle.std.proofs.Common.{◌≡◌, take}
use Rattle.std.specs.Prelude.{map}
use Rattle.kat_seq.specs.States.{start_slot}
use Rattle.kat_seq.proofs.running.start_all.Given as goal

abbrev pub invariant-loop-field : goal.invariant-loop-field
invariant-loop-field l = l.state.items ≡ map start_slot (take l.field-index l.fields)
