use Rattle.std.proofs.Common.{◌≡◌, drop}
use Rattle.std.specs.List.{flat_map}
use Rattle.kat_judging.specs.Faults.{earlier, first_of, start_faults}
use Rattle.kat_judging.proofs.fields.starts_fault.Given as goal

abbrev pub invariant-loop-state : goal.invariant-loop-state
invariant-loop-state l = earlier l.first (first_of (flat_map start_faults (drop l.state-index l.states))) ≡ first_of (flat_map start_faults l.states)
