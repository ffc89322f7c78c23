use Rattle.std.proofs.Common.{◌≡◌, ◌++◌, take}
use Rattle.kat_picture.specs.Plain.{events_text}
use Rattle.kat_picture.proofs.plain.push_events.Given as goal

abbrev pub invariant-loop-event : goal.invariant-loop-event
invariant-loop-event l = l.into.items ≡ l.fn.into.items ++ events_text l.replicas (take l.event-index l.events)
