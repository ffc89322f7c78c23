use Rattle.std.proofs.Common.{◌≡◌}
use Rattle.kat_resolution.specs.Queues.{IsQueue}
use Rattle.kat_cases.proofs.engine.Engine.prefer.Given as goal

abbrev pub invariant-loop-literal : goal.invariant-loop-literal
invariant-loop-literal l = IsQueue l.self-inside.greatest l.self-inside.queue × (l.self-inside.greatest ≡ l.initial.self-inside.greatest) × (l.self-inside.watches ≡ l.initial.self-inside.watches)
