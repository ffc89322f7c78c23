use Rattle.std.proofs.Common.{◌≡◌, ◌++◌, map}
use Rattle.kat_histories.specs.Pools.{call_with}
use Rattle.kat_histories.proofs.calls.push_calls.Given as goal

abbrev pub invariant-loop-args : goal.invariant-loop-args
invariant-loop-args l = l.calls.items ≡ l.fn.calls.items ++ map (call_with l.number) l.yielded
