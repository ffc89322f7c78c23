use Rattle.std.proofs.Common.{◌≡◌, ◌++◌, take}
use Rattle.std.specs.List.{flat_map}
use Rattle.kat_hist.specs.Scripts.{ask_text}
use Rattle.kat_hist.proofs.scripts.push_asks.Given as goal

abbrev pub invariant-loop-ask : goal.invariant-loop-ask
invariant-loop-ask l = l.into.items ≡ l.fn.into.items ++ flat_map (ask_text l.sig) (take l.ask-index l.asks)
