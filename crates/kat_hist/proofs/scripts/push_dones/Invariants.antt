use Rattle.std.proofs.Common.{◌≡◌, ◌++◌, take}
use Rattle.std.specs.List.{flat_map}
use Rattle.kat_hist.specs.Scripts.{do_text}
use Rattle.kat_hist.proofs.scripts.push_dones.Given as goal

abbrev pub invariant-loop-one : goal.invariant-loop-one
invariant-loop-one l = l.into.items ≡ l.fn.into.items ++ flat_map (do_text l.sig) (take l.one-index l.ones)
