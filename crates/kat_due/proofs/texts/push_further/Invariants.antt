use Rattle.std.proofs.Common.{◌≡◌, ◌++◌, take}
use Rattle.std.specs.List.{flat_map}
use Rattle.kat_due.specs.Texts.{further_text}
use Rattle.kat_due.proofs.texts.push_further.Given as goal

abbrev pub invariant-loop-one : goal.invariant-loop-one
invariant-loop-one l = l.into.items ≡ l.fn.into.items ++ flat_map (further_text l.sig) (take l.one-index l.ones)
