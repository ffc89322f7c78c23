use Rattle.std.proofs.Common.{◌≡◌, ◌++◌, take}
use Rattle.kat_pseudocode.specs.Texts.{further}
use Rattle.kat_pseudocode.proofs.texts.push_further.Given as goal

abbrev pub invariant-loop-text : goal.invariant-loop-text
invariant-loop-text l = l.into.items ≡ l.fn.into.items ++ further (take l.text-index l.texts)
