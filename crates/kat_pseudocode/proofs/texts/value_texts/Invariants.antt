use Rattle.std.proofs.Common.{◌≡◌, map, take}
use Rattle.kat_num.specs.Values.{value_text}
use Rattle.kat_pseudocode.proofs.texts.value_texts.Given as goal

abbrev pub invariant-loop-value : goal.invariant-loop-value
invariant-loop-value l = l.texts.items ≡ map value_text (take l.value-index l.values)
