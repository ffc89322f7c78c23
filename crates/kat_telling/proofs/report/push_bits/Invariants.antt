use Rattle.std.proofs.Common.{◌≡◌, ◌++◌, take}
use Rattle.std.specs.List.{flat_map}
use Rattle.kat_telling.specs.Reports.{bit_text}
use Rattle.kat_telling.proofs.report.push_bits.Given as goal

abbrev pub invariant-loop-truth : goal.invariant-loop-truth
invariant-loop-truth l = l.into.items ≡ l.fn.into.items ++ flat_map bit_text (take l.truth-index l.truths)
