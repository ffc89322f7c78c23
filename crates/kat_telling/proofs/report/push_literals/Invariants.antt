use Rattle.std.proofs.Common.{◌≡◌, ◌++◌, All, take}
use Rattle.kat_telling.specs.Evidence.{IsNarrow}
use Rattle.kat_telling.specs.Reports.{wholes_text}
use Rattle.kat_telling.proofs.report.push_literals.Given as goal

abbrev pub invariant-loop-lit : goal.invariant-loop-lit
invariant-loop-lit l = record {
  text : l.into.items ≡ l.fn.into.items ++ wholes_text (take l.lit-index l.lits);
  narrow : All IsNarrow (take l.lit-index l.lits);
}
