use Rattle.std.proofs.Common.{◌≡◌, ◌++◌, length}
use Rattle.kat_emit_words.specs.Kept.{kept}
use Rattle.kat_emit_words.specs.Naming.{AreNames, names_in}
use Rattle.kat_emit_words.specs.declared.kept.Named.TheVariants.{Local}
use Rattle.kat_emit_words.proofs.names.param_names.Given as goal

abbrev pub invariant-params : goal.invariant-params
invariant-params l = AreNames (names_in l.top ++ kept l.language Local) (names_in l.names.items) × (length l.names.items ≡ l.param-index)
