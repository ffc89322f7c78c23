use Rattle.std.proofs.Common.{◌∙◌, ap, sym}
use Rattle.kat_type.specs.Signatures.{signature_of}
use Rattle.kat_type.specs.Types.{type_form}
use Rattle.kat_type.specs.declared.types.SeqType.{SeqType}
use Rattle.kat_trying.proofs.trying.proved.Goals as goal

pub is_refuted-requires-clause-agrees : goal.is_refuted-requires-clause-agrees
is_refuted-requires-clause-agrees c = sym c.requires.agrees ∙ ap (λ (t : SeqType). signature_of (type_form t)) (sym c.requires.of_type)
