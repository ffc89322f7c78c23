use Rattle.std.proofs.Common.{◌∙◌, ap, sym}
use Rattle.kat_type.specs.Signatures.{signature_of}
use Rattle.kat_type.specs.Types.{type_form}
use Rattle.kat_type.specs.declared.types.SeqType.{SeqType}
use Rattle.kat_trying.proofs.trying.is_refuted.Goals as goal

pub first_difference-requires-clause-agrees : goal.first_difference-requires-clause-agrees
first_difference-requires-clause-agrees c = c.requires.agrees ∙ ap (λ (t : SeqType). signature_of (type_form t)) (sym c.is_cited.ensures.same)
