use Rattle.std.proofs.Common.{sym, subst}
use Rattle.kat_type.specs.Signatures.{signature_of}
use Rattle.kat_type.specs.Types.{TypeForm}
use Rattle.kat_design_json.specs.Signatures.{IsSignature}
use Rattle.kat_cli.proofs.Sampling.{cart_signature}
use Rattle.kat_cli.proofs.sample_command.search.Goals as goal

pub synth-requires-clause-signature : goal.synth-requires-clause-signature
synth-requires-clause-signature c = subst (λ (ty : TypeForm). IsSignature (signature_of ty)) (sym c.in_ok-ty.ensures) cart_signature
