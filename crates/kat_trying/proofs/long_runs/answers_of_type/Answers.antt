use Rattle.kat_script.proofs.Bridge.{scripts_are_judged}
use Rattle.kat_type.specs.Signatures.{signature_of}
use Rattle.kat_type.specs.Types.{type_form}
use Rattle.kat_trying.proofs.long_runs.answers_of_type.Goals as goal

pub model-written-requires-clause-judged : goal.model-written-requires-clause-judged
model-written-requires-clause-judged c =
    let fits = rw c.in_ok-sig.ensures at c.in-Ok.ensures.script in
    scripts_are_judged (signature_of (type_form c.args.ty.now)) c.args.text.now c.in-Ok.script fits
