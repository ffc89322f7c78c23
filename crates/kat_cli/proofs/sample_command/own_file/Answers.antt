use Rattle.std.proofs.Common.{subst}
use Rattle.kat_json.specs.declared.errors.WireError.{WireError}
use Rattle.kat_json.specs.declared.errors.WireError.TheVariants.{BadDesign, Form}
use Rattle.kat_wire.specs.Files.{IsFileRefusal}
use Rattle.kat_cli.proofs.Sampling.{own_file_is_read}
use Rattle.kat_cli.proofs.sample_command.own_file.Goals as goal

pub unreachable-requires-in-Err-Form : goal.unreachable-requires-in-Err-Form
unreachable-requires-in-Err-Form c =
    own_file_is_read c.args.file.now (Form c.in-Err-Form.field-0-0) c.requires.design
    (subst (λ (error : WireError). IsFileRefusal c.args.file.now error) c.in-Err-Form.field-0-is c.in-Err-Form.ensures.refused) (λ e. absurd (cc))

pub unreachable-requires-in-Err-BadDesign : goal.unreachable-requires-in-Err-BadDesign
unreachable-requires-in-Err-BadDesign c =
    own_file_is_read c.args.file.now (BadDesign c.in-Err-BadDesign.field-0-0) c.requires.design
    (subst (λ (error : WireError). IsFileRefusal c.args.file.now error) c.in-Err-BadDesign.field-0-is c.in-Err-BadDesign.ensures.refused) (λ e. absurd (cc))
