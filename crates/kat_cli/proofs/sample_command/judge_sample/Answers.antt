use Rattle.std.proofs.Common.{subst}
use Rattle.kat_sample.specs.Carts.{cart}
use Rattle.kat_search.specs.Verdicts.{IsVerdict}
use Rattle.kat_search.specs.declared.outcome.Outcome.{Outcome}
use Rattle.kat_cli.specs.SampleCommand.{bounds}
use Rattle.kat_cli.proofs.Synthesized.{sample_done, sample_none}
use Rattle.kat_cli.proofs.sample_command.judge_sample.Goals as goal

pub returns-in-Ok-Emitted-clause-judged : goal.returns-in-Ok-Emitted-clause-judged
returns-in-Ok-Emitted-clause-judged g c =
    sample_done c.args.options c.in-Ok-Emitted.file.items c.sum_up.result _
    (_, subst (λ (outcome : Outcome). IsVerdict cart bounds outcome) c.in-Ok-Emitted.field-0-is c.in-Ok-Emitted.ensures) c.sum_up.ensures.prints

pub returns-in-Ok-NoDesign-clause-judged : goal.returns-in-Ok-NoDesign-clause-judged
returns-in-Ok-NoDesign-clause-judged g c =
    absurd (sample_none c.carts_have_designs.ensures _ (subst (λ (outcome : Outcome). IsVerdict cart bounds outcome) c.in-Ok-NoDesign.field-0-is c.in-Ok-NoDesign.ensures))
