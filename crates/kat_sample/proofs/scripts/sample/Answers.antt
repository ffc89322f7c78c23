use Rattle.std.proofs.Common.{◌≡◌, ◌≤◌, List, length, sym, ◌∙◌, ap, subst}
use Rattle.kat_sample.specs.Carts.{cart}
use Rattle.kat_sample.specs.Commands.{commands}
use Rattle.kat_sample.specs.Scripts.{lines_from}
use Rattle.kat_sample.specs.declared.commands.Command.{Command}
use Rattle.kat_sample.proofs.Judging.{commands_few, sample_judged}
use Rattle.kat_script.specs.Judged.{IsJudged}
use Rattle.kat_script.specs.World.{first_world}
use Rattle.kat_script.specs.declared.script.Line.{Line}
use Rattle.kat_type.specs.Signatures.{signature_of}
use Rattle.kat_sample.proofs.scripts.sample.Goals as goal

pub lines_of-requires : goal.lines_of-requires
lines_of-requires c =
    subst (λ (cs : List Command). length cs ≤ 100_000) (sym (c.deref.ensures.value ∙ c.in_ok-commands.ensures)) (commands_few c.args.seed c.args.lines c.requires)

pub returns-clause-judged : goal.returns-clause-judged
returns-clause-judged c =
    let same : c.deref.result.now ≡ commands c.args.seed c.args.lines = c.deref.ensures.value ∙ c.in_ok-commands.ensures in
    subst (λ (ls : List Line). IsJudged (signature_of cart) (record { replicas = 3; packets = 3; lines = ls }))
    (sym (c.from_vec.ensures ∙ c.in_ok-lines.ensures ∙ ap (λ (cs : List Command). lines_from (first_world 3) cs) same))
    (sample_judged c.args.seed c.args.lines c.requires)
