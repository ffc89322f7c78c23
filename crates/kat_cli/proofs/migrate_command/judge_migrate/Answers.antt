use Rattle.std.proofs.Common.{refl, ◌∷◌, []}
use Rattle.kat_words.specs.declared.words.Command.TheVariants as command
use Rattle.kat_cli.proofs.CheckedFiles.{fails_judged}
use Rattle.kat_cli.proofs.MigratedFiles.{refused_too}
use Rattle.kat_cli.proofs.migrate_command.judge_migrate.Goals as goal

pub returns-in-Err-clause-judged : goal.returns-in-Err-clause-judged
returns-in-Err-clause-judged g c =
    fails_judged command.Migrate (c.args.ty.now ∷ c.args.design.now ∷ []) c.args.ty.now c.args.design.now (record {
      written = g.K.Sink.written c.args.out.now;
      written_after = g.K.Sink.written c.args.out.now;
      faults = g.K.Sink.faults c.args.out.now;
      faults_after = g.K.Sink.faults c.args.out.now;
    }) c.in-Err.status (refused_too [] (c.args.ty.now ∷ c.args.design.now ∷ [])) c.in-Err.ensures.refused refl

pub returns-clause-judged : goal.returns-clause-judged
returns-clause-judged g c = c.migrate_typed.ensures.judged c.args.ty.now c.args.design.now c.in-Ok.ensures.files
