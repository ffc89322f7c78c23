use Rattle.std.proofs.Common.{refl, ◌∷◌, []}
use Rattle.kat_gram.specs.Listings.{designs_of}
use Rattle.kat_type.specs.Types.{type_form}
use Rattle.kat_cli.specs.ListCommand.{end_of, output}
use Rattle.kat_words.specs.declared.words.Command.TheVariants as command
use Rattle.kat_cli.proofs.Ending.{prints_judged}
use Rattle.kat_cli.proofs.Listed.{all_passed, is_end, type_refused}
use Rattle.kat_cli.proofs.list_command.judge_list.Goals as goal

pub returns-in-Err-clause-judged : goal.returns-in-Err-clause-judged
returns-in-Err-clause-judged g c =
    rw c.refused_type.ensures (type_refused c.args.options c.args.ty.now (record {
      written = g.K.Sink.written c.args.out.now;
      written_after = g.K.Sink.written c.args.out.now;
      faults = g.K.Sink.faults c.args.out.now;
      faults_after = g.K.Sink.faults c.args.out.now;
    }) c.in-Err.error c.in-Err.ensures.refused refl)

pub print-requires-clause-passed : goal.print-requires-clause-passed
print-requires-clause-passed g c =
    rw c.in-Ok-new.ensures.first
    (all_passed (type_form c.in-Ok.ty) c.args.options.size c.args.options.kinds (designs_of c.in-Ok-new.listing) c.requires.small_size c.in-Ok-new.ensures.listed)

pub returns-in-Ok-new-clause-judged : goal.returns-in-Ok-new-clause-judged
returns-in-Ok-new-clause-judged g c =
    let prints = rw c.in-Ok-new.ensures.first at c.print.ensures.prints in
    let designs = designs_of c.in-Ok-new.listing in
    prints_judged (command.List c.args.options) (c.args.ty.now ∷ []) (output c.args.options.designs designs) (end_of c.args.options.designs designs) c.print.result _
    (is_end c.args.options.designs designs)
    (record { inputs = type_form c.in-Ok.ty; accepted = c.in-Ok.ensures.says; ends = (designs, c.in-Ok-new.ensures.listed, refl, refl) }) prints
