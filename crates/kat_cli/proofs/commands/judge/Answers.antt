use Rattle.std.proofs.Common.{◌∷◌, []}
use Rattle.kat_words.specs.declared.words.Command.TheVariants as command
use Rattle.kat_cli.specs.Ending.{contents}
use Rattle.kat_cli.proofs.Ending.{all_behind, files_behind, four_files, judges_as, no_file, one_file, three_files, two_files}
use Rattle.kat_cli.proofs.commands.judge.Goals as goal

pub returns-in-len1-clause-judged : goal.returns-in-len1-clause-judged
returns-in-len1-clause-judged g c =
    judges_as c.args.command (command.List c.in-List.options) (contents c.args.files.now) (c.ty-item-then-files-lt2-3.result.items ∷ []) _ c.judge_list.result c.in-List.is
    (one_file c.args.files.now c.ty-item-then-files-lt2-3.result _ c.in-len1.len_at_least c.in-len1.len_below c.ty-item-then-files-lt2-3.is)
    (rw c.deref-in-len1.ensures.value at c.judge_list.ensures.judged)

pub returns-in-len2-clause-judged : goal.returns-in-len2-clause-judged
returns-in-len2-clause-judged g c =
    judges_as c.args.command command.Converge (contents c.args.files.now) (c.design-item.result.items ∷ c.script-item.result.items ∷ []) _ c.judge_converge.result c.in-Converge.is
    (two_files c.args.files.now c.design-item.result c.script-item.result _ _ c.in-len2.len_at_least c.in-len2.len_below c.design-item.is c.script-item.is)
    (rw (c.deref.ensures.value, c.deref-in-len2.ensures.value) at c.judge_converge.ensures.judged)

pub returns-in-len2-files-clause-judged : goal.returns-in-len2-files-clause-judged
returns-in-len2-files-clause-judged g c =
    judges_as c.args.command command.Model (contents c.args.files.now) (c.ty-item.result.items ∷ c.script-item-then-files-lt3-2.result.items ∷ []) _ c.judge_model.result c.in-Model.is
    (two_files c.args.files.now c.ty-item.result c.script-item-then-files-lt3-2.result _ _ c.in-len2-files.len_at_least c.in-len2-files.len_below c.ty-item.is c.script-item-then-files-lt3-2.is)
    (rw (c.deref-in-len2-files.ensures.value, c.deref-in-len2-files-2.ensures.value) at c.judge_model.ensures.judged)

pub returns-in-len2-files-2-clause-judged : goal.returns-in-len2-files-2-clause-judged
returns-in-len2-files-2-clause-judged g c =
    judges_as c.args.command command.Check (contents c.args.files.now) (c.ty-item-then-files-lt3-3.result.items ∷ c.design-item-then-files-lt3-3.result.items ∷ []) _ c.judge_check.result c.in-Check.is
    (two_files c.args.files.now c.ty-item-then-files-lt3-3.result c.design-item-then-files-lt3-3.result _ _ c.in-len2-files-2.len_at_least c.in-len2-files-2.len_below c.ty-item-then-files-lt3-3.is c.design-item-then-files-lt3-3.is)
    (rw (c.deref-in-len2-files-2-2.ensures.value, c.deref-in-len2-files-2-3.ensures.value) at c.judge_check.ensures.judged)

pub returns-in-len2-files-3-clause-judged : goal.returns-in-len2-files-3-clause-judged
returns-in-len2-files-3-clause-judged g c =
    judges_as c.args.command command.Migrate (contents c.args.files.now) (c.ty-item-then-files-lt3-4.result.items ∷ c.design-item-then-files-lt3-4.result.items ∷ []) _ c.judge_migrate.result c.in-Migrate.is
    (two_files c.args.files.now c.ty-item-then-files-lt3-4.result c.design-item-then-files-lt3-4.result _ _ c.in-len2-files-3.len_at_least c.in-len2-files-3.len_below c.ty-item-then-files-lt3-4.is c.design-item-then-files-lt3-4.is)
    (rw (c.deref-in-len2-files-3.ensures.value, c.deref-in-len2-files-3-2.ensures.value) at c.judge_migrate.ensures.judged)

pub returns-in-len3-clause-judged : goal.returns-in-len3-clause-judged
returns-in-len3-clause-judged g c =
    judges_as c.args.command command.Run (contents c.args.files.now)
    (c.ty-item-then-files-lt4.result.items ∷ c.design-item-then-files-lt4.result.items ∷ c.script-item-then-files-lt4.result.items ∷ []) _ c.judge_run.result c.in-Run.is
    (three_files c.args.files.now c.ty-item-then-files-lt4.result c.design-item-then-files-lt4.result c.script-item-then-files-lt4.result _ _ _ c.in-len3.len_at_least c.in-len3.len_below
    c.ty-item-then-files-lt4.is c.design-item-then-files-lt4.is c.script-item-then-files-lt4.is)
    (rw (c.deref-in-len3.ensures.value, c.deref-in-len3-2.ensures.value, c.deref-in-len3-3.ensures.value) at c.judge_run.ensures.judged)

pub returns-in-len3-files-clause-judged : goal.returns-in-len3-files-clause-judged
returns-in-len3-files-clause-judged g c =
    judges_as c.args.command command.Deltas (contents c.args.files.now)
    (c.ty-item-then-files-lt4-2.result.items ∷ c.design-item-then-files-lt4-2.result.items ∷ c.script-item-then-files-lt4-2.result.items ∷ []) _ c.judge_deltas.result c.in-Deltas.is
    (three_files c.args.files.now c.ty-item-then-files-lt4-2.result c.design-item-then-files-lt4-2.result c.script-item-then-files-lt4-2.result _ _ _ c.in-len3-files.len_at_least c.in-len3-files.len_below
    c.ty-item-then-files-lt4-2.is c.design-item-then-files-lt4-2.is c.script-item-then-files-lt4-2.is)
    (rw (c.deref-in-len3-files.ensures.value, c.deref-in-len3-files-2.ensures.value, c.deref-in-len3-files-3.ensures.value) at c.judge_deltas.ensures.judged)

pub returns-in-len1-files-clause-judged : goal.returns-in-len1-files-clause-judged
returns-in-len1-files-clause-judged g c =
    judges_as c.args.command (command.Synth c.in-Synth.options) (contents c.args.files.now) (c.ty-item-then-files-lt2-6.result.items ∷ []) _ c.judge_synth.result c.in-Synth.is
    (one_file c.args.files.now c.ty-item-then-files-lt2-6.result _ c.in-len1-files.len_at_least c.in-len1-files.len_below c.ty-item-then-files-lt2-6.is)
    (rw c.deref-in-len1-files.ensures.value at c.judge_synth.ensures.judged)

pub returns-in-empty-clause-judged : goal.returns-in-empty-clause-judged
returns-in-empty-clause-judged g c =
    judges_as c.args.command (command.Sample c.in-Sample.options) (contents c.args.files.now) [] _ c.judge_sample.result c.in-Sample.is
    (no_file c.args.files.now c.in-empty.len_below) c.judge_sample.ensures.judged

pub returns-in-len1-files-2-clause-judged : goal.returns-in-len1-files-2-clause-judged
returns-in-len1-files-2-clause-judged g c =
    judges_as c.args.command (command.NodeNew c.in-NodeNew.options) (contents c.args.files.now) (c.design-item-then-files-lt2-7.result.items ∷ []) _ c.judge_node_new.result c.in-NodeNew.is
    (one_file c.args.files.now c.design-item-then-files-lt2-7.result _ c.in-len1-files-2.len_at_least c.in-len1-files-2.len_below c.design-item-then-files-lt2-7.is)
    (rw c.deref-in-len1-files-2.ensures.value at c.judge_node_new.ensures.judged)

pub returns-in-len3-up-clause-judged : goal.returns-in-len3-up-clause-judged
returns-in-len3-up-clause-judged g c =
    judges_as c.args.command command.NodeStep (contents c.args.files.now) _ _ c.judge_node_step.result c.in-NodeStep.is
    (files_behind c.args.files.now _ c.design-item-in-NodeStep.result c.state-item.result c.actions-item.result _ _ _ c.in-len3-up.len_at_least
    c.design-item-in-NodeStep.is c.state-item.is c.actions-item.is (all_behind c.args.files.now))
    (rw (c.deref-in-len3-up.ensures.value, c.deref-in-len3-up-2.ensures.value, c.deref-in-len3-up-3.ensures.value) at c.judge_node_step.ensures.judged)

pub returns-in-len4-clause-judged : goal.returns-in-len4-clause-judged
returns-in-len4-clause-judged g c =
    judges_as c.args.command command.NodeAsk (contents c.args.files.now)
    (c.ty-item-then-files-lt5.result.items ∷ c.design-item-then-files-lt5.result.items ∷ c.state-item-then-files-lt5.result.items ∷ c.questions-item.result.items ∷ []) _ c.judge_node_ask.result c.in-NodeAsk.is
    (four_files c.args.files.now c.ty-item-then-files-lt5.result c.design-item-then-files-lt5.result c.state-item-then-files-lt5.result c.questions-item.result _ _ _ _ c.in-len4.len_at_least c.in-len4.len_below
    c.ty-item-then-files-lt5.is c.design-item-then-files-lt5.is c.state-item-then-files-lt5.is c.questions-item.is)
    (rw (c.deref-in-len4.ensures.value, c.deref-in-len4-2.ensures.value, c.deref-in-len4-3.ensures.value, c.deref-in-len4-4.ensures.value) at c.judge_node_ask.ensures.judged)

pub returns-in-len2-files-4-clause-judged : goal.returns-in-len2-files-4-clause-judged
returns-in-len2-files-4-clause-judged g c =
    judges_as c.args.command (command.Audit c.in-Audit.options) (contents c.args.files.now) (c.ty-item-then-files-lt3-8.result.items ∷ c.report-item.result.items ∷ []) _ c.judge_audit.result c.in-Audit.is
    (two_files c.args.files.now c.ty-item-then-files-lt3-8.result c.report-item.result _ _ c.in-len2-files-4.len_at_least c.in-len2-files-4.len_below c.ty-item-then-files-lt3-8.is c.report-item.is)
    (rw (c.deref-in-len2-files-4.ensures.value, c.deref-in-len2-files-4-2.ensures.value) at c.judge_audit.ensures.judged)
