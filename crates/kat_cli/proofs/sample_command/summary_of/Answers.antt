use Rattle.std.proofs.Common.{◌≡◌, ◌∙◌, ℕ}
use Rattle.std.specs.Prelude.{Vec}
use Rattle.std.specs.Global.{Global}
use Rattle.kat_world.specs.Summaries.{summary_text}
use Rattle.kat_wire.specs.FileForms.{file_form}
use Rattle.kat_cli.specs.SampleCommand.{output}
use Rattle.kat_cli.proofs.DesignFiles.{well_sorted_file}
use Rattle.kat_cli.proofs.Ending.{if_ok}
use Rattle.kat_cli.proofs.Sampling.{answered, cart_file, few_too, judged_too, small_too, summed}
use Rattle.kat_cli.proofs.sample_command.summary_of.Goals as goal

pub answers-requires-clause-sorted : goal.answers-requires-clause-sorted
answers-requires-clause-sorted c = well_sorted_file c.args.file.now (file_form c.in_ok-design_file.design_file) c.in_ok-design_file.ensures

pub answers-requires-clause-judged : goal.answers-requires-clause-judged
answers-requires-clause-judged c =
    judged_too (file_form c.in_ok-design_file.design_file) c.in_ok-script.script (cart_file c.args.file.now (file_form c.in_ok-design_file.design_file) c.requires.design c.in_ok-design_file.ensures)
    c.in_ok-script.ensures.judged

pub summary-requires-clause-few : goal.summary-requires-clause-few
summary-requires-clause-few c =
    few_too c.deref.result.now c.in_ok-script.script c.in_ok-script.ensures.judged
    (c.deref.ensures.value ∙ c.in_ok-answers.ensures
    ∙ answered c.designs_reply_as_types.ensures c.args.file.now (file_form c.in_ok-design_file.design_file) c.in_ok-script.script
    (cart_file c.args.file.now (file_form c.in_ok-design_file.design_file) c.requires.design c.in_ok-design_file.ensures) c.in_ok-design_file.ensures c.in_ok-script.ensures.judged)

pub summary-requires-clause-small : goal.summary-requires-clause-small
summary-requires-clause-small c =
    small_too c.deref.result.now c.in_ok-script.script c.in_ok-script.ensures.judged
    (c.deref.ensures.value ∙ c.in_ok-answers.ensures
    ∙ answered c.designs_reply_as_types.ensures c.args.file.now (file_form c.in_ok-design_file.design_file) c.in_ok-script.script
    (cart_file c.args.file.now (file_form c.in_ok-design_file.design_file) c.requires.design c.in_ok-design_file.ensures) c.in_ok-design_file.ensures c.in_ok-script.ensures.judged)

pub returns : goal.returns
returns c =
    if_ok c.summary.result (λ (text : Vec ℕ Global). text.items ≡ summary_text c.in_ok-script.script c.deref.result.now)
    (λ (text : Vec ℕ Global). text.items ≡ output c.args.options) c.summary.ensures
    (λ text is. summed c.args.options c.in_ok-script.script c.deref.result.now text.items c.in_ok-script.ensures.script
    (c.deref.ensures.value ∙ c.in_ok-answers.ensures
    ∙ answered c.designs_reply_as_types.ensures c.args.file.now (file_form c.in_ok-design_file.design_file) c.in_ok-script.script
    (cart_file c.args.file.now (file_form c.in_ok-design_file.design_file) c.requires.design c.in_ok-design_file.ensures) c.in_ok-design_file.ensures c.in_ok-script.ensures.judged) is)
