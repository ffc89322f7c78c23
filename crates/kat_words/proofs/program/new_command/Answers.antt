use Rattle.std.proofs.Common.{refl, rules}
use Rattle.kat_words.proofs.Building.{command_more}
use Rattle.kat_words.proofs.program.new_command.Goals as goal

pub each-preserved : goal.each-preserved
each-preserved c =
    command_more c.args.name.now c.args.options.now c.each.option-index _ _ c.each.command c.in_ok-command-2.command c.option_arg.result (search rules)
    c.each.invariant c.option_arg.ensures.rule refl c.option_arg.ensures.own c.in_ok-command-2.ensures
