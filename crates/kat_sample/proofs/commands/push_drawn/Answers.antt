use Rattle.std.proofs.Common.{◌∷◌, ◌++◌, [], ◌∙◌, ap}
use Rattle.kat_sample.specs.Commands.{command_of}
use Rattle.kat_sample.specs.declared.commands.Command.{Command}
use Rattle.kat_sample.proofs.Drawing.{drawn_on}
use Rattle.kat_sample.proofs.commands.push_drawn.Goals as goal

pub draws-preserved : goal.draws-preserved
draws-preserved c =
    drawn_on c.draws.all.items c.push.new.self.items c.args.all.now.items c.args.seed c.args.lines c.draws.x c.next-x.result c.draws.counter
    c.draws-test.true c.draws.invariant c.next-x.ensures
    (c.in_ok-push.ensures.items ∙ ap (λ (one : Command). c.draws.all.items ++ one ∷ []) (c.command_of.ensures ∙ ap command_of c.drawn.ensures))
