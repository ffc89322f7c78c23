use Rattle.std.proofs.Common.{◌+◌, List, [], drop, sym, subst}
use Rattle.std.specs.Prelude.{replicate}
use Rattle.std.proofs.lemmas.List.{at_drop_more}
use Rattle.kat_sample.specs.Clocks.{kept}
use Rattle.kat_sample.proofs.Timing.{Makes, makes_next, makes_none, same_times}
use Rattle.kat_script.specs.declared.script.Line.{Line}
use Rattle.kat_sample.proofs.scripts.lines_of.Goals as goal

pub commands-init : goal.commands-init
commands-init c =
    subst (λ (lines : List Line). Makes c.args.commands.now c.args.commands.now lines (kept c.in_ok-clocks.clocks) 0) (sym c.new-lines.ensures.items)
    (makes_none c.args.commands.now (kept c.in_ok-clocks.clocks)
    (same_times c.in_ok-clocks.clocks.replicas.items c.in_ok-clocks.clocks.packets.items (replicate 3 0) [] c.in_ok-clocks.ensures.replicas c.in_ok-clocks.ensures.packets))

pub commands-preserved : goal.commands-preserved
commands-preserved c =
    makes_next c.args.commands.now (drop c.commands.command-index c.args.commands.now) (drop (c.commands.command-index + 1) c.args.commands.now) _
    c.commands.lines.items c.push_line.new.lines.items (kept c.commands.clocks) (kept c.push_line.new.clocks) c.commands.command-index c.commands.invariant
    (at_drop_more (λ left. left) c.args.commands.now c.commands.command-index _ c.commands-test.true) c.in_ok-push_line.ensures.line c.in_ok-push_line.ensures.clocks
