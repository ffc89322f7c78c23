use Rattle.std.proofs.Common.{sym, ◌∙◌}
use Rattle.std.proofs.lemmas.Bool.{false≢true}
use Rattle.kat_design.specs.Designs.{design_form}
use Rattle.kat_said.specs.Sayings.{said_form}
use Rattle.kat_type.specs.Types.{type_form}
use Rattle.kat_block.proofs.Endings.{other_end}
use Rattle.kat_block.proofs.closing.judge_end.Goals as goal

pub returns-then-not-is_said : goal.returns-then-not-is_said
returns-then-not-is_said c = λ end told ends.
    other_end (type_form c.args.ty.now) (design_form c.args.design.now) c.args.block.now c.requires.block c.args.effort c.args.at c.in-Some.number c.in_ok-end.end (said_form c.args.said.now) end
    c.in-Some.ensures c.in_ok-end.ensures (λ s. false≢true (sym c.if-not-is_said.true ∙ c.is_said.ensures.1 s)) told ends
