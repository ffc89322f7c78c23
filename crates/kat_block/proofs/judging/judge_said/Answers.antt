use Rattle.std.proofs.Common.{refl, sym, subst}
use Rattle.kat_design.specs.Designs.{design_form}
use Rattle.kat_said.specs.Sayings.{said_form}
use Rattle.kat_said.specs.declared.said.Said.{Said}
use Rattle.kat_type.specs.Types.{type_form}
use Rattle.kat_block.specs.Left.{IsStepOf}
use Rattle.kat_block.proofs.Telling.{PlaceOf, end_tells}
use Rattle.kat_block.proofs.judging.judge_said.Goals as goal

pub returns-in-Spent : goal.returns-in-Spent
returns-in-Spent c =
    let P : Said → Type 0 = λ s. PlaceOf (said_form s) c.in-Spent.at in
    end_tells (type_form c.args.ty.now) (design_form c.args.design.now) c.args.block.now.candidates.conjuncts c.args.effort c.args.block.now.dropped.items c.in-Spent.at (said_form c.args.said.now) c.judge_end.result (subst P (sym c.in-Spent.is) refl) c.judge_end.ensures

pub returns-in-Rows : goal.returns-in-Rows
returns-in-Rows c =
    let P : Said → Type 0 = λ s. PlaceOf (said_form s) c.in-Rows.at in
    end_tells (type_form c.args.ty.now) (design_form c.args.design.now) c.args.block.now.candidates.conjuncts c.args.effort c.args.block.now.dropped.items c.in-Rows.at (said_form c.args.said.now) c.judge_end-in-Rows.result (subst P (sym c.in-Rows.is) refl) c.judge_end-in-Rows.ensures

pub returns-in-Wide : goal.returns-in-Wide
returns-in-Wide c =
    let P : Said → Type 0 = λ s. PlaceOf (said_form s) c.in-Wide.at in
    end_tells (type_form c.args.ty.now) (design_form c.args.design.now) c.args.block.now.candidates.conjuncts c.args.effort c.args.block.now.dropped.items c.in-Wide.at (said_form c.args.said.now) c.judge_end-in-Wide.result (subst P (sym c.in-Wide.is) refl) c.judge_end-in-Wide.ensures

pub returns-in-Long : goal.returns-in-Long
returns-in-Long c =
    let P : Said → Type 0 = λ s. IsStepOf (type_form c.args.ty.now) (design_form c.args.design.now) c.args.block.now.candidates.conjuncts c.args.effort c.args.block.now.dropped.items (said_form s) c.judge_long.result in
    subst P (sym c.in-Long.is) (c.judge_long.ensures (type_form c.args.ty.now) (design_form c.args.design.now) c.args.block.now.candidates.conjuncts c.args.effort c.args.block.now.dropped.items)
