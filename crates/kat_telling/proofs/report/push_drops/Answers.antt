use Rattle.std.proofs.Common.{rules, ◌≤◌, length, List, All, arith, subst}
use Rattle.std.proofs.lemmas.Grind.{common_steps}
use Rattle.std.proofs.lemmas.List.{take_all}
use Rattle.std.proofs.lemmas.List.Elements.{All-map, All-more}
use Rattle.kat_drop.specs.Certificates.{drop_form}
use Rattle.kat_drop.specs.declared.drops.Drop1.{Drop1}
use Rattle.kat_telling.specs.Narrow.{IsNarrowDrop}
use Rattle.kat_telling.proofs.report.push_drops.Goals as goal

-- of a drop as the program has it
abbrev IsNarrowOne : Drop1 → Type 0
IsNarrowOne drop = IsNarrowDrop (drop_form drop)

pub loop-drop-preserved : goal.loop-drop-preserved
loop-drop-preserved c = record {
  text = grind (arith, common_steps);
  narrow = All-more IsNarrowOne c.args.drops.now c.loop-drop.drop-index c.drop-item.result (omega arith) c.loop-drop.invariant.narrow (subst IsNarrowOne c.drop-item.is c.in_ok-push_drop.ensures.narrow);
}

pub returns-clause-narrow : goal.returns-clause-narrow
returns-clause-narrow c =
    let past : length c.args.drops.now ≤ c.loop-drop.drop-index = search rules in
    let P : List Drop1 → Type 0 = All IsNarrowOne in
    All-map IsNarrowDrop drop_form c.args.drops.now (subst P (take_all c.loop-drop.drop-index c.args.drops.now past) c.loop-drop.invariant.narrow)
