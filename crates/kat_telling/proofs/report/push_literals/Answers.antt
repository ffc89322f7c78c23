use Rattle.std.proofs.Common.{rules, ◌≤◌, pos, length, get_or, List, ℤ, All, FitsSigned, arith, subst}
use Rattle.std.specs.Int.{w32}
use Rattle.std.proofs.lemmas.Grind.{common_steps}
use Rattle.std.proofs.lemmas.Int.{to_z-of_z}
use Rattle.std.proofs.lemmas.List.{take_all}
use Rattle.std.proofs.lemmas.List.Elements.{All-more}
use Rattle.kat_telling.specs.Evidence.{IsNarrow}
use Rattle.kat_telling.proofs.report.push_literals.Goals as goal

pub loop-lit-preserved : goal.loop-lit-preserved
loop-lit-preserved c =
    let lit = get_or c.args.lits.now c.loop-lit.lit-index (pos 0) in
    let fits : FitsSigned w32 lit = search rules in
    record {
      text = grind (arith, common_steps);
      narrow = All-more IsNarrow c.args.lits.now c.loop-lit.lit-index (pos 0) (omega arith) c.loop-lit.invariant.narrow (subst IsNarrow (to_z-of_z w32 lit fits) c.in_ok-push_literal.ensures.narrow);
    }

pub returns-clause-narrow : goal.returns-clause-narrow
returns-clause-narrow c =
    let past : length c.args.lits.now ≤ c.loop-lit.lit-index = search rules in
    let P : List ℤ → Type 0 = All IsNarrow in
    subst P (take_all c.loop-lit.lit-index c.args.lits.now past) c.loop-lit.invariant.narrow
