use Rattle.std.proofs.Common.{◌≡◌, ap, subst}
use Rattle.kat_lattice.specs.JoinLaws.{IsBelow}
use Rattle.kat_lattice.specs.Maps.{at_key}
use Rattle.kat_shape.specs.Values.{Filled, joined}
use Rattle.kat_num.specs.contracts.values.ValueOrd.TheImpl.Laws.{total-law}
use Rattle.kat_replica.proofs.Tables.{absorbed_alone, joins_alone}
use Rattle.kat_replica.proofs.Undone.{undoes_table}
use Rattle.kat_replica.proofs.applying.join_at.Goals as goal

pub returns-then-leq-clause-ok : goal.returns-then-leq-clause-ok
returns-then-leq-clause-ok c =
    let below = subst (λ (v : Filled). IsBelow joined c.args.effect.now v) c.get.ensures (c.leq.ensures.0 c.if-leq.true) in
    absorbed_alone total-law c.tells_values_apart.ensures c.args.table.now c.args.key c.args.effect.now c.requires.map c.requires.kin c.goes_at.ensures below

pub returns-clause-ok : goal.returns-clause-ok
returns-clause-ok c =
    joins_alone total-law c.tells_values_apart.ensures c.args.table.now c.join_at_step.new.self c.args.key c.args.effect.now c.requires.map c.in_ok-step.ensures.canonical c.requires.kin c.in_ok-step.ensures.ok

pub returns-clause-back : goal.returns-clause-back
returns-clause-back c = undoes_table c.in_ok-step.step c.args.table.now c.join_at_step.new.self c.in_ok-step.ensures.back
