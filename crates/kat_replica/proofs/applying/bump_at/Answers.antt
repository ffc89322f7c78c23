use Rattle.std.proofs.Common.{◌≡◌, ap, sym, ◌∙◌, subst}
use Rattle.kat_lattice.specs.Maps.{at_key}
use Rattle.kat_lattice.specs.Tallies.{IsTally, Sums}
use Rattle.kat_num.specs.Orders.{value_order}
use Rattle.kat_num.specs.contracts.values.ValueOrd.TheImpl.Laws.{total-law}
use Rattle.kat_design.specs.Tallied.{bumped}
use Rattle.kat_design.proofs.Tallies.{adds_is_bumped}
use Rattle.kat_replica.proofs.Rooms.{at_key_roomy, not_zero, one_more, roomy_as, sum_roomy}
use Rattle.kat_replica.proofs.Tables.{joins_bumped}
use Rattle.kat_replica.proofs.Undone.{undoes_tallies}
use Rattle.kat_replica.proofs.applying.bump_at.Goals as goal

pub bump-requires : goal.bump-requires
bump-requires c =
    let there = c.in_ok-sums.ensures ∙ c.get.ensures in
    one_more _ _ (sum_roomy c.in_ok-sums.sums c.args.replica (roomy_as c.in_ok-sums.sums (at_key value_order c.args.table.now c.args.key) there (at_key_roomy c.args.table.now c.args.key c.requires.start c.requires.room))) c.requires.light

pub returns-clause-ok : goal.returns-clause-ok
returns-clause-ok c =
    let there : c.in_ok-sums.sums ≡ at_key value_order c.args.table.now c.args.key = c.in_ok-sums.ensures ∙ c.get.ensures in
    let tally = subst (λ (s : Sums). IsTally s) (sym there) c.goes_at.ensures.left in
    let more = adds_is_bumped c.in_ok-sums.sums c.bump.new.self c.args.replica c.args.weight tally c.in_ok-bump.ensures.canonical c.in_ok-bump.ensures.ok in
    joins_bumped total-law c.tells_values_apart.ensures c.args.table.now c.join_at_step.new.self c.args.key c.args.replica c.args.weight c.bump.new.self
    c.in_ok-step.ensures.back.kept c.in_ok-step.ensures.canonical c.requires.start c.goes_at.ensures.left (not_zero c.args.weight c.if-weight-eq0.false)
    (more ∙ ap (λ (s : Sums). bumped s c.args.replica c.args.weight) there) c.in_ok-step.ensures.ok

pub returns-clause-back : goal.returns-clause-back
returns-clause-back c = undoes_tallies c.in_ok-step.step c.args.table.now c.join_at_step.new.self c.in_ok-step.ensures.back
