use Rattle.std.proofs.Common.{rules, ◌≡◌, ◌+◌, ◌<◌, ◌≤◌, ◌^◌, ap, refl, ℕ}
use Rattle.std.specs.Ordering.{nat_cmp}
use Rattle.kat_lattice.specs.Tallies.{sum_of, IsTally}
use Rattle.kat_join.specs.Places.{IsAt, IsGap}
use Rattle.kat_lattice.proofs.Sums.{sum_here, tally_raised, adds_raised, tally_inserted, adds_inserted}
use Rattle.kat_lattice.proofs.Undoing.{undoes_added, undoes_changed}
use Rattle.kat_lattice.proofs.tallies.Tally.bump_step.Goals as goal

pub place_of-requires : goal.place_of-requires
place_of-requires c = rw c.deref.ensures.value c.self.invariant.ascending

pub overflow_add-was : goal.overflow_add-was
overflow_add-was c =
    let here : c.index-was.result.now.1 ≡ sum_of c.self.inside.sums.items c.args.replica = sum_here c.self.inside.sums.items c.args.replica c.in-Ok.at c.index-was.result.now c.self.invariant (rw (← c.deref.ensures.value) c.in-Ok.ensures.at) c.index-was.ensures in
    let same : sum_of c.self.inside.sums.items c.args.replica ≡ sum_of c.args.self.now c.args.replica = ap (λ t. sum_of t c.args.replica) c.self.view_is in
    let limit : sum_of c.args.self.now c.args.replica + c.args.weight ≤ 2 ^ 100 = c.requires in
    search (rules, here, same, limit)

pub invariant_of-self : goal.invariant_of-self
invariant_of-self c = tally_raised c.self.inside.sums.items c.args.replica c.args.weight c.in-Ok.at c.index-was.result.now c.self.invariant (rw (← c.deref.ensures.value) c.in-Ok.ensures.at) c.index-was.ensures

pub invariant_of-self-in-Err : goal.invariant_of-self-in-Err
invariant_of-self-in-Err c = (let positive : 0 < c.args.weight = search rules in tally_inserted c.self.inside.sums.items c.args.replica c.args.weight c.in-Err.at c.insert.new.self.items c.self.invariant (rw (← c.deref.ensures.value) c.in-Err.ensures.gap) positive c.in_ok-insert-in-Err.ensures.items)

pub returns-in-Ok-clause-ok : goal.returns-in-Ok-clause-ok
returns-in-Ok-clause-ok c =
    adds_raised c.self.inside.sums.items c.args.self.now c.args.replica c.args.weight c.in-Ok.at c.index-was.result.now c.self.view_is c.self.invariant (rw (← c.deref.ensures.value) c.in-Ok.ensures.at) c.index-was.ensures

pub returns-in-Ok-clause-back : goal.returns-in-Ok-clause-back
returns-in-Ok-clause-back c =
    let at : IsAt (λ (e : ℕ × ℕ). nat_cmp e.0 c.args.replica) c.self.inside.sums.items c.in-Ok.at = rw (← c.deref.ensures.value) c.in-Ok.ensures.at in
    undoes_changed IsTally c.self.inside.sums.items c.args.self.now _ c.in-Ok.at c.index-was.result.now (c.index-was.result.now.0, c.index-was.result.now.1 + c.args.weight) c.self.view_is refl at.in_range c.index-was.ensures c.self.invariant

pub returns-in-Ok-clause-canonical : goal.returns-in-Ok-clause-canonical
returns-in-Ok-clause-canonical c = tally_raised c.self.inside.sums.items c.args.replica c.args.weight c.in-Ok.at c.index-was.result.now c.self.invariant (rw (← c.deref.ensures.value) c.in-Ok.ensures.at) c.index-was.ensures

pub returns-in_ok-insert-in-Err-clause-ok : goal.returns-in_ok-insert-in-Err-clause-ok
returns-in_ok-insert-in-Err-clause-ok c =
    adds_inserted c.self.inside.sums.items c.args.self.now c.args.replica c.args.weight c.in-Err.at c.insert.new.self.items c.self.view_is c.self.invariant (rw (← c.deref.ensures.value) c.in-Err.ensures.gap) c.in_ok-insert-in-Err.ensures.items

pub returns-in_ok-insert-in-Err-clause-back : goal.returns-in_ok-insert-in-Err-clause-back
returns-in_ok-insert-in-Err-clause-back c =
    let gap : IsGap (λ (e : ℕ × ℕ). nat_cmp e.0 c.args.replica) c.self.inside.sums.items c.in-Err.at = rw (← c.deref.ensures.value) c.in-Err.ensures.gap in
    undoes_added IsTally c.self.inside.sums.items c.args.self.now c.insert.new.self.items c.in-Err.at (c.args.replica, c.args.weight) c.self.view_is c.in_ok-insert-in-Err.ensures.items gap.in_range c.self.invariant

pub returns-in_ok-insert-in-Err-clause-canonical : goal.returns-in_ok-insert-in-Err-clause-canonical
returns-in_ok-insert-in-Err-clause-canonical c = (let positive : 0 < c.args.weight = search rules in tally_inserted c.self.inside.sums.items c.args.replica c.args.weight c.in-Err.at c.insert.new.self.items c.self.invariant (rw (← c.deref.ensures.value) c.in-Err.ensures.gap) positive c.in_ok-insert-in-Err.ensures.items)
