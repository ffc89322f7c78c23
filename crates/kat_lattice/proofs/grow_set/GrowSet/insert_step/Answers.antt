use Rattle.std.proofs.Common.{◌≡◌, refl, sym, ◌∙◌, subst}
use Rattle.std.proofs.lemmas.List.{set-get_or}
use Rattle.kat_join.specs.Keyed.{IsAscending}
use Rattle.kat_join.specs.Places.{IsGap}
use Rattle.kat_join.specs.KeyedLaws.{ascending_put}
use Rattle.kat_lattice.specs.Sets.{first_one, keeps_first, with_key}
use Rattle.kat_join.proofs.Places.{put_gap, put_at}
use Rattle.kat_lattice.proofs.Readings.{adds_key}
use Rattle.kat_lattice.proofs.Undoing.{undoes_added}
use Rattle.kat_lattice.proofs.grow_set.GrowSet.insert_step.Goals as goal

-- the key goes in at its gap
inserted : (g : Rattle.kat_lattice.proofs.grow_set.GrowSet.insert_step.Given.Over) (c : goal.In_ok-insert-in-Err g) → c.insert.new.self.items ≡ with_key g.K.Ord.cmp c.args.key c.self.inside.keys.items
inserted g c = c.in_ok-insert-in-Err.ensures.items ∙ sym (put_gap first_one g.met.K.Ord.total (λ x. g.K.Ord.cmp x c.args.key) c.args.key (record { answers = λ x. refl }) c.self.inside.keys.items c.in-Err.at (rw (← c.deref.ensures.value) c.in-Err.ensures.gap))

pub invariant_of-self-in-Err : goal.invariant_of-self-in-Err
invariant_of-self-in-Err g c =
    subst (IsAscending g.K.Ord.cmp) (sym (inserted g c)) (ascending_put g.K.Ord.cmp first_one g.met.K.Ord.total (keeps_first g.K.Ord.cmp) c.args.key c.self.inside.keys.items c.self.invariant)

pub returns-in-Ok-clause-ok : goal.returns-in-Ok-clause-ok
returns-in-Ok-clause-ok g c =
    rw (← c.self.view_is) (sym (put_at first_one g.met.K.Ord.total (λ x. g.K.Ord.cmp x c.args.key) c.args.key (record { answers = λ x. refl }) c.self.inside.keys.items c.in-Ok.field-0 c.args.key c.self.invariant (rw (← c.deref.ensures.value) c.in-Ok.ensures.at)
    ∙ set-get_or c.self.inside.keys.items c.in-Ok.field-0 c.args.key))

pub returns-in_ok-insert-in-Err-clause-ok : goal.returns-in_ok-insert-in-Err-clause-ok
returns-in_ok-insert-in-Err-clause-ok g c = rw (← c.self.view_is) (inserted g c)

pub returns-in_ok-insert-in-Err-clause-back : goal.returns-in_ok-insert-in-Err-clause-back
returns-in_ok-insert-in-Err-clause-back g c =
    let gap : IsGap (λ x. g.K.Ord.cmp x c.args.key) c.self.inside.keys.items c.in-Err.at = rw (← c.deref.ensures.value) c.in-Err.ensures.gap in
    undoes_added (IsAscending g.K.Ord.cmp) c.self.inside.keys.items c.args.self.now c.insert.new.self.items c.in-Err.at c.args.key c.self.view_is c.in_ok-insert-in-Err.ensures.items gap.in_range c.self.invariant

pub returns-in_ok-insert-in-Err-clause-ascending : goal.returns-in_ok-insert-in-Err-clause-ascending
returns-in_ok-insert-in-Err-clause-ascending g c =
    subst (IsAscending g.K.Ord.cmp) (sym (inserted g c)) (ascending_put g.K.Ord.cmp first_one g.met.K.Ord.total (keeps_first g.K.Ord.cmp) c.args.key c.self.inside.keys.items c.self.invariant)

pub returns-in_ok-insert-in-Err-clause-adds : goal.returns-in_ok-insert-in-Err-clause-adds
returns-in_ok-insert-in-Err-clause-adds g c =
    adds_key g.met.K.Ord.total c.args.self.now c.insert.new.self.items c.args.key (rw (← c.self.view_is) c.self.invariant) (rw (← c.self.view_is) (inserted g c))

pub returns-in-Ok-clause-adds : goal.returns-in-Ok-clause-adds
returns-in-Ok-clause-adds g c =
    adds_key g.met.K.Ord.total c.args.self.now c.args.self.now c.args.key (rw (← c.self.view_is) c.self.invariant) (rw (← c.self.view_is) (sym (put_at first_one g.met.K.Ord.total (λ x. g.K.Ord.cmp x c.args.key) c.args.key (record { answers = λ x. refl }) c.self.inside.keys.items c.in-Ok.field-0 c.args.key c.self.invariant (rw (← c.deref.ensures.value) c.in-Ok.ensures.at)
    ∙ set-get_or c.self.inside.keys.items c.in-Ok.field-0 c.args.key)))
