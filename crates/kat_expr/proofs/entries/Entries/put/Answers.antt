use Rattle.std.proofs.Common.{◌≡◌, sym, ◌∙◌, ap, set, refl, subst, arith}
use Rattle.kat_num.specs.declared.values.Value.{Value}
use Rattle.kat_expr.specs.Entries.{AreAscending, IsKey, is_before}
use Rattle.kat_expr.specs.Slots.{is_same}
use Rattle.kat_expr.specs.Puts.{with_entry, with_value}
use Rattle.kat_expr.proofs.Putting.{at_key, put_at, put_in, still_ascending, undoes_nothing, undoes_added, undoes_changed}
use Rattle.kat_expr.proofs.entries.Entries.put.Goals as goal

replaced : (c : goal.After-self-1) → set c.self.inside.entries.items c.place_of-place.result c.replace-entry.new.dest ≡ with_entry c.args.key c.args.value c.self.inside.entries.items
replaced c =
    let there = rw c.deref-2.ensures.value at (c.has_key_at.ensures.there c.if-has_key_at.true) in
    let before = rw c.deref.ensures.value at c.place_of-place.ensures.before in
    let behind = rw c.deref.ensures.value at c.place_of-place.ensures.behind in
    ap (λ (e : Value × Value). set c.self.inside.entries.items c.place_of-place.result e) c.replace-entry.ensures.after
    ∙ put_at c.args.key c.args.value c.self.inside.entries.items c.place_of-place.result c.replace-entry.result there.0
    before
    (behind c.place_of-place.result c.replace-entry.result (omega arith) there.0)
    (there.1 c.replace-entry.result)

inserted : (c : goal.In_ok-insert) → c.insert.new.self.items ≡ with_entry c.args.key c.args.value c.self.inside.entries.items
inserted c =
    let before = rw c.deref.ensures.value at c.place_of-place.ensures.before in
    let behind = rw c.deref.ensures.value at c.place_of-place.ensures.behind in
    let within = rw c.deref.ensures.value at c.place_of-place.ensures.within in
    let other = rw c.deref-2.ensures.value at (c.has_key_at.ensures.other c.if-has_key_at.false) in
    c.in_ok-insert.ensures.items
    ∙ put_in c.args.key c.args.value c.self.inside.entries.items c.place_of-place.result within
    before
    (λ h d. behind c.place_of-place.result d (omega arith) h)
    other

pub returns-then-not-is_key-clause-back : goal.returns-then-not-is_key-clause-back
returns-then-not-is_key-clause-back c = undoes_nothing c.self.inside.entries.items c.args.self.now c.self.invariant c.self.view_is

pub invariant_of-self : goal.invariant_of-self
invariant_of-self c =
    subst AreAscending (sym (replaced c)) (still_ascending c.args.key c.args.value c.self.inside.entries.items (c.is_key.ensures.0 c.if-not-is_key.false) c.self.invariant)

pub returns-then-has_key_at-clause-ok : goal.returns-then-has_key_at-clause-ok
returns-then-has_key_at-clause-ok c =
    rw (← c.self.view_is) (replaced c ∙ sym (at_key c.args.key c.args.value c.self.inside.entries.items (c.is_key.ensures.0 c.if-not-is_key.false)))

pub returns-then-has_key_at-clause-back : goal.returns-then-has_key_at-clause-back
returns-then-has_key_at-clause-back c =
    undoes_changed c.self.inside.entries.items c.args.self.now c.place_of-place.result c.replace-entry.result c.replace-entry.new.dest c.self.invariant c.self.view_is
    (rw c.deref-2.ensures.value at (c.has_key_at.ensures.there c.if-has_key_at.true)).0 (rw c.replace-entry.ensures.value c.index_mut.ensures.value)

pub invariant_of-self-2 : goal.invariant_of-self-2
invariant_of-self-2 c =
    subst AreAscending (sym (inserted c)) (still_ascending c.args.key c.args.value c.self.inside.entries.items (c.is_key.ensures.0 c.if-not-is_key.false) c.self.invariant)

pub returns-clause-ok : goal.returns-clause-ok
returns-clause-ok c =
    rw (← c.self.view_is) (inserted c ∙ sym (at_key c.args.key c.args.value c.self.inside.entries.items (c.is_key.ensures.0 c.if-not-is_key.false)))

pub returns-clause-back : goal.returns-clause-back
returns-clause-back c =
    undoes_added c.self.inside.entries.items c.args.self.now c.insert.new.self.items c.place_of-place.result (c.args.key, c.args.value) c.self.invariant c.self.view_is
    c.in_ok-insert.ensures.items (rw c.deref.ensures.value at c.place_of-place.ensures.within)
