use Rattle.std.proofs.Common.{ap, ◌∙◌}
use Rattle.kat_fm.specs.Entries.{AreEntries, same_entries}
use Rattle.kat_fm.proofs.Spreads.{same_if, unlike_numbers}
use Rattle.kat_fm.proofs.working.Numbers.is_same.Goals as goal

pub returns-then-self-other : goal.returns-then-self-other
returns-then-self-other c =
    let s = c.args.self.now in let o = c.args.other.now in
    let has : AreEntries s.count s.entries.items = record { ascending = s.ascending; below = s.below; not_zero = s.not_zero } in
    let other_has : AreEntries o.count o.entries.items = record { ascending = o.ascending; below = o.below; not_zero = o.not_zero } in
    c.has_same.ensures ∙ ap (λ es. same_entries es c.deref-then-self-other.result.now) c.deref.ensures.value ∙ ap (same_entries s.entries.items) c.deref-then-self-other.ensures.value
    ∙ same_if s.count o.count s.entries.items o.entries.items c.if-self-other.true has other_has

pub returns-else-self-other : goal.returns-else-self-other
returns-else-self-other c =
    let s = c.args.self.now in let o = c.args.other.now in
    unlike_numbers s.count o.count s.entries.items o.entries.items c.if-self-other.false
