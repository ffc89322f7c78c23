use Rattle.std.proofs.Common.{rules, drop, ◌+◌, arith, FitsSigned}
use Rattle.std.specs.Int.{w128}
use Rattle.std.proofs.lemmas.Int.{to_z-of_z}
use Rattle.kat_fm.proofs.EntryLists.{plus_next, minus_next, both_next, none_above, head_above}
use Rattle.kat_fm.proofs.numbers.next_place.Goals as goal

pub returns-in_default-clause-next : goal.returns-in_default-clause-next
returns-in_default-clause-next c =
    let ps = drop c.args.i c.args.ps.now in let ns = drop c.args.j c.args.ns.now in
    let fits : FitsSigned w128 c.in-Some-entry_at.minus = search rules in
    simp to_z-of_z (minus_next ps ns (drop (c.args.j + 1) c.args.ns.now) c.in-Some-entry_at.place c.in-Some-entry_at.minus c.in-Some-entry_at.ensures.0 c.requires.plus c.requires.minus (none_above _ ps c.in_default.ensures))

pub returns-in_default-entry_at-2-clause-next : goal.returns-in_default-entry_at-2-clause-next
returns-in_default-entry_at-2-clause-next c =
    let ps = drop c.args.i c.args.ps.now in let ns = drop c.args.j c.args.ns.now in
    let fits : FitsSigned w128 c.in-Some.plus = search rules in
    simp to_z-of_z (plus_next ps (drop (c.args.i + 1) c.args.ps.now) ns c.in-Some.place c.in-Some.plus c.in-Some.ensures.0 c.requires.plus c.requires.minus (none_above _ ns c.in_default-entry_at-2.ensures))

pub returns-then-other-place-clause-next : goal.returns-then-other-place-clause-next
returns-then-other-place-clause-next c =
    let ps = drop c.args.i c.args.ps.now in let ns = drop c.args.j c.args.ns.now in
    let fits : FitsSigned w128 c.in-Some-entry_at-2.minus = search rules in
    simp to_z-of_z (minus_next ps ns (drop (c.args.j + 1) c.args.ns.now) c.in-Some-entry_at-2.other c.in-Some-entry_at-2.minus c.in-Some-entry_at-2.ensures.0 c.requires.plus c.requires.minus
    (head_above c.in-Some-entry_at-2.other c.in-Some.place c.in-Some.plus ps (drop (c.args.i + 1) c.args.ps.now) c.in-Some.ensures.0 c.requires.plus (omega arith)))

pub returns-then-place-other-clause-next : goal.returns-then-place-other-clause-next
returns-then-place-other-clause-next c =
    let ps = drop c.args.i c.args.ps.now in let ns = drop c.args.j c.args.ns.now in
    let fits : FitsSigned w128 c.in-Some.plus = search rules in
    simp to_z-of_z (plus_next ps (drop (c.args.i + 1) c.args.ps.now) ns c.in-Some.place c.in-Some.plus c.in-Some.ensures.0 c.requires.plus c.requires.minus
    (head_above c.in-Some.place c.in-Some-entry_at-2.other c.in-Some-entry_at-2.minus ns (drop (c.args.j + 1) c.args.ns.now) c.in-Some-entry_at-2.ensures.0 c.requires.minus (omega arith)))

pub returns-clause-next : goal.returns-clause-next
returns-clause-next c =
    let ps = drop c.args.i c.args.ps.now in let ns = drop c.args.j c.args.ns.now in
    let fits : FitsSigned w128 c.in-Some.plus = search rules in
    let other_fits : FitsSigned w128 c.in-Some-entry_at-2.minus = search rules in
    simp to_z-of_z (both_next ps (drop (c.args.i + 1) c.args.ps.now) ns (drop (c.args.j + 1) c.args.ns.now) c.in-Some.place c.in-Some-entry_at-2.other c.in-Some.plus c.in-Some-entry_at-2.minus c.in-Some.ensures.0 c.in-Some-entry_at-2.ensures.0 c.requires.plus c.requires.minus (omega arith))
