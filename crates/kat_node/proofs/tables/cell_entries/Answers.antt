use Rattle.std.proofs.Common.{rules, ◌≡◌, ◌<◌, ◌≤◌, ◌+◌, ◌∙◌, None, Some, drop, get_or, length}
use Rattle.std.proofs.lemmas.List.{drop_all}
use Rattle.kat_shape.specs.Values.{shape_of}
use Rattle.kat_json.proofs.Refusing.{handed, read_all, read_refused}
use Rattle.kat_node.specs.Possible.{next_faults, with_last}
use Rattle.kat_node.proofs.Entries.{key_of, made_each, next_made, none_left}
use Rattle.kat_node.proofs.Judged.{last_left}
use Rattle.kat_node.proofs.tables.cell_entries.Goals as goal

pub returns-in_err-entry-clause-refused : goal.returns-in_err-entry-clause-refused
returns-in_err-entry-clause-refused c =
    let xs = c.args.entries.now in
    let i = c.loop-i.i in
    let x = c.index-entries-i.result in
    let last = c.loop-i.last in
    let inside : i < length xs = search rules in
    let is : x ≡ get_or xs i x = search rules in
    let e = c.in_err-entry.field-0.0 in
    let f = next_faults c.args.sort c.args.start.now in
    handed c.from_residual-in_err-entry.result e _ c.from_residual-in_err-entry.ensures.1
    (read_refused f (next_made (shape_of c.args.start.now)) (with_last key_of None xs) i (with_last key_of last (drop i xs)) (with_last key_of (Some (key_of x)) (drop (i + 1) xs))
    c.loop-i.made.items (last, x) e c.loop-i.invariant (last_left key_of last xs i x inside is) (c.in_err-entry.ensures.err (f (last, x)) c.next_entry.ensures.refused))

pub returns-clause-said : goal.returns-clause-said
returns-clause-said c =
    let xs = c.args.entries.now in
    let i = c.loop-i.i in
    let last = c.loop-i.last in
    let shape = shape_of c.args.start.now in
    let past : length xs ≤ i = search rules in
    let all = read_all (next_faults c.args.sort c.args.start.now) (next_made shape) (with_last key_of None xs) i (with_last key_of last (drop i xs)) c.loop-i.made.items c.loop-i.invariant
    (none_left last (drop i xs) (drop_all i xs past)) in
    (all.0, all.1 ∙ made_each shape None xs)
