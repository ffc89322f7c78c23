use Rattle.std.proofs.Common.{◌≡◌, length, get_or, take, pos, sym, ap, ◌∙◌, subst, arith, rules, FitsSigned}
use Rattle.std.specs.Int.{w128}
use Rattle.std.proofs.lemmas.Int.{to_z-of_z}
use Rattle.std.proofs.lemmas.List.{take_all, length-set}
use Rattle.kat_linear.specs.Rows.{Term, AreAscending, coefficient_in}
use Rattle.kat_fm.specs.Combinations.{at}
use Rattle.kat_fm.specs.Views.{no_counts, with_number}
use Rattle.kat_fm.proofs.Counting.{entries_more, room_left}
use Rattle.kat_fm.proofs.Spreads.{number_at}
use Rattle.kat_fm.proofs.choosing.add_row.Goals as goal

pub add-requires : goal.add-requires
add-requires c =
    let xs = c.deref-variable-items.result.now in let i = c.loop-variable.variable-index in
    let ascending : AreAscending xs = subst AreAscending (sym c.deref-variable-items.ensures.value) c.args.row.now.coefficients.ascending in
    room_left xs i (0, pos 0) c.args.all.now.items c.loop-variable.all.items ascending c.loop-variable-test.true c.loop-variable.invariant.count c.loop-variable.invariant.added c.requires

pub loop-variable-preserved : goal.loop-variable-preserved
loop-variable-preserved c =
    let xs = c.deref-variable-items.result.now in let i = c.loop-variable.variable-index in
    let e : Term = get_or xs i (0, pos 0) in
    let fits : FitsSigned w128 e.1 = search rules in
    let ascending : AreAscending xs = subst AreAscending (sym c.deref-variable-items.ensures.value) c.args.row.now.coefficients.ascending in
    let added = simp to_z-of_z at c.add.ensures in
    record {
      count = ap length added ∙ length-set c.loop-variable.all.items e.0 _ ∙ c.loop-variable.invariant.count;
      added = entries_more xs i (0, pos 0) c.args.all.now.items c.loop-variable.all.items c.add.new.all.items ascending c.loop-variable-test.true c.loop-variable.invariant.count c.loop-variable.invariant.added added;
    }

pub returns-clause-added : goal.returns-clause-added
returns-clause-added c = λ v h.
    let row = c.args.row.now in let xs = c.deref-variable-items.result.now in let i = c.loop-variable.variable-index in
    let whole : take i xs ≡ row.coefficients.entries.items = take_all i xs (omega arith) ∙ c.deref-variable-items.ensures.value in
    c.loop-variable.invariant.added v h
    ∙ ap (λ z. with_number z (get_or c.args.all.now.items v no_counts)) (ap (λ es. coefficient_in es v) whole ∙ sym (number_at row.coefficients.count row.coefficients.entries.items v row.coefficients.below))
