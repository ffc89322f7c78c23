use Rattle.std.proofs.Common.{◌≡◌, pos, length, get_or, ap, ◌∙◌, arith, rules, FitsSigned, subst, sym, to_z}
use Rattle.std.specs.Int.{w128, w64}
use Rattle.std.proofs.lemmas.Int.{to_z-of_z}
use Rattle.std.proofs.lemmas.List.{take_all}
use Rattle.kat_linear.specs.Rows.{forms, form_of, Form, IsAscending}
use Rattle.kat_linear.specs.Sums.{int_sum, products}
use Rattle.kat_linear.specs.Columns.{number_in}
use Rattle.kat_linear.proofs.Columns.{forms_same, form_at, length-products, wide_at_product, wide_at_sum, narrow_more}
use Rattle.kat_linear.proofs.column_sum.Goals as goal

pub returns-in_default : goal.returns-in_default
returns-in_default c =
    let fits : FitsSigned w64 (get_or c.args.multipliers.now c.loop-i.i (pos 0)) = search rules in
    wide_at_product (number_in c.args.column) (forms c.args.rows.now) c.args.multipliers.now c.loop-i.i (form_of c.index-rows-i.result) (forms_same c.args.rows.now ∙ c.requires.lengths) (omega (arith, forms_same c.args.rows.now)) (form_at c.args.rows.now c.loop-i.i c.index-rows-i.result (omega arith) c.index-rows-i.is)
    (rw to_z-of_z at c.in_default.ensures)

pub returns-in_default-narrow_sum : goal.returns-in_default-narrow_sum
returns-in_default-narrow_sum c =
    let fits : FitsSigned w64 (get_or c.args.multipliers.now c.loop-i.i (pos 0)) = search rules in
    let product_fits : FitsSigned w128 c.in-Some.product = search rules in
    let product = rw to_z-of_z at c.in-Some.ensures.0 in
    wide_at_sum (number_in c.args.column) (forms c.args.rows.now) c.args.multipliers.now c.loop-i.i (form_of c.index-rows-i.result) (to_z w128 c.loop-i.sum-bits) c.in-Some.product (forms_same c.args.rows.now ∙ c.requires.lengths) (omega (arith, forms_same c.args.rows.now)) (form_at c.args.rows.now c.loop-i.i c.index-rows-i.result (omega arith) c.index-rows-i.is) c.loop-i.invariant.0
    product (rw (to_z-of_z w128 c.in-Some.product product_fits) at c.in_default-narrow_sum.ensures)

pub loop-i-preserved : goal.loop-i-preserved
loop-i-preserved c =
    let fits : FitsSigned w64 (get_or c.args.multipliers.now c.loop-i.i (pos 0)) = search rules in
    let product_fits : FitsSigned w128 c.in-Some.product = search rules in
    let next_fits : FitsSigned w128 c.in-Some-narrow_sum.next = search rules in
    let product = rw to_z-of_z at c.in-Some.ensures.0 in
    rw (to_z-of_z w128 c.in-Some-narrow_sum.next next_fits)
    (narrow_more (number_in c.args.column) (forms c.args.rows.now) c.args.multipliers.now c.loop-i.i (form_of c.index-rows-i.result) (to_z w128 c.loop-i.sum-bits) c.in-Some.product c.in-Some-narrow_sum.next (forms_same c.args.rows.now ∙ c.requires.lengths) (omega (arith, forms_same c.args.rows.now)) (form_at c.args.rows.now c.loop-i.i c.index-rows-i.result (omega arith) c.index-rows-i.is) c.loop-i.invariant
    product c.in-Some.ensures.1 (rw (to_z-of_z w128 c.in-Some.product product_fits) at c.in-Some-narrow_sum.ensures.0) c.in-Some-narrow_sum.ensures.1)

pub returns : goal.returns
returns c =
    let numbers = products (number_in c.args.column) (forms c.args.rows.now) c.args.multipliers.now in
    let size : length numbers ≡ length (forms c.args.rows.now) = length-products (number_in c.args.column) (forms c.args.rows.now) c.args.multipliers.now (forms_same c.args.rows.now ∙ c.requires.lengths) in
    (λ k h. c.loop-i.invariant.1 k (omega (arith, forms_same c.args.rows.now)), c.loop-i.invariant.0 ∙ ap int_sum (take_all c.loop-i.i numbers (omega (arith, forms_same c.args.rows.now))))

pub weighted-requires : goal.weighted-requires
weighted-requires c =
    let is : form_of c.index-rows-i.result ≡ get_or (forms c.args.rows.now) c.loop-i.i (form_of c.index-rows-i.result) = form_at c.args.rows.now c.loop-i.i c.index-rows-i.result (omega arith) c.index-rows-i.is in
    let P : Form → Type 0 = IsAscending in
    subst P (sym is) (c.requires.ascending c.loop-i.i (form_of c.index-rows-i.result) (omega (arith, forms_same c.args.rows.now)))
