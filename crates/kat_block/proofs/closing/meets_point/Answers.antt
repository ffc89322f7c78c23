use Rattle.std.proofs.Common.{◌≡◌, ℕ, ◌+◌, ◌*◌, rules, length, refl, sym, ap, ◌∙◌, arith}
use Rattle.std.proofs.lemmas.Bool.{false≢true}
use Rattle.std.proofs.lemmas.List.{length-map}
use Rattle.kat_design.specs.Designs.{design_form}
use Rattle.kat_type.specs.Types.{operation_form, type_form}
use Rattle.kat_block.proofs.Endings.{none_meets, none_more, one_meets}
use Rattle.kat_block.proofs.Placing.{count_few}
use Rattle.kat_block.proofs.closing.meets_point.Goals as goal

pub conjunct_count-count-requires-clause-count : goal.conjunct_count-count-requires-clause-count
conjunct_count-count-requires-clause-count c =
    let size : c.len.result ≡ length c.args.block.now.numbers.items = search rules in
    let few = count_few c.args.block.now c.requires.block in omega (arith, size, few)

pub returns-then-is_point : goal.returns-then-is_point
returns-then-is_point c =
    let size : c.len.result ≡ length c.args.block.now.numbers.items = search rules in
    let ops = ap length c.as_slice.ensures ∙ sym (length-map c.args.ty.now.ops operation_form) in
    let counted =
    c.conjunct_count-count.ensures.value ∙ ap (λ (k : ℕ). k + length c.as_slice.result.now * k) size
    ∙ ap (λ (k : ℕ). length c.args.block.now.numbers.items + k * length c.args.block.now.numbers.items) ops in (
      λ e. one_meets (type_form c.args.ty.now) (design_form c.args.design.now) c.args.block.now c.requires.block c.args.effort c.conjunct_count-count.result (length (type_form c.args.ty.now).ops) c.loop-place.place (c.loop-place.place + 1) c.in_ok-end.end
          counted refl c.loop-place-test.true refl c.in_ok-end.ensures (c.is_point.ensures.0 c.if-is_point.true),
      λ met. refl,
    )

pub loop-place-preserved : goal.loop-place-preserved
loop-place-preserved c =
    none_more (type_form c.args.ty.now) (design_form c.args.design.now) c.args.block.now c.args.effort c.loop-place.place (c.loop-place.place + 1) c.in_ok-end.end refl c.in_ok-end.ensures
    (λ e. false≢true (sym c.if-is_point.false ∙ c.is_point.ensures.1 e)) c.loop-place.invariant

pub returns : goal.returns
returns c =
    let size : c.len.result ≡ length c.args.block.now.numbers.items = search rules in
    let ops = ap length c.as_slice.ensures ∙ sym (length-map c.args.ty.now.ops operation_form) in
    let counted =
    c.conjunct_count-count.ensures.value ∙ ap (λ (k : ℕ). k + length c.as_slice.result.now * k) size
    ∙ ap (λ (k : ℕ). length c.args.block.now.numbers.items + k * length c.args.block.now.numbers.items) ops in (
      λ e. absurd (false≢true e),
      λ met. absurd (none_meets (type_form c.args.ty.now) (design_form c.args.design.now) c.args.block.now c.requires.block c.args.effort c.conjunct_count-count.result (length (type_form c.args.ty.now).ops) c.loop-place.place
          counted refl c.loop-place-test.false c.loop-place.invariant met),
    )
