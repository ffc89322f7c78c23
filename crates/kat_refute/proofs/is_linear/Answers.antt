use Rattle.std.proofs.Common.{◌≡◌, length, List, Option, Some, option_map, refl, sym, ap, ◌∙◌, arith, false, Vec}
use Rattle.std.specs.Global.{Global}
use Rattle.std.proofs.lemmas.List.{length-map}
use Rattle.kat_linear.specs.declared.Row.{Row}
use Rattle.kat_linear.specs.Rows.{form_of, forms}
use Rattle.kat_form.specs.Encodings.{senses_of}
use Rattle.kat_refute.specs.Weighed.{weighed_denials}
use Rattle.kat_refute.proofs.Weighing.{linear_by, not_linear, rows_fit}
use Rattle.kat_refute.proofs.is_linear.Goals as goal

pub are_contradictory-requires-clause-lengths : goal.are_contradictory-requires-clause-lengths
are_contradictory-requires-clause-lengths c =
    let h : length c.args.literals.now ≡ length c.args.multipliers.now = omega (arith, c.if-literals-multipliers.false) in
    let shown : weighed_denials (senses_of c.args.meanings.now) c.args.literals.now c.args.multipliers.now ≡ Some (forms c.deref.result.now) =
    sym c.in_ok-rows.ensures ∙ ap (λ (o : Option (Vec Row Global)). option_map (λ (rows : Vec Row Global). forms rows.items) o) c.in-Some.is ∙ ap (λ (rows : List Row). Some (forms rows)) (sym c.deref.ensures.value) in
    let fit = rows_fit (senses_of c.args.meanings.now) c.args.literals.now c.args.multipliers.now (forms c.deref.result.now) c.requires h (sym shown) in
    omega (arith, fit.0, length-map c.deref.result.now form_of)

pub are_contradictory-requires-clause-ascending : goal.are_contradictory-requires-clause-ascending
are_contradictory-requires-clause-ascending c =
    let h : length c.args.literals.now ≡ length c.args.multipliers.now = omega (arith, c.if-literals-multipliers.false) in
    let shown : weighed_denials (senses_of c.args.meanings.now) c.args.literals.now c.args.multipliers.now ≡ Some (forms c.deref.result.now) =
    sym c.in_ok-rows.ensures ∙ ap (λ (o : Option (Vec Row Global)). option_map (λ (rows : Vec Row Global). forms rows.items) o) c.in-Some.is ∙ ap (λ (rows : List Row). Some (forms rows)) (sym c.deref.ensures.value) in
    (rows_fit (senses_of c.args.meanings.now) c.args.literals.now c.args.multipliers.now (forms c.deref.result.now) c.requires h (sym shown)).1

pub returns-in_default : goal.returns-in_default
returns-in_default c =
    let h : length c.args.literals.now ≡ length c.args.multipliers.now = omega (arith, c.if-literals-multipliers.false) in
    not_linear (senses_of c.args.meanings.now) c.args.literals.now c.args.multipliers.now false h
    (sym (ap (λ (o : Option (Vec Row Global)). option_map (λ (rows : Vec Row Global). forms rows.items) o) c.in_default.is) ∙ c.in_ok-rows.ensures) refl

pub returns : goal.returns
returns c =
    let h : length c.args.literals.now ≡ length c.args.multipliers.now = omega (arith, c.if-literals-multipliers.false) in
    let shown : weighed_denials (senses_of c.args.meanings.now) c.args.literals.now c.args.multipliers.now ≡ Some (forms c.deref.result.now) =
    sym c.in_ok-rows.ensures ∙ ap (λ (o : Option (Vec Row Global)). option_map (λ (rows : Vec Row Global). forms rows.items) o) c.in-Some.is ∙ ap (λ (rows : List Row). Some (forms rows)) (sym c.deref.ensures.value) in
    linear_by (senses_of c.args.meanings.now) c.args.literals.now c.args.multipliers.now (forms c.deref.result.now) c.are_contradictory.result h
    (c.are_multipliers.ensures.0 c.if-not-are_multipliers.false) (sym shown) c.are_contradictory.ensures
