use Rattle.std.proofs.Common.{◌≡◌, ◌+◌, ◌++◌, ◌∷◌, [], length, take, get_or, List, ℤ, pos, Option, Some, None, option_map, sym, ap, ◌∙◌, arith, rules, FitsSigned, to_z, of_z}
use Rattle.std.specs.Int.{w32, w64}
use Rattle.std.proofs.lemmas.Int.{to_z-of_z}
use Rattle.std.proofs.lemmas.List.{length-take-le, map-append, take_more}
use Rattle.kat_linear.specs.declared.Row.{Row}
use Rattle.kat_linear.specs.Rows.{Form, form_of, forms}
use Rattle.kat_form.specs.Encodings.{senses_of}
use Rattle.kat_refute.specs.Lines.{denial_form}
use Rattle.kat_refute.specs.Weighed.{weighed_denials, weighed_form}
use Rattle.kat_refute.proofs.Weighing.{weighed_none, weighed_push}
use Rattle.kat_refute.proofs.denials.Goals as goal

pub returns-in_default : goal.returns-in_default
returns-in_default c =
    let senses = senses_of c.args.meanings.now in
    let i = c.loop-i.i in
    let k = get_or c.args.literals.now i (pos 0) in
    let m = get_or c.args.multipliers.now i (pos 0) in
    let fits : FitsSigned w32 k = search rules in
    let fits' : FitsSigned w64 m = search rules in
    let none : option_map (weighed_form m) (denial_form senses k) ≡ None =
    sym (ap (λ (z : ℤ). option_map (weighed_form m) (denial_form senses z)) (to_z-of_z w32 k fits))
    ∙ sym (ap (λ (z : ℤ). option_map (weighed_form z) (denial_form senses (to_z w32 (of_z w32 k)))) (to_z-of_z w64 m fits'))
    ∙ sym c.in_ok-row.ensures ∙ ap (λ (o : Option Row). option_map form_of o) c.in_default.is in
    sym (weighed_none senses c.args.literals.now c.args.multipliers.now i c.requires.lengths c.loop-i-test.true none)

pub loop-i-preserved : goal.loop-i-preserved
loop-i-preserved c =
    let senses = senses_of c.args.meanings.now in
    let i = c.loop-i.i in
    let ks = c.args.literals.now in
    let ms = c.args.multipliers.now in
    let k = get_or ks i (pos 0) in
    let m = get_or ms i (pos 0) in
    let fits : FitsSigned w32 k = search rules in
    let fits' : FitsSigned w64 m = search rules in
    let here : option_map (weighed_form m) (denial_form senses k) ≡ Some (form_of c.in-Some.row) =
    sym (ap (λ (z : ℤ). option_map (weighed_form m) (denial_form senses z)) (to_z-of_z w32 k fits))
    ∙ sym (ap (λ (z : ℤ). option_map (weighed_form z) (denial_form senses (to_z w32 (of_z w32 k)))) (to_z-of_z w64 m fits'))
    ∙ sym c.in_ok-row.ensures ∙ ap (λ (o : Option Row). option_map form_of o) c.in-Some.is in
    let within = c.loop-i-test.true in
    let same = c.requires.lengths in
    let front : take (i + 1) ks ≡ take i ks ++ k ∷ [] = take_more ks i (pos 0) within in
    let behind : take (i + 1) ms ≡ take i ms ++ m ∷ [] = take_more ms i (pos 0) (omega (arith, within, same)) in
    let long : length (take i ks) ≡ length (take i ms) = length-take-le i ks (omega (arith, within)) ∙ sym (length-take-le i ms (omega (arith, within, same))) in
    let rows : forms c.push.new.self.items ≡ forms c.loop-i.rows.items ++ form_of c.in-Some.row ∷ [] = ap forms c.in_ok-push.ensures.items ∙ map-append form_of c.loop-i.rows.items (c.in-Some.row ∷ []) in
    ap (λ (xs : List ℤ). weighed_denials senses xs (take (i + 1) ms)) front ∙ ap (λ (ys : List ℤ). weighed_denials senses (take i ks ++ k ∷ []) ys) behind
    ∙ weighed_push senses (take i ks) (take i ms) k m (forms c.loop-i.rows.items) (form_of c.in-Some.row) long c.loop-i.invariant here ∙ ap (λ (fs : List Form). Some fs) (sym rows)
