use Rattle.std.proofs.Common.{◌≡◌, ℤ, neg_ℤ, List, [], ◌∷◌, map, rules, subst, sym, ap, ◌∙◌, FitsSigned, to_z, of_z}
use Rattle.std.specs.Int.{w32}
use Rattle.std.proofs.lemmas.Int.{to_z-of_z}
use Rattle.kat_form.specs.Readings.{with_clauses, gated, all_clauses}
use Rattle.kat_form.proofs.Keys.{gate_given}
use Rattle.kat_form.proofs.encode.gate_all.Goals as goal

pub returns : goal.returns
returns c =
    let gate = c.in_ok-gate-in_default.gate in
    let several = c.as_slice.result.now in
    let fits : FitsSigned w32 gate = search rules in
    let turned : FitsSigned w32 c.opposite-denied.result = search rules in
    let clauses : c.add_each.new.draft ≡ with_clauses (map (λ l. to_z w32 (of_z w32 c.opposite-denied.result) ∷ l ∷ []) several) c.new_gate.new.self = c.in_ok-add_each-in_default.ensures in
    let first : to_z w32 (of_z w32 c.opposite-denied.result) ≡ neg_ℤ gate = to_z-of_z w32 c.opposite-denied.result turned ∙ c.opposite-denied.ensures ∙ ap neg_ℤ (to_z-of_z w32 gate fits) in
    let P : List ℤ → Type 0 = λ ls. (gate ≡ (gated all_clauses (ls, c.args.draft.now)).0) × (c.add_each.new.draft ≡ (gated all_clauses (ls, c.args.draft.now)).1) in
    let Q : ℤ → Type 0 = λ z. (z ≡ (gated all_clauses (c.args.literals.items, c.args.draft.now)).0) × (c.add_each.new.draft ≡ (gated all_clauses (c.args.literals.items, c.args.draft.now)).1) in
    subst Q (sym (to_z-of_z w32 gate fits)) (subst P c.as_slice.ensures.value
    (gate_given several c.args.draft.now c.new_gate.new.self c.add_each.new.draft gate c.in_default.len_at_least c.in_ok-gate-in_default.ensures.gives.0 c.in_ok-gate-in_default.ensures.gives.1
    (clauses ∙ ap (λ (z : ℤ). with_clauses (map (λ l. z ∷ l ∷ []) several) c.new_gate.new.self) first)))
