use Rattle.std.proofs.Common.{◌≡◌, ◌+◌, ◌++◌, unsigned_abs, sym, ap, ◌∙◌, to_z, of_z, rules, FitsSigned, Some}
use Rattle.std.specs.Int.{w32}
use Rattle.std.proofs.lemmas.Int.{to_z-of_z}
use Rattle.kat_linear.specs.Rows.{form_of}
use Rattle.kat_clause.specs.Literals.{has_of}
use Rattle.kat_form.specs.Encodings.{sense_of, form_in}
use Rattle.kat_cases.specs.Nodes.{literals, held_of}
use Rattle.kat_cases.proofs.Loops.{on_ok}
use Rattle.kat_cases.proofs.held.add_literal.Goals as goal

pub returns-in-Atom : goal.returns-in-Atom
returns-in-Atom c =
    let has = has_of c.args.marks.now in
    let fits : FitsSigned w32 c.variable_at.result = search rules in
    let v : unsigned_abs (to_z w32 (of_z w32 c.variable_at.result)) ≡ c.args.place + 1 = ap unsigned_abs (to_z-of_z _ _ fits ∙ c.variable_at.ensures) in
    on_ok c.add_known.result _ _ c.add_known.ensures (λ h.
    h (form_of c.in-Atom.field-0) ∙ ap (λ n. c.args.held.now.items ++ literals (held_of has n (Some (form_of c.in-Atom.field-0)))) v
    ∙ sym (ap (λ m. c.args.held.now.items ++ literals (held_of has (c.args.place + 1) (form_in (sense_of m)))) c.in-Atom.is))
