use Rattle.std.proofs.Common.{◌≡◌, suc, ◌-◌, ◌<◌, ◌≤◌, length, get_or, sym, ap, ◌∙◌, arith}
use Rattle.std.proofs.lemmas.Bool.{ltb-false}
use Rattle.std.proofs.lemmas.List.{length-map, get_or-map}
use Rattle.kat_form.specs.Encodings.{senses_of, sense_of, form_in, atom_at}
use Rattle.kat_refute.proofs.Atoms.{atom_at-within, atom_at-past}
use Rattle.kat_refute.proofs.atom.Goals as goal

pub returns-in-Some : goal.returns-in-Some
returns-in-Some c =
    let meanings = c.args.meanings.now in
    let i = c.args.variable - 1 in
    let at : suc i ≡ c.args.variable = omega arith in
    let meaning = c.in-Some.meaning.now in
    let below : i < length meanings = c.in-Some.ensures.lookup.3.0 in
    let is : sense_of meaning ≡ get_or (senses_of meanings) i (sense_of meaning) = ap sense_of c.in-Some.ensures.lookup.1 ∙ sym (get_or-map sense_of meanings i meaning (sense_of meaning) below) in
    c.row_in.ensures ∙ ap form_in is ∙ sym (atom_at-within (senses_of meanings) i (sense_of meaning) (omega (arith, below, length-map meanings sense_of))) ∙ ap (atom_at (senses_of meanings)) at

pub returns-in-None : goal.returns-in-None
returns-in-None c =
    let meanings = c.args.meanings.now in
    let i = c.args.variable - 1 in
    let at : suc i ≡ c.args.variable = omega arith in
    let past : length meanings ≤ i = ltb-false i (length meanings) (sym c.in-None.ensures.lookup.0) in
    sym (atom_at-past (senses_of meanings) i (omega (arith, past, length-map meanings sense_of))) ∙ ap (atom_at (senses_of meanings)) at
