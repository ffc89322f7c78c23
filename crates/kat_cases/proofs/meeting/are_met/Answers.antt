use Rattle.std.proofs.Common.{◌≡◌, ◌+◌, List, [], All, drop, sym, subst, arith}
use Rattle.std.proofs.lemmas.List.{length-map, drop_all}
use Rattle.std.proofs.lemmas.List.Elements.{All-nil}
use Rattle.kat_linear.specs.Rows.{Form}
use Rattle.kat_clause.specs.Literals.{has_of}
use Rattle.kat_form.specs.Encodings.{Sense, senses_of, sense_of, IsBelow}
use Rattle.kat_potential.specs.Differences.{IsMetApart}
use Rattle.kat_cases.specs.Nodes.{held_from, rows}
use Rattle.kat_cases.proofs.Loops.{sense_here, met_turn}
use Rattle.kat_cases.proofs.meeting.are_met.Goals as goal

pub is_meaning_met-requires-clause-below : goal.is_meaning_met-requires-clause-below
is_meaning_met-requires-clause-below c =
    let senses = senses_of c.args.meanings.now in
    let here = sense_here c.args.meanings.now c.loop-i.i c.index-meanings-i.result c.loop-i-test.true c.index-meanings-i.is in
    let P : Sense → Type 0 = IsBelow c.args.nought in
    subst P here.1 (c.requires.below c.loop-i.i _ here.0)

pub loop-i-preserved : goal.loop-i-preserved
loop-i-preserved c =
    let senses = senses_of c.args.meanings.now in
    let has = has_of c.args.marks.now in
    let here = sense_here c.args.meanings.now c.loop-i.i c.index-meanings-i.result c.loop-i-test.true c.index-meanings-i.is in
    let P : Form → Type 0 = IsMetApart c.args.nought c.args.values.now in
    met_turn P has senses c.loop-i.i (sense_of c.index-meanings-i.result) (All P (rows (held_from has 1 senses))) here.0 here.1 (c.is_meaning_met.ensures c.if-not-is_meaning_met.false) c.loop-i.invariant

pub returns : goal.returns
returns c =
    let P : Form → Type 0 = IsMetApart c.args.nought c.args.values.now in
    let senses = senses_of c.args.meanings.now in
    let none : drop c.loop-i.i (senses_of c.args.meanings.now) ≡ [] = drop_all c.loop-i.i (senses_of c.args.meanings.now) (omega (arith, length-map c.args.meanings.now sense_of)) in
    let Q : List Sense → Type 0 = λ ss. All P (rows (held_from (has_of c.args.marks.now) (c.loop-i.i + 1) ss)) in
    λ _. c.loop-i.invariant (subst Q (sym none) (All-nil P))
