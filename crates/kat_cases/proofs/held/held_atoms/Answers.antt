use Rattle.std.proofs.Common.{subst}
use Rattle.kat_linear.specs.Rows.{forms}
use Rattle.kat_clause.specs.Literals.{has_of}
use Rattle.kat_form.specs.Encodings.{Sense, senses_of, sense_of, IsFitSense}
use Rattle.kat_form.specs.Encodings.Sense.{gate}
use Rattle.kat_cases.specs.Nodes.{Held, held_from, literals, rows}
use Rattle.kat_cases.proofs.Loops.{sense_here, held_turn}
use Rattle.kat_cases.proofs.held.held_atoms.Goals as goal

pub add-requires-clause-fit : goal.add-requires-clause-fit
add-requires-clause-fit c =
    let here = sense_here c.args.meanings.now c.loop-i.i c.index-meanings-i.result c.loop-i-test.true c.index-meanings-i.is in
    let P : Sense → Type 0 = IsFitSense in
    subst P here.1 (c.requires.fit c.loop-i.i gate here.0)

pub loop-i-preserved : goal.loop-i-preserved
loop-i-preserved c =
    let senses = senses_of c.args.meanings.now in
    let has = has_of c.args.marks.now in
    let s = sense_of c.index-meanings-i.result in
    let here = sense_here c.args.meanings.now c.loop-i.i c.index-meanings-i.result c.loop-i-test.true c.index-meanings-i.is in (
      held_turn (λ (h : Held). h.literal) has senses c.loop-i.i s c.loop-i.held.literals.items c.add.new.self.literals.items (literals (held_from has 1 senses)) here.0 here.1 c.in_ok-add.ensures.literals c.loop-i.invariant.0,
      held_turn (λ (h : Held). h.row) has senses c.loop-i.i s (forms c.loop-i.held.rows.items) (forms c.add.new.self.rows.items) (rows (held_from has 1 senses)) here.0 here.1 c.in_ok-add.ensures.rows c.loop-i.invariant.1,
    )
