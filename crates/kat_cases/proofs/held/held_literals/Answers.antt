use Rattle.kat_clause.specs.Literals.{has_of}
use Rattle.kat_form.specs.Encodings.{senses_of, sense_of}
use Rattle.kat_cases.specs.Nodes.{Held, held_from, literals}
use Rattle.kat_cases.proofs.Loops.{sense_here, held_turn}
use Rattle.kat_cases.proofs.held.held_literals.Goals as goal

pub loop-i-preserved : goal.loop-i-preserved
loop-i-preserved c =
    let senses = senses_of c.args.meanings.now in
    let has = has_of c.args.marks.now in
    let here = sense_here c.args.meanings.now c.loop-i.i c.index-meanings-i.result c.loop-i-test.true c.index-meanings-i.is in
    held_turn (λ (h : Held). h.literal) has senses c.loop-i.i (sense_of c.index-meanings-i.result) c.loop-i.held.items c.add_literal.new.held.items (literals (held_from has 1 senses)) here.0 here.1 c.in_ok-add_literal.ensures c.loop-i.invariant
