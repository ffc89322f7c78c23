use Rattle.std.proofs.Common.{◌∙◌, ap, sym, rules, FitsSigned}
use Rattle.std.specs.Int.{w32}
use Rattle.std.proofs.lemmas.Int.{to_z-of_z}
use Rattle.kat_clause.specs.Literals.{has_of}
use Rattle.kat_form.specs.Encodings.{senses_of}
use Rattle.kat_cases.specs.Nodes.{truths_from, is_truth_sense}
use Rattle.kat_cases.proofs.Loops.{sense_here, truths_skip, truths_push}
use Rattle.kat_cases.proofs.held.truths.Goals as goal

pub loop-i-preserved-then-not-is_truth : goal.loop-i-preserved-then-not-is_truth
loop-i-preserved-then-not-is_truth c =
    let senses = senses_of c.args.meanings.now in
    let here = sense_here c.args.meanings.now c.loop-i.i c.index-meanings-i.result c.loop-i-test.true c.index-meanings-i.is in
    truths_skip (has_of c.args.marks.now) senses c.loop-i.i c.is_truth.result c.loop-i.truths.items (truths_from (has_of c.args.marks.now) 1 senses) here.0 (c.is_truth.ensures ∙ ap is_truth_sense (sym here.1)) c.if-not-is_truth.true c.loop-i.invariant

pub loop-i-preserved : goal.loop-i-preserved
loop-i-preserved c =
    let fits : FitsSigned w32 c.variable_at.result = search rules in
    let senses = senses_of c.args.meanings.now in
    let here = sense_here c.args.meanings.now c.loop-i.i c.index-meanings-i.result c.loop-i-test.true c.index-meanings-i.is in
    truths_push (has_of c.args.marks.now) senses c.loop-i.i c.is_truth.result c.has.result c.loop-i.truths.items c.push.new.self.items (truths_from (has_of c.args.marks.now) 1 senses) here.0 (c.is_truth.ensures ∙ ap is_truth_sense (sym here.1)) c.if-not-is_truth.false (c.has.ensures ∙ ap (has_of c.args.marks.now) (to_z-of_z w32 c.variable_at.result fits ∙ c.variable_at.ensures)) c.in_ok-push.ensures.items c.loop-i.invariant
