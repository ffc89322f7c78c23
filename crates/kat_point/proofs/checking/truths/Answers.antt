use Rattle.std.proofs.Common.{◌≡◌, ℤ, Bool, ◌+◌, ◌-◌, ◌∙◌, ap, sym, arith}
use Rattle.std.specs.Prelude.{false, slice_index_or}
use Rattle.kat_clause.specs.Valuations.{literal_value}
use Rattle.kat_form.specs.Encodings.{senses_of}
use Rattle.kat_cases.specs.Nodes.{truths_from, is_truth_sense}
use Rattle.kat_cases.proofs.Loops.{sense_here, truths_skip, truths_push}
use Rattle.kat_point.specs.Values.{value_at}
use Rattle.kat_point.proofs.checking.truths.Goals as goal

pub loop-i-preserved-then-not-is_truth : goal.loop-i-preserved-then-not-is_truth
loop-i-preserved-then-not-is_truth c =
    let has : ℤ → Bool = literal_value (value_at c.args.values.now) in
    let senses = senses_of c.args.meanings.now in
    let here = sense_here c.args.meanings.now c.loop-i.i c.index-meanings-i.result c.loop-i-test.true c.index-meanings-i.is in
    truths_skip has senses c.loop-i.i c.is_truth.result c.loop-i.truths.items (truths_from has 1 senses) here.0 (c.is_truth.ensures ∙ ap is_truth_sense (sym here.1)) c.if-not-is_truth.true c.loop-i.invariant

pub loop-i-preserved : goal.loop-i-preserved
loop-i-preserved c =
    let has : ℤ → Bool = literal_value (value_at c.args.values.now) in
    let senses = senses_of c.args.meanings.now in
    let here = sense_here c.args.meanings.now c.loop-i.i c.index-meanings-i.result c.loop-i-test.true c.index-meanings-i.is in
    let back : c.loop-i.i ≡ c.loop-i.i + 1 - 1 = omega arith in
    truths_push has senses c.loop-i.i c.is_truth.result c.value.result c.loop-i.truths.items c.push.new.self.items (truths_from has 1 senses) here.0 (c.is_truth.ensures ∙ ap is_truth_sense (sym here.1)) c.if-not-is_truth.false (c.value.ensures ∙ ap (λ k. slice_index_or c.args.values.now k false) back) c.in_ok-push.ensures.items c.loop-i.invariant
