use Rattle.kat_share_call.proofs.Ending.{done_of, gap_of, output_left}
use Rattle.kat_share_call.proofs.calls.share_nodes.Goals as goal

pub returns-in-Ok-Some-clause-done : goal.returns-in-Ok-Some-clause-done
returns-in-Ok-Some-clause-done g c = λ is. record {
  command = c.in-Ok-Some.request.command;
  begins = rw c.in-Ok-Some.field-0-is at c.in-Ok-Some.ensures;
  writes = done_of _ _ _ _ _ c.answer.ensures.ends is;
}

pub returns-in-Ok-Some-clause-gap : goal.returns-in-Ok-Some-clause-gap
returns-in-Ok-Some-clause-gap g c = λ packet is. gap_of _ _ _ _ _ c.answer.ensures.ends packet is

pub returns-in-Ok-Some-clause-untouched : goal.returns-in-Ok-Some-clause-untouched
returns-in-Ok-Some-clause-untouched g c = λ leaves. output_left _ _ _ _ _ c.answer.ensures.ends leaves
