use Rattle.std.proofs.Common.{lit<}
use Rattle.katara_call.specs.Called.IsCall.{called, no_memory, no_text}
use Rattle.katara_call.proofs.RoomLemmas.{below}
use Rattle.katara_call.proofs.sharing.shares_said.Goals as goal

pub returns-in-Ok-Some : goal.returns-in-Ok-Some
returns-in-Ok-Some c =
    let taken = rw c.in-Ok-Some.field-0-is at c.in-Ok-Some.ensures in
    record {
      says = called c.in-Ok-Some.taken.words.items c.in-Ok-Some.taken.files.files.items taken.are c.call_shares.ensures.ends;
      status = c.call_shares.ensures.status;
    }

pub returns-in-Ok-None : goal.returns-in-Ok-None
returns-in-Ok-None c = record {
  says = no_text (rw c.in-Ok-None.field-0-is at c.in-Ok-None.ensures) c.no_text.ensures;
  status = below _ 1 c.no_text.ensures.coded (lit< tt);
}

pub returns-in-Err : goal.returns-in-Err
returns-in-Err c = record {
  says = no_memory c.no_memory.ensures;
  status = below _ 7 c.no_memory.ensures.coded (lit< tt);
}
