use Rattle.std.proofs.Common.{lit<}
use Rattle.katara_call.specs.Called.IsCall.{no_memory, no_text}
use Rattle.katara_call.specs.Passed.{passed_as}
use Rattle.katara_call.proofs.KataraLemmas.{katara_is}
use Rattle.katara_call.proofs.RoomLemmas.{below}
use Rattle.katara_call.proofs.running.katara_said.Goals as goal

pub call_katara-requires : goal.call_katara-requires
call_katara-requires c = let taken = rw c.in-Ok-Some.field-0-is at c.in-Ok-Some.ensures in taken.fresh

pub returns-in-Ok-Some : goal.returns-in-Ok-Some
returns-in-Ok-Some c =
    let taken = rw c.in-Ok-Some.field-0-is at c.in-Ok-Some.ensures in
    record {
      says =
          katara_is (passed_as c.args.words.now c.args.names.now c.args.lengths.now c.args.bytes.now) c.in-Ok-Some.taken.words.items
          c.in-Ok-Some.taken.files.files.items c.call_katara.result.code c.call_katara.result.written.items c.call_katara.result.line.items
          taken.are c.call_katara.ensures.ends;
      status = c.call_katara.ensures.status;
    }

pub returns-in-Ok-None : goal.returns-in-Ok-None
returns-in-Ok-None c = record {
  says = no_text (rw c.in-Ok-None.field-0-is at c.in-Ok-None.ensures) c.no_text.ensures;
  status = below _ 1 c.no_text.ensures.coded (lit< tt);
}

pub returns-in-Err : goal.returns-in-Err
returns-in-Err c = record {
  says = no_memory c.no_memory.ensures;
  status = below _ 7 c.no_memory.ensures.coded (lit< tt);
}
