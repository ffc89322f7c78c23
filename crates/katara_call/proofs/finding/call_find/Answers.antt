use Rattle.std.proofs.Common.{ap}
use Rattle.katara_call.proofs.FindLemmas.{code_below, find_called}
use Rattle.katara_call.proofs.RoomLemmas.{below}
use Rattle.katara_call.proofs.finding.call_find.Goals as goal

pub returns : goal.returns
returns c = record {
  ends =
      find_called c.args.taken.words.items c.args.taken.files.files.items c.find_or_prove-status.result c.empty_sink-sink.result.written.items
      c.find_or_prove-status.new.out.written.items c.written.result.items c.line_of-line.result.items c.code.result c.empty_sink-sink.ensures.0
      (ap (λ written. written.items) c.written.ensures) c.code.ensures c.find_or_prove-status.ensures.done;
  status = below _ _ c.code.ensures (code_below c.find_or_prove-status.result);
}
