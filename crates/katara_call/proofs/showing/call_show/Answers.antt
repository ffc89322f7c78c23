use Rattle.std.proofs.Common.{ap}
use Rattle.katara_call.proofs.RoomLemmas.{below}
use Rattle.katara_call.proofs.ShowLemmas.{code_below, show_called}
use Rattle.katara_call.proofs.showing.call_show.Goals as goal

pub returns : goal.returns
returns c = record {
  ends =
      show_called c.args.taken.words.items c.as_slice-words.result.now c.args.taken.files.files.items c.show-status.result
      c.empty_sink-sink.result.written.items c.show-status.new.out.written.items c.written.result.items c.line_of-line.result.items c.code.result
      c.as_slice-words.ensures.value c.empty_sink-sink.ensures.0 (ap (λ written. written.items) c.written.ensures) c.code.ensures
      c.show-status.ensures.done;
  status = below _ _ c.code.ensures (code_below c.show-status.result);
}
