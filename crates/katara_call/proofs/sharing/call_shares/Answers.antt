use Rattle.std.proofs.Common.{ap}
use Rattle.katara_call.proofs.RoomLemmas.{below}
use Rattle.katara_call.proofs.ShareLemmas.{code_below, shares_called}
use Rattle.katara_call.proofs.sharing.call_shares.Goals as goal

pub returns : goal.returns
returns c = record {
  ends =
      shares_called c.args.taken.words.items c.as_slice-words.result.now c.args.taken.files.files.items c.share_nodes-status.result
      c.empty_sink-sink.result.written.items c.share_nodes-status.new.out.written.items c.written.result.items c.line_of-line.result.items c.code.result
      c.as_slice-words.ensures.value c.empty_sink-sink.ensures.0 (ap (λ written. written.items) c.written.ensures) c.code.ensures
      c.share_nodes-status.ensures.done c.share_nodes-status.ensures.gap c.share_nodes-status.ensures.untouched;
  status = below _ _ c.code.ensures (code_below c.share_nodes-status.result);
}
