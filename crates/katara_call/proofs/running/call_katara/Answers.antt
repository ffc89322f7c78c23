use Rattle.std.proofs.Common.{ℕ, ◌<◌, ap, inl, inr, lit<, subst, sym}
use Rattle.katara_call.proofs.KataraLemmas.{code_below, katara_called}
use Rattle.katara_call.proofs.RoomLemmas.{below}
use Rattle.katara_call.proofs.running.call_katara.Goals as goal

pub returns-in-Some : goal.returns-in-Some
returns-in-Some c = record {
  ends =
      inl (katara_called c.args.taken.words.items c.as_slice-words.result.now c.args.taken.files.files.items c.in-Some.status
      c.empty_sink-sink.result.written.items c.run_katara.new.sink.written.items c.written.result.items c.line_of-line.result.items c.code.result
      c.as_slice-words.ensures.value c.empty_sink-sink.ensures.0 (ap (λ written. written.items) c.written.ensures) c.code.ensures c.line_of-line.ensures
      c.in-Some.ensures);
  status = below _ _ c.code.ensures (code_below c.in-Some.status);
}

pub returns : goal.returns
returns c = record {
  ends = inr c.no_memory.ensures;
  status = below _ 7 c.no_memory.ensures.coded (lit< tt);
}
