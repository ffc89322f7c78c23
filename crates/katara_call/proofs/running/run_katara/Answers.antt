use Rattle.std.proofs.Common.{inl, inr}
use Rattle.kat_cli.specs.Outcome.{of_paths}
use Rattle.kat_passed.specs.Passing.{told_in}
use Rattle.kat_words.specs.Words.{command_of, paths_of, texts}
use Rattle.katara_call.proofs.KataraLemmas.{complete_so, never_write_fault, rose_not, some_same, untold}
use Rattle.katara_call.proofs.running.run_katara.Goals as goal

pub returns-then-is_told : goal.returns-then-is_told
returns-then-is_told c =
    let said = c.katara-status.ensures in
    let fresh = c.requires.fresh in
    let empty = c.requires.empty in
    let quiet = c.is_told.ensures.writes c.if-is_told.true in
    record {
      answers = said.answers;
      usage = said.usage;
      unasked = λ none. ((said.unasked none).0, some_same c.katara-status.new.out.written.items c.args.sink.now.written.items (said.unasked none).1);
      ended = said.ended;
      refused = said.refused;
      proof_refused = said.proof_refused;
      read_fault = λ file is. untold c.args.files.now (paths_of (texts c.args.words.now)) file fresh.0 (said.read_fault file is).1;
      no_write_fault = λ is.
          never_write_fault (command_of (texts c.args.words.now)) c.katara-status.result is (λ none. (said.unasked none).0)
          (λ command asked. rose_not c.args.sink.now.faults c.katara-status.new.out.faults empty.1 quiet (said.write_fault command asked is).0);
      memory = λ command asked is. elim (said.memory command asked is) [
        | inl same ↦ inl (some_same c.katara-status.new.out.written.items c.args.sink.now.written.items same)
        | inr wrote ↦ inr wrote
      ];
      untouched = λ leaves. some_same c.katara-status.new.out.written.items c.args.sink.now.written.items (said.untouched leaves);
      complete = λ command bytes asked are.
          complete_so command bytes (of_paths (told_in c.args.files.now.files.items) c.args.words.now) c.katara-status.result
          c.katara-status.new.files.faults are
          (λ file is. untold c.args.files.now (paths_of (texts c.args.words.now)) file fresh.0 (said.read_fault file is).1)
          (c.is_told.ensures.reads c.if-is_told.true)
          (λ none. said.complete command bytes asked are (rose_not c.args.files.now.faults c.katara-status.new.files.faults fresh.1 none)
          (rose_not c.args.sink.now.faults c.katara-status.new.out.faults empty.1 quiet));
    }
