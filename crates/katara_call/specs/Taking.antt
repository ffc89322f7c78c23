-- Used inside only.
-- The files and the place for output of a call, before it.
use Rattle.std.specs.Prelude.{◌≡◌, ℕ, List, []}
use Rattle.kat_io.specs.declared.memory.MemFiles.{MemFiles}
use Rattle.kat_io.specs.declared.memory.MemSink.{MemSink}
use Rattle.katara_call.specs.Passed.{ArePassed, Passed}
use Rattle.katara_call.specs.declared.passing.Taken.{Taken}

-- no read is to fail, and none did
abbrev pub IsFresh : MemFiles → Type 0
IsFresh files = (files.failing.items ≡ []) × (files.faults ≡ 0)

-- nothing was written, and no write failed
abbrev pub IsEmpty : MemSink → Type 0
IsEmpty sink = (sink.written.items ≡ []) × (sink.faults ≡ 0)

-- these are the words and files that are passed, and no read is to fail
pub record IsTaken (passed : Passed) (taken : Taken) : Type 0 where
  pub are : ArePassed passed taken.words.items taken.files.files.items
  pub fresh : IsFresh taken.files
