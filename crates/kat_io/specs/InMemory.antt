-- Used inside only.
-- The exact rule of the files and the sink in memory: which call fails, and what a call counts.
use Rattle.std.specs.Prelude.{◌≡◌, ℕ, ◌+◌, ◌-◌, ◌^◌, Bool, true, false, List, length, min, ◌==◌, Option, is_some, find, String, Vec, Result, Ok, Err, ◌||◌, ◌&&◌, not}
use Rattle.std.specs.Option.{option_map}
use Rattle.std.specs.List.{list_any}
use Rattle.std.specs.Str.{bytes_eq}
use Rattle.std.specs.String.{string_bytes}
use Rattle.std.specs.Global.{Global}
use Rattle.kat_io.specs.declared.memory.MemFiles.{MemFiles}
use Rattle.kat_io.specs.declared.memory.MemSink.{MemSink}
use Rattle.kat_io.specs.declared.outside.ReadEnd.{ReadEnd}
use Rattle.kat_io.specs.declared.outside.ReadError.{ReadError}
use Rattle.kat_io.specs.declared.outside.ReadError.TheVariants as reading
use Rattle.kat_io.specs.declared.outside.WriteError.{WriteError}
use Rattle.kat_io.specs.declared.outside.WriteError.TheVariants as writing

-- the bytes at a path: those of the first entry that has it
abbrev pub held : List (String Global × Vec ℕ Global) → List ℕ → Option (List ℕ)
held files path = option_map (λ entry. entry.1.items) (find (λ entry. bytes_eq (string_bytes entry.0) path) files)

-- one more, up to the greatest number of 64 bits
abbrev pub one_more : ℕ → ℕ
one_more n = min (n + 1) (2 ^ 64 - 1)

-- after this many calls, the next one is among those that fail
abbrev pub is_next_failing : ℕ → List ℕ → Bool
is_next_failing calls failing = list_any (λ n. n == one_more calls) failing

-- the next read fails
abbrev pub is_read_failing : MemFiles → List ℕ → Bool
is_read_failing files path = is_next_failing files.calls files.failing.items || not (is_some (held files.files.items path))

-- a path is sure if it is in the files and no call is to fail
abbrev pub is_sure : MemFiles → List ℕ → Bool
is_sure files path = is_some (held files.files.items path) && (length files.failing.items == 0)

-- a read fails if and only if its number or its path is to fail, and what it counts
abbrev pub CountsRead : MemFiles → MemFiles → List ℕ → Result ReadEnd ReadError → Type 0
CountsRead old new path (Ok end) = (is_read_failing old path ≡ false) × (new ≡ record old { calls = one_more old.calls })
CountsRead old new path (Err reading.Failed) = (is_read_failing old path ≡ true)
    × (new ≡ record old { calls = one_more old.calls; faults = one_more old.faults })
CountsRead old new path (Err reading.Memory) = (is_read_failing old path ≡ false) × (new ≡ old)

-- a write fails if and only if its number is to fail, and what it counts
abbrev pub CountsWrite : MemSink → MemSink → Result (Unit {0}) WriteError → Type 0
CountsWrite old new (Ok done) = (is_next_failing old.calls old.failing.items ≡ false)
    × (new ≡ record old { written = new.written; calls = one_more old.calls })
CountsWrite old new (Err writing.Failed) = (is_next_failing old.calls old.failing.items ≡ true)
    × (new ≡ record old { calls = one_more old.calls; faults = one_more old.faults })
CountsWrite old new (Err writing.Memory) = (is_next_failing old.calls old.failing.items ≡ false)
    × (new ≡ record old { written = new.written }) × (new.written.items ≡ old.written.items)
