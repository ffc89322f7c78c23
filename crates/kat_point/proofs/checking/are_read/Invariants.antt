use Rattle.std.proofs.Common.{ℕ, ◌<◌, false}
use Rattle.std.specs.Prelude.{slice_index_or}
use Rattle.kat_form.specs.Encodings.{senses_of}
use Rattle.kat_form.specs.Encodings.Sense.{gate}
use Rattle.kat_point.specs.Values.{IsRead, number_at}
use Rattle.kat_point.proofs.checking.are_read.Given as goal

abbrev pub invariant-loop-i : goal.invariant-loop-i
invariant-loop-i l = (k : ℕ) → k < l.i → IsRead (number_at l.nums) (slice_index_or l.values k false) (slice_index_or (senses_of l.meanings) k gate)
