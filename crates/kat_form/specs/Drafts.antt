-- Used inside only.
-- The keys of an encoding in the making.
use Rattle.std.specs.Prelude.{◌≡◌, ℕ, ◌<◌, List, length, map, slice_index_or}
use Rattle.kat_linear.specs.Rows.{form_of}
use Rattle.kat_form.specs.declared.draft.Key.{Key}
use Rattle.kat_form.specs.declared.draft.Key.TheVariants.{Truth, Atom, Gate}
use Rattle.kat_form.specs.Encodings.{Sense}
use Rattle.kat_form.specs.Encodings.Sense.{truth, atom, gate}

-- what a key stands for
abbrev pub sense_in : Key → Sense
sense_in (Truth v) = truth v
sense_in (Atom row) = atom (form_of row)
sense_in (Gate n) = gate

abbrev pub senses_in : List Key → List Sense
senses_in keys = map sense_in keys

-- each gate has its own place, so that no two gates are equal keys
abbrev pub AreNumbered : List Key → Type 0
AreNumbered keys = (i n : ℕ) (d : Key) → i < length keys → slice_index_or keys i d ≡ Gate n → n ≡ i
