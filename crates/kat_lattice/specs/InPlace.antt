-- Used inside only.
-- What a join of two maps takes before it changes anything, if the values are joined in place.
use Rattle.std.specs.Prelude.{◌≡◌, ℕ, ◌+◌, ◌≤◌, Bool, not, List, [], Option, Some, None, length}
use Rattle.std.specs.declared.cmp.Ordering.{Ordering}
use Rattle.std.specs.List.{filter}
use Rattle.std.specs.Option.{is_some}
use Rattle.kat_join.specs.Keyed.{found, by_key}

-- whether one of the entries has the key of e
abbrev pub has_entry : {K V : Type 0} → (K → K → Ordering) → List (K × V) → K × V → Bool
has_entry cmp entries e = is_some (found (by_key cmp) e entries)

-- the entries of theirs whose keys are new to mine
abbrev pub new_entries : {K V : Type 0} → (K → K → Ordering) → List (K × V) → List (K × V) → List (K × V)
new_entries cmp mine theirs = filter (λ e. not (has_entry cmp mine e)) theirs

-- entries, and for how many there is room
pub record Taken (K V : Type 0) : Type 0 where
  pub entries : List (K × V)
  pub room : ℕ

-- what was staged is what joining theirs to mine needs: nothing if no key is new, or else the new entries, and room for all
abbrev pub IsReady : {K V : Type 0} → (K → K → Ordering) → Option (Taken K V) → List (K × V) → List (K × V) → Type 0
IsReady cmp None mine theirs = new_entries cmp mine theirs ≡ []
IsReady cmp (Some taken) mine theirs =
    (taken.entries ≡ new_entries cmp mine theirs) × (length mine + length taken.entries ≤ taken.room)
