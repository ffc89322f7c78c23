-- Used inside only.
-- The histories by their stamps, counted.
use Rattle.std.specs.Prelude.{ℕ, ◌^◌, min, List, map, length}
use Rattle.kat_histories.specs.Histories.{stamp_lists}
use Rattle.kat_histories.specs.declared.groups.Group.{Group}
use Rattle.kat_histories.specs.declared.histories.TheConstants.{HISTORY_LIMIT}
use Rattle.kat_histories.specs.declared.stamps.Stamp.{Stamp}

-- in how many ways this many operations can be one of this many calls, up to the limit of histories
abbrev pub ways : ℕ → ℕ → ℕ
ways calls operations = min (calls ^ operations) HISTORY_LIMIT

abbrev pub group_of : ℕ → List Stamp → Group
group_of calls stamps = record { stamps = stamps; count = ways calls (length stamps) }

abbrev pub count_of : Group → ℕ
count_of group = group.count

abbrev pub groups_of : ℕ → List Group
groups_of calls = map (group_of calls) stamp_lists
