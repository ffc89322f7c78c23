-- Used inside only.
-- Used by kat_hist: orders of operations, told by their places.
use Rattle.std.specs.Prelude.{ℕ, ◌<◌, ◌≤◌, List, [], map, take, All, length}
use Rattle.std.specs.List.{slice_index_or}
use Rattle.kat_type.specs.declared.done.Done.{Done}

-- the elements at these places
abbrev pub done_of : List Done → ℕ → Done
done_of ones place = slice_index_or ones place (record { replica = 0; time = 0; op = 0; args = [] })

abbrev pub picked : List Done → List ℕ → List Done
picked ones places = map (done_of ones) places

-- as many places as there are operations
abbrev pub ordered : List Done → List ℕ → List Done
ordered ones order = picked ones (take (length ones) order)

abbrev pub AreWithin : List Done → List ℕ → Type 0
AreWithin ones places = All (λ place. place < length ones) places

abbrev pub IsOrderOf : List Done → List ℕ → Type 0
IsOrderOf ones order = (length ones ≤ length order) × AreWithin ones (take (length ones) order)
