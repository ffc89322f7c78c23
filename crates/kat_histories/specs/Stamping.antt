-- Used inside only.
-- Tests of lists of stamps, of which there are few.
use Rattle.std.specs.Prelude.{Bool, true, false, not, ◌&&◌, ◌||◌, ◌==◌, nat_le, List, [], ◌∷◌, length}
use Rattle.std.specs.List.{flat_map, list_all, list_any}
use Rattle.kat_num.specs.declared.values.TheConstants.{NUMBER_LIMIT}
use Rattle.kat_histories.specs.Choices.{one_of_each}
use Rattle.kat_histories.specs.Histories.{stamp_lists, stamps}
use Rattle.kat_histories.specs.Laws.{stamp_cmp}
use Rattle.kat_histories.specs.Orders.{each_pair, is_less}
use Rattle.kat_histories.specs.declared.stamps.Stamp.{Stamp}

abbrev pub is_before : Stamp → Stamp → Bool
is_before some other = is_less (stamp_cmp some other)

abbrev pub is_same_stamp : Stamp → Stamp → Bool
is_same_stamp some other = (some.replica == other.replica) && (some.time == other.time)

abbrev pub are_same_stamps : List Stamp → List Stamp → Bool
are_same_stamps [] [] = true
are_same_stamps (a ∷ ats) (b ∷ others) = is_same_stamp a b && are_same_stamps ats others
are_same_stamps _ _ = false

-- replicas and times are such as operations may have
abbrev pub is_in_range : Stamp → Bool
is_in_range at = nat_le 1 at.replica && (nat_le at.replica 32 && (nat_le 1 at.time && nat_le at.time NUMBER_LIMIT))

-- at most three of the stamps, ascending
abbrev pub is_good : List Stamp → Bool
is_good ats = nat_le (length ats) 3 && (list_all (λ at. list_any (is_same_stamp at) stamps) ats && each_pair is_before ats)

-- if it ascends, it is one of the lists
abbrev pub is_listed : List Stamp → Bool
is_listed ats = not (each_pair is_before ats) || list_any (are_same_stamps ats) stamp_lists

-- all lists of up to three stamps
abbrev pub short_lists : List (List Stamp)
short_lists = flat_map one_of_each ([] ∷ (stamps ∷ []) ∷ (stamps ∷ stamps ∷ []) ∷ (stamps ∷ stamps ∷ stamps ∷ []) ∷ [])
