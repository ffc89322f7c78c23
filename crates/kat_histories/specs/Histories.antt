-- The histories of a type: every way in which two replicas do up to three operations at times 1 to 3.
use Rattle.std.specs.Prelude.{ℕ, ◌≤◌, List, [], ◌∷◌, ◌++◌, length, map, take, All}
use Rattle.std.specs.List.{flat_map}
use Rattle.kat_design.specs.Fitting.{FitsSignature}
use Rattle.kat_type.specs.Lists.{IsOnce}
use Rattle.kat_type.specs.declared.done.Done.{Done}
use Rattle.kat_type.specs.declared.signatures.Signature.{Signature}
use Rattle.kat_histories.specs.Choices.{one_of_each, some_of}
use Rattle.kat_histories.specs.Pools.{calls_of}
use Rattle.kat_histories.specs.declared.calls.Call.{Call}
use Rattle.kat_histories.specs.declared.histories.History.{History}
use Rattle.kat_histories.specs.declared.histories.TheConstants.{HISTORY_LIMIT}
use Rattle.kat_histories.specs.declared.stamps.Stamp.{Stamp}

abbrev pub stamp : ℕ → ℕ → Stamp
stamp replica time = record { replica = replica; time = time }

-- where and when operations are done, in order
unfoldable pub stamps : List Stamp
stamps = stamp 1 1 ∷ stamp 2 1 ∷ stamp 1 2 ∷ stamp 2 2 ∷ stamp 1 3 ∷ stamp 2 3 ∷ []

-- none to three of them, ascending: by their number, and then lexicographically
unfoldable pub stamp_lists : List (List Stamp)
unfolding stamps
stamp_lists = some_of 0 stamps ++ some_of 1 stamps ++ some_of 2 stamps ++ some_of 3 stamps

abbrev pub done_at : Stamp → Call → Done
done_at at call = record { replica = at.replica; time = at.time; op = call.number; args = call.args }

-- what may be done there and then
abbrev pub dones_at : List Call → Stamp → List Done
dones_at calls at = map (done_at at) calls

abbrev pub history_of : List Done → History
history_of ops = record { ops = ops }

-- the histories with one of these calls at each of the stamps
abbrev pub histories_at : List Call → List Stamp → List History
histories_at calls ats = map history_of (one_of_each (map (dones_at calls) ats))

-- all histories with these calls: by their number of operations, then by stamps, then by calls
abbrev pub all_histories : List Call → List History
all_histories calls = flat_map (histories_at calls) stamp_lists

-- the histories of a type that are looked at: all of them, up to a limit
abbrev pub histories : Signature → List History
histories sig = take HISTORY_LIMIT (all_histories (calls_of sig))

abbrev pub IsTimed : Done → Type 0
IsTimed done = 1 ≤ done.time

-- at most three operations of the signature, each there once, at times above 0
pub record FitsHistory (sig : Signature) (history : History) : Type 0 where
  pub few : length history.ops ≤ 3
  pub once : IsOnce history.ops
  pub fits : All (FitsSignature sig) history.ops
  pub timed : All IsTimed history.ops
