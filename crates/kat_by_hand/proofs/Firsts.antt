-- A first place is one of the list.
use Rattle.std.proofs.Common.{ℕ, ◌<◌, List, Some, length}
use Rattle.std.proofs.lemmas.Option.{slice_get_within}
use Rattle.kat_hist.specs.Firsts.{IsFirstPlace}

pub first_within : {X : Type 0} (Fact : X → Type 0) (xs : List X) (place : ℕ) → IsFirstPlace Fact xs (Some place) → place < length xs
first_within Fact xs place first = slice_get_within xs place first.0.0 first.0.1
