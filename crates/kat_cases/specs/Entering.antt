-- Used inside only.
-- What becomes of a literal that is assumed.
use Rattle.std.specs.Prelude.{◌≡◌, ℕ, ℤ, neg_ℤ, [], ◌∷◌, ◌++◌, Option, Some, None}
use Rattle.std.specs.List.{Contains}
use Rattle.kat_watch.specs.Watched.{Watched, literals}

-- nothing, after a clash, or if it is assigned already; a clash, if its opposite is; or it is assigned
pub data Entered (old new : Watched) (clash clash' : Option ℕ) (l : ℤ) (n : ℕ) : Type 0 where
  behind : (c : ℕ) → clash ≡ Some c → clash' ≡ Some c → new ≡ old → Entered old new clash clash' l n
  again : clash ≡ None → clash' ≡ None → new ≡ old → Contains (literals old.trail) l → Entered old new clash clash' l n
  clashes : clash ≡ None → clash' ≡ Some n → new ≡ old → Contains (literals old.trail) (neg_ℤ l) → Entered old new clash clash' l n
  assumes : clash ≡ None → clash' ≡ None → new ≡ record old { trail = old.trail ++ record { literal = l; reason = None } ∷ [] } → Entered old new clash clash' l n
