-- Used inside only.
-- A listing as a stream of designs.
use Rattle.std.specs.Prelude.{◌≡◌, ◌≢◌, ℕ, zero, suc, ◌≤◌, List, [], ◌∷◌, ◌++◌, map, length, Option, None, Some, slice_get}
use Rattle.kat_design.specs.Designs.{DesignForm}
use Rattle.kat_decoding.specs.Decoded.{decoded}
use Rattle.kat_rules.specs.declared.constants.Setting.{Setting}
use Rattle.kat_rules.specs.declared.tokens.Token.{Token}

-- what contracts see of a listing: the token lists of the designs that were given, and of those that are still to be given
pub record Stream : Type 0 where
  pub setting : Setting
  pub given : List (List Token)
  pub left : List (List Token)

-- all designs of a listing in their order, those that were given, and those that are still to be given
abbrev pub designs_of : Stream → List DesignForm
designs_of g = map (decoded g.setting) (g.given ++ g.left)

abbrev pub given_of : Stream → List DesignForm
given_of g = map (decoded g.setting) g.given

abbrev pub to_come : Stream → List DesignForm
to_come g = map (decoded g.setting) g.left

-- the first of those to come was given, and the others are still to come; nothing is given only at the end
abbrev pub GivesNext : {A : Type 0} → List A → List A → Option A → Type 0
GivesNext old new None = (old ≡ []) × (new ≡ [])
GivesNext old new (Some d) = old ≡ d ∷ new

-- with what was given after what was given before
abbrev pub with_next : {A : Type 0} → List A → Option A → List A
with_next xs None = xs
with_next xs (Some d) = xs ++ d ∷ []

-- the last element; none if and only if there is none
abbrev pub IsLast : {A : Type 0} → Option A → List A → Type 0
IsLast None xs = xs ≡ []
IsLast {A} (Some d) xs = (front : List A) × (xs ≡ front ++ d ∷ [])

-- the element of that number, from 1
abbrev pub numbered : {A : Type 0} → ℕ → List A → Option A
numbered zero xs = None
numbered (suc n) xs = slice_get xs n

-- no design with a greater number is given, nor gone on after
abbrev pub last_number : ℕ
last_number = 1000001

-- a listing of these designs that was gone through up to one of them; none if and only if they don't have it, or have it with a
-- greater number
abbrev pub IsResumed : List DesignForm → DesignForm → Option Stream → Type 0
IsResumed designs d None = (number : ℕ) → number ≤ last_number → numbered number designs ≢ Some d
IsResumed designs d (Some g) = (designs_of g ≡ designs) × IsLast (Some d) (given_of g) × (length (given_of g) ≤ last_number)
