-- Used inside only.
-- What a merge of two ascending lists asks.
use Rattle.std.specs.Prelude.{◌≡◌, ℕ, ◌<◌, List, length, slice_index_or}
use Rattle.std.specs.declared.cmp.Ordering.{Ordering}
use Rattle.std.specs.declared.cmp.Ordering.TheVariants.{Equal}
use Rattle.kat_join.specs.Keyed.{IsAscending}

-- keys that compare equal are one key: the order reads the whole key
abbrev pub TellsApart : {K : Type 0} → (K → K → Ordering) → Type 0
TellsApart {K} cmp = (x y : K) → cmp x y ≡ Equal → x ≡ y

-- any two values go together
abbrev pub any_two : {L : Type 0} → L → L → Type 0
any_two a b = Unit {0}

-- two ascending lists of entries, each of which may be merged with each of the other list
pub record Mergeable {E : Type 0} (cmp : E → E → Ordering) (kin : E → E → Type 0) (xs ys : List E) : Type 0 where
  pub left : IsAscending cmp xs
  pub right : IsAscending cmp ys
  pub each : (i j : ℕ) (d e : E) → i < length xs → j < length ys → kin (slice_index_or xs i d) (slice_index_or ys j e)

-- two keys of sets may be merged if keys that compare equal are one key
abbrev pub keys_kin : {K : Type 0} → (K → K → Ordering) → K → K → Type 0
keys_kin cmp x y = TellsApart cmp

-- two entries of maps, if besides their values go together
abbrev pub values_kin : {K V : Type 0} → (K → K → Ordering) → (V → V → Type 0) → K × V → K × V → Type 0
values_kin cmp kin x y = TellsApart cmp × kin x.1 y.1
