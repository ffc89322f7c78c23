-- Used inside only.
-- Of what a difference is made: a difference has keys, sums and values of what it is the difference of, and makes no others.
use Rattle.std.specs.Prelude.{◌≡◌, ◌⊎◌, List}
use Rattle.std.specs.List.{AllByRecursion}
use Rattle.kat_lattice.specs.Maps.{Table}
use Rattle.kat_lattice.specs.declared.parts.Pair.{Pair}
use Rattle.kat_type.specs.Lists.{Has}

-- the value whole
abbrev pub IsWhole : {L : Type 0} → L → L → Type 0
IsWhole value told = told ≡ value

-- keys of the set, or sums of the tally
abbrev pub AreEntriesOf : {E : Type 0} → List E → List E → Type 0
AreEntriesOf entries told = AllByRecursion (Has entries) told

-- the entry has the key of one of the entries, and a piece of its value
pub record IsPieceOfOne {K V : Type 0} (is_piece : V → V → Type 0) (entries : List (K × V)) (told : K × V) : Type 0 where
  pub entry : K × V
  pub has : Has entries entry
  pub key : told.0 ≡ entry.0
  pub value : is_piece entry.1 told.1

-- the map's start, and pieces of its entries
pub record IsPieceOfMap {K V : Type 0} (is_piece : V → V → Type 0) (map told : Table K V) : Type 0 where
  pub start : told.start ≡ map.start
  pub entries : AllByRecursion (IsPieceOfOne is_piece map.entries) told.entries

-- a piece of a part, or the start's part
abbrev pub IsPieceOrStart : {L : Type 0} → (L → L → Type 0) → L → L → L → Type 0
IsPieceOrStart is_piece start value told = is_piece value told ⊎ (told ≡ start)

-- of each part such a piece
pub record IsPieceOfPair {A B : Type 0} (is_piece_a : A → A → A → Type 0) (is_piece_b : B → B → B → Type 0) (start value told : Pair A B) : Type 0 where
  pub first : IsPieceOrStart (is_piece_a start.first) start.first value.first told.first
  pub second : IsPieceOrStart (is_piece_b start.second) start.second value.second told.second
