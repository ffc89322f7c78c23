-- What a state of a design has that a known one lacks.
use Rattle.std.specs.Prelude.{◌≡◌, List, [], ◌∷◌}
use Rattle.std.specs.List.{AllByRecursion}
use Rattle.kat_lattice.specs.JoinLaws.{IsBelow}
use Rattle.kat_shape.specs.Forms.{IsChainForm}
use Rattle.kat_shape.specs.Values.{shape_of}
use Rattle.kat_design.specs.Meanings.{are_kin}
use Rattle.kat_design.specs.Parts.{PartsKin, part_joined, parts_joined}
use Rattle.kat_design.specs.declared.states.Part.{Part}
use Rattle.kat_design.specs.declared.states.Part.TheVariants as part
use Rattle.kat_difference.specs.Differences.{IsFrom, IsLeast}
use Rattle.kat_difference.specs.Pieces.{AreEntriesOf, IsPieceOfMap, IsPieceOrStart, IsWhole}

-- of this part differences are the least: cells whose shape is a chain, tables of such cells, sets and tallies
abbrev pub IsExact : Part → Type 0
IsExact (part.Cell a) = IsChainForm (shape_of a)
IsExact (part.Table m) = IsChainForm (shape_of m.start)
IsExact _ = Unit {0}

-- what is told of a part is made of it: the cell or the one at the start, some entries of a table, some keys, some sums
abbrev pub IsPieceOfPart : Part → Part → Part → Type 0
IsPieceOfPart (part.Cell start) (part.Cell cell) (part.Cell told) = IsPieceOrStart IsWhole start cell told
IsPieceOfPart (part.Table _) (part.Table table) (part.Table told) = IsPieceOfMap IsWhole table told
IsPieceOfPart (part.Set _) (part.Set keys) (part.Set told) = AreEntriesOf keys told
IsPieceOfPart (part.Tally _) (part.Tally sums) (part.Tally told) = AreEntriesOf sums told
IsPieceOfPart (part.Tallies _) (part.Tallies table) (part.Tallies told) = IsPieceOfMap AreEntriesOf table told
IsPieceOfPart _ _ _ = ⊥

-- part by part
abbrev pub ArePieces : List Part → List Part → List Part → Type 0
ArePieces [] [] [] = Unit {0}
ArePieces (start ∷ starts) (whole ∷ wholes) (told ∷ tolds) = IsPieceOfPart start whole told × ArePieces starts wholes tolds
ArePieces _ _ _ = ⊥

-- What is told goes with what is known, and joined to it gives what the whole gives there; it is made of the whole. If both are at or
-- above the start, it is the start as soon as the whole is known; and it is the least that does so much, if a cell's shape is a chain
-- (a pair is told whole).
pub record IsPartTold (start known whole told : Part) : Type 0 where
  pub goes : PartsKin known told
  pub same : part_joined known told ≡ part_joined known whole
  pub piece : IsPieceOfPart start whole told
  pub nothing : IsFrom PartsKin part_joined start known → IsFrom PartsKin part_joined start whole → IsBelow part_joined whole known → told ≡ start
  pub least : IsExact start → IsFrom PartsKin part_joined start known → IsFrom PartsKin part_joined start whole
      → IsLeast PartsKin part_joined start known whole told

-- the same of whole states
pub record IsDifference (start known whole told : List Part) : Type 0 where
  pub goes : are_kin PartsKin known told
  pub same : parts_joined known told ≡ parts_joined known whole
  pub pieces : ArePieces start whole told
  pub nothing : IsFrom (are_kin PartsKin) parts_joined start known → IsFrom (are_kin PartsKin) parts_joined start whole
      → IsBelow parts_joined whole known → told ≡ start
  pub least : AllByRecursion IsExact start → IsFrom (are_kin PartsKin) parts_joined start known
      → IsFrom (are_kin PartsKin) parts_joined start whole → IsLeast (are_kin PartsKin) parts_joined start known whole told

-- used inside only: what a design gives to no operation, so that nothing is in it that needn't be told
abbrev pub IsBegun : Part → Type 0
IsBegun (part.Cell a) = Unit {0}
IsBegun (part.Table m) = m.entries ≡ []
IsBegun (part.Set keys) = keys ≡ []
IsBegun (part.Tally sums) = sums ≡ []
IsBegun (part.Tallies m) = (m.entries ≡ []) × (m.start ≡ [])

-- used inside only: part by part
abbrev pub ToldEach : List Part → List Part → List Part → List Part → Type 0
ToldEach [] knowns wholes tolds = tolds ≡ []
ToldEach (start ∷ starts) (known ∷ knowns) (whole ∷ wholes) (told ∷ tolds) = IsPartTold start known whole told × ToldEach starts knowns wholes tolds
ToldEach (start ∷ starts) _ _ _ = ⊥
