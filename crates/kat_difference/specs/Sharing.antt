-- Used inside only.
-- What a packet carries, what delivering it does, and the operations that a sharer has.
use Rattle.std.specs.Prelude.{◌≡◌, ◌≤◌, ◌<◌, max, List, [], ◌∷◌, ◌++◌, Result, Ok, Err}
use Rattle.kat_lattice.specs.JoinLaws.{IsBelow}
use Rattle.kat_lattice.specs.Tallies.{IsTally, Sums, tallies_joined}
use Rattle.kat_type.specs.Lists.{Has}
use Rattle.kat_type.specs.Unions.{united}
use Rattle.kat_type.specs.declared.done.Done.{Done}
use Rattle.kat_design.specs.Denotations.{denotation_of, design_meaning}
use Rattle.kat_design.specs.Designs.{DesignForm}
use Rattle.kat_design.specs.Parts.{parts_joined}
use Rattle.kat_design.specs.Sorted.{IsWellSorted}
use Rattle.kat_design.specs.declared.states.Part.{Part}
use Rattle.kat_difference.specs.Marks.{AreMarks}
use Rattle.kat_difference.specs.Near.{AreNear, AreTimed}
use Rattle.kat_difference.specs.States.{IsDifference}
use Rattle.kat_difference.specs.declared.sharers.Packet.{Packet}
use Rattle.kat_difference.specs.declared.sharers.Sharer.{Sharer}
use Rattle.kat_difference.specs.declared.sharers.DeliverError.{DeliverError}
use Rattle.kat_difference.specs.declared.sharers.DeliverError.TheVariants.{Gap, Memory}

-- it has clock 0, what the design gives to no operation, and no marks
pub record IsNew (d : DesignForm) (sharer : Sharer) : Type 0 where
  pub clock : sharer.replica.clock ≡ 0
  pub state : sharer.replica.state.parts ≡ denotation_of d []
  pub marks : sharer.marks ≡ []

-- it has the clock and the marks of the whole, the marks of what is known, and the difference of the states
pub record IsMade (start : List Part) (known whole : Sharer) (made : Packet) : Type 0 where
  pub clock : made.clock ≡ whole.replica.clock
  pub base : made.base ≡ known.marks
  pub marks : made.marks ≡ whole.marks
  pub state : IsDifference start known.replica.state.parts whole.replica.state.parts made.state.parts

-- the state with the operation, whose time is the clock and the mark of its replica
pub record HasDone (d : DesignForm) (old : Sharer) (done : Done) (new : Sharer) : Type 0 where
  pub clock : new.replica.clock ≡ done.time
  pub marks : new.marks ≡ tallies_joined old.marks ((done.replica, done.time) ∷ [])
  pub state : new.replica.state.parts ≡ (design_meaning d).added old.replica.state.parts done

-- the greater clock, the greater mark of each replica, and the join of both states
pub record HasMerged (old : Sharer) (packet : Packet) (new : Sharer) : Type 0 where
  pub clock : new.replica.clock ≡ max old.replica.clock packet.clock
  pub marks : new.marks ≡ tallies_joined old.marks packet.marks
  pub state : new.replica.state.parts ≡ parts_joined old.replica.state.parts packet.state.parts

-- a gap is told exactly if the marks from which a packet tells aren't at or below those that are here
abbrev pub TellsGap : {A : Type 0} → Sums → Sums → Result A DeliverError → Type 0
TellsGap base marks (Ok done) = IsBelow tallies_joined base marks
TellsGap base marks (Err Memory) = IsBelow tallies_joined base marks
TellsGap base marks (Err Gap) = IsBelow tallies_joined base marks → ⊥

-- the sharer has these operations: its state is what they give, its marks are theirs, and none is later than its clock
pub record IsShared (d : DesignForm) (sharer : Sharer) (has : List Done) : Type 0 where
  pub timed : AreTimed has
  pub state : sharer.replica.state.parts ≡ denotation_of d has
  pub tally : IsTally sharer.marks
  pub marks : AreMarks sharer.marks has
  pub within : (one : Done) → Has has one → one.time ≤ sharer.replica.clock

-- A new sharer has no operations.
abbrev pub SharersBegin : Type 0
SharersBegin = (d : DesignForm) (sharer : Sharer) → IsNew d sharer → IsShared d sharer []

-- An operation that a sharer does is one more that it has.
abbrev pub SharersAct : Type 0
SharersAct = (d : DesignForm) (old new : Sharer) (has : List Done) (done : Done) → IsWellSorted d → IsShared d old has → old.replica.clock < done.time
    → HasDone d old done new → IsShared d new (has ++ done ∷ [])

-- A packet that isn't refused gives a sharer all operations that its sender had: `mine` are its own, `theirs` those that were known
-- of it, `all` those of the sender.
abbrev pub SharersDeliver : Type 0
SharersDeliver = (d : DesignForm) (old known sender new : Sharer) (packet : Packet) (mine theirs all : List Done) → IsWellSorted d
    → IsShared d old mine → IsShared d known theirs → IsShared d sender all → AreNear theirs mine → AreNear mine all
    → IsMade (denotation_of d []) known sender packet → IsBelow tallies_joined packet.base old.marks → HasMerged old packet new
    → IsShared d new (united mine all)
