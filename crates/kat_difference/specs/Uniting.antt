-- Used inside only.
-- What a difference gives to a replica that merges it.
use Rattle.std.specs.Prelude.{◌≡◌, List, []}
use Rattle.kat_lattice.specs.JoinLaws.{IsBelow}
use Rattle.kat_lattice.specs.Tallies.{Sums, TalliesKin, tallies_joined}
use Rattle.kat_design.specs.Denotations.{denotation_of}
use Rattle.kat_design.specs.Designs.{DesignForm}
use Rattle.kat_design.specs.Parts.{parts_joined}
use Rattle.kat_design.specs.Sorted.{IsWellSorted}
use Rattle.kat_design.specs.declared.states.Part.{Part}
use Rattle.kat_type.specs.Lists.{Has, IsOnce}
use Rattle.kat_type.specs.Unions.{AreNested, united}
use Rattle.kat_type.specs.declared.done.Done.{Done}
use Rattle.kat_difference.specs.Marks.{AreMarks}
use Rattle.kat_difference.specs.Near.{AreNear, AreTimed}
use Rattle.kat_difference.specs.States.{IsDifference}

-- Joined to the state of a replica that has all operations that are known, a difference gives what these operations and those of
-- the whole state give.
abbrev pub DifferencesUnite : Type 0
DifferencesUnite = (d : DesignForm) (known whole peer : List Done) (told : List Part) → IsWellSorted d → IsOnce known → IsOnce whole → IsOnce peer → AreNested peer whole
    → ((one : Done) → Has known one → Has peer one)
    → IsDifference (denotation_of d []) (denotation_of d known) (denotation_of d whole) told
    → parts_joined (denotation_of d peer) told ≡ denotation_of d (united peer whole)

-- Marks that are at or below a replica's tell that it has all operations that they are of.
abbrev pub MarksTellOperations : Type 0
MarksTellOperations = (known peer : List Done) (base marks : Sums) → AreTimed known → AreNear known peer → TalliesKin base marks → AreMarks base known → AreMarks marks peer → IsBelow tallies_joined base marks
    → (one : Done) → Has known one → Has peer one

-- The marks of two lists, joined, are those of both together.
abbrev pub MarksUnite : Type 0
MarksUnite = (xs ys : List Done) (marks others : Sums) → TalliesKin marks others → AreMarks marks xs → AreMarks others ys → AreMarks (tallies_joined marks others) (united xs ys)
