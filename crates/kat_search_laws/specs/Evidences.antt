-- The evidence of the search as the lines of a block, and both statements of it.
use Rattle.std.specs.Prelude.{ℕ, List}
use Rattle.kat_block.specs.Blocks.{IsDueIn}
use Rattle.kat_candidate.specs.Candidates.{AreCandidates}
use Rattle.kat_candidate.specs.declared.places.Place1.{Place1}
use Rattle.kat_candidate.specs.declared.places.Place1.TheVariants as theirs
use Rattle.kat_design.specs.Designs.{DesignForm}
use Rattle.kat_drop.specs.Certificates.{AreDrops, DropForm, MayDrop, dropped_by}
use Rattle.kat_drop.specs.Certificates as drop
use Rattle.kat_points.specs.Points.{PointForm}
use Rattle.kat_relation.specs.declared.relations.Conjunct.{Conjunct}
use Rattle.kat_said.specs.Sayings.{IsNarrowSaid, SaidForm}
use Rattle.kat_said.specs.Sayings.SaidForm.{drops, fails, spends, crowds, widens, is_long}
use Rattle.kat_said.specs.declared.said.Place.{Place}
use Rattle.kat_said.specs.declared.said.Place.TheVariants as own
use Rattle.kat_telling.specs.Evidence.{Ending, EndsSo}
use Rattle.kat_telling.specs.Evidence.Ending.{fails as fails_at, is_spent, is_crowded, is_wide, is_long as is_too_long}
use Rattle.kat_type.specs.Types.{TypeForm}
use Rattle.kat_wire.specs.declared.causes.Cause.{Cause}

-- a place, a point, a drop and an ending as a line says them
abbrev pub said_place : Place1 → Place
said_place (theirs.Start j) = own.Start j
said_place (theirs.Step o j) = own.Step o j
said_place (theirs.Query q) = own.Query q

abbrev pub said_point : drop.PointForm → PointForm
said_point p = record { den = p.den; nums = p.nums; truths = p.truths }

abbrev pub said_drop : DropForm → SaidForm
said_drop d = drops (said_place d.at) (said_point d.point)

abbrev pub said_end : Ending → SaidForm
said_end (fails_at query point) = fails query (said_point point)
said_end (is_spent at) = spends (said_place at)
said_end (is_crowded at plus minus rest lits) = crowds (said_place at) plus minus rest lits
said_end (is_wide at left right lits) = widens (said_place at) left right lits
said_end (is_too_long bytes) = is_long bytes

-- the proof's file isn't the reason
abbrev pub IsNotLong : Ending → Type 0
IsNotLong (fails_at query point) = Unit {0}
IsNotLong (is_spent at) = Unit {0}
IsNotLong (is_crowded at plus minus rest lits) = Unit {0}
IsNotLong (is_wide at left right lits) = Unit {0}
IsNotLong (is_too_long bytes) = ⊥

-- a candidate may be dropped if and only if its line is due
abbrev pub DropsAreDue : Type 0
DropsAreDue = (ty : TypeForm) (d : DesignForm) (candidates : List Conjunct) (effort : ℕ) (dropped : List ℕ) (x : DropForm) → MayDrop ty d candidates dropped x → IsDueIn ty d candidates effort dropped (said_drop x)

abbrev pub DueDropsMayDrop : Type 0
DueDropsMayDrop = (ty : TypeForm) (d : DesignForm) (candidates : List Conjunct) (effort : ℕ) (dropped : List ℕ) (x : DropForm) → IsDueIn ty d candidates effort dropped (said_drop x) → MayDrop ty d candidates dropped x

-- an ending of the search is due after its drops, and conversely, except for a file, which isn't in the report
abbrev pub EndingsAreDue : Type 0
EndingsAreDue = (ty : TypeForm) (d : DesignForm) (candidates : List Conjunct) (effort : ℕ) (earlier : List (ℕ × Cause)) (xs : List DropForm) (e : Ending) → AreCandidates ty d candidates
    → EndsSo ty d candidates effort earlier xs e → AreDrops ty d candidates xs × IsDueIn ty d candidates effort (dropped_by xs) (said_end e)

abbrev pub DueEndingsEnd : Type 0
DueEndingsEnd = (ty : TypeForm) (d : DesignForm) (candidates : List Conjunct) (effort : ℕ) (earlier : List (ℕ × Cause)) (xs : List DropForm) (e : Ending) → AreDrops ty d candidates xs → IsNotLong e → IsNarrowSaid (said_end e)
    → IsDueIn ty d candidates effort (dropped_by xs) (said_end e) → EndsSo ty d candidates effort earlier xs e
