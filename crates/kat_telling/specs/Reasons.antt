-- Used inside only.
-- What the reasons of the program stand for.
use Rattle.std.specs.Prelude.{◌≡◌, List}
use Rattle.kat_drop.specs.Certificates.{drops_of, point_form}
use Rattle.kat_drop.specs.declared.drops.Drop1.{Drop1}
use Rattle.kat_candidate.specs.declared.places.Place1.{Place1}
use Rattle.kat_cases.specs.Nodes.{End}
use Rattle.kat_cases.specs.Nodes.End.{spent, at_point, at_rows, at_wide}
use Rattle.kat_telling.specs.Evidence.{Ending, Evidence}
use Rattle.kat_telling.specs.Evidence.Ending.{fails, is_crowded, is_long, is_spent, is_wide}
use Rattle.kat_telling.specs.declared.reasons.Reason.{Reason}
use Rattle.kat_telling.specs.declared.reasons.Reason.TheVariants as reason

abbrev pub ending_of : Reason → Ending
ending_of (reason.Fails query point) = fails query (point_form point)
ending_of (reason.Spent at) = is_spent at
ending_of (reason.Crowded at plus minus rest lits) = is_crowded at plus minus rest lits.items
ending_of (reason.Wide at left right lits) = is_wide at left right lits.items
ending_of (reason.Long bytes) = is_long bytes

abbrev pub evidence_of : List Drop1 → Reason → Evidence
evidence_of drops why = record { drops = drops_of drops; ending = ending_of why }

-- the walk ends so at the place
abbrev pub EndsAt : Place1 → End → Ending → Type 0
EndsAt at spent ending = ending ≡ is_spent at
EndsAt at (at_point den nums truths) ending = ⊥
EndsAt at (at_rows lits plus minus rest) ending = ending ≡ is_crowded at plus minus rest lits
EndsAt at (at_wide lits left right) ending = ending ≡ is_wide at left right lits
