-- Evidence that holds, and whose numbers are narrow, as the lines of a block.
use Rattle.std.proofs.Common.{ℕ, List, [], ◌∷◌, ◌++◌, All}
use Rattle.std.proofs.lemmas.List.Elements.{All-head, All-tail}
use Rattle.kat_candidate.specs.Places.{conjunct_at}
use Rattle.kat_candidate.specs.declared.places.Place1.{Place1}
use Rattle.kat_candidate.specs.declared.places.Place1.TheVariants.{Start, Step, Query}
use Rattle.kat_design.specs.Designs.{DesignForm}
use Rattle.kat_drop.specs.Certificates.{DropForm}
use Rattle.kat_relation.specs.declared.relations.Conjunct.{Conjunct}
use Rattle.kat_said.specs.Sayings as said
use Rattle.kat_said.specs.Sayings.{IsNarrowSaid}
use Rattle.kat_telling.specs.Entries.{AreTold, Entry, Told, told_behind}
use Rattle.kat_telling.specs.Entries.Entry.{again, newly, undecided}
use Rattle.kat_telling.specs.Evidence.{Ending, EndsSo}
use Rattle.kat_telling.specs.Evidence.Ending.{fails, is_crowded, is_long, is_spent, is_wide}
use Rattle.kat_telling.specs.Narrow.{AreNarrow, IsNarrowDrop, IsNarrowEnding, IsNarrowPlace}
use Rattle.kat_type.specs.Types.{TypeForm}
use Rattle.kat_wire.specs.declared.causes.Cause.{Cause}
use Rattle.kat_search_laws.specs.Evidences.{said_end, said_place}
use Rattle.kat_search_laws.specs.Reports.{EachLine}
use Rattle.kat_search_laws.proofs.Reading.{AreSeen}

narrow_place : (at : Place1) → IsNarrowPlace at → said.IsNarrowPlace (said_place at)
narrow_place (Start conjunct) is = is
narrow_place (Step op conjunct) is = is
narrow_place (Query query) is = is

-- the two numbers of a `wide` line, known from evidence that holds
narrow_end : (ty : TypeForm) (d : DesignForm) (cs : List Conjunct) (effort : ℕ) (earlier : List (ℕ × Cause)) (xs : List DropForm) (e : Ending) → EndsSo ty d cs effort earlier xs e → IsNarrowEnding e
    → IsNarrowSaid (said_end e)
narrow_end ty d cs effort earlier xs (fails query point) ends is = is
narrow_end ty d cs effort earlier xs (is_spent at) ends is = narrow_place at is
narrow_end ty d cs effort earlier xs (is_crowded at plus minus rest lits) ends is = (narrow_place at is.0, is.1, is.2)
narrow_end ty d cs effort earlier xs (is_wide at left right lits) ends is = (narrow_place at is.0, (ends.1, ends.2), is.1)
narrow_end ty d cs effort earlier xs (is_long bytes) ends is = is

narrow_lines : (ns : List ℕ) (xs : List DropForm) (e : Ending) → All IsNarrowDrop xs → IsNarrowSaid (said_end e) → EachLine (λ dropped said. IsNarrowSaid said) ns xs e
narrow_lines ns [] e all is = is
narrow_lines ns (x ∷ xs) e all is = (narrow_place x.at (All-head IsNarrowDrop x xs all), narrow_lines (ns ++ conjunct_at x.at) xs e (All-tail IsNarrowDrop x xs all) is)

pub narrow_seen : (ty : TypeForm) (effort : ℕ) (told : Told) (es : List Entry) → AreTold ty effort told es → AreNarrow es → AreSeen (λ d cs ns said. IsNarrowSaid said) ty es
narrow_seen ty effort told [] so all = tt
narrow_seen ty effort told (again d place ∷ es) so all = (tt, narrow_seen ty effort (told_behind told (again d place)) es so.1 all.1)
narrow_seen ty effort told (newly d h ∷ es) so all = (tt, narrow_seen ty effort (told_behind told (newly d h)) es so.1 all.1)
narrow_seen ty effort told (undecided d evidence ∷ es) so all =
    let stands = so.0.1 in
    let last = narrow_end ty d stands.candidates effort told.passed evidence.drops evidence.ending stands.ends all.0.ending in
    (λ candidates are. narrow_lines [] evidence.drops evidence.ending all.0.drops last, narrow_seen ty effort (told_behind told (undecided d evidence)) es so.1 all.1)
