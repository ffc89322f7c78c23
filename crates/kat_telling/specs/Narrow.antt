-- No number of what is told passes 2^126. Of those of points and of the two of a `wide` line it isn't asked here: it follows from evidence
-- that holds (`IsDecisive` of kat_cases, `EndsSo`).
use Rattle.std.specs.Prelude.{◌≤◌, ◌^◌, List, [], ◌∷◌}
use Rattle.std.specs.List.{All}
use Rattle.kat_candidate.specs.declared.places.Place1.{Place1}
use Rattle.kat_candidate.specs.declared.places.Place1.TheVariants.{Start, Step, Query}
use Rattle.kat_drop.specs.Certificates.{DropForm}
use Rattle.kat_telling.specs.Entries.{Entry}
use Rattle.kat_telling.specs.Entries.Entry.{again, newly, undecided}
use Rattle.kat_telling.specs.Evidence.{Ending, Evidence, IsNarrow}
use Rattle.kat_telling.specs.Evidence.Ending.{fails, is_crowded, is_long, is_spent, is_wide}

-- the numbers of a place
abbrev pub IsNarrowPlace : Place1 → Type 0
IsNarrowPlace (Start conjunct) = conjunct ≤ 2 ^ 126
IsNarrowPlace (Step op conjunct) = (op ≤ 2 ^ 126) × (conjunct ≤ 2 ^ 126)
IsNarrowPlace (Query query) = query ≤ 2 ^ 126

-- of a candidate that was dropped, which is followed by a point
abbrev pub IsNarrowDrop : DropForm → Type 0
IsNarrowDrop drop = IsNarrowPlace drop.at

-- of an ending: the query, the place, the three counts, the literals, or the bytes
abbrev pub IsNarrowEnding : Ending → Type 0
IsNarrowEnding (fails query point) = query ≤ 2 ^ 126
IsNarrowEnding (is_spent place) = IsNarrowPlace place
IsNarrowEnding (is_crowded place plus minus rest lits) = IsNarrowPlace place × ((plus ≤ 2 ^ 126) × (minus ≤ 2 ^ 126) × (rest ≤ 2 ^ 126)) × All IsNarrow lits
IsNarrowEnding (is_wide place left right lits) = IsNarrowPlace place × All IsNarrow lits
IsNarrowEnding (is_long bytes) = bytes ≤ 2 ^ 126

-- of evidence
pub record IsNarrowEvidence (evidence : Evidence) : Type 0 where
  pub drops : All IsNarrowDrop evidence.drops
  pub ending : IsNarrowEnding evidence.ending

-- of what is reported of a design, and of several
abbrev pub IsNarrowEntry : Entry → Type 0
IsNarrowEntry (again d place) = Unit {0}
IsNarrowEntry (newly d history) = Unit {0}
IsNarrowEntry (undecided d evidence) = IsNarrowEvidence evidence

abbrev pub AreNarrow : List Entry → Type 0
AreNarrow [] = Unit {0}
AreNarrow (e ∷ es) = IsNarrowEntry e × AreNarrow es
