-- A conjunct or a line that begins with no known word.
use Rattle.std.proofs.Common.{ℕ, ◌≡◌, List, [], ◌∷◌, refl, None, sym, Some}
use Rattle.kat_design.specs.Faults.{first_of, within}
use Rattle.serde_json.specs.Data.{Data}
use Rattle.kat_wire.specs.FileFaults.{conjunct_parts_faults, line_parts_faults, line_faults}
use Rattle.kat_json.specs.Lists.{tag_of, list_of}
use Rattle.kat_wire.specs.Words.{conjunct_words}
use Rattle.kat_json.specs.Words.{spelled}
use Rattle.kat_wire.specs.declared.tags.LineTag.{LineTag}

-- conjuncts and lines
pub unknown_conjunct : (ds : List Data) → spelled conjunct_words (tag_of ds) ≡ None → first_of (within 0 ([] ∷ [])) ≡ first_of (conjunct_parts_faults (spelled conjunct_words (tag_of ds)) ds)
unknown_conjunct ds is = rw is refl

pub unknown_line : (words : List (List ℕ × LineTag)) (ds : List Data) → spelled words (tag_of ds) ≡ None → first_of (within 0 ([] ∷ [])) ≡ first_of (line_parts_faults (spelled words (tag_of ds)) ds)
unknown_line words ds is = rw is refl

pub line_parts : (words : List (List ℕ × LineTag)) (d : Data) (ds : List Data) → Some ds ≡ list_of d → line_faults words d ≡ line_parts_faults (spelled words (tag_of ds)) ds
line_parts words d ds is = rw (sym is) refl
