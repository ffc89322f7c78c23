-- Lines that can be written in a file, one after the other.
use Rattle.std.proofs.Common.{◌≢◌, ℤ, pos, List, [], ◌∷◌, map}
use Rattle.std.specs.Prelude.{All}
use Rattle.std.proofs.lemmas.List.Elements.{All-head, All-tail}
use Rattle.kat_design.specs.Sorted.{EachHas}
use Rattle.kat_refute.specs.Lines.{Line, hinted, line_of, linear, lines_of, rup}
use Rattle.kat_refute.specs.declared.ProofLine.{ProofLine}
use Rattle.kat_wire.specs.FileForms.{HasNoZero, HaveNoZero}
use Rattle.kat_by_hand.specs.Written.{IsWritable}

-- what holds of all elements holds of what each of them stands for
each_seen : {A B : Type 0} (seen : A → B) (P : A → Type 0) (Q : B → Type 0) → ((x : A) → P x → Q (seen x)) → (xs : List A) → All P xs → EachHas Q (map seen xs)
each_seen seen P Q one [] all = tt
each_seen seen P Q one (x ∷ xs) all = (one x (All-head P x xs all), each_seen seen P Q one xs (All-tail P x xs all))

each_of : (P : ℤ → Type 0) (zs : List ℤ) → All P zs → EachHas P zs
each_of P [] all = tt
each_of P (z ∷ zs) all = (All-head P z zs all, each_of P zs (All-tail P z zs all))

nonzero_line : (line : Line) → IsWritable line → HasNoZero line
nonzero_line (rup literals) is = each_of (λ (z : ℤ). z ≢ pos 0) literals is
nonzero_line (linear literals multipliers) is = each_of (λ (z : ℤ). z ≢ pos 0) literals is
nonzero_line (hinted literals hints) is = each_of (λ (z : ℤ). z ≢ pos 0) literals is

abbrev AreWritable : List ProofLine → Type 0
AreWritable lines = All (λ (line : ProofLine). IsWritable (line_of line)) lines

nonzero_lines : (lines : List ProofLine) → AreWritable lines → EachHas HasNoZero (lines_of lines)
nonzero_lines lines all = each_seen line_of (λ (line : ProofLine). IsWritable (line_of line)) HasNoZero (λ line is. nonzero_line (line_of line) is) lines all

pub writable_proof : (proof : List (List ProofLine)) → All (λ (lines : List ProofLine). All (λ (line : ProofLine). IsWritable (line_of line)) lines) proof
    → HaveNoZero (map lines_of proof)
writable_proof proof all = each_seen lines_of AreWritable (EachHas HasNoZero) nonzero_lines proof all
