-- Used inside only.
-- How a listing is written, design by design.
use Rattle.std.specs.Prelude.{◌≡◌, ℕ, Bool, true, false, List, [], ◌∷◌, Option}
use Rattle.kat_design.specs.Designs.{DesignForm}
use Rattle.kat_design.specs.Faults.{faults_of}
use Rattle.kat_design.specs.Sorted.{EachHas}
use Rattle.kat_io.specs.Outside.{grown}
use Rattle.kat_cli.specs.ListCommand.{design_line}

-- designs that pass the sort check
abbrev pub ArePassed : List DesignForm → Type 0
ArePassed designs = EachHas (λ (d : DesignForm). faults_of d ≡ []) designs

-- the line of the first design to come, and nothing at the end
abbrev pub next_line : ℕ → List DesignForm → List ℕ
next_line number [] = []
next_line number (d ∷ to_come) = design_line number d

-- the line of the first design to come was written, and the others are still to come; else there was none
abbrev pub WritesNext : ℕ → List DesignForm → List DesignForm → Option (List ℕ) → Option (List ℕ) → Bool → Type 0
WritesNext number old new written written_after true =
    (d : DesignForm) × (old ≡ d ∷ new) × (written_after ≡ grown written (design_line number d))
WritesNext number old new written written_after false = (old ≡ []) × (written_after ≡ written)
