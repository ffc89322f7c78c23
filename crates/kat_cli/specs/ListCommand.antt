-- What `list TYPE` takes and writes.
use Rattle.std.specs.Prelude.{◌≡◌, ℕ, suc, nat_lt, List, [], ◌∷◌, ◌++◌, length, take, if◌then◌else◌}
use Rattle.std.specs.Fmt.{decimal}
use Rattle.kat_design.specs.Designs.{DesignForm}
use Rattle.kat_rules.specs.Listed.{IsListing}
use Rattle.kat_type_file.specs.TypeFiles.{IsRefusedFile, IsTypeFile}
use Rattle.kat_type.specs.Types.{TypeForm}
use Rattle.kat_type.specs.declared.errors.TypeError.{TypeError}
use Rattle.kat_design_json.specs.PrintedDesigns.{design_text}
use Rattle.kat_cli.specs.Refusals.{type_refusal}
use Rattle.kat_words.specs.declared.options.ListOptions.{ListOptions}
use Rattle.kat_cli.specs.declared.status.Refusal.{Refusal}
use Rattle.kat_cli.specs.declared.status.Status.{Status}
use Rattle.kat_cli.specs.declared.status.Status.TheVariants.{Done, Stopped}

abbrev pub Passes : List (List ℕ) → List ℕ → Type 0
Passes earlier text = (ty : TypeForm) × IsTypeFile text ty

abbrev pub IsRefusedAs : List (List ℕ) → List ℕ → Refusal → Type 0
IsRefusedAs earlier text refusal = (error : TypeError) × IsRefusedFile text error × (refusal ≡ type_refusal error)

abbrev pub Accepts : List (List ℕ) → TypeForm → Type 0
Accepts (text ∷ []) ty = IsTypeFile text ty
Accepts texts ty = ⊥

-- the line of a design: its number and its JSON text
abbrev pub design_line : ℕ → DesignForm → List ℕ
design_line number d = decimal number ++ 32 ∷ design_text d ++ 10 ∷ []

-- the lines of designs, of which the first has this number
abbrev pub lines_from : ℕ → List DesignForm → List ℕ
lines_from number [] = []
lines_from number (d ∷ designs) = design_line number d ++ lines_from (suc number) designs

-- what is written of a listing: the lines of at most this many of its designs
abbrev pub output : ℕ → List DesignForm → List ℕ
output most designs = lines_from 1 (take most designs)

-- `list` stops if and only if the listing has more
abbrev pub end_of : ℕ → List DesignForm → Status
end_of most designs = if nat_lt most (length designs) then Stopped else Done

abbrev pub Ends : ListOptions → TypeForm → Status → List ℕ → Type 0
Ends options ty status text =
    (designs : List DesignForm) × IsListing ty options.size options.kinds designs
    × (status ≡ end_of options.designs designs) × (text ≡ output options.designs designs)
