-- What `node-new DESIGN --replica R` takes and writes.
use Rattle.std.specs.Prelude.{◌≡◌, ℕ, List, [], ◌∷◌}
use Rattle.kat_json.specs.declared.errors.WireError.{WireError}
use Rattle.kat_node.specs.StateData.{node_text}
use Rattle.kat_step.specs.Steps.{first_node}
use Rattle.kat_wire.specs.FileForms.{FileForm}
use Rattle.kat_wire.specs.Files.{IsFileText}
use Rattle.kat_wire.specs.Judgements.{IsRefusal}
use Rattle.kat_words.specs.declared.options.NodeOptions.{NodeOptions}
use Rattle.kat_cli.specs.Refusals.{design_refusal}
use Rattle.kat_cli.specs.declared.status.Refusal.{Refusal}
use Rattle.kat_cli.specs.declared.status.Status.{Status}
use Rattle.kat_cli.specs.declared.status.Status.TheVariants.{Done}

-- the file is a design file; its relation and proof have no part in what is written
abbrev pub Passes : List (List ℕ) → List ℕ → Type 0
Passes [] text = (f : FileForm) × IsFileText text f
Passes (first ∷ earlier) text = ⊥

abbrev pub IsRefusedAs : List (List ℕ) → List ℕ → Refusal → Type 0
IsRefusedAs [] text refusal = (error : WireError) × IsRefusal text error × (refusal ≡ design_refusal error)
IsRefusedAs (first ∷ earlier) text refusal = ⊥

abbrev pub Accepts : List (List ℕ) → FileForm → Type 0
Accepts (text ∷ []) f = IsFileText text f
Accepts texts f = ⊥

-- what is written: the state file of a replica of this number that did nothing
abbrev pub output : NodeOptions → FileForm → List ℕ
output options f = node_text (first_node f.design options.number)

abbrev pub Ends : NodeOptions → FileForm → Status → List ℕ → Type 0
Ends options f status text = (status ≡ Done) × (text ≡ output options f)
