-- The lines of a report, as they are written. What a line of a block says after its first word, kat_said states.
use Rattle.std.specs.Prelude.{ℕ, List, [], ◌∷◌, ◌++◌, codes}
use Rattle.std.specs.List.{flat_map}
use Rattle.kat_design.specs.Designs.{DesignForm}
use Rattle.kat_design_json.specs.PrintedDesigns.{design_text}
use Rattle.kat_hist.specs.Scripts.{args_text, number_text, op_name}
use Rattle.kat_histories.specs.declared.histories.History.{History}
use Rattle.kat_type.specs.declared.done.Done.{Done}
use Rattle.kat_type.specs.declared.signatures.Signature.{Signature}

-- `do R OP ARGS at T`
abbrev pub done_text : Signature → Done → List ℕ
done_text sig done = number_text (codes "do ") done.replica (codes " ") ++ op_name sig done.op ++ args_text done.args ++ number_text (codes " at ") done.time []

-- a further one
abbrev pub further_text : Signature → Done → List ℕ
further_text sig done = codes "; " ++ done_text sig done

-- operations after a blank, with `; ` between each two
abbrev pub dones_text : Signature → List Done → List ℕ
dones_text sig [] = []
dones_text sig (done ∷ more) = codes " " ++ done_text sig done ++ flat_map (further_text sig) more

-- `history H:` and its operations
abbrev pub history_line : Signature → ℕ → History → List ℕ
history_line sig number history = number_text (codes "history ") number (codes ":") ++ dones_text sig history.ops ++ codes "\n"

-- a design's text, which ends a line
abbrev pub design_end : DesignForm → List ℕ
design_end d = design_text d ++ codes "\n"

-- `design K differs H DESIGN`
abbrev pub differs_line : ℕ → ℕ → DesignForm → List ℕ
differs_line number history d = number_text (codes "design ") number (codes " differs ") ++ number_text [] history (codes " ") ++ design_end d

-- `design K undecided DESIGN`
abbrev pub begin_line : ℕ → DesignForm → List ℕ
begin_line number d = number_text (codes "design ") number (codes " undecided ") ++ design_end d

-- `none up to N`, `undecided up to N` or `stopped after D up to N`
abbrev pub none_line : ℕ → List ℕ
none_line size = number_text (codes "none up to ") size (codes "\n")

abbrev pub undecided_line : ℕ → List ℕ
undecided_line size = number_text (codes "undecided up to ") size (codes "\n")

abbrev pub stopped_line : ℕ → ℕ → List ℕ
stopped_line tried size = number_text (codes "stopped after ") tried (codes " up to ") ++ number_text [] size (codes "\n")
