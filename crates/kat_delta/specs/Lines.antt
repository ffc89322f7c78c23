-- The lines that a design prints on a script with deltas: those of its plain lines, each in the world before it.
use Rattle.std.specs.Prelude.{◌≡◌, ℕ, ◌≤◌, ◌<◌, List, [], ◌∷◌, ◌++◌, length}
use Rattle.kat_design.specs.Designs.{DesignForm}
use Rattle.kat_script.specs.declared.rules.TheConstants.{REPLICA_LIMIT, LINE_LIMIT}
use Rattle.kat_type.specs.declared.signatures.Signature.{Signature}
use Rattle.kat_world.specs.Lines.{line_text}
use Rattle.kat_delta.specs.Worlds.{AreJudgedDeltas, DeltaWorld, delta_after, delta_world_after, first_delta_world}
use Rattle.kat_delta.specs.declared.script.DeltaLine.{DeltaLine}
use Rattle.kat_delta.specs.declared.script.DeltaLine.TheVariants.{Plain, Delta}
use Rattle.kat_delta.specs.declared.script.DeltaScript.{DeltaScript}

-- a delta prints nothing
abbrev pub delta_line_text : DesignForm → DeltaWorld → DeltaLine → List ℕ
delta_line_text d w (Plain line) = line_text d w.world line
delta_line_text d w (Delta r p from) = []

abbrev pub delta_lines_text : DesignForm → DeltaWorld → List DeltaLine → List ℕ
delta_lines_text d w [] = []
delta_lines_text d w (line ∷ lines) = delta_line_text d w line ++ delta_lines_text d (delta_after w line) lines

-- the lines of a design on a script with deltas
abbrev pub delta_lines_of : DesignForm → DeltaScript → List ℕ
delta_lines_of d script = delta_lines_text d (first_delta_world script.replicas) script.lines

-- a script whose numbers are within their limits and whose lines are judged
pub record IsJudgedScript (sig : Signature) (script : DeltaScript) : Type 0 where
  pub some_replica : 1 ≤ script.replicas
  pub few_replicas : script.replicas ≤ REPLICA_LIMIT
  pub packets : script.packets ≡ length (delta_world_after (first_delta_world script.replicas) script.lines).world.packets
  pub few_lines : length script.lines < LINE_LIMIT
  pub lines : AreJudgedDeltas sig (first_delta_world script.replicas) script.lines
