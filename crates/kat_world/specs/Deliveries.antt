-- Scripts that differ in deliveries and print the same.
use Rattle.std.specs.Prelude.{◌≡◌, ℕ, List, length}
use Rattle.kat_design.specs.Designs.{DesignForm}
use Rattle.kat_design.specs.Sorted.{IsWellSorted}
use Rattle.kat_script.specs.Judged.{AreJudged, IsJudged}
use Rattle.kat_script.specs.World.{World, first_world, packet_at, replica_at, world_after}
use Rattle.kat_script.specs.declared.script.Line.{Line}
use Rattle.kat_script.specs.declared.script.Line.TheVariants.{Ship}
use Rattle.kat_script.specs.declared.script.Script.{Script}
use Rattle.kat_type.specs.Lists.{Has}
use Rattle.kat_type.specs.Signatures.{signature_of}
use Rattle.kat_type.specs.Types.{TypeForm}
use Rattle.kat_type.specs.declared.done.Done.{Done}
use Rattle.kat_type.specs.declared.signatures.Signature.{Signature}
use Rattle.kat_world.specs.Lines.{line_text, lines_of}
use Rattle.kat_world.specs.Model.{model_line, model_lines}

-- the world after the lines, if there are this many replicas
abbrev pub world_of : ℕ → List Line → World
world_of replicas lines = world_after (first_world replicas) lines

-- the script of this many replicas and these lines
abbrev pub script_of : ℕ → List Line → Script
script_of replicas lines = record { replicas = replicas; packets = length (world_of replicas lines).packets; lines = lines }

-- the replica has absorbed each operation that the packet has
abbrev pub HasAbsorbed : World → ℕ → ℕ → Type 0
HasAbsorbed world r p = (one : Done) → Has (packet_at world p).absorbed one → Has (replica_at world r).absorbed one

-- none of the lines ships under the packet's word
abbrev pub NoneShips : List Line → ℕ → Type 0
NoneShips lines p = (r : ℕ) → Has lines (Ship r p) → ⊥

-- If the one lines are judged, so are the others. A design prints the same on both, and so does a sequential type;
-- after both each replica has the same clock, and whatever line comes next prints the same.
pub record RunAlike (n : ℕ) (some others : List Line) : Type 0 where
  pub judged : (sig : Signature) → AreJudged sig (first_world n) some → AreJudged sig (first_world n) others
  pub scripts : (sig : Signature) → IsJudged sig (script_of n some) → IsJudged sig (script_of n others)
  pub clocks : (sig : Signature) (r : ℕ) → AreJudged sig (first_world n) some → (replica_at (world_of n some) r).clock ≡ (replica_at (world_of n others) r).clock
  pub design : (d : DesignForm) → IsWellSorted d → AreJudged d.sig (first_world n) some → lines_of d (script_of n some) ≡ lines_of d (script_of n others)
  pub design_next : (d : DesignForm) (line : Line) → IsWellSorted d → AreJudged d.sig (first_world n) some
      → line_text d (world_of n some) line ≡ line_text d (world_of n others) line
  pub model : (ty : TypeForm) → AreJudged (signature_of ty) (first_world n) some → model_lines ty (script_of n some) ≡ model_lines ty (script_of n others)
  pub model_next : (ty : TypeForm) (line : Line) → AreJudged (signature_of ty) (first_world n) some
      → model_line ty (world_of n some) line ≡ model_line ty (world_of n others) line
