-- What a script keeps that is judged good for a signature, said of the script alone.
use Rattle.std.specs.Prelude.{◌≡◌, ℕ, ◌<◌, ◌≤◌, List, [], ◌∷◌, length, MatchOption, slice_get}
use Rattle.kat_num.specs.Values.{IsArgument}
use Rattle.kat_num.specs.declared.values.Sort.{Sort}
use Rattle.kat_num.specs.declared.values.Value.{Value}
use Rattle.kat_script.specs.World.{World, after, first_world, replica_at, world_after}
use Rattle.kat_script.specs.declared.rules.TheConstants.{REPLICA_LIMIT, PACKET_LIMIT, TIME_LIMIT, LINE_LIMIT}
use Rattle.kat_type.specs.declared.signatures.Signature.{Signature}
use Rattle.kat_script.specs.declared.script.Line.{Line}
use Rattle.kat_script.specs.declared.script.Line.TheVariants.{Do, Ship, Deliver, Ask, Show}
use Rattle.kat_script.specs.declared.script.Script.{Script}

-- replicas are numbered from 1
abbrev pub IsReplica : World → ℕ → Type 0
IsReplica world r = (1 ≤ r) × (r ≤ length world.replicas)

-- as many values as sorts, each an argument of its sort, within the limits of numbers and names
abbrev pub AreArguments : List Sort → List Value → Type 0
AreArguments [] [] = Unit {0}
AreArguments (sort ∷ sorts) (value ∷ values) = IsArgument sort value × AreArguments sorts values
AreArguments sorts values = ⊥

-- the signature has an operation of this number, and it takes these arguments
abbrev pub HasOp : Signature → ℕ → List Value → Type 0
HasOp sig op args = MatchOption (slice_get sig.ops op) ⊥ (λ found. AreArguments found.sorts args)

-- the signature has a query of this number, and it takes these arguments
abbrev pub HasQuery : Signature → ℕ → List Value → Type 0
HasQuery sig query args = MatchOption (slice_get sig.queries query) ⊥ (λ found. AreArguments found.sorts args)

-- the line keeps the rules in this world: replicas, packets, operations and queries exist, arguments fit, and a time exceeds the clock of
-- its replica
abbrev pub IsJudgedLine : Signature → World → Line → Type 0
IsJudgedLine sig world (Do done) =
    IsReplica world done.replica × ((replica_at world done.replica).clock < done.time) × (done.time ≤ TIME_LIMIT) × HasOp sig done.op done.args
IsJudgedLine sig world (Ship r p) = IsReplica world r × (p ≤ length world.packets) × (p < PACKET_LIMIT)
IsJudgedLine sig world (Deliver p r) = IsReplica world r × (p < length world.packets)
IsJudgedLine sig world (Ask r query args) = IsReplica world r × HasQuery sig query args
IsJudgedLine sig world (Show r) = IsReplica world r

-- each line keeps the rules in the world that the lines before it made of this one
abbrev pub AreJudged : Signature → World → List Line → Type 0
AreJudged sig world [] = Unit {0}
AreJudged sig world (line ∷ lines) = IsJudgedLine sig world line × AreJudged sig (after world line) lines

-- a script whose numbers are within their limits and whose lines are judged
pub record IsJudged (sig : Signature) (script : Script) : Type 0 where
  pub some_replica : 1 ≤ script.replicas
  pub few_replicas : script.replicas ≤ REPLICA_LIMIT
  pub packets : script.packets ≡ length (world_after (first_world script.replicas) script.lines).packets
  pub few_lines : length script.lines < LINE_LIMIT
  pub lines : AreJudged sig (first_world script.replicas) script.lines
