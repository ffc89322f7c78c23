-- The codes of errors.
use Rattle.std.specs.Prelude.{ℕ}
use Rattle.kat_embed.specs.declared.errors.AcceptError.{AcceptError}
use Rattle.kat_embed.specs.declared.errors.AcceptError.TheVariants as accept
use Rattle.kat_embed.specs.declared.errors.CallError.{CallError}
use Rattle.kat_embed.specs.declared.errors.CallError.TheVariants as call
use Rattle.kat_embed.specs.declared.errors.MergeError.{MergeError}
use Rattle.kat_embed.specs.declared.errors.MergeError.TheVariants as merge
use Rattle.kat_embed.specs.declared.errors.RunError.{RunError}
use Rattle.kat_embed.specs.declared.errors.RunError.TheVariants as run
use Rattle.kat_embed.specs.declared.errors.KeysError.{KeysError}
use Rattle.kat_embed.specs.declared.errors.KeysError.TheVariants as keys
use Rattle.kat_embed.specs.declared.errors.SharingError.{SharingError}
use Rattle.kat_embed.specs.declared.errors.SharingError.TheVariants as sharing
use Rattle.kat_share.specs.declared.packets.PacketError.{PacketError}
use Rattle.kat_share.specs.declared.packets.PacketError.TheVariants as packet
use Rattle.kat_share.specs.declared.shares.ShareError.{ShareError}
use Rattle.kat_share.specs.declared.shares.ShareError.TheVariants as share
use Rattle.kat_node.specs.declared.errors.NodeError.{NodeError}
use Rattle.kat_node.specs.declared.errors.NodeError.TheVariants as node
use Rattle.kat_step.specs.declared.error.StepError.{StepError}
use Rattle.kat_step.specs.declared.error.StepError.TheVariants as step

-- 1 out of memory, 4 a type, 5 a design, 6 its signature, 7 its proof
abbrev pub accept_code : AcceptError → ℕ
accept_code accept.Memory = 1
accept_code (accept.BadType number at) = 4
accept_code (accept.BadDesign error) = 5
accept_code accept.OtherSignature = 6
accept_code (accept.BadProof condition line) = 7

-- 8 no call
abbrev pub call_code : CallError → ℕ
call_code call.Memory = 1
call_code call.NoCall = 8

-- 9 a limit
abbrev pub step_code : StepError → ℕ
step_code step.Memory = 1
step_code (step.TooLarge line) = 9
step_code (step.FullState line) = 9

-- 10 a state file
abbrev pub node_code : NodeError → ℕ
node_code node.Memory = 1
node_code node.Json = 10
node_code (node.Form place) = 10
node_code node.Version = 10
node_code (node.BadState place) = 10

-- 12 another design
abbrev pub merge_code : MergeError → ℕ
merge_code merge.Memory = 1
merge_code merge.OtherDesign = 12

-- 11 a script
abbrev pub run_code : RunError → ℕ
run_code run.Memory = 1
run_code (run.BadScript error) = 11
run_code (run.Unaccepted error) = accept_code error

-- 8 no query, 10 a state file
abbrev pub keys_code : KeysError → ℕ
keys_code keys.NoQuery = 8
keys_code (keys.BadState error) = node_code error
keys_code keys.Memory = 1

-- 15 a share file, or a packet: of each line
abbrev pub line_code : NodeError → ℕ
line_code node.Memory = 1
line_code node.Json = 15
line_code (node.Form place) = 15
line_code node.Version = 15
line_code (node.BadState place) = 15

abbrev pub share_code : ShareError → ℕ
share_code (share.BadMarks error) = line_code error
share_code (share.BadState error) = line_code error

abbrev pub packet_code : PacketError → ℕ
packet_code (packet.BadBase error) = line_code error
packet_code (packet.BadShare error) = share_code error

-- 13 a gap, 14 no marks
abbrev pub sharing_code : SharingError → ℕ
sharing_code sharing.NoMarks = 14
sharing_code (sharing.BadShare error) = share_code error
sharing_code (sharing.BadPacket error) = packet_code error
sharing_code sharing.Gap = 13
sharing_code sharing.Memory = 1
