-- The operations of a share after a step.
use Rattle.std.proofs.Common.{List, [], ◌∷◌}
use Rattle.kat_design.specs.Designs.{DesignForm}
use Rattle.kat_design.specs.Sorted.{IsWellSorted}
use Rattle.kat_node.specs.Packets.{all_united}
use Rattle.kat_share.specs.declared.packets.SharePacket.{SharePacket}
use Rattle.kat_share.specs.declared.shares.Share.{Share}
use Rattle.kat_type.specs.Unions.{united}
use Rattle.kat_type.specs.declared.done.Done.{Done}
use Rattle.kat_share_step.specs.Keeping.{ComeFrom, HasOperations, Origin, StepsKeepShares, lists_of}
use Rattle.kat_share_step.specs.Steps.{CoversEach, with_share_packet, with_share_packets}
use Rattle.kat_share_step.proofs.Acting.{ActionsKeep, acted_has}
use Rattle.kat_share_step.proofs.Merging.{Known, merged_has}

-- all packets
all_merged : Known → (d : DesignForm) (share : Share) (packets : List SharePacket) (origins : List Origin) (mine : List Done) → IsWellSorted d → HasOperations d share mine
    → ComeFrom d mine origins packets → CoversEach share packets → HasOperations d (with_share_packets share packets) (all_united mine (lists_of origins))
all_merged k d share [] [] mine sorted has from covers = has
all_merged k d share (packet ∷ packets) (origin ∷ origins) mine sorted has from covers =
    all_merged k d (with_share_packet share packet) packets origins (united mine origin.all) sorted
    (merged_has k d share packet origin mine sorted has from.0 from.1 from.2 covers.0) from.3 covers.1
all_merged k d share [] (origin ∷ origins) mine sorted has from covers = absurd from
all_merged k d share (packet ∷ packets) [] mine sorted has from covers = absurd from

pub steps_keep : Known → ActionsKeep → StepsKeepShares
steps_keep k act d share packets actions sorted covers fit passed mine origins has from =
    acted_has k act d (with_share_packets share packets) (all_united mine (lists_of origins)) actions sorted (all_merged k d share packets origins mine sorted has from covers) fit passed
