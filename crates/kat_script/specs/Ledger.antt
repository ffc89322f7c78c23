-- Used inside only.
-- What a reader keeps of the lines before, and what it stands for.
use Rattle.std.specs.Prelude.{◌≡◌, ℕ, ◌-◌, List, map, max, replicate, slice_set}
use Rattle.std.specs.List.{slice_index_or}
use Rattle.kat_script.specs.Rules.{Known, clock_of, packet_of, time_of}
use Rattle.kat_script.specs.World.{Holder, put}
use Rattle.kat_script.specs.Script.{Place}
use Rattle.kat_script.specs.declared.ledger.Ledger.{Ledger}
use Rattle.kat_script.specs.declared.ledger.Shipped.{Shipped}
use Rattle.kat_script.specs.declared.said.Said.{Said}
use Rattle.kat_script.specs.declared.said.Said.TheVariants.{Replicas, Does, Ships, Delivers, Asks, Shows}

-- the words of the packets
abbrev pub words_of : List Shipped → List ℕ
words_of packets = map (λ (packet : Shipped). packet.word) packets

-- the clocks of the packets
abbrev pub sent_of : List Shipped → List ℕ
sent_of packets = map (λ (packet : Shipped). packet.clock) packets

-- what the lines before a line have settled
abbrev pub known_of : Ledger → Known
known_of ledger = record { clocks = ledger.clocks.items; words = words_of ledger.packets.items; lines = ledger.lines }

-- the number of the packet that a line names, and 0 if it names none
abbrev pub packet_in : Known → Said → ℕ
packet_in known (Ships r packet) = packet_of known packet
packet_in known (Delivers packet r) = packet_of known packet
packet_in known said = 0

-- the ledger says what the world at this place says
pub record Matches (ledger : Ledger) (place : Place) : Type 0 where
  pub clocks : ledger.clocks.items ≡ map (λ (holder : Holder). holder.clock) place.world.replicas
  pub words : words_of ledger.packets.items ≡ place.words
  pub sent : sent_of ledger.packets.items ≡ map (λ (holder : Holder). holder.clock) place.world.packets
  pub lines : ledger.lines ≡ place.lines

abbrev pub shipped : ℕ → ℕ → Shipped
shipped word clock = record { word = word; clock = clock }

-- the clocks of the replicas are these, and the packets are as they were
abbrev pub SetsClocks : Ledger → List ℕ → Ledger → Type 0
SetsClocks old clocks new = (new.clocks.items ≡ clocks) × (new.packets.items ≡ old.packets.items)

-- what a line changes in the ledger, except for the number of lines
abbrev pub Changes : Ledger → Said → Ledger → Type 0
Changes old (Replicas n) new = SetsClocks old (replicate n 0) new
Changes old (Does r op args time) new = SetsClocks old (slice_set old.clocks.items (r - 1) (time_of (known_of old) r time)) new
Changes old (Ships r packet) new = (new.clocks.items ≡ old.clocks.items)
    × (new.packets.items ≡ put old.packets.items (packet_of (known_of old) packet) (shipped packet (clock_of (known_of old) r)))
Changes old (Delivers packet r) new =
    let sent = slice_index_or (sent_of old.packets.items) (packet_of (known_of old) packet) 0 in
    SetsClocks old (slice_set old.clocks.items (r - 1) (max (clock_of (known_of old) r) sent)) new
Changes old (Asks r query args) new = SetsClocks old old.clocks.items new
Changes old (Shows r) new = SetsClocks old old.clocks.items new
