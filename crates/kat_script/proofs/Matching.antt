-- A ledger that follows the lines goes on saying what the world says.
use Rattle.std.proofs.Common.{◌≡◌, ℕ, zero, suc, ◌+◌, ◌-◌, Bool, true, false, List, [], ◌∷◌, ◌++◌, length, max, set, refl, sym, ◌∙◌, ap, get_or, cond}
use Rattle.std.specs.Prelude.{map, replicate, nat_lt}
use Rattle.std.proofs.Math.ListN.{get_or-map}
use Rattle.std.proofs.lemmas.List.{map-set, map-append, length-map}
use Rattle.kat_script.specs.Rules.{clock_of, time_of, packet_of}
use Rattle.kat_script.specs.World.{Holder, opened, fresh, put, replica_at}
use Rattle.kat_script.specs.Script.{Place, behind, known_at}
use Rattle.kat_script.specs.Ledger.{Changes, Matches, known_of, words_of, sent_of, shipped}
use Rattle.kat_script.specs.declared.ledger.Ledger.{Ledger}
use Rattle.kat_script.specs.declared.ledger.Shipped.{Shipped}
use Rattle.kat_script.specs.declared.said.Said.{Said}
use Rattle.kat_script.specs.declared.said.Said.TheVariants.{Replicas, Does, Ships, Delivers, Asks, Shows}
use Rattle.kat_type.specs.declared.signatures.Signature.{Signature}

abbrev clock : Holder → ℕ
clock holder = holder.clock

-- what the ledger settles is what the lines settle
pub known-matches : (ledger : Ledger) (place : Place) → Matches ledger place → known_of ledger ≡ known_at place
known-matches ledger place m =
    let c = m.clocks in let w = m.words in let l = m.lines in cc

put_cases : {X Y : Type 0} (f : X → Y) (xs : List X) (i : ℕ) (x : X) (b c : Bool) → c ≡ b
    → map f (cond b (set xs i x) (xs ++ x ∷ [])) ≡ cond c (set (map f xs) i (f x)) (map f xs ++ f x ∷ [])
put_cases f xs i x true c e = rw e (map-set f xs i x)
put_cases f xs i x false c e = rw e (map-append f xs (x ∷ []))

pub map-put : {X Y : Type 0} (f : X → Y) (xs : List X) (i : ℕ) (x : X) → map f (put xs i x) ≡ put (map f xs) i (f x)
map-put f xs i x = put_cases f xs i x (nat_lt i (length xs)) (nat_lt i (length (map f xs))) (ap (λ n. nat_lt i n) (length-map xs f))

-- replicas begin with clock 0
pub map-fresh : (n : ℕ) → map clock (replicate n fresh) ≡ replicate n 0
map-fresh zero = refl
map-fresh (suc n) = ap (λ clocks. 0 ∷ clocks) (map-fresh n)

-- the ledger after a line that doesn't change what the ledger keeps
pub same_matches : (ledger after : Ledger) (place behind : Place) → Matches ledger place
    → after.clocks.items ≡ ledger.clocks.items → after.packets.items ≡ ledger.packets.items → after.lines ≡ ledger.lines + 1
    → behind.world ≡ place.world → behind.words ≡ place.words → behind.lines ≡ place.lines + 1 → Matches after behind
same_matches ledger after place behind m c p l world words lines = record {
  clocks = c ∙ m.clocks ∙ ap (λ w. map clock w.replicas) (sym world);
  words = ap words_of p ∙ m.words ∙ sym words;
  sent = ap sent_of p ∙ m.sent ∙ ap (λ w. map clock w.packets) (sym world);
  lines = l ∙ ap (λ n. n + 1) m.lines ∙ sym lines;
}

-- the clock of a replica is set
pub clock_matches : (ledger after : Ledger) (place behind : Place) (i : ℕ) (holder : Holder) → Matches ledger place
    → after.clocks.items ≡ set ledger.clocks.items i holder.clock → after.packets.items ≡ ledger.packets.items → after.lines ≡ ledger.lines + 1
    → behind.world ≡ record place.world { replicas = set place.world.replicas i holder } → behind.words ≡ place.words → behind.lines ≡ place.lines + 1
    → Matches after behind
clock_matches ledger after place behind i holder m c p l world words lines = record {
  clocks = c ∙ ap (λ clocks. set clocks i holder.clock) m.clocks ∙ sym (map-set clock place.world.replicas i holder) ∙ ap (λ w. map clock w.replicas) (sym world);
  words = ap words_of p ∙ m.words ∙ sym words;
  sent = ap sent_of p ∙ m.sent ∙ ap (λ w. map clock w.packets) (sym world);
  lines = l ∙ ap (λ n. n + 1) m.lines ∙ sym lines;
}

-- a packet is put among the others
pub packet_matches : (ledger after : Ledger) (place behind : Place) (i word : ℕ) (holder : Holder) → Matches ledger place
    → after.clocks.items ≡ ledger.clocks.items → after.packets.items ≡ put ledger.packets.items i (shipped word holder.clock) → after.lines ≡ ledger.lines + 1
    → behind.world ≡ record place.world { packets = put place.world.packets i holder } → behind.words ≡ put place.words i word → behind.lines ≡ place.lines + 1
    → Matches after behind
packet_matches ledger after place behind i word holder m c p l world words lines = record {
  clocks = c ∙ m.clocks ∙ ap (λ w. map clock w.replicas) (sym world);
  words = ap words_of p ∙ map-put (λ (packet : Shipped). packet.word) ledger.packets.items i (shipped word holder.clock) ∙ ap (λ ws. put ws i word) m.words ∙ sym words;
  sent = ap sent_of p ∙ map-put (λ (packet : Shipped). packet.clock) ledger.packets.items i (shipped word holder.clock)
      ∙ ap (λ cs. put cs i holder.clock) m.sent ∙ sym (map-put clock place.world.packets i holder) ∙ ap (λ w. map clock w.packets) (sym world);
  lines = l ∙ ap (λ n. n + 1) m.lines ∙ sym lines;
}

-- the script opens
pub open_matches : (ledger after : Ledger) (place behind : Place) (n : ℕ) → Matches ledger place
    → after.clocks.items ≡ replicate n 0 → after.packets.items ≡ ledger.packets.items → after.lines ≡ ledger.lines + 1
    → behind.world ≡ opened place.world n → behind.words ≡ place.words → behind.lines ≡ place.lines + 1 → Matches after behind
open_matches ledger after place behind n m c p l world words lines = record {
  clocks = c ∙ sym (map-fresh n) ∙ ap (λ w. map clock w.replicas) (sym world);
  words = ap words_of p ∙ m.words ∙ sym words;
  sent = ap sent_of p ∙ m.sent ∙ ap (λ w. map clock w.packets) (sym world);
  lines = l ∙ ap (λ n. n + 1) m.lines ∙ sym lines;
}

-- the clock of a holder is what the clocks say at its place
clock-at : (holders : List Holder) (i : ℕ) → get_or (map clock holders) i 0 ≡ (get_or holders i fresh).clock
clock-at holders i = get_or-map clock holders i fresh

-- the ledger after a line goes on saying what the world says
pub matches_behind : (sig : Signature) (ledger changed after : Ledger) (place : Place) (said : Said) → Changes ledger said changed
    → after.clocks.items ≡ changed.clocks.items → after.packets.items ≡ changed.packets.items → after.lines ≡ ledger.lines + 1
    → Matches ledger place → Matches after (behind sig place said)
matches_behind sig ledger changed after place (Replicas n) h c p l m =
    open_matches ledger after place (behind sig place (Replicas n)) n m (c ∙ h.0) (p ∙ h.1) l refl refl refl
matches_behind sig ledger changed after place (Does r op args time) h c p l m =
    let k = known-matches ledger place m in
    clock_matches ledger after place (behind sig place (Does r op args time)) (r - 1) _ m
    (c ∙ h.0 ∙ ap (λ known. set ledger.clocks.items (r - 1) (time_of known r time)) k) (p ∙ h.1) l refl refl refl
matches_behind sig ledger changed after place (Ships r packet) h c p l m =
    let k = known-matches ledger place m in
    packet_matches ledger after place (behind sig place (Ships r packet)) (packet_of (known_at place) packet) packet _ m
    (c ∙ h.0)
    (p ∙ h.1 ∙ ap (λ known. put ledger.packets.items (packet_of known packet) (shipped packet (clock_of known r))) k
    ∙ ap (λ t. put ledger.packets.items (packet_of (known_at place) packet) (shipped packet t)) (clock-at place.world.replicas (r - 1)))
    l refl refl refl
matches_behind sig ledger changed after place (Delivers packet r) h c p l m =
    let k = known-matches ledger place m in
    clock_matches ledger after place (behind sig place (Delivers packet r)) (r - 1) _ m
    (c ∙ h.0
    ∙ ap (λ known. set ledger.clocks.items (r - 1) (max (clock_of known r) (get_or (sent_of ledger.packets.items) (packet_of known packet) 0))) k
    ∙ ap (λ sent. set ledger.clocks.items (r - 1) (max (clock_of (known_at place) r) (get_or sent (packet_of (known_at place) packet) 0))) m.sent
    ∙ ap (λ t. set ledger.clocks.items (r - 1) (max t (get_or (map clock place.world.packets) (packet_of (known_at place) packet) 0))) (clock-at place.world.replicas (r - 1))
    ∙ ap (λ t. set ledger.clocks.items (r - 1) (max (replica_at place.world r).clock t)) (clock-at place.world.packets (packet_of (known_at place) packet)))
    (p ∙ h.1) l refl refl refl
matches_behind sig ledger changed after place (Asks r query args) h c p l m =
    same_matches ledger after place (behind sig place (Asks r query args)) m (c ∙ h.0) (p ∙ h.1) l refl refl refl
matches_behind sig ledger changed after place (Shows r) h c p l m =
    same_matches ledger after place (behind sig place (Shows r)) m (c ∙ h.0) (p ∙ h.1) l refl refl refl
