-- The reader's counts refuse a line exactly as those of the world do.
use Rattle.std.proofs.Common.{◌≡◌, ℕ, ◌≤◌, ◌<◌, length, true, List, [], get_or, refl, sym, ◌∙◌, ap, subst, arith, Option, None, Some}
use Rattle.std.proofs.Math.ListN.{get_or-map}
use Rattle.std.proofs.lemmas.List.{length-map}
use Rattle.kat_type.specs.declared.signatures.Signature.{Signature}
use Rattle.kat_script.specs.Judged.{IsReplica}
use Rattle.kat_script.specs.Ledger.{Matches, known_of, packet_in}
use Rattle.kat_script.specs.Rules.{Keeps, is_shipped, packet_of, place_of}
use Rattle.kat_script.specs.World.{Holder, fresh, packet_at}
use Rattle.kat_script.specs.declared.ledger.Ledger.{Ledger}
use Rattle.kat_script.specs.declared.said.Said.{Said}
use Rattle.kat_script.specs.declared.said.Said.TheVariants.{Replicas, Does, Ships, Delivers, Asks, Shows}
use Rattle.kat_script.proofs.Bridge.{not_false, replica_there, shipped_within}
use Rattle.kat_script.proofs.Matching.{known-matches}
use Rattle.kat_delta.specs.Standing.{count_at}
use Rattle.kat_delta.specs.Worlds.{DeltaWorld, Made}
use Rattle.kat_delta_script.specs.Counted.{Counted, Counts, ParcelCounts, counted, counts_of, made_of, parcel_at}
use Rattle.kat_delta_script.specs.Reading.{Stands}
use Rattle.kat_delta_script.specs.Refusals.{DeltaPlace, count_there, counts_refuse, gap, gap_of, known_there, made_in, no_count, plain_place, refused_by_counts}
use Rattle.kat_delta_script.specs.declared.counts.Parcel.{Parcel}
use Rattle.kat_delta_script.specs.declared.counts.Parcel.TheVariants.{Whole, Own}
use Rattle.kat_delta_script.specs.declared.counts.Tally.{Tally}
use Rattle.kat_delta_script.specs.declared.error.DeltaScriptError.{DeltaScriptError}
use Rattle.kat_delta_script.specs.declared.statement.Statement.{Statement}
use Rattle.kat_delta_script.proofs.Counting.{beside_at, beside_length, row_there}

abbrev counts_in : Counted → ℕ → ℕ → ℕ
counts_in k r origin = count_at (counts_of k.replicas r) origin

up_to : (r n m : ℕ) → r ≤ n → m ≡ n → r ≤ m
up_to r n m h e = omega arith

-- the count that the reader keeps is the world's
same_count : (k : Counted) (lines : ℕ) (w : DeltaWorld) (r origin : ℕ) (c : Counts k lines w) → IsReplica w.world r → 1 ≤ origin → origin ≤ c.many → counts_in k r origin ≡ count_there w r origin
same_count k lines w r origin c is low high =
    let h = row_there c.many r k.replicas w.world.replicas c.replicas is.0 is.1 in
    h.0 origin low (up_to origin c.many (length (counts_of k.replicas r)) high h.1)

-- a delta
same_no_count : (number a b from : ℕ) → a ≡ b → no_count number a from ≡ no_count number b from
same_no_count number a b from e = ap (λ n. no_count number n from) e

-- a gap
gap_from : (k : Counted) (lines : ℕ) (w : DeltaWorld) (number r p : ℕ) (parcel : Parcel) (theirs : Holder) (c : Counts k lines w) → IsReplica w.world r → ParcelCounts c.many parcel theirs
    → gap number (counts_in k r) (made_of parcel) ≡ gap number (count_there w r) (made_of parcel)
gap_from k lines w number r p (Whole counts) theirs c is h = refl
gap_from k lines w number r p (Own origin from to) theirs c is h = ap (λ n. gap_of number origin n from) (same_count k lines w r origin c is h.0 h.1)

same_gap : (k : Counted) (lines : ℕ) (w : DeltaWorld) (number r p : ℕ) (c : Counts k lines w) → IsReplica w.world r → p < length w.world.packets
    → gap number (counts_in k r) (made_of (parcel_at k.packets p)) ≡ gap number (count_there w r) (get_or w.made p None)
same_gap k lines w number r p c is l =
    gap_from k lines w number r p (parcel_at k.packets p) (packet_at w.world p) c is
    (beside_at (ParcelCounts c.many) k.packets w.world.packets p (Whole []) fresh c.packets (subst (λ n. p < n) (sym (beside_length (ParcelCounts c.many) k.packets w.world.packets c.packets)) l))
    ∙ ap (gap number (count_there w r)) (sym (get_or-map made_of k.packets p (Whole [])) ∙ ap (λ (ms : List (Option Made)). get_or ms p None) c.made)

-- there are as many words as packets
pub words_packets : (ledger : Ledger) (place : DeltaPlace) → Matches ledger (plain_place place) → length place.words ≡ length place.w.world.packets
words_packets ledger place m =
    ap (λ (ws : List ℕ). length ws) (sym m.words) ∙ length-map ledger.packets.items _ ∙ sym (length-map ledger.packets.items _) ∙ ap (λ (ns : List ℕ). length ns) m.sent ∙ length-map place.w.world.packets _

-- the packet that is delivered is there
pub packet_there : (ledger : Ledger) (place : DeltaPlace) (packet : ℕ) → Matches ledger (plain_place place) → is_shipped (known_there place) packet ≡ true → packet_of (known_there place) packet < length place.w.world.packets
packet_there ledger place packet m is =
    subst (λ n. packet_of (known_there place) packet < n) (words_packets ledger place m)
    (shipped_within place.words packet (place_of (known_there place) packet) refl is)

pub counts_agree : (sig : Signature) (ledger : Ledger) (k : Counted) (place : DeltaPlace) (said : Said) (from : Option ℕ) (p : ℕ) → Matches ledger (plain_place place) → Counts k place.lines place.w → Keeps sig (known_there place) said
    → p ≡ packet_in (known_there place) said
    → refused_by_counts place.number (counts_in k) (made_of (parcel_at k.packets p)) said from ≡ refused_by_counts place.number (count_there place.w) (made_in place said) said from
counts_agree sig ledger k place (Replicas n) from p m c keeps e = refl
counts_agree sig ledger k place (Does r op args time) from p m c keeps e = refl
counts_agree sig ledger k place (Ships r packet) None p m c keeps e = refl
counts_agree sig ledger k place (Ships r packet) (Some from) p m c keeps e =
    let is = replica_there (plain_place place) r keeps.replica in
    same_no_count place.number (counts_in k r r) (count_there place.w r r) from (same_count k place.lines place.w r r c is is.0 (subst (λ n. r ≤ n) c.some is.1))
counts_agree sig ledger k place (Delivers packet r) (Some from) p m c keeps e = refl
counts_agree sig ledger k place (Delivers packet r) None p m c keeps e =
    let is = replica_there (plain_place place) r keeps.replica in
    let number = packet_of (known_there place) packet in
    ap (λ n. gap place.number (counts_in k r) (made_of (parcel_at k.packets n))) e
    ∙ same_gap k place.lines place.w place.number r number c is (packet_there ledger place packet m (not_false (is_shipped (known_there place) packet) keeps.packet))
counts_agree sig ledger k place (Asks r query args) from p m c keeps e = refl
counts_agree sig ledger k place (Shows r) from p m c keeps e = refl

-- what the reader finds is how the world's counts refuse
pub counted_there : (sig : Signature) (ledger : Ledger) (tally : Tally) (place : DeltaPlace) (number p : ℕ) (statement : Statement) (o : Option DeltaScriptError) → Keeps sig (known_of ledger) statement.said → p ≡ packet_in (known_of ledger) statement.said
    → o ≡ refused_by_counts number (counts_in (counted tally)) (made_of (parcel_at tally.packets.items p)) statement.said statement.from → place.number ≡ number → Stands ledger tally place → counts_refuse place statement ≡ o
counted_there sig ledger tally place number p statement o keeps e is at s =
    let known = known-matches ledger (plain_place place) s.matches in
    sym (counts_agree sig ledger (counted tally) place statement.said statement.from p s.matches s.counts (subst (λ k. Keeps sig k statement.said) known keeps) (e ∙ ap (λ k. packet_in k statement.said) known))
    ∙ ap (λ n. refused_by_counts n (counts_in (counted tally)) (made_of (parcel_at tally.packets.items p)) statement.said statement.from) at
    ∙ sym is
