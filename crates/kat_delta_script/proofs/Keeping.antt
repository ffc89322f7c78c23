-- What the reader keeps still stands for the world after a line.
use Rattle.std.proofs.Common.{◌≡◌, ℕ, zero, suc, ◌+◌, ◌≤◌, ◌<◌, length, List, refl, sym, ◌∙◌, ap, subst, arith, Option, None, Some}
use Rattle.std.specs.Prelude.{map, replicate}
use Rattle.std.proofs.lemmas.List.{length-map, length-replicate}
use Rattle.kat_type.specs.declared.signatures.Signature.{Signature}
use Rattle.kat_script.specs.Ledger.{Matches, known_of}
use Rattle.kat_script.specs.Rules.{Keeps, is_shipped, line_of, packet_of, place_of}
use Rattle.kat_script.specs.Script.{Place, behind, world_behind}
use Rattle.kat_script.specs.World.{Holder, World, fresh, opened, put, replica_at}
use Rattle.kat_script.specs.declared.ledger.Ledger.{Ledger}
use Rattle.kat_script.specs.declared.said.Said.{Said}
use Rattle.kat_script.specs.declared.said.Said.TheVariants.{Replicas, Does, Ships, Delivers, Asks, Shows}
use Rattle.kat_script.specs.declared.script.Line.{Line}
use Rattle.kat_script.specs.declared.script.Line.TheVariants.{Do, Ship, Deliver, Ask, Show}
use Rattle.kat_script.proofs.Bridge.{not_false, number_within, opened_once, replica_there, time_exceeds}
use Rattle.kat_script.proofs.Matching.{known-matches, map-put}
use Rattle.kat_delta.specs.Worlds.{DeltaWorld, own_part}
use Rattle.kat_delta.specs.declared.script.DeltaLine.{DeltaLine}
use Rattle.kat_delta_script.specs.Counted.{Counted, Counts, counted, counted_after, counted_with, no_counts}
use Rattle.kat_delta_script.specs.Reading.{Stands}
use Rattle.kat_delta_script.specs.Refusals.{DeltaPlace, known_there, plain_place}
use Rattle.kat_delta_script.specs.Scripts.{counted_line, delta_behind, delta_line_of, delta_world_behind}
use Rattle.kat_delta_script.specs.declared.counts.Tally.{Tally}
use Rattle.kat_delta_script.specs.declared.statement.Statement.{Statement}
use Rattle.kat_delta_script.proofs.Agreeing.{packet_there, words_packets}
use Rattle.kat_delta_script.proofs.Counting.{CanCount, counts_line, counts_open}

abbrev clocks_of : List Holder → List ℕ
clocks_of holders = map (λ (holder : Holder). holder.clock) holders

-- a delta leaves the clocks as a line that ships does
same_packets : (w : DeltaWorld) (r p : ℕ) → clocks_of (put w.world.packets p (own_part r (replica_at w.world r))) ≡ clocks_of (put w.world.packets p (replica_at w.world r))
same_packets w r p =
    map-put (λ (holder : Holder). holder.clock) w.world.packets p (own_part r (replica_at w.world r))
    ∙ sym (map-put (λ (holder : Holder). holder.clock) w.world.packets p (replica_at w.world r))

abbrev SameClocks : World → World → Type 0
SameClocks v w = (clocks_of v.replicas ≡ clocks_of w.replicas) × (clocks_of v.packets ≡ clocks_of w.packets)

pub clocks_after : (w : DeltaWorld) (place : Place) (said : Said) (from : Option ℕ) (o : Option Line) → place.world ≡ w.world
    → SameClocks (delta_world_behind w said (counted_line from o)).world (world_behind (record place { world = w.world }) said o)
clocks_after w place (Replicas n) from None e = (refl, refl)
clocks_after w place (Does r op args time) from None e = (refl, refl)
clocks_after w place (Ships r packet) from None e = (refl, refl)
clocks_after w place (Delivers packet r) from None e = (refl, refl)
clocks_after w place (Asks r query args) from None e = (refl, refl)
clocks_after w place (Shows r) from None e = (refl, refl)
clocks_after w place said None (Some line) e = (refl, refl)
clocks_after w place said (Some from) (Some (Do done)) e = (refl, refl)
clocks_after w place said (Some from) (Some (Ship r p)) e = (refl, same_packets w r p)
clocks_after w place said (Some from) (Some (Deliver p r)) e = (refl, refl)
clocks_after w place said (Some from) (Some (Ask r query args)) e = (refl, refl)
clocks_after w place said (Some from) (Some (Show r)) e = (refl, refl)

matches_behind : (sig : Signature) (ledger : Ledger) (place : DeltaPlace) (statement : Statement) → Matches ledger (behind sig (plain_place place) statement.said) → Matches ledger (plain_place (delta_behind sig place statement))
matches_behind sig ledger place statement m =
    let same = clocks_after place.w (plain_place place) statement.said statement.from (line_of sig (known_there place) statement.said) refl in
    record {
      clocks = m.clocks ∙ sym same.0;
      words = m.words;
      sent = m.sent ∙ sym same.1;
      lines = m.lines;
    }

-- what a line needs so that counts go on
abbrev CanCountAll : DeltaWorld → Option DeltaLine → Type 0
CanCountAll w None = Unit {0}
CanCountAll w (Some line) = CanCount w line

can_count : (sig : Signature) (ledger : Ledger) (place : DeltaPlace) (said : Said) (from : Option ℕ) → Matches ledger (plain_place place) → Keeps sig (known_there place) said
    → CanCountAll place.w (counted_line from (line_of sig (known_there place) said))
can_count sig ledger place (Replicas n) from m k = tt
can_count sig ledger place (Does r op args time) None m k = (replica_there (plain_place place) r k.replica, time_exceeds (plain_place place) r op args time k.timely)
can_count sig ledger place (Does r op args time) (Some from) m k = (replica_there (plain_place place) r k.replica, time_exceeds (plain_place place) r op args time k.timely)
can_count sig ledger place (Ships r packet) None m k =
    (replica_there (plain_place place) r k.replica, subst (λ n. packet_of (known_there place) packet ≤ n) (words_packets ledger place m) (number_within place.words packet (place_of (known_there place) packet) refl))
can_count sig ledger place (Ships r packet) (Some from) m k =
    (replica_there (plain_place place) r k.replica, subst (λ n. packet_of (known_there place) packet ≤ n) (words_packets ledger place m) (number_within place.words packet (place_of (known_there place) packet) refl))
can_count sig ledger place (Delivers packet r) None m k =
    (replica_there (plain_place place) r k.replica, packet_there ledger place packet m (not_false (is_shipped (known_there place) packet) k.packet))
can_count sig ledger place (Delivers packet r) (Some from) m k =
    (replica_there (plain_place place) r k.replica, packet_there ledger place packet m (not_false (is_shipped (known_there place) packet) k.packet))
can_count sig ledger place (Asks r query args) None m k = tt
can_count sig ledger place (Asks r query args) (Some from) m k = tt
can_count sig ledger place (Shows r) None m k = tt
can_count sig ledger place (Shows r) (Some from) m k = tt

abbrev with_rows : ℕ → Counted → Counted
with_rows n k = record { replicas = no_counts n; packets = k.packets }

one_more : (n : ℕ) → 0 < n + 1
one_more n = omega arith

-- the counts after a line
counts_some : (k : Counted) (place : DeltaPlace) (said : Said) (line : DeltaLine) (o : Option DeltaLine) → o ≡ Some line → Counts k place.lines place.w → CanCountAll place.w o
    → Counts (counted_after k line) (place.lines + 1) (delta_world_behind place.w said o)
counts_some k place said line o e c can =
    subst (λ (l : Option DeltaLine). Counts (counted_after k line) (place.lines + 1) (delta_world_behind place.w said l)) (sym e)
    (counts_line k place.lines (place.lines + 1) place.w line (one_more place.lines) c (subst (λ (l : Option DeltaLine). CanCountAll place.w l) e can))

some_stands : (sig : Signature) (ledger next : Ledger) (tally more : Tally) (place : DeltaPlace) (statement : Statement) (line : DeltaLine) → Stands ledger tally place → Keeps sig (known_there place) statement.said
    → Matches next (behind sig (plain_place place) statement.said) → delta_line_of sig (known_there place) statement ≡ Some line → counted more ≡ counted_after (counted tally) line → Stands next more (delta_behind sig place statement)
some_stands sig ledger next tally more place statement line s keeps m there follows = record {
  matches = matches_behind sig next place statement m;
  counts = subst (λ (k : Counted). Counts k (place.lines + 1) (delta_world_behind place.w statement.said (delta_line_of sig (known_there place) statement))) (sym follows)
      (counts_some (counted tally) place statement.said line (delta_line_of sig (known_there place) statement) there s.counts
      (can_count sig ledger place statement.said statement.from s.matches keeps));
}

-- the script opens
in_front : (n : ℕ) → 0 < suc n
in_front n = omega arith

none_before : (n : ℕ) → (0 < n → ⊥) → n ≡ 0
none_before zero h = refl
none_before (suc n) h = absurd (h (in_front n))

opened_stands : (sig : Signature) (ledger next : Ledger) (tally more : Tally) (place : DeltaPlace) (said : Said) (from : Option ℕ) (m : ℕ) → Stands ledger tally place → Keeps sig (known_there place) said
    → Matches next (behind sig (plain_place place) said) → None ≡ counted_line from (line_of sig (known_there place) said) → m ≡ length next.clocks.items
    → counted more ≡ with_rows m (counted tally) → Stands next more (delta_behind sig place (record { said = said; from = from }))
opened_stands sig ledger next tally more place (Replicas n) from m s keeps matches e size opens =
    let many : m ≡ n = size ∙ ap (λ (cs : List ℕ). length cs) matches.clocks ∙ length-map (replicate n fresh) _ ∙ length-replicate n fresh in
    record {
      matches = matches_behind sig next place (record { said = Replicas n; from = from }) matches;
      counts = subst (λ (k : Counted). Counts k (place.lines + 1) (record place.w { world = opened place.w.world n })) (sym (opens ∙ ap (λ i. with_rows i (counted tally)) many))
          (counts_open (counted tally) place.lines (place.lines + 1) n place.w (one_more place.lines) (none_before place.lines (λ some. opened_once place.lines some keeps.placed)) s.counts);
    }
opened_stands sig ledger next tally more place (Does r op args time) from m s keeps matches e size opens = absurd cc
opened_stands sig ledger next tally more place (Ships r packet) from m s keeps matches e size opens = absurd cc
opened_stands sig ledger next tally more place (Delivers packet r) from m s keeps matches e size opens = absurd cc
opened_stands sig ledger next tally more place (Asks r query args) from m s keeps matches e size opens = absurd cc
opened_stands sig ledger next tally more place (Shows r) from m s keeps matches e size opens = absurd cc

kept_from : (sig : Signature) (ledger next : Ledger) (tally more : Tally) (place : DeltaPlace) (statement : Statement) (o : Option DeltaLine) (m : ℕ) → Stands ledger tally place → Keeps sig (known_there place) statement.said
    → Matches next (behind sig (plain_place place) statement.said) → o ≡ delta_line_of sig (known_there place) statement → m ≡ length next.clocks.items
    → counted more ≡ counted_with (counted tally) m o → Stands next more (delta_behind sig place statement)
kept_from sig ledger next tally more place statement None m s keeps matches e size follows = opened_stands sig ledger next tally more place statement.said statement.from m s keeps matches e size follows
kept_from sig ledger next tally more place statement (Some line) m s keeps matches e size follows = some_stands sig ledger next tally more place statement line s keeps matches (sym e) follows

-- what is kept after a line that keeps the rules
pub stands_kept : (sig : Signature) (ledger next : Ledger) (tally more : Tally) (statement : Statement) (o : Option DeltaLine) (m : ℕ) → Keeps sig (known_of ledger) statement.said
    → ((sig : Signature) (place : Place) → Matches ledger place → Matches next (behind sig place statement.said)) → o ≡ delta_line_of sig (known_of ledger) statement → m ≡ length next.clocks.items
    → counted more ≡ counted_with (counted tally) m o → (place : DeltaPlace) → Stands ledger tally place → Stands next more (delta_behind sig place statement)
stands_kept sig ledger next tally more statement o m keeps advances e size follows place s =
    let known = known-matches ledger (plain_place place) s.matches in
    kept_from sig ledger next tally more place statement o m s (subst (λ k. Keeps sig k statement.said) known keeps) (advances sig (plain_place place) s.matches)
    (e ∙ ap (λ k. delta_line_of sig k statement) known) size follows
