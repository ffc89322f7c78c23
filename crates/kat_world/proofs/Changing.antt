-- A delivery that is left out, and two that are exchanged.
use Rattle.std.proofs.Common.{◌≡◌, ℕ, suc, ◌-◌, ◌<◌, ◌≤◌, inl, inr, ⊎_elim, List, [], ◌∷◌, ◌++◌, length, get_or, set, refl, sym, ◌∙◌, ap, subst, arith, append_assoc}
use Rattle.std.proofs.lemmas.List.{length-set, get_or-set_same, get_or-set_other}
use Rattle.std.proofs.lemmas.Bool.{cases_eq}
use Rattle.kat_design.specs.Designs.{DesignForm}
use Rattle.kat_design.specs.Sorted.{IsWellSorted}
use Rattle.kat_script.specs.Facts.{HoldsFronts, done_in}
use Rattle.kat_script.specs.Judged.{AreJudged, IsReplica}
use Rattle.kat_script.specs.World.{Holder, World, after, after_doing, first_world, fresh, merged, packet_at, replica_at, world_after}
use Rattle.kat_script.specs.declared.script.Line.{Line}
use Rattle.kat_script.specs.declared.script.Line.TheVariants.{Do, Ship, Deliver, Ask, Show}
use Rattle.kat_type.proofs.Unions.{has_mine, has_theirs}
use Rattle.kat_script.proofs.Worlds.{facts_deliver, facts_of_worlds}
use Rattle.kat_type.specs.Lists.{Has}
use Rattle.kat_type.specs.declared.done.Done.{Done}
use Rattle.kat_type.specs.declared.signatures.Signature.{Signature}
use Rattle.kat_type.proofs.Lists.{has_front}
use Rattle.kat_world.specs.Deliveries.{HasAbsorbed, NoneShips, RunAlike, world_of}
use Rattle.kat_world.proofs.Holders.{AreAlike, absorbed_alike, alike_itself, turned_alike}
use Rattle.kat_world.proofs.Lifting.{Tails, judged_behind, lifted, world_behind}
use Rattle.kat_world.proofs.Lists.{put_room, put_stays, set_apart, set_one, set_twice}
use Rattle.kat_world.proofs.Pairing.{HaveLatest, Pair, judged_lines, latest_worlds, pair_lines}
use Rattle.kat_world.proofs.Printing.{OrderIsFree, models_same, texts_same}

place_within : (r n : ℕ) → 1 ≤ r → r ≤ n → r - 1 < n
place_within r n l m = omega arith

one_less : (n : ℕ) → n ≤ suc n
one_less n = omega arith

same_length : (n : ℕ) → n ≤ n
same_length n = omega arith

-- left out when all is absorbed
pair_absorbed : (past : List Done) (world : World) (p r : ℕ) → HoldsFronts past world → HaveLatest world → IsReplica world r → HasAbsorbed world r p → Pair (after world (Deliver p r)) world
pair_absorbed past world p r facts latest is among =
    let i = r - 1 in
    let mine = get_or world.replicas i fresh in
    let theirs = get_or world.packets p fresh in
    record {
      past = past;
      here = facts_deliver past world p r facts is;
      there = facts;
      alike = record {
        as_many = length-set world.replicas i (merged mine theirs);
        as_many_packets = refl;
        replicas = set_one AreAlike world.replicas i (merged mine theirs) fresh alike_itself (absorbed_alike past mine theirs (facts.replicas i) (latest.packets p) among);
        packets = λ k. alike_itself (get_or world.packets k fresh);
      };
    }

tails_absorbed : (sig : Signature) (past : List Done) (world : World) (p r : ℕ) (behind : List Line) → HoldsFronts past world → HaveLatest world
    → HasAbsorbed world r p → AreJudged sig world (Deliver p r ∷ behind) → Tails sig world (Deliver p r ∷ behind) behind
tails_absorbed sig past world p r behind facts latest among judged =
    let pair : Pair (after world (Deliver p r)) world = pair_absorbed past world p r facts latest judged.0.0 among in
    record {
      judged = judged_lines sig (after world (Deliver p r)) world behind pair.alike judged.1;
      design = λ d free. texts_same d sig (after world (Deliver p r)) world behind free pair judged.1;
      model = λ ty. models_same ty sig (after world (Deliver p r)) world behind pair judged.1;
      pair = pair_lines sig (after world (Deliver p r)) world behind pair judged.1;
    }

tails_there : (n : ℕ) (before : List Line) (p r : ℕ) (behind : List Line) (sig : Signature) → HasAbsorbed (world_of n before) r p
    → AreJudged sig (first_world n) (before ++ Deliver p r ∷ behind) → Tails sig (world_of n before) (Deliver p r ∷ behind) behind
tails_there n before p r behind sig among judged =
    tails_absorbed sig (done_in before) (world_of n before) p r behind (facts_of_worlds sig n before (Deliver p r ∷ behind) judged) (latest_worlds n before) among
    (judged_behind sig (first_world n) before (Deliver p r ∷ behind) judged)

pub left_out : (n p r : ℕ) (before behind : List Line) → ((d : DesignForm) → IsWellSorted d → OrderIsFree d) → HasAbsorbed (world_of n before) r p
    → RunAlike n (before ++ Deliver p r ∷ behind) (before ++ behind)
left_out n p r before behind free among =
    lifted n before (Deliver p r ∷ behind) behind free (one_less (length behind)) (λ sig judged. tails_there n before p r behind sig among judged)

-- what is absorbed stays absorbed
abbrev Grows : Holder → Holder → Type 0
Grows new old = (one : Done) → Has old.absorbed one → Has new.absorbed one

grows_itself : (holder : Holder) → Grows holder holder
grows_itself holder one has = has

replica_grows : (world : World) (line : Line) (k : ℕ) → Grows (get_or (after world line).replicas k fresh) (get_or world.replicas k fresh)
replica_grows world (Do done) k =
    let mine = get_or world.replicas (done.replica - 1) fresh in
    set_one Grows world.replicas (done.replica - 1) (after_doing mine done) fresh grows_itself (λ one has. has_front mine.absorbed (done ∷ []) one has) k
replica_grows world (Ship r p) k = grows_itself (get_or world.replicas k fresh)
replica_grows world (Deliver p r) k =
    let mine = get_or world.replicas (r - 1) fresh in
    let theirs = get_or world.packets p fresh in
    set_one Grows world.replicas (r - 1) (merged mine theirs) fresh grows_itself (λ one has. has_mine mine.absorbed theirs.absorbed one has) k
replica_grows world (Ask r query args) k = grows_itself (get_or world.replicas k fresh)
replica_grows world (Show r) k = grows_itself (get_or world.replicas k fresh)

-- a packet whose word isn't shipped anew is what it was
packet_stays : (world : World) (line : Line) (p : ℕ) → p < length world.packets → ((r : ℕ) → line ≡ Ship r p → ⊥) → get_or (after world line).packets p fresh ≡ get_or world.packets p fresh
packet_stays world (Do done) p lt none = refl
packet_stays world (Ship r q) p lt none = put_stays world.packets q p (replica_at world r) fresh (λ e. none r (ap (λ (k : ℕ). Ship r k) (sym e))) lt
packet_stays world (Deliver q r) p lt none = refl
packet_stays world (Ask r query args) p lt none = refl
packet_stays world (Show r) p lt none = refl

packet_there : (world : World) (line : Line) (p : ℕ) → p < length world.packets → p < length (after world line).packets
packet_there world (Do done) p lt = lt
packet_there world (Ship r q) p lt = put_room world.packets q p (replica_at world r) lt
packet_there world (Deliver q r) p lt = lt
packet_there world (Ask r query args) p lt = lt
packet_there world (Show r) p lt = lt

absorbed_line : (world : World) (line : Line) (p r : ℕ) → p < length world.packets → ((s : ℕ) → line ≡ Ship s p → ⊥) → HasAbsorbed world r p → HasAbsorbed (after world line) r p
absorbed_line world line p r lt none among one has =
    replica_grows world line (r - 1) one (among one (subst (λ (h : Holder). Has h.absorbed one) (packet_stays world line p lt none) has))

absorbed_lines : (world : World) (lines : List Line) (p r : ℕ) → p < length world.packets → NoneShips lines p → HasAbsorbed world r p → HasAbsorbed (world_after world lines) r p
absorbed_lines world [] p r lt none among = among
absorbed_lines world (line ∷ lines) p r lt none among =
    absorbed_lines (after world line) lines p r (packet_there world line p lt) (λ s has. none s (inr has))
    (absorbed_line world line p r lt (λ s e. none s (inl e)) among)

absorbed_at_once : (world : World) (p r : ℕ) → IsReplica world r → HasAbsorbed (after world (Deliver p r)) r p
absorbed_at_once world p r is one has =
    let i = r - 1 in
    let mine = get_or world.replicas i fresh in
    let theirs = get_or world.packets p fresh in
    subst (λ (h : Holder). Has h.absorbed one) (sym (get_or-set_same world.replicas i (merged mine theirs) fresh (place_within r (length world.replicas) is.0 is.1)))
    (has_theirs mine.absorbed theirs.absorbed one has)

absorbed_before : (sig : Signature) (n p r : ℕ) (before between rest : List Line) → NoneShips between p
    → AreJudged sig (first_world n) (before ++ Deliver p r ∷ rest) → HasAbsorbed (world_of n (before ++ Deliver p r ∷ between)) r p
absorbed_before sig n p r before between rest none judged =
    let world = world_of n before in
    let here = judged_behind sig (first_world n) before (Deliver p r ∷ rest) judged in
    subst (λ (w : World). HasAbsorbed w r p) (sym (world_behind (first_world n) before (Deliver p r ∷ between)))
    (absorbed_lines (after world (Deliver p r)) between p r here.0.1 none (absorbed_at_once world p r here.0.0))

again_from : (n p r : ℕ) (before between behind : List Line) → ((d : DesignForm) → IsWellSorted d → OrderIsFree d) → NoneShips between p
    → RunAlike n ((before ++ Deliver p r ∷ between) ++ Deliver p r ∷ behind) ((before ++ Deliver p r ∷ between) ++ behind)
again_from n p r before between behind free none =
    let front = before ++ Deliver p r ∷ between in
    lifted n front (Deliver p r ∷ behind) behind free (one_less (length behind))
    (λ sig judged. tails_there n front p r behind sig
    (absorbed_before sig n p r before between (between ++ Deliver p r ∷ behind) none
    (subst (λ (ls : List Line). AreJudged sig (first_world n) ls) (append_assoc before (Deliver p r ∷ between) (Deliver p r ∷ behind)) judged)) judged)

pub again : (n p r : ℕ) (before between behind : List Line) → ((d : DesignForm) → IsWellSorted d → OrderIsFree d) → NoneShips between p
    → RunAlike n (before ++ Deliver p r ∷ (between ++ Deliver p r ∷ behind)) (before ++ Deliver p r ∷ (between ++ behind))
again n p r before between behind free none =
    subst (λ (ls : List Line). RunAlike n ls (before ++ Deliver p r ∷ (between ++ behind))) (append_assoc before (Deliver p r ∷ between) (Deliver p r ∷ behind))
    (subst (λ (ls : List Line). RunAlike n ((before ++ Deliver p r ∷ between) ++ Deliver p r ∷ behind) ls) (append_assoc before (Deliver p r ∷ between) behind)
    (again_from n p r before between behind free none))

-- two deliveries exchanged
still_there : (world : World) (p r s : ℕ) → IsReplica world s → IsReplica (after world (Deliver p r)) s
still_there world p r s is = (is.0, subst (λ (n : ℕ). s ≤ n) (sym (length-set world.replicas (r - 1) (merged (replica_at world r) (packet_at world p)))) is.1)

pair_turned : (past : List Done) (world : World) (p q r : ℕ) → HoldsFronts past world → IsReplica world r
    → Pair (after (after world (Deliver p r)) (Deliver q r)) (after (after world (Deliver q r)) (Deliver p r))
pair_turned past world p q r facts is =
    let i = r - 1 in
    let mine = get_or world.replicas i fresh in
    let one = get_or world.packets p fresh in
    let two = get_or world.packets q fresh in
    let lt : i < length world.replicas = place_within r (length world.replicas) is.0 is.1 in
    let first = set world.replicas i (merged mine one) in
    let other = set world.replicas i (merged mine two) in
    let last = merged (get_or first i fresh) two in
    let other_last = merged (get_or other i fresh) one in
    let turned : AreAlike last other_last =
    subst (λ (h : Holder). AreAlike (merged h two) other_last) (sym (get_or-set_same world.replicas i (merged mine one) fresh lt))
    (subst (λ (h : Holder). AreAlike (merged (merged mine one) two) (merged h one)) (sym (get_or-set_same world.replicas i (merged mine two) fresh lt)) (turned_alike mine one two)) in
    record {
      past = past;
      here = facts_deliver past (after world (Deliver p r)) q r (facts_deliver past world p r facts is) (still_there world p r r is);
      there = facts_deliver past (after world (Deliver q r)) p r (facts_deliver past world q r facts is) (still_there world q r r is);
      alike = record {
        as_many = length-set first i last ∙ length-set world.replicas i (merged mine one) ∙ sym (length-set world.replicas i (merged mine two)) ∙ sym (length-set other i other_last);
        as_many_packets = refl;
        replicas = set_twice AreAlike world.replicas i (merged mine one) (merged mine two) last other_last fresh alike_itself turned;
        packets = λ k. alike_itself (get_or world.packets k fresh);
      };
    }

places_apart : (r s : ℕ) → 1 ≤ r → 1 ≤ s → (r ≡ s → ⊥) → r - 1 ≡ s - 1 → ⊥
places_apart r s l m n e = n (same_number r s l m e) where
  same_number : (r s : ℕ) → 1 ≤ r → 1 ≤ s → r - 1 ≡ s - 1 → r ≡ s
  same_number r s l m e = omega arith

pair_apart : (past : List Done) (world : World) (p r q s : ℕ) → HoldsFronts past world → IsReplica world r → IsReplica world s → (r ≡ s → ⊥)
    → Pair (after (after world (Deliver p r)) (Deliver q s)) (after (after world (Deliver q s)) (Deliver p r))
pair_apart past world p r q s facts is is' differ =
    let i = r - 1 in
    let j = s - 1 in
    let mine = get_or world.replicas i fresh in
    let theirs = get_or world.replicas j fresh in
    let one = get_or world.packets p fresh in
    let two = get_or world.packets q fresh in
    let first = set world.replicas i (merged mine one) in
    let other = set world.replicas j (merged theirs two) in
    let last = merged (get_or first j fresh) two in
    let other_last = merged (get_or other i fresh) one in
    let n : i ≡ j → ⊥ = places_apart r s is.0 is'.0 differ in
    let here : AreAlike (merged mine one) other_last =
    subst (λ (h : Holder). AreAlike (merged mine one) (merged h one)) (sym (get_or-set_other world.replicas j i (merged theirs two) fresh n)) (alike_itself (merged mine one)) in
    let there : AreAlike last (merged theirs two) =
    subst (λ (h : Holder). AreAlike (merged h two) (merged theirs two)) (sym (get_or-set_other world.replicas i j (merged mine one) fresh (λ e. n (sym e)))) (alike_itself (merged theirs two)) in
    record {
      past = past;
      here = facts_deliver past (after world (Deliver p r)) q s (facts_deliver past world p r facts is) (still_there world p r s is');
      there = facts_deliver past (after world (Deliver q s)) p r (facts_deliver past world q s facts is') (still_there world q s r is);
      alike = record {
        as_many = length-set first j last ∙ length-set world.replicas i (merged mine one) ∙ sym (length-set world.replicas j (merged theirs two)) ∙ sym (length-set other i other_last);
        as_many_packets = refl;
        replicas = set_apart AreAlike world.replicas i j (merged mine one) last other_last (merged theirs two) fresh alike_itself n here there;
        packets = λ k. alike_itself (get_or world.packets k fresh);
      };
    }

pair_exchanged : (past : List Done) (world : World) (p r q s : ℕ) → HoldsFronts past world → IsReplica world r → IsReplica world s
    → Pair (after (after world (Deliver p r)) (Deliver q s)) (after (after world (Deliver q s)) (Deliver p r))
pair_exchanged past world p r q s facts is is' =
    ⊎_elim
    (λ (e : r ≡ s). subst (λ (t : ℕ). Pair (after (after world (Deliver p r)) (Deliver q t)) (after (after world (Deliver q t)) (Deliver p r))) e (pair_turned past world p q r facts is))
    (λ (n : r ≡ s → ⊥). pair_apart past world p r q s facts is is' n) (cases_eq r s)

was_there : (world : World) (p r s : ℕ) → IsReplica (after world (Deliver p r)) s → IsReplica world s
was_there world p r s is = (is.0, subst (λ (n : ℕ). s ≤ n) (length-set world.replicas (r - 1) (merged (replica_at world r) (packet_at world p))) is.1)

tails_exchanged : (sig : Signature) (past : List Done) (world : World) (p r q s : ℕ) (behind : List Line) → HoldsFronts past world
    → AreJudged sig world (Deliver p r ∷ Deliver q s ∷ behind) → Tails sig world (Deliver p r ∷ Deliver q s ∷ behind) (Deliver q s ∷ Deliver p r ∷ behind)
tails_exchanged sig past world p r q s behind facts judged =
    let one : World = after (after world (Deliver p r)) (Deliver q s) in
    let two : World = after (after world (Deliver q s)) (Deliver p r) in
    let is : IsReplica world s = was_there world p r s judged.1.0.0 in
    let pair : Pair one two = pair_exchanged past world p r q s facts judged.0.0 is in
    record {
      judged = ((is, judged.1.0.1), ((still_there world q s r judged.0.0, judged.0.1), judged_lines sig one two behind pair.alike judged.1.1));
      design = λ d free. texts_same d sig one two behind free pair judged.1.1;
      model = λ ty. models_same ty sig one two behind pair judged.1.1;
      pair = pair_lines sig one two behind pair judged.1.1;
    }

pub exchanged : (n p r q s : ℕ) (before behind : List Line) → ((d : DesignForm) → IsWellSorted d → OrderIsFree d)
    → RunAlike n (before ++ Deliver p r ∷ Deliver q s ∷ behind) (before ++ Deliver q s ∷ Deliver p r ∷ behind)
exchanged n p r q s before behind free =
    lifted n before (Deliver p r ∷ Deliver q s ∷ behind) (Deliver q s ∷ Deliver p r ∷ behind) free (same_length (length (Deliver p r ∷ Deliver q s ∷ behind)))
    (λ sig judged. tails_exchanged sig (done_in before) (world_of n before) p r q s behind
    (facts_of_worlds sig n before (Deliver p r ∷ Deliver q s ∷ behind) judged)
    (judged_behind sig (first_world n) before (Deliver p r ∷ Deliver q s ∷ behind) judged))
