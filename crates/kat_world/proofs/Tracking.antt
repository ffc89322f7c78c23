-- The latest times tell what each replica and packet absorbed, and each line keeps that.
use Rattle.std.proofs.Common.{◌≡◌, ℕ, zero, suc, ◌+◌, ◌-◌, ◌<◌, ◌≤◌, ◌⊎◌, inl, inr, ⊎_elim, List, [], ◌∷◌, ◌++◌, length, get_or, set, refl, sym, ◌∙◌, ap, subst, arith}
use Rattle.std.specs.Prelude.{◌↔◌, max, replicate}
use Rattle.std.proofs.lemmas.Bool.{cases_eq}
use Rattle.std.proofs.lemmas.List.{length-set, get_or-set_same, get_or-set_other, length-replicate}
use Rattle.kat_script.specs.Facts.{HoldsFronts, IsFront}
use Rattle.kat_script.specs.Judged.{IsJudgedLine, IsReplica}
use Rattle.kat_script.specs.World.{Holder, World, after, after_doing, first_world, fresh, merged, packet_at, replica_at}
use Rattle.kat_script.specs.declared.script.Line.{Line}
use Rattle.kat_script.specs.declared.script.Line.TheVariants.{Do, Ship, Deliver, Ask, Show}
use Rattle.kat_type.proofs.Unions.{has_mine, has_theirs, has_united}
use Rattle.kat_type.specs.Lists.{Has}
use Rattle.kat_type.specs.declared.done.Done.{Done}
use Rattle.kat_type.specs.declared.signatures.Signature.{Signature}
use Rattle.kat_type.proofs.Lists.{either_last, has_front, has_last}
use Rattle.kat_world.specs.Tracked.{AreWithin, Knows, Times, Tracks, first_times, followed, later, latest, times_at}
use Rattle.kat_world.proofs.Pairs.{put_both, put_each, put_long, set_both, set_each}

not_after : (a b : ℕ) → a < b → b ≤ a → ⊥
not_after a b h k = omega arith

through : (a b c : ℕ) → a ≤ b → b < c → a < c
through a b c h k = omega arith

upto : (a b c : ℕ) → a ≤ b → b ≤ c → a ≤ c
upto a b c h k = omega arith

weaken : (a b : ℕ) → a < b → a ≤ b
weaken a b h = omega arith

same_place : (r s : ℕ) → r ≡ s → r - 1 ≡ s - 1
same_place r s e = ap (λ (n : ℕ). n - 1) e

one_replica : (r s : ℕ) → 1 ≤ r → 1 ≤ s → r - 1 ≡ s - 1 → r ≡ s
one_replica r s h k e = omega arith

place_fits : (r n : ℕ) → 1 ≤ r → r ≤ n → r - 1 < n
place_fits r n h k = omega arith

back : (r : ℕ) → 1 ≤ r → r ≡ (r - 1) + 1
back r h = omega arith

-- a new operation is later than its replica's clock, so nobody has it yet
pub not_done : (past : List Done) (world : World) (new : Done) → HoldsFronts past world → 1 ≤ new.replica → (replica_at world new.replica).clock < new.time
    → Has past new → ⊥
not_done past world new f one late has =
    let there : Has (replica_at world new.replica).absorbed new = f.own (new.replica - 1) new has (back new.replica one) in
    not_after (replica_at world new.replica).clock new.time late ((f.replicas (new.replica - 1)).within new there)

-- what was known of a holder is known with a new operation, that it didn't absorb
knows_more : (past : List Done) (world : World) (new : Done) (times : List ℕ) (holder : Holder) → HoldsFronts past world → 1 ≤ new.replica
    → (replica_at world new.replica).clock < new.time → IsFront past holder → AreWithin world times → Knows past times holder
    → Knows (past ++ new ∷ []) times holder
knows_more past world new times holder f one late front within knows = λ it has.
    ⊎_elim
    (λ (was : Has past it). knows it was)
    (λ (e : new ≡ it). (
      λ absorbed. absurd (not_done past world new f one late (front.was_done new (subst (λ (d : Done). Has holder.absorbed d) (sym e) absorbed))),
      λ time. absurd (not_after (replica_at world new.replica).clock new.time late
          (subst (λ (d : Done). d.time ≤ (replica_at world d.replica).clock) (sym e) (upto it.time (latest times it.replica) (replica_at world it.replica).clock time (within (it.replica - 1))))),
    ))
    (either_last past new it has)

-- the replica that does an operation knows it, with all that it did before
knows_own : (past : List Done) (world : World) (new : Done) (times : List ℕ) → HoldsFronts past world → IsReplica world new.replica
    → (replica_at world new.replica).clock < new.time → length times ≡ length world.replicas → Knows past times (replica_at world new.replica)
    → Knows (past ++ new ∷ []) (set times (new.replica - 1) new.time) (after_doing (replica_at world new.replica) new)
knows_own past world new times f there late long knows = λ it has.
    let i : ℕ = new.replica - 1 in
    let inside : i < length times = subst (λ (n : ℕ). i < n) (sym long) (place_fits new.replica (length world.replicas) there.0 there.1) in
    ⊎_elim
    (λ (was : Has past it). ⊎_elim
    (λ (e : it.replica - 1 ≡ i).
    let own : Has (replica_at world new.replica).absorbed it = f.own i it was (one_replica it.replica new.replica (f.placed it was).0 there.0 e ∙ back new.replica there.0) in
    let before : it.time < new.time = through it.time (replica_at world new.replica).clock new.time ((f.replicas i).within it own) late in
    let now : latest (set times i new.time) it.replica ≡ new.time = ap (λ (k : ℕ). get_or (set times i new.time) k 0) e ∙ get_or-set_same times i new.time 0 inside in (
      λ absorbed. subst (λ (t : ℕ). it.time ≤ t) (sym now) (weaken it.time new.time before),
      λ time. has_front (replica_at world new.replica).absorbed (new ∷ []) it own,
    ))
    (λ (n : it.replica - 1 ≡ i → ⊥).
    let now : latest (set times i new.time) it.replica ≡ latest times it.replica = get_or-set_other times i (it.replica - 1) new.time 0 n in (
      λ absorbed. ⊎_elim
          (λ (had : Has (replica_at world new.replica).absorbed it). subst (λ (t : ℕ). it.time ≤ t) (sym now) ((knows it was).0 had))
          (λ (e : new ≡ it). absurd (n (ap (λ (d : Done). d.replica - 1) (sym e))))
          (either_last (replica_at world new.replica).absorbed new it absorbed),
      λ time. has_front (replica_at world new.replica).absorbed (new ∷ []) it ((knows it was).1 (subst (λ (t : ℕ). it.time ≤ t) now time)),
    ))
    (cases_eq (it.replica - 1) i))
    (λ (e : new ≡ it).
    let now : latest (set times i new.time) new.replica ≡ new.time = get_or-set_same times i new.time 0 inside in
    subst (λ (d : Done). Has (after_doing (replica_at world new.replica) new).absorbed d ↔ (d.time ≤ latest (set times i new.time) d.replica)) e (
      λ absorbed. subst (λ (t : ℕ). new.time ≤ t) (sym now) (omega arith),
      λ time. has_last (replica_at world new.replica).absorbed new,
    ))
    (either_last past new it has)

-- clocks only grow
grows : (replicas : List Holder) (i : ℕ) (holder : Holder) → (get_or replicas i fresh).clock ≤ holder.clock
    → (j : ℕ) → (get_or replicas j fresh).clock ≤ (get_or (set replicas i holder) j fresh).clock
grows [] i holder h j = omega arith
grows (x ∷ replicas) zero holder h zero = h
grows (x ∷ replicas) zero holder h (suc j) = omega arith
grows (x ∷ replicas) (suc i) holder h zero = omega arith
grows (x ∷ replicas) (suc i) holder h (suc j) = grows replicas i holder h j

within_grown : (world : World) (i : ℕ) (holder : Holder) (times : List ℕ) → (get_or world.replicas i fresh).clock ≤ holder.clock → AreWithin world times
    → AreWithin (record world { replicas = set world.replicas i holder }) times
within_grown world i holder times h within = λ j. upto (get_or times j 0) (get_or world.replicas j fresh).clock (get_or (set world.replicas i holder) j fresh).clock
    (within j) (grows world.replicas i holder h j)

within_own : (world : World) (i : ℕ) (holder : Holder) (times : List ℕ) (time : ℕ) → (get_or world.replicas i fresh).clock ≤ holder.clock → time ≤ holder.clock
    → length times ≡ length world.replicas → AreWithin world times
    → AreWithin (record world { replicas = set world.replicas i holder }) (set times i time)
within_own world i holder times time h t long within =
    set_both (λ (k : ℕ) (x : Holder). k ≤ x.clock) times world.replicas i time 0 holder fresh long within t

-- a holder for another list of times, place by place
Goes : List Done → List ℕ → Holder → Type 0
Goes past times holder = Knows past times holder

tracks_do : (past : List Done) (world : World) (t : Times) (new : Done) → HoldsFronts past world → IsReplica world new.replica
    → (replica_at world new.replica).clock < new.time → Tracks past world t → Tracks (past ++ new ∷ []) (after world (Do new)) (followed t (Do new))
tracks_do past world t new f there late tr =
    let i : ℕ = new.replica - 1 in
    let inside : i < length t.replicas = subst (λ (n : ℕ). i < n) (sym tr.some_replicas) (place_fits new.replica (length world.replicas) there.0 there.1) in
    let long : length (times_at t.replicas i) ≡ length world.replicas = tr.long_replicas i inside in
    let clock : (get_or world.replicas i fresh).clock ≤ new.time = weaken (get_or world.replicas i fresh).clock new.time late in
    record {
      replicas = set_both (λ (ts : List ℕ) (h : Holder). Knows (past ++ new ∷ []) ts h) t.replicas world.replicas i
          (set (times_at t.replicas i) i new.time) [] (after_doing (replica_at world new.replica) new) fresh tr.some_replicas
          (λ k. knows_more past world new (times_at t.replicas k) (get_or world.replicas k fresh) f there.0 late (f.replicas k) (tr.replicas_within k) (tr.replicas k))
          (knows_own past world new (times_at t.replicas i) f there late long (tr.replicas i));
      packets = λ k. knows_more past world new (times_at t.packets k) (get_or world.packets k fresh) f there.0 late (f.packets k) (tr.packets_within k) (tr.packets k);
      replicas_within = set_within t.replicas i (set (times_at t.replicas i) i new.time) (after world (Do new))
          (λ k. within_grown world i (after_doing (replica_at world new.replica) new) (times_at t.replicas k) clock (tr.replicas_within k))
          (within_own world i (after_doing (replica_at world new.replica) new) (times_at t.replicas i) new.time clock (omega arith) long (tr.replicas_within i));
      packets_within = λ k. within_grown world i (after_doing (replica_at world new.replica) new) (times_at t.packets k) clock (tr.packets_within k);
      some_replicas = length-set t.replicas i (set (times_at t.replicas i) i new.time) ∙ tr.some_replicas
          ∙ sym (length-set world.replicas i (after_doing (replica_at world new.replica) new));
      some_packets = tr.some_packets;
      long_replicas = set_each (λ (ts : List ℕ). length ts ≡ length (set world.replicas i (after_doing (replica_at world new.replica) new))) t.replicas i
          (set (times_at t.replicas i) i new.time) []
          (λ k h. tr.long_replicas k h ∙ sym (length-set world.replicas i (after_doing (replica_at world new.replica) new)))
          (length-set (times_at t.replicas i) i new.time ∙ long ∙ sym (length-set world.replicas i (after_doing (replica_at world new.replica) new)));
      long_packets = λ k h. tr.long_packets k h ∙ sym (length-set world.replicas i (after_doing (replica_at world new.replica) new));
    } where
      set_within : (lists : List (List ℕ)) (i : ℕ) (ts : List ℕ) (world : World) → ((k : ℕ) → AreWithin world (get_or lists k [])) → AreWithin world ts
          → (k : ℕ) → AreWithin world (get_or (set lists i ts) k [])
      set_within [] i ts world all new k = all k
      set_within (x ∷ lists) zero ts world all new zero = new
      set_within (x ∷ lists) zero ts world all new (suc k) = all (suc k)
      set_within (x ∷ lists) (suc i) ts world all new zero = all 0
      set_within (x ∷ lists) (suc i) ts world all new (suc k) = set_within lists i ts world (λ n. all (suc n)) new k

pub tracks_ship : (past : List Done) (world : World) (t : Times) (r p : ℕ) → IsReplica world r → Tracks past world t → Tracks past (after world (Ship r p)) (followed t (Ship r p))
tracks_ship past world t r p there tr =
    let i : ℕ = r - 1 in
    let inside : i < length t.replicas = subst (λ (n : ℕ). i < n) (sym tr.some_replicas) (place_fits r (length world.replicas) there.0 there.1) in
    record {
      replicas = tr.replicas;
      packets = put_both (λ (ts : List ℕ) (h : Holder). Knows past ts h) t.packets world.packets p (times_at t.replicas i) [] (replica_at world r) fresh tr.some_packets tr.packets (tr.replicas i);
      replicas_within = tr.replicas_within;
      packets_within = put_both (λ (ts : List ℕ) (h : Holder). AreWithin world ts) t.packets world.packets p (times_at t.replicas i) [] (replica_at world r) fresh tr.some_packets
          tr.packets_within (tr.replicas_within i);
      some_replicas = tr.some_replicas;
      some_packets = put_long t.packets world.packets p (times_at t.replicas i) (replica_at world r) tr.some_packets;
      long_replicas = tr.long_replicas;
      long_packets = put_each (λ (ts : List ℕ). length ts ≡ length world.replicas) t.packets p (times_at t.replicas i) [] tr.long_packets (tr.long_replicas i inside);
    }

-- the later of two lists of times
later_at : (xs ys : List ℕ) (k : ℕ) → length xs ≡ length ys → get_or (later xs ys) k 0 ≡ max (get_or xs k 0) (get_or ys k 0)
later_at [] [] k h = omega arith
later_at [] (y ∷ ys) k h = absurd (omega arith)
later_at (x ∷ xs) [] k h = absurd (omega arith)
later_at (x ∷ xs) (y ∷ ys) zero h = refl
later_at (x ∷ xs) (y ∷ ys) (suc k) h = later_at xs ys k (omega arith)

later_long : (xs ys : List ℕ) → length (later xs ys) ≡ length xs
later_long [] ys = refl
later_long (x ∷ xs) [] = refl
later_long (x ∷ xs) (y ∷ ys) = (let h = later_long xs ys in omega arith)

left_max : (a b c : ℕ) → a ≤ b → a ≤ max b c
left_max a b c h = omega arith

right_max : (a b c : ℕ) → a ≤ c → a ≤ max b c
right_max a b c h = omega arith

below_max : (a b c : ℕ) → a ≤ max b c → (a ≤ b) ⊎ (a ≤ c)
below_max a b c h = at_or (max b c) b c h refl where
  either_le : (x y : ℕ) → (x ≤ y) ⊎ (y ≤ x)
  either_le zero y = inl (omega arith)
  either_le (suc x) zero = inr (omega arith)
  either_le (suc x) (suc y) = ⊎_elim (λ (l : x ≤ y). inl (omega arith)) (λ (r : y ≤ x). inr (omega arith)) (either_le x y)

  at_or : (m b c : ℕ) → a ≤ m → max b c ≡ m → (a ≤ b) ⊎ (a ≤ c)
  at_or m b c l e = ⊎_elim (λ (k : b ≤ c). inr (omega arith)) (λ (k : c ≤ b). inl (omega arith)) (either_le b c)

max_within : (b c d : ℕ) → b ≤ d → c ≤ d → max b c ≤ d
max_within b c d h k = omega arith

knows_merged : (past : List Done) (xs ys : List ℕ) (mine theirs : Holder) → length xs ≡ length ys → Knows past xs mine → Knows past ys theirs
    → Knows past (later xs ys) (merged mine theirs)
knows_merged past xs ys mine theirs long k l = λ it has.
    let now : latest (later xs ys) it.replica ≡ max (latest xs it.replica) (latest ys it.replica) = later_at xs ys (it.replica - 1) long in (
      λ absorbed. subst (λ (n : ℕ). it.time ≤ n) (sym now) (⊎_elim
          (λ (h : Has mine.absorbed it). left_max it.time (latest xs it.replica) (latest ys it.replica) ((k it has).0 h))
          (λ (h : Has theirs.absorbed it). right_max it.time (latest xs it.replica) (latest ys it.replica) ((l it has).0 h))
          (has_united mine.absorbed theirs.absorbed it absorbed)),
      λ time. ⊎_elim
          (λ (h : it.time ≤ latest xs it.replica). has_mine mine.absorbed theirs.absorbed it ((k it has).1 h))
          (λ (h : it.time ≤ latest ys it.replica). has_theirs mine.absorbed theirs.absorbed it ((l it has).1 h))
          (below_max it.time (latest xs it.replica) (latest ys it.replica) (subst (λ (n : ℕ). it.time ≤ n) now time)),
    )

later_within : (world : World) (xs ys : List ℕ) → length xs ≡ length ys → AreWithin world xs → AreWithin world ys → AreWithin world (later xs ys)
later_within world xs ys long a b = λ j. subst (λ (n : ℕ). n ≤ (get_or world.replicas j fresh).clock) (sym (later_at xs ys j long))
    (max_within (get_or xs j 0) (get_or ys j 0) (get_or world.replicas j fresh).clock (a j) (b j))

tracks_deliver : (past : List Done) (world : World) (t : Times) (p r : ℕ) → IsReplica world r → p < length world.packets → Tracks past world t
    → Tracks past (after world (Deliver p r)) (followed t (Deliver p r))
tracks_deliver past world t p r there packet tr =
    let i : ℕ = r - 1 in
    let inside : i < length t.replicas = subst (λ (n : ℕ). i < n) (sym tr.some_replicas) (place_fits r (length world.replicas) there.0 there.1) in
    let mine : length (times_at t.replicas i) ≡ length world.replicas = tr.long_replicas i inside in
    let theirs : length (times_at t.packets p) ≡ length world.replicas = tr.long_packets p (subst (λ (n : ℕ). p < n) (sym tr.some_packets) packet) in
    let long : length (times_at t.replicas i) ≡ length (times_at t.packets p) = mine ∙ sym theirs in
    let ts : List ℕ = later (times_at t.replicas i) (times_at t.packets p) in
    let holder : Holder = merged (replica_at world r) (packet_at world p) in
    let clock : (get_or world.replicas i fresh).clock ≤ holder.clock = left_max (get_or world.replicas i fresh).clock (get_or world.replicas i fresh).clock (packet_at world p).clock (omega arith) in
    record {
      replicas = set_both (λ (xs : List ℕ) (h : Holder). Knows past xs h) t.replicas world.replicas i ts [] holder fresh tr.some_replicas tr.replicas
          (knows_merged past (times_at t.replicas i) (times_at t.packets p) (replica_at world r) (packet_at world p) long (tr.replicas i) (tr.packets p));
      packets = tr.packets;
      replicas_within = set_both (λ (xs : List ℕ) (h : Holder). AreWithin (after world (Deliver p r)) xs) t.replicas world.replicas i ts [] holder fresh tr.some_replicas
          (λ k. within_grown world i holder (times_at t.replicas k) clock (tr.replicas_within k))
          (within_grown world i holder ts clock (later_within world (times_at t.replicas i) (times_at t.packets p) long (tr.replicas_within i) (tr.packets_within p)));
      packets_within = λ k. within_grown world i holder (times_at t.packets k) clock (tr.packets_within k);
      some_replicas = length-set t.replicas i ts ∙ tr.some_replicas ∙ sym (length-set world.replicas i holder);
      some_packets = tr.some_packets;
      long_replicas = set_each (λ (xs : List ℕ). length xs ≡ length (set world.replicas i holder)) t.replicas i ts []
          (λ k h. tr.long_replicas k h ∙ sym (length-set world.replicas i holder))
          (later_long (times_at t.replicas i) (times_at t.packets p) ∙ mine ∙ sym (length-set world.replicas i holder));
      long_packets = λ k h. tr.long_packets k h ∙ sym (length-set world.replicas i holder);
    }

-- at first nothing is known, and nothing was done
nothing_known : (times : List ℕ) (holder : Holder) → Knows [] times holder
nothing_known times holder = λ it has. absurd has

zeros : (n j : ℕ) → get_or (replicate {A = ℕ} n 0) j 0 ≡ zero
zeros zero j = refl
zeros (suc n) zero = refl
zeros (suc n) (suc j) = zeros n j

no_times : (n k : ℕ) (j m : ℕ) → get_or (get_or (replicate n (replicate {A = ℕ} m 0)) k []) j 0 ≡ zero
no_times zero k j m = refl
no_times (suc n) zero j m = zeros m j
no_times (suc n) (suc k) j m = no_times n k j m

each_long : (n k m : ℕ) → k < length (replicate n (replicate {A = ℕ} m 0)) → length (get_or (replicate n (replicate {A = ℕ} m 0)) k []) ≡ m
each_long zero k m h = absurd (omega arith)
each_long (suc n) zero m h = length-replicate m 0
each_long (suc n) (suc k) m h = each_long n k m (omega arith)

pub tracks_first : (n : ℕ) → Tracks [] (first_world n) (first_times n)
tracks_first n = record {
  replicas = λ k. nothing_known (times_at (replicate n (replicate n 0)) k) (get_or (replicate n fresh) k fresh);
  packets = λ k. nothing_known [] fresh;
  replicas_within = λ k j. subst (λ (t : ℕ). t ≤ (get_or (replicate n fresh) j fresh).clock) (sym (no_times n k j n)) (omega arith);
  packets_within = λ k j. omega arith;
  some_replicas = length-replicate n (replicate n 0) ∙ sym (length-replicate n fresh);
  some_packets = refl;
  long_replicas = λ k h. each_long n k n h ∙ sym (length-replicate n fresh);
  long_packets = λ k h. absurd (omega arith);
}

abbrev pub done_with : List Done → Line → List Done
done_with past (Do done) = past ++ done ∷ []
done_with past (Ship r p) = past
done_with past (Deliver p r) = past
done_with past (Ask r query args) = past
done_with past (Show r) = past

-- each line keeps what is known
pub tracks_line : (sig : Signature) (past : List Done) (world : World) (t : Times) (line : Line) → HoldsFronts past world → IsJudgedLine sig world line → Tracks past world t
    → Tracks (done_with past line) (after world line) (followed t line)
tracks_line sig past world t (Do done) f fit tr = tracks_do past world t done f fit.0 fit.1 tr
tracks_line sig past world t (Ship r p) f fit tr = tracks_ship past world t r p fit.0 tr
tracks_line sig past world t (Deliver p r) f fit tr = tracks_deliver past world t p r fit.0 fit.1 tr
tracks_line sig past world t (Ask r query args) f fit tr = tr
tracks_line sig past world t (Show r) f fit tr = tr
