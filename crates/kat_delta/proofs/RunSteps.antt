-- Each line keeps a run that of its world.
use Rattle.std.proofs.Common.{◌≡◌, ℕ, zero, suc, ◌+◌, ◌-◌, ◌^◌, ◌≤◌, ◌<◌, length, All, Bool, true, false, inl, inr, ⊎_elim, List, [], ◌∷◌, ◌++◌, get_or, set, refl, sym, ◌∙◌, ap, subst, cond, arith, Option, None, Some, length-append}
use Rattle.std.specs.Prelude.{MatchOption, replicate, slice_get, ◌==◌}
use Rattle.std.specs.Cmp.{IsTotalOrder}
use Rattle.std.proofs.lemmas.List.{length-set, length-replicate}
use Rattle.std.proofs.lemmas.List.Elements.{All-nil, All-cons}
use Rattle.std.proofs.lemmas.Option.{slice_get_read}
use Rattle.kat_num.specs.Orders.{value_order}
use Rattle.kat_num.specs.Values.{IsArgument}
use Rattle.kat_num.specs.declared.values.Sort.{Sort}
use Rattle.kat_num.specs.declared.values.TheConstants.{NUMBER_LIMIT}
use Rattle.kat_num.specs.declared.values.Value.{Value}
use Rattle.kat_type.specs.Lists.{Has, IsOnce}
use Rattle.kat_type.specs.declared.done.Done.{Done}
use Rattle.kat_type.specs.declared.signatures.OpSig.{OpSig}
use Rattle.kat_type.specs.declared.signatures.Signature.{Signature}
use Rattle.kat_lattice.specs.Sets.{TellsApart}
use Rattle.kat_design.specs.Designs.{DesignForm}
use Rattle.kat_design.specs.Fitting.{FitsSignature}
use Rattle.kat_design.specs.Meanings.{are_kin}
use Rattle.kat_design.specs.Parts.{PartsKin}
use Rattle.kat_design.specs.Sorted.{AreMatched, IsWellSorted}
use Rattle.kat_design.specs.Tallied.{total}
use Rattle.kat_design.specs.declared.states.Part.{Part}
use Rattle.kat_design.proofs.Lists.{total_among}
use Rattle.kat_script.specs.Facts.{HoldsFronts, IsFront}
use Rattle.kat_script.specs.Judged.{AreArguments, IsJudgedLine, IsReplica}
use Rattle.kat_script.specs.World.{Holder, World, after_doing, fresh, merged, packet_at, put, replica_at}
use Rattle.kat_script.specs.declared.rules.TheConstants.{TIME_LIMIT}
use Rattle.kat_script.specs.declared.script.Line.TheVariants.{Do, Ship, Deliver}
use Rattle.kat_delta.specs.Following.{CanTake, CarriesAs, Follows, IsWholeOf, Knows, RunsAs, TookAt}
use Rattle.kat_delta.specs.Standing.{CarriesDelta, StandsFor, count_at, count_of}
use Rattle.kat_delta.specs.Worlds.{DeltaWorld, Made, delta_after, done_by, first_delta_world, own_part}
use Rattle.kat_delta.specs.declared.replicas.DeltaPacket.{DeltaPacket}
use Rattle.kat_delta.specs.declared.replicas.DeltaReplica.{DeltaReplica}
use Rattle.kat_delta.specs.declared.running.Running.{Running}
use Rattle.kat_delta.specs.declared.running.Sent.{Sent}
use Rattle.kat_delta.specs.declared.running.Sent.TheVariants.{Whole, Own}
use Rattle.kat_delta.specs.declared.script.DeltaLine.TheVariants.{Plain, Delta}
use Rattle.kat_delta.proofs.Places.{runs_with_packet, runs_with_replica, snoc_read}
use Rattle.kat_delta.proofs.RunsOn.{carries_part, carries_whole, delta_kin, follows_count, follows_done, follows_kin, follows_taken}
use Rattle.kat_delta.proofs.Worlds.{may_take, may_take_whole}

-- places
numbered : (r : ℕ) → 1 ≤ r → (r - 1) + 1 ≡ r
numbered r l = omega arith

place_lt : (r n m : ℕ) → 1 ≤ r → r ≤ n → m ≡ n → r - 1 < m
place_lt r n m l h e = omega arith

-- the replica that a line names
pub here : (d : DesignForm) (running : Running) (w : DeltaWorld) (r : ℕ) (e : DeltaReplica) → RunsAs d running w → IsReplica w.world r → slice_get running.replicas.items (r - 1) ≡ Some e
    → Follows d (length w.world.replicas) e r (replica_at w.world r)
here d running w r e runs is there =
    subst (λ n. Follows d (length w.world.replicas) e n (replica_at w.world r)) (numbered r is.0) (runs.replicas (r - 1) e there)

pub read_there : (d : DesignForm) (running : Running) (w : DeltaWorld) (r place : ℕ) (e : DeltaReplica) → RunsAs d running w → IsReplica w.world r → place ≡ r - 1 → e ≡ get_or running.replicas.items place e
    → slice_get running.replicas.items (r - 1) ≡ Some e
read_there d running w r place e runs is at read =
    slice_get_read running.replicas.items (length running.replicas.items) (r - 1) e refl (place_lt r (length w.world.replicas) (length running.replicas.items) is.0 is.1 runs.some_replicas)
    (read ∙ ap (λ i. get_or running.replicas.items i e) at)

-- few operations, which fit
counted : {X : Type 0} (xs : List X) → total (λ (x : X). 1) xs ≡ length xs
counted [] = refl
counted (x ∷ xs) = (let h = counted xs in omega arith)

not_longer : {X : Type 0} (xs ys : List X) → IsOnce xs → ((x : X) → Has xs x → Has ys x) → length xs ≤ length ys
not_longer {X} xs ys once among =
    let h = total_among (λ (x : X). 1) xs ys once (λ x has. inr (among x has)) in
    let mine = counted xs in
    let theirs = counted ys in
    omega arith

through : (a b c : ℕ) → a ≤ b → b ≤ c → a ≤ c
through a b c h k = omega arith

pub absorbed_few : (past : List Done) (holder : Holder) → IsFront past holder → length past ≤ 100000 → length holder.absorbed ≤ 100000
absorbed_few past holder front few = through (length holder.absorbed) (length past) 100000 (not_longer holder.absorbed past front.once front.was_done) few

all_of_has : {X : Type 0} (P : X → Type 0) (xs : List X) → ((x : X) → Has xs x → P x) → All P xs
all_of_has P [] h = All-nil P
all_of_has P (x ∷ xs) h = All-cons P x xs (h x (inl refl)) (all_of_has P xs (λ y has. h y (inr has)))

pub absorbed_fit : (sig : Signature) (past : List Done) (holder : Holder) → IsFront past holder → ((one : Done) → Has past one → FitsSignature sig one) → All (FitsSignature sig) holder.absorbed
absorbed_fit sig past holder front fit = all_of_has (FitsSignature sig) holder.absorbed (λ one has. fit one (front.was_done one has))

matched : (sorts : List Sort) (args : List Value) → AreArguments sorts args → AreMatched (λ (value : Value) (sort : Sort). IsArgument sort value) args sorts
matched [] [] h = tt
matched [] (v ∷ args) h = absurd h
matched (s ∷ sorts) [] h = absurd h
matched (s ∷ sorts) (v ∷ args) h = (h.0, matched sorts args h.1)

found_op : (o : Option OpSig) (args : List Value) → MatchOption o ⊥ (λ (it : OpSig). AreArguments it.sorts args) → (it : OpSig) × (o ≡ Some it) × AreArguments it.sorts args
found_op None args h = absurd h
found_op (Some it) args h = (it, refl, h)

time_fits : (time : ℕ) → time ≤ TIME_LIMIT → time ≤ NUMBER_LIMIT
time_fits time h = omega arith

pub done_fits : (sig : Signature) (world : World) (done : Done) → length world.replicas ≤ 32 → IsJudgedLine sig world (Do done) → FitsSignature sig done
done_fits sig world done few judged =
    let it = found_op (slice_get sig.ops done.op) done.args judged.3 in
    record {
      op = it.0;
      found = it.1;
      args = matched it.0.sorts done.args it.2;
      numbered = judged.0.0;
      few = through done.replica (length world.replicas) 32 judged.0.1 few;
      time = time_fits done.time judged.2;
    }

share_few : (b : Bool) (n m : ℕ) → n ≤ m → cond b 1 0 + n ≤ suc m
share_few true n m l = omega arith
share_few false n m l = omega arith

count_few : (r : ℕ) (ones : List Done) → count_of r ones ≤ length ones
count_few r [] = omega arith
count_few r (one ∷ ones) = share_few (one.replica == r) (count_of r ones) (length ones) (count_few r ones)

low_count : (c n m : ℕ) → c ≡ n → n ≤ m → m ≤ 100000 → c < 2 ^ 64 - 1
low_count c n m e h k = omega arith

pub countable : (d : DesignForm) (n r : ℕ) (e : DeltaReplica) (holder : Holder) → Follows d n e r holder → 1 ≤ r → r ≤ n → length holder.absorbed ≤ 100000 → count_at e.counts.items e.number < 2 ^ 64 - 1
countable d n r e holder f low high few =
    low_count (count_at e.counts.items e.number) (count_of r holder.absorbed) (length holder.absorbed) (follows_count d n r e holder f low high).0 (count_few r holder.absorbed) few

pub number_there : (d : DesignForm) (n r : ℕ) (e : DeltaReplica) (holder : Holder) → Follows d n e r holder → r ≤ n → e.number ≤ length e.counts.items
number_there d n r e holder f high = subst (λ m. e.number ≤ m) (sym f.width) (subst (λ m. m ≤ n) (sym f.numbered) high)

-- an operation
pub step_do : (d : DesignForm) (old new : Running) (w : DeltaWorld) (past : List Done) (done : Done) (place : ℕ) (e newer : DeltaReplica) (v i : ℕ) → Knows d old w past (Plain (Do done)) → place ≡ done.replica - 1
    → e ≡ get_or old.replicas.items place e → new.replicas.items ≡ set old.replicas.items place newer → new.packets.items ≡ old.packets.items
    → ((own all : List Done) → StandsFor d e own all → StandsFor d newer (own ++ done ∷ []) (all ++ done ∷ [])) → newer.base.clock ≡ done.time → newer.number ≡ e.number → newer.counts.items ≡ set e.counts.items i v
    → RunsAs d new (delta_after w (Plain (Do done)))
step_do d old new w past done place e newer v i k at read changed kept stands clock number counts =
    let r = done.replica in
    let n = length w.world.replicas in
    let is = k.judged.0.0 in
    let holder = replica_at w.world r in
    let f = here d old w r e k.runs is (read_there d old w r place e k.runs is at read) in
    runs_with_replica d old new w (r - 1) newer (after_doing holder done) k.runs (changed ∙ ap (λ j. set old.replicas.items j newer) at) kept
    (subst (λ m. Follows d n newer m (after_doing holder done)) (sym (numbered r is.0))
    (follows_done d n r e newer holder done f (sym f.numbered) stands clock number (ap length counts ∙ length-set e.counts.items i v)))

-- a whole state is shipped
ship_from : (d : DesignForm) (n r : ℕ) (e : DeltaReplica) (holder : Holder) (sent : Sent) → Follows d n e r holder → IsWholeOf e sent → CarriesAs d n sent holder None
ship_from d n r e holder (Whole packet counts) f is =
    (refl, is.0 ∙ f.clock, ap length is.2 ∙ f.width, carries_whole d n r e holder packet counts.items f is.0 is.1 is.2)
ship_from d n r e holder (Own packet) f is = absurd is

pub step_ship : (d : DesignForm) (old new : Running) (w : DeltaWorld) (past : List Done) (r p place : ℕ) (e : DeltaReplica) (sent : Sent) → Knows d old w past (Plain (Ship r p)) → place ≡ r - 1
    → e ≡ get_or old.replicas.items place e → IsWholeOf e sent → new.replicas.items ≡ old.replicas.items → new.packets.items ≡ put old.packets.items p sent → RunsAs d new (delta_after w (Plain (Ship r p)))
step_ship d old new w past r p place e sent k at read whole kept changed =
    let is = k.judged.0.0 in
    let f = here d old w r e k.runs is (read_there d old w r place e k.runs is at read) in
    runs_with_packet d old new w p sent (replica_at w.world r) None k.runs k.judged.0.1 kept changed (ship_from d (length w.world.replicas) r e (replica_at w.world r) sent f whole)

-- a delta is made
pub step_delta : (d : DesignForm) (old new : Running) (w : DeltaWorld) (past : List Done) (r p from place : ℕ) (e : DeltaReplica) (packet : DeltaPacket) → Knows d old w past (Delta r p from) → place ≡ r - 1
    → e ≡ get_or old.replicas.items place e → ((own all : List Done) → StandsFor d e own all → CarriesDelta d packet own) → packet.clock ≡ e.base.clock → packet.origin ≡ e.number → packet.from ≡ from
    → new.replicas.items ≡ old.replicas.items → new.packets.items ≡ put old.packets.items p (Own packet) → RunsAs d new (delta_after w (Delta r p from))
step_delta d old new w past r p from place e packet k at read carries clock origin begins kept changed =
    let is = k.judged.0 in
    let holder = replica_at w.world r in
    let f = here d old w r e k.runs is (read_there d old w r place e k.runs is at read) in
    runs_with_packet d old new w p (Own packet) (own_part r holder) (Some (record { origin = r; from = from })) k.runs k.judged.1 kept changed
    (carries_part d (length w.world.replicas) r from e holder packet f is.0 is.1 carries clock origin begins)

-- the operations of the log are some of those that it absorbed
in_log : (d : DesignForm) (n r : ℕ) (e : DeltaReplica) (holder : Holder) → Follows d n e r holder → (one : Done) → Has e.log.items one → Has holder.absorbed one
in_log d n r e holder f one has = ((f.stands.owned.mine one).0 (subst (λ (ones : List Done). Has ones one) f.stands.log has)).0

pub log_fits : (d : DesignForm) (n r : ℕ) (e : DeltaReplica) (past : List Done) (holder : Holder) → Follows d n e r holder → IsFront past holder → ((one : Done) → Has past one → FitsSignature d.sig one) → All (FitsSignature d.sig) e.log.items
log_fits d n r e past holder f front fit = all_of_has (FitsSignature d.sig) e.log.items (λ one has. fit one (front.was_done one (in_log d n r e holder f one has)))

pub log_timed : (d : DesignForm) (n r : ℕ) (e : DeltaReplica) (past : List Done) (holder : Holder) → Follows d n e r holder → IsFront past holder → ((one : Done) → Has past one → 0 < one.time) → All (λ (one : Done). 0 < one.time) e.log.items
log_timed d n r e past holder f front timed = all_of_has (λ (one : Done). 0 < one.time) e.log.items (λ one has. timed one (front.was_done one (in_log d n r e holder f one has)))

-- a packet is delivered
can_from : IsTotalOrder value_order → TellsApart value_order → (d : DesignForm) → IsWellSorted d → (n r : ℕ) (e : DeltaReplica) (holder theirs : Holder) (made : Option Made) (sent : Sent) → Follows d n e r holder
    → CarriesAs d n sent theirs made → CanTake e sent
can_from o tells d sorted n r e holder theirs made (Whole packet counts) f p =
    (subst (λ (ps : List Part). are_kin PartsKin e.base.state.parts ps) (sym p.3.state) (follows_kin o tells d sorted n r e holder f theirs.absorbed), f.width ∙ sym p.2)
can_from o tells d sorted n r e holder theirs made (Own packet) f p =
    (delta_kin o tells d sorted n r e holder packet theirs.absorbed f p.4, p.2, subst (λ m. packet.origin ≤ m) (sym f.width) p.3)

sent_there : (d : DesignForm) (running : Running) (w : DeltaWorld) (p : ℕ) (sent : Sent) → RunsAs d running w → p < length w.world.packets → sent ≡ get_or running.packets.items p sent
    → CarriesAs d (length w.world.replicas) sent (packet_at w.world p) (get_or w.made p None)
sent_there d running w p sent runs lt read =
    runs.packets p sent (slice_get_read running.packets.items (length running.packets.items) p sent refl (subst (λ n. p < n) (sym runs.some_packets) lt) read)

pub can_take : IsTotalOrder value_order → TellsApart value_order → (d : DesignForm) → IsWellSorted d → (running : Running) (w : DeltaWorld) (past : List Done) (p r place : ℕ) (sent : Sent) → Knows d running w past (Plain (Deliver p r)) → place ≡ r - 1
    → sent ≡ get_or running.packets.items p sent → (e : DeltaReplica) → slice_get running.replicas.items place ≡ Some e → CanTake e sent
can_take o tells d sorted running w past p r place sent k at read e there =
    let is = k.judged.0.0 in
    can_from o tells d sorted (length w.world.replicas) r e (replica_at w.world r) (packet_at w.world p) (get_or w.made p None) sent
    (here d running w r e k.runs is (ap (slice_get running.replicas.items) (sym at) ∙ there)) (sent_there d running w p sent k.runs k.judged.0.1 read)

enough_from : (o : Option Made) (origin from : ℕ) (count : ℕ → ℕ) → o ≡ Some (record { origin = origin; from = from }) → MatchOption o (Unit {0}) (λ (made : Made). made.from ≤ count made.origin) → from ≤ count origin
enough_from o origin from count e h = subst (λ (m : Option Made). MatchOption m (Unit {0}) (λ (made : Made). made.from ≤ count made.origin)) e h

took_from : (d : DesignForm) → IsWellSorted d → (w : DeltaWorld) (past : List Done) (p r : ℕ) (olds news : List DeltaReplica) (place : ℕ) (sent : Sent) (t : TookAt olds news place sent) → HoldsFronts past w.world → IsReplica w.world r
    → MatchOption (get_or w.made p None) (Unit {0}) (λ (made : Made). made.from ≤ count_of made.origin (replica_at w.world r).absorbed)
    → Follows d (length w.world.replicas) t.old r (replica_at w.world r) → CarriesAs d (length w.world.replicas) sent (packet_at w.world p) (get_or w.made p None)
    → Follows d (length w.world.replicas) t.new r (merged (replica_at w.world r) (packet_at w.world p))
took_from d sorted w past p r olds news place (Whole packet counts) t facts is gap f c =
    let holder = replica_at w.world r in
    let theirs = packet_at w.world p in
    let number = f.numbered ∙ sym (numbered r is.0) in
    follows_taken d (length w.world.replicas) r packet.clock t.old t.new holder theirs f c.1
    (λ one has mine. facts.own (r - 1) one ((facts.packets p).was_done one has) (mine ∙ sym (numbered r is.0)))
    (t.stands.1 d (done_by r holder.absorbed) holder.absorbed theirs.absorbed sorted f.stands c.3 (may_take_whole d past w.world (r - 1) t.old (done_by r holder.absorbed) theirs facts (facts.packets p) number f.stands))
    t.stands.0 t.number t.width
took_from d sorted w past p r olds news place (Own packet) t facts is gap f c =
    let holder = replica_at w.world r in
    let theirs = packet_at w.world p in
    let number = f.numbered ∙ sym (numbered r is.0) in
    follows_taken d (length w.world.replicas) r packet.clock t.old t.new holder theirs f c.1
    (λ one has mine. facts.own (r - 1) one ((facts.packets p).was_done one has) (mine ∙ sym (numbered r is.0)))
    (t.stands.1 d (done_by r holder.absorbed) holder.absorbed theirs.absorbed sorted f.stands c.4
    (may_take d past w.world (r - 1) t.old packet (done_by r holder.absorbed) theirs facts (facts.packets p) number f.stands c.4
    (enough_from (get_or w.made p None) packet.origin packet.from (λ o. count_of o holder.absorbed) c.0 gap)))
    t.stands.0 t.number t.width

pub step_taken : (d : DesignForm) → IsWellSorted d → (old new : Running) (w : DeltaWorld) (past : List Done) (p r place : ℕ) (sent : Sent) → Knows d old w past (Plain (Deliver p r)) → place ≡ r - 1
    → sent ≡ get_or old.packets.items p sent → TookAt old.replicas.items new.replicas.items place sent → new.packets.items ≡ old.packets.items → RunsAs d new (delta_after w (Plain (Deliver p r)))
step_taken d sorted old new w past p r place sent k at read t kept =
    let is = k.judged.0.0 in
    let n = length w.world.replicas in
    let f = here d old w r t.old k.runs is (ap (slice_get old.replicas.items) (sym at) ∙ t.there) in
    let after = merged (replica_at w.world r) (packet_at w.world p) in
    runs_with_replica d old new w (r - 1) t.new after k.runs (t.changed ∙ ap (λ j. set old.replicas.items j t.new) at) kept
    (subst (λ m. Follows d n t.new m after) (sym (numbered r is.0))
    (took_from d sorted w past p r old.replicas.items new.replicas.items place sent t k.facts is k.judged.1 f (sent_there d old w p sent k.runs k.judged.0.1 read)))

-- the first run
pub record Begins (d : DesignForm) (n : ℕ) (all : List DeltaReplica) (i : ℕ) : Type 0 where
  pub size : length all ≡ i
  pub each : (k : ℕ) (e : DeltaReplica) → slice_get all k ≡ Some e → Follows d n e (k + 1) fresh

none_some : {X : Type 0} (x : X) → None ≡ Some x → ⊥
none_some x e = cc

pub begins_first : (d : DesignForm) (n : ℕ) → Begins d n [] 0
begins_first d n = record { size = refl; each = λ k e there. absurd (none_some e there) }

pub begins_more : (d : DesignForm) (n i : ℕ) (all new : List DeltaReplica) (e : DeltaReplica) → Begins d n all i → new ≡ all ++ e ∷ [] → StandsFor d e [] [] → e.base.clock ≡ 0 → e.number ≡ i + 1 → length e.counts.items ≡ n
    → Begins d n new (i + 1)
begins_more d n i all new e h is stands clock number width = record {
  size = ap length is ∙ length-append all (e ∷ []) ∙ ap (λ m. m + 1) h.size;
  each = λ k x there. ⊎_elim
      (λ (s : (k < length all) × (slice_get all k ≡ Some x)). h.each k x s.1)
      (λ (s : (k ≡ length all) × (e ≡ x)). subst (λ (y : DeltaReplica). Follows d n y (k + 1) fresh) s.1
      (record { numbered = number ∙ ap (λ m. m + 1) (sym (s.0 ∙ h.size)); clock = clock; width = width; stands = stands }))
      (snoc_read all e x k (ap (λ (es : List DeltaReplica). slice_get es k) (sym is) ∙ there));
}

read_fresh : (n k : ℕ) → get_or (replicate n fresh) k fresh ≡ fresh
read_fresh zero k = refl
read_fresh (suc n) zero = refl
read_fresh (suc n) (suc k) = read_fresh n k

pub begins_all : (d : DesignForm) (n i : ℕ) (all : List DeltaReplica) (running : Running) → Begins d n all i → i ≡ n → running.replicas.items ≡ all → running.packets.items ≡ [] → RunsAs d running (first_delta_world n)
begins_all d n i all running h e is none =
    let many : length (replicate n fresh) ≡ n = length-replicate {A = Holder} n fresh in
    record {
      some_replicas = ap length is ∙ h.size ∙ e ∙ sym many;
      some_packets = ap length none;
      some_made = refl;
      replicas = λ k x there. subst (λ m. Follows d m x (k + 1) (get_or (replicate n fresh) k fresh)) (sym many)
          (subst (λ (holder : Holder). Follows d n x (k + 1) holder) (sym (read_fresh n k)) (h.each k x (ap (λ (es : List DeltaReplica). slice_get es k) (sym is) ∙ there)));
      packets = λ p sent there. absurd (none_some sent (ap (λ (ps : List Sent). slice_get ps p) (sym none) ∙ there));
    }
