-- Worlds of scripts with deltas hold prefixes, and what isn't refused there may be taken in.
use Rattle.std.proofs.Common.{◌≡◌, ℕ, zero, suc, ◌+◌, ◌-◌, ◌<◌, ◌≤◌, length, Bool, true, false, ◌⊎◌, inl, inr, ⊎_elim, List, [], ◌∷◌, ◌++◌, take, get_or, set, refl, sym, ◌∙◌, ap, subst, cond, arith, append_assoc, append-nil}
use Rattle.std.specs.Prelude.{nat_lt, ◌==◌}
use Rattle.std.specs.List.{list_any}
use Rattle.std.proofs.lemmas.Bool.{cases_Bool, eqb-true, eq-eqb, false≢true, ltb-true, ltb-false}
use Rattle.kat_type.specs.Lists.{Has}
use Rattle.kat_type.specs.declared.done.Done.{Done}
use Rattle.kat_type.specs.declared.signatures.Signature.{Signature}
use Rattle.kat_type.proofs.Lists.{has_either, set_all, snoc_all}
use Rattle.kat_script.specs.Facts.{HoldsFronts, IsFront}
use Rattle.kat_script.specs.World.{Holder, World, fresh, put, replica_at}
use Rattle.kat_script.specs.declared.script.Line.TheVariants.{Do, Ship, Deliver, Ask, Show}
use Rattle.kat_script.proofs.Fronts.{fronts_nest}
use Rattle.kat_type.proofs.Unions.{any_has, filter_has, has_any, has_filter, once_filter}
use Rattle.kat_script.proofs.Worlds.{facts_first, facts_line}
use Rattle.kat_design.specs.Designs.{DesignForm}
use Rattle.kat_design.specs.Tallied.{share}
use Rattle.kat_type.specs.Unions.{is_same}
use Rattle.kat_design.proofs.Lists.{total_among}
use Rattle.kat_design.proofs.Tallying.{share_cases}
use Rattle.kat_delta.specs.Standing.{CarriesDelta, IsByTime, MayTake, MayTakeWhole, StandsFor, count_of}
use Rattle.kat_delta.specs.Worlds.{AreJudgedDeltas, DeltaWorld, delta_after, delta_world_after, done_by_lines, first_delta_world, own_part}
use Rattle.kat_delta.specs.declared.replicas.DeltaPacket.{DeltaPacket}
use Rattle.kat_delta.specs.declared.replicas.DeltaReplica.{DeltaReplica}
use Rattle.kat_delta.specs.declared.script.DeltaLine.{DeltaLine}
use Rattle.kat_delta.specs.declared.script.DeltaLine.TheVariants.{Plain, Delta}
use Rattle.kat_delta.proofs.Counting.{count_mine}

-- own operations are a prefix
pub front_own : (past : List Done) (r : ℕ) (holder : Holder) → IsFront past holder → IsFront past (own_part r holder)
front_own past r holder h = record {
  within = λ one has. h.within one (filter_has (λ (d : Done). d.replica == r) holder.absorbed one has).0;
  was_done = λ one has. h.was_done one (filter_has (λ (d : Done). d.replica == r) holder.absorbed one has).0;
  closed = λ one early has is same l.
      let mine = filter_has (λ (d : Done). d.replica == r) holder.absorbed one has in
      has_filter (λ (d : Done). d.replica == r) holder.absorbed early (h.closed one early mine.0 is same l) (eq-eqb early.replica r (same ∙ eqb-true one.replica r mine.1));
  once = once_filter (λ (d : Done). d.replica == r) holder.absorbed h.once;
}

put_from : {X : Type 0} (P : X → Type 0) (xs : List X) (i : ℕ) (x d : X) (b : Bool) → ((k : ℕ) → P (get_or xs k d)) → P x → (k : ℕ) → P (get_or (cond b (set xs i x) (xs ++ x ∷ [])) k d)
put_from P xs i x d true h p = set_all P xs i x d h p
put_from P xs i x d false h p = snoc_all P xs x d h p

put_all : {X : Type 0} (P : X → Type 0) (xs : List X) (i : ℕ) (x d : X) → ((k : ℕ) → P (get_or xs k d)) → P x → (k : ℕ) → P (get_or (put xs i x) k d)
put_all P xs i x d h p = put_from P xs i x d (nat_lt i (length xs)) h p

pub facts_delta : (past : List Done) (w : DeltaWorld) (r p from : ℕ) → HoldsFronts past w.world → HoldsFronts past (delta_after w (Delta r p from)).world
facts_delta past w r p from f = record {
  timed = f.timed;
  placed = f.placed;
  apart = f.apart;
  own = f.own;
  replicas = f.replicas;
  packets = put_all (IsFront past) w.world.packets p (own_part r (replica_at w.world r)) fresh f.packets (front_own past r (replica_at w.world r) (f.replicas (r - 1)));
}

facts_from : (sig : Signature) (past : List Done) (w : DeltaWorld) (before behind : List DeltaLine) → HoldsFronts past w.world → AreJudgedDeltas sig w (before ++ behind)
    → HoldsFronts (past ++ done_by_lines before) (delta_world_after w before).world
facts_from sig past w [] behind f j = subst (λ (ones : List Done). HoldsFronts ones w.world) (sym (append-nil past)) f
facts_from sig past w (Plain (Do done) ∷ before) behind f j =
    subst (λ (ones : List Done). HoldsFronts ones (delta_world_after (delta_after w (Plain (Do done))) before).world) (append_assoc past (done ∷ []) (done_by_lines before))
    (facts_from sig (past ++ done ∷ []) (delta_after w (Plain (Do done))) before behind (facts_line sig past w.world (Do done) f j.0.0) j.1)
facts_from sig past w (Plain (Ship r p) ∷ before) behind f j = facts_from sig past (delta_after w (Plain (Ship r p))) before behind (facts_line sig past w.world (Ship r p) f j.0.0) j.1
facts_from sig past w (Plain (Deliver p r) ∷ before) behind f j = facts_from sig past (delta_after w (Plain (Deliver p r))) before behind (facts_line sig past w.world (Deliver p r) f j.0.0) j.1
facts_from sig past w (Plain (Ask r query args) ∷ before) behind f j = facts_from sig past (delta_after w (Plain (Ask r query args))) before behind (facts_line sig past w.world (Ask r query args) f j.0.0) j.1
facts_from sig past w (Plain (Show r) ∷ before) behind f j = facts_from sig past (delta_after w (Plain (Show r))) before behind (facts_line sig past w.world (Show r) f j.0.0) j.1
facts_from sig past w (Delta r p from ∷ before) behind f j = facts_from sig past (delta_after w (Delta r p from)) before behind (facts_delta past w r p from f) j.1

pub facts_of_delta_worlds : (sig : Signature) (n : ℕ) (before behind : List DeltaLine) → AreJudgedDeltas sig (first_delta_world n) (before ++ behind)
    → HoldsFronts (done_by_lines before) (delta_world_after (first_delta_world n) before).world
facts_of_delta_worlds sig n before behind j = facts_from sig [] (first_delta_world n) before behind (facts_first n) j

-- as many operations of an origin as a delta needs are those before it
record Split (ones : List Done) (x : Done) (n : ℕ) : Type 0 where
  pub front : List Done
  pub back : List Done
  pub whole : ones ≡ front ++ x ∷ back
  pub short : length front < n

no_room : (n : ℕ) → zero < suc n
no_room n = omega arith

longer : (a n : ℕ) → a < n → suc a < suc n
longer a n l = omega arith

split : (n : ℕ) (ones : List Done) (x : Done) → Has (take n ones) x → Split ones x n
split zero ones x h = absurd h
split (suc n) [] x h = absurd h
split (suc n) (y ∷ ones) x (inl e) = record { front = []; back = ones; whole = ap (λ (z : Done). z ∷ ones) e; short = no_room n }
split (suc n) (y ∷ ones) x (inr h) =
    let s = split n ones x h in
    record { front = y ∷ s.front; back = s.back; whole = ap (λ (zs : List Done). y ∷ zs) s.whole; short = longer (length s.front) n s.short }

-- what comes after is later
behind_later : (front : List Done) (x : Done) (back : List Done) → IsByTime (front ++ x ∷ back) → (y : Done) → Has back y → x.time < y.time
behind_later [] x back h y has = h.0 y has
behind_later (z ∷ front) x back h y has = behind_later front x back h.1 y has

not_both : (a b : ℕ) → a < b → b < a → ⊥
not_both a b l m = omega arith

not_itself : (a b : ℕ) → a < b → a ≡ b → ⊥
not_itself a b l e = omega arith

in_front : (ones front back : List Done) (x y : Done) → ones ≡ front ++ x ∷ back → IsByTime ones → Has ones y → y.time < x.time → Has front y
in_front ones front back x y e h has l =
    ⊎_elim (λ k. k)
    (λ k. ⊎_elim (λ (same : x ≡ y). absurd (not_itself y.time x.time l (ap (λ (d : Done). d.time) (sym same))))
    (λ b. absurd (not_both y.time x.time l (behind_later front x back (subst IsByTime e h) y b))) k)
    (has_either front (x ∷ back) y (subst (λ (zs : List Done). Has zs y) e has))

lt_or_le : (a b : ℕ) → (a < b) ⊎ (b ≤ a)
lt_or_le a b = ⊎_elim (λ e. inl (ltb-true a b e)) (λ e. inr (ltb-false a b e)) (cases_Bool (nat_lt a b))

too_few : (n c a b : ℕ) → n ≤ c → c ≤ a → a ≡ b → b < n → ⊥
too_few n c a b h k e l = omega arith

at_seam : (front back : List Done) (x : Done) → Has (front ++ x ∷ back) x
at_seam [] back x = inl refl
at_seam (y ∷ front) back x = inr (at_seam front back x)

seam_front : (front back : List Done) (x : Done) → Has front x → Has (front ++ back) x
seam_front [] back x h = absurd h
seam_front (y ∷ front) back x (inl e) = inl e
seam_front (y ∷ front) back x (inr h) = inr (seam_front front back x h)

weaker : (a b : ℕ) → a < b → a ≤ b
weaker a b l = omega arith

gap_none : (past : List Done) (mine theirs : Holder) (ones : List Done) (o n : ℕ) (x : Done) → IsFront past mine → IsFront past theirs → theirs.absorbed ≡ ones → IsByTime ones → ((one : Done) → Has ones one → one.replica ≡ o)
    → n ≤ count_of o mine.absorbed → Has (take n ones) x → (Has mine.absorbed x → ⊥) → ⊥
gap_none past mine theirs ones o n x h k e by_time placed enough early lacks =
    let s = split n ones x early in
    let there : Has ones x = subst (λ (zs : List Done). Has zs x) (sym s.whole) (at_seam s.front s.back x) in
    let theirs_has : (y : Done) → Has ones y → Has theirs.absorbed y = λ y has. subst (λ (zs : List Done). Has zs y) (sym e) has in
    let x_done : Has past x = k.was_done x (theirs_has x there) in
    let front_placed : (y : Done) → Has s.front y → y.replica ≡ o = λ y has. placed y (subst (λ (zs : List Done). Has zs y) (sym s.whole) (seam_front s.front (x ∷ s.back) y has)) in
    too_few n (count_of o mine.absorbed) (count_of o s.front) (length s.front) enough
    (total_among (share (λ (one : Done). 1) o) mine.absorbed s.front h.once
    (λ y has. ⊎_elim (λ none. inl none)
    (λ (is : y.replica ≡ o). inr (⊎_elim
    (λ (l : y.time < x.time). in_front ones s.front s.back x y s.whole by_time
    (subst (λ (zs : List Done). Has zs y) e (k.closed x y (theirs_has x there) (h.was_done y has) (is ∙ sym (placed x there)) (weaker y.time x.time l))) l)
    (λ (l : x.time ≤ y.time). absurd (lacks (h.closed y x has x_done (placed x there ∙ sym is) l)))
    (lt_or_le y.time x.time)))
    (share_cases (λ (one : Done). 1) o y)))
    (count_mine o s.front front_placed)
    s.short

pub gap_enough : (past : List Done) (mine theirs : Holder) (ones : List Done) (o n : ℕ) → IsFront past mine → IsFront past theirs → theirs.absorbed ≡ ones → IsByTime ones → ((one : Done) → Has ones one → one.replica ≡ o)
    → n ≤ count_of o mine.absorbed → (x : Done) → Has (take n ones) x → Has mine.absorbed x
gap_enough past mine theirs ones o n h k e by_time placed enough x early =
    ⊎_elim (λ there. any_has mine.absorbed x there)
    (λ not_there. absurd (gap_none past mine theirs ones o n x h k e by_time placed enough early (λ has. false≢true (sym not_there ∙ has_any mine.absorbed x has))))
    (cases_Bool (list_any (is_same x) mine.absorbed))

-- a replica of a world may take a delta in that isn't refused
pub may_take : (d : DesignForm) (past : List Done) (world : World) (i : ℕ) (replica : DeltaReplica) (packet : DeltaPacket) (own : List Done) (theirs : Holder) → HoldsFronts past world → IsFront past theirs
    → replica.number ≡ i + 1 → StandsFor d replica own (get_or world.replicas i fresh).absorbed → CarriesDelta d packet theirs.absorbed → packet.from ≤ count_of packet.origin (get_or world.replicas i fresh).absorbed
    → MayTake replica own (get_or world.replicas i fresh).absorbed packet theirs.absorbed
may_take d past world i replica packet own theirs f k number s p enough =
    let mine = get_or world.replicas i fresh in
    record {
      early = gap_enough past mine theirs theirs.absorbed packet.origin packet.from (f.replicas i) k refl p.by_time p.origin enough;
      nested = fronts_nest past mine theirs f.timed (f.replicas i) k packet.origin;
      mine = λ is one has.
          let by : one.replica ≡ replica.number = p.origin one has ∙ is in
          (s.owned.mine one).1 (f.own i one (k.was_done one has) (by ∙ number), by);
    }

-- and a whole state
pub may_take_whole : (d : DesignForm) (past : List Done) (world : World) (i : ℕ) (replica : DeltaReplica) (own : List Done) (theirs : Holder) → HoldsFronts past world → IsFront past theirs
    → replica.number ≡ i + 1 → StandsFor d replica own (get_or world.replicas i fresh).absorbed → MayTakeWhole replica own (get_or world.replicas i fresh).absorbed theirs.absorbed
may_take_whole d past world i replica own theirs f k number s = record {
  nested = fronts_nest past (get_or world.replicas i fresh) theirs f.timed (f.replicas i) k;
  mine = λ one has by. (s.owned.mine one).1 (f.own i one (k.was_done one has) (by ∙ number), by);
}
