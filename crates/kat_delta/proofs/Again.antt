-- A delta that comes again changes nothing; deltas without a gap give what whole states give.
use Rattle.std.proofs.Common.{◌≡◌, ℕ, zero, suc, ◌-◌, ◌≤◌, ◌<◌, max, length, false, ◌⊎◌, inl, inr, ⊎_elim, List, [], ◌∷◌, ◌++◌, take, get_or, set, sym, ◌∙◌, ap, subst, arith, append-nil}
use Rattle.std.specs.Prelude.{not, nat_le}
use Rattle.std.specs.List.{list_any}
use Rattle.std.specs.Cmp.{IsTotalOrder}
use Rattle.std.proofs.lemmas.Bool.{cases_Bool, leb-true, leb-false}
use Rattle.std.proofs.lemmas.List.{get_or-set_same, set-set}
use Rattle.kat_num.specs.Orders.{value_order}
use Rattle.kat_type.specs.Lists.{Has, HaveSame, IsOnce}
use Rattle.kat_type.specs.Unions.{AreNested, is_same, united}
use Rattle.kat_type.specs.declared.done.Done.{Done}
use Rattle.kat_type.proofs.Unions.{has_any, has_mine, has_theirs, has_united, once_united}
use Rattle.kat_lattice.specs.Sets.{TellsApart}
use Rattle.kat_design.specs.Denotations.{denotation_of}
use Rattle.kat_design.specs.Designs.{DesignForm}
use Rattle.kat_design.specs.Parts.{parts_joined}
use Rattle.kat_design.specs.Sorted.{IsWellSorted}
use Rattle.kat_design.specs.declared.states.Part.{Part}
use Rattle.kat_design.proofs.Kinship.{joined_by_parts}
use Rattle.kat_design.proofs.WholeDesigns.{designs_mean}
use Rattle.kat_replica.specs.declared.replicas.Replica.{Replica}
use Rattle.kat_delta.specs.Deltas.{delta_of}
use Rattle.kat_delta.specs.Spans.{ComesTo, HasFirst, HasTaken, Span, state_with}
use Rattle.kat_delta.specs.Standing.{CarriesDelta, IsAsBefore, IsByTime, MayTake, StandsFor, count_at}
use Rattle.kat_delta.specs.declared.replicas.DeltaPacket.{DeltaPacket}
use Rattle.kat_delta.specs.declared.replicas.DeltaReplica.{DeltaReplica}
use Rattle.kat_delta.proofs.Counting.{nested_at, once_by_time}
use Rattle.kat_delta.proofs.Joining.{states_join}
use Rattle.kat_delta.proofs.RunsOn.{filter_none}
use Rattle.kat_delta.proofs.Standing.{two_parts}

-- operations that are there already add nothing
not_new : (xs : List Done) (one : Done) → Has xs one → not (list_any (is_same one) xs) ≡ false
not_new xs one has = ap not (has_any xs one has)

united_again : (all ones : List Done) → united (united all ones) ones ≡ united all ones
united_again all ones =
    let both = united all ones in
    ap (λ (more : List Done). both ++ more) (filter_none (λ done. not (list_any (is_same done) both)) ones (λ one has. not_new both one (has_theirs all ones one has)))
    ∙ append-nil both

max_again : (a b c : ℕ) → c ≡ max a b → max c b ≡ c
max_again a b c e = omega arith

in_place : (r n : ℕ) → 1 ≤ r → r ≤ n → r - 1 < n
in_place r n h k = omega arith

raised_again : (old mid new : List ℕ) (i to : ℕ) → i < length old → mid ≡ set old i (max (get_or old i 0) to) → new ≡ set mid i (max (get_or mid i 0) to) → new ≡ mid
raised_again old mid new i to l e f =
    let v = max (get_or old i 0) to in
    let there : get_or mid i 0 ≡ v = ap (λ (ns : List ℕ). get_or ns i 0) e ∙ get_or-set_same old i v 0 l in
    f
    ∙ ap (λ n. set mid i n) (max_again (get_or old i 0) to (get_or mid i 0) there ∙ there)
    ∙ ap (λ (ns : List ℕ). set ns i v) e
    ∙ set-set old i v v
    ∙ sym e

same_base : (a b : Replica) → a.clock ≡ b.clock → a.state.parts ≡ b.state.parts → a ≡ b
same_base a b e f = λ i. record { clock = e i; state = record { parts = f i } }

joined_same : IsTotalOrder value_order → TellsApart value_order → (d : DesignForm) → IsWellSorted d → (all ones : List Done) (c : ℕ) → IsOnce all → IsOnce ones → AreNested all ones
    → ((one : Done) → Has (take c ones) one → Has all one) → parts_joined (denotation_of d all) (delta_of d ones c) ≡ denotation_of d (united all ones)
joined_same o tells d sorted all ones c once twice nested early = states_join o tells d.sig.ops d.components sorted.components all ones c once twice nested early

nested_again : (o : ℕ) (all ones : List Done) → ((one : Done) → Has ones one → one.replica ≡ o) → AreNested (united all ones) ones
nested_again o all ones placed = nested_at o (united all ones) ones placed (inr (λ one is has. has_theirs all ones one has))

pub comes_again : IsTotalOrder value_order → TellsApart value_order → (d : DesignForm) (old mid new : DeltaReplica) (packet : DeltaPacket) (own all ones : List Done) → IsWellSorted d → 1 ≤ packet.origin → packet.origin ≤ length old.counts.items
    → StandsFor d old own all → CarriesDelta d packet ones → MayTake old own all packet ones → HasTaken old packet mid → HasTaken mid packet new → IsAsBefore mid new
comes_again o tells d old mid new packet own all ones sorted low high s p m first second =
    let twice : IsOnce ones = once_by_time ones p.by_time in
    let both = united all ones in
    let mid_state : mid.base.state.parts ≡ denotation_of d both =
    first.state ∙ two_parts old.base.state.parts packet.state.parts (denotation_of d all) (delta_of d ones packet.from) s.state p.state
    ∙ joined_same o tells d sorted all ones packet.from s.once twice (nested_at packet.origin all ones p.origin m.nested) m.early in
    let new_state : new.base.state.parts ≡ mid.base.state.parts =
    second.state ∙ two_parts mid.base.state.parts packet.state.parts (denotation_of d both) (delta_of d ones packet.from) mid_state p.state
    ∙ joined_same o tells d sorted both ones packet.from (once_united all ones s.once twice) twice (nested_again packet.origin all ones p.origin) (λ one has. has_mine all ones one (m.early one has))
    ∙ ap (λ (xs : List Done). denotation_of d xs) (united_again all ones)
    ∙ sym mid_state in
    record {
      base = same_base new.base mid.base (second.clock ∙ max_again old.base.clock packet.clock mid.base.clock first.clock) new_state;
      number = second.number;
      counts = raised_again old.counts.items mid.counts.items new.counts.items (packet.origin - 1) packet.to (in_place packet.origin (length old.counts.items) low high) first.counts second.counts;
      log = second.log;
    }

not_less : (from have to now : ℕ) → from ≤ have → now ≡ max have to → from ≤ now
not_less from have to now l e = omega arith

-- and it isn't refused
pub still_there : (old mid : DeltaReplica) (packet : DeltaPacket) → 1 ≤ packet.origin → packet.origin ≤ length old.counts.items → HasTaken old packet mid
    → packet.from ≤ count_at old.counts.items packet.origin → packet.from ≤ count_at mid.counts.items packet.origin
still_there old mid packet low high first enough =
    let i = packet.origin - 1 in
    not_less packet.from (count_at old.counts.items packet.origin) packet.to (count_at mid.counts.items packet.origin) enough
    (ap (λ (ns : List ℕ). get_or ns i 0) first.counts ∙ get_or-set_same old.counts.items i (max (count_at old.counts.items packet.origin) packet.to) 0 (in_place packet.origin (length old.counts.items) low high))

-- the first so many of a list
take_more : {X : Type 0} (a b : ℕ) (xs : List X) (x : X) → a ≤ b → Has (take a xs) x → Has (take b xs) x
take_more zero b xs x l h = absurd h
take_more (suc a) zero xs x l h = absurd (omega arith)
take_more (suc a) (suc b) [] x l h = absurd h
take_more (suc a) (suc b) (y ∷ xs) x l (inl e) = inl e
take_more (suc a) (suc b) (y ∷ xs) x l (inr h) = inr (take_more a b xs x (omega arith) h)

take_all_of : {X : Type 0} (a : ℕ) (xs : List X) (x : X) → Has (take a xs) x → Has xs x
take_all_of zero xs x h = absurd h
take_all_of (suc a) [] x h = absurd h
take_all_of (suc a) (y ∷ xs) x (inl e) = inl e
take_all_of (suc a) (y ∷ xs) x (inr h) = inr (take_all_of a xs x h)

take_twice : {X : Type 0} (a b : ℕ) (xs : List X) (x : X) → Has (take a (take b xs)) x → Has (take a xs) x
take_twice zero b xs x h = absurd h
take_twice (suc a) zero xs x h = absurd h
take_twice (suc a) (suc b) [] x h = absurd h
take_twice (suc a) (suc b) (y ∷ xs) x (inl e) = inl e
take_twice (suc a) (suc b) (y ∷ xs) x (inr h) = inr (take_twice a b xs x h)

take_by_time : (n : ℕ) (ones : List Done) → IsByTime ones → IsByTime (take n ones)
take_by_time zero ones h = tt
take_by_time (suc n) [] h = tt
take_by_time (suc n) (one ∷ ones) h = (λ later has. h.0 later (take_all_of n ones later has), take_by_time n ones h.1)

weaker : (a b : ℕ) → b < a → b ≤ a
weaker a b l = omega arith

le_or_le : (a b : ℕ) → (a ≤ b) ⊎ (b ≤ a)
le_or_le a b = ⊎_elim (λ e. inl (leb-true a b e)) (λ e. inr (weaker a b (leb-false a b e))) (cases_Bool (nat_le a b))

left_max : (a b : ℕ) → a ≤ max a b
left_max a b = omega arith

right_max : (a b : ℕ) → b ≤ max a b
right_max a b = omega arith

max_is_right : (a b : ℕ) → a ≤ b → max a b ≡ b
max_is_right a b l = omega arith

max_is_left : (a b : ℕ) → b ≤ a → max a b ≡ a
max_is_left a b l = omega arith

through : (a b c : ℕ) → a ≤ b → b ≤ c → a ≤ c
through a b c h k = omega arith

itself : (a b : ℕ) → a ≡ b → a ≤ b
itself a b e = omega arith

comes_up : (have last : ℕ) (spans : List Span) → ComesTo have spans last → have ≤ last
comes_up have last [] h = itself have last h
comes_up have last (span ∷ spans) h = through have (max have span.to) last (left_max have span.to) (comes_up (max have span.to) last spans h.1)

-- the list that has the first so many, beside the first so many
first_nested : (origin : ℕ) (all ones : List Done) (have n : ℕ) → ((one : Done) → Has ones one → one.replica ≡ origin) → HasFirst origin all ones have → AreNested all (take n ones)
first_nested origin all ones have n placed h =
    nested_at origin all (take n ones) (λ one has. placed one (take_all_of n ones one has))
    (⊎_elim (λ (l : have ≤ n). inl (λ one is has. take_more have n ones one l ((h one is).0 has)))
    (λ (l : n ≤ have). inr (λ one is has. (h one is).1 (take_more n have ones one l has)))
    (le_or_le have n))

first_more : (origin : ℕ) (all ones : List Done) (have n : ℕ) → ((one : Done) → Has ones one → one.replica ≡ origin) → HasFirst origin all ones have → HasFirst origin (united all (take n ones)) ones (max have n)
first_more origin all ones have n placed h one is = (
  λ has. ⊎_elim (λ k. take_more have (max have n) ones one (left_max have n) ((h one is).0 k))
      (λ k. take_more n (max have n) ones one (right_max have n) k) (has_united all (take n ones) one has),
  λ has. ⊎_elim
      (λ (l : have ≤ n). has_theirs all (take n ones) one (subst (λ m. Has (take m ones) one) (max_is_right have n l) has))
      (λ (l : n ≤ have). has_mine all (take n ones) one ((h one is).1 (subst (λ m. Has (take m ones) one) (max_is_left have n l) has)))
      (le_or_le have n),
)

-- the whole state of the first so many
whole_joins : IsTotalOrder value_order → TellsApart value_order → (d : DesignForm) → IsWellSorted d → (origin : ℕ) (all ones : List Done) (have n : ℕ) → IsOnce all → IsByTime ones → ((one : Done) → Has ones one → one.replica ≡ origin)
    → HasFirst origin all ones have → parts_joined (denotation_of d all) (denotation_of d (take n ones)) ≡ denotation_of d (united all (take n ones))
whole_joins o tells d sorted origin all ones have n once by_time placed h =
    let m = designs_mean o tells d sorted in
    sym (joined_by_parts d.components (denotation_of d all) (denotation_of d (take n ones)) (m.goes all []) (m.goes (take n ones) []))
    ∙ m.unites all (take n ones) once (once_by_time (take n ones) (take_by_time n ones by_time)) (first_nested origin all ones have n placed h)

-- the first so many, united with more of them
both_same : (all ones : List Done) (n last : ℕ) → n ≤ last → HaveSame (united (united all (take n ones)) (take last ones)) (united all (take last ones))
both_same all ones n last l = (
  λ one has. ⊎_elim
      (λ k. ⊎_elim (λ m. has_mine all (take last ones) one m) (λ m. has_theirs all (take last ones) one (take_more n last ones one l m)) (has_united all (take n ones) one k))
      (λ k. has_theirs all (take last ones) one k)
      (has_united (united all (take n ones)) (take last ones) one has),
  λ one has. ⊎_elim
      (λ k. has_mine (united all (take n ones)) (take last ones) one (has_mine all (take n ones) one k))
      (λ k. has_theirs (united all (take n ones)) (take last ones) one k)
      (has_united all (take last ones) one has),
)

none_same : (origin : ℕ) (all ones : List Done) (last : ℕ) → ((one : Done) → Has ones one → one.replica ≡ origin) → HasFirst origin all ones last → HaveSame all (united all (take last ones))
none_same origin all ones last placed h = (
  λ one has. has_mine all (take last ones) one has,
  λ one has. ⊎_elim (λ k. k) (λ k. (h one (placed one (take_all_of last ones one k))).1 k) (has_united all (take last ones) one has),
)

pub in_any_order : IsTotalOrder value_order → TellsApart value_order → (d : DesignForm) → IsWellSorted d → (origin : ℕ) (ones : List Done) → IsByTime ones → ((one : Done) → Has ones one → one.replica ≡ origin)
    → (spans : List Span) (all : List Done) (have last : ℕ) → IsOnce all → HasFirst origin all ones have → ComesTo have spans last
    → state_with d ones (denotation_of d all) spans ≡ parts_joined (denotation_of d all) (denotation_of d (take last ones))
in_any_order o tells d sorted origin ones by_time placed [] all have last once h comes =
    let first : HasFirst origin all ones last = subst (λ n. HasFirst origin all ones n) comes h in
    let late = take last ones in
    (designs_mean o tells d sorted).same all (united all late) once (once_united all late once (once_by_time late (take_by_time last ones by_time))) (none_same origin all ones last placed first)
    ∙ sym (whole_joins o tells d sorted origin all ones last last once by_time placed first)
in_any_order o tells d sorted origin ones by_time placed (span ∷ spans) all have last once h comes =
    let told = take span.to ones in
    let told_once : IsOnce told = once_by_time told (take_by_time span.to ones by_time) in
    let both = united all told in
    let both_once : IsOnce both = once_united all told once told_once in
    let late = take last ones in
    let late_once : IsOnce late = once_by_time late (take_by_time last ones by_time) in
    let next : HasFirst origin both ones (max have span.to) = first_more origin all ones have span.to placed h in
    let up : span.to ≤ last = through span.to (max have span.to) last (right_max have span.to) (comes_up (max have span.to) last spans comes.1) in
    ap (λ (state : List Part). state_with d ones state spans)
    (joined_same o tells d sorted all told span.from once told_once (first_nested origin all ones have span.to placed h)
    (λ one has. let early = take_twice span.from span.to ones one has in (h one (placed one (take_all_of span.from ones one early))).1 (take_more span.from have ones one comes.0 early)))
    ∙ in_any_order o tells d sorted origin ones by_time placed spans both (max have span.to) last both_once next comes.1
    ∙ whole_joins o tells d sorted origin both ones (max have span.to) last both_once by_time placed next
    ∙ (designs_mean o tells d sorted).same (united both late) (united all late) (once_united both late both_once late_once) (once_united all late once late_once) (both_same all ones span.to last up)
    ∙ sym (whole_joins o tells d sorted origin all ones have last once by_time placed h)
