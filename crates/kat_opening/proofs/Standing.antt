-- The facts of a condition of one relation are among those of the same condition under another that has all its conjuncts.
use Rattle.std.proofs.Common.{◌≡◌, ℕ, ◌<◌, inl, inr, Bool, true, false, Option, Some, None, List, [], ◌∷◌, refl, sym, ap, ◌∙◌, subst, arith, All}
use Rattle.std.proofs.lemmas.Bool.{false≢true}
use Rattle.std.specs.Prelude.{slice_get}
use Rattle.std.proofs.lemmas.List.Elements.{All-nil}
use Rattle.kat_num.specs.declared.values.Sort.{Sort}
use Rattle.kat_form.specs.Facts.{Fact}
use Rattle.kat_design.specs.Designs.{DesignForm}
use Rattle.kat_relation.specs.Keys.{conjunct_key}
use Rattle.kat_relation.specs.declared.relations.Conjunct.{Conjunct}
use Rattle.kat_type.specs.Types.{TypeForm}
use Rattle.kat_type.specs.Lists.{Has}
use Rattle.kat_claims.specs.Claims.{answers_read, claim_read}
use Rattle.kat_vc.specs.Conditions.{Condition, claim_at, facts_by, start_stated, state_stated}
use Rattle.kat_vc.specs.Conditions.Condition.{start, step, answers}
use Rattle.kat_claims.specs.Groups.{conjunct_stated, denied_claim, keys_stated, order_stated, relation_stated}
use Rattle.kat_claims.specs.Places.{claim_keys, keys_of, natural_keys, spots_of}
use Rattle.kat_symbols.specs.Readers.{Reader, Symbol, fresh, place_of}
use Rattle.kat_claims.specs.States.{old_side, start_side}
use Rattle.kat_vc.specs.Steps.{after_side}
use Rattle.kat_symbols.specs.declared.names.Instance.{Instance}
use Rattle.kat_symbols.specs.declared.names.Name.{Name}
use Rattle.kat_symbols.specs.declared.names.Slot.{Slot}
use Rattle.kat_symbols.specs.declared.names.Slot.TheVariants.{Named, Chosen}
use Rattle.kat_opening.proofs.Placed.{slot_placed, get_within}
use Rattle.kat_opening.proofs.Forms.{World, Agrees, agrees_self, agrees_then, beyond_self}
use Rattle.kat_opening.proofs.Lockstep.{AlikeKept, Grows, Stands, Twins, grows_loud, grows_self, grows_then}
use Rattle.kat_opening.proofs.Lockstep.AlikeKept.{none_kept, kept_more}
use Rattle.kat_opening.proofs.Symbolic.{passing}
use Rattle.kat_opening.proofs.Claims.{answers_twin, claim_twin, old_twin, start_twin}
use Rattle.kat_opening.proofs.Effects.{after_twin}
use Rattle.kat_opening.proofs.Groups.{TwinPass, conjunct_twin, denies, keys_twin, naturals_twin, order_is_twin, state_twin}

-- a new run: choices of earlier runs aren't seen any more
abbrev is_named : Option Slot → Bool
is_named None = false
is_named (Some (Named n)) = true
is_named (Some Chosen) = false

named_slot : (o : Option Slot) → is_named o ≡ true → (n : Name) × (o ≡ Some (Named n))
named_slot None e = absurd (cc)
named_slot (Some (Named n)) e = (n, refl)
named_slot (Some Chosen) e = absurd (cc)

kept_none : (w : World) (ks ls : List (Name × Symbol)) → AlikeKept w ks ls → ls ≡ [] → ks ≡ []
kept_none w _ _ none_kept e = refl
kept_none w _ _ (kept_more n s t ks ls h rest) e = absurd (cc)

module _ (whole : Reader) (w : World) (a b : Reader) (twins : Twins whole w a b) where
  named_apart : (i j : ℕ) → is_named (slice_get a.slots i) ≡ true → is_named (slice_get a.slots j) ≡ true → w.nums i ≡ w.nums j → i ≡ j
  named_apart i j p q same =
      let n = named_slot (slice_get a.slots i) p in
      let m = named_slot (slice_get a.slots j) q in
      let first : slice_get whole.slots (w.nums i) ≡ Some (Named n.0) = slot_placed n.0 whole.slots (w.nums i) (twins.names i n.0 n.1) in
      let second : slice_get whole.slots (w.nums j) ≡ Some (Named m.0) = slot_placed m.0 whole.slots (w.nums j) (twins.names j m.0 m.1) in
      let both : Some (Named n.0) ≡ Some (Named m.0) = sym first ∙ ap (slice_get whole.slots) same ∙ second in
      let one : n.0 ≡ m.0 = cc in
      let here : place_of n.0 a.slots ≡ Some i = twins.once i n.0 n.1 in
      let there : place_of m.0 a.slots ≡ Some j = twins.once j m.0 m.1 in
      let places : Some i ≡ Some j = sym here ∙ ap (λ k. place_of k a.slots) one ∙ there in
      cc

  named_within : (i : ℕ) → is_named (slice_get a.slots i) ≡ true → i < w.slots
  named_within i p = let n = named_slot (slice_get a.slots i) p in omega (arith, twins.slots, get_within a.slots i (Named n.0) n.1)

  abbrev anew : World
  anew = record { slots = w.slots; flags = w.flags; nums = w.nums; truths = w.truths; seen = λ i. is_named (slice_get a.slots i); within = named_within; apart = named_apart }

  anew_agrees : Agrees w anew
  anew_agrees = record { slots = omega arith; flags = omega arith; nums = λ i h. refl; truths = λ i h. refl }

  -- the first reader goes with any reader that has read nothing once
  runs_anew : (c : Reader) → b.kept ≡ [] → c.kept ≡ [] → Twins whole anew a c
  runs_anew c none_b none_c = record {
    slots = twins.slots;
    flags = twins.flags;
    names = twins.names;
    once = twins.once;
    seen = λ i n at. ap is_named at;
    made = twins.made;
    before = λ i at seen. let no_name : is_named (slice_get a.slots i) ≡ false = ap is_named at in absurd (cc);
    truths = twins.truths;
    kept = λ v beyond. subst (λ ls. AlikeKept v a.kept ls) (sym none_c) (subst (λ ks. AlikeKept v ks []) (sym (kept_none w a.kept b.kept (twins.kept w (beyond_self w)) none_b)) none_kept);
    facts = λ v agrees. twins.facts v (agrees_then w anew v anew_agrees agrees);
  }

-- a pass leaves nothing that was read once
quiet_none : (b c : Reader) → Grows true b c → b.kept ≡ [] → c.kept ≡ []
quiet_none b c grows none = grows.kept refl ∙ none

module _ (ty : TypeForm) (d : DesignForm) (keys : List (Sort × Instance)) where
  abbrev said : Conjunct → Reader → Reader
  said c r = conjunct_stated ty d (old_side ty d) keys c r

  abbrev all_said : List Conjunct → Reader → Reader
  all_said cs r = relation_stated ty d (old_side ty d) keys cs r

  said_twin : (whole : Reader) (c : Conjunct) → TwinPass whole true (said c)
  said_twin whole c = conjunct_twin whole true (old_side ty d) (old_twin whole true ty d) ty d keys c

  all_grow : (cs : List Conjunct) (b : Reader) → Grows true b (all_said cs b)
  all_grow [] b = grows_self true b
  all_grow (c ∷ cs) b = grows_then true b (said c b) (all_said cs (said c b)) (said_twin b c b b).grows (all_grow cs (said c b))

  -- where a conjunct's run begins
  record Run (c : Conjunct) (cs : List Conjunct) (b : Reader) : Type 0 where
    from : Reader
    before : Grows true b from
    behind : Grows true (said c from) (all_said cs b)

  run_of : (c : Conjunct) (cs : List Conjunct) (b : Reader) → Has cs c → Run c cs b
  run_of c [] b has = absurd has
  run_of c (x ∷ cs) b (inl is) =
      record { from = b; before = grows_self true b; behind = subst (λ y. Grows true (said y b) (all_said (x ∷ cs) b)) is (all_grow cs (said x b)) }
  run_of c (x ∷ cs) b (inr has) =
      let rest = run_of c cs (said x b) has in
      record { from = rest.from; before = grows_then true b (said x b) rest.from (said_twin b x b b).grows rest.before; behind = rest.behind }

  -- a relation's facts are among those of a relation that has all its conjuncts
  record Related (whole : Reader) (w : World) (a : Reader) : Type 0 where
    later : World
    other : Reader
    none : other.kept ≡ []
    twins : Twins whole later a other

  relates : (whole : Reader) (cs rs : List Conjunct) (b : Reader) → b.kept ≡ [] → Grows false (all_said cs b) whole → ((c : Conjunct) → Has rs c → Has cs c)
      → (w : World) (a o : Reader) → o.kept ≡ [] → Twins whole w a o → Related whole w (all_said rs a)
  relates whole cs [] b none_b part among w a o none_o twins = record { later = w; other = o; none = none_o; twins = twins }
  relates whole cs (c ∷ rs) b none_b part among w a o none_o twins =
      let run = run_of c cs b (among c (inl refl)) in
      let none : run.from.kept ≡ [] = quiet_none b run.from run.before none_b in
      let went = (said_twin whole c a run.from).goes (grows_then false (said c run.from) (all_said cs b) whole (grows_loud true (said c run.from) (all_said cs b) run.behind) part)
      (anew whole w a o twins) (runs_anew whole w a o twins run.from none_o none) in
      let rest = relates whole cs rs b none_b part (λ x has. among x (inr has)) went.later (said c a) (said c run.from)
      (quiet_none run.from (said c run.from) (said_twin whole c a run.from).grows none) went.twins in
      record { later = rest.later; other = rest.other; none = rest.none; twins = rest.twins }

-- nothing is read yet
abbrev nothing_read : World
nothing_read = record { slots = 0; flags = 0; nums = λ i. 0; truths = λ i. 0; seen = λ i. false; within = λ i e. absurd (false≢true e); apart = λ i j e. absurd (false≢true e) }

fresh_twins : (whole : Reader) → Twins whole nothing_read fresh fresh
fresh_twins whole = record {
  slots = refl;
  flags = refl;
  names = λ i n at. absurd (cc);
  once = λ i n at. absurd (cc);
  seen = λ i n at. absurd (cc);
  made = λ i at. absurd (cc);
  before = λ i at. absurd (cc);
  truths = λ i n at. absurd (cc);
  kept = λ v beyond. none_kept;
  facts = λ v agrees. All-nil _;
}

-- all facts of a list are among others
pub record AllStand (fs gs : List Fact) : Type 0 where
  pub world : World
  pub stand : All (λ f. Stands world f gs) fs

whole_grows : (b : Reader) → Grows false b b
whole_grows b = grows_self false b

module _ (ty : TypeForm) (d : DesignForm) (cs rs : List Conjunct) (among : (c : Conjunct) → Has rs c → Has cs c) where
  -- what is known, then the relation, then the claim
  claimed : (before : Reader → Reader) (keys : List (Sort × Instance)) (claim : Reader → Reader) → ((whole : Reader) → TwinPass whole true before) → ((whole : Reader) → TwinPass whole false claim)
      → AllStand (claim (all_said ty d keys rs (keys_stated (old_side ty d) (spots_of ty d) keys (before fresh)))).facts (claim (all_said ty d keys cs (keys_stated (old_side ty d) (spots_of ty d) keys (before fresh)))).facts
  claimed before keys claim first last =
      let ready = keys_stated (old_side ty d) (spots_of ty d) keys (before fresh) in
      let right = all_said ty d keys cs ready in
      let left = all_said ty d keys rs ready in
      let whole = claim right in
      let known = passing (first whole fresh fresh) (keys_twin whole true (old_side ty d) (old_twin whole true ty d) (spots_of ty d) keys (before fresh) (before fresh)) in
      let none_ready : ready.kept ≡ [] = quiet_none fresh ready known.grows refl in
      let related_grows : Grows true ready right = all_grow ty d keys cs ready in
      let claim_grows : Grows false right whole = (last whole left right).grows in
      let ready_part : Grows false ready whole = grows_then false ready right whole (grows_loud true ready right related_grows) claim_grows in
      let went = known.goes ready_part nothing_read (fresh_twins whole) in
      let related = relates ty d keys whole cs rs ready none_ready claim_grows among went.later ready ready none_ready went.twins in
      let end = (last whole left right).goes (whole_grows whole) (anew whole related.later left related.other related.twins)
      (runs_anew whole related.later left related.other related.twins right related.none (quiet_none ready right related_grows none_ready)) in
      record { world = end.later; stand = end.twins.facts end.later (agrees_self end.later) }

  -- a condition's facts are among those of the same condition
  pub condition_stands : (condition : Condition) → AllStand (facts_by ty d rs (Some condition)) (facts_by ty d cs (Some condition))
  condition_stands (start c) =
      let key = conjunct_key ty d.components c in
      let names = natural_keys (claim_keys key) in
      let whole = start_stated ty d c key fresh in
      let claim = passing (naturals_twin whole true names fresh fresh) (denies whole true (claim_read ty d (start_side ty d) c (claim_at key)) (claim_twin whole true (start_side ty d) (start_twin whole true ty d) ty d c (claim_at key)) _ _) in
      let end = claim.goes (whole_grows whole) nothing_read (fresh_twins whole) in
      record { world = end.later; stand = end.twins.facts end.later (agrees_self end.later) }
  condition_stands (step o op c) =
      let key = conjunct_key ty d.components c in
      claimed (λ r. order_stated (after_side ty d o op) (old_side ty d) op.ranks (state_stated ty d key op.params r)) (keys_of key op.params) (λ r. denied_claim (claim_read ty d (after_side ty d o op) c (claim_at key) r))
      (λ whole a b. passing (state_twin whole true ty d key op.params a b) (order_is_twin whole ty d o op _ _))
      (λ whole. denies whole false (claim_read ty d (after_side ty d o op) c (claim_at key)) (claim_twin whole false (after_side ty d o op) (after_twin whole ty d o op) ty d c (claim_at key)))
  condition_stands (answers q query) =
      claimed (state_stated ty d None query.params) (keys_of None query.params) (λ r. denied_claim (answers_read (old_side ty d) None (Some query) (slice_get d.asks q) r))
      (λ whole. state_twin whole true ty d None query.params)
      (λ whole. denies whole false (answers_read (old_side ty d) None (Some query) (slice_get d.asks q)) (answers_twin whole false (old_side ty d) (old_twin whole false ty d) None (Some query) (slice_get d.asks q)))
