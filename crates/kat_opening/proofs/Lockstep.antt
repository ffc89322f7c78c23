-- Reading in step from two readers: each reading of the first goes with one of the second, and gives the same.
use Rattle.std.proofs.Common.{◌≡◌, ◌≢◌, ℕ, zero, suc, ◌<◌, ◌≤◌, ◌⊎◌, inl, inr, ⊎_elim, Bool, true, false, eqb, if◌then◌else◌, Option, Some, None, List, [], ◌∷◌, ◌++◌, length, refl, sym, ap, ◌∙◌, subst, arith, All, Contains}
use Rattle.std.specs.Prelude.{slice_get}
use Rattle.std.proofs.lemmas.List.{append-nil, append_assoc}
use Rattle.std.proofs.lemmas.List.Elements.{All-push, Contains-append_left, Contains-append_right}
use Rattle.std.proofs.lemmas.Bool.{eqb-true}
use Rattle.std.proofs.lemmas.Bool.Decides.{Decides-eqb}
use Rattle.kat_linear.specs.Rows.{Form}
use Rattle.kat_form.specs.Facts.{Fact}
use Rattle.kat_form.specs.Facts.Fact.{truth_is}
use Rattle.kat_form.specs.Readings.{folded_value}
use Rattle.kat_symbols.specs.Connectives.{denied, fact_same, or_of}
use Rattle.kat_symbols.specs.Readers.{Reader, Symbol, same_name, place_of, place_in, with_slot, with_flag, state, number_at, read_name, flag_at, read_flag, chosen, choose_by, choose, found, kept_by, read_once}
use Rattle.kat_symbols.specs.Sums.{variable}
use Rattle.kat_symbols.specs.declared.names.Name.{Name}
use Rattle.kat_symbols.specs.declared.names.Slot.{Slot}
use Rattle.kat_symbols.specs.declared.names.Slot.TheVariants.{Named, Chosen}
use Rattle.kat_opening.proofs.Placed.{slot_placed, slot_stays, slot_new, flag_placed, flag_stays, flag_new, get_stays, get_new, get_cases, get_within, length_more}
use Rattle.kat_opening.proofs.Forms.{World, Agrees, Beyond, agrees_then, beyond_self, beyond_then, AlikeForm, variable_alike}
use Rattle.kat_opening.proofs.Facts.{SameFact, AlikeSymbol, fact_agrees, folded_alike, or_same, denied_same, equal_same}
use Rattle.kat_opening.proofs.Facts.SameFact.{both_truth}

-- what is appended to what
pub record Behind {A : Type 0} (xs ys : List A) : Type 0 where
  pub more : List A
  pub is : ys ≡ xs ++ more

-- a reader grows; if nothing is read once, what was read once stays as it is
pub record Grows (quiet : Bool) (b c : Reader) : Type 0 where
  pub slots : Behind b.slots c.slots
  pub flags : Behind b.flags c.flags
  pub facts : Behind b.facts c.facts
  pub kept : quiet ≡ true → c.kept ≡ b.kept

behind_self : {A : Type 0} (xs : List A) → Behind xs xs
behind_self xs = record { more = []; is = sym (append-nil xs) }

behind_then : {A : Type 0} (xs ys zs : List A) → Behind xs ys → Behind ys zs → Behind xs zs
behind_then {A} xs ys zs p q = record { more = p.more ++ q.more; is = q.is ∙ ap (λ (l : List A). l ++ q.more) p.is ∙ append_assoc xs p.more q.more }

behind_one : {A : Type 0} (xs : List A) (x : A) → Behind xs (xs ++ x ∷ [])
behind_one xs x = record { more = x ∷ []; is = refl }

length_behind : {A : Type 0} (xs ys : List A) → Behind xs ys → length xs ≤ length ys
length_behind xs ys h = subst (λ l. length xs ≤ length l) (sym h.is) (longer xs h.more)
  where
    longer : {B : Type 0} (us vs : List B) → length us ≤ length (us ++ vs)
    longer [] vs = omega arith
    longer (u ∷ us) vs = let rest : length us ≤ length (us ++ vs) = longer us vs in omega (arith, rest)

pub grows_self : (quiet : Bool) (b : Reader) → Grows quiet b b
grows_self quiet b = record { slots = behind_self b.slots; flags = behind_self b.flags; facts = behind_self b.facts; kept = λ q. refl }

pub grows_then : (quiet : Bool) (a b c : Reader) → Grows quiet a b → Grows quiet b c → Grows quiet a c
grows_then quiet a b c p q = record {
  slots = behind_then a.slots b.slots c.slots p.slots q.slots;
  flags = behind_then a.flags b.flags c.flags p.flags q.flags;
  facts = behind_then a.facts b.facts c.facts p.facts q.facts;
  kept = λ e. q.kept e ∙ p.kept e;
}

pub grows_loud : (quiet : Bool) (b c : Reader) → Grows quiet b c → Grows false b c
grows_loud quiet b c h = record { slots = h.slots; flags = h.flags; facts = h.facts; kept = λ e. absurd (cc) }

-- what was read once, in step
pub data AlikeKept (w : World) : List (Name × Symbol) → List (Name × Symbol) → Type 0 where
  none_kept : AlikeKept w [] []
  kept_more : (n : Name) (s t : Symbol) (ks ls : List (Name × Symbol)) → AlikeSymbol w s t → AlikeKept w ks ls → AlikeKept w ((n, s) ∷ ks) ((n, t) ∷ ls)

-- one of the facts is the same
pub record Stands (w : World) (f : Fact) (gs : List Fact) : Type 0 where
  pub fact : Fact
  pub there : Contains gs fact
  pub same : SameFact w f fact

-- The variables of the first reader have places in the whole that the second reader grows into. Names that are read have one
-- place; choices are seen as long as the second reader has made them.
pub record Twins (whole : Reader) (w : World) (a b : Reader) : Type 0 where
  pub slots : w.slots ≡ length a.slots
  pub flags : w.flags ≡ length a.flags
  pub names : (i : ℕ) (n : Name) → slice_get a.slots i ≡ Some (Named n) → place_of n whole.slots ≡ Some (w.nums i)
  pub once : (i : ℕ) (n : Name) → slice_get a.slots i ≡ Some (Named n) → place_of n a.slots ≡ Some i
  pub seen : (i : ℕ) (n : Name) → slice_get a.slots i ≡ Some (Named n) → w.seen i ≡ true
  pub made : (i : ℕ) → slice_get a.slots i ≡ Some Chosen → slice_get whole.slots (w.nums i) ≡ Some Chosen
  pub before : (i : ℕ) → slice_get a.slots i ≡ Some Chosen → w.seen i ≡ true → w.nums i < length b.slots
  pub truths : (i : ℕ) (n : Name) → slice_get a.flags i ≡ Some n → place_in n whole.flags ≡ Some (w.truths i)
  pub kept : (v : World) → Beyond w v → AlikeKept v a.kept b.kept
  pub facts : (v : World) → Agrees w v → All (λ f. Stands v f whole.facts) a.facts

-- If the second reader grows into the whole, both go on, and P holds in every later world.
pub record Went (whole : Reader) (w : World) (a b : Reader) (P : World → Type 0) : Type 0 where
  pub later : World
  pub beyond : Beyond w later
  pub twins : Twins whole later a b
  pub gives : (v : World) → Beyond later v → P v

pub record Goes (whole : Reader) (quiet : Bool) (a b c d : Reader) (P : World → Type 0) : Type 0 where
  pub grows : Grows quiet b d
  pub goes : Grows false d whole → (w : World) → Twins whole w a b → Went whole w c d P

pub stays : (whole : Reader) (quiet : Bool) (a b : Reader) (P : World → Type 0) → ((w : World) → P w) → Goes whole quiet a b a b P
stays whole quiet a b P h = record { grows = grows_self quiet b; goes = λ part w twins. record { later = w; beyond = beyond_self w; twins = twins; gives = λ v later. h v } }

pub goes_as : (whole : Reader) (quiet : Bool) (a b c d : Reader) (P Q : World → Type 0) → Goes whole quiet a b c d P → ((w : World) → P w → Q w) → Goes whole quiet a b c d Q
goes_as whole quiet a b c d P Q first h = record {
  grows = first.grows;
  goes = λ part w twins. let x = first.goes part w twins in record { later = x.later; beyond = x.beyond; twins = x.twins; gives = λ v beyond. h v (x.gives v beyond) };
}

-- one after the other
pub goes_two : (whole : Reader) (quiet : Bool) (a b c d e f : Reader) (P Q R : World → Type 0) → Goes whole quiet a b c d P → Goes whole quiet c d e f Q → ((w : World) → P w → Q w → R w) → Goes whole quiet a b e f R
goes_two whole quiet a b c d e f P Q R first second h = record {
  grows = grows_then quiet b d f first.grows second.grows;
  goes = λ part w twins.
      let x = first.goes (grows_then false d f whole (grows_loud quiet d f second.grows) part) w twins in
      let y = second.goes part x.later x.twins in
      record {
        later = y.later;
        beyond = beyond_then w x.later y.later x.beyond y.beyond;
        twins = y.twins;
        gives = λ v beyond. h v (x.gives v (beyond_then x.later y.later v y.beyond beyond)) (y.gives v beyond);
      };
}

-- the second reader alone goes on
right_goes : (whole : Reader) (w : World) (a b d : Reader) → Grows true b d → Twins whole w a b → Twins whole w a d
right_goes whole w a b d grows twins = record {
  slots = twins.slots;
  flags = twins.flags;
  names = twins.names;
  once = twins.once;
  seen = twins.seen;
  made = twins.made;
  before = λ i at seen. let short : w.nums i < length b.slots = twins.before i at seen in omega (arith, short, length_behind b.slots d.slots grows.slots);
  truths = twins.truths;
  kept = λ v beyond. subst (λ ks. AlikeKept v a.kept ks) (sym (grows.kept refl)) (twins.kept v beyond);
  facts = twins.facts;
}

-- a function with another value at one place
abbrev put : {A : Type 0} → ℕ → A → (ℕ → A) → ℕ → A
put n x f i = if eqb i n then x else f i

put_there : {A : Type 0} (n : ℕ) (x : A) (f : ℕ → A) → put n x f n ≡ x
put_there n x f = let same : eqb n n ≡ true = (Decides-eqb n n).1 refl in rw same refl

put_else : {A : Type 0} (n : ℕ) (x : A) (f : ℕ → A) (i : ℕ) → i ≢ n → put n x f i ≡ f i
put_else {A} n x f i apart = by_test (eqb i n) refl
  where
    by_test : (b : Bool) → eqb i n ≡ b → put n x f i ≡ f i
    by_test true e = absurd (apart (eqb-true i n e))
    by_test false e = rw e refl

below_else : {A : Type 0} (n : ℕ) (x : A) (f : ℕ → A) (i : ℕ) → i < n → put n x f i ≡ f i
below_else n x f i below = put_else n x f i (λ e. omega (arith, below, e))

is_or_not : (i n : ℕ) → (i ≡ n) ⊎ (i ≢ n)
is_or_not i n = by_test (eqb i n) refl
  where
    by_test : (b : Bool) → eqb i n ≡ b → (i ≡ n) ⊎ (i ≢ n)
    by_test true e = inl (eqb-true i n e)
    by_test false e = inr (λ same. let is : eqb i n ≡ true = (Decides-eqb i n).1 same in cc)

-- a variable more, which stands for j
was_seen : (w : World) (i : ℕ) → put w.slots true w.seen i ≡ true → i ≢ w.slots → w.seen i ≡ true
was_seen w i h apart = sym (put_else w.slots true w.seen i apart) ∙ h

more_within : (w : World) (i : ℕ) → put w.slots true w.seen i ≡ true → i < suc w.slots
more_within w i h = ⊎_elim
    (λ (e : i ≡ w.slots). omega (arith, e))
    (λ (e : i ≢ w.slots). let below : i < w.slots = w.within i (was_seen w i h e) in omega (arith, below))
    (is_or_not i w.slots)

more_apart : (w : World) (j : ℕ) → ((i : ℕ) → w.seen i ≡ true → w.nums i ≡ j → ⊥) → (i k : ℕ) → put w.slots true w.seen i ≡ true → put w.slots true w.seen k ≡ true
    → put w.slots j w.nums i ≡ put w.slots j w.nums k → i ≡ k
more_apart w j new i k p q same = ⊎_elim
    (λ (e : i ≡ w.slots). ⊎_elim
    (λ (d : k ≡ w.slots). e ∙ sym d)
    (λ (d : k ≢ w.slots). absurd (new k (was_seen w k q d) (sym (put_else w.slots j w.nums k d) ∙ sym same ∙ ap (put w.slots j w.nums) e ∙ put_there w.slots j w.nums)))
    (is_or_not k w.slots))
    (λ (e : i ≢ w.slots). ⊎_elim
    (λ (d : k ≡ w.slots). absurd (new i (was_seen w i p e) (sym (put_else w.slots j w.nums i e) ∙ same ∙ ap (put w.slots j w.nums) d ∙ put_there w.slots j w.nums)))
    (λ (d : k ≢ w.slots). w.apart i k (was_seen w i p e) (was_seen w k q d) (sym (put_else w.slots j w.nums i e) ∙ same ∙ put_else w.slots j w.nums k d))
    (is_or_not k w.slots))
    (is_or_not i w.slots)

abbrev with_number : (w : World) (j : ℕ) → ((i : ℕ) → w.seen i ≡ true → w.nums i ≡ j → ⊥) → World
with_number w j new = record {
  slots = suc w.slots;
  flags = w.flags;
  nums = put w.slots j w.nums;
  truths = w.truths;
  seen = put w.slots true w.seen;
  within = more_within w;
  apart = more_apart w j new;
}

beyond_number : (w : World) (j : ℕ) (new : (i : ℕ) → w.seen i ≡ true → w.nums i ≡ j → ⊥) → Beyond w (with_number w j new)
beyond_number w j new = record {
  agrees = record { slots = omega arith; flags = omega arith; nums = λ i h. below_else w.slots j w.nums i h; truths = λ i h. refl };
  seen = λ i h. below_else w.slots true w.seen i (w.within i h) ∙ h;
}

-- a slot more
pub record Placed (whole a d : Reader) (s : Slot) (j : ℕ) : Type 0 where
  pub named : (n : Name) → s ≡ Named n → (place_of n whole.slots ≡ Some j) × (place_of n a.slots ≡ None)
  pub chosen : s ≡ Chosen → (slice_get whole.slots j ≡ Some Chosen) × (j < length d.slots)

with_new : (whole : Reader) (w : World) (a d : Reader) (s : Slot) (j : ℕ) (new : (i : ℕ) → w.seen i ≡ true → w.nums i ≡ j → ⊥) → Twins whole w a d → Placed whole a d s j
    → Twins whole (with_number w j new) (with_slot s a) d
with_new whole w a d s j new twins placed = record {
  slots = omega (arith, twins.slots, length_more a.slots s);
  flags = twins.flags;
  names = λ i n at. ⊎_elim
      (λ (h : (i < length a.slots) × (slice_get a.slots i ≡ Some (Named n))). twins.names i n h.1 ∙ ap Some (sym (below_else w.slots j w.nums i (omega (arith, h.0, twins.slots)))))
      (λ (h : (i ≡ length a.slots) × (s ≡ Named n)). (placed.named n h.1).0 ∙ ap Some (sym (ap (put w.slots j w.nums) (h.0 ∙ sym twins.slots) ∙ put_there w.slots j w.nums)))
      (get_cases a.slots s i (Named n) at);
  once = λ i n at. ⊎_elim
      (λ (h : (i < length a.slots) × (slice_get a.slots i ≡ Some (Named n))). slot_stays n a.slots (s ∷ []) i (twins.once i n h.1))
      (λ (h : (i ≡ length a.slots) × (s ≡ Named n)).
      let at_end : place_of n (a.slots ++ Named n ∷ []) ≡ Some (length a.slots) = slot_new n a.slots (placed.named n h.1).1 in
      subst (λ x. place_of n (a.slots ++ x ∷ []) ≡ Some i) (sym h.1) (at_end ∙ ap Some (sym h.0)))
      (get_cases a.slots s i (Named n) at);
  seen = λ i n at. ⊎_elim
      (λ (h : (i < length a.slots) × (slice_get a.slots i ≡ Some (Named n))). below_else w.slots true w.seen i (omega (arith, h.0, twins.slots)) ∙ twins.seen i n h.1)
      (λ (h : (i ≡ length a.slots) × (s ≡ Named n)). ap (put w.slots true w.seen) (h.0 ∙ sym twins.slots) ∙ put_there w.slots true w.seen)
      (get_cases a.slots s i (Named n) at);
  made = λ i at. ⊎_elim
      (λ (h : (i < length a.slots) × (slice_get a.slots i ≡ Some Chosen)). ap (slice_get whole.slots) (below_else w.slots j w.nums i (omega (arith, h.0, twins.slots))) ∙ twins.made i h.1)
      (λ (h : (i ≡ length a.slots) × (s ≡ Chosen)). ap (slice_get whole.slots) (ap (put w.slots j w.nums) (h.0 ∙ sym twins.slots) ∙ put_there w.slots j w.nums) ∙ (placed.chosen h.1).0)
      (get_cases a.slots s i Chosen at);
  before = λ i at seen. ⊎_elim
      (λ (h : (i < length a.slots) × (slice_get a.slots i ≡ Some Chosen)).
      let old : i < w.slots = omega (arith, h.0, twins.slots) in
      subst (λ k. k < length d.slots) (sym (below_else w.slots j w.nums i old)) (twins.before i h.1 (sym (below_else w.slots true w.seen i old) ∙ seen)))
      (λ (h : (i ≡ length a.slots) × (s ≡ Chosen)).
      subst (λ k. k < length d.slots) (sym (ap (put w.slots j w.nums) (h.0 ∙ sym twins.slots) ∙ put_there w.slots j w.nums)) (placed.chosen h.1).1)
      (get_cases a.slots s i Chosen at);
  truths = twins.truths;
  kept = λ v beyond. twins.kept v (beyond_then w (with_number w j new) v (beyond_number w j new) beyond);
  facts = λ v agrees. twins.facts v (agrees_then w (with_number w j new) v (beyond_number w j new).agrees agrees);
}

-- which slot a variable has
got : {A : Type 0} (xs : List A) (i : ℕ) → i < length xs → (x : A) × (slice_get xs i ≡ Some x)
got [] i h = absurd (omega (arith, h))
got (x ∷ xs) zero h = (x, refl)
got (x ∷ xs) (suc i) h = got xs i (omega (arith, h))

-- a name that isn't read, and a choice that isn't made, has a place that no seen variable stands for
named_new : (whole : Reader) (w : World) (a b : Reader) (n : Name) (j : ℕ) → Twins whole w a b → place_of n a.slots ≡ None → place_of n whole.slots ≡ Some j
    → (i : ℕ) → w.seen i ≡ true → w.nums i ≡ j → ⊥
named_new whole w a b n j twins none there i seen is =
    let slot = got a.slots i (omega (arith, w.within i seen, twins.slots)) in
    by_slot slot.0 slot.1
  where
    by_slot : (s : Slot) → slice_get a.slots i ≡ Some s → ⊥
    by_slot (Named m) at =
        let mine : slice_get whole.slots j ≡ Some (Named m) = slot_placed m whole.slots j (twins.names i m at ∙ ap Some is) in
        let its : slice_get whole.slots j ≡ Some (Named n) = slot_placed n whole.slots j there in
        let both : Some (Named m) ≡ Some (Named n) = sym mine ∙ its in
        let same : m ≡ n = cc in
        let here : place_of n a.slots ≡ Some i = subst (λ k. place_of k a.slots ≡ Some i) same (twins.once i m at) in
        absurd (cc)
    by_slot Chosen at =
        let mine : slice_get whole.slots j ≡ Some Chosen = ap (slice_get whole.slots) (sym is) ∙ twins.made i at in
        let its : slice_get whole.slots j ≡ Some (Named n) = slot_placed n whole.slots j there in
        absurd (cc)

chosen_new : (whole : Reader) (w : World) (a b : Reader) (j : ℕ) → Twins whole w a b → length b.slots ≤ j → slice_get whole.slots j ≡ Some Chosen
    → (i : ℕ) → w.seen i ≡ true → w.nums i ≡ j → ⊥
chosen_new whole w a b j twins late there i seen is =
    let slot = got a.slots i (omega (arith, w.within i seen, twins.slots)) in
    by_slot slot.0 slot.1
  where
    by_slot : (s : Slot) → slice_get a.slots i ≡ Some s → ⊥
    by_slot (Named m) at =
        let mine : slice_get whole.slots j ≡ Some (Named m) = slot_placed m whole.slots j (twins.names i m at ∙ ap Some is) in
        absurd (cc)
    by_slot Chosen at = let short : w.nums i < length b.slots = twins.before i at seen in omega (arith, short, late, is)

-- the place in the whole of a name that the second reader reads
pub record Reads (whole : Reader) (n : Name) (b : Reader) : Type 0 where
  pub place : ℕ
  pub is : (read_name n b).0 ≡ variable place
  pub there : place_of n whole.slots ≡ Some place

name_grows : (quiet : Bool) (n : Name) (b : Reader) → Grows quiet b (read_name n b).1
name_grows quiet n b = by_place (place_of n b.slots)
  where
    by_place : (o : Option ℕ) → Grows quiet b (number_at o n b).1
    by_place (Some v) = grows_self quiet b
    by_place None = record { slots = behind_one b.slots (Named n); flags = behind_self b.flags; facts = behind_self b.facts; kept = λ q. refl }

name_reads : (whole : Reader) (n : Name) (b : Reader) → Grows false (read_name n b).1 whole → Reads whole n b
name_reads whole n b = by_place (place_of n b.slots) refl
  where
    by_place : (o : Option ℕ) → place_of n b.slots ≡ o → Grows false (number_at o n b).1 whole → Reads whole n b
    by_place (Some v) is part = record { place = v; is = ap (λ o. (number_at o n b).0) is; there = subst (λ ss. place_of n ss ≡ Some v) (sym part.slots.is) (slot_stays n b.slots part.slots.more v is) }
    by_place None is part = record {
      place = length b.slots;
      is = ap (λ o. (number_at o n b).0) is;
      there = subst (λ ss. place_of n ss ≡ Some (length b.slots)) (sym part.slots.is) (slot_stays n (b.slots ++ Named n ∷ []) part.slots.more (length b.slots) (slot_new n b.slots is));
    }

pub goes_name : (whole : Reader) (quiet : Bool) (n : Name) (a b : Reader) → Goes whole quiet a b (read_name n a).1 (read_name n b).1 (λ v. AlikeForm v (read_name n a).0 (read_name n b).0)
goes_name whole quiet n a b = record { grows = name_grows quiet n b; goes = λ part w twins. by_place (name_reads whole n b part) w twins (place_of n a.slots) refl }
  where
    by_place : Reads whole n b → (w : World) → Twins whole w a b → (o : Option ℕ) → place_of n a.slots ≡ o
        → Went whole w (number_at o n a).1 (read_name n b).1 (λ v. AlikeForm v (number_at o n a).0 (read_name n b).0)
    by_place reads w twins (Some i) is =
        let at : slice_get a.slots i ≡ Some (Named n) = slot_placed n a.slots i is in
        let both : Some (w.nums i) ≡ Some reads.place = sym (twins.names i n at) ∙ reads.there in
        let same : w.nums i ≡ reads.place = cc in
        record {
          later = w;
          beyond = beyond_self w;
          twins = right_goes whole w a b (read_name n b).1 (name_grows true n b) twins;
          gives = λ v beyond. subst (λ g. AlikeForm v (variable i) g) (sym reads.is)
              (variable_alike v i reads.place (beyond.agrees.nums i (w.within i (twins.seen i n at)) ∙ same) (beyond.seen i (twins.seen i n at)));
        }
    by_place reads w twins None is =
        let new = named_new whole w a b n reads.place twins is reads.there in
        let more = with_number w reads.place new in
        let placed : Placed whole a (read_name n b).1 (Named n) reads.place = record { named = λ m e. let same : n ≡ m = cc in subst (λ k. (place_of k whole.slots ≡ Some reads.place) × (place_of k a.slots ≡ None)) same (reads.there, is); chosen = λ e. absurd (cc) } in
        record {
          later = more;
          beyond = beyond_number w reads.place new;
          twins = with_new whole w a (read_name n b).1 (Named n) reads.place new (right_goes whole w a b (read_name n b).1 (name_grows true n b) twins) placed;
          gives = λ v beyond. subst (λ g. AlikeForm v (variable (length a.slots)) g) (sym reads.is)
              (variable_alike v (length a.slots) reads.place
              (beyond.agrees.nums (length a.slots) (omega (arith, twins.slots)) ∙ ap (put w.slots reads.place w.nums) (sym twins.slots) ∙ put_there w.slots reads.place w.nums)
              (beyond.seen (length a.slots) (ap (put w.slots true w.seen) (sym twins.slots) ∙ put_there w.slots true w.seen)));
        }

-- flags
abbrev with_truth : World → ℕ → World
with_truth w j = record w { flags = suc w.flags; truths = put w.flags j w.truths }

beyond_truth : (w : World) (j : ℕ) → Beyond w (with_truth w j)
beyond_truth w j = record {
  agrees = record { slots = omega arith; flags = omega arith; nums = λ i h. refl; truths = λ i h. below_else w.flags j w.truths i h };
  seen = λ i h. h;
}

pub record ReadsFlag (whole : Reader) (n : Name) (b : Reader) : Type 0 where
  pub place : ℕ
  pub is : (read_flag n b).0 ≡ truth_is place true
  pub there : place_in n whole.flags ≡ Some place

flag_grows : (quiet : Bool) (n : Name) (b : Reader) → Grows quiet b (read_flag n b).1
flag_grows quiet n b = by_place (place_in n b.flags)
  where
    by_place : (o : Option ℕ) → Grows quiet b (flag_at o n b).1
    by_place (Some v) = grows_self quiet b
    by_place None = record { slots = behind_self b.slots; flags = behind_one b.flags n; facts = behind_self b.facts; kept = λ q. refl }

flag_reads : (whole : Reader) (n : Name) (b : Reader) → Grows false (read_flag n b).1 whole → ReadsFlag whole n b
flag_reads whole n b = by_place (place_in n b.flags) refl
  where
    by_place : (o : Option ℕ) → place_in n b.flags ≡ o → Grows false (flag_at o n b).1 whole → ReadsFlag whole n b
    by_place (Some v) is part = record { place = v; is = ap (λ o. (flag_at o n b).0) is; there = subst (λ ss. place_in n ss ≡ Some v) (sym part.flags.is) (flag_stays n b.flags part.flags.more v is) }
    by_place None is part = record {
      place = length b.flags;
      is = ap (λ o. (flag_at o n b).0) is;
      there = subst (λ ss. place_in n ss ≡ Some (length b.flags)) (sym part.flags.is) (flag_stays n (b.flags ++ n ∷ []) part.flags.more (length b.flags) (flag_new n b.flags is));
    }

with_more_truth : (whole : Reader) (w : World) (a d : Reader) (n : Name) (j : ℕ) → Twins whole w a d → place_in n whole.flags ≡ Some j → Twins whole (with_truth w j) (with_flag n a) d
with_more_truth whole w a d n j twins there = record {
  slots = twins.slots;
  flags = omega (arith, twins.flags, length_more a.flags n);
  names = twins.names;
  once = twins.once;
  seen = twins.seen;
  made = twins.made;
  before = twins.before;
  truths = λ i m at. ⊎_elim
      (λ (h : (i < length a.flags) × (slice_get a.flags i ≡ Some m)). twins.truths i m h.1 ∙ ap Some (sym (below_else w.flags j w.truths i (omega (arith, h.0, twins.flags)))))
      (λ (h : (i ≡ length a.flags) × (n ≡ m)).
      subst (λ k. place_in k whole.flags ≡ Some (put w.flags j w.truths i)) h.1 (there ∙ ap Some (sym (ap (put w.flags j w.truths) (h.0 ∙ sym twins.flags) ∙ put_there w.flags j w.truths))))
      (get_cases a.flags n i m at);
  kept = λ v beyond. twins.kept v (beyond_then w (with_truth w j) v (beyond_truth w j) beyond);
  facts = λ v agrees. twins.facts v (agrees_then w (with_truth w j) v (beyond_truth w j).agrees agrees);
}

pub goes_flag : (whole : Reader) (quiet : Bool) (n : Name) (a b : Reader) → Goes whole quiet a b (read_flag n a).1 (read_flag n b).1 (λ v. SameFact v (read_flag n a).0 (read_flag n b).0)
goes_flag whole quiet n a b = record { grows = flag_grows quiet n b; goes = λ part w twins. by_place (flag_reads whole n b part) w twins (place_in n a.flags) refl }
  where
    by_place : ReadsFlag whole n b → (w : World) → Twins whole w a b → (o : Option ℕ) → place_in n a.flags ≡ o
        → Went whole w (flag_at o n a).1 (read_flag n b).1 (λ v. SameFact v (flag_at o n a).0 (read_flag n b).0)
    by_place reads w twins (Some i) is =
        let at : slice_get a.flags i ≡ Some n = flag_placed n a.flags i is in
        let both : Some (w.truths i) ≡ Some reads.place = sym (twins.truths i n at) ∙ reads.there in
        let same : w.truths i ≡ reads.place = cc in
        let below : i < w.flags = omega (arith, get_within a.flags i n at, twins.flags) in
        record {
          later = w;
          beyond = beyond_self w;
          twins = right_goes whole w a b (read_flag n b).1 (flag_grows true n b) twins;
          gives = λ v beyond. subst (λ g. SameFact v (truth_is i true) g) (sym reads.is) (both_truth i reads.place true (omega (arith, below, beyond.agrees.flags)) (beyond.agrees.truths i below ∙ same));
        }
    by_place reads w twins None is =
        let last : length a.flags < suc w.flags = omega (arith, twins.flags) in
        record {
          later = with_truth w reads.place;
          beyond = beyond_truth w reads.place;
          twins = with_more_truth whole w a (read_flag n b).1 n reads.place (right_goes whole w a b (read_flag n b).1 (flag_grows true n b) twins) reads.there;
          gives = λ v beyond. subst (λ g. SameFact v (truth_is (length a.flags) true) g) (sym reads.is)
              (both_truth (length a.flags) reads.place true (omega (arith, last, beyond.agrees.flags))
              (beyond.agrees.truths (length a.flags) last ∙ ap (put w.flags reads.place w.truths) (sym twins.flags) ∙ put_there w.flags reads.place w.truths));
        }

-- a fact more
pub goes_state : (whole : Reader) (quiet : Bool) (a b c d : Reader) (f g : Fact) (P : World → Type 0) → Goes whole quiet a b c d (λ v. SameFact v f g × P v) → Goes whole quiet a b (state f c) (state g d) P
goes_state whole quiet a b c d f g P first = record {
  grows = grows_then quiet b d (state g d) first.grows (more_facts quiet);
  goes = λ part w twins.
      let x = first.goes (grows_then false d (state g d) whole (more_facts false) part) w twins in
      record {
        later = x.later;
        beyond = x.beyond;
        twins = record {
          slots = x.twins.slots;
          flags = x.twins.flags;
          names = x.twins.names;
          once = x.twins.once;
          seen = x.twins.seen;
          made = x.twins.made;
          before = x.twins.before;
          truths = x.twins.truths;
          kept = x.twins.kept;
          facts = λ v agrees. All-push (λ k. Stands v k whole.facts) c.facts f (x.twins.facts v agrees)
              (record { fact = g; there = subst (λ gs. Contains gs g) (sym part.facts.is) (Contains-append_left (d.facts ++ g ∷ []) part.facts.more g (Contains-append_right d.facts (g ∷ []) g (0, omega arith, refl))); same = fact_agrees x.later v agrees f g (x.gives x.later (beyond_self x.later)).0 });
        };
        gives = λ v beyond. (x.gives v beyond).1;
      };
}
  where
    more_facts : (q : Bool) → Grows q d (state g d)
    more_facts q = record { slots = behind_self d.slots; flags = behind_self d.flags; facts = behind_one d.facts g; kept = λ e. refl }

-- a choice more
goes_slot : (whole : Reader) (quiet : Bool) (a b : Reader) → Goes whole quiet a b (with_slot Chosen a) (with_slot Chosen b) (λ v. AlikeForm v (variable (length a.slots)) (variable (length b.slots)))
goes_slot whole quiet a b = record {
  grows = more_slots quiet;
  goes = λ part w twins.
      let j = length b.slots in
      let there : slice_get whole.slots j ≡ Some Chosen = subst (λ ss. slice_get ss j ≡ Some Chosen) (sym part.slots.is) (get_stays (b.slots ++ Chosen ∷ []) part.slots.more j Chosen (get_new b.slots [] Chosen)) in
      let new = chosen_new whole w a b j twins (omega arith) there in
      let placed : Placed whole a (with_slot Chosen b) Chosen j = record { named = λ m e. absurd (cc); chosen = λ e. (there, omega (arith, length_more b.slots Chosen)) } in
      record {
        later = with_number w j new;
        beyond = beyond_number w j new;
        twins = with_new whole w a (with_slot Chosen b) Chosen j new (right_goes whole w a b (with_slot Chosen b) (more_slots true) twins) placed;
        gives = λ v beyond. variable_alike v (length a.slots) j
            (beyond.agrees.nums (length a.slots) (omega (arith, twins.slots)) ∙ ap (put w.slots j w.nums) (sym twins.slots) ∙ put_there w.slots j w.nums)
            (beyond.seen (length a.slots) (ap (put w.slots true w.seen) (sym twins.slots) ∙ put_there w.slots true w.seen));
      };
}
  where
    more_slots : (q : Bool) → Grows q b (with_slot Chosen b)
    more_slots q = record { slots = behind_one b.slots Chosen; flags = behind_self b.flags; facts = behind_self b.facts; kept = λ e. refl }

-- a condition with two branches, in step, and what holds besides
pub record Branches (c d : Fact) (x y u v : Form) (P : World → Type 0) (w : World) : Type 0 where
  pub test : SameFact w c d
  pub left : AlikeForm w x y
  pub right : AlikeForm w u v
  pub besides : P w

goes_chosen : (whole : Reader) (quiet : Bool) (a b e f : Reader) (c d : Fact) (x y u v : Form) (P : World → Type 0) → Goes whole quiet a b e f (Branches c d x y u v P)
    → Goes whole quiet a b (chosen c x u e).1 (chosen d y v f).1 (λ w. AlikeForm w (chosen c x u e).0 (chosen d y v f).0 × P w)
goes_chosen whole quiet a b e f c d x y u v P first =
    let i = variable (length e.slots) in
    let j = variable (length f.slots) in
    let f1 = or_of (denied c) (fact_same i x) in
    let g1 = or_of (denied d) (fact_same j y) in
    let f2 = or_of c (fact_same i u) in
    let g2 = or_of d (fact_same j v) in
    let Q : World → Type 0 = λ w. AlikeForm w i j × P w in
    goes_state whole quiet a b (state f1 (with_slot Chosen e)) (state g1 (with_slot Chosen f)) f2 g2 Q
    (goes_state whole quiet a b (with_slot Chosen e) (with_slot Chosen f) f1 g1 (λ w. SameFact w f2 g2 × Q w)
    (goes_two whole quiet a b e f (with_slot Chosen e) (with_slot Chosen f) (Branches c d x y u v P) (λ w. AlikeForm w i j) (λ w. SameFact w f1 g1 × (SameFact w f2 g2 × Q w)) first (goes_slot whole quiet e f)
    (λ w h k. (
      or_same w _ _ _ _ (denied_same w c d h.test) (equal_same w i j x y k h.left),
      (or_same w _ _ _ _ h.test (equal_same w i j u v k h.right), (k, h.besides)),
    ))))

pub choose_grows : (quiet : Bool) (b f : Reader) (d : Fact) (y v : Form) (o : Option Bool) → Grows quiet b f → Grows quiet b (choose_by o d y v f).1
choose_grows quiet b f d y v (Some true) first = first
choose_grows quiet b f d y v (Some false) first = first
choose_grows quiet b f d y v None first =
    grows_then quiet b f (choose_by None d y v f).1 first
    (record { slots = behind_one f.slots Chosen; flags = behind_self f.flags; facts = behind_then f.facts _ _ (behind_one f.facts _) (behind_one _ _); kept = λ q. refl })

pub goes_choose : (whole : Reader) (quiet : Bool) (a b e f : Reader) (c d : Fact) (x y u v : Form) (P : World → Type 0) → Goes whole quiet a b e f (Branches c d x y u v P)
    → Goes whole quiet a b (choose c x u e).1 (choose d y v f).1 (λ w. AlikeForm w (choose c x u e).0 (choose d y v f).0 × P w)
goes_choose whole quiet a b e f c d x y u v P first = record {
  grows = choose_grows quiet b f d y v (folded_value d) first.grows;
  goes = λ part w twins. by_value (folded_value c) (folded_value d) refl refl part w twins;
}
  where
    Goal : Option Bool → Option Bool → Type 0
    Goal o q = Grows false (choose_by q d y v f).1 whole → (w : World) → Twins whole w a b → Went whole w (choose_by o c x u e).1 (choose_by q d y v f).1 (λ w'. AlikeForm w' (choose_by o c x u e).0 (choose_by q d y v f).0 × P w')

    part_of : (q : Option Bool) → Grows false (choose_by q d y v f).1 whole → Grows false f whole
    part_of q part = grows_then false f (choose_by q d y v f).1 whole (choose_grows false f f d y v q (grows_self false f)) part

    alike : (q : Option Bool) → Grows false (choose_by q d y v f).1 whole → (w : World) → Twins whole w a b → folded_value c ≡ folded_value d
    alike q part w twins = let went = first.goes (part_of q part) w twins in folded_alike went.later c d (went.gives went.later (beyond_self went.later)).test

    by_value : (o q : Option Bool) → folded_value c ≡ o → folded_value d ≡ q → Goal o q
    by_value (Some true) (Some true) p h part w twins = (goes_as whole quiet a b e f _ (λ w'. AlikeForm w' x y × P w') first (λ w' k. (k.left, k.besides))).goes part w twins
    by_value (Some false) (Some false) p h part w twins = (goes_as whole quiet a b e f _ (λ w'. AlikeForm w' u v × P w') first (λ w' k. (k.right, k.besides))).goes part w twins
    by_value None None p h part w twins = (goes_chosen whole quiet a b e f c d x y u v P first).goes part w twins
    by_value (Some true) (Some false) p h part w twins = let same = alike (Some false) part w twins in absurd (cc)
    by_value (Some false) (Some true) p h part w twins = let same = alike (Some true) part w twins in absurd (cc)
    by_value (Some k) None p h part w twins = let same = alike None part w twins in absurd (cc)
    by_value None (Some k) p h part w twins = let same = alike (Some k) part w twins in absurd (cc)

-- what is read once
kept_push : (w : World) (n : Name) (s t : Symbol) (ks ls : List (Name × Symbol)) → AlikeKept w ks ls → AlikeSymbol w s t → AlikeKept w (ks ++ (n, s) ∷ []) (ls ++ (n, t) ∷ [])
kept_push w n s t _ _ none_kept h = kept_more n s t [] [] h none_kept
kept_push w n s t _ _ (kept_more m p q ks ls k rest) h = kept_more m p q _ _ k (kept_push w n s t ks ls rest h)

-- both have read it, or neither has
pub data FoundBoth (w : World) : Option Symbol → Option Symbol → Type 0 where
  neither_found : FoundBoth w None None
  both_found : (s t : Symbol) → AlikeSymbol w s t → FoundBoth w (Some s) (Some t)

found_both : (w : World) (n : Name) (ks ls : List (Name × Symbol)) → AlikeKept w ks ls → FoundBoth w (found n ks) (found n ls)
found_both w n _ _ none_kept = neither_found
found_both w n _ _ (kept_more m s t ks ls h rest) = by_test (same_name n m) (found_both w n ks ls rest)
  where
    by_test : (b : Bool) → FoundBoth w (found n ks) (found n ls) → FoundBoth w (if b then Some s else found n ks) (if b then Some t else found n ls)
    by_test true later = both_found s t h
    by_test false later = later

once_grows : (n : Name) (read : Reader → Symbol × Reader) (b : Reader) → Grows false b (read b).1 → Grows false b (read_once n read b).1
once_grows n read b first = by_found (found n b.kept)
  where
    by_found : (o : Option Symbol) → Grows false b (kept_by o n read b).1
    by_found (Some s) = grows_self false b
    by_found None = record { slots = first.slots; flags = first.flags; facts = first.facts; kept = λ q. absurd (cc) }

alike_found : (w : World) (s t : Symbol) → FoundBoth w (Some s) (Some t) → AlikeSymbol w s t
alike_found w _ _ (both_found s t h) = h

found_left : (w : World) (s : Symbol) → FoundBoth w (Some s) None → ⊥
found_left w s h = by_both (Some s) None h refl refl
  where
    by_both : (o q : Option Symbol) → FoundBoth w o q → o ≡ Some s → q ≡ None → ⊥
    by_both _ _ neither_found e d = absurd (cc)
    by_both _ _ (both_found x t k) e d = absurd (cc)

found_right : (w : World) (s : Symbol) → FoundBoth w None (Some s) → ⊥
found_right w s h = by_both None (Some s) h refl refl
  where
    by_both : (o q : Option Symbol) → FoundBoth w o q → o ≡ None → q ≡ Some s → ⊥
    by_both _ _ neither_found e d = absurd (cc)
    by_both _ _ (both_found x t k) e d = absurd (cc)

pub goes_once : (whole : Reader) (n : Name) (read : Reader → Symbol × Reader) (a b : Reader) → Goes whole false a b (read a).1 (read b).1 (λ v. AlikeSymbol v (read a).0 (read b).0)
    → Goes whole false a b (read_once n read a).1 (read_once n read b).1 (λ v. AlikeSymbol v (read_once n read a).0 (read_once n read b).0)
goes_once whole n read a b first = record {
  grows = once_grows n read b first.grows;
  goes = λ part w twins. by_found (found n a.kept) (found n b.kept) part w twins (λ v beyond. found_both v n a.kept b.kept (twins.kept v beyond));
}
  where
    by_found : (o q : Option Symbol) → Grows false (kept_by q n read b).1 whole → (w : World) → Twins whole w a b → ((v : World) → Beyond w v → FoundBoth v o q)
        → Went whole w (kept_by o n read a).1 (kept_by q n read b).1 (λ v. AlikeSymbol v (kept_by o n read a).0 (kept_by q n read b).0)
    by_found (Some s) (Some t) part w twins h = record { later = w; beyond = beyond_self w; twins = twins; gives = λ v beyond. alike_found v s t (h v beyond) }
    by_found (Some s) None part w twins h = absurd (found_left w s (h w (beyond_self w)))
    by_found None (Some t) part w twins h = absurd (found_right w t (h w (beyond_self w)))
    by_found None None part w twins h =
        let x = first.goes (record { slots = part.slots; flags = part.flags; facts = part.facts; kept = λ e. absurd (cc) }) w twins in
        record {
          later = x.later;
          beyond = x.beyond;
          twins = record {
            slots = x.twins.slots;
            flags = x.twins.flags;
            names = x.twins.names;
            once = x.twins.once;
            seen = x.twins.seen;
            made = x.twins.made;
            before = x.twins.before;
            truths = x.twins.truths;
            kept = λ v beyond. kept_push v n (read a).0 (read b).0 (read a).1.kept (read b).1.kept (x.twins.kept v beyond) (x.gives v beyond);
            facts = x.twins.facts;
          };
          gives = x.gives;
        }
