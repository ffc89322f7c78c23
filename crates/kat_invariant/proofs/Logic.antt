-- Reading keeps the values of earlier variables, gives the new ones theirs, and puts facts that hold.
use Rattle.std.proofs.Common.{◌≡◌, ℕ, zero, suc, ◌<◌, ◌≤◌, ◌⊎◌, inl, inr, ⊎_elim, ℤ, pos, Bool, true, false, not, ◌&&◌, ◌||◌, nat_eq, eqb, if◌then◌else◌, Option, Some, None, option_map, List, [], ◌∷◌, ◌++◌, length, refl, sym, ap, ◌∙◌, subst, arith, All}
use Rattle.std.proofs.lemmas.List.Elements.{All-nil, All-head, All-tail, All-push}
use Rattle.std.proofs.lemmas.Bool.{eqb-true}
use Rattle.std.proofs.lemmas.Bool.Decides.{Decides-eqb}
use Rattle.kat_num.specs.declared.values.Value.{Value}
use Rattle.kat_num.specs.declared.values.Value.TheVariants.{Bool as Truth, Num, Name as Word}
use Rattle.kat_expr.specs.Evaluation.{truth_of}
use Rattle.kat_linear.specs.Rows.{Form, scaled_value}
use Rattle.kat_form.specs.Facts.{Fact}
use Rattle.kat_form.specs.Facts.Fact.{truth_is}
use Rattle.kat_form.specs.Meanings.{holds}
use Rattle.kat_form.specs.Readings.{folded_value}
use Rattle.kat_symbols.specs.Connectives.{denied, fact_same, or_of}
use Rattle.kat_symbols.specs.Readers.{Reader, Symbol, instance_code, code_of, same_code, same_name, is_slot_of, place_of, place_in, with_slot, with_flag, state, fresh, number_at, read_name, flag_at, read_flag, choose_by, choose, found, kept_by, read_once}
use Rattle.kat_symbols.specs.Readers.Symbol.{number, truth}
use Rattle.kat_symbols.specs.Sums.{variable}
use Rattle.kat_symbols.specs.declared.names.Instance.{Instance}
use Rattle.kat_symbols.specs.declared.names.Instance.TheVariants.{Claim, Argument}
use Rattle.kat_symbols.specs.declared.names.Name.{Name}
use Rattle.kat_symbols.specs.declared.names.Name.TheVariants.{Key, Kept, Effect, Begun, Element, LastTime, LastReplica, Time, Replica}
use Rattle.kat_symbols.specs.declared.names.Place.TheVariants.{Field, Leaf}
use Rattle.kat_symbols.specs.declared.names.Slot.{Slot}
use Rattle.kat_symbols.specs.declared.names.Slot.TheVariants.{Named, Chosen}
use Rattle.kat_invariant.proofs.Sums.{variable_value}
use Rattle.kat_invariant.proofs.Saying.{int_same, says_negation, says_or, says_same, constant_tells}
use Rattle.std.proofs.lemmas.Int.{ints}

-- the number that stands for a value: a number, or a name's code
abbrev pub measure : Value → ℤ
measure (Truth _) = pos 0
measure (Num z) = z
measure (Word n) = pos n

-- names with equal codes are equal
abbrev instance_from : ℕ → Option Instance
instance_from zero = None
instance_from (suc zero) = Some Claim
instance_from (suc (suc j)) = Some (Argument j)

abbrev or_claim : Option Instance → Instance
or_claim None = Claim
or_claim (Some i) = i

abbrev name_from : (ℕ × ℕ × ℕ × ℕ) → Name
name_from (zero, a, b, i) = Key (or_claim (instance_from i))
name_from (suc zero, a, b, i) = Kept (Field a) (instance_from i)
name_from (suc (suc zero), a, b, i) = Kept (Leaf a b) (instance_from i)
name_from (suc (suc (suc zero)), a, b, i) = Effect a b
name_from (suc (suc (suc (suc zero))), a, b, i) = Begun
name_from (suc (suc (suc (suc (suc zero)))), a, b, i) = Element a
name_from (suc (suc (suc (suc (suc (suc zero))))), a, b, i) = LastTime
name_from (suc (suc (suc (suc (suc (suc (suc zero)))))), a, b, i) = LastReplica
name_from (suc (suc (suc (suc (suc (suc (suc (suc zero))))))), a, b, i) = Time
name_from (suc (suc (suc (suc (suc (suc (suc (suc (suc k)))))))), a, b, i) = Replica

instance_back : (i : Option Instance) → instance_from (instance_code i) ≡ i
instance_back None = refl
instance_back (Some Claim) = refl
instance_back (Some (Argument j)) = refl

name_back : (n : Name) → name_from (code_of n) ≡ n
name_back (Key Claim) = refl
name_back (Key (Argument j)) = refl
name_back (Kept (Field f) at) = ap (Kept (Field f)) (instance_back at)
name_back (Kept (Leaf c l) at) = ap (Kept (Leaf c l)) (instance_back at)
name_back (Effect c l) = refl
name_back Begun = refl
name_back (Element j) = refl
name_back LastTime = refl
name_back LastReplica = refl
name_back Time = refl
name_back Replica = refl

both_hold : (a b : Bool) → (a && b) ≡ true → (a ≡ true) × (b ≡ true)
both_hold true b e = (refl, e)
both_hold false b e = absurd (cc)

codes_same : (a b : ℕ × ℕ × ℕ × ℕ) → same_code a b ≡ true → a ≡ b
codes_same (k, a, b, i) (l, c, d, j) e =
    let outer = both_hold (nat_eq k l && nat_eq a c && nat_eq b d) (nat_eq i j) e in
    let middle = both_hold (nat_eq k l && nat_eq a c) (nat_eq b d) outer.0 in
    let inner = both_hold (nat_eq k l) (nat_eq a c) middle.0 in
    let p : k ≡ l = eqb-true k l inner.0 in
    let q : a ≡ c = eqb-true a c inner.1 in
    let s : b ≡ d = eqb-true b d middle.1 in
    let r : i ≡ j = eqb-true i j outer.1 in
    cc

pub names_same : (n m : Name) → same_name n m ≡ true → m ≡ n
names_same n m e = sym (name_back m) ∙ ap name_from (sym (codes_same (code_of n) (code_of m) e)) ∙ name_back n

slots_same : (n : Name) (s : Slot) → is_slot_of n s ≡ true → s ≡ Named n
slots_same n (Named m) e = ap Named (names_same n m e)
slots_same n Chosen e = absurd (cc)

abbrev pub slot_at : List Slot → ℕ → Option Slot
slot_at [] v = None
slot_at (s ∷ ss) zero = Some s
slot_at (s ∷ ss) (suc v) = slot_at ss v

-- if a name has a place, its slot is there
slot_placed : (n : Name) (slots : List Slot) (v : ℕ) → place_of n slots ≡ Some v → slot_at slots v ≡ Some (Named n)
slot_placed n [] v e = absurd (cc)
slot_placed n (s ∷ ss) v e = by_test (is_slot_of n s) refl e (λ j. slot_placed n ss j)
  where
    next : (o : Option ℕ) → place_of n ss ≡ o → option_map suc o ≡ Some v → ((j : ℕ) → place_of n ss ≡ Some j → slot_at ss j ≡ Some (Named n)) → slot_at (s ∷ ss) v ≡ Some (Named n)
    next None is e' rest = absurd (cc)
    next (Some j) is e' rest = let at : v ≡ suc j = cc in rw at (rest j is)

    by_test : (b : Bool) → is_slot_of n s ≡ b → place_of n (s ∷ ss) ≡ Some v → ((j : ℕ) → place_of n ss ≡ Some j → slot_at ss j ≡ Some (Named n)) → slot_at (s ∷ ss) v ≡ Some (Named n)
    by_test true h e' rest =
        let first : place_of n (s ∷ ss) ≡ Some 0 = rw h refl in
        let at : v ≡ 0 = let both : Some v ≡ Some 0 = sym e' ∙ first in cc in
        rw (at, slots_same n s h) refl
    by_test false h e' rest =
        let later : place_of n (s ∷ ss) ≡ option_map suc (place_of n ss) = rw h refl in
        next (place_of n ss) refl (sym later ∙ e') rest

slot_cases : (slots : List Slot) (s : Slot) (v : ℕ) (x : Slot) → slot_at (slots ++ s ∷ []) v ≡ Some x → ((v < length slots) × (slot_at slots v ≡ Some x)) ⊎ ((v ≡ length slots) × (s ≡ x))
slot_cases [] s zero x e = inr (refl, cc)
slot_cases [] s (suc v) x e = absurd (cc)
slot_cases (y ∷ ys) s zero x e = inl (omega arith, e)
slot_cases (y ∷ ys) s (suc v) x e = ⊎_elim
    (λ (h : (v < length ys) × (slot_at ys v ≡ Some x)). inl (omega (arith, h.0), h.1))
    (λ (h : (v ≡ length ys) × (s ≡ x)). inr (ap suc h.0, h.1))
    (slot_cases ys s v x e)

slots_more : (xs : List Slot) (x : Slot) → length (xs ++ x ∷ []) ≡ suc (length xs)
slots_more [] x = refl
slots_more (y ∷ ys) x = ap suc (slots_more ys x)

-- values of number variables and of truth variables
pub record World : Type 0 where
  pub nums : ℕ → ℤ
  pub truths : ℕ → Bool

-- what names stand for: values before the step, and what is read once
pub record Meant : Type 0 where
  pub now : Name → Value
  pub later : Name → Value

pub record HasNumber (form : Form) (z : ℤ) (w : World) : Type 0 where
  pub is : scaled_value 1 w.nums form ≡ z

pub record HasTruth (f : Fact) (b : Bool) (w : World) : Type 0 where
  pub is : holds w.truths w.nums f ≡ b

-- a symbolic value has a value of its kind
abbrev pub MeansBy : Symbol → Value → World → Type 0
MeansBy (number a) (Truth b) w = ⊥
MeansBy (number a) (Num z) w = HasNumber a z w
MeansBy (number a) (Word n) w = HasNumber a (pos n) w
MeansBy (truth f) (Truth b) w = HasTruth f b w
MeansBy (truth f) (Num z) w = ⊥
MeansBy (truth f) (Word n) w = ⊥

pub record Means (s : Symbol) (v : Value) (w : World) : Type 0 where
  pub is : MeansBy s v w

abbrev pub name_at : List Name → ℕ → Option Name
name_at [] v = None
name_at (n ∷ ns) zero = Some n
name_at (n ∷ ns) (suc v) = name_at ns v

-- the values are the same for the variables that a reader has
pub record Same (r : Reader) (a b : World) : Type 0 where
  pub nums : (v : ℕ) → v < length r.slots → a.nums v ≡ b.nums v
  pub truths : (v : ℕ) → v < length r.flags → a.truths v ≡ b.truths v

pub record Fits (m : Meant) (r : Reader) (w : World) : Type 0 where
  pub names : (v : ℕ) (n : Name) → slot_at r.slots v ≡ Some (Named n) → w.nums v ≡ measure (m.now n)
  pub flags : (v : ℕ) (n : Name) → name_at r.flags v ≡ Some n → w.truths v ≡ truth_of (m.now n)
  pub kept : All (λ k. Means k.1 (m.later k.0) w) r.kept
  pub facts : All (λ f. holds w.truths w.nums f ≡ true) r.facts

abbrev pub Keeps : World → Reader → (World → Type 0) → Type 0
Keeps a r P = (w : World) → Same r a w → P w

pub record Longer (r s : Reader) : Type 0 where
  pub slots : length r.slots ≤ length s.slots
  pub flags : length r.flags ≤ length s.flags

pub record Gives (m : Meant) (a : World) (r s : Reader) (P : World → Type 0) : Type 0 where
  pub later : World
  pub same : Same r a later
  pub longer : Longer r s
  pub good : Keeps later s (Fits m s)
  pub gives : Keeps later s P

abbrev pub Reads : Meant → Reader → Reader → (World → Type 0) → Type 0
Reads m r s P = (a : World) → Keeps a r (Fits m r) → Gives m a r s P

same_self : (r : Reader) (a : World) → Same r a a
same_self r a = record { nums = λ v h. refl; truths = λ v h. refl }

same_then : (r s : Reader) (a b c : World) → Longer r s → Same r a b → Same s b c → Same r a c
same_then r s a b c longer p q = record {
  nums = λ v h. p.nums v h ∙ q.nums v (omega (arith, h, longer.slots));
  truths = λ v h. p.truths v h ∙ q.truths v (omega (arith, h, longer.flags));
}

same_less : (r s : Reader) (b c : World) → Longer r s → Same s b c → Same r b c
same_less r s b c longer q = record {
  nums = λ v h. q.nums v (omega (arith, h, longer.slots));
  truths = λ v h. q.truths v (omega (arith, h, longer.flags));
}

pub stays : (m : Meant) (r : Reader) (P : World → Type 0) → ((w : World) → Fits m r w → P w) → Reads m r r P
stays m r P h a good = record { later = a; same = same_self r a; longer = record { slots = omega arith; flags = omega arith }; good = good; gives = λ w same. h w (good w same) }

pub reads_two : (m : Meant) (r s u : Reader) (P Q R : World → Type 0) → Reads m r s P → Reads m s u Q → ((w : World) → P w → Q w → R w) → Reads m r u R
reads_two m r s u P Q R first second joined a good =
    let x = first a good in
    let y = second x.later x.good in
    record {
      later = y.later;
      same = same_then r s a x.later y.later x.longer x.same y.same;
      longer = record { slots = omega (arith, x.longer.slots, y.longer.slots); flags = omega (arith, x.longer.flags, y.longer.flags) };
      good = y.good;
      gives = λ w same. joined w (x.gives w (same_then s u x.later y.later w y.longer y.same same)) (y.gives w same);
    }

place_found : (n : Name) (ns : List Name) (v : ℕ) → place_in n ns ≡ Some v → name_at ns v ≡ Some n
place_found n [] v e = absurd (cc)
place_found n (x ∷ xs) v e = by_test (same_name n x) refl e (λ j. place_found n xs j)
  where
    next : (o : Option ℕ) → place_in n xs ≡ o → option_map suc o ≡ Some v → ((j : ℕ) → place_in n xs ≡ Some j → name_at xs j ≡ Some n) → name_at (x ∷ xs) v ≡ Some n
    next None is e' rest = absurd (cc)
    next (Some j) is e' rest = let at : v ≡ suc j = cc in rw at (rest j is)

    by_test : (b : Bool) → same_name n x ≡ b → place_in n (x ∷ xs) ≡ Some v → ((j : ℕ) → place_in n xs ≡ Some j → name_at xs j ≡ Some n) → name_at (x ∷ xs) v ≡ Some n
    by_test true h e' rest =
        let first : place_in n (x ∷ xs) ≡ Some 0 = rw h refl in
        let at : v ≡ 0 = let both : Some v ≡ Some 0 = sym e' ∙ first in cc in
        let same : x ≡ n = names_same n x h in
        rw at (ap Some same)
    by_test false h e' rest =
        let later : place_in n (x ∷ xs) ≡ option_map suc (place_in n xs) = rw h refl in
        next (place_in n xs) refl (sym later ∙ e') rest

name_cases : (ns : List Name) (n : Name) (v : ℕ) (x : Name) → name_at (ns ++ n ∷ []) v ≡ Some x → ((v < length ns) × (name_at ns v ≡ Some x)) ⊎ ((v ≡ length ns) × (n ≡ x))
name_cases [] n zero x e = inr (refl, cc)
name_cases [] n (suc v) x e = absurd (cc)
name_cases (y ∷ ys) n zero x e = inl (omega arith, e)
name_cases (y ∷ ys) n (suc v) x e = ⊎_elim
    (λ (h : (v < length ys) × (name_at ys v ≡ Some x)). inl (omega (arith, h.0), h.1))
    (λ (h : (v ≡ length ys) × (n ≡ x)). inr (ap suc h.0, h.1))
    (name_cases ys n v x e)

names_more : (xs : List Name) (x : Name) → length (xs ++ x ∷ []) ≡ suc (length xs)
names_more [] x = refl
names_more (y ∷ ys) x = ap suc (names_more ys x)

abbrev put : ℕ → Bool → (ℕ → Bool) → ℕ → Bool
put n b values v = if eqb v n then b else values v

put_there : (n : ℕ) (b : Bool) (values : ℕ → Bool) → put n b values n ≡ b
put_there n b values = let itself : eqb n n ≡ true = (Decides-eqb n n).1 refl in rw itself refl

put_else : (n : ℕ) (b : Bool) (values : ℕ → Bool) (v : ℕ) → v < n → put n b values v ≡ values v
put_else n b values v h = by_test (eqb v n) refl
  where
    by_test : (c : Bool) → eqb v n ≡ c → put n b values v ≡ values v
    by_test true e = absurd (let same : v ≡ n = eqb-true v n e in omega (arith, h, same))
    by_test false e = rw e refl

pub reads_flag : (m : Meant) (n : Name) (r : Reader) → Reads m r (read_flag n r).1 (HasTruth (read_flag n r).0 (truth_of (m.now n)))
reads_flag m n r = by_place (place_in n r.flags) refl
  where
    by_place : (o : Option ℕ) → place_in n r.flags ≡ o → Reads m r (flag_at o n r).1 (HasTruth (flag_at o n r).0 (truth_of (m.now n)))
    by_place (Some v) is = stays m r (HasTruth (truth_is v true) (truth_of (m.now n))) (λ w fits. record { is = fits.flags v n (place_found n r.flags v is) })
    by_place None is = λ a good. record {
      later = record a { truths = put (length r.flags) (truth_of (m.now n)) a.truths };
      same = record { nums = λ v h. refl; truths = λ v h. sym (put_else (length r.flags) (truth_of (m.now n)) a.truths v h) };
      longer = record { slots = omega arith; flags = omega (arith, names_more r.flags n) };
      good = λ w same.
          let before = good w (back a w same) in
          record {
            names = before.names;
            flags = λ v x at. ⊎_elim
                (λ (h : (v < length r.flags) × (name_at r.flags v ≡ Some x)). before.flags v x h.1)
                (λ (h : (v ≡ length r.flags) × (n ≡ x)). ap w.truths h.0 ∙ new a w same ∙ ap (λ k. truth_of (m.now k)) h.1)
                (name_cases r.flags n v x at);
            kept = before.kept;
            facts = before.facts;
          };
      gives = λ w same. record { is = new a w same };
    }
      where
        back : (a w : World) → Same (with_flag n r) (record a { truths = put (length r.flags) (truth_of (m.now n)) a.truths }) w → Same r a w
        back a w same = record {
          nums = same.nums;
          truths = λ v h. sym (put_else (length r.flags) (truth_of (m.now n)) a.truths v h) ∙ same.truths v (omega (arith, h, names_more r.flags n));
        }

        new : (a w : World) → Same (with_flag n r) (record a { truths = put (length r.flags) (truth_of (m.now n)) a.truths }) w → w.truths (length r.flags) ≡ truth_of (m.now n)
        new a w same = sym (same.truths (length r.flags) (omega (arith, names_more r.flags n))) ∙ put_there (length r.flags) (truth_of (m.now n)) a.truths

-- what is kept has its value
kept_has : (m : Meant) (w : World) (n : Name) (ks : List (Name × Symbol)) (s : Symbol) → found n ks ≡ Some s → All (λ k. Means k.1 (m.later k.0) w) ks → Means s (m.later n) w
kept_has m w n [] s e all = absurd (cc)
kept_has m w n (k ∷ ks) s e all = by_test (same_name n k.0) refl e (kept_has m w n ks s)
  where
    by_test : (b : Bool) → same_name n k.0 ≡ b → found n (k ∷ ks) ≡ Some s → (found n ks ≡ Some s → All (λ k'. Means k'.1 (m.later k'.0) w) ks → Means s (m.later n) w) → Means s (m.later n) w
    by_test true h e' rest =
        let first : found n (k ∷ ks) ≡ Some k.1 = rw h refl in
        let at : k.1 ≡ s = let both : Some k.1 ≡ Some s = sym first ∙ e' in cc in
        let same : k.0 ≡ n = names_same n k.0 h in
        let here : Means k.1 (m.later k.0) w = All-head (λ k'. Means k'.1 (m.later k'.0) w) k ks all in
        subst (λ x. Means x (m.later n) w) at (subst (λ x. Means k.1 (m.later x) w) same here)
    by_test false h e' rest =
        let later : found n (k ∷ ks) ≡ found n ks = rw h refl in
        rest (sym later ∙ e') (All-tail (λ k'. Means k'.1 (m.later k'.0) w) k ks all)

-- a value that is read once
pub reads_once : (m : Meant) (n : Name) (read : Reader → Symbol × Reader) → ((r : Reader) → Reads m r (read r).1 (Means (read r).0 (m.later n))) → (r : Reader) → Reads m r (read_once n read r).1 (Means (read_once n read r).0 (m.later n))
reads_once m n read h r = by_found (found n r.kept) refl
  where
    by_found : (o : Option Symbol) → found n r.kept ≡ o → Reads m r (kept_by o n read r).1 (Means (kept_by o n read r).0 (m.later n))
    by_found (Some s) is = stays m r (Means s (m.later n)) (λ w fits. kept_has m w n r.kept s is fits.kept)
    by_found None is = λ a good.
        let x = h r a good in
        record {
          later = x.later;
          same = record { nums = x.same.nums; truths = x.same.truths };
          longer = record { slots = x.longer.slots; flags = x.longer.flags };
          good = λ w same.
              let same' : Same (read r).1 x.later w = record { nums = same.nums; truths = same.truths } in
              let before = x.good w same' in
              record { names = before.names; flags = before.flags; kept = All-push (λ k. Means k.1 (m.later k.0) w) (read r).1.kept (n, (read r).0) before.kept (x.gives w same'); facts = before.facts };
          gives = λ w same. x.gives w (record { nums = same.nums; truths = same.truths });
        }

pub reads_as : (m : Meant) (r s : Reader) (P Q : World → Type 0) → Reads m r s P → ((w : World) → P w → Q w) → Reads m r s Q
reads_as m r s P Q first h a good =
    let x = first a good in
    record { later = x.later; same = x.same; longer = x.longer; good = x.good; gives = λ w same. h w (x.gives w same) }

-- a fact is stated, if it holds
pub reads_state : (m : Meant) (r s : Reader) (f : Fact) (P : World → Type 0) → Reads m r s (λ w. HasTruth f true w × P w) → Reads m r (state f s) P
reads_state m r s f P first a good =
    let x = first a good in
    record {
      later = x.later;
      same = x.same;
      longer = record { slots = x.longer.slots; flags = x.longer.flags };
      good = λ w same.
          let same' : Same s x.later w = record { nums = same.nums; truths = same.truths } in
          let before = x.good w same' in
          record { names = before.names; flags = before.flags; kept = before.kept; facts = All-push (λ g. holds w.truths w.nums g ≡ true) s.facts f before.facts (x.gives w same').0.is };
      gives = λ w same. (x.gives w (record { nums = same.nums; truths = same.truths })).1;
    }

abbrev put_number : ℕ → ℤ → (ℕ → ℤ) → ℕ → ℤ
put_number n z values v = if eqb v n then z else values v

number_there : (n : ℕ) (z : ℤ) (values : ℕ → ℤ) → put_number n z values n ≡ z
number_there n z values = let itself : eqb n n ≡ true = (Decides-eqb n n).1 refl in rw itself refl

number_else : (n : ℕ) (z : ℤ) (values : ℕ → ℤ) (v : ℕ) → v < n → put_number n z values v ≡ values v
number_else n z values v h = by_test (eqb v n) refl
  where
    by_test : (c : Bool) → eqb v n ≡ c → put_number n z values v ≡ values v
    by_test true e = absurd (let same : v ≡ n = eqb-true v n e in omega (arith, h, same))
    by_test false e = rw e refl

-- a new variable, with any value that its slot allows
pub reads_slot : (m : Meant) (r : Reader) (s : Slot) (z : ℤ) → ((n : Name) → s ≡ Named n → z ≡ measure (m.now n)) → Reads m r (with_slot s r) (λ w. w.nums (length r.slots) ≡ z)
reads_slot m r s z allowed a good =
    record {
      later = record a { nums = put_number (length r.slots) z a.nums };
      same = record { nums = λ v below. sym (number_else (length r.slots) z a.nums v below); truths = λ v below. refl };
      longer = record { slots = omega (arith, slots_more r.slots s); flags = omega arith };
      good = λ w same.
          let before = good w (back w same) in
          record {
            names = λ v n at. ⊎_elim
                (λ (h : (v < length r.slots) × (slot_at r.slots v ≡ Some (Named n))). before.names v n h.1)
                (λ (h : (v ≡ length r.slots) × (s ≡ Named n)). ap w.nums h.0 ∙ new w same ∙ allowed n h.1)
                (slot_cases r.slots s v (Named n) at);
            flags = before.flags;
            kept = before.kept;
            facts = before.facts;
          };
      gives = new;
    }
  where
    back : (w : World) → Same (with_slot s r) (record a { nums = put_number (length r.slots) z a.nums }) w → Same r a w
    back w same = record {
      nums = λ v below. sym (number_else (length r.slots) z a.nums v below) ∙ same.nums v (omega (arith, below, slots_more r.slots s));
      truths = same.truths;
    }

    new : (w : World) → Same (with_slot s r) (record a { nums = put_number (length r.slots) z a.nums }) w → w.nums (length r.slots) ≡ z
    new w same = sym (same.nums (length r.slots) (omega (arith, slots_more r.slots s))) ∙ number_there (length r.slots) z a.nums

pub reads_name : (m : Meant) (n : Name) (r : Reader) → Reads m r (read_name n r).1 (HasNumber (read_name n r).0 (measure (m.now n)))
reads_name m n r = by_place (place_of n r.slots) refl
  where
    back : (k : Name) → Named n ≡ Named k → n ≡ k
    back k same = cc

    by_place : (o : Option ℕ) → place_of n r.slots ≡ o → Reads m r (number_at o n r).1 (HasNumber (number_at o n r).0 (measure (m.now n)))
    by_place (Some v) is = stays m r (HasNumber (variable v) (measure (m.now n))) (λ w fits. record { is = variable_value w.nums v ∙ fits.names v n (slot_placed n r.slots v is) })
    by_place None is = reads_as m r (with_slot (Named n) r) (λ w. w.nums (length r.slots) ≡ measure (m.now n)) (HasNumber (variable (length r.slots)) (measure (m.now n)))
        (reads_slot m r (Named n) (measure (m.now n)) (λ k same. ap (λ j. measure (m.now j)) (back k same)))
        (λ w h. record { is = variable_value w.nums (length r.slots) ∙ h })

-- a condition and two branches with their values
pub record Branches (c : Fact) (a b : Form) (bc : Bool) (za zb : ℤ) (w : World) : Type 0 where
  pub test : HasTruth c bc w
  pub left : HasNumber a za w
  pub right : HasNumber b zb w

same_itself : (z : ℤ) → int_same z z ≡ true
same_itself z = grind (arith, ints)

picks_left : (bc : Bool) (za zb : ℤ) → (not bc || int_same (if bc then za else zb) za) ≡ true
picks_left true za zb = same_itself za
picks_left false za zb = refl

picks_right : (bc : Bool) (za zb : ℤ) → (bc || int_same (if bc then za else zb) zb) ≡ true
picks_right true za zb = refl
picks_right false za zb = same_itself zb

-- what holds besides stays
pub reads_choice_with : (m : Meant) (first r : Reader) (c : Fact) (a b : Form) (bc : Bool) (za zb : ℤ) (P : World → Type 0) → Reads m first r (λ w. Branches c a b bc za zb w × P w) → Reads m first (choose c a b r).1 (λ w. HasNumber (choose c a b r).0 (if bc then za else zb) w × P w)
reads_choice_with m first r c a b bc za zb P parts = by_constant (folded_value c) refl
  where
    folded : (x : Bool) (w : World) → folded_value c ≡ Some x → holds w.truths w.nums c ≡ bc → x ≡ bc
    folded x w is says_it = sym (constant_tells w.truths w.nums c x is) ∙ says_it

    chosen_value : Reads m first (with_slot Chosen r) (λ w. (Branches c a b bc za zb w × P w) × (w.nums (length r.slots) ≡ (if bc then za else zb)))
    chosen_value = reads_two m first r (with_slot Chosen r) (λ w. Branches c a b bc za zb w × P w) (λ w. w.nums (length r.slots) ≡ (if bc then za else zb)) _ parts (reads_slot m r Chosen (if bc then za else zb) (λ n same. absurd (cc))) (λ w p q. (p, q))

    left_holds : (w : World) → Branches c a b bc za zb w → w.nums (length r.slots) ≡ (if bc then za else zb) → HasTruth (or_of (denied c) (fact_same (variable (length r.slots)) a)) true w
    left_holds w p q = record { is = says_or w.truths w.nums (denied c) (fact_same (variable (length r.slots)) a) ∙ rw (says_negation w.truths w.nums c, p.test.is, says_same w.truths w.nums (variable (length r.slots)) a, variable_value w.nums (length r.slots), q, p.left.is) (picks_left bc za zb) }

    right_holds : (w : World) → Branches c a b bc za zb w → w.nums (length r.slots) ≡ (if bc then za else zb) → HasTruth (or_of c (fact_same (variable (length r.slots)) b)) true w
    right_holds w p q = record { is = says_or w.truths w.nums c (fact_same (variable (length r.slots)) b) ∙ rw (p.test.is, says_same w.truths w.nums (variable (length r.slots)) b, variable_value w.nums (length r.slots), q, p.right.is) (picks_right bc za zb) }

    by_constant : (o : Option Bool) → folded_value c ≡ o → Reads m first (choose_by o c a b r).1 (λ w. HasNumber (choose_by o c a b r).0 (if bc then za else zb) w × P w)
    by_constant (Some true) is = reads_as m first r _ _ parts (λ w p. let at : bc ≡ true = sym (folded true w is p.0.test.is) in (record { is = rw at p.0.left.is }, p.1))
    by_constant (Some false) is = reads_as m first r _ _ parts (λ w p. let at : bc ≡ false = sym (folded false w is p.0.test.is) in (record { is = rw at p.0.right.is }, p.1))
    by_constant None is =
        let one = state (or_of (denied c) (fact_same (variable (length r.slots)) a)) (with_slot Chosen r) in
        reads_state m first one (or_of c (fact_same (variable (length r.slots)) b)) (λ w. HasNumber (variable (length r.slots)) (if bc then za else zb) w × P w)
        (reads_state m first (with_slot Chosen r) (or_of (denied c) (fact_same (variable (length r.slots)) a)) (λ w. HasTruth (or_of c (fact_same (variable (length r.slots)) b)) true w × (HasNumber (variable (length r.slots)) (if bc then za else zb) w × P w))
        (reads_as m first (with_slot Chosen r) _ _ chosen_value
        (λ w h. (left_holds w h.0.0 h.1, (right_holds w h.0.0 h.1, (record { is = variable_value w.nums (length r.slots) ∙ h.1 }, h.0.1))))))

pub reads_choice : (m : Meant) (first r : Reader) (c : Fact) (a b : Form) (bc : Bool) (za zb : ℤ) → Reads m first r (Branches c a b bc za zb) → Reads m first (choose c a b r).1 (HasNumber (choose c a b r).0 (if bc then za else zb))
reads_choice m first r c a b bc za zb parts =
    reads_as m first (choose c a b r).1 (λ w. HasNumber (choose c a b r).0 (if bc then za else zb) w × Unit {0}) _
    (reads_choice_with m first r c a b bc za zb (λ w. Unit {0}) (reads_as m first r _ _ parts (λ w p. (p, tt))))
    (λ w p. p.0)

-- from the reader that has read nothing to one whose facts hold
pub all_hold : (m : Meant) (s : Reader) (P : World → Type 0) → Reads m fresh s P → (w : World) × All (λ f. holds w.truths w.nums f ≡ true) s.facts
all_hold m s P reads =
    let start : World = record { nums = λ v. pos 0; truths = λ v. false } in
    let end = reads start (λ w same. record { names = λ v n at. absurd (cc); flags = λ v n at. absurd (cc); kept = All-nil (λ k. Means k.1 (m.later k.0) w); facts = All-nil (λ f. holds w.truths w.nums f ≡ true) }) in
    (end.later, (end.good end.later (same_self s end.later)).facts)
