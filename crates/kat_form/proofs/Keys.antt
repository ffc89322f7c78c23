-- Keys that a table finds again are senses of a list.
use Rattle.std.proofs.Common.{◌≡◌, ◌≢◌, ℕ, suc, ◌<◌, ◌≤◌, ℤ, pos, neg_ℤ, Bool, true, false, ◌&&◌, nat_eq, if◌then◌else◌, Option, Some, None, option_map, List, [], ◌∷◌, ◌++◌, length, get_or, map, Ok, Err, refl, sym, ap, ◌∙◌, arith, ⊎_elim}
use Rattle.std.specs.Ordering.{int_eq}
use Rattle.std.specs.List.{position_or_len, list_any}
use Rattle.std.specs.Cmp.Lexicographic.{pointwise}
use Rattle.std.proofs.lemmas.Bool.{cases_lt, eqb-true, false≢true}
use Rattle.std.proofs.lemmas.List.{length_push, length-map, get_or_append_left, get_or_push, map-append}
use Rattle.std.specs.Result.{IfOk}
use Rattle.std.specs.declared.result.Result.{Result}
use Rattle.std.specs.declared.alloc.AllocError.{AllocError}
use Rattle.indexmap.specs.IndexSet.{insert_key}
use Rattle.kat_form.specs.Steps.{Gives}
use Rattle.kat_linear.specs.Rows.{Term}
use Rattle.kat_form.specs.declared.draft.Key.{Key}
use Rattle.kat_form.specs.declared.draft.Key.TheVariants.{Truth, Atom, Gate}
use Rattle.kat_form.specs.contracts.draft.KeyPartialEq.TheImpl.{eq-value}
use Rattle.kat_form.specs.Encodings.{Encoding}
use Rattle.kat_form.specs.Encodings.Sense.{gate}
use Rattle.kat_form.specs.Readings.{same_terms, same_sense, place_of, added, number_at, numbered, with_clauses, gated, all_clauses}
use Rattle.kat_form.specs.Drafts.{sense_in, senses_in, AreNumbered}

abbrev pub same_key : Key → Key → Bool
same_key = eq-value.it

terms_equal : (ts us : List Term) → pointwise (λ (t u : Term). nat_eq t.0 u.0 && int_eq t.1 u.1) ts us ≡ same_terms ts us
terms_equal [] [] = refl
terms_equal [] (u ∷ us) = refl
terms_equal (t ∷ ts) [] = refl
terms_equal (t ∷ ts) (u ∷ us) = ap (λ b. (nat_eq t.0 u.0 && int_eq t.1 u.1) && b) (terms_equal ts us)

keys_equal : (a b : Key) → sense_in a ≢ gate → same_key a b ≡ same_sense (sense_in a) (sense_in b)
keys_equal (Truth v) (Truth w) plain = refl
keys_equal (Truth v) (Atom g) plain = refl
keys_equal (Truth v) (Gate n) plain = refl
keys_equal (Atom f) (Truth w) plain = refl
keys_equal (Atom f) (Atom g) plain = ap (λ b. b && int_eq f.constant g.constant) (terms_equal f.terms.items g.terms.items)
keys_equal (Atom f) (Gate n) plain = refl
keys_equal (Gate n) b plain = absurd (plain refl)

-- no key is equal
absent : (key : Key) (keys : List Key) → sense_in key ≢ gate → place_of (sense_in key) (senses_in keys) ≡ None → (position_or_len (same_key key) keys ≡ length keys) × (list_any (same_key key) keys ≡ false)
absent key [] plain e = (refl, refl)
absent key (k ∷ ks) plain e = by_test (same_key key k) (same_sense (sense_in key) (sense_in k)) (λ p. absent key ks plain p) refl (keys_equal key k plain) e
  where
    by_test : (b c : Bool) → (place_of (sense_in key) (senses_in ks) ≡ None → (position_or_len (same_key key) ks ≡ length ks) × (list_any (same_key key) ks ≡ false)) → same_key key k ≡ b → b ≡ c → (if c then Some 1 else option_map suc (place_of (sense_in key) (senses_in ks))) ≡ None → (position_or_len (same_key key) (k ∷ ks) ≡ suc (length ks)) × (list_any (same_key key) (k ∷ ks) ≡ false)
    by_test true true later is same e' = absurd (cc)
    by_test true false later is same e' = absurd (false≢true (sym same))
    by_test false true later is same e' = absurd (false≢true same)
    by_test false false later is same e' =
        let rest = later (none_rest (place_of (sense_in key) (senses_in ks)) e') in
        rw is (omega (arith, rest.0), rest.1)
      where
        none_rest : (o : Option ℕ) → option_map suc o ≡ None → o ≡ None
        none_rest None p = refl
        none_rest (Some n) p = absurd (cc)

-- some key is equal
present : (key : Key) (keys : List Key) (n : ℕ) → sense_in key ≢ gate → place_of (sense_in key) (senses_in keys) ≡ Some n → (n ≡ suc (position_or_len (same_key key) keys)) × (list_any (same_key key) keys ≡ true)
present key [] n plain e = absurd (cc)
present key (k ∷ ks) n plain e = by_test (same_key key k) (same_sense (sense_in key) (sense_in k)) (λ m p. present key ks m plain p) refl (keys_equal key k plain) e
  where
    by_test : (b c : Bool) → ((m : ℕ) → place_of (sense_in key) (senses_in ks) ≡ Some m → (m ≡ suc (position_or_len (same_key key) ks)) × (list_any (same_key key) ks ≡ true)) → same_key key k ≡ b → b ≡ c → (if c then Some 1 else option_map suc (place_of (sense_in key) (senses_in ks))) ≡ Some n → (n ≡ suc (position_or_len (same_key key) (k ∷ ks))) × (list_any (same_key key) (k ∷ ks) ≡ true)
    by_test true true later is same e' = let one : 1 ≡ n = cc in rw is (sym one, refl)
    by_test true false later is same e' = absurd (false≢true (sym same))
    by_test false true later is same e' = absurd (false≢true same)
    by_test false false later is same e' = some_rest (place_of (sense_in key) (senses_in ks)) refl e'
      where
        some_rest : (o : Option ℕ) → place_of (sense_in key) (senses_in ks) ≡ o → option_map suc o ≡ Some n → (n ≡ suc (position_or_len (same_key key) (k ∷ ks))) × (list_any (same_key key) (k ∷ ks) ≡ true)
        some_rest None p q = absurd (cc)
        some_rest (Some m) p q =
            let rest = later m p in
            let one : suc m ≡ n = cc in
            rw is (omega (arith, one, rest.0), rest.1)

-- inserting a key is finding its sense, or adding it
pub inserted : (key : Key) (keys : List Key) (clauses : List (List ℤ)) → sense_in key ≢ gate →
    numbered (sense_in key) (record { clauses = clauses; senses = senses_in keys }) ≡ (pos (suc (position_or_len (same_key key) keys)), record { clauses = clauses; senses = senses_in (insert_key same_key keys key) })
inserted key keys clauses plain = by_place (place_of (sense_in key) (senses_in keys)) refl
  where
    by_place : (o : Option ℕ) → place_of (sense_in key) (senses_in keys) ≡ o → number_at o (sense_in key) (record { clauses = clauses; senses = senses_in keys }) ≡ (pos (suc (position_or_len (same_key key) keys)), record { clauses = clauses; senses = senses_in (insert_key same_key keys key) })
    by_place None is =
        let h = absent key keys plain is in
        rw (h.0, h.1, length-map keys sense_in, map-append sense_in keys (key ∷ [])) refl
    by_place (Some n) is =
        let h = present key keys n plain is in
        rw (h.1, h.0) refl

-- a gate's key is new
gate_absent : (n : ℕ) (keys : List Key) → ((i m : ℕ) (d : Key) → i < length keys → get_or keys i d ≡ Gate m → m ≢ n) → (position_or_len (same_key (Gate n)) keys ≡ length keys) × (list_any (same_key (Gate n)) keys ≡ false)
gate_absent n [] other = (refl, refl)
gate_absent n (Truth v ∷ ks) other = let rest = gate_absent n ks (λ i m d h. other (suc i) m d (omega (arith, h))) in (omega (arith, rest.0), rest.1)
gate_absent n (Atom f ∷ ks) other = let rest = gate_absent n ks (λ i m d h. other (suc i) m d (omega (arith, h))) in (omega (arith, rest.0), rest.1)
gate_absent n (Gate m ∷ ks) other =
    let rest = gate_absent n ks (λ i k d h. other (suc i) k d (omega (arith, h))) in
    by_test (nat_eq n m) refl rest
  where
    by_test : (b : Bool) → nat_eq n m ≡ b → (position_or_len (same_key (Gate n)) ks ≡ length ks) × (list_any (same_key (Gate n)) ks ≡ false) → (position_or_len (same_key (Gate n)) (Gate m ∷ ks) ≡ suc (length ks)) × (list_any (same_key (Gate n)) (Gate m ∷ ks) ≡ false)
    by_test true is rest = absurd (other 0 m (Gate m) (omega arith) refl (sym (eqb-true n m is)))
    by_test false is rest = rw is (omega (arith, rest.0), rest.1)

pub gate_added : (keys : List Key) (clauses : List (List ℤ)) → AreNumbered keys →
    added gate (record { clauses = clauses; senses = senses_in keys }) ≡ (pos (suc (position_or_len (same_key (Gate (length keys))) keys)), record { clauses = clauses; senses = senses_in (insert_key same_key keys (Gate (length keys))) })
gate_added keys clauses numbers =
    let h = gate_absent (length keys) keys (λ i m d below is e. omega (arith, below, numbers i m d below is, e)) in
    rw (h.0, h.1, length-map keys sense_in, map-append sense_in keys (Gate (length keys) ∷ [])) refl

-- gates stay numbered
numbered_push : (keys : List Key) (key : Key) → ((n : ℕ) → key ≡ Gate n → n ≡ length keys) → AreNumbered keys → AreNumbered (keys ++ key ∷ [])
numbered_push keys key own are i n d below is = ⊎_elim
    (λ (l : i < length keys). are i n d l (sym (get_or_append_left keys (key ∷ []) d i l) ∙ is))
    (λ (l : length keys ≤ i).
    let e : i ≡ length keys = omega (arith, below, l, length_push keys key) in
    own n (sym (get_or_push keys key d i (sym e)) ∙ is) ∙ sym e)
    (cases_lt i (length keys))

pub numbered_insert : (keys : List Key) (key : Key) → ((n : ℕ) → key ≡ Gate n → n ≡ length keys) → AreNumbered keys → AreNumbered (insert_key same_key keys key)
numbered_insert keys key own are = by_test (list_any (same_key key) keys)
  where
    by_test : (b : Bool) → AreNumbered (if b then keys else keys ++ key ∷ [])
    by_test true = are
    by_test false = numbered_push keys key own are

pub plain_key : (key : Key) (n m : ℕ) → sense_in key ≢ gate → key ≡ Gate n → n ≡ m
plain_key key n m plain is = absurd (plain (ap sense_in is))

-- the answer of a variable's number
pub gives_variable : (given : ℤ × Encoding) (r : Result ℤ AllocError) (new : Encoding) (place : ℕ) → IfOk r (λ l. l ≡ pos (suc place)) → given ≡ (pos (suc place), new) → Gives given r new
gives_variable given (Ok l) new place h e = (h ∙ sym (ap (λ (p : ℤ × Encoding). p.0) e), sym (ap (λ (p : ℤ × Encoding). p.1) e))
gives_variable given (Err x) new place h e = tt

pub gives_pair : (keys now : List Key) (clauses : List (List ℤ)) (key : Key) (given : ℤ × Encoding) (place : ℕ) → given ≡ (pos (suc (position_or_len (same_key key) keys)), record { clauses = clauses; senses = senses_in (insert_key same_key keys key) })
    → place ≡ position_or_len (same_key key) keys → now ≡ insert_key same_key keys key → given ≡ (pos (suc place), record { clauses = clauses; senses = senses_in now })
gives_pair keys now clauses key given place e at same = rw (at, same) e

-- a gate of several literals
pub gate_given : (ls : List ℤ) (e mid new : Encoding) (g : ℤ) → 2 ≤ length ls → g ≡ (added gate e).0 → mid ≡ (added gate e).1 → new ≡ with_clauses (map (λ l. neg_ℤ g ∷ l ∷ []) ls) mid → (g ≡ (gated all_clauses (ls, e)).0) × (new ≡ (gated all_clauses (ls, e)).1)
gate_given [] e mid new g h first there is = absurd (omega (arith, h))
gate_given (l ∷ []) e mid new g h first there is = absurd (omega (arith, h))
gate_given (l ∷ m ∷ ls) e mid new g h first there is =
    (first, is ∙ ap (λ (x : Encoding). with_clauses (map (λ k. neg_ℤ g ∷ k ∷ []) (l ∷ m ∷ ls)) x) there ∙ ap (λ (z : ℤ). with_clauses (map (λ k. neg_ℤ z ∷ k ∷ []) (l ∷ m ∷ ls)) (added gate e).1) first)
