-- The facts that are known of a legal situation are read as true.
use Rattle.std.proofs.Common.{◌≡◌, ◌≢◌, ℕ, ℤ, pos, ◌≤ℤ◌, int_le, Bool, true, false, not, ◌||◌, List, [], ◌∷◌, Option, Some, refl, sym, ap, subst, ◌∙◌, arith, All}
use Rattle.std.proofs.lemmas.Int.{ints}
use Rattle.std.proofs.lemmas.List.Elements.{All-head, All-tail}
use Rattle.kat_num.specs.Values.{HasSort}
use Rattle.kat_num.specs.declared.values.Sort.{Sort}
use Rattle.kat_num.specs.declared.values.Sort.TheVariants as sort
use Rattle.kat_num.specs.declared.values.Value.{Value}
use Rattle.kat_num.specs.declared.values.Value.TheVariants as value
use Rattle.kat_form.specs.Facts.{Fact, listed}
use Rattle.kat_form.specs.Facts.Fact.{all_of, any_of}
use Rattle.kat_form.specs.Meanings.{all_true, any_true}
use Rattle.kat_symbols.specs.Connectives.{denied}
use Rattle.kat_claims.specs.Groups.{stated, same_each, at_least, naturals_stated, equal_read, in_front, same_at_both, same_keys_read, with_each, each_two, denied_claim}
use Rattle.kat_symbols.specs.Readers.{Reader, read_name}
use Rattle.kat_symbols.specs.Sides.{Side}
use Rattle.kat_symbols.specs.Symbols.{symbol_same}
use Rattle.kat_symbols.specs.declared.names.Instance.{Instance}
use Rattle.kat_symbols.specs.declared.names.Name.{Name}
use Rattle.kat_symbols.specs.declared.names.Name.TheVariants.{Key}
use Rattle.kat_symbols.specs.declared.names.Place.{Place}
use Rattle.kat_invariant.proofs.Comparing.{equal_has, value_same}
use Rattle.kat_invariant.proofs.Having.{ReadsTruth, ReadsValue, le_has, not_has, numbers_then, numeral_has, or_has, same_has, truth_as}
use Rattle.kat_invariant.proofs.Logic.{World, Meant, measure, HasTruth, Means, Reads, stays, reads_as, reads_name, reads_state, reads_two}
use Rattle.kat_invariant.proofs.Saying.{int_same}

abbrev pub Nothing : World → Type 0
Nothing w = Unit {0}

-- facts are put that hold
abbrev pub Passes : Meant → (Reader → Reader) → Type 0
Passes m g = (r : Reader) → Reads m r (g r) Nothing

pub passes_then : (m : Meant) (g h : Reader → Reader) → Passes m g → Passes m h → Passes m (λ r. h (g r))
passes_then m g h p q r = reads_two m r (g r) (h (g r)) Nothing Nothing Nothing (p r) (q (g r)) (λ w a b. tt)

pub true_stated : (m : Meant) (p : Reader → Fact × Reader) → ReadsTruth m p true → Passes m (λ r. stated (p r))
true_stated m p h r = reads_state m r (p r).1 (p r).0 Nothing (reads_as m r (p r).1 (HasTruth (p r).0 true) _ (h r) (λ w q. (q, tt)))

pub false_denied : (m : Meant) (p : Reader → Fact × Reader) → ReadsTruth m p false → Passes m (λ r. denied_claim (p r))
false_denied m p h r = reads_state m r (p r).1 (denied (p r).0) Nothing (reads_as m r (p r).1 (HasTruth (p r).0 false) _ (h r) (λ w q. (not_has w _ _ q, tt)))

-- lists of facts with their truth values
abbrev pub HaveTruths : List Fact → List Bool → World → Type 0
HaveTruths [] [] w = Unit {0}
HaveTruths (f ∷ fs) (b ∷ bs) w = HasTruth f b w × HaveTruths fs bs w
HaveTruths [] (b ∷ bs) w = ⊥
HaveTruths (f ∷ fs) [] w = ⊥

pub all_has : (w : World) (fs : List Fact) (bs : List Bool) → HaveTruths fs bs w → HasTruth (all_of (listed fs)) (all_true bs) w
all_has w [] [] h = record { is = refl }
all_has w (f ∷ fs) (b ∷ bs) h = record { is = rw (h.0.is, (all_has w fs bs h.1).is) refl }
all_has w [] (b ∷ bs) h = absurd h
all_has w (f ∷ fs) [] h = absurd h

pub any_has : (w : World) (fs : List Fact) (bs : List Bool) → HaveTruths fs bs w → HasTruth (any_of (listed fs)) (any_true bs) w
any_has w [] [] h = record { is = refl }
any_has w (f ∷ fs) (b ∷ bs) h = record { is = rw (h.0.is, (any_has w fs bs h.1).is) refl }
any_has w [] (b ∷ bs) h = absurd h
any_has w (f ∷ fs) [] h = absurd h

pub same_itself : (z : ℤ) → int_same z z ≡ true
same_itself z = grind (arith, ints)

pub value_itself : (v : Value) → value_same v v ≡ true
value_itself (value.Bool true) = refl
value_itself (value.Bool false) = refl
value_itself (value.Num z) = same_itself z
value_itself (value.Name n) = same_itself (pos n)

-- two sides at places
abbrev pub compared_each : (Place × Option Instance → Value) → (Place × Option Instance → Value) → List (Place × Option Instance) → List Bool
compared_each u v [] = []
compared_each u v (p ∷ ps) = value_same (u p) (v p) ∷ compared_each u v ps

abbrev pub ReadsAll : Meant → Side → (Place × Option Instance → Value) → List (Place × Option Instance) → Type 0
ReadsAll m side u ps = All (λ (p : Place × Option Instance). ReadsValue m (side.value p.0 p.1) (u p)) ps

pub same_each_reads : (m : Meant) (left right : Side) (u v : Place × Option Instance → Value) (ps : List (Place × Option Instance)) → ReadsAll m left u ps → ReadsAll m right v ps
    → (r : Reader) → Reads m r (same_each left right ps r).1 (HaveTruths (same_each left right ps r).0 (compared_each u v ps))
same_each_reads m left right u v [] h k r = stays m r _ (λ w f. tt)
same_each_reads m left right u v (p ∷ ps) h k r =
    let x = left.value p.0 p.1 r in let y = right.value p.0 p.1 x.1 in let rest = same_each left right ps y.1 in
    reads_two m r y.1 rest.1 (HasTruth (symbol_same x.0 y.0) (value_same (u p) (v p))) (HaveTruths rest.0 (compared_each u v ps)) _
    (reads_two m r x.1 y.1 (Means x.0 (u p)) (Means y.0 (v p)) _ (All-head (λ (q : Place × Option Instance). ReadsValue m (left.value q.0 q.1) (u q)) p ps h r) (All-head (λ (q : Place × Option Instance). ReadsValue m (right.value q.0 q.1) (v q)) p ps k x.1)
    (λ w a b. equal_has w x.0 y.0 (u p) (v p) a b))
    (same_each_reads m left right u v ps (All-tail (λ (q : Place × Option Instance). ReadsValue m (left.value q.0 q.1) (u q)) p ps h) (All-tail (λ (q : Place × Option Instance). ReadsValue m (right.value q.0 q.1) (v q)) p ps k) y.1)
    (λ w a b. (a, b))

pub equal_each : (u v : Place × Option Instance → Value) (ps : List (Place × Option Instance)) → All (λ (p : Place × Option Instance). u p ≡ v p) ps → all_true (compared_each u v ps) ≡ true
equal_each u v [] h = refl
equal_each u v (p ∷ ps) h =
    let here : value_same (u p) (v p) ≡ true = ap (λ x. value_same (u p) x) (sym (All-head (λ (q : Place × Option Instance). u q ≡ v q) p ps h)) ∙ value_itself (u p) in
    let rest = equal_each u v ps (All-tail (λ (q : Place × Option Instance). u q ≡ v q) p ps h) in
    rw (here, rest) refl

-- at least a number
int_least : (n : ℕ) (z : ℤ) → pos n ≤ℤ z → int_le (pos n) z ≡ true
int_least n z h = grind (arith, ints)

pub at_least_reads : (m : Meant) (n : ℕ) (name : Name) → ReadsTruth m (at_least n name) (int_le (pos n) (measure (m.now name)))
at_least_reads m n name r = reads_as m r (read_name name r).1 _ _ (reads_name m name r) (λ w q. le_has w _ _ _ _ (numeral_has w (pos n)) q)

pub least_reads : (m : Meant) (n : ℕ) (name : Name) → pos n ≤ℤ measure (m.now name) → ReadsTruth m (at_least n name) true
least_reads m n name h r = subst (λ b. Reads m r (at_least n name r).1 (HasTruth (at_least n name r).0 b)) (int_least n (measure (m.now name)) h) (at_least_reads m n name r)

pub naturals_pass : (m : Meant) (names : List Name) → All (λ n. pos 0 ≤ℤ measure (m.now n)) names → Passes m (naturals_stated names)
naturals_pass m [] h r = stays m r Nothing (λ w f. tt)
naturals_pass m (n ∷ ns) h r =
    reads_two m r (stated (at_least 0 n r)) (naturals_stated ns (stated (at_least 0 n r))) Nothing Nothing Nothing
    (true_stated m (at_least 0 n) (least_reads m 0 n (All-head (λ k. pos 0 ≤ℤ measure (m.now k)) n ns h)) r)
    (naturals_pass m ns (All-tail (λ k. pos 0 ≤ℤ measure (m.now k)) n ns h) (stated (at_least 0 n r))) (λ w a b. tt)

pub equal_reads : (m : Meant) (n k : Name) → ReadsTruth m (equal_read n k) (int_same (measure (m.now n)) (measure (m.now k)))
equal_reads m n k r = numbers_then m (read_name n) (read_name k) _ _ r _ (reads_name m n) (reads_name m k) (λ w p q. same_has w _ _ _ _ p q)

-- a fact in front of others
pub front_reads : (m : Meant) (p : Reader → Fact × Reader) (rest : Reader → List Fact × Reader) (b : Bool) (bs : List Bool) → ReadsTruth m p b → ((r : Reader) → Reads m r (rest r).1 (HaveTruths (rest r).0 bs))
    → (r : Reader) → Reads m r (in_front (p r) rest).1 (HaveTruths (in_front (p r) rest).0 (b ∷ bs))
front_reads m p rest b bs h k r = reads_two m r (p r).1 (rest (p r).1).1 (HasTruth (p r).0 b) (HaveTruths (rest (p r).1).0 bs) _ (h r) (k (p r).1) (λ w a c. (a, c))

-- the same keys
abbrev pub compared_both : (Place → Option Instance → Value) → Instance → Instance → List Place → List Bool
compared_both u i j [] = []
compared_both u i j (p ∷ ps) = value_same (u p (Some i)) (u p (Some j)) ∷ compared_both u i j ps

pub both_reads : (m : Meant) (side : Side) (u : Place → Option Instance → Value) (i j : Instance) (ps : List Place)
    → All (λ p. ReadsValue m (side.value p (Some i)) (u p (Some i)) × ReadsValue m (side.value p (Some j)) (u p (Some j))) ps
    → (r : Reader) → Reads m r (same_at_both side i j ps r).1 (HaveTruths (same_at_both side i j ps r).0 (compared_both u i j ps))
both_reads m side u i j [] h r = stays m r _ (λ w f. tt)
both_reads m side u i j (p ∷ ps) h r =
    let x = side.value p (Some i) r in let y = side.value p (Some j) x.1 in let rest = same_at_both side i j ps y.1 in
    let here = All-head (λ q. ReadsValue m (side.value q (Some i)) (u q (Some i)) × ReadsValue m (side.value q (Some j)) (u q (Some j))) p ps h in
    reads_two m r y.1 rest.1 (HasTruth (symbol_same x.0 y.0) (value_same (u p (Some i)) (u p (Some j)))) (HaveTruths rest.0 (compared_both u i j ps)) _
    (reads_two m r x.1 y.1 (Means x.0 (u p (Some i))) (Means y.0 (u p (Some j))) _ (here.0 r) (here.1 x.1) (λ w a b. equal_has w x.0 y.0 _ _ a b))
    (both_reads m side u i j ps (All-tail (λ q. ReadsValue m (side.value q (Some i)) (u q (Some i)) × ReadsValue m (side.value q (Some j)) (u q (Some j))) p ps h) y.1)
    (λ w a b. (a, b))

both_itself : (u : Place → Option Instance → Value) (i j : Instance) (ps : List Place) → ((p : Place) → u p (Some i) ≡ u p (Some j)) → all_true (compared_both u i j ps) ≡ true
both_itself u i j [] h = refl
both_itself u i j (p ∷ ps) h =
    let here : value_same (u p (Some i)) (u p (Some j)) ≡ true = ap (λ x. value_same (u p (Some i)) x) (sym (h p)) ∙ value_itself (u p (Some i)) in
    let rest = both_itself u i j ps h in
    rw (here, rest) refl

-- keys of one sort that stand for one number are one key
int_one : (x y : ℤ) → int_same x y ≡ true → x ≡ y
int_one x y h = grind (arith, ints)

nat_one : (x y : ℕ) → int_same (pos x) (pos y) ≡ true → x ≡ y
nat_one x y h = grind (arith, ints)

pub one_key : (s : Sort) (u v : Value) → s ≢ sort.Bool → HasSort s u → HasSort s v → int_same (measure u) (measure v) ≡ true → u ≡ v
one_key sort.Bool u v n h k e = absurd (n refl)
one_key sort.Int (value.Num x) (value.Num y) n h k e = ap value.Num (int_one x y e)
one_key sort.Nat (value.Num x) (value.Num y) n h k e = ap value.Num (int_one x y e)
one_key sort.Name (value.Name x) (value.Name y) n h k e = ap value.Name (nat_one x y e)
one_key sort.Int (value.Bool b) v n h k e = absurd h
one_key sort.Int (value.Name b) v n h k e = absurd h
one_key sort.Int (value.Num x) (value.Bool y) n h k e = absurd k
one_key sort.Int (value.Num x) (value.Name y) n h k e = absurd k
one_key sort.Nat (value.Bool b) v n h k e = absurd h
one_key sort.Nat (value.Name b) v n h k e = absurd h
one_key sort.Nat (value.Num x) (value.Bool y) n h k e = absurd k
one_key sort.Nat (value.Num x) (value.Name y) n h k e = absurd k
one_key sort.Name (value.Bool b) v n h k e = absurd h
one_key sort.Name (value.Num b) v n h k e = absurd h
one_key sort.Name (value.Name x) (value.Bool y) n h k e = absurd k
one_key sort.Name (value.Name x) (value.Num y) n h k e = absurd k

differ_or : (b c : Bool) → (b ≡ true → c ≡ true) → (not b || c) ≡ true
differ_or true c h = h refl
differ_or false c h = refl

-- `u` is a function of the key
pub same_keys_pass : (m : Meant) (side : Side) (u : Place → Option Instance → Value) (i j : Instance) (ps : List Place)
    → All (λ p. ReadsValue m (side.value p (Some i)) (u p (Some i)) × ReadsValue m (side.value p (Some j)) (u p (Some j))) ps
    → (int_same (measure (m.now (Key i))) (measure (m.now (Key j))) ≡ true → (p : Place) → u p (Some i) ≡ u p (Some j))
    → ReadsTruth m (same_keys_read side ps i j) true
same_keys_pass m side u i j ps h same r =
    let keys = equal_read (Key i) (Key j) r in let parts = same_at_both side i j ps keys.1 in
    reads_two m r keys.1 parts.1 (HasTruth keys.0 (int_same (measure (m.now (Key i))) (measure (m.now (Key j))))) (HaveTruths parts.0 (compared_both u i j ps)) _
    (equal_reads m (Key i) (Key j) r) (both_reads m side u i j ps h keys.1)
    (λ w p q. truth_as w _ _ _ (differ_or (int_same (measure (m.now (Key i))) (measure (m.now (Key j)))) (all_true (compared_both u i j ps)) (λ e. both_itself u i j ps (same e)))
    (or_has w _ _ _ _ (not_has w _ _ p) (all_has w parts.0 (compared_both u i j ps) q)))

module _ (m : Meant) (side : Side) (u : Place → Option Instance → Value) (places : List Place) (s : Sort) (ordered : s ≢ sort.Bool) (keys : Instance → Value) (named : (i : Instance) → m.now (Key i) ≡ keys i)
    (of_key : (i j : Instance) (p : Place) → keys i ≡ keys j → u p (Some i) ≡ u p (Some j))
    (reads : (i : Instance) → HasSort s (keys i) → All (λ p. ReadsValue m (side.value p (Some i)) (u p (Some i))) places) where
  both_there : (i j : Instance) → HasSort s (keys i) → HasSort s (keys j) → All (λ p. ReadsValue m (side.value p (Some i)) (u p (Some i)) × ReadsValue m (side.value p (Some j)) (u p (Some j))) places
  both_there i j h k = λ n d lt. (reads i h n d lt, reads j k n d lt)

  pair_passes : (i j : Instance) → HasSort s (keys i) → HasSort s (keys j) → ReadsTruth m (same_keys_read side places i j) true
  pair_passes i j h k = same_keys_pass m side u i j places (both_there i j h k)
      (λ e p. of_key i j p (one_key s (keys i) (keys j) ordered h k (ap (λ v. int_same (measure v) (measure (keys j))) (sym (named i)) ∙ ap (λ v. int_same (measure (m.now (Key i))) (measure v)) (sym (named j)) ∙ e)))

  with_each_passes : (i : Instance) (is : List Instance) → HasSort s (keys i) → All (λ j. HasSort s (keys j)) is → Passes m (with_each side places i is)
  with_each_passes i [] h k r = stays m r Nothing (λ w f. tt)
  with_each_passes i (j ∷ js) h k r =
      reads_two m r (stated (same_keys_read side places i j r)) (with_each side places i js (stated (same_keys_read side places i j r))) Nothing Nothing Nothing
      (true_stated m (same_keys_read side places i j) (pair_passes i j h (All-head (λ l. HasSort s (keys l)) j js k)) r)
      (with_each_passes i js h (All-tail (λ l. HasSort s (keys l)) j js k) (stated (same_keys_read side places i j r))) (λ w a b. tt)

  pub each_two_passes : (is : List Instance) → All (λ j. HasSort s (keys j)) is → Passes m (each_two side places is)
  each_two_passes [] k r = stays m r Nothing (λ w f. tt)
  each_two_passes (i ∷ is) k r =
      reads_two m r (with_each side places i is r) (each_two side places is (with_each side places i is r)) Nothing Nothing Nothing
      (with_each_passes i is (All-head (λ l. HasSort s (keys l)) i is k) (All-tail (λ l. HasSort s (keys l)) i is k) r)
      (each_two_passes is (All-tail (λ l. HasSort s (keys l)) i is k) (with_each side places i is r)) (λ w a b. tt)
