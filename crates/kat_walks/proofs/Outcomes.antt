-- One thing comes of a node.
use Rattle.std.proofs.Common.{◌≡◌, ℕ, zero, suc, ℤ, neg_ℤ, List, [], ◌∷◌, ◌++◌, Bool, true, false, IsTrue, ◌⊎◌, inl, inr, refl, sym, ap, ◌∙◌, subst}
use Rattle.std.proofs.lemmas.Bool.{false≢true}
use Rattle.kat_form.specs.Encodings.{Encoding}
use Rattle.kat_walks.specs.Walks.{Comes, End, IsNode, Judgement, Outcome, Stays, Tests, of_both, opened, uses}
use Rattle.kat_walks.specs.Walks.Comes.{stops_here, none_left, is_closed, first_stops, first_alone, second_stops, second_alone, joins}
use Rattle.kat_walks.specs.Walks.End.{used_up}
use Rattle.kat_walks.specs.Walks.IsNode.{closed, not_closed}
use Rattle.kat_walks.specs.Walks.Judgement.{closes, stops, branches}
use Rattle.kat_walks.specs.Walks.Outcome.{core_of, ends_so}
use Rattle.kat_walks.specs.Walks.Stays.{all_tried, goes, stays}

-- two tests that are true together are equal
same_bool : (a b : Bool) → (IsTrue a → IsTrue b) → (IsTrue b → IsTrue a) → a ≡ b
same_bool true true f g = refl
same_bool true false f g = sym (f refl)
same_bool false true f g = g refl
same_bool false false f g = refl

test_one : (e : Encoding) (path : List ℤ) (f g : ℤ → Bool) → Tests e path f → Tests e path g → f ≡ g
test_one e path f g a b = λ i k. same_bool (f k) (g k) (λ h. (b k).1 ((a k).0 h)) (λ h. (a k).1 ((b k).0 h)) i

-- a node is one thing
pub node_one : {e : Encoding} {n : ℕ} {path : List ℤ} {j k : Judgement} → IsNode e n path j → IsNode e n path k → j ≡ k
node_one {e} {n} {path} (closed d same) (closed f also) = same ∙ sym also
node_one {e} {n} {path} (closed d same) (not_closed never has test also) = absurd (never d)
node_one {e} {n} {path} (not_closed never has test same) (closed d also) = absurd (never d)
node_one {e} {n} {path} (not_closed never has test same) (not_closed other had tested also) = same ∙ ap (opened e n) (test_one e path has had test tested) ∙ sym also

stays_one : {clauses : List (List ℤ)} {rest stay c d : List ℤ} → Stays clauses rest stay c → Stays clauses rest stay d → c ≡ d
stays_one all_tried all_tried = refl
stays_one (goes h a) (goes k b) = stays_one a b
stays_one (goes h a) (stays k b) = absurd (k h)
stays_one (stays h a) (goes k b) = absurd (h k)
stays_one (stays h a) (stays k b) = stays_one a b

closes_same : (a b : List (List ℤ)) → closes a ≡ closes b → a ≡ b
closes_same a b e = cc

branches_same : (a b : ℤ) → branches a ≡ branches b → a ≡ b
branches_same a b e = cc

stops_same : (a b : End) → stops a ≡ stops b → a ≡ b
stops_same a b e = cc

closes_branches : {l : ℤ} {own : List (List ℤ)} {A : Type 0} → closes own ≡ branches l → A
closes_branches e = absurd (cc)

closes_stops : {end : End} {own : List (List ℤ)} {A : Type 0} → closes own ≡ stops end → A
closes_stops e = absurd (cc)

stops_branches : {l : ℤ} {end : End} {A : Type 0} → stops end ≡ branches l → A
stops_branches e = absurd (cc)

-- what comes of a leaf
abbrev pub AfterLeaf : Encoding → List ℤ → List (List ℤ) → ℕ → Outcome → Type 0
AfterLeaf e path own zero o = o ≡ ends_so used_up
AfterLeaf e path own (suc left) o = (c : List ℤ) × Stays (e.clauses ++ own) path [] c × (o ≡ core_of c left)

-- what becomes of a split after its second node, and after its first
abbrev pub AfterSecond : List ℤ → ℤ → List ℤ → Outcome → Outcome → Type 0
AfterSecond path l c (ends_so end) o = o ≡ ends_so end
AfterSecond path l c (core_of d last) o =
    ((uses (neg_ℤ l) d ≡ false) × (o ≡ core_of d last))
    ⊎ ((uses (neg_ℤ l) d ≡ true) × (o ≡ core_of (of_both path c d) last))

abbrev pub AfterFirst : Encoding → ℕ → List ℤ → ℤ → Outcome → Outcome → Type 0
AfterFirst e n path l (ends_so end) o = o ≡ ends_so end
AfterFirst e n path l (core_of c behind) o =
    ((uses l c ≡ false) × (o ≡ core_of c behind))
    ⊎ ((uses l c ≡ true) × ((second : Outcome) × Comes e n (neg_ℤ l ∷ path) behind second × AfterSecond path l c second o))

abbrev pub Splits : Encoding → ℕ → List ℤ → ℤ → ℕ → Outcome → Type 0
Splits e n path l left o = (first : Outcome) × Comes e n (l ∷ path) left first × AfterFirst e n path l first o

at_end : {e : Encoding} {n : ℕ} {path : List ℤ} {left : ℕ} {o : Outcome} {end : End} → IsNode e n path (stops end) → Comes e n path left o → o ≡ ends_so end
at_end j (stops_here k) = ap ends_so (stops_same _ _ (node_one k j))
at_end j (none_left k) = closes_stops (node_one k j)
at_end j (is_closed k w) = closes_stops (node_one k j)
at_end j (first_stops k w) = stops_branches (node_one j k)
at_end j (first_alone k w h) = stops_branches (node_one j k)
at_end j (second_stops k w h v) = stops_branches (node_one j k)
at_end j (second_alone k w h v g) = stops_branches (node_one j k)
at_end j (joins k w h v g) = stops_branches (node_one j k)

at_leaf : {e : Encoding} {n : ℕ} {path : List ℤ} {left : ℕ} {o : Outcome} {own : List (List ℤ)} → IsNode e n path (closes own) → Comes e n path left o → AfterLeaf e path own left o
at_leaf j (stops_here k) = closes_stops (node_one j k)
at_leaf j (none_left k) = refl
at_leaf {e} {n} {path} {left} {o} {own} j (is_closed {left = more} {own = other} {c = c} k w) =
    let P : List (List ℤ) → Type 0 = λ x. AfterLeaf e path x (suc more) (core_of c more) in
    subst P (closes_same other own (node_one k j)) (c, w, refl)
at_leaf j (first_stops k w) = closes_branches (node_one j k)
at_leaf j (first_alone k w h) = closes_branches (node_one j k)
at_leaf j (second_stops k w h v) = closes_branches (node_one j k)
at_leaf j (second_alone k w h v g) = closes_branches (node_one j k)
at_leaf j (joins k w h v g) = closes_branches (node_one j k)

splits_along : (e : Encoding) (n : ℕ) (path : List ℤ) (k l : ℤ) (left : ℕ) (o : Outcome) → k ≡ l → Splits e n path k left o → Splits e n path l left o
splits_along e n path k l left o same h = let P : ℤ → Type 0 = λ x. Splits e n path x left o in subst P same h

at_split : {e : Encoding} {n : ℕ} {path : List ℤ} {left : ℕ} {o : Outcome} {l : ℤ} → IsNode e n path (branches l) → Comes e n path left o → Splits e n path l left o
at_split j (stops_here k) = stops_branches (node_one k j)
at_split j (none_left k) = closes_branches (node_one k j)
at_split j (is_closed k w) = closes_branches (node_one k j)
at_split {e} {n} {path} {left} {o} {l} j (first_stops {l = m} k w) = splits_along e n path m l left o (branches_same m l (node_one k j)) (_, w, refl)
at_split {e} {n} {path} {left} {o} {l} j (first_alone {l = m} k w h) = splits_along e n path m l left o (branches_same m l (node_one k j)) (_, w, inl (h, refl))
at_split {e} {n} {path} {left} {o} {l} j (second_stops {l = m} k w h v) = splits_along e n path m l left o (branches_same m l (node_one k j)) (_, w, inr (h, (_, v, refl)))
at_split {e} {n} {path} {left} {o} {l} j (second_alone {l = m} k w h v g) = splits_along e n path m l left o (branches_same m l (node_one k j)) (_, w, inr (h, (_, v, inl (g, refl))))
at_split {e} {n} {path} {left} {o} {l} j (joins {l = m} k w h v g) = splits_along e n path m l left o (branches_same m l (node_one k j)) (_, w, inr (h, (_, v, inr (g, refl))))

-- the literal is in the core or not
alone : {b : Bool} {A B : Type 0} → b ≡ false → (b ≡ false) × A ⊎ (b ≡ true) × B → A
alone h (inl x) = x.1
alone h (inr y) = absurd (false≢true (sym h ∙ y.0))

goes_on : {b : Bool} {A B : Type 0} → b ≡ true → (b ≡ false) × A ⊎ (b ≡ true) × B → B
goes_on h (inl x) = absurd (false≢true (sym x.0 ∙ h))
goes_on h (inr y) = y.1

after_first : (e : Encoding) (n : ℕ) (path : List ℤ) (l : ℤ) (a b o : Outcome) → a ≡ b → AfterFirst e n path l b o → AfterFirst e n path l a o
after_first e n path l a b o same h = let P : Outcome → Type 0 = λ x. AfterFirst e n path l x o in subst P (sym same) h

after_second : (path : List ℤ) (l : ℤ) (c : List ℤ) (a b o : Outcome) → a ≡ b → AfterSecond path l c b o → AfterSecond path l c a o
after_second path l c a b o same h = let P : Outcome → Type 0 = λ x. AfterSecond path l c x o in subst P (sym same) h

core_same : (e : Encoding) (path : List ℤ) (own : List (List ℤ)) (left : ℕ) (c : List ℤ) (o : Outcome) → Stays (e.clauses ++ own) path [] c → AfterLeaf e path own (suc left) o → core_of c left ≡ o
core_same e path own left c o stay (d, other, is) = ap (λ x. core_of x left) (stays_one stay other) ∙ sym is

pub one_outcome : {e : Encoding} {n : ℕ} {path : List ℤ} {left : ℕ} {a b : Outcome} → Comes e n path left a → Comes e n path left b → a ≡ b
one_outcome (stops_here j) w = sym (at_end j w)
one_outcome (none_left j) w = sym (at_leaf j w)
one_outcome {e} {n} {path} {left} {a} {b} (is_closed {left = more} {own = own} {c = c} j stay) w = core_same e path own more c b stay (at_leaf j w)
one_outcome {e} {n} {path} {left} {a} {b} (first_stops {l = l} {end = end} j u) w =
    let v = at_split j w in
    sym (after_first e n path l (ends_so end) v.0 b (one_outcome u v.1) v.2)
one_outcome {e} {n} {path} {left} {a} {b} (first_alone {behind = behind} {l = l} {c = c} j u h) w =
    let v = at_split j w in
    sym (alone h (after_first e n path l (core_of c behind) v.0 b (one_outcome u v.1) v.2))
one_outcome {e} {n} {path} {left} {a} {b} (second_stops {behind = behind} {l = l} {c = c} {end = end} j u h x) w =
    let v = at_split j w in
    let y = goes_on h (after_first e n path l (core_of c behind) v.0 b (one_outcome u v.1) v.2) in
    sym (after_second path l c (ends_so end) y.0 b (one_outcome x y.1) y.2)
one_outcome {e} {n} {path} {left} {a} {b} (second_alone {behind = behind} {last = last} {l = l} {c = c} {d = d} j u h x g) w =
    let v = at_split j w in
    let y = goes_on h (after_first e n path l (core_of c behind) v.0 b (one_outcome u v.1) v.2) in
    sym (alone g (after_second path l c (core_of d last) y.0 b (one_outcome x y.1) y.2))
one_outcome {e} {n} {path} {left} {a} {b} (joins {behind = behind} {last = last} {l = l} {c = c} {d = d} j u h x g) w =
    let v = at_split j w in
    let y = goes_on h (after_first e n path l (core_of c behind) v.0 b (one_outcome u v.1) v.2) in
    sym (goes_on g (after_second path l c (core_of d last) y.0 b (one_outcome x y.1) y.2))
