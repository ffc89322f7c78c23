-- Whether a line follows from clauses is decided: what is derived is had by looking for one more literal as long as there is one.
use Rattle.std.proofs.Common.{◌≡◌, ℕ, zero, suc, ◌<◌, ◌≤◌, ◌⊎◌, inl, inr, ⊎_elim, ℤ, neg_ℤ, List, [], ◌∷◌, ◌++◌, map, refl, sym, ap, subst, ◌∙◌, Contains, arith}
use Rattle.kat_clause.specs.Clauses.{Derived, Follows}
use Rattle.kat_clause.specs.Clauses.Derived.{denied, forced}
use Rattle.kat_check.proofs.Deciding.{Decided, both_decided, decided_as, either_decided, same_integers}

-- members, one after the other
abbrev In : {A : Type 0} → A → List A → Type 0
In x [] = ⊥
In x (y ∷ ys) = (y ≡ x) ⊎ In x ys

in_from : {A : Type 0} (xs : List A) (x : A) → Contains xs x → In x xs
in_from [] x has = absurd (omega (arith, has.1))
in_from (y ∷ ys) x (zero, h, is) = inl is
in_from (y ∷ ys) x (suc j, h, is) = inr (in_from ys x (j, omega arith, is))

in_to : {A : Type 0} (xs : List A) (x : A) → In x xs → Contains xs x
in_to [] x h = absurd h
in_to (y ∷ ys) x (inl is) = (0, omega arith, is)
in_to (y ∷ ys) x (inr h) = let has = in_to ys x h in (suc has.0, omega (arith, has.1), has.2)

in_decided : (k : ℤ) (ks : List ℤ) → Decided (In k ks)
in_decided k [] = inr (λ h. h)
in_decided k (l ∷ ls) = either_decided (same_integers l k) (in_decided k ls)

in_front : {A : Type 0} (x : A) (xs ys : List A) → In x xs → In x (xs ++ ys)
in_front x [] ys h = absurd h
in_front x (y ∷ xs) ys (inl is) = inl is
in_front x (y ∷ xs) ys (inr h) = inr (in_front x xs ys h)

in_behind : {A : Type 0} (x : A) (xs ys : List A) → In x ys → In x (xs ++ ys)
in_behind x [] ys h = h
in_behind x (y ∷ xs) ys h = inr (in_behind x xs ys h)

-- the opposites of all other literals of a clause are known
abbrev Others : List ℤ → ℤ → List ℤ → Type 0
Others [] m known = Unit {0}
Others (k ∷ ks) m known = ((k ≡ m) ⊎ In (neg_ℤ k) known) × Others ks m known

others_decided : (ks : List ℤ) (m : ℤ) (known : List ℤ) → Decided (Others ks m known)
others_decided [] m known = inl tt
others_decided (k ∷ ks) m known = both_decided (either_decided (same_integers k m) (in_decided (neg_ℤ k) known)) (others_decided ks m known)

others_give : (ks : List ℤ) (m : ℤ) (known : List ℤ) → Others ks m known → (k : ℤ) → In k ks → (k ≡ m → ⊥) → In (neg_ℤ k) known
others_give [] m known o k h differ = absurd h
others_give (l ∷ ks) m known o k (inl is) differ =
    ⊎_elim {C = In (neg_ℤ k) known} (λ same. absurd (differ (sym is ∙ same))) (λ h. subst (λ x. In (neg_ℤ x) known) is h) o.0
others_give (l ∷ ks) m known o k (inr h) differ = others_give ks m known o.1 k h differ

others_take : (ks : List ℤ) (m : ℤ) (known : List ℤ) → ((k : ℤ) → In k ks → (k ≡ m → ⊥) → In (neg_ℤ k) known) → Others ks m known
others_take [] m known f = tt
others_take (k ∷ ks) m known f = (one (same_integers k m), others_take ks m known (λ l h. f l (inr h))) where
  one : Decided (k ≡ m) → (k ≡ m) ⊎ In (neg_ℤ k) known
  one (inl same) = inl same
  one (inr differ) = inr (f k (inl refl) differ)

-- a clause that gives one more literal
abbrev Gives : List ℤ → List ℤ → Type 0
Gives clause known = (m : ℤ) × In m clause × (In m known → ⊥) × Others clause m known

-- no clause does
abbrev IsClosedFor : List ℤ → List ℤ → List ℤ → Type 0
IsClosedFor whole ks known = (m : ℤ) → In m ks → Others whole m known → In m known

abbrev GivesAmong : List ℤ → List ℤ → List ℤ → Type 0
GivesAmong whole ks known = (m : ℤ) × In m ks × (In m known → ⊥) × Others whole m known

clause_searched : (whole ks known : List ℤ) → GivesAmong whole ks known ⊎ IsClosedFor whole ks known
clause_searched whole [] known = inr (λ m h o. absurd h)
clause_searched whole (m ∷ ks) known = first (in_decided m known) (others_decided whole m known) (clause_searched whole ks known) where
  rest_closed : IsClosedFor whole ks known → (Others whole m known → In m known) → IsClosedFor whole (m ∷ ks) known
  rest_closed closed here n (inl is) o = subst (λ x. In x known) is (here (subst (λ x. Others whole x known) (sym is) o))
  rest_closed closed here n (inr h) o = closed n h o

  first : Decided (In m known) → Decided (Others whole m known) → GivesAmong whole ks known ⊎ IsClosedFor whole ks known → GivesAmong whole (m ∷ ks) known ⊎ IsClosedFor whole (m ∷ ks) known
  first a b (inl found) = inl (found.0, inr found.1, found.2, found.3)
  first (inl known_already) b (inr closed) = inr (rest_closed closed (λ o. known_already))
  first (inr new) (inl o) (inr closed) = inl (m, inl refl, new, o)
  first (inr new) (inr never) (inr closed) = inr (rest_closed closed (λ o. absurd (never o)))

abbrev IsClosed : List (List ℤ) → List ℤ → Type 0
IsClosed clauses known = (clause : List ℤ) → In clause clauses → IsClosedFor clause clause known

clauses_searched : (clauses : List (List ℤ)) (known : List ℤ) → ((clause : List ℤ) × In clause clauses × Gives clause known) ⊎ IsClosed clauses known
clauses_searched [] known = inr (λ clause h. absurd h)
clauses_searched (c ∷ cs) known = first (clause_searched c c known) (clauses_searched cs known) where
  first : GivesAmong c c known ⊎ IsClosedFor c c known → ((clause : List ℤ) × In clause cs × Gives clause known) ⊎ IsClosed cs known
      → ((clause : List ℤ) × In clause (c ∷ cs) × Gives clause known) ⊎ IsClosed (c ∷ cs) known
  first (inl found) rest = inl (c, inl refl, found)
  first (inr here) (inl found) = inl (found.0, inr found.1, found.2)
  first (inr here) (inr closed) = inr (λ clause h. ⊎_elim {C = IsClosedFor clause clause known} (λ is. subst (λ x. IsClosedFor x x known) is here) (λ later. closed clause later) h)

-- how many literals of the clauses aren't known
abbrev literals_in : List (List ℤ) → List ℤ
literals_in [] = []
literals_in (c ∷ cs) = c ++ literals_in cs

in_literals : (cs : List (List ℤ)) (clause : List ℤ) (m : ℤ) → In clause cs → In m clause → In m (literals_in cs)
in_literals [] clause m h k = absurd h
in_literals (c ∷ cs) clause m (inl is) k = in_front m c (literals_in cs) (subst (λ x. In m x) (sym is) k)
in_literals (c ∷ cs) clause m (inr h) k = in_behind m c (literals_in cs) (in_literals cs clause m h k)

abbrev one_more : {P : Type 0} → Decided P → ℕ → ℕ
one_more (inl p) n = n
one_more (inr none) n = suc n

abbrev unknown : List ℤ → List ℤ → ℕ
unknown [] known = 0
unknown (u ∷ us) known = one_more (in_decided u known) (unknown us known)

no_more : {P Q : Type 0} (p : Decided P) (q : Decided Q) → (Q → P) → (x y : ℕ) → x ≤ y → one_more p x ≤ one_more q y
no_more (inl p) (inl q) on x y few = few
no_more (inl p) (inr none) on x y few = omega (arith, few)
no_more (inr none) (inl q) on x y few = absurd (none (on q))
no_more (inr none) (inr never) on x y few = omega (arith, few)

fewer : {P Q : Type 0} (p : Decided P) (q : Decided Q) → (Q → P) → (x y : ℕ) → x < y → one_more p x < one_more q y
fewer (inl p) (inl q) on x y few = few
fewer (inl p) (inr none) on x y few = omega (arith, few)
fewer (inr none) (inl q) on x y few = absurd (none (on q))
fewer (inr none) (inr never) on x y few = omega (arith, few)

fewer_here : {P Q : Type 0} (p : Decided P) (q : Decided Q) → P → (Q → ⊥) → (x y : ℕ) → x ≤ y → one_more p x < one_more q y
fewer_here (inl p) (inl q) there none x y few = absurd (none q)
fewer_here (inl p) (inr never) there none x y few = omega (arith, few)
fewer_here (inr never) q there none x y few = absurd (never there)

never_more : (us known : List ℤ) (m : ℤ) → unknown us (m ∷ known) ≤ unknown us known
never_more [] known m = omega arith
never_more (u ∷ us) known m = no_more (in_decided u (m ∷ known)) (in_decided u known) (λ h. inr h) (unknown us (m ∷ known)) (unknown us known) (never_more us known m)

less_unknown : (us known : List ℤ) (m : ℤ) → In m us → (In m known → ⊥) → unknown us (m ∷ known) < unknown us known
less_unknown [] known m h new = absurd h
less_unknown (u ∷ us) known m (inl is) new =
    fewer_here (in_decided u (m ∷ known)) (in_decided u known) (inl (sym is)) (λ h. new (subst (λ x. In x known) is h)) (unknown us (m ∷ known)) (unknown us known) (never_more us known m)
less_unknown (u ∷ us) known m (inr h) new =
    fewer (in_decided u (m ∷ known)) (in_decided u known) (λ k. inr k) (unknown us (m ∷ known)) (unknown us known) (less_unknown us known m h new)

-- all that is derived
record Closure (clauses : List (List ℤ)) (line : List ℤ) : Type 0 where
  known : List ℤ
  derived : (k : ℤ) → In k known → Derived clauses line k
  denies : (k : ℤ) → In k (map neg_ℤ line) → In k known
  closed : IsClosed clauses known

close_by : (clauses : List (List ℤ)) (line known : List ℤ) (fuel : ℕ) → unknown (literals_in clauses) known ≤ fuel → ((k : ℤ) → In k known → Derived clauses line k)
    → ((k : ℤ) → In k (map neg_ℤ line) → In k known)
    → ((more : List ℤ) → unknown (literals_in clauses) more < fuel → ((k : ℤ) → In k more → Derived clauses line k) → ((k : ℤ) → In k (map neg_ℤ line) → In k more) → Closure clauses line)
    → ((clause : List ℤ) × In clause clauses × Gives clause known) ⊎ IsClosed clauses known → Closure clauses line
close_by clauses line known fuel few derived denies onward (inr closed) = record { known = known; derived = derived; denies = denies; closed = closed }
close_by clauses line known fuel few derived denies onward (inl found) =
    let clause = found.0 in
    let m = found.2.0 in
    let has = found.2.1 in
    let less = less_unknown (literals_in clauses) known m (in_literals clauses clause m found.1 has) found.2.2 in
    let one : Derived clauses line m = forced m clause (in_to clauses clause found.1) (in_to clause m has) (λ k there differ. derived (neg_ℤ k) (others_give clause m known found.2.3 k (in_from clause k there) differ)) in
    onward (m ∷ known) (omega (arith, less, few)) (λ k h. ⊎_elim {C = Derived clauses line k} (λ is. subst (λ x. Derived clauses line x) is one) (λ later. derived k later) h) (λ k h. inr (denies k h))

close : (clauses : List (List ℤ)) (line : List ℤ) (fuel : ℕ) (known : List ℤ) → unknown (literals_in clauses) known ≤ fuel → ((k : ℤ) → In k known → Derived clauses line k)
    → ((k : ℤ) → In k (map neg_ℤ line) → In k known) → Closure clauses line
close clauses line zero known few derived denies =
    close_by clauses line known zero few derived denies (λ more less d e. absurd (omega (arith, less))) (clauses_searched clauses known)
close clauses line (suc fuel) known few derived denies =
    close_by clauses line known (suc fuel) few derived denies (λ more less d e. close clauses line fuel more (omega (arith, less)) d e) (clauses_searched clauses known)

opposite_denied : (clauses : List (List ℤ)) (line whole : List ℤ) → ((l : ℤ) → In l line → In l whole) → (k : ℤ) → In k (map neg_ℤ line) → Derived clauses whole k
opposite_denied clauses [] whole among k h = absurd h
opposite_denied clauses (l ∷ line) whole among k (inl is) = denied k l (in_to whole l (among l (inl refl))) (sym is)
opposite_denied clauses (l ∷ line) whole among k (inr h) = opposite_denied clauses line whole (λ x g. among x (inr g)) k h

closure : (clauses : List (List ℤ)) (line : List ℤ) → Closure clauses line
closure clauses line =
    close clauses line (unknown (literals_in clauses) (map neg_ℤ line)) (map neg_ℤ line) (omega arith) (λ k h. opposite_denied clauses line line (λ l g. g) k h) (λ k h. h)

opposite_in : (line : List ℤ) (l : ℤ) → In l line → In (neg_ℤ l) (map neg_ℤ line)
opposite_in [] l h = absurd h
opposite_in (x ∷ line) l (inl is) = inl (ap neg_ℤ is)
opposite_in (x ∷ line) l (inr h) = inr (opposite_in line l h)

all_known : (clauses : List (List ℤ)) (line : List ℤ) (c : Closure clauses line) (k : ℤ) → Derived clauses line k → In k c.known
all_known clauses line c _ (denied m l has is) = c.denies m (subst (λ x. In x (map neg_ℤ line)) (sym is) (opposite_in line l (in_from line l has)))
all_known clauses line c _ (forced m clause there has others) =
    c.closed clause (in_from clauses clause there) m (in_from clause m has)
    (others_take clause m c.known (λ k h differ. all_known clauses line c (neg_ℤ k) (others k (in_to clause k h) differ)))

-- a clause that is falsified
abbrev AreOpposed : List ℤ → List ℤ → Type 0
AreOpposed [] known = Unit {0}
AreOpposed (k ∷ ks) known = In (neg_ℤ k) known × AreOpposed ks known

opposed_decided : (ks known : List ℤ) → Decided (AreOpposed ks known)
opposed_decided [] known = inl tt
opposed_decided (k ∷ ks) known = both_decided (in_decided (neg_ℤ k) known) (opposed_decided ks known)

opposed_give : (ks known : List ℤ) → AreOpposed ks known → (k : ℤ) → In k ks → In (neg_ℤ k) known
opposed_give [] known o k h = absurd h
opposed_give (l ∷ ks) known o k (inl is) = subst (λ x. In (neg_ℤ x) known) is o.0
opposed_give (l ∷ ks) known o k (inr h) = opposed_give ks known o.1 k h

opposed_take : (ks known : List ℤ) → ((k : ℤ) → In k ks → In (neg_ℤ k) known) → AreOpposed ks known
opposed_take [] known f = tt
opposed_take (k ∷ ks) known f = (f k (inl refl), opposed_take ks known (λ l h. f l (inr h)))

some_opposed : (cs : List (List ℤ)) (known : List ℤ) → Decided ((clause : List ℤ) × In clause cs × AreOpposed clause known)
some_opposed [] known = inr (λ h. h.1)
some_opposed (c ∷ cs) known = first (opposed_decided c known) (some_opposed cs known) where
  first : Decided (AreOpposed c known) → Decided ((clause : List ℤ) × In clause cs × AreOpposed clause known) → Decided ((clause : List ℤ) × In clause (c ∷ cs) × AreOpposed clause known)
  first (inl o) rest = inl (c, inl refl, o)
  first (inr none) (inl r) = inl (r.0, inr r.1, r.2)
  first (inr none) (inr never) = inr (λ h. ⊎_elim {C = ⊥} (λ is. none (subst (λ x. AreOpposed x known) (sym is) h.2)) (λ later. never (h.0, later, h.2)) h.1)

pub follows_decided : (clauses : List (List ℤ)) (line : List ℤ) → Decided (Follows clauses line)
follows_decided clauses line =
    let c = closure clauses line in
    decided_as
    (λ h. (h.0, in_to clauses h.0 h.1, λ k has. c.derived (neg_ℤ k) (opposed_give h.0 c.known h.2 k (in_from h.0 k has))))
    (λ h. (h.0, in_from clauses h.0 h.1, opposed_take h.0 c.known (λ k g. all_known clauses line c (neg_ℤ k) (h.2 k (in_to h.0 k g)))))
    (some_opposed clauses c.known)
