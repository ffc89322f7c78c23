-- Own operations by time, and counts.
use Rattle.std.proofs.Common.{◌≡◌, ℕ, suc, ◌+◌, ◌-◌, ◌≤◌, ◌<◌, max, length, Bool, true, false, ◌⊎◌, inl, inr, ⊎_elim, List, [], ◌∷◌, ◌++◌, get_or, set, refl, sym, ◌∙◌, ap, subst, cond, arith}
use Rattle.std.specs.Prelude.{◌==◌}
use Rattle.std.proofs.lemmas.Bool.{cases_Bool, eqb-true, eq-eqb, false≢true}
use Rattle.std.proofs.lemmas.List.{get_or-set_same, get_or-set_other, length-set}
use Rattle.kat_type.specs.Lists.{Has, IsOnce}
use Rattle.kat_type.specs.declared.done.Done.{Done}
use Rattle.kat_design.specs.Tallied.{share}
use Rattle.kat_type.specs.Unions.{AreAmong, AreNested, united}
use Rattle.kat_type.proofs.Lists.{either_last, has_front, has_last, once_last}
use Rattle.kat_design.proofs.Tallying.{same_sum_done, sums_unite}
use Rattle.kat_type.proofs.Unions.{has_mine, has_united}
use Rattle.kat_delta.specs.Standing.{AreCounts, AreOwn, AreWithin, IsByTime, count_at, count_of}
use Rattle.kat_delta.proofs.Carrying.{Mine, others_none}
use Rattle.kat_delta.proofs.Sending.{sum_last}

not_less : (t : ℕ) → t < t → ⊥
not_less t l = omega arith

pub once_by_time : (ones : List Done) → IsByTime ones → IsOnce ones
once_by_time [] h = tt
once_by_time (one ∷ ones) h = (λ has. not_less one.time (h.0 one has), once_by_time ones h.1)

by_time_last : (ones : List Done) (x : Done) → IsByTime ones → ((one : Done) → Has ones one → one.time < x.time) → IsByTime (ones ++ x ∷ [])
by_time_last [] x h l = (λ later has. absurd has, tt)
by_time_last (one ∷ ones) x h l = (
  λ later has. ⊎_elim (λ k. h.0 later k) (λ (e : x ≡ later). subst (λ (y : Done). one.time < y.time) e (l one (inl refl))) (either_last ones x later has),
  by_time_last ones x h.1 (λ y k. l y (inr k)),
)

pub mine_of : (r : ℕ) (own all : List Done) → AreOwn r own all → IsOnce all → Mine r own all
mine_of r own all h once = record {
  once = once_by_time own h.by_time;
  twice = once;
  placed = λ one has. ((h.mine one).0 has).1;
  there = λ one is has. ((h.mine one).0 has).0;
  back = λ one is has. (h.mine one).1 (has, is);
}

earlier : (a b c : ℕ) → a ≤ b → b < c → a < c
earlier a b c h k = omega arith

earlier' : (a b : ℕ) → b ≤ a → a < b → a < a
earlier' a b h k = omega arith

at_most : (a b c : ℕ) → a ≤ b → b < c → a ≤ c
at_most a b c h k = omega arith

itself : (a : ℕ) → a ≤ a
itself a = omega arith

left_max : (a b c : ℕ) → a ≤ b → a ≤ max b c
left_max a b c h = omega arith

right_max : (a b c : ℕ) → a ≤ c → a ≤ max b c
right_max a b c h = omega arith

two_max : (a b c d : ℕ) → a ≡ c → b ≡ d → max a b ≡ max c d
two_max a b c d e f = cc

-- one operation more
pub own_more : (r clock : ℕ) (own all : List Done) (done : Done) → AreOwn r own all → done.replica ≡ r → AreWithin clock all → clock < done.time → AreOwn r (own ++ done ∷ []) (all ++ done ∷ [])
own_more r clock own all done h is within later = record {
  mine = λ one. (
    λ has. ⊎_elim (λ k. let m = (h.mine one).0 k in (has_front all (done ∷ []) one m.0, m.1))
        (λ (e : done ≡ one). (subst (λ (y : Done). Has (all ++ done ∷ []) y) e (has_last all done), subst (λ (y : Done). y.replica ≡ r) e is))
        (either_last own done one has),
    λ both. ⊎_elim (λ k. has_front own (done ∷ []) one ((h.mine one).1 (k, both.1)))
        (λ (e : done ≡ one). subst (λ (y : Done). Has (own ++ done ∷ []) y) e (has_last own done))
        (either_last all done one both.0),
  );
  by_time = by_time_last own done h.by_time (λ one has. earlier one.time clock done.time (within one ((h.mine one).0 has).0) later);
}

pub once_more : (clock : ℕ) (all : List Done) (done : Done) → IsOnce all → AreWithin clock all → clock < done.time → IsOnce (all ++ done ∷ [])
once_more clock all done once within later = once_last all done once (λ has. not_less clock (earlier' clock done.time (within done has) later))

pub within_more : (clock : ℕ) (all : List Done) (done : Done) → AreWithin clock all → clock < done.time → AreWithin done.time (all ++ done ∷ [])
within_more clock all done within later one has =
    ⊎_elim (λ k. at_most one.time clock done.time (within one k) later) (λ (e : done ≡ one). subst (λ (y : Done). y.time ≤ done.time) e (itself done.time)) (either_last all done one has)

-- operations that were absorbed
pub own_united : (r : ℕ) (own all ones : List Done) → AreOwn r own all → ((one : Done) → Has ones one → one.replica ≡ r → Has own one) → AreOwn r own (united all ones)
own_united r own all ones h mine = record {
  mine = λ one. (
    λ has. let m = (h.mine one).0 has in (has_mine all ones one m.0, m.1),
    λ both. ⊎_elim (λ k. (h.mine one).1 (k, both.1)) (λ k. mine one k both.1) (has_united all ones one both.0),
  );
  by_time = h.by_time;
}

pub within_united : (clock other : ℕ) (all ones : List Done) → AreWithin clock all → AreWithin other ones → AreWithin (max clock other) (united all ones)
within_united clock other all ones h k one has =
    ⊎_elim (λ i. left_max one.time clock other (h one i)) (λ i. right_max one.time clock other (k one i)) (has_united all ones one has)

-- counts
plus_one : (c n : ℕ) → c ≡ 1 → c + n ≡ suc n
plus_one c n e = omega arith

pub count_mine : (r : ℕ) (ones : List Done) → ((one : Done) → Has ones one → one.replica ≡ r) → count_of r ones ≡ length ones
count_mine r [] placed = refl
count_mine r (one ∷ ones) placed =
    plus_one (share (λ (x : Done). 1) r one) (count_of r ones) (ap (λ b. cond b 1 0) (eq-eqb one.replica r (placed one (inl refl))))
    ∙ ap suc (count_mine r ones (λ x h. placed x (inr h)))

pub own_count : (r : ℕ) (own all : List Done) → Mine r own all → count_of r all ≡ length own
own_count r own all m = same_sum_done (λ (one : Done). 1) r all own m.twice m.once m.back m.there ∙ count_mine r own m.placed

one_place : (q r : ℕ) → 1 ≤ q → 1 ≤ r → q - 1 ≡ r - 1 → q ≡ r
one_place q r h k e = omega arith

in_place : (r n : ℕ) → 1 ≤ r → r ≤ n → r - 1 < n
in_place r n h k = omega arith

-- a count that is put in
abbrev pub put_count : List ℕ → ℕ → ℕ → List ℕ
put_count counts r v = set counts (r - 1) v

count_put_from : (counts : List ℕ) (q r v : ℕ) → 1 ≤ q → 1 ≤ r → r ≤ length counts → (b : Bool) → (r == q) ≡ b → count_at (put_count counts r v) q ≡ cond b v (count_at counts q)
count_put_from counts q r v h k l true e =
    subst (λ n. count_at (put_count counts r v) n ≡ v) (eqb-true r q e) (get_or-set_same counts (r - 1) v 0 (in_place r (length counts) k l))
count_put_from counts q r v h k l false e =
    get_or-set_other counts (r - 1) (q - 1) v 0 (λ same. false≢true (sym e ∙ eq-eqb r q (sym (one_place q r h k same))))

count_put : (counts : List ℕ) (q r v : ℕ) → 1 ≤ q → 1 ≤ r → r ≤ length counts → count_at (put_count counts r v) q ≡ cond (r == q) v (count_at counts q)
count_put counts q r v h k l = count_put_from counts q r v h k l (r == q) refl

more_from : (b : Bool) (mine theirs n m : ℕ) → theirs ≡ n → (b ≡ true → mine ≡ n) → cond b (mine + 1) theirs ≡ n + cond b 1 0
more_from true mine theirs n m e f = let g : mine ≡ n = f refl in omega arith
more_from false mine theirs n m e f = omega arith

-- one operation more of this replica
pub counts_more : (counts new : List ℕ) (r : ℕ) (all : List Done) (done : Done) → AreCounts counts all → 1 ≤ r → r ≤ length counts → done.replica ≡ r → new ≡ put_count counts r (count_at counts r + 1)
    → AreCounts new (all ++ done ∷ [])
counts_more counts new r all done h low high is e q low_q high_q =
    let there : q ≤ length counts = subst (λ n. q ≤ n) (ap length e ∙ length-set counts (r - 1) (count_at counts r + 1)) high_q in
    ap (λ (ns : List ℕ). count_at ns q) e
    ∙ count_put counts q r (count_at counts r + 1) low_q low high
    ∙ more_from (r == q) (count_at counts r) (count_at counts q) (count_of q all) 0 (h q low_q there)
    (λ same. h r low high ∙ ap (λ n. count_of n all) (eqb-true r q same))
    ∙ ap (λ n. count_of q all + cond (n == q) 1 0) (sym is)
    ∙ sym (sum_last (λ (one : Done). 1) q all done)

greater_from : (b : Bool) (mine theirs to n m : ℕ) → theirs ≡ n → (b ≡ true → (mine ≡ n) × (to ≡ m)) → (b ≡ false → m ≡ 0) → cond b (max mine to) theirs ≡ max n m
greater_from true mine theirs to n m e f g = let both = f refl in two_max mine to n m both.0 both.1
greater_from false mine theirs to n m e f g = let none : m ≡ 0 = g refl in omega arith

-- the operations of one origin taken in
pub counts_greater : (counts new : List ℕ) (o to : ℕ) (all ones : List Done) → AreCounts counts all → 1 ≤ o → o ≤ length counts → ((one : Done) → Has ones one → one.replica ≡ o) → to ≡ length ones
    → IsOnce all → IsOnce ones → AreNested all ones → new ≡ put_count counts o (max (count_at counts o) to) → AreCounts new (united all ones)
counts_greater counts new o to all ones h low high placed counted once twice nested e q low_q high_q =
    let there : q ≤ length counts = subst (λ n. q ≤ n) (ap length e ∙ length-set counts (o - 1) (max (count_at counts o) to)) high_q in
    ap (λ (ns : List ℕ). count_at ns q) e
    ∙ count_put counts q o (max (count_at counts o) to) low_q low high
    ∙ greater_from (o == q) (count_at counts o) (count_at counts q) to (count_of q all) (count_of q ones) (h q low_q there)
    (λ same. (h o low high ∙ ap (λ n. count_of n all) (eqb-true o q same), counted ∙ sym (count_mine o ones placed) ∙ ap (λ n. count_of n ones) (eqb-true o q same)))
    (λ other. others_none (λ (one : Done). 1) o q ones placed other)
    ∙ sym (sums_unite (λ (one : Done). 1) q all ones once twice nested)

-- the greater counts of two lists
pub counts_each : (counts others new : List ℕ) (all ones : List Done) → AreCounts counts all → AreCounts others ones → length counts ≡ length others → length new ≡ length counts
    → ((i : ℕ) → i < length counts → get_or new i 0 ≡ max (get_or counts i 0) (get_or others i 0)) → IsOnce all → IsOnce ones → AreNested all ones → AreCounts new (united all ones)
counts_each counts others new all ones h k same_length new_length each once twice nested q low_q high_q =
    let there : q ≤ length counts = subst (λ n. q ≤ n) new_length high_q in
    each (q - 1) (in_place q (length counts) low_q there)
    ∙ two_max (count_at counts q) (count_at others q) (count_of q all) (count_of q ones) (h q low_q there) (k q low_q (subst (λ n. q ≤ n) same_length there))
    ∙ sym (sums_unite (λ (one : Done). 1) q all ones once twice nested)

nested_from : (o q : ℕ) (all ones : List Done) → ((one : Done) → Has ones one → one.replica ≡ o) → AreAmong o all ones ⊎ AreAmong o ones all → (b : Bool) → (o == q) ≡ b → AreAmong q all ones ⊎ AreAmong q ones all
nested_from o q all ones placed h true e = subst (λ n. AreAmong n all ones ⊎ AreAmong n ones all) (eqb-true o q e) h
nested_from o q all ones placed h false e = inr (λ one is has. absurd (false≢true (sym e ∙ eq-eqb o q (sym (placed one has) ∙ is))))

-- operations of one origin, of which the others are a part or all and more
pub nested_at : (o : ℕ) (all ones : List Done) → ((one : Done) → Has ones one → one.replica ≡ o) → AreAmong o all ones ⊎ AreAmong o ones all → AreNested all ones
nested_at o all ones placed h q = nested_from o q all ones placed h (o == q) refl

-- counts that are raised one by one
smaller : (k i : ℕ) → (k ≡ i → ⊥) → k < i + 1 → k < i
smaller k i n l = omega arith

behind_now : (i k : ℕ) → i + 1 ≤ k → k ≡ i → i < i
behind_now i k l e = omega arith

before_next : (i k : ℕ) → i + 1 ≤ k → i ≤ k
before_next i k l = omega arith

next_or_before : (k i : ℕ) → k < i + 1 → (k ≡ i) ⊎ (k < i)
next_or_before k i l = ⊎_elim (λ e. inl (eqb-true k i e)) (λ e. inr (smaller k i (λ same. false≢true (sym e ∙ eq-eqb k i same)) l)) (cases_Bool (k == i))

pub raised_more : (old now others : List ℕ) (i v k : ℕ) → i < length now → ((j : ℕ) → j < i → get_or now j 0 ≡ max (get_or old j 0) (get_or others j 0)) → get_or now i 0 ≡ get_or old i 0
    → v ≡ max (get_or now i 0) (get_or others i 0) → k < i + 1 → get_or (set now i v) k 0 ≡ max (get_or old k 0) (get_or others k 0)
raised_more old now others i v k high before here is l =
    ⊎_elim
    (λ (e : k ≡ i). subst (λ j. get_or (set now i v) j 0 ≡ max (get_or old j 0) (get_or others j 0)) (sym e)
    (get_or-set_same now i v 0 high ∙ is ∙ ap (λ n. max n (get_or others i 0)) here))
    (λ (m : k < i). get_or-set_other now i k v 0 (λ same. not_less i (subst (λ j. j < i) same m)) ∙ before k m)
    (next_or_before k i l)

pub raised_kept : (old now : List ℕ) (i v k : ℕ) → ((j : ℕ) → i ≤ j → get_or now j 0 ≡ get_or old j 0) → i + 1 ≤ k → get_or (set now i v) k 0 ≡ get_or old k 0
raised_kept old now i v k kept l = get_or-set_other now i k v 0 (λ same. not_less i (behind_now i k l same)) ∙ kept k (before_next i k l)

none_below : (k : ℕ) → k < 0 → ⊥
none_below k l = omega arith

inside : (i n m o : ℕ) → i < o → n ≡ m → m ≡ o → i < n
inside i n m o l e f = omega arith

reached : (k n o i : ℕ) → k < n → n ≡ o → o ≤ i → k < i
reached k n o i l e h = omega arith

pub record Raises (old others now : List ℕ) (i : ℕ) : Type 0 where
  pub size : length now ≡ length old
  pub before : (k : ℕ) → k < i → get_or now k 0 ≡ max (get_or old k 0) (get_or others k 0)
  pub kept : (k : ℕ) → i ≤ k → get_or now k 0 ≡ get_or old k 0

pub raises_first : (old others : List ℕ) → Raises old others old 0
raises_first old others = record { size = refl; before = λ k l. absurd (none_below k l); kept = λ k l. refl }

pub raises_more : (old others now : List ℕ) (i v : ℕ) → Raises old others now i → i < length others → length old ≡ length others → v ≡ max (get_or now i 0) (get_or others i 0) → Raises old others (set now i v) (i + 1)
raises_more old others now i v h l e is = record {
  size = length-set now i v ∙ h.size;
  before = λ k m. raised_more old now others i v k (inside i (length now) (length old) (length others) l h.size e) h.before (h.kept i (itself i)) is m;
  kept = λ k m. raised_kept old now i v k h.kept m;
}

pub raises_all : (old others now : List ℕ) (i : ℕ) → Raises old others now i → length others ≤ i → length old ≡ length others → (k : ℕ) → k < length old → get_or now k 0 ≡ max (get_or old k 0) (get_or others k 0)
raises_all old others now i h l e k m = h.before k (reached k (length old) (length others) i m e l)
