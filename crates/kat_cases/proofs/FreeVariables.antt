-- Each split takes a free variable, so a walk has few leaves.
use Rattle.std.proofs.Common.{◌≡◌, ◌≢◌, ℕ, zero, suc, ◌+◌, ◌*◌, ◌^◌, ◌<◌, ◌≤◌, ℤ, pos, negsuc, neg_ℤ, unsigned_abs, List, [], ◌∷◌, length, Bool, true, false, not, ◌||◌, ◌&&◌, if◌then◌else◌, ⊎_elim, refl, sym, ap, ◌∙◌, subst, arith, Contains, Option, Some, None}
use Rattle.std.proofs.Math.IntN.{neg_ℤ-neg_ℤ}
use Rattle.std.proofs.lemmas.Bool.{false≢true, cases_Bool, cases_eq}
use Rattle.std.specs.Ordering.{int_eq}
use Rattle.std.proofs.lemmas.Bool.Decides.{Decides-int_eq}
use Rattle.std.proofs.Math.Pow.{pow_mono, pow_pos}
use Rattle.std.proofs.Math.Nat.{pow-suc}
use Rattle.kat_clause.specs.Clauses.Derived.{denied}
use Rattle.kat_form.specs.Encodings.{Sense, IsLiteral, IsFit}
use Rattle.kat_fm.specs.Eliminations.{Solution}
use Rattle.kat_cases.specs.Nodes.{Setting, End, Held, judged_open, judged_width, literals, truths_from, IsTable, IsJudged, judged, judged_solution, held_in, rows, is_unmet, first_open, last_unmet, lowest_open, or_else}
use Rattle.kat_cases.specs.Nodes.IsJudged.{falsified, not_falsified}
use Rattle.kat_cases.specs.Nodes.End.{spent, at_point}
use Rattle.kat_fm.specs.Eliminations.Solution.{met_at, refuted_by, crowded, goes_wide}
use Rattle.kat_cases.specs.Nodes.Judgement.{leaf, ends, splits}
use Rattle.kat_cases.specs.Walks.{has_literal, Walks, Outcome}
use Rattle.kat_cases.specs.Laws.{WalksAreBounded, EffortSuffices}
use Rattle.kat_cases.specs.Walks.Walks.{ends_here, is_spent, is_leaf, first_ends, first_serves, second_ends, second_serves, both}
use Rattle.kat_cases.specs.Frees.{is_free, count_from, free, IsBounded}
use Rattle.kat_resolution.proofs.Members.{cases_cons, in_nothing}
use Rattle.kat_cases.proofs.Members.{in_map, has_in}
use Rattle.kat_cases.proofs.Acceptances.{first_open_is, IsSplit, split_of, split_is_literal}

abbrev bit : Bool → ℕ
bit b = if b then 1 else 0

bit_less : (a b : Bool) → (a ≡ true → b ≡ true) → (if a then 1 else 0) ≤ (if b then 1 else 0)
bit_less true true h = omega arith
bit_less true false h = absurd (false≢true (h refl))
bit_less false true h = omega arith
bit_less false false h = omega arith

count_less : (f g : ℕ → Bool) → ((w : ℕ) → g w ≡ true → f w ≡ true) → (v n : ℕ) → count_from g v n ≤ count_from f v n
count_less f g h v zero = omega arith
count_less f g h v (suc n) = let a = bit_less (g v) (f v) (h v) in let b = count_less f g h (suc v) n in omega (arith, a, b)

count_falls : (f g : ℕ → Bool) → ((w : ℕ) → g w ≡ true → f w ≡ true) → (v n x : ℕ) → v ≤ x → x < v + n → f x ≡ true → g x ≡ false → count_from g v n + 1 ≤ count_from f v n
count_falls f g h v zero x low high e k = absurd (omega arith)
count_falls f g h v (suc n) x low high e k = ⊎_elim
    (λ (same : x ≡ v).
    let one : ◌≡◌ {A = ℕ} (if f v then 1 else 0) 1 = ap bit (sym (ap f same) ∙ e) in
    let none : ◌≡◌ {A = ℕ} (if g v then 1 else 0) 0 = ap bit (sym (ap g same) ∙ k) in
    let rest = count_less f g h (suc v) n in
    omega (arith, one, none, rest))
    (λ (apart : x ≢ v). let a = bit_less (g v) (f v) (h v) in let b = count_falls f g h (suc v) n x (omega arith) (omega arith) e k in omega (arith, a, b))
    (cases_eq x v)

free_back : (a b c d : Bool) → not ((a || b) || (c || d)) ≡ true → not (b || d) ≡ true
free_back true b c d e = absurd (false≢true e)
free_back false true c d e = absurd (false≢true e)
free_back false false true d e = absurd (false≢true e)
free_back false false false d e = e

taken_first : (a b c d : Bool) → a ≡ true → not ((a || b) || (c || d)) ≡ false
taken_first true b c d e = refl
taken_first false b c d e = absurd (false≢true e)

taken_second : (a b c d : Bool) → c ≡ true → not ((a || b) || (c || d)) ≡ false
taken_second true b c d e = refl
taken_second false true c d e = refl
taken_second false false true d e = refl
taken_second false false false d e = absurd (false≢true e)

same_test : (k : ℤ) → int_eq k k ≡ true
same_test k = (Decides-int_eq k k).1 refl

-- the literal's own variable isn't free after it
not_free : (x : ℤ) (path : List ℤ) → is_free (x ∷ path) (unsigned_abs x) ≡ false
not_free (pos n) path = taken_first (int_eq (pos n) (pos n)) (has_literal (pos n) path) (int_eq (pos n) (neg_ℤ (pos n))) (has_literal (neg_ℤ (pos n)) path) (same_test (pos n))
not_free (negsuc n) path = taken_second (int_eq (negsuc n) (pos (suc n))) (has_literal (pos (suc n)) path) (int_eq (negsuc n) (negsuc n)) (has_literal (negsuc n) path) (same_test (negsuc n))

both_false : (a b : Bool) → a ≡ false → b ≡ false → not (a || b) ≡ true
both_false a b e f = rw (e, f) refl

was_free : (x : ℤ) (path : List ℤ) → has_literal x path ≡ false → has_literal (neg_ℤ x) path ≡ false → is_free path (unsigned_abs x) ≡ true
was_free (pos n) path e f = both_false (has_literal (pos n) path) (has_literal (neg_ℤ (pos n)) path) e f
was_free (negsuc n) path e f = both_false (has_literal (pos (suc n)) path) (has_literal (negsuc n) path) f e

pub free_falls : (s : Setting) (path : List ℤ) (x : ℤ) → IsLiteral (length s.encoding.senses) x → has_literal x path ≡ false → has_literal (neg_ℤ x) path ≡ false → free s (x ∷ path) + 1 ≤ free s path
free_falls s path x is e f =
    count_falls (is_free path) (is_free (x ∷ path))
    (λ w. free_back (int_eq x (pos w)) (has_literal (pos w) path) (int_eq x (neg_ℤ (pos w))) (has_literal (neg_ℤ (pos w)) path))
    1 (length s.encoding.senses) (unsigned_abs x) (omega (arith, is.0)) (omega (arith, is.1)) (was_free x path e f) (not_free x path)

-- a literal that isn't known isn't on the path
unknown_apart : (s : Setting) (path : List ℤ) (has : ℤ → Bool) → IsTable s.encoding path has → (k : ℤ) → has k ≡ false → has_literal k path ≡ false
unknown_apart s path has table k e = ⊎_elim
    (λ (on : has_literal k path ≡ true).
    absurd (false≢true (sym e ∙ (table k).1 (denied k (neg_ℤ k) (in_map neg_ℤ path k (has_in k path on)) (sym (neg_ℤ-neg_ℤ k))))))
    (λ (off : has_literal k path ≡ false). off)
    (cases_Bool (has_literal k path))

-- the literal of a split is open
unmet_all : (has : ℤ → Bool) (c : List ℤ) → is_unmet has c ≡ true → (k : ℤ) → Contains c k → has k ≡ false
unmet_all has [] e k h = absurd (in_nothing k h)
unmet_all has (x ∷ xs) e k h =
    let parts = both_parts (has x) (is_unmet has xs) e in
    ⊎_elim (λ (same : x ≡ k). ap has (sym same) ∙ parts.0) (λ (later : Contains xs k). unmet_all has xs parts.1 k later) (cases_cons x k xs h)
  where
    both_parts : (a b : Bool) → (not a && b) ≡ true → (a ≡ false) × (b ≡ true)
    both_parts true b f = absurd (false≢true f)
    both_parts false b f = (refl, f)

first_open_open : (has : ℤ → Bool) (c : List ℤ) (l : ℤ) → first_open has c ≡ Some l → has (neg_ℤ l) ≡ false
first_open_open has [] l e = absurd (cc)
first_open_open has (k ∷ ks) l e = pick (has (neg_ℤ k)) refl e (first_open_open has ks l)
  where
    some_int : (a b : ℤ) → Some a ≡ Some b → a ≡ b
    some_int a b g = cc

    pick : (b : Bool) → has (neg_ℤ k) ≡ b → (if b then first_open has ks else Some k) ≡ Some l → (first_open has ks ≡ Some l → has (neg_ℤ l) ≡ false) → has (neg_ℤ l) ≡ false
    pick true g f on = on f
    pick false g f on = ap (λ x. has (neg_ℤ x)) (sym (some_int k l f)) ∙ g

abbrev IsOpen : (ℤ → Bool) → ℤ → Type 0
IsOpen has l = (has l ≡ false) × (has (neg_ℤ l) ≡ false)

last_unmet_open : (has : ℤ → Bool) (cs : List (List ℤ)) (l : ℤ) → last_unmet has cs ≡ Some l → IsOpen has l
last_unmet_open has [] l e = absurd (cc)
last_unmet_open has (c ∷ cs) l e = pick (last_unmet has cs) (is_unmet has c) refl e (last_unmet_open has cs l)
  where
    pick : (o : Option ℤ) (b : Bool) → is_unmet has c ≡ b → or_else o (if b then first_open has c else None) ≡ Some l → (o ≡ Some l → IsOpen has l) → IsOpen has l
    pick (Some k) b g f on = on f
    pick None true g f on = (unmet_all has c g l (first_open_is has c l f), first_open_open has c l f)
    pick None false g f on = absurd (cc)

lowest_open_open : (has : ℤ → Bool) (v : ℕ) (ss : List Sense) (l : ℤ) → lowest_open has v ss ≡ Some l → IsOpen has l
lowest_open_open has v [] l e = absurd (cc)
lowest_open_open has v (s ∷ ss) l e = pick (has (pos v)) (has (neg_ℤ (pos v))) refl refl e (lowest_open_open has (suc v) ss l)
  where
    some_int : (a b : ℤ) → Some a ≡ Some b → a ≡ b
    some_int a b g = cc

    pick : (a b : Bool) → has (pos v) ≡ a → has (neg_ℤ (pos v)) ≡ b → (if a || b then lowest_open has (suc v) ss else Some (pos v)) ≡ Some l → (lowest_open has (suc v) ss ≡ Some l → IsOpen has l) → IsOpen has l
    pick true b g h f on = on f
    pick false true g h f on = on f
    pick false false g h f on = let same = some_int (pos v) l f in (ap has (sym same) ∙ g, ap (λ x. has (neg_ℤ x)) (sym same) ∙ h)

pub split_is_open : (s : Setting) (path : List ℤ) (l : ℤ) → IsJudged s path (splits l) → (has_literal l path ≡ false) × (has_literal (neg_ℤ l) path ≡ false)
split_is_open s path l judged' =
    let j : IsSplit s path l = split_of s path l judged' in
    let o : IsOpen j.has l = ⊎_elim (last_unmet_open j.has s.encoding.clauses l) (lowest_open_open j.has 1 s.encoding.senses l) j.choice in
    (unknown_apart s path j.has j.table l o.0, unknown_apart s path j.has j.table (neg_ℤ l) o.1)

-- both nodes of a split have a free variable less
pub split_falls : (s : Setting) → IsFit s.encoding → (path : List ℤ) (l : ℤ) → IsJudged s path (splits l) → (free s (l ∷ path) + 1 ≤ free s path) × (free s (neg_ℤ l ∷ path) + 1 ≤ free s path)
split_falls s fit path l j =
    let apart = split_is_open s path l j in
    let is : IsLiteral (length s.encoding.senses) l = split_is_literal s fit path l j in
    let P : ℤ → Type 0 = IsLiteral (length s.encoding.senses) in
    let Q : ℤ → Type 0 = λ x. has_literal x path ≡ false in (
      free_falls s path l is apart.0 apart.1,
      free_falls s path (neg_ℤ l) (opposite_is (length s.encoding.senses) l is) apart.1 (subst Q (sym (neg_ℤ-neg_ℤ l)) apart.0),
    )
  where
    opposite_is : (n : ℕ) (x : ℤ) → IsLiteral n x → IsLiteral n (neg_ℤ x)
    opposite_is n (pos zero) h = h
    opposite_is n (pos (suc m)) h = h
    opposite_is n (negsuc m) h = h

-- two halves
pow_double : (a b : ℕ) → a + 1 ≤ b → 2 ^ a + 2 ^ a ≤ 2 ^ b
pow_double a b h =
    let up : 2 ^ (suc a) ≤ 2 ^ b = pow_mono (omega arith) in
    let two : 2 ^ (suc a) ≡ 2 ^ a * 2 = pow-suc 2 a in
    omega (arith, up, two)

-- no node is judged spent
open_unspent : (a : Option ℤ) (den : ℤ) (nums : List ℤ) (truths : List Bool) (b : Option ℤ) → judged_open a (at_point den nums truths) b ≡ ends spent → ⊥
open_unspent a den nums truths None e = cc
open_unspent None den nums truths (Some v) e = cc
open_unspent (Some l) den nums truths (Some v) e = cc

width_unspent : (lits ms : List ℤ) (w : Option (ℤ × ℤ)) → judged_width lits ms w ≡ ends spent → ⊥
width_unspent lits ms None e = cc
width_unspent lits ms (Some (a, b)) e = cc

solution_unspent : (s : Setting) (has : ℤ → Bool) (held : List Held) (x : Solution) → judged_solution s has held x ≡ ends spent → ⊥
solution_unspent s has held (met_at den nums) e = open_unspent (last_unmet has s.encoding.clauses) den nums (truths_from has 1 s.encoding.senses) (lowest_open has 1 s.encoding.senses) e
solution_unspent s has held (refuted_by ms) e = width_unspent (literals held) ms (s.wide (rows held) ms) e
solution_unspent s has held (crowded a b c) e = cc
solution_unspent s has held (goes_wide a b) e = cc

end_apart : (end : End) → ends end ≡ leaf None → ⊥
end_apart end e = cc

judged_unspent : (s : Setting) (path : List ℤ) (end : End) → IsJudged s path (ends end) → end ≡ spent → ⊥
unfolding judged
judged_unspent s path end (falsified d f) e = end_apart end f
judged_unspent s path end (not_falsified never has table f) e = solution_unspent s has (held_in s has) (s.solve (rows (held_in s has))) (sym f ∙ ap ends e)

pub bounded : (s : Setting) → IsFit s.encoding → {path : List ℤ} {left : ℕ} {o : Outcome} → Walks s path left o → IsBounded left (2 ^ free s path) o
bounded s fit {path} (ends_here {end = end} j) = λ e. absurd (judged_unspent s path end j e)
bounded s fit {path} (is_spent j) = λ e. pow_pos (free s path)
bounded s fit {path} (is_leaf j shrinks) = let p = pow_pos (free s path) in omega (arith, p)
bounded s fit {path} (first_ends {l = l} j u) = λ e.
    let a = bounded s fit u e in let d = pow_double (free s (l ∷ path)) (free s path) (split_falls s fit path l j).0 in omega (arith, a, d)
bounded s fit {path} (first_serves {l = l} j u h) =
    let a = bounded s fit u in let d = pow_double (free s (l ∷ path)) (free s path) (split_falls s fit path l j).0 in omega (arith, a, d)
bounded s fit {path} (second_ends {l = l} j u h x) = λ e.
    let f = split_falls s fit path l j in
    let a = bounded s fit u in let b = bounded s fit x e in
    let c = pow_double (free s (l ∷ path)) (free s path) f.0 in let d = pow_double (free s (neg_ℤ l ∷ path)) (free s path) f.1 in omega (arith, a, b, c, d)
bounded s fit {path} (second_serves {l = l} j u h x g) =
    let f = split_falls s fit path l j in
    let a = bounded s fit u in let b = bounded s fit x in
    let c = pow_double (free s (l ∷ path)) (free s path) f.0 in let d = pow_double (free s (neg_ℤ l ∷ path)) (free s path) f.1 in omega (arith, a, b, c, d)
bounded s fit {path} (both {l = l} j u h x g) =
    let f = split_falls s fit path l j in
    let a = bounded s fit u in let b = bounded s fit x in
    let c = pow_double (free s (l ∷ path)) (free s path) f.0 in let d = pow_double (free s (neg_ℤ l ∷ path)) (free s path) f.1 in omega (arith, a, b, c, d)

pub walks_bounded : WalksAreBounded
walks_bounded s fit path left o w = bounded s fit w

count_all : (v n : ℕ) → count_from (is_free []) v n ≡ n
count_all v zero = refl
count_all v (suc n) = let e = count_all (suc v) n in omega (arith, e)

pub effort_suffices : EffortSuffices
effort_suffices s fit left h w =
    let n : free s [] ≡ length s.encoding.senses = count_all 1 (length s.encoding.senses) in
    let P : ℕ → Type 0 = λ x. left < 2 ^ x in
    let low : left < 2 ^ length s.encoding.senses = subst P n (bounded s fit w refl) in
    omega (arith, h, low)
