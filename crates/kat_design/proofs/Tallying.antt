-- The sums of a union.
use Rattle.std.proofs.Common.{◌≡◌, ℕ, suc, ◌+◌, ◌*◌, ◌≤◌, length, max, Bool, true, false, ◌⊎◌, inl, inr, ⊎_elim, List, [], ◌∷◌, ◌++◌, refl, ap, cond, arith, suc-mul}
use Rattle.std.specs.Prelude.{◌==◌}
use Rattle.std.proofs.lemmas.Bool.{eqb-true, cases_Bool}
use Rattle.kat_type.specs.Unions.{AreAmong, united}
use Rattle.kat_type.specs.declared.done.Done.{Done}
use Rattle.kat_type.specs.Lists.{Has, IsOnce}
use Rattle.kat_design.specs.Tallied.{SumsUnite, SumsWithin, share, sum_done}
use Rattle.kat_design.proofs.Lists.{total_among}
use Rattle.kat_type.proofs.Unions.{has_mine, has_theirs, has_united, once_united}

-- an operation of another origin adds nothing
no_share : (weight : Done → ℕ) (replica : ℕ) (one : Done) → (one.replica == replica) ≡ false → share weight replica one ≡ 0
no_share weight replica one e = ap (λ b. cond b (weight one) 0) e

pub share_cases : (weight : Done → ℕ) (replica : ℕ) (one : Done) → (share weight replica one ≡ 0) ⊎ (one.replica ≡ replica)
share_cases weight replica one =
    ⊎_elim (λ e. inr (eqb-true one.replica replica e)) (λ e. inl (no_share weight replica one e)) (cases_Bool (one.replica == replica))

-- a list whose operations of the origin are among another's has at most its sum
pub sum_among : (weight : Done → ℕ) (replica : ℕ) (xs ys : List Done) → IsOnce xs → AreAmong replica xs ys → sum_done weight replica xs ≤ sum_done weight replica ys
sum_among weight replica xs ys once among =
    total_among (share weight replica) xs ys once
    (λ one has. ⊎_elim (λ e. inl e) (λ e. inr (among one e has)) (share_cases weight replica one))

pub same_sum_done : (weight : Done → ℕ) (replica : ℕ) (xs ys : List Done) → IsOnce xs → IsOnce ys → AreAmong replica xs ys → AreAmong replica ys xs → sum_done weight replica xs ≡ sum_done weight replica ys
same_sum_done weight replica xs ys h k i j =
    let a : sum_done weight replica xs ≤ sum_done weight replica ys = sum_among weight replica xs ys h i in
    let b : sum_done weight replica ys ≤ sum_done weight replica xs = sum_among weight replica ys xs k j in
    omega arith

greater : (u x y : ℕ) → u ≡ x → y ≤ x → u ≡ max x y
greater u x y e l = omega arith

greater' : (u x y : ℕ) → u ≡ y → x ≤ y → u ≡ max x y
greater' u x y e l = omega arith

pub sums_unite : SumsUnite
sums_unite weight replica xs ys h k nested =
    let sum = sum_done weight replica in
    let once = once_united xs ys h k in
    ⊎_elim
    (λ (among : AreAmong replica xs ys). greater' (sum (united xs ys)) (sum xs) (sum ys)
    (same_sum_done weight replica (united xs ys) ys once k
    (λ one is has. ⊎_elim (λ i. among one is i) (λ i. i) (has_united xs ys one has))
    (λ one is has. has_theirs xs ys one has))
    (sum_among weight replica xs ys h among))
    (λ (among : AreAmong replica ys xs). greater (sum (united xs ys)) (sum xs) (sum ys)
    (same_sum_done weight replica (united xs ys) xs once h
    (λ one is has. ⊎_elim (λ i. i) (λ i. among one is i) (has_united xs ys one has))
    (λ one is has. has_mine xs ys one has))
    (sum_among weight replica ys xs k among))
    (nested replica)

-- one operation more
pub sum_append : (weight : Done → ℕ) (replica : ℕ) (xs ys : List Done) → sum_done weight replica (xs ++ ys) ≡ sum_done weight replica xs + sum_done weight replica ys
sum_append weight replica [] ys = omega arith
sum_append weight replica (x ∷ xs) ys =
    let e : sum_done weight replica (xs ++ ys) ≡ sum_done weight replica xs + sum_done weight replica ys = sum_append weight replica xs ys in
    let f : share weight replica x + sum_done weight replica (xs ++ ys) ≡ share weight replica x + sum_done weight replica xs + sum_done weight replica ys = omega arith in
    f

one_share : (b : Bool) (w most : ℕ) → w ≤ most → cond b w 0 ≤ most
one_share true w most l = l
one_share false w most l = omega arith

plus_one : (n most a s : ℕ) → a ≤ most → s ≤ n * most → a + s ≤ suc n * most
plus_one n most a s l m = rw (suc-mul n most) (omega arith)

whole_within : (weight : Done → ℕ) (replica most : ℕ) (past : List Done) → ((one : Done) → Has past one → weight one ≤ most) → sum_done weight replica past ≤ length past * most
whole_within weight replica most [] small = omega arith
whole_within weight replica most (x ∷ past) small =
    plus_one (length past) most (share weight replica x) (sum_done weight replica past)
    (one_share (x.replica == replica) (weight x) most (small x (inl refl)))
    (whole_within weight replica most past (λ one h. small one (inr h)))

pub sums_within : SumsWithin
sums_within weight most past xs replica once done small =
    let l : sum_done weight replica xs ≤ sum_done weight replica past = total_among (share weight replica) xs past once (λ one has. inr (done one has)) in
    let m : sum_done weight replica past ≤ length past * most = whole_within weight replica most past small in
    omega (arith)
