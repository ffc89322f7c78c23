-- A walk along two ascending lists that joins in place the entries of both.
use Rattle.std.proofs.Common.{◌⊎◌, inl, inr, ◌-◌, ◌≡◌, ℕ, zero, suc, ◌+◌, ◌<◌, ◌≤◌, List, [], ◌∷◌, ◌++◌, length, get_or, set, take, drop, refl, sym, ◌∙◌, ap, subst, arith, take-append-drop, length-append, length-drop}
use Rattle.std.specs.declared.cmp.Ordering.{Ordering}
use Rattle.std.specs.declared.cmp.Ordering.TheVariants.{Less, Equal, Greater}
use Rattle.std.specs.Cmp.{IsTotalOrder}
use Rattle.kat_join.specs.Keyed.{IsAscending, KeepsKey, put, union}
use Rattle.std.specs.Ordering.{match_ordering}
use Rattle.kat_join.specs.Merging.{Mergeable}
use Rattle.kat_join.proofs.Merges.{ascending_drop, kin_at, step_less, step_equal, step_greater, union-nil}

pub record Walks {E : Type 0} (cmp : E → E → Ordering) (onto : E → E → E) (old theirs now : List E) (i j : ℕ) : Type 0 where
  pub long : length now ≡ length old
  pub at_i : i ≤ length old
  pub at_j : j ≤ length theirs
  pub rest : drop i now ≡ drop i old
  pub joined : take i now ++ union cmp onto (drop i old) (drop j theirs) ≡ union cmp onto old theirs

head_drop : {E : Type 0} (xs : List E) (i : ℕ) (d : E) → get_or (drop i xs) 0 d ≡ get_or xs i d
head_drop [] zero d = refl
head_drop [] (suc i) d = refl
head_drop (x ∷ xs) zero d = refl
head_drop (x ∷ xs) (suc i) d = head_drop xs i d

drop_more : {E : Type 0} (xs : List E) (i : ℕ) → drop (suc i) xs ≡ drop 1 (drop i xs)
drop_more [] zero = refl
drop_more [] (suc i) = refl
drop_more (x ∷ xs) zero = refl
drop_more (x ∷ xs) (suc i) = drop_more xs i

take_more : {E : Type 0} (xs : List E) (i : ℕ) (x : E) → i < length xs → x ≡ get_or xs i x → take (suc i) xs ≡ take i xs ++ x ∷ []
take_more [] i x h e = absurd (omega arith)
take_more (y ∷ xs) zero x h e = (cc)
take_more (y ∷ xs) (suc i) x h e = ap (λ ys. y ∷ ys) (take_more xs i x (omega arith) e)

take_set : {E : Type 0} (xs : List E) (i : ℕ) (z : E) → i < length xs → take (suc i) (set xs i z) ≡ take i xs ++ z ∷ []
take_set [] i z h = absurd (omega arith)
take_set (y ∷ xs) zero z h = refl
take_set (y ∷ xs) (suc i) z h = ap (λ ys. y ∷ ys) (take_set xs i z (omega arith))

drop_set : {E : Type 0} (xs : List E) (i : ℕ) (z : E) → drop (suc i) (set xs i z) ≡ drop (suc i) xs
drop_set [] i z = refl
drop_set (y ∷ xs) zero z = refl
drop_set (y ∷ xs) (suc i) z = drop_set xs i z

long_set : {E : Type 0} (xs : List E) (i : ℕ) (z : E) → length (set xs i z) ≡ length xs
long_set [] i z = refl
long_set (y ∷ xs) zero z = refl
long_set (y ∷ xs) (suc i) z = ap suc (long_set xs i z)

pub there_before : {E : Type 0} (now old : List E) (i : ℕ) (x : E) → drop i now ≡ drop i old → x ≡ get_or now i x → x ≡ get_or old i x
there_before {E} now old i x h e = e ∙ (sym (head_drop now i x) ∙ (ap (λ (ys : List E). get_or ys 0 x) h ∙ head_drop old i x))

rest_more : {E : Type 0} (now old : List E) (i : ℕ) → drop i now ≡ drop i old → drop (suc i) now ≡ drop (suc i) old
rest_more {E} now old i h = drop_more now i ∙ (ap (λ (ys : List E). drop 1 ys) h ∙ sym (drop_more old i))

pub walk_less : {E : Type 0} {cmp : E → E → Ordering} {onto : E → E → E} (o : IsTotalOrder cmp) (keeps : KeepsKey cmp onto) (old theirs now : List E) (i j : ℕ) (x y : E) → Walks cmp onto old theirs now i j → i < length now → j < length theirs → x ≡ get_or now i x → y ≡ get_or theirs j y → IsAscending cmp theirs → cmp x y ≡ Less → Walks cmp onto old theirs now (i + 1) j
walk_less {E} {cmp} {onto} o keeps old theirs now i j x y w hi hj ex ey asc less =
    let n : i + 1 ≡ suc i = omega arith in
    let long : length now ≡ length old = w.long in
    let whole = step_less cmp onto o keeps old theirs (take i now) (union cmp onto old theirs) i j x y (omega arith) hj (there_before now old i x w.rest ex) ey asc less w.joined in
    record {
      long = long;
      at_i = omega arith;
      at_j = w.at_j;
      rest = subst (λ (m : ℕ). drop m now ≡ drop m old) (sym n) (rest_more now old i w.rest);
      joined = ap (λ (ys : List E). ys ++ union cmp onto (drop (i + 1) old) (drop j theirs)) (ap (λ (m : ℕ). take m now) n ∙ take_more now i x hi ex) ∙ whole;
    }

pub walk_equal : {E : Type 0} {cmp : E → E → Ordering} {onto : E → E → E} (o : IsTotalOrder cmp) (keeps : KeepsKey cmp onto) (old theirs now : List E) (i j : ℕ) (x y z : E) → Walks cmp onto old theirs now i j → i < length now → j < length theirs → x ≡ get_or now i x → y ≡ get_or theirs j y → IsAscending cmp theirs → cmp x y ≡ Equal → z ≡ onto x y → Walks cmp onto old theirs (set now i z) (i + 1) (j + 1)
walk_equal {E} {cmp} {onto} o keeps old theirs now i j x y z w hi hj ex ey asc equal is =
    let n : i + 1 ≡ suc i = omega arith in
    let long : length now ≡ length old = w.long in
    let whole = step_equal cmp onto o keeps old theirs (take i now) (union cmp onto old theirs) i j x y (omega arith) hj (there_before now old i x w.rest ex) ey asc equal w.joined in
    record {
      long = long_set now i z ∙ long;
      at_i = omega arith;
      at_j = omega arith;
      rest = subst (λ (m : ℕ). drop m (set now i z) ≡ drop m old) (sym n) (drop_set now i z ∙ rest_more now old i w.rest);
      joined = ap (λ (ys : List E). ys ++ union cmp onto (drop (i + 1) old) (drop (j + 1) theirs)) (ap (λ (m : ℕ). take m (set now i z)) n ∙ (take_set now i z hi ∙ ap (λ (t : E). take i now ++ t ∷ []) is)) ∙ whole;
    }

none_left : {E : Type 0} (xs : List E) (j : ℕ) → length xs ≤ j → drop j xs ≡ []
none_left [] zero h = refl
none_left [] (suc j) h = refl
none_left (x ∷ xs) zero h = absurd (omega arith)
none_left (x ∷ xs) (suc j) h = none_left xs j (omega arith)

pub walk_end : {E : Type 0} {cmp : E → E → Ordering} {onto : E → E → E} (old theirs now : List E) (i j : ℕ) → Walks cmp onto old theirs now i j → length theirs ≤ j → now ≡ union cmp onto old theirs
walk_end {E} {cmp} {onto} old theirs now i j w h =
    sym (take-append-drop i now) ∙ (ap (λ (ys : List E). take i now ++ ys) w.rest ∙ (ap (λ (ys : List E). take i now ++ union cmp onto (drop i old) ys) (sym (none_left theirs j h)) ∙ w.joined))

set_same : {E : Type 0} (xs : List E) (i : ℕ) (x : E) → x ≡ get_or xs i x → set xs i x ≡ xs
set_same [] i x e = refl
set_same (y ∷ xs) zero x e = (cc)
set_same (y ∷ xs) (suc i) x e = ap (λ ys. y ∷ ys) (set_same xs i x e)

pub walk_over : {E : Type 0} {cmp : E → E → Ordering} {onto : E → E → E} (o : IsTotalOrder cmp) (keeps : KeepsKey cmp onto) (old theirs now : List E) (i j : ℕ) (x y : E) → Walks cmp onto old theirs now i j → i < length now → j < length theirs → x ≡ get_or now i x → y ≡ get_or theirs j y → IsAscending cmp theirs → cmp x y ≡ Less → Walks cmp onto old theirs (set now i x) (i + 1) j
walk_over {E} {cmp} {onto} o keeps old theirs now i j x y w hi hj ex ey asc less =
    subst (λ (ys : List E). Walks cmp onto old theirs ys (i + 1) j) (sym (set_same now i x ex)) (walk_less o keeps old theirs now i j x y w hi hj ex ey asc less)

pub kin_there : {E : Type 0} {cmp : E → E → Ordering} (kin : E → E → Type 0) (old theirs now : List E) (i j : ℕ) (x y : E) → Mergeable cmp kin old theirs → drop i now ≡ drop i old → length now ≡ length old → i < length now → j < length theirs → x ≡ get_or now i x → y ≡ get_or theirs j y → kin x y
kin_there kin old theirs now i j x y h rest long li lj ex ey = kin_at kin old theirs i j x y h (omega arith) lj (there_before now old i x rest ex) ey

put_long : {E : Type 0} (cmp : E → E → Ordering) (onto : E → E → E) (e : E) (xs : List E) → length xs ≤ length (put cmp onto e xs)
put_long cmp onto e [] = omega arith
put_long cmp onto e (x ∷ xs) =
    let rest : length xs ≤ length (put cmp onto e xs) = put_long cmp onto e xs in
    elim (cmp e x) as (λ r. length (x ∷ xs) ≤ length (match_ordering r (e ∷ x ∷ xs) (onto x e ∷ xs) (x ∷ put cmp onto e xs))) [
      | Less ↦ omega arith
      | Equal ↦ omega arith
      | Greater ↦ omega arith
    ]

union_long : {E : Type 0} (cmp : E → E → Ordering) (onto : E → E → E) (xs ys : List E) → length xs ≤ length (union cmp onto xs ys)
union_long cmp onto xs [] = omega arith
union_long cmp onto xs (y ∷ ys) =
    let one : length xs ≤ length (union cmp onto xs ys) = union_long cmp onto xs ys in
    let two : length (union cmp onto xs ys) ≤ length (put cmp onto y (union cmp onto xs ys)) = put_long cmp onto y (union cmp onto xs ys) in
    omega arith

taken_long : {E : Type 0} (xs : List E) (i : ℕ) → i ≤ length xs → length (take i xs) ≡ i
taken_long [] zero h = refl
taken_long [] (suc i) h = absurd (omega arith)
taken_long (x ∷ xs) zero h = refl
taken_long (x ∷ xs) (suc i) h = ap suc (taken_long xs i (omega arith))

inside_or : (i n : ℕ) → (i < n) ⊎ (n ≤ i)
inside_or i zero = inr (omega arith)
inside_or zero (suc n) = inl (omega arith)
inside_or (suc i) (suc n) = elim (inside_or i n) as (λ _. (suc i < suc n) ⊎ (suc n ≤ suc i)) [ inl l ↦ inl (omega arith) | inr l ↦ inr (omega arith) ]

-- if all keys are present, the walk stays inside
pub walk_inside : {E : Type 0} {cmp : E → E → Ordering} {onto : E → E → E} (old theirs now : List E) (i j : ℕ) → Walks cmp onto old theirs now i j → IsAscending cmp theirs → length (union cmp onto old theirs) ≡ length old → j < length theirs → i < length now
walk_inside {E} {cmp} {onto} old theirs now i j w asc present lj =
    let long : length now ≡ length old = w.long in
    let rest = union cmp onto (drop i old) (drop j theirs) in
    let count : length (take i now ++ rest) ≡ length old = ap length w.joined ∙ present in
    let parts : length (take i now ++ rest) ≡ length (take i now) + length rest = length-append (take i now) rest in
    let within : i ≤ length old = w.at_i in
    let at : length (take i now) ≡ i = taken_long now i (omega arith) in
    let left : length (drop j theirs) ≡ length theirs - j = length-drop j theirs in
    elim (inside_or i (length now)) as (λ _. i < length now) [
      | inl l ↦ l
      | inr l ↦ (let gone : drop i old ≡ [] = none_left old i (omega arith) in
          let all : rest ≡ drop j theirs = ap (λ (zs : List E). union cmp onto zs (drop j theirs)) gone ∙ union-nil cmp onto (drop j theirs) (ascending_drop cmp j theirs asc) in
          let size : length rest ≡ length (drop j theirs) = ap length all in
          omega arith)
    ]

-- a key of theirs that comes before what is left would be new
pub walk_new : {E : Type 0} {cmp : E → E → Ordering} {onto : E → E → E} (o : IsTotalOrder cmp) (keeps : KeepsKey cmp onto) (old theirs now : List E) (i j : ℕ) (x y : E) → Walks cmp onto old theirs now i j → IsAscending cmp old → IsAscending cmp theirs → length (union cmp onto old theirs) ≡ length old → i < length now → j < length theirs → x ≡ get_or now i x → y ≡ get_or theirs j y → cmp x y ≡ Greater → ⊥
walk_new {E} {cmp} {onto} o keeps old theirs now i j x y w h k present li lj ex ey greater =
    let long : length now ≡ length old = w.long in
    let whole = step_greater cmp onto o keeps old theirs (take i now) (union cmp onto old theirs) i j x y (omega arith) lj (there_before now old i x w.rest ex) ey h k greater w.joined in
    let rest = union cmp onto (drop i old) (drop (j + 1) theirs) in
    let count : length ((take i now ++ y ∷ []) ++ rest) ≡ length old = ap length whole ∙ present in
    let parts : length ((take i now ++ y ∷ []) ++ rest) ≡ length (take i now ++ y ∷ []) + length rest = length-append (take i now ++ y ∷ []) rest in
    let front : length (take i now ++ y ∷ []) ≡ length (take i now) + 1 = length-append (take i now) (y ∷ []) in
    let at : length (take i now) ≡ i = taken_long now i (omega arith) in
    let behind : length (drop i old) ≤ length rest = union_long cmp onto (drop i old) (drop (j + 1) theirs) in
    let left : length (drop i old) ≡ length old - i = length-drop i old in
    omega arith
