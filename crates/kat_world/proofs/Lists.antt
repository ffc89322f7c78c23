-- What holds of two lists at each place.
use Rattle.std.proofs.Common.{◌≡◌, ℕ, zero, suc, ◌+◌, ◌<◌, Bool, true, false, List, [], ◌∷◌, ◌++◌, length, get_or, set, refl, sym, ◌∙◌, ap, subst, cond, arith, length-append}
use Rattle.std.specs.Prelude.{nat_lt}
use Rattle.std.proofs.lemmas.List.{length-set, get_or-set_other, get_or_append_left}
use Rattle.kat_script.specs.World.{put}
use Rattle.kat_type.proofs.Lists.{set_all, snoc_all}

-- what ties two lists at each place, and x and y, ties them at each place once x and y were put in
pub set_both : {X : Type 0} (R : X → X → Type 0) (xs ys : List X) (i : ℕ) (x y d : X) → length xs ≡ length ys → ((k : ℕ) → R (get_or xs k d) (get_or ys k d)) → R x y
    → (k : ℕ) → R (get_or (set xs i x) k d) (get_or (set ys i y) k d)
set_both R [] [] i x y d e h r k = h k
set_both R [] (z ∷ ys) i x y d e h r k = absurd (omega arith)
set_both R (z ∷ xs) [] i x y d e h r k = absurd (omega arith)
set_both R (z ∷ xs) (w ∷ ys) zero x y d e h r zero = r
set_both R (z ∷ xs) (w ∷ ys) zero x y d e h r (suc k) = h (suc k)
set_both R (z ∷ xs) (w ∷ ys) (suc i) x y d e h r zero = h zero
set_both R (z ∷ xs) (w ∷ ys) (suc i) x y d e h r (suc k) = set_both R xs ys i x y d (omega arith) (λ j. h (suc j)) r k

snoc_both : {X : Type 0} (R : X → X → Type 0) (xs ys : List X) (x y d : X) → length xs ≡ length ys → ((k : ℕ) → R (get_or xs k d) (get_or ys k d)) → R x y
    → (k : ℕ) → R (get_or (xs ++ x ∷ []) k d) (get_or (ys ++ y ∷ []) k d)
snoc_both R [] [] x y d e h r zero = r
snoc_both R [] [] x y d e h r (suc k) = h zero
snoc_both R [] (z ∷ ys) x y d e h r k = absurd (omega arith)
snoc_both R (z ∷ xs) [] x y d e h r k = absurd (omega arith)
snoc_both R (z ∷ xs) (w ∷ ys) x y d e h r zero = h zero
snoc_both R (z ∷ xs) (w ∷ ys) x y d e h r (suc k) = snoc_both R xs ys x y d (omega arith) (λ j. h (suc j)) r k

put_either : {X : Type 0} (R : X → X → Type 0) (xs ys : List X) (i : ℕ) (x y d : X) (b : Bool) → length xs ≡ length ys → ((k : ℕ) → R (get_or xs k d) (get_or ys k d)) → R x y
    → (k : ℕ) → R (get_or (cond b (set xs i x) (xs ++ x ∷ [])) k d) (get_or (cond b (set ys i y) (ys ++ y ∷ [])) k d)
put_either R xs ys i x y d true e h r = set_both R xs ys i x y d e h r
put_either R xs ys i x y d false e h r = snoc_both R xs ys x y d e h r

pub put_both : {X : Type 0} (R : X → X → Type 0) (xs ys : List X) (i : ℕ) (x y d : X) → length xs ≡ length ys → ((k : ℕ) → R (get_or xs k d) (get_or ys k d)) → R x y
    → (k : ℕ) → R (get_or (put xs i x) k d) (get_or (put ys i y) k d)
put_both R xs ys i x y d e h r k =
    subst (λ (n : ℕ). R (get_or (put xs i x) k d) (get_or (cond (nat_lt i n) (set ys i y) (ys ++ y ∷ [])) k d)) e (put_either R xs ys i x y d (nat_lt i (length xs)) e h r k)

count_either : {X : Type 0} (xs ys : List X) (i : ℕ) (x y : X) (b : Bool) → length xs ≡ length ys
    → length (cond b (set xs i x) (xs ++ x ∷ [])) ≡ length (cond b (set ys i y) (ys ++ y ∷ []))
count_either xs ys i x y true e = length-set xs i x ∙ e ∙ sym (length-set ys i y)
count_either xs ys i x y false e = length-append xs (x ∷ []) ∙ ap (λ (n : ℕ). n + 1) e ∙ sym (length-append ys (y ∷ []))

pub count_both : {X : Type 0} (xs ys : List X) (i : ℕ) (x y : X) → length xs ≡ length ys → length (put xs i x) ≡ length (put ys i y)
count_both xs ys i x y e =
    subst (λ (n : ℕ). length (put xs i x) ≡ length (cond (nat_lt i n) (set ys i y) (ys ++ y ∷ []))) e (count_either xs ys i x y (nat_lt i (length xs)) e)

-- what ties each to itself, and x to what it takes the place of, ties a list with x to the list
pub set_one : {X : Type 0} (R : X → X → Type 0) (xs : List X) (i : ℕ) (x d : X) → ((z : X) → R z z) → R x (get_or xs i d)
    → (k : ℕ) → R (get_or (set xs i x) k d) (get_or xs k d)
set_one R [] i x d h r k = h d
set_one R (y ∷ xs) zero x d h r zero = r
set_one R (y ∷ xs) zero x d h r (suc k) = h (get_or xs k d)
set_one R (y ∷ xs) (suc i) x d h r zero = h y
set_one R (y ∷ xs) (suc i) x d h r (suc k) = set_one R xs i x d h r k

-- what is put in at one place twice
pub set_twice : {X : Type 0} (R : X → X → Type 0) (xs : List X) (i : ℕ) (a b x y d : X) → ((z : X) → R z z) → R x y
    → (k : ℕ) → R (get_or (set (set xs i a) i x) k d) (get_or (set (set xs i b) i y) k d)
set_twice R [] i a b x y d h r k = h d
set_twice R (z ∷ xs) zero a b x y d h r zero = r
set_twice R (z ∷ xs) zero a b x y d h r (suc k) = h (get_or xs k d)
set_twice R (z ∷ xs) (suc i) a b x y d h r zero = h z
set_twice R (z ∷ xs) (suc i) a b x y d h r (suc k) = set_twice R xs i a b x y d h r k

-- what is put in at two places, in either order
pub set_apart : {X : Type 0} (R : X → X → Type 0) (xs : List X) (i j : ℕ) (a b a' b' d : X) → ((z : X) → R z z) → (i ≡ j → ⊥) → R a a' → R b b'
    → (k : ℕ) → R (get_or (set (set xs i a) j b) k d) (get_or (set (set xs j b') i a') k d)
set_apart R [] i j a b a' b' d h n f g k = h d
set_apart R (z ∷ xs) zero zero a b a' b' d h n f g k = absurd (n refl)
set_apart R (z ∷ xs) zero (suc j) a b a' b' d h n f g zero = f
set_apart R (z ∷ xs) zero (suc j) a b a' b' d h n f g (suc k) = set_both R xs xs j b b' d refl (λ m. h (get_or xs m d)) g k
set_apart R (z ∷ xs) (suc i) zero a b a' b' d h n f g zero = g
set_apart R (z ∷ xs) (suc i) zero a b a' b' d h n f g (suc k) = set_both R xs xs i a a' d refl (λ m. h (get_or xs m d)) f k
set_apart R (z ∷ xs) (suc i) (suc j) a b a' b' d h n f g zero = h z
set_apart R (z ∷ xs) (suc i) (suc j) a b a' b' d h n f g (suc k) = set_apart R xs i j a b a' b' d h (λ e. n (ap suc e)) f g k

stays_either : {X : Type 0} (xs : List X) (i j : ℕ) (x d : X) (b : Bool) → (j ≡ i → ⊥) → j < length xs → get_or (cond b (set xs i x) (xs ++ x ∷ [])) j d ≡ get_or xs j d
stays_either xs i j x d true other lt = get_or-set_other xs i j x d other
stays_either xs i j x d false other lt = get_or_append_left xs (x ∷ []) d j lt

all_either : {X : Type 0} (P : X → Type 0) (xs : List X) (i : ℕ) (x d : X) (b : Bool) → ((k : ℕ) → P (get_or xs k d)) → P x
    → (k : ℕ) → P (get_or (cond b (set xs i x) (xs ++ x ∷ [])) k d)
all_either P xs i x d true h p = set_all P xs i x d h p
all_either P xs i x d false h p = snoc_all P xs x d h p

pub put_all : {X : Type 0} (P : X → Type 0) (xs : List X) (i : ℕ) (x d : X) → ((k : ℕ) → P (get_or xs k d)) → P x → (k : ℕ) → P (get_or (put xs i x) k d)
put_all P xs i x d h p = all_either P xs i x d (nat_lt i (length xs)) h p

-- what is put in at another place changes nothing here
pub put_stays : {X : Type 0} (xs : List X) (i j : ℕ) (x d : X) → (j ≡ i → ⊥) → j < length xs → get_or (put xs i x) j d ≡ get_or xs j d
put_stays xs i j x d other lt = stays_either xs i j x d (nat_lt i (length xs)) other lt

one_more : (j n m : ℕ) → j < n → m ≡ n + 1 → j < m
one_more j n m lt e = omega arith

room_either : {X : Type 0} (xs : List X) (i j : ℕ) (x : X) (b : Bool) → j < length xs → j < length (cond b (set xs i x) (xs ++ x ∷ []))
room_either xs i j x true lt = subst (λ (n : ℕ). j < n) (sym (length-set xs i x)) lt
room_either xs i j x false lt = one_more j (length xs) (length (xs ++ x ∷ [])) lt (length-append xs (x ∷ []))

pub put_room : {X : Type 0} (xs : List X) (i j : ℕ) (x : X) → j < length xs → j < length (put xs i x)
put_room xs i j x lt = room_either xs i j x (nat_lt i (length xs)) lt
