-- Two lists whose elements go together, place by place.
use Rattle.std.proofs.Common.{◌≡◌, ℕ, zero, suc, ◌<◌, Bool, true, false, List, [], ◌∷◌, ◌++◌, length, get_or, set, sym, ◌∙◌, ap, cond, arith}
use Rattle.std.specs.Prelude.{nat_lt}
use Rattle.std.proofs.lemmas.List.{length-set, length-append}
use Rattle.kat_script.specs.World.{put}

pub set_both : {X Y : Type 0} (R : X → Y → Type 0) (xs : List X) (ys : List Y) (i : ℕ) (x d : X) (y e : Y) → length xs ≡ length ys
    → ((k : ℕ) → R (get_or xs k d) (get_or ys k e)) → R x y → (k : ℕ) → R (get_or (set xs i x) k d) (get_or (set ys i y) k e)
set_both R [] [] i x d y e same all new k = all k
set_both R [] (b ∷ ys) i x d y e same all new k = absurd (omega arith)
set_both R (a ∷ xs) [] i x d y e same all new k = absurd (omega arith)
set_both R (a ∷ xs) (b ∷ ys) zero x d y e same all new zero = new
set_both R (a ∷ xs) (b ∷ ys) zero x d y e same all new (suc k) = all (suc k)
set_both R (a ∷ xs) (b ∷ ys) (suc i) x d y e same all new zero = all 0
set_both R (a ∷ xs) (b ∷ ys) (suc i) x d y e same all new (suc k) = set_both R xs ys i x d y e (omega arith) (λ n. all (suc n)) new k

pub snoc_both : {X Y : Type 0} (R : X → Y → Type 0) (xs : List X) (ys : List Y) (x d : X) (y e : Y) → length xs ≡ length ys
    → ((k : ℕ) → R (get_or xs k d) (get_or ys k e)) → R x y → (k : ℕ) → R (get_or (xs ++ x ∷ []) k d) (get_or (ys ++ y ∷ []) k e)
snoc_both R [] [] x d y e same all new zero = new
snoc_both R [] [] x d y e same all new (suc k) = all k
snoc_both R [] (b ∷ ys) x d y e same all new k = absurd (omega arith)
snoc_both R (a ∷ xs) [] x d y e same all new k = absurd (omega arith)
snoc_both R (a ∷ xs) (b ∷ ys) x d y e same all new zero = all 0
snoc_both R (a ∷ xs) (b ∷ ys) x d y e same all new (suc k) = snoc_both R xs ys x d y e (omega arith) (λ n. all (suc n)) new k

put_by : {X Y : Type 0} (R : X → Y → Type 0) (xs : List X) (ys : List Y) (i : ℕ) (x d : X) (y e : Y) (b c : Bool) → b ≡ c → length xs ≡ length ys
    → ((k : ℕ) → R (get_or xs k d) (get_or ys k e)) → R x y
    → (k : ℕ) → R (get_or (cond b (set xs i x) (xs ++ x ∷ [])) k d) (get_or (cond c (set ys i y) (ys ++ y ∷ [])) k e)
put_by R xs ys i x d y e true true is same all new k = set_both R xs ys i x d y e same all new k
put_by R xs ys i x d y e false false is same all new k = snoc_both R xs ys x d y e same all new k
put_by R xs ys i x d y e true false is same all new k = absurd (cc)
put_by R xs ys i x d y e false true is same all new k = absurd (cc)

pub put_both : {X Y : Type 0} (R : X → Y → Type 0) (xs : List X) (ys : List Y) (i : ℕ) (x d : X) (y e : Y) → length xs ≡ length ys
    → ((k : ℕ) → R (get_or xs k d) (get_or ys k e)) → R x y → (k : ℕ) → R (get_or (put xs i x) k d) (get_or (put ys i y) k e)
put_both R xs ys i x d y e same all new k =
    put_by R xs ys i x d y e (nat_lt i (length xs)) (nat_lt i (length ys)) (ap (λ (n : ℕ). nat_lt i n) same) same all new k

-- the lengths of two lists into which something is put stay equal
length_by : {X Y : Type 0} (xs : List X) (ys : List Y) (i : ℕ) (x : X) (y : Y) (b c : Bool) → b ≡ c → length xs ≡ length ys
    → length (cond b (set xs i x) (xs ++ x ∷ [])) ≡ length (cond c (set ys i y) (ys ++ y ∷ []))
length_by xs ys i x y true true is same = length-set xs i x ∙ same ∙ sym (length-set ys i y)
length_by xs ys i x y false false is same = (let a = length-append xs (x ∷ []) in let b = length-append ys (y ∷ []) in omega arith)
length_by xs ys i x y true false is same = absurd (cc)
length_by xs ys i x y false true is same = absurd (cc)

pub put_long : {X Y : Type 0} (xs : List X) (ys : List Y) (i : ℕ) (x : X) (y : Y) → length xs ≡ length ys → length (put xs i x) ≡ length (put ys i y)
put_long xs ys i x y same = length_by xs ys i x y (nat_lt i (length xs)) (nat_lt i (length ys)) (ap (λ (n : ℕ). nat_lt i n) same) same

-- what holds of each element, also past the end, holds after a set, a push and a put
pub set_each : {X : Type 0} (P : X → Type 0) (xs : List X) (i : ℕ) (x d : X) → ((k : ℕ) → k < length xs → P (get_or xs k d)) → P x
    → (k : ℕ) → k < length (set xs i x) → P (get_or (set xs i x) k d)
set_each P [] i x d all new k h = absurd (omega arith)
set_each P (a ∷ xs) zero x d all new zero h = new
set_each P (a ∷ xs) zero x d all new (suc k) h = all (suc k) (omega arith)
set_each P (a ∷ xs) (suc i) x d all new zero h = all 0 (omega arith)
set_each P (a ∷ xs) (suc i) x d all new (suc k) h = set_each P xs i x d (λ n l. all (suc n) (omega arith)) new k (omega arith)

snoc_each : {X : Type 0} (P : X → Type 0) (xs : List X) (x d : X) → ((k : ℕ) → k < length xs → P (get_or xs k d)) → P x
    → (k : ℕ) → k < length (xs ++ x ∷ []) → P (get_or (xs ++ x ∷ []) k d)
snoc_each P [] x d all new zero h = new
snoc_each P [] x d all new (suc k) h = absurd (omega arith)
snoc_each P (a ∷ xs) x d all new zero h = all 0 (omega arith)
snoc_each P (a ∷ xs) x d all new (suc k) h = snoc_each P xs x d (λ n l. all (suc n) (omega arith)) new k (omega arith)

each_by : {X : Type 0} (P : X → Type 0) (xs : List X) (i : ℕ) (x d : X) (b : Bool) → ((k : ℕ) → k < length xs → P (get_or xs k d)) → P x
    → (k : ℕ) → k < length (cond b (set xs i x) (xs ++ x ∷ [])) → P (get_or (cond b (set xs i x) (xs ++ x ∷ [])) k d)
each_by P xs i x d true all new k h = set_each P xs i x d all new k h
each_by P xs i x d false all new k h = snoc_each P xs x d all new k h

pub put_each : {X : Type 0} (P : X → Type 0) (xs : List X) (i : ℕ) (x d : X) → ((k : ℕ) → k < length xs → P (get_or xs k d)) → P x
    → (k : ℕ) → k < length (put xs i x) → P (get_or (put xs i x) k d)
put_each P xs i x d all new k h = each_by P xs i x d (nat_lt i (length xs)) all new k h
