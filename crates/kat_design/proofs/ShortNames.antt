-- The name of a code has at most fifteen bytes, whatever the code is.
use Rattle.std.proofs.Common.{◌≡◌, ℕ, zero, suc, ◌≤◌, Bool, true, false, cond, List, [], ◌∷◌, length, refl, ap, arith}
use Rattle.std.specs.List.{take_while}
use Rattle.std.proofs.lemmas.List.Sums.{take_while-cons}
use Rattle.kat_num.proofs.NameCodes.{name_whole, not_zero}
use Rattle.kat_num.specs.Names.{low_bytes, name_of_code}
use Rattle.kat_num.specs.declared.names.TheConstants.{NAME_LIMIT}

one_more : (p : Bool) (x : ℕ) (xs ys : List ℕ) → length xs ≤ length ys → length (cond p (x ∷ xs) []) ≤ length (x ∷ ys)
one_more true x xs ys h = omega arith
one_more false x xs ys h = omega arith

front_short : (p : ℕ → Bool) (xs : List ℕ) → length (take_while p xs) ≤ length xs
front_short p [] = omega arith
front_short p (x ∷ xs) = rw (take_while-cons p x xs) (one_more (p x) x (take_while p xs) xs (front_short p xs))

bytes_long : (n code : ℕ) → length (low_bytes n code) ≡ n
unfolding low_bytes
bytes_long zero code = refl
bytes_long (suc n) code = ap suc (bytes_long n code)

pub name_short : (code : ℕ) → length (name_of_code code) ≤ NAME_LIMIT
name_short code =
    let front : length (take_while not_zero (low_bytes NAME_LIMIT code)) ≤ length (low_bytes NAME_LIMIT code) = front_short not_zero (low_bytes NAME_LIMIT code) in
    rw (name_whole code) (omega (arith, front, bytes_long NAME_LIMIT code))
