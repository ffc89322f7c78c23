-- The order of codes is the bytewise order of names.
use Rattle.std.proofs.Common.{◌≡◌, ℕ, zero, suc, ◌+◌, ◌-◌, ◌*◌, ◌^◌, ◌<◌, ◌≤◌, true, List, [], ◌∷◌, ◌++◌, length, refl, ap, ◌∙◌, arith, length-append}
use Rattle.std.proofs.lemmas.List.{length-replicate}
use Rattle.std.proofs.lemmas.Bool.Decides.{nat_tests}
use Rattle.std.proofs.lemmas.Nat.{mul-le}
use Rattle.std.specs.Prelude.{replicate}
use Rattle.std.specs.List.{list_all}
use Rattle.std.specs.Cmp.Lexicographic.{slice_cmp}
use Rattle.std.specs.declared.cmp.Ordering.TheVariants.{Less, Equal, Greater}
use Rattle.std.proofs.lemmas.Bool.{cases_order}
use Rattle.std.proofs.Common.{inl, inr}
use Rattle.std.specs.Ordering.{nat_cmp, ordering_then}
use Rattle.kat_num.specs.Bytes.{is_name_byte}
use Rattle.kat_num.specs.Names.{IsName, big_endian, code_of}
use Rattle.kat_num.specs.declared.names.TheConstants.{NAME_LIMIT}
use Rattle.kat_num.proofs.NameCodes.{AreBytes, AreBytes-padded, and_parts, big_endian-lt}

less : (a b : ℕ) → a < b → nat_cmp a b ≡ Less
less a b h = grind (arith, nat_tests)

greater : (a b : ℕ) → b < a → nat_cmp a b ≡ Greater
greater a b h = grind (arith, nat_tests)

equal : (a : ℕ) → nat_cmp a a ≡ Equal
equal a = grind (arith, nat_tests)

-- a first digit that is less makes the number less
front_decides : (x y p low high : ℕ) → x < y → low < p → x * p + low < y * p + high
front_decides x y p low high h small =
    let more : (x + 1) * p ≤ y * p = mul-le (x + 1) p y p (omega arith) (omega arith) in
    omega arith

shifted : (k a b : ℕ) → nat_cmp (k + a) (k + b) ≡ nat_cmp a b
shifted k a b = grind (arith, nat_tests)

-- numbers of as many digits compare as their digits do
big_endian_cmp : (some other : List ℕ) → length some ≡ length other → AreBytes some → AreBytes other
    → nat_cmp (big_endian some) (big_endian other) ≡ slice_cmp nat_cmp some other
big_endian_cmp [] [] e s o = equal 0
big_endian_cmp [] (y ∷ other) e s o = absurd (omega arith)
big_endian_cmp (x ∷ some) [] e s o = absurd (omega arith)
big_endian_cmp (x ∷ some) (y ∷ other) e s o =
    let tails : length some ≡ length other = omega arith in
    let ih = big_endian_cmp some other tails s.1 o.1 in
    elim (cases_order x y) [
      | inl h ↦ rw (h, equal y, tails, shifted (y * 256 ^ length other) (big_endian some) (big_endian other)) ih
      | inr w ↦ elim w [
        | inl h ↦ rw (less x y h, tails) (less _ _ (front_decides x y (256 ^ length other) (big_endian some) (big_endian other) h (rw (← tails) (big_endian-lt some s.1))))
        | inr h ↦ rw (greater x y h, tails) (greater _ _ (front_decides y x (256 ^ length other) (big_endian other) (big_endian some) h (big_endian-lt other o.1)))
      ]
    ]

zeros_cmp : (m n : ℕ) → m ≡ n → slice_cmp nat_cmp (replicate {A = ℕ} m 0) (replicate {A = ℕ} n 0) ≡ Equal
zeros_cmp zero zero e = refl
zeros_cmp zero (suc n) e = absurd (omega arith)
zeros_cmp (suc m) zero e = absurd (omega arith)
zeros_cmp (suc m) (suc n) e = rw (equal 0) (zeros_cmp m n (omega arith))

above_zero : (byte : ℕ) → is_name_byte byte ≡ true → 0 < byte
above_zero byte h = grind (arith, nat_tests)

-- padding does not change the order
padded_cmp : (some other : List ℕ) (m n : ℕ) → length some + m ≡ length other + n
    → list_all is_name_byte some ≡ true → list_all is_name_byte other ≡ true
    → slice_cmp nat_cmp (some ++ replicate m 0) (other ++ replicate n 0) ≡ slice_cmp nat_cmp some other
padded_cmp [] [] m n e s o = zeros_cmp m n (omega arith)
padded_cmp [] (y ∷ other) zero n e s o = absurd (omega arith)
padded_cmp [] (y ∷ other) (suc m) n e s o = rw (less 0 y (above_zero y (and_parts _ _ o).0)) refl
padded_cmp (x ∷ some) [] m zero e s o = absurd (omega arith)
padded_cmp (x ∷ some) [] m (suc n) e s o = rw (greater x 0 (above_zero x (and_parts _ _ s).0)) refl
padded_cmp (x ∷ some) (y ∷ other) m n e s o =
    ap (ordering_then (nat_cmp x y)) (padded_cmp some other m n (omega arith) (and_parts _ _ s).1 (and_parts _ _ o).1)

pub code_of_cmp : (some other : List ℕ) → IsName some → IsName other → nat_cmp (code_of some) (code_of other) ≡ slice_cmp nat_cmp some other
code_of_cmp some other s o =
    let m : ℕ = NAME_LIMIT - length some in
    let n : ℕ = NAME_LIMIT - length other in
    let long : length (some ++ replicate {A = ℕ} m 0) ≡ length (other ++ replicate {A = ℕ} n 0) =
    omega (arith, s.short, o.short, length-append some (replicate {A = ℕ} m 0), length-append other (replicate {A = ℕ} n 0), length-replicate {A = ℕ} m 0, length-replicate {A = ℕ} n 0) in
    big_endian_cmp (some ++ replicate m 0) (other ++ replicate n 0) long (AreBytes-padded some m s.each) (AreBytes-padded other n o.each)
    ∙ padded_cmp some other m n (omega (arith, s.short, o.short)) s.each o.each

-- a code has 15 bytes
pub code_of-lt : (name : List ℕ) → IsName name → code_of name < 2 ^ 120
code_of-lt name h =
    let n : ℕ = NAME_LIMIT - length name in
    let long : length (name ++ replicate {A = ℕ} n 0) ≡ 15 =
    omega (arith, h.short, length-append name (replicate {A = ℕ} n 0), length-replicate {A = ℕ} n 0) in
    let below : big_endian (name ++ replicate {A = ℕ} n 0) < 256 ^ length (name ++ replicate {A = ℕ} n 0) = big_endian-lt (name ++ replicate n 0) (AreBytes-padded name n h.each) in
    rw long at below
