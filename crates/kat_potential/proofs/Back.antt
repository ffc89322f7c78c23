-- Going back over differences: the denominator stays 1, and the values grow by at most one constant at each step.
use Rattle.std.proofs.Common.{◌≡◌, ◌≢◌, ℕ, zero, suc, ◌+◌, ◌*◌, ◌==◌, ◌^◌, ◌<◌, ◌≤◌, ◌⊎◌, ℤ, pos, negsuc, ◌+ℤ◌, ◌-ℤ◌, ◌*ℤ◌, neg_ℤ, unsigned_abs, List, [], ◌∷◌, map, set, get_or, Bool, true, false, if◌then◌else◌, Contains, All, ⊎_elim, refl, sym, ap, ◌∙◌, subst, arith}
use Prim.Native.Nat.{◌∣◌}
use Rattle.std.specs.Prelude.{int_lt, int_div}
use Rattle.std.proofs.lemmas.Int.{ints, unsigned_abs-mul}
use Rattle.std.proofs.lemmas.Bool.{le-leb, ne_eqb, eq-eqb}
use Rattle.std.proofs.lemmas.Nat.Gcd.{dvd_trans, dvd_refl, le_of_dvd}
use Rattle.std.proofs.lemmas.List.{get_or-set_other}
use Rattle.std.proofs.lemmas.List.Elements.{All-head, All-tail, All-weaker, All-set}
use Rattle.kat_linear.proofs.Integers.{mul_one}
use Rattle.kat_fm.specs.Limits.{and_then, checked_product, checked_sum, checked_dot, checked_scaled}
use Rattle.kat_fm.specs.Limits.Checked.{fits}
use Rattle.kat_fm.specs.Combinations.{Combination, at, gcd, counted}
use Rattle.kat_fm.specs.Points.{Taken, Values, Bound, sum_at, bound_at, better_bound, best_from, best_of, bound_of, gcd_all, lowest, valued, values_back}
use Rattle.kat_fm.proofs.Certificates.{behind as further}
use Rattle.kat_fm.proofs.Divisors.{gcd_is}
use Rattle.kat_potential.specs.Differences.{unit}
use Rattle.kat_potential.proofs.Fitting.{Holds, holds_then, holds_weaker, product_is, sum_is, gap, gaps}

-- ---- how great a sum of products may be
abbrev pub load : List ℤ → List ℤ → ℕ
load [] ns = 0
load (c ∷ cs) [] = 0
load (c ∷ cs) (n ∷ ns) = unsigned_abs c * unsigned_abs n + load cs ns

abs_sum : (a b : ℤ) (m n : ℕ) → unsigned_abs a ≤ m → unsigned_abs b ≤ n → unsigned_abs (a +ℤ b) ≤ m + n
abs_sum a b m n h k = omega (arith, ints, h, k)

dot_low : (so_far : ℕ) (sum : ℤ) (cs ns : List ℤ) → unsigned_abs sum ≤ so_far → so_far + load cs ns ≤ 2 ^ 126 → Holds (λ (z : ℤ). unsigned_abs z ≤ so_far + load cs ns) (checked_dot (2 ^ 126) sum cs ns)
dot_low so_far sum [] ns h most = omega (arith, h)
dot_low so_far sum (c ∷ cs) [] h most = omega (arith, h)
dot_low so_far sum (c ∷ cs) (n ∷ ns) h most =
    let one = unsigned_abs c * unsigned_abs n in
    let size : unsigned_abs (c *ℤ n) ≡ one = unsigned_abs-mul c n in
    let next : unsigned_abs (sum +ℤ (c *ℤ n)) ≤ so_far + one = abs_sum sum (c *ℤ n) so_far one h (omega (arith, size)) in
    holds_then (λ (x : ℤ). x ≡ c *ℤ n) (λ (z : ℤ). unsigned_abs z ≤ so_far + (one + load cs ns)) (checked_product (2 ^ 126) c n) (λ x. and_then (checked_sum (2 ^ 126) sum x) (λ s. checked_dot (2 ^ 126) s cs ns))
    (product_is (2 ^ 126) c n (c *ℤ n) refl (omega (arith, size, most)))
    (λ x e. holds_then (λ (s : ℤ). s ≡ sum +ℤ (c *ℤ n)) (λ (z : ℤ). unsigned_abs z ≤ so_far + (one + load cs ns)) (checked_sum (2 ^ 126) sum x) (λ s. checked_dot (2 ^ 126) s cs ns)
    (sum_is (2 ^ 126) sum x (sum +ℤ (c *ℤ n)) (ap (λ (u : ℤ). sum +ℤ u) e) (omega (arith, next, most)))
    (λ s k. let small : unsigned_abs s ≤ so_far + one = (let P : ℤ → Type 0 = λ (u : ℤ). unsigned_abs u ≤ so_far + one in subst P (sym k) next) in
    holds_weaker (λ (z : ℤ). unsigned_abs z ≤ (so_far + one) + load cs ns) (λ (z : ℤ). unsigned_abs z ≤ so_far + (one + load cs ns)) (checked_dot (2 ^ 126) s cs ns)
    (dot_low (so_far + one) s cs ns small (omega (arith, most))) (λ z l. omega (arith, l))))

-- one variable's part of such a sum
zero_times : (k : ℕ) → 0 * k ≡ 0
zero_times k = omega arith

none_before : (place from n : ℕ) (ns : List ℤ) → place < from → load (map (unit place) (counted from n)) ns ≤ 0
none_before place from zero ns h = omega arith
none_before place from (suc n) [] h = omega arith
none_before place from (suc n) (x ∷ ns) h =
    let rest = none_before place (suc from) n ns (omega (arith, h)) in
    let none : unit place from ≡ pos 0 = ap (λ (b : Bool). if b then pos 1 else pos 0) (ne_eqb place from (λ e. omega (arith, e, h))) in
    let size : unsigned_abs (unit place from) * unsigned_abs x ≡ 0 = ap (λ (c : ℤ). unsigned_abs c * unsigned_abs x) none ∙ zero_times (unsigned_abs x) in
    omega (arith, rest, size)

one_of : (from i n : ℕ) (ns : List ℤ) → load (map (unit (from + i)) (counted from n)) ns ≤ unsigned_abs (get_or ns i (pos 0))
one_of from i zero ns = omega arith
one_of from i (suc n) [] = omega arith
one_of from zero (suc n) (x ∷ ns) =
    let rest = none_before (from + 0) (suc from) n ns (omega arith) in
    let here : unit (from + 0) from ≡ pos 1 = ap (λ (b : Bool). if b then pos 1 else pos 0) (eq-eqb (from + 0) from (omega arith)) in
    let size : unsigned_abs (unit (from + 0) from) * unsigned_abs x ≡ 1 * unsigned_abs x = ap (λ (c : ℤ). unsigned_abs c * unsigned_abs x) here in
    omega (arith, rest, size)
one_of from (suc i) (suc n) (x ∷ ns) =
    let on : suc from + i ≡ from + suc i = omega arith in
    let rest : load (map (unit (from + suc i)) (counted (suc from) n)) ns ≤ unsigned_abs (get_or ns i (pos 0)) =
    (let P : ℕ → Type 0 = λ k. load (map (unit k) (counted (suc from) n)) ns ≤ unsigned_abs (get_or ns i (pos 0)) in subst P on (one_of (suc from) i n ns)) in
    let none : unit (from + suc i) from ≡ pos 0 = ap (λ (b : Bool). if b then pos 1 else pos 0) (ne_eqb (from + suc i) from (λ e. omega (arith, e))) in
    let size : unsigned_abs (unit (from + suc i) from) * unsigned_abs x ≡ 0 = ap (λ (c : ℤ). unsigned_abs c * unsigned_abs x) none ∙ zero_times (unsigned_abs x) in
    omega (arith, rest, size)

-- a difference's
both_parts : (lower higher : ℕ) (vs : List ℕ) (ns : List ℤ) → load (map (gap lower higher) vs) ns ≤ load (map (unit lower) vs) ns + load (map (unit higher) vs) ns
both_parts lower higher [] ns = omega arith
both_parts lower higher (v ∷ vs) [] = omega arith
both_parts lower higher (v ∷ vs) (n ∷ ns) =
    let rest = both_parts lower higher vs ns in
    let first = at_tests (lower == v) (higher == v) (unsigned_abs n) in
    omega (arith, rest, first)
  where
    at_tests : (b c : Bool) (k : ℕ) → unsigned_abs ((if b then pos 1 else pos 0) -ℤ (if c then pos 1 else pos 0)) * k ≤ unsigned_abs (if b then pos 1 else pos 0) * k + unsigned_abs (if c then pos 1 else pos 0) * k
    at_tests true true k = omega arith
    at_tests true false k = omega arith
    at_tests false true k = omega arith
    at_tests false false k = omega arith

gap_load : (vars lower higher : ℕ) (ns : List ℤ) → load (gaps vars lower higher) ns ≤ unsigned_abs (get_or ns lower (pos 0)) + unsigned_abs (get_or ns higher (pos 0))
gap_load vars lower higher ns =
    let parts = both_parts lower higher (counted 0 vars) ns in
    let zero_on : (k : ℕ) → 0 + k ≡ k = λ k. omega arith in
    let part : (k : ℕ) → load (map (unit k) (counted 0 vars)) ns ≤ unsigned_abs (get_or ns k (pos 0)) =
    λ k. (let P : ℕ → Type 0 = λ j. load (map (unit j) (counted 0 vars)) ns ≤ unsigned_abs (get_or ns k (pos 0)) in subst P (zero_on k) (one_of 0 k vars ns)) in
    let a = part lower in let b = part higher in
    omega (arith, parts, a, b)

get_low : (low : ℕ) (ns : List ℤ) (v : ℕ) → All (λ (n : ℤ). unsigned_abs n ≤ low) ns → unsigned_abs (get_or ns v (pos 0)) ≤ low
get_low low [] v h = omega arith
get_low low (n ∷ ns) zero h = All-head (λ (z : ℤ). unsigned_abs z ≤ low) n ns h
get_low low (n ∷ ns) (suc v) h = get_low low ns v (All-tail (λ (z : ℤ). unsigned_abs z ≤ low) n ns h)

-- ---- a row of the variable that is valued
pub record IsSided (vars most v : ℕ) (row : Combination) : Type 0 where
  pub lower : ℕ
  pub higher : ℕ
  pub coefficients : row.coefficients ≡ gaps vars lower higher
  pub constant : unsigned_abs row.constant ≤ most
  pub side : (lower ≡ v) ⊎ (higher ≡ v)
  pub factor : unsigned_abs (at v row) ≡ 1

-- the values: the denominator is 1, none is greater, and a variable that isn't valued has 0
pub record AreLow (low v : ℕ) (values : Values) : Type 0 where
  pub den : values.den ≡ pos 1
  pub nums : All (λ (n : ℤ). unsigned_abs n ≤ low) values.nums
  pub none : get_or values.nums v (pos 0) ≡ pos 0

side_load : (vars most low v : ℕ) (values : Values) (row : Combination) → AreLow low v values → IsSided vars most v row → load row.coefficients values.nums ≤ low
side_load vars most low v values row h r =
    let all = gap_load vars r.lower r.higher values.nums in
    let whole : load row.coefficients values.nums ≡ load (gaps vars r.lower r.higher) values.nums = ap (λ (cs : List ℤ). load cs values.nums) r.coefficients in
    let a = get_low low values.nums r.lower h.nums in
    let b = get_low low values.nums r.higher h.nums in
    ⊎_elim
    (λ (e : r.lower ≡ v). let z : unsigned_abs (get_or values.nums r.lower (pos 0)) ≡ 0 = ap (λ (k : ℕ). unsigned_abs (get_or values.nums k (pos 0))) e ∙ ap unsigned_abs h.none in omega (arith, all, whole, b, z))
    (λ (e : r.higher ≡ v). let z : unsigned_abs (get_or values.nums r.higher (pos 0)) ≡ 0 = ap (λ (k : ℕ). unsigned_abs (get_or values.nums k (pos 0))) e ∙ ap unsigned_abs h.none in omega (arith, all, whole, a, z))
    r.side

sum_low : (vars most low v : ℕ) (values : Values) (row : Combination) → AreLow low v values → IsSided vars most v row → low + most ≤ 2 ^ 126 → Holds (λ (z : ℤ). unsigned_abs z ≤ low + most) (sum_at values row)
sum_low vars most low v values row h r room =
    let l = side_load vars most low v values row h r in
    let c = r.constant in
    let product : row.constant *ℤ values.den ≡ row.constant = ap (λ (d : ℤ). row.constant *ℤ d) h.den ∙ mul_one row.constant in
    holds_then (λ (z : ℤ). unsigned_abs z ≤ 0 + load row.coefficients values.nums) (λ (z : ℤ). unsigned_abs z ≤ low + most) (checked_dot (2 ^ 126) (pos 0) row.coefficients values.nums) (λ s. and_then (checked_product (2 ^ 126) row.constant values.den) (λ k. checked_sum (2 ^ 126) s k))
    (dot_low 0 (pos 0) row.coefficients values.nums (omega arith) (omega (arith, l, room)))
    (λ s a. holds_then (λ (k : ℤ). k ≡ row.constant) (λ (z : ℤ). unsigned_abs z ≤ low + most) (checked_product (2 ^ 126) row.constant values.den) (λ k. checked_sum (2 ^ 126) s k)
    (product_is (2 ^ 126) row.constant values.den row.constant product (omega (arith, c, room)))
    (λ k e.
    let small : unsigned_abs (s +ℤ row.constant) ≤ low + most = abs_sum s row.constant low most (omega (arith, a, l)) c in
    holds_weaker (λ (z : ℤ). z ≡ s +ℤ row.constant) (λ (z : ℤ). unsigned_abs z ≤ low + most) (checked_sum (2 ^ 126) s k)
    (sum_is (2 ^ 126) s k (s +ℤ row.constant) (ap (λ (u : ℤ). s +ℤ u) e) (omega (arith, small, room)))
    (λ z f. let P : ℤ → Type 0 = λ (u : ℤ). unsigned_abs u ≤ low + most in subst P (sym f) small)))

-- ---- bounds
pub record IsLowBound (low : ℕ) (b : Bound) : Type 0 where
  pub numerator : unsigned_abs b.numerator ≤ low
  pub factor : b.factor ≡ pos 1

opposite_low : (z : ℤ) → unsigned_abs (neg_ℤ z) ≡ unsigned_abs z
opposite_low (pos zero) = refl
opposite_low (pos (suc n)) = refl
opposite_low (negsuc n) = refl

sided_low : (lower : Bool) (s : ℤ) (low : ℕ) → unsigned_abs s ≤ low → unsigned_abs (if lower then s else neg_ℤ s) ≤ low
sided_low true s low h = h
sided_low false s low h = let e = opposite_low s in omega (arith, e, h)

bound_low : (lower : Bool) (vars most low v : ℕ) (values : Values) (row : Combination) → AreLow low v values → IsSided vars most v row → low + most ≤ 2 ^ 126 → Holds (IsLowBound (low + most)) (bound_at lower v values row)
bound_low lower vars most low v values row h r room =
    holds_then (λ (z : ℤ). unsigned_abs z ≤ low + most) (IsLowBound (low + most)) (sum_at values row) (λ s. fits (record { numerator = if lower then s else neg_ℤ s; factor = pos (unsigned_abs (at v row)) })) (sum_low vars most low v values row h r room)
    (λ s a. record { numerator = sided_low lower s (low + most) a; factor = ap pos r.factor })

either_bound : (low : ℕ) (b : Bool) (new kept : Bound) → IsLowBound low new → IsLowBound low kept → IsLowBound low (if b then new else kept)
either_bound low true new kept h k = h
either_bound low false new kept h k = k

times_one : (low : ℕ) (z f : ℤ) → f ≡ pos 1 → unsigned_abs z ≤ low → low ≤ 2 ^ 126 → Holds (λ (x : ℤ). x ≡ z) (checked_product (2 ^ 126) z f)
times_one low z f e h room = product_is (2 ^ 126) z f z (ap (λ (u : ℤ). z *ℤ u) e ∙ mul_one z) (omega (arith, h, room))

better_low : (low : ℕ) (lower : Bool) (new kept : Bound) → IsLowBound low new → IsLowBound low kept → low ≤ 2 ^ 126 → Holds (IsLowBound low) (better_bound lower new kept)
better_low low lower new kept h k room =
    holds_then (λ (x : ℤ). x ≡ new.numerator) (IsLowBound low) (checked_product (2 ^ 126) new.numerator kept.factor) (λ l.
    and_then (checked_product (2 ^ 126) kept.numerator new.factor) (λ r.
    fits (if (if lower then int_lt r l else int_lt l r) then new else kept))) (times_one low new.numerator kept.factor k.factor h.numerator room)
    (λ l e. holds_then (λ (x : ℤ). x ≡ kept.numerator) (IsLowBound low) (checked_product (2 ^ 126) kept.numerator new.factor) (λ r.
    fits (if (if lower then int_lt r l else int_lt l r) then new else kept)) (times_one low kept.numerator new.factor h.factor k.numerator room)
    (λ r f. either_bound low (if lower then int_lt r l else int_lt l r) new kept h k))

abbrev pub AreSided : ℕ → ℕ → ℕ → List Combination → Type 0
AreSided vars most v rows = (row : Combination) → Contains rows row → IsSided vars most v row

best_from_low : (lower : Bool) (vars most low v : ℕ) (values : Values) (kept : Bound) (rows : List Combination) → AreLow low v values → IsLowBound (low + most) kept → AreSided vars most v rows → low + most ≤ 2 ^ 126 → Holds (IsLowBound (low + most)) (best_from lower v values kept rows)
best_from_low lower vars most low v values kept [] h k all room = k
best_from_low lower vars most low v values kept (row ∷ rows) h k all room =
    holds_then (IsLowBound (low + most)) (IsLowBound (low + most)) (bound_at lower v values row) (λ new. and_then (better_bound lower new kept) (λ best. best_from lower v values best rows))
    (bound_low lower vars most low v values row h (all row (0, omega arith, refl)) room)
    (λ new e. holds_then (IsLowBound (low + most)) (IsLowBound (low + most)) (better_bound lower new kept) (λ best. best_from lower v values best rows) (better_low (low + most) lower new kept e k room)
    (λ best f. best_from_low lower vars most low v values best rows h f (λ r has. all r (further row r rows has)) room))

best_low : (lower : Bool) (vars most low v : ℕ) (values : Values) (rows : List Combination) → AreLow low v values → AreSided vars most v rows → low + most ≤ 2 ^ 126 → Holds (IsLowBound (low + most)) (best_of lower v values rows)
best_low lower vars most low v values [] h all room = record { numerator = omega arith; factor = refl }
best_low lower vars most low v values (row ∷ rows) h all room =
    holds_then (IsLowBound (low + most)) (IsLowBound (low + most)) (bound_at lower v values row) (λ b. best_from lower v values b rows) (bound_low lower vars most low v values row h (all row (0, omega arith, refl)) room)
    (λ b e. best_from_low lower vars most low v values b rows h e (λ r has. all r (further row r rows has)) room)

bound_of_low : (vars most low v : ℕ) (values : Values) (minus plus : List Combination) → AreLow low v values → AreSided vars most v minus → AreSided vars most v plus → low + most ≤ 2 ^ 126 → Holds (IsLowBound (low + most)) (bound_of v values minus plus)
bound_of_low vars most low v values [] plus h a b room = best_low false vars most low v values plus h b room
bound_of_low vars most low v values (row ∷ rows) plus h a b room = best_low true vars most low v values (row ∷ rows) h a room

-- ---- values in lowest terms
all_divide : (g : ℕ) (ns : List ℤ) → g ∣ 1 → gcd_all g ns ∣ 1
all_divide g [] h = h
all_divide g (n ∷ ns) h = all_divide (gcd g (unsigned_abs n)) ns (dvd_trans (gcd g (unsigned_abs n)) (gcd_is g (unsigned_abs n)).0 h)

lowest_same : (values : Values) → values.den ≡ pos 1 → lowest values ≡ values
lowest_same values e =
    let g = gcd_all (unsigned_abs values.den) values.nums in
    let one : unsigned_abs values.den ≡ 1 = ap unsigned_abs e in
    let divides : unsigned_abs values.den ∣ 1 = (let P : ℕ → Type 0 = λ n. n ∣ 1 in subst P (sym one) (dvd_refl 1)) in
    let small : g ≤ 1 = le_of_dvd {m = g} {n = 1} (omega arith) (all_divide (unsigned_abs values.den) values.nums divides) in
    ap (λ (b : Bool). if b then values else record { den = int_div values.den (pos g); nums = map (λ n. int_div n (pos g)) values.nums }) (le-leb g 1 small)

scaled_same : (low : ℕ) (ns : List ℤ) (f : ℤ) → f ≡ pos 1 → All (λ (n : ℤ). unsigned_abs n ≤ low) ns → low ≤ 2 ^ 126 → Holds (λ (zs : List ℤ). zs ≡ ns) (checked_scaled (2 ^ 126) ns f)
scaled_same low [] f e h room = refl
scaled_same low (n ∷ ns) f e h room =
    holds_then (λ (x : ℤ). x ≡ n) (λ (zs : List ℤ). zs ≡ n ∷ ns) (checked_product (2 ^ 126) n f) (λ y. and_then (checked_scaled (2 ^ 126) ns f) (λ ys. fits (y ∷ ys)))
    (times_one low n f e (All-head (λ (z : ℤ). unsigned_abs z ≤ low) n ns h) room)
    (λ y a. holds_then (λ (zs : List ℤ). zs ≡ ns) (λ (zs : List ℤ). zs ≡ n ∷ ns) (checked_scaled (2 ^ 126) ns f) (λ ys. fits (y ∷ ys)) (scaled_same low ns f e (All-tail (λ (z : ℤ). unsigned_abs z ≤ low) n ns h) room)
    (λ ys k. ap (λ (x : ℤ). x ∷ ys) a ∙ ap (λ (xs : List ℤ). n ∷ xs) k))

-- what becomes of the values
pub record IsNext (low v : ℕ) (old new : Values) : Type 0 where
  pub den : new.den ≡ pos 1
  pub nums : All (λ (n : ℤ). unsigned_abs n ≤ low) new.nums
  pub others : (u : ℕ) → u ≢ v → get_or new.nums u (pos 0) ≡ get_or old.nums u (pos 0)

next_values : (low more v : ℕ) (old : Values) (b : Bound) (nums : List ℤ) (d : ℤ) → low ≤ more → AreLow low v old → IsLowBound more b → nums ≡ old.nums → d ≡ pos 1
    → IsNext more v old (lowest (record { den = d; nums = set nums v b.numerator }))
next_values low more v old b nums d grows h k e f =
    let new : Values = record { den = d; nums = set nums v b.numerator } in
    let P : Values → Type 0 = IsNext more v old in
    let all : All (λ (n : ℤ). unsigned_abs n ≤ more) nums =
    (let Q : List ℤ → Type 0 = All (λ (n : ℤ). unsigned_abs n ≤ more) in subst Q (sym e) (All-weaker (λ (n : ℤ). unsigned_abs n ≤ low) (λ (n : ℤ). unsigned_abs n ≤ more) (λ n l. omega (arith, l, grows)) old.nums h.nums)) in
    subst P (sym (lowest_same new f)) (record {
      den = f;
      nums = All-set (λ (n : ℤ). unsigned_abs n ≤ more) nums v b.numerator k.numerator all;
      others = λ u apart. get_or-set_other nums v u b.numerator (pos 0) apart ∙ ap (λ (ns : List ℤ). get_or ns u (pos 0)) e;
    })

valued_low : (low more v : ℕ) (values : Values) (b : Bound) → low ≤ more → more ≤ 2 ^ 126 → AreLow low v values → IsLowBound more b → Holds (IsNext more v values) (valued v values b)
valued_low low more v values b grows room h k =
    holds_then (λ (zs : List ℤ). zs ≡ values.nums) (IsNext more v values) (checked_scaled (2 ^ 126) values.nums b.factor) (λ nums.
    and_then (checked_product (2 ^ 126) values.den b.factor) (λ d.
    fits (lowest (record { den = d; nums = set nums v b.numerator })))) (scaled_same low values.nums b.factor k.factor h.nums (omega (arith, grows, room)))
    (λ nums e. holds_then (λ (x : ℤ). x ≡ pos 1) (IsNext more v values) (checked_product (2 ^ 126) values.den b.factor) (λ d.
    fits (lowest (record { den = d; nums = set nums v b.numerator })))
    (product_is (2 ^ 126) values.den b.factor (pos 1) (ap (λ (x : ℤ). x *ℤ b.factor) h.den ∙ ap (λ (x : ℤ). pos 1 *ℤ x) k.factor ∙ mul_one (pos 1)) (omega arith))
    (λ d f. next_values low more v values b nums d grows h k e f))

-- ---- all variables that were taken
-- each variable's rows are differences with it, and it isn't one of those that were taken before
abbrev pub AreTaken : ℕ → ℕ → List Taken → Type 0
AreTaken vars most [] = Unit {0}
AreTaken vars most (t ∷ ts) = AreSided vars most t.variable t.minus × AreSided vars most t.variable t.plus × ((u : Taken) → Contains ts u → u.variable ≢ t.variable) × AreTaken vars most ts

-- how much the values may grow
abbrev pub growth : ℕ → List Taken → ℕ
growth most [] = 0
growth most (t ∷ ts) = most + growth most ts

pub record StayLow (low : ℕ) (taken : List Taken) (values : Values) : Type 0 where
  pub den : values.den ≡ pos 1
  pub nums : All (λ (n : ℤ). unsigned_abs n ≤ low) values.nums
  pub none : (t : Taken) → Contains taken t → get_or values.nums t.variable (pos 0) ≡ pos 0

pub back_low : (vars most low : ℕ) (values : Values) (taken : List Taken) → StayLow low taken values → AreTaken vars most taken → low + growth most taken ≤ 2 ^ 126 → Holds (λ (v : Values). Unit {0}) (values_back values taken)
back_low vars most low values [] h all room = tt
back_low vars most low values (t ∷ ts) h all room =
    let v = t.variable in
    let here : AreLow low t.variable values = record { den = h.den; nums = h.nums; none = h.none t (0, omega arith, refl) } in
    let most_room : low + most ≤ 2 ^ 126 = omega (arith, room) in
    holds_then (IsLowBound (low + most)) (λ (x : Values). Unit {0}) (bound_of t.variable values t.minus t.plus) (λ b. and_then (valued t.variable values b) (λ more. values_back more ts))
    (bound_of_low vars most low t.variable values t.minus t.plus here all.0 all.1 most_room)
    (λ b e. holds_then (IsNext (low + most) t.variable values) (λ (x : Values). Unit {0}) (valued t.variable values b) (λ more. values_back more ts)
    (valued_low low (low + most) t.variable values b (omega arith) most_room here e)
    (λ more k. back_low vars most (low + most) more ts
    (record {
      den = k.den;
      nums = k.nums;
      none = λ u has. k.others u.variable (all.2 u has) ∙ h.none u (further t u ts has);
    }) all.3 (omega (arith, room))))
