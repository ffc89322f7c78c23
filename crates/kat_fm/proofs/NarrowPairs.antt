-- The two numbers of the first product or sum that passes its limit are at most 2^126 themselves.
use Rattle.std.proofs.Common.{◌≡◌, ℕ, zero, suc, ◌+◌, ◌/◌, ◌^◌, ◌≤◌, ℤ, pos, negsuc, ◌+ℤ◌, ◌*ℤ◌, neg_ℤ, unsigned_abs, nat_le, nat_lt, List, [], ◌∷◌, ◌++◌, filter, count_by, replicate, set, map, get_or, length, Bool, true, false, if◌then◌else◌, ⊎_elim, Option, Some, None, Contains, All, refl, subst, arith}
use Rattle.std.specs.Prelude.{int_lt}
use Rattle.std.proofs.Math.Nat.{div-le_self}
use Rattle.std.proofs.lemmas.Bool.{leb-true}
use Rattle.std.proofs.lemmas.List.Elements.{All-head, All-tail, All-nil, All-cons, All-contains, All-set, All-replicate, Contains-append_cases}
use Rattle.kat_linear.specs.Rows.{Form, IsAscending, IsSmall, coefficient}
use Rattle.kat_linear.specs.Sums.{IsNarrow}
use Rattle.kat_fm.specs.Limits.{Checked, and_then, within, checked_product, checked_sum, checked_map, checked_dot, checked_scaled, weighed, weighed_all}
use Rattle.kat_fm.specs.Limits.Checked.{fits, passes}
use Rattle.kat_fm.specs.Combinations.{Combination, at, gcd, weighed_rows, combination_of, counted, given_at, given_from, given}
use Rattle.kat_fm.specs.Points.{Taken, Values, Bound, sum_at, bound_at, better_bound, best_from, best_of, bound_of, lowest, valued, values_back, point_of}
use Rattle.kat_fm.specs.Eliminations.{Solution, contradiction, tidied, is_plus, is_minus, is_rest, pairs, choice_from, couples, next_rows, taken_at, answer_point, go_on, step, begin, rounds, elim_of}
use Rattle.kat_fm.specs.Comparisons.{has_variables}
use Rattle.kat_fm.specs.Eliminations.Solution.{met_at, refuted_by, crowded, goes_wide}
use Rattle.kat_fm.specs.Laws.{WideNumbersAreNarrow}
use Rattle.kat_fm.proofs.Certificates.{filter_within, strongest_within, couples_within, cases_cons, in_nothing, behind as further}
use Rattle.kat_fm.proofs.EntryPlaces.{coefficient_small}
use Rattle.kat_fm.proofs.Returns.{all_smaller, lowest_is, smaller}

-- what fits has the property, and if a limit is passed the two numbers are narrow
abbrev pub Keeps : {A : Type 0} → (A → Type 0) → Checked A → Type 0
Keeps P (fits a) = P a
Keeps P (passes left right) = IsNarrow left × IsNarrow right

keeps_then : {A B : Type 0} (P : A → Type 0) (Q : B → Type 0) (c : Checked A) (f : A → Checked B) → Keeps P c → ((a : A) → P a → Keeps Q (f a)) → Keeps Q (and_then c f)
keeps_then P Q (fits a) f h on = on a h
keeps_then P Q (passes left right) f h on = h

within_case : (b : Bool) (limit : ℕ) (left right z : ℤ) → nat_le (unsigned_abs z) limit ≡ b → limit ≤ 2 ^ 126 → IsNarrow left → IsNarrow right → Keeps IsNarrow (if b then fits z else passes left right)
within_case true limit left right z is most l r = let small = leb-true (unsigned_abs z) limit is in omega (arith, small, most)
within_case false limit left right z is most l r = (l, r)

within_keeps : (limit : ℕ) (left right z : ℤ) → limit ≤ 2 ^ 126 → IsNarrow left → IsNarrow right → Keeps IsNarrow (within limit left right z)
within_keeps limit left right z most l r = within_case (nat_le (unsigned_abs z) limit) limit left right z refl most l r

product_keeps : (limit : ℕ) (a b : ℤ) → limit ≤ 2 ^ 126 → IsNarrow a → IsNarrow b → Keeps IsNarrow (checked_product limit a b)
product_keeps limit a b most h k = within_keeps limit a b (a *ℤ b) most h k

sum_keeps : (limit : ℕ) (a b : ℤ) → limit ≤ 2 ^ 126 → IsNarrow a → IsNarrow b → Keeps IsNarrow (checked_sum limit a b)
sum_keeps limit a b most h k = within_keeps limit a b (a +ℤ b) most h k

same_limit : 2 ^ 126 ≤ 2 ^ 126
same_limit = omega arith

less_limit : 2 ^ 62 ≤ 2 ^ 126
less_limit = omega arith

zero_narrow : IsNarrow (pos 0)
zero_narrow = omega arith

one_narrow : IsNarrow (pos 1)
one_narrow = omega arith

map_keeps : {A B : Type 0} (P : B → Type 0) (f : A → Checked B) (xs : List A) → ((x : A) → Contains xs x → Keeps P (f x)) → Keeps (All P) (checked_map f xs)
map_keeps P f [] h = All-nil P
map_keeps P f (x ∷ xs) h =
    keeps_then P (All P) (f x) (λ y. and_then (checked_map f xs) (λ ys. fits (y ∷ ys))) (h x (0, omega arith, refl))
    (λ y e. keeps_then (All P) (All P) (checked_map f xs) (λ ys. fits (y ∷ ys)) (map_keeps P f xs (λ z k. h z (further x z xs k))) (λ ys k. All-cons P y ys e k))

-- combinations
weighed_keeps : (limit : ℕ) (f p g n : ℤ) → limit ≤ 2 ^ 126 → IsNarrow f → IsNarrow p → IsNarrow g → IsNarrow n → Keeps IsNarrow (weighed limit f p g n)
weighed_keeps limit f p g n most a b c d =
    keeps_then IsNarrow IsNarrow (checked_product limit f p) (λ x. and_then (checked_product limit g n) (λ y. checked_sum limit x y)) (product_keeps limit f p most a b)
    (λ x e. keeps_then IsNarrow IsNarrow (checked_product limit g n) (λ y. checked_sum limit x y) (product_keeps limit g n most c d) (λ y k. sum_keeps limit x y most e k))

weighed_all_keeps : (limit : ℕ) (f : ℤ) (ps : List ℤ) (g : ℤ) (ns : List ℤ) → limit ≤ 2 ^ 126 → IsNarrow f → All IsNarrow ps → IsNarrow g → All IsNarrow ns → Keeps (All IsNarrow) (weighed_all limit f ps g ns)
weighed_all_keeps limit f [] g ns most a b c d = All-nil IsNarrow
weighed_all_keeps limit f (p ∷ ps) g [] most a b c d = All-nil IsNarrow
weighed_all_keeps limit f (p ∷ ps) g (n ∷ ns) most a b c d =
    keeps_then IsNarrow (All IsNarrow) (weighed limit f p g n) (λ z. and_then (weighed_all limit f ps g ns) (λ zs. fits (z ∷ zs)))
    (weighed_keeps limit f p g n most a (All-head IsNarrow p ps b) c (All-head IsNarrow n ns d))
    (λ z e. keeps_then (All IsNarrow) (All IsNarrow) (weighed_all limit f ps g ns) (λ zs. fits (z ∷ zs)) (weighed_all_keeps limit f ps g ns most a (All-tail IsNarrow p ps b) c (All-tail IsNarrow n ns d))
    (λ zs k. All-cons IsNarrow z zs e k))

-- a row's numbers are narrow
pub record IsNarrowRow (row : Combination) : Type 0 where
  pub coefficients : All IsNarrow row.coefficients
  pub constant : IsNarrow row.constant
  pub multipliers : All IsNarrow row.multipliers

rows_keep : (f : ℤ) (p : Combination) (g : ℤ) (n : Combination) → IsNarrow f → IsNarrowRow p → IsNarrow g → IsNarrowRow n → Keeps IsNarrowRow (weighed_rows f p g n)
rows_keep f p g n a b c d =
    keeps_then (All IsNarrow) IsNarrowRow (weighed_all (2 ^ 126) f p.coefficients g n.coefficients) (λ cs.
    and_then (weighed (2 ^ 126) f p.constant g n.constant) (λ k.
    and_then (weighed_all (2 ^ 62) f p.multipliers g n.multipliers) (λ ms.
    fits (record { coefficients = cs; constant = k; multipliers = ms })))) (weighed_all_keeps (2 ^ 126) f p.coefficients g n.coefficients same_limit a b.coefficients c d.coefficients)
    (λ cs x. keeps_then IsNarrow IsNarrowRow (weighed (2 ^ 126) f p.constant g n.constant) (λ k.
    and_then (weighed_all (2 ^ 62) f p.multipliers g n.multipliers) (λ ms.
    fits (record { coefficients = cs; constant = k; multipliers = ms }))) (weighed_keeps (2 ^ 126) f p.constant g n.constant same_limit a b.constant c d.constant)
    (λ k y. keeps_then (All IsNarrow) IsNarrowRow (weighed_all (2 ^ 62) f p.multipliers g n.multipliers) (λ ms.
    fits (record { coefficients = cs; constant = k; multipliers = ms })) (weighed_all_keeps (2 ^ 62) f p.multipliers g n.multipliers less_limit a b.multipliers c d.multipliers)
    (λ ms z. record { coefficients = x; constant = y; multipliers = z })))

get_narrow : (zs : List ℤ) (v : ℕ) → All IsNarrow zs → IsNarrow (get_or zs v (pos 0))
get_narrow [] v h = zero_narrow
get_narrow (z ∷ zs) zero h = All-head IsNarrow z zs h
get_narrow (z ∷ zs) (suc v) h = get_narrow zs v (All-tail IsNarrow z zs h)

at_narrow : (v : ℕ) (row : Combination) → IsNarrowRow row → IsNarrow (at v row)
at_narrow v row h = get_narrow row.coefficients v h.coefficients

part_narrow : (z : ℤ) (k : ℕ) → IsNarrow z → IsNarrow (pos (unsigned_abs z / k))
part_narrow z k h = let less = div-le_self (unsigned_abs z) k in omega (arith, less, h)

combination_keeps : (v : ℕ) (p n : Combination) → IsNarrowRow p → IsNarrowRow n → Keeps IsNarrowRow (combination_of v p n)
unfolding combination_of
combination_keeps v p n h k =
    let g = gcd (unsigned_abs (at v p)) (unsigned_abs (at v n)) in
    rows_keep (pos (unsigned_abs (at v n) / g)) p (pos (unsigned_abs (at v p) / g)) n (part_narrow (at v n) g (at_narrow v n k)) h (part_narrow (at v p) g (at_narrow v p h)) k

abbrev pub AreNarrowRows : List Combination → Type 0
AreNarrowRows rows = (row : Combination) → Contains rows row → IsNarrowRow row

next_keeps : (v : ℕ) (rows : List Combination) → AreNarrowRows rows → Keeps AreNarrowRows (next_rows v rows)
next_keeps v rows h =
    let ps = filter (is_plus v) rows in
    let ns = filter (is_minus v) rows in
    keeps_then (All IsNarrowRow) AreNarrowRows (checked_map (λ (x : Combination × Combination). combination_of v x.0 x.1) (couples ps ns)) (λ new. fits (filter (is_rest v) rows ++ new))
    (map_keeps IsNarrowRow (λ (x : Combination × Combination). combination_of v x.0 x.1) (couples ps ns) (λ x has.
    let both = couples_within ps ns x has in
    combination_keeps v x.0 x.1 (h x.0 (filter_within (is_plus v) rows x.0 both.0)) (h x.1 (filter_within (is_minus v) rows x.1 both.1))))
    (λ new all row has. ⊎_elim
    (λ (old : Contains (filter (is_rest v) rows) row). h row (filter_within (is_rest v) rows row old))
    (λ (late : Contains new row). All-contains IsNarrowRow new row all late)
    (Contains-append_cases (filter (is_rest v) rows) new row has))

-- values
pub record AreNarrowValues (values : Values) : Type 0 where
  pub den : IsNarrow values.den
  pub nums : All IsNarrow values.nums

pub record IsNarrowBound (b : Bound) : Type 0 where
  pub numerator : IsNarrow b.numerator
  pub factor : IsNarrow b.factor

dot_keeps : (sum : ℤ) (cs ns : List ℤ) → IsNarrow sum → All IsNarrow cs → All IsNarrow ns → Keeps IsNarrow (checked_dot (2 ^ 126) sum cs ns)
dot_keeps sum [] ns s a b = s
dot_keeps sum (c ∷ cs) [] s a b = s
dot_keeps sum (c ∷ cs) (n ∷ ns) s a b =
    keeps_then IsNarrow IsNarrow (checked_product (2 ^ 126) c n) (λ x. and_then (checked_sum (2 ^ 126) sum x) (λ t. checked_dot (2 ^ 126) t cs ns))
    (product_keeps (2 ^ 126) c n same_limit (All-head IsNarrow c cs a) (All-head IsNarrow n ns b))
    (λ x e. keeps_then IsNarrow IsNarrow (checked_sum (2 ^ 126) sum x) (λ t. checked_dot (2 ^ 126) t cs ns) (sum_keeps (2 ^ 126) sum x same_limit s e)
    (λ t k. dot_keeps t cs ns k (All-tail IsNarrow c cs a) (All-tail IsNarrow n ns b)))

sum_at_keeps : (values : Values) (row : Combination) → AreNarrowValues values → IsNarrowRow row → Keeps IsNarrow (sum_at values row)
sum_at_keeps values row h k =
    keeps_then IsNarrow IsNarrow (checked_dot (2 ^ 126) (pos 0) row.coefficients values.nums) (λ s. and_then (checked_product (2 ^ 126) row.constant values.den) (λ c. checked_sum (2 ^ 126) s c))
    (dot_keeps (pos 0) row.coefficients values.nums zero_narrow k.coefficients h.nums)
    (λ s e. keeps_then IsNarrow IsNarrow (checked_product (2 ^ 126) row.constant values.den) (λ c. checked_sum (2 ^ 126) s c) (product_keeps (2 ^ 126) row.constant values.den same_limit k.constant h.den)
    (λ c f. sum_keeps (2 ^ 126) s c same_limit e f))

opposite_narrow : (z : ℤ) → IsNarrow z → IsNarrow (neg_ℤ z)
opposite_narrow (pos zero) h = h
opposite_narrow (pos (suc n)) h = h
opposite_narrow (negsuc n) h = h

sided_narrow : (lower : Bool) (s : ℤ) → IsNarrow s → IsNarrow (if lower then s else neg_ℤ s)
sided_narrow true s h = h
sided_narrow false s h = opposite_narrow s h

bound_at_keeps : (lower : Bool) (v : ℕ) (values : Values) (row : Combination) → AreNarrowValues values → IsNarrowRow row → Keeps IsNarrowBound (bound_at lower v values row)
bound_at_keeps lower v values row h k =
    keeps_then IsNarrow IsNarrowBound (sum_at values row) (λ s. fits (record { numerator = if lower then s else neg_ℤ s; factor = pos (unsigned_abs (at v row)) })) (sum_at_keeps values row h k)
    (λ s e. record { numerator = sided_narrow lower s e; factor = at_narrow v row k })

either_bound : (b : Bool) (new kept : Bound) → IsNarrowBound new → IsNarrowBound kept → IsNarrowBound (if b then new else kept)
either_bound true new kept h k = h
either_bound false new kept h k = k

better_keeps : (lower : Bool) (new kept : Bound) → IsNarrowBound new → IsNarrowBound kept → Keeps IsNarrowBound (better_bound lower new kept)
better_keeps lower new kept h k =
    keeps_then IsNarrow IsNarrowBound (checked_product (2 ^ 126) new.numerator kept.factor) (λ l.
    and_then (checked_product (2 ^ 126) kept.numerator new.factor) (λ r.
    fits (if (if lower then int_lt r l else int_lt l r) then new else kept))) (product_keeps (2 ^ 126) new.numerator kept.factor same_limit h.numerator k.factor)
    (λ l e. keeps_then IsNarrow IsNarrowBound (checked_product (2 ^ 126) kept.numerator new.factor) (λ r.
    fits (if (if lower then int_lt r l else int_lt l r) then new else kept)) (product_keeps (2 ^ 126) kept.numerator new.factor same_limit k.numerator h.factor)
    (λ r f. either_bound (if lower then int_lt r l else int_lt l r) new kept h k))

best_from_keeps : (lower : Bool) (v : ℕ) (values : Values) (kept : Bound) (rows : List Combination) → AreNarrowValues values → IsNarrowBound kept → AreNarrowRows rows → Keeps IsNarrowBound (best_from lower v values kept rows)
best_from_keeps lower v values kept [] h k all = k
best_from_keeps lower v values kept (row ∷ rows) h k all =
    keeps_then IsNarrowBound IsNarrowBound (bound_at lower v values row) (λ new. and_then (better_bound lower new kept) (λ best. best_from lower v values best rows))
    (bound_at_keeps lower v values row h (all row (0, omega arith, refl)))
    (λ new e. keeps_then IsNarrowBound IsNarrowBound (better_bound lower new kept) (λ best. best_from lower v values best rows) (better_keeps lower new kept e k)
    (λ best f. best_from_keeps lower v values best rows h f (λ r has. all r (further row r rows has))))

best_keeps : (lower : Bool) (v : ℕ) (values : Values) (rows : List Combination) → AreNarrowValues values → AreNarrowRows rows → Keeps IsNarrowBound (best_of lower v values rows)
best_keeps lower v values [] h all = record { numerator = zero_narrow; factor = one_narrow }
best_keeps lower v values (row ∷ rows) h all =
    keeps_then IsNarrowBound IsNarrowBound (bound_at lower v values row) (λ b. best_from lower v values b rows) (bound_at_keeps lower v values row h (all row (0, omega arith, refl)))
    (λ b e. best_from_keeps lower v values b rows h e (λ r has. all r (further row r rows has)))

bound_keeps : (v : ℕ) (values : Values) (minus plus : List Combination) → AreNarrowValues values → AreNarrowRows minus → AreNarrowRows plus → Keeps IsNarrowBound (bound_of v values minus plus)
bound_keeps v values [] plus h a b = best_keeps false v values plus h b
bound_keeps v values (row ∷ rows) plus h a b = best_keeps true v values (row ∷ rows) h a

scaled_keeps : (ns : List ℤ) (v : ℤ) → All IsNarrow ns → IsNarrow v → Keeps (All IsNarrow) (checked_scaled (2 ^ 126) ns v)
scaled_keeps ns v h k = map_keeps IsNarrow (λ n. checked_product (2 ^ 126) n v) ns (λ n has. product_keeps (2 ^ 126) n v same_limit (All-contains IsNarrow ns n h has) k)

lowest_narrow : (values : Values) → AreNarrowValues values → AreNarrowValues (lowest values)
lowest_narrow values h =
    let scaled = lowest_is values in
    let new = lowest values in
    record {
      den = smaller new.den values.den scaled.0 (2 ^ 126) scaled.1.above scaled.1.den h.den;
      nums = all_smaller new.nums values.nums scaled.0 (2 ^ 126) scaled.1.above scaled.1.nums h.nums;
    }

valued_keeps : (v : ℕ) (values : Values) (b : Bound) → AreNarrowValues values → IsNarrowBound b → Keeps AreNarrowValues (valued v values b)
valued_keeps v values b h k =
    keeps_then (All IsNarrow) AreNarrowValues (checked_scaled (2 ^ 126) values.nums b.factor) (λ nums.
    and_then (checked_product (2 ^ 126) values.den b.factor) (λ d.
    fits (lowest (record { den = d; nums = set nums v b.numerator })))) (scaled_keeps values.nums b.factor h.nums k.factor)
    (λ nums e. keeps_then IsNarrow AreNarrowValues (checked_product (2 ^ 126) values.den b.factor) (λ d.
    fits (lowest (record { den = d; nums = set nums v b.numerator }))) (product_keeps (2 ^ 126) values.den b.factor same_limit h.den k.factor)
    (λ d f. lowest_narrow (record { den = d; nums = set nums v b.numerator }) (record { den = f; nums = All-set IsNarrow nums v b.numerator k.numerator e })))

-- the rows of each variable that was taken are narrow
abbrev pub AreNarrowTaken : List Taken → Type 0
AreNarrowTaken [] = Unit {0}
AreNarrowTaken (t ∷ ts) = AreNarrowRows t.minus × AreNarrowRows t.plus × AreNarrowTaken ts

back_keeps : (values : Values) (taken : List Taken) → AreNarrowValues values → AreNarrowTaken taken → Keeps AreNarrowValues (values_back values taken)
back_keeps values [] h all = h
back_keeps values (t ∷ ts) h all =
    keeps_then IsNarrowBound AreNarrowValues (bound_of t.variable values t.minus t.plus) (λ b. and_then (valued t.variable values b) (λ more. values_back more ts))
    (bound_keeps t.variable values t.minus t.plus h all.0 all.1)
    (λ b e. keeps_then AreNarrowValues AreNarrowValues (valued t.variable values b) (λ more. values_back more ts) (valued_keeps t.variable values b h e)
    (λ more k. back_keeps more ts k all.2))

-- rounds
abbrev pub EndsNarrow : Solution → Type 0
EndsNarrow (met_at den nums) = Unit {0}
EndsNarrow (refuted_by ms) = Unit {0}
EndsNarrow (crowded plus minus rest) = Unit {0}
EndsNarrow (goes_wide left right) = IsNarrow left × IsNarrow right

abbrev pub Onward : (List Taken → List Combination → Solution) → Type 0
Onward onward = (taken : List Taken) (rows : List Combination) → AreNarrowTaken taken → AreNarrowRows rows → EndsNarrow (onward taken rows)

point_narrow : (p : Checked Values) → Keeps AreNarrowValues p → EndsNarrow (answer_point p)
point_narrow (fits p) h = tt
point_narrow (passes left right) h = h

go_narrow : (onward : List Combination → Solution) (new : Checked (List Combination)) → Keeps AreNarrowRows new → ((rows : List Combination) → AreNarrowRows rows → EndsNarrow (onward rows)) → EndsNarrow (go_on onward new)
go_narrow onward (fits rows) h on = on rows h
go_narrow onward (passes left right) h on = h

if_narrow : (b : Bool) (i j k : ℕ) (x : Solution) → EndsNarrow x → EndsNarrow (if b then crowded i j k else x)
if_narrow true i j k x h = tt
if_narrow false i j k x h = h

step_narrow : (vars : ℕ) (taken : List Taken) (tidy : List Combination) (onward : List Taken → List Combination → Solution) (o : Option ℕ) → AreNarrowTaken taken → AreNarrowRows tidy → Onward onward → EndsNarrow (step vars taken tidy onward o)
step_narrow vars taken tidy onward None t h on =
    point_narrow (point_of vars taken)
    (back_keeps (record { den = pos 1; nums = replicate vars (pos 0) }) taken (record { den = one_narrow; nums = All-replicate IsNarrow vars (pos 0) zero_narrow }) t)
step_narrow vars taken tidy onward (Some v) t h on =
    let more : AreNarrowTaken (taken_at v tidy ∷ taken) = (λ row has. h row (filter_within (is_minus v) tidy row has), λ row has. h row (filter_within (is_plus v) tidy row has), t) in
    if_narrow (nat_lt 20_000 (pairs v tidy + count_by (is_rest v) tidy)) (count_by (is_plus v) tidy) (count_by (is_minus v) tidy) (count_by (is_rest v) tidy) (go_on (onward (taken_at v tidy ∷ taken)) (next_rows v tidy))
    (go_narrow (onward (taken_at v tidy ∷ taken)) (next_rows v tidy) (next_keeps v tidy h) (λ rows k. on (taken_at v tidy ∷ taken) rows more k))

begin_narrow : (vars : ℕ) (taken : List Taken) (now : List Combination) (onward : List Taken → List Combination → Solution) (o : Option (List ℤ)) → AreNarrowTaken taken → AreNarrowRows now → Onward onward → EndsNarrow (begin vars taken now onward o)
begin_narrow vars taken now onward (Some ms) t h on = tt
begin_narrow vars taken now onward None t h on =
    step_narrow vars taken (tidied now) onward (choice_from (tidied now) None (counted 0 vars)) t
    (λ row has. h row (filter_within has_variables now row (strongest_within [] (filter has_variables now) row has))) on

rounds_narrow : (vars more : ℕ) → Onward (rounds more vars)
rounds_narrow vars zero taken rows t h = tt
rounds_narrow vars (suc more) taken rows t h = begin_narrow vars taken rows (rounds more vars) (contradiction rows) t h (rounds_narrow vars more)

-- the given rows
mapped_narrow : (f : ℕ → ℤ) (vs : List ℕ) → ((v : ℕ) → IsNarrow (f v)) → All IsNarrow (map f vs)
mapped_narrow f [] h = All-nil IsNarrow
mapped_narrow f (v ∷ vs) h = All-cons IsNarrow (f v) (map f vs) (h v) (mapped_narrow f vs h)

given_row_narrow : (vars count place : ℕ) (form : Form) → IsAscending form → IsSmall form → IsNarrowRow (given_at vars count place form)
given_row_narrow vars count place form ascending small = record {
  coefficients = mapped_narrow (λ v. coefficient v form) (counted 0 vars) (λ v. coefficient_small form.terms v (2 ^ 126) ascending small.coefficients);
  constant = small.constant;
  multipliers = All-set IsNarrow (replicate count (pos 0)) place (pos 1) one_narrow (All-replicate IsNarrow count (pos 0) zero_narrow);
}

given_narrow : (vars count place : ℕ) (forms : List Form) → All IsAscending forms → All IsSmall forms → AreNarrowRows (given_from vars count place forms)
given_narrow vars count place [] ascending small row has = absurd (in_nothing row has)
given_narrow vars count place (form ∷ forms) ascending small row has = ⊎_elim
    (λ (same : given_at vars count place form ≡ row). subst IsNarrowRow same (given_row_narrow vars count place form (All-head IsAscending form forms ascending) (All-head IsSmall form forms small)))
    (λ (later : Contains (given_from vars count (suc place) forms) row). given_narrow vars count (suc place) forms (All-tail IsAscending form forms ascending) (All-tail IsSmall form forms small) row later)
    (cases_cons (given_at vars count place form) row (given_from vars count (suc place) forms) has)

pub wide_numbers_are_narrow : WideNumbersAreNarrow
unfolding elim_of
wide_numbers_are_narrow forms vars left right ascending small e =
    subst EndsNarrow e (rounds_narrow vars (suc vars) [] (given vars forms) tt (given_narrow vars (length forms) 0 forms ascending small))
