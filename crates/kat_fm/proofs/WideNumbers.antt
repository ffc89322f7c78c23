-- The numbers of the first product or sum that passes its limit.
use Rattle.std.proofs.Common.{◌≡◌, ℕ, zero, suc, ◌+◌, ◌/◌, ◌^◌, ◌<◌, ◌≤◌, ℤ, pos, ◌+ℤ◌, ◌*ℤ◌, neg_ℤ, unsigned_abs, nat_le, nat_lt, List, [], ◌∷◌, ◌++◌, filter, count_by, replicate, set, Bool, true, false, if◌then◌else◌, inl, inr, Option, Some, None, Contains, All, refl, subst, arith}
use Rattle.std.specs.Prelude.{int_lt}
use Rattle.std.proofs.lemmas.Bool.{leb-false}
use Rattle.std.proofs.lemmas.List.Elements.{All-head, All-tail}
use Rattle.kat_linear.specs.Rows.{Form}
use Rattle.kat_fm.specs.Limits.{Checked, and_then, within, checked_product, checked_sum, checked_map, checked_dot, checked_scaled, weighed, weighed_all}
use Rattle.kat_fm.specs.Limits.Checked.{fits, passes}
use Rattle.kat_fm.specs.Combinations.{Combination, at, gcd, weighed_rows, combination_of, counted, given}
use Rattle.kat_fm.specs.Points.{Taken, Values, Bound, sum_at, bound_at, better_bound, best_from, best_of, bound_of, lowest, valued, values_back, point_of}
use Rattle.kat_fm.specs.Eliminations.{Solution, contradiction, tidied, is_plus, is_minus, is_rest, pairs, choice_from, couples, next_rows, taken_at, answer_point, go_on, step, begin, rounds, elim_of}
use Rattle.kat_fm.specs.Comparisons.{has_variables}
use Rattle.kat_fm.specs.Eliminations.Solution.{met_at, refuted_by, crowded, goes_wide}
use Rattle.kat_fm.specs.Laws.{PassALimit, WideNumbersPass}
use Rattle.kat_fm.proofs.Combinations.{within_small}
use Rattle.kat_fm.proofs.Certificates.{AreTracked, filter_within, strongest_within, couples_within, next_tracked, given_tracked, behind as further}

-- if it passes a limit, the two numbers are wide
abbrev pub Stops : {A : Type 0} → Checked A → Type 0
Stops (fits a) = Unit {0}
Stops (passes left right) = PassALimit left right

stops_then : {A B : Type 0} (c : Checked A) (f : A → Checked B) → Stops c → ((a : A) → c ≡ fits a → Stops (f a)) → Stops (and_then c f)
stops_then (fits a) f h on = on a refl
stops_then (passes left right) f h on = h

within_case : (b : Bool) (limit : ℕ) (left right z : ℤ) → nat_le (unsigned_abs z) limit ≡ b → (limit < unsigned_abs z → PassALimit left right) → Stops (if b then fits z else passes left right)
within_case true limit left right z is h = tt
within_case false limit left right z is h = h (leb-false (unsigned_abs z) limit is)

within_stops : (limit : ℕ) (left right z : ℤ) → (limit < unsigned_abs z → PassALimit left right) → Stops (within limit left right z)
within_stops limit left right z h = within_case (nat_le (unsigned_abs z) limit) limit left right z refl h

product_stops : (a b : ℤ) → Stops (checked_product (2 ^ 126) a b)
product_stops a b = within_stops (2 ^ 126) a b (a *ℤ b) (λ h. inl (inl h))

sum_stops : (a b : ℤ) → Stops (checked_sum (2 ^ 126) a b)
sum_stops a b = within_stops (2 ^ 126) a b (a +ℤ b) (λ h. inl (inr h))

-- for a multiplier, if the second number is at most 2^62
small_product_stops : (a b : ℤ) → unsigned_abs b ≤ 2 ^ 62 → Stops (checked_product (2 ^ 62) a b)
small_product_stops a b small = within_stops (2 ^ 62) a b (a *ℤ b) (λ h. inr (inl h, small))

small_sum_stops : (a b : ℤ) → unsigned_abs b ≤ 2 ^ 62 → Stops (checked_sum (2 ^ 62) a b)
small_sum_stops a b small = within_stops (2 ^ 62) a b (a +ℤ b) (λ h. inr (inr h, small))

map_stops : {A B : Type 0} (f : A → Checked B) (xs : List A) → ((x : A) → Contains xs x → Stops (f x)) → Stops (checked_map f xs)
map_stops f [] h = tt
map_stops f (x ∷ xs) h =
    stops_then (f x) (λ y. and_then (checked_map f xs) (λ ys. fits (y ∷ ys))) (h x (0, omega arith, refl))
    (λ y e. stops_then (checked_map f xs) (λ ys. fits (y ∷ ys)) (map_stops f xs (λ z k. h z (further x z xs k))) (λ ys k. tt))

-- combinations
weighed_stops : (f p g n : ℤ) → Stops (weighed (2 ^ 126) f p g n)
weighed_stops f p g n =
    stops_then (checked_product (2 ^ 126) f p) (λ x. and_then (checked_product (2 ^ 126) g n) (λ y. checked_sum (2 ^ 126) x y)) (product_stops f p)
    (λ x e. stops_then (checked_product (2 ^ 126) g n) (λ y. checked_sum (2 ^ 126) x y) (product_stops g n) (λ y k. sum_stops x y))

small_weighed_stops : (f p g n : ℤ) → unsigned_abs p ≤ 2 ^ 62 → unsigned_abs n ≤ 2 ^ 62 → Stops (weighed (2 ^ 62) f p g n)
small_weighed_stops f p g n small least =
    stops_then (checked_product (2 ^ 62) f p) (λ x. and_then (checked_product (2 ^ 62) g n) (λ y. checked_sum (2 ^ 62) x y)) (small_product_stops f p small)
    (λ x e. stops_then (checked_product (2 ^ 62) g n) (λ y. checked_sum (2 ^ 62) x y) (small_product_stops g n least)
    (λ y k. small_sum_stops x y (within_small (2 ^ 62) g n (g *ℤ n) y k)))

weighed_all_stops : (f : ℤ) (ps : List ℤ) (g : ℤ) (ns : List ℤ) → Stops (weighed_all (2 ^ 126) f ps g ns)
weighed_all_stops f [] g ns = tt
weighed_all_stops f (p ∷ ps) g [] = tt
weighed_all_stops f (p ∷ ps) g (n ∷ ns) =
    stops_then (weighed (2 ^ 126) f p g n) (λ z. and_then (weighed_all (2 ^ 126) f ps g ns) (λ zs. fits (z ∷ zs))) (weighed_stops f p g n)
    (λ z e. stops_then (weighed_all (2 ^ 126) f ps g ns) (λ zs. fits (z ∷ zs)) (weighed_all_stops f ps g ns) (λ zs k. tt))

abbrev pub AreSmall : List ℤ → Type 0
AreSmall ms = All (λ m. unsigned_abs m ≤ 2 ^ 62) ms

small_weighed_all_stops : (f : ℤ) (ps : List ℤ) (g : ℤ) (ns : List ℤ) → AreSmall ps → AreSmall ns → Stops (weighed_all (2 ^ 62) f ps g ns)
small_weighed_all_stops f [] g ns small least = tt
small_weighed_all_stops f (p ∷ ps) g [] small least = tt
small_weighed_all_stops f (p ∷ ps) g (n ∷ ns) small least =
    stops_then (weighed (2 ^ 62) f p g n) (λ z. and_then (weighed_all (2 ^ 62) f ps g ns) (λ zs. fits (z ∷ zs)))
    (small_weighed_stops f p g n (All-head (λ m. unsigned_abs m ≤ 2 ^ 62) p ps small) (All-head (λ m. unsigned_abs m ≤ 2 ^ 62) n ns least))
    (λ z e. stops_then (weighed_all (2 ^ 62) f ps g ns) (λ zs. fits (z ∷ zs))
    (small_weighed_all_stops f ps g ns (All-tail (λ m. unsigned_abs m ≤ 2 ^ 62) p ps small) (All-tail (λ m. unsigned_abs m ≤ 2 ^ 62) n ns least)) (λ zs k. tt))

rows_stop : (f : ℤ) (p : Combination) (g : ℤ) (n : Combination) → AreSmall p.multipliers → AreSmall n.multipliers → Stops (weighed_rows f p g n)
rows_stop f p g n small least =
    stops_then (weighed_all (2 ^ 126) f p.coefficients g n.coefficients) (λ cs.
    and_then (weighed (2 ^ 126) f p.constant g n.constant) (λ k.
    and_then (weighed_all (2 ^ 62) f p.multipliers g n.multipliers) (λ ms.
    fits (record { coefficients = cs; constant = k; multipliers = ms })))) (weighed_all_stops f p.coefficients g n.coefficients)
    (λ cs a. stops_then (weighed (2 ^ 126) f p.constant g n.constant) (λ k.
    and_then (weighed_all (2 ^ 62) f p.multipliers g n.multipliers) (λ ms.
    fits (record { coefficients = cs; constant = k; multipliers = ms }))) (weighed_stops f p.constant g n.constant)
    (λ k b. stops_then (weighed_all (2 ^ 62) f p.multipliers g n.multipliers) (λ ms.
    fits (record { coefficients = cs; constant = k; multipliers = ms })) (small_weighed_all_stops f p.multipliers g n.multipliers small least) (λ ms c. tt)))

combination_stops : (v : ℕ) (p n : Combination) → AreSmall p.multipliers → AreSmall n.multipliers → Stops (combination_of v p n)
unfolding combination_of
combination_stops v p n small least =
    let a = unsigned_abs (at v p) in
    let b = unsigned_abs (at v n) in
    rows_stop (pos (b / gcd a b)) p (pos (a / gcd a b)) n small least

next_stops : (forms : List Form) (vars v : ℕ) (rows : List Combination) → AreTracked forms vars rows → Stops (next_rows v rows)
next_stops forms vars v rows t =
    let ps = filter (is_plus v) rows in let ns = filter (is_minus v) rows in
    stops_then (checked_map (λ (x : Combination × Combination). combination_of v x.0 x.1) (couples ps ns)) (λ new. fits (filter (is_rest v) rows ++ new))
    (map_stops (λ (x : Combination × Combination). combination_of v x.0 x.1) (couples ps ns) (λ x h.
    let both = couples_within ps ns x h in
    combination_stops v x.0 x.1 (t x.0 (filter_within (is_plus v) rows x.0 both.0)).small (t x.1 (filter_within (is_minus v) rows x.1 both.1)).small))
    (λ new e. tt)

-- values
dot_stops : (sum : ℤ) (cs ns : List ℤ) → Stops (checked_dot (2 ^ 126) sum cs ns)
dot_stops sum [] ns = tt
dot_stops sum (c ∷ cs) [] = tt
dot_stops sum (c ∷ cs) (n ∷ ns) =
    stops_then (checked_product (2 ^ 126) c n) (λ x. and_then (checked_sum (2 ^ 126) sum x) (λ s. checked_dot (2 ^ 126) s cs ns)) (product_stops c n)
    (λ x e. stops_then (checked_sum (2 ^ 126) sum x) (λ s. checked_dot (2 ^ 126) s cs ns) (sum_stops sum x) (λ s k. dot_stops s cs ns))

sum_at_stops : (values : Values) (row : Combination) → Stops (sum_at values row)
sum_at_stops values row =
    stops_then (checked_dot (2 ^ 126) (pos 0) row.coefficients values.nums) (λ s. and_then (checked_product (2 ^ 126) row.constant values.den) (λ k. checked_sum (2 ^ 126) s k)) (dot_stops (pos 0) row.coefficients values.nums)
    (λ s e. stops_then (checked_product (2 ^ 126) row.constant values.den) (λ k. checked_sum (2 ^ 126) s k) (product_stops row.constant values.den) (λ k h. sum_stops s k))

bound_at_stops : (lower : Bool) (v : ℕ) (values : Values) (row : Combination) → Stops (bound_at lower v values row)
bound_at_stops lower v values row =
    stops_then (sum_at values row) (λ s. fits (record { numerator = if lower then s else neg_ℤ s; factor = pos (unsigned_abs (at v row)) })) (sum_at_stops values row) (λ s e. tt)

better_stops : (lower : Bool) (new kept : Bound) → Stops (better_bound lower new kept)
better_stops lower new kept =
    stops_then (checked_product (2 ^ 126) new.numerator kept.factor) (λ l.
    and_then (checked_product (2 ^ 126) kept.numerator new.factor) (λ r.
    fits (if (if lower then int_lt r l else int_lt l r) then new else kept))) (product_stops new.numerator kept.factor)
    (λ l e. stops_then (checked_product (2 ^ 126) kept.numerator new.factor) (λ r.
    fits (if (if lower then int_lt r l else int_lt l r) then new else kept)) (product_stops kept.numerator new.factor) (λ r k. tt))

best_from_stops : (lower : Bool) (v : ℕ) (values : Values) (kept : Bound) (rows : List Combination) → Stops (best_from lower v values kept rows)
best_from_stops lower v values kept [] = tt
best_from_stops lower v values kept (row ∷ rows) =
    stops_then (bound_at lower v values row) (λ new. and_then (better_bound lower new kept) (λ best. best_from lower v values best rows)) (bound_at_stops lower v values row)
    (λ new e. stops_then (better_bound lower new kept) (λ best. best_from lower v values best rows) (better_stops lower new kept) (λ best k. best_from_stops lower v values best rows))

best_stops : (lower : Bool) (v : ℕ) (values : Values) (rows : List Combination) → Stops (best_of lower v values rows)
best_stops lower v values [] = tt
best_stops lower v values (row ∷ rows) =
    stops_then (bound_at lower v values row) (λ b. best_from lower v values b rows) (bound_at_stops lower v values row) (λ b e. best_from_stops lower v values b rows)

bound_stops : (v : ℕ) (values : Values) (minus plus : List Combination) → Stops (bound_of v values minus plus)
bound_stops v values [] plus = best_stops false v values plus
bound_stops v values (row ∷ rows) plus = best_stops true v values (row ∷ rows)

scaled_stops : (ns : List ℤ) (v : ℤ) → Stops (checked_scaled (2 ^ 126) ns v)
scaled_stops ns v = map_stops (λ n. checked_product (2 ^ 126) n v) ns (λ n h. product_stops n v)

valued_stops : (v : ℕ) (values : Values) (b : Bound) → Stops (valued v values b)
valued_stops v values b =
    stops_then (checked_scaled (2 ^ 126) values.nums b.factor) (λ nums.
    and_then (checked_product (2 ^ 126) values.den b.factor) (λ d.
    fits (lowest (record { den = d; nums = set nums v b.numerator })))) (scaled_stops values.nums b.factor)
    (λ nums e. stops_then (checked_product (2 ^ 126) values.den b.factor) (λ d.
    fits (lowest (record { den = d; nums = set nums v b.numerator }))) (product_stops values.den b.factor) (λ d k. tt))

back_stops : (values : Values) (taken : List Taken) → Stops (values_back values taken)
back_stops values [] = tt
back_stops values (t ∷ ts) =
    stops_then (bound_of t.variable values t.minus t.plus) (λ b. and_then (valued t.variable values b) (λ more. values_back more ts)) (bound_stops t.variable values t.minus t.plus)
    (λ b e. stops_then (valued t.variable values b) (λ more. values_back more ts) (valued_stops t.variable values b) (λ more k. back_stops more ts))

-- rounds
abbrev pub EndsWide : Solution → Type 0
EndsWide (met_at den nums) = Unit {0}
EndsWide (refuted_by ms) = Unit {0}
EndsWide (crowded plus minus rest) = Unit {0}
EndsWide (goes_wide left right) = PassALimit left right

abbrev pub Onward : List Form → ℕ → (List Taken → List Combination → Solution) → Type 0
Onward forms vars onward = (taken : List Taken) (rows : List Combination) → AreTracked forms vars rows → EndsWide (onward taken rows)

point_ends : (p : Checked Values) → Stops p → EndsWide (answer_point p)
point_ends (fits p) h = tt
point_ends (passes left right) h = h

go_ends : (onward : List Combination → Solution) (new : Checked (List Combination)) → Stops new → ((rows : List Combination) → new ≡ fits rows → EndsWide (onward rows)) → EndsWide (go_on onward new)
go_ends onward (fits rows) h on = on rows refl
go_ends onward (passes left right) h on = h

if_ends : (b : Bool) (i j k : ℕ) (x : Solution) → EndsWide x → EndsWide (if b then crowded i j k else x)
if_ends true i j k x h = tt
if_ends false i j k x h = h

step_ends : (forms : List Form) (vars : ℕ) (taken : List Taken) (tidy : List Combination) (onward : List Taken → List Combination → Solution) (o : Option ℕ) → AreTracked forms vars tidy → Onward forms vars onward → EndsWide (step vars taken tidy onward o)
step_ends forms vars taken tidy onward None t on = point_ends (point_of vars taken) (back_stops (record { den = pos 1; nums = replicate vars (pos 0) }) taken)
step_ends forms vars taken tidy onward (Some v) t on =
    if_ends (nat_lt 20_000 (pairs v tidy + count_by (is_rest v) tidy)) (count_by (is_plus v) tidy) (count_by (is_minus v) tidy) (count_by (is_rest v) tidy) (go_on (onward (taken_at v tidy ∷ taken)) (next_rows v tidy))
    (go_ends (onward (taken_at v tidy ∷ taken)) (next_rows v tidy) (next_stops forms vars v tidy t) (λ rows is. on (taken_at v tidy ∷ taken) rows (next_tracked forms vars v tidy rows t is)))

begin_ends : (forms : List Form) (vars : ℕ) (taken : List Taken) (now : List Combination) (onward : List Taken → List Combination → Solution) (o : Option (List ℤ)) → AreTracked forms vars now → Onward forms vars onward → EndsWide (begin vars taken now onward o)
begin_ends forms vars taken now onward (Some ms) t on = tt
begin_ends forms vars taken now onward None t on =
    step_ends forms vars taken (tidied now) onward (choice_from (tidied now) None (counted 0 vars))
    (λ row h. t row (filter_within has_variables now row (strongest_within [] (filter has_variables now) row h))) on

rounds_end : (forms : List Form) (vars more : ℕ) → Onward forms vars (rounds more vars)
rounds_end forms vars zero taken rows t = tt
rounds_end forms vars (suc more) taken rows t = begin_ends forms vars taken rows (rounds more vars) (contradiction rows) t (rounds_end forms vars more)

pub wide_numbers_pass : WideNumbersPass
unfolding elim_of
wide_numbers_pass forms vars left right e =
    subst EndsWide e (rounds_end forms vars (suc vars) [] (given vars forms) (given_tracked vars [] forms))
