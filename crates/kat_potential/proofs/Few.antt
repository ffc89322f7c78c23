-- How many rows there are, if each is a difference and no two have the same coefficients.
use Rattle.std.proofs.Common.{◌≡◌, ◌≢◌, ℕ, suc, ◌+◌, ◌*◌, ◌/◌, ◌%◌, ◌<◌, ◌≤◌, ℤ, pos, get_or, List, [], ◌∷◌, length, filter, Bool, true, false, Contains, ⊎_elim, refl, sym, ap, ◌∙◌, subst, arith, eqb}
use Rattle.std.specs.List.{AllByRecursion, IsDistinct, list_any, count_by}
use Rattle.std.proofs.lemmas.Bool.{eqb-true, ne_eqb}
use Rattle.std.proofs.lemmas.List.Elements.{All-contains}
use Rattle.std.proofs.lemmas.List.Sums.{length-filter}
use Rattle.std.proofs.lemmas.Map.Steps.{length-le_from_distinct_below}
use Rattle.std.proofs.lemmas.Nat.{mul-le, div-mul-add, mod-mul-add}
use Rattle.kat_fm.specs.Combinations.{Combination, at}
use Rattle.kat_fm.specs.Eliminations.{is_plus, is_minus, is_rest}
use Rattle.kat_fm.specs.Views.{AreDistinct, AreTidy}
use Rattle.kat_fm.proofs.Certificates.{in_nothing, cases_cons, behind as further, filter_within}
use Rattle.kat_fm.proofs.Distinct.{filter_tidy}
use Rattle.kat_fm.proofs.Members.{filter_true}
use Rattle.kat_potential.proofs.Fitting.{AreGaps, gaps, above_is, below_is}

-- the coefficients are those of a number below a bound
pub record IsShaped (shape : ℕ → List ℤ) (bound : ℕ) (row : Combination) : Type 0 where
  pub code : ℕ
  pub below : code < bound
  pub is : row.coefficients ≡ shape code

pub record HasCode (shape : ℕ → List ℤ) (bound : ℕ) (rows : List Combination) (code : ℕ) : Type 0 where
  pub below : code < bound
  pub row : Combination
  pub among : Contains rows row
  pub is : row.coefficients ≡ shape code

pub record AreCoded (shape : ℕ → List ℤ) (bound : ℕ) (rows : List Combination) : Type 0 where
  pub codes : List ℕ
  pub count : length codes ≡ length rows
  pub distinct : IsDistinct eqb codes
  pub from : (code : ℕ) → Contains codes code → HasCode shape bound rows code

differ_all : (x : ℕ) (xs : List ℕ) → (Contains xs x → ⊥) → AllByRecursion (λ (y : ℕ). eqb x y ≡ false) xs
differ_all x [] none = tt
differ_all x (y ∷ ys) none = (
  ne_eqb x y (λ e. none (0, omega arith, sym e)),
  differ_all x ys (λ has. none (further y x ys has)),
)

nothing_distinct : IsDistinct eqb []
unfolding IsDistinct
nothing_distinct = tt

one_more : (x : ℕ) (xs : List ℕ) → (Contains xs x → ⊥) → IsDistinct eqb xs → IsDistinct eqb (x ∷ xs)
unfolding IsDistinct
one_more x xs none h = (differ_all x xs none, h)

coded : (shape : ℕ → List ℤ) (bound : ℕ) (rows : List Combination) → AreDistinct rows → ((row : Combination) → Contains rows row → IsShaped shape bound row) → AreCoded shape bound rows
coded shape bound [] d h = record { codes = []; count = refl; distinct = nothing_distinct; from = λ code has. absurd (in_nothing code has) }
coded shape bound (r ∷ rs) d h =
    let rest = coded shape bound rs d.1 (λ row has. h row (further r row rs has)) in
    let first = h r (0, omega arith, refl) in
    let fresh : Contains rest.codes first.code → ⊥ = λ has. (let other = rest.from first.code has in All-contains (λ (x : Combination). x.coefficients ≢ r.coefficients) rs other.row d.0 other.among (other.is ∙ sym first.is)) in
    record {
      codes = first.code ∷ rest.codes;
      count = ap suc rest.count;
      distinct = one_more first.code rest.codes fresh rest.distinct;
      from = λ code has. ⊎_elim
          (λ (same : first.code ≡ code). let P : ℕ → Type 0 = HasCode shape bound (r ∷ rs) in subst P same (record { below = first.below; row = r; among = (0, omega arith, refl); is = first.is }))
          (λ (later : Contains rest.codes code). let found = rest.from code later in record { below = found.below; row = found.row; among = further r found.row rs found.among; is = found.is })
          (cases_cons first.code code rest.codes has);
    }

any_step : (q x : ℕ) (xs : List ℕ) (b : Bool) → b ≡ eqb q x → (list_any (eqb q) xs ≡ true → Contains xs q) → list_any (eqb q) (x ∷ xs) ≡ true → Contains (x ∷ xs) q
any_step q x xs true e more any = (0, omega arith, sym (eqb-true q x (sym e)))
any_step q x xs false e more any = let rest : list_any (eqb q) xs ≡ true = rw (sym e) at any in further x q xs (more rest)

any_in : (q : ℕ) (xs : List ℕ) → list_any (eqb q) xs ≡ true → Contains xs q
any_in q [] any = absurd (cc)
any_in q (x ∷ xs) any = any_step q x xs (eqb q x) refl (any_in q xs) any

pub at_most : (shape : ℕ → List ℤ) (bound : ℕ) (rows : List Combination) → AreDistinct rows → ((row : Combination) → Contains rows row → IsShaped shape bound row) → length rows ≤ bound
at_most shape bound rows d h =
    let c = coded shape bound rows d h in
    let few = length-le_from_distinct_below c.codes bound c.distinct (λ q any. (c.from q (any_in q c.codes any)).below) in
    omega (arith, few, c.count)

-- rows on one side of a variable
plus_few : (vars most weight v : ℕ) (rows : List Combination) → AreGaps vars most weight rows → AreTidy rows → length (filter (is_plus v) rows) ≤ vars + 1
plus_few vars most weight v rows h tidy =
    at_most (λ (higher : ℕ). gaps vars v higher) (vars + 1) (filter (is_plus v) rows) (filter_tidy (is_plus v) rows tidy).distinct
    (λ row has.
    let g = h row (filter_within (is_plus v) rows row has) in
    let low = g.higher_most in
    let sign = above_is vars g.lower g.higher v (at v row) (ap (λ (xs : List ℤ). get_or xs v (pos 0)) (sym g.coefficients)) (filter_true (is_plus v) rows row has) in
    record { code = g.higher; below = omega (arith, low); is = g.coefficients ∙ ap (λ (x : ℕ). gaps vars x g.higher) sign.0 })

minus_few : (vars most weight v : ℕ) (rows : List Combination) → AreGaps vars most weight rows → AreTidy rows → length (filter (is_minus v) rows) ≤ vars + 1
minus_few vars most weight v rows h tidy =
    at_most (λ (lower : ℕ). gaps vars lower v) (vars + 1) (filter (is_minus v) rows) (filter_tidy (is_minus v) rows tidy).distinct
    (λ row has.
    let g = h row (filter_within (is_minus v) rows row has) in
    let low = g.lower_most in
    let sign = below_is vars g.lower g.higher v (at v row) (ap (λ (xs : List ℤ). get_or xs v (pos 0)) (sym g.coefficients)) (filter_true (is_minus v) rows row has) in
    record { code = g.lower; below = omega (arith, low); is = g.coefficients ∙ ap (λ (x : ℕ). gaps vars g.lower x) sign.0 })

-- all rows: a pair of variables as one number
below_square : (i j m : ℕ) → i < m → j < m → i * m + j < m * m
below_square i j m h k =
    let rows : suc i * m ≤ m * m = mul-le (suc i) m m m (omega (arith, h)) (omega arith) in
    let whole : suc i * m ≡ m + i * m = omega arith in
    omega (arith, rows, whole, k)

rest_few : (vars most weight v : ℕ) (rows : List Combination) → AreGaps vars most weight rows → AreTidy rows → length (filter (is_rest v) rows) ≤ (vars + 1) * (vars + 1)
rest_few vars most weight v rows h tidy =
    at_most (λ (code : ℕ). gaps vars (code / (vars + 1)) (code % (vars + 1))) ((vars + 1) * (vars + 1)) (filter (is_rest v) rows) (filter_tidy (is_rest v) rows tidy).distinct
    (λ row has.
    let g = h row (filter_within (is_rest v) rows row has) in
    let low : g.lower < vars + 1 = (let x = g.lower_most in omega (arith, x)) in
    let high : g.higher < vars + 1 = (let x = g.higher_most in omega (arith, x)) in
    record {
      code = g.lower * (vars + 1) + g.higher;
      below = below_square g.lower g.higher (vars + 1) low high;
      is = g.coefficients ∙ ap (λ (x : ℕ). gaps vars x g.higher) (sym (div-mul-add g.lower (vars + 1) g.higher high)) ∙ ap (λ (x : ℕ). gaps vars ((g.lower * (vars + 1) + g.higher) / (vars + 1)) x) (sym (mod-mul-add g.lower (vars + 1) g.higher high));
    })

product_most : (a b c : ℕ) → a ≤ c → b ≤ c → c ≤ 61 → a * b ≤ 3721
product_most a b c h k l = mul-le a b 61 61 (omega (arith, h, l)) (omega (arith, k, l))

-- a step of at most 60 variables makes at most 20,000 rows
pub step_few : (vars most weight v : ℕ) (rows : List Combination) → vars ≤ 60 → AreGaps vars most weight rows → AreTidy rows → count_by (is_plus v) rows * count_by (is_minus v) rows + count_by (is_rest v) rows ≤ 20_000
step_few vars most weight v rows small h tidy =
    let plus : count_by (is_plus v) rows ≤ vars + 1 = (let a = plus_few vars most weight v rows h tidy in let b = length-filter (is_plus v) rows in omega (arith, a, b)) in
    let minus : count_by (is_minus v) rows ≤ vars + 1 = (let a = minus_few vars most weight v rows h tidy in let b = length-filter (is_minus v) rows in omega (arith, a, b)) in
    let rest : count_by (is_rest v) rows ≤ (vars + 1) * (vars + 1) = (let a = rest_few vars most weight v rows h tidy in let b = length-filter (is_rest v) rows in omega (arith, a, b)) in
    let first = product_most (count_by (is_plus v) rows) (count_by (is_minus v) rows) (vars + 1) plus minus (omega (arith, small)) in
    let second = product_most (vars + 1) (vars + 1) (vars + 1) (omega arith) (omega arith) (omega (arith, small)) in
    omega (arith, first, second, rest)
