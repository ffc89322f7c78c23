-- Which variables have been gone through, and whether their sums are 0.
use Rattle.std.proofs.Common.{◌≡◌, ℕ, suc, ◌+◌, ◌<◌, ◌≤◌, ℤ, pos, ◌*ℤ◌, Bool, true, false, MatchBool, List, [], ◌∷◌, All, take, refl, ap, ◌∙◌, ⊎_elim, Some, None, arith}
use Rattle.std.proofs.Math.IntN.{*ℤ-zero}
use Rattle.std.proofs.lemmas.Bool.{cases_lt, cases_order, false≢true}
use Rattle.std.proofs.lemmas.List.Elements.{All-head, All-tail, All-nil, All-cons, All-get_or, All-take}
use Rattle.kat_linear.specs.Rows.{Form, coefficient}
use Rattle.kat_linear.specs.Sums.{IsNarrow, StaysNarrow, int_sum, products, combined}
use Rattle.kat_linear.specs.Columns.{IsNext, IsBalance}

zero-products : (number : Form → ℤ) (rows : List Form) (ms : List ℤ) → All (λ r. number r ≡ pos 0) rows → All (λ z. z ≡ pos 0) (products number rows ms)
zero-products number [] ms h = All-nil (λ z. z ≡ pos 0)
zero-products number (r ∷ rs) [] h = All-nil (λ z. z ≡ pos 0)
zero-products number (r ∷ rs) (m ∷ ms) h =
    All-cons (λ z. z ≡ pos 0) (m *ℤ number r) (products number rs ms)
    (ap (λ x. m *ℤ x) (All-head (λ r. number r ≡ pos 0) r rs h) ∙ *ℤ-zero m)
    (zero-products number rs ms (All-tail (λ r. number r ≡ pos 0) r rs h))

zero-int_sum : (zs : List ℤ) → All (λ z. z ≡ pos 0) zs → int_sum zs ≡ pos 0
zero-int_sum [] h = refl
zero-int_sum (z ∷ zs) h = rw (All-head (λ z. z ≡ pos 0) z zs h, zero-int_sum zs (All-tail (λ z. z ≡ pos 0) z zs h)) refl

zero_is_narrow : (z : ℤ) → z ≡ pos 0 → IsNarrow z
zero_is_narrow z e = rw e (omega arith)

-- a column of no row stays narrow, and its sum is 0
without_narrow : (number : Form → ℤ) (rows : List Form) (ms : List ℤ) → All (λ r. number r ≡ pos 0) rows → StaysNarrow (products number rows ms)
without_narrow number rows ms h =
    let zeros = zero-products number rows ms h in
    λ k below. (zero_is_narrow _ (All-get_or (λ z. z ≡ pos 0) (products number rows ms) k (pos 0) below zeros), zero_is_narrow _ (zero-int_sum (take (suc k) (products number rows ms)) (All-take (λ z. z ≡ pos 0) (suc k) (products number rows ms) zeros)))

without_sum : (number : Form → ℤ) (rows : List Form) (ms : List ℤ) → All (λ r. number r ≡ pos 0) rows → combined number rows ms ≡ pos 0
without_sum number rows ms h = zero-int_sum (products number rows ms) (zero-products number rows ms h)

-- what holds below `from`, between it and `next`, and at `next`
up_to : (P : ℕ → Type 0) (from next : ℕ) → ((v : ℕ) → v < from → P v) → ((v : ℕ) → from ≤ v → v < next → P v) → P next → (v : ℕ) → v < next + 1 → P v
up_to P from next before between here v h = ⊎_elim
    (λ (e : v ≡ next). rw e here)
    (⊎_elim (λ (low : v < next). ⊎_elim (λ (l : v < from). before v l) (λ (m : from ≤ v). between v m low) (cases_lt v from)) (λ (high : next < v). absurd (omega arith)))
    (cases_order v next)

-- the variables below n: their columns are narrow, and b says whether their sums are 0
abbrev pub IsBalanceBelow : List Form → List ℤ → ℕ → Bool → Type 0
IsBalanceBelow rows ms n b =
    ((v : ℕ) → v < n → StaysNarrow (products (coefficient v) rows ms))
    × MatchBool b ((v : ℕ) → v < n → combined (coefficient v) rows ms ≡ pos 0) ((v : ℕ) × (combined (coefficient v) rows ms ≡ pos 0 → ⊥))

pub balance_more : (rows : List Form) (ms : List ℤ) (from next : ℕ) (b : Bool) → IsBalanceBelow rows ms from b → IsNext rows from (Some next) → StaysNarrow (products (coefficient next) rows ms) → combined (coefficient next) rows ms ≡ pos 0 → IsBalanceBelow rows ms (next + 1) b
balance_more rows ms from next true before is narrow zero_sum = (
  up_to (λ v. StaysNarrow (products (coefficient v) rows ms)) from next before.0 (λ v l m. without_narrow (coefficient v) rows ms (is.1 v l m)) narrow,
  up_to (λ v. combined (coefficient v) rows ms ≡ pos 0) from next before.1 (λ v l m. without_sum (coefficient v) rows ms (is.1 v l m)) zero_sum,
)
balance_more rows ms from next false before is narrow zero_sum =
    (up_to (λ v. StaysNarrow (products (coefficient v) rows ms)) from next before.0 (λ v l m. without_narrow (coefficient v) rows ms (is.1 v l m)) narrow, before.1)

pub balance_lost : (rows : List Form) (ms : List ℤ) (from next : ℕ) (b : Bool) → IsBalanceBelow rows ms from b → IsNext rows from (Some next) → StaysNarrow (products (coefficient next) rows ms) → (combined (coefficient next) rows ms ≡ pos 0 → ⊥) → IsBalanceBelow rows ms (next + 1) false
balance_lost rows ms from next b before is narrow differs =
    (up_to (λ v. StaysNarrow (products (coefficient v) rows ms)) from next before.0 (λ v l m. without_narrow (coefficient v) rows ms (is.1 v l m)) narrow, (next, differs))

-- all variables, once no row has one from `from` on
all_of : (P : ℕ → Type 0) (from : ℕ) → ((v : ℕ) → v < from → P v) → ((v : ℕ) → from ≤ v → P v) → (v : ℕ) → P v
all_of P from before after v = ⊎_elim (before v) (after v) (cases_lt v from)

pub balance_whole : (rows : List Form) (ms : List ℤ) (from : ℕ) (b : Bool) → IsBalanceBelow rows ms from b → IsNext rows from None → IsBalance rows ms (Some b)
balance_whole rows ms from true before none = (
  all_of (λ v. StaysNarrow (products (coefficient v) rows ms)) from before.0 (λ v l. without_narrow (coefficient v) rows ms (none v l)),
  (λ _. all_of (λ v. combined (coefficient v) rows ms ≡ pos 0) from before.1 (λ v l. without_sum (coefficient v) rows ms (none v l)), λ _. refl),
)
balance_whole rows ms from false before none = (
  all_of (λ v. StaysNarrow (products (coefficient v) rows ms)) from before.0 (λ v l. without_narrow (coefficient v) rows ms (none v l)),
  (λ e. absurd (false≢true e), λ all. absurd (before.1.1 (all before.1.0))),
)
