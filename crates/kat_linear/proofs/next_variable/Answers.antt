use Rattle.std.proofs.Common.{◌≡◌, ℕ, ◌^◌, ◌+◌, ◌<◌, ◌≤◌, pos, List, length, take, get_or, subst, arith, ⊎_elim}
use Rattle.std.proofs.lemmas.Bool.{cases_lt}
use Rattle.std.proofs.lemmas.List.{take_all}
use Rattle.std.proofs.lemmas.List.Elements.{All-more}
use Rattle.kat_linear.specs.Rows.{Form, Term, coefficient, coefficient_in, form_of, forms}
use Rattle.kat_linear.specs.Columns.{AreWithout}
use Rattle.kat_linear.proofs.Columns.{forms_same, form_at}
use Rattle.kat_linear.proofs.next_variable.Goals as goal

-- one more row without a variable
without_more : (rows : List Form) (i : ℕ) (form : Form) (v : ℕ) → i < length rows → form ≡ get_or rows i form → AreWithout (take i rows) v → coefficient v form ≡ pos 0 → AreWithout (take (i + 1) rows) v
without_more rows i form v h is before here =
    let P : Form → Type 0 = λ r. coefficient v r ≡ pos 0 in
    All-more P rows i form h before (subst P is here)

pub loop-row-preserved : goal.loop-row-preserved
loop-row-preserved c =
    let i = c.loop-row.row-index in
    let rows = forms c.args.rows.now in
    let form = form_of c.row-item.result in
    let below : i < length rows = omega (arith, forms_same c.args.rows.now) in
    let is : form ≡ get_or rows i form = form_at c.args.rows.now i c.row-item.result (omega arith) c.row-item.is in
    let P : List Term → ℕ → Type 0 = λ terms v. coefficient_in terms v ≡ pos 0 in (
      omega (arith, c.least_variable-least.ensures.at_most),
      (λ h. c.least_variable-least.ensures.onward (c.loop-row.invariant.1 h)),
      (λ v low high. without_more rows i form v below is (c.loop-row.invariant.2 v low (omega (arith, c.least_variable-least.ensures.at_most))) (subst (λ (terms : List Term). P terms v) c.deref.ensures.value (c.least_variable-least.ensures.none v low high))),
      (λ v past. without_more rows i form v below is (c.loop-row.invariant.3 v past) (subst (λ (terms : List Term). P terms v) c.deref.ensures.value (c.least_variable-least.ensures.past v past))),
    )

whole : (rows : List Form) (i : ℕ) (v : ℕ) → length rows ≤ i → AreWithout (take i rows) v → AreWithout rows v
whole rows i v h before = let P : List Form → Type 0 = λ r. AreWithout r v in subst P (take_all i rows h) before

pub returns-then-least-eq-PAST_VARIABLES : goal.returns-then-least-eq-PAST_VARIABLES
returns-then-least-eq-PAST_VARIABLES c = λ v low. whole (forms c.args.rows.now) c.loop-row.row-index v (omega (arith, forms_same c.args.rows.now))
    (⊎_elim (λ (small : v < 2 ^ 32). c.loop-row.invariant.2 v low (omega arith)) (λ (large : 2 ^ 32 ≤ v). c.loop-row.invariant.3 v large) (cases_lt v (2 ^ 32)))

pub returns-else-least-eq-PAST_VARIABLES : goal.returns-else-least-eq-PAST_VARIABLES
returns-else-least-eq-PAST_VARIABLES c =
    (c.loop-row.invariant.1 (omega arith), λ v low high. whole (forms c.args.rows.now) c.loop-row.row-index v (omega (arith, forms_same c.args.rows.now)) (c.loop-row.invariant.2 v low high))
