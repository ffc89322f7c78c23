-- Whether a line of a proof is accepted is decided.
use Rattle.std.proofs.Common.{◌≡◌, ℕ, zero, suc, ◌≤◌, ◌<◌, inr, max, ℤ, pos, ◌≤ℤ◌, ◌+ℤ◌, ◌*ℤ◌, unsigned_abs, List, [], ◌∷◌, length, take, get_or, refl, sym, ap, ap₂, subst, ◌∙◌, Option, Some, None, arith}
use Rattle.std.specs.Prelude.{◌^◌}
use Rattle.std.proofs.Math.IntN.{*ℤ-zero}
use Rattle.kat_clause.specs.Clauses.{opposites}
use Rattle.kat_clause.specs.Hints.{AreNumbers}
use Rattle.kat_clause.proofs.HintDeciding.{leads_decided}
use Rattle.kat_linear.specs.Rows.{Form, Term, coefficient, coefficient_in}
use Rattle.kat_linear.specs.Sums.{AreNarrow, IsCertificate, IsNarrow, StaysNarrow, combined, int_sum, products}
use Rattle.kat_linear.proofs.Totals.{part_apart}
use Rattle.kat_form.specs.Encodings.{Encoding, IsLiteral, Sense}
use Rattle.kat_refute.specs.Lines.{IsAcceptedLine, IsHintedLine, IsLinear, IsMultiplier, Line, denial_forms, hinted, linear, rup}
use Rattle.kat_check.proofs.Deciding.{Decided, all_decided, below_decided, both_decided, decided_as, every_decided, integers_at_most, integers_below, less_decided, most_decided, same_integers, same_numbers}
use Rattle.kat_check.proofs.Following.{follows_decided}

-- numbers that are all 0
abbrev AreZero : List ℤ → Type 0
AreZero [] = Unit {0}
AreZero (z ∷ zs) = (z ≡ pos 0) × AreZero zs

zero_at : (zs : List ℤ) (k : ℕ) → AreZero zs → get_or zs k (pos 0) ≡ pos 0
zero_at [] k h = refl
zero_at (z ∷ zs) zero h = h.0
zero_at (z ∷ zs) (suc k) h = zero_at zs k h.1

zero_sum : (zs : List ℤ) → AreZero zs → int_sum zs ≡ pos 0
zero_sum [] h = refl
zero_sum (z ∷ zs) h = ap₂ (λ x y. x +ℤ y) h.0 (zero_sum zs h.1)

zero_taken : (n : ℕ) (zs : List ℤ) → AreZero zs → AreZero (take n zs)
zero_taken zero zs h = tt
zero_taken (suc n) [] h = tt
zero_taken (suc n) (z ∷ zs) h = (h.0, zero_taken n zs h.1)

narrow_zero : (z : ℤ) → z ≡ pos 0 → IsNarrow z
narrow_zero z is = let size : unsigned_abs z ≡ 0 = ap unsigned_abs is in omega (arith, size)

zeros_narrow : (zs : List ℤ) → AreZero zs → StaysNarrow zs
zeros_narrow zs h k less = (narrow_zero (get_or zs k (pos 0)) (zero_at zs k h), narrow_zero (int_sum (take (suc k) zs)) (zero_sum (take (suc k) zs) (zero_taken (suc k) zs h)))

-- no form has a variable past a number
abbrev past_terms : List Term → ℕ
past_terms [] = 0
past_terms (t ∷ ts) = max (suc t.0) (past_terms ts)

abbrev past_forms : List Form → ℕ
past_forms [] = 0
past_forms (f ∷ fs) = max (past_terms f.terms) (past_forms fs)

none_past : (ts : List Term) (v : ℕ) → past_terms ts ≤ v → coefficient_in ts v ≡ pos 0
none_past [] v past = refl
none_past (t ∷ ts) v past =
    let here = part_apart t v (λ same. omega (arith, past, same)) in
    let rest = none_past ts v (omega (arith, past)) in
    ap₂ (λ x y. x +ℤ y) here rest

products_zero : (fs : List Form) (ms : List ℤ) (v : ℕ) → past_forms fs ≤ v → AreZero (products (coefficient v) fs ms)
products_zero [] ms v past = tt
products_zero (f ∷ fs) [] v past = tt
products_zero (f ∷ fs) (m ∷ ms) v past = (ap (λ x. m *ℤ x) (none_past f.terms v (omega (arith, past))) ∙ *ℤ-zero m, products_zero fs ms v (omega (arith, past)))

-- certificates
stays_decided : (zs : List ℤ) → Decided (StaysNarrow zs)
stays_decided zs = below_decided (λ k. IsNarrow (get_or zs k (pos 0)) × IsNarrow (int_sum (take (suc k) zs)))
    (λ k. both_decided (most_decided (unsigned_abs (get_or zs k (pos 0))) (2 ^ 126)) (most_decided (unsigned_abs (int_sum (take (suc k) zs))) (2 ^ 126))) (length zs)

narrow_decided : (fs : List Form) (ms : List ℤ) → Decided (AreNarrow fs ms)
narrow_decided fs ms =
    decided_as (λ h. record { constants = h.0; coefficients = h.1 }) (λ n. (n.constants, n.coefficients))
    (both_decided (stays_decided (products (λ (r : Form). r.constant) fs ms))
    (every_decided (λ v. StaysNarrow (products (coefficient v) fs ms)) (past_forms fs) (λ v. stays_decided (products (coefficient v) fs ms))
    (λ v past. zeros_narrow (products (coefficient v) fs ms) (products_zero fs ms v past))))

certificate_decided : (fs : List Form) (ms : List ℤ) → Decided (IsCertificate fs ms)
certificate_decided fs ms =
    decided_as (λ h. record { signs = h.0.0; cancels = h.0.1; above = h.1 }) (λ c. ((c.signs, c.cancels), c.above))
    (both_decided (both_decided (all_decided (λ m. pos 0 ≤ℤ m) (λ m. integers_at_most (pos 0) m) ms)
    (every_decided (λ v. combined (coefficient v) fs ms ≡ pos 0) (past_forms fs) (λ v. same_integers (combined (coefficient v) fs ms) (pos 0))
    (λ v past. zero_sum (products (coefficient v) fs ms) (products_zero fs ms v past))))
    (integers_below (pos 0) (combined (λ (r : Form). r.constant) fs ms)))

-- lines
abbrev HasCertificate : Option (List Form) → List ℤ → Type 0
HasCertificate found ms = (forms : List Form) × (found ≡ Some forms) × AreNarrow forms ms × IsCertificate forms ms

some_same : {A : Type 0} (x y : A) → Some x ≡ Some y → x ≡ y
some_same x y e = cc

no_form : (forms : List Form) → None ≡ Some forms → ⊥
no_form forms is = absurd (cc)

found_decided : (found : Option (List Form)) (ms : List ℤ) → Decided (HasCertificate found ms)
found_decided None ms = inr (λ h. no_form h.0 h.1)
found_decided (Some fs) ms =
    decided_as (λ h. (fs, refl, h.0, h.1))
    (λ h. let same = some_same fs h.0 h.1 in (subst (λ gs. AreNarrow gs ms) (sym same) h.2, subst (λ gs. IsCertificate gs ms) (sym same) h.3))
    (both_decided (narrow_decided fs ms) (certificate_decided fs ms))

multiplier_decided : (m : ℤ) → Decided (IsMultiplier m)
multiplier_decided m = both_decided (integers_at_most (pos 0) m) (integers_at_most m (pos (2 ^ 62)))

linear_decided : (senses : List Sense) (literals multipliers : List ℤ) → Decided (IsLinear senses literals multipliers)
linear_decided senses literals multipliers =
    decided_as (λ h. (h.0.0, h.0.1, h.1)) (λ h. ((h.0, h.1), h.2))
    (both_decided (both_decided (same_numbers (length literals) (length multipliers)) (all_decided IsMultiplier multiplier_decided multipliers))
    (found_decided (denial_forms senses literals) multipliers))

literal_decided : (count : ℕ) (k : ℤ) → Decided (IsLiteral count k)
literal_decided count k = both_decided (less_decided 0 (unsigned_abs k)) (most_decided (unsigned_abs k) count)

numbers_decided : (count : ℕ) (hints : List ℕ) → Decided (AreNumbers count hints)
numbers_decided count hints = all_decided (λ (h : ℕ). (0 < h) × (h ≤ count)) (λ h. both_decided (less_decided 0 h) (most_decided h count)) hints

hinted_decided : (count : ℕ) (clauses : List (List ℤ)) (literals : List ℤ) (hints : List ℕ) → Decided (IsHintedLine count clauses literals hints)
hinted_decided count clauses literals hints =
    decided_as (λ h. (h.0.0, h.0.1, h.1)) (λ h. ((h.0, h.1), h.2))
    (both_decided (both_decided (all_decided (IsLiteral count) (literal_decided count) literals) (numbers_decided (length clauses) hints))
    (leads_decided clauses (opposites literals) hints))

pub line_decided : (e : Encoding) (clauses : List (List ℤ)) (line : Line) → Decided (IsAcceptedLine e clauses line)
line_decided e clauses (rup literals) = both_decided (all_decided (IsLiteral (length e.senses)) (literal_decided (length e.senses)) literals) (follows_decided clauses literals)
line_decided e clauses (linear literals multipliers) = linear_decided e.senses literals multipliers
line_decided e clauses (hinted literals hints) = hinted_decided (length e.senses) clauses literals hints
