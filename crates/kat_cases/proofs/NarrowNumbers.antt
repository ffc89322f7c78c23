-- The numbers of a walk that ends with too great numbers are at most 2^126 themselves.
use Rattle.std.proofs.Common.{◌≡◌, ℕ, suc, ◌^◌, ◌≤◌, ℤ, ◌+ℤ◌, ◌*ℤ◌, unsigned_abs, nat_le, List, [], ◌∷◌, ◌++◌, length, Bool, true, false, if◌then◌else◌, ⊎_elim, Option, Some, None, All, refl, subst, arith}
use Rattle.std.proofs.lemmas.Bool.{leb-true}
use Rattle.std.proofs.lemmas.List.{length_push, take_all}
use Rattle.std.proofs.lemmas.List.Elements.{All-head, All-tail, All-weaker}
use Rattle.kat_linear.specs.Rows.{Form, Term, IsAscending, IsSmall, coefficient}
use Rattle.kat_linear.specs.Sums.{AreNarrow, IsNarrow, StaysNarrow, combined, int_sum, products}
use Rattle.kat_linear.specs.Widths.{earlier, pair_at, pair_in_row, pair_in_terms, pair_of, widths, widths_from}
use Rattle.kat_linear.proofs.FirstWide.{nothing_narrow, row_narrow}
use Rattle.kat_form.specs.Encodings.{encoding}
use Rattle.kat_form.specs.declared.Encoded.{Encoded}
use Rattle.kat_fm.specs.Eliminations.{Solution, elim_of}
use Rattle.kat_fm.specs.Eliminations.Solution.{met_at, refuted_by, crowded, goes_wide}
use Rattle.kat_fm.proofs.Certificates.{multipliers_refute}
use Rattle.kat_fm.proofs.NarrowPairs.{wide_numbers_are_narrow}
use Rattle.kat_cases.specs.Decisions.{HasNarrowNumbers}
use Rattle.kat_cases.specs.Nodes.{IsJudged, held_in, judged, judged_open, judged_solution, judged_width, last_unmet, literals, lowest_open, rows, truths_from}
use Rattle.kat_cases.specs.Nodes.End.{spent, at_point, at_rows, at_wide}
use Rattle.kat_cases.specs.Nodes.IsJudged.{falsified, not_falsified}
use Rattle.kat_cases.specs.Nodes.Judgement.{leaf, ends}
use Rattle.kat_cases.specs.Settings.{setting_of, IsWalkable}
use Rattle.kat_cases.specs.Walks.{Answer, WalkGives}
use Rattle.kat_cases.specs.Walks.Answer.{refuted, stopped}
use Rattle.kat_cases.proofs.Decisions.{EndsAt, end_at}
use Rattle.kat_cases.proofs.Judgings.{rows_ascending, rows_below, rows_small}

-- two numbers are narrow, if there are two
abbrev pub IfPair : Option (ℤ × ℤ) → Type 0
IfPair None = Unit {0}
IfPair (Some p) = IsNarrow p.0 × IsNarrow p.1

-- ---- widths
pair_if : (b : Bool) (a c : ℤ) → IsNarrow a → IsNarrow c → IfPair (if b then None else Some (a, c))
pair_if true a c h k = tt
pair_if false a c h k = (h, k)

pair_keeps : (a c z : ℤ) → IsNarrow a → IsNarrow c → IfPair (pair_of a c z)
pair_keeps a c z h k = pair_if (nat_le (unsigned_abs z) (2 ^ 126)) a c h k

none_at : (b : Bool) (a c z : ℤ) → nat_le (unsigned_abs z) (2 ^ 126) ≡ b → ◌≡◌ {A = Option (ℤ × ℤ)} (if b then None else Some (a, c)) None → IsNarrow z
none_at true a c z h e = leb-true (unsigned_abs z) (2 ^ 126) h
none_at false a c z h e = absurd (cc)

none_narrow : (a c z : ℤ) → pair_of a c z ≡ None → IsNarrow z
none_narrow a c z e = none_at (nat_le (unsigned_abs z) (2 ^ 126)) a c z refl e

earlier_keeps : (x y : Option (ℤ × ℤ)) → IfPair x → (x ≡ None → IfPair y) → IfPair (earlier x y)
earlier_keeps None y h k = k refl
earlier_keeps (Some p) y h k = h

at_keeps : (m sum n : ℤ) → IsNarrow m → IsNarrow sum → IsNarrow n → IfPair (pair_at m sum n)
at_keeps m sum n a b c =
    earlier_keeps (pair_of m n (m *ℤ n)) (pair_of sum (m *ℤ n) (sum +ℤ (m *ℤ n))) (pair_keeps m n (m *ℤ n) a c)
    (λ none. pair_keeps sum (m *ℤ n) (sum +ℤ (m *ℤ n)) b (none_narrow m n (m *ℤ n) none))

abbrev AreSmallTerms : List Term → Type 0
AreSmallTerms ts = All (λ (t : Term). unsigned_abs t.1 ≤ 2 ^ 126) ts

terms_keep : (m : ℤ) (sums : ℕ → ℤ) (ts : List Term) → IsNarrow m → ((v : ℕ) → IsNarrow (sums v)) → AreSmallTerms ts → IfPair (pair_in_terms m sums ts)
terms_keep m sums [] a b small = tt
terms_keep m sums (t ∷ ts) a b small =
    earlier_keeps (pair_at m (sums t.0) t.1) (pair_in_terms m sums ts) (at_keeps m (sums t.0) t.1 a (b t.0) (All-head (λ (u : Term). unsigned_abs u.1 ≤ 2 ^ 126) t ts small))
    (λ none. terms_keep m sums ts a b (All-tail (λ (u : Term). unsigned_abs u.1 ≤ 2 ^ 126) t ts small))

sum_narrow : (zs : List ℤ) → StaysNarrow zs → IsNarrow (int_sum zs)
sum_narrow [] narrow = omega arith
sum_narrow (z ∷ zs) narrow =
    let P : List ℤ → Type 0 = λ ys. IsNarrow (int_sum ys) in
    subst P (take_all (suc (length zs)) (z ∷ zs) (omega arith)) (narrow (length zs) (omega arith)).1

row_keeps : (before : List Form) (done : List ℤ) (m : ℤ) (row : Form) → IsNarrow m → IsSmall row → AreNarrow before done → IfPair (pair_in_row before done m row)
row_keeps before done m row a small narrow =
    earlier_keeps (pair_in_terms m (λ v. combined (coefficient v) before done) row.terms) (pair_at m (combined (λ (r : Form). r.constant) before done) row.constant)
    (terms_keep m (λ v. combined (coefficient v) before done) row.terms a (λ v. sum_narrow (products (coefficient v) before done) (narrow.coefficients v)) small.coefficients)
    (λ none. at_keeps m (combined (λ (r : Form). r.constant) before done) row.constant a (sum_narrow (products (λ (r : Form). r.constant) before done) narrow.constants) small.constant)

rows_keep : (before : List Form) (done : List ℤ) (rs : List Form) (ms : List ℤ) → length before ≡ length done → All IsAscending rs → All IsSmall rs → All IsNarrow ms → AreNarrow before done → IfPair (widths_from before done rs ms)
rows_keep before done [] ms sizes up small low narrow = tt
rows_keep before done (row ∷ rs) [] sizes up small low narrow = tt
rows_keep before done (row ∷ rs) (m ∷ ms) sizes up small low narrow =
    let more : length (before ++ row ∷ []) ≡ length (done ++ m ∷ []) = omega (arith, sizes, length_push before row, length_push done m) in
    earlier_keeps (pair_in_row before done m row) (widths_from (before ++ row ∷ []) (done ++ m ∷ []) rs ms)
    (row_keeps before done m row (All-head IsNarrow m ms low) (All-head IsSmall row rs small) narrow)
    (λ none. rows_keep (before ++ row ∷ []) (done ++ m ∷ []) rs ms more (All-tail IsAscending row rs up) (All-tail IsSmall row rs small) (All-tail IsNarrow m ms low)
    (row_narrow before done m row sizes (All-head IsAscending row rs up) narrow none))

-- ---- what a node is judged
same_numbers : (lits other : List ℤ) (a b c d : ℤ) → ends (at_wide lits a b) ≡ ends (at_wide other c d) → (c ≡ a) × (d ≡ b)
same_numbers lits other a b c d e = (cc, cc)

abbrev AreBoth : ℤ → ℤ → Type 0
AreBoth left right = IsNarrow left × IsNarrow right

both_along : (lits other : List ℤ) (a b c d : ℤ) → ends (at_wide lits a b) ≡ ends (at_wide other c d) → AreBoth c d → AreBoth a b
both_along lits other a b c d e h = let same = same_numbers lits other a b c d e in (subst IsNarrow same.0 h.0, subst IsNarrow same.1 h.1)

open_apart : (lits : List ℤ) (a b den : ℤ) (nums : List ℤ) (truths : List Bool) (chosen lowest : Option ℤ) → ends (at_wide lits a b) ≡ judged_open chosen (at_point den nums truths) lowest → ⊥
open_apart lits a b den nums truths chosen None e = cc
open_apart lits a b den nums truths None (Some v) e = cc
open_apart lits a b den nums truths (Some l) (Some v) e = cc

width_narrow : (lits others ms : List ℤ) (a b : ℤ) (found : Option (ℤ × ℤ)) → IfPair found → ends (at_wide lits a b) ≡ judged_width others ms found → AreBoth a b
width_narrow lits others ms a b None h e = absurd (cc)
width_narrow lits others ms a b (Some (c, d)) h e = both_along lits others a b c d e h

multiplier_narrow : (m : ℤ) → unsigned_abs m ≤ 2 ^ 62 → IsNarrow m
multiplier_narrow m h = omega (arith, h)

solution_narrow : (e : Encoded) → IsWalkable e.numbers (encoding e) → (has : ℤ → Bool) (lits : List ℤ) (a b : ℤ) (x : Solution) → elim_of (rows (held_in (setting_of e) has)) e.numbers ≡ x
    → ends (at_wide lits a b) ≡ judged_solution (setting_of e) has (held_in (setting_of e) has) x → AreBoth a b
solution_narrow e w has lits a b (met_at den nums) solved h =
    absurd (open_apart lits a b den nums (truths_from has 1 (encoding e).senses) (last_unmet has (encoding e).clauses) (lowest_open has 1 (encoding e).senses) h)
solution_narrow e w has lits a b (refuted_by ms) solved h =
    let s = setting_of e in
    let rs = rows (held_in s has) in
    let r = multipliers_refute rs e.numbers ms (rows_below e.numbers s has w) solved in
    width_narrow lits (literals (held_in s has)) ms a b (widths rs ms)
    (rows_keep [] [] rs ms refl (rows_ascending e.numbers s has w) (rows_small e.numbers s has w) (All-weaker (λ m. unsigned_abs m ≤ 2 ^ 62) IsNarrow multiplier_narrow ms r.small) nothing_narrow) h
solution_narrow e w has lits a b (crowded plus minus rest) solved h = absurd (cc)
solution_narrow e w has lits a b (goes_wide c d) solved h =
    let s = setting_of e in
    both_along lits (literals (held_in s has)) a b c d h (wide_numbers_are_narrow (rows (held_in s has)) e.numbers c d (rows_ascending e.numbers s has w) (rows_small e.numbers s has w) solved)

end_apart : (lits : List ℤ) (a b : ℤ) → ends (at_wide lits a b) ≡ leaf None → ⊥
end_apart lits a b e = cc

judged_narrow : (e : Encoded) → IsWalkable e.numbers (encoding e) → (path lits : List ℤ) (a b : ℤ) → IsJudged (setting_of e) path (ends (at_wide lits a b)) → AreBoth a b
unfolding judged
judged_narrow e w path lits a b (falsified d h) = absurd (end_apart lits a b h)
judged_narrow e w path lits a b (not_falsified never has table h) = solution_narrow e w has lits a b (elim_of (rows (held_in (setting_of e) has)) e.numbers) refl h

wide_spent : (lits : List ℤ) (a b : ℤ) → at_wide lits a b ≡ spent → ⊥
wide_spent lits a b e = cc

pub numbers_narrow : (e : Encoded) → IsWalkable e.numbers (encoding e) → (effort : ℕ) (d : Answer) → WalkGives (setting_of e) effort d → HasNarrowNumbers d
numbers_narrow e w effort (refuted lines) h = tt
numbers_narrow e w effort (stopped spent) h = tt
numbers_narrow e w effort (stopped (at_point den nums truths)) h = tt
numbers_narrow e w effort (stopped (at_rows lits plus minus rest)) h = tt
numbers_narrow e w effort (stopped (at_wide lits a b)) h = ⊎_elim
    (λ (at : EndsAt (setting_of e) (at_wide lits a b)). judged_narrow e w at.path lits a b at.judged')
    (λ (is : at_wide lits a b ≡ spent). absurd (wide_spent lits a b is))
    (end_at h)
