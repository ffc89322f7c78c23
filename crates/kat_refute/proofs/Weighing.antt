-- Rows under multipliers, of which those with multiplier 0 are left empty.
use Rattle.std.proofs.Common.{◌≡◌, ℕ, zero, suc, ◌<◌, ℤ, pos, negsuc, List, [], ◌∷◌, ◌++◌, length, get_or, Option, Some, None, option_map, refl, sym, ap, ◌∙◌, subst, arith, All}
use Rattle.std.specs.Prelude.{◌↔◌, ◌*ℤ◌, ◌<ℤ◌, IsTrue, Bool, false}
use Rattle.std.proofs.Math.IntN.{zero-*ℤ}
use Rattle.std.proofs.lemmas.Bool.{false≢true}
use Rattle.std.proofs.lemmas.List.Elements.{All-nil, All-cons, All-head, All-tail}
use Rattle.kat_linear.specs.Rows.{Form, IsAscending, coefficient}
use Rattle.kat_linear.specs.Sums.{AreNarrow, IsCertificate, StaysNarrow, int_sum, products}
use Rattle.kat_form.specs.Encodings.{AreFitAtoms, Sense}
use Rattle.kat_refute.specs.Lines.{IsLinear, IsMultiplier, and_then_form, denial_form, denial_forms}
use Rattle.kat_refute.specs.Weighed.{weighed_denials, weighed_form, weighed_forms}
use Rattle.kat_refute.proofs.Atoms.{denials_are_ascending, denials_from, denials-length}

-- products under a multiplier 0 are 0
weighed_product : (number : Form → ℤ) (m : ℤ) (form : Form) → m *ℤ number (weighed_form m form) ≡ m *ℤ number form
weighed_product number (pos zero) form = zero-*ℤ (number (record { terms = []; constant = pos 0 })) ∙ sym (zero-*ℤ (number form))
weighed_product number (pos (suc n)) form = refl
weighed_product number (negsuc n) form = refl

weighed_products : (number : Form → ℤ) (forms : List Form) (ms : List ℤ) → products number (weighed_forms forms ms) ms ≡ products number forms ms
weighed_products number [] ms = refl
weighed_products number (form ∷ forms) [] = refl
weighed_products number (form ∷ forms) (m ∷ ms) =
    ap (λ (z : ℤ). z ∷ products number (weighed_forms forms ms) ms) (weighed_product number m form)
    ∙ ap (λ (zs : List ℤ). (m *ℤ number form) ∷ zs) (weighed_products number forms ms)

-- the sum of the rows is the same
same_rows : (rows others : List Form) (ms : List ℤ) → ((number : Form → ℤ) → products number rows ms ≡ products number others ms)
    → AreNarrow rows ms × IsCertificate rows ms → AreNarrow others ms × IsCertificate others ms
same_rows rows others ms same h = (
  record {
    constants = subst StaysNarrow (same (λ (r : Form). r.constant)) h.0.constants;
    coefficients = λ v. subst StaysNarrow (same (coefficient v)) (h.0.coefficients v);
  },
  record {
    signs = h.1.signs;
    cancels = λ v. sym (ap int_sum (same (coefficient v))) ∙ h.1.cancels v;
    above = subst (λ (zs : List ℤ). pos 0 <ℤ int_sum zs) (same (λ (r : Form). r.constant)) h.1.above;
  },
)

-- the forms of the denials are those of all literals' denials, under the multipliers
weighed_by : (o : Option Form) (p : Option (List Form)) (m : ℤ) (ms : List ℤ)
    → and_then_form (option_map (weighed_form m) o) (option_map (λ (fs : List Form). weighed_forms fs ms) p) ≡ option_map (λ (fs : List Form). weighed_forms fs (m ∷ ms)) (and_then_form o p)
weighed_by None p m ms = refl
weighed_by (Some form) None m ms = refl
weighed_by (Some form) (Some forms) m ms = refl

denials_weighed : (senses : List Sense) (ks ms : List ℤ) → length ks ≡ length ms → weighed_denials senses ks ms ≡ option_map (λ (fs : List Form). weighed_forms fs ms) (denial_forms senses ks)
denials_weighed senses [] ms h = refl
denials_weighed senses (k ∷ ks) [] h = absurd (omega arith)
denials_weighed senses (k ∷ ks) (m ∷ ms) h =
    ap (and_then_form (option_map (weighed_form m) (denial_form senses k))) (denials_weighed senses ks ms (omega arith))
    ∙ weighed_by (denial_form senses k) (denial_forms senses ks) m ms

-- the denials of a list, if there are some
pub weighed_from : (senses : List Sense) (ks ms : List ℤ) (rows : List Form) → length ks ≡ length ms → Some rows ≡ weighed_denials senses ks ms
    → (forms : List Form) × (denial_forms senses ks ≡ Some forms) × (rows ≡ weighed_forms forms ms)
weighed_from senses ks ms rows h e = some_from (denial_forms senses ks) refl (e ∙ denials_weighed senses ks ms h) where
  some_from : (o : Option (List Form)) → denial_forms senses ks ≡ o → Some rows ≡ option_map (λ (fs : List Form). weighed_forms fs ms) o
      → (forms : List Form) × (denial_forms senses ks ≡ Some forms) × (rows ≡ weighed_forms forms ms)
  some_from None is e = absurd (cc e)
  some_from (Some forms) is e = (forms, is, cc e)

empty_ascending : (m : ℤ) (form : Form) → IsAscending form → IsAscending (weighed_form m form)
empty_ascending (pos zero) form h = tt
empty_ascending (pos (suc n)) form h = h
empty_ascending (negsuc n) form h = h

all_ascending : (forms : List Form) (ms : List ℤ) → All IsAscending forms → All IsAscending (weighed_forms forms ms)
all_ascending [] ms all = All-nil IsAscending
all_ascending (form ∷ forms) [] all = All-nil IsAscending
all_ascending (form ∷ forms) (m ∷ ms) all =
    All-cons IsAscending (weighed_form m form) (weighed_forms forms ms) (empty_ascending m form (All-head IsAscending form forms all)) (all_ascending forms ms (All-tail IsAscending form forms all))

weighed-length : (forms : List Form) (ms : List ℤ) → length forms ≡ length ms → length (weighed_forms forms ms) ≡ length ms
weighed-length [] ms h = h
weighed-length (form ∷ forms) [] h = absurd (omega arith)
weighed-length (form ∷ forms) (m ∷ ms) h = ap suc (weighed-length forms ms (omega arith))

pub rows_fit : (senses : List Sense) (ks ms : List ℤ) (rows : List Form) → AreFitAtoms senses → length ks ≡ length ms → Some rows ≡ weighed_denials senses ks ms
    → (length rows ≡ length ms) × All IsAscending rows
rows_fit senses ks ms rows fit h e =
    let from = weighed_from senses ks ms rows h e in
    let long : length from.0 ≡ length ms = denials-length senses ks from.0 from.1 ∙ h in (
      ap length from.2 ∙ weighed-length from.0 ms long,
      subst (All IsAscending) (sym from.2) (all_ascending from.0 ms (denials_are_ascending senses fit ks from.0 from.1)),
    )

-- a line is accepted if and only if these rows are contradictory
pub linear_by : (senses : List Sense) (ks ms : List ℤ) (rows : List Form) (b : Bool) → length ks ≡ length ms → All IsMultiplier ms → Some rows ≡ weighed_denials senses ks ms
    → IsTrue b ↔ (AreNarrow rows ms × IsCertificate rows ms) → IsTrue b ↔ IsLinear senses ks ms
linear_by senses ks ms rows b h all e judged =
    let from = weighed_from senses ks ms rows h e in
    let same : (number : Form → ℤ) → products number rows ms ≡ products number from.0 ms =
    λ number. ap (λ (fs : List Form). products number fs ms) from.2 ∙ weighed_products number from.0 ms in (
      λ is. let both = same_rows rows from.0 ms same (judged.0 is) in (h, all, (from.0, from.1, both.0, both.1)),
      λ is.
          let one : is.2.0 ≡ from.0 = some_same (sym is.2.1 ∙ from.1) in
          judged.1 (same_rows from.0 rows ms (λ number. sym (same number)) (
            subst (λ (fs : List Form). AreNarrow fs ms) one is.2.2,
            subst (λ (fs : List Form). IsCertificate fs ms) one is.2.3,
          )),
    ) where
      some_same : {a b : List Form} → Some a ≡ Some b → a ≡ b
      some_same e = cc e

-- it isn't if a literal is of no atom
pub not_linear : (senses : List Sense) (ks ms : List ℤ) (b : Bool) → length ks ≡ length ms → None ≡ weighed_denials senses ks ms → b ≡ false → IsTrue b ↔ IsLinear senses ks ms
not_linear senses ks ms b h e not' = (
  λ is. absurd (false≢true (sym not' ∙ is)),
  λ is. absurd (none_some (e ∙ denials_weighed senses ks ms h ∙ ap (λ (o : Option (List Form)). option_map (λ (fs : List Form). weighed_forms fs ms) o) is.2.1)),
) where
  none_some : {x : List Form} → None ≡ Some x → ⊥
  none_some e = cc e

-- one literal more
pub weighed_push : (senses : List Sense) (ks ms : List ℤ) (k m : ℤ) (forms : List Form) (form : Form) → length ks ≡ length ms → weighed_denials senses ks ms ≡ Some forms
    → option_map (weighed_form m) (denial_form senses k) ≡ Some form → weighed_denials senses (ks ++ k ∷ []) (ms ++ m ∷ []) ≡ Some (forms ++ form ∷ [])
weighed_push senses [] [] k m forms form h e f = rw f (ap (λ (fs : List Form). Some (fs ++ form ∷ [])) (some_same e)) where
  some_same : {a b : List Form} → Some a ≡ Some b → a ≡ b
  some_same e = cc e
weighed_push senses [] (n ∷ ms) k m forms form h e f = absurd (omega arith)
weighed_push senses (x ∷ xs) [] k m forms form h e f = absurd (omega arith)
weighed_push senses (x ∷ xs) (n ∷ ms) k m forms form h e f =
    let parts = denials_from (option_map (weighed_form n) (denial_form senses x)) (weighed_denials senses xs ms) forms e in
    let rest : weighed_denials senses (xs ++ k ∷ []) (ms ++ m ∷ []) ≡ Some (parts.1 ++ form ∷ []) = weighed_push senses xs ms k m parts.1 form (omega arith) parts.3 f in
    rw (parts.2, rest) (ap (λ (fs : List Form). Some (fs ++ form ∷ [])) parts.4)

-- a list has no denials if one literal has none
pub weighed_none : (senses : List Sense) (ks ms : List ℤ) (i : ℕ) → length ks ≡ length ms → i < length ks
    → option_map (weighed_form (get_or ms i (pos 0))) (denial_form senses (get_or ks i (pos 0))) ≡ None → weighed_denials senses ks ms ≡ None
weighed_none senses [] ms i same h e = absurd (omega arith)
weighed_none senses (x ∷ xs) [] i same h e = absurd (omega arith)
weighed_none senses (x ∷ xs) (n ∷ ms) zero same h e = ap (λ (o : Option Form). and_then_form o (weighed_denials senses xs ms)) e
weighed_none senses (x ∷ xs) (n ∷ ms) (suc i) same h e =
    ap (and_then_form (option_map (weighed_form n) (denial_form senses x))) (weighed_none senses xs ms i (omega arith) (omega arith) e)
    ∙ and_then-none (option_map (weighed_form n) (denial_form senses x)) where
      and_then-none : (o : Option Form) → and_then_form o None ≡ None
      and_then-none None = refl
      and_then-none (Some f) = refl
