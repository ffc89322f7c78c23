-- Numbers and values that make all clauses true are a decisive point.
use Rattle.std.proofs.Common.{◌≡◌, ℕ, zero, suc, ◌+◌, ◌-◌, ◌<◌, ◌≤◌, ◌^◌, ◌⊎◌, inl, inr, ⊎_elim, ℤ, pos, ◌+ℤ◌, ◌≤ℤ◌, ◌<ℤ◌, unsigned_abs, Bool, true, false, Option, Some, None, List, [], ◌∷◌, length, slice_index_or, refl, sym, ap, subst, ◌∙◌, arith}
use Rattle.std.proofs.lemmas.Int.{ints}
use Rattle.kat_clause.specs.Valuations.{literal_value}
use Rattle.kat_form.specs.Encodings.{Encoding, Sense, atom_at, form_in}
use Rattle.kat_form.specs.Encodings.Sense.{truth, atom, gate}
use Rattle.kat_linear.specs.Rows.{Form, IsMet, negated_form, scaled_value}
use Rattle.kat_linear.proofs.Contradictions.{negated_at}
use Rattle.kat_cases.specs.Nodes.{truths_from}
use Rattle.kat_cases.specs.Points.{IsDecisive}
use Rattle.kat_point.specs.Values.{AreRead, IsModel, IsRead, number_at, value_at}

-- a form's value by its sum
opposite_met : (n s sum : ℤ) → n +ℤ s ≡ pos 1 → sum ≡ s → pos 0 <ℤ sum → n ≤ℤ pos 0
opposite_met n s sum whole is above = omega (arith, ints, whole, is, above)

pub read_when : (nums : ℕ → ℤ) (form : Form) (value result : Bool) (sum : ℤ) → sum ≡ scaled_value 1 nums form → (result ≡ true → value ≡ true → sum ≤ℤ pos 0) → (result ≡ true → value ≡ false → pos 0 <ℤ sum)
    → result ≡ true → IsRead nums value (atom form)
read_when nums form value result sum is met above e = (
  λ v. subst (λ s. s ≤ℤ pos 0) is (met e v),
  λ v. opposite_met (scaled_value 1 nums (negated_form form)) (scaled_value 1 nums form) sum (negated_at form 1 nums) is (above e v),
)

-- one more is read
split_le : (n m : ℕ) → n ≤ m → (n ≡ m) ⊎ (n < m)
split_le zero zero h = inl refl
split_le zero (suc m) h = inr (omega arith)
split_le (suc n) zero h = absurd (omega (arith, h))
split_le (suc n) (suc m) h = ⊎_elim (λ e. inl (ap suc e)) (λ less. inr (omega (arith, less))) (split_le n m (omega (arith, h)))

pub read_more : (nums : ℕ → ℤ) (values : List Bool) (senses : List Sense) (i : ℕ) (value : Bool) (sense : Sense)
    → ((k : ℕ) → k < i → IsRead nums (slice_index_or values k false) (slice_index_or senses k gate))
    → value ≡ slice_index_or values i false → slice_index_or senses i gate ≡ sense → IsRead nums value sense
    → (k : ℕ) → k < i + 1 → IsRead nums (slice_index_or values k false) (slice_index_or senses k gate)
read_more nums values senses i value sense before at here is k less =
    let P : ℕ → Type 0 = λ j. IsRead nums (slice_index_or values j false) (slice_index_or senses j gate) in
    let last : P i = subst (λ s. IsRead nums (slice_index_or values i false) s) (sym here) (subst (λ v. IsRead nums v sense) at is) in
    ⊎_elim (λ e. subst P (sym e) last) (λ l. before k l) (split_le k i (omega (arith, less)))

-- each atom is read as its variable is
none_some : {A : Type 0} (x : A) → None ≡ Some x → ⊥
none_some x e = cc e

some_same : {A : Type 0} (a b : A) → Some a ≡ Some b → a ≡ b
some_same a b e = cc e

read_form : (nums : ℕ → ℤ) (value : Bool) (sense : Sense) (form : Form) → form_in sense ≡ Some form → IsRead nums value sense → IsRead nums value (atom form)
read_form nums value (truth v) form e h = absurd (none_some form e)
read_form nums value (atom f) form e h = subst (λ g. IsRead nums value (atom g)) (some_same f form e) h
read_form nums value gate form e h = absurd (none_some form e)

read_atom : (nums : ℕ → ℤ) (value : ℕ → Bool) (senses : List Sense) → ((i : ℕ) → i < length senses → IsRead nums (value i) (slice_index_or senses i gate))
    → (v : ℕ) (form : Form) → atom_at senses v ≡ Some form → IsRead nums (value (v - 1)) (atom form)
read_atom nums value senses all zero form e = absurd (none_some form e)
read_atom nums value [] all (suc v) form e = absurd (none_some form e)
read_atom nums value (s ∷ ss) all (suc zero) form e =
    let back : 0 ≡ suc zero - 1 = omega arith in
    subst (λ k. IsRead nums (value k) (atom form)) back (read_form nums (value 0) s form e (all 0 (omega arith)))
read_atom nums value (s ∷ ss) all (suc (suc v)) form e =
    let back : suc (suc v - 1) ≡ suc (suc v) - 1 = omega arith in
    subst (λ k. IsRead nums (value k) (atom form)) back (read_atom nums (λ i. value (suc i)) ss (λ i less. all (suc i) (omega (arith, less))) (suc v) form e)

pub decisive : (e : Encoding) (numbers : ℕ) (nums : List ℤ) (values truths : List Bool) → IsModel e numbers nums values → truths ≡ truths_from (literal_value (value_at values)) 1 e.senses
    → IsDecisive e numbers (pos 1) nums truths
decisive e numbers nums values truths model told = record {
  positive = omega (arith, ints);
  count = model.count;
  den_narrow = omega arith;
  nums_narrow = model.narrow;
  values = value_at values;
  told = told;
  atoms = λ v form is. read_atom (number_at nums) (λ i. slice_index_or values i false) e.senses model.atoms v form is;
  clauses = model.clauses;
}
