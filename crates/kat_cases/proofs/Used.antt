-- Multipliers of 0 and their rows can be left out of a certificate.
use Rattle.std.proofs.Common.{◌≡◌, ℕ, zero, suc, ◌<◌, ℤ, pos, neg_ℤ, ◌+ℤ◌, ◌*ℤ◌, ◌≤ℤ◌, ◌<ℤ◌, int_lt, List, [], ◌∷◌, length, map, take, get_or, Bool, true, false, if◌then◌else◌, ⊎_elim, refl, sym, ap, ◌∙◌, subst, arith, Contains, Option, Some, None, All}
use Rattle.std.proofs.Math.IntN.{zero-*ℤ, neg_ℤ-neg_ℤ}
use Rattle.kat_resolution.proofs.Members.{behind, cases_cons, in_nothing}
use Rattle.std.proofs.lemmas.Int.{ints}
use Rattle.std.proofs.lemmas.List.Elements.{All-head, All-tail, All-nil, All-cons}
use Rattle.kat_linear.specs.Rows.{Form, coefficient}
use Rattle.kat_linear.specs.Sums.{IsNarrow, StaysNarrow, int_sum, products, combined, AreNarrow, IsCertificate}
use Rattle.kat_form.specs.Encodings.{Sense}
use Rattle.kat_refute.specs.Lines.{denial_form, denial_forms, and_then_form, IsMultiplier, IsLinear}
use Rattle.kat_cases.specs.Nodes.{used_literals, used_multipliers}

-- the rows whose multiplier is above 0
abbrev pub used_rows : List Form → List ℤ → List Form
used_rows [] ms = []
used_rows (r ∷ rs) [] = []
used_rows (r ∷ rs) (m ∷ ms) = if int_lt (pos 0) m then r ∷ used_rows rs ms else used_rows rs ms

-- each number and each sum is narrow, if so much has been summed
abbrev pub NarrowFrom : ℤ → List ℤ → Type 0
NarrowFrom a [] = Unit {0}
NarrowFrom a (z ∷ zs) = IsNarrow z × IsNarrow (a +ℤ z) × NarrowFrom (a +ℤ z) zs

abbrev StaysFrom : ℤ → List ℤ → Type 0
StaysFrom a zs = (k : ℕ) → k < length zs → IsNarrow (get_or zs k (pos 0)) × IsNarrow (a +ℤ int_sum (take (suc k) zs))

narrow_along : (a b : ℤ) → a ≡ b → IsNarrow a → IsNarrow b
narrow_along a b e h = let P : ℤ → Type 0 = IsNarrow in subst P e h

narrow_from : (a : ℤ) (zs : List ℤ) → StaysFrom a zs → NarrowFrom a zs
narrow_from a [] h = tt
narrow_from a (z ∷ zs) h = (
  (h 0 (omega arith)).0,
  narrow_along (a +ℤ (z +ℤ pos 0)) (a +ℤ z) (omega (arith, ints)) (h 0 (omega arith)).1,
  narrow_from (a +ℤ z) zs (λ k below. (
    (h (suc k) (omega arith)).0,
    narrow_along (a +ℤ (z +ℤ int_sum (take (suc k) zs))) ((a +ℤ z) +ℤ int_sum (take (suc k) zs)) (omega (arith, ints)) (h (suc k) (omega arith)).1,
  )),
)

stays_from : (a : ℤ) (zs : List ℤ) → NarrowFrom a zs → StaysFrom a zs
stays_from a [] h k below = absurd (omega arith)
stays_from a (z ∷ zs) h zero below = (h.0, narrow_along (a +ℤ z) (a +ℤ (z +ℤ pos 0)) (omega (arith, ints)) h.1)
stays_from a (z ∷ zs) h (suc k) below =
    let r = stays_from (a +ℤ z) zs h.2 k (omega arith) in
    (r.0, narrow_along ((a +ℤ z) +ℤ int_sum (take (suc k) zs)) (a +ℤ (z +ℤ int_sum (take (suc k) zs))) (omega (arith, ints)) r.1)

-- what isn't above 0 is 0
is_none : (m : ℤ) → IsMultiplier m → int_lt (pos 0) m ≡ false → m ≡ pos 0
is_none m h e = grind (arith, ints)

used_narrow_at : (b : Bool) (number : Form → ℤ) (r : Form) (m a : ℤ) (rest : List Form) (more : List ℤ) → (b ≡ false → m ≡ pos 0)
    → IsNarrow (m *ℤ number r) → IsNarrow (a +ℤ (m *ℤ number r)) → NarrowFrom (a +ℤ (m *ℤ number r)) (products number rest more)
    → NarrowFrom a (products number (if b then r ∷ rest else rest) (if b then m ∷ more else more))
used_narrow_at true number r m a rest more none h k g = (h, k, g)
used_narrow_at false number r m a rest more none h k g =
    let P : ℤ → Type 0 = λ x. NarrowFrom x (products number rest more) in
    let zero_product : m *ℤ number r ≡ pos 0 = ap (λ x. x *ℤ number r) (none refl) ∙ zero-*ℤ (number r) in
    let e : a +ℤ (m *ℤ number r) ≡ a = omega (arith, ints, zero_product) in
    subst P e g

used_narrow : (number : Form → ℤ) (rs : List Form) (ms : List ℤ) (a : ℤ) → All IsMultiplier ms → NarrowFrom a (products number rs ms) → NarrowFrom a (products number (used_rows rs ms) (used_multipliers ms))
used_narrow number [] ms a signs h = tt
used_narrow number (r ∷ rs) [] a signs h = tt
used_narrow number (r ∷ rs) (m ∷ ms) a signs h =
    used_narrow_at (int_lt (pos 0) m) number r m a (used_rows rs ms) (used_multipliers ms) (is_none m (All-head IsMultiplier m ms signs)) h.0 h.1
    (used_narrow number rs ms (a +ℤ (m *ℤ number r)) (All-tail IsMultiplier m ms signs) h.2)

used_sum_at : (b : Bool) (number : Form → ℤ) (r : Form) (m : ℤ) (rest : List Form) (more : List ℤ) (sum : ℤ) → (b ≡ false → m ≡ pos 0) → combined number rest more ≡ sum → combined number (if b then r ∷ rest else rest) (if b then m ∷ more else more) ≡ (m *ℤ number r) +ℤ sum
used_sum_at true number r m rest more sum none e = ap (λ x. (m *ℤ number r) +ℤ x) e
used_sum_at false number r m rest more sum none e =
    let zero_product : m *ℤ number r ≡ pos 0 = ap (λ x. x *ℤ number r) (none refl) ∙ zero-*ℤ (number r) in
    omega (arith, ints, zero_product, e)

used_sum : (number : Form → ℤ) (rs : List Form) (ms : List ℤ) → All IsMultiplier ms → combined number (used_rows rs ms) (used_multipliers ms) ≡ combined number rs ms
used_sum number [] ms signs = refl
used_sum number (r ∷ rs) [] signs = refl
used_sum number (r ∷ rs) (m ∷ ms) signs =
    used_sum_at (int_lt (pos 0) m) number r m (used_rows rs ms) (used_multipliers ms) (combined number rs ms) (is_none m (All-head IsMultiplier m ms signs)) (used_sum number rs ms (All-tail IsMultiplier m ms signs))

if_all : (b : Bool) (P : ℤ → Type 0) (m : ℤ) (more : List ℤ) → P m → All P more → All P (if b then m ∷ more else more)
if_all true P m more h k = All-cons P m more h k
if_all false P m more h k = k

used_all : (P : ℤ → Type 0) (ms : List ℤ) → All P ms → All P (used_multipliers ms)
used_all P [] h = All-nil P
used_all P (m ∷ ms) h = if_all (int_lt (pos 0) m) P m (used_multipliers ms) (All-head P m ms h) (used_all P ms (All-tail P m ms h))

if_length : (b : Bool) (k m : ℤ) (ks ms : List ℤ) → length ks ≡ length ms → length (if b then k ∷ ks else ks) ≡ length (if b then m ∷ ms else ms)
if_length true k m ks ms e = ap suc e
if_length false k m ks ms e = e

used_length : (ks ms : List ℤ) → length ks ≡ length ms → length (used_literals ks ms) ≡ length (used_multipliers ms)
used_length [] [] e = refl
used_length [] (m ∷ ms) e = absurd (omega arith)
used_length (k ∷ ks) [] e = absurd (omega arith)
used_length (k ∷ ks) (m ∷ ms) e = if_length (int_lt (pos 0) m) (neg_ℤ k) m (used_literals ks ms) (used_multipliers ms) (used_length ks ms (omega arith))

some_list : (a b : List Form) → Some a ≡ Some b → a ≡ b
some_list a b e = cc

denials_split : (o : Option Form) (p : Option (List Form)) (f : Form) (fs : List Form) → and_then_form o p ≡ Some (f ∷ fs) → (o ≡ Some f) × (p ≡ Some fs)
denials_split None p f fs e = absurd (cc)
denials_split (Some g) None f fs e = absurd (cc)
denials_split (Some g) (Some gs) f fs e = (cc, cc)

if_denials : (b : Bool) (senses : List Sense) (k : ℤ) (ks : List ℤ) (r : Form) (rs : List Form) → denial_form senses k ≡ Some r → denial_forms senses ks ≡ Some rs → denial_forms senses (if b then k ∷ ks else ks) ≡ Some (if b then r ∷ rs else rs)
if_denials true senses k ks r rs e f = rw (e, f) refl
if_denials false senses k ks r rs e f = f

used_denials : (senses : List Sense) (ks : List ℤ) (rs : List Form) (ms : List ℤ) → denial_forms senses (map neg_ℤ ks) ≡ Some rs → denial_forms senses (used_literals ks ms) ≡ Some (used_rows rs ms)
used_denials senses [] [] ms e = refl
used_denials senses [] (r ∷ rs) ms e = absurd (cc)
used_denials senses (k ∷ ks) [] ms e = absurd (empty (denial_form senses (neg_ℤ k)) (denial_forms senses (map neg_ℤ ks)) e)
  where
    empty : (o : Option Form) (p : Option (List Form)) → and_then_form o p ≡ Some [] → ⊥
    empty None p e' = cc
    empty (Some g) None e' = cc
    empty (Some g) (Some gs) e' = cc
used_denials senses (k ∷ ks) (r ∷ rs) [] e = refl
used_denials senses (k ∷ ks) (r ∷ rs) (m ∷ ms) e =
    let parts = denials_split (denial_form senses (neg_ℤ k)) (denial_forms senses (map neg_ℤ ks)) r rs e in
    if_denials (int_lt (pos 0) m) senses (neg_ℤ k) (used_literals ks ms) r (used_rows rs ms) parts.0 (used_denials senses ks rs ms parts.1)

stays_used : (number : Form → ℤ) (rs : List Form) (ms : List ℤ) → All IsMultiplier ms → StaysNarrow (products number rs ms) → StaysNarrow (products number (used_rows rs ms) (used_multipliers ms))
stays_used number rs ms signs h k below =
    let whole : NarrowFrom (pos 0) (products number rs ms) = narrow_from (pos 0) (products number rs ms) (λ j low. ((h j low).0, narrow_along (int_sum (take (suc j) (products number rs ms))) (pos 0 +ℤ int_sum (take (suc j) (products number rs ms))) (omega (arith, ints)) (h j low).1)) in
    let r = stays_from (pos 0) (products number (used_rows rs ms) (used_multipliers ms)) (used_narrow number rs ms (pos 0) signs whole) k below in
    let sum = int_sum (take (suc k) (products number (used_rows rs ms) (used_multipliers ms))) in
    (r.0, narrow_along (pos 0 +ℤ sum) sum (omega (arith, ints)) r.1)

-- the line of the literals whose multiplier is above 0
pub used_linear : (senses : List Sense) (ks : List ℤ) (rs : List Form) (ms : List ℤ) → denial_forms senses (map neg_ℤ ks) ≡ Some rs → length ks ≡ length ms → All IsMultiplier ms → AreNarrow rs ms → IsCertificate rs ms → IsLinear senses (used_literals ks ms) (used_multipliers ms)
used_linear senses ks rs ms e sizes signs narrow shown = (
  used_length ks ms sizes,
  used_all IsMultiplier ms signs,
  (
    used_rows rs ms,
    used_denials senses ks rs ms e,
    record {
      constants = stays_used (λ (r : Form). r.constant) rs ms signs narrow.constants;
      coefficients = λ v. stays_used (coefficient v) rs ms signs (narrow.coefficients v);
    },
    record {
      signs = used_all (λ m. pos 0 ≤ℤ m) ms shown.signs;
      cancels = λ v. used_sum (coefficient v) rs ms signs ∙ shown.cancels v;
      above = let P : ℤ → Type 0 = λ x. pos 0 <ℤ x in subst P (sym (used_sum (λ (r : Form). r.constant) rs ms signs)) shown.above;
    },
  ),
)

-- a used literal's opposite was among the literals
if_from : (b : Bool) (k x : ℤ) (rest ks : List ℤ) → (Contains rest x → Contains ks (neg_ℤ x)) → Contains (if b then neg_ℤ k ∷ rest else rest) x → Contains (k ∷ ks) (neg_ℤ x)
if_from true k x rest ks back has = ⊎_elim
    (λ (e : neg_ℤ k ≡ x). (0, omega arith, sym (neg_ℤ-neg_ℤ k) ∙ ap neg_ℤ e))
    (λ (later : Contains rest x). behind k (neg_ℤ x) ks (back later))
    (cases_cons (neg_ℤ k) x rest has)
if_from false k x rest ks back has = behind k (neg_ℤ x) ks (back has)

pub used_from : (ks ms : List ℤ) (x : ℤ) → Contains (used_literals ks ms) x → Contains ks (neg_ℤ x)
used_from [] ms x has = absurd (in_nothing x has)
used_from (k ∷ ks) [] x has = absurd (in_nothing x has)
used_from (k ∷ ks) (m ∷ ms) x has = if_from (int_lt (pos 0) m) k x (used_literals ks ms) ks (used_from ks ms x) has
