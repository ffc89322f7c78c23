-- An accepted file has no first fault, and each file one at most.
use Rattle.std.proofs.Common.{◌≡◌, ℕ, zero, suc, ◌+◌, ◌-◌, ◌<◌, ◌≤◌, inl, inr, List, [], ◌∷◌, length, take, get_or, refl, sym, ap, ◌∙◌, subst, arith}
use Rattle.kat_design.specs.Sorted.{EachHas}
use Rattle.kat_form.specs.Encodings.{Encoding}
use Rattle.kat_refute.specs.Lines.{AreARefutation, IsFirstRefused, IsVerdict, Line, rup}
use Rattle.kat_refute.specs.declared.Verdict.TheVariants.{Bad}
use Rattle.kat_relation.specs.declared.relations.Conjunct.TheVariants.{Query}
use Rattle.kat_type.specs.Types.{TypeForm}
use Rattle.kat_wire.specs.FileForms.{FileForm}
use Rattle.kat_check.specs.Acceptance.{AreProved, Fits, IsAcceptedFile, IsFirstFault, IsFirstOpen, IsFirstUnfit, count_of, encoding_at, lines_at}

-- each element at its place
pub each_at : {A : Type 0} (P : A → Type 0) (xs : List A) (i : ℕ) (d : A) → EachHas P xs → i < length xs → P (get_or xs i d)
each_at P [] i d h less = absurd (omega arith)
each_at P (x ∷ xs) zero d h less = h.0
each_at P (x ∷ xs) (suc i) d h less = each_at P xs i d h.1 (omega arith)

-- an element before a place
pub each_before : {A : Type 0} (P : A → Type 0) (xs : List A) (n i : ℕ) (d : A) → EachHas P (take n xs) → i < n → i < length xs → P (get_or xs i d)
each_before P [] n i d h below less = absurd (omega arith)
each_before P (x ∷ xs) zero i d h below less = absurd (omega arith)
each_before P (x ∷ xs) (suc n) zero d h below less = h.0
each_before P (x ∷ xs) (suc n) (suc i) d h below less = each_before P xs n i d h.1 (omega arith) (omega arith)

-- one of three
pub apart : {P : Type 0} (m n : ℕ) → (m < n → P) → (m ≡ n → P) → (n < m → P) → P
apart zero zero less same more = same refl
apart zero (suc n) less same more = less (omega arith)
apart (suc m) zero less same more = more (omega arith)
apart {P = P} (suc m) (suc n) less same more = apart {P = P} m n (λ h. less (omega arith)) (λ h. same (ap suc h)) (λ h. more (omega arith))

-- lines that refute have no bad line
pub no_bad_line : (e : Encoding) (lines : List Line) (n : ℕ) → AreARefutation e lines → IsVerdict e lines (Bad n) → ⊥
no_bad_line e lines n refutes (inl r) = r.here (rup []) (refutes.accepted r.place r.within (rup []))
no_bad_line e lines n refutes (inr u) = u.open_end refutes.ends

-- and all lines have one bad line at most
refused_once : (e : Encoding) (lines : List Line) (m n : ℕ) → IsFirstRefused e lines m → IsFirstRefused e lines n → m ≡ n
refused_once e lines m n one two =
    apart {P = m ≡ n} one.place two.place
    (λ less. absurd (one.here (rup []) (two.before one.place less (rup []))))
    (λ same. one.counted ∙ ap (λ p. p + 1) same ∙ sym two.counted)
    (λ more. absurd (two.here (rup []) (one.before two.place more (rup []))))

pub one_bad_line : (e : Encoding) (lines : List Line) (m n : ℕ) → IsVerdict e lines (Bad m) → IsVerdict e lines (Bad n) → m ≡ n
one_bad_line e lines m n (inl one) (inl two) = refused_once e lines m n one two
one_bad_line e lines m n (inl one) (inr two) = absurd (one.here (rup []) (two.accepted one.place one.within (rup [])))
one_bad_line e lines m n (inr one) (inl two) = absurd (two.here (rup []) (one.accepted two.place two.within (rup [])))
one_bad_line e lines m n (inr one) (inr two) = one.behind ∙ sym two.behind

-- if all conjuncts fit there is none that doesn't
all_fit : (ty : TypeForm) (f : FileForm) (n : ℕ) → EachHas (Fits ty f) f.relation → IsFirstUnfit ty f n → ⊥
all_fit ty f n fits unfit = unfit.here (Query 0) (each_at (Fits ty f) f.relation unfit.place (Query 0) fits unfit.within)

-- if a condition is proved it isn't the first open one
not_open : (ty : TypeForm) (f : FileForm) (n k line : ℕ) → AreProved ty f n → k ≤ n → IsFirstOpen ty f k line → ⊥
not_open ty f n k line proved few o = no_bad_line (encoding_at ty f k) (lines_at f k) line (proved k o.from_one few) o.bad

pub accepted_without : (ty : TypeForm) (f : FileForm) (condition line : ℕ) → IsAcceptedFile ty f → IsFirstFault ty f condition line → ⊥
accepted_without ty f zero line is fault = all_fit ty f line is.fits fault
accepted_without ty f (suc k) line is (inl o) = not_open ty f (count_of ty f) (suc k) line is.proved o.there o
accepted_without ty f (suc k) line is (inr t) = let same = is.as_many in let more = t.more in absurd (omega (arith, same, more))

-- two faults are one
record Same (a b c d : ℕ) : Type 0 where
  condition : a ≡ c
  line : b ≡ d

unfit_once : (ty : TypeForm) (f : FileForm) (b d : ℕ) → IsFirstUnfit ty f b → IsFirstUnfit ty f d → b ≡ d
unfit_once ty f b d one two =
    apart {P = b ≡ d} one.place two.place
    (λ less. absurd (one.here (Query 0) (each_before (Fits ty f) f.relation two.place one.place (Query 0) two.before less one.within)))
    (λ same. one.counted ∙ ap (λ p. p + 1) same ∙ sym two.counted)
    (λ more. absurd (two.here (Query 0) (each_before (Fits ty f) f.relation one.place two.place (Query 0) one.before more two.within)))

open_once : (ty : TypeForm) (f : FileForm) (a b c d : ℕ) → IsFirstOpen ty f a b → IsFirstOpen ty f c d → Same a b c d
open_once ty f a b c d one two =
    apart {P = Same a b c d} a c
    (λ less. absurd (not_open ty f (c - 1) a b two.before (omega (arith, less)) one))
    (λ same. record { condition = same; line = one_bad_line (encoding_at ty f c) (lines_at f c) b d (subst (λ k. IsVerdict (encoding_at ty f k) (lines_at f k) (Bad b)) same one.bad) two.bad })
    (λ more. absurd (not_open ty f (a - 1) c d one.before (omega (arith, more)) two))

fault_once : (ty : TypeForm) (f : FileForm) (a b c d : ℕ) → IsFirstFault ty f a b → IsFirstFault ty f c d → Same a b c d
fault_once ty f zero b zero d one two = record { condition = refl; line = unfit_once ty f b d one two }
fault_once ty f zero b (suc k) d one (inl o) = absurd (all_fit ty f b o.fits one)
fault_once ty f zero b (suc k) d one (inr t) = absurd (all_fit ty f b t.fits one)
fault_once ty f (suc k) b zero d (inl o) two = absurd (all_fit ty f d o.fits two)
fault_once ty f (suc k) b zero d (inr t) two = absurd (all_fit ty f d t.fits two)
fault_once ty f (suc k) b (suc m) d (inl one) (inl two) = open_once ty f (suc k) b (suc m) d one two
fault_once ty f (suc k) b (suc m) d (inl o) (inr t) = absurd (not_open ty f (count_of ty f) (suc k) b t.proved o.there o)
fault_once ty f (suc k) b (suc m) d (inr t) (inl o) = absurd (not_open ty f (count_of ty f) (suc m) d t.proved o.there o)
fault_once ty f (suc k) b (suc m) d (inr one) (inr two) = record { condition = one.next ∙ sym two.next; line = one.first ∙ sym two.first }

pub one_condition : (ty : TypeForm) (f : FileForm) (a b c d : ℕ) → IsFirstFault ty f a b → IsFirstFault ty f c d → a ≡ c
one_condition ty f a b c d one two = (fault_once ty f a b c d one two).condition

pub one_line : (ty : TypeForm) (f : FileForm) (a b c d : ℕ) → IsFirstFault ty f a b → IsFirstFault ty f c d → b ≡ d
one_line ty f a b c d one two = (fault_once ty f a b c d one two).line
