-- What is answered of a file, by where its conditions were checked to.
use Rattle.std.proofs.Common.{◌≡◌, ℕ, suc, ◌+◌, ◌*◌, ◌<◌, ◌≤◌, inl, inr, true, List, [], ◌∷◌, ◌++◌, length, map, take, get_or, refl, sym, ap, ◌∙◌, subst, add-one, arith}
use Rattle.std.proofs.Math.Seq.{take-suc}
use Rattle.std.proofs.lemmas.List.{get_or-map, get_or_default, get_or_past, length-map}
use Rattle.kat_design.specs.Sorted.{EachHas}
use Rattle.kat_form.specs.Encodings.{Encoding}
use Rattle.kat_refute.specs.Lines.{AreARefutation, IsVerdict, Line, lines_of}
use Rattle.kat_refute.specs.declared.ProofLine.{ProofLine}
use Rattle.kat_refute.specs.declared.Verdict.{Verdict}
use Rattle.kat_refute.specs.declared.Verdict.TheVariants.{Accepted, Bad}
use Rattle.kat_relation.specs.Fits.{conjunct_fits}
use Rattle.kat_relation.specs.declared.relations.Conjunct.{Conjunct}
use Rattle.kat_type.specs.Types.{TypeForm, operation_form, query_form, type_form}
use Rattle.kat_type.specs.declared.types.Operation.{Operation}
use Rattle.kat_type.specs.declared.types.Query.{Query}
use Rattle.kat_type.specs.declared.types.SeqType.{SeqType}
use Rattle.kat_vc.specs.Conditions.{condition_count}
use Rattle.kat_vc.proofs.Counts.{counted}
use Rattle.kat_wire.specs.FileForms.{FileForm}
use Rattle.kat_json.proofs.WritingLists.{each_snoc}
use Rattle.kat_check.specs.Acceptance.{AreProved, Fits, IsChecked, IsFirstFault, IsFirstUnfit, count_of, encoding_at, lines_at}
use Rattle.kat_check.specs.declared.acceptance.Checked.TheVariants as checked
use Rattle.kat_check.proofs.Judged.{back_one, proved_next}

-- the conditions up to a number are proved, each by its own list
pub record ProvedSoFar (ty : TypeForm) (f : FileForm) (n : ℕ) : Type 0 where
  pub proved : AreProved ty f n
  pub lists : n ≤ length f.proof

pub none_proved : (ty : TypeForm) (f : FileForm) → ProvedSoFar ty f 0
none_proved ty f = record { proved = λ k above few. absurd (omega arith); lists = omega arith }

-- the list of a condition
pub list_there : (lists : List (List ProofLine)) (i : ℕ) (lines : List ProofLine) → i < length lists → lines ≡ get_or lists i lines → lines_of lines ≡ get_or (map lines_of lists) i []
list_there lists i lines inside is = ap lines_of is ∙ sym (get_or-map lines_of lists i lines [] inside)

pub list_known : (lists slice : List (List ProofLine)) (i : ℕ) (lines same : List ProofLine) → slice ≡ lists → same ≡ lines → i < length slice → lines ≡ get_or slice i lines
    → lines_of same ≡ get_or (map lines_of lists) i []
list_known lists slice i lines same is kept inside there =
    ap lines_of kept ∙ list_there slice i lines inside there ∙ ap (λ (ls : List (List ProofLine)). get_or (map lines_of ls) i []) is

pub places_kept : (lists slice : List (List ProofLine)) (i : ℕ) → slice ≡ lists → i < length slice → i < length (map lines_of lists)
places_kept lists slice i is inside =
    let same : length slice ≡ length lists = ap length is in let mapped : length (map lines_of lists) ≡ length lists = length-map lists lines_of in omega (arith, same, mapped, inside)

lines_known : (f : FileForm) (i : ℕ) (lines : List Line) → lines ≡ get_or f.proof i [] → lines ≡ lines_at f (i + 1)
lines_known f i lines is = is ∙ ap (λ k. get_or f.proof k []) (omega arith)

pub one_proved : (ty : TypeForm) (f : FileForm) (i : ℕ) (lines : List Line) → ProvedSoFar ty f i → i < length f.proof → lines ≡ get_or f.proof i [] → AreARefutation (encoding_at ty f (i + 1)) lines → ProvedSoFar ty f (i + 1)
one_proved ty f i lines so inside is refutes =
    let here = subst (λ (ls : List Line). AreARefutation (encoding_at ty f (i + 1)) ls) (lines_known f i lines is) refutes in record {
      proved = subst (λ k. AreProved ty f k) (sym (add-one i)) (proved_next ty f i so.proved (subst (λ k. AreARefutation (encoding_at ty f k) (lines_at f k)) (add-one i) here));
      lists = omega (arith, inside);
    }

-- what isn't answered by a bad line is a refutation
pub refutes_unless : (e : Encoding) (lines : List Line) (verdict : Verdict) → IsVerdict e lines verdict → ((n : ℕ) → verdict ≡ Bad n → ⊥) → AreARefutation e lines
refutes_unless e lines Accepted is good = is
refutes_unless e lines (Bad n) is good = absurd (good n refl)

-- the first open condition
open_there : (ty : TypeForm) (f : FileForm) (i line : ℕ) → EachHas (Fits ty f) f.relation → i < count_of ty f → AreProved ty f i → IsVerdict (encoding_at ty f (i + 1)) (lines_at f (i + 1)) (Bad line) → IsFirstFault ty f (suc i) line
open_there ty f i line fits there before bad = inl (record {
  fits = fits;
  from_one = omega arith;
  there = omega (arith, there);
  before = subst (λ m. AreProved ty f m) (sym (back_one i)) before;
  bad = subst (λ k. IsVerdict (encoding_at ty f k) (lines_at f k) (Bad line)) (add-one i) bad;
})

pub open_answered : (ty : TypeForm) (f : FileForm) (i count line : ℕ) (lines : List Line) → EachHas (Fits ty f) f.relation → count ≡ count_of ty f → i < count → ProvedSoFar ty f i → lines ≡ get_or f.proof i []
    → IsVerdict (encoding_at ty f (i + 1)) lines (Bad line) → IsChecked ty f (checked.Refused (i + 1) line)
open_answered ty f i count line lines fits counted there so is bad =
    let here = subst (λ (ls : List Line). IsVerdict (encoding_at ty f (i + 1)) ls (Bad line)) (lines_known f i lines is) bad in
    subst (λ k. IsFirstFault ty f k line) (sym (add-one i)) (open_there ty f i line fits (omega (arith, counted, there)) so.proved here)

pub missing_answered : (ty : TypeForm) (f : FileForm) (i count : ℕ) → EachHas (Fits ty f) f.relation → count ≡ count_of ty f → i < count → ProvedSoFar ty f i → length f.proof ≤ i → IsChecked ty f (checked.Refused (i + 1) 1)
missing_answered ty f i count fits counted there so past =
    open_answered ty f i count 1 [] fits counted there so (sym (get_or_past f.proof i [] past))
    (inr (record { behind = refl; accepted = λ j less d. absurd (omega arith); open_end = λ ends. let none = ends.0 in absurd (omega (arith, none)) }))

-- all conditions are proved
pub more_answered : (ty : TypeForm) (f : FileForm) (count : ℕ) → EachHas (Fits ty f) f.relation → count ≡ count_of ty f → ProvedSoFar ty f count → count < length f.proof → IsChecked ty f (checked.Refused (count + 1) 1)
more_answered ty f count fits counted so more =
    subst (λ k. IsFirstFault ty f k 1) (sym (add-one count)) (inr (record {
      fits = fits;
      proved = subst (λ n. AreProved ty f n) counted so.proved;
      more = omega (arith, counted, more);
      next = omega (arith, counted);
      first = refl;
    }))

pub accepted_answered : (ty : TypeForm) (f : FileForm) (count : ℕ) → EachHas (Fits ty f) f.relation → count ≡ count_of ty f → ProvedSoFar ty f count → length f.proof ≤ count → IsChecked ty f checked.Accepted
accepted_answered ty f count fits counted so few = let many = so.lists in record {
  fits = fits;
  as_many = omega (arith, counted, many, few);
  proved = subst (λ n. AreProved ty f n) counted so.proved;
}

-- conjuncts that fit so far
pub fits_more : (ty : TypeForm) (f : FileForm) (i : ℕ) (c : Conjunct) → EachHas (Fits ty f) (take i f.relation) → i < length f.relation → c ≡ get_or f.relation i c → conjunct_fits ty f.design.components c ≡ true
    → EachHas (Fits ty f) (take (i + 1) f.relation)
fits_more ty f i c so inside is fits =
    subst (λ cs. EachHas (Fits ty f) cs)
    (ap (λ x. take i f.relation ++ x ∷ []) is ∙ sym (take-suc f.relation i c inside) ∙ ap (λ n. take n f.relation) (sym (add-one i)))
    (each_snoc (Fits ty f) (take i f.relation) c so fits)

pub unfit_answered : (ty : TypeForm) (f : FileForm) (i number : ℕ) (c : Conjunct) → EachHas (Fits ty f) (take i f.relation) → i < length f.relation → c ≡ get_or f.relation i c → (conjunct_fits ty f.design.components c ≡ true → ⊥)
    → number ≡ i + 1 → IsFirstUnfit ty f number
unfit_answered ty f i number c so inside is unfit counted = record {
  place = i;
  counted = counted;
  within = inside;
  before = so;
  here = λ d fits. unfit (subst (λ x. Fits ty f x) (sym (is ∙ get_or_default f.relation i c d inside)) fits);
}

-- how many conditions there are
pub count_known : (ty : SeqType) (conjuncts cs : List Conjunct) (ops : List Operation) (queries : List Query) → cs ≡ conjuncts → ops ≡ ty.ops → queries ≡ ty.queries
    → length cs + length ops * length cs + length queries ≡ condition_count (type_form ty) conjuncts
count_known ty conjuncts cs ops queries e f g =
    let all = counted (type_form ty) conjuncts in
    let m = length-map ty.ops operation_form in
    let n = length-map ty.queries query_form in
    (λ i. length (e i) + length (f i) * length (e i) + length (g i)) ∙ sym (all ∙ (λ i. length conjuncts + m i * length conjuncts + n i))
