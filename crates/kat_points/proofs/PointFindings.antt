-- What is found of a point.
use Rattle.std.proofs.Common.{◌≡◌, ◌↔◌, ℕ, ◌<◌, ℤ, Bool, true, false, IsTrue, IfOk, Result, Ok, Err, List, All, length, map, sym, ◌∙◌, subst, arith}
use Rattle.std.proofs.lemmas.Bool.{false≢true}
use Rattle.std.proofs.lemmas.List.{get_or-map, length-map}
use Rattle.std.proofs.lemmas.List.Elements.{All-map}
use Rattle.kat_form.specs.Encodings.{Sense}
use Rattle.kat_form.specs.Facts.{Fact}
use Rattle.kat_form.specs.Laws.{read_by}
use Rattle.kat_form.specs.Meanings.{AreTrueFacts}
use Rattle.kat_points.specs.Answers.{IsFound, IsFoundOf}
use Rattle.kat_points.specs.Points.{Decides, IsPointOf, IsSettledAt, PointForm, value_at, value_in, values_from}
use Rattle.kat_points.specs.declared.points.Found.{Found}
use Rattle.kat_points.specs.declared.points.Found.TheVariants.{Decisive, TooWide, Neither}

from_map : {A B : Type 0} (P : B → Type 0) (f : A → B) (xs : List A) → All P (map f xs) → All (λ x. P (f x)) xs
from_map P f xs all k d h = let within : k < length (map f xs) = omega (arith, h, length-map xs f) in subst P (get_or-map f xs k d (f d) h) (all k (f d) within)

pub unsettled : (facts : List Fact) (senses : List Sense) (p : PointForm) (sums found : List ℤ) (b : Bool) → found ≡ sums → sums ≡ map (value_in p) senses → IsTrue b ↔ All (IsSettledAt p.den) found → b ≡ false → Decides facts senses p → ⊥
unsettled facts senses p sums found b same are told unmet decides =
    let P : List ℤ → Type 0 = All (IsSettledAt p.den) in
    let yes : b ≡ true = told.1 (subst P (sym (same ∙ are)) (All-map (IsSettledAt p.den) (value_in p) senses decides.atoms)) in
    absurd (cc)

pub untrue : (facts : List Fact) (senses : List Sense) (p : PointForm) (values found : List Bool) (b : Bool) → found ≡ values → values ≡ values_from p 0 senses → IsTrue b ↔ AreTrueFacts (read_by (value_at found) senses) facts → b ≡ false → Decides facts senses p → ⊥
untrue facts senses p values found b same are told unmet decides =
    let P : List Bool → Type 0 = λ vs. AreTrueFacts (read_by (value_at vs) senses) facts in
    let yes : b ≡ true = told.1 (subst P (sym (same ∙ are)) decides.facts_hold) in
    absurd (cc)

pub decisive : (facts : List Fact) (senses : List Sense) (p : PointForm) (sums found : List ℤ) (b : Bool) (values seen : List Bool) (c : Bool)
    → found ≡ sums → sums ≡ map (value_in p) senses → IsTrue b ↔ All (IsSettledAt p.den) found → b ≡ true
    → seen ≡ values → values ≡ values_from p 0 senses → IsTrue c ↔ AreTrueFacts (read_by (value_at seen) senses) facts → c ≡ true → Decides facts senses p
decisive facts senses p sums found b values seen c same are told holds same' are' told' holds' =
    let P : List ℤ → Type 0 = All (IsSettledAt p.den) in
    let Q : List Bool → Type 0 = λ vs. AreTrueFacts (read_by (value_at vs) senses) facts in
    record {
      atoms = from_map (IsSettledAt p.den) (value_in p) senses (subst P (same ∙ are) (told.0 holds));
      facts_hold = subst Q (same' ∙ are') (told'.0 holds');
    }

pub found_whole : (facts : List Fact) (senses : List Sense) (numbers : ℕ) (p : PointForm) (found : Found) → IsPointOf senses numbers p → IsFoundOf facts senses p found → IsFound facts senses numbers p found
found_whole facts senses numbers p Decisive shape h = (λ wide. let w = wide.pass in let n = h.0 in absurd (cc), record { shape = shape; narrow = h.1; decides = h.2 })
found_whole facts senses numbers p TooWide shape h = record { shape = shape; pass = h }
found_whole facts senses numbers p Neither shape h = (λ wide. let w = wide.pass in let n = h.0 in absurd (cc), λ d. h.1 d.narrow d.decides)

pub found_ok : {E : Type 0} (facts : List Fact) (senses seen : List Sense) (numbers : ℕ) (p : PointForm) (r : Result Found E) → seen ≡ senses → IsPointOf senses numbers p → IfOk r (IsFoundOf facts seen p) → IfOk r (IsFound facts senses numbers p)
found_ok facts senses seen numbers p (Ok found) same shape h = let P : List Sense → Type 0 = λ ss. IsFoundOf facts ss p found in found_whole facts senses numbers p found shape (subst P same h)
found_ok facts senses seen numbers p (Err e) same shape h = h

pub found_none : (facts : List Fact) (senses : List Sense) (numbers : ℕ) (p : PointForm) (b : Bool) → IsTrue b ↔ IsPointOf senses numbers p → b ≡ false → IsFound facts senses numbers p Neither
found_none facts senses numbers p b told unmet = (λ wide. false≢true (sym unmet ∙ told.1 wide.shape), λ d. false≢true (sym unmet ∙ told.1 d.shape))
