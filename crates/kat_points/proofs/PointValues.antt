-- The values of variables at a point, and facts one after the other.
use Rattle.std.proofs.Common.{◌≡◌, ◌↔◌, ℕ, ◌+◌, ◌<◌, ◌≤◌, ℤ, pos, Bool, true, false, ◌&&◌, IsTrue, List, [], ◌∷◌, ◌++◌, drop, get_or, length, map, append_assoc, refl, sym, ap, ◌∙◌, arith}
use Rattle.std.proofs.lemmas.List.{drop_more, get_or-map, length-map}
use Rattle.std.proofs.lemmas.List.Elements.{All-cons, All-head, All-nil, All-tail}
use Rattle.kat_form.specs.declared.Meaning.{Meaning}
use Rattle.kat_form.specs.Encodings.{Sense, sense_of}
use Rattle.kat_form.specs.Encodings.Sense.{truth, atom, gate}
use Rattle.kat_form.specs.Facts.{Fact, listed}
use Rattle.kat_form.specs.Meanings.{AreTrueFacts, all_true, value_of, values_of}
use Rattle.kat_points.specs.Points.{PointForm, next_place, sense_value, value_in, values_from}

place_near : (place i : ℕ) (s : Sense) → place ≤ i → next_place place s ≤ i + 1
place_near place i (truth v) h = omega (arith, h)
place_near place i (atom form) h = omega (arith, h)
place_near place i gate h = omega (arith, h)

near_by : (next place i : ℕ) (s : Sense) → next ≡ next_place place s → place ≤ i → next ≤ i + 1
near_by next place i s e h = let near : next_place place s ≤ i + 1 = place_near place i s h in omega (arith, near, e)

pub values_more : (p : PointForm) (ms : List Meaning) (sums : List ℤ) (i : ℕ) (m : Meaning) (place next : ℕ) (s : ℤ) (b : Bool) (done new whole : List Bool)
    → i < length ms → m ≡ get_or ms i m → sums ≡ map (value_in p) (map sense_of ms) → s ≡ get_or sums i (pos 0)
    → (s ≡ value_in p (sense_of m) → b ≡ sense_value p place (sense_of m)) → next ≡ next_place place (sense_of m) → new ≡ done ++ b ∷ []
    → place ≤ i → done ++ values_from p place (map sense_of (drop i ms)) ≡ whole
    → (next ≤ i + 1) × (new ++ values_from p next (map sense_of (drop (i + 1) ms)) ≡ whole)
values_more p ms sums i m place next s b done new whole h is sums_are s_is told next_is pushed near before =
    let rest = map sense_of (drop (i + 1) ms) in
    let split : map sense_of (drop i ms) ≡ sense_of m ∷ rest = ap (map sense_of) (drop_more ms i m h) ∙ ap (λ x. sense_of x ∷ rest) (sym is) in
    let within : i < length (map sense_of ms) = omega (arith, h, length-map ms sense_of) in
    let here : get_or (map (value_in p) (map sense_of ms)) i (pos 0) ≡ value_in p (sense_of m) =
    get_or-map (value_in p) (map sense_of ms) i (sense_of m) (pos 0) within ∙ ap (value_in p) (get_or-map sense_of ms i m (sense_of m) h ∙ ap sense_of (sym is)) in
    let value : b ≡ sense_value p place (sense_of m) = told (s_is ∙ ap (λ ss. get_or ss i (pos 0)) sums_are ∙ here) in
    let onward : done ++ (b ∷ values_from p next rest) ≡ done ++ values_from p place (map sense_of (drop i ms)) =
    ap (λ x. done ++ (x ∷ values_from p next rest)) value ∙ ap (λ n. done ++ (sense_value p place (sense_of m) ∷ values_from p n rest)) next_is ∙ ap (λ ss. done ++ values_from p place ss) (sym split) in (
      near_by next place i (sense_of m) next_is near,
      ap (λ xs. xs ++ values_from p next rest) pushed ∙ append_assoc done (b ∷ []) (values_from p next rest) ∙ onward ∙ before,
    )

-- all facts are true
and_both : (a b : Bool) → (a && b) ≡ true → (a ≡ true) × (b ≡ true)
and_both true b e = (refl, e)
and_both false b e = absurd (cc)

and_of : (a b : Bool) → a ≡ true → b ≡ true → (a && b) ≡ true
and_of true b e f = f
and_of false b e f = absurd (cc)

all_listed : (model : Sense → Bool) (facts : List Fact) → all_true (values_of model (listed facts)) ≡ true → AreTrueFacts model facts
all_listed model [] e = All-nil (λ fact. value_of model fact ≡ true)
all_listed model (f ∷ fs) e =
    let both = and_both (value_of model f) (all_true (values_of model (listed fs))) e in
    All-cons (λ fact. value_of model fact ≡ true) f fs both.0 (all_listed model fs both.1)

listed_all : (model : Sense → Bool) (facts : List Fact) → AreTrueFacts model facts → all_true (values_of model (listed facts)) ≡ true
listed_all model [] h = refl
listed_all model (f ∷ fs) h =
    and_of (value_of model f) (all_true (values_of model (listed fs))) (All-head (λ fact. value_of model fact ≡ true) f fs h) (listed_all model fs (All-tail (λ fact. value_of model fact ≡ true) f fs h))

pub all_facts : (model : Sense → Bool) (facts : List Fact) (b : Bool) → b ≡ all_true (values_of model (listed facts)) → IsTrue b ↔ AreTrueFacts model facts
all_facts model facts b is = (λ e. all_listed model facts (sym is ∙ e), λ h. is ∙ listed_all model facts h)
