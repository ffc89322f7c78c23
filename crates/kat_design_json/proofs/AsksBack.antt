-- An ask without a fault of form is what is printed of its meaning, unless one of its numbers is the greatest of 32 bits.
use Rattle.std.proofs.Common.{◌<◌, Some, None, ℕ, List, codes, ◌≡◌, [], zero, suc, ◌≤◌, ◌∷◌, length, sym, ap, ◌∙◌, Option, arith, ◌++◌, refl, ℤ, false}
use Rattle.std.specs.Prelude.{◌^◌, ◌-◌, option_map, slice_get, unwrap_or}
use Rattle.std.proofs.lemmas.Option.{slice_get_within}
use Rattle.kat_design.specs.Designs.{AskForm}
use Rattle.kat_design.specs.Designs.AskForm.{leaf as a_leaf, parameter, constant, negation, both, either, less, sum, difference}
use Rattle.kat_design_json.specs.declared.tags.AskTag.{AskTag}
use Rattle.serde_json.specs.Data.{Data, null, string, Num, boolean, number, array, object, Items, no_items, item}
use Rattle.kat_json.specs.FormFaults.{number_faults, optional_faults, past_faults, part_faults, faults_unless}
use Rattle.kat_json.specs.Parts.{number_said}
use Rattle.kat_json.specs.Printed.{natural}
use Rattle.kat_json.specs.Words.{number_of, spelled, whole_of_number, value_of}
use Rattle.kat_json.proofs.AtomsBack.{natural_back, value_back}
use Rattle.kat_json.proofs.Backwards.{found_back, within_back, past_back, part_back, list_back}
use Rattle.kat_design.specs.Faults.{within, Path}
use Rattle.kat_json.specs.Lists.{at_place, list, tag_of, elements}
use Rattle.kat_design_json.specs.PrintedDesigns.{ask_data}
use Rattle.kat_json.proofs.PartsBack.{list_four, list_three, none_three, list_two, none_four, word_known}
use Rattle.kat_design.proofs.Accepted.{none_left, none_right}
use Rattle.kat_design_json.specs.DesignFaults.{ask_parts_faults, ask_faults, ask_faults_at}
use Rattle.kat_design_json.specs.DesignParts.{ask_parts_said, ask_said, ask_said_at}
use Rattle.kat_design_json.specs.Words.{ask_words}
use Rattle.kat_design_json.specs.declared.tags.AskTag.TheVariants as ask
use Rattle.kat_num.specs.declared.values.Value.TheVariants as value

-- no number of an ask is the greatest of 32 bits
abbrev pub HasSmallNumbers : AskForm → Type 0
HasSmallNumbers (a_leaf component place None) = (component < 2 ^ 32 - 1) × (place < 2 ^ 32 - 1)
HasSmallNumbers (a_leaf component place (Some key)) = (component < 2 ^ 32 - 1) × (place < 2 ^ 32 - 1) × (key < 2 ^ 32 - 1)
HasSmallNumbers (parameter place) = place < 2 ^ 32 - 1
HasSmallNumbers (constant v) = Unit {0}
HasSmallNumbers (negation a) = HasSmallNumbers a
HasSmallNumbers (both a b) = HasSmallNumbers a × HasSmallNumbers b
HasSmallNumbers (either a b) = HasSmallNumbers a × HasSmallNumbers b
HasSmallNumbers (less a b) = HasSmallNumbers a × HasSmallNumbers b
HasSmallNumbers (sum a b) = HasSmallNumbers a × HasSmallNumbers b
HasSmallNumbers (difference a b) = HasSmallNumbers a × HasSmallNumbers b

abbrev ask_word : AskTag → List ℕ
ask_word ask.Leaf = codes "leaf"
ask_word ask.Param = codes "p"
ask_word ask.Not = codes "not"
ask_word ask.And = codes "and"
ask_word ask.Or = codes "or"
ask_word ask.Less = codes "<"
ask_word ask.Plus = codes "+"
ask_word ask.Minus = codes "-"

number_back : (d : Data) → number_faults d ≡ [] → number_said d < 2 ^ 32 - 1 → natural (number_said d) ≡ d
number_back d none small = natural_back d (number_said d) (found_back (number_of d) 0 none) small

-- a leaf, with a key or without
leaf_by : (d : Data) (ds : List Data) (o : Option Data) → slice_get ds 3 ≡ o → d ≡ list ds → tag_of ds ≡ codes "leaf" → (1 < length ds) × (number_faults (at_place ds 1) ≡ [])
    → (2 < length ds) × (number_faults (at_place ds 2) ≡ []) → optional_faults number_faults 3 ds ≡ [] → length ds ≤ 4
    → HasSmallNumbers (a_leaf (number_said (at_place ds 1)) (number_said (at_place ds 2)) (option_map number_said o))
    → ask_data (a_leaf (number_said (at_place ds 1)) (number_said (at_place ds 2)) (option_map number_said o)) ≡ d
leaf_by d ds None there is word component place key few small =
    list_three d ds _ _ _ _ is word place.0 (past_none ds 3 there) (number_back (at_place ds 1) component.1 small.0) (number_back (at_place ds 2) place.1 small.1) where
      past_none : (ds : List Data) (i : ℕ) → slice_get ds i ≡ None → length ds ≤ i
      past_none [] i none = omega arith
      past_none (e ∷ ds) zero none = absurd (cc)
      past_none (e ∷ ds) (suc i) none = let rest = past_none ds i none in omega (arith, rest)
leaf_by d ds (Some k) there is word component place key few small =
    let same : at_place ds 3 ≡ k = ap (λ o. unwrap_or o null) there in
    let faults : number_faults k ≡ [] = within_back 3 (number_faults k) (given ds k there key) in
    list_four d ds _ _ _ _ _ is word (slice_get_within ds 3 k there) few (number_back (at_place ds 1) component.1 small.0) (number_back (at_place ds 2) place.1 small.1)
    (number_back k faults small.2 ∙ sym same) where
      given : (ds : List Data) (k : Data) → slice_get ds 3 ≡ Some k → optional_faults number_faults 3 ds ≡ [] → within 3 (number_faults k) ≡ []
      given ds k there none = rw there at none

-- an operation on two asks
two_by : (d : Data) (ds : List Data) (x : ℕ) (word : List ℕ) (a b : AskForm) (fa fb : List Path) → d ≡ list ds → tag_of ds ≡ x ∷ word → within 1 fa ++ within 2 fb ++ past_faults 3 ds ≡ []
    → HasSmallNumbers a × HasSmallNumbers b → (fa ≡ [] → HasSmallNumbers a → (1 < length ds) × (ask_data a ≡ at_place ds 1)) → (fb ≡ [] → HasSmallNumbers b → (2 < length ds) × (ask_data b ≡ at_place ds 2))
    → list (string (x ∷ word) ∷ ask_data a ∷ ask_data b ∷ []) ≡ d
two_by d ds x word a b fa fb is tag none small first second =
    let parts = none_three (within 1 fa) (within 2 fb) (past_faults 3 ds) none in
    let one = first (within_back 1 fa parts.0) small.0 in
    let two = second (within_back 2 fb parts.1) small.1 in
    list_three d ds x word (ask_data a) (ask_data b) is tag two.0 (past_back 3 ds parts.2) one.1 two.1

list_ask_by : (d : Data) (ds : List Data) (tag : AskTag) (a b : AskForm) (fa fb : List Path) → d ≡ list ds → tag_of ds ≡ ask_word tag → ask_parts_faults (Some tag) ds fa fb ≡ []
    → HasSmallNumbers (ask_parts_said (Some tag) ds a b) → (fa ≡ [] → HasSmallNumbers a → (1 < length ds) × (ask_data a ≡ at_place ds 1))
    → (fb ≡ [] → HasSmallNumbers b → (2 < length ds) × (ask_data b ≡ at_place ds 2)) → ask_data (ask_parts_said (Some tag) ds a b) ≡ d
list_ask_by d ds ask.Leaf a b fa fb is word none small first second =
    let parts = none_four (part_faults number_faults 1 ds) (part_faults number_faults 2 ds) (optional_faults number_faults 3 ds) (past_faults 4 ds) none in
    leaf_by d ds (slice_get ds 3) refl is word (part_back number_faults 1 ds parts.0) (part_back number_faults 2 ds parts.1) parts.2 (past_back 4 ds parts.3) small
list_ask_by d ds ask.Param a b fa fb is word none small first second =
    let place = part_back number_faults 1 ds (none_left (part_faults number_faults 1 ds) (past_faults 2 ds) none) in
    list_two d ds _ _ _ is word place.0 (past_back 2 ds (none_right (part_faults number_faults 1 ds) (past_faults 2 ds) none)) (number_back (at_place ds 1) place.1 small)
list_ask_by d ds ask.Not a b fa fb is word none small first second =
    let one = first (within_back 1 fa (none_left (within 1 fa) (past_faults 2 ds) none)) small in
    list_two d ds _ _ (ask_data a) is word one.0 (past_back 2 ds (none_right (within 1 fa) (past_faults 2 ds) none)) one.1
list_ask_by d ds ask.And a b fa fb is word none small first second = two_by d ds _ _ a b fa fb is word none small first second
list_ask_by d ds ask.Or a b fa fb is word none small first second = two_by d ds _ _ a b fa fb is word none small first second
list_ask_by d ds ask.Less a b fa fb is word none small first second = two_by d ds _ _ a b fa fb is word none small first second
list_ask_by d ds ask.Plus a b fa fb is word none small first second = two_by d ds _ _ a b fa fb is word none small first second
list_ask_by d ds ask.Minus a b fa fb is word none small first second = two_by d ds _ _ a b fa fb is word none small first second

list_ask_known : (d : Data) (ds : List Data) (o : Option AskTag) (a b : AskForm) (fa fb : List Path) → d ≡ list ds → spelled ask_words (tag_of ds) ≡ o → ask_parts_faults o ds fa fb ≡ []
    → HasSmallNumbers (ask_parts_said o ds a b) → (fa ≡ [] → HasSmallNumbers a → (1 < length ds) × (ask_data a ≡ at_place ds 1))
    → (fb ≡ [] → HasSmallNumbers b → (2 < length ds) × (ask_data b ≡ at_place ds 2)) → ask_data (ask_parts_said o ds a b) ≡ d
list_ask_known d ds None a b fa fb is known none small first second = absurd (cc)
list_ask_known d ds (Some tag) a b fa fb is known none small first second =
    let word = word_known ask_word ask_words (refl, (refl, (refl, (refl, (refl, (refl, (refl, (refl, tt)))))))) (tag_of ds) tag known in
    list_ask_by d ds tag a b fa fb is word none small first second

-- a whole number is a value
number_found : (n : Num) (o : Option ℤ) → whole_of_number n ≡ o → faults_unless o ≡ [] → faults_unless (option_map value.Num o) ≡ []
number_found n None is none = none
number_found n (Some z) is none = refl

mutual
  pub ask_back : (d : Data) → ask_faults d ≡ [] → HasSmallNumbers (ask_said d) → ask_data (ask_said d) ≡ d
  ask_back null none small = absurd (cc)
  ask_back (boolean b) none small = refl
  ask_back (number n) none small = value_back (number n) _ (found_back (value_of (number n)) (value.Bool false) (number_found n (whole_of_number n) refl none))
  ask_back (string s) none small = value_back (string s) _ (found_back (value_of (string s)) (value.Bool false) none)
  ask_back (array es) none small =
      let ds = elements es in
      list_ask_known (array es) ds (spelled ask_words (tag_of ds)) (ask_said_at es 1) (ask_said_at es 2) (ask_faults_at es 1) (ask_faults_at es 2) (list_back (array es) ds refl) refl none small
      (ask_at_back es 1) (ask_at_back es 2)
  ask_back (object ms) none small = absurd (cc)

  ask_at_back : (ds : Items) (i : ℕ) → ask_faults_at ds i ≡ [] → HasSmallNumbers (ask_said_at ds i) → (i < length (elements ds)) × (ask_data (ask_said_at ds i) ≡ at_place (elements ds) i)
  ask_at_back no_items i none small = absurd (cc)
  ask_at_back (item d ds) zero none small = (omega arith, ask_back d none small)
  ask_at_back (item d ds) (suc i) none small = let rest = ask_at_back ds i none small in let less : i < length (elements ds) = rest.0 in (omega arith, rest.1)
