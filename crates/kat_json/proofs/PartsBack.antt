-- A value without a fault of form is what is printed of what it says: effects, and lists that begin with a word.
use Rattle.std.proofs.Common.{◌≡◌, ℕ, List, [], ◌∷◌, ap, refl, map, ap₂, ◌++◌, sym, ◌∙◌, ◌<◌, ◌≤◌, length, Some}
use Rattle.std.specs.Prelude.{unwrap_or}
use Rattle.serde_json.specs.Data.{Data, null, boolean, number, string, array, object}
use Rattle.kat_json.specs.Lists.{at_place, tag_of, text_of, list, elements_of}
use Rattle.kat_design.specs.Faults.{Path}
use Rattle.kat_json.specs.FormFaults.{effect_faults, effects_faults, leaf_faults, list_of_faults, value_faults, key_faults, keyed_faults, pair_faults, part_faults, past_faults}
use Rattle.kat_json.specs.Parts.{effect_said, effects_said, leaf_said, list_said, value_said, key_said, pair_said}
use Rattle.kat_json.specs.Printed.{effect_data, effects_data, leaf_data, leaves_data, value_data, key_data, keyed_data}
use Rattle.kat_json.proofs.Backwards.{GoesBack, list_goes_back, in_list_back, part_back, past_back, two_parts, three_parts, four_parts, five_parts, spelled_back}
use Rattle.kat_json.proofs.AtomsBack.{leaf_goes_back, value_goes_back, key_goes_back}
use Rattle.kat_design.proofs.Accepted.{none_left, none_right}
use Rattle.kat_design.specs.Sorted.{EachHas}
use Rattle.kat_json.specs.Words.{spelled}

-- a tag that isn't empty comes first
pub tag_back : (ds : List Data) (x : ℕ) (word : List ℕ) → tag_of ds ≡ x ∷ word → at_place ds 0 ≡ string (x ∷ word)
tag_back ds x word is = tag_by (at_place ds 0) x word is where
  tag_by : (d : Data) (x : ℕ) (word : List ℕ) → unwrap_or (text_of d) [] ≡ x ∷ word → d ≡ string (x ∷ word)
  tag_by null x word is = absurd (cc)
  tag_by (boolean b) x word is = absurd (cc)
  tag_by (number n) x word is = absurd (cc)
  tag_by (string s) x word is = ap string is
  tag_by (array es) x word is = absurd (cc)
  tag_by (object ms) x word is = absurd (cc)

string_same : (s t : List ℕ) → string s ≡ string t → s ≡ t
string_same s t is = cc

-- effects
pub effect_goes_back : {A : Type 0} (f : Data → List Path) (said : Data → A) (print : A → Data) → GoesBack f said print → GoesBack (effect_faults f) (effect_said said) (effect_data print)
effect_goes_back f said print back null none = refl
effect_goes_back f said print back (boolean b) none = back (boolean b) none
effect_goes_back f said print back (number n) none = back (number n) none
effect_goes_back f said print back (string s) none = back (string s) none
effect_goes_back f said print back (array ds) none = back (array ds) none
effect_goes_back f said print back (object ms) none = back (object ms) none

pub effects_go_back : {A : Type 0} (f : Data → List Path) (said : Data → A) (print : A → Data) → GoesBack f said print → GoesBack (effects_faults f) (effects_said said) (effects_data print)
effects_go_back f said print back = list_goes_back (effect_faults f) (effect_said said) (effect_data print) (effect_goes_back f said print back)

pub leaves_go_back : GoesBack (list_of_faults leaf_faults) (list_said leaf_said) leaves_data
leaves_go_back = list_goes_back leaf_faults leaf_said leaf_data leaf_goes_back

pub values_go_back : GoesBack (list_of_faults value_faults) (list_said value_said) (λ vs. list (map value_data vs))
values_go_back = list_goes_back value_faults value_said value_data value_goes_back

-- two lists of parts
pub parts_two : (a b c d : Data) → a ≡ c → b ≡ d → list (a ∷ b ∷ []) ≡ list (c ∷ d ∷ [])
parts_two a b c d e f = ap₂ (λ x y. list (x ∷ y ∷ [])) e f

pub pair_goes_back : {A : Type 0} (f : Data → List Path) (said : Data → A) (print : A → Data) → GoesBack f said print → GoesBack (pair_faults f) (pair_said said) (keyed_data print)
pair_goes_back f said print back d none =
    let got = in_list_back (keyed_faults f) d none in
    let ds = elements_of d in
    let front = none_left (part_faults key_faults 0 ds ++ part_faults f 1 ds) (past_faults 2 ds) got.1 in
    let key = part_back key_faults 0 ds (none_left (part_faults key_faults 0 ds) (part_faults f 1 ds) front) in
    let given = part_back f 1 ds (none_right (part_faults key_faults 0 ds) (part_faults f 1 ds) front) in
    let few = past_back 2 ds (none_right (part_faults key_faults 0 ds ++ part_faults f 1 ds) (past_faults 2 ds) got.1) in
    parts_two (key_data (key_said (at_place ds 0))) (print (said (at_place ds 1))) (at_place ds 0) (at_place ds 1) (key_goes_back (at_place ds 0) key.1) (back (at_place ds 1) given.1)
    ∙ sym (ap list (two_parts ds given.0 few)) ∙ sym got.0

-- lists that begin with a word
pub list_two : (d : Data) (ds : List Data) (x : ℕ) (word : List ℕ) (a : Data) → d ≡ list ds → tag_of ds ≡ x ∷ word → 1 < length ds → length ds ≤ 2 → a ≡ at_place ds 1
    → list (string (x ∷ word) ∷ a ∷ []) ≡ d
list_two d ds x word a is tag more few e = rw (is, two_parts ds more few, tag_back ds x word tag, sym e) refl

pub list_three : (d : Data) (ds : List Data) (x : ℕ) (word : List ℕ) (a b : Data) → d ≡ list ds → tag_of ds ≡ x ∷ word → 2 < length ds → length ds ≤ 3 → a ≡ at_place ds 1 → b ≡ at_place ds 2
    → list (string (x ∷ word) ∷ a ∷ b ∷ []) ≡ d
list_three d ds x word a b is tag more few e f = rw (is, three_parts ds more few, tag_back ds x word tag, sym e, sym f) refl

pub list_four : (d : Data) (ds : List Data) (x : ℕ) (word : List ℕ) (a b c : Data) → d ≡ list ds → tag_of ds ≡ x ∷ word → 3 < length ds → length ds ≤ 4 → a ≡ at_place ds 1 → b ≡ at_place ds 2
    → c ≡ at_place ds 3 → list (string (x ∷ word) ∷ a ∷ b ∷ c ∷ []) ≡ d
list_four d ds x word a b c is tag more few e f g = rw (is, four_parts ds more few, tag_back ds x word tag, sym e, sym f, sym g) refl

pub list_five : (d : Data) (ds : List Data) (x : ℕ) (word : List ℕ) (a b c k : Data) → d ≡ list ds → tag_of ds ≡ x ∷ word → 4 < length ds → length ds ≤ 5 → a ≡ at_place ds 1
    → b ≡ at_place ds 2 → c ≡ at_place ds 3 → k ≡ at_place ds 4 → list (string (x ∷ word) ∷ a ∷ b ∷ c ∷ k ∷ []) ≡ d
list_five d ds x word a b c k is tag more few e f g h = rw (is, five_parts ds more few, tag_back ds x word tag, sym e, sym f, sym g, sym h) refl

-- lists of faults without a fault
pub none_three : (xs ys zs : List Path) → xs ++ ys ++ zs ≡ [] → (xs ≡ []) × (ys ≡ []) × (zs ≡ [])
none_three xs ys zs none =
    let front = none_left (xs ++ ys) zs none in (none_left xs ys front, none_right xs ys front, none_right (xs ++ ys) zs none)

pub none_four : (xs ys zs ws : List Path) → xs ++ ys ++ zs ++ ws ≡ [] → (xs ≡ []) × (ys ≡ []) × (zs ≡ []) × (ws ≡ [])
none_four xs ys zs ws none =
    let front = none_three xs ys zs (none_left (xs ++ ys ++ zs) ws none) in (front.0, front.1, front.2, none_right (xs ++ ys ++ zs) ws none)

pub none_five : (xs ys zs ws vs : List Path) → xs ++ ys ++ zs ++ ws ++ vs ≡ [] → (xs ≡ []) × (ys ≡ []) × (zs ≡ []) × (ws ≡ []) × (vs ≡ [])
none_five xs ys zs ws vs none =
    let front = none_four xs ys zs ws (none_left (xs ++ ys ++ zs ++ ws) vs none) in (front.0, front.1, front.2, front.3, none_right (xs ++ ys ++ zs ++ ws) vs none)

-- a word of a table, and what stands for it
pub word_known : {A : Type 0} (word : A → List ℕ) (table : List (List ℕ × A)) → EachHas (λ (e : List ℕ × A). word e.1 ≡ e.0) table → (text : List ℕ) (x : A) → spelled table text ≡ Some x → text ≡ word x
word_known {A} word table words text x h = string_same text (word x) (sym (spelled_back (λ y. string (word y)) table (strings table words) text x h)) where
  strings : (table : List (List ℕ × A)) → EachHas (λ (e : List ℕ × A). word e.1 ≡ e.0) table → EachHas (λ (e : List ℕ × A). string (word e.1) ≡ string e.0) table
  strings [] words = tt
  strings (e ∷ table) words = (ap string words.0, strings table words.1)
