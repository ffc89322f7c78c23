-- A value without a fault of form is what is printed of what it says: lists and their parts.
use Rattle.std.proofs.Common.{◌≡◌, Some, None, ℕ, List, [], ◌∷◌, refl, Bool, true, false, ap, sym, ◌∙◌, ◌<◌, length, Option, ◌≤◌, arith, ◌+◌, map, ap₂, cond}
use Rattle.std.specs.Prelude.{slice_get, unwrap_or, nat_lt, bytes_eq, ◌&&◌}
use Rattle.std.proofs.lemmas.Option.{slice_get_within}
use Rattle.std.proofs.lemmas.Bool.{ltb-false}
use Rattle.std.proofs.lemmas.Slice.Eq.{bytes_eq-Decides}
use Rattle.kat_design.specs.Faults.{Path, within, here_if, each_faults}
use Rattle.serde_json.specs.Data.{Items, no_items, item, Data, null, boolean, number, string, array, object}
use Rattle.serde_json.specs.View.{items_of}
use Rattle.kat_json.specs.Lists.{elements, list, list_of, at_place, elements_of}
use Rattle.kat_json.specs.FormFaults.{present, part_faults, past_faults, in_list, list_of_faults, faults_unless}
use Rattle.kat_design.proofs.Accepted.{none_left, none_right}
use Rattle.kat_json.specs.Parts.{list_said}
use Rattle.kat_design.specs.Sorted.{EachHas}
use Rattle.kat_json.specs.Words.{spelled, word_in}

pub some_same : {A : Type 0} (x y : A) → Some x ≡ Some y → x ≡ y
some_same x y e = cc

pub none_some : {A : Type 0} {P : Type 0} (x : A) → None ≡ Some x → P
none_some x e = absurd (cc)

pub within_back : (i : ℕ) (xs : List Path) → within i xs ≡ [] → xs ≡ []
within_back i [] none = refl
within_back i (x ∷ xs) none = absurd (cc)

pub here_back : (b : Bool) → here_if b ≡ [] → b ≡ false
here_back true none = absurd (cc)
here_back false none = refl

items_back : (ds : Items) → items_of (elements ds) ≡ ds
items_back no_items = refl
items_back (item d ds) = ap (λ es. item d es) (items_back ds)

pub list_back : (d : Data) (ds : List Data) → list_of d ≡ Some ds → d ≡ list ds
list_back null ds is = none_some ds is
list_back (boolean b) ds is = none_some ds is
list_back (number n) ds is = none_some ds is
list_back (string s) ds is = none_some ds is
list_back (array es) ds is = ap array (sym (items_back es) ∙ ap items_of (some_same (elements es) ds is))
list_back (object ms) ds is = none_some ds is

-- a part without faults is there
part_by : (f : Data → List Path) (place : ℕ) (ds : List Data) (o : Option Data) → slice_get ds place ≡ o → within place (present f o) ≡ []
    → (place < length ds) × (f (at_place ds place) ≡ [])
part_by f place ds None is none = absurd (cc)
part_by f place ds (Some d) is none =
    let same : at_place ds place ≡ d = ap (λ (o : Option Data). unwrap_or o null) is in
    (slice_get_within ds place d is, ap f same ∙ within_back place (f d) none)

pub part_back : (f : Data → List Path) (place : ℕ) (ds : List Data) → part_faults f place ds ≡ [] → (place < length ds) × (f (at_place ds place) ≡ [])
part_back f place ds none = part_by f place ds (slice_get ds place) refl none

past_by : (n : ℕ) (ds : List Data) (more : Bool) → nat_lt n (length ds) ≡ more → within n (here_if more) ≡ [] → length ds ≤ n
past_by n ds true is none = absurd (cc)
past_by n ds false is none = ltb-false n (length ds) is

pub past_back : (n : ℕ) (ds : List Data) → past_faults n ds ≡ [] → length ds ≤ n
past_back n ds none = past_by n ds (nat_lt n (length ds)) refl none

list_by : (f : List Data → List Path) (d : Data) (o : Option (List Data)) → list_of d ≡ o → present f o ≡ [] → (d ≡ list (unwrap_or o [])) × (f (unwrap_or o []) ≡ [])
list_by f d None is none = absurd (cc)
list_by f d (Some ds) is none = (list_back d ds is, none)

pub in_list_back : (f : List Data → List Path) (d : Data) → in_list f d ≡ [] → (d ≡ list (elements_of d)) × (f (elements_of d) ≡ [])
in_list_back f d none = list_by f d (list_of d) refl none

-- as many parts as there are
pub two_parts : (ds : List Data) → 1 < length ds → length ds ≤ 2 → ds ≡ at_place ds 0 ∷ at_place ds 1 ∷ []
two_parts [] more few = absurd (omega arith)
two_parts (a ∷ []) more few = absurd (omega arith)
two_parts (a ∷ b ∷ []) more few = refl
two_parts (a ∷ b ∷ c ∷ ds) more few = absurd (omega arith)

pub three_parts : (ds : List Data) → 2 < length ds → length ds ≤ 3 → ds ≡ at_place ds 0 ∷ at_place ds 1 ∷ at_place ds 2 ∷ []
three_parts [] more few = absurd (omega arith)
three_parts (a ∷ ds) more few = ap (λ es. a ∷ es) (two_parts ds (omega arith) (omega arith))

pub four_parts : (ds : List Data) → 3 < length ds → length ds ≤ 4 → ds ≡ at_place ds 0 ∷ at_place ds 1 ∷ at_place ds 2 ∷ at_place ds 3 ∷ []
four_parts [] more few = absurd (omega arith)
four_parts (a ∷ ds) more few = ap (λ es. a ∷ es) (three_parts ds (omega arith) (omega arith))

pub five_parts : (ds : List Data) → 4 < length ds → length ds ≤ 5 → ds ≡ at_place ds 0 ∷ at_place ds 1 ∷ at_place ds 2 ∷ at_place ds 3 ∷ at_place ds 4 ∷ []
five_parts [] more few = absurd (omega arith)
five_parts (a ∷ ds) more few = ap (λ es. a ∷ es) (four_parts ds (omega arith) (omega arith))

pub six_parts : (ds : List Data) → 5 < length ds → length ds ≤ 6 → ds ≡ at_place ds 0 ∷ at_place ds 1 ∷ at_place ds 2 ∷ at_place ds 3 ∷ at_place ds 4 ∷ at_place ds 5 ∷ []
six_parts [] more few = absurd (omega arith)
six_parts (a ∷ ds) more few = ap (λ es. a ∷ es) (five_parts ds (omega arith) (omega arith))

pub seven_parts : (ds : List Data) → 6 < length ds → length ds ≤ 7
    → ds ≡ at_place ds 0 ∷ at_place ds 1 ∷ at_place ds 2 ∷ at_place ds 3 ∷ at_place ds 4 ∷ at_place ds 5 ∷ at_place ds 6 ∷ []
seven_parts [] more few = absurd (omega arith)
seven_parts (a ∷ ds) more few = ap (λ es. a ∷ es) (six_parts ds (omega arith) (omega arith))

-- what goes back goes back in lists
abbrev pub GoesBack : {A : Type 0} → (Data → List Path) → (Data → A) → (A → Data) → Type 0
GoesBack faults said print = (d : Data) → faults d ≡ [] → print (said d) ≡ d

pub each_back : {A : Type 0} (f : Data → List Path) (said : Data → A) (print : A → Data) (i : ℕ) (ds : List Data) → GoesBack f said print → each_faults f i ds ≡ []
    → map print (map said ds) ≡ ds
each_back f said print i [] back none = refl
each_back f said print i (d ∷ ds) back none =
    ap₂ (λ x xs. x ∷ xs) (back d (within_back i (f d) (none_left (within i (f d)) (each_faults f (i + 1) ds) none)))
    (each_back f said print (i + 1) ds back (none_right (within i (f d)) (each_faults f (i + 1) ds) none))

pub list_goes_back : {A : Type 0} (f : Data → List Path) (said : Data → A) (print : A → Data) → GoesBack f said print
    → GoesBack (list_of_faults f) (list_said said) (λ xs. list (map print xs))
list_goes_back f said print back d none =
    let got = in_list_back (each_faults f 0) d none in
    ap list (each_back f said print 0 (elements_of d) back got.1) ∙ sym got.0

-- what was looked for and found
pub found_back : {A : Type 0} (o : Option A) (x : A) → faults_unless o ≡ [] → o ≡ Some (unwrap_or o x)
found_back None x none = absurd (cc)
found_back (Some y) x none = refl

-- a word of a table
spelled_by : {A : Type 0} (print : A → Data) (word : List ℕ) (y : A) (text : List ℕ) (x : A) (b : Bool) (rest : Option A) → bytes_eq text word ≡ b → print y ≡ string word
    → (rest ≡ Some x → print x ≡ string text) → cond b (Some y) rest ≡ Some x → print x ≡ string text
spelled_by print word y text x true rest is prints later h =
    ap print (sym (some_same y x h)) ∙ prints ∙ ap string (sym ((bytes_eq-Decides text word).0 is))
spelled_by print word y text x false rest is prints later h = later h

pub spelled_back : {A : Type 0} (print : A → Data) (table : List (List ℕ × A)) → EachHas (λ (e : List ℕ × A). print e.1 ≡ string e.0) table → (text : List ℕ) (x : A) → spelled table text ≡ Some x
    → print x ≡ string text
spelled_back print [] prints text x h = none_some x h
spelled_back print (e ∷ table) prints text x h =
    spelled_by print e.0 e.1 text x (bytes_eq text e.0) (spelled table text) refl prints.0 (λ k. spelled_back print table prints.1 text x k) h

pub word_back : {A : Type 0} (print : A → Data) (table : List (List ℕ × A)) → EachHas (λ (e : List ℕ × A). print e.1 ≡ string e.0) table → (d : Data) (x : A) → word_in table d ≡ Some x
    → print x ≡ d
word_back print table prints null x h = none_some x h
word_back print table prints (boolean b) x h = none_some x h
word_back print table prints (number n) x h = none_some x h
word_back print table prints (string s) x h = spelled_back print table prints s x h
word_back print table prints (array ds) x h = none_some x h
word_back print table prints (object ms) x h = none_some x h

pub and_true : (a b : Bool) → a ≡ true → b ≡ true → (a && b) ≡ true
and_true true b h k = k
and_true false b h k = absurd (cc)
