-- Shapes and asks inside lists: how deep they nest, and what is said at the places of a list.
use Rattle.std.proofs.Common.{ℕ, max, List, [], ◌∷◌, ◌≡◌, refl, ap, Some, ◌<◌, ◌∙◌, arith, zero, suc, ◌≤◌, None, sym}
use Rattle.std.specs.Prelude.{slice_get}
use Rattle.serde_json.specs.Data.{Data, depth, Items, no_items, item, items_depth, null, boolean, number, string, array, object}
use Rattle.kat_json.specs.Lists.{elements, list_of, at_place, tag_of}
use Rattle.kat_json.specs.FormFaults.{present}
use Rattle.kat_design_json.specs.DesignFaults.{shape_faults, shape_faults_at, ask_faults, ask_faults_at, component_parts_faults, component_faults}
use Rattle.kat_design_json.specs.DesignParts.{shape_said, shape_said_at, ask_said, ask_said_at}
use Rattle.kat_design_json.specs.Joined.{joined_faults, joined_said, list_ask_faults, list_ask_said}
use Rattle.kat_design_json.specs.Words.{ask_words, joint_words, component_words}
use Rattle.kat_json.specs.Words.{spelled}
use Rattle.kat_design.specs.Faults.{first_of, within}

abbrev pub list_depth : List Data → ℕ
list_depth [] = 0
list_depth (d ∷ ds) = max (depth d) (list_depth ds)

items_deep : (ds : Items) → list_depth (elements ds) ≡ items_depth ds
items_deep no_items = refl
items_deep (item d ds) = ap (λ n. max (depth d) n) (items_deep ds)

some_same : {A : Type 0} (x y : A) → Some x ≡ Some y → x ≡ y
some_same x y e = cc

-- a list is less deep than the value that it is, and an element is no deeper than its list
pub deeper : (d : Data) (ds : List Data) → Some ds ≡ list_of d → list_depth ds < depth d
deeper null ds is = absurd (cc)
deeper (boolean b) ds is = absurd (cc)
deeper (number n) ds is = absurd (cc)
deeper (string s) ds is = absurd (cc)
deeper (array es) ds is =
    let same : list_depth ds ≡ items_depth es = ap (λ xs. list_depth xs) (some_same ds (elements es) is) ∙ items_deep es in omega arith
deeper (object ms) ds is = absurd (cc)

pub no_deeper : (ds : List Data) (i : ℕ) (d : Data) → slice_get ds i ≡ Some d → depth d ≤ list_depth ds
no_deeper [] i d is = absurd (cc)
no_deeper (e ∷ ds) zero d is = let same : e ≡ d = some_same e d is in let deep : depth e ≡ depth d = ap depth same in omega arith
no_deeper (e ∷ ds) (suc i) d is = let rest = no_deeper ds i d is in omega (arith, rest)

shape_there : (ds : Items) (i : ℕ) → shape_faults_at ds i ≡ present shape_faults (slice_get (elements ds) i)
shape_there no_items i = refl
shape_there (item d ds) zero = refl
shape_there (item d ds) (suc i) = shape_there ds i

shape_meant : (ds : Items) (i : ℕ) → shape_said_at ds i ≡ shape_said (at_place (elements ds) i)
shape_meant no_items i = refl
shape_meant (item d ds) zero = refl
shape_meant (item d ds) (suc i) = shape_meant ds i

-- what a shape says that is a list
pub shape_list_faults : (d : Data) (ds : List Data) → Some ds ≡ list_of d → shape_faults d ≡ joined_faults ds
shape_list_faults null ds is = absurd (cc)
shape_list_faults (boolean b) ds is = absurd (cc)
shape_list_faults (number n) ds is = absurd (cc)
shape_list_faults (string s) ds is = absurd (cc)
shape_list_faults (array es) ds is =
    let same : ds ≡ elements es = some_same ds (elements es) is in
    let first = shape_there es 1 in
    let second = shape_there es 2 in
    rw (same, first, second) refl
shape_list_faults (object ms) ds is = absurd (cc)

pub shape_list_said : (d : Data) (ds : List Data) → Some ds ≡ list_of d → shape_said d ≡ joined_said ds
shape_list_said null ds is = absurd (cc)
shape_list_said (boolean b) ds is = absurd (cc)
shape_list_said (number n) ds is = absurd (cc)
shape_list_said (string s) ds is = absurd (cc)
shape_list_said (array es) ds is =
    let same : ds ≡ elements es = some_same ds (elements es) is in
    let first = shape_meant es 1 in
    let second = shape_meant es 2 in
    rw (same, first, second) refl
shape_list_said (object ms) ds is = absurd (cc)

ask_there : (ds : Items) (i : ℕ) → ask_faults_at ds i ≡ present ask_faults (slice_get (elements ds) i)
ask_there no_items i = refl
ask_there (item d ds) zero = refl
ask_there (item d ds) (suc i) = ask_there ds i

ask_meant : (ds : Items) (i : ℕ) → ask_said_at ds i ≡ ask_said (at_place (elements ds) i)
ask_meant no_items i = refl
ask_meant (item d ds) zero = refl
ask_meant (item d ds) (suc i) = ask_meant ds i

-- what an ask says that is a list
pub ask_list_faults : (d : Data) (ds : List Data) → Some ds ≡ list_of d → ask_faults d ≡ list_ask_faults (spelled ask_words (tag_of ds)) ds
ask_list_faults null ds is = absurd (cc)
ask_list_faults (boolean b) ds is = absurd (cc)
ask_list_faults (number n) ds is = absurd (cc)
ask_list_faults (string s) ds is = absurd (cc)
ask_list_faults (array es) ds is =
    let same : ds ≡ elements es = some_same ds (elements es) is in
    let first = ask_there es 1 in
    let second = ask_there es 2 in
    rw (same, first, second) refl
ask_list_faults (object ms) ds is = absurd (cc)

pub ask_list_said : (d : Data) (ds : List Data) → Some ds ≡ list_of d → ask_said d ≡ list_ask_said (spelled ask_words (tag_of ds)) ds
ask_list_said null ds is = absurd (cc)
ask_list_said (boolean b) ds is = absurd (cc)
ask_list_said (number n) ds is = absurd (cc)
ask_list_said (string s) ds is = absurd (cc)
ask_list_said (array es) ds is =
    let same : ds ≡ elements es = some_same ds (elements es) is in
    let first = ask_meant es 1 in
    let second = ask_meant es 2 in
    rw (same, first, second) refl
ask_list_said (object ms) ds is = absurd (cc)

pub unknown_joint : (ds : List Data) → spelled joint_words (tag_of ds) ≡ None → first_of (within 0 ([] ∷ [])) ≡ first_of (joined_faults ds)
unknown_joint ds is = rw is refl

pub unknown_tag : (ds : List Data) → spelled ask_words (tag_of ds) ≡ None → first_of (within 0 ([] ∷ [])) ≡ first_of (list_ask_faults (spelled ask_words (tag_of ds)) ds)
unknown_tag ds is = rw is refl

pub unknown_component : (ds : List Data) → spelled component_words (tag_of ds) ≡ None → first_of (within 0 ([] ∷ [])) ≡ first_of (component_parts_faults (spelled component_words (tag_of ds)) ds)
unknown_component ds is = rw is refl

-- what a component says is what its parts say
pub component_parts : (d : Data) (ds : List Data) → Some ds ≡ list_of d → component_faults d ≡ component_parts_faults (spelled component_words (tag_of ds)) ds
component_parts d ds is = rw (sym is) refl
