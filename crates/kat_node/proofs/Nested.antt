-- Values inside lists: how deep they nest, and the faults of a list.
use Rattle.std.proofs.Common.{◌≡◌, ℕ, zero, suc, ◌+◌, ◌<◌, ◌≤◌, max, List, [], ◌∷◌, ◌++◌, drop, get_or, length, map, refl, ap, ◌∙◌, sym, Option, None, Some, arith}
use Rattle.kat_design.specs.Faults.{each_faults, within}
use Rattle.kat_design.proofs.Firsts.{left_drop}
use Rattle.serde_json.specs.Data.{Data, depth, Items, no_items, item, items_depth, null, boolean, number, string, array, object}
use Rattle.std.specs.Prelude.{ℤ, option_map}
use Rattle.kat_num.specs.declared.values.Value.TheVariants.{Num}
use Rattle.kat_json.specs.FormFaults.{faults_unless, value_faults}
use Rattle.kat_json.specs.Words.{whole_of_number}
use Rattle.kat_json.specs.Lists.{elements, list_of}
use Rattle.kat_json.proofs.Backwards.{some_same}
use Rattle.kat_node.specs.StateForms.{any_faults, any_items_faults}

abbrev pub list_depth : List Data → ℕ
list_depth [] = 0
list_depth (d ∷ ds) = max (depth d) (list_depth ds)

items_deep : (ds : Items) → list_depth (elements ds) ≡ items_depth ds
items_deep no_items = refl
items_deep (item d ds) = ap (λ n. max (depth d) n) (items_deep ds)

-- a list is less deep than the value that it is, and an element is no deeper than its list
pub deeper : (d : Data) (ds : List Data) → Some ds ≡ list_of d → list_depth ds < depth d
deeper null ds is = absurd (cc)
deeper (boolean b) ds is = absurd (cc)
deeper (number n) ds is = absurd (cc)
deeper (string s) ds is = absurd (cc)
deeper (array es) ds is =
    let same : list_depth ds ≡ items_depth es = ap (λ xs. list_depth xs) (some_same ds (elements es) is) ∙ items_deep es in omega arith
deeper (object ms) ds is = absurd (cc)

pub no_deeper : {V : Type 0} (f : V → Data) (vs : List V) (i : ℕ) (v : V) → i < length vs → v ≡ get_or vs i v → depth (f v) ≤ list_depth (map f vs)
no_deeper f [] i v inside is = absurd (omega arith)
no_deeper f (w ∷ vs) zero v inside is = let same : depth (f v) ≡ depth (f w) = ap (λ x. depth (f x)) is in omega arith
no_deeper f (w ∷ vs) (suc i) v inside is = let rest = no_deeper f vs i v (omega arith) is in omega (arith, rest)

-- the faults of a list, and of what is none
items_each : (index : ℕ) (ds : Items) → any_items_faults index ds ≡ each_faults any_faults index (elements ds)
items_each index no_items = refl
items_each index (item d ds) = ap (λ fs. within index (any_faults d) ++ fs) (items_each (index + 1) ds)

pub any_list : (d : Data) (ds : List Data) → Some ds ≡ list_of d → any_faults d ≡ each_faults any_faults 0 ds
any_list null ds is = absurd (cc)
any_list (boolean b) ds is = absurd (cc)
any_list (number n) ds is = absurd (cc)
any_list (string s) ds is = absurd (cc)
any_list (array es) ds is = items_each 0 es ∙ ap (λ es. each_faults any_faults 0 es) (sym (some_same ds (elements es) is))
any_list (object ms) ds is = absurd (cc)

whole_value : (o : Option ℤ) → faults_unless o ≡ faults_unless (option_map Num o)
whole_value None = refl
whole_value (Some z) = refl

pub any_value : (d : Data) → None ≡ list_of d → any_faults d ≡ value_faults d
any_value null is = refl
any_value (boolean b) is = refl
any_value (number n) is = whole_value (whole_of_number n)
any_value (string s) is = refl
any_value (array es) is = absurd (cc)
any_value (object ms) is = refl

-- the element at an index of a list that is seen otherwise
seen_at : {V A : Type 0} (f : V → A) (vs : List V) (i : ℕ) (v : V) → i < length vs → v ≡ get_or vs i v → (i < length (map f vs)) × (f v ≡ get_or (map f vs) i (f v))
seen_at f [] i v inside is = absurd (omega arith)
seen_at f (w ∷ vs) zero v inside is = (omega arith, ap f is)
seen_at f (w ∷ vs) (suc i) v inside is = let rest = seen_at f vs i v (omega arith) is in (let less = rest.0 in omega (arith, less), rest.1)

pub drop_seen : {V A : Type 0} (f : V → A) (vs : List V) (i : ℕ) (v : V) → i < length vs → v ≡ get_or vs i v → drop i (map f vs) ≡ f v ∷ drop (i + 1) (map f vs)
drop_seen f vs i v inside is = let there = seen_at f vs i v inside is in left_drop (map f vs) i (f v) there.0 there.1
