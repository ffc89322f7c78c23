-- Lists of a JSON text.
use Rattle.std.proofs.Common.{◌≡◌, List, [], ◌∷◌, refl, ap, Some, sym, ◌∙◌, ℕ, ◌<◌, length, map, get_or, option_map, ◌≤◌, None, true}
use Rattle.std.proofs.lemmas.Option.{slice_get-map, slice_get_read, slice_get_past}
use Rattle.std.specs.Prelude.{slice_get, nat_lt}
use Rattle.std.proofs.lemmas.Bool.{lt-ltb}
use Rattle.std.proofs.lemmas.List.{length-map}
use Rattle.serde_json.specs.Data.{Data, Items, null, boolean, number, string, array, object}
use Rattle.serde_json.specs.View.{items_of}
use Rattle.kat_json.specs.Lists.{elements, list_of}
use Rattle.serde_json.specs.Find.{as_array}

pub elements_back : (ds : List Data) → elements (items_of ds) ≡ ds
elements_back [] = refl
elements_back (d ∷ ds) = ap (λ es. d ∷ es) (elements_back ds)

some_items : (a b : Items) → Some a ≡ Some b → elements a ≡ elements b
some_items a b e = cc

pub as_list : (d : Data) (ds : List Data) → Some (items_of ds) ≡ as_array d → Some ds ≡ list_of d
as_list null ds e = absurd (cc)
as_list (boolean b) ds e = absurd (cc)
as_list (number n) ds e = absurd (cc)
as_list (string s) ds e = absurd (cc)
as_list (array es) ds e = ap Some (sym (elements_back ds) ∙ some_items (items_of ds) es e)
as_list (object ms) ds e = absurd (cc)

-- the image of an element, and of none
pub got_at : {A B : Type 0} (g : A → B) (xs : List A) (i : ℕ) (x : A) → i < length xs → x ≡ get_or xs i x → slice_get (map g xs) i ≡ Some (g x)
got_at g xs i x lt is = slice_get-map g xs i ∙ ap (λ o. option_map g o) (slice_get_read xs (length xs) i x refl lt is)

pub got_none : {A B : Type 0} (g : A → B) (xs : List A) (i : ℕ) → length xs ≤ i → slice_get (map g xs) i ≡ None
got_none g xs i past = slice_get-map g xs i ∙ ap (λ o. option_map g o) (slice_get_past xs i past)

pub longer_than : {A B : Type 0} (g : A → B) (xs : List A) (n : ℕ) → n < length xs → nat_lt n (length (map g xs)) ≡ true
longer_than g xs n more = let same : length (map g xs) ≡ length xs = length-map xs g in rw same (lt-ltb n (length xs) more)
