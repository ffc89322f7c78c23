-- What each element of a list has.
use Rattle.std.proofs.Common.{List, [], ◌∷◌, map}
use Rattle.kat_design.specs.Sorted.{EachHas}

pub each_by : {A : Type 0} (P Q : A → Type 0) → ((x : A) → P x → Q x) → (xs : List A) → EachHas P xs → EachHas Q xs
each_by P Q by [] each = tt
each_by P Q by (x ∷ xs) each = (by x each.0, each_by P Q by xs each.1)

pub each_made : {A B : Type 0} (P : A → Type 0) (Q : B → Type 0) (f : A → B) → ((x : A) → P x → Q (f x)) → (xs : List A) → EachHas P xs → EachHas Q (map f xs)
each_made P Q f by [] each = tt
each_made P Q f by (x ∷ xs) each = (by x each.0, each_made P Q f by xs each.1)
