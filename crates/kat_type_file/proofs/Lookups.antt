-- The place of what a word means.
use Rattle.std.proofs.Common.{◌≡◌, ℕ, suc, ◌≤◌, Bool, true, false, List, [], ◌∷◌, length, sym, ◌∙◌, subst, arith, Option, None, Some}
use Rattle.std.specs.Prelude.{option_map, ◌==◌, if◌then◌else◌}
use Rattle.kat_judging.specs.Names.{first_named, one_further}
use Rattle.kat_type_file.specs.Typing.{place_of}
use Rattle.kat_judging.specs.declared.names.Declared.{Declared}

-- a place is one of the list's
place_within : {A : Type 0} (n : ℕ) (x : A) (b : Bool) (found : Option (Declared A)) → place_of found ≤ n
    → place_of (if b then Some (record { place = 0; it = x }) else option_map one_further found) ≤ suc n
place_within n x true found h = omega arith
place_within n x false None h = omega arith
place_within n x false (Some d) h = omega (arith, h)

pub places_within : {A : Type 0} (name : A → ℕ) (code : ℕ) (xs : List A) → place_of (first_named name code xs) ≤ length xs
places_within name code [] = omega arith
places_within name code (x ∷ xs) = place_within (length xs) x (name x == code) (first_named name code xs) (places_within name code xs)

pub small_place : {A : Type 0} (name : A → ℕ) (code n : ℕ) (xs : List A) (found : Option (Declared A)) (d : Declared A)
    → length xs ≤ n → found ≡ first_named name code xs → found ≡ Some d → d.place ≤ n
small_place name code n xs found d le is some =
    let within : d.place ≤ length xs = subst (λ (f : Option (Declared _)). place_of f ≤ length xs) (sym is ∙ some) (places_within name code xs) in
    omega (arith, le, within)
