-- A reader that gives less than it was asked for has given all.
use Rattle.std.proofs.Common.{◌≡◌, ℕ, ◌+◌, ◌<◌, ◌≤◌, List, ◌++◌, length, take, drop, length-append, sym, ◌∙◌, ap, arith, Option, None, Some}
use Rattle.std.specs.Prelude.{IfSome, option_map}
use Rattle.std.specs.Io.{StartsWith}
use Rattle.std.proofs.lemmas.List.{take-append-drop, take_all, length-take}
use Rattle.kat_io.specs.Outside.{Tells}

pub record Given (told : Option (List ℕ)) (old new : List ℕ) : Type 0 where
  pub bytes : List ℕ
  pub text : new ≡ old ++ bytes
  pub long : length new ≡ length old + length bytes
  pub tells : Tells told bytes

short_front : (most : ℕ) (xs : List ℕ) → length (take most xs) < most → xs ≡ take most xs
short_front most xs short =
    let e = length-take most xs in
    let all : length xs ≤ most = omega (arith, short, e) in sym (take_all most xs all)

pub whole_given : (told : Option (List ℕ)) (most : ℕ) (old new : List ℕ) → StartsWith new old → IfSome (option_map (take most) told) (λ xs. new ≡ old ++ xs)
    → length new < length old + most → Given told old new
whole_given None most old new front is short =
    let text : new ≡ old ++ drop (length old) new = sym (take-append-drop (length old) new) ∙ ap (λ xs. xs ++ drop (length old) new) front in
    record { bytes = drop (length old) new; text = text; long = ap length text ∙ length-append old (drop (length old) new); tells = tt }
whole_given (Some xs) most old new front is short =
    let l : length new ≡ length old + length (take most xs) = ap length is ∙ length-append old (take most xs) in
    record { bytes = take most xs; text = is; long = l; tells = short_front most xs (omega (arith, l, short)) }
