-- One of the orders tells.
use Rattle.std.proofs.Common.{◌≡◌, ℕ, ◌<◌, Bool, true, List, map, length, get_or, arith, sym, ◌∙◌, ap}
use Rattle.std.specs.List.{list_any}
use Rattle.std.proofs.lemmas.List.{get_or-map, length-map}
use Rattle.std.proofs.lemmas.List.Folds.{list_any_at}
use Rattle.kat_type.specs.declared.done.Done.{Done}
use Rattle.kat_histories.specs.Places.{ordered}

pub found_any : (p : List Done → Bool) (ones : List Done) (items : List (List ℕ)) (all : List (List Done)) (i : ℕ) (d : List ℕ) (b : Bool) → i < length items → map (ordered ones) items ≡ all
    → b ≡ p (ordered ones (get_or items i d)) → b ≡ true → true ≡ list_any p all
found_any p ones items all i d b lt is e t =
    let n = length-map items (ordered ones) in
    let at : get_or (map (ordered ones) items) i (ordered ones d) ≡ ordered ones (get_or items i d) = get_or-map (ordered ones) items i d (ordered ones d) lt in
    sym (list_any_at p (map (ordered ones) items) i (ordered ones d) (omega (arith, lt, n)) (ap p at ∙ sym e ∙ t)) ∙ ap (list_any p) is
