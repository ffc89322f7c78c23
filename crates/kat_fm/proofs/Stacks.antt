-- A vector as a stack: what was pushed last comes first.
use Rattle.std.proofs.Common.{◌≡◌, List, [], ◌∷◌, ◌++◌, map, reverse, ap, ◌∙◌}
use Rattle.std.proofs.lemmas.List.{map_push, reverse-append}
use Rattle.kat_fm.specs.declared.returning.Taken.{Taken as TakenRows}
use Rattle.kat_fm.specs.Views.{taken_in, stack_of}

pub stacked : (ts : List TakenRows) (t : TakenRows) → stack_of (ts ++ t ∷ []) ≡ taken_in t ∷ stack_of ts
stacked ts t = ap reverse (map_push taken_in ts t) ∙ reverse-append (map taken_in ts) (taken_in t ∷ [])
