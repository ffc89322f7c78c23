-- Assignments, of which the last one counts first.
use Rattle.std.proofs.Common.{◌≡◌, List, [], ◌∷◌, ◌++◌, map, reverse, ap, ◌∙◌}
use Rattle.std.proofs.lemmas.List.{map-append, reverse-append}
use Rattle.kat_type.specs.Types.{assigned_by}
use Rattle.kat_type.specs.declared.types.Assign.{Assign}

pub last_first : (earlier : List Assign) (a : Assign) → reverse (map assigned_by (earlier ++ a ∷ [])) ≡ assigned_by a ∷ reverse (map assigned_by earlier)
last_first earlier a = ap reverse (map-append assigned_by earlier (a ∷ [])) ∙ reverse-append (map assigned_by earlier) (assigned_by a ∷ [])
