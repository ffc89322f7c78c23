-- Which states go together, and how they join.
use Rattle.std.proofs.Common.{◌≡◌, List, [], ◌∷◌, refl, ap, map}
use Rattle.std.specs.Cmp.{IsTotalOrder}
use Rattle.kat_num.specs.Orders.{value_order}
use Rattle.kat_lattice.specs.MapLaws.{map_laws}
use Rattle.kat_lattice.specs.Sets.{set_laws}
use Rattle.kat_lattice.specs.Tallies.{tally_laws}
use Rattle.kat_shape.specs.Laws.{cell_laws}
use Rattle.kat_design.specs.Denotations.{component_meaning}
use Rattle.kat_design.specs.Designs.{ComponentForm}
use Rattle.kat_design.specs.Meanings.{are_kin, joined_each, states_of}
use Rattle.kat_design.specs.Parts.{PartsKin, part_joined, parts_joined}
use Rattle.kat_design.specs.declared.states.Part.{Part}
use Rattle.kat_design.specs.declared.states.Part.TheVariants as part

parts_turned : IsTotalOrder value_order → (a b : Part) → PartsKin a b → PartsKin b a
parts_turned total (part.Cell a) (part.Cell b) h = cell_laws.kin_sym a b h
parts_turned total (part.Table a) (part.Table b) h = (map_laws total cell_laws).kin_sym a b h
parts_turned total (part.Set a) (part.Set b) h = (set_laws total).kin_sym a b h
parts_turned total (part.Tally a) (part.Tally b) h = tally_laws.kin_sym a b h
parts_turned total (part.Tallies a) (part.Tallies b) h = (map_laws total tally_laws).kin_sym a b h
parts_turned total _ _ h = absurd h

parts_chained : IsTotalOrder value_order → (a b c : Part) → PartsKin a b → PartsKin b c → PartsKin a c
parts_chained total (part.Cell a) (part.Cell b) (part.Cell c) h k = cell_laws.kin_trans a b c h k
parts_chained total (part.Cell a) (part.Cell b) _ h k = absurd k
parts_chained total (part.Table a) (part.Table b) (part.Table c) h k = (map_laws total cell_laws).kin_trans a b c h k
parts_chained total (part.Table a) (part.Table b) _ h k = absurd k
parts_chained total (part.Set a) (part.Set b) (part.Set c) h k = (set_laws total).kin_trans a b c h k
parts_chained total (part.Set a) (part.Set b) _ h k = absurd k
parts_chained total (part.Tally a) (part.Tally b) (part.Tally c) h k = tally_laws.kin_trans a b c h k
parts_chained total (part.Tally a) (part.Tally b) _ h k = absurd k
parts_chained total (part.Tallies a) (part.Tallies b) (part.Tallies c) h k = (map_laws total tally_laws).kin_trans a b c h k
parts_chained total (part.Tallies a) (part.Tallies b) _ h k = absurd k
parts_chained total _ _ _ h k = absurd h

-- part by part
pub states_turned : IsTotalOrder value_order → (xs ys : List Part) → are_kin PartsKin xs ys → are_kin PartsKin ys xs
states_turned total [] [] h = tt
states_turned total [] (y ∷ ys) h = absurd h
states_turned total (x ∷ xs) [] h = absurd h
states_turned total (x ∷ xs) (y ∷ ys) h = (parts_turned total x y h.0, states_turned total xs ys h.1)

pub states_chained : IsTotalOrder value_order → (xs ys zs : List Part) → are_kin PartsKin xs ys → are_kin PartsKin ys zs → are_kin PartsKin xs zs
states_chained total [] [] [] h k = tt
states_chained total [] [] (z ∷ zs) h k = absurd k
states_chained total [] (y ∷ ys) zs h k = absurd h
states_chained total (x ∷ xs) [] zs h k = absurd h
states_chained total (x ∷ xs) (y ∷ ys) [] h k = absurd k
states_chained total (x ∷ xs) (y ∷ ys) (z ∷ zs) h k = (parts_chained total x y z h.0 k.0, states_chained total xs ys zs h.1 k.1)

-- the join of a design's states
pub joined_by_parts : (components : List ComponentForm) (xs ys : List Part)
    → are_kin PartsKin xs (states_of (map component_meaning components) []) → are_kin PartsKin ys (states_of (map component_meaning components) [])
    → joined_each (map component_meaning components) xs ys ≡ parts_joined xs ys
joined_by_parts [] [] ys h k = refl
joined_by_parts [] (x ∷ xs) ys h k = absurd h
joined_by_parts (component ∷ components) [] ys h k = refl
joined_by_parts (component ∷ components) (x ∷ xs) [] h k = absurd k
joined_by_parts (component ∷ components) (x ∷ xs) (y ∷ ys) h k = ap (λ zs. part_joined x y ∷ zs) (joined_by_parts components xs ys h.1 k.1)
