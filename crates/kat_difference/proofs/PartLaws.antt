-- The join of parts, and of states part by part, is associative on what goes together.
use Rattle.std.proofs.Common.{◌≡◌, List, [], ◌∷◌, refl, ap}
use Rattle.kat_num.specs.Orders.{value_order}
use Rattle.std.specs.Cmp.{IsTotalOrder}
use Rattle.kat_lattice.specs.MapLaws.{map_laws}
use Rattle.kat_lattice.specs.Sets.{set_laws}
use Rattle.kat_lattice.specs.Tallies.{tally_laws}
use Rattle.kat_shape.specs.Laws.{cell_laws}
use Rattle.kat_design.specs.Meanings.{are_kin}
use Rattle.kat_design.specs.Parts.{PartsKin, part_joined, parts_joined}
use Rattle.kat_design.specs.declared.states.Part.{Part}
use Rattle.kat_design.specs.declared.states.Part.TheVariants as part

part_assoc : IsTotalOrder value_order → (a b c : Part) → PartsKin a b → PartsKin b c → part_joined (part_joined a b) c ≡ part_joined a (part_joined b c)
part_assoc o (part.Cell a) (part.Cell b) (part.Cell c) h k = ap part.Cell (cell_laws.assoc a b c h k)
part_assoc o (part.Cell a) (part.Cell b) _ h k = absurd k
part_assoc o (part.Table a) (part.Table b) (part.Table c) h k = ap part.Table ((map_laws o cell_laws).assoc a b c h k)
part_assoc o (part.Table a) (part.Table b) _ h k = absurd k
part_assoc o (part.Set a) (part.Set b) (part.Set c) h k = ap part.Set ((set_laws o).assoc a b c h k)
part_assoc o (part.Set a) (part.Set b) _ h k = absurd k
part_assoc o (part.Tally a) (part.Tally b) (part.Tally c) h k = ap part.Tally (tally_laws.assoc a b c h k)
part_assoc o (part.Tally a) (part.Tally b) _ h k = absurd k
part_assoc o (part.Tallies a) (part.Tallies b) (part.Tallies c) h k = ap part.Tallies ((map_laws o tally_laws).assoc a b c h k)
part_assoc o (part.Tallies a) (part.Tallies b) _ h k = absurd k
part_assoc o _ _ _ h k = absurd h

both_same : (x y : Part) (xs ys : List Part) → x ≡ y → xs ≡ ys → x ∷ xs ≡ y ∷ ys
both_same x y xs ys e f = cc

pub parts_assoc : IsTotalOrder value_order → (xs ys zs : List Part) → are_kin PartsKin xs ys → are_kin PartsKin ys zs → parts_joined (parts_joined xs ys) zs ≡ parts_joined xs (parts_joined ys zs)
parts_assoc o [] [] zs h k = refl
parts_assoc o [] (y ∷ ys) zs h k = absurd h
parts_assoc o (x ∷ xs) [] zs h k = absurd h
parts_assoc o (x ∷ xs) (y ∷ ys) [] h k = absurd k
parts_assoc o (x ∷ xs) (y ∷ ys) (z ∷ zs) h k = both_same _ _ _ _ (part_assoc o x y z h.0 k.0) (parts_assoc o xs ys zs h.1 k.1)
