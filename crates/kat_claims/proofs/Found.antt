-- What a component is after an effect that is found.
use Rattle.std.proofs.Common.{◌≡◌, ℕ, List, Option, Some, Result, subst}
use Rattle.kat_design.specs.declared.designs.Leaf.{Leaf}
use Rattle.kat_shape.specs.Forms.{CellForm}
use Rattle.kat_type.specs.declared.types.Param.{Param}
use Rattle.kat_claims.specs.Effects.{Leaves, cell_after, effect_at, join_read, table_after}
use Rattle.kat_symbols.specs.Readers.{Reader}
use Rattle.kat_symbols.specs.Views.{GivesSymbol}
use Rattle.kat_symbols.specs.declared.names.Instance.{Instance}
use Rattle.kat_symbols.specs.declared.symbols.Symbol.{Symbol}

pub joined_with : {E : Type 0} (result : Result Symbol E) (left : Reader) (old : Leaves) (params : List Param) (c : ℕ) (shape : CellForm) (given gifts : List Leaf) (l : ℕ) (r : Reader)
    → given ≡ gifts → GivesSymbol (join_read old (effect_at params c given) shape 0 l r) result left
    → GivesSymbol (join_read old (effect_at params c gifts) shape 0 l r) result left
joined_with {E = E} result left old params c shape given gifts l r g was = subst (λ gs. GivesSymbol {E = E} (join_read old (effect_at params c gs) shape 0 l r) result left) g was

pub cell_found : {E : Type 0} (result : Result Symbol E) (left : Reader) (old : Leaves) (params : List Param) (c : ℕ) (shape : CellForm) (found : Option (List Leaf)) (gifts : List Leaf) (l : ℕ) (r : Reader)
    → Some gifts ≡ found → GivesSymbol (join_read old (effect_at params c gifts) shape 0 l r) result left
    → GivesSymbol (cell_after old params c shape found l r) result left
cell_found {E = E} result left old params c shape found gifts l r f was = subst (λ e. GivesSymbol {E = E} (cell_after old params c shape e l r) result left) f was

pub table_found : {E : Type 0} (result : Result Symbol E) (left : Reader) (old : Leaves) (params : List Param) (c : ℕ) (at : Option Instance) (shape : CellForm) (found : Option (ℕ × List Leaf)) (effect : ℕ × List Leaf) (l : ℕ) (r : Reader)
    → Some effect ≡ found → GivesSymbol (table_after old params c at shape (Some effect) l r) result left
    → GivesSymbol (table_after old params c at shape found l r) result left
table_found {E = E} result left old params c at shape found effect l r f was = subst (λ e. GivesSymbol {E = E} (table_after old params c at shape e l r) result left) f was
