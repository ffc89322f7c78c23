-- The ranks of a type have numbers and names at the same places.
use Rattle.std.specs.Prelude.{◌≡◌, ℕ, ◌<◌, List, length, map, Option, None, Some}
use Rattle.std.specs.List.{slice_get, slice_index_or}
use Rattle.kat_num.specs.Values.{HasSort}
use Rattle.kat_num.specs.declared.values.Sort.{Sort}
use Rattle.kat_num.specs.declared.values.Sort.TheVariants as sort
use Rattle.kat_expr.specs.Slots.{argument}
use Rattle.kat_type.specs.Types.{OperationForm, TypeForm}
use Rattle.kat_type.specs.declared.done.Done.{Done}
use Rattle.kat_type.specs.declared.types.Param.{Param}
use Rattle.kat_type.specs.declared.types.Rank.{Rank}
use Rattle.kat_type.specs.declared.types.Rank.TheVariants.{Digit, Time, Replica, Arg}

-- the kind of the values of a sort: 0 truth values, 1 numbers, 2 names
abbrev pub sort_kind : Sort → ℕ
sort_kind sort.Bool = 0
sort_kind sort.Int = 1
sort_kind sort.Nat = 1
sort_kind sort.Name = 2

abbrev pub argument_kind : Option Param → ℕ
argument_kind None = 0
argument_kind (Some p) = sort_kind p.sort

-- what a rank has at a place
abbrev pub element_kind : List Param → Rank → ℕ
element_kind params (Digit n) = 1
element_kind params Time = 1
element_kind params Replica = 1
element_kind params (Arg place) = argument_kind (slice_get params place)

abbrev pub rank_kinds : OperationForm → List ℕ
rank_kinds o = map (element_kind o.params) o.ranks

-- the ranks of all operations have as many elements, and numbers and names at the same places
abbrev pub HasAlikeRanks : TypeForm → Type 0
HasAlikeRanks ty = (i j : ℕ) (d : OperationForm) → i < length ty.ops → j < length ty.ops → rank_kinds (slice_index_or ty.ops i d) ≡ rank_kinds (slice_index_or ty.ops j d)

-- an operation that was done is one of the type's, and its arguments have their sorts
pub record FitsType (ty : TypeForm) (done : Done) : Type 0 where
  pub operation : OperationForm
  pub there : slice_get ty.ops done.op ≡ Some operation
  pub args : (place : ℕ) (p : Param) → slice_get operation.params place ≡ Some p → HasSort p.sort (argument done.args place)
