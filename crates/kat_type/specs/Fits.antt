-- A type within its limits, whose starts, ranks, right sides and queries have their sorts.
use Rattle.std.specs.Prelude.{◌≡◌, ◌≢◌, ℕ, ◌≤◌, List, length, map, Some, MatchOption, slice_get, All}
use Rattle.kat_num.specs.Values.{HasSort}
use Rattle.kat_num.specs.declared.values.Sort.TheVariants as sort
use Rattle.kat_expr.specs.Sorts.{FitsSort, Kept, Scope}
use Rattle.kat_expr.specs.Sorts.Kept.{one, each}
use Rattle.kat_expr.specs.Terms.{Term}
use Rattle.kat_type.specs.Limits.{field_limit, item_limit, param_limit}
use Rattle.kat_type.specs.Types.{Assigned, OperationForm, QueryForm, TypeForm}
use Rattle.kat_type.specs.Types.Assigned.{to_field, to_entry, to_start}
use Rattle.kat_type.specs.declared.types.Field.{Field}
use Rattle.kat_type.specs.declared.types.Field.TheVariants as field
use Rattle.kat_type.specs.declared.types.Param.{Param}
use Rattle.kat_type.specs.declared.types.Rank.{Rank}
use Rattle.kat_type.specs.declared.types.Rank.TheVariants as rank

abbrev pub kept_of : Field → Kept
kept_of (field.Plain name s start) = one s
kept_of (field.Keyed name key s start) = each key s

-- what the expressions of an operation or a query may read
abbrev pub sorts_of : List Field → List Param → Scope
sorts_of fields params = record { fields = map kept_of fields; params = map (λ (p : Param). p.sort) params }

-- a start has the sort of its field
abbrev pub StartFits : Field → Type 0
StartFits (field.Plain name s start) = HasSort s start
StartFits (field.Keyed name key s start) = HasSort s start

-- a field that is no table is assigned what has its sort
abbrev pub FitsPlain : Scope → Term → Kept → Type 0
FitsPlain scope right (one s) = FitsSort scope right s
FitsPlain scope right (each key s) = ⊥

-- a table is assigned what has its sort, at a parameter of exactly its key sort
abbrev pub FitsEntry : Scope → ℕ → Term → Kept → Type 0
FitsEntry scope key right (one s) = ⊥
FitsEntry scope key right (each wanted s) = (slice_get scope.params key ≡ Some wanted) × FitsSort scope right s

-- what is cleared is a table
abbrev pub IsTable : Kept → Type 0
IsTable (one s) = ⊥
IsTable (each key s) = Unit {0}

abbrev pub AssignedFits : Scope → Assigned → Type 0
AssignedFits scope (to_field place right) = MatchOption (slice_get scope.fields place) ⊥ (FitsPlain scope right)
AssignedFits scope (to_entry place key right) = MatchOption (slice_get scope.fields place) ⊥ (FitsEntry scope key right)
AssignedFits scope (to_start place) = MatchOption (slice_get scope.fields place) ⊥ IsTable

-- a digit is 0 to 9, and an argument in a rank is no truth value
abbrev pub RankFits : List Param → Rank → Type 0
RankFits params (rank.Digit n) = n ≤ 9
RankFits params rank.Time = Unit {0}
RankFits params rank.Replica = Unit {0}
RankFits params (rank.Arg place) = MatchOption (slice_get params place) ⊥ (λ (p : Param). p.sort ≢ sort.Bool)

pub record OperationFits (fields : List Field) (o : OperationForm) : Type 0 where
  pub few : length o.params ≤ param_limit
  pub ranks : All (RankFits o.params) o.ranks
  pub assigned : All (AssignedFits (sorts_of fields o.params)) o.assigned

pub record QueryFits (fields : List Field) (q : QueryForm) : Type 0 where
  pub few : length q.params ≤ param_limit
  pub right : FitsSort (sorts_of fields q.params) q.right q.sort

pub record IsWellSorted (ty : TypeForm) : Type 0 where
  pub few_fields : length ty.fields ≤ field_limit
  pub few_operations : length ty.ops ≤ item_limit
  pub few_queries : length ty.queries ≤ item_limit
  pub starts : All StartFits ty.fields
  pub operations : All (OperationFits ty.fields) ty.ops
  pub queries : All (QueryFits ty.fields) ty.queries
