-- The limits that every accepted type keeps.
use Rattle.std.specs.Prelude.{ℕ, ◌+◌, ◌≤◌, false, All}
use Rattle.std.specs.List.{sum_by}
use Rattle.kat_num.specs.declared.values.TheConstants.{NUMBER_LIMIT}
use Rattle.kat_expr.specs.Limits.{HasConstantsAtMost, IsAtMost, weight_of}
use Rattle.kat_num.specs.declared.values.Value.TheVariants as value
use Rattle.kat_expr.specs.Terms.{Term, node_count}
use Rattle.kat_expr.specs.Terms.Term.{constant}
use Rattle.kat_type.specs.Limits.{node_limit}
use Rattle.kat_type.specs.Types.{Assigned, OperationForm, QueryForm, TypeForm}
use Rattle.kat_type.specs.Types.Assigned.{to_field, to_entry, to_start}
use Rattle.kat_type.specs.declared.types.Field.{Field}
use Rattle.kat_type.specs.declared.types.Field.TheVariants as field

-- the right side of what is assigned; what is cleared has none, for which the constant `false` is
abbrev pub right_of : Assigned → Term
right_of (to_field place right) = right
right_of (to_entry place key right) = right
right_of (to_start place) = constant (value.Bool false)

-- the nodes of the right side, if there is one
abbrev pub nodes_in : Assigned → ℕ
nodes_in (to_field place right) = node_count right
nodes_in (to_entry place key right) = node_count right
nodes_in (to_start place) = 0

-- an expression with at most 400 nodes, whose constants are within the limit of literals
pub record IsLimited (e : Term) : Type 0 where
  pub nodes : node_count e ≤ node_limit
  pub constants : HasConstantsAtMost NUMBER_LIMIT e

-- such a right side of an operation, which adds up at most one read of the state
pub record IsLimitedRight (a : Assigned) : Type 0 where
  pub limited : IsLimited (right_of a)
  pub weight : weight_of (right_of a) ≤ 1

-- a start within the limit of literals
abbrev pub IsLimitedStart : Field → Type 0
IsLimitedStart (field.Plain name s start) = IsAtMost NUMBER_LIMIT start
IsLimitedStart (field.Keyed name key s start) = IsAtMost NUMBER_LIMIT start

-- how many nodes all expressions of a type have
abbrev pub operation_nodes : OperationForm → ℕ
operation_nodes o = sum_by nodes_in o.assigned

abbrev pub query_nodes : QueryForm → ℕ
query_nodes q = node_count q.right

abbrev pub type_nodes : TypeForm → ℕ
type_nodes ty = sum_by operation_nodes ty.ops + sum_by query_nodes ty.queries

pub record IsWithinLimits (ty : TypeForm) : Type 0 where
  pub starts : All IsLimitedStart ty.fields
  pub operations : All (λ (o : OperationForm). All IsLimitedRight o.assigned) ty.ops
  pub queries : All (λ (q : QueryForm). IsLimited q.right) ty.queries
  pub nodes : type_nodes ty ≤ node_limit
