-- A type as plain data.
use Rattle.std.specs.Prelude.{ℕ, List, map}
use Rattle.kat_num.specs.declared.values.Sort.{Sort}
use Rattle.kat_expr.specs.Terms.{Term, term_of}
use Rattle.kat_type.specs.declared.types.Assign.{Assign}
use Rattle.kat_type.specs.declared.types.Assign.TheVariants as assign
use Rattle.kat_type.specs.declared.types.Field.{Field}
use Rattle.kat_type.specs.declared.types.Operation.{Operation as TypeOperation}
use Rattle.kat_type.specs.declared.types.Param.{Param}
use Rattle.kat_type.specs.declared.types.Query.{Query as TypeQuery}
use Rattle.kat_type.specs.declared.types.Rank.{Rank}
use Rattle.kat_type.specs.declared.types.SeqType.{SeqType}

-- what is assigned: a field, or a table at the key that is an argument; or a table that is cleared: it gets its start
-- at every key
pub data Assigned : Type 0 where
  to_field : (place : ℕ) → (right : Term) → Assigned
  to_entry : (place key : ℕ) → (right : Term) → Assigned
  to_start : (place : ℕ) → Assigned

pub record OperationForm : Type 0 where
  pub name : ℕ
  pub params : List Param
  pub ranks : List Rank
  pub assigned : List Assigned

pub record QueryForm : Type 0 where
  pub name : ℕ
  pub params : List Param
  pub sort : Sort
  pub right : Term

-- a type as plain data, without the places at which a program keeps its expressions
pub record TypeForm : Type 0 where
  pub name : ℕ
  pub fields : List Field
  pub ops : List OperationForm
  pub queries : List QueryForm

-- what a type of the program says
abbrev pub assigned_by : Assign → Assigned
assigned_by (assign.Plain place right) = to_field place (term_of right)
assigned_by (assign.Keyed place key right) = to_entry place key (term_of right)
assigned_by (assign.Clear place) = to_start place

abbrev pub operation_form : TypeOperation → OperationForm
operation_form o = record { name = o.name; params = o.params; ranks = o.ranks; assigned = map assigned_by o.assigns }

abbrev pub query_form : TypeQuery → QueryForm
query_form q = record { name = q.name; params = q.params; sort = q.sort; right = term_of q.right }

abbrev pub type_form : SeqType → TypeForm
type_form t = record { name = t.name; fields = t.fields; ops = map operation_form t.ops; queries = map query_form t.queries }
