-- Used inside only.
-- The names among a type's constants.
use Rattle.std.specs.Prelude.{All}
use Rattle.kat_num.specs.Values.{HasNameCode}
use Rattle.kat_expr.specs.Terms.{Term}
use Rattle.kat_expr.specs.Terms.Term.{constant, field, entry, parameter, negation, both, either, less, at_most, same, sum, difference, greater, lesser, choice}
use Rattle.kat_type.specs.Types.{Assigned, OperationForm, QueryForm, TypeForm}
use Rattle.kat_type.specs.Within.{right_of}
use Rattle.kat_type.specs.declared.types.Field.{Field}
use Rattle.kat_type.specs.declared.types.Field.TheVariants as field

-- each constant of an expression that is a name has the code of one
abbrev pub HasNames : Term → Type 0
HasNames (constant v) = HasNameCode v
HasNames (field f) = Unit {0}
HasNames (entry f j) = Unit {0}
HasNames (parameter j) = Unit {0}
HasNames (negation a) = HasNames a
HasNames (both a b) = HasNames a × HasNames b
HasNames (either a b) = HasNames a × HasNames b
HasNames (less a b) = HasNames a × HasNames b
HasNames (at_most a b) = HasNames a × HasNames b
HasNames (same a b) = HasNames a × HasNames b
HasNames (sum a b) = HasNames a × HasNames b
HasNames (difference a b) = HasNames a × HasNames b
HasNames (greater a b) = HasNames a × HasNames b
HasNames (lesser a b) = HasNames a × HasNames b
HasNames (choice c a b) = HasNames c × HasNames a × HasNames b

-- and so has a start
abbrev pub StartIsNamed : Field → Type 0
StartIsNamed (field.Plain name s start) = HasNameCode start
StartIsNamed (field.Keyed name key s start) = HasNameCode start

-- all names among a type's starts, right sides and queries have codes of names
pub record IsNamed (ty : TypeForm) : Type 0 where
  pub starts : All StartIsNamed ty.fields
  pub operations : All (λ (o : OperationForm). All (λ (a : Assigned). HasNames (right_of a)) o.assigned) ty.ops
  pub queries : All (λ (q : QueryForm). HasNames q.right) ty.queries
