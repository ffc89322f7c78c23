-- What phrases say that break no rule, with their words looked up; or the first rule that they break.
use Rattle.std.specs.Prelude.{◌≡◌, ℕ, pos, neg_ℤ, List, map, Option, None, Some}
use Rattle.std.specs.Option.{option_or}
use Rattle.kat_num.specs.declared.values.Value.{Value}
use Rattle.kat_num.specs.declared.values.Value.TheVariants as value
use Rattle.kat_expr.specs.Terms.{Term}
use Rattle.kat_expr.specs.Terms.Term.{constant as a_constant, field as a_field, entry as an_entry, parameter, negation as opposite, both, either, less, at_most, same, sum, difference, greater, lesser, choice}
use Rattle.kat_grammar.specs.Phrases.{Form, form_of}
use Rattle.kat_grammar.specs.Phrases.Form.{constant, word, entry, negation, joined, chosen, branches, parens}
use Rattle.kat_grammar.specs.declared.marks.Extreme.{Extreme}
use Rattle.kat_grammar.specs.declared.marks.Extreme.TheVariants as extreme
use Rattle.kat_grammar.specs.declared.marks.Operator.{Operator}
use Rattle.kat_grammar.specs.declared.marks.Operator.TheVariants as operator
use Rattle.kat_grammar.specs.declared.phrases.Act.{Act}
use Rattle.kat_grammar.specs.declared.phrases.Act.TheVariants as act
use Rattle.kat_grammar.specs.declared.phrases.Assignment.{Assignment}
use Rattle.kat_grammar.specs.declared.phrases.Constant.{Constant}
use Rattle.kat_grammar.specs.declared.phrases.Constant.TheVariants.{Natural, Negative, Literal, Truth}
use Rattle.kat_grammar.specs.declared.phrases.Kept.{Kept}
use Rattle.kat_grammar.specs.declared.phrases.Kept.TheVariants.{One, Each}
use Rattle.kat_grammar.specs.declared.phrases.Operation.{Operation}
use Rattle.kat_grammar.specs.declared.phrases.Parameter.{Parameter}
use Rattle.kat_grammar.specs.declared.phrases.Query.{Query}
use Rattle.kat_grammar.specs.declared.phrases.RankElement.{RankElement}
use Rattle.kat_grammar.specs.declared.phrases.RankElement.TheVariants as written
use Rattle.kat_grammar.specs.declared.phrases.RankPart.{RankPart}
use Rattle.kat_grammar.specs.declared.phrases.State.{State}
use Rattle.kat_grammar.specs.declared.phrases.Target.{Target}
use Rattle.kat_grammar.specs.declared.phrases.Target.TheVariants as target
use Rattle.kat_grammar.specs.declared.phrases.TypeText.{TypeText}
use Rattle.kat_type.specs.declared.errors.TypeError.{TypeError}
use Rattle.kat_type.specs.declared.errors.TypeError.TheVariants.{Refused, Memory}
use Rattle.kat_type.specs.Types.{Assigned, OperationForm, QueryForm, TypeForm}
use Rattle.kat_type.specs.Types.Assigned.{to_field, to_entry, to_start}
use Rattle.kat_type.specs.declared.types.Field.{Field}
use Rattle.kat_type.specs.declared.types.Field.TheVariants as field
use Rattle.kat_type.specs.declared.types.Param.{Param}
use Rattle.kat_type.specs.declared.types.Rank.{Rank}
use Rattle.kat_type.specs.declared.types.Rank.TheVariants as rank
use Rattle.kat_judging.specs.Faults.{faults_of, first_of, scope_of}
use Rattle.kat_type_file.specs.Limits.{limits_of}
use Rattle.kat_judging.specs.Names.{Scope, field_named, param_named}
use Rattle.kat_judging.specs.declared.names.Declared.{Declared}
use Rattle.kat_judging.specs.declared.faults.Fault.{Fault}

-- the value of a constant
abbrev pub constant_value : Constant → Value
constant_value (Natural at n) = value.Num (pos n)
constant_value (Negative at number_at n) = value.Num (neg_ℤ (pos n))
constant_value (Literal at name) = value.Name name
constant_value (Truth at b) = value.Bool b

-- the place of what is declared, and 0 if nothing is
abbrev pub place_of : {A : Type 0} → Option (Declared A) → ℕ
place_of None = 0
place_of (Some d) = d.place

-- a word means a parameter, or else a field
abbrev pub word_term : Option (Declared Parameter) → Option (Declared State) → Term
word_term (Some p) f = parameter p.place
word_term None f = a_field (place_of f)

-- an operator between two expressions
abbrev pub joined_term : Operator → Term → Term → Term
joined_term operator.Or a b = either a b
joined_term operator.And a b = both a b
joined_term operator.Less a b = less a b
joined_term operator.AtMost a b = at_most a b
joined_term operator.Same a b = same a b
joined_term operator.Plus a b = sum a b
joined_term operator.Minus a b = difference a b

-- the greater or the lesser of two
abbrev pub chosen_term : Extreme → Term → Term → Term
chosen_term extreme.Greatest a b = greater a b
chosen_term extreme.Least a b = lesser a b

-- an expression with its words looked up
abbrev pub term_in : Scope → Form → Term
term_in scope (constant c) = a_constant (constant_value c)
term_in scope (word w) = word_term (param_named scope w.code) (field_named scope w.code)
term_in scope (entry table open_at key close_at) = an_entry (place_of (field_named scope table.code)) (place_of (param_named scope key.code))
term_in scope (negation at a) = opposite (term_in scope a)
term_in scope (joined op at a b) = joined_term op (term_in scope a) (term_in scope b)
term_in scope (chosen e at open_at a comma b close_at) = chosen_term e (term_in scope a) (term_in scope b)
term_in scope (branches at c then_at a else_at b) = choice (term_in scope c) (term_in scope a) (term_in scope b)
term_in scope (parens open_at a close_at) = term_in scope a

-- a field by what it keeps, its name and its start
abbrev pub kept_field : Kept → ℕ → Value → Field
kept_field (One sort_at sort) name start = field.Plain name sort start
kept_field (Each table key_at key arrow sort_at sort) name start = field.Keyed name key sort start

-- a field as it is declared
abbrev pub field_in : State → Field
field_in s = kept_field s.kept s.name.code (constant_value s.start)

-- a parameter as it is declared
abbrev pub param_in : Parameter → Param
param_in p = record { name = p.name.code; sort = p.sort }

-- an element of a rank; a word is the parameter of this name
abbrev pub element_in : Scope → RankElement → Rank
element_in scope (written.Digit at n) = rank.Digit n
element_in scope (written.Time at) = rank.Time
element_in scope (written.Replica at) = rank.Replica
element_in scope (written.Parameter w) = rank.Arg (place_of (param_named scope w.code))

-- the same of an element with its lead
abbrev pub rank_in : Scope → RankPart → Rank
rank_in scope part = element_in scope part.element

-- a right side with what it is assigned to
abbrev pub target_in : Scope → Target → Term → Assigned
target_in scope (target.Field w) right = to_field (place_of (field_named scope w.code)) right
target_in scope (target.Entry table open_at key close_at) right =
    to_entry (place_of (field_named scope table.code)) (place_of (param_named scope key.code)) right

-- what is assigned, or the table that is cleared
abbrev pub act_in : Scope → Act → Assigned
act_in scope (act.Set to assign right) = target_in scope to (term_in scope (form_of right))
act_in scope (act.Clear at table) = to_start (place_of (field_named scope table.code))

-- the same of an assignment with its lead
abbrev pub assigned_in : Scope → Assignment → Assigned
assigned_in scope a = act_in scope a.act

-- an operation with its words looked up among the fields and its parameters
abbrev pub operation_in : List State → Operation → OperationForm
operation_in states o = record {
  name = o.name.code;
  params = map param_in o.params;
  ranks = map (rank_in (scope_of states o.params)) o.rank;
  assigned = map (assigned_in (scope_of states o.params)) o.assignments;
}

-- a query, in the same way
abbrev pub query_in : List State → Query → QueryForm
query_in states q = record {
  name = q.name.code;
  params = map param_in q.params;
  sort = q.sort;
  right = term_in (scope_of states q.params) (form_of q.right);
}

-- what a type file says
abbrev pub type_in : TypeText → TypeForm
type_in t = record {
  name = t.name.code;
  fields = map field_in t.states;
  ops = map (operation_in t.states) t.operations;
  queries = map (query_in t.states) t.queries;
}

-- the first rule of names, sorts and ranks that a type breaks; or else the first limit that it passes
abbrev pub first_refusal : TypeText → Option Fault
first_refusal t = option_or (first_of (faults_of t)) (first_of (limits_of t))

-- the error tells that refusal; out of memory says nothing
abbrev pub TellsRefusal : TypeText → TypeError → Type 0
TellsRefusal t (Refused number at) = first_refusal t ≡ Some (record { at = at; number = number })
TellsRefusal t Memory = Unit {0}
