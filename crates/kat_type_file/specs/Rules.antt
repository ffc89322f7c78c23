-- The rules of names, sorts, ranks and limits, as a type keeps them.
use Rattle.std.specs.Prelude.{◌≡◌, ◌≤◌, Bool, true, false, List, ◌++◌, length, map, All, Option, None, Some, option_map, unwrap_or, if◌then◌else◌}
use Rattle.kat_num.specs.declared.values.Sort.{Sort}
use Rattle.kat_num.specs.declared.values.Sort.TheVariants as sort
use Rattle.kat_expr.specs.Limits.{weight_of}
use Rattle.kat_grammar.specs.Phrases.{Form, form_of}
use Rattle.kat_grammar.specs.Phrases.Form.{constant, word, entry, negation, joined, chosen, branches, parens}
use Rattle.kat_grammar.specs.declared.marks.Operator.{Operator}
use Rattle.kat_grammar.specs.declared.marks.Operator.TheVariants as operator
use Rattle.kat_grammar.specs.declared.phrases.Act.{Act}
use Rattle.kat_grammar.specs.declared.phrases.Act.TheVariants as act
use Rattle.kat_grammar.specs.declared.phrases.Assignment.{Assignment}
use Rattle.kat_grammar.specs.declared.phrases.Kept.{Kept}
use Rattle.kat_grammar.specs.declared.phrases.Kept.TheVariants.{One, Each}
use Rattle.kat_grammar.specs.declared.phrases.Operation.{Operation}
use Rattle.kat_grammar.specs.declared.phrases.Parameter.{Parameter}
use Rattle.kat_grammar.specs.declared.phrases.Query.{Query}
use Rattle.kat_grammar.specs.declared.phrases.State.{State}
use Rattle.kat_grammar.specs.declared.phrases.Target.{Target}
use Rattle.kat_grammar.specs.declared.phrases.Target.TheVariants as target
use Rattle.kat_grammar.specs.declared.phrases.TypeText.{TypeText}
use Rattle.kat_grammar.specs.declared.phrases.Word.{Word}
use Rattle.kat_type.specs.Limits.{field_limit, item_limit, param_limit}
use Rattle.kat_type.specs.Lists.{IsOnce}
use Rattle.kat_type.specs.Types.{Assigned}
use Rattle.kat_type.specs.Within.{right_of}
use Rattle.kat_judging.specs.Faults.{act_word, is_sort, is_table, item_names, part_family, scope_of}
use Rattle.kat_judging.specs.Names.{Scope, field_named, param_named}
use Rattle.kat_judging.specs.Sorts.{constant_sort, kept_sort}
use Rattle.kat_judging.specs.declared.found.Family.{Family}
use Rattle.kat_judging.specs.declared.names.Declared.{Declared}
use Rattle.kat_type_file.specs.Typing.{operation_in}

-- the sort of a field that is no table
abbrev pub plain_sort : Kept → Option Sort
plain_sort (One sort_at s) = Some s
plain_sort (Each table key_at key arrow sort_at s) = None

-- the same of a word, if it names a field
abbrev pub field_sort : Option (Declared State) → Option Sort
field_sort None = None
field_sort (Some d) = plain_sort d.it.kept

-- a word means a parameter, or else a field that is no table
abbrev pub word_sort : Option (Declared Parameter) → Option (Declared State) → Option Sort
word_sort (Some p) field = Some p.it.sort
word_sort None field = field_sort field

-- the sort of a table's values, if the key is of exactly its key sort
abbrev pub value_sort : Kept → Sort → Option Sort
value_sort (One sort_at s) given = None
value_sort (Each table key_at key arrow sort_at s) given = if is_sort key given then Some s else None

-- the sort of a table at a parameter, if there are both
abbrev pub entry_sort : Option (Declared State) → Option (Declared Parameter) → Option Sort
entry_sort (Some table) (Some key) = value_sort table.it.kept key.it.sort
entry_sort table key = None

-- the sort of two numbers: `nat` if both are
abbrev pub number_sort : Sort → Sort → Option Sort
number_sort sort.Nat sort.Nat = Some sort.Nat
number_sort sort.Nat sort.Int = Some sort.Int
number_sort sort.Int sort.Nat = Some sort.Int
number_sort sort.Int sort.Int = Some sort.Int
number_sort a b = None

-- that of two numbers or two names, as `max`, `min` and `if` choose one of them
abbrev pub chosen_sort : Sort → Sort → Option Sort
chosen_sort sort.Name sort.Name = Some sort.Name
chosen_sort a b = number_sort a b

-- that of what a condition chooses: the condition is a truth value
abbrev pub branch_sort : Sort → Sort → Option Sort
branch_sort sort.Bool s = Some s
branch_sort condition s = None

-- that of two truth values
abbrev pub truth_sort : Sort → Sort → Option Sort
truth_sort sort.Bool sort.Bool = Some sort.Bool
truth_sort a b = None

-- `or` and `and` take truth values, comparisons two numbers or two names, sums and differences numbers
abbrev pub joined_sort : Operator → Sort → Sort → Option Sort
joined_sort operator.Or a b = truth_sort a b
joined_sort operator.And a b = truth_sort a b
joined_sort operator.Less a b = option_map (λ s. sort.Bool) (chosen_sort a b)
joined_sort operator.AtMost a b = option_map (λ s. sort.Bool) (chosen_sort a b)
joined_sort operator.Same a b = option_map (λ s. sort.Bool) (chosen_sort a b)
joined_sort operator.Plus a b = number_sort a b
joined_sort operator.Minus a b = option_map (λ s. sort.Int) (number_sort a b)

-- the sort of two parts, if each has one
abbrev pub of_both : (Sort → Sort → Option Sort) → Option Sort → Option Sort → Option Sort
of_both make (Some a) (Some b) = make a b
of_both make a b = None

-- the sort of an expression, if it keeps the rules of words and sorts
abbrev pub sort_of : Scope → Form → Option Sort
sort_of scope (constant c) = Some (constant_sort c)
sort_of scope (word w) = word_sort (param_named scope w.code) (field_named scope w.code)
sort_of scope (entry table open_at key close_at) = entry_sort (field_named scope table.code) (param_named scope key.code)
sort_of scope (negation at a) = of_both branch_sort (sort_of scope a) (Some sort.Bool)
sort_of scope (joined op at a b) = of_both (joined_sort op) (sort_of scope a) (sort_of scope b)
sort_of scope (chosen e at open_at a comma b close_at) = of_both chosen_sort (sort_of scope a) (sort_of scope b)
sort_of scope (branches at c then_at a else_at b) = of_both branch_sort (sort_of scope c) (of_both chosen_sort (sort_of scope a) (sort_of scope b))
sort_of scope (parens open_at a close_at) = sort_of scope a

-- where the first sort is asked, the second one fits: the same, or `nat` for `int`
abbrev pub fits : Option Sort → Option Sort → Bool
fits (Some sort.Int) (Some sort.Nat) = true
fits (Some asked) (Some given) = is_sort asked given
fits asked given = false

-- the sort of what is assigned: a field that is no table, or a table at a key
abbrev pub target_sort : Scope → Target → Option Sort
target_sort scope (target.Field w) = field_sort (field_named scope w.code)
target_sort scope (target.Entry table open_at key close_at) = entry_sort (field_named scope table.code) (param_named scope key.code)

-- a right side fits what is assigned, and what is cleared is a table
abbrev pub act_fits : Scope → Act → Bool
act_fits scope (act.Set to assign right) = fits (target_sort scope to) (sort_of scope (form_of right))
act_fits scope (act.Clear at table) = unwrap_or (option_map (λ (d : Declared State). is_table d.it.kept) (field_named scope table.code)) false

-- all words are different
abbrev pub AreDifferent : List Word → Type 0
AreDifferent words = IsOnce (map (λ (w : Word). w.code) words)

-- the names that an item may use: those of the fields and of its parameters
abbrev pub names_for : List State → List Parameter → List Word
names_for states params = map (λ (s : State). s.name) states ++ map (λ (p : Parameter). p.name) params

-- an operation has few parameters, names of its own, a rank of elements of these kinds, nothing that is assigned twice,
-- and right sides that fit and add up at most one read of the state
pub record OperationKeeps (states : List State) (families : List Family) (o : Operation) : Type 0 where
  pub few : length o.params ≤ param_limit
  pub names : AreDifferent (names_for states o.params)
  pub ranks : map (part_family o.params) o.rank ≡ map (λ (family : Family). Some family) families
  pub once : AreDifferent (map (λ (a : Assignment). act_word a.act) o.assignments)
  pub fit : All (λ (a : Assignment). act_fits (scope_of states o.params) a.act ≡ true) o.assignments
  pub light : All (λ (a : Assigned). weight_of (right_of a) ≤ 1) (operation_in states o).assigned

-- a query has few parameters, names of its own, and the sort that it states
pub record QueryKeeps (states : List State) (q : Query) : Type 0 where
  pub few : length q.params ≤ param_limit
  pub names : AreDifferent (names_for states q.params)
  pub fit : fits (Some q.sort) (sort_of (scope_of states q.params) (form_of q.right)) ≡ true

-- A type has few fields, operations and queries, with names of their own, and starts that fit. There is a list of kinds, numbers or
-- names, of which the elements of each rank are.
pub record KeepsRules (t : TypeText) : Type 0 where
  pub few_fields : length t.states ≤ field_limit
  pub few_operations : length t.operations ≤ item_limit
  pub few_queries : length t.queries ≤ item_limit
  pub fields : AreDifferent (map (λ (s : State). s.name) t.states)
  pub items : AreDifferent (item_names t)
  pub starts : All (λ (s : State). fits (Some (kept_sort s.kept)) (Some (constant_sort s.start)) ≡ true) t.states
  pub families : List Family
  pub operations : All (OperationKeeps t.states families) t.operations
  pub queries : All (QueryKeeps t.states) t.queries
