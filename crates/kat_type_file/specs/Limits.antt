-- The limits that a type passes.
use Rattle.std.specs.Prelude.{ℕ, ◌+◌, Bool, true, false, List, [], ◌++◌, max, nat_lt, drop, Option, None, Some, if◌then◌else◌}
use Rattle.std.specs.List.{flat_map}
use Rattle.kat_num.specs.declared.values.Sort.TheVariants as sort
use Rattle.kat_grammar.specs.Phrases.{Form, form_of}
use Rattle.kat_grammar.specs.Phrases.Form.{constant, word, entry, negation, joined, chosen, branches, parens}
use Rattle.kat_grammar.specs.declared.phrases.Act.{Act}
use Rattle.kat_grammar.specs.declared.phrases.Act.TheVariants as act
use Rattle.kat_grammar.specs.declared.phrases.Assignment.{Assignment}
use Rattle.kat_grammar.specs.declared.phrases.Operation.{Operation}
use Rattle.kat_grammar.specs.declared.phrases.Parameter.{Parameter}
use Rattle.kat_grammar.specs.declared.phrases.Query.{Query}
use Rattle.kat_grammar.specs.declared.phrases.State.{State}
use Rattle.kat_grammar.specs.declared.phrases.TypeText.{TypeText}
use Rattle.kat_type.specs.Limits.{field_limit, item_limit, param_limit}
use Rattle.kat_judging.specs.Faults.{fault, fault_if, scope_of, start_of}
use Rattle.kat_judging.specs.Names.{Scope, param_named}
use Rattle.kat_judging.specs.declared.names.Declared.{Declared}
use Rattle.kat_judging.specs.Sorts.{found_of}
use Rattle.kat_judging.specs.declared.found.Found.{Found}
use Rattle.kat_judging.specs.declared.found.Found.TheVariants.{Exactly}
use Rattle.kat_judging.specs.declared.faults.Fault.{Fault}

-- an expression may be a number
abbrev pub is_number : Found → Bool
is_number (Exactly sort.Bool) = false
is_number (Exactly sort.Name) = false
is_number found = true

-- a word that means no parameter reads a field
abbrev pub word_weight : Option (Declared Parameter) → ℕ
word_weight (Some p) = 0
word_weight None = 1

-- how often an expression adds what it reads: a number of the state counts 1 if it is read, a sum adds, and of two
-- branches the greater counts; truth values, names, constants and parameters count nothing
abbrev pub weight_of : Scope → Form → ℕ
weight_of scope (constant c) = 0
weight_of scope (word w) = if is_number (found_of scope (word w)) then word_weight (param_named scope w.code) else 0
weight_of scope (entry table open_at key close_at) = if is_number (found_of scope (entry table open_at key close_at)) then 1 else 0
weight_of scope (negation at a) = 0
weight_of scope (joined op at a b) = if is_number (found_of scope (joined op at a b)) then weight_of scope a + weight_of scope b else 0
weight_of scope (chosen e at open_at a comma b close_at) =
    if is_number (found_of scope (chosen e at open_at a comma b close_at)) then max (weight_of scope a) (weight_of scope b) else 0
weight_of scope (branches at c then_at a else_at b) =
    if is_number (found_of scope (branches at c then_at a else_at b)) then max (weight_of scope a) (weight_of scope b) else 0
weight_of scope (parens open_at a close_at) = weight_of scope a

-- parameters past the limit, at their words
abbrev pub past_params : List Parameter → List Fault
past_params params = flat_map (λ (p : Parameter). fault 9 p.name.at) (drop param_limit params)

-- right sides that weigh more than 1
abbrev pub right_weight_faults : Scope → Form → List Fault
right_weight_faults scope right = fault_if (nat_lt 1 (weight_of scope right)) 9 (start_of right)

abbrev pub act_weight_faults : Scope → Act → List Fault
act_weight_faults scope (act.Set to assign right) = right_weight_faults scope (form_of right)
act_weight_faults scope (act.Clear at table) = []

abbrev pub weight_faults : Scope → Assignment → List Fault
weight_faults scope a = act_weight_faults scope a.act

abbrev pub operation_limits : List State → Operation → List Fault
operation_limits states o = past_params o.params ++ flat_map (weight_faults (scope_of states o.params)) o.assignments

-- all limits that a type passes: items past their number, at the line or the parameter, and right sides that weigh too much
abbrev pub limits_of : TypeText → List Fault
limits_of t =
    flat_map (λ (s : State). fault 9 s.at) (drop field_limit t.states)
    ++ flat_map (λ (o : Operation). fault 9 o.at) (drop item_limit t.operations)
    ++ flat_map (λ (q : Query). fault 9 q.at) (drop item_limit t.queries)
    ++ flat_map (operation_limits t.states) t.operations
    ++ flat_map (λ (q : Query). past_params q.params) t.queries
