-- Phrases of a form: what a type's definitions say depends on what is written alone.
use Rattle.std.proofs.Common.{◌≡◌, ℕ, List, [], ◌∷◌, ◌++◌, map, drop, refl, sym, ◌∙◌, ap, Box, Global}
use Rattle.std.specs.List.{flat_map}
use Rattle.std.specs.Option.{option_or}
use Rattle.std.proofs.lemmas.List.{drop-map}
use denote.RawPtr.{null_ptr}
use Rattle.kat_grammar.specs.Forms.ActForm.{set, clear}
use Rattle.kat_grammar.specs.Forms.{ActForm, AssignmentForm, OperationForm, QueryForm, TypeForm, act_form, assignment_form, operation_form, query_form, type_form}
use Rattle.kat_grammar.specs.Phrases.{Form, form_of}
use Rattle.kat_grammar.specs.Phrases.Form.{constant, word, entry, negation, joined, chosen, branches, parens}
use Rattle.kat_grammar.specs.declared.phrases.Act.{Act}
use Rattle.kat_grammar.specs.declared.phrases.Act.TheVariants as act
use Rattle.kat_grammar.specs.declared.phrases.Assignment.{Assignment}
use Rattle.kat_grammar.specs.declared.phrases.Operation.{Operation}
use Rattle.kat_grammar.specs.declared.phrases.Phrase.{Phrase}
use Rattle.kat_grammar.specs.declared.phrases.Phrase.TheVariants as tree
use Rattle.kat_grammar.specs.declared.phrases.Query.{Query}
use Rattle.kat_grammar.specs.declared.phrases.State.{State}
use Rattle.kat_grammar.specs.declared.phrases.TypeText.{TypeText}
use Rattle.kat_grammar.specs.declared.phrases.Word.{Word}
use Rattle.kat_type.specs.Limits.{field_limit, item_limit}
use Rattle.kat_type.specs.Types.{Assigned}
use Rattle.kat_type.specs.Types as types
use Rattle.kat_judging.specs.Faults.{act_faults, act_word, set_faults, asked_faults, assignment_faults, assignments_faults, colon_of, fault, faults_of, first_families, first_of, form_faults, item_names, match_faults, operation_faults, param_faults, part_faults, query_faults, scope_of, state_faults, twice_among}
use Rattle.kat_type_file.specs.Limits.{act_weight_faults, right_weight_faults, limits_of, operation_limits, past_params, weight_faults}
use Rattle.kat_judging.specs.Names.{Scope}
use Rattle.kat_type_file.specs.Typing.{act_in, assigned_in, field_in, first_refusal, operation_in, param_in, query_in, rank_in, target_in, term_in, type_in}
use Rattle.kat_judging.specs.declared.faults.Fault.{Fault}

-- whether a part of an expression may be kept, of which no definition speaks
abbrev pub anywhere : Box (Unit {0}) Global
anywhere = record { ptr = null_ptr; alloc = record { memory = record { seal = tt } }; value = tt }

abbrev pub phrase_of : Form → Phrase
phrase_of (constant c) = tree.Constant c
phrase_of (word w) = tree.Word w
phrase_of (entry table open_at key close_at) = tree.Entry table open_at key close_at
phrase_of (negation at a) = tree.Not' at anywhere (phrase_of a)
phrase_of (joined op at a b) = tree.Binary' op at anywhere (phrase_of a) anywhere (phrase_of b)
phrase_of (chosen e at open_at a comma b close_at) = tree.Extreme' e at open_at anywhere (phrase_of a) comma anywhere (phrase_of b) close_at
phrase_of (branches at c then_at a else_at b) = tree.If' at anywhere (phrase_of c) then_at anywhere (phrase_of a) else_at anywhere (phrase_of b)
phrase_of (parens open_at a close_at) = tree.Parens' open_at anywhere (phrase_of a) close_at

pub form_back : (f : Form) → form_of (phrase_of f) ≡ f
form_back (constant c) = refl
form_back (word w) = refl
form_back (entry table open_at key close_at) = refl
form_back (negation at a) = ap (λ x. negation at x) (form_back a)
form_back (joined op at a b) = ap (λ x. joined op at x (form_of (phrase_of b))) (form_back a) ∙ ap (λ x. joined op at a x) (form_back b)
form_back (chosen e at open_at a comma b close_at) =
    ap (λ x. chosen e at open_at x comma (form_of (phrase_of b)) close_at) (form_back a) ∙ ap (λ x. chosen e at open_at a comma x close_at) (form_back b)
form_back (branches at c then_at a else_at b) =
    ap (λ x. branches at x then_at (form_of (phrase_of a)) else_at (form_of (phrase_of b))) (form_back c)
    ∙ ap (λ x. branches at c then_at x else_at (form_of (phrase_of b))) (form_back a) ∙ ap (λ x. branches at c then_at a else_at x) (form_back b)
form_back (parens open_at a close_at) = ap (λ x. parens open_at x close_at) (form_back a)

abbrev pub act_of : ActForm → Act
act_of (set to assign right) = act.Set to assign (phrase_of right)
act_of (clear at table) = act.Clear at table

abbrev pub assignment_of : AssignmentForm → Assignment
assignment_of a = record { lead = a.lead; act = act_of a.act }

abbrev pub operation_of : OperationForm → Operation
operation_of o = record { at = o.at; name = o.name; open_at = o.open_at; params = o.params; close_at = o.close_at; rank = o.rank; assignments = map assignment_of o.assignments }

abbrev pub query_of : QueryForm → Query
query_of q = record { at = q.at; name = q.name; open_at = q.open_at; params = q.params; close_at = q.close_at; colon = q.colon; sort_at = q.sort_at; sort = q.sort; equal = q.equal; right = phrase_of q.right }

abbrev pub text_of : TypeForm → TypeText
text_of t = record { at = t.at; name = t.name; format = t.format; states = t.states; operations = map operation_of t.operations; queries = map query_of t.queries }

-- a list that is mapped and mapped back
each_back : {X Y Z : Type 0} (f : X → Y) (g : Y → Z) (h : X → Z) (xs : List X) → ((x : X) → g (f x) ≡ h x) → map g (map f xs) ≡ map h xs
each_back f g h [] back = refl
each_back f g h (x ∷ xs) back = ap (λ y. y ∷ map g (map f xs)) (back x) ∙ ap (λ ys. h x ∷ ys) (each_back f g h xs back)

all_back : {X Y : Type 0} (f : X → Y) (g : Y → X) (xs : List X) → ((x : X) → g (f x) ≡ x) → map g (map f xs) ≡ xs
all_back f g [] back = refl
all_back f g (x ∷ xs) back = ap (λ y. y ∷ map g (map f xs)) (back x) ∙ ap (λ ys. x ∷ ys) (all_back f g xs back)

flat_back : {X Y Z : Type 0} (f : X → Y) (F : Y → List Z) (G : X → List Z) (xs : List X) → ((x : X) → F (f x) ≡ G x) → flat_map F (map f xs) ≡ flat_map G xs
flat_back f F G [] back = refl
flat_back f F G (x ∷ xs) back = ap (λ y. y ++ flat_map F (map f xs)) (back x) ∙ ap (λ ys. G x ++ ys) (flat_back f F G xs back)

act_back : (a : ActForm) → act_form (act_of a) ≡ a
act_back (set to assign right) = ap (λ (x : Form). set to assign x) (form_back right)
act_back (clear at table) = refl

assignment_back : (a : AssignmentForm) → assignment_form (assignment_of a) ≡ a
assignment_back a = ap (λ (x : ActForm). record { lead = a.lead; act = x }) (act_back a.act)

operation_back : (o : OperationForm) → operation_form (operation_of o) ≡ o
operation_back o =
    ap (λ (xs : List AssignmentForm). record { at = o.at; name = o.name; open_at = o.open_at; params = o.params; close_at = o.close_at; rank = o.rank; assignments = xs })
    (all_back assignment_of assignment_form o.assignments assignment_back)

query_back : (q : QueryForm) → query_form (query_of q) ≡ q
query_back q =
    ap (λ (x : Form). record { at = q.at; name = q.name; open_at = q.open_at; params = q.params; close_at = q.close_at; colon = q.colon; sort_at = q.sort_at; sort = q.sort; equal = q.equal; right = x })
    (form_back q.right)

pub text_back : (t : TypeForm) → type_form (text_of t) ≡ t
text_back t =
    ap (λ (os : List OperationForm). record { at = t.at; name = t.name; format = t.format; states = t.states; operations = os; queries = map query_form (map query_of t.queries) })
    (all_back operation_of operation_form t.operations operation_back)
    ∙ ap (λ (qs : List QueryForm). record { at = t.at; name = t.name; format = t.format; states = t.states; operations = t.operations; queries = qs }) (all_back query_of query_form t.queries query_back)

-- what is written with its expressions kept elsewhere
abbrev kept_assignment : Assignment → Assignment
kept_assignment a = assignment_of (assignment_form a)

abbrev kept_operation : Operation → Operation
kept_operation o = operation_of (operation_form o)

abbrev kept_query : Query → Query
kept_query q = query_of (query_form q)

abbrev pub kept : TypeText → TypeText
kept t = text_of (type_form t)

one_map : {X Y Z : Type 0} (f : X → Y) (g : Y → Z) (xs : List X) → map g (map f xs) ≡ map (λ x. g (f x)) xs
one_map f g xs = each_back f g (λ x. g (f x)) xs (λ x. refl)

act_kept : (before : List ℕ) (scope : Scope) (a : Act) → act_faults before scope (act_of (act_form a)) ≡ act_faults before scope a
act_kept before scope (act.Set to assign right) = ap (set_faults before scope to) (form_back (form_of right))
act_kept before scope (act.Clear at table) = refl

assignment_kept : (before : List ℕ) (scope : Scope) (a : Assignment) → assignment_faults before scope (kept_assignment a) ≡ assignment_faults before scope a
assignment_kept before scope a = act_kept before scope a.act

word_kept : (a : Act) → act_word (act_of (act_form a)) ≡ act_word a
word_kept (act.Set to assign right) = refl
word_kept (act.Clear at table) = refl

assignments_kept : (before : List ℕ) (scope : Scope) (xs : List Assignment) → assignments_faults before scope (map assignment_of (map assignment_form xs)) ≡ assignments_faults before scope xs
assignments_kept before scope [] = refl
assignments_kept before scope (a ∷ xs) =
    ap (λ faults. faults ++ assignments_faults (before ++ (act_word (act_of (act_form a.act))).code ∷ []) scope (map assignment_of (map assignment_form xs))) (assignment_kept before scope a)
    ∙ ap (λ (w : Word). assignment_faults before scope a ++ assignments_faults (before ++ w.code ∷ []) scope (map assignment_of (map assignment_form xs))) (word_kept a.act)
    ∙ ap (λ faults. assignment_faults before scope a ++ faults) (assignments_kept (before ++ (act_word a.act).code ∷ []) scope xs)

colon_kept : (xs : List Assignment) → colon_of (map assignment_of (map assignment_form xs)) ≡ colon_of xs
colon_kept [] = refl
colon_kept (a ∷ xs) = refl

operation_kept : (states : List State) (families : List _) (o : Operation) → operation_faults states families (kept_operation o) ≡ operation_faults states families o
operation_kept states families o =
    let front : List Fault = param_faults states o.params ++ flat_map (part_faults o.params) o.rank in
    ap (λ colon. front ++ match_faults families o.params o.rank colon ++ assignments_faults [] (scope_of states o.params) (map assignment_of (map assignment_form o.assignments)))
    (colon_kept o.assignments)
    ∙ ap (λ faults. front ++ match_faults families o.params o.rank (colon_of o.assignments) ++ faults) (assignments_kept [] (scope_of states o.params) o.assignments)

query_kept : (states : List State) (q : Query) → query_faults states (kept_query q) ≡ query_faults states q
query_kept states q =
    ap (λ (f : Form). param_faults states q.params ++ asked_faults q.sort (scope_of states q.params) f ++ form_faults (scope_of states q.params) f) (form_back (form_of q.right))

families_kept : (os : List Operation) → first_families (map operation_of (map operation_form os)) ≡ first_families os
families_kept [] = refl
families_kept (o ∷ os) = refl

-- lists of operations and queries
flat_kept : {X Y : Type 0} (to : X → Y) (back : Y → X) (F : X → List Fault) (xs : List X) → ((x : X) → F (back (to x)) ≡ F x) → flat_map F (map back (map to xs)) ≡ flat_map F xs
flat_kept to back F [] same = refl
flat_kept to back F (x ∷ xs) same = ap (λ ys. ys ++ flat_map F (map back (map to xs))) (same x) ∙ ap (λ ys. F x ++ ys) (flat_kept to back F xs same)

map_kept : {X Y Z : Type 0} (to : X → Y) (back : Y → X) (f : X → Z) (xs : List X) → ((x : X) → f (back (to x)) ≡ f x) → map f (map back (map to xs)) ≡ map f xs
map_kept to back f [] same = refl
map_kept to back f (x ∷ xs) same = ap (λ y. y ∷ map f (map back (map to xs))) (same x) ∙ ap (λ ys. f x ∷ ys) (map_kept to back f xs same)

dropped_kept : {X Y : Type 0} (to : X → Y) (back : Y → X) (F : X → List Fault) (n : ℕ) (xs : List X) → ((x : X) → F (back (to x)) ≡ F x)
    → flat_map F (drop n (map back (map to xs))) ≡ flat_map F (drop n xs)
dropped_kept to back F n xs same =
    ap (λ ys. flat_map F ys) (drop-map back n (map to xs) ∙ ap (λ ys. map back ys) (drop-map to n xs)) ∙ flat_kept to back F (drop n xs) same

faults_kept : (t : TypeText) → faults_of (kept t) ≡ faults_of t
faults_kept t =
    let os : List Operation = map operation_of (map operation_form t.operations) in
    let qs : List Query = map query_of (map query_form t.queries) in
    let states : List Fault = state_faults t.states in
    let ops : List Fault = flat_map (operation_faults t.states (first_families t.operations)) t.operations in
    ap (λ (ws : List Word). states ++ twice_among [] (ws ++ map (λ (q : Query). q.name) qs) ++ flat_map (operation_faults t.states (first_families os)) os ++ flat_map (query_faults t.states) qs)
    (map_kept operation_form operation_of (λ (o : Operation). o.name) t.operations (λ o. refl))
    ∙ ap (λ (ws : List Word). states ++ twice_among [] (map (λ (o : Operation). o.name) t.operations ++ ws) ++ flat_map (operation_faults t.states (first_families os)) os ++ flat_map (query_faults t.states) qs)
    (map_kept query_form query_of (λ (q : Query). q.name) t.queries (λ q. refl))
    ∙ ap (λ families. states ++ twice_among [] (item_names t) ++ flat_map (operation_faults t.states families) os ++ flat_map (query_faults t.states) qs) (families_kept t.operations)
    ∙ ap (λ (faults : List Fault). states ++ twice_among [] (item_names t) ++ faults ++ flat_map (query_faults t.states) qs)
    (flat_kept operation_form operation_of (operation_faults t.states (first_families t.operations)) t.operations (operation_kept t.states (first_families t.operations)))
    ∙ ap (λ (faults : List Fault). states ++ twice_among [] (item_names t) ++ ops ++ faults) (flat_kept query_form query_of (query_faults t.states) t.queries (query_kept t.states))

weight_kept : (scope : Scope) (a : Assignment) → weight_faults scope (kept_assignment a) ≡ weight_faults scope a
weight_kept scope a = act_weight_kept scope a.act
  where
    act_weight_kept : (scope : Scope) (a : Act) → act_weight_faults scope (act_of (act_form a)) ≡ act_weight_faults scope a
    act_weight_kept scope (act.Set to assign right) = ap (right_weight_faults scope) (form_back (form_of right))
    act_weight_kept scope (act.Clear at table) = refl

limit_kept : (states : List State) (o : Operation) → operation_limits states (kept_operation o) ≡ operation_limits states o
limit_kept states o = ap (λ faults. past_params o.params ++ faults) (flat_kept assignment_form assignment_of (weight_faults (scope_of states o.params)) o.assignments (weight_kept (scope_of states o.params)))

limits_kept : (t : TypeText) → limits_of (kept t) ≡ limits_of t
limits_kept t =
    let os : List Operation = map operation_of (map operation_form t.operations) in
    let qs : List Query = map query_of (map query_form t.queries) in
    let fields : List Fault = flat_map (λ (s : State). fault 9 s.at) (drop field_limit t.states) in
    let ops : List Fault = flat_map (λ (o : Operation). fault 9 o.at) (drop item_limit t.operations) in
    let queries : List Fault = flat_map (λ (q : Query). fault 9 q.at) (drop item_limit t.queries) in
    ap (λ (faults : List Fault). fields ++ faults ++ flat_map (λ (q : Query). fault 9 q.at) (drop item_limit qs) ++ flat_map (operation_limits t.states) os ++ flat_map (λ (q : Query). past_params q.params) qs)
    (dropped_kept operation_form operation_of (λ (o : Operation). fault 9 o.at) item_limit t.operations (λ o. refl))
    ∙ ap (λ (faults : List Fault). fields ++ ops ++ faults ++ flat_map (operation_limits t.states) os ++ flat_map (λ (q : Query). past_params q.params) qs)
    (dropped_kept query_form query_of (λ (q : Query). fault 9 q.at) item_limit t.queries (λ q. refl))
    ∙ ap (λ (faults : List Fault). fields ++ ops ++ queries ++ faults ++ flat_map (λ (q : Query). past_params q.params) qs)
    (flat_kept operation_form operation_of (operation_limits t.states) t.operations (limit_kept t.states))
    ∙ ap (λ (faults : List Fault). fields ++ ops ++ queries ++ flat_map (operation_limits t.states) t.operations ++ faults)
    (flat_kept query_form query_of (λ (q : Query). past_params q.params) t.queries (λ q. refl))

refusal_kept : (t : TypeText) → first_refusal (kept t) ≡ first_refusal t
refusal_kept t = ap (λ faults. option_or (first_of faults) (first_of (limits_of (kept t)))) (faults_kept t) ∙ ap (λ faults. option_or (first_of (faults_of t)) (first_of faults)) (limits_kept t)

assigned_kept : (scope : Scope) (a : Assignment) → assigned_in scope (kept_assignment a) ≡ assigned_in scope a
assigned_kept scope a = act_is scope a.act
  where
    act_is : (scope : Scope) (a : Act) → act_in scope (act_of (act_form a)) ≡ act_in scope a
    act_is scope (act.Set to assign right) = ap (λ (f : Form). target_in scope to (term_in scope f)) (form_back (form_of right))
    act_is scope (act.Clear at table) = refl

operation_is : (states : List State) (o : Operation) → operation_in states (kept_operation o) ≡ operation_in states o
operation_is states o =
    ap (λ (xs : List Assigned). record { name = o.name.code; params = map param_in o.params; ranks = map (rank_in (scope_of states o.params)) o.rank; assigned = xs })
    (map_kept assignment_form assignment_of (assigned_in (scope_of states o.params)) o.assignments (assigned_kept (scope_of states o.params)))

query_is : (states : List State) (q : Query) → query_in states (kept_query q) ≡ query_in states q
query_is states q =
    ap (λ (f : Form). record { name = q.name.code; params = map param_in q.params; sort = q.sort; right = term_in (scope_of states q.params) f }) (form_back (form_of q.right))

type_kept : (t : TypeText) → type_in (kept t) ≡ type_in t
type_kept t =
    ap (λ (os : List types.OperationForm). record { name = t.name.code; fields = map field_in t.states; ops = os; queries = map (query_in t.states) (map query_of (map query_form t.queries)) })
    (map_kept operation_form operation_of (operation_in t.states) t.operations (operation_is t.states))
    ∙ ap (λ (qs : List types.QueryForm). record { name = t.name.code; fields = map field_in t.states; ops = map (operation_in t.states) t.operations; queries = qs })
    (map_kept query_form query_of (query_in t.states) t.queries (query_is t.states))

-- texts that are written alike have the same refusal and say the same
pub same_refusal : (t u : TypeText) → type_form t ≡ type_form u → first_refusal t ≡ first_refusal u
same_refusal t u same = sym (refusal_kept t) ∙ ap (λ f. first_refusal (text_of f)) same ∙ refusal_kept u

pub same_type : (t u : TypeText) → type_form t ≡ type_form u → type_in t ≡ type_in u
same_type t u same = sym (type_kept t) ∙ ap (λ f. type_in (text_of f)) same ∙ type_kept u
