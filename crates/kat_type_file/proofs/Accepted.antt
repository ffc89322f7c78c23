-- A type that breaks no rule and passes no limit has its sorts.
use Rattle.std.proofs.Common.{◌≡◌, ◌≢◌, ℕ, ◌≤◌, false, not, List, [], ◌∷◌, ◌++◌, length, map, All, refl, sym, ◌∙◌, ap, subst, Option, None, Some}
use Rattle.std.specs.Prelude.{MatchOption, slice_get}
use Rattle.std.specs.List.{flat_map, slice_index_or}
use Rattle.std.proofs.lemmas.Bool.{false≢true}
use Rattle.std.proofs.lemmas.List.{length-map}
use Rattle.std.proofs.lemmas.List.Elements.{All-cons, All-head, All-nil, All-tail}
use Rattle.kat_num.specs.Values.{HasSort}
use Rattle.kat_num.specs.declared.values.Sort.{Sort}
use Rattle.kat_num.specs.declared.values.Sort.TheVariants.{Bool as OfBool}
use Rattle.kat_expr.specs.Sorts.{FitsSort}
use Rattle.kat_expr.specs.Sorts as expressions
use Rattle.kat_expr.specs.Terms.{Term}
use Rattle.kat_grammar.specs.Forms.{operation_form as written_operation, type_form as written_form}
use Rattle.kat_grammar.specs.Lines.{IsElement, IsOperation, IsType}
use Rattle.kat_grammar.specs.Phrases.{form_of}
use Rattle.kat_grammar.specs.declared.phrases.Act.{Act}
use Rattle.kat_grammar.specs.declared.phrases.Act.TheVariants as act
use Rattle.kat_grammar.specs.declared.phrases.Assignment.{Assignment}
use Rattle.kat_grammar.specs.declared.phrases.Constant.{Constant}
use Rattle.kat_grammar.specs.declared.phrases.Kept.{Kept}
use Rattle.kat_grammar.specs.declared.phrases.Kept.TheVariants.{One, Each}
use Rattle.kat_grammar.specs.declared.phrases.Operation.{Operation}
use Rattle.kat_grammar.specs.declared.phrases.Parameter.{Parameter}
use Rattle.kat_grammar.specs.declared.phrases.Query.{Query}
use Rattle.kat_grammar.specs.declared.phrases.RankElement.{RankElement}
use Rattle.kat_grammar.specs.declared.phrases.RankElement.TheVariants as rank
use Rattle.kat_grammar.specs.declared.phrases.State.{State}
use Rattle.kat_grammar.specs.declared.phrases.Target.{Target}
use Rattle.kat_grammar.specs.declared.phrases.Target.TheVariants as target
use Rattle.kat_grammar.specs.declared.phrases.TypeText.{TypeText}
use Rattle.kat_type.specs.Fits.{IsTable, AssignedFits, FitsEntry, FitsPlain, IsWellSorted, OperationFits, QueryFits, RankFits, StartFits}
use Rattle.kat_type.specs.declared.types.Param.{Param}
use Rattle.kat_judging.specs.Faults.{act_faults, act_word, again_faults, asked_faults, assignment_faults, assignments_faults, colon_of, element_faults, element_param_faults, fault_if, faults_of, first_families, first_of, form_faults, is_sort, is_table, is_truths, item_names, key_faults, key_of, key_sort, match_faults, operation_faults, param_faults, part_faults, plain_target_faults, query_faults, right_fault, right_faults, scope_of, start_faults, start_of, state_faults, table_faults, target_faults, target_word, twice_among}
use Rattle.kat_type_file.specs.Limits.{limits_of}
use Rattle.kat_judging.specs.Names.{Scope, field_named, named_param, param_named}
use Rattle.kat_judging.specs.KnownSorts.{accepts, family_of}
use Rattle.kat_judging.specs.Sorts.{constant_sort, found_of, kept_sort}
use Rattle.kat_type_file.specs.Typing.{act_in, assigned_in, constant_value, element_in, field_in, first_refusal, kept_field, operation_in, param_in, place_of, query_in, rank_in, target_in, term_in, type_in}
use Rattle.kat_judging.specs.declared.faults.Fault.{Fault}
use Rattle.kat_judging.specs.declared.found.Family.{Family}
use Rattle.kat_judging.specs.declared.found.Found.{Found}
use Rattle.kat_judging.specs.declared.found.Found.TheVariants.{Exactly}
use Rattle.kat_judging.specs.declared.names.Declared.{Declared}
use Rattle.kat_type_file.proofs.Refusals.{each_mapped, faults_none, few_params, none_each, none_front, none_past, none_rest, passes_none, some_none}
use Rattle.kat_type_file.proofs.Sorting.{FoundFits, StandsIn, accepted, asked_fits, constant_has, field_at, form_fits, if_none, kept_sorts, mapped_at, param_at, same_sort, sorts_in, stands_in, value_wide}

mapped_all : {A B : Type 0} (P : B → Type 0) (f : A → B) (xs : List A) → All (λ x. P (f x)) xs → All P (map f xs)
mapped_all P f [] h = All-nil P
mapped_all P f (x ∷ xs) h = All-cons P (f x) (map f xs) (All-head (λ y. P (f y)) x xs h) (mapped_all P f xs (All-tail (λ y. P (f y)) x xs h))

start_kept : (k : Kept) (name : ℕ) (c : Constant) (at : ℕ) → first_of (fault_if (not (accepts (kept_sort k) (Exactly (constant_sort c)))) 7 at) ≡ None
    → StartFits (kept_field k name (constant_value c))
start_kept (One sort_at s) name c at h =
    accepted (λ x. HasSort x (constant_value c)) (value_wide (constant_value c)) s (constant_sort c) (if_none (not (accepts s (Exactly (constant_sort c)))) 7 at h) (constant_has c)
start_kept (Each table key_at key arrow sort_at s) name c at h =
    accepted (λ x. HasSort x (constant_value c)) (value_wide (constant_value c)) s (constant_sort c) (if_none (not (accepts s (Exactly (constant_sort c)))) 7 at h) (constant_has c)

-- ranks
not_truth : (s : Sort) → is_truths (Some (family_of s)) ≡ false → s ≢ OfBool
not_truth s h e = false≢true (sym h ∙ ap (λ x. is_truths (Some (family_of x))) e)

argument_fits : (params : List Parameter) (p : Option (Declared Parameter)) (at : ℕ) → StandsIn params p → first_of (element_param_faults p at) ≡ None
    → MatchOption (slice_get (map param_in params) (place_of p)) ⊥ (λ (q : Param). q.sort ≢ OfBool)
argument_fits params None at dp h = absurd (some_none _ h)
argument_fits params (Some d) at dp h =
    subst (λ (o : Option Param). MatchOption o ⊥ (λ (q : Param). q.sort ≢ OfBool)) (sym (mapped_at param_in params d.place d.it dp))
    (not_truth d.it.sort (if_none (is_truths (Some (family_of d.it.sort))) 7 at h))

element_fits : (scope : Scope) (e : RankElement) → IsElement e → first_of (element_faults scope.params e) ≡ None → RankFits (map param_in scope.params) (element_in scope e)
element_fits scope (rank.Digit at n) small h = small
element_fits scope (rank.Time at) small h = tt
element_fits scope (rank.Replica at) small h = tt
element_fits scope (rank.Parameter w) small h =
    argument_fits scope.params (named_param scope.params w.code) w.at (stands_in (λ p. p.name.code) w.code scope.params) h

-- assignments
plain_fits : (scope : expressions.Scope) (k : Kept) (found : Found) (right : Term) (at place : ℕ) → first_of (fault_if (is_table k) 7 at) ≡ None
    → FitsSort scope right (kept_sort k) → FitsPlain scope right (kept_sorts k)
plain_fits scope (One sort_at s) found right at place h fits = fits
plain_fits scope (Each table key_at key arrow sort_at s) found right at place h fits = absurd (some_none _ h)

keyed_fits : (scope : expressions.Scope) (k : Kept) (key : ℕ) (given : Sort) (right : Term) (at key_at : ℕ) (p : Declared Parameter) → p.it.sort ≡ given
    → slice_get scope.params key ≡ Some given → not (is_table k) ≡ false → first_of (key_faults (key_of k) (Some p) key_at) ≡ None
    → FitsSort scope right (kept_sort k) → FitsEntry scope key right (kept_sorts k)
keyed_fits scope (One sort_at s) key given right at key_at p is param table h fits = absurd (false≢true (sym table))
keyed_fits scope (Each table_at sort_key_at wanted arrow sort_at s) key given right at key_at p is param table h fits =
    (param ∙ ap (λ (x : Sort). Some x) (sym is ∙ sym (same_sort wanted p.it.sort (if_none (not (is_sort wanted p.it.sort)) 7 key_at h))), fits)

field_target : (scope : Scope) (f : Option (Declared State)) (found : Found) (right : Term) (at right_at : ℕ) → StandsIn scope.fields f
    → first_of (plain_target_faults f at) ≡ None → first_of (right_fault f found right_at) ≡ None → FoundFits (sorts_in scope) found right
    → MatchOption (slice_get (sorts_in scope).fields (place_of f)) ⊥ (FitsPlain (sorts_in scope) right)
field_target scope None found right at right_at df h k r = absurd (some_none _ h)
field_target scope (Some d) found right at right_at df h k r =
    subst (λ (o : Option expressions.Kept). MatchOption o ⊥ (FitsPlain (sorts_in scope) right)) (sym (field_at scope d df))
    (plain_fits (sorts_in scope) d.it.kept found right at d.place h (asked_fits (sorts_in scope) found right (kept_sort d.it.kept) right_at k r))

entry_target : (scope : Scope) (f : Option (Declared State)) (p : Option (Declared Parameter)) (found : Found) (right : Term) (at key_at right_at : ℕ)
    → StandsIn scope.fields f → StandsIn scope.params p → first_of (table_faults f at) ≡ None → first_of (key_faults (key_sort f) p key_at) ≡ None
    → first_of (right_fault f found right_at) ≡ None → FoundFits (sorts_in scope) found right
    → MatchOption (slice_get (sorts_in scope).fields (place_of f)) ⊥ (FitsEntry (sorts_in scope) (place_of p) right)
entry_target scope None p found right at key_at right_at df dp h g k r = absurd (some_none _ h)
entry_target scope (Some d) None found right at key_at right_at df dp h g k r = absurd (some_none _ g)
entry_target scope (Some d) (Some p) found right at key_at right_at df dp h g k r =
    subst (λ (o : Option expressions.Kept). MatchOption o ⊥ (FitsEntry (sorts_in scope) p.place right)) (sym (field_at scope d df))
    (keyed_fits (sorts_in scope) d.it.kept p.place p.it.sort right at key_at p refl (param_at scope p dp) (if_none (not (is_table d.it.kept)) 7 at h) g
    (asked_fits (sorts_in scope) found right (kept_sort d.it.kept) right_at k r))

target_fits : (scope : Scope) (to : Target) (found : Found) (right : Term) (right_at : ℕ) → first_of (target_faults scope to) ≡ None
    → first_of (right_fault (field_named scope (target_word to).code) found right_at) ≡ None → FoundFits (sorts_in scope) found right
    → AssignedFits (sorts_in scope) (target_in scope to right)
target_fits scope (target.Field w) found right right_at h k r =
    field_target scope (field_named scope w.code) found right w.at right_at (stands_in (λ s. s.name.code) w.code scope.fields) h k r
target_fits scope (target.Entry table open_at key close_at) found right right_at h k r =
    let faults : List Fault = table_faults (field_named scope table.code) table.at in
    let keys : List Fault = key_faults (key_sort (field_named scope table.code)) (param_named scope key.code) key.at in
    entry_target scope (field_named scope table.code) (param_named scope key.code) found right table.at key.at right_at
    (stands_in (λ s. s.name.code) table.code scope.fields) (stands_in (λ p. p.name.code) key.code scope.params) (none_front faults keys h) (none_rest faults keys h) k r

table_fits : (k : Kept) (at : ℕ) → not (is_table k) ≡ false → IsTable (kept_sorts k)
table_fits (One sort_at s) at h = absurd (false≢true (sym h))
table_fits (Each table key_at key arrow sort_at s) at h = tt

clear_fits : (scope : Scope) (f : Option (Declared State)) (at : ℕ) → StandsIn scope.fields f → first_of (table_faults f at) ≡ None
    → MatchOption (slice_get (sorts_in scope).fields (place_of f)) ⊥ IsTable
clear_fits scope None at df h = absurd (some_none _ h)
clear_fits scope (Some d) at df h =
    subst (λ (o : Option expressions.Kept). MatchOption o ⊥ IsTable) (sym (field_at scope d df)) (table_fits d.it.kept at (if_none (not (is_table d.it.kept)) 7 at h))

act_fits : (before : List ℕ) (scope : Scope) (a : Act) → first_of (act_faults before scope a) ≡ None → AssignedFits (sorts_in scope) (act_in scope a)
act_fits before scope (act.Set to assign right) h =
    let targets : List Fault = target_faults scope to in
    let again : List Fault = again_faults before (field_named scope (target_word to).code) (target_word to) in
    let rights : List Fault = right_faults (field_named scope (target_word to).code) scope (form_of right) in
    let three = none_front (targets ++ again ++ rights) (form_faults scope (form_of right)) h in
    let two = none_front (targets ++ again) rights three in
    target_fits scope to (found_of scope (form_of right)) (term_in scope (form_of right)) (start_of (form_of right))
    (none_front targets again two) (none_rest (targets ++ again) rights three)
    (form_fits scope (form_of right) (none_rest (targets ++ again ++ rights) (form_faults scope (form_of right)) h))
act_fits before scope (act.Clear at table) h =
    clear_fits scope (field_named scope table.code) table.at (stands_in (λ s. s.name.code) table.code scope.fields)
    (none_front (table_faults (field_named scope table.code) table.at) (again_faults before (field_named scope table.code) table) h)

assigned_fits : (before : List ℕ) (scope : Scope) (a : Assignment) → first_of (assignment_faults before scope a) ≡ None → AssignedFits (sorts_in scope) (assigned_in scope a)
assigned_fits before scope a h = act_fits before scope a.act h

all_assigned : (before : List ℕ) (scope : Scope) (xs : List Assignment) → first_of (assignments_faults before scope xs) ≡ None
    → All (AssignedFits (sorts_in scope)) (map (assigned_in scope) xs)
all_assigned before scope [] h = All-nil (AssignedFits (sorts_in scope))
all_assigned before scope (a ∷ xs) h =
    let rest : List Fault = assignments_faults (before ++ (act_word a.act).code ∷ []) scope xs in
    All-cons (AssignedFits (sorts_in scope)) (assigned_in scope a) (map (assigned_in scope) xs)
    (assigned_fits before scope a (none_front (assignment_faults before scope a) rest h))
    (all_assigned (before ++ (act_word a.act).code ∷ []) scope xs (none_rest (assignment_faults before scope a) rest h))

-- an operation and a query
operation_fits : (states : List State) (families : List (Option Family)) (o : Operation) → IsOperation (written_operation o) → length o.params ≤ 4
    → first_of (operation_faults states families o) ≡ None → OperationFits (map field_in states) (operation_in states o)
operation_fits states families o formed few h =
    let scope : Scope = scope_of states o.params in
    let named : List Fault = param_faults states o.params in
    let parts : List Fault = flat_map (part_faults o.params) o.rank in
    let matches : List Fault = match_faults families o.params o.rank (colon_of o.assignments) in
    let assigned : List Fault = assignments_faults [] scope o.assignments in
    let three = none_front (named ++ parts ++ matches) assigned h in
    let each = none_each (part_faults o.params) o.rank (none_rest named parts (none_front (named ++ parts) matches three)) in
    record {
      few = subst (λ n. n ≤ 4) (sym (length-map o.params param_in)) few;
      ranks = mapped_all (RankFits (map param_in o.params)) (rank_in scope) o.rank
          (λ k d lt. element_fits scope (slice_index_or o.rank k d).element (formed.1.2 k d lt) (each k d lt));
      assigned = all_assigned [] scope o.assignments (none_rest (named ++ parts ++ matches) assigned h);
    }

query_fits : (states : List State) (q : Query) → length q.params ≤ 4 → first_of (query_faults states q) ≡ None → QueryFits (map field_in states) (query_in states q)
query_fits states q few h =
    let scope : Scope = scope_of states q.params in
    let named : List Fault = param_faults states q.params in
    let sorts : List Fault = asked_faults q.sort scope (form_of q.right) in
    let two = none_front (named ++ sorts) (form_faults scope (form_of q.right)) h in
    record {
      few = subst (λ n. n ≤ 4) (sym (length-map q.params param_in)) few;
      right = asked_fits (sorts_in scope) (found_of scope (form_of q.right)) (term_in scope (form_of q.right)) q.sort (start_of (form_of q.right)) (none_rest named sorts two)
          (form_fits scope (form_of q.right) (none_rest (named ++ sorts) (form_faults scope (form_of q.right)) h));
    }

pub well_sorted : (t : TypeText) → IsType (written_form t) → first_refusal t ≡ None → IsWellSorted (type_in t)
well_sorted t formed h =
    let none : first_of (faults_of t) ≡ None = faults_none (first_of (faults_of t)) (first_of (limits_of t)) h in
    let few = passes_none t h in
    let states : List Fault = state_faults t.states in
    let names : List Fault = twice_among [] (item_names t) in
    let operations : List Fault = flat_map (operation_faults t.states (first_families t.operations)) t.operations in
    let queries : List Fault = flat_map (query_faults t.states) t.queries in
    let three = none_front (states ++ names ++ operations) queries none in
    let two = none_front (states ++ names) operations three in
    let starts = none_each start_faults t.states (none_rest (twice_among [] (map (λ (s : State). s.name) t.states)) (flat_map start_faults t.states) (none_front states names two)) in
    let each = none_each (operation_faults t.states (first_families t.operations)) t.operations (none_rest (states ++ names) operations three) in
    let asked = none_each (query_faults t.states) t.queries (none_rest (states ++ names ++ operations) queries none) in
    record {
      few_fields = subst (λ n. n ≤ 16) (sym (length-map t.states field_in)) few.fields;
      few_operations = subst (λ n. n ≤ 12) (sym (length-map t.operations (operation_in t.states))) few.operations;
      few_queries = subst (λ n. n ≤ 12) (sym (length-map t.queries (query_in t.states))) few.queries;
      starts = mapped_all StartFits field_in t.states
          (λ k d lt. start_kept (slice_index_or t.states k d).kept (slice_index_or t.states k d).name.code (slice_index_or t.states k d).start _ (starts k d lt));
      operations = mapped_all (OperationFits (map field_in t.states)) (operation_in t.states) t.operations
          (λ k d lt. operation_fits t.states (first_families t.operations) (slice_index_or t.operations k d) (each_mapped IsOperation written_operation t.operations formed.operations k d lt)
          (few_params t.states (slice_index_or t.operations k d) (few.each k d lt)) (each k d lt));
      queries = mapped_all (QueryFits (map field_in t.states)) (query_in t.states) t.queries
          (λ k d lt. query_fits t.states (slice_index_or t.queries k d)
          (none_past (λ p. p.name.at) 4 (slice_index_or t.queries k d).params (few.params k d lt)) (asked k d lt));
    }
