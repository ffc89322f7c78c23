-- What a type has that breaks no rule and passes no limit.
use Rattle.std.proofs.Common.{◌≡◌, ℕ, zero, suc, ◌≤◌, Bool, true, false, List, [], ◌∷◌, ◌++◌, length, map, drop, All, refl, arith, Option, None, Some}
use Rattle.std.specs.Prelude.{if◌then◌else◌}
use Rattle.std.specs.List.{flat_map, slice_index_or}
use Rattle.std.specs.Option.{option_or}
use Rattle.std.proofs.lemmas.List.Elements.{All-cons, All-head, All-nil, All-tail}
use Rattle.kat_grammar.specs.Forms.{operation_form as written_operation}
use Rattle.kat_grammar.specs.Lines.{IsOperation}
use Rattle.kat_grammar.specs.declared.phrases.Operation.{Operation}
use Rattle.kat_grammar.specs.declared.phrases.Query.{Query}
use Rattle.kat_grammar.specs.declared.phrases.State.{State}
use Rattle.kat_grammar.specs.declared.phrases.TypeText.{TypeText}
use Rattle.kat_type.specs.Limits.{field_limit, item_limit, param_limit}
use Rattle.kat_judging.specs.Faults.{earlier, fault, faults_of, first_of, is_before, scope_of}
use Rattle.kat_type_file.specs.Limits.{limits_of, operation_limits, past_params, weight_faults}
use Rattle.kat_type_file.specs.Small.{IsSmallOperation, IsSmallQuery}
use Rattle.kat_type_file.specs.Typing.{first_refusal}
use Rattle.kat_judging.specs.declared.faults.Fault.{Fault}

pub some_none : (a : Fault) → Some a ≡ None → ⊥
some_none a h = cc

one_none : (a b : Fault) (t : Bool) → (if t then Some b else Some a) ≡ None → ⊥
one_none a b true h = some_none b h
one_none a b false h = some_none a h

pub never_none : (a : Fault) (b : Option Fault) → earlier (Some a) b ≡ None → ⊥
never_none a None h = some_none a h
never_none a (Some b) h = one_none a b (is_before b a) h

pub none_front : (xs ys : List Fault) → first_of (xs ++ ys) ≡ None → first_of xs ≡ None
none_front [] ys h = refl
none_front (x ∷ xs) ys h = absurd (never_none x (first_of (xs ++ ys)) h)

pub none_rest : (xs ys : List Fault) → first_of (xs ++ ys) ≡ None → first_of ys ≡ None
none_rest [] ys h = h
none_rest (x ∷ xs) ys h = absurd (never_none x (first_of (xs ++ ys)) h)

pub none_each : {T : Type 0} (F : T → List Fault) (xs : List T) → first_of (flat_map F xs) ≡ None → All (λ x. first_of (F x) ≡ None) xs
none_each F [] h = All-nil (λ x. first_of (F x) ≡ None)
none_each F (x ∷ xs) h =
    All-cons (λ y. first_of (F y) ≡ None) x xs (none_front (F x) (flat_map F xs) h) (none_each F xs (none_rest (F x) (flat_map F xs) h))

pub none_past : {T : Type 0} (place : T → ℕ) (n : ℕ) (xs : List T) → first_of (flat_map (λ x. fault 9 (place x)) (drop n xs)) ≡ None → length xs ≤ n
none_past place n [] h = omega arith
none_past place zero (x ∷ xs) h = absurd (never_none (record { at = place x; number = 9 }) (first_of (flat_map (λ y. fault 9 (place y)) xs)) h)
none_past place (suc n) (x ∷ xs) h = let le = none_past place n xs h in omega (arith, le)

pub faults_none : (a b : Option Fault) → option_or a b ≡ None → a ≡ None
faults_none None b h = refl
faults_none (Some a) b h = absurd (some_none a h)

pub limits_none : (a b : Option Fault) → option_or a b ≡ None → b ≡ None
limits_none None b h = h
limits_none (Some a) b h = absurd (some_none a h)

abbrev past_fields : TypeText → List Fault
past_fields t = flat_map (λ (s : State). fault 9 s.at) (drop field_limit t.states)

abbrev past_operations : TypeText → List Fault
past_operations t = flat_map (λ (o : Operation). fault 9 o.at) (drop item_limit t.operations)

abbrev past_queries : TypeText → List Fault
past_queries t = flat_map (λ (q : Query). fault 9 q.at) (drop item_limit t.queries)

-- the fault that a limit of a type is passed, part by part
pub record PassesNone (t : TypeText) : Type 0 where
  pub fields : length t.states ≤ field_limit
  pub operations : length t.operations ≤ item_limit
  pub queries : length t.queries ≤ item_limit
  pub each : All (λ o. first_of (operation_limits t.states o) ≡ None) t.operations
  pub params : All (λ (q : Query). first_of (past_params q.params) ≡ None) t.queries

pub passes_none : (t : TypeText) → first_refusal t ≡ None → PassesNone t
passes_none t h =
    let all : first_of (limits_of t) ≡ None = limits_none (first_of (faults_of t)) (first_of (limits_of t)) h in
    let four : first_of (past_fields t ++ past_operations t ++ past_queries t ++ flat_map (operation_limits t.states) t.operations) ≡ None =
    none_front (past_fields t ++ past_operations t ++ past_queries t ++ flat_map (operation_limits t.states) t.operations) (flat_map (λ (q : Query). past_params q.params) t.queries) all in
    let three : first_of (past_fields t ++ past_operations t ++ past_queries t) ≡ None =
    none_front (past_fields t ++ past_operations t ++ past_queries t) (flat_map (operation_limits t.states) t.operations) four in
    let two : first_of (past_fields t ++ past_operations t) ≡ None = none_front (past_fields t ++ past_operations t) (past_queries t) three in
    record {
      fields = none_past (λ (s : State). s.at) field_limit t.states (none_front (past_fields t) (past_operations t) two);
      operations = none_past (λ (o : Operation). o.at) item_limit t.operations (none_rest (past_fields t) (past_operations t) two);
      queries = none_past (λ (q : Query). q.at) item_limit t.queries (none_rest (past_fields t ++ past_operations t) (past_queries t) three);
      each = none_each (operation_limits t.states) t.operations
          (none_rest (past_fields t ++ past_operations t ++ past_queries t) (flat_map (operation_limits t.states) t.operations) four);
      params = none_each (λ (q : Query). past_params q.params) t.queries
          (none_rest (past_fields t ++ past_operations t ++ past_queries t ++ flat_map (operation_limits t.states) t.operations) (flat_map (λ (q : Query). past_params q.params) t.queries) all);
    }

pub few_params : (states : List State) (o : Operation) → first_of (operation_limits states o) ≡ None → length o.params ≤ param_limit
few_params states o h =
    none_past (λ p. p.name.at) param_limit o.params (none_front (past_params o.params) (flat_map (weight_faults (scope_of states o.params)) o.assignments) h)

-- what holds of each of a mapped list holds of what it was made of
pub each_mapped : {A B : Type 0} (P : B → Type 0) (f : A → B) (xs : List A) → All P (map f xs) → All (λ x. P (f x)) xs
each_mapped P f [] h k d lt = absurd (omega (arith, lt))
each_mapped P f (x ∷ xs) h zero d lt = All-head P (f x) (map f xs) h
each_mapped P f (x ∷ xs) h (suc k) d lt = each_mapped P f xs (All-tail P (f x) (map f xs) h) k d (omega (arith, lt))

pub small_operations : (t : TypeText) → All IsOperation (map written_operation t.operations) → first_refusal t ≡ None → All IsSmallOperation t.operations
small_operations t formed h k d lt = record {
  params = few_params t.states (slice_index_or t.operations k d) ((passes_none t h).each k d lt);
  digits = (each_mapped IsOperation written_operation t.operations formed k d lt).1.2;
}

pub small_queries : (t : TypeText) → first_refusal t ≡ None → All IsSmallQuery t.queries
small_queries t h k d lt = record { params = none_past (λ p. p.name.at) param_limit (slice_index_or t.queries k d).params ((passes_none t h).params k d lt) }
