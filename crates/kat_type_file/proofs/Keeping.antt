-- A type keeps the rules exactly if it isn't refused.
use Rattle.std.proofs.Common.{◌≡◌, ℕ, zero, suc, ◌+◌, ◌≤◌, inl, inr, ⊎_elim, Bool, true, false, not, ◌||◌, List, [], ◌∷◌, ◌++◌, length, map, drop, All, arith, refl, sym, ◌∙◌, ap, subst, Option, None, Some}
use Rattle.std.specs.Prelude.{◌==◌, if◌then◌else◌, max, min, nat_lt, option_map, unwrap_or}
use Rattle.std.specs.List.{flat_map, list_any, slice_index_or}
use Rattle.std.specs.Option.{option_or}
use Rattle.std.proofs.lemmas.Bool.{eq-eqb, eqb-true, false_from_ne_true, false≢true, or_left, or_right}
use Rattle.std.proofs.lemmas.List.{length-map}
use Rattle.std.proofs.lemmas.List.Elements.{All-cons, All-head, All-map, All-nil, All-tail}
use Rattle.kat_num.specs.declared.values.Sort.{Sort}
use Rattle.kat_num.specs.declared.values.Sort.TheVariants.{Bool as OfBool, Int as OfInt, Nat as OfNat, Name as OfName}
use Rattle.kat_expr.specs.Limits.{weight_of as term_weight}
use Rattle.kat_expr.specs.Terms.{Term}
use Rattle.kat_grammar.specs.Phrases.{Form, form_of}
use Rattle.kat_grammar.specs.Phrases.Form.{constant, word, entry, negation, joined, chosen, branches, parens}
use Rattle.kat_grammar.specs.declared.marks.Extreme.{Extreme}
use Rattle.kat_grammar.specs.declared.marks.Extreme.TheVariants as extreme
use Rattle.kat_grammar.specs.declared.marks.Operator.{Operator}
use Rattle.kat_grammar.specs.declared.marks.Operator.TheVariants as operator
use Rattle.kat_grammar.specs.declared.phrases.Act.{Act}
use Rattle.kat_grammar.specs.declared.phrases.Act.TheVariants as act
use Rattle.kat_grammar.specs.declared.phrases.Assignment.{Assignment}
use Rattle.kat_grammar.specs.declared.phrases.Kept.{Kept}
use Rattle.kat_grammar.specs.declared.phrases.Kept.TheVariants.{One, Each}
use Rattle.kat_grammar.specs.declared.phrases.Operation.{Operation}
use Rattle.kat_grammar.specs.declared.phrases.Parameter.{Parameter}
use Rattle.kat_grammar.specs.declared.phrases.Query.{Query}
use Rattle.kat_grammar.specs.declared.phrases.RankElement.{RankElement}
use Rattle.kat_grammar.specs.declared.phrases.RankElement.TheVariants as rank
use Rattle.kat_grammar.specs.declared.phrases.RankPart.{RankPart}
use Rattle.kat_grammar.specs.declared.phrases.State.{State}
use Rattle.kat_grammar.specs.declared.phrases.Target.{Target}
use Rattle.kat_grammar.specs.declared.phrases.Target.TheVariants as target
use Rattle.kat_grammar.specs.declared.phrases.TypeText.{TypeText}
use Rattle.kat_grammar.specs.declared.phrases.Word.{Word}
use Rattle.kat_type.specs.Limits.{field_limit, item_limit, param_limit}
use Rattle.kat_type.specs.Lists.{Has, IsOnce}
use Rattle.kat_type.specs.Names.{is_among}
use Rattle.kat_type.specs.Types.{Assigned}
use Rattle.kat_type.specs.Within.{right_of}
use Rattle.kat_type.proofs.Lists.{either_last, has_behind, has_front, has_last, once_append}
use Rattle.kat_judging.specs.Faults.{act_faults, act_word, again_faults, asked_fault, asked_faults, assignment_faults, assignments_faults, behind_elements, chosen_family, colon_of, element_family, element_faults, element_param_faults, element_start, fault, fault_if, faults_of, field_codes, first_families, first_of, form_faults, is_other_family, is_sort, is_table, is_truths, item_names, key_faults, key_of, key_sort, kind_faults, match_faults, operation_faults, param_family, param_faults, part_family, part_faults, plain_target_faults, query_faults, right_fault, right_faults, scope_of, start_faults, start_of, state_faults, table_faults, target_faults, target_word, twice_among}
use Rattle.kat_judging.specs.KnownSorts.{accepts, family_of}
use Rattle.kat_judging.specs.Names.{Scope, field_named, named_param, param_named}
use Rattle.kat_judging.specs.Sorts.{constant_sort, found_of, kept_sort, operator_found}
use Rattle.kat_judging.specs.declared.faults.Fault.{Fault}
use Rattle.kat_judging.specs.declared.found.Family.{Family}
use Rattle.kat_judging.specs.declared.found.Family.TheVariants.{Numbers, Names, Truths}
use Rattle.kat_judging.specs.declared.found.Found.{Found}
use Rattle.kat_judging.specs.declared.found.Found.TheVariants.{Exactly}
use Rattle.kat_judging.specs.declared.names.Declared.{Declared}
use Rattle.kat_type_file.specs.Limits.{act_weight_faults, is_number, limits_of, operation_limits, past_params, weight_faults, weight_of, word_weight}
use Rattle.kat_type_file.specs.Rules.{AreDifferent, KeepsRules, OperationKeeps, QueryKeeps, act_fits, entry_sort, field_sort, fits, names_for, plain_sort, target_sort, value_sort}
use Rattle.kat_type_file.specs.Typing.{act_in, assigned_in, chosen_term, first_refusal, joined_term, term_in, word_term}
use Rattle.kat_type_file.proofs.Agreeing.{Agrees, asked_fits, fits_accepts, fits_asked, form_agrees, if_none, none_if, not_false, some_nil}
use Rattle.kat_type_file.proofs.Light.{each_right, right_broken, right_light}
use Rattle.kat_type_file.proofs.Nodes.{right_is}
use Rattle.kat_type_file.proofs.Refusals.{each_mapped, faults_none, few_params, never_none, none_each, none_past, none_rest, passes_none}

-- lists of faults that are empty
nil_front : (xs ys : List Fault) → xs ++ ys ≡ [] → xs ≡ []
nil_front [] ys e = refl
nil_front (x ∷ xs) ys e = absurd (some_nil x (xs ++ ys) e)

nil_rest : (xs ys : List Fault) → xs ++ ys ≡ [] → ys ≡ []
nil_rest [] ys e = e
nil_rest (x ∷ xs) ys e = absurd (some_nil x (xs ++ ys) e)

nil_both : (xs ys : List Fault) → xs ≡ [] → ys ≡ [] → xs ++ ys ≡ []
nil_both xs ys e f = ap (λ l. l ++ ys) e ∙ f

nil_each : {T : Type 0} (F : T → List Fault) (xs : List T) → flat_map F xs ≡ [] → All (λ x. F x ≡ []) xs
nil_each F [] e = All-nil (λ x. F x ≡ [])
nil_each F (x ∷ xs) e = All-cons (λ y. F y ≡ []) x xs (nil_front (F x) (flat_map F xs) e) (nil_each F xs (nil_rest (F x) (flat_map F xs) e))

each_nil : {T : Type 0} (F : T → List Fault) (xs : List T) → All (λ x. F x ≡ []) xs → flat_map F xs ≡ []
each_nil F [] h = refl
each_nil F (x ∷ xs) h = nil_both (F x) (flat_map F xs) (All-head (λ y. F y ≡ []) x xs h) (each_nil F xs (All-tail (λ y. F y ≡ []) x xs h))

first_nil : (xs : List Fault) → first_of xs ≡ None → xs ≡ []
first_nil [] e = refl
first_nil (x ∷ xs) e = absurd (never_none x (first_of xs) e)

-- names
abbrev codes : List Word → List ℕ
codes words = map (λ (w : Word). w.code) words

among_has : (xs : List ℕ) (code : ℕ) → Has xs code → is_among xs code ≡ true
among_has [] code is = absurd is
among_has (c ∷ xs) code (inl is) = or_left (c == code) (list_any (λ other. other == code) xs) (eq-eqb c code is)
among_has (c ∷ xs) code (inr is) = or_right (c == code) (list_any (λ other. other == code) xs) (among_has xs code is)

first_among : (c code : ℕ) (xs : List ℕ) (b : Bool) → (c == code) ≡ b → (b || is_among xs code) ≡ true → (is_among xs code ≡ true → Has xs code) → Has (c ∷ xs) code
first_among c code xs true same e rest = inl (eqb-true c code same)
first_among c code xs false same e rest = inr (rest e)

has_among : (xs : List ℕ) (code : ℕ) → is_among xs code ≡ true → Has xs code
has_among [] code e = absurd (false≢true e)
has_among (c ∷ xs) code e = first_among c code xs (c == code) refl e (has_among xs code)

fresh_is : (xs : List ℕ) (code : ℕ) → (Has xs code → ⊥) → is_among xs code ≡ false
fresh_is xs code new = false_from_ne_true (is_among xs code) (λ e. new (has_among xs code e))

not_among : (xs : List ℕ) (code : ℕ) → is_among xs code ≡ false → Has xs code → ⊥
not_among xs code e is = false≢true (sym e ∙ among_has xs code is)

-- the words are different, and none of them is among those before
record AreNew (before : List ℕ) (words : List Word) : Type 0 where
  once : IsOnce (codes words)
  apart : (code : ℕ) → Has before code → Has (codes words) code → ⊥

-- they are, if the first of them is no word before and none of the others
new_first : (before between : List ℕ) (w : Word) (words : List Word) → is_among before w.code ≡ false → AreNew between words
    → ((code : ℕ) → Has before code → Has between code) → Has between w.code → AreNew before (w ∷ words)
new_first before between w words new rest wider here = record {
  once = (rest.apart w.code here, rest.once);
  apart = λ code is. λ k. ⊎_elim (λ (same : w.code ≡ code). not_among before w.code new (subst (λ c. Has before c) (sym same) is)) (λ later. rest.apart code (wider code is) later) k;
}

twice_new : (before : List ℕ) (words : List Word) → twice_among before words ≡ [] → AreNew before words
twice_new before [] e = record { once = tt; apart = λ code is k. k }
twice_new before (w ∷ words) e =
    let here : List Fault = fault_if (is_among before w.code) 6 w.at in
    let rest : List Fault = twice_among (w.code ∷ before) words in
    new_first before (w.code ∷ before) w words (none_if (is_among before w.code) 6 w.at (nil_front here rest e)) (twice_new (w.code ∷ before) words (nil_rest here rest e))
    (λ code is. inr is) (inl refl)

new_twice : (before : List ℕ) (words : List Word) → AreNew before words → twice_among before words ≡ []
new_twice before [] h = refl
new_twice before (w ∷ words) h =
    nil_both (fault_if (is_among before w.code) 6 w.at) (twice_among (w.code ∷ before) words)
    (if_none (is_among before w.code) 6 w.at (fresh_is before w.code (λ is. h.apart w.code is (inl refl))))
    (new_twice (w.code ∷ before) words (record {
      once = h.once.1;
      apart = λ code is k. ⊎_elim (λ (same : w.code ≡ code). h.once.0 (subst (λ c. Has (codes words) c) (sym same) k)) (λ earlier. h.apart code earlier (inr k)) is;
    }))

codes_both : (xs ys : List Word) → codes (xs ++ ys) ≡ codes xs ++ codes ys
codes_both [] ys = refl
codes_both (x ∷ xs) ys = ap (λ (r : List ℕ). x.code ∷ r) (codes_both xs ys)

fields_coded : (states : List State) → field_codes states ≡ codes (map (λ (s : State). s.name) states)
fields_coded [] = refl
fields_coded (s ∷ states) = ap (λ (r : List ℕ). s.name.code ∷ r) (fields_coded states)

once_rest : (xs ys : List ℕ) → IsOnce (xs ++ ys) → IsOnce ys
once_rest [] ys h = h
once_rest (x ∷ xs) ys h = once_rest xs ys h.1

once_apart : (xs ys : List ℕ) → IsOnce (xs ++ ys) → (code : ℕ) → Has xs code → Has ys code → ⊥
once_apart [] ys h code is k = is
once_apart (x ∷ xs) ys h code (inl same) k = h.0 (has_behind xs ys x (subst (λ c. Has ys c) (sym same) k))
once_apart (x ∷ xs) ys h code (inr is) k = once_apart xs ys h.1 code is k

names_of : (states : List State) (params : List Parameter) → twice_among [] (map (λ (s : State). s.name) states) ≡ [] → param_faults states params ≡ [] → AreDifferent (names_for states params)
names_of states params e f =
    let fields : List Word = map (λ (s : State). s.name) states in
    let own : List Word = map (λ (p : Parameter). p.name) params in
    let new = twice_new (field_codes states) own f in
    subst IsOnce (sym (codes_both fields own))
    (once_append (codes fields) (codes own) (twice_new [] fields e).once new.once (λ code is k. new.apart code (subst (λ xs. Has xs code) (sym (fields_coded states)) is) k))

names_none : (states : List State) (params : List Parameter) → AreDifferent (names_for states params) → param_faults states params ≡ []
names_none states params h =
    let fields : List Word = map (λ (s : State). s.name) states in
    let own : List Word = map (λ (p : Parameter). p.name) params in
    let once : IsOnce (codes fields ++ codes own) = subst IsOnce (codes_both fields own) h in
    new_twice (field_codes states) own (record {
      once = once_rest (codes fields) (codes own) once;
      apart = λ code is k. once_apart (codes fields) (codes own) once code (subst (λ xs. Has xs code) (fields_coded states) is) k;
    })

-- targets and what is assigned to them
record IsFreeTarget (given others own : List Fault) : Type 0 where
  target : given ≡ []
  right : others ≡ []
  parts : own ≡ []

kept_of : (k : Kept) (at right_at : ℕ) {xs : List Fault} {f : Found} {m : Option Sort} → Agrees xs f m → fault_if (is_table k) 7 at ≡ [] → asked_fault (kept_sort k) f right_at ≡ [] → xs ≡ []
    → fits (plain_sort k) m ≡ true
kept_of (One sort_at s) at right_at a h k e = asked_fits s right_at a k e
kept_of (Each table key_at key arrow sort_at s) at right_at a h k e = absurd (some_nil _ _ h)

kept_free : (k : Kept) (at right_at : ℕ) {xs : List Fault} {f : Found} {m : Option Sort} → Agrees xs f m → fits (plain_sort k) m ≡ true
    → IsFreeTarget (fault_if (is_table k) 7 at) (asked_fault (kept_sort k) f right_at) xs
kept_free (One sort_at s) at right_at a e = let free = fits_asked s right_at a e in record { target = refl; right = free.sorts; parts = free.own }
kept_free (Each table key_at key arrow sort_at s) at right_at a e = absurd (false≢true e)

field_of : (d : Option (Declared State)) (at right_at : ℕ) {xs : List Fault} {f : Found} {m : Option Sort} → Agrees xs f m → plain_target_faults d at ≡ [] → right_fault d f right_at ≡ [] → xs ≡ []
    → fits (field_sort d) m ≡ true
field_of None at right_at a h k e = absurd (some_nil _ _ h)
field_of (Some d) at right_at a h k e = kept_of d.it.kept at right_at a h k e

field_free : (d : Option (Declared State)) (at right_at : ℕ) {xs : List Fault} {f : Found} {m : Option Sort} → Agrees xs f m → fits (field_sort d) m ≡ true
    → IsFreeTarget (plain_target_faults d at) (right_fault d f right_at) xs
field_free None at right_at a e = absurd (false≢true e)
field_free (Some d) at right_at a e = kept_free d.it.kept at right_at a e

same_key_of : (same : Bool) (s : Sort) (at right_at : ℕ) {xs : List Fault} {f : Found} {m : Option Sort} → Agrees xs f m → fault_if (not same) 7 at ≡ [] → asked_fault s f right_at ≡ [] → xs ≡ []
    → fits (if same then Some s else None) m ≡ true
same_key_of true s at right_at a h k e = asked_fits s right_at a k e
same_key_of false s at right_at a h k e = absurd (some_nil _ _ h)

same_key_free : (same : Bool) (s : Sort) (at right_at : ℕ) {xs : List Fault} {f : Found} {m : Option Sort} → Agrees xs f m → fits (if same then Some s else None) m ≡ true
    → IsFreeTarget (fault_if (not same) 7 at) (asked_fault s f right_at) xs
same_key_free true s at right_at a e = let free = fits_asked s right_at a e in record { target = refl; right = free.sorts; parts = free.own }
same_key_free false s at right_at a e = absurd (false≢true e)

key_is : (k : Kept) (p : Declared Parameter) (at key_at right_at : ℕ) {xs : List Fault} {f : Found} {m : Option Sort} → Agrees xs f m
    → fault_if (not (is_table k)) 7 at ++ key_faults (key_of k) (Some p) key_at ≡ [] → asked_fault (kept_sort k) f right_at ≡ [] → xs ≡ [] → fits (value_sort k p.it.sort) m ≡ true
key_is (One sort_at s) p at key_at right_at a h k e = absurd (some_nil _ _ h)
key_is (Each table sort_key_at key arrow sort_at s) p at key_at right_at a h k e = same_key_of (is_sort key p.it.sort) s key_at right_at a h k e

key_free : (k : Kept) (p : Declared Parameter) (at key_at right_at : ℕ) {xs : List Fault} {f : Found} {m : Option Sort} → Agrees xs f m → fits (value_sort k p.it.sort) m ≡ true
    → IsFreeTarget (fault_if (not (is_table k)) 7 at ++ key_faults (key_of k) (Some p) key_at) (asked_fault (kept_sort k) f right_at) xs
key_free (One sort_at s) p at key_at right_at a e = absurd (false≢true e)
key_free (Each table sort_key_at key arrow sort_at s) p at key_at right_at a e = same_key_free (is_sort key p.it.sort) s key_at right_at a e

entry_of : (d : Option (Declared State)) (p : Option (Declared Parameter)) (at key_at right_at : ℕ) {xs : List Fault} {f : Found} {m : Option Sort} → Agrees xs f m
    → table_faults d at ++ key_faults (key_sort d) p key_at ≡ [] → right_fault d f right_at ≡ [] → xs ≡ [] → fits (entry_sort d p) m ≡ true
entry_of None p at key_at right_at a h k e = absurd (some_nil _ _ h)
entry_of (Some d) None at key_at right_at a h k e = absurd (some_nil _ _ (nil_rest (table_faults (Some d) at) (fault 5 key_at) h))
entry_of (Some d) (Some p) at key_at right_at a h k e = key_is d.it.kept p at key_at right_at a h k e

entry_free : (d : Option (Declared State)) (p : Option (Declared Parameter)) (at key_at right_at : ℕ) {xs : List Fault} {f : Found} {m : Option Sort} → Agrees xs f m
    → fits (entry_sort d p) m ≡ true → IsFreeTarget (table_faults d at ++ key_faults (key_sort d) p key_at) (right_fault d f right_at) xs
entry_free None p at key_at right_at a e = absurd (false≢true e)
entry_free (Some d) None at key_at right_at a e = absurd (false≢true e)
entry_free (Some d) (Some p) at key_at right_at a e = key_free d.it.kept p at key_at right_at a e

target_of : (scope : Scope) (to : Target) (right_at : ℕ) {xs : List Fault} {f : Found} {m : Option Sort} → Agrees xs f m → target_faults scope to ≡ []
    → right_fault (field_named scope (target_word to).code) f right_at ≡ [] → xs ≡ [] → fits (target_sort scope to) m ≡ true
target_of scope (target.Field w) right_at a h k e = field_of (field_named scope w.code) w.at right_at a h k e
target_of scope (target.Entry table open_at key close_at) right_at a h k e = entry_of (field_named scope table.code) (param_named scope key.code) table.at key.at right_at a h k e

target_free : (scope : Scope) (to : Target) (right_at : ℕ) {xs : List Fault} {f : Found} {m : Option Sort} → Agrees xs f m → fits (target_sort scope to) m ≡ true
    → IsFreeTarget (target_faults scope to) (right_fault (field_named scope (target_word to).code) f right_at) xs
target_free scope (target.Field w) right_at a e = field_free (field_named scope w.code) w.at right_at a e
target_free scope (target.Entry table open_at key close_at) right_at a e = entry_free (field_named scope table.code) (param_named scope key.code) table.at key.at right_at a e

-- what is assigned is a field
abbrev IsThere : Option (Declared State) → Type 0
IsThere None = ⊥
IsThere (Some d) = Unit {0}

plain_there : (d : Option (Declared State)) (at : ℕ) → plain_target_faults d at ≡ [] → IsThere d
plain_there None at e = absurd (some_nil _ _ e)
plain_there (Some d) at e = tt

table_there : (d : Option (Declared State)) (at : ℕ) → table_faults d at ≡ [] → IsThere d
table_there None at e = absurd (some_nil _ _ e)
table_there (Some d) at e = tt

target_there : (scope : Scope) (to : Target) → target_faults scope to ≡ [] → IsThere (field_named scope (target_word to).code)
target_there scope (target.Field w) e = plain_there (field_named scope w.code) w.at e
target_there scope (target.Entry table open_at key close_at) e =
    let tables : List Fault = table_faults (field_named scope table.code) table.at in
    let keys : List Fault = key_faults (key_sort (field_named scope table.code)) (param_named scope key.code) key.at in
    table_there (field_named scope table.code) table.at (nil_front tables keys e)

again_is : (before : List ℕ) (d : Option (Declared State)) (w : Word) → IsThere d → again_faults before d w ≡ fault_if (is_among before w.code) 6 w.at
again_is before None w there = absurd there
again_is before (Some d) w there = refl

fresh_of : (before : List ℕ) (d : Option (Declared State)) (w : Word) → IsThere d → again_faults before d w ≡ [] → is_among before w.code ≡ false
fresh_of before d w there e = none_if (is_among before w.code) 6 w.at (sym (again_is before d w there) ∙ e)

fresh_none : (before : List ℕ) (d : Option (Declared State)) (w : Word) → IsThere d → is_among before w.code ≡ false → again_faults before d w ≡ []
fresh_none before d w there new = again_is before d w there ∙ if_none (is_among before w.code) 6 w.at new

abbrev is_a_table : Option (Declared State) → Bool
is_a_table d = unwrap_or (option_map (λ (x : Declared State). is_table x.it.kept) d) false

table_of : (d : Option (Declared State)) (at : ℕ) → table_faults d at ≡ [] → is_a_table d ≡ true
table_of None at e = absurd (some_nil _ _ e)
table_of (Some d) at e = not_false (is_table d.it.kept) (none_if (not (is_table d.it.kept)) 7 at e)

table_none : (d : Option (Declared State)) (at : ℕ) → is_a_table d ≡ true → table_faults d at ≡ []
table_none None at e = absurd (false≢true e)
table_none (Some d) at e = if_none (not (is_table d.it.kept)) 7 at (ap not e)

-- an assignment fits and is of a field that isn't among those before
record IsNewAct (before : List ℕ) (scope : Scope) (a : Act) : Type 0 where
  fit : act_fits scope a ≡ true
  new : is_among before (act_word a).code ≡ false

act_of : (before : List ℕ) (scope : Scope) (a : Act) → act_faults before scope a ≡ [] → IsNewAct before scope a
act_of before scope (act.Set to assign right) e =
    let field : Option (Declared State) = field_named scope (target_word to).code in
    let targets : List Fault = target_faults scope to in
    let again : List Fault = again_faults before field (target_word to) in
    let rights : List Fault = right_faults field scope (form_of right) in
    let own : List Fault = form_faults scope (form_of right) in
    let three = nil_front (targets ++ again ++ rights) own e in
    let two = nil_front (targets ++ again) rights three in
    let none = nil_front targets again two in
    record {
      fit = target_of scope to (start_of (form_of right)) (form_agrees scope (form_of right)) none (nil_rest (targets ++ again) rights three) (nil_rest (targets ++ again ++ rights) own e);
      new = fresh_of before field (target_word to) (target_there scope to none) (nil_rest targets again two);
    }
act_of before scope (act.Clear at table) e =
    let field : Option (Declared State) = field_named scope table.code in
    let none = nil_front (table_faults field table.at) (again_faults before field table) e in
    record {
      fit = table_of field table.at none;
      new = fresh_of before field table (table_there field table.at none) (nil_rest (table_faults field table.at) (again_faults before field table) e);
    }

act_none : (before : List ℕ) (scope : Scope) (a : Act) → IsNewAct before scope a → act_faults before scope a ≡ []
act_none before scope (act.Set to assign right) h =
    let field : Option (Declared State) = field_named scope (target_word to).code in
    let targets : List Fault = target_faults scope to in
    let again : List Fault = again_faults before field (target_word to) in
    let rights : List Fault = right_faults field scope (form_of right) in
    let own : List Fault = form_faults scope (form_of right) in
    let free = target_free scope to (start_of (form_of right)) (form_agrees scope (form_of right)) h.fit in
    nil_both (targets ++ again ++ rights) own
    (nil_both (targets ++ again) rights (nil_both targets again free.target (fresh_none before field (target_word to) (target_there scope to free.target) h.new)) free.right) free.parts
act_none before scope (act.Clear at table) h =
    let field : Option (Declared State) = field_named scope table.code in
    let none = table_none field table.at h.fit in
    nil_both (table_faults field table.at) (again_faults before field table) none (fresh_none before field table (table_there field table.at none) h.new)

abbrev acts : List Assignment → List Word
acts xs = map (λ (a : Assignment). act_word a.act) xs

abbrev Fit : Scope → Assignment → Type 0
Fit scope a = act_fits scope a.act ≡ true

record AreNewActs (before : List ℕ) (scope : Scope) (xs : List Assignment) : Type 0 where
  new : AreNew before (acts xs)
  fit : All (Fit scope) xs

assigns_of : (before : List ℕ) (scope : Scope) (xs : List Assignment) → assignments_faults before scope xs ≡ [] → AreNewActs before scope xs
assigns_of before scope [] e = record { new = record { once = tt; apart = λ code is k. k }; fit = All-nil (Fit scope) }
assigns_of before scope (a ∷ xs) e =
    let code : ℕ = (act_word a.act).code in
    let rest : List Fault = assignments_faults (before ++ code ∷ []) scope xs in
    let first = act_of before scope a.act (nil_front (assignment_faults before scope a) rest e) in
    let others = assigns_of (before ++ code ∷ []) scope xs (nil_rest (assignment_faults before scope a) rest e) in
    record {
      new = new_first before (before ++ code ∷ []) (act_word a.act) (acts xs) first.new others.new (λ c is. has_front before (code ∷ []) c is) (has_last before code);
      fit = All-cons (Fit scope) a xs first.fit others.fit;
    }

assigns_none : (before : List ℕ) (scope : Scope) (xs : List Assignment) → AreNewActs before scope xs → assignments_faults before scope xs ≡ []
assigns_none before scope [] h = refl
assigns_none before scope (a ∷ xs) h =
    let code : ℕ = (act_word a.act).code in
    nil_both (assignment_faults before scope a) (assignments_faults (before ++ code ∷ []) scope xs)
    (act_none before scope a.act (record { fit = All-head (Fit scope) a xs h.fit; new = fresh_is before code (λ is. h.new.apart code is (inl refl)) }))
    (assigns_none (before ++ code ∷ []) scope xs (record {
      new = record {
        once = h.new.once.1;
        apart = λ c is k. ⊎_elim (λ earlier. h.new.apart c earlier (inr k)) (λ (same : code ≡ c). h.new.once.0 (subst (λ x. Has (codes (acts xs)) x) (sym same) k)) (either_last before code c is);
      };
      fit = All-tail (Fit scope) a xs h.fit;
    }))

-- ranks
abbrev IsRanked : Option Family → Type 0
IsRanked None = ⊥
IsRanked (Some Numbers) = Unit {0}
IsRanked (Some Names) = Unit {0}
IsRanked (Some Truths) = ⊥

sort_ranked : (s : Sort) → is_truths (Some (family_of s)) ≡ false → IsRanked (chosen_family (family_of s))
sort_ranked OfBool e = absurd (false≢true (sym e))
sort_ranked OfInt e = tt
sort_ranked OfNat e = tt
sort_ranked OfName e = tt

param_ranked : (p : Option (Declared Parameter)) (at : ℕ) → element_param_faults p at ≡ [] → IsRanked (param_family p)
param_ranked None at e = absurd (some_nil _ _ e)
param_ranked (Some p) at e = sort_ranked p.it.sort (none_if (is_truths (Some (family_of p.it.sort))) 7 at e)

element_ranked : (params : List Parameter) (element : RankElement) → element_faults params element ≡ [] → IsRanked (element_family params element)
element_ranked params (rank.Digit at n) e = tt
element_ranked params (rank.Time at) e = tt
element_ranked params (rank.Replica at) e = tt
element_ranked params (rank.Parameter w) e = param_ranked (named_param params w.code) w.at e

none_known : (family : Family) → None ≡ Some family → ⊥
none_known family e = cc e

sort_none : (s : Sort) (family : Family) (at : ℕ) → chosen_family (family_of s) ≡ Some family → fault_if (is_truths (Some (family_of s))) 7 at ≡ []
sort_none OfBool family at e = absurd (none_known family e)
sort_none OfInt family at e = refl
sort_none OfNat family at e = refl
sort_none OfName family at e = refl

param_none : (p : Option (Declared Parameter)) (family : Family) (at : ℕ) → param_family p ≡ Some family → element_param_faults p at ≡ []
param_none None family at e = absurd (none_known family e)
param_none (Some p) family at e = sort_none p.it.sort family at e

element_none : (params : List Parameter) (element : RankElement) (family : Family) → element_family params element ≡ Some family → element_faults params element ≡ []
element_none params (rank.Digit at n) family e = refl
element_none params (rank.Time at) family e = refl
element_none params (rank.Replica at) family e = refl
element_none params (rank.Parameter w) family e = param_none (named_param params w.code) family w.at e

abbrev known : List Family → List (Option Family)
known families = map (λ (family : Family). Some family) families

abbrev NoPart : List Parameter → RankPart → Type 0
NoPart params part = part_faults params part ≡ []

long_nil : {X : Type 0} (x : X) (xs : List X) → x ∷ xs ≡ [] → ⊥
long_nil x xs e = cc e

first_same : {X : Type 0} (x y : X) (xs ys : List X) → x ∷ xs ≡ y ∷ ys → x ≡ y
first_same x y xs ys e = cc e

rest_same : {X : Type 0} (x y : X) (xs ys : List X) → x ∷ xs ≡ y ∷ ys → xs ≡ ys
rest_same x y xs ys e = cc e

parts_none : (params : List Parameter) (parts : List RankPart) (families : List Family) → map (part_family params) parts ≡ known families → All (NoPart params) parts
parts_none params [] families e = All-nil (NoPart params)
parts_none params (part ∷ parts) [] e = absurd (long_nil _ _ e)
parts_none params (part ∷ parts) (family ∷ families) e =
    All-cons (NoPart params) part parts (element_none params part.element family (first_same _ _ _ _ e)) (parts_none params parts families (rest_same _ _ _ _ e))

one_family : (a b : Option Family) → IsRanked a → IsRanked b → is_other_family a b ≡ false → b ≡ a
one_family None b h k e = absurd h
one_family (Some Truths) b h k e = absurd h
one_family (Some Numbers) None h k e = absurd k
one_family (Some Numbers) (Some Truths) h k e = absurd k
one_family (Some Numbers) (Some Numbers) h k e = refl
one_family (Some Numbers) (Some Names) h k e = absurd (false≢true (sym e))
one_family (Some Names) None h k e = absurd k
one_family (Some Names) (Some Truths) h k e = absurd k
one_family (Some Names) (Some Numbers) h k e = absurd (false≢true (sym e))
one_family (Some Names) (Some Names) h k e = refl

none_long : (n : ℕ) → 0 ≡ suc n → ⊥
none_long n h = omega (arith, h)

matched : (families : List (Option Family)) (params : List Parameter) (parts : List RankPart) → All IsRanked families → All (NoPart params) parts
    → kind_faults families params parts ≡ [] → length families ≡ length parts → map (part_family params) parts ≡ families
matched [] params [] ranked none e long = refl
matched [] params (part ∷ parts) ranked none e long = absurd (none_long (length parts) long)
matched (f ∷ families) params [] ranked none e long = absurd (none_long (length families) (sym long))
matched (f ∷ families) params (part ∷ parts) ranked none e long =
    let here : List Fault = fault_if (is_other_family f (part_family params part)) 8 (element_start part.element) in
    let rest : List Fault = kind_faults families params parts in
    let same = one_family f (part_family params part) (All-head IsRanked f families ranked) (element_ranked params part.element (All-head (NoPart params) part parts none))
    (none_if (is_other_family f (part_family params part)) 8 (element_start part.element) (nil_front here rest e)) in
    ap (λ k. k ∷ map (part_family params) parts) same
    ∙ ap (λ ks. f ∷ ks) (matched families params parts (All-tail IsRanked f families ranked) (All-tail (NoPart params) part parts none) (nil_rest here rest e) (omega (arith, long)))

same_length : (m n : ℕ) → not (m == n) ≡ false → m ≡ n
same_length m n h = grind arith

one_length : (m n : ℕ) → m ≡ n → not (m == n) ≡ false
one_length m n h = grind arith

sort_itself : (s : Sort) → is_other_family (chosen_family (family_of s)) (chosen_family (family_of s)) ≡ false
sort_itself OfBool = refl
sort_itself OfInt = refl
sort_itself OfNat = refl
sort_itself OfName = refl

param_itself : (p : Option (Declared Parameter)) → is_other_family (param_family p) (param_family p) ≡ false
param_itself None = refl
param_itself (Some p) = sort_itself p.it.sort

element_itself : (params : List Parameter) (element : RankElement) → is_other_family (element_family params element) (element_family params element) ≡ false
element_itself params (rank.Digit at n) = refl
element_itself params (rank.Time at) = refl
element_itself params (rank.Replica at) = refl
element_itself params (rank.Parameter w) = param_itself (named_param params w.code)

kinds_itself : (params : List Parameter) (parts : List RankPart) → kind_faults (map (part_family params) parts) params parts ≡ []
kinds_itself params [] = refl
kinds_itself params (part ∷ parts) =
    nil_both (fault_if (is_other_family (part_family params part) (part_family params part)) 8 (element_start part.element)) (kind_faults (map (part_family params) parts) params parts)
    (if_none (is_other_family (part_family params part) (part_family params part)) 8 (element_start part.element) (element_itself params part.element)) (kinds_itself params parts)

match_none : (families : List (Option Family)) (params : List Parameter) (parts : List RankPart) (colon : ℕ) → map (part_family params) parts ≡ families → match_faults families params parts colon ≡ []
match_none families params parts colon e =
    let own : List (Option Family) = map (part_family params) parts in
    let counts = if_none (not (length own == length parts)) 8 (behind_elements (min (length own) (length parts)) parts colon) (one_length (length own) (length parts) (length-map parts (part_family params))) in
    subst (λ ks. match_faults ks params parts colon ≡ []) e
    (nil_both (kind_faults own params parts) (fault_if (not (length own == length parts)) 8 (behind_elements (min (length own) (length parts)) parts colon)) (kinds_itself params parts) counts)

-- the kinds of the first operation's rank are known
record AreKnown (ks : List (Option Family)) : Type 0 where
  families : List Family
  is : ks ≡ known families

first_known : (k : Option Family) (ks : List (Option Family)) → IsRanked k → AreKnown ks → AreKnown (k ∷ ks)
first_known None ks h rest = absurd h
first_known (Some family) ks h rest = record { families = family ∷ rest.families; is = ap (λ (xs : List (Option Family)). Some family ∷ xs) rest.is }

all_known : (ks : List (Option Family)) → All IsRanked ks → AreKnown ks
all_known [] h = record { families = []; is = refl }
all_known (k ∷ ks) h = first_known k ks (All-head IsRanked k ks h) (all_known ks (All-tail IsRanked k ks h))

parts_ranked : (params : List Parameter) (parts : List RankPart) → All (NoPart params) parts → All IsRanked (map (part_family params) parts)
parts_ranked params parts none = All-map IsRanked (part_family params) parts (λ k d lt. element_ranked params (slice_index_or parts k d).element (none k d lt))

-- how often a right side adds what it reads
choose_low : (b : Bool) (m n : ℕ) → m ≤ n → (if b then m else 0) ≤ n
choose_low true m n h = h
choose_low false m n h = omega arith

word_low : (p : Option (Declared Parameter)) (f : Option (Declared State)) (b : Bool) → (if b then word_weight p else 0) ≤ term_weight (word_term p f)
word_low (Some p) f b = choose_low b 0 0 (omega arith)
word_low None f b = choose_low b 1 1 (omega arith)

none_low : (n : ℕ) → 0 ≤ n
none_low n = omega arith

plus_low : (t u v w : ℕ) → v ≤ t → w ≤ u → v + w ≤ t + u
plus_low t u v w h k = omega (arith, h, k)

max_low : (t u v w : ℕ) → v ≤ t → w ≤ u → max v w ≤ max t u
max_low t u v w h k = grind arith

joined_low : (op : Operator) (f g : Found) (t u : Term) (v w : ℕ) → v ≤ term_weight t → w ≤ term_weight u
    → (if is_number (operator_found op f g) then v + w else 0) ≤ term_weight (joined_term op t u)
joined_low operator.Or f g t u v w h k = none_low _
joined_low operator.And f g t u v w h k = none_low _
joined_low operator.Less f g t u v w h k = none_low _
joined_low operator.AtMost f g t u v w h k = none_low _
joined_low operator.Same f g t u v w h k = none_low _
joined_low operator.Plus f g t u v w h k = choose_low (is_number (operator_found operator.Plus f g)) (v + w) (term_weight t + term_weight u) (plus_low (term_weight t) (term_weight u) v w h k)
joined_low operator.Minus f g t u v w h k = plus_low (term_weight t) (term_weight u) v w h k

chosen_low : (e : Extreme) (b : Bool) (t u : Term) (v w : ℕ) → v ≤ term_weight t → w ≤ term_weight u → (if b then max v w else 0) ≤ term_weight (chosen_term e t u)
chosen_low extreme.Greatest b t u v w h k = choose_low b (max v w) (max (term_weight t) (term_weight u)) (max_low (term_weight t) (term_weight u) v w h k)
chosen_low extreme.Least b t u v w h k = choose_low b (max v w) (max (term_weight t) (term_weight u)) (max_low (term_weight t) (term_weight u) v w h k)

form_low : (scope : Scope) (a : Form) → weight_of scope a ≤ term_weight (term_in scope a)
form_low scope (constant c) = none_low _
form_low scope (word w) = word_low (param_named scope w.code) (field_named scope w.code) (is_number (found_of scope (word w)))
form_low scope (entry table open_at key close_at) = choose_low (is_number (found_of scope (entry table open_at key close_at))) 1 1 (omega arith)
form_low scope (negation at a) = none_low _
form_low scope (joined op at a b) =
    joined_low op (found_of scope a) (found_of scope b) (term_in scope a) (term_in scope b) (weight_of scope a) (weight_of scope b) (form_low scope a) (form_low scope b)
form_low scope (chosen e at open_at a comma b close_at) =
    chosen_low e (is_number (found_of scope (chosen e at open_at a comma b close_at))) (term_in scope a) (term_in scope b) (weight_of scope a) (weight_of scope b) (form_low scope a) (form_low scope b)
form_low scope (branches at c then_at a else_at b) =
    choose_low (is_number (found_of scope (branches at c then_at a else_at b))) (max (weight_of scope a) (weight_of scope b)) (max (term_weight (term_in scope a)) (term_weight (term_in scope b)))
    (max_low (term_weight (term_in scope a)) (term_weight (term_in scope b)) (weight_of scope a) (weight_of scope b) (form_low scope a) (form_low scope b))
form_low scope (parens open_at a close_at) = form_low scope a

few_reads : (n : ℕ) → n ≤ 1 → nat_lt 1 n ≡ false
few_reads n h = grind arith

light_none : (scope : Scope) (a : Act) → term_weight (right_of (act_in scope a)) ≤ 1 → act_weight_faults scope a ≡ []
light_none scope (act.Set to assign right) h =
    let light : term_weight (term_in scope (form_of right)) ≤ 1 = subst (λ t. term_weight t ≤ 1) (right_is scope to (term_in scope (form_of right))) h in
    if_none (nat_lt 1 (weight_of scope (form_of right))) 9 (start_of (form_of right)) (few_reads (weight_of scope (form_of right)) (omega (arith, light, form_low scope (form_of right))))
light_none scope (act.Clear at table) h = refl

light_of : (scope : Scope) (a : Act) → first_of (right_broken scope a) ≡ None → first_of (act_weight_faults scope a) ≡ None → term_weight (right_of (act_in scope a)) ≤ 1
light_of scope (act.Set to assign right) h k = subst (λ t. term_weight t ≤ 1) (sym (right_is scope to (term_in scope (form_of right)))) (right_light scope (form_of right) h k)
light_of scope (act.Clear at table) h k = omega arith

abbrev IsLight : Assigned → Type 0
IsLight a = term_weight (right_of a) ≤ 1

past_none : {T : Type 0} (place : T → ℕ) (n : ℕ) (xs : List T) → length xs ≤ n → flat_map (λ x. fault 9 (place x)) (drop n xs) ≡ []
past_none place zero [] h = refl
past_none place (suc n) [] h = refl
past_none place zero (x ∷ xs) h = absurd (omega (arith, h))
past_none place (suc n) (x ∷ xs) h = past_none place n xs (omega (arith, h))

-- starts
start_of_sort : (s : State) → start_faults s ≡ [] → fits (Some (kept_sort s.kept)) (Some (constant_sort s.start)) ≡ true
start_of_sort s e =
    let b : Bool = accepts (kept_sort s.kept) (Exactly (constant_sort s.start)) in
    fits_accepts (kept_sort s.kept) (constant_sort s.start) ∙ not_false b (none_if (not b) 7 _ e)

start_none : (s : State) → fits (Some (kept_sort s.kept)) (Some (constant_sort s.start)) ≡ true → start_faults s ≡ []
start_none s e = if_none (not (accepts (kept_sort s.kept) (Exactly (constant_sort s.start)))) 7 _ (ap not (sym (fits_accepts (kept_sort s.kept) (constant_sort s.start)) ∙ e))

-- operations and queries
abbrev NoOperation : List State → List (Option Family) → Operation → Type 0
NoOperation states ks o = operation_faults states ks o ≡ []

record IsFreeOperation (states : List State) (ks : List (Option Family)) (o : Operation) : Type 0 where
  params : param_faults states o.params ≡ []
  parts : All (NoPart o.params) o.rank
  kinds : kind_faults ks o.params o.rank ≡ []
  long : length ks ≡ length o.rank
  assigned : assignments_faults [] (scope_of states o.params) o.assignments ≡ []

free_operation : (states : List State) (ks : List (Option Family)) (o : Operation) → operation_faults states ks o ≡ [] → IsFreeOperation states ks o
free_operation states ks o e =
    let named : List Fault = param_faults states o.params in
    let parts : List Fault = flat_map (part_faults o.params) o.rank in
    let matches : List Fault = match_faults ks o.params o.rank (colon_of o.assignments) in
    let assigned : List Fault = assignments_faults [] (scope_of states o.params) o.assignments in
    let three = nil_front (named ++ parts ++ matches) assigned e in
    let two = nil_front (named ++ parts) matches three in
    let match = nil_rest (named ++ parts) matches three in
    let far : ℕ = behind_elements (min (length ks) (length o.rank)) o.rank (colon_of o.assignments) in
    let counts : List Fault = fault_if (not (length ks == length o.rank)) 8 far in
    record {
      params = nil_front named parts two;
      parts = nil_each (part_faults o.params) o.rank (nil_rest named parts two);
      kinds = nil_front (kind_faults ks o.params o.rank) counts match;
      long = same_length (length ks) (length o.rank) (none_if (not (length ks == length o.rank)) 8 far (nil_rest (kind_faults ks o.params o.rank) counts match));
      assigned = nil_rest (named ++ parts ++ matches) assigned e;
    }

first_ranked : (states : List State) (ops : List Operation) → All (IsFreeOperation states (first_families ops)) ops → All IsRanked (first_families ops)
first_ranked states [] h = All-nil IsRanked
first_ranked states (o ∷ ops) h = parts_ranked o.params o.rank (All-head (IsFreeOperation states (first_families (o ∷ ops))) o ops h).parts

operation_keeps : (states : List State) (ks : List (Option Family)) (families : List Family) (o : Operation) → All IsRanked ks → ks ≡ known families
    → twice_among [] (map (λ (s : State). s.name) states) ≡ [] → IsFreeOperation states ks o → first_of (operation_limits states o) ≡ None → OperationKeeps states families o
operation_keeps states ks families o ranked is fields free limits =
    let scope : Scope = scope_of states o.params in
    let assigned = assigns_of [] scope o.assignments free.assigned in
    let none : first_of (assignments_faults [] scope o.assignments) ≡ None = ap first_of free.assigned in
    let rights = each_right [] scope o.assignments none in
    let weights = none_each (weight_faults scope) o.assignments (none_rest (past_params o.params) (flat_map (weight_faults scope) o.assignments) limits) in
    record {
      few = few_params states o limits;
      names = names_of states o.params fields free.params;
      ranks = matched ks o.params o.rank ranked free.parts free.kinds free.long ∙ is;
      once = assigned.new.once;
      fit = assigned.fit;
      light = All-map IsLight (assigned_in scope) o.assignments (λ k d lt. light_of scope (slice_index_or o.assignments k d).act (rights k d lt) (weights k d lt));
    }

query_keeps : (states : List State) (q : Query) → twice_among [] (map (λ (s : State). s.name) states) ≡ [] → query_faults states q ≡ [] → first_of (past_params q.params) ≡ None → QueryKeeps states q
query_keeps states q fields e few =
    let scope : Scope = scope_of states q.params in
    let named : List Fault = param_faults states q.params in
    let sorts : List Fault = asked_faults q.sort scope (form_of q.right) in
    let own : List Fault = form_faults scope (form_of q.right) in
    let two = nil_front (named ++ sorts) own e in
    record {
      few = none_past (λ p. p.name.at) param_limit q.params few;
      names = names_of states q.params fields (nil_front named sorts two);
      fit = asked_fits q.sort (start_of (form_of q.right)) (form_agrees scope (form_of q.right)) (nil_rest named sorts two) (nil_rest (named ++ sorts) own e);
    }

pub keeps_rules : (t : TypeText) → first_refusal t ≡ None → KeepsRules t
keeps_rules t h =
    let e : faults_of t ≡ [] = first_nil (faults_of t) (faults_none (first_of (faults_of t)) (first_of (limits_of t)) h) in
    let limits = passes_none t h in
    let ks : List (Option Family) = first_families t.operations in
    let states : List Fault = state_faults t.states in
    let names : List Fault = twice_among [] (item_names t) in
    let operations : List Fault = flat_map (operation_faults t.states ks) t.operations in
    let queries : List Fault = flat_map (query_faults t.states) t.queries in
    let three = nil_front (states ++ names ++ operations) queries e in
    let two = nil_front (states ++ names) operations three in
    let fields : List Fault = twice_among [] (map (λ (s : State). s.name) t.states) in
    let state = nil_front states names two in
    let once : fields ≡ [] = nil_front fields (flat_map start_faults t.states) state in
    let starts = nil_each start_faults t.states (nil_rest fields (flat_map start_faults t.states) state) in
    let each = nil_each (operation_faults t.states ks) t.operations (nil_rest (states ++ names) operations three) in
    let asked = nil_each (query_faults t.states) t.queries (nil_rest (states ++ names ++ operations) queries e) in
    let free : All (IsFreeOperation t.states ks) t.operations = λ k d lt. free_operation t.states ks (slice_index_or t.operations k d) (each k d lt) in
    let ranked = first_ranked t.states t.operations free in
    let kinds = all_known ks ranked in
    record {
      few_fields = limits.fields;
      few_operations = limits.operations;
      few_queries = limits.queries;
      fields = (twice_new [] (map (λ (s : State). s.name) t.states) once).once;
      items = (twice_new [] (item_names t) (nil_rest states names two)).once;
      starts = λ k d lt. start_of_sort (slice_index_or t.states k d) (starts k d lt);
      families = kinds.families;
      operations = λ k d lt. operation_keeps t.states ks kinds.families (slice_index_or t.operations k d) ranked kinds.is once (free k d lt) (limits.each k d lt);
      queries = λ k d lt. query_keeps t.states (slice_index_or t.queries k d) once (asked k d lt) (limits.params k d lt);
    }

-- and back
alone : (words : List Word) → AreDifferent words → AreNew [] words
alone words h = record { once = h; apart = λ code is k. is }

operation_none : (states : List State) (families : List Family) (ks : List (Option Family)) (o : Operation) → known families ≡ ks → OperationKeeps states families o → operation_faults states ks o ≡ []
operation_none states families ks o is h =
    let named : List Fault = param_faults states o.params in
    let parts : List Fault = flat_map (part_faults o.params) o.rank in
    let matches : List Fault = match_faults ks o.params o.rank (colon_of o.assignments) in
    let assigned : List Fault = assignments_faults [] (scope_of states o.params) o.assignments in
    nil_both (named ++ parts ++ matches) assigned
    (nil_both (named ++ parts) matches
    (nil_both named parts (names_none states o.params h.names) (each_nil (part_faults o.params) o.rank (parts_none o.params o.rank families h.ranks)))
    (match_none ks o.params o.rank (colon_of o.assignments) (h.ranks ∙ is)))
    (assigns_none [] (scope_of states o.params) o.assignments (record { new = alone (acts o.assignments) h.once; fit = h.fit }))

operations_none : (states : List State) (families : List Family) (ops : List Operation) → All (OperationKeeps states families) ops → flat_map (operation_faults states (first_families ops)) ops ≡ []
operations_none states families [] h = refl
operations_none states families (o ∷ ops) h =
    let first = All-head (OperationKeeps states families) o ops h in
    each_nil (operation_faults states (first_families (o ∷ ops))) (o ∷ ops)
    (λ k d lt. operation_none states families (first_families (o ∷ ops)) (slice_index_or (o ∷ ops) k d) (sym first.ranks) (h k d lt))

query_none : (states : List State) (q : Query) → QueryKeeps states q → query_faults states q ≡ []
query_none states q h =
    let scope : Scope = scope_of states q.params in
    let sorts : List Fault = asked_faults q.sort scope (form_of q.right) in
    let free = fits_asked q.sort (start_of (form_of q.right)) (form_agrees scope (form_of q.right)) h.fit in
    nil_both (param_faults states q.params ++ sorts) (form_faults scope (form_of q.right)) (nil_both (param_faults states q.params) sorts (names_none states q.params h.names) free.sorts) free.own

faults_nil : (t : TypeText) → KeepsRules t → faults_of t ≡ []
faults_nil t h =
    let states : List Fault = state_faults t.states in
    let names : List Fault = twice_among [] (item_names t) in
    let operations : List Fault = flat_map (operation_faults t.states (first_families t.operations)) t.operations in
    let queries : List Fault = flat_map (query_faults t.states) t.queries in
    let fields : List Word = map (λ (s : State). s.name) t.states in
    nil_both (states ++ names ++ operations) queries
    (nil_both (states ++ names) operations
    (nil_both states names
    (nil_both (twice_among [] fields) (flat_map start_faults t.states) (new_twice [] fields (alone fields h.fields))
    (each_nil start_faults t.states (λ k d lt. start_none (slice_index_or t.states k d) (h.starts k d lt))))
    (new_twice [] (item_names t) (alone (item_names t) h.items)))
    (operations_none t.states h.families t.operations h.operations))
    (each_nil (query_faults t.states) t.queries (λ k d lt. query_none t.states (slice_index_or t.queries k d) (h.queries k d lt)))

operation_light : (states : List State) (families : List Family) (o : Operation) → OperationKeeps states families o → operation_limits states o ≡ []
operation_light states families o h =
    let scope : Scope = scope_of states o.params in
    let light = each_mapped IsLight (assigned_in scope) o.assignments h.light in
    nil_both (past_params o.params) (flat_map (weight_faults scope) o.assignments) (past_none (λ p. p.name.at) param_limit o.params h.few)
    (each_nil (weight_faults scope) o.assignments (λ k d lt. light_none scope (slice_index_or o.assignments k d).act (light k d lt)))

limits_nil : (t : TypeText) → KeepsRules t → limits_of t ≡ []
limits_nil t h =
    let fields : List Fault = flat_map (λ (s : State). fault 9 s.at) (drop field_limit t.states) in
    let ops : List Fault = flat_map (λ (o : Operation). fault 9 o.at) (drop item_limit t.operations) in
    let queries : List Fault = flat_map (λ (q : Query). fault 9 q.at) (drop item_limit t.queries) in
    let each : List Fault = flat_map (operation_limits t.states) t.operations in
    nil_both (fields ++ ops ++ queries ++ each) (flat_map (λ (q : Query). past_params q.params) t.queries)
    (nil_both (fields ++ ops ++ queries) each
    (nil_both (fields ++ ops) queries
    (nil_both fields ops (past_none (λ (s : State). s.at) field_limit t.states h.few_fields) (past_none (λ (o : Operation). o.at) item_limit t.operations h.few_operations))
    (past_none (λ (q : Query). q.at) item_limit t.queries h.few_queries))
    (each_nil (operation_limits t.states) t.operations (λ k d lt. operation_light t.states h.families (slice_index_or t.operations k d) (h.operations k d lt))))
    (each_nil (λ (q : Query). past_params q.params) t.queries (λ k d lt. past_none (λ p. p.name.at) param_limit (slice_index_or t.queries k d).params (h.queries k d lt).few))

none_first : (xs ys : List Fault) → xs ≡ [] → ys ≡ [] → option_or (first_of xs) (first_of ys) ≡ None
none_first xs ys e f = ap (λ l. option_or (first_of l) (first_of ys)) e ∙ ap (λ l. option_or (first_of []) (first_of l)) f

pub not_refused : (t : TypeText) → KeepsRules t → first_refusal t ≡ None
not_refused t h = none_first (faults_of t) (limits_of t) (faults_nil t h) (limits_nil t h)
