-- How many nodes the expressions of an accepted type have.
use Rattle.std.proofs.Common.{◌≡◌, ℕ, zero, suc, ◌+◌, ◌<◌, ◌≤◌, ◌⊎◌, inl, inr, Bool, true, false, not, List, [], ◌∷◌, ◌++◌, length, map, take, drop, get_or, arith, refl, sym, ◌∙◌, ap, subst}
use Rattle.std.specs.List.{filter, flat_map, sum_by}
use Rattle.std.proofs.lemmas.Bool.{cases_eq, cases_lt}
use Rattle.std.proofs.lemmas.List.{take-append-drop, take_all}
use Rattle.std.proofs.lemmas.List.Sums.{sum_by-cons}
use Rattle.kat_expr.specs.Terms.{Term}
use Rattle.kat_expr.specs.Terms as terms
use Rattle.kat_grammar.specs.Files.{Exceeds, IsFirstExcess, Says, TooLargeAt, count_words, node_count}
use Rattle.kat_grammar.specs.Marks.{is_newline}
use Rattle.kat_grammar.specs.Forms.{act_form, assignment_form, operation_form as written_operation, query_form as written_query, type_form as written_form}
use Rattle.kat_grammar.specs.Forms as written
use Rattle.kat_grammar.specs.Lines.{head_tokens, rank_tokens, state_tokens, target_tokens, type_tokens}
use Rattle.kat_grammar.specs.Phrases.{Form, form_of}
use Rattle.kat_grammar.specs.Phrases.Form.{constant, word, entry, negation, joined, chosen, branches, parens}
use Rattle.kat_grammar.specs.Sizes.{Load, act_loads, assignments_loads, constant_loads, form_loads, loads_of, operation_loads, other, own, plain, query_loads}
use Rattle.kat_grammar.specs.declared.marks.Extreme.{Extreme}
use Rattle.kat_grammar.specs.declared.marks.Extreme.TheVariants as extreme
use Rattle.kat_grammar.specs.declared.marks.Mark.TheVariants as mark
use Rattle.kat_grammar.specs.declared.marks.Operator.{Operator}
use Rattle.kat_grammar.specs.declared.marks.Operator.TheVariants as operator
use Rattle.kat_grammar.specs.declared.marks.Placed.{Placed}
use Rattle.kat_grammar.specs.declared.phrases.Act.{Act}
use Rattle.kat_grammar.specs.declared.phrases.Act.TheVariants as act
use Rattle.kat_grammar.specs.declared.phrases.Assignment.{Assignment}
use Rattle.kat_grammar.specs.declared.phrases.Constant.{Constant}
use Rattle.kat_grammar.specs.declared.phrases.Constant.TheVariants.{Natural, Negative, Literal, Truth}
use Rattle.kat_grammar.specs.declared.phrases.Operation.{Operation}
use Rattle.kat_grammar.specs.declared.phrases.Parameter.{Parameter}
use Rattle.kat_grammar.specs.declared.phrases.Query.{Query}
use Rattle.kat_grammar.specs.declared.phrases.State.{State}
use Rattle.kat_grammar.specs.declared.phrases.Target.{Target}
use Rattle.kat_grammar.specs.declared.phrases.Target.TheVariants as target
use Rattle.kat_grammar.specs.declared.phrases.TypeText.{TypeText}
use Rattle.kat_grammar.proofs.Judging.{counted}
use Rattle.kat_grammar.proofs.Texts.{complete}
use Rattle.kat_type.specs.Within.{nodes_in, operation_nodes, query_nodes, right_of, type_nodes}
use Rattle.kat_judging.specs.Faults.{scope_of}
use Rattle.kat_judging.specs.Names.{Scope, field_named, param_named}
use Rattle.kat_type_file.specs.Typing.{act_in, assigned_in, chosen_term, joined_term, operation_in, query_in, target_in, term_in, type_in, word_term}
use Rattle.kat_judging.specs.declared.names.Declared.{Declared}
use Rattle.std.specs.Prelude.{Option, None, Some, if◌then◌else◌}

-- a token that isn't there
abbrev nothing : Placed
nothing = record { mark = mark.Newline; at = 0 }

keeps : {X : Type 0} (b : Bool) (x : X) (xs : List X) → b ≡ true → length (if b then x ∷ xs else xs) ≡ suc (length xs)
keeps true x xs e = refl
keeps false x xs e = absurd (cc e)

leaves : {X : Type 0} (b : Bool) (x : X) (xs : List X) → b ≡ false → length (if b then x ∷ xs else xs) ≡ length xs
leaves false x xs e = refl
leaves true x xs e = absurd (cc e)

abbrev words : List Placed → List Placed
words tokens = filter (λ (t : Placed). not (is_newline t.mark)) tokens

word_counts : (t : Placed) (ts : List Placed) → is_newline t.mark ≡ false → count_words (t ∷ ts) ≡ suc (count_words ts)
word_counts t ts n = keeps (not (is_newline t.mark)) t (words ts) (ap not n)

newline_counts : (t : Placed) (ts : List Placed) → is_newline t.mark ≡ true → count_words (t ∷ ts) ≡ count_words ts
newline_counts t ts n = leaves (not (is_newline t.mark)) t (words ts) (ap not n)

-- the token that is no newline and before which there are this many of these
record NthWord (tokens : List Placed) (n : ℕ) : Type 0 where
  place : ℕ
  within : place < length tokens
  word : is_newline (get_or tokens place nothing).mark ≡ false
  before : count_words (take place tokens) ≡ n

none_less : (n : ℕ) → n < 0 → ⊥
none_less n h = omega (arith, h)

later_word : (t : Placed) (ts : List Placed) (n m : ℕ) → count_words (t ∷ take m ts) ≡ n → m < length ts → is_newline (get_or ts m nothing).mark ≡ false → NthWord (t ∷ ts) n
later_word t ts n m count lt is = record { place = suc m; within = omega (arith, lt); word = is; before = count }

behind_word : (t : Placed) (ts : List Placed) → ((m : ℕ) → m < count_words ts → NthWord ts m) → is_newline t.mark ≡ false → (n : ℕ) → n < suc (count_words ts) → NthWord (t ∷ ts) n
behind_word t ts rest e zero h = record { place = zero; within = omega arith; word = e; before = refl }
behind_word t ts rest e (suc m) h =
    let w = rest m (omega (arith, h)) in
    later_word t ts (suc m) w.place (word_counts t (take w.place ts) e ∙ ap suc w.before) w.within w.word

behind_token : (t : Placed) (ts : List Placed) → ((m : ℕ) → m < count_words ts → NthWord ts m) → (b : Bool) → is_newline t.mark ≡ b → (n : ℕ) → n < count_words (t ∷ ts) → NthWord (t ∷ ts) n
behind_token t ts rest true e n h =
    let w = rest n (subst (λ k. n < k) (newline_counts t ts e) h) in
    later_word t ts n w.place (newline_counts t (take w.place ts) e ∙ w.before) w.within w.word
behind_token t ts rest false e n h = behind_word t ts rest e n (subst (λ k. n < k) (word_counts t ts e) h)

nth_word : (tokens : List Placed) (n : ℕ) → n < count_words tokens → NthWord tokens n
nth_word [] n h = absurd (none_less n h)
nth_word (t ∷ ts) n h = behind_token t ts (nth_word ts) (is_newline t.mark) refl n h

-- if no token of a type is too large, none exceeds the limits
no_excess : (tokens : List Placed) (t : written.TypeForm) → Says tokens t → ((k : ℕ) → TooLargeAt tokens k → ⊥) → (n : ℕ) → n < length (loads_of t)
    → ((m : ℕ) → m < n → Exceeds (loads_of t) m → ⊥) → Exceeds (loads_of t) n → ⊥
no_excess tokens t says small n lt first here =
    let w = nth_word tokens n (subst (λ k. n < k) (counted (complete tokens t says).passes) lt) in
    small w.place (record {
      within = w.within;
      word = w.word;
      goes = record { more = drop (suc w.place) tokens; whole = t; says = subst (λ a. Says a t) (sym (take-append-drop (suc w.place) tokens)) says };
      excess = subst (λ m. IsFirstExcess (loads_of t) m) (sym w.before) (record { here = here; first = first });
    })

none_up_to : (loads : List Load) (n : ℕ) → ((k : ℕ) → k < n → Exceeds loads k → ⊥) → (Exceeds loads n → ⊥) → (m : ℕ) → m < suc n → (m ≡ n) ⊎ (m ≡ n → ⊥) → Exceeds loads m → ⊥
none_up_to loads n rest here m lt (inl same) e = here (subst (Exceeds loads) same e)
none_up_to loads n rest here m lt (inr apart) e = rest m (omega (arith, lt, apart)) e

pub none_below : (tokens : List Placed) (t : written.TypeForm) → Says tokens t → ((k : ℕ) → TooLargeAt tokens k → ⊥) → (n : ℕ) → n ≤ length (loads_of t)
    → (m : ℕ) → m < n → Exceeds (loads_of t) m → ⊥
none_below tokens t says small zero le m lt e = none_less m lt
none_below tokens t says small (suc n) le m lt e =
    let rest = none_below tokens t says small n (omega (arith, le)) in
    none_up_to (loads_of t) n rest (no_excess tokens t says small n (omega (arith, le)) rest) m lt (cases_eq m n) e

pub few_of : (loads : List Load) → ((m : ℕ) → m < length loads → Exceeds loads m → ⊥) → node_count loads ≤ 400
few_of [] h = omega arith
few_of (l ∷ ls) h = by_count (cases_lt 400 (node_count (l ∷ ls))) where
  by_count : (400 < node_count (l ∷ ls)) ⊎ (node_count (l ∷ ls) ≤ 400) → node_count (l ∷ ls) ≤ 400
  by_count (inr le) = le
  by_count (inl lt) = absurd (h (length ls) (omega arith) (inr (subst (λ xs. 400 < node_count xs) (sym (take_all (suc (length ls)) (l ∷ ls) (omega arith))) lt)))

pub few_nodes : (tokens : List Placed) (t : written.TypeForm) → Says tokens t → ((k : ℕ) → TooLargeAt tokens k → ⊥) → node_count (loads_of t) ≤ 400
few_nodes tokens t says small = few_of (loads_of t) (none_below tokens t says small (length (loads_of t)) (omega arith))

-- nodes of lists
node_first : (b : Bool) (l : Load) (xs ys : List Load) → l.node ≡ b → node_count (xs ++ ys) ≡ node_count xs + node_count ys
    → node_count (l ∷ (xs ++ ys)) ≡ node_count (l ∷ xs) + node_count ys
node_first true l xs ys e rest =
    let one = keeps l.node l (filter (λ (load : Load). load.node) (xs ++ ys)) e in
    let two = keeps l.node l (filter (λ (load : Load). load.node) xs) e in omega (arith, one, two, rest)
node_first false l xs ys e rest =
    let one = leaves l.node l (filter (λ (load : Load). load.node) (xs ++ ys)) e in
    let two = leaves l.node l (filter (λ (load : Load). load.node) xs) e in omega (arith, one, two, rest)

pub nodes_append : (xs ys : List Load) → node_count (xs ++ ys) ≡ node_count xs + node_count ys
nodes_append [] ys = omega arith
nodes_append (l ∷ xs) ys = node_first l.node l xs ys refl (nodes_append xs ys)

plain_nodes : (tokens : List Placed) → node_count (plain tokens) ≡ 0
plain_nodes [] = refl
plain_nodes (t ∷ tokens) = plain_nodes tokens

flat_nodes : {X Y : Type 0} (F : X → List Load) (g : Y → ℕ) (h : X → Y) (xs : List X) → ((x : X) → node_count (F x) ≡ g (h x))
    → node_count (flat_map F xs) ≡ sum_by g (map h xs)
flat_nodes F g h [] each = refl
flat_nodes F g h (x ∷ xs) each =
    let more = nodes_append (F x) (flat_map F xs) in
    let here = each x in
    let rest = flat_nodes F g h xs each in
    let sum = sum_by-cons g (h x) (map h xs) in
    omega (arith, more, here, rest, sum)

mapped_nodes : {X W Y : Type 0} (F : W → List Load) (f : X → W) (g : Y → ℕ) (h : X → Y) (xs : List X) → ((x : X) → node_count (F (f x)) ≡ g (h x))
    → node_count (flat_map F (map f xs)) ≡ sum_by g (map h xs)
mapped_nodes F f g h [] each = refl
mapped_nodes F f g h (x ∷ xs) each =
    let more = nodes_append (F (f x)) (flat_map F (map f xs)) in
    let here = each x in
    let rest = mapped_nodes F f g h xs each in
    let sum = sum_by-cons g (h x) (map h xs) in
    omega (arith, more, here, rest, sum)

-- an expression has a node for each of its own tokens
constant_nodes : (depth : ℕ) (c : Constant) → node_count (constant_loads depth c) ≡ 1
constant_nodes depth (Natural at n) = refl
constant_nodes depth (Negative at number_at n) = refl
constant_nodes depth (Literal at name) = refl
constant_nodes depth (Truth at b) = refl

pub word_nodes : (p : Option (Declared Parameter)) (f : Option (Declared State)) → terms.node_count (word_term p f) ≡ 1
word_nodes (Some p) f = refl
word_nodes None f = refl

pub joined_nodes : (op : Operator) (a b : Term) → terms.node_count (joined_term op a b) ≡ 1 + terms.node_count a + terms.node_count b
joined_nodes operator.Or a b = refl
joined_nodes operator.And a b = refl
joined_nodes operator.Less a b = refl
joined_nodes operator.AtMost a b = refl
joined_nodes operator.Same a b = refl
joined_nodes operator.Plus a b = refl
joined_nodes operator.Minus a b = refl

pub chosen_nodes : (e : Extreme) (a b : Term) → terms.node_count (chosen_term e a b) ≡ 1 + terms.node_count a + terms.node_count b
chosen_nodes extreme.Greatest a b = refl
chosen_nodes extreme.Least a b = refl

pub form_nodes : (scope : Scope) (depth : ℕ) (f : Form) → node_count (form_loads depth f) ≡ terms.node_count (term_in scope f)
form_nodes scope depth (constant c) = constant_nodes depth c
form_nodes scope depth (word w) = sym (word_nodes (param_named scope w.code) (field_named scope w.code))
form_nodes scope depth (entry table open_at key close_at) = refl
form_nodes scope depth (negation at a) = let here = form_nodes scope (depth + 1) a in omega (arith, here)
form_nodes scope depth (joined op at a b) =
    let parts = nodes_append (form_loads depth a) (own depth ∷ form_loads depth b) in
    let left = form_nodes scope depth a in
    let right = form_nodes scope depth b in
    let whole = joined_nodes op (term_in scope a) (term_in scope b) in
    omega (arith, parts, left, right, whole)
form_nodes scope depth (chosen e at open_at a comma b close_at) =
    let las = form_loads (depth + 1) a in
    let lbs = form_loads (depth + 1) b in
    let front = nodes_append (own depth ∷ other (depth + 1) ∷ las ++ other (depth + 1) ∷ lbs) (other depth ∷ []) in
    let parts = nodes_append (own depth ∷ other (depth + 1) ∷ las) (other (depth + 1) ∷ lbs) in
    let left = form_nodes scope (depth + 1) a in
    let right = form_nodes scope (depth + 1) b in
    let whole = chosen_nodes e (term_in scope a) (term_in scope b) in
    omega (arith, front, parts, left, right, whole)
form_nodes scope depth (branches at c then_at a else_at b) =
    let lcs = form_loads (depth + 1) c in
    let las = form_loads (depth + 1) a in
    let lbs = form_loads (depth + 1) b in
    let front = nodes_append (own (depth + 1) ∷ lcs ++ other (depth + 1) ∷ las) (other (depth + 1) ∷ lbs) in
    let parts = nodes_append (own (depth + 1) ∷ lcs) (other (depth + 1) ∷ las) in
    let test = form_nodes scope (depth + 1) c in
    let left = form_nodes scope (depth + 1) a in
    let right = form_nodes scope (depth + 1) b in
    omega (arith, front, parts, test, left, right)
form_nodes scope depth (parens open_at a close_at) =
    let parts = nodes_append (other (depth + 1) ∷ form_loads (depth + 1) a) (other depth ∷ []) in
    let here = form_nodes scope (depth + 1) a in
    omega (arith, parts, here)

pub right_is : (scope : Scope) (to : Target) (right : Term) → right_of (target_in scope to right) ≡ right
right_is scope (target.Field w) right = refl
right_is scope (target.Entry table open_at key close_at) right = refl

pub nodes_are : (scope : Scope) (to : Target) (right : Term) → nodes_in (target_in scope to right) ≡ terms.node_count right
nodes_are scope (target.Field w) right = refl
nodes_are scope (target.Entry table open_at key close_at) right = refl

act_nodes : (scope : Scope) (a : Act) → node_count (act_loads (act_form a)) ≡ nodes_in (act_in scope a)
act_nodes scope (act.Set to assign right) =
    let target = plain (target_tokens to) in
    let parts = nodes_append target (other 0 ∷ form_loads 0 (form_of right)) in
    let none = plain_nodes (target_tokens to) in
    let here = form_nodes scope 0 (form_of right) in
    let is = nodes_are scope to (term_in scope (form_of right)) in
    omega (arith, parts, none, here, is)
act_nodes scope (act.Clear at table) = refl

assigned_nodes : (scope : Scope) (xs : List Assignment) → node_count (assignments_loads (map assignment_form xs)) ≡ sum_by nodes_in (map (assigned_in scope) xs)
assigned_nodes scope [] = refl
assigned_nodes scope (x ∷ xs) =
    let rest = assignments_loads (map assignment_form xs) in
    let front = nodes_append (act_loads (act_form x.act)) rest in
    let here = act_nodes scope x.act in
    let sum = sum_by-cons nodes_in (assigned_in scope x) (map (assigned_in scope) xs) in
    let more = assigned_nodes scope xs in
    omega (arith, front, here, sum, more)

operation_counts : (states : List State) (o : Operation) → node_count (operation_loads (written_operation o)) ≡ operation_nodes (operation_in states o)
operation_counts states o =
    let head = plain (head_tokens mark.OpLine o.at o.name o.open_at o.params o.close_at) in
    let ranks = plain (rank_tokens o.rank) in
    let assigns = assignments_loads (map assignment_form o.assignments) in
    let front = nodes_append (head ++ ranks) assigns in
    let parts = nodes_append head ranks in
    let none = plain_nodes (head_tokens mark.OpLine o.at o.name o.open_at o.params o.close_at) in
    let nothing = plain_nodes (rank_tokens o.rank) in
    let rights = assigned_nodes (scope_of states o.params) o.assignments in
    omega (arith, front, parts, none, nothing, rights)

query_counts : (states : List State) (q : Query) → node_count (query_loads (written_query q)) ≡ query_nodes (query_in states q)
query_counts states q =
    let head = plain (head_tokens mark.QueryLine q.at q.name q.open_at q.params q.close_at) in
    let front = nodes_append head (other 0 ∷ other 0 ∷ other 0 ∷ form_loads 0 (form_of q.right)) in
    let none = plain_nodes (head_tokens mark.QueryLine q.at q.name q.open_at q.params q.close_at) in
    let right = form_nodes (scope_of states q.params) 0 (form_of q.right) in
    omega (arith, front, none, right)

state_counts : (states : List State) → node_count (flat_map (λ (s : State). plain (state_tokens s)) states) ≡ 0
state_counts [] = refl
state_counts (s ∷ states) =
    let more = nodes_append (plain (state_tokens s)) (flat_map (λ (s : State). plain (state_tokens s)) states) in
    let none = plain_nodes (state_tokens s) in
    let rest = state_counts states in
    omega (arith, more, none, rest)

pub type_counts : (t : TypeText) → type_nodes (type_in t) ≡ node_count (loads_of (written_form t))
type_counts t =
    let states = flat_map (λ (s : State). plain (state_tokens s)) t.states in
    let operations = flat_map operation_loads (map written_operation t.operations) in
    let queries = flat_map query_loads (map written_query t.queries) in
    let whole = nodes_append (plain (type_tokens (written_form t))) (states ++ operations ++ queries) in
    let front = nodes_append (states ++ operations) queries in
    let parts = nodes_append states operations in
    let none = plain_nodes (type_tokens (written_form t)) in
    let nothing = state_counts t.states in
    let ops = mapped_nodes operation_loads written_operation operation_nodes (operation_in t.states) t.operations (operation_counts t.states) in
    let asked = mapped_nodes query_loads written_query query_nodes (query_in t.states) t.queries (query_counts t.states) in
    omega (arith, whole, front, parts, none, nothing, ops, asked)
