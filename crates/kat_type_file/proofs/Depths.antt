-- No token of a text is one too many exactly if its expressions aren't too large.
use Rattle.std.proofs.Common.{◌≡◌, ℕ, zero, suc, ◌+◌, ◌<◌, ◌≤◌, ◌⊎◌, inl, inr, List, [], ◌∷◌, ◌++◌, length, map, take, drop, All, arith, refl, sym, ◌∙◌, subst}
use Rattle.std.specs.Prelude.{max}
use Rattle.std.specs.List.{flat_map, slice_index_or, sum_by}
use Rattle.std.proofs.lemmas.Bool.{cases_lt}
use Rattle.std.proofs.lemmas.List.{append-nil, take-append-drop}
use Rattle.std.proofs.lemmas.List.Elements.{All-cons, All-head, All-nil, All-tail}
use Rattle.std.proofs.lemmas.List.Sums.{sum_by-cons}
use Rattle.kat_expr.specs.Terms as terms
use Rattle.kat_grammar.specs.Files.{Exceeds, IsTextOf, TooLargeAt, node_count}
use Rattle.kat_grammar.specs.Forms.{act_form, assignment_form, operation_form as written_operation, query_form as written_query, type_form as written_form}
use Rattle.kat_grammar.specs.Lines.{head_tokens, rank_tokens, state_tokens, target_tokens, type_tokens}
use Rattle.kat_grammar.specs.Marks.{placed}
use Rattle.kat_grammar.specs.Phrases.{Form, form_of}
use Rattle.kat_grammar.specs.Phrases.Form.{constant, word, entry, negation, joined, chosen, branches, parens}
use Rattle.kat_grammar.specs.Sizes.{Load, act_loads, assignments_loads, constant_loads, form_loads, loads_of, operation_loads, other, own, plain, query_loads}
use Rattle.kat_grammar.specs.declared.marks.Mark.TheVariants as mark
use Rattle.kat_grammar.specs.declared.marks.Placed.{Placed}
use Rattle.kat_grammar.specs.declared.phrases.Act.{Act}
use Rattle.kat_grammar.specs.declared.phrases.Act.TheVariants as act
use Rattle.kat_grammar.specs.declared.phrases.Assignment.{Assignment}
use Rattle.kat_grammar.specs.declared.phrases.Constant.{Constant}
use Rattle.kat_grammar.specs.declared.phrases.Constant.TheVariants.{Natural, Negative, Literal, Truth}
use Rattle.kat_grammar.specs.declared.phrases.Operation.{Operation}
use Rattle.kat_grammar.specs.declared.phrases.Query.{Query}
use Rattle.kat_grammar.specs.declared.phrases.State.{State}
use Rattle.kat_grammar.specs.declared.phrases.TypeText.{TypeText}
use Rattle.kat_grammar.proofs.Judging.{none_large}
use Rattle.kat_grammar.proofs.Texts.{complete}
use Rattle.kat_type.specs.Within.{nodes_in, operation_nodes, query_nodes}
use Rattle.kat_judging.specs.Faults.{scope_of}
use Rattle.kat_judging.specs.Names.{Scope, field_named, param_named}
use Rattle.kat_type_file.specs.Sizes.{IsSmall, act_depth, act_nodes, depth_of, nodes_of}
use Rattle.kat_type_file.specs.TypeFiles.{IsWritten}
use Rattle.kat_type_file.specs.Typing.{act_in, assigned_in, operation_in, query_in, term_in}
use Rattle.kat_type_file.proofs.Nodes.{chosen_nodes, few_of, joined_nodes, nodes_append, nodes_are, none_below, type_counts, word_nodes}

-- no token is at too great a depth
abbrev Low : List Load → Type 0
Low [] = Unit {0}
Low (l ∷ ls) = (l.depth ≤ 24) × Low ls

low_both : (xs ys : List Load) → Low xs → Low ys → Low (xs ++ ys)
low_both [] ys h k = k
low_both (x ∷ xs) ys h k = (h.0, low_both xs ys h.1 k)

low_front : (xs ys : List Load) → Low (xs ++ ys) → Low xs
low_front [] ys h = tt
low_front (x ∷ xs) ys h = (h.0, low_front xs ys h.1)

low_rest : (xs ys : List Load) → Low (xs ++ ys) → Low ys
low_rest [] ys h = h
low_rest (x ∷ xs) ys h = low_rest xs ys h.1

plain_low : (tokens : List Placed) → Low (plain tokens)
plain_low [] = tt
plain_low (t ∷ tokens) = (omega arith, plain_low tokens)

max_first : (d x y : ℕ) → d + max x y ≤ 24 → d + x ≤ 24
max_first d x y h = grind arith

max_second : (d x y : ℕ) → d + max x y ≤ 24 → d + y ≤ 24
max_second d x y h = grind arith

max_both : (d x y : ℕ) → d + x ≤ 24 → d + y ≤ 24 → d + max x y ≤ 24
max_both d x y h k = grind arith

-- expressions
constant_low : (d : ℕ) (c : Constant) → d ≤ 24 → Low (constant_loads d c)
constant_low d (Natural at n) h = (h, tt)
constant_low d (Negative at number_at n) h = (h, (h, tt))
constant_low d (Literal at name) h = (h, tt)
constant_low d (Truth at b) h = (h, tt)

low_constant : (d : ℕ) (c : Constant) → Low (constant_loads d c) → d ≤ 24
low_constant d (Natural at n) h = h.0
low_constant d (Negative at number_at n) h = h.0
low_constant d (Literal at name) h = h.0
low_constant d (Truth at b) h = h.0

one_deeper : (d x : ℕ) → d + (x + 1) ≤ 24 → (d + 1) + x ≤ 24
one_deeper d x h = omega (arith, h)

one_higher : (d x : ℕ) → (d + 1) + x ≤ 24 → d + (x + 1) ≤ 24
one_higher d x h = omega (arith, h)

here_low : (d x : ℕ) → d + x ≤ 24 → d ≤ 24
here_low d x h = omega (arith, h)

form_low : (d : ℕ) (a : Form) → d + depth_of a ≤ 24 → Low (form_loads d a)
form_low d (constant c) h = constant_low d c (here_low d 0 h)
form_low d (word w) h = (here_low d 0 h, tt)
form_low d (entry table open_at key close_at) h = let le = here_low d 0 h in (le, (le, (le, (le, tt))))
form_low d (negation at a) h =
    let inner = one_deeper d (depth_of a) h in (here_low (d + 1) (depth_of a) inner, form_low (d + 1) a inner)
form_low d (joined op at a b) h =
    low_both (form_loads d a) (own d ∷ form_loads d b) (form_low d a (max_first d (depth_of a) (depth_of b) h))
    (here_low d (max (depth_of a) (depth_of b)) h, form_low d b (max_second d (depth_of a) (depth_of b) h))
form_low d (chosen e at open_at a comma b close_at) h =
    let inner = one_deeper d (max (depth_of a) (depth_of b)) h in
    let outer = here_low d (max (depth_of a) (depth_of b) + 1) h in
    let deeper = here_low (d + 1) (max (depth_of a) (depth_of b)) inner in
    let las = form_loads (d + 1) a in
    let lbs = form_loads (d + 1) b in
    low_both (own d ∷ other (d + 1) ∷ las ++ other (d + 1) ∷ lbs) (other d ∷ [])
    (low_both (own d ∷ other (d + 1) ∷ las) (other (d + 1) ∷ lbs)
    (outer, (deeper, form_low (d + 1) a (max_first (d + 1) (depth_of a) (depth_of b) inner)))
    (deeper, form_low (d + 1) b (max_second (d + 1) (depth_of a) (depth_of b) inner))) (outer, tt)
form_low d (branches at c then_at a else_at b) h =
    let both : ℕ = max (depth_of a) (depth_of b) in
    let inner = one_deeper d (max (depth_of c) both) h in
    let deeper = here_low (d + 1) (max (depth_of c) both) inner in
    let parts = max_second (d + 1) (depth_of c) both inner in
    let lcs = form_loads (d + 1) c in
    let las = form_loads (d + 1) a in
    let lbs = form_loads (d + 1) b in
    low_both (own (d + 1) ∷ lcs ++ other (d + 1) ∷ las) (other (d + 1) ∷ lbs)
    (low_both (own (d + 1) ∷ lcs) (other (d + 1) ∷ las) (deeper, form_low (d + 1) c (max_first (d + 1) (depth_of c) both inner))
    (deeper, form_low (d + 1) a (max_first (d + 1) (depth_of a) (depth_of b) parts)))
    (deeper, form_low (d + 1) b (max_second (d + 1) (depth_of a) (depth_of b) parts))
form_low d (parens open_at a close_at) h =
    let inner = one_deeper d (depth_of a) h in
    low_both (other (d + 1) ∷ form_loads (d + 1) a) (other d ∷ []) (here_low (d + 1) (depth_of a) inner, form_low (d + 1) a inner)
    (here_low d (depth_of a + 1) h, tt)

add_none : (d : ℕ) → d ≤ 24 → d + 0 ≤ 24
add_none d h = omega (arith, h)

low_form : (d : ℕ) (a : Form) → Low (form_loads d a) → d + depth_of a ≤ 24
low_form d (constant c) h = add_none d (low_constant d c h)
low_form d (word w) h = add_none d h.0
low_form d (entry table open_at key close_at) h = add_none d h.0
low_form d (negation at a) h = one_higher d (depth_of a) (low_form (d + 1) a h.1)
low_form d (joined op at a b) h =
    let right = low_rest (form_loads d a) (own d ∷ form_loads d b) h in
    max_both d (depth_of a) (depth_of b) (low_form d a (low_front (form_loads d a) (own d ∷ form_loads d b) h)) (low_form d b right.1)
low_form d (chosen e at open_at a comma b close_at) h =
    let las = form_loads (d + 1) a in
    let lbs = form_loads (d + 1) b in
    let parts = low_front (own d ∷ other (d + 1) ∷ las ++ other (d + 1) ∷ lbs) (other d ∷ []) h in
    let left = low_front (own d ∷ other (d + 1) ∷ las) (other (d + 1) ∷ lbs) parts in
    let right = low_rest (own d ∷ other (d + 1) ∷ las) (other (d + 1) ∷ lbs) parts in
    one_higher d (max (depth_of a) (depth_of b)) (max_both (d + 1) (depth_of a) (depth_of b) (low_form (d + 1) a left.1.1) (low_form (d + 1) b right.1))
low_form d (branches at c then_at a else_at b) h =
    let lcs = form_loads (d + 1) c in
    let las = form_loads (d + 1) a in
    let lbs = form_loads (d + 1) b in
    let front = low_front (own (d + 1) ∷ lcs ++ other (d + 1) ∷ las) (other (d + 1) ∷ lbs) h in
    let test = low_front (own (d + 1) ∷ lcs) (other (d + 1) ∷ las) front in
    let left = low_rest (own (d + 1) ∷ lcs) (other (d + 1) ∷ las) front in
    let right = low_rest (own (d + 1) ∷ lcs ++ other (d + 1) ∷ las) (other (d + 1) ∷ lbs) h in
    one_higher d (max (depth_of c) (max (depth_of a) (depth_of b)))
    (max_both (d + 1) (depth_of c) (max (depth_of a) (depth_of b)) (low_form (d + 1) c test.1)
    (max_both (d + 1) (depth_of a) (depth_of b) (low_form (d + 1) a left.1) (low_form (d + 1) b right.1)))
low_form d (parens open_at a close_at) h =
    let inner = low_front (other (d + 1) ∷ form_loads (d + 1) a) (other d ∷ []) h in one_higher d (depth_of a) (low_form (d + 1) a inner.1)

-- the parts of a type
from_none : (n : ℕ) → n ≤ 24 → 0 + n ≤ 24
from_none n h = omega (arith, h)

to_none : (n : ℕ) → 0 + n ≤ 24 → n ≤ 24
to_none n h = omega (arith, h)

act_low : (a : Act) → act_depth a ≤ 24 → Low (act_loads (act_form a))
act_low (act.Set to assign right) h =
    low_both (plain (target_tokens to)) (other 0 ∷ form_loads 0 (form_of right)) (plain_low (target_tokens to)) (omega arith, form_low 0 (form_of right) (from_none (depth_of (form_of right)) h))
act_low (act.Clear at table) h = (omega arith, (omega arith, tt))

low_act : (a : Act) → Low (act_loads (act_form a)) → act_depth a ≤ 24
low_act (act.Set to assign right) h =
    let rest = low_rest (plain (target_tokens to)) (other 0 ∷ form_loads 0 (form_of right)) h in to_none (depth_of (form_of right)) (low_form 0 (form_of right) rest.1)
low_act (act.Clear at table) h = omega arith

abbrev IsLowAct : Assignment → Type 0
IsLowAct a = act_depth a.act ≤ 24

assignments_low : (xs : List Assignment) → All IsLowAct xs → Low (assignments_loads (map assignment_form xs))
assignments_low [] h = tt
assignments_low (a ∷ xs) h =
    let rest = assignments_loads (map assignment_form xs) in
    (omega arith, low_both (act_loads (act_form a.act)) rest (act_low a.act (All-head IsLowAct a xs h)) (assignments_low xs (All-tail IsLowAct a xs h)))

low_assignments : (xs : List Assignment) → Low (assignments_loads (map assignment_form xs)) → All IsLowAct xs
low_assignments [] h = All-nil IsLowAct
low_assignments (a ∷ xs) h =
    let rest = assignments_loads (map assignment_form xs) in
    All-cons IsLowAct a xs (low_act a.act (low_front (act_loads (act_form a.act)) rest h.1)) (low_assignments xs (low_rest (act_loads (act_form a.act)) rest h.1))

abbrev IsLowOperation : Operation → Type 0
IsLowOperation o = All IsLowAct o.assignments

abbrev head_of : Operation → List Load
head_of o = plain (head_tokens mark.OpLine o.at o.name o.open_at o.params o.close_at) ++ plain (rank_tokens o.rank)

operation_low : (o : Operation) → IsLowOperation o → Low (operation_loads (written_operation o))
operation_low o h =
    let head = plain_low (head_tokens mark.OpLine o.at o.name o.open_at o.params o.close_at) in
    low_both (head_of o) (assignments_loads (map assignment_form o.assignments))
    (low_both (plain (head_tokens mark.OpLine o.at o.name o.open_at o.params o.close_at)) (plain (rank_tokens o.rank)) head (plain_low (rank_tokens o.rank))) (assignments_low o.assignments h)

low_operation : (o : Operation) → Low (operation_loads (written_operation o)) → IsLowOperation o
low_operation o h = low_assignments o.assignments (low_rest (head_of o) (assignments_loads (map assignment_form o.assignments)) h)

abbrev IsLowQuery : Query → Type 0
IsLowQuery q = depth_of (form_of q.right) ≤ 24

abbrev asked_by : Query → List Load
asked_by q = other 0 ∷ other 0 ∷ other 0 ∷ form_loads 0 (form_of q.right)

query_low : (q : Query) → IsLowQuery q → Low (query_loads (written_query q))
query_low q h =
    low_both (plain (head_tokens mark.QueryLine q.at q.name q.open_at q.params q.close_at)) (asked_by q) (plain_low (head_tokens mark.QueryLine q.at q.name q.open_at q.params q.close_at))
    (omega arith, (omega arith, (omega arith, form_low 0 (form_of q.right) (from_none (depth_of (form_of q.right)) h))))

low_query : (q : Query) → Low (query_loads (written_query q)) → IsLowQuery q
low_query q h =
    let rest = low_rest (plain (head_tokens mark.QueryLine q.at q.name q.open_at q.params q.close_at)) (asked_by q) h in
    to_none (depth_of (form_of q.right)) (low_form 0 (form_of q.right) rest.1.1.1)

each_low : {X W : Type 0} (F : W → List Load) (f : X → W) (P : X → Type 0) (xs : List X) → ((x : X) → P x → Low (F (f x))) → All P xs → Low (flat_map F (map f xs))
each_low F f P [] low h = tt
each_low F f P (x ∷ xs) low h = low_both (F (f x)) (flat_map F (map f xs)) (low x (All-head P x xs h)) (each_low F f P xs low (All-tail P x xs h))

low_each : {X W : Type 0} (F : W → List Load) (f : X → W) (P : X → Type 0) (xs : List X) → ((x : X) → Low (F (f x)) → P x) → Low (flat_map F (map f xs)) → All P xs
low_each F f P [] is h = All-nil P
low_each F f P (x ∷ xs) is h = All-cons P x xs (is x (low_front (F (f x)) (flat_map F (map f xs)) h)) (low_each F f P xs is (low_rest (F (f x)) (flat_map F (map f xs)) h))

states_low : (states : List State) → Low (flat_map (λ (s : State). plain (state_tokens s)) states)
states_low [] = tt
states_low (s ∷ states) = low_both (plain (state_tokens s)) (flat_map (λ (s : State). plain (state_tokens s)) states) (plain_low (state_tokens s)) (states_low states)

record AreLow (t : TypeText) : Type 0 where
  rights : All IsLowOperation t.operations
  asked : All IsLowQuery t.queries

type_low : (t : TypeText) → AreLow t → Low (loads_of (written_form t))
type_low t h =
    let states = flat_map (λ (s : State). plain (state_tokens s)) t.states in
    let operations = flat_map operation_loads (map written_operation t.operations) in
    let queries = flat_map query_loads (map written_query t.queries) in
    low_both (plain (type_tokens (written_form t))) (states ++ operations ++ queries) (plain_low (type_tokens (written_form t)))
    (low_both (states ++ operations) queries
    (low_both states operations (states_low t.states) (each_low operation_loads written_operation IsLowOperation t.operations operation_low h.rights))
    (each_low query_loads written_query IsLowQuery t.queries query_low h.asked))

low_type : (t : TypeText) → Low (loads_of (written_form t)) → AreLow t
low_type t h =
    let states = flat_map (λ (s : State). plain (state_tokens s)) t.states in
    let operations = flat_map operation_loads (map written_operation t.operations) in
    let queries = flat_map query_loads (map written_query t.queries) in
    let parts = low_rest (plain (type_tokens (written_form t))) (states ++ operations ++ queries) h in
    record {
      rights = low_each operation_loads written_operation IsLowOperation t.operations low_operation (low_rest states operations (low_front (states ++ operations) queries parts));
      asked = low_each query_loads written_query IsLowQuery t.queries low_query (low_rest (states ++ operations) queries parts);
    }

-- nodes
nodes_term : (scope : Scope) (a : Form) → nodes_of a ≡ terms.node_count (term_in scope a)
nodes_term scope (constant c) = refl
nodes_term scope (word w) = sym (word_nodes (param_named scope w.code) (field_named scope w.code))
nodes_term scope (entry table open_at key close_at) = refl
nodes_term scope (negation at a) = let here = nodes_term scope a in omega (arith, here)
nodes_term scope (joined op at a b) =
    let left = nodes_term scope a in
    let right = nodes_term scope b in
    let whole = joined_nodes op (term_in scope a) (term_in scope b) in
    omega (arith, left, right, whole)
nodes_term scope (chosen e at open_at a comma b close_at) =
    let left = nodes_term scope a in
    let right = nodes_term scope b in
    let whole = chosen_nodes e (term_in scope a) (term_in scope b) in
    omega (arith, left, right, whole)
nodes_term scope (branches at c then_at a else_at b) =
    let test = nodes_term scope c in
    let left = nodes_term scope a in
    let right = nodes_term scope b in
    omega (arith, test, left, right)
nodes_term scope (parens open_at a close_at) = nodes_term scope a

act_counts : (scope : Scope) (a : Act) → nodes_in (act_in scope a) ≡ act_nodes a
act_counts scope (act.Set to assign right) = nodes_are scope to (term_in scope (form_of right)) ∙ sym (nodes_term scope (form_of right))
act_counts scope (act.Clear at table) = refl

same_sum : {X Y : Type 0} (g : Y → ℕ) (h : X → Y) (k : X → ℕ) (xs : List X) → ((x : X) → g (h x) ≡ k x) → sum_by g (map h xs) ≡ sum_by k xs
same_sum g h k [] each = refl
same_sum g h k (x ∷ xs) each =
    let one = sum_by-cons g (h x) (map h xs) in
    let two = sum_by-cons k x xs in
    let here = each x in
    let rest = same_sum g h k xs each in
    omega (arith, one, two, here, rest)

abbrev operation_size : Operation → ℕ
operation_size o = sum_by (λ (a : Assignment). act_nodes a.act) o.assignments

abbrev query_size : Query → ℕ
query_size q = nodes_of (form_of q.right)

type_sum : (t : TypeText) → node_count (loads_of (written_form t)) ≡ sum_by operation_size t.operations + sum_by query_size t.queries
type_sum t =
    let whole = type_counts t in
    let ops = same_sum operation_nodes (operation_in t.states) operation_size t.operations
    (λ o. same_sum nodes_in (assigned_in (scope_of t.states o.params)) (λ (a : Assignment). act_nodes a.act) o.assignments (λ a. act_counts (scope_of t.states o.params) a.act)) in
    let queries = same_sum query_nodes (query_in t.states) query_size t.queries (λ q. sym (nodes_term (scope_of t.states q.params) (form_of q.right))) in
    omega (arith, whole, ops, queries)

-- what exceeds the limits
not_more : (a b : ℕ) → (b < a ⊎ a ≤ b) → (b < a → ⊥) → a ≤ b
not_more a b (inl lt) never = absurd (never lt)
not_more a b (inr le) never = le

low_of : (ls : List Load) → ((n : ℕ) → n < length ls → 24 < (slice_index_or ls n (other 0)).depth → ⊥) → Low ls
low_of [] h = tt
low_of (l ∷ ls) h = (not_more l.depth 24 (cases_lt 24 l.depth) (λ lt. h zero (omega arith) lt), low_of ls (λ n lt deep. h (suc n) (omega (arith, lt)) deep))

low_there : (ls : List Load) (n : ℕ) → Low ls → 24 < (slice_index_or ls n (other 0)).depth → ⊥
low_there [] n h deep = absurd (omega (arith, deep))
low_there (l ∷ ls) zero h deep = absurd (omega (arith, deep, h.0))
low_there (l ∷ ls) (suc n) h deep = low_there ls n h.1 deep

fewer_nodes : (xs ys ls : List Load) → xs ++ ys ≡ ls → node_count xs ≤ node_count ls
fewer_nodes xs ys ls e = subst (λ zs. node_count xs ≤ node_count zs) e (let both = nodes_append xs ys in omega (arith, both))

none_exceeds : (ls : List Load) → Low ls → node_count ls ≤ 400 → (n : ℕ) → Exceeds ls n → ⊥
none_exceeds ls low few n (inl deep) = low_there ls n low deep
none_exceeds ls low few n (inr many) =
    let fewer = fewer_nodes (take (suc n) ls) (drop (suc n) ls) ls (take-append-drop (suc n) ls) in absurd (omega (arith, many, few, fewer))

small_of : (t : TypeText) → Low (loads_of (written_form t)) → node_count (loads_of (written_form t)) ≤ 400 → IsSmall t
small_of t low few =
    let h = low_type t low in
    record { rights = h.rights; asked = h.asked; nodes = subst (λ n. n ≤ 400) (type_sum t) few }

pub written_of : (text : List ℕ) (t : TypeText) → IsTextOf text (written_form t) → IsWritten text t
written_of text t is =
    let loads = loads_of (written_form t) in
    let none : (m : ℕ) → m < length loads → Exceeds loads m → ⊥ = none_below (placed is.tokens) (written_form t) is.says is.small (length loads) (omega arith) in
    record {
      tokens = is.tokens;
      lexed = is.lexed;
      says = is.says;
      small = small_of t (low_of loads (λ n lt deep. none n lt (inl deep))) (few_of loads none);
    }

pub text_as : (text : List ℕ) (t : TypeText) → IsWritten text t → IsTextOf text (written_form t)
text_as text t is =
    let loads = loads_of (written_form t) in
    let whole = complete (placed is.tokens) (written_form t) is.says in
    let low = type_low t (record { rights = is.small.rights; asked = is.small.asked }) in
    let few : node_count loads ≤ 400 = subst (λ n. n ≤ 400) (sym (type_sum t)) is.small.nodes in
    record {
      tokens = is.tokens;
      lexed = is.lexed;
      says = is.says;
      small = λ k large.
          none_large (placed is.tokens) [] loads whole.last whole.passes (λ n lt e. none_exceeds loads low few n e) k large.within
          (subst (λ ts. TooLargeAt ts k) (sym (append-nil (placed is.tokens))) large);
    }
