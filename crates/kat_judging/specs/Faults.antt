-- The rules that a type breaks, each with its place: names, sorts and ranks.
use Rattle.std.specs.Prelude.{ℕ, Bool, true, false, ◌||◌, ◌&&◌, not, ◌==◌, List, [], ◌∷◌, ◌++◌, length, map, min, nat_lt, Option, None, Some, if◌then◌else◌}
use Rattle.std.specs.List.{flat_map, slice_index_or}
use Rattle.kat_num.specs.declared.values.Sort.{Sort}
use Rattle.kat_num.specs.declared.values.Sort.TheVariants as sort
use Rattle.kat_grammar.specs.Phrases.{Form, form_of}
use Rattle.kat_grammar.specs.Phrases.Form.{constant, word, entry, negation, joined, chosen, branches, parens}
use Rattle.kat_grammar.specs.declared.marks.Operator.{Operator}
use Rattle.kat_grammar.specs.declared.marks.Operator.TheVariants as operator
use Rattle.kat_grammar.specs.declared.phrases.Act.{Act}
use Rattle.kat_grammar.specs.declared.phrases.Act.TheVariants as act
use Rattle.kat_grammar.specs.declared.phrases.Assignment.{Assignment}
use Rattle.kat_grammar.specs.declared.phrases.Constant.{Constant}
use Rattle.kat_grammar.specs.declared.phrases.Constant.TheVariants.{Natural, Negative, Literal, Truth}
use Rattle.kat_grammar.specs.declared.phrases.Kept.{Kept}
use Rattle.kat_grammar.specs.declared.phrases.Kept.TheVariants.{One, Each}
use Rattle.kat_grammar.specs.declared.phrases.Operation.{Operation}
use Rattle.kat_grammar.specs.declared.phrases.Parameter.{Parameter}
use Rattle.kat_grammar.specs.declared.phrases.Query.{Query}
use Rattle.kat_grammar.specs.declared.phrases.RankElement.{RankElement}
use Rattle.kat_grammar.specs.declared.phrases.RankElement.TheVariants as rank
use Rattle.kat_grammar.specs.declared.phrases.RankPart.{RankPart}
use Rattle.kat_grammar.specs.declared.phrases.State.{State}
use Rattle.kat_grammar.specs.declared.phrases.Target.{Target}
use Rattle.kat_grammar.specs.declared.phrases.Target.TheVariants as target
use Rattle.kat_grammar.specs.declared.phrases.TypeText.{TypeText}
use Rattle.kat_grammar.specs.declared.phrases.Word.{Word}
use Rattle.kat_type.specs.Names.{is_among}
use Rattle.kat_judging.specs.Names.{Scope, field_named, named_param, param_named}
use Rattle.kat_judging.specs.declared.names.Declared.{Declared}
use Rattle.kat_judging.specs.KnownSorts.{accepts, family_of, found_family}
use Rattle.kat_judging.specs.Sorts.{constant_sort, found_of, kept_sort}
use Rattle.kat_judging.specs.declared.found.Family.{Family}
use Rattle.kat_judging.specs.declared.found.Family.TheVariants.{Numbers, Names, Truths}
use Rattle.kat_judging.specs.declared.found.Found.{Found}
use Rattle.kat_judging.specs.declared.found.Found.TheVariants.{Exactly}
pub use Rattle.kat_judging.specs.declared.faults.Fault.{Fault}

abbrev pub fault : ℕ → ℕ → List Fault
fault number at = record { at = at; number = number } ∷ []

-- a fault if this is so
abbrev pub fault_if : Bool → ℕ → ℕ → List Fault
fault_if broken number at = if broken then fault number at else []

-- the first token of a constant and of an expression
abbrev pub constant_start : Constant → ℕ
constant_start (Natural at n) = at
constant_start (Negative at number_at n) = at
constant_start (Literal at name) = at
constant_start (Truth at b) = at

abbrev pub start_of : Form → ℕ
start_of (constant c) = constant_start c
start_of (word w) = w.at
start_of (entry table open_at key close_at) = table.at
start_of (negation at a) = at
start_of (joined op at a b) = start_of a
start_of (chosen e at open_at a comma b close_at) = at
start_of (branches at c then_at a else_at b) = at
start_of (parens open_at a close_at) = open_at

-- an expression of which this is known, and which begins here, is given where a sort is required
abbrev pub asked_fault : Sort → Found → ℕ → List Fault
asked_fault asked found at = fault_if (not (accepts asked found)) 7 at

abbrev pub asked_faults : Sort → Scope → Form → List Fault
asked_faults asked scope a = asked_fault asked (found_of scope a) (start_of a)

abbrev pub is_table : Kept → Bool
is_table (One sort_at s) = false
is_table (Each table key_at key arrow sort_at s) = true

-- a word that means a parameter or a plain field
abbrev pub word_faults : Option (Declared Parameter) → Option (Declared State) → ℕ → List Fault
word_faults (Some p) field at = []
word_faults None None at = fault 5 at
word_faults None (Some d) at = fault_if (is_table d.it.kept) 7 at

abbrev pub is_sort : Sort → Sort → Bool
is_sort sort.Bool sort.Bool = true
is_sort sort.Int sort.Int = true
is_sort sort.Nat sort.Nat = true
is_sort sort.Name sort.Name = true
is_sort one other = false

-- a table at a key: a field that is a table, and a parameter of Exactly its key sort
abbrev pub key_faults : Option Sort → Option (Declared Parameter) → ℕ → List Fault
key_faults asked None at = fault 5 at
key_faults None (Some p) at = []
key_faults (Some asked) (Some p) at = fault_if (not (is_sort asked p.it.sort)) 7 at

abbrev pub key_of : Kept → Option Sort
key_of (One sort_at s) = None
key_of (Each table key_at key arrow sort_at s) = Some key

abbrev pub key_sort : Option (Declared State) → Option Sort
key_sort None = None
key_sort (Some d) = key_of d.it.kept

abbrev pub table_faults : Option (Declared State) → ℕ → List Fault
table_faults None at = fault 5 at
table_faults (Some d) at = fault_if (not (is_table d.it.kept)) 7 at

abbrev pub entry_faults : Scope → Word → Word → List Fault
entry_faults scope table key =
    table_faults (field_named scope table.code) table.at ++ key_faults (key_sort (field_named scope table.code)) (param_named scope key.code) key.at

abbrev pub is_truths : Option Family → Bool
is_truths (Some Truths) = true
is_truths family = false

-- the second of two is of another kind than the first, or a truth value; if a kind isn't known no rule is broken
abbrev pub is_other_family : Option Family → Option Family → Bool
is_other_family first None = false
is_other_family first (Some Truths) = true
is_other_family (Some Numbers) (Some Names) = true
is_other_family (Some Names) (Some Numbers) = true
is_other_family first second = false

-- two numbers or two names
abbrev pub two_fault : Found → ℕ → Found → ℕ → List Fault
two_fault left at right right_at =
    fault_if (is_truths (found_family left)) 7 at ++ fault_if (is_other_family (found_family left) (found_family right)) 7 right_at

abbrev pub two_faults : Scope → Form → Form → List Fault
two_faults scope a b = two_fault (found_of scope a) (start_of a) (found_of scope b) (start_of b)

-- `or` and `and` take truth values, sums and differences numbers, and comparisons two numbers or two names
abbrev pub operand_fault : Operator → Found → ℕ → Found → ℕ → List Fault
operand_fault operator.Or left at right right_at = asked_fault sort.Bool left at ++ asked_fault sort.Bool right right_at
operand_fault operator.And left at right right_at = asked_fault sort.Bool left at ++ asked_fault sort.Bool right right_at
operand_fault operator.Plus left at right right_at = asked_fault sort.Int left at ++ asked_fault sort.Int right right_at
operand_fault operator.Minus left at right right_at = asked_fault sort.Int left at ++ asked_fault sort.Int right right_at
operand_fault operator.Less left at right right_at = two_fault left at right right_at
operand_fault operator.AtMost left at right right_at = two_fault left at right right_at
operand_fault operator.Same left at right right_at = two_fault left at right right_at

abbrev pub operand_faults : Operator → Scope → Form → Form → List Fault
operand_faults op scope a b = operand_fault op (found_of scope a) (start_of a) (found_of scope b) (start_of b)

-- all rules of words and sorts that an expression breaks
abbrev pub form_faults : Scope → Form → List Fault
form_faults scope (constant c) = []
form_faults scope (word w) = word_faults (param_named scope w.code) (field_named scope w.code) w.at
form_faults scope (entry table open_at key close_at) = entry_faults scope table key
form_faults scope (negation at a) = asked_faults sort.Bool scope a ++ form_faults scope a
form_faults scope (joined op at a b) = operand_faults op scope a b ++ form_faults scope a ++ form_faults scope b
form_faults scope (chosen e at open_at a comma b close_at) = two_faults scope a b ++ form_faults scope a ++ form_faults scope b
form_faults scope (branches at c then_at a else_at b) =
    asked_faults sort.Bool scope c ++ two_faults scope a b ++ form_faults scope c ++ form_faults scope a ++ form_faults scope b
form_faults scope (parens open_at a close_at) = form_faults scope a

-- each word that is among those before it
abbrev pub twice_among : List ℕ → List Word → List Fault
twice_among before [] = []
twice_among before (w ∷ words) = fault_if (is_among before w.code) 6 w.at ++ twice_among (w.code ∷ before) words

abbrev pub field_codes : List State → List ℕ
field_codes states = map (λ (s : State). s.name.code) states

abbrev pub start_faults : State → List Fault
start_faults s = fault_if (not (accepts (kept_sort s.kept) (Exactly (constant_sort s.start)))) 7 (constant_start s.start)

-- fields have different names, and starts of their sorts
abbrev pub state_faults : List State → List Fault
state_faults states = twice_among [] (map (λ (s : State). s.name) states) ++ flat_map start_faults states

-- parameters of an item differ from each other and from all fields
abbrev pub param_faults : List State → List Parameter → List Fault
param_faults states params = twice_among (field_codes states) (map (λ (p : Parameter). p.name) params)

-- an element of a rank that is a word is a parameter, and no truth value
abbrev pub element_param_faults : Option (Declared Parameter) → ℕ → List Fault
element_param_faults None at = fault 5 at
element_param_faults (Some p) at = fault_if (is_truths (Some (family_of p.it.sort))) 7 at

abbrev pub element_faults : List Parameter → RankElement → List Fault
element_faults params (rank.Parameter w) = element_param_faults (named_param params w.code) w.at
element_faults params element = []

abbrev pub part_faults : List Parameter → RankPart → List Fault
part_faults params part = element_faults params part.element

-- the kind of an element of a rank, if it is known: number or name
abbrev pub chosen_family : Family → Option Family
chosen_family Truths = None
chosen_family family = Some family

abbrev pub param_family : Option (Declared Parameter) → Option Family
param_family None = None
param_family (Some p) = chosen_family (family_of p.it.sort)

abbrev pub element_family : List Parameter → RankElement → Option Family
element_family params (rank.Parameter w) = param_family (named_param params w.code)
element_family params element = Some Numbers

abbrev pub part_family : List Parameter → RankPart → Option Family
part_family params part = element_family params part.element

abbrev pub element_start : RankElement → ℕ
element_start (rank.Digit at n) = at
element_start (rank.Time at) = at
element_start (rank.Replica at) = at
element_start (rank.Parameter w) = w.at

-- elements of another kind than those of the first operation
abbrev pub kind_faults : List (Option Family) → List Parameter → List RankPart → List Fault
kind_faults [] params parts = []
kind_faults families params [] = []
kind_faults (family ∷ families) params (part ∷ parts) =
    fault_if (is_other_family family (part_family params part)) 8 (element_start part.element) ++ kind_faults families params parts

-- the token after this many elements: the comma before the next one, or the colon
abbrev pub behind_elements : ℕ → List RankPart → ℕ → ℕ
behind_elements count parts colon = slice_index_or (map (λ (part : RankPart). part.lead) parts) count colon

-- ranks match those of the first operation: as many elements, of the same kinds
abbrev pub match_faults : List (Option Family) → List Parameter → List RankPart → ℕ → List Fault
match_faults families params parts colon =
    kind_faults families params parts
    ++ fault_if (not (length families == length parts)) 8 (behind_elements (min (length families) (length parts)) parts colon)

-- what is assigned: a field that is no table, or a table at a key; and not twice in an operation
abbrev pub target_word : Target → Word
target_word (target.Field w) = w
target_word (target.Entry table open_at key close_at) = table

abbrev pub plain_target_faults : Option (Declared State) → ℕ → List Fault
plain_target_faults None at = fault 5 at
plain_target_faults (Some d) at = fault_if (is_table d.it.kept) 7 at

abbrev pub target_faults : Scope → Target → List Fault
target_faults scope (target.Field w) = plain_target_faults (field_named scope w.code) w.at
target_faults scope (target.Entry table open_at key close_at) = entry_faults scope table key

-- a field is assigned before in the operation; a word that is no field is unknown, however often
abbrev pub again_faults : List ℕ → Option (Declared State) → Word → List Fault
again_faults before None w = []
again_faults before (Some d) w = fault_if (is_among before w.code) 6 w.at

-- the right side has a sort that its field accepts
abbrev pub right_fault : Option (Declared State) → Found → ℕ → List Fault
right_fault None found at = []
right_fault (Some d) found at = asked_fault (kept_sort d.it.kept) found at

abbrev pub right_faults : Option (Declared State) → Scope → Form → List Fault
right_faults field scope right = right_fault field (found_of scope right) (start_of right)

abbrev pub set_faults : List ℕ → Scope → Target → Form → List Fault
set_faults before scope to right =
    target_faults scope to
    ++ again_faults before (field_named scope (target_word to).code) (target_word to)
    ++ right_faults (field_named scope (target_word to).code) scope right
    ++ form_faults scope right

-- what is cleared is a table, and was neither assigned nor cleared before in the operation
abbrev pub clear_faults : List ℕ → Option (Declared State) → Word → List Fault
clear_faults before field table = table_faults field table.at ++ again_faults before field table

abbrev pub act_faults : List ℕ → Scope → Act → List Fault
act_faults before scope (act.Set to assign right) = set_faults before scope to (form_of right)
act_faults before scope (act.Clear at table) = clear_faults before (field_named scope table.code) table

abbrev pub assignment_faults : List ℕ → Scope → Assignment → List Fault
assignment_faults before scope a = act_faults before scope a.act

-- the word of what is assigned or cleared
abbrev pub act_word : Act → Word
act_word (act.Set to assign right) = target_word to
act_word (act.Clear at table) = table

abbrev pub assignments_faults : List ℕ → Scope → List Assignment → List Fault
assignments_faults before scope [] = []
assignments_faults before scope (a ∷ assigns) =
    assignment_faults before scope a ++ assignments_faults (before ++ (act_word a.act).code ∷ []) scope assigns

-- the colon before the assignments
abbrev pub colon_of : List Assignment → ℕ
colon_of [] = 0
colon_of (a ∷ assigns) = a.lead

abbrev pub scope_of : List State → List Parameter → Scope
scope_of states params = record { fields = states; params = params }

-- an operation, if the first one's rank has elements of these kinds
abbrev pub operation_faults : List State → List (Option Family) → Operation → List Fault
operation_faults states families o =
    param_faults states o.params
    ++ flat_map (part_faults o.params) o.rank
    ++ match_faults families o.params o.rank (colon_of o.assignments)
    ++ assignments_faults [] (scope_of states o.params) o.assignments

-- the kinds of the first operation's rank
abbrev pub first_families : List Operation → List (Option Family)
first_families [] = []
first_families (o ∷ ops) = map (part_family o.params) o.rank

abbrev pub query_faults : List State → Query → List Fault
query_faults states q =
    param_faults states q.params
    ++ asked_faults q.sort (scope_of states q.params) (form_of q.right)
    ++ form_faults (scope_of states q.params) (form_of q.right)

-- operations and queries together have different names
abbrev pub item_names : TypeText → List Word
item_names t = map (λ (o : Operation). o.name) t.operations ++ map (λ (q : Query). q.name) t.queries

-- all rules of names, sorts and ranks that a type breaks
abbrev pub faults_of : TypeText → List Fault
faults_of t =
    state_faults t.states
    ++ twice_among [] (item_names t)
    ++ flat_map (operation_faults t.states (first_families t.operations)) t.operations
    ++ flat_map (query_faults t.states) t.queries

-- one fault comes before another: at an earlier byte, or at the same one with a smaller number
abbrev pub is_before : Fault → Fault → Bool
is_before a b = (nat_lt a.at b.at) || ((a.at == b.at) && nat_lt a.number b.number)

-- the first of two, and of a list
abbrev pub earlier : Option Fault → Option Fault → Option Fault
earlier None b = b
earlier (Some a) None = Some a
earlier (Some a) (Some b) = if is_before b a then Some b else Some a

abbrev pub first_of : List Fault → Option Fault
first_of [] = None
first_of (a ∷ faults) = earlier (Some a) (first_of faults)
