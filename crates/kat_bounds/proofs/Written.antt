-- Names in an accepted text are names, and its ranks are short.
use Rattle.std.proofs.Common.{◌≡◌, ℕ, Bool, true, false, List, [], ◌∷◌, ◌++◌, map, All, sym, subst, Option, None, Some, length, arith, ◌≤◌}
use Rattle.std.specs.Prelude.{if◌then◌else◌, ◌==◌, ◌&&◌, codes}
use Rattle.std.proofs.lemmas.List.{length-map}
use Rattle.std.proofs.lemmas.List.Elements.{All-cons, All-head, All-map, All-nil, All-tail}
use Rattle.kat_num.specs.Names.{IsNameCode, code_of}
use Rattle.kat_num.specs.Values.{HasNameCode}
use Rattle.kat_num.specs.declared.values.Sort.TheVariants as sort
use Rattle.kat_num.specs.declared.values.Value.{Value}
use Rattle.kat_expr.specs.Terms.{Term}
use Rattle.kat_lex.specs.Tokens.{IsKind, Lexes, ends, stops, gap, token as lexed_token}
use Rattle.kat_lex.specs.Words.{is_reserved}
use Rattle.kat_lex.specs.declared.lexer.LexError.{LexError}
use Rattle.kat_lex.specs.declared.lexer.Token.{Token}
use Rattle.kat_lex.specs.declared.lexer.TokenKind.{TokenKind}
use Rattle.kat_lex.specs.declared.lexer.TokenKind.TheVariants as kind
use Rattle.kat_grammar.specs.Files.{lines_from, text_lines, with_line}
use Rattle.kat_grammar.specs.Forms.ActForm.{set, clear}
use Rattle.kat_grammar.specs.Forms.{ActForm, AssignmentForm, OperationForm, QueryForm, act_form, assignment_form, operation_form, query_form, type_form}
use Rattle.kat_grammar.specs.Lines.{IsOperation, act_tokens, assignment_tokens, assignments_tokens, head_tokens, kept_tokens, led, lines_of, operation_tokens, query_tokens, rank_tokens, state_tokens, target_tokens, type_tokens}
use Rattle.kat_grammar.specs.Marks.{in_format, is_newline, is_second, mark_of, mark_of_sign, mark_of_word, placed, token_placed}
use Rattle.kat_grammar.specs.Phrases.{Form, constant_tokens, form_of, form_tokens, token, word_token}
use Rattle.kat_grammar.specs.Phrases.Form.{constant, word, entry, negation, joined, chosen, branches, parens}
use Rattle.kat_grammar.specs.declared.marks.Extreme.{Extreme}
use Rattle.kat_grammar.specs.declared.marks.Extreme.TheVariants as extreme
use Rattle.kat_grammar.specs.declared.marks.Mark.{Mark}
use Rattle.kat_grammar.specs.declared.marks.Mark.TheVariants as mark
use Rattle.kat_grammar.specs.declared.marks.Operator.{Operator}
use Rattle.kat_grammar.specs.declared.marks.Operator.TheVariants as operator
use Rattle.kat_grammar.specs.declared.marks.Placed.{Placed}
use Rattle.kat_grammar.specs.declared.phrases.Act.{Act}
use Rattle.kat_grammar.specs.declared.phrases.Act.TheVariants as act
use Rattle.kat_grammar.specs.declared.phrases.Assignment.{Assignment}
use Rattle.kat_grammar.specs.declared.phrases.Kept.{Kept}
use Rattle.kat_grammar.specs.declared.phrases.Kept.TheVariants.{One, Each}
use Rattle.kat_grammar.specs.declared.phrases.Constant.{Constant}
use Rattle.kat_grammar.specs.declared.phrases.Constant.TheVariants.{Natural, Negative, Literal, Truth}
use Rattle.kat_grammar.specs.declared.phrases.Operation.{Operation}
use Rattle.kat_grammar.specs.declared.phrases.Query.{Query}
use Rattle.kat_grammar.specs.declared.phrases.State.{State}
use Rattle.kat_grammar.specs.declared.phrases.TypeText.{TypeText}
use Rattle.kat_type_file.specs.Names.{Scope, field_named, param_named}
use Rattle.kat_type_file.specs.Faults.{scope_of}
use Rattle.kat_type_file.specs.Typing.{act_in, assigned_in, chosen_term, constant_value, field_in, joined_term, kept_field, operation_in, query_in, rank_in, term_in, type_in, word_term}
use Rattle.kat_lex.proofs.PieceLemmas.{kind_known}
use Rattle.kat_type.specs.Types.{Assigned, OperationForm as OperationOfType, QueryForm as QueryOfType, TypeForm as TypeOfFile}
use Rattle.kat_type.specs.Within.{right_of}
use Rattle.kat_type_file.specs.TypeFiles.{IsTypeFile}
use Rattle.kat_type_file.proofs.Literals.{all_every, right_tokens}
use Rattle.kat_type_file.proofs.Nodes.{right_is}
use Rattle.kat_bounds.specs.Named.{HasNames, IsNamed, StartIsNamed}
use Rattle.kat_bounds.proofs.Conditions.{every_weaker}
use Rattle.kat_bounds.proofs.Facts.{Every, every_last}

every_front : {X : Type 0} (P : X → Type 0) (xs ys : List X) → Every P (xs ++ ys) → Every P xs
every_front P [] ys h = tt
every_front P (x ∷ xs) ys h = (h.0, every_front P xs ys h.1)

every_rest : {X : Type 0} (P : X → Type 0) (xs ys : List X) → Every P (xs ++ ys) → Every P ys
every_rest P [] ys h = h
every_rest P (x ∷ xs) ys h = every_rest P xs ys h.1

every_tail : {X : Type 0} (P : X → Type 0) (x : X) (xs : List X) → Every P (x ∷ xs) → Every P xs
every_tail P x xs h = h.1

every_mapped : {X Y : Type 0} (P : Y → Type 0) (f : X → Y) (xs : List X) → Every P (map f xs) → Every (λ x. P (f x)) xs
every_mapped P f [] h = tt
every_mapped P f (x ∷ xs) h = (h.0, every_mapped P f xs h.1)

-- a name has the code of one
abbrev IsNamedMark : Mark → Type 0
IsNamedMark (mark.Literal code) = IsNameCode code
IsNamedMark _ = Unit {0}

abbrev IsNamedToken : Placed → Type 0
IsNamedToken t = IsNamedMark t.mark

choose_named : (b : Bool) (m n : Mark) → IsNamedMark m → IsNamedMark n → IsNamedMark (if b then m else n)
choose_named true m n h k = h
choose_named false m n h k = k

word_named : (w : ℕ) → IsNamedMark (mark_of_word w)
word_named w =
    choose_named (w == code_of (codes "type")) mark.TypeLine _ tt (
    choose_named (w == code_of (codes "state")) mark.StateLine _ tt (
    choose_named (w == code_of (codes "op")) mark.OpLine _ tt (
    choose_named (w == code_of (codes "query")) mark.QueryLine _ tt (
    choose_named (w == code_of (codes "table")) mark.Table _ tt (
    choose_named (w == code_of (codes "rank")) mark.Rank _ tt (
    choose_named (w == code_of (codes "time")) mark.Time _ tt (
    choose_named (w == code_of (codes "replica")) mark.Replica _ tt (
    choose_named (w == code_of (codes "if")) mark.If _ tt (
    choose_named (w == code_of (codes "then")) mark.Then _ tt (
    choose_named (w == code_of (codes "else")) mark.Else _ tt (
    choose_named (w == code_of (codes "not")) mark.Not _ tt (
    choose_named (w == code_of (codes "or")) (mark.Operator operator.Or) _ tt (
    choose_named (w == code_of (codes "and")) (mark.Operator operator.And) _ tt (
    choose_named (w == code_of (codes "max")) (mark.Extreme extreme.Greatest) _ tt (
    choose_named (w == code_of (codes "min")) (mark.Extreme extreme.Least) _ tt (
    choose_named (w == code_of (codes "true")) (mark.Truth true) _ tt (
    choose_named (w == code_of (codes "false")) (mark.Truth false) _ tt (
    choose_named (w == code_of (codes "bool")) (mark.Sort sort.Bool) _ tt (
    choose_named (w == code_of (codes "int")) (mark.Sort sort.Int) _ tt (
    choose_named (w == code_of (codes "nat")) (mark.Sort sort.Nat) _ tt (
    choose_named (w == code_of (codes "name")) (mark.Sort sort.Name) _ tt (
    choose_named (is_reserved w) mark.Other (mark.Word w) tt tt))))))))))))))))))))))

sign_named : (first second : ℕ) → IsNamedMark (mark_of_sign first second)
sign_named first second =
    choose_named (first == 40) mark.Open _ tt (
    choose_named (first == 41) mark.Close _ tt (
    choose_named (first == 91) mark.OpenBracket _ tt (
    choose_named (first == 93) mark.CloseBracket _ tt (
    choose_named (first == 44) mark.Comma _ tt (
    choose_named (first == 59) mark.Semicolon _ tt (
    choose_named (first == 61) (mark.Operator operator.Same) _ tt (
    choose_named (first == 43) (mark.Operator operator.Plus) _ tt (
    choose_named ((first == 58) && (second == 61)) mark.Assign _ tt (
    choose_named (first == 58) mark.Colon _ tt (
    choose_named ((first == 60) && (second == 61)) (mark.Operator operator.AtMost) _ tt (
    choose_named (first == 60) (mark.Operator operator.Less) _ tt (
    choose_named ((first == 45) && (second == 62)) mark.Arrow _ tt (
    choose_named (first == 45) (mark.Operator operator.Minus) mark.Other tt tt)))))))))))))

kind_named : (text : List ℕ) (from to : ℕ) (k : TokenKind) → IsKind text from to k → IsNamedMark (mark_of k)
kind_named text from to (kind.Word w) h = word_named w
kind_named text from to (kind.Name name) h = kind_known text from to (kind.Name name) h
kind_named text from to (kind.Number n) h = tt
kind_named text from to (kind.Sign first second) h = sign_named first second
kind_named text from to kind.Newline h = tt

format_named : (second : Bool) (m : Mark) → IsNamedMark m → IsNamedMark (in_format second m)
format_named second (mark.Word w) h = choose_named (second && (w == code_of (codes "clear"))) mark.Clear (mark.Word w) tt tt
format_named second m h = h

tokens_named : {text : List ℕ} {at : ℕ} {tokens : List Token} {end : Option LexError} (second : Bool) → Lexes text at tokens end → Every IsNamedToken (map (token_placed second) tokens)
tokens_named second (ends past) = tt
tokens_named second (stops before fault) = tt
tokens_named second (gap to before is more) = tokens_named second more
tokens_named {text} {at} second (lexed_token first before is more) = (format_named second (mark_of first.kind) (kind_named text at first.to first.kind is.kind), tokens_named second more)

-- the tokens of the lines are those of the text
begun_named : (line : List Placed) (lines : List (List Placed)) → Every IsNamedToken line → Every (Every IsNamedToken) lines → Every (Every IsNamedToken) (with_line line lines)
begun_named [] lines h k = k
begun_named (t ∷ line) lines h k = (h, k)

by_newline : (b : Bool) (xs ys : List (List Placed)) → Every (Every IsNamedToken) xs → Every (Every IsNamedToken) ys → Every (Every IsNamedToken) (if b then xs else ys)
by_newline true xs ys h k = h
by_newline false xs ys h k = k

lines_named : (line tokens : List Placed) → Every IsNamedToken line → Every IsNamedToken tokens → Every (Every IsNamedToken) (lines_from line tokens)
lines_named line [] h k = begun_named line [] h tt
lines_named line (t ∷ tokens) h k =
    by_newline (is_newline t.mark) (with_line line (lines_from [] tokens)) (lines_from (line ++ t ∷ []) tokens)
    (begun_named line (lines_from [] tokens) h (lines_named [] tokens tt k.1)) (lines_named (line ++ t ∷ []) tokens (every_last IsNamedToken line t h k.0) k.1)

-- constants and expressions of such tokens
constant_named : (c : Constant) → Every IsNamedToken (constant_tokens c) → HasNameCode (constant_value c)
constant_named (Natural at n) h = tt
constant_named (Negative at number_at n) h = tt
constant_named (Literal at name) h = h.0
constant_named (Truth at b) h = tt

joined_names : (op : Operator) (a b : Term) → HasNames a → HasNames b → HasNames (joined_term op a b)
joined_names operator.Or a b h k = (h, k)
joined_names operator.And a b h k = (h, k)
joined_names operator.Less a b h k = (h, k)
joined_names operator.AtMost a b h k = (h, k)
joined_names operator.Same a b h k = (h, k)
joined_names operator.Plus a b h k = (h, k)
joined_names operator.Minus a b h k = (h, k)

chosen_names : (e : Extreme) (a b : Term) → HasNames a → HasNames b → HasNames (chosen_term e a b)
chosen_names extreme.Greatest a b h k = (h, k)
chosen_names extreme.Least a b h k = (h, k)

form_named : (scope : Scope) (f : Form) → Every IsNamedToken (form_tokens f) → HasNames (term_in scope f)
form_named scope (constant c) h = constant_named c h
form_named scope (word w) h = elim (param_named scope w.code) as (λ p. HasNames (word_term p (field_named scope w.code))) [ Some p ↦ tt | None ↦ tt ]
form_named scope (entry table open_at key close_at) h = tt
form_named scope (negation at a) h = form_named scope a (every_tail IsNamedToken (token mark.Not at) (form_tokens a) h)
form_named scope (joined op at a b) h =
    joined_names op (term_in scope a) (term_in scope b) (form_named scope a (every_front IsNamedToken (form_tokens a) (token (mark.Operator op) at ∷ form_tokens b) h))
    (form_named scope b (every_tail IsNamedToken (token (mark.Operator op) at) (form_tokens b) (every_rest IsNamedToken (form_tokens a) (token (mark.Operator op) at ∷ form_tokens b) h)))
form_named scope (chosen e at open_at a comma b close_at) h =
    let left : List Placed = token mark.Open open_at ∷ form_tokens a in
    let right : List Placed = token mark.Comma comma ∷ form_tokens b in
    let front = every_front IsNamedToken (token (mark.Extreme e) at ∷ left ++ right) (token mark.Close close_at ∷ []) h in
    let first = every_tail IsNamedToken (token (mark.Extreme e) at) left (every_front IsNamedToken (token (mark.Extreme e) at ∷ left) right front) in
    let second = every_rest IsNamedToken (token (mark.Extreme e) at ∷ left) right front in
    chosen_names e (term_in scope a) (term_in scope b) (form_named scope a (every_tail IsNamedToken (token mark.Open open_at) (form_tokens a) first))
    (form_named scope b (every_tail IsNamedToken (token mark.Comma comma) (form_tokens b) second))
form_named scope (branches at c then_at a else_at b) h =
    let test : List Placed = token mark.If at ∷ form_tokens c in
    let left : List Placed = token mark.Then then_at ∷ form_tokens a in
    let right : List Placed = token mark.Else else_at ∷ form_tokens b in
    let front = every_front IsNamedToken (test ++ left) right h in (
      form_named scope c (every_tail IsNamedToken (token mark.If at) (form_tokens c) (every_front IsNamedToken test left front)),
      form_named scope a (every_tail IsNamedToken (token mark.Then then_at) (form_tokens a) (every_rest IsNamedToken test left front)),
      form_named scope b (every_tail IsNamedToken (token mark.Else else_at) (form_tokens b) (every_rest IsNamedToken (test ++ left) right h)),
    )
form_named scope (parens open_at a close_at) h =
    form_named scope a (every_tail IsNamedToken (token mark.Open open_at) (form_tokens a) (every_front IsNamedToken (token mark.Open open_at ∷ form_tokens a) (token mark.Close close_at ∷ []) h))

-- the starts and expressions of a text have small tokens
record AreNamed (t : TypeText) : Type 0 where
  pub starts : Every (λ (s : State). Every IsNamedToken (constant_tokens s.start)) t.states
  pub rights : Every (λ (o : Operation). Every (λ (a : Assignment). Every IsNamedToken (right_tokens (act_form a.act))) o.assignments) t.operations
  pub asked : Every (λ (q : Query). Every IsNamedToken (form_tokens (form_of q.right))) t.queries

every_led : {Item : Type 0} (first later : Mark) (lead : Item → ℕ) (tokens : Item → List Placed) (items : List Item) → Every IsNamedToken (led first later lead tokens items)
    → Every (λ item. Every IsNamedToken (tokens item)) items
every_led first later lead tokens [] h = tt
every_led first later lead tokens (item ∷ items) h =
    let behind = every_tail IsNamedToken (token first (lead item)) (tokens item ++ led later later lead tokens items) h in (
      every_front IsNamedToken (tokens item) (led later later lead tokens items) behind,
      every_led later later lead tokens items (every_rest IsNamedToken (tokens item) (led later later lead tokens items) behind),
    )

state_named : (s : State) → Every IsNamedToken (state_tokens s) → Every IsNamedToken (constant_tokens s.start)
state_named s h =
    every_tail IsNamedToken (token (mark.Operator operator.Same) s.equal) (constant_tokens s.start)
    (every_rest IsNamedToken (token mark.StateLine s.at ∷ word_token s.name ∷ token mark.Colon s.colon ∷ kept_tokens s.kept) (token (mark.Operator operator.Same) s.equal ∷ constant_tokens s.start) h)

right_named : (a : AssignmentForm) → Every IsNamedToken (assignment_tokens a) → Every IsNamedToken (right_tokens a.act)
right_named a h = act_named a.act h
  where
    act_named : (a : ActForm) → Every IsNamedToken (act_tokens a) → Every IsNamedToken (right_tokens a)
    act_named (set to assign right) h =
        every_tail IsNamedToken (token mark.Assign assign) (form_tokens right) (every_rest IsNamedToken (target_tokens to) (token mark.Assign assign ∷ form_tokens right) h)
    act_named (clear at table) h = tt

operation_named : (o : Operation) → Every IsNamedToken (operation_tokens (operation_form o)) → Every (λ (a : Assignment). Every IsNamedToken (right_tokens (act_form a.act))) o.assignments
operation_named o h =
    let assigns = every_rest IsNamedToken (head_tokens mark.OpLine o.at o.name o.open_at o.params o.close_at ++ rank_tokens o.rank) (assignments_tokens (map assignment_form o.assignments)) h in
    every_mapped (λ (a : AssignmentForm). Every IsNamedToken (right_tokens a.act)) assignment_form o.assignments
    (every_weaker (λ (a : AssignmentForm). Every IsNamedToken (assignment_tokens a)) (λ (a : AssignmentForm). Every IsNamedToken (right_tokens a.act)) (map assignment_form o.assignments) right_named
    (every_led mark.Colon mark.Semicolon (λ (a : AssignmentForm). a.lead) assignment_tokens (map assignment_form o.assignments) assigns))

query_named : (q : Query) → Every IsNamedToken (query_tokens (query_form q)) → Every IsNamedToken (form_tokens (form_of q.right))
query_named q h =
    let right : List Placed = form_tokens (form_of q.right) in
    let behind = every_rest IsNamedToken (head_tokens mark.QueryLine q.at q.name q.open_at q.params q.close_at)
    (token mark.Colon q.colon ∷ token (mark.Sort q.sort) q.sort_at ∷ token (mark.Operator operator.Same) q.equal ∷ right) h in
    every_tail IsNamedToken (token (mark.Operator operator.Same) q.equal) right
    (every_tail IsNamedToken (token (mark.Sort q.sort) q.sort_at) (token (mark.Operator operator.Same) q.equal ∷ right)
    (every_tail IsNamedToken (token mark.Colon q.colon) (token (mark.Sort q.sort) q.sort_at ∷ token (mark.Operator operator.Same) q.equal ∷ right) behind))

are_named : {text : List ℕ} {tokens : List Token} {end : Option LexError} (t : TypeText) → Lexes text 0 tokens end → text_lines (placed tokens) ≡ lines_of (type_form t) → AreNamed t
are_named {tokens = tokens} t lexed written =
    let lines : Every (Every IsNamedToken) (lines_of (type_form t)) = subst (λ ls. Every (Every IsNamedToken) ls) written (lines_named [] (placed tokens) tt (tokens_named (is_second tokens) lexed)) in
    let states : List (List Placed) = map state_tokens t.states in
    let operations : List (List Placed) = map operation_tokens (map operation_form t.operations) in
    let queries : List (List Placed) = map query_tokens (map query_form t.queries) in
    let items = every_tail (Every IsNamedToken) (type_tokens (type_form t)) (states ++ operations ++ queries) lines in
    let front = every_front (Every IsNamedToken) (states ++ operations) queries items in
    record {
      starts = every_weaker (λ (s : State). Every IsNamedToken (state_tokens s)) (λ (s : State). Every IsNamedToken (constant_tokens s.start)) t.states state_named
          (every_mapped (Every IsNamedToken) state_tokens t.states (every_front (Every IsNamedToken) states operations front));
      rights = every_weaker (λ (o : Operation). Every IsNamedToken (operation_tokens (operation_form o))) (λ (o : Operation). Every (λ (a : Assignment). Every IsNamedToken (right_tokens (act_form a.act))) o.assignments)
          t.operations operation_named
          (every_mapped (λ (o : OperationForm). Every IsNamedToken (operation_tokens o)) operation_form t.operations
          (every_mapped (Every IsNamedToken) operation_tokens (map operation_form t.operations) (every_rest (Every IsNamedToken) states operations front)));
      asked = every_weaker (λ (q : Query). Every IsNamedToken (query_tokens (query_form q))) (λ (q : Query). Every IsNamedToken (form_tokens (form_of q.right))) t.queries query_named
          (every_mapped (λ (q : QueryForm). Every IsNamedToken (query_tokens q)) query_form t.queries
          (every_mapped (Every IsNamedToken) query_tokens (map query_form t.queries) (every_rest (Every IsNamedToken) (states ++ operations) queries items)));
    }

-- the type that a text says
start_named : (k : Kept) (name : ℕ) (v : Value) → HasNameCode v → StartIsNamed (kept_field k name v)
start_named (One sort_at s) name v h = h
start_named (Each table key_at key arrow sort_at s) name v h = h

assigned_named : (scope : Scope) (a : Act) → Every IsNamedToken (right_tokens (act_form a)) → HasNames (right_of (act_in scope a))
assigned_named scope (act.Set to assign right) h = subst HasNames (sym (right_is scope to (term_in scope (form_of right)))) (form_named scope (form_of right) h)
assigned_named scope (act.Clear at table) h = tt

operation_names : (states : List State) (o : Operation) → Every (λ (a : Assignment). Every IsNamedToken (right_tokens (act_form a.act))) o.assignments → All (λ (a : Assigned). HasNames (right_of a)) (operation_in states o).assigned
operation_names states o h =
    let scope : Scope = scope_of states o.params in
    All-map (λ (a : Assigned). HasNames (right_of a)) (assigned_in scope) o.assignments
    (all_every (λ (a : Assignment). HasNames (right_of (assigned_in scope a))) o.assignments
    (every_weaker (λ (a : Assignment). Every IsNamedToken (right_tokens (act_form a.act))) (λ (a : Assignment). HasNames (right_of (assigned_in scope a))) o.assignments (λ a k. assigned_named scope a.act k) h))

type_named : (t : TypeText) → AreNamed t → IsNamed (type_in t)
type_named t named = record {
  starts = All-map StartIsNamed field_in t.states
      (all_every (λ (s : State). StartIsNamed (field_in s)) t.states
      (every_weaker (λ (s : State). Every IsNamedToken (constant_tokens s.start)) (λ (s : State). StartIsNamed (field_in s)) t.states (λ s k. start_named s.kept s.name.code (constant_value s.start) (constant_named s.start k)) named.starts));
  operations = All-map (λ (o : OperationOfType). All (λ (a : Assigned). HasNames (right_of a)) o.assigned) (operation_in t.states) t.operations
      (all_every (λ (o : Operation). All (λ (a : Assigned). HasNames (right_of a)) (operation_in t.states o).assigned) t.operations
      (every_weaker (λ (o : Operation). Every (λ (a : Assignment). Every IsNamedToken (right_tokens (act_form a.act))) o.assignments) (λ (o : Operation). All (λ (a : Assigned). HasNames (right_of a)) (operation_in t.states o).assigned) t.operations
      (operation_names t.states) named.rights));
  queries = All-map (λ (q : QueryOfType). HasNames q.right) (query_in t.states) t.queries
      (all_every (λ (q : Query). HasNames (query_in t.states q).right) t.queries
      (every_weaker (λ (q : Query). Every IsNamedToken (form_tokens (form_of q.right))) (λ (q : Query). HasNames (query_in t.states q).right) t.queries (λ q k. form_named (scope_of t.states q.params) (form_of q.right) k) named.asked));
}

pub file_named : (text : List ℕ) (ty : TypeOfFile) → IsTypeFile text ty → IsNamed ty
file_named text ty f = subst (λ t. IsNamed t) (sym f.says) (type_named f.phrases (are_named f.phrases f.is_text.lexed f.is_text.says.written))

-- ranks have at most three elements
ranks_short : (states : List State) (operations : List Operation) → All IsOperation (map operation_form operations) → All (λ (o : OperationOfType). length o.ranks ≤ 3) (map (operation_in states) operations)
ranks_short states [] h = All-nil (λ (o : OperationOfType). length o.ranks ≤ 3)
ranks_short states (o ∷ operations) h =
    let first = All-head IsOperation (operation_form o) (map operation_form operations) h in
    let short : length (operation_in states o).ranks ≤ 3 = omega (arith, first.1.1, length-map o.rank (rank_in (scope_of states o.params))) in
    All-cons (λ (x : OperationOfType). length x.ranks ≤ 3) (operation_in states o) (map (operation_in states) operations) short
    (ranks_short states operations (All-tail IsOperation (operation_form o) (map operation_form operations) h))

pub file_ranks : (text : List ℕ) (ty : TypeOfFile) → IsTypeFile text ty → All (λ (o : OperationOfType). length o.ranks ≤ 3) ty.ops
file_ranks text ty f = subst (λ (t : TypeOfFile). All (λ (o : OperationOfType). length o.ranks ≤ 3) t.ops) (sym f.says) (ranks_short f.phrases.states f.phrases.operations f.is_text.says.formed.operations)
