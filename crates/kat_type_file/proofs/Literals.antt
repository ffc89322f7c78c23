-- Numbers in an accepted text are within the limit of literals.
use Rattle.std.proofs.Common.{◌≡◌, ℕ, zero, suc, ◌≤◌, Bool, true, false, List, [], ◌∷◌, ◌++◌, map, All, refl, sym, subst, Option, None, Some, pos}
use Rattle.std.specs.Prelude.{if◌then◌else◌, unsigned_abs, neg_ℤ, ◌==◌, ◌&&◌, codes}
use Rattle.std.proofs.lemmas.List.Elements.{All-cons, All-nil}
use Rattle.kat_num.specs.Names.{code_of}
use Rattle.kat_num.specs.declared.values.Sort.TheVariants as sort
use Rattle.kat_num.specs.declared.values.TheConstants.{NUMBER_LIMIT}
use Rattle.kat_expr.specs.Limits.{HasConstantsAtMost, IsAtMost}
use Rattle.kat_expr.specs.Terms.{Term}
use Rattle.kat_lex.specs.Tokens.{IsKind, Lexes, ends, stops, gap, token as lexed_token}
use Rattle.kat_lex.specs.Words.{is_reserved}
use Rattle.kat_lex.specs.declared.lexer.LexError.{LexError}
use Rattle.kat_lex.specs.declared.lexer.Token.{Token}
use Rattle.kat_lex.specs.declared.lexer.TokenKind.{TokenKind}
use Rattle.kat_lex.specs.declared.lexer.TokenKind.TheVariants as kind
use Rattle.kat_grammar.specs.Files.{lines_from, text_lines, with_line}
use Rattle.kat_grammar.specs.Forms.ActForm.{set, clear}
use Rattle.kat_grammar.specs.Forms.{ActForm, AssignmentForm, OperationForm, QueryForm, act_form, assignment_form, operation_form, query_form, type_form}
use Rattle.kat_grammar.specs.Lines.{act_tokens, assignment_tokens, assignments_tokens, head_tokens, kept_tokens, led, lines_of, operation_tokens, query_tokens, rank_tokens, state_tokens, target_tokens, type_tokens}
use Rattle.kat_grammar.specs.Marks.{in_format, is_newline, is_second, mark_of, mark_of_sign, mark_of_word, placed, token_placed}
use Rattle.kat_grammar.specs.Phrases.{Form, constant_tokens, form_of, form_tokens, token, word_token}
use Rattle.kat_grammar.specs.Phrases.Form.{constant, word, entry, negation, joined, chosen, branches, parens}
use Rattle.kat_grammar.specs.declared.marks.Extreme.{Extreme}
use Rattle.kat_grammar.specs.declared.marks.Extreme.TheVariants as extreme
use Rattle.kat_grammar.specs.declared.marks.Mark.{Mark}
use Rattle.kat_grammar.specs.declared.marks.Mark.TheVariants as mark
use Rattle.kat_grammar.specs.declared.marks.Operator.{Operator}
use Rattle.kat_grammar.specs.declared.marks.Operator.TheVariants as operator
use Rattle.kat_grammar.specs.declared.marks.Placed.{Placed}
use Rattle.kat_grammar.specs.declared.phrases.Assignment.{Assignment}
use Rattle.kat_grammar.specs.declared.phrases.Constant.{Constant}
use Rattle.kat_grammar.specs.declared.phrases.Constant.TheVariants.{Natural, Negative, Literal, Truth}
use Rattle.kat_grammar.specs.declared.phrases.Operation.{Operation}
use Rattle.kat_grammar.specs.declared.phrases.Parameter.{Parameter}
use Rattle.kat_grammar.specs.declared.phrases.Query.{Query}
use Rattle.kat_grammar.specs.declared.phrases.State.{State}
use Rattle.kat_grammar.specs.declared.phrases.TypeText.{TypeText}
use Rattle.kat_judging.specs.Names.{Scope, field_named, param_named}
use Rattle.kat_type_file.specs.Typing.{chosen_term, constant_value, joined_term, term_in, word_term}
use Rattle.kat_judging.specs.declared.names.Declared.{Declared}

abbrev pub Every : {X : Type 0} → (X → Type 0) → List X → Type 0
Every P [] = Unit {0}
Every P (x ∷ xs) = P x × Every P xs

every_front : {X : Type 0} (P : X → Type 0) (xs ys : List X) → Every P (xs ++ ys) → Every P xs
every_front P [] ys h = tt
every_front P (x ∷ xs) ys h = (h.0, every_front P xs ys h.1)

every_rest : {X : Type 0} (P : X → Type 0) (xs ys : List X) → Every P (xs ++ ys) → Every P ys
every_rest P [] ys h = h
every_rest P (x ∷ xs) ys h = every_rest P xs ys h.1

every_tail : {X : Type 0} (P : X → Type 0) (x : X) (xs : List X) → Every P (x ∷ xs) → Every P xs
every_tail P x xs h = h.1

every_last : {X : Type 0} (P : X → Type 0) (xs : List X) (x : X) → Every P xs → P x → Every P (xs ++ x ∷ [])
every_last P [] x h p = (p, tt)
every_last P (y ∷ xs) x h p = (h.0, every_last P xs x h.1 p)

every_mapped : {X Y : Type 0} (P : Y → Type 0) (f : X → Y) (xs : List X) → Every P (map f xs) → Every (λ x. P (f x)) xs
every_mapped P f [] h = tt
every_mapped P f (x ∷ xs) h = (h.0, every_mapped P f xs h.1)

every_weaker : {X : Type 0} (P Q : X → Type 0) (xs : List X) → ((x : X) → P x → Q x) → Every P xs → Every Q xs
every_weaker P Q [] f h = tt
every_weaker P Q (x ∷ xs) f h = (f x h.0, every_weaker P Q xs f h.1)

pub all_every : {X : Type 0} (P : X → Type 0) (xs : List X) → Every P xs → All P xs
all_every P [] h = All-nil P
all_every P (x ∷ xs) h = All-cons P x xs h.0 (all_every P xs h.1)

-- a number is within the limit
abbrev pub IsSmallMark : Mark → Type 0
IsSmallMark (mark.Number n) = n ≤ NUMBER_LIMIT
IsSmallMark _ = Unit {0}

abbrev pub IsSmallToken : Placed → Type 0
IsSmallToken t = IsSmallMark t.mark

choose_small : (b : Bool) (m n : Mark) → IsSmallMark m → IsSmallMark n → IsSmallMark (if b then m else n)
choose_small true m n h k = h
choose_small false m n h k = k

word_small : (w : ℕ) → IsSmallMark (mark_of_word w)
word_small w =
    choose_small (w == code_of (codes "type")) mark.TypeLine _ tt (
    choose_small (w == code_of (codes "state")) mark.StateLine _ tt (
    choose_small (w == code_of (codes "op")) mark.OpLine _ tt (
    choose_small (w == code_of (codes "query")) mark.QueryLine _ tt (
    choose_small (w == code_of (codes "table")) mark.Table _ tt (
    choose_small (w == code_of (codes "rank")) mark.Rank _ tt (
    choose_small (w == code_of (codes "time")) mark.Time _ tt (
    choose_small (w == code_of (codes "replica")) mark.Replica _ tt (
    choose_small (w == code_of (codes "if")) mark.If _ tt (
    choose_small (w == code_of (codes "then")) mark.Then _ tt (
    choose_small (w == code_of (codes "else")) mark.Else _ tt (
    choose_small (w == code_of (codes "not")) mark.Not _ tt (
    choose_small (w == code_of (codes "or")) (mark.Operator operator.Or) _ tt (
    choose_small (w == code_of (codes "and")) (mark.Operator operator.And) _ tt (
    choose_small (w == code_of (codes "max")) (mark.Extreme extreme.Greatest) _ tt (
    choose_small (w == code_of (codes "min")) (mark.Extreme extreme.Least) _ tt (
    choose_small (w == code_of (codes "true")) (mark.Truth true) _ tt (
    choose_small (w == code_of (codes "false")) (mark.Truth false) _ tt (
    choose_small (w == code_of (codes "bool")) (mark.Sort sort.Bool) _ tt (
    choose_small (w == code_of (codes "int")) (mark.Sort sort.Int) _ tt (
    choose_small (w == code_of (codes "nat")) (mark.Sort sort.Nat) _ tt (
    choose_small (w == code_of (codes "name")) (mark.Sort sort.Name) _ tt (
    choose_small (is_reserved w) mark.Other (mark.Word w) tt tt))))))))))))))))))))))

sign_small : (first second : ℕ) → IsSmallMark (mark_of_sign first second)
sign_small first second =
    choose_small (first == 40) mark.Open _ tt (
    choose_small (first == 41) mark.Close _ tt (
    choose_small (first == 91) mark.OpenBracket _ tt (
    choose_small (first == 93) mark.CloseBracket _ tt (
    choose_small (first == 44) mark.Comma _ tt (
    choose_small (first == 59) mark.Semicolon _ tt (
    choose_small (first == 61) (mark.Operator operator.Same) _ tt (
    choose_small (first == 43) (mark.Operator operator.Plus) _ tt (
    choose_small ((first == 58) && (second == 61)) mark.Assign _ tt (
    choose_small (first == 58) mark.Colon _ tt (
    choose_small ((first == 60) && (second == 61)) (mark.Operator operator.AtMost) _ tt (
    choose_small (first == 60) (mark.Operator operator.Less) _ tt (
    choose_small ((first == 45) && (second == 62)) mark.Arrow _ tt (
    choose_small (first == 45) (mark.Operator operator.Minus) mark.Other tt tt)))))))))))))

kind_small : (text : List ℕ) (from to : ℕ) (k : TokenKind) → IsKind text from to k → IsSmallMark (mark_of k)
kind_small text from to (kind.Word w) h = word_small w
kind_small text from to (kind.Name name) h = tt
kind_small text from to (kind.Number n) h = h.1.small
kind_small text from to (kind.Sign first second) h = sign_small first second
kind_small text from to kind.Newline h = tt

format_small : (second : Bool) (m : Mark) → IsSmallMark m → IsSmallMark (in_format second m)
format_small second (mark.Word w) h = choose_small (second && (w == code_of (codes "clear"))) mark.Clear (mark.Word w) tt tt
format_small second m h = h

tokens_small : {text : List ℕ} {at : ℕ} {tokens : List Token} {end : Option LexError} (second : Bool) → Lexes text at tokens end → Every IsSmallToken (map (token_placed second) tokens)
tokens_small second (ends past) = tt
tokens_small second (stops before fault) = tt
tokens_small second (gap to before is more) = tokens_small second more
tokens_small {text} {at} second (lexed_token first before is more) = (format_small second (mark_of first.kind) (kind_small text at first.to first.kind is.kind), tokens_small second more)

-- the tokens of the lines are those of the text
begun_small : (line : List Placed) (lines : List (List Placed)) → Every IsSmallToken line → Every (Every IsSmallToken) lines → Every (Every IsSmallToken) (with_line line lines)
begun_small [] lines h k = k
begun_small (t ∷ line) lines h k = (h, k)

by_newline : (b : Bool) (xs ys : List (List Placed)) → Every (Every IsSmallToken) xs → Every (Every IsSmallToken) ys → Every (Every IsSmallToken) (if b then xs else ys)
by_newline true xs ys h k = h
by_newline false xs ys h k = k

lines_small : (line tokens : List Placed) → Every IsSmallToken line → Every IsSmallToken tokens → Every (Every IsSmallToken) (lines_from line tokens)
lines_small line [] h k = begun_small line [] h tt
lines_small line (t ∷ tokens) h k =
    by_newline (is_newline t.mark) (with_line line (lines_from [] tokens)) (lines_from (line ++ t ∷ []) tokens)
    (begun_small line (lines_from [] tokens) h (lines_small [] tokens tt k.1)) (lines_small (line ++ t ∷ []) tokens (every_last IsSmallToken line t h k.0) k.1)

-- constants and expressions whose tokens are small
negative_is : (n : ℕ) → unsigned_abs (neg_ℤ (pos n)) ≡ n
negative_is zero = refl
negative_is (suc n) = refl

pub constant_small : (c : Constant) → Every IsSmallToken (constant_tokens c) → IsAtMost NUMBER_LIMIT (constant_value c)
constant_small (Natural at n) h = h.0
constant_small (Negative at number_at n) h = subst (λ k. k ≤ NUMBER_LIMIT) (sym (negative_is n)) (every_tail IsSmallToken (token (mark.Operator operator.Minus) at) (token (mark.Number n) number_at ∷ []) h).0
constant_small (Literal at name) h = tt
constant_small (Truth at b) h = tt

word_constants : (p : Option (Declared Parameter)) (f : Option (Declared State)) → HasConstantsAtMost NUMBER_LIMIT (word_term p f)
word_constants (Some p) f = tt
word_constants None f = tt

joined_constants : (op : Operator) (a b : Term) → HasConstantsAtMost NUMBER_LIMIT a → HasConstantsAtMost NUMBER_LIMIT b → HasConstantsAtMost NUMBER_LIMIT (joined_term op a b)
joined_constants operator.Or a b h k = (h, k)
joined_constants operator.And a b h k = (h, k)
joined_constants operator.Less a b h k = (h, k)
joined_constants operator.AtMost a b h k = (h, k)
joined_constants operator.Same a b h k = (h, k)
joined_constants operator.Plus a b h k = (h, k)
joined_constants operator.Minus a b h k = (h, k)

chosen_constants : (e : Extreme) (a b : Term) → HasConstantsAtMost NUMBER_LIMIT a → HasConstantsAtMost NUMBER_LIMIT b → HasConstantsAtMost NUMBER_LIMIT (chosen_term e a b)
chosen_constants extreme.Greatest a b h k = (h, k)
chosen_constants extreme.Least a b h k = (h, k)

pub form_small : (scope : Scope) (f : Form) → Every IsSmallToken (form_tokens f) → HasConstantsAtMost NUMBER_LIMIT (term_in scope f)
form_small scope (constant c) h = constant_small c h
form_small scope (word w) h = word_constants (param_named scope w.code) (field_named scope w.code)
form_small scope (entry table open_at key close_at) h = tt
form_small scope (negation at a) h = form_small scope a (every_tail IsSmallToken (token mark.Not at) (form_tokens a) h)
form_small scope (joined op at a b) h =
    joined_constants op (term_in scope a) (term_in scope b) (form_small scope a (every_front IsSmallToken (form_tokens a) (token (mark.Operator op) at ∷ form_tokens b) h))
    (form_small scope b (every_tail IsSmallToken (token (mark.Operator op) at) (form_tokens b) (every_rest IsSmallToken (form_tokens a) (token (mark.Operator op) at ∷ form_tokens b) h)))
form_small scope (chosen e at open_at a comma b close_at) h =
    let left : List Placed = token mark.Open open_at ∷ form_tokens a in
    let right : List Placed = token mark.Comma comma ∷ form_tokens b in
    let front = every_front IsSmallToken (token (mark.Extreme e) at ∷ left ++ right) (token mark.Close close_at ∷ []) h in
    let first = every_tail IsSmallToken (token (mark.Extreme e) at) left (every_front IsSmallToken (token (mark.Extreme e) at ∷ left) right front) in
    let second = every_rest IsSmallToken (token (mark.Extreme e) at ∷ left) right front in
    chosen_constants e (term_in scope a) (term_in scope b) (form_small scope a (every_tail IsSmallToken (token mark.Open open_at) (form_tokens a) first))
    (form_small scope b (every_tail IsSmallToken (token mark.Comma comma) (form_tokens b) second))
form_small scope (branches at c then_at a else_at b) h =
    let test : List Placed = token mark.If at ∷ form_tokens c in
    let left : List Placed = token mark.Then then_at ∷ form_tokens a in
    let right : List Placed = token mark.Else else_at ∷ form_tokens b in
    let front = every_front IsSmallToken (test ++ left) right h in (
      form_small scope c (every_tail IsSmallToken (token mark.If at) (form_tokens c) (every_front IsSmallToken test left front)),
      form_small scope a (every_tail IsSmallToken (token mark.Then then_at) (form_tokens a) (every_rest IsSmallToken test left front)),
      form_small scope b (every_tail IsSmallToken (token mark.Else else_at) (form_tokens b) (every_rest IsSmallToken (test ++ left) right h)),
    )
form_small scope (parens open_at a close_at) h =
    form_small scope a (every_tail IsSmallToken (token mark.Open open_at) (form_tokens a) (every_front IsSmallToken (token mark.Open open_at ∷ form_tokens a) (token mark.Close close_at ∷ []) h))

-- the tokens of a right side
abbrev pub right_tokens : ActForm → List Placed
right_tokens (set to assign right) = form_tokens right
right_tokens (clear at table) = []

-- the starts and expressions of a text have small tokens
pub record AreSmall (t : TypeText) : Type 0 where
  pub starts : Every (λ (s : State). Every IsSmallToken (constant_tokens s.start)) t.states
  pub rights : Every (λ (o : Operation). Every (λ (a : Assignment). Every IsSmallToken (right_tokens (act_form a.act))) o.assignments) t.operations
  pub asked : Every (λ (q : Query). Every IsSmallToken (form_tokens (form_of q.right))) t.queries

every_led : {Item : Type 0} (first later : Mark) (lead : Item → ℕ) (tokens : Item → List Placed) (items : List Item) → Every IsSmallToken (led first later lead tokens items)
    → Every (λ item. Every IsSmallToken (tokens item)) items
every_led first later lead tokens [] h = tt
every_led first later lead tokens (item ∷ items) h =
    let behind = every_tail IsSmallToken (token first (lead item)) (tokens item ++ led later later lead tokens items) h in (
      every_front IsSmallToken (tokens item) (led later later lead tokens items) behind,
      every_led later later lead tokens items (every_rest IsSmallToken (tokens item) (led later later lead tokens items) behind),
    )

state_small : (s : State) → Every IsSmallToken (state_tokens s) → Every IsSmallToken (constant_tokens s.start)
state_small s h =
    every_tail IsSmallToken (token (mark.Operator operator.Same) s.equal) (constant_tokens s.start)
    (every_rest IsSmallToken (token mark.StateLine s.at ∷ word_token s.name ∷ token mark.Colon s.colon ∷ kept_tokens s.kept) (token (mark.Operator operator.Same) s.equal ∷ constant_tokens s.start) h)

right_small : (a : AssignmentForm) → Every IsSmallToken (assignment_tokens a) → Every IsSmallToken (right_tokens a.act)
right_small a h = act_small a.act h
  where
    act_small : (a : ActForm) → Every IsSmallToken (act_tokens a) → Every IsSmallToken (right_tokens a)
    act_small (set to assign right) h =
        every_tail IsSmallToken (token mark.Assign assign) (form_tokens right) (every_rest IsSmallToken (target_tokens to) (token mark.Assign assign ∷ form_tokens right) h)
    act_small (clear at table) h = tt

operation_small : (o : Operation) → Every IsSmallToken (operation_tokens (operation_form o)) → Every (λ (a : Assignment). Every IsSmallToken (right_tokens (act_form a.act))) o.assignments
operation_small o h =
    let assigns = every_rest IsSmallToken (head_tokens mark.OpLine o.at o.name o.open_at o.params o.close_at ++ rank_tokens o.rank) (assignments_tokens (map assignment_form o.assignments)) h in
    every_mapped (λ (a : AssignmentForm). Every IsSmallToken (right_tokens a.act)) assignment_form o.assignments
    (every_weaker (λ (a : AssignmentForm). Every IsSmallToken (assignment_tokens a)) (λ (a : AssignmentForm). Every IsSmallToken (right_tokens a.act)) (map assignment_form o.assignments) right_small
    (every_led mark.Colon mark.Semicolon (λ (a : AssignmentForm). a.lead) assignment_tokens (map assignment_form o.assignments) assigns))

query_small : (q : Query) → Every IsSmallToken (query_tokens (query_form q)) → Every IsSmallToken (form_tokens (form_of q.right))
query_small q h =
    let right : List Placed = form_tokens (form_of q.right) in
    let behind = every_rest IsSmallToken (head_tokens mark.QueryLine q.at q.name q.open_at q.params q.close_at)
    (token mark.Colon q.colon ∷ token (mark.Sort q.sort) q.sort_at ∷ token (mark.Operator operator.Same) q.equal ∷ right) h in
    every_tail IsSmallToken (token (mark.Operator operator.Same) q.equal) right
    (every_tail IsSmallToken (token (mark.Sort q.sort) q.sort_at) (token (mark.Operator operator.Same) q.equal ∷ right)
    (every_tail IsSmallToken (token mark.Colon q.colon) (token (mark.Sort q.sort) q.sort_at ∷ token (mark.Operator operator.Same) q.equal ∷ right) behind))

pub are_small : {text : List ℕ} {tokens : List Token} {end : Option LexError} (t : TypeText) → Lexes text 0 tokens end → text_lines (placed tokens) ≡ lines_of (type_form t) → AreSmall t
are_small {tokens = tokens} t lexed written =
    let lines : Every (Every IsSmallToken) (lines_of (type_form t)) = subst (λ ls. Every (Every IsSmallToken) ls) written (lines_small [] (placed tokens) tt (tokens_small (is_second tokens) lexed)) in
    let states : List (List Placed) = map state_tokens t.states in
    let operations : List (List Placed) = map operation_tokens (map operation_form t.operations) in
    let queries : List (List Placed) = map query_tokens (map query_form t.queries) in
    let items = every_tail (Every IsSmallToken) (type_tokens (type_form t)) (states ++ operations ++ queries) lines in
    let front = every_front (Every IsSmallToken) (states ++ operations) queries items in
    record {
      starts = every_weaker (λ (s : State). Every IsSmallToken (state_tokens s)) (λ (s : State). Every IsSmallToken (constant_tokens s.start)) t.states state_small
          (every_mapped (Every IsSmallToken) state_tokens t.states (every_front (Every IsSmallToken) states operations front));
      rights = every_weaker (λ (o : Operation). Every IsSmallToken (operation_tokens (operation_form o))) (λ (o : Operation). Every (λ (a : Assignment). Every IsSmallToken (right_tokens (act_form a.act))) o.assignments)
          t.operations operation_small
          (every_mapped (λ (o : OperationForm). Every IsSmallToken (operation_tokens o)) operation_form t.operations
          (every_mapped (Every IsSmallToken) operation_tokens (map operation_form t.operations) (every_rest (Every IsSmallToken) states operations front)));
      asked = every_weaker (λ (q : Query). Every IsSmallToken (query_tokens (query_form q))) (λ (q : Query). Every IsSmallToken (form_tokens (form_of q.right))) t.queries query_small
          (every_mapped (λ (q : QueryForm). Every IsSmallToken (query_tokens q)) query_form t.queries
          (every_mapped (Every IsSmallToken) query_tokens (map query_form t.queries) (every_rest (Every IsSmallToken) (states ++ operations) queries items)));
    }
