-- Operations and queries of a type that a file says are named by words that aren't reserved.
use Rattle.std.proofs.Common.{◌≡◌, ℕ, ◌+◌, ◌-◌, ◌<◌, ◌≤◌, Bool, true, false, cond, List, [], ◌∷◌, ◌++◌, map, get_or, drop, length, refl, sym, subst, ap, ◌∙◌, arith, Option, None}
use Rattle.std.specs.Prelude.{if◌then◌else◌, ◌==◌, ◌&&◌, codes, slice_range}
use Rattle.std.proofs.lemmas.List.{get_or-drop, get_or-take}
use Rattle.kat_num.specs.Bytes.{is_digit, is_word_byte, is_word_start}
use Rattle.kat_num.specs.Names.{code_of}
use Rattle.kat_num.specs.declared.values.Sort.TheVariants as sort
use Rattle.kat_num.specs.declared.names.TheConstants.{NAME_LIMIT}
use Rattle.kat_lex.specs.Classes.{byte_at, class_of, is_blank, is_sign}
use Rattle.kat_lex.specs.Pieces.{IsWord}
use Rattle.kat_lex.specs.Tokens.{IsKind, Lexes}
use Rattle.kat_lex.specs.Tokens.Lexes.{ends, stops, gap, token as lexed_token}
use Rattle.kat_lex.specs.Words.{is_reserved}
use Rattle.kat_lex.specs.declared.classes.Class.{Class}
use Rattle.kat_lex.specs.declared.classes.Class.TheVariants.{Letter, Digit, Quote, Mark as Signs, LineEnd, Hash, Blank, Other}
use Rattle.kat_lex.specs.declared.lexer.LexError.{LexError}
use Rattle.kat_lex.specs.declared.lexer.Token.{Token}
use Rattle.kat_lex.specs.declared.lexer.TokenKind.{TokenKind}
use Rattle.kat_lex.specs.declared.lexer.TokenKind.TheVariants as kind
use Rattle.kat_lex.proofs.PieceLemmas.{kind_goes}
use Rattle.kat_lex.proofs.RunLemmas.{length-slice, run_passes}
use Rattle.kat_grammar.specs.Files.{lines_from, text_lines, with_line}
use Rattle.kat_grammar.specs.Forms.{operation_form, query_form, type_form}
use Rattle.kat_grammar.specs.Lines.{lines_of, operation_tokens, query_tokens, state_tokens, type_tokens}
use Rattle.kat_grammar.specs.Marks.{in_format, is_newline, is_second, mark_of, mark_of_sign, mark_of_word, placed, token_placed}
use Rattle.kat_grammar.specs.declared.marks.Extreme.TheVariants as extreme
use Rattle.kat_grammar.specs.declared.marks.Mark.{Mark}
use Rattle.kat_grammar.specs.declared.marks.Mark.TheVariants as mark
use Rattle.kat_grammar.specs.declared.marks.Operator.TheVariants as operator
use Rattle.kat_grammar.specs.declared.marks.Placed.{Placed}
use Rattle.kat_grammar.specs.declared.phrases.Operation.{Operation}
use Rattle.kat_grammar.specs.declared.phrases.Query.{Query}
use Rattle.kat_grammar.specs.declared.phrases.State.{State}
use Rattle.kat_grammar.specs.declared.phrases.TypeText.{TypeText}
use Rattle.kat_type.specs.Signatures.{op_sig, query_sig, signature_of}
use Rattle.kat_type_file.specs.TypeFiles.{IsTypeFile}
use Rattle.kat_type.specs.Types.{TypeForm}
use Rattle.kat_type_file.specs.Typing.{operation_in, query_in, type_in}
use Rattle.kat_type.specs.declared.signatures.OpSig.{OpSig}
use Rattle.kat_type.specs.declared.signatures.QuerySig.{QuerySig}
use Rattle.kat_type_file.proofs.Literals.{Every, all_every}
use Rattle.kat_hist.specs.Words.{HasWords, IsFreeWord, IsWordText}

every_front : {X : Type 0} (P : X → Type 0) (xs ys : List X) → Every P (xs ++ ys) → Every P xs
every_front P [] ys h = tt
every_front P (x ∷ xs) ys h = (h.0, every_front P xs ys h.1)

every_rest : {X : Type 0} (P : X → Type 0) (xs ys : List X) → Every P (xs ++ ys) → Every P ys
every_rest P [] ys h = h
every_rest P (x ∷ xs) ys h = every_rest P xs ys h.1

every_tail : {X : Type 0} (P : X → Type 0) (x : X) (xs : List X) → Every P (x ∷ xs) → Every P xs
every_tail P x xs h = h.1

every_last : {X : Type 0} (P : X → Type 0) (xs : List X) (x : X) → Every P xs → P x → Every P (xs ++ x ∷ [])
every_last P [] x h p = (p, tt)
every_last P (y ∷ xs) x h p = (h.0, every_last P xs x h.1 p)

-- a word that names something isn't reserved
abbrev IsNamed : Mark → Type 0
IsNamed (mark.Word w) = IsFreeWord w
IsNamed _ = Unit {0}

abbrev IsNamedToken : Placed → Type 0
IsNamedToken t = IsNamed t.mark

choose_named : (b : Bool) (m n : Mark) → IsNamed m → IsNamed n → IsNamed (if b then m else n)
choose_named true m n h k = h
choose_named false m n h k = k

free_named : (b : Bool) (bytes : List ℕ) (w : ℕ) → is_reserved w ≡ b → IsWordText bytes → code_of bytes ≡ w → IsNamed (if b then mark.Other else mark.Word w)
free_named true bytes w e is coded = tt
free_named false bytes w e is coded = record { bytes = bytes; is_word = is; coded = coded; free = e }

word_named : (bytes : List ℕ) (w : ℕ) → IsWordText bytes → code_of bytes ≡ w → IsNamed (mark_of_word w)
word_named bytes w is coded =
    choose_named (w == code_of (codes "type")) mark.TypeLine _ tt (
    choose_named (w == code_of (codes "state")) mark.StateLine _ tt (
    choose_named (w == code_of (codes "op")) mark.OpLine _ tt (
    choose_named (w == code_of (codes "query")) mark.QueryLine _ tt (
    choose_named (w == code_of (codes "table")) mark.Table _ tt (
    choose_named (w == code_of (codes "rank")) mark.Rank _ tt (
    choose_named (w == code_of (codes "time")) mark.Time _ tt (
    choose_named (w == code_of (codes "replica")) mark.Replica _ tt (
    choose_named (w == code_of (codes "if")) mark.If _ tt (
    choose_named (w == code_of (codes "then")) mark.Then _ tt (
    choose_named (w == code_of (codes "else")) mark.Else _ tt (
    choose_named (w == code_of (codes "not")) mark.Not _ tt (
    choose_named (w == code_of (codes "or")) (mark.Operator operator.Or) _ tt (
    choose_named (w == code_of (codes "and")) (mark.Operator operator.And) _ tt (
    choose_named (w == code_of (codes "max")) (mark.Extreme extreme.Greatest) _ tt (
    choose_named (w == code_of (codes "min")) (mark.Extreme extreme.Least) _ tt (
    choose_named (w == code_of (codes "true")) (mark.Truth true) _ tt (
    choose_named (w == code_of (codes "false")) (mark.Truth false) _ tt (
    choose_named (w == code_of (codes "bool")) (mark.Sort sort.Bool) _ tt (
    choose_named (w == code_of (codes "int")) (mark.Sort sort.Int) _ tt (
    choose_named (w == code_of (codes "nat")) (mark.Sort sort.Nat) _ tt (
    choose_named (w == code_of (codes "name")) (mark.Sort sort.Name) _ tt (
    free_named (is_reserved w) bytes w refl is coded))))))))))))))))))))))

sign_named : (first second : ℕ) → IsNamed (mark_of_sign first second)
sign_named first second =
    choose_named (first == 40) mark.Open _ tt (
    choose_named (first == 41) mark.Close _ tt (
    choose_named (first == 91) mark.OpenBracket _ tt (
    choose_named (first == 93) mark.CloseBracket _ tt (
    choose_named (first == 44) mark.Comma _ tt (
    choose_named (first == 59) mark.Semicolon _ tt (
    choose_named (first == 61) (mark.Operator operator.Same) _ tt (
    choose_named (first == 43) (mark.Operator operator.Plus) _ tt (
    choose_named ((first == 58) && (second == 61)) mark.Assign _ tt (
    choose_named (first == 58) mark.Colon _ tt (
    choose_named ((first == 60) && (second == 61)) (mark.Operator operator.AtMost) _ tt (
    choose_named (first == 60) (mark.Operator operator.Less) _ tt (
    choose_named ((first == 45) && (second == 62)) mark.Arrow _ tt (
    choose_named (first == 45) (mark.Operator operator.Minus) mark.Other tt tt)))))))))))))

abbrev picked : Bool → Bool → Bool → Bool → Bool → Bool → Bool → Class
picked letter digit quote mark end hash blank =
    cond letter Letter (cond digit Digit (cond quote Quote (cond mark Signs (cond end LineEnd (cond hash Hash (cond blank Blank Other))))))

picked_letter : (letter digit quote mark end hash blank : Bool) → picked letter digit quote mark end hash blank ≡ Letter → letter ≡ true
picked_letter letter digit quote mark end hash blank h = grind arith

letter_starts : (byte : ℕ) → class_of byte ≡ Letter → is_word_start byte ≡ true
letter_starts byte h = picked_letter (is_word_start byte) (is_digit byte) (byte == 34) (is_sign byte) (byte == 10) (byte == 35) (is_blank byte) h

first_of_slice : (text : List ℕ) (from to : ℕ) → from < to → get_or (slice_range text from to) 0 0 ≡ byte_at text from
first_of_slice text from to h =
    get_or-take (to - from) (drop from text) 0 0 (omega (arith, h)) ∙ get_or-drop from text 0 0 ∙ ap (λ k. byte_at text k) (none from) where
      none : (n : ℕ) → n + 0 ≡ n
      none n = omega arith

slice_short : (n from to : ℕ) → n ≡ to - from → to ≤ from + NAME_LIMIT → n ≤ NAME_LIMIT
slice_short n from to h k = omega (arith, h, k)

-- the bytes of a token that is a word
word_there : (text : List ℕ) (from to : ℕ) → IsWord text from to → from < to → to ≤ from + NAME_LIMIT → IsWordText (slice_range text from to)
word_there text from to word further short = record {
  first = subst (λ byte. is_word_start byte ≡ true) (sym (first_of_slice text from to further)) (letter_starts (byte_at text from) word.first);
  each = run_passes is_word_byte is_word_byte text from to (λ byte h. h) word.run;
  short = slice_short (length (slice_range text from to)) from to (length-slice text from to word.run.within) short;
}

kind_named : (text : List ℕ) (from to : ℕ) (k : TokenKind) → from < length text → IsKind text from to k → IsNamed (mark_of k)
kind_named text from to (kind.Word w) inside h =
    word_named (slice_range text from to) w (word_there text from to h.0 (kind_goes text from to (kind.Word w) inside h).further h.1) (sym h.2)
kind_named text from to (kind.Name name) inside h = tt
kind_named text from to (kind.Number n) inside h = tt
kind_named text from to (kind.Sign first second) inside h = sign_named first second
kind_named text from to kind.Newline inside h = tt

format_named : (second : Bool) (m : Mark) → IsNamed m → IsNamed (in_format second m)
format_named second (mark.Word w) h = choose_named (second && (w == code_of (codes "clear"))) mark.Clear (mark.Word w) tt h
format_named second m h = h

tokens_named : {text : List ℕ} {at : ℕ} {tokens : List Token} {end : Option LexError} (second : Bool) → Lexes text at tokens end → Every IsNamedToken (map (token_placed second) tokens)
tokens_named second (ends past) = tt
tokens_named second (stops before fault) = tt
tokens_named second (gap to before is more) = tokens_named second more
tokens_named {text} {at} second (lexed_token first before is more) =
    (format_named second (mark_of first.kind) (kind_named text at first.to first.kind before is.kind), tokens_named second more)

-- the tokens of the lines are those of the text
begun_named : (line : List Placed) (lines : List (List Placed)) → Every IsNamedToken line → Every (Every IsNamedToken) lines → Every (Every IsNamedToken) (with_line line lines)
begun_named [] lines h k = k
begun_named (t ∷ line) lines h k = (h, k)

by_newline : (b : Bool) (xs ys : List (List Placed)) → Every (Every IsNamedToken) xs → Every (Every IsNamedToken) ys → Every (Every IsNamedToken) (if b then xs else ys)
by_newline true xs ys h k = h
by_newline false xs ys h k = k

lines_named : (line tokens : List Placed) → Every IsNamedToken line → Every IsNamedToken tokens → Every (Every IsNamedToken) (lines_from line tokens)
lines_named line [] h k = begun_named line [] h tt
lines_named line (t ∷ tokens) h k =
    by_newline (is_newline t.mark) (with_line line (lines_from [] tokens)) (lines_from (line ++ t ∷ []) tokens)
    (begun_named line (lines_from [] tokens) h (lines_named [] tokens tt k.1)) (lines_named (line ++ t ∷ []) tokens (every_last IsNamedToken line t h k.0) k.1)

ops_named : (states : List State) (ops : List Operation) → Every (Every IsNamedToken) (map operation_tokens (map operation_form ops))
    → Every (λ (op : OpSig). IsFreeWord op.name) (map op_sig (map (operation_in states) ops))
ops_named states [] h = tt
ops_named states (o ∷ ops) h = (h.0.1.0, ops_named states ops h.1)

queries_named : (states : List State) (queries : List Query) → Every (Every IsNamedToken) (map query_tokens (map query_form queries))
    → Every (λ (query : QuerySig). IsFreeWord query.name) (map query_sig (map (query_in states) queries))
queries_named states [] h = tt
queries_named states (q ∷ queries) h = (h.0.1.0, queries_named states queries h.1)

named_in : (text : List ℕ) (tokens : List Token) (t : TypeText) → Lexes text 0 tokens None → text_lines (placed tokens) ≡ lines_of (type_form t) → HasWords (signature_of (type_in t))
named_in text tokens t lexed written =
    let lines : Every (Every IsNamedToken) (lines_of (type_form t)) =
    subst (λ ls. Every (Every IsNamedToken) ls) written (lines_named [] (placed tokens) tt (tokens_named (is_second tokens) lexed)) in
    let states : List (List Placed) = map state_tokens t.states in
    let operations : List (List Placed) = map operation_tokens (map operation_form t.operations) in
    let queries : List (List Placed) = map query_tokens (map query_form t.queries) in
    let items = every_tail (Every IsNamedToken) (type_tokens (type_form t)) (states ++ operations ++ queries) lines in
    let front = every_front (Every IsNamedToken) (states ++ operations) queries items in
    record {
      ops = all_every (λ (op : OpSig). IsFreeWord op.name) (signature_of (type_in t)).ops (ops_named t.states t.operations (every_rest (Every IsNamedToken) states operations front));
      queries = all_every (λ (query : QuerySig). IsFreeWord query.name) (signature_of (type_in t)).queries
          (queries_named t.states t.queries (every_rest (Every IsNamedToken) (states ++ operations) queries items));
    }

pub files_have_words : (text : List ℕ) (ty : TypeForm) → IsTypeFile text ty → HasWords (signature_of ty)
files_have_words text ty file =
    subst (λ (t : TypeForm). HasWords (signature_of t)) (sym file.says) (named_in text file.is_text.tokens file.phrases file.is_text.lexed file.is_text.says.written)
