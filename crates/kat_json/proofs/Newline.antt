-- A newline after the compact text of a value changes nothing of what is read.
use Rattle.std.proofs.Common.{ℕ, List, [], ◌∷◌, ◌≡◌, true, refl, ◌++◌, ap, ap₂, ◌∙◌, append_assoc, false, cond, Bool, ◌&&◌, sym}
use Rattle.json.specs.Token.{Token, begin_object, end_object, begin_array, end_array, key, string, number, boolean, null, bad}
use Rattle.json.specs.Lex.{Lexeme, token, colon, string_token, lex, between, comma, fresh, punctuate, tokens}
use Rattle.json.specs.Word.{ends_word, word}
use Rattle.json.specs.Print.{print_from, escape, quoted, token_text, ends, IsPrintable, begins, separator, ArePrintable, print}
use Rattle.json.proofs.Printed.Strings.{content-escape, lex-escape}
use Rattle.json.proofs.Printed.Numbers.{lex-number, in_word-ended}
use Rattle.json.proofs.Printed.Tokens.{tokens-print}

abbrev newline : List ℕ
newline = 10 ∷ []

abbrev lexemes_of : Token → List Lexeme
lexemes_of begin_object = token begin_object ∷ []
lexemes_of end_object = token end_object ∷ []
lexemes_of begin_array = token begin_array ∷ []
lexemes_of end_array = token end_array ∷ []
lexemes_of (key s) = token (string s) ∷ colon ∷ []
lexemes_of (string s) = token (string s) ∷ []
lexemes_of (number s) = token (number s) ∷ []
lexemes_of (boolean b) = token (boolean b) ∷ []
lexemes_of null = token null ∷ []
lexemes_of bad = []

-- after a value a word ends, with a newline at the very end and without
word_ends : (ts : List Token) → ends_word (print_from true ts) ≡ true
unfolding print_from
word_ends [] = refl
word_ends (begin_object ∷ ts) = refl
word_ends (end_object ∷ ts) = refl
word_ends (begin_array ∷ ts) = refl
word_ends (end_array ∷ ts) = refl
word_ends (key s ∷ ts) = refl
word_ends (string s ∷ ts) = refl
word_ends (number s ∷ ts) = refl
word_ends (boolean b ∷ ts) = refl
word_ends (null ∷ ts) = refl
word_ends (bad ∷ ts) = refl

word_ends_before : (ts : List Token) → ends_word (print_from true ts ++ newline) ≡ true
unfolding print_from
word_ends_before [] = refl
word_ends_before (begin_object ∷ ts) = refl
word_ends_before (end_object ∷ ts) = refl
word_ends_before (begin_array ∷ ts) = refl
word_ends_before (end_array ∷ ts) = refl
word_ends_before (key s ∷ ts) = refl
word_ends_before (string s ∷ ts) = refl
word_ends_before (number s ∷ ts) = refl
word_ends_before (boolean b ∷ ts) = refl
word_ends_before (null ∷ ts) = refl
word_ends_before (bad ∷ ts) = refl

lex_quoted : (s r : List ℕ) → lex between (quoted s ++ r) ≡ token (string s) ∷ lex between r
unfolding lex
lex_quoted s r =
    let e = append_assoc (escape s) (34 ∷ []) r in
    ap (λ l. lex between (34 ∷ l)) e ∙ ap₂ (λ o l. token (string_token o) ∷ l) (content-escape s r) (lex-escape s r)

lex_text : (t : Token) (r : List ℕ) → IsPrintable t → (ends t ≡ true → ends_word r ≡ true) → lex between (token_text t ++ r) ≡ lexemes_of t ++ lex between r
unfolding lex word
lex_text begin_object r h ended = refl
lex_text end_object r h ended = refl
lex_text begin_array r h ended = refl
lex_text end_array r h ended = refl
lex_text (key s) r h ended = ap (lex between) (append_assoc (quoted s) (58 ∷ []) r) ∙ lex_quoted s (58 ∷ r)
lex_text (string s) r h ended = lex_quoted s r
lex_text (number s) r h ended = lex-number s r h (ended refl)
lex_text (boolean true) r h ended = ap₂ (λ b l. token (cond b (boolean true) bad) ∷ l) (ended refl) (in_word-ended r (ended refl))
lex_text (boolean false) r h ended = ap₂ (λ b l. token (cond b (boolean false) bad) ∷ l) (ended refl) (in_word-ended r (ended refl))
lex_text null r h ended = ap₂ (λ b l. token (cond b null bad) ∷ l) (ended refl) (in_word-ended r (ended refl))
lex_text bad r h ended = absurd h

lex_comma : (b : Bool) (r : List ℕ) → lex between (cond b (44 ∷ []) [] ++ r) ≡ cond b (comma ∷ []) [] ++ lex between r
unfolding lex
lex_comma true r = refl
lex_comma false r = refl

lex_token : (c : Bool) (t : Token) (r : List ℕ) → IsPrintable t → (ends t ≡ true → ends_word r ≡ true)
    → lex between (separator c t ++ (token_text t ++ r)) ≡ cond (c && begins t) (comma ∷ []) [] ++ (lexemes_of t ++ lex between r)
lex_token c t r h ended = lex_comma (c && begins t) (token_text t ++ r) ∙ ap (λ l. cond (c && begins t) (comma ∷ []) [] ++ l) (lex_text t r h ended)

lex_line : (c : Bool) (ts : List Token) → ArePrintable ts → lex between (print_from c ts ++ newline) ≡ lex between (print_from c ts)
unfolding lex print_from ArePrintable
lex_line c [] h = refl
lex_line c (t ∷ ts) h =
    let rest = print_from (ends t) ts in
    ap (lex between) (append_assoc (separator c t) (token_text t ++ rest) newline ∙ ap (λ l. separator c t ++ l) (append_assoc (token_text t) rest newline))
    ∙ lex_token c t (rest ++ newline) h.0 (λ e. ap (λ b. ends_word (print_from b ts ++ newline)) e ∙ word_ends_before ts)
    ∙ ap (λ l. cond (c && begins t) (comma ∷ []) [] ++ (lexemes_of t ++ l)) (lex_line (ends t) ts h.1)
    ∙ sym (lex_token c t rest h.0 (λ e. ap (λ b. ends_word (print_from b ts)) e ∙ word_ends ts))

pub tokens_line : (ts : List Token) → ArePrintable ts → tokens (print ts ++ 10 ∷ []) ≡ ts
tokens_line ts h = ap (punctuate fresh) (lex_line false ts h) ∙ tokens-print ts h
