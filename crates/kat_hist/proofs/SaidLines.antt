-- A text of printed lines is read as the lines.
use Rattle.std.proofs.Common.{◌≡◌, ℕ, ◌+◌, ◌<◌, false, List, [], ◌∷◌, ◌++◌, length, refl, sym, ◌∙◌, ap, subst, arith, append_assoc, length-append, Option, None, Some, All}
use Rattle.std.specs.Prelude.{option_to_list}
use Rattle.std.specs.Fmt.{decimal}
use Rattle.std.proofs.lemmas.List.Elements.{All-cons, All-nil}
use Rattle.std.proofs.lemmas.List.Splits.{slice_split_at}
use Rattle.kat_num.specs.Names.{code_of}
use Rattle.kat_num.specs.Values.{quoted}
use Rattle.kat_lex.specs.declared.lexer.Token.{Token}
use Rattle.kat_lex.specs.declared.lexer.TokenKind.TheVariants as kind
use Rattle.kat_script.specs.Rules.{Keeps, line_of}
use Rattle.kat_lex.specs.TextLines.{is_newline}
use Rattle.kat_script.specs.Script.{IsScriptText, Place, Reads, behind, below, good, known_at, start, text_lines, blank, ends, keeps}
use Rattle.kat_script.specs.declared.said.Constant.{Constant}
use Rattle.kat_script.specs.declared.said.Constant.TheVariants.{Natural, Negated, Named, Truth}
use Rattle.kat_script.specs.declared.said.Said.{Said}
use Rattle.kat_script.specs.declared.said.Said.TheVariants.{Replicas, Does, Ships, Delivers, Asks, Shows}
use Rattle.kat_script.specs.declared.script.Line.{Line}
use Rattle.kat_script.specs.declared.script.Script.{Script}
use Rattle.kat_type.specs.declared.signatures.Signature.{Signature}
use Rattle.kat_script.proofs.Following.{a_script, none_broken}
use Rattle.kat_hist.proofs.Items.{BeginsNumber, Fine, Follows, IsApart, Item, gap, item_text, items_lex, items_text, literal, minus, newline, number, token_with, tokens_from, word}
use Rattle.kat_hist.proofs.SaidItems.{IsGoodSaid, args_items, constant_items, line_says, said_fine, said_items, time_items}

abbrev pub text_items : List Said → List Item
text_items [] = []
text_items (said ∷ saids) = said_items said ++ newline ∷ text_items saids

abbrev pub AreGoodSaids : List Said → Type 0
AreGoodSaids [] = Unit {0}
AreGoodSaids (said ∷ saids) = IsGoodSaid said × AreGoodSaids saids

-- a line that ends with a newline
apart_line : (xs ys : List Item) → IsApart xs → IsApart (xs ++ newline ∷ ys)
apart_line [] ys h = tt
apart_line (gap ∷ xs) ys h = tt
apart_line (newline ∷ xs) ys h = tt
apart_line (word bytes ∷ xs) ys h = absurd h
apart_line (number n ∷ xs) ys h = absurd h
apart_line (literal name ∷ xs) ys h = absurd h
apart_line (minus ∷ xs) ys h = absurd h

begins_line : (xs ys : List Item) → BeginsNumber xs → BeginsNumber (xs ++ newline ∷ ys)
begins_line [] ys h = absurd h
begins_line (number n ∷ xs) ys h = h
begins_line (gap ∷ xs) ys h = absurd h
begins_line (newline ∷ xs) ys h = absurd h
begins_line (word bytes ∷ xs) ys h = absurd h
begins_line (literal name ∷ xs) ys h = absurd h
begins_line (minus ∷ xs) ys h = absurd h

follows_line : (item : Item) (xs ys : List Item) → Follows item xs → Follows item (xs ++ newline ∷ ys)
follows_line gap xs ys h = tt
follows_line newline xs ys h = tt
follows_line (word bytes) xs ys h = apart_line xs ys h
follows_line (number n) xs ys h = apart_line xs ys h
follows_line (literal name) xs ys h = apart_line xs ys h
follows_line minus xs ys h = begins_line xs ys h

fine_line : (xs ys : List Item) → Fine xs → Fine ys → Fine (xs ++ newline ∷ ys)
fine_line [] ys f g = (tt, tt, g)
fine_line (item ∷ xs) ys f g = (f.0, follows_line item xs ys f.1, fine_line xs ys f.2 g)

text_fine : (saids : List Said) → AreGoodSaids saids → Fine (text_items saids)
text_fine [] h = tt
text_fine (said ∷ saids) h = fine_line (said_items said) (text_items saids) (said_fine said h.0) (text_fine saids h.1)

-- a line has no newline
abbrev OneLine : List Item → Type 0
OneLine [] = Unit {0}
OneLine (newline ∷ items) = ⊥
OneLine (item ∷ items) = OneLine items

constant_line : (c : Constant) (more : List Item) → OneLine more → OneLine (constant_items c ++ more)
constant_line (Natural n) more h = h
constant_line (Negated n) more h = h
constant_line (Named name) more h = h
constant_line (Truth b) more h = h

args_line : (args : List Constant) (more : List Item) → OneLine more → OneLine (args_items args ++ more)
args_line [] more h = h
args_line (c ∷ args) more h =
    subst (λ (l : List Item). OneLine l) (sym (append_assoc (constant_items c) (args_items args) more)) (constant_line c (args_items args ++ more) (args_line args more h))

args_only : (args : List Constant) → OneLine (args_items args)
args_only [] = tt
args_only (c ∷ args) = constant_line c (args_items args) (args_only args)

time_line : (time : Option ℕ) → OneLine (time_items time)
time_line None = tt
time_line (Some time) = tt

said_line : (said : Said) → OneLine (said_items said)
said_line (Replicas n) = tt
said_line (Does r op args time) = args_line args (time_items time) (time_line time)
said_line (Ships r packet) = tt
said_line (Delivers packet r) = tt
said_line (Asks r query args) = args_only args
said_line (Shows r) = tt

no_newline : (at : ℕ) (items : List Item) → OneLine items → All (λ (t : Token). is_newline t ≡ false) (tokens_from at items)
no_newline at [] h = All-nil (λ (t : Token). is_newline t ≡ false)
no_newline at (gap ∷ items) h = no_newline (at + 1) items h
no_newline at (newline ∷ items) h = absurd h
no_newline at (word bytes ∷ items) h =
    All-cons (λ (t : Token). is_newline t ≡ false) (token_with (kind.Word (code_of bytes)) at (at + length bytes)) (tokens_from (at + length bytes) items) refl (no_newline (at + length bytes) items h)
no_newline at (number n ∷ items) h =
    All-cons (λ (t : Token). is_newline t ≡ false) (token_with (kind.Number n) at (at + length (decimal n))) (tokens_from (at + length (decimal n)) items) refl (no_newline (at + length (decimal n)) items h)
no_newline at (literal name ∷ items) h =
    All-cons (λ (t : Token). is_newline t ≡ false) (token_with (kind.Name (code_of name)) at (at + length (quoted name))) (tokens_from (at + length (quoted name)) items) refl
    (no_newline (at + length (quoted name)) items h)
no_newline at (minus ∷ items) h =
    All-cons (λ (t : Token). is_newline t ≡ false) (token_with (kind.Sign 45 0) at (at + 1)) (tokens_from (at + 1) items) refl (no_newline (at + 1) items h)

-- the tokens of items that come after others
further : (at n k m : ℕ) → m ≡ n + k → at + n + k ≡ at + m
further at n k m h = omega (arith, h)

tokens_append : (at : ℕ) (xs ys : List Item) → tokens_from at (xs ++ ys) ≡ tokens_from at xs ++ tokens_from (at + length (items_text xs)) ys
tokens_append at [] ys = ap (λ k. tokens_from k ys) (nothing at) where
  nothing : (k : ℕ) → k ≡ k + 0
  nothing k = omega arith
tokens_append at (gap ∷ xs) ys =
    tokens_append (at + 1) xs ys ∙ ap (λ k. tokens_from (at + 1) xs ++ tokens_from k ys) (further at 1 (length (items_text xs)) (length (item_text gap ++ items_text xs)) (length-append (item_text gap) (items_text xs)))
tokens_append at (newline ∷ xs) ys =
    ap (λ (l : List Token). token_with kind.Newline at (at + 1) ∷ l)
    (tokens_append (at + 1) xs ys ∙ ap (λ k. tokens_from (at + 1) xs ++ tokens_from k ys) (further at 1 (length (items_text xs)) (length (item_text newline ++ items_text xs)) (length-append (item_text newline) (items_text xs))))
tokens_append at (word bytes ∷ xs) ys =
    ap (λ (l : List Token). token_with (kind.Word (code_of bytes)) at (at + length bytes) ∷ l)
    (tokens_append (at + length bytes) xs ys
    ∙ ap (λ k. tokens_from (at + length bytes) xs ++ tokens_from k ys) (further at (length bytes) (length (items_text xs)) (length (bytes ++ items_text xs)) (length-append bytes (items_text xs))))
tokens_append at (number n ∷ xs) ys =
    ap (λ (l : List Token). token_with (kind.Number n) at (at + length (decimal n)) ∷ l)
    (tokens_append (at + length (decimal n)) xs ys
    ∙ ap (λ k. tokens_from (at + length (decimal n)) xs ++ tokens_from k ys)
    (further at (length (decimal n)) (length (items_text xs)) (length (decimal n ++ items_text xs)) (length-append (decimal n) (items_text xs))))
tokens_append at (literal name ∷ xs) ys =
    ap (λ (l : List Token). token_with (kind.Name (code_of name)) at (at + length (quoted name)) ∷ l)
    (tokens_append (at + length (quoted name)) xs ys
    ∙ ap (λ k. tokens_from (at + length (quoted name)) xs ++ tokens_from k ys)
    (further at (length (quoted name)) (length (items_text xs)) (length (quoted name ++ items_text xs)) (length-append (quoted name) (items_text xs))))
tokens_append at (minus ∷ xs) ys =
    ap (λ (l : List Token). token_with (kind.Sign 45 0) at (at + 1) ∷ l)
    (tokens_append (at + 1) xs ys ∙ ap (λ k. tokens_from (at + 1) xs ++ tokens_from k ys) (further at 1 (length (items_text xs)) (length (item_text minus ++ items_text xs)) (length-append (item_text minus) (items_text xs))))

-- the tokens of each line; the last one is empty
abbrev lines_at : ℕ → List Said → List (List Token)
lines_at at [] = [] ∷ []
lines_at at (said ∷ saids) = tokens_from at (said_items said) ∷ lines_at (at + length (items_text (said_items said)) + 1) saids

lines_cut : (at : ℕ) (saids : List Said) → text_lines (tokens_from at (text_items saids)) ≡ lines_at at saids
lines_cut at [] = refl
lines_cut at (said ∷ saids) =
    let end = at + length (items_text (said_items said)) in
    ap text_lines (tokens_append at (said_items said) (newline ∷ text_items saids))
    ∙ slice_split_at is_newline (tokens_from at (said_items said)) (token_with kind.Newline end (end + 1)) (tokens_from (end + 1) (text_items saids))
    (no_newline at (said_items said) (said_line said)) refl
    ∙ ap (λ (ls : List (List Token)). tokens_from at (said_items said) ∷ ls) (lines_cut (end + 1) saids)

-- each line keeps the rules where it is
abbrev pub AreKept : Signature → Place → List Said → Type 0
AreKept sig place [] = Unit {0}
AreKept sig place (said ∷ saids) = Keeps sig (known_at place) said × AreKept sig (behind sig place said) saids

-- what such lines say, and where they lead
abbrev pub lines_in : Signature → Place → List Said → List Line
lines_in sig place [] = []
lines_in sig place (said ∷ saids) = option_to_list (line_of sig (known_at place) said) ++ lines_in sig (behind sig place said) saids

abbrev pub place_after : Signature → Place → List Said → Place
place_after sig place [] = below place
place_after sig place (said ∷ saids) = place_after sig (behind sig place said) saids

reads_more : (sig : Signature) (place : Place) (at : ℕ) (saids : List Said) → AreGoodSaids saids → AreKept sig place saids → 0 < place.lines
    → Reads sig place (lines_at at saids) (lines_in sig place saids) (good (place_after sig place saids))
reads_more sig place at [] h k some = blank (ends some)
reads_more sig place at (said ∷ saids) h k some =
    keeps said (line_says at said h.0) (none_broken sig (known_at place) said k.0)
    (reads_more sig (behind sig place said) (at + length (items_text (said_items said)) + 1) saids h.1 k.1 (omega arith))

-- a script with the lines
abbrev pub script_in : Signature → List Said → Script
script_in sig saids = record {
  replicas = length (place_after sig start saids).world.replicas;
  packets = length (place_after sig start saids).words;
  lines = lines_in sig start saids;
}

pub saids_text : (sig : Signature) (said : Said) (saids : List Said) → AreGoodSaids (said ∷ saids) → AreKept sig start (said ∷ saids)
    → IsScriptText sig (items_text (text_items (said ∷ saids))) (script_in sig (said ∷ saids))
saids_text sig said saids h k = record {
  tokens = tokens_from 0 (text_items (said ∷ saids));
  lexed = items_lex (items_text (text_items (said ∷ saids))) 0 (text_items (said ∷ saids)) (omega arith) refl (text_fine (said ∷ saids) h);
  judged = a_script sig (text_lines (tokens_from 0 (text_items (said ∷ saids)))) (script_in sig (said ∷ saids)) (place_after sig start (said ∷ saids))
      (subst (λ (ls : List (List Token)). Reads sig start ls (lines_in sig start (said ∷ saids)) (good (place_after sig start (said ∷ saids)))) (sym (lines_cut 0 (said ∷ saids)))
      (keeps said (line_says 0 said h.0) (none_broken sig (known_at start) said k.0)
      (reads_more sig (behind sig start said) (0 + length (items_text (said_items said)) + 1) saids h.1 k.1 (omega arith))))
      refl refl;
}
