-- A text is read in one way.
use Rattle.std.proofs.Common.{◌≡◌, ◌≢◌, ℕ, ◌+◌, List, ◌∷◌, refl, ap, sym, subst, ◌∙◌, inl, inr, arith, Option, Some, None, ◌⊎◌}
use Rattle.std.specs.Prelude.{slice_range, not, ◌==◌}
use Rattle.std.specs.Str.Parse.{digits_value}
use Rattle.kat_num.specs.Bytes.{is_digit, is_name_byte, is_word_byte}
use Rattle.kat_num.specs.Names.{code_of}
use Rattle.kat_lex.specs.Classes.{byte_at, class_of}
use Rattle.kat_lex.specs.Pieces.{IsDigits, IsGap, IsOpened, IsSign, IsWord}
use Rattle.kat_lex.specs.Pieces.IsGap.{blank, comment}
use Rattle.kat_lex.specs.Pieces.IsSign.{double, single}
use Rattle.kat_lex.specs.Tokens.{FaultOf, IsFault, IsKind, IsToken, Lexes, TellsFault, TokensOf}
use Rattle.kat_lex.specs.Tokens.Lexes.{ends, stops, gap, token}
use Rattle.kat_lex.specs.declared.classes.Class.{Class}
use Rattle.kat_lex.specs.declared.classes.Class.TheVariants.{Letter, Digit, Quote, Mark, LineEnd}
use Rattle.kat_lex.specs.declared.lexer.TokenKind.{TokenKind}
use Rattle.kat_lex.specs.declared.lexer.TokenKind.TheVariants.{Word, Name, Number, Sign, Newline}
use Rattle.kat_lex.specs.declared.lexer.LexError.{LexError}
use Rattle.kat_lex.specs.declared.lexer.LexError.TheVariants.{BadByte, LongName, LongNumber, Memory}
use Rattle.kat_lex.specs.declared.lexer.Token.{Token}
use Rattle.kat_lex.proofs.RunLemmas.{run_unique}

words_end : (text : List ℕ) (at some other : ℕ) → IsWord text at some → IsWord text at other → some ≡ other
words_end text at some other a b = run_unique is_word_byte text at some other a.run b.run

digits_end : (text : List ℕ) (at some other : ℕ) → IsDigits text at some → IsDigits text at other → some ≡ other
digits_end text at some other a b = run_unique is_digit text at some other a.run b.run

opened_end : (text : List ℕ) (at some other : ℕ) → IsOpened text at some → IsOpened text at other → some ≡ other
opened_end text at some other a b = run_unique is_name_byte text (at + 1) some other a.run b.run

gap_unique : (text : List ℕ) (at some other : ℕ) → IsGap text at some → IsGap text at other → some ≡ other
gap_unique text at some other (blank _ e) (blank _ f) = omega arith
gap_unique text at some other (comment _ a) (comment _ b) = run_unique (λ byte. not (byte == 10)) text at some other a b
gap_unique text at some other (blank c _) (comment d _) = absurd (cc)
gap_unique text at some other (comment c _) (blank d _) = absurd (cc)

-- the class of the byte with which a kind begins
abbrev class_for : TokenKind → Class
class_for (Word _) = Letter
class_for (Name _) = Quote
class_for (Number _) = Digit
class_for (Sign _ _) = Mark
class_for Newline = LineEnd

kind_class : (text : List ℕ) (at to : ℕ) (kind : TokenKind) → IsKind text at to kind → class_of (byte_at text at) ≡ class_for kind
kind_class text at to (Word _) h = h.0.first
kind_class text at to (Name _) h = h.opened.first
kind_class text at to (Number _) h = h.0.first
kind_class text at to (Sign _ _) (double class _ _ _ _) = class
kind_class text at to (Sign _ _) (single class _ _ _ _) = class
kind_class text at to Newline h = h.first

abbrev Same : ℕ → ℕ → TokenKind → TokenKind → Type 0
Same some other k l = (some ≡ other) × (k ≡ l)

sign_unique : (text : List ℕ) (at some other a b c d : ℕ) → IsSign text at some a b → IsSign text at other c d → Same some other (Sign a b) (Sign c d)
sign_unique text at some other a b c d (double _ _ e f g) (double _ _ h i j) = (omega arith, cc)
sign_unique text at some other a b c d (single _ _ e f g) (single _ _ h i j) = (omega arith, cc)
sign_unique text at some other a b c d (double _ p _ _ _) (single _ q _ _ _) = absurd (cc)
sign_unique text at some other a b c d (single _ p _ _ _) (double _ q _ _ _) = absurd (cc)

kind_unique : (text : List ℕ) (at some other : ℕ) (k l : TokenKind) → class_for k ≡ class_for l → IsKind text at some k → IsKind text at other l → Same some other k l
kind_unique text at some other (Word c) (Word d) _ a b =
    let e : some ≡ other = words_end text at some other a.0 b.0 in
    (e, ap Word (a.2 ∙ ap (λ to. code_of (slice_range text at to)) e ∙ sym b.2))
kind_unique text at some other (Name c) (Name d) _ a b =
    let e : a.end ≡ b.end = opened_end text at a.end b.end a.opened b.opened in
    (omega (arith, a.behind, b.behind), ap Name (a.coded ∙ ap (λ to. code_of (slice_range text (at + 1) to)) e ∙ sym b.coded))
kind_unique text at some other (Number c) (Number d) _ a b =
    let e : some ≡ other = digits_end text at some other a.0 b.0 in
    (e, ap Number (sym a.1.value ∙ ap (λ to. digits_value 10 (slice_range text at to)) e ∙ b.1.value))
kind_unique text at some other (Sign c d) (Sign e f) _ a b = sign_unique text at some other c d e f a b
kind_unique text at some other Newline Newline _ a b = (omega (arith, a.one, b.one), refl)
kind_unique text at some other _ _ clash a b = absurd (cc)

token_is : (some other : Token) → some.kind ≡ other.kind → some.from ≡ other.from → some.to ≡ other.to → some ≡ other
token_is some other kind from to = λ i. record { kind = kind i; from = from i; to = to i }

token_unique : (text : List ℕ) (at : ℕ) (some other : Token) → IsToken text at some → IsToken text at other → some ≡ other
token_unique text at some other a b =
    let clash : class_for some.kind ≡ class_for other.kind = sym (kind_class text at some.to some.kind a.kind) ∙ kind_class text at other.to other.kind b.kind in
    let both : Same some.to other.to some.kind other.kind = kind_unique text at some.to other.to some.kind other.kind clash a.kind b.kind in
    token_is some other both.1 (a.from ∙ sym b.from) both.0

-- no piece is of two sorts
gap_or_token : (text : List ℕ) (at to end : ℕ) (kind : TokenKind) → IsGap text at to → class_of (byte_at text at) ≡ class_for kind → ⊥
gap_or_token text at to end (Word _) (blank c _) h = cc
gap_or_token text at to end (Name _) (blank c _) h = cc
gap_or_token text at to end (Number _) (blank c _) h = cc
gap_or_token text at to end (Sign _ _) (blank c _) h = cc
gap_or_token text at to end Newline (blank c _) h = cc
gap_or_token text at to end (Word _) (comment c _) h = cc
gap_or_token text at to end (Name _) (comment c _) h = cc
gap_or_token text at to end (Number _) (comment c _) h = cc
gap_or_token text at to end (Sign _ _) (comment c _) h = cc
gap_or_token text at to end Newline (comment c _) h = cc

gap_is_no_token : (text : List ℕ) (at to : ℕ) (first : Token) → IsGap text at to → IsToken text at first → ⊥
gap_is_no_token text at to first a b = gap_or_token text at to first.to first.kind a (kind_class text at first.to first.kind b.kind)

gap_is_no_fault : (text : List ℕ) (at to : ℕ) (fault : LexError) → IsGap text at to → IsFault text at fault → ⊥
gap_is_no_fault text at to (BadByte _) (blank c _) (inl a) = cc
gap_is_no_fault text at to (BadByte _) (comment c _) (inl a) = cc
gap_is_no_fault text at to (BadByte _) (blank c _) (inr a) = let d = a.0.first in cc
gap_is_no_fault text at to (BadByte _) (comment c _) (inr a) = let d = a.0.first in cc
gap_is_no_fault text at to (LongName _) (blank c _) a = elim a.1.1 [ inl w ↦ let d = w.0.first in cc | inr o ↦ let d = o.0.first in cc ]
gap_is_no_fault text at to (LongName _) (comment c _) a = elim a.1.1 [ inl w ↦ let d = w.0.first in cc | inr o ↦ let d = o.0.first in cc ]
gap_is_no_fault text at to (LongNumber _) (blank c _) a = let d = a.1.1.first in cc
gap_is_no_fault text at to (LongNumber _) (comment c _) a = let d = a.1.1.first in cc
gap_is_no_fault text at to Memory _ a = a

-- a literal that is closed isn't open
open_or_closed : (text : List ℕ) (at some other : ℕ) → IsOpened text at some → byte_at text some ≢ 34 → IsOpened text at other → byte_at text other ≡ 34 → ⊥
open_or_closed text at some other a unclosed b closed = unclosed (ap (byte_at text) (opened_end text at some other a b) ∙ closed)

kind_is_no_fault : (text : List ℕ) (at to : ℕ) (kind : TokenKind) (fault : LexError) → class_of (byte_at text at) ≡ class_for kind
    → IsKind text at to kind → IsFault text at fault → ⊥
kind_is_no_fault text at to _ Memory c k f = f
kind_is_no_fault text at to (Word _) (BadByte _) c k (inl f) = cc
kind_is_no_fault text at to (Word _) (BadByte _) c k (inr f) = let d = f.0.first in cc
kind_is_no_fault text at to (Word _) (LongName _) c k f = elim f.1.1 [
  | inl w ↦ omega (arith, words_end text at to f.1.0 k.0 w.0, k.1, w.1)
  | inr o ↦ let d = o.0.first in cc
]
kind_is_no_fault text at to (Word _) (LongNumber _) c k f = let d = f.1.1.first in cc
kind_is_no_fault text at to (Name _) (BadByte _) c k (inl f) = cc
kind_is_no_fault text at to (Name _) (BadByte p) c k (inr f) = open_or_closed text at p k.end f.0 f.1 k.opened k.closed
kind_is_no_fault text at to (Name _) (LongName _) c k f = elim f.1.1 [
  | inl w ↦ let d = w.0.first in cc
  | inr o ↦ omega (arith, opened_end text at k.end f.1.0 k.opened o.0, k.short, o.2)
]
kind_is_no_fault text at to (Name _) (LongNumber _) c k f = let d = f.1.1.first in cc
kind_is_no_fault text at to (Number _) (BadByte _) c k (inl f) = cc
kind_is_no_fault text at to (Number _) (BadByte _) c k (inr f) = let d = f.0.first in cc
kind_is_no_fault text at to (Number _) (LongName _) c k f = elim f.1.1 [ inl w ↦ let d = w.0.first in cc | inr o ↦ let d = o.0.first in cc ]
kind_is_no_fault text at to (Number n) (LongNumber _) c k f =
    let e : to ≡ f.1.0 = digits_end text at to f.1.0 k.0 f.1.1 in
    let same : digits_value 10 (slice_range text at to) ≡ digits_value 10 (slice_range text at f.1.0) = ap (λ end. digits_value 10 (slice_range text at end)) e in
    omega (arith, same, k.1.value, k.1.small, f.1.2)
kind_is_no_fault text at to (Sign _ _) (BadByte _) c k (inl f) = cc
kind_is_no_fault text at to (Sign _ _) (BadByte _) c k (inr f) = let d = f.0.first in cc
kind_is_no_fault text at to (Sign _ _) (LongName _) c k f = elim f.1.1 [ inl w ↦ let d = w.0.first in cc | inr o ↦ let d = o.0.first in cc ]
kind_is_no_fault text at to (Sign _ _) (LongNumber _) c k f = let d = f.1.1.first in cc
kind_is_no_fault text at to Newline (BadByte _) c k (inl f) = cc
kind_is_no_fault text at to Newline (BadByte _) c k (inr f) = let d = f.0.first in cc
kind_is_no_fault text at to Newline (LongName _) c k f = elim f.1.1 [ inl w ↦ let d = w.0.first in cc | inr o ↦ let d = o.0.first in cc ]
kind_is_no_fault text at to Newline (LongNumber _) c k f = let d = f.1.1.first in cc

token_is_no_fault : (text : List ℕ) (at : ℕ) (first : Token) (fault : LexError) → IsToken text at first → IsFault text at fault → ⊥
token_is_no_fault text at first fault t f =
    kind_is_no_fault text at first.to first.kind fault (kind_class text at first.to first.kind t.kind) t.kind f

bad_or_long : (text : List ℕ) (at p q : ℕ) → IsFault text at (BadByte p) → IsFault text at (LongName q) → ⊥
bad_or_long text at p q (inl a) b = elim b.1.1 [ inl w ↦ let d = w.0.first in cc | inr o ↦ let d = o.0.first in cc ]
bad_or_long text at p q (inr a) b = elim b.1.1 [
  | inl w ↦ let c = a.0.first in let d = w.0.first in cc
  | inr o ↦ open_or_closed text at p b.1.0 a.0 a.1 o.0 o.1
]

bad_or_number : (text : List ℕ) (at p q : ℕ) → IsFault text at (BadByte p) → IsFault text at (LongNumber q) → ⊥
bad_or_number text at p q (inl a) b = let d = b.1.1.first in cc
bad_or_number text at p q (inr a) b = let c = a.0.first in let d = b.1.1.first in cc

name_or_number : (text : List ℕ) (at p q : ℕ) → IsFault text at (LongName p) → IsFault text at (LongNumber q) → ⊥
name_or_number text at p q a b = elim a.1.1 [
  | inl w ↦ let c = w.0.first in let d = b.1.1.first in cc
  | inr o ↦ let c = o.0.first in let d = b.1.1.first in cc
]

fault_unique : (text : List ℕ) (at : ℕ) (some other : LexError) → IsFault text at some → IsFault text at other → some ≡ other
fault_unique text at (BadByte p) (BadByte q) (inl a) (inl b) = ap BadByte (a.1 ∙ sym b.1)
fault_unique text at (BadByte p) (BadByte q) (inl a) (inr b) = let d = b.0.first in absurd (cc)
fault_unique text at (BadByte p) (BadByte q) (inr a) (inl b) = let d = a.0.first in absurd (cc)
fault_unique text at (BadByte p) (BadByte q) (inr a) (inr b) = ap BadByte (opened_end text at p q a.0 b.0)
fault_unique text at (LongName p) (LongName q) a b = ap LongName (a.0 ∙ sym b.0)
fault_unique text at (LongNumber p) (LongNumber q) a b = ap LongNumber (a.0 ∙ sym b.0)
fault_unique text at (BadByte p) (LongName q) a b = absurd (bad_or_long text at p q a b)
fault_unique text at (LongName q) (BadByte p) a b = absurd (bad_or_long text at p q b a)
fault_unique text at (BadByte p) (LongNumber q) a b = absurd (bad_or_number text at p q a b)
fault_unique text at (LongNumber q) (BadByte p) a b = absurd (bad_or_number text at p q b a)
fault_unique text at (LongName p) (LongNumber q) a b = absurd (name_or_number text at p q a b)
fault_unique text at (LongNumber q) (LongName p) a b = absurd (name_or_number text at p q b a)
fault_unique text at Memory _ a b = absurd a
fault_unique text at _ Memory a b = absurd b

-- one reading
pub lexes_unique : (text : List ℕ) (at : ℕ) (ts us : List Token) (r s : Option LexError) → Lexes text at ts r → Lexes text at us s → (ts ≡ us) × (r ≡ s)
lexes_unique text at _ _ _ _ (ends h) (ends k) = (refl, refl)
lexes_unique text at _ _ _ _ (ends h) (stops k _) = absurd (omega arith)
lexes_unique text at _ _ _ _ (ends h) (gap _ k _ _) = absurd (omega arith)
lexes_unique text at _ _ _ _ (ends h) (token _ k _ _) = absurd (omega arith)
lexes_unique text at _ _ _ _ (stops h _) (ends k) = absurd (omega arith)
lexes_unique text at _ _ _ _ (stops {fault = f} h a) (stops {fault = g} k b) = (refl, ap Some (fault_unique text at f g a b))
lexes_unique text at _ _ _ _ (stops {fault = f} h a) (gap to k b _) = absurd (gap_is_no_fault text at to f b a)
lexes_unique text at _ _ _ _ (stops {fault = f} h a) (token first k b _) = absurd (token_is_no_fault text at first f b a)
lexes_unique text at _ _ _ _ (gap _ h _ _) (ends k) = absurd (omega arith)
lexes_unique text at _ _ _ _ (gap to h a _) (stops {fault = f} k b) = absurd (gap_is_no_fault text at to f a b)
lexes_unique text at ts us r s (gap to h a more) (gap end k b rest) =
    let e : end ≡ to = gap_unique text at end to b a in
    lexes_unique text to ts us r s more (subst (λ (place : ℕ). Lexes text place us s) e rest)
lexes_unique text at _ _ _ _ (gap to h a _) (token first k b _) = absurd (gap_is_no_token text at to first a b)
lexes_unique text at _ _ _ _ (token _ h _ _) (ends k) = absurd (omega arith)
lexes_unique text at _ _ _ _ (token first h a _) (stops {fault = f} k b) = absurd (token_is_no_fault text at first f a b)
lexes_unique text at _ _ _ _ (token first h a _) (gap to k b _) = absurd (gap_is_no_token text at to first b a)
lexes_unique text at _ _ r s (token {tokens = ts} first h a more) (token {tokens = us} next k b rest) =
    let e : next ≡ first = token_unique text at next first b a in
    let ih = lexes_unique text first.to ts us r s more (subst (λ (t : Token). Lexes text t.to us s) e rest) in
    (λ i. sym e i ∷ ih.0 i, ih.1)

pub tokens_once : (text : List ℕ) (some other : List Token) → TokensOf text some → TokensOf text other → some ≡ other
tokens_once text some other a b = (lexes_unique text 0 some other None None a b).0

pub fault_once : (text : List ℕ) (some other : LexError) → FaultOf text some → FaultOf text other → some ≡ other
fault_once text some other a b =
    let e : Some some ≡ Some other = (lexes_unique text 0 a.0 b.0 (Some some) (Some other) a.1 b.1).1 in cc

pub not_both : (text : List ℕ) (some : List Token) (fault : LexError) → TokensOf text some → FaultOf text fault → ⊥
not_both text some fault a b =
    let e : None ≡ Some fault = (lexes_unique text 0 some b.0 None (Some fault) a b.1).1 in cc

-- what a fault that is told says of a text's tokens, and of its fault
pub told_and_tokens : (text : List ℕ) (fault : LexError) → TellsFault text fault → (found : List Token) → TokensOf text found → fault ≡ Memory
told_and_tokens text (BadByte p) t found h = absurd (not_both text found (BadByte p) h t)
told_and_tokens text (LongName p) t found h = absurd (not_both text found (LongName p) h t)
told_and_tokens text (LongNumber p) t found h = absurd (not_both text found (LongNumber p) h t)
told_and_tokens text Memory t found h = refl

pub told_and_fault : (text : List ℕ) (told : LexError) → TellsFault text told → (fault : LexError) → FaultOf text fault → (told ≡ fault) ⊎ (told ≡ Memory)
told_and_fault text (BadByte p) t fault h = inl (fault_once text (BadByte p) fault t h)
told_and_fault text (LongName p) t fault h = inl (fault_once text (LongName p) fault t h)
told_and_fault text (LongNumber p) t fault h = inl (fault_once text (LongNumber p) fault t h)
told_and_fault text Memory t fault h = inr refl
