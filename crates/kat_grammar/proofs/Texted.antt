-- Every text is judged, in one way only.
use Rattle.std.proofs.Common.{◌≡◌, ℕ, Bool, zero, suc, arith, get_or, [], ◌∷◌, ◌<◌, ◌≤◌, ◌⊎◌, inl, inr, List, length, map, refl, sym, ap, subst}
use Rattle.std.specs.Prelude.{Result, Ok, Err, IsErrAnd, IfErr}
use Rattle.std.specs.List.{slice_index_or}
use Rattle.kat_grammar.specs.declared.marks.Placed.{Placed}
use Rattle.kat_lex.specs.Tokens.{FaultOf, TellsFault, TokensOf}
use Rattle.kat_lex.specs.declared.lexer.LexError.{LexError}
use Rattle.kat_lex.specs.declared.lexer.LexError.TheVariants as fault
use Rattle.kat_lex.specs.declared.lexer.Token.{Token}
use Rattle.kat_lex.proofs.Unique.{tokens_once, fault_once, not_both}
use Rattle.kat_lex.proofs.Exists.{every_text}
use Rattle.kat_grammar.specs.Files.{IsRefused, IsTextOf, Says, SyntaxAt, TellsRefusal, TooLargeAt, place_in, refusal_of_fault}
use Rattle.kat_grammar.specs.Files.IsRefused.{at_byte, too_large, no_type}
use Rattle.kat_grammar.specs.Forms.{TypeForm, type_form}
use Rattle.kat_grammar.specs.Marks.{is_second, placed, token_placed}
use Rattle.kat_grammar.specs.Views.{Judges}
use Rattle.kat_grammar.specs.declared.errors.GrammarError.{GrammarError}
use Rattle.kat_grammar.specs.declared.errors.GrammarError.TheVariants as refusal
use Rattle.kat_grammar.specs.declared.phrases.TypeText.{TypeText}
use Rattle.kat_grammar.specs.declared.reader.Judgement.TheVariants as judgement
use Rattle.kat_grammar.proofs.Judging.{Verdict, not_both_said, one_large, one_syntax, one_type, verdict}
use Rattle.kat_grammar.proofs.Judging.Verdict.{a_type, a_fault, a_large}

pub told_fault : (text : List ℕ) (f : LexError) → TellsFault text f → TellsRefusal text (refusal_of_fault f)
told_fault text (fault.BadByte at) h = at_byte (fault.BadByte at) h
told_fault text (fault.LongName at) h = at_byte (fault.LongName at) h
told_fault text (fault.LongNumber at) h = at_byte (fault.LongNumber at) h
told_fault text fault.Memory h = tt

pub text_of : (text : List ℕ) (tokens : List Token) (t : TypeText) → TokensOf text tokens → Judges (placed tokens) (judgement.Whole t) → IsTextOf text (type_form t)
text_of text tokens t lexed h = record { tokens = tokens; lexed = lexed; says = h.0; small = h.1 }

pub syntax_of : (text : List ℕ) (tokens : List Token) (k place : ℕ) → TokensOf text tokens → Judges (placed tokens) (judgement.Syntax k) → place ≡ place_in text (placed tokens) k
    → TellsRefusal text (refusal.Syntax place)
syntax_of text tokens k place lexed h e = subst (λ p. IsRefused text (refusal.Syntax p)) (sym e) (no_type tokens k lexed h.0 h.1)

pub large_of : (text : List ℕ) (tokens : List Token) (k place : ℕ) → TokensOf text tokens → Judges (placed tokens) (judgement.TooLarge k) → place ≡ place_in text (placed tokens) k
    → TellsRefusal text (refusal.TooLarge place)
large_of text tokens k place lexed h e = subst (λ p. IsRefused text (refusal.TooLarge p)) (sym e) (too_large tokens k lexed h)

by_verdict : (text : List ℕ) (tokens : List Token) → TokensOf text tokens → Verdict (placed tokens) → ((t : TypeForm) × IsTextOf text t) ⊎ ((e : GrammarError) × IsRefused text e)
by_verdict text tokens lexed (a_type t says small) = inl (t, record { tokens = tokens; lexed = lexed; says = says; small = small })
by_verdict text tokens lexed (a_fault k at none) = inr (refusal.Syntax (place_in text (placed tokens) k), no_type tokens k lexed at none)
by_verdict text tokens lexed (a_large k at) = inr (refusal.TooLarge (place_in text (placed tokens) k), too_large tokens k lexed at)

by_tokens : (text : List ℕ) → ((found : List Token) × TokensOf text found) ⊎ ((f : LexError) × FaultOf text f) → ((t : TypeForm) × IsTextOf text t) ⊎ ((e : GrammarError) × IsRefused text e)
by_tokens text (inl h) = by_verdict text h.0 h.1 (verdict (placed h.0))
by_tokens text (inr h) = inr (refusal_of_fault h.0, at_byte h.0 h.1)

pub every_type_text : (text : List ℕ) → ((t : TypeForm) × IsTextOf text t) ⊎ ((e : GrammarError) × IsRefused text e)
every_type_text text = by_tokens text (every_text text)

-- the place of a token, or the end
placed_read : (second : Bool) (tokens : List Token) (k end : ℕ) (d : Token) → k < length tokens
    → (get_or tokens k d).from ≡ slice_index_or (map (λ (t : Placed). t.at) (map (token_placed second) tokens)) k end
placed_read second [] k end d h = absurd (omega (arith, h))
placed_read second (t ∷ tokens) zero end d h = refl
placed_read second (t ∷ tokens) (suc k) end d h = placed_read second tokens k end d (omega (arith, h))

pub place_read : (tokens : List Token) (k end : ℕ) (d : Token) → k < length tokens → (get_or tokens k d).from ≡ slice_index_or (map (λ (t : Placed). t.at) (placed tokens)) k end
place_read tokens k end d h = placed_read (is_second tokens) tokens k end d h

placed_past : (second : Bool) (tokens : List Token) (k end : ℕ) → length tokens ≤ k → end ≡ slice_index_or (map (λ (t : Placed). t.at) (map (token_placed second) tokens)) k end
placed_past second [] k end h = refl
placed_past second (t ∷ tokens) zero end h = absurd (omega (arith, h))
placed_past second (t ∷ tokens) (suc k) end h = placed_past second tokens k end (omega (arith, h))

pub place_past : (tokens : List Token) (k end : ℕ) → length tokens ≤ k → end ≡ slice_index_or (map (λ (t : Placed). t.at) (placed tokens)) k end
place_past tokens k end h = placed_past (is_second tokens) tokens k end h

-- one way only
pub text_once : (text : List ℕ) (some other : TypeForm) → IsTextOf text some → IsTextOf text other → some ≡ other
text_once text some other a b =
    let e : a.tokens ≡ b.tokens = tokens_once text a.tokens b.tokens a.lexed b.lexed in
    one_type (placed b.tokens) some other (subst (λ tokens. Says (placed tokens) some) e a.says) b.says

same_tokens : (text : List ℕ) (tokens others : List Token) → TokensOf text tokens → TokensOf text others → tokens ≡ others
same_tokens text tokens others a b = tokens_once text tokens others a b

pub refusal_once : (text : List ℕ) (some other : GrammarError) → IsRefused text some → IsRefused text other → some ≡ other
refusal_once text _ _ (at_byte f h) (at_byte g k) = ap refusal_of_fault (fault_once text f g h k)
refusal_once text _ _ (at_byte f h) (too_large tokens k lexed x) = absurd (not_both text tokens f lexed h)
refusal_once text _ _ (at_byte f h) (no_type tokens k lexed x n) = absurd (not_both text tokens f lexed h)
refusal_once text _ _ (too_large tokens k lexed x) (at_byte f h) = absurd (not_both text tokens f lexed h)
refusal_once text _ _ (no_type tokens k lexed x n) (at_byte f h) = absurd (not_both text tokens f lexed h)
refusal_once text _ _ (too_large tokens k lexed x) (too_large others m relexed y) =
    let e = same_tokens text tokens others lexed relexed in
    let same = one_large (placed others) k m (subst (λ tokens. TooLargeAt (placed tokens) k) e x) y in
    λ i. refusal.TooLarge (place_in text (placed (e i)) (same i))
refusal_once text _ _ (too_large tokens k lexed x) (no_type others m relexed y n) =
    let e = same_tokens text tokens others lexed relexed in
    absurd (n k (subst (λ tokens. TooLargeAt (placed tokens) k) e x))
refusal_once text _ _ (no_type tokens k lexed x n) (too_large others m relexed y) =
    let e = same_tokens text others tokens relexed lexed in
    absurd (n m (subst (λ tokens. TooLargeAt (placed tokens) m) e y))
refusal_once text _ _ (no_type tokens k lexed x n) (no_type others m relexed y o) =
    let e = same_tokens text tokens others lexed relexed in
    let same = one_syntax (placed others) k m (subst (λ tokens. SyntaxAt (placed tokens) k) e x) y in
    λ i. refusal.Syntax (place_in text (placed (e i)) (same i))

pub text_or_refused : (text : List ℕ) (t : TypeForm) (e : GrammarError) → IsTextOf text t → IsRefused text e → ⊥
text_or_refused text t _ a (at_byte f h) = not_both text a.tokens f a.lexed h
text_or_refused text t _ a (too_large tokens k lexed x) =
    let e = same_tokens text tokens a.tokens lexed a.lexed in
    a.small k (subst (λ tokens. TooLargeAt (placed tokens) k) e x)
text_or_refused text t _ a (no_type tokens k lexed x n) =
    let e = same_tokens text a.tokens tokens a.lexed lexed in
    not_both_said (placed tokens) t k (subst (λ tokens. Says (placed tokens) t) e a.says) x

-- an error that is handed on
pub fault_on : (text : List ℕ) (f : LexError) (r : Result TypeText GrammarError) → IsErrAnd r (λ e. e ≡ refusal_of_fault f) → TellsFault text f → IfErr r (λ e. TellsRefusal text e)
fault_on text f (Err e) is h = subst (TellsRefusal text) (sym is) (told_fault text f h)
fault_on text f (Ok t) is h = absurd is

-- the same, of tokens that were looked at twice
pub syntax_on : (text : List ℕ) (tokens judged looked : List Token) (k place : ℕ) → judged ≡ tokens → looked ≡ tokens → TokensOf text tokens → Judges (placed judged) (judgement.Syntax k)
    → place ≡ place_in text (placed looked) k → TellsRefusal text (refusal.Syntax place)
syntax_on text tokens judged looked k place e f lexed h p =
    syntax_of text tokens k place lexed (subst (λ ts. Judges (placed ts) (judgement.Syntax k)) e h) (subst (λ ts. place ≡ place_in text (placed ts) k) f p)

pub large_on : (text : List ℕ) (tokens judged looked : List Token) (k place : ℕ) → judged ≡ tokens → looked ≡ tokens → TokensOf text tokens → Judges (placed judged) (judgement.TooLarge k)
    → place ≡ place_in text (placed looked) k → TellsRefusal text (refusal.TooLarge place)
large_on text tokens judged looked k place e f lexed h p =
    large_of text tokens k place lexed (subst (λ ts. Judges (placed ts) (judgement.TooLarge k)) e h) (subst (λ ts. place ≡ place_in text (placed ts) k) f p)
