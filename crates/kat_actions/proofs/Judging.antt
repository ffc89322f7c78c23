-- Every text is judged, and in one way.
use Rattle.std.proofs.Common.{◌≡◌, ℕ, ◌+◌, ◌<◌, ◌⊎◌, inl, inr, List, [], ◌∷◌, length, refl, sym, ◌∙◌, ap, subst, arith, Option, None, Some, Result, Ok, Err}
use Rattle.kat_lex.specs.Tokens.{FaultOf, TokensOf}
use Rattle.kat_lex.specs.declared.lexer.LexError.{LexError}
use Rattle.kat_lex.specs.declared.lexer.Token.{Token}
use Rattle.kat_lex.proofs.Unique.{tokens_once, fault_once, not_both}
use Rattle.kat_lex.proofs.Exists.{every_text}
use Rattle.kat_script.specs.Faults.{refusal_of_fault}
use Rattle.kat_script.specs.Script.{text_lines}
use Rattle.kat_script.specs.declared.error.ScriptError.{ScriptError}
use Rattle.kat_script.specs.declared.error.ScriptError.TheVariants as refusal
use Rattle.kat_type.specs.declared.signatures.Signature.{Signature}
use Rattle.kat_actions.specs.Grammar.{Calls, Gives}
use Rattle.kat_actions.specs.Texts.{AreCallsOf, IsRefused, Reads, at_byte, at_line, blank, breaks, call_of, ends, judged, keeps, unreadable}
use Rattle.kat_actions.specs.declared.calls.Call.{Call}
use Rattle.kat_actions.specs.declared.calls.Called.{Called}
use Rattle.kat_actions.specs.declared.calls.Verb.{Verb}
use Rattle.kat_actions.proofs.Calling.{called_or_not, no_tokens, one_called}

-- a text is read from a line on
record Judged (verb : Verb) (sig : Signature) (number count : ℕ) (rest : List (List Token)) : Type 0 where
  calls : List Call
  end : Option ScriptError
  reads : Reads verb sig number count rest calls end

judge_called : (verb : Verb) (sig : Signature) (number count : ℕ) (tokens : List Token) (rest : List (List Token)) (called : Called) (r : Result ℕ ℕ) → Calls verb tokens called
    → judged verb sig count called ≡ r → ((number count : ℕ) → Judged verb sig number count rest) → Judged verb sig number count (tokens ∷ rest)
judge_called verb sig number count tokens rest called (Err rule) c e goes =
    record { calls = []; end = Some (refusal.Line rule number); reads = breaks called rule c e }
judge_called verb sig number count tokens rest called (Ok item) c e goes =
    let more = goes (number + 1) (count + 1) in
    record { calls = call_of number item called ∷ more.calls; end = more.end; reads = keeps called item c e more.reads }

judge_line : (verb : Verb) (sig : Signature) (number count : ℕ) (tokens : List Token) (rest : List (List Token)) (found : Option Called) → 0 < length tokens → Gives verb tokens found
    → ((number count : ℕ) → Judged verb sig number count rest) → Judged verb sig number count (tokens ∷ rest)
judge_line verb sig number count tokens rest None some none goes = record { calls = []; end = Some (refusal.Line 10 number); reads = unreadable some none }
judge_line verb sig number count tokens rest (Some called) some one goes = judge_called verb sig number count tokens rest called (judged verb sig count called) one.0 refl goes

judge : (verb : Verb) (sig : Signature) (rest : List (List Token)) (number count : ℕ) → Judged verb sig number count rest
judge verb sig [] number count = record { calls = []; end = None; reads = ends }
judge verb sig ([] ∷ rest) number count =
    let more = judge verb sig rest (number + 1) count in
    record { calls = more.calls; end = more.end; reads = blank more.reads }
judge verb sig ((token ∷ tokens) ∷ rest) number count =
    let found = called_or_not verb (token ∷ tokens) in
    judge_line verb sig number count (token ∷ tokens) rest found.0 (omega arith) found.1 (λ n k. judge verb sig rest n k)

answered : (verb : Verb) (sig : Signature) (text : List ℕ) (tokens : List Token) (calls : List Call) (end : Option ScriptError) → TokensOf text tokens
    → Reads verb sig 1 0 (text_lines tokens) calls end → ((calls : List Call) × AreCallsOf verb sig text calls) ⊎ ((error : ScriptError) × IsRefused verb sig text error)
answered verb sig text tokens calls None lexed r = inl (calls, record { tokens = tokens; lexed = lexed; read = r })
answered verb sig text tokens calls (Some error) lexed r = inr (error, at_line tokens calls lexed r)

judged_by : (verb : Verb) (sig : Signature) (text : List ℕ) → ((found : List Token) × TokensOf text found) ⊎ ((fault : LexError) × FaultOf text fault)
    → ((calls : List Call) × AreCallsOf verb sig text calls) ⊎ ((error : ScriptError) × IsRefused verb sig text error)
judged_by verb sig text (inl h) = let j = judge verb sig (text_lines h.0) 1 0 in answered verb sig text h.0 j.calls j.end h.1 j.reads
judged_by verb sig text (inr h) = inr (refusal_of_fault h.0, at_byte h.0 h.1)

pub every_text_of_calls : (verb : Verb) (sig : Signature) (text : List ℕ) → ((calls : List Call) × AreCallsOf verb sig text calls) ⊎ ((error : ScriptError) × IsRefused verb sig text error)
every_text_of_calls verb sig text = judged_by verb sig text (every_text text)

-- one call is judged in one way
one_judgement : (verb : Verb) (sig : Signature) (count : ℕ) (some other : Called) (r s : Result ℕ ℕ) → some ≡ other → judged verb sig count some ≡ r → judged verb sig count other ≡ s → r ≡ s
one_judgement verb sig count some other r s same e f = sym e ∙ ap (λ called. judged verb sig count called) same ∙ f

-- lines are read in one way
reads_once : (verb : Verb) (sig : Signature) (number count : ℕ) (rest : List (List Token)) (ls ms : List Call) (a b : Option ScriptError)
    → Reads verb sig number count rest ls a → Reads verb sig number count rest ms b → (ls ≡ ms) × (a ≡ b)
reads_once verb sig number count _ _ _ _ _ (ends) (ends) = (refl, refl)
reads_once verb sig number count _ ls ms a b (blank {rest = rest} x) (blank y) = reads_once verb sig (number + 1) count rest ls ms a b x y
reads_once verb sig number count _ _ _ _ _ (blank x) (unreadable some none) = absurd (omega arith)
reads_once verb sig number count _ _ _ _ _ (blank x) (breaks called rule c e) = absurd (no_tokens verb called c)
reads_once verb sig number count _ _ _ _ _ (blank x) (keeps called item c e y) = absurd (no_tokens verb called c)
reads_once verb sig number count _ _ _ _ _ (unreadable some none) (blank y) = absurd (omega arith)
reads_once verb sig number count _ _ _ _ _ (unreadable some none) (unreadable more never) = (refl, refl)
reads_once verb sig number count _ _ _ _ _ (unreadable some none) (breaks called rule c e) = absurd (none called c)
reads_once verb sig number count _ _ _ _ _ (unreadable some none) (keeps called item c e y) = absurd (none called c)
reads_once verb sig number count _ _ _ _ _ (breaks called rule c e) (blank y) = absurd (no_tokens verb called c)
reads_once verb sig number count _ _ _ _ _ (breaks called rule c e) (unreadable some none) = absurd (none called c)
reads_once verb sig number count _ _ _ _ _ (breaks {tokens = tokens} called rule c e) (breaks other more d f) =
    let g : Err rule ≡ Err more = one_judgement verb sig count called other (Err rule) (Err more) (one_called verb tokens called other c d) e f in
    let one : rule ≡ more = cc in
    (refl, λ i. Some (refusal.Line (one i) number))
reads_once verb sig number count _ _ _ _ _ (breaks {tokens = tokens} called rule c e) (keeps other item d f y) =
    let g : Err rule ≡ Ok item = one_judgement verb sig count called other (Err rule) (Ok item) (one_called verb tokens called other c d) e f in
    absurd cc
reads_once verb sig number count _ _ _ _ _ (keeps called item c e x) (blank y) = absurd (no_tokens verb called c)
reads_once verb sig number count _ _ _ _ _ (keeps called item c e x) (unreadable some none) = absurd (none called c)
reads_once verb sig number count _ _ _ _ _ (keeps {tokens = tokens} called item c e x) (breaks other rule d f) =
    let g : Ok item ≡ Err rule = one_judgement verb sig count called other (Ok item) (Err rule) (one_called verb tokens called other c d) e f in
    absurd cc
reads_once verb sig number count _ _ _ a b (keeps {tokens = tokens} {rest = rest} {calls = ls} called item c e x) (keeps {calls = ms} other number' d f y) =
    let same : called ≡ other = one_called verb tokens called other c d in
    let g : Ok item ≡ Ok number' = one_judgement verb sig count called other (Ok item) (Ok number') same e f in
    let one : item ≡ number' = cc in
    let more = reads_once verb sig (number + 1) (count + 1) rest ls ms a b x y in
    (λ i. call_of number (one i) (same i) ∷ more.0 i, more.1)

-- the same, for the lines of equal tokens
texts_once : (verb : Verb) (sig : Signature) (some other : List Token) (ls ms : List Call) (a b : Option ScriptError) → some ≡ other
    → Reads verb sig 1 0 (text_lines some) ls a → Reads verb sig 1 0 (text_lines other) ms b → (ls ≡ ms) × (a ≡ b)
texts_once verb sig some other ls ms a b e r q =
    reads_once verb sig 1 0 (text_lines some) ls ms a b r (subst (λ (tokens : List Token). Reads verb sig 1 0 (text_lines tokens) ms b) (sym e) q)

pub calls_once : (verb : Verb) (sig : Signature) (text : List ℕ) (some other : List Call) → AreCallsOf verb sig text some → AreCallsOf verb sig text other → some ≡ other
calls_once verb sig text some other a b = (texts_once verb sig a.tokens b.tokens some other None None (tokens_once text a.tokens b.tokens a.lexed b.lexed) a.read b.read).0

pub refusal_once : (verb : Verb) (sig : Signature) (text : List ℕ) (some other : ScriptError) → IsRefused verb sig text some → IsRefused verb sig text other → some ≡ other
refusal_once verb sig text _ _ (at_byte fault h) (at_byte more k) = ap refusal_of_fault (fault_once text fault more h k)
refusal_once verb sig text _ _ (at_byte fault h) (at_line tokens before lexed r) = absurd (not_both text tokens fault lexed h)
refusal_once verb sig text _ _ (at_line tokens before lexed r) (at_byte fault h) = absurd (not_both text tokens fault lexed h)
refusal_once verb sig text some other (at_line tokens before lexed r) (at_line others more relexed q) =
    let g : Some some ≡ Some other = (texts_once verb sig tokens others before more (Some some) (Some other) (tokens_once text tokens others lexed relexed) r q).1 in cc

pub calls_or_refused : (verb : Verb) (sig : Signature) (text : List ℕ) (calls : List Call) (error : ScriptError) → AreCallsOf verb sig text calls → IsRefused verb sig text error → ⊥
calls_or_refused verb sig text calls _ a (at_byte fault h) = not_both text a.tokens fault a.lexed h
calls_or_refused verb sig text calls error a (at_line tokens before lexed r) =
    let g : None ≡ Some error = (texts_once verb sig a.tokens tokens calls before None (Some error) (tokens_once text a.tokens tokens a.lexed lexed) a.read r).1 in cc
