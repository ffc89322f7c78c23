-- Every text is judged, and in one way.
use Rattle.std.proofs.Common.{◌≡◌, ℕ, zero, suc, ◌<◌, ◌⊎◌, inl, inr, List, [], ◌∷◌, ◌++◌, length, refl, sym, ◌∙◌, ap, subst, arith, Option, None, Some}
use Rattle.std.specs.Prelude.{option_to_list}
use Rattle.kat_lex.specs.Tokens.{FaultOf, TokensOf}
use Rattle.kat_lex.specs.declared.lexer.LexError.{LexError}
use Rattle.kat_lex.specs.declared.lexer.Token.{Token}
use Rattle.kat_lex.proofs.Unique.{tokens_once, fault_once, not_both}
use Rattle.kat_lex.proofs.Exists.{every_text}
use Rattle.kat_script.specs.Faults.{refusal_of_fault}
use Rattle.kat_script.specs.Grammar.{Says}
use Rattle.kat_script.specs.Rules.{first_broken, line_of}
use Rattle.kat_script.specs.Script.{Ending, IsRefused, IsScriptText, Place, Reads, at_byte, at_line, behind, below, blank, breaks, ends, good, keeps, known_at, never_opens, refusal_of, refused, start, text_lines, unreadable}
use Rattle.kat_script.specs.declared.error.ScriptError.{ScriptError}
use Rattle.kat_script.specs.declared.error.ScriptError.TheVariants as refusal
use Rattle.kat_script.specs.declared.rules.Rule.{Rule}
use Rattle.kat_script.specs.declared.said.Said.{Said}
use Rattle.kat_script.specs.declared.script.Line.{Line}
use Rattle.kat_script.specs.declared.script.Script.{Script}
use Rattle.kat_type.specs.declared.signatures.Signature.{Signature}
use Rattle.kat_script.proofs.Following.{a_script, script_read}
use Rattle.kat_script.proofs.Saying.{SaysOrNot, no_tokens, nothing, one_said, says_or_not, something}

-- a text is read from a place on
record Judged (sig : Signature) (place : Place) (rest : List (List Token)) : Type 0 where
  lines : List Line
  end : Ending
  reads : Reads sig place rest lines end

judge_end : (sig : Signature) (place : Place) (n : ℕ) → place.lines ≡ n → Judged sig place []
judge_end sig place zero e = record { lines = []; end = refused (refusal.Line 10 1); reads = never_opens e }
judge_end sig place (suc n) e = record { lines = []; end = good place; reads = ends (omega (arith, e)) }

judge_said : (sig : Signature) (place : Place) (tokens : List Token) (rest : List (List Token)) (said : Said) (broken : Option Rule) → Says tokens said
    → first_broken sig (known_at place) said ≡ broken → ((place : Place) → Judged sig place rest) → Judged sig place (tokens ∷ rest)
judge_said sig place tokens rest said (Some rule) s e goes =
    record { lines = []; end = refused (refusal_of place.number (known_at place) said rule); reads = breaks said rule s e }
judge_said sig place tokens rest said None s e goes =
    let more = goes (behind sig place said) in
    record { lines = option_to_list (line_of sig (known_at place) said) ++ more.lines; end = more.end; reads = keeps said s e more.reads }

judge_line : (sig : Signature) (place : Place) (tokens : List Token) (rest : List (List Token)) → 0 < length tokens → SaysOrNot tokens
    → ((place : Place) → Judged sig place rest) → Judged sig place (tokens ∷ rest)
judge_line sig place tokens rest some (nothing none) goes =
    record { lines = []; end = refused (refusal.Line 10 place.number); reads = unreadable some none }
judge_line sig place tokens rest some (something said s) goes = judge_said sig place tokens rest said (first_broken sig (known_at place) said) s refl goes

judge : (sig : Signature) (rest : List (List Token)) (place : Place) → Judged sig place rest
judge sig [] place = judge_end sig place place.lines refl
judge sig ([] ∷ rest) place =
    let more = judge sig rest (below place) in
    record { lines = more.lines; end = more.end; reads = blank more.reads }
judge sig ((token ∷ tokens) ∷ rest) place =
    judge_line sig place (token ∷ tokens) rest (omega arith) (says_or_not (token ∷ tokens)) (λ p. judge sig rest p)

answered : (sig : Signature) (text : List ℕ) (tokens : List Token) (lines : List Line) (end : Ending) → TokensOf text tokens → Reads sig start (text_lines tokens) lines end
    → ((script : Script) × IsScriptText sig text script) ⊎ ((error : ScriptError) × IsRefused sig text error)
answered sig text tokens lines (good last) lexed r =
    inl (
      record { replicas = length last.world.replicas; packets = length last.words; lines = lines },
      record { tokens = tokens; lexed = lexed; judged = a_script sig (text_lines tokens) (record { replicas = length last.world.replicas; packets = length last.words; lines = lines }) last r refl refl },
    )
answered sig text tokens lines (refused error) lexed r = inr (error, at_line tokens lexed (record { before = lines; read = r }))

judged_by : (sig : Signature) (text : List ℕ) → ((found : List Token) × TokensOf text found) ⊎ ((fault : LexError) × FaultOf text fault)
    → ((script : Script) × IsScriptText sig text script) ⊎ ((error : ScriptError) × IsRefused sig text error)
judged_by sig text (inl h) = let j = judge sig (text_lines h.0) start in answered sig text h.0 j.lines j.end h.1 j.reads
judged_by sig text (inr h) = inr (refusal_of_fault h.0, at_byte h.0 h.1)

-- every text is a script or refused
pub every_script_text : (sig : Signature) (text : List ℕ)
    → ((script : Script) × IsScriptText sig text script) ⊎ ((error : ScriptError) × IsRefused sig text error)
every_script_text sig text = judged_by sig text (every_text text)

-- one rule is broken first
one_rule : (sig : Signature) (place : Place) (some other : Said) (rule more : Rule) → some ≡ other
    → first_broken sig (known_at place) some ≡ Some rule → first_broken sig (known_at place) other ≡ Some more → rule ≡ more
one_rule sig place some other rule more same e f =
    let g : Some rule ≡ Some more = sym e ∙ ap (λ said. first_broken sig (known_at place) said) same ∙ f in cc

broken_or_kept : (sig : Signature) (place : Place) (some other : Said) (rule : Rule) → some ≡ other
    → first_broken sig (known_at place) some ≡ Some rule → first_broken sig (known_at place) other ≡ None → ⊥
broken_or_kept sig place some other rule same e f =
    let g : Some rule ≡ None = sym e ∙ ap (λ said. first_broken sig (known_at place) said) same ∙ f in cc

-- lines are read in one way
reads_once : (sig : Signature) (place : Place) (rest : List (List Token)) (ls ms : List Line) (a b : Ending)
    → Reads sig place rest ls a → Reads sig place rest ms b → (ls ≡ ms) × (a ≡ b)
reads_once sig place _ _ _ _ _ (ends h) (ends k) = (refl, refl)
reads_once sig place _ _ _ _ _ (ends h) (never_opens k) = absurd (omega (arith, k))
reads_once sig place _ _ _ _ _ (never_opens h) (ends k) = absurd (omega (arith, h))
reads_once sig place _ _ _ _ _ (never_opens h) (never_opens k) = (refl, refl)
reads_once sig place _ ls ms a b (blank {rest = rest} x) (blank y) = reads_once sig (below place) rest ls ms a b x y
reads_once sig place _ _ _ _ _ (blank x) (unreadable some none) = absurd (omega arith)
reads_once sig place _ _ _ _ _ (blank x) (breaks said rule s e) = absurd (no_tokens said s)
reads_once sig place _ _ _ _ _ (blank x) (keeps said s e y) = absurd (no_tokens said s)
reads_once sig place _ _ _ _ _ (unreadable some none) (blank y) = absurd (omega arith)
reads_once sig place _ _ _ _ _ (unreadable some none) (unreadable more never) = (refl, refl)
reads_once sig place _ _ _ _ _ (unreadable some none) (breaks said rule s e) = absurd (none said s)
reads_once sig place _ _ _ _ _ (unreadable some none) (keeps said s e y) = absurd (none said s)
reads_once sig place _ _ _ _ _ (breaks said rule s e) (blank y) = absurd (no_tokens said s)
reads_once sig place _ _ _ _ _ (breaks said rule s e) (unreadable some none) = absurd (none said s)
reads_once sig place _ _ _ _ _ (breaks {tokens = tokens} said rule s e) (breaks other more t f) =
    let same : said ≡ other = one_said tokens said other s t in
    let one : rule ≡ more = one_rule sig place said other rule more same e f in
    (refl, λ i. refused (refusal_of place.number (known_at place) (same i) (one i)))
reads_once sig place _ _ _ _ _ (breaks {tokens = tokens} said rule s e) (keeps other t f y) =
    absurd (broken_or_kept sig place said other rule (one_said tokens said other s t) e f)
reads_once sig place _ _ _ _ _ (keeps said s e x) (blank y) = absurd (no_tokens said s)
reads_once sig place _ _ _ _ _ (keeps said s e x) (unreadable some none) = absurd (none said s)
reads_once sig place _ _ _ _ _ (keeps {tokens = tokens} said s e x) (breaks other rule t f) =
    absurd (broken_or_kept sig place other said rule (one_said tokens other said t s) f e)
reads_once sig place _ _ _ a b (keeps {tokens = tokens} {rest = rest} {lines = ls} said s e x) (keeps {lines = ms} other t f y) =
    let same : said ≡ other = one_said tokens said other s t in
    let z : Reads sig (behind sig place said) rest ms b = subst (λ (it : Said). Reads sig (behind sig place it) rest ms b) (sym same) y in
    let more = reads_once sig (behind sig place said) rest ls ms a b x z in
    (λ i. option_to_list (line_of sig (known_at place) (same i)) ++ more.0 i, more.1)

-- the same, for the lines of equal tokens
texts_once : (sig : Signature) (some other : List Token) (ls ms : List Line) (a b : Ending) → some ≡ other
    → Reads sig start (text_lines some) ls a → Reads sig start (text_lines other) ms b → (ls ≡ ms) × (a ≡ b)
texts_once sig some other ls ms a b e r q =
    reads_once sig start (text_lines some) ls ms a b r (subst (λ (tokens : List Token). Reads sig start (text_lines tokens) ms b) (sym e) q)

pub script_once : (sig : Signature) (text : List ℕ) (some other : Script) → IsScriptText sig text some → IsScriptText sig text other → some ≡ other
script_once sig text some other a b =
    let e : a.tokens ≡ b.tokens = tokens_once text a.tokens b.tokens a.lexed b.lexed in
    let one = texts_once sig a.tokens b.tokens some.lines other.lines (good a.judged.last) (good b.judged.last) e (script_read sig (text_lines a.tokens) some a.judged) (script_read sig (text_lines b.tokens) other b.judged) in
    let g : good a.judged.last ≡ good b.judged.last = one.1 in
    let last : a.judged.last ≡ b.judged.last = cc in
    let replicas : some.replicas ≡ other.replicas = a.judged.replicas ∙ ap (λ (p : Place). length p.world.replicas) last ∙ sym b.judged.replicas in
    let packets : some.packets ≡ other.packets = a.judged.packets ∙ ap (λ (p : Place). length p.words) last ∙ sym b.judged.packets in
    λ i. record { replicas = replicas i; packets = packets i; lines = one.0 i }

pub refusal_once : (sig : Signature) (text : List ℕ) (some other : ScriptError) → IsRefused sig text some → IsRefused sig text other → some ≡ other
refusal_once sig text _ _ (at_byte fault h) (at_byte more k) = ap refusal_of_fault (fault_once text fault more h k)
refusal_once sig text _ _ (at_byte fault h) (at_line tokens lexed r) = absurd (not_both text tokens fault lexed h)
refusal_once sig text _ _ (at_line tokens lexed r) (at_byte fault h) = absurd (not_both text tokens fault lexed h)
refusal_once sig text some other (at_line tokens lexed r) (at_line others relexed q) =
    let e : tokens ≡ others = tokens_once text tokens others lexed relexed in
    let g : refused some ≡ refused other = (texts_once sig tokens others r.before q.before (refused some) (refused other) e r.read q.read).1 in cc

pub script_or_refused : (sig : Signature) (text : List ℕ) (script : Script) (error : ScriptError) → IsScriptText sig text script → IsRefused sig text error → ⊥
script_or_refused sig text script _ a (at_byte fault h) = not_both text a.tokens fault a.lexed h
script_or_refused sig text script error a (at_line tokens lexed r) =
    let e : a.tokens ≡ tokens = tokens_once text a.tokens tokens a.lexed lexed in
    let g : good a.judged.last ≡ refused error = (texts_once sig a.tokens tokens script.lines r.before (good a.judged.last) (refused error) e (script_read sig (text_lines a.tokens) script a.judged) r.read).1 in cc
