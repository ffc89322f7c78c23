-- Every text is judged, and in one way.
use Rattle.std.proofs.Common.{◌≡◌, ℕ, zero, suc, ◌<◌, ◌⊎◌, inl, inr, List, [], ◌∷◌, ◌++◌, length, refl, sym, ◌∙◌, ap, subst, arith, Option, None, Some}
use Rattle.std.specs.Prelude.{option_to_list}
use Rattle.kat_lex.specs.Tokens.{FaultOf, TokensOf}
use Rattle.kat_lex.specs.declared.lexer.LexError.{LexError}
use Rattle.kat_lex.specs.declared.lexer.Token.{Token}
use Rattle.kat_lex.proofs.Unique.{tokens_once, fault_once, not_both}
use Rattle.kat_lex.proofs.Exists.{every_text}
use Rattle.kat_script.specs.Faults.{refusal_of_fault}
use Rattle.kat_script.specs.Script.{text_lines}
use Rattle.kat_script.specs.declared.error.ScriptError.TheVariants as refusal
use Rattle.kat_type.specs.declared.signatures.Signature.{Signature}
use Rattle.kat_delta.specs.declared.script.DeltaLine.{DeltaLine}
use Rattle.kat_delta.specs.declared.script.DeltaScript.{DeltaScript}
use Rattle.kat_delta_script.specs.Grammar.{SaysSo}
use Rattle.kat_delta_script.specs.Refusals.{DeltaPlace, first_refusal, known_there}
use Rattle.kat_delta_script.specs.Scripts.{DeltaEnding, IsDeltaRefused, IsDeltaScriptText, ReadsDeltas, at_byte, at_line, blank, breaks, delta_behind, delta_line_of, ends, first_place, good, keeps, never_opens, place_below, refused, unreadable}
use Rattle.kat_delta_script.specs.declared.error.DeltaScriptError.{DeltaScriptError}
use Rattle.kat_delta_script.specs.declared.error.DeltaScriptError.TheVariants.{Script}
use Rattle.kat_delta_script.specs.declared.statement.Statement.{Statement}
use Rattle.kat_delta_script.proofs.Saying.{StatedOrNot, no_statement, not_stated, one_statement, stated, stated_or_not}

-- a text is read from a place on
record Judged (sig : Signature) (place : DeltaPlace) (rest : List (List Token)) : Type 0 where
  lines : List DeltaLine
  end : DeltaEnding
  reads : ReadsDeltas sig place rest lines end

judge_end : (sig : Signature) (place : DeltaPlace) (n : ℕ) → place.lines ≡ n → Judged sig place []
judge_end sig place zero e = record { lines = []; end = refused (Script (refusal.Line 10 1)); reads = never_opens e }
judge_end sig place (suc n) e = record { lines = []; end = good place; reads = ends (omega (arith, e)) }

judge_said : (sig : Signature) (place : DeltaPlace) (tokens : List Token) (rest : List (List Token)) (statement : Statement) (broken : Option DeltaScriptError) → SaysSo tokens statement
    → first_refusal sig place statement ≡ broken → ((place : DeltaPlace) → Judged sig place rest) → Judged sig place (tokens ∷ rest)
judge_said sig place tokens rest statement (Some error) s e goes = record { lines = []; end = refused error; reads = breaks statement error s e }
judge_said sig place tokens rest statement None s e goes =
    let more = goes (delta_behind sig place statement) in
    record { lines = option_to_list (delta_line_of sig (known_there place) statement) ++ more.lines; end = more.end; reads = keeps statement s e more.reads }

judge_line : (sig : Signature) (place : DeltaPlace) (tokens : List Token) (rest : List (List Token)) → 0 < length tokens → StatedOrNot tokens
    → ((place : DeltaPlace) → Judged sig place rest) → Judged sig place (tokens ∷ rest)
judge_line sig place tokens rest some (not_stated none) goes =
    record { lines = []; end = refused (Script (refusal.Line 10 place.number)); reads = unreadable some none }
judge_line sig place tokens rest some (stated statement s) goes = judge_said sig place tokens rest statement (first_refusal sig place statement) s refl goes

judge : (sig : Signature) (rest : List (List Token)) (place : DeltaPlace) → Judged sig place rest
judge sig [] place = judge_end sig place place.lines refl
judge sig ([] ∷ rest) place =
    let more = judge sig rest (place_below place) in
    record { lines = more.lines; end = more.end; reads = blank more.reads }
judge sig ((token ∷ tokens) ∷ rest) place =
    judge_line sig place (token ∷ tokens) rest (omega arith) (stated_or_not (token ∷ tokens)) (λ p. judge sig rest p)

answered : (sig : Signature) (text : List ℕ) (tokens : List Token) (lines : List DeltaLine) (end : DeltaEnding) → TokensOf text tokens → ReadsDeltas sig first_place (text_lines tokens) lines end
    → ((script : DeltaScript) × IsDeltaScriptText sig text script) ⊎ ((error : DeltaScriptError) × IsDeltaRefused sig text error)
answered sig text tokens lines (good last) lexed r =
    inl (
      record { replicas = length last.w.world.replicas; packets = length last.words; lines = lines },
      record { tokens = tokens; lexed = lexed; judged = record { last = last; read = r; replicas = refl; packets = refl } },
    )
answered sig text tokens lines (refused error) lexed r = inr (error, at_line tokens lexed (record { before = lines; read = r }))

judged_by : (sig : Signature) (text : List ℕ) → ((found : List Token) × TokensOf text found) ⊎ ((fault : LexError) × FaultOf text fault)
    → ((script : DeltaScript) × IsDeltaScriptText sig text script) ⊎ ((error : DeltaScriptError) × IsDeltaRefused sig text error)
judged_by sig text (inl h) = let j = judge sig (text_lines h.0) first_place in answered sig text h.0 j.lines j.end h.1 j.reads
judged_by sig text (inr h) = inr (Script (refusal_of_fault h.0), at_byte h.0 h.1)

-- every text is a script or refused
pub every_delta_text : (sig : Signature) (text : List ℕ)
    → ((script : DeltaScript) × IsDeltaScriptText sig text script) ⊎ ((error : DeltaScriptError) × IsDeltaRefused sig text error)
every_delta_text sig text = judged_by sig text (every_text text)

-- one refusal comes first
one_error : (sig : Signature) (place : DeltaPlace) (some other : Statement) (error more : DeltaScriptError) → some ≡ other
    → first_refusal sig place some ≡ Some error → first_refusal sig place other ≡ Some more → error ≡ more
one_error sig place some other error more same e f =
    let g : Some error ≡ Some more = sym e ∙ ap (λ s. first_refusal sig place s) same ∙ f in cc

broken_or_kept : (sig : Signature) (place : DeltaPlace) (some other : Statement) (error : DeltaScriptError) → some ≡ other
    → first_refusal sig place some ≡ Some error → first_refusal sig place other ≡ None → ⊥
broken_or_kept sig place some other error same e f =
    let g : Some error ≡ None = sym e ∙ ap (λ s. first_refusal sig place s) same ∙ f in cc

-- lines are read in one way
reads_once : (sig : Signature) (place : DeltaPlace) (rest : List (List Token)) (ls ms : List DeltaLine) (a b : DeltaEnding)
    → ReadsDeltas sig place rest ls a → ReadsDeltas sig place rest ms b → (ls ≡ ms) × (a ≡ b)
reads_once sig place _ _ _ _ _ (ends h) (ends k) = (refl, refl)
reads_once sig place _ _ _ _ _ (ends h) (never_opens k) = absurd (omega (arith, k))
reads_once sig place _ _ _ _ _ (never_opens h) (ends k) = absurd (omega (arith, h))
reads_once sig place _ _ _ _ _ (never_opens h) (never_opens k) = (refl, refl)
reads_once sig place _ ls ms a b (blank {rest = rest} x) (blank y) = reads_once sig (place_below place) rest ls ms a b x y
reads_once sig place _ _ _ _ _ (blank x) (unreadable some none) = absurd (omega arith)
reads_once sig place _ _ _ _ _ (blank x) (breaks statement error s e) = absurd (no_statement statement s)
reads_once sig place _ _ _ _ _ (blank x) (keeps statement s e y) = absurd (no_statement statement s)
reads_once sig place _ _ _ _ _ (unreadable some none) (blank y) = absurd (omega arith)
reads_once sig place _ _ _ _ _ (unreadable some none) (unreadable more never) = (refl, refl)
reads_once sig place _ _ _ _ _ (unreadable some none) (breaks statement error s e) = absurd (none statement s)
reads_once sig place _ _ _ _ _ (unreadable some none) (keeps statement s e y) = absurd (none statement s)
reads_once sig place _ _ _ _ _ (breaks statement error s e) (blank y) = absurd (no_statement statement s)
reads_once sig place _ _ _ _ _ (breaks statement error s e) (unreadable some none) = absurd (none statement s)
reads_once sig place _ _ _ _ _ (breaks {tokens = tokens} statement error s e) (breaks other more t f) =
    let same : statement ≡ other = one_statement tokens statement other s t in
    let one : error ≡ more = one_error sig place statement other error more same e f in
    (refl, λ i. refused (one i))
reads_once sig place _ _ _ _ _ (breaks {tokens = tokens} statement error s e) (keeps other t f y) =
    absurd (broken_or_kept sig place statement other error (one_statement tokens statement other s t) e f)
reads_once sig place _ _ _ _ _ (keeps statement s e x) (blank y) = absurd (no_statement statement s)
reads_once sig place _ _ _ _ _ (keeps statement s e x) (unreadable some none) = absurd (none statement s)
reads_once sig place _ _ _ _ _ (keeps {tokens = tokens} statement s e x) (breaks other error t f) =
    absurd (broken_or_kept sig place other statement error (one_statement tokens other statement t s) f e)
reads_once sig place _ _ _ a b (keeps {tokens = tokens} {rest = rest} {lines = ls} statement s e x) (keeps {lines = ms} other t f y) =
    let same : statement ≡ other = one_statement tokens statement other s t in
    let z : ReadsDeltas sig (delta_behind sig place statement) rest ms b = subst (λ (it : Statement). ReadsDeltas sig (delta_behind sig place it) rest ms b) (sym same) y in
    let more = reads_once sig (delta_behind sig place statement) rest ls ms a b x z in
    (λ i. option_to_list (delta_line_of sig (known_there place) (same i)) ++ more.0 i, more.1)

-- the same, for the lines of equal tokens
texts_once : (sig : Signature) (some other : List Token) (ls ms : List DeltaLine) (a b : DeltaEnding) → some ≡ other
    → ReadsDeltas sig first_place (text_lines some) ls a → ReadsDeltas sig first_place (text_lines other) ms b → (ls ≡ ms) × (a ≡ b)
texts_once sig some other ls ms a b e r q =
    reads_once sig first_place (text_lines some) ls ms a b r (subst (λ (tokens : List Token). ReadsDeltas sig first_place (text_lines tokens) ms b) (sym e) q)

pub script_once : (sig : Signature) (text : List ℕ) (some other : DeltaScript) → IsDeltaScriptText sig text some → IsDeltaScriptText sig text other → some ≡ other
script_once sig text some other a b =
    let e : a.tokens ≡ b.tokens = tokens_once text a.tokens b.tokens a.lexed b.lexed in
    let one = texts_once sig a.tokens b.tokens some.lines other.lines (good a.judged.last) (good b.judged.last) e a.judged.read b.judged.read in
    let g : good a.judged.last ≡ good b.judged.last = one.1 in
    let last : a.judged.last ≡ b.judged.last = cc in
    let replicas : some.replicas ≡ other.replicas = a.judged.replicas ∙ ap (λ (p : DeltaPlace). length p.w.world.replicas) last ∙ sym b.judged.replicas in
    let packets : some.packets ≡ other.packets = a.judged.packets ∙ ap (λ (p : DeltaPlace). length p.words) last ∙ sym b.judged.packets in
    λ i. record { replicas = replicas i; packets = packets i; lines = one.0 i }

pub refusal_once : (sig : Signature) (text : List ℕ) (some other : DeltaScriptError) → IsDeltaRefused sig text some → IsDeltaRefused sig text other → some ≡ other
refusal_once sig text _ _ (at_byte fault h) (at_byte more k) = ap (λ f. Script (refusal_of_fault f)) (fault_once text fault more h k)
refusal_once sig text _ _ (at_byte fault h) (at_line tokens lexed r) = absurd (not_both text tokens fault lexed h)
refusal_once sig text _ _ (at_line tokens lexed r) (at_byte fault h) = absurd (not_both text tokens fault lexed h)
refusal_once sig text some other (at_line tokens lexed r) (at_line others relexed q) =
    let e : tokens ≡ others = tokens_once text tokens others lexed relexed in
    let g : refused some ≡ refused other = (texts_once sig tokens others r.before q.before (refused some) (refused other) e r.read q.read).1 in cc

pub script_or_refused : (sig : Signature) (text : List ℕ) (script : DeltaScript) (error : DeltaScriptError) → IsDeltaScriptText sig text script → IsDeltaRefused sig text error → ⊥
script_or_refused sig text script _ a (at_byte fault h) = not_both text a.tokens fault a.lexed h
script_or_refused sig text script error a (at_line tokens lexed r) =
    let e : a.tokens ≡ tokens = tokens_once text a.tokens tokens a.lexed lexed in
    let g : good a.judged.last ≡ refused error = (texts_once sig a.tokens tokens script.lines r.before (good a.judged.last) (refused error) e a.judged.read r.read).1 in cc
