-- What the reader takes in of one line.
use Rattle.std.proofs.Common.{◌≡◌, ℕ, ◌<◌, List, [], ◌∷◌, ◌++◌, length, refl, sym, ◌∙◌, ap, subst, append-nil, None, Some, Result, Ok, Err}
use Rattle.std.specs.Prelude.{OnOk, IfOk, option_to_list}
use Rattle.kat_lex.specs.declared.lexer.Token.{Token}
use Rattle.kat_script.specs.Ledger.{known_of}
use Rattle.kat_script.specs.Rules.{first_broken}
use Rattle.kat_script.specs.Script.{refusal_of}
use Rattle.kat_script.specs.declared.error.ScriptError.TheVariants as refusal
use Rattle.kat_script.specs.declared.rules.Rule.{Rule}
use Rattle.kat_script.proofs.Matching.{known-matches}
use Rattle.kat_type.specs.declared.signatures.Signature.{Signature}
use Rattle.kat_delta_script.specs.Grammar.{SaysSo}
use Rattle.kat_delta_script.specs.Reading.{Refuses, Stands, Takes}
use Rattle.kat_delta_script.specs.Refusals.{DeltaPlace, counts_refuse, first_refusal, known_there, plain_place, refused_first}
use Rattle.kat_delta_script.specs.Scripts.{ReadsDeltas, blank, breaks, delta_behind, delta_line_of, keeps, place_below, refused, unreadable}
use Rattle.kat_delta_script.specs.declared.error.DeltaScriptError.{DeltaScriptError}
use Rattle.kat_delta_script.specs.declared.error.DeltaScriptError.TheVariants.{Script, NoCount, Gap}
use Rattle.kat_delta_script.specs.declared.reader.Reader.{Reader}
use Rattle.kat_delta_script.specs.declared.statement.Statement.{Statement}

-- a blank line changes nothing but the number
pub takes_blank : (sig : Signature) (number : ℕ) (tokens : List Token) (reader : Reader) → tokens ≡ [] → Takes sig number tokens reader reader
takes_blank sig number tokens reader none place at s = record {
  behind = place_below place;
  number = refl;
  stands = record {
    matches = record { clocks = s.matches.clocks; words = s.matches.words; sent = s.matches.sent; lines = s.matches.lines };
    counts = s.counts;
  };
  more = [];
  lines = sym (append-nil reader.lines.items);
  reads = λ rest lines end r. rw none (blank r);
}

-- an error that comes wherever the reader may be
refuses : (sig : Signature) (number : ℕ) (tokens : List Token) (reader : Reader) (error : DeltaScriptError)
    → ((place : DeltaPlace) → place.number ≡ number → Stands reader.ledger reader.tally place → (rest : List (List Token)) → ReadsDeltas sig place (tokens ∷ rest) [] (refused error))
    → Refuses sig number tokens reader error
refuses sig number tokens reader (Script (refusal.Refused n at)) h = h
refuses sig number tokens reader (Script (refusal.Line n line)) h = h
refuses sig number tokens reader (Script (refusal.Late line clock)) h = h
refuses sig number tokens reader (Script refusal.Memory) h = tt
refuses sig number tokens reader (NoCount line) h = h
refuses sig number tokens reader (Gap line origin have need) h = h

-- a line that says nothing
pub refuses_unreadable : (sig : Signature) (number : ℕ) (tokens : List Token) (reader : Reader) (error : DeltaScriptError) → error ≡ Script (refusal.Line 10 number) → 0 < length tokens
    → ((statement : Statement) → SaysSo tokens statement → ⊥) → Refuses sig number tokens reader error
refuses_unreadable sig number tokens reader error is some none =
    refuses sig number tokens reader error
    (λ place at s rest. subst (λ (e : DeltaScriptError). ReadsDeltas sig place (tokens ∷ rest) [] (refused e)) (ap (λ n. Script (refusal.Line 10 n)) at ∙ sym is) (unreadable some none))

-- a line that is refused
refuses_first : (sig : Signature) (number : ℕ) (tokens : List Token) (reader : Reader) (statement : Statement) (error : DeltaScriptError) → SaysSo tokens statement
    → ((place : DeltaPlace) → place.number ≡ number → Stands reader.ledger reader.tally place → first_refusal sig place statement ≡ Some error) → Refuses sig number tokens reader error
refuses_first sig number tokens reader statement error says first =
    refuses sig number tokens reader error (λ place at s rest. breaks statement error says (first place at s))

-- a line that breaks a rule of scripts
pub refuses_broken : (sig : Signature) (number : ℕ) (tokens : List Token) (reader : Reader) (statement : Statement) (rule : Rule) (error : DeltaScriptError)
    → error ≡ Script (refusal_of number (known_of reader.ledger) statement.said rule) → SaysSo tokens statement → first_broken sig (known_of reader.ledger) statement.said ≡ Some rule
    → Refuses sig number tokens reader error
refuses_broken sig number tokens reader statement rule error is says broken =
    refuses_first sig number tokens reader statement error says
    (λ place at s.
    let k = known-matches reader.ledger (plain_place place) s.matches in
    let there : first_broken sig (known_there place) statement.said ≡ Some rule = ap (λ known. first_broken sig known statement.said) (sym k) ∙ broken in
    ap (refused_first place statement) there
    ∙ ap (λ n. Some (Script (refusal_of n (known_there place) statement.said rule))) at
    ∙ ap (λ known. Some (Script (refusal_of number known statement.said rule))) (sym k)
    ∙ ap Some (sym is))

kept_there : (sig : Signature) (reader : Reader) (place : DeltaPlace) (statement : Statement) → Stands reader.ledger reader.tally place → first_broken sig (known_of reader.ledger) statement.said ≡ None
    → first_refusal sig place statement ≡ counts_refuse place statement
kept_there sig reader place statement s kept =
    let k = known-matches reader.ledger (plain_place place) s.matches in
    ap (refused_first place statement) (ap (λ known. first_broken sig known statement.said) (sym k) ∙ kept)

-- a line that counts refuse
pub refuses_counts : (sig : Signature) (number : ℕ) (tokens : List Token) (reader : Reader) (statement : Statement) (error : DeltaScriptError) → SaysSo tokens statement → first_broken sig (known_of reader.ledger) statement.said ≡ None
    → ((place : DeltaPlace) → place.number ≡ number → Stands reader.ledger reader.tally place → counts_refuse place statement ≡ Some error) → Refuses sig number tokens reader error
refuses_counts sig number tokens reader statement error says kept counts =
    refuses_first sig number tokens reader statement error says (λ place at s. kept_there sig reader place statement s kept ∙ counts place at s)

-- a line that keeps the rules
pub takes_kept : (sig : Signature) (number : ℕ) (tokens : List Token) (old new : Reader) (statement : Statement) (result : Result (Unit {0}) DeltaScriptError)
    → SaysSo tokens statement → first_broken sig (known_of old.ledger) statement.said ≡ None
    → ((place : DeltaPlace) → place.number ≡ number → Stands old.ledger old.tally place → counts_refuse place statement ≡ None)
    → OnOk result ((place : DeltaPlace) → Stands old.ledger old.tally place → Stands new.ledger new.tally (delta_behind sig place statement))
    → OnOk result (new.lines.items ≡ old.lines.items ++ option_to_list (delta_line_of sig (known_of old.ledger) statement))
    → IfOk result (λ x. Takes sig number tokens old new)
takes_kept sig number tokens old new statement (Err e) says kept counts stands lines = tt
takes_kept sig number tokens old new statement (Ok x) says kept counts stands lines = λ place at s.
    let k = known-matches old.ledger (plain_place place) s.matches in
    record {
      behind = delta_behind sig place statement;
      number = refl;
      stands = stands place s;
      more = option_to_list (delta_line_of sig (known_there place) statement);
      lines = lines ∙ ap (λ known. old.lines.items ++ option_to_list (delta_line_of sig known statement)) k;
      reads = λ rest lines end r. keeps statement says (kept_there sig old place statement s kept ∙ counts place at s) r;
    }
