-- What the reader takes in of one line.
use Rattle.std.proofs.Common.{◌≡◌, ℕ, ◌<◌, List, [], ◌∷◌, ◌++◌, length, refl, sym, ◌∙◌, ap, subst, append-nil, None, Some, Result, Ok, Err}
use Rattle.std.specs.Prelude.{OnOk, IfOk, option_to_list}
use Rattle.kat_lex.specs.declared.lexer.Token.{Token}
use Rattle.kat_script.specs.Grammar.{Says}
use Rattle.kat_script.specs.Rules.{first_broken, line_of}
use Rattle.kat_script.specs.Script.{Place, Reads, behind, below, blank, breaks, keeps, known_at, refusal_of, refused, unreadable}
use Rattle.kat_script.specs.Ledger.{Matches, known_of}
use Rattle.kat_script.specs.Reading.{Refuses, Takes}
use Rattle.kat_script.specs.declared.error.ScriptError.{ScriptError}
use Rattle.kat_script.specs.declared.error.ScriptError.TheVariants as refusal
use Rattle.kat_script.specs.declared.reader.Reader.{Reader}
use Rattle.kat_script.specs.declared.rules.Rule.{Rule}
use Rattle.kat_script.specs.declared.said.Said.{Said}
use Rattle.kat_type.specs.declared.signatures.Signature.{Signature}
use Rattle.kat_script.proofs.Matching.{known-matches}

-- a blank line changes nothing but the number
pub takes_blank : (sig : Signature) (number : ℕ) (tokens : List Token) (reader : Reader) → tokens ≡ [] → Takes sig number tokens reader reader
takes_blank sig number tokens reader none place at m = record {
  behind = below place;
  number = refl;
  matches = record { clocks = m.clocks; words = m.words; sent = m.sent; lines = m.lines };
  more = [];
  lines = sym (append-nil reader.lines.items);
  reads = λ rest lines end r. rw none (blank r);
}

-- an error that comes wherever the reader may be
refuses : (sig : Signature) (number : ℕ) (tokens : List Token) (reader : Reader) (error : ScriptError)
    → ((place : Place) → place.number ≡ number → Matches reader.ledger place → (rest : List (List Token)) → Reads sig place (tokens ∷ rest) [] (refused error))
    → Refuses sig number tokens reader error
refuses sig number tokens reader (refusal.Refused n at) h = h
refuses sig number tokens reader (refusal.Line n line) h = h
refuses sig number tokens reader (refusal.Late line clock) h = h
refuses sig number tokens reader refusal.Memory h = tt

-- a line that is none of the grammar
pub refuses_unreadable : (sig : Signature) (number : ℕ) (tokens : List Token) (reader : Reader) → 0 < length tokens
    → ((said : Said) → Says tokens said → ⊥) → Refuses sig number tokens reader (refusal.Line 10 number)
refuses_unreadable sig number tokens reader some none =
    refuses sig number tokens reader (refusal.Line 10 number)
    (λ place at m rest. rw (sym at) (unreadable some none))

-- a line that breaks a rule
pub refuses_broken : (sig : Signature) (number : ℕ) (tokens : List Token) (reader : Reader) (said : Said) (rule : Rule) (error : ScriptError)
    → error ≡ refusal_of number (known_of reader.ledger) said rule → Says tokens said → first_broken sig (known_of reader.ledger) said ≡ Some rule
    → Refuses sig number tokens reader error
refuses_broken sig number tokens reader said rule error is says broken =
    refuses sig number tokens reader error
    (λ place at m rest.
    let k = known-matches reader.ledger place m in
    let there : first_broken sig (known_at place) said ≡ Some rule = ap (λ known. first_broken sig known said) (sym k) ∙ broken in
    let same : refusal_of place.number (known_at place) said rule ≡ error =
    ap (λ n. refusal_of n (known_at place) said rule) at ∙ ap (λ known. refusal_of number known said rule) (sym k) ∙ sym is in
    subst (λ (e : ScriptError). Reads sig place (tokens ∷ rest) [] (refused e)) same (breaks said rule says there))

-- a line that keeps the rules
pub takes_kept : (sig : Signature) (number : ℕ) (tokens : List Token) (old new : Reader) (said : Said) (result : Result (Unit {0}) ScriptError)
    → Says tokens said → first_broken sig (known_of old.ledger) said ≡ None
    → OnOk result ((sig : Signature) (place : Place) → Matches old.ledger place → Matches new.ledger (behind sig place said))
    → OnOk result (new.lines.items ≡ old.lines.items ++ option_to_list (line_of sig (known_of old.ledger) said))
    → IfOk result (λ x. Takes sig number tokens old new)
takes_kept sig number tokens old new said (Err e) says kept matches lines = tt
takes_kept sig number tokens old new said (Ok x) says kept matches lines = λ place at m.
    let k = known-matches old.ledger place m in
    record {
      behind = behind sig place said;
      number = refl;
      matches = matches sig place m;
      more = option_to_list (line_of sig (known_at place) said);
      lines = lines ∙ ap (λ known. old.lines.items ++ option_to_list (line_of sig known said)) k;
      reads = λ rest lines end r. keeps said says (ap (λ known. first_broken sig known said) (sym k) ∙ kept) r;
    }
