-- What is decided of an encoding is decided of the facts that it encodes.
use Rattle.std.proofs.Common.{◌≡◌, ℕ, List, Result, Ok, Err, IfOk, subst}
use Rattle.kat_fm.specs.Eliminations.{elim_of}
use Rattle.kat_form.specs.Encodings.{Encoding, encoding}
use Rattle.kat_form.specs.Facts.{Fact}
use Rattle.kat_form.specs.Readings.{encoding_of, numbers_of_facts}
use Rattle.kat_form.specs.declared.Encoded.{Encoded}
use Rattle.kat_linear.specs.Widths.{widths}
use Rattle.kat_refute.specs.Lines.{AreARefutation, Line}
use Rattle.kat_cases.specs.Answers.{answer_of}
use Rattle.kat_cases.specs.Nodes.{Setting}
use Rattle.kat_cases.specs.Points.{IfPoint, IsDecisive}
use Rattle.kat_cases.specs.Settings.{setting_of}
use Rattle.kat_cases.specs.Decisions.{Decides, HasNarrowNumbers}
use Rattle.kat_cases.specs.Walks.{Answer, IfRefuted}
use Rattle.kat_cases.specs.Walks.Answer.{refuted, stopped}
use Rattle.kat_cases.specs.declared.decision.Decision.{Decision}
use Rattle.kat_prove.specs.Trials.{IsDecided}

-- a decision of an encoding is one of the facts that it encodes
abbrev setting_with : Encoding → ℕ → Setting
setting_with e numbers = record {
  encoding = e;
  solve = λ forms. elim_of forms numbers;
  wide = λ forms ms. widths forms ms;
}

gives_moved : (e f : Encoding) (m n : ℕ) (effort : ℕ) (answer : Answer) → e ≡ f → m ≡ n → Decides (setting_with e m) effort answer → Decides (setting_with f n) effort answer
gives_moved e f m n effort answer same number h = subst (λ k. Decides (setting_with f k) effort answer) number (subst (λ g. Decides (setting_with g m) effort answer) same h)

decisive_moved : (e f : Encoding) (m n : ℕ) (answer : Answer) → e ≡ f → m ≡ n → IfPoint answer (IsDecisive e m) → IfPoint answer (IsDecisive f n)
decisive_moved e f m n answer same number h = subst (λ k. IfPoint answer (IsDecisive f k)) number (subst (λ g. IfPoint answer (IsDecisive g m)) same h)

refuted_only : (e f : Encoding) (answer : Answer) (P : List Line → Type 0) → e ≡ f → IfRefuted answer (λ lines. AreARefutation e lines × P lines) → IfRefuted answer (AreARefutation f)
refuted_only e f (refuted lines) P same h = subst (λ g. AreARefutation g lines) same h.0
refuted_only e f (stopped end) P same h = tt

pub is_decided : (encoded : Encoded) (facts : List Fact) (effort : ℕ) (answer : Answer) (P : List Line → Type 0) → encoding encoded ≡ encoding_of facts → encoded.numbers ≡ numbers_of_facts facts
    → Decides (setting_of encoded) effort answer → IfRefuted answer (λ lines. AreARefutation (encoding encoded) lines × P lines) → IfPoint answer (IsDecisive (encoding encoded) encoded.numbers)
    → HasNarrowNumbers answer → IsDecided facts effort answer
is_decided encoded facts effort answer P same number gives refutes decisive narrow = record {
  gives = gives_moved (encoding encoded) (encoding_of facts) encoded.numbers (numbers_of_facts facts) effort answer same number gives;
  refutes = refuted_only (encoding encoded) (encoding_of facts) answer P same refutes;
  decisive = decisive_moved (encoding encoded) (encoding_of facts) encoded.numbers (numbers_of_facts facts) answer same number decisive;
  narrow = narrow;
}

pub decided_ok : {E : Type 0} (result : Result Decision E) (encoded : Encoded) (facts : List Fact) (effort : ℕ) (P : List Line → Type 0) → encoding encoded ≡ encoding_of facts → encoded.numbers ≡ numbers_of_facts facts
    → IfOk result (λ d. Decides (setting_of encoded) effort (answer_of d)) → IfOk result (λ d. IfRefuted (answer_of d) (λ lines. AreARefutation (encoding encoded) lines × P lines))
    → IfOk result (λ d. IfPoint (answer_of d) (IsDecisive (encoding encoded) encoded.numbers)) → IfOk result (λ d. HasNarrowNumbers (answer_of d)) → IfOk result (λ d. IsDecided facts effort (answer_of d))
decided_ok (Ok decision) encoded facts effort P same number gives refutes decisive narrow = is_decided encoded facts effort (answer_of decision) P same number gives refutes decisive narrow
decided_ok (Err e) encoded facts effort P same number gives refutes decisive narrow = tt
