-- The words of the packets of a text.
use Rattle.std.specs.Prelude.{◌≡◌, ℕ, Bool, not, ◌&&◌, ◌==◌, nat_lt, List, [], ◌∷◌, ◌++◌, length, if◌then◌else◌}
use Rattle.std.specs.List.{list_any}
use Rattle.kat_lex.specs.declared.lexer.Token.{Token}
use Rattle.kat_script.specs.Grammar.{Says}
use Rattle.kat_script.specs.Script.{IsScriptText}
use Rattle.kat_script.specs.declared.rules.TheConstants.{PACKET_LIMIT}
use Rattle.kat_script.specs.declared.said.Said.{Said}
use Rattle.kat_script.specs.declared.said.Said.TheVariants.{Ships}
use Rattle.kat_script.specs.declared.script.Script.{Script}
use Rattle.kat_type.specs.declared.signatures.Signature.{Signature}

-- whatever script the text is, for any signature: these are the words of its packets, by their numbers
abbrev pub AreWordsOf : List ℕ → List ℕ → Type 0
AreWordsOf text words = (sig : Signature) (script : Script) (is : IsScriptText sig text script) → words ≡ is.judged.last.words

-- the word is new, and no script has as many words yet as it may have
abbrev pub is_wanted : List ℕ → ℕ → Bool
is_wanted words word = nat_lt (length words) PACKET_LIMIT && not (list_any (λ other. other == word) words)

-- the words and another one after them: a packet that is shipped for the first time has the next number
abbrev pub with_word : List ℕ → ℕ → List ℕ
with_word words word = if is_wanted words word then words ++ word ∷ [] else words

-- the words after what a line says
abbrev pub noted : List ℕ → Said → List ℕ
noted words (Ships r word) = with_word words word
noted words said = words

-- the words after a line of these tokens, which changes none if they say nothing
pub record Notes (line : List Token) (old new : List ℕ) : Type 0 where
  pub speaks : (said : Said) → Says line said → new ≡ noted old said
  pub silent : ((said : Said) → Says line said → ⊥) → new ≡ old
