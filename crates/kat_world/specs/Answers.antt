-- Answers that are the sequential type's in every order that respects the ranks.
use Rattle.std.specs.Prelude.{◌≡◌, ℕ, List, [], ◌∷◌, ◌++◌}
use Rattle.kat_num.specs.declared.values.Value.{Value}
use Rattle.kat_script.specs.World.{World, after, first_world, replica_at}
use Rattle.kat_script.specs.declared.script.Line.{Line}
use Rattle.kat_script.specs.declared.script.Line.TheVariants.{Do, Ship, Deliver, Ask, Show}
use Rattle.kat_script.specs.declared.script.Script.{Script}
use Rattle.kat_seq.specs.States.{answer_of, state_after}
use Rattle.kat_type.specs.Arrangements.{Arranges, RespectsRanks}
use Rattle.kat_type.specs.Signatures.{signature_of}
use Rattle.kat_type.specs.Types.{TypeForm}
use Rattle.kat_type.specs.declared.done.Done.{Done}
use Rattle.kat_world.specs.Texts.{ask_text}

-- whatever the order of the operations, as long as it respects the ranks, this is the answer after them
abbrev pub IsSequentialAnswer : TypeForm → List Done → ℕ → List Value → Value → Type 0
IsSequentialAnswer ty ones query args value =
    (arranged : List Done) → Arranges arranged ones → RespectsRanks ty arranged → value ≡ answer_of ty (state_after ty arranged) query args

-- An ask prints a line with such an answer after the operations that are absorbed there, and a show what is given for a
-- replica in this world; other lines print nothing.
abbrev pub AnswersLine : TypeForm → (World → ℕ → List ℕ) → World → Line → List ℕ → Type 0
AnswersLine ty shown world (Ask r query args) text =
    (value : Value) × IsSequentialAnswer ty (replica_at world r).absorbed query args value × (text ≡ ask_text (signature_of ty) r query args value)
AnswersLine ty shown world (Show r) text = text ≡ shown world r
AnswersLine ty shown world (Do done) text = text ≡ []
AnswersLine ty shown world (Ship r p) text = text ≡ []
AnswersLine ty shown world (Deliver p r) text = text ≡ []

-- the text has what each line prints, in order, with the world before each line
abbrev pub AnswerFrom : TypeForm → (World → ℕ → List ℕ) → World → List Line → List ℕ → Type 0
AnswerFrom ty shown world [] text = text ≡ []
AnswerFrom ty shown world (line ∷ lines) text =
    (first rest : List ℕ) × AnswersLine ty shown world line first × AnswerFrom ty shown (after world line) lines rest × (text ≡ first ++ rest)

-- the text has, for each ask of the script, in order, a line with such an answer, and for each show what is given
abbrev pub AnswersSequentially : TypeForm → (World → ℕ → List ℕ) → Script → List ℕ → Type 0
AnswersSequentially ty shown script text = AnswerFrom ty shown (first_world script.replicas) script.lines text

-- a show prints nothing
abbrev pub nothing_shown : World → ℕ → List ℕ
nothing_shown world r = []
