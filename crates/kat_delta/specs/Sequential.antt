-- A text whose answers are those of a sequential type, on a script with deltas.
use Rattle.std.specs.Prelude.{◌≡◌, ℕ, List, [], ◌∷◌, ◌++◌}
use Rattle.kat_script.specs.World.{World}
use Rattle.kat_type.specs.Types.{TypeForm}
use Rattle.kat_world.specs.Answers.{AnswersLine}
use Rattle.kat_delta.specs.Worlds.{DeltaWorld, delta_after, first_delta_world}
use Rattle.kat_delta.specs.declared.script.DeltaLine.{DeltaLine}
use Rattle.kat_delta.specs.declared.script.DeltaLine.TheVariants.{Plain, Delta}
use Rattle.kat_delta.specs.declared.script.DeltaScript.{DeltaScript}

-- a plain line prints what it prints in a script without deltas, in the world before it, and a delta nothing
abbrev pub AnswersDelta : TypeForm → (World → ℕ → List ℕ) → DeltaWorld → DeltaLine → List ℕ → Type 0
AnswersDelta ty shown w (Plain line) text = AnswersLine ty shown w.world line text
AnswersDelta ty shown w (Delta r p from) text = text ≡ []

abbrev pub AnswerDeltasFrom : TypeForm → (World → ℕ → List ℕ) → DeltaWorld → List DeltaLine → List ℕ → Type 0
AnswerDeltasFrom ty shown w [] text = text ≡ []
AnswerDeltasFrom ty shown w (line ∷ lines) text =
    (first rest : List ℕ) × AnswersDelta ty shown w line first × AnswerDeltasFrom ty shown (delta_after w line) lines rest × (text ≡ first ++ rest)

-- the text has, for each ask of the script, in order, a line with the answer of the type in every order that respects the
-- ranks, of the operations that its replica absorbed, and for each show what is given
abbrev pub DeltasAnswerSequentially : TypeForm → (World → ℕ → List ℕ) → DeltaScript → List ℕ → Type 0
DeltasAnswerSequentially ty shown script text = AnswerDeltasFrom ty shown (first_delta_world script.replicas) script.lines text
