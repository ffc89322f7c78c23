-- The answers of a replica in a file, and what they are of a sequential type.
use Rattle.std.specs.Prelude.{◌≡◌, ℕ, List, [], ◌∷◌, ◌++◌}
use Rattle.kat_actions.specs.declared.calls.Call.{Call}
use Rattle.kat_design.specs.Answers.{answer_of}
use Rattle.kat_design.specs.Designs.{DesignForm}
use Rattle.kat_node.specs.Packets.{parts_of}
use Rattle.kat_node.specs.declared.nodes.Node.{Node}
use Rattle.kat_num.specs.declared.values.Value.{Value}
use Rattle.kat_type.specs.Signatures.{signature_of}
use Rattle.kat_type.specs.Types.{TypeForm}
use Rattle.kat_type.specs.declared.done.Done.{Done}
use Rattle.kat_world.specs.Answers.{IsSequentialAnswer}
use Rattle.kat_world.specs.Texts.{ask_text}

-- for each question, in their order, the line with the design's answer in the state of the node
abbrev pub answers_text : DesignForm → Node → List Call → List ℕ
answers_text d node [] = []
answers_text d node (call ∷ calls) =
    ask_text d.sig node.number call.item call.args (answer_of d (parts_of node) call.item call.args) ++ answers_text d node calls

-- the text has, for each question, in their order, a line with an answer that the type gives after these operations, in every order
-- of them that respects the ranks
abbrev pub AnswersEach : TypeForm → List Done → ℕ → List Call → List ℕ → Type 0
AnswersEach ty ones number [] text = text ≡ []
AnswersEach ty ones number (call ∷ calls) text =
    (value : Value) × (rest : List ℕ) × IsSequentialAnswer ty ones call.item call.args value × AnswersEach ty ones number calls rest
    × (text ≡ ask_text (signature_of ty) number call.item call.args value ++ rest)
