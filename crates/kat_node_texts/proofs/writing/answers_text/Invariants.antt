use Rattle.std.proofs.Common.{◌≡◌, ◌++◌, drop}
use Rattle.std.specs.List.{AllByRecursion}
use Rattle.kat_actions.specs.Texts.{FitsSignature}
use Rattle.kat_actions.specs.declared.calls.Verb.TheVariants.{Ask}
use Rattle.kat_design.specs.Designs.{design_form}
use Rattle.kat_node_texts.specs.Answered.{answers_text}
use Rattle.kat_node_texts.proofs.writing.answers_text.Given as goal

abbrev pub invariant-questions : goal.invariant-questions
invariant-questions l =
    (l.text.items ++ answers_text (design_form l.design) l.node (drop l.question-index l.questions) ≡ answers_text (design_form l.design) l.node l.questions)
    × AllByRecursion (FitsSignature Ask l.design.sig) (drop l.question-index l.questions)
