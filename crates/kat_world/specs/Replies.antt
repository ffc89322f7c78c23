-- The answers to the asks of a script, in their order.
use Rattle.std.specs.Prelude.{List, [], ◌∷◌, ◌++◌}
use Rattle.kat_design.specs.Answers.{answer_of}
use Rattle.kat_design.specs.Denotations.{denotation_of}
use Rattle.kat_design.specs.Designs.{DesignForm}
use Rattle.kat_num.specs.declared.values.Value.{Value}
use Rattle.kat_script.specs.World.{World, after, first_world, replica_at}
use Rattle.kat_script.specs.declared.script.Line.{Line}
use Rattle.kat_script.specs.declared.script.Line.TheVariants.{Ask}
use Rattle.kat_script.specs.declared.script.Script.{Script}
use Rattle.kat_type.specs.Types.{TypeForm}
use Rattle.kat_world.specs.Model.{model_answer}

-- an ask is answered in the state that the operations absorbed there give; other lines aren't answered
abbrev pub line_answers : DesignForm → World → Line → List Value
line_answers d world (Ask r query args) = answer_of d (denotation_of d (replica_at world r).absorbed) query args ∷ []
line_answers d world line = []

abbrev pub answers_from : DesignForm → World → List Line → List Value
answers_from d world [] = []
answers_from d world (line ∷ lines) = line_answers d world line ++ answers_from d (after world line) lines

-- the answers of a design on a script
abbrev pub answers_of : DesignForm → Script → List Value
answers_of d script = answers_from d (first_world script.replicas) script.lines

-- an ask is answered by the type, after the operations that are absorbed there, arranged by rank, then time, then replica
abbrev pub model_line_answers : TypeForm → World → Line → List Value
model_line_answers ty world (Ask r query args) = model_answer ty (replica_at world r).absorbed query args ∷ []
model_line_answers ty world line = []

abbrev pub model_answers_from : TypeForm → World → List Line → List Value
model_answers_from ty world [] = []
model_answers_from ty world (line ∷ lines) = model_line_answers ty world line ++ model_answers_from ty (after world line) lines

-- the answers of a sequential type on a script
abbrev pub model_answers : TypeForm → Script → List Value
model_answers ty script = model_answers_from ty (first_world script.replicas) script.lines
