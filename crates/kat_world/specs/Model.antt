-- What `model` writes: the answers of the sequential type.
use Rattle.std.specs.Prelude.{ℕ, List, [], ◌∷◌, ◌++◌}
use Rattle.kat_num.specs.declared.values.Value.{Value}
use Rattle.kat_script.specs.World.{World, after, first_world, replica_at}
use Rattle.kat_script.specs.declared.script.Line.{Line}
use Rattle.kat_script.specs.declared.script.Line.TheVariants.{Ask}
use Rattle.kat_script.specs.declared.script.Script.{Script}
use Rattle.kat_seq.specs.States.{answer_of, state_after}
use Rattle.kat_type.specs.Arrangements.{canonical}
use Rattle.kat_type.specs.Signatures.{signature_of}
use Rattle.kat_type.specs.Types.{TypeForm}
use Rattle.kat_type.specs.declared.done.Done.{Done}
use Rattle.kat_world.specs.Texts.{ask_text}

-- the answer of a query after operations, arranged by rank, then time, then replica
abbrev pub model_answer : TypeForm → List Done → ℕ → List Value → Value
model_answer ty ones query args = answer_of ty (state_after ty (canonical ty ones)) query args

-- an ask prints the answer after the operations that are absorbed there; other lines print nothing
abbrev pub model_line : TypeForm → World → Line → List ℕ
model_line ty world (Ask r query args) = ask_text (signature_of ty) r query args (model_answer ty (replica_at world r).absorbed query args)
model_line ty world line = []

-- the lines from a world on
abbrev pub model_text : TypeForm → World → List Line → List ℕ
model_text ty world [] = []
model_text ty world (line ∷ lines) = model_line ty world line ++ model_text ty (after world line) lines

-- the lines of a sequential type on a script
abbrev pub model_lines : TypeForm → Script → List ℕ
model_lines ty script = model_text ty (first_world script.replicas) script.lines
