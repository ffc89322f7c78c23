-- The lines that a design prints on a script.
use Rattle.std.specs.Prelude.{ℕ, List, [], ◌∷◌, ◌++◌, codes}
use Rattle.std.specs.Fmt.{decimal}
use Rattle.kat_design.specs.Answers.{answer_of}
use Rattle.kat_design.specs.Denotations.{denotation_of}
use Rattle.kat_design.specs.Designs.{DesignForm}
use Rattle.kat_replica.specs.Texts.{state_text}
use Rattle.kat_script.specs.World.{World, after, first_world, replica_at}
use Rattle.kat_script.specs.declared.script.Line.{Line}
use Rattle.kat_script.specs.declared.script.Line.TheVariants.{Ask, Show}
use Rattle.kat_script.specs.declared.script.Script.{Script}
use Rattle.kat_world.specs.Texts.{ask_text}

-- `R clock C STATE`
abbrev pub show_text : ℕ → ℕ → List ℕ → List ℕ
show_text r clock state = decimal r ++ codes " clock " ++ decimal clock ++ 32 ∷ state ++ 10 ∷ []

-- what a show prints of a replica: its clock, and the state that the operations absorbed there give
abbrev pub shown_by : DesignForm → World → ℕ → List ℕ
shown_by d world r = show_text r (replica_at world r).clock (state_text (denotation_of d (replica_at world r).absorbed))

-- an ask prints the answer in the state that the operations absorbed there give; other lines than asks and
-- shows print nothing
abbrev pub line_text : DesignForm → World → Line → List ℕ
line_text d world (Ask r query args) = ask_text d.sig r query args (answer_of d (denotation_of d (replica_at world r).absorbed) query args)
line_text d world (Show r) = shown_by d world r
line_text d world line = []

-- the lines from a world on
abbrev pub lines_text : DesignForm → World → List Line → List ℕ
lines_text d world [] = []
lines_text d world (line ∷ lines) = line_text d world line ++ lines_text d (after world line) lines

-- the lines of a design on a script
abbrev pub lines_of : DesignForm → Script → List ℕ
lines_of d script = lines_text d (first_world script.replicas) script.lines
