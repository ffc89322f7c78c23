-- The script of commands: with the times of its operations.
use Rattle.std.specs.Prelude.{ℕ, ◌+◌, ◌-◌, List, [], ◌∷◌, pos}
use Rattle.kat_num.specs.declared.values.Value.TheVariants.{Name, Num}
use Rattle.kat_sample.specs.Commands.{commands, replica_of}
use Rattle.kat_sample.specs.declared.commands.Command.{Command}
use Rattle.kat_sample.specs.declared.commands.Command.TheVariants as command
use Rattle.kat_script.specs.World.{World, after, first_world, replica_at}
use Rattle.kat_script.specs.declared.script.Line.{Line}
use Rattle.kat_script.specs.declared.script.Line.TheVariants.{Do, Ship, Deliver, Ask}
use Rattle.kat_script.specs.declared.script.Script.{Script}

-- A command as a line, given the clock of its replica: an operation has the next time. There is one operation, to add, and one query, to
-- count. A replica's packets all have one word, and the words are numbered by the replicas.
abbrev pub line_at : ℕ → Command → Line
line_at clock (command.Add r thing amount) = Do (record { replica = r; time = clock + 1; op = 0; args = Name thing ∷ Num (pos amount) ∷ [] })
line_at clock (command.Ship r) = Ship r (r - 1)
line_at clock (command.Deliver sender r) = Deliver (sender - 1) r
line_at clock (command.Ask r thing) = Ask r 0 (Name thing ∷ [])

abbrev pub line_in : World → Command → Line
line_in world command = line_at (replica_at world (replica_of command)).clock command

-- the lines of commands, from a world on
abbrev pub lines_from : World → List Command → List Line
lines_from world [] = []
lines_from world (command ∷ commands) = line_in world command ∷ lines_from (after world (line_in world command)) commands

-- the script of this many draws from a number on
abbrev pub sample_script : ℕ → ℕ → Script
sample_script seed lines = record { replicas = 3; packets = 3; lines = lines_from (first_world 3) (commands seed lines) }
