-- What each command takes and writes: one line a command in each definition. The definitions of a command have a file of their
-- own.
use Rattle.std.specs.Prelude.{ℕ, ◌==◌, ◌&&◌, nat_le, Bool, List}
use Rattle.kat_cli.specs.AuditCommand as audit
use Rattle.kat_cli.specs.CheckCommand as check
use Rattle.kat_cli.specs.ConvergeCommand as converge
use Rattle.kat_cli.specs.DeltasCommand as deltas
use Rattle.kat_cli.specs.ListCommand as list
use Rattle.kat_cli.specs.MigrateCommand as migrate
use Rattle.kat_cli.specs.ModelCommand as model
use Rattle.kat_cli.specs.NodeAskCommand as ask
use Rattle.kat_cli.specs.NodeNewCommand as new
use Rattle.kat_cli.specs.NodeStepCommand as step
use Rattle.kat_cli.specs.RunCommand as run
use Rattle.kat_cli.specs.SampleCommand as sample
use Rattle.kat_cli.specs.SynthCommand as synth
use Rattle.kat_cli.specs.declared.status.Refusal.{Refusal}
use Rattle.kat_cli.specs.declared.status.Status.{Status}
use Rattle.kat_type.specs.Types.{TypeForm}
use Rattle.kat_wire.specs.FileForms.{FileForm}
use Rattle.kat_words.specs.declared.words.Command.{Command}
use Rattle.kat_words.specs.declared.words.Command.TheVariants as command

-- a command reads this many files
abbrev pub has_files : Command → ℕ → Bool
has_files command.Converge count = count == 2
has_files command.Model count = count == 2
has_files (command.List options) count = count == 1
has_files command.Check count = count == 2
has_files command.Migrate count = count == 2
has_files command.Run count = count == 3
has_files command.Deltas count = count == 3
has_files (command.Synth options) count = count == 1
has_files (command.Audit options) count = count == 2
has_files (command.Sample options) count = count == 0
has_files (command.NodeNew options) count = count == 1
has_files command.NodeStep count = nat_le 3 count && nat_le count 33
has_files command.NodeAsk count = count == 4

-- what the files of a command say
abbrev pub Inputs : Command → Type 0
Inputs command.Converge = converge.Inputs
Inputs command.Model = model.Inputs
Inputs (command.List options) = TypeForm
Inputs command.Check = check.Inputs
Inputs command.Migrate = check.Inputs
Inputs command.Run = run.Inputs
Inputs command.Deltas = deltas.Inputs
Inputs (command.Synth options) = TypeForm
Inputs (command.Audit options) = audit.Inputs
Inputs (command.Sample options) = Unit {0}
Inputs (command.NodeNew options) = FileForm
Inputs command.NodeStep = step.Inputs
Inputs command.NodeAsk = ask.Inputs

-- the bytes of all files say this
abbrev pub Accepts : (command : Command) → List (List ℕ) → Inputs command → Type 0
Accepts command.Converge texts inputs = converge.Accepts texts inputs
Accepts command.Model texts inputs = model.Accepts texts inputs
Accepts (command.List options) texts inputs = list.Accepts texts inputs
Accepts command.Check texts inputs = check.Accepts texts inputs
Accepts command.Migrate texts inputs = check.Accepts texts inputs
Accepts command.Run texts inputs = run.Accepts texts inputs
Accepts command.Deltas texts inputs = deltas.Accepts texts inputs
Accepts (command.Synth options) texts inputs = synth.Accepts texts inputs
Accepts (command.Audit options) texts inputs = audit.Accepts texts inputs
Accepts (command.Sample options) texts inputs = sample.Accepts texts
Accepts (command.NodeNew options) texts inputs = new.Accepts texts inputs
Accepts command.NodeStep texts inputs = step.Accepts texts inputs
Accepts command.NodeAsk texts inputs = ask.Accepts texts inputs

-- after these files, a file is judged good
abbrev pub Passes : Command → List (List ℕ) → List ℕ → Type 0
Passes command.Converge earlier text = converge.Passes earlier text
Passes command.Model earlier text = model.Passes earlier text
Passes (command.List options) earlier text = list.Passes earlier text
Passes command.Check earlier text = check.Passes earlier text
Passes command.Migrate earlier text = check.Passes earlier text
Passes command.Run earlier text = run.Passes earlier text
Passes command.Deltas earlier text = deltas.Passes earlier text
Passes (command.Synth options) earlier text = synth.Passes earlier text
Passes (command.Audit options) earlier text = audit.Passes earlier text
Passes (command.Sample options) earlier text = ⊥
Passes (command.NodeNew options) earlier text = new.Passes earlier text
Passes command.NodeStep earlier text = step.Passes earlier text
Passes command.NodeAsk earlier text = ask.Passes earlier text

-- after these files, a file is refused so
abbrev pub IsRefusedAs : Command → List (List ℕ) → List ℕ → Refusal → Type 0
IsRefusedAs command.Converge earlier text refusal = converge.IsRefusedAs earlier text refusal
IsRefusedAs command.Model earlier text refusal = model.IsRefusedAs earlier text refusal
IsRefusedAs (command.List options) earlier text refusal = list.IsRefusedAs earlier text refusal
IsRefusedAs command.Check earlier text refusal = check.IsRefusedAs earlier text refusal
IsRefusedAs command.Migrate earlier text refusal = check.IsRefusedAs earlier text refusal
IsRefusedAs command.Run earlier text refusal = run.IsRefusedAs earlier text refusal
IsRefusedAs command.Deltas earlier text refusal = deltas.IsRefusedAs earlier text refusal
IsRefusedAs (command.Synth options) earlier text refusal = synth.IsRefusedAs earlier text refusal
IsRefusedAs (command.Audit options) earlier text refusal = audit.IsRefusedAs earlier text refusal
IsRefusedAs (command.Sample options) earlier text refusal = ⊥
IsRefusedAs (command.NodeNew options) earlier text refusal = new.IsRefusedAs earlier text refusal
IsRefusedAs command.NodeStep earlier text refusal = step.IsRefusedAs earlier text refusal
IsRefusedAs command.NodeAsk earlier text refusal = ask.IsRefusedAs earlier text refusal

-- all files are judged good, and a file is refused so for what they say together
abbrev pub IsRefusedLate : (command : Command) → Inputs command → ℕ → Refusal → Type 0
IsRefusedLate command.Converge inputs file refusal = ⊥
IsRefusedLate command.Model inputs file refusal = ⊥
IsRefusedLate (command.List options) inputs file refusal = ⊥
IsRefusedLate command.Check inputs file refusal = ⊥
IsRefusedLate command.Migrate inputs file refusal = migrate.IsRefusedLate inputs file refusal
IsRefusedLate command.Run inputs file refusal = ⊥
IsRefusedLate command.Deltas inputs file refusal = ⊥
IsRefusedLate (command.Synth options) inputs file refusal = ⊥
IsRefusedLate (command.Audit options) inputs file refusal = audit.IsRefusedLate options inputs file refusal
IsRefusedLate (command.Sample options) inputs file refusal = ⊥
IsRefusedLate (command.NodeNew options) inputs file refusal = ⊥
IsRefusedLate command.NodeStep inputs file refusal = step.IsRefusedLate inputs file refusal
IsRefusedLate command.NodeAsk inputs file refusal = ⊥

-- the proof in the files has this fault, at a condition and a line
abbrev pub ProofFails : (command : Command) → Inputs command → ℕ → ℕ → Type 0
ProofFails command.Converge inputs condition line = ⊥
ProofFails command.Model inputs condition line = ⊥
ProofFails (command.List options) inputs condition line = ⊥
ProofFails command.Check inputs condition line = check.ProofFails inputs condition line
ProofFails command.Migrate inputs condition line = check.ProofFails inputs condition line
ProofFails command.Run inputs condition line = run.ProofFails inputs condition line
ProofFails command.Deltas inputs condition line = deltas.ProofFails inputs condition line
ProofFails (command.Synth options) inputs condition line = ⊥
ProofFails (command.Audit options) inputs condition line = ⊥
ProofFails (command.Sample options) inputs condition line = ⊥
ProofFails (command.NodeNew options) inputs condition line = ⊥
ProofFails command.NodeStep inputs condition line = ⊥
ProofFails command.NodeAsk inputs condition line = ask.ProofFails inputs condition line

-- the command ends so, and has written this
abbrev pub Ends : (command : Command) → Inputs command → Status → List ℕ → Type 0
Ends command.Converge inputs status text = converge.Ends inputs status text
Ends command.Model inputs status text = model.Ends inputs status text
Ends (command.List options) inputs status text = list.Ends options inputs status text
Ends command.Check inputs status text = check.Ends inputs status text
Ends command.Migrate inputs status text = migrate.Ends inputs status text
Ends command.Run inputs status text = run.Ends inputs status text
Ends command.Deltas inputs status text = deltas.Ends inputs status text
Ends (command.Synth options) inputs status text = synth.Ends options inputs status text
Ends (command.Audit options) inputs status text = audit.Ends options inputs status text
Ends (command.Sample options) inputs status text = sample.Ends options status text
Ends (command.NodeNew options) inputs status text = new.Ends options inputs status text
Ends command.NodeStep inputs status text = step.Ends inputs status text
Ends command.NodeAsk inputs status text = ask.Ends inputs status text

-- The files alone settle how a command ends and what it writes. How a search ends is told by what it found, and that some end has
-- what it takes isn't said of every type; nor is it said of every report that some verdict has what it takes.
abbrev pub TellsItsEnd : Command → Type 0
TellsItsEnd command.Converge = Unit {0}
TellsItsEnd command.Model = Unit {0}
TellsItsEnd (command.List options) = Unit {0}
TellsItsEnd command.Check = Unit {0}
TellsItsEnd command.Migrate = Unit {0}
TellsItsEnd command.Run = Unit {0}
TellsItsEnd command.Deltas = Unit {0}
TellsItsEnd (command.Synth options) = ⊥
TellsItsEnd (command.Audit options) = ⊥
TellsItsEnd (command.Sample options) = ⊥
TellsItsEnd (command.NodeNew options) = Unit {0}
TellsItsEnd command.NodeStep = Unit {0}
TellsItsEnd command.NodeAsk = Unit {0}
