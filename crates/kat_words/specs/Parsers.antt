-- Used inside only.
-- The commands as `clap` reads them, and what its matches hold.
use Rattle.std.specs.Prelude.{◌≡◌, Bool, true, false, List, [], ◌∷◌, map, Option, None, Some, bytes_eq, codes, find, fold, option_map, unwrap_or}
use Rattle.clap.specs.Matches.{matched_of, raw_values}
use Rattle.clap.specs.declared.parser.matches.Found.{Found}
use Rattle.clap.specs.Walk.{Row, Rule}
use Rattle.clap.specs.Simple.{App, app_of, new_app, new_rule, new_shape, with_rule, with_subcommand}
use Rattle.clap.specs.declared.builder.action.ArgAction.TheVariants.{Append}
use Rattle.clap.specs.declared.builder.command.Command.{Command}
use Rattle.clap.specs.declared.builder.command.Command.TheViews.{out-Command}
use Rattle.clap.specs.declared.parser.matches.ValueSource.TheVariants.{CommandLine}
use Rattle.clap.specs.declared.builder.value_parser.Reading.TheVariants as reading
use Rattle.kat_words.specs.Parts.{Parts, Text, value_of}

-- ---- the commands

-- all paths of a command are values of one argument
abbrev pub path_id : Text
path_id = codes "paths"

abbrev pub path_arg : Rule
path_arg = record (new_rule path_id) { action = Some Append }

-- an option has a name and takes a value
abbrev pub option_arg : Text → Rule
option_arg name = record (new_rule name) { long = Some name }

abbrev pub command_app : Text → List Text → App
command_app name options = fold with_rule (with_rule (new_app name) path_arg) (map option_arg options)

-- the command has this name, these options and paths
pub record IsCommand (name : Text) (options : List Text) (c : Command) : Type 0 where
  pub app : app_of c ≡ command_app name options
  pub own : (out-Command c).has_globals ≡ false

-- a program with no name among its words, no help, and one of its commands wanted
abbrev pub bare_app : App
bare_app = record {
  top = record (new_shape (codes "katara")) {
    no_binary_name = true;
    disable_help_flag = true;
    disable_help_subcommand = true;
    subcommand_required = true;
  };
  subs = [];
}

abbrev pub with_command : App → Text × List Text → App
with_command app entry = with_subcommand app (command_app entry.0 entry.1).top

-- the commands, with the names of their options
abbrev pub commands : List (Text × List Text)
commands = (codes "synth", codes "size" ∷ codes "effort" ∷ codes "designs" ∷ codes "kinds" ∷ [])
    ∷ (codes "audit", codes "size" ∷ codes "effort" ∷ codes "designs" ∷ codes "kinds" ∷ [])
    ∷ (codes "check", []) ∷ (codes "migrate", []) ∷ (codes "run", []) ∷ (codes "deltas", []) ∷ (codes "converge", []) ∷ (codes "model", [])
    ∷ (codes "node-new", codes "replica" ∷ []) ∷ (codes "node-step", []) ∷ (codes "node-ask", [])
    ∷ (codes "list", codes "size" ∷ codes "designs" ∷ codes "kinds" ∷ [])
    ∷ (codes "sample", codes "lines" ∷ []) ∷ []

abbrev pub program_app : App
program_app = fold with_command bare_app commands

-- ---- what was found

abbrev pub by : Text → Row → Bool
by id r = bytes_eq r.id id

abbrev pub row : Text → List Text → Row
row id values = record { id = id; values = values; count = None; source = Some CommandLine; reading = reading.AsWritten }

abbrev pub option_row : Text → Text → Row
option_row id given = row id (given ∷ [])

abbrev pub path_row : List Text → Option Row
path_row [] = None
path_row (path ∷ paths) = Some (row path_id (path ∷ paths))

-- the rows of clap's matches hold the options and the paths
pub record Holds (rows : List Row) (parts : Parts) : Type 0 where
  pub options : (id : Text) → bytes_eq path_id id ≡ false → find (by id) rows ≡ option_map (option_row id) (value_of id parts.options)
  pub paths : find (by path_id) rows ≡ path_row parts.paths

-- the paths that were found
abbrev pub paths_found : Found → List Text
paths_found f = unwrap_or (option_map raw_values (matched_of f path_id)) []
