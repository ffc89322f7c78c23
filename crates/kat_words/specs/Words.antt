-- What the words ask for.
use Rattle.std.specs.Prelude.{ℕ, ◌≤◌, Bool, true, ◌&&◌, ◌==◌, nat_le, nat_lt, List, [], ◌∷◌, length, map, Option, None, Some, if◌then◌else◌, codes, String, bytes_eq, option_and_then, slice_get}
use Rattle.std.specs.List.{count_by, list_all, list_any, slice_split}
use Rattle.std.specs.Char.{digit_value}
use Rattle.std.specs.Option.{option_map}
use Rattle.std.specs.Str.Parse.{digits_value, without_leading_plus}
use Rattle.std.specs.String.{string_bytes}
use Rattle.std.specs.Global.{Global}
use Rattle.kat_rules.specs.declared.kind_sets.Kinds.{Kinds}
use Rattle.kat_words.specs.Parts.{Parts, Text, parts_of, value_of}
use Rattle.kat_words.specs.declared.options.SynthOptions.{SynthOptions}
use Rattle.kat_words.specs.declared.options.ListOptions.{ListOptions}
use Rattle.kat_words.specs.declared.options.NodeOptions.{NodeOptions}
use Rattle.kat_words.specs.declared.options.SampleOptions.{SampleOptions}
use Rattle.kat_words.specs.declared.words.Command.{Command}
use Rattle.kat_words.specs.declared.words.Command.TheVariants as command
use Rattle.kat_words.specs.declared.words.Request.{Request}

-- a number: `+` or nothing, and then digits, of a value between these
abbrev pub is_number : Text → Bool
is_number digits = nat_lt 0 (length digits) && list_all (λ digit. nat_lt (digit_value digit) 10) digits

abbrev pub number_in : ℕ → ℕ → Text → Option ℕ
number_in least most digits =
    if is_number digits && nat_le least (digits_value 10 digits) && nat_le (digits_value 10 digits) most then Some (digits_value 10 digits) else None

abbrev pub number_of : ℕ → ℕ → Text → Option ℕ
number_of least most word = number_in least most (without_leading_plus word)

-- the names of kinds
abbrev pub kind_names : List Text
kind_names = codes "cell" ∷ codes "table" ∷ codes "set" ∷ codes "tally" ∷ codes "tallies" ∷ []

-- how often a name is among these
abbrev pub times : Text → List Text → ℕ
times name names = count_by (λ other. bytes_eq other name) names

-- kinds: names with commas between them, each of a kind, and each at most once
abbrev pub kinds_named : List Text → Option Kinds
kinds_named names =
    if list_all (λ name. list_any (bytes_eq name) kind_names) names && list_all (λ name. nat_le (times name names) 1) kind_names
    then Some (record {
      cell = list_any (bytes_eq (codes "cell")) names;
      table = list_any (bytes_eq (codes "table")) names;
      set = list_any (bytes_eq (codes "set")) names;
      tally = list_any (bytes_eq (codes "tally")) names;
      tallies = list_any (bytes_eq (codes "tallies")) names;
    })
    else None

abbrev pub kinds_of : Text → Option Kinds
kinds_of word = kinds_named (slice_split (λ byte. byte == 44) word)

abbrev pub all_kinds : Kinds
all_kinds = record { cell = true; table = true; set = true; tally = true; tallies = true }

-- what an option says: what its value says if it is given, else what holds without it
abbrev pub said : {A : Type 0} → (Text → Option A) → A → Option Text → Option A
said read default None = Some default
said read default (Some value) = read value

-- the options of the commands, of which each has a value or none
abbrev pub Given : Type 0
Given = Text → Option Text

abbrev pub size_said : Given → Option ℕ
size_said given = said (number_of 1 24) 5 (given (codes "size"))

abbrev pub effort_said : Given → Option ℕ
effort_said given = said (number_of 1 10000) 2000 (given (codes "effort"))

abbrev pub designs_said : Given → Option ℕ
designs_said given = said (number_of 1 1000000) 200000 (given (codes "designs"))

abbrev pub kinds_said : Given → Option Kinds
kinds_said given = said kinds_of all_kinds (given (codes "kinds"))

abbrev pub lines_said : Given → Option ℕ
lines_said given = said (number_of 1 90000) 20000 (given (codes "lines"))

-- a number of a replica, which is needed
abbrev pub replica_said : Given → Option ℕ
replica_said given = option_and_then (number_of 1 32) (given (codes "replica"))

-- options of which each says something
abbrev pub search_of : Option ℕ → Option ℕ → Option ℕ → Option Kinds → Option SynthOptions
search_of (Some size) (Some effort) (Some designs) (Some kinds) = Some (record { size = size; effort = effort; designs = designs; kinds = kinds })
search_of size effort designs kinds = None

-- what is said of a search: of the one that `synth` makes, or that made the report that `audit` judges
abbrev pub search_said : Given → Option SynthOptions
search_said given = search_of (size_said given) (effort_said given) (designs_said given) (kinds_said given)

abbrev pub list_of : Option ℕ → Option ℕ → Option Kinds → Option Command
list_of (Some size) (Some designs) (Some kinds) = Some (command.List (record { size = size; designs = designs; kinds = kinds }))
list_of size designs kinds = None

abbrev pub sample_of : Option ℕ → Option ℕ → Option Command
sample_of (Some number) (Some lines) = Some (command.Sample (record { number = number; lines = lines }))
sample_of number lines = None

abbrev pub node_new_of : Option ℕ → Option Command
node_new_of (Some number) = Some (command.NodeNew (record { number = number }))
node_new_of None = None

-- the names of the options that the command of a name has
abbrev pub option_names : Text → List Text
option_names name =
    if bytes_eq name (codes "synth") then codes "size" ∷ codes "effort" ∷ codes "designs" ∷ codes "kinds" ∷ []
    else if bytes_eq name (codes "audit") then codes "size" ∷ codes "effort" ∷ codes "designs" ∷ codes "kinds" ∷ []
    else if bytes_eq name (codes "list") then codes "size" ∷ codes "designs" ∷ codes "kinds" ∷ []
    else if bytes_eq name (codes "sample") then codes "lines" ∷ []
    else if bytes_eq name (codes "node-new") then codes "replica" ∷ []
    else []

-- the command of a name with these paths and options; `sample` has its number in the place of a path
abbrev pub sample_number : List Text → Option ℕ
sample_number paths = option_and_then (number_of 0 999999) (slice_get paths 0)

abbrev pub command_named : Text → List Text → Given → Option Command
command_named name paths given =
    if bytes_eq name (codes "synth") then option_map command.Synth (search_said given)
    else if bytes_eq name (codes "audit") then option_map command.Audit (search_said given)
    else if bytes_eq name (codes "check") then Some command.Check
    else if bytes_eq name (codes "migrate") then Some command.Migrate
    else if bytes_eq name (codes "run") then Some command.Run
    else if bytes_eq name (codes "deltas") then Some command.Deltas
    else if bytes_eq name (codes "converge") then Some command.Converge
    else if bytes_eq name (codes "model") then Some command.Model
    else if bytes_eq name (codes "node-new") then node_new_of (replica_said given)
    else if bytes_eq name (codes "node-step") then Some command.NodeStep
    else if bytes_eq name (codes "node-ask") then Some command.NodeAsk
    else if bytes_eq name (codes "list") then list_of (size_said given) (designs_said given) (kinds_said given)
    else if bytes_eq name (codes "sample") then sample_of (sample_number paths) (lines_said given)
    else None

-- a command takes this many paths
abbrev pub has_paths : Command → ℕ → Bool
has_paths (command.Synth options) count = count == 1
has_paths (command.Audit options) count = count == 2
has_paths command.Check count = count == 2
has_paths command.Migrate count = count == 2
has_paths command.Run count = count == 3
has_paths command.Deltas count = count == 3
has_paths command.Converge count = count == 2
has_paths command.Model count = count == 2
has_paths (command.NodeNew options) count = count == 1
-- a design, a state, actions, and at most 30 packets
has_paths command.NodeStep count = nat_le 3 count && nat_le count 33
has_paths command.NodeAsk count = count == 4
has_paths (command.List options) count = count == 1
has_paths (command.Sample options) count = count == 1

-- the paths of files among a command's paths
abbrev pub files_of : Command → List Text → List Text
files_of (command.Sample options) paths = []
files_of command paths = paths

-- the command, if it takes this many paths, with the paths of its files
abbrev pub taking : List Text → Option Command → Option (Command × List Text)
taking paths None = None
taking paths (Some command) = if has_paths command (length paths) then Some (command, files_of command paths) else None

abbrev pub request_by : Text → List Text → Given → Option (Command × List Text)
request_by name paths given = taking paths (command_named name paths given)

abbrev pub request_with : Text → Parts → Option (Command × List Text)
request_with name parts = request_by name parts.paths (λ option. value_of option parts.options)

-- the command that the words ask for, with the paths of its files: the first word is the command's name, the
-- others are options of the command and paths
abbrev pub request_of : List Text → Option (Command × List Text)
request_of [] = None
request_of (name ∷ words) = option_and_then (request_with name) (parts_of (option_names name) words)

abbrev pub command_of : List Text → Option Command
command_of words = option_map (λ request. request.0) (request_of words)

-- the paths of its files, or none if the words ask for no command
abbrev pub paths_in : Option (Command × List Text) → List Text
paths_in None = []
paths_in (Some request) = request.1

abbrev pub paths_of : List Text → List Text
paths_of words = paths_in (request_of words)

-- the words as lists of bytes
abbrev pub texts : List (String Global) → List Text
texts words = map (λ (word : String Global). string_bytes word) words

-- what a request says
abbrev pub said_by : Request → Command × List Text
said_by request = (request.command, map (λ path. path.now) request.paths.items)

-- the numbers of options are in range
pub record IsSynthInRange (options : SynthOptions) : Type 0 where
  pub some_size : 1 ≤ options.size
  pub small_size : options.size ≤ 24
  pub some_effort : 1 ≤ options.effort
  pub small_effort : options.effort ≤ 10000
  pub some_designs : 1 ≤ options.designs
  pub few_designs : options.designs ≤ 1000000

pub record IsListInRange (options : ListOptions) : Type 0 where
  pub some_size : 1 ≤ options.size
  pub small_size : options.size ≤ 24
  pub some_designs : 1 ≤ options.designs
  pub few_designs : options.designs ≤ 1000000

pub record IsSampleInRange (options : SampleOptions) : Type 0 where
  pub small_number : options.number ≤ 999999
  pub some_lines : 1 ≤ options.lines
  pub few_lines : options.lines ≤ 90000

pub record IsNodeInRange (options : NodeOptions) : Type 0 where
  pub least : 1 ≤ options.number
  pub most : options.number ≤ 32

-- the numbers of a command are in range
abbrev pub KeepsRanges : Command → Type 0
KeepsRanges (command.Synth options) = IsSynthInRange options
KeepsRanges (command.Audit options) = IsSynthInRange options
KeepsRanges command.Check = Unit {0}
KeepsRanges command.Migrate = Unit {0}
KeepsRanges command.Run = Unit {0}
KeepsRanges command.Deltas = Unit {0}
KeepsRanges command.Converge = Unit {0}
KeepsRanges command.Model = Unit {0}
KeepsRanges (command.NodeNew options) = IsNodeInRange options
KeepsRanges command.NodeStep = Unit {0}
KeepsRanges command.NodeAsk = Unit {0}
KeepsRanges (command.List options) = IsListInRange options
KeepsRanges (command.Sample options) = IsSampleInRange options
