-- What clap's matches hold, and what the definition reads.
use Rattle.std.proofs.Common.{◌≡◌, ◌∙◌, Bool, true, false, cond, refl, sym, ap, List, [], ◌∷◌, length, codes, Option, Some, None, bytes_eq, option_map, option_and_then, slice_get}
use Rattle.std.specs.Option.{unwrap_or}
use Rattle.clap.specs.Walk.{Row, rows_of}
use Rattle.clap.specs.Matches.{first_value, matched_of, raw_values}
use Rattle.clap.specs.declared.parser.matches.Found.{Found}
use Rattle.clap.proofs.WalkLemmas.{first_value-rows, raw_values-rows}
use Rattle.kat_words.specs.declared.words.Command.{Command}
use Rattle.kat_words.specs.declared.words.Command.TheVariants as command
use Rattle.kat_words.specs.Parts.{Parts, Text, value_of}
use Rattle.kat_words.specs.Parsers.{Holds, option_row, path_id, path_row, paths_found}
use Rattle.kat_words.specs.Words.{command_named, files_of, has_paths, request_by, request_with, taking}

first_given : (id : Text) (given : Option Text) → option_and_then (λ (r : Row). slice_get r.values 0) (option_map (option_row id) given) ≡ given
first_given id None = refl
first_given id (Some v) = refl

value_held : (f : Found) (parts : Parts) → Holds (rows_of f) parts → (id : Text) → bytes_eq path_id id ≡ false → first_value f id ≡ value_of id parts.options
value_held f parts holds id far =
    first_value-rows f id ∙ ap (option_and_then (λ (r : Row). slice_get r.values 0)) (holds.options id far) ∙ first_given id (value_of id parts.options)

all_paths : (paths : List Text) → unwrap_or (option_map (λ (r : Row). r.values) (path_row paths)) [] ≡ paths
all_paths [] = refl
all_paths (p ∷ ps) = refl

paths_held : (f : Found) (parts : Parts) → Holds (rows_of f) parts → paths_found f ≡ parts.paths
paths_held f parts holds =
    ap (λ (o : Option (List Text)). unwrap_or o []) (raw_values-rows f path_id ∙ ap (option_map (λ (r : Row). r.values)) holds.paths) ∙ all_paths parts.paths

-- what was found gives the request that the parts give
pub request_held : (f : Found) (parts : Parts) (name : Text) → Holds (rows_of f) parts → request_by name (paths_found f) (first_value f) ≡ request_with name parts
request_held f parts name holds =
    let size = value_held f parts holds (codes "size") refl in
    let effort = value_held f parts holds (codes "effort") refl in
    let designs = value_held f parts holds (codes "designs") refl in
    let kinds = value_held f parts holds (codes "kinds") refl in
    let lines = value_held f parts holds (codes "lines") refl in
    let replica = value_held f parts holds (codes "replica") refl in
    let paths = paths_held f parts holds in
    rw (paths, size, effort, designs, kinds, lines, replica) refl

-- no command goes without a path
no_paths : (command : Option Command) → taking [] command ≡ None
no_paths None = refl
no_paths (Some (command.Synth options)) = refl
no_paths (Some (command.Audit options)) = refl
no_paths (Some command.Check) = refl
no_paths (Some command.Migrate) = refl
no_paths (Some command.Run) = refl
no_paths (Some command.Deltas) = refl
no_paths (Some command.Converge) = refl
no_paths (Some command.Model) = refl
no_paths (Some (command.NodeNew options)) = refl
no_paths (Some command.NodeStep) = refl
no_paths (Some command.NodeAsk) = refl
no_paths (Some (command.List options)) = refl
no_paths (Some (command.Sample options)) = refl

pub none_without_paths : (f : Found) (name : Text) → None ≡ option_map raw_values (matched_of f path_id) → None ≡ request_by name (paths_found f) (first_value f)
none_without_paths f name none =
    sym (ap (λ (o : Option (List Text)). request_by name (unwrap_or o []) (first_value f)) (sym none) ∙ no_paths (command_named name [] (first_value f)))

module _ (f : Found) (name : Text) (paths : List Text) (found : Some paths ≡ option_map raw_values (matched_of f path_id)) where
  these_paths : paths ≡ paths_found f
  these_paths = ap (λ (o : Option (List Text)). unwrap_or o []) found

  same_request : request_by name paths (first_value f) ≡ request_by name (paths_found f) (first_value f)
  same_request = ap (λ (ps : List Text). request_by name ps (first_value f)) these_paths

  pub none_of_name : None ≡ command_named name paths (first_value f) → None ≡ request_by name (paths_found f) (first_value f)
  none_of_name none = ap (taking paths) none ∙ same_request

  pub none_of_count : (one : Command) → Some one ≡ command_named name paths (first_value f) → has_paths one (length paths) ≡ false
      → None ≡ request_by name (paths_found f) (first_value f)
  none_of_count one is few = sym (ap (λ (b : Bool). cond b (Some (one, files_of one paths)) None) few) ∙ ap (taking paths) is ∙ same_request

  pub request_found : (one : Command) (files : List Text) → Some one ≡ command_named name paths (first_value f) → has_paths one (length paths) ≡ true
      → files ≡ files_of one paths → Some (one, files) ≡ request_by name (paths_found f) (first_value f)
  request_found one files is fits same =
      ap (λ (fs : List Text). Some (one, fs)) same ∙ sym (ap (λ (b : Bool). cond b (Some (one, files_of one paths)) None) fits) ∙ ap (taking paths) is ∙ same_request
