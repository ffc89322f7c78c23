-- What the words ask for reads as many files as its command does.
use Rattle.std.proofs.Common.{◌≡◌, ℕ, Bool, true, false, List, [], ◌∷◌, length, map, Option, Some, None, refl, sym, ap, subst}
use Rattle.std.proofs.lemmas.List.{length-map}
use Rattle.std.specs.Prelude.{if◌then◌else◌, option_and_then, unwrap_or}
use Rattle.std.specs.Option.{option_map}
use Rattle.kat_words.specs.Parts.{Parts, Text, parts_of}
use Rattle.kat_words.specs.Words.{command_of, files_of, has_paths, option_names, paths_in, paths_of, request_of, request_with, taking}
use Rattle.kat_words.specs.declared.words.Command.{Command}
use Rattle.kat_words.specs.declared.words.Command.TheVariants as command
use Rattle.kat_cli.specs.Commands.{has_files}

abbrev Asked : Type 0
Asked = Command × List Text

abbrev Fits : Asked → Type 0
Fits asked = has_files asked.0 (length asked.1) ≡ true

same_count : (one : Command) (paths : List Text) → has_paths one (length paths) ≡ true → Fits (one, files_of one paths)
same_count (command.Synth options) paths h = h
same_count (command.Audit options) paths h = h
same_count command.Check paths h = h
same_count command.Migrate paths h = h
same_count command.Run paths h = h
same_count command.Deltas paths h = h
same_count command.Converge paths h = h
same_count command.Model paths h = h
same_count (command.List options) paths h = h
same_count (command.NodeNew options) paths h = h
same_count command.NodeStep paths h = h
same_count command.NodeAsk paths h = h
same_count (command.Sample options) paths h = refl

same_asked : (some other : Asked) → ◌≡◌ {A = Option Asked} (Some some) (Some other) → some ≡ other
same_asked some other e = ap (λ (o : Option Asked). unwrap_or o some) e

taken : (paths : List Text) (one : Command) (b : Bool) (asked : Asked) → has_paths one (length paths) ≡ b
    → ◌≡◌ {A = Option Asked} (if b then Some (one, files_of one paths) else None) (Some asked) → Fits asked
taken paths one true asked h e = subst Fits (same_asked (one, files_of one paths) asked e) (same_count one paths h)
taken paths one false asked h e = absurd (cc)

taking_fits : (paths : List Text) (found : Option Command) (asked : Asked) → taking paths found ≡ Some asked → Fits asked
taking_fits paths None asked e = absurd (cc)
taking_fits paths (Some one) asked e = taken paths one (has_paths one (length paths)) asked refl e

parts_fit : (name : Text) (parts : Option Parts) (asked : Asked) → option_and_then (request_with name) parts ≡ Some asked → Fits asked
parts_fit name None asked e = absurd (cc)
parts_fit name (Some parts) asked e = taking_fits parts.paths _ asked e

request_fits : (words : List Text) (asked : Asked) → request_of words ≡ Some asked → Fits asked
request_fits [] asked e = absurd (cc)
request_fits (name ∷ words) asked e = parts_fit name (parts_of (option_names name) words) asked e

-- of a request with this command and these paths
pub fits_too : {X : Type 0} (say : X → Text) (words : List Text) (one : Command) (paths : List X) → ◌≡◌ {A = Option Asked} (Some (one, map say paths)) (request_of words)
    → has_files one (length paths) ≡ true
fits_too say words one paths e =
    subst (λ (n : ℕ). has_files one n ≡ true) (length-map paths say) (request_fits words (one, map say paths) (sym e))

pub command_is : (words : List Text) (one : Command) (paths : List Text) → ◌≡◌ {A = Option Asked} (Some (one, paths)) (request_of words) → command_of words ≡ Some one
command_is words one paths e = ap (λ (asked : Option Asked). option_map (λ (it : Asked). it.0) asked) (sym e)

pub paths_are : (words : List Text) (one : Command) (paths : List Text) → ◌≡◌ {A = Option Asked} (Some (one, paths)) (request_of words) → paths_of words ≡ paths
paths_are words one paths e = ap paths_in (sym e)

pub none_asked : (words : List Text) → ◌≡◌ {A = Option Asked} None (request_of words) → command_of words ≡ None
none_asked words e = ap (λ (asked : Option Asked). option_map (λ (it : Asked). it.0) asked) (sym e)

pub no_paths : (words : List Text) → ◌≡◌ {A = Option Asked} None (request_of words) → paths_of words ≡ []
no_paths words e = ap paths_in (sym e)
