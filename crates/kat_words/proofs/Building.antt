-- Commands that are built one argument after the other.
use Rattle.std.proofs.Common.{◌≡◌, ◌∙◌, ◌<◌, ◌+◌, ◌||◌, ℕ, Bool, false, refl, sym, ap, ap₂, List, [], ◌∷◌, map, take, length, fold}
use Rattle.std.specs.List.{slice_index_or}
use Rattle.std.specs.Borrow.{Bor}
use Rattle.std.proofs.lemmas.List.Sums.{fold_more}
use Rattle.clap.specs.Walk.{rule_of}
use Rattle.clap.specs.Simple.{App, app_of, new_app, with_rule, with_subcommand}
use Rattle.clap.specs.Built.{AddsArg, AddsSubcommand}
use Rattle.clap.specs.declared.builder.arg.Arg.{Arg}
use Rattle.clap.specs.declared.builder.command.Command.{Command}
use Rattle.kat_words.specs.Parts.{Text}
use Rattle.kat_words.specs.Parsers.{IsCommand, option_arg, path_arg, with_command}

fold_texts : (start : App) (options : List (Bor Text)) → fold with_rule start (map option_arg (map (λ (option : Bor Text). option.now) options))
    ≡ fold (λ (a : App) (option : Bor Text). with_rule a (option_arg option.now)) start options
fold_texts start [] = refl
fold_texts start (o ∷ os) = fold_texts (with_rule start (option_arg o.now)) os

-- one option more
pub command_more : (name : Text) (options : List (Bor Text)) (i : ℕ) (option : Text) (default : Bor Text) (c d : Command) (a : Arg) → i < length options
    → IsCommand name (map (λ (o : Bor Text). o.now) (take i options)) c → rule_of a ≡ option_arg option → option ≡ (slice_index_or options i default).now → a.global ≡ false → AddsArg c a d
    → IsCommand name (map (λ (o : Bor Text). o.now) (take (i + 1) options)) d
command_more name options i option default c d a lt is rule at own adds =
    let start = with_rule (new_app name) path_arg in
    let step = λ (b : App) (o : Bor Text). with_rule b (option_arg o.now) in
    record {
      app = adds.shape own ∙ ap₂ with_rule is.app rule ∙ ap (λ (b : App). with_rule b (option_arg option)) (fold_texts start (take i options))
          ∙ ap (λ (o : Text). with_rule (fold step start (take i options)) (option_arg o)) at ∙ sym (fold_more step start options i default lt) ∙ sym (fold_texts start (take (i + 1) options));
      own = adds.globals ∙ ap₂ (λ (x y : Bool). x || y) is.own own;
    }

-- one command more
pub program_more : (program sub more : Command) (name : Text) (options : List Text) → IsCommand name options sub → AddsSubcommand program sub more
    → app_of more ≡ with_command (app_of program) (name, options)
program_more program sub more name options is adds = adds.shape is.own ∙ ap (λ (a : App). with_subcommand (app_of program) a.top) is.app
