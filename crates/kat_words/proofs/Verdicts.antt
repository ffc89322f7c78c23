-- What a reading of the words comes to.
use Rattle.std.proofs.Common.{◌≡◌, ◌∙◌, ◌⊎◌, inl, inr, refl, sym, ap, subst, List, [], ◌∷◌, Option, Some, None, is_some, Result, IfOk, true≢false, option_map, Box, box_value}
use Rattle.std.specs.Prelude.{String}
use Rattle.std.specs.Option.{unwrap_or}
use Rattle.std.specs.Global.{Global}
use Rattle.std.proofs.lemmas.Result.{IfOk-weaker}
use Rattle.std.proofs.lemmas.Str.{IsUtf8-string_bytes}
use Rattle.clap.specs.Walk.{Row, rows_of}
use Rattle.clap.specs.Matches.{first_value, subcommand_name_of}
use Rattle.clap.specs.Simple.{App, HasMatchesOf, is_simple, subcommand_of, subcommand_rows, subcommand_rows_of}
use Rattle.clap.specs.Faults.{fault_of}
use Rattle.clap.specs.Kinds.{HasKind, Kinds}
use Rattle.clap.specs.Values.{kind_of}
use Rattle.clap.specs.declared.error.Error.{Error}
use Rattle.clap.specs.declared.error.kind.ErrorKind.TheVariants as kind
use Rattle.clap.specs.declared.parser.matches.Found.{Found}
use Rattle.clap.specs.declared.parser.matches.ArgMatches.{ArgMatches}
use Rattle.clap.specs.declared.parser.matches.ArgMatches.TheViews.{out-ArgMatches, out-SubCommand}
use Rattle.clap.specs.declared.parser.matches.SubCommand.{SubCommand}
use Rattle.kat_words.specs.declared.words.Request.{Request}
use Rattle.kat_words.specs.Parts.{Parts, Text}
use Rattle.kat_words.specs.Parsers.{Holds, paths_found, program_app}
use Rattle.kat_words.specs.Words.{request_by, request_of, request_with, said_by, texts}
use Rattle.kat_words.proofs.Walks.{AreValid, some_kind}
use Rattle.kat_words.proofs.Judging.{IsRefused, IsTaken, is_simple_program, judged}
use Rattle.kat_words.proofs.Founds.{request_held}

some_same : {X : Type 0} (a b : X) → ◌≡◌ {A = Option X} (Some a) (Some b) → a ≡ b
some_same a b e = ap (λ o. unwrap_or o a) e

none_some : {X : Type 0} (a : X) → ◌≡◌ {A = Option X} None (Some a) → ⊥
none_some a e = true≢false (sym (ap (λ o. is_some o) e))

-- ---- the command that clap met

module _ {Z : Type 0} where
  names_met : (o : Option (Box SubCommand Z)) → option_map (λ (p : Text × List Row). p.0) (subcommand_rows o) ≡ option_map (λ b. (out-SubCommand (box_value b)).name.now) o
  names_met None = refl
  names_met (Some b) = refl

pub request_met : (m : ArgMatches) (f : Found) (n : Text) → Some (rows_of f) ≡ option_map (λ (p : Text × List Row). p.1) (subcommand_rows_of m) → Some n ≡ subcommand_name_of m
    → (name : Text) (rows : List Row) (parts : Parts) → subcommand_rows_of m ≡ Some (name, rows) → Holds rows parts
    → request_by n (paths_found f) (first_value f) ≡ request_with name parts
request_met m f n rows_are name_is name rows parts met holds =
    let same_rows : rows_of f ≡ rows = some_same (rows_of f) rows (rows_are ∙ ap (option_map (λ (p : Text × List Row). p.1)) met) in
    let same_name : n ≡ name = some_same n name (name_is ∙ sym (names_met (out-ArgMatches m).subcommand) ∙ ap (option_map (λ (p : Text × List Row). p.0)) met) in
    request_held f parts n (subst (λ (rs : List Row). Holds rs parts) (sym same_rows) holds) ∙ ap (λ (t : Text). request_with t parts) same_name

pub nothing_met : (m : ArgMatches) → None ≡ option_map (λ (p : Text × List Row). p.1) (subcommand_rows_of m) → (name : Text) (rows : List Row) → subcommand_rows_of m ≡ Some (name, rows) → ⊥
nothing_met m none name rows met = none_some rows (none ∙ ap (option_map (λ (p : Text × List Row). p.1)) met)

-- ---- the words

pub are_texts : (words : List (String Global)) → AreValid (texts words)
are_texts [] = tt
are_texts (word ∷ words) = (IsUtf8-string_bytes word, are_texts words)

-- what clap takes is the request that the words ask for
pub taken_words : {E : Type 0} (words : List (String Global)) (app : App) (m : ArgMatches) (found : Result (Option Request) E) → app ≡ program_app
    → HasMatchesOf app (texts words) m → fault_of app (texts words) ≡ []
    → ((name : Text) (rows : List Row) (parts : Parts) → subcommand_rows_of m ≡ Some (name, rows) → Holds rows parts → IfOk found (λ r. option_map said_by r ≡ request_with name parts))
    → IfOk found (λ r. option_map said_by r ≡ request_of (texts words))
taken_words words app m found is matches free reads = by_verdict (judged (texts words) (are_texts words))
  where
    free_program : fault_of program_app (texts words) ≡ []
    free_program = ap (λ (a : App). fault_of a (texts words)) (sym is) ∙ free

    by_verdict : IsRefused (texts words) ⊎ IsTaken (texts words) → IfOk found (λ r. option_map said_by r ≡ request_of (texts words))
    by_verdict (inl refused) = absurd (true≢false (sym refused.fault ∙ ap some_kind free_program))
    by_verdict (inr taken) =
        let met = (matches (ap is_simple is ∙ is_simple_program)).1 ∙ ap (λ (a : App). subcommand_of a (texts words)) is ∙ taken.sub in
        IfOk-weaker found _ _ (λ r h. h ∙ sym taken.request) (reads taken.name taken.rows taken.parts met taken.holds)

-- what clap refuses, unless memory runs out, asks for nothing
pub refused_words : (words : List (String Global)) (app : App) (e : Error) → app ≡ program_app → HasKind (fault_of app (texts words)) e → (kind_of e ≡ kind.OutOfMemory → ⊥)
    → None ≡ request_of (texts words)
refused_words words app e is kinds other = by_verdict (judged (texts words) (are_texts words))
  where
    kinds_too : HasKind (fault_of program_app (texts words)) e
    kinds_too = subst (λ (a : App). HasKind (fault_of a (texts words)) e) is kinds

    never : (ks : Kinds) → ks ≡ [] → HasKind ks e → ⊥
    never [] none (inl memory) = other memory
    never [] none (inr among) = among
    never (k ∷ ks) none has = true≢false (ap some_kind none)

    by_verdict : IsRefused (texts words) ⊎ IsTaken (texts words) → None ≡ request_of (texts words)
    by_verdict (inl refused) = sym refused.nothing
    by_verdict (inr taken) = absurd (never (fault_of program_app (texts words)) taken.fault kinds_too)
