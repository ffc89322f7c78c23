-- What clap makes of the words, and what the definition does.
use Rattle.std.proofs.Common.{◌≡◌, ◌∙◌, ◌⊎◌, inl, inr, Bool, true, false, cond, ◌||◌, refl, sym, ap, subst, List, [], ◌∷◌, codes, Option, Some, None, is_some, bytes_eq, true≢false, option_and_then}
use Rattle.std.specs.Option.{unwrap_or}
use Rattle.clap.specs.Walk.{Row}
use Rattle.clap.specs.Simple.{built, is_simple, subcommand_of}
use Rattle.clap.specs.Faults.{fault_of, is_simple_and_free, level_fault}
use Rattle.clap.specs.Walk.{nothing_held, rows_after}
use Rattle.kat_words.specs.declared.words.Command.{Command}
use Rattle.kat_words.specs.Parts.{Parts, Text, is_known, parts_of, value_of}
use Rattle.kat_words.specs.Parsers.{Holds, commands, path_id, program_app}
use Rattle.kat_words.specs.Words.{Given, command_named, option_names, request_of, request_with, taking}
use Rattle.kat_words.proofs.Rows.{same_bytes}
use Rattle.kat_words.proofs.Walks.{Agrees, AreValid, leaf, rules_of, some_kind}
use Rattle.kat_words.proofs.Programs.{Entry, app_with, entry_of, entry_named, found_fault, found_sub, level_agrees, missing_fault, no_words_fault}

pub is_simple_program : is_simple program_app ≡ true
is_simple_program = refl

pub is_free_program : is_simple_and_free program_app ≡ true
is_free_program = refl

pub program_built : built program_app ≡ app_with commands
program_built = refl

-- the commands have the options of the definition, and none is called as the paths are
abbrev IsTold : Entry → Type 0
IsTold e = (option_names e.0 ≡ e.1) × (is_known e.1 path_id ≡ false)

abbrev AreTold : List Entry → Type 0
AreTold [] = Unit {0}
AreTold (e ∷ table) = IsTold e × AreTold table

commands_told : AreTold commands
commands_told = ((refl, refl), ((refl, refl), ((refl, refl), ((refl, refl), ((refl, refl), ((refl, refl), ((refl, refl), ((refl, refl), ((refl, refl), ((refl, refl), ((refl, refl), ((refl, refl), ((refl, refl), tt)))))))))))))

some_entry : (a b : Entry) → ◌≡◌ {A = Option Entry} (Some a) (Some b) → a ≡ b
some_entry a b e = ap (λ (o : Option Entry). unwrap_or o a) e

no_entry : (a : Entry) → ◌≡◌ {A = Option Entry} None (Some a) → ⊥
no_entry a e = true≢false (sym (ap (λ (o : Option Entry). is_some o) e))

is_told : (word : Text) (table : List Entry) → AreTold table → (e : Entry) → entry_of word table ≡ Some e → IsTold e
is_told word [] all e found = absurd (no_entry e found)
is_told word (d ∷ table) all e found = go (bytes_eq d.0 word || false) found (is_told word table all.1 e)
  where
    go : (b : Bool) → cond b (Some d) (entry_of word table) ≡ Some e → (entry_of word table ≡ Some e → IsTold e) → IsTold e
    go true here next = subst IsTold (some_entry d e here) all.0
    go false here next = next here

-- a word that names no command is none of these names
no_name : (word name : Text) → is_some (entry_of name commands) ≡ true → entry_of word commands ≡ None → bytes_eq word name ≡ false
no_name word name named missing = go (bytes_eq word name) refl
  where
    go : (b : Bool) → bytes_eq word name ≡ b → b ≡ false
    go false e = refl
    go true e = absurd (true≢false (sym named ∙ ap (λ (t : Text). is_some (entry_of t commands)) (sym (same_bytes word name e)) ∙ ap (λ (o : Option Entry). is_some o) missing))

no_command : (word : Text) → entry_of word commands ≡ None → (paths : List Text) (given : Given) → ◌≡◌ {A = Option Command} (command_named word paths given) None
no_command word missing paths given =
    let synth = no_name word (codes "synth") refl missing in
    let audit = no_name word (codes "audit") refl missing in
    let check = no_name word (codes "check") refl missing in
    let migrate = no_name word (codes "migrate") refl missing in
    let run = no_name word (codes "run") refl missing in
    let deltas = no_name word (codes "deltas") refl missing in
    let converge = no_name word (codes "converge") refl missing in
    let model = no_name word (codes "model") refl missing in
    let node_new = no_name word (codes "node-new") refl missing in
    let node_step = no_name word (codes "node-step") refl missing in
    let node_ask = no_name word (codes "node-ask") refl missing in
    let list = no_name word (codes "list") refl missing in
    let sample = no_name word (codes "sample") refl missing in
    rw (synth, audit, check, migrate, run, deltas, converge, model, node_new, node_step, node_ask, list, sample) refl

no_request : (word : Text) (words : List Text) → entry_of word commands ≡ None → request_of (word ∷ words) ≡ None
no_request word words missing = go (parts_of (option_names word) words)
  where
    go : (o : Option Parts) → option_and_then (request_with word) o ≡ None
    go None = refl
    go (Some parts) = ap (taking parts.paths) (no_command word missing parts.paths (λ option. value_of option parts.options))

-- clap refuses the words, and they ask for nothing; or it takes them, and holds their parts
pub record IsRefused (words : List Text) : Type 0 where
  pub fault : some_kind (fault_of program_app words) ≡ true
  pub nothing : request_of words ≡ None

pub record IsTaken (words : List Text) : Type 0 where
  pub fault : fault_of program_app words ≡ []
  pub name : Text
  pub rows : List Row
  pub parts : Parts
  pub sub : subcommand_of program_app words ≡ Some (name, rows)
  pub holds : Holds rows parts
  pub request : request_of words ≡ request_with name parts

module _ (word : Text) (words : List Text) (e : Entry) (found : entry_of word commands ≡ Some e) (told : IsTold e) where
  names_are : option_names word ≡ e.1
  names_are = ap option_names (sym (entry_named word commands e found)) ∙ told.0

  by_parts : (parts : Option Parts) → parts_of e.1 words ≡ parts
      → Agrees e.0 e.1 told.1 (level_fault (leaf e.0 e.1) [] nothing_held words false [], rows_after (rules_of e.1) [] words) parts
      → IsRefused (word ∷ words) ⊎ IsTaken (word ∷ words)
  by_parts None is agrees = inl (record {
    fault = ap some_kind (found_fault commands word words e found) ∙ agrees;
    nothing = ap (λ (names : List Text). option_and_then (request_with word) (parts_of names words)) names_are ∙ ap (option_and_then (request_with word)) is;
  })
  by_parts (Some parts) is agrees = inr (record {
    fault = found_fault commands word words e found ∙ agrees.0;
    name = e.0;
    rows = rows_after (rules_of e.1) [] words;
    parts = parts;
    sub = found_sub commands word words e found;
    holds = agrees.1;
    request = ap (λ (names : List Text). option_and_then (request_with word) (parts_of names words)) names_are ∙ ap (option_and_then (request_with word)) is
        ∙ ap (λ (t : Text). request_with t parts) (sym (entry_named word commands e found));
  })

pub judged : (words : List Text) → AreValid words → IsRefused words ⊎ IsTaken words
judged [] valid = inl (record { fault = no_words_fault commands; nothing = refl })
judged (word ∷ words) valid = by_entry (entry_of word commands) refl
  where
    by_entry : (o : Option Entry) → entry_of word commands ≡ o → IsRefused (word ∷ words) ⊎ IsTaken (word ∷ words)
    by_entry None missing = inl (record { fault = missing_fault commands word valid.0 missing words; nothing = no_request word words missing })
    by_entry (Some e) found =
        let told = is_told word commands commands_told e found in
        by_parts word words e found told (parts_of e.1 words) refl (level_agrees e.0 e.1 words told.1 valid.1)
