-- The words `run` and three more ask for `run` with these as paths, if they ask for a command at all.
use Rattle.std.proofs.Common.{◌≡◌, ℕ, suc, ◌+◌, ◌<◌, ◌≤◌, ◌⊎◌, inl, inr, Bool, true, false, List, [], ◌∷◌, ◌++◌, length, Option, Some, None, refl, sym, ap, subst, ◌∙◌, arith, append-nil}
use Rattle.std.proofs.lemmas.List.{append_assoc, length-append}
use Rattle.std.proofs.lemmas.Bool.{eqb-true}
use Rattle.std.specs.Prelude.{◌==◌, codes, if◌then◌else◌, option_and_then, unwrap_or}
use Rattle.kat_words.specs.Parts.{Kind, Parts, Text, Turn, is_option, kind_of, no_parts, parts_from, parts_of, taken, with_option, with_path}
use Rattle.kat_words.specs.Parts.Kind.{marker, setting, asking, stray, path}
use Rattle.kat_words.specs.Parts.Turn.{any, value, only_path}
use Rattle.kat_words.specs.Words.{request_of, request_with}
use Rattle.kat_words.specs.declared.words.Command.{Command}
use Rattle.kat_words.specs.declared.words.Command.TheVariants as command

some_is : (a b : Parts) → ◌≡◌ {A = Option Parts} (Some a) (Some b) → a ≡ b
some_is a b e = ap (λ (o : Option Parts). unwrap_or o a) e

-- the words are the paths, or some of them are none
abbrev Sorts : Parts → List Text → Parts → Type 0
Sorts parts words whole = (whole.paths ≡ parts.paths ++ words) ⊎ (length whole.paths < length parts.paths + length words)

-- after `--` each word is a path
only_paths : (words : List Text) (parts whole : Parts) → parts_from [] only_path parts words ≡ Some whole → whole.paths ≡ parts.paths ++ words
unfolding parts_from
only_paths [] parts whole e = ap (λ (p : Parts). p.paths) (sym (some_is parts whole e)) ∙ sym (append-nil parts.paths)
only_paths (word ∷ words) parts whole e = only_paths words (with_path word parts) whole e ∙ append_assoc parts.paths (word ∷ []) words

valueless : (b : Bool) (next : Parts → Option Parts) (whole : Parts) → ◌≡◌ {A = Option Parts} (if b then None else option_and_then next None) (Some whole) → ⊥
valueless true next whole e = cc
valueless false next whole e = cc

no_values : (words : List Text) (name : Text) (parts whole : Parts) → parts_from [] (value name) parts words ≡ Some whole → ⊥
unfolding parts_from
no_values [] name parts whole e = cc
no_values (word ∷ words) name parts whole e = valueless (is_option word) (λ now. parts_from [] any now words) whole e

shorter : (words paths all : List Text) (word : Text) → all ≡ paths ++ words → length all < length paths + length (word ∷ words)
shorter words paths all word e =
    let l : length all ≡ length paths + length words = ap length e ∙ length-append paths words in
    omega arith

further : (parts whole : Parts) (word : Text) (words : List Text) → Sorts (with_path word parts) words whole → Sorts parts (word ∷ words) whole
further parts whole word words (inl e) = inl (e ∙ append_assoc parts.paths (word ∷ []) words)
further parts whole word words (inr less) =
    let l : length (parts.paths ++ word ∷ []) ≡ length parts.paths + 1 = length-append parts.paths (word ∷ []) in
    inr (omega arith)

by_kind : (kind : Kind) (word : Text) (words : List Text) (parts whole : Parts)
    → (parts_from [] any (with_path word parts) words ≡ Some whole → Sorts (with_path word parts) words whole)
    → taken [] kind word parts (λ turn now. parts_from [] turn now words) ≡ Some whole → Sorts parts (word ∷ words) whole
by_kind marker word words parts whole rest e = inr (shorter words parts.paths whole.paths word (only_paths words parts whole e))
by_kind (setting name given) word words parts whole rest e = absurd (cc)
by_kind (asking name) word words parts whole rest e = absurd (no_values words name parts whole e)
by_kind stray word words parts whole rest e = absurd (cc)
by_kind path word words parts whole rest e = further parts whole word words (rest e)

sorts : (words : List Text) (parts whole : Parts) → parts_from [] any parts words ≡ Some whole → Sorts parts words whole
unfolding parts_from
sorts [] parts whole e = inl (ap (λ (p : Parts). p.paths) (sym (some_is parts whole e)) ∙ sym (append-nil parts.paths))
sorts (word ∷ words) parts whole e = by_kind (kind_of word) word words parts whole (sorts words (with_path word parts) whole) e

all_of_them : (words : List Text) (whole : Parts) → Sorts no_parts words whole → length whole.paths ≡ length words → whole.paths ≡ words
all_of_them words whole (inl e) same = e
all_of_them words whole (inr less) same = absurd (omega arith)

plain : (words : List Text) (whole : Parts) → parts_of [] words ≡ Some whole → length whole.paths ≡ length words → whole.paths ≡ words
plain words whole e same = all_of_them words whole (sorts words no_parts whole e) same

-- so of `run` and three words
abbrev Asked : Type 0
Asked = Command × List Text

same_asked : (some other : Asked) → ◌≡◌ {A = Option Asked} (Some some) (Some other) → some ≡ other
same_asked some other e = ap (λ (o : Option Asked). unwrap_or o some) e

abbrev run_with : List Text → Asked
run_with them = (command.Run, them)

three_is : (n : ℕ) → (n == 3) ≡ true → n ≡ 3
three_is n e = eqb-true n 3 e

taken_run : (b : Bool) (paths : List Text) (words : List Text) (asked : Asked) → (b ≡ true → paths ≡ words)
    → ◌≡◌ {A = Option Asked} (if b then Some (command.Run, paths) else None) (Some asked) → ◌≡◌ {A = Asked} asked (command.Run, words)
taken_run true paths words asked all e =
    sym (same_asked (command.Run, paths) asked e) ∙ ap (λ (them : List Text). run_with them) (all refl)
taken_run false paths words asked all e = absurd (cc)

parts_of_run : (words : List Text) (found : Option Parts) (asked : Asked) → length words ≡ 3 → parts_of [] words ≡ found
    → option_and_then (request_with (codes "run")) found ≡ Some asked → ◌≡◌ {A = Asked} asked (command.Run, words)
parts_of_run words None asked three is e = absurd (cc)
parts_of_run words (Some parts) asked three is e =
    taken_run (length parts.paths == 3) parts.paths words asked
    (λ many. plain words parts is (three_is (length parts.paths) many ∙ sym three)) e

pub run_asked : (first second third : Text) (asked : Asked) → request_of (codes "run" ∷ first ∷ second ∷ third ∷ []) ≡ Some asked
    → ◌≡◌ {A = Asked} asked (command.Run, first ∷ second ∷ third ∷ [])
run_asked first second third asked e =
    parts_of_run (first ∷ second ∷ third ∷ []) (parts_of [] (first ∷ second ∷ third ∷ [])) asked refl refl e
