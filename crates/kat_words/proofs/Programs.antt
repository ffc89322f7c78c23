-- What clap makes of all words, of a program whose subcommands have options and paths.
use Rattle.std.proofs.Common.{◌≡◌, ◌∙◌, ◌<◌, ℕ, Bool, true, false, cond, not, ◌&&◌, ◌||◌, suc, zero, refl, sym, ap, ap₂, subst, List, [], ◌∷◌, ◌++◌, map, length, codes, Option, Some, None, is_some, bytes_eq, true≢false, IsUtf8, arith, find, fold, option_map, slice_get, chars}
use Rattle.std.specs.List.{list_any}
use Rattle.std.specs.Option.{unwrap_or}
use Rattle.clap.specs.Walk.{Names, Row, Rule, Text, Walk, answers_to, finished, has_row, idle, nothing_held, rows_after, settled, stop_after, walk, walk_from, walked, with_default}
use Rattle.clap.specs.Simple.{App, Shape, entered, label_of, names_of, new_shape, rows_at}
use Rattle.clap.specs.Kinds.{Kinds, or_else}
use Rattle.clap.specs.Faults.{built_fault, defaults_fault, flags_fault, level_fault, settle_fault, turn_fault, walk_fault}
use Rattle.clap.specs.Takes.{is_given}
use Rattle.clap.proofs.WalkLemmas.{walk_stopped}
use Rattle.kat_words.specs.Parts.{Kind, marker, setting, asking, stray, path, is_known, kind_of, no_parts, parts_of}
use Rattle.kat_words.specs.Parsers.{path_id}
use Rattle.kat_words.proofs.Rows.{option_rule, same_bytes}
use Rattle.kat_words.proofs.Looks.{Sees, first_char, looks}
use Rattle.kat_words.proofs.Walks.{Agrees, AreValid, all_agree, held, leaf, loose_idle, outcome, rules_of, some_first, some_kind, walk_at}

or_else_nothing : (k : Kinds) → or_else k [] ≡ k
or_else_nothing [] = refl
or_else_nothing (x ∷ xs) = refl

-- ---- a command of its own

no_defaults : (names : List Text) (rows : List Row) → defaults_fault rows (map option_rule names) ≡ []
unfolding defaults_fault
no_defaults [] rows = refl
no_defaults (n ∷ names) rows = go (has_row n rows) (no_defaults names rows)
  where
    go : (b : Bool) → defaults_fault rows (map option_rule names) ≡ []
        → or_else (cond (b || true) [] []) (defaults_fault (cond b rows rows) (map option_rule names)) ≡ []
    go true e = e
    go false e = e

no_defaults_too : (names : List Text) (rows : List Row) → defaults_fault rows (rules_of names) ≡ []
unfolding defaults_fault
no_defaults_too names rows = go (has_row path_id rows) (no_defaults names rows)
  where
    go : (b : Bool) → defaults_fault rows (map option_rule names) ≡ []
        → or_else (cond (b || true) [] []) (defaults_fault (cond b rows rows) (map option_rule names)) ≡ []
    go true e = e
    go false e = e

either_same : {X : Type 0} (b : Bool) (x : X) → cond b x x ≡ x
either_same true x = refl
either_same false x = refl

rows_stay : (names : List Text) (rows : List Row) → fold with_default rows (map option_rule names) ≡ rows
rows_stay [] rows = refl
rows_stay (n ∷ names) rows = ap (λ (rs : List Row). fold with_default rs (map option_rule names)) (either_same (has_row n rows) rows) ∙ rows_stay names rows

rows_stay_too : (names : List Text) (rows : List Row) → fold with_default rows (rules_of names) ≡ rows
rows_stay_too names rows = ap (λ (rs : List Row). fold with_default rs (map option_rule names)) (either_same (has_row path_id rows) rows) ∙ rows_stay names rows

none_required : (names : List Text) (rows : List Row) → list_any (λ (a : Rule). a.required && not (is_given a.id rows)) (map option_rule names) ≡ false
none_required [] rows = refl
none_required (n ∷ names) rows = none_required names rows

module _ (title : Text) (names : List Text) where
  abbrev start : Walk
  start = walk_at idle false (held [] None)

  level_fault_is : (words : List Text) (apart : is_known names path_id ≡ false) → level_fault (leaf title names) [] nothing_held words false [] ≡ (outcome title names apart start words).0
  level_fault_is words apart =
      let bare = no_defaults_too names (settled (rules_of names) (fold (walked (rules_of names) []) start words).held).rows in
      let free = none_required names (finished (rules_of names) (fold (walked (rules_of names) []) start words).held) in
      rw (bare, free) (ap (or_else (walk_fault (leaf title names) [] start words)) (or_else_nothing (settle_fault (rules_of names) false (fold (walked (rules_of names) []) start words).held)))

  level_rows_are : (words : List Text) (apart : is_known names path_id ≡ false) → rows_after (rules_of names) [] words ≡ (outcome title names apart start words).1
  level_rows_are words apart = rows_stay_too names (settled (rules_of names) (fold (walked (rules_of names) []) start words).held).rows

  -- what the words are by the definition, they are for clap
  pub level_agrees : (words : List Text) (apart : is_known names path_id ≡ false) → AreValid words
      → Agrees title names apart (level_fault (leaf title names) [] nothing_held words false [], rows_after (rules_of names) [] words) (parts_of names words)
  level_agrees words apart valid =
      subst (λ (o : Kinds × List Row). Agrees title names apart o (parts_of names words)) (sym (ap₂ (λ (k : Kinds) (rs : List Row). (k, rs)) (level_fault_is words apart) (level_rows_are words apart)))
      ((all_agree title names apart words valid).0 idle (loose_idle title names apart) [] None no_parts (record { free = refl; holds = record { options = λ id far. refl; paths = refl } }))

-- ---- a program of commands, each with its name and the names of its options

abbrev pub Entry : Type 0
Entry = Text × List Text

abbrev pub leaf_of : Entry → Shape
leaf_of e = leaf e.0 e.1

abbrev pub top_shape : Shape
top_shape = record (new_shape (codes "katara")) {
  is_leaf = false;
  no_binary_name = true;
  disable_help_flag = true;
  disable_help_subcommand = true;
  subcommand_required = true;
  is_built = true;
}

abbrev pub app_with : List Entry → App
app_with table = record { top = top_shape; subs = map leaf_of table }

abbrev pub entry_of : Text → List Entry → Option Entry
entry_of word table = find (λ e. bytes_eq e.0 word || false) table

met_is : (word : Text) (table : List Entry) → find (answers_to word) (map label_of (map leaf_of table)) ≡ option_map (λ e. label_of (leaf_of e)) (entry_of word table)
met_is word [] = refl
met_is word (e ∷ table) = go (bytes_eq e.0 word || false) (met_is word table)
  where
    go : (b : Bool) → find (answers_to word) (map label_of (map leaf_of table)) ≡ option_map (λ d. label_of (leaf_of d)) (entry_of word table)
        → cond b (Some (label_of (leaf_of e))) (find (answers_to word) (map label_of (map leaf_of table))) ≡ option_map (λ d. label_of (leaf_of d)) (cond b (Some e) (entry_of word table))
    go true next = refl
    go false next = next

sub_is : (word : Text) (table : List Entry) → find (λ (s : Shape). answers_to word (label_of s)) (map leaf_of table) ≡ option_map leaf_of (entry_of word table)
sub_is word [] = refl
sub_is word (e ∷ table) = go (bytes_eq e.0 word || false) (sub_is word table)
  where
    go : (b : Bool) → find (λ (s : Shape). answers_to word (label_of s)) (map leaf_of table) ≡ option_map leaf_of (entry_of word table)
        → cond b (Some (leaf_of e)) (find (λ (s : Shape). answers_to word (label_of s)) (map leaf_of table)) ≡ option_map leaf_of (cond b (Some e) (entry_of word table))
    go true next = refl
    go false next = next

or_nothing : (b : Bool) → (b || false) ≡ b
or_nothing true = refl
or_nothing false = refl

and_nothing : (b : Bool) → (b && false) ≡ false
and_nothing true = refl
and_nothing false = refl

some_entry : (a b : Entry) → ◌≡◌ {A = Option Entry} (Some a) (Some b) → a ≡ b
some_entry a b e = ap (λ (o : Option Entry). unwrap_or o a) e

no_entry : (a : Entry) → ◌≡◌ {A = Option Entry} None (Some a) → ⊥
no_entry a e = true≢false (sym (ap (λ (o : Option Entry). is_some o) e))

pub entry_named : (word : Text) (table : List Entry) (e : Entry) → entry_of word table ≡ Some e → e.0 ≡ word
entry_named word [] e found = absurd (no_entry e found)
entry_named word (d ∷ table) e found = go (bytes_eq d.0 word) refl found (entry_named word table e)
  where
    go : (b : Bool) → bytes_eq d.0 word ≡ b → cond (b || false) (Some d) (entry_of word table) ≡ Some e → (entry_of word table ≡ Some e → e.0 ≡ word) → e.0 ≡ word
    go true is here next = ap (λ (x : Entry). x.0) (sym (some_entry d e here)) ∙ same_bytes d.0 word is
    go false is here next = next here

-- after a subcommand's name nothing fails
stopped_free : (names : Names) (w : Walk) (p : Text × List Text) (words : List Text) → walk_fault top_shape names (record w { stopped = Some p }) words ≡ []
unfolding walk_fault walked
stopped_free names w p [] = refl
stopped_free names w p (x ∷ xs) = stopped_free names w (p.0, p.1 ++ x ∷ []) xs

module _ (table : List Entry) (word : Text) (words : List Text) (e : Entry) (found : entry_of word table ≡ Some e) where
  abbrev names : Names
  names = names_of (app_with table)

  met : find (answers_to word) names ≡ Some (e.0, [])
  met = met_is word table ∙ ap (option_map (λ (d : Entry). label_of (leaf_of d))) found

  first_step : walked [] names (walk_from nothing_held) word ≡ record (walk_from nothing_held) { stopped = Some (e.0, []) }
  unfolding walked
  first_step = rw met refl

  whole_walk : walk [] names nothing_held (word ∷ words) ≡ record (walk_from nothing_held) { stopped = Some (e.0, words) }
  whole_walk = ap (λ (w : Walk). fold (walked [] names) w words) first_step ∙ sym (walk_stopped [] names (walk_from nothing_held) e.0 [] words)

  first_turn : turn_fault top_shape names (walk_from nothing_held) word ≡ []
  first_turn =
      let never = and_nothing (bytes_eq e.0 (codes "help")) in
      rw (met, never) refl

  walk_free : walk_fault top_shape names (walk_from nothing_held) (word ∷ words) ≡ []
  unfolding walk_fault
  walk_free = ap₂ (λ (k : Kinds) (w : Walk). or_else k (walk_fault top_shape names w words)) first_turn first_step ∙ stopped_free names (walk_from nothing_held) (e.0, []) words

  same_entry : entry_of e.0 table ≡ Some e
  same_entry = ap (λ (t : Text). entry_of t table) (entry_named word table e found) ∙ found

  same_sub : find (λ (s : Shape). answers_to e.0 (label_of s)) (map leaf_of table) ≡ Some (leaf_of e)
  same_sub = sub_is e.0 table ∙ ap (option_map leaf_of) same_entry

  pub found_fault : built_fault (app_with table) nothing_held (word ∷ words) ≡ level_fault (leaf e.0 e.1) [] nothing_held words false []
  unfolding defaults_fault
  found_fault = rw (whole_walk, same_sub, walk_free) (or_else_nothing (level_fault (leaf e.0 e.1) [] nothing_held words false []))

  pub found_sub : entered (app_with table) (stop_after [] names (word ∷ words)) ≡ Some (e.0, rows_after (rules_of e.1) [] words)
  found_sub =
      ap (λ (w : Walk). entered (app_with table) w.stopped) whole_walk ∙ ap (option_map (λ (s : Shape). rows_at s words)) same_sub

abbrev is_marker : Kind → Bool
is_marker marker = true
is_marker kind = false

-- a first word that is no command's name is refused
module _ (table : List Entry) (word : Text) (valid : IsUtf8 word) (missing : entry_of word table ≡ None) where
  abbrev all_names : Names
  all_names = names_of (app_with table)

  unmet : find (answers_to word) all_names ≡ None
  unmet = met_is word table ∙ ap (option_map (λ (d : Entry). label_of (leaf_of d))) missing

  char_refused : (flags : Text) (c : ℕ) → 0 < length flags → slice_get (chars flags) 0 ≡ Some c → (n : ℕ) → length flags ≡ n
      → some_kind (flags_fault [] false n flags 0 nothing_held) ≡ true
  unfolding flags_fault
  char_refused flags c some first zero size = absurd (omega (arith, some, size))
  char_refused flags c some first (suc n) size = rw first refl

  first_bad : (k : Kind) → Sees word k → (k ≡ marker → ⊥) → some_kind (turn_fault top_shape all_names (walk_from nothing_held) word) ≡ true
  first_bad marker sees other = absurd (other refl)
  first_bad (setting n v) sees other = rw (unmet, sees.0, sees.1) refl
  first_bad (asking n) sees other = rw (unmet, sees.0, sees.1) refl
  first_bad path sees other = rw (unmet, sees.0, sees.1, sees.2) refl
  first_bad stray sees other =
      let bundle = sees.2 in
      let first = first_char word bundle valid in
      let refused = char_refused bundle.flags first.0 bundle.some first.1 (length bundle.flags) refl in
      let short = bundle.short in
      rw (unmet, sees.0, sees.1, short) (some_first _ _ refused)

  bad_walk : (words : List Text) → some_kind (turn_fault top_shape all_names (walk_from nothing_held) word) ≡ true
      → some_kind (walk_fault top_shape all_names (walk_from nothing_held) (word ∷ words)) ≡ true
  unfolding walk_fault
  bad_walk words bad = some_first _ _ bad

  marker_step : Sees word marker → walked [] all_names (walk_from nothing_held) word ≡ walk_at idle true nothing_held
  unfolding walked
  marker_step sees = rw (unmet, sees) refl

  marker_turn : Sees word marker → turn_fault top_shape all_names (walk_from nothing_held) word ≡ []
  marker_turn sees = rw (unmet, sees) refl

  marker_walk : (words : List Text) → Sees word marker → walk_fault top_shape all_names (walk_from nothing_held) (word ∷ words) ≡ walk_fault top_shape all_names (walk_at idle true nothing_held) words
  unfolding walk_fault
  marker_walk words sees = ap₂ (λ (k : Kinds) (w : Walk). or_else k (walk_fault top_shape all_names w words)) (marker_turn sees) (marker_step sees)

  behind_marker : (x : Text) (xs : List Text) → some_kind (walk_fault top_shape all_names (walk_at idle true nothing_held) (x ∷ xs)) ≡ true
  unfolding walk_fault
  behind_marker x xs = refl

  only_marker : Sees word marker → some_kind (built_fault (app_with table) nothing_held (word ∷ [])) ≡ true
  unfolding walk_fault defaults_fault
  only_marker sees =
      let step = marker_step sees in
      let turn = marker_turn sees in
      rw (step, turn) refl

  pub missing_fault : (words : List Text) → some_kind (built_fault (app_with table) nothing_held (word ∷ words)) ≡ true
  missing_fault words = by_kind (kind_of word) (looks word) words
    where
      by_kind : (k : Kind) → Sees word k → (words : List Text) → some_kind (built_fault (app_with table) nothing_held (word ∷ words)) ≡ true
      by_kind marker sees [] = only_marker sees
      by_kind marker sees (x ∷ xs) = some_first _ _ (ap some_kind (marker_walk (x ∷ xs) sees) ∙ behind_marker x xs)
      by_kind (setting n v) sees words = some_first _ _ (bad_walk words (first_bad (setting n v) sees (λ e. true≢false (ap is_marker (sym e)))))
      by_kind (asking n) sees words = some_first _ _ (bad_walk words (first_bad (asking n) sees (λ e. true≢false (ap is_marker (sym e)))))
      by_kind stray sees words = some_first _ _ (bad_walk words (first_bad stray sees (λ e. true≢false (ap is_marker (sym e)))))
      by_kind path sees words = some_first _ _ (bad_walk words (first_bad path sees (λ e. true≢false (ap is_marker (sym e)))))

pub no_words_fault : (table : List Entry) → some_kind (built_fault (app_with table) nothing_held []) ≡ true
unfolding walk_fault defaults_fault
no_words_fault table = refl
