-- Clap's walk over the words of one command, and the definition's.
use Rattle.std.proofs.Common.{◌≡◌, ◌∙◌, ◌<◌, ℕ, Bool, true, false, cond, not, ◌&&◌, ◌||◌, suc, zero, refl, sym, ap, ap₂, subst, List, [], ◌∷◌, ◌++◌, map, length, Option, Some, None, is_some, bytes_eq, true≢false, IsUtf8, chars, slice_get, arith, find, option_and_then, fold}
use Rattle.clap.specs.Walk.{Held, Row, Rule, Waiting, Walk, idle, option, positional, arg_by_id, arg_by_long, arg_by_short, has_long, has_row, has_short, is_pending, reacted, settled, settled_rows, subcommand_met, used, walked}
use Rattle.clap.specs.Simple.{Shape, new_shape}
use Rattle.clap.specs.Kinds.{Kinds, or_else}
use Rattle.clap.specs.Faults.{flags_fault, react_fault, settle_fault, turn_fault, use_fault, walk_fault}
use Rattle.clap.specs.declared.error.kind.ErrorKind.TheVariants as kind
use Rattle.kat_words.specs.Parts.{Kind, Parts, Text, marker, setting, asking, stray, path, any, value, only_path, is_known, is_option, kind_of, parts_from, taken, value_of, with_path}
use Rattle.kat_words.specs.Parsers.{Holds, path_id}
use Rattle.kat_words.proofs.Rows.{bytes_same, option_rule, option_used, path_rule, path_used, rows_tell, same_bytes}
use Rattle.kat_words.proofs.Looks.{Sees, first_char, is_path, looks, options_look}

abbrev pub some_kind : Kinds → Bool
some_kind [] = false
some_kind (k ∷ ks) = true

pub some_first : (a b : Kinds) → some_kind a ≡ true → some_kind (or_else a b) ≡ true
some_first [] b e = absurd (true≢false (sym e))
some_first (k ∷ ks) b e = refl

abbrev pub rules_of : List Text → List Rule
rules_of names = path_rule ∷ map option_rule names

-- a command of its own, with options of these names and paths
abbrev pub leaf : Text → List Text → Shape
leaf title names = record (new_shape title) {
  rules = rules_of names;
  no_binary_name = true;
  disable_help_flag = true;
  disable_help_subcommand = true;
  is_built = true;
}

abbrev pub held : List Row → Option (Text × List Text) → Held
held rows pending = record { rows = rows; pending = pending; skip = 0 }

abbrev pub walk_at : Waiting → Bool → Held → Walk
walk_at waiting trailing h = record { held = h; waiting = waiting; position = 1; is_trailing = trailing; stopped = None }

-- each word is a text
abbrev pub AreValid : List Text → Type 0
AreValid [] = Unit {0}
AreValid (word ∷ words) = IsUtf8 word × AreValid words

or_nothing : (b : Bool) → (b || false) ≡ b
or_nothing true = refl
or_nothing false = refl

and_nothing : (b : Bool) → (b && false) ≡ false
and_nothing true = refl
and_nothing false = refl

and_all : (b : Bool) → (b && true) ≡ b
and_all true = refl
and_all false = refl

no_sub : (waiting : Waiting) (word : Text) → ◌≡◌ {A = Option Text} (subcommand_met [] waiting word) None
no_sub idle word = refl
no_sub (option id) word = refl
no_sub positional word = refl

abbrev is_idle : Waiting → Bool
is_idle idle = true
is_idle waiting = false

abbrev is_positional : Waiting → Bool
is_positional positional = true
is_positional waiting = false

-- ---- the arguments by their names

abbrev long_test : Text → Rule → Bool
long_test n a = not (is_some a.index) && has_long a n

long_among : (names : List Text) (n : Text) → find (long_test n) (map option_rule names) ≡ cond (is_known names n) (Some (option_rule n)) None
long_among [] n = refl
long_among (m ∷ names) n = ap (λ b. cond b (Some (option_rule m)) (find (long_test n) (map option_rule names))) (or_nothing (bytes_eq m n)) ∙ go (bytes_eq m n) refl (long_among names n)
  where
    go : (b : Bool) → bytes_eq m n ≡ b → find (long_test n) (map option_rule names) ≡ cond (is_known names n) (Some (option_rule n)) None
        → cond b (Some (option_rule m)) (find (long_test n) (map option_rule names)) ≡ cond (b || is_known names n) (Some (option_rule n)) None
    go true e next = ap (λ t. Some (option_rule t)) (same_bytes m n e)
    go false e next = next

abbrev id_test : Text → Rule → Bool
id_test n a = bytes_eq a.id n

id_among : (names : List Text) (n : Text) → find (id_test n) (map option_rule names) ≡ cond (is_known names n) (Some (option_rule n)) None
id_among [] n = refl
id_among (m ∷ names) n = go (bytes_eq m n) refl (id_among names n)
  where
    go : (b : Bool) → bytes_eq m n ≡ b → find (id_test n) (map option_rule names) ≡ cond (is_known names n) (Some (option_rule n)) None
        → cond b (Some (option_rule m)) (find (id_test n) (map option_rule names)) ≡ cond (b || is_known names n) (Some (option_rule n)) None
    go true e next = ap (λ t. Some (option_rule t)) (same_bytes m n e)
    go false e next = next

abbrev short_test : ℕ → Rule → Bool
short_test x a = not (is_some a.index) && has_short a x

short_among : (names : List Text) (x : ℕ) → find (short_test x) (map option_rule names) ≡ None
short_among [] x = refl
short_among (m ∷ names) x = short_among names x

by_short : (names : List Text) (x : ℕ) → arg_by_short (rules_of names) x ≡ None
by_short names x = short_among names x

by_long : (names : List Text) (n : Text) (b : Bool) → is_known names n ≡ b → arg_by_long (rules_of names) n ≡ cond b (Some (option_rule n)) None
by_long names n b e = long_among names n ∙ ap (λ k. cond k (Some (option_rule n)) None) e

module _ (title : Text) (names : List Text) (apart : is_known names path_id ≡ false) where
  abbrev rules : List Rule
  rules = rules_of names

  abbrev shape : Shape
  shape = leaf title names

  far : (n : Text) → is_known names n ≡ true → bytes_eq path_id n ≡ false
  far n known = go (bytes_eq path_id n) refl where
    go : (b : Bool) → bytes_eq path_id n ≡ b → b ≡ false
    go false e = refl
    go true e = absurd (true≢false (sym known ∙ ap (is_known names) (sym (same_bytes path_id n e)) ∙ apart))

  by_id : (n : Text) → is_known names n ≡ true → arg_by_id rules n ≡ Some (option_rule n)
  by_id n known =
      ap (λ b. cond b (Some path_rule) (find (id_test n) (map option_rule names))) (far n known)
      ∙ id_among names n ∙ ap (λ k. cond k (Some (option_rule n)) None) known

  -- ---- one word

  module _ (waiting : Waiting) (rows : List Row) (p : Option (Text × List Text)) (x : Text) where
    abbrev here : Walk
    here = walk_at waiting false (held rows p)

    setting_fault : (n v : Text) → Sees x (setting n v) → is_known names n ≡ true
        → turn_fault shape [] here x ≡ or_else (react_fault rules false (option_rule n) (v ∷ []) (held rows p)) []
    setting_fault n v sees known =
        let found = by_long names n true known in
        rw (no_sub waiting x, sees.0, sees.1, found) refl

    setting_walk : (n v : Text) → Sees x (setting n v) → is_known names n ≡ true
        → walked rules [] here x ≡ walk_at idle false (reacted rules (option_rule n) (v ∷ []) (held rows p))
    unfolding walked
    setting_walk n v sees known =
        let found = by_long names n true known in
        rw (no_sub waiting x, sees.0, sees.1, found) refl

    setting_bad : (n v : Text) → Sees x (setting n v) → is_known names n ≡ false → some_kind (turn_fault shape [] here x) ≡ true
    setting_bad n v sees unknown =
        let found = by_long names n false unknown in
        rw (no_sub waiting x, sees.0, sees.1, found) refl

    asking_fault : (n : Text) → Sees x (asking n) → is_known names n ≡ true → turn_fault shape [] here x ≡ or_else (settle_fault rules false (held rows p)) []
    asking_fault n sees known =
        let found = by_long names n true known in
        rw (no_sub waiting x, sees.0, sees.1, found) refl

    asking_walk : (n : Text) → Sees x (asking n) → is_known names n ≡ true
        → walked rules [] here x ≡ walk_at (option n) false (held (settled_rows rules p rows) (Some (n, [])))
    unfolding walked
    asking_walk n sees known =
        let found = by_long names n true known in
        rw (no_sub waiting x, sees.0, sees.1, found) refl

    asking_bad : (n : Text) → Sees x (asking n) → is_known names n ≡ false → some_kind (turn_fault shape [] here x) ≡ true
    asking_bad n sees unknown =
        let found = by_long names n false unknown in
        rw (no_sub waiting x, sees.0, sees.1, found) refl

    marker_fault : Sees x marker → turn_fault shape [] here x ≡ []
    marker_fault sees = rw (no_sub waiting x, sees) refl

    marker_walk : Sees x marker → walked rules [] here x ≡ walk_at waiting true (held rows p)
    unfolding walked
    marker_walk sees = rw (no_sub waiting x, sees) refl

    char_refused : (flags : Text) (c : ℕ) (h : Held) → 0 < length flags → slice_get (chars flags) 0 ≡ Some c → (n : ℕ) → length flags ≡ n
        → some_kind (flags_fault rules false n flags 0 h) ≡ true
    unfolding flags_fault
    char_refused flags c h some first zero size = absurd (omega (arith, some, size))
    char_refused flags c h some first (suc n) size =
        let none = by_short names c in
        rw (first, none) refl

    stray_bad : Sees x stray → IsUtf8 x → some_kind (turn_fault shape [] here x) ≡ true
    stray_bad sees valid =
        let bundle = sees.2 in
        let first = first_char x bundle valid in
        let refused = char_refused bundle.flags first.0 (held rows p) bundle.some first.1 (length bundle.flags) refl in
        let short = bundle.short in
        rw (no_sub waiting x, sees.0, sees.1, short) (some_first _ _ refused)

  -- a path, if no option waits for a value
  path_fault : (waiting : Waiting) → ((id : Text) → waiting ≡ option id → ⊥) → (rows : List Row) (p : Option (Text × List Text)) (x : Text) → Sees x path
      → turn_fault shape [] (walk_at waiting false (held rows p)) x ≡ settle_fault rules false (held rows p)
  path_fault idle free rows p x sees = rw (sees.0, sees.1, sees.2) (pending_or p)
    where
      pending_or : (q : Option (Text × List Text)) → cond (is_pending path_rule q && false) [] (settle_fault rules false (held rows p)) ≡ settle_fault rules false (held rows p)
      pending_or q = ap (λ b. cond b [] (settle_fault rules false (held rows p))) (and_nothing (is_pending path_rule q))
  path_fault positional free rows p x sees = rw (sees.0, sees.1, sees.2) (pending_or p)
    where
      pending_or : (q : Option (Text × List Text)) → cond (is_pending path_rule q && false) [] (settle_fault rules false (held rows p)) ≡ settle_fault rules false (held rows p)
      pending_or q = ap (λ b. cond b [] (settle_fault rules false (held rows p))) (and_nothing (is_pending path_rule q))
  path_fault (option id) free rows p x sees = absurd (free id refl)

  path_walk : (waiting : Waiting) → ((id : Text) → waiting ≡ option id → ⊥) → (rows : List Row) (p : Option (Text × List Text)) (x : Text) → Sees x path
      → walked rules [] (walk_at waiting false (held rows p)) x ≡ walk_at positional false (held (settled_rows rules p rows) (Some (path_id, x ∷ [])))
  unfolding walked
  path_walk idle free rows p x sees = rw (sees.0, sees.1, sees.2, and_nothing (is_pending path_rule p)) refl
  path_walk positional free rows p x sees = rw (sees.0, sees.1, sees.2, and_nothing (is_pending path_rule p)) refl
  path_walk (option id) free rows p x sees = absurd (free id refl)

  -- a word after `--`
  last_fault : (waiting : Waiting) (rows : List Row) (p : Option (Text × List Text)) (x : Text)
      → turn_fault shape [] (walk_at waiting true (held rows p)) x ≡ settle_fault rules false (held rows p)
  last_fault waiting rows p x = rw (and_nothing (is_pending path_rule p)) refl

  last_walk : (waiting : Waiting) (rows : List Row) (p : Option (Text × List Text)) (x : Text)
      → walked rules [] (walk_at waiting true (held rows p)) x ≡ walk_at positional true (held (settled_rows rules p rows) (Some (path_id, x ∷ [])))
  unfolding walked
  last_walk waiting rows p x = rw (and_nothing (is_pending path_rule p)) refl

  -- the value that an option waits for
  value_fault : (n : Text) (rows : List Row) (x : Text) → Sees x path → turn_fault shape [] (walk_at (option n) false (held rows (Some (n, [])))) x ≡ []
  value_fault n rows x sees = rw (sees.0, sees.1, sees.2) refl

  value_walk : (n : Text) (rows : List Row) (x : Text) → Sees x path → is_known names n ≡ true
      → walked rules [] (walk_at (option n) false (held rows (Some (n, [])))) x ≡ walk_at idle false (held rows (Some (n, x ∷ [])))
  unfolding walked
  value_walk n rows x sees known =
      let found = by_id n known in
      let same = bytes_same n in
      rw (sees.0, sees.1, sees.2, found, same) refl

  -- ---- one use of an argument

  option_fault : (n v : Text) (rows : List Row) (b : Bool) → has_row n rows ≡ b → use_fault false (option_rule n) (v ∷ []) rows ≡ cond b (kind.ArgumentConflict ∷ []) []
  option_fault n v rows true e = rw e refl
  option_fault n v rows false e = rw e refl

  -- an option that waits for its value, and gets none
  unmet : (n : Text) (rows : List Row) → is_known names n ≡ true → some_kind (settle_fault rules false (held rows (Some (n, [])))) ≡ true
  unmet n rows known =
      let found = by_id n known in
      rw found refl

  given_fault : (n v : Text) (rows : List Row) (b : Bool) → is_known names n ≡ true → has_row n rows ≡ b
      → settle_fault rules false (held rows (Some (n, v ∷ []))) ≡ cond b (kind.ArgumentConflict ∷ []) []
  given_fault n v rows b known e =
      let found = by_id n known in
      rw found (option_fault n v rows b e)

  given_rows : (n v : Text) (rows : List Row) → is_known names n ≡ true → settled_rows rules (Some (n, v ∷ [])) rows ≡ used (option_rule n) (v ∷ []) rows
  given_rows n v rows known =
      let found = by_id n known in
      rw found refl

  -- ---- all words

  abbrev pub after : Kinds → Walk → List Text → Kinds × List Row
  after k w words = (
    or_else (or_else k (walk_fault shape [] w words)) (settle_fault rules false (fold (walked rules []) w words).held),
    (settled rules (fold (walked rules []) w words).held).rows,
  )

  -- the kinds of error that the words give, and the rows if there is none
  abbrev pub outcome : Walk → List Text → Kinds × List Row
  outcome w words = after [] w words

  step : (w : Walk) (x : Text) (xs : List Text) → outcome w (x ∷ xs) ≡ after (turn_fault shape [] w x) (walked rules [] w x) xs
  unfolding walk_fault
  step w x xs = refl

  abbrev pub Agrees : Kinds × List Row → Option Parts → Type 0
  Agrees o None = some_kind o.0 ≡ true
  Agrees o (Some parts) = (o.0 ≡ []) × Holds o.1 parts

  step_on : (w v : Walk) (x : Text) (xs : List Text) (r : Option Parts) → turn_fault shape [] w x ≡ [] → walked rules [] w x ≡ v → Agrees (outcome v xs) r
      → Agrees (outcome w (x ∷ xs)) r
  step_on w v x xs r e f h = subst (λ (o : Kinds × List Row). Agrees o r) (sym (step w x xs ∙ ap₂ (λ (k : Kinds) (u : Walk). after k u xs) e f)) h

  step_bad : (w : Walk) (x : Text) (xs : List Text) → some_kind (turn_fault shape [] w x) ≡ true → some_kind (outcome w (x ∷ xs)).0 ≡ true
  step_bad w x xs e = ap (λ (o : Kinds × List Row). some_kind o.0) (step w x xs) ∙ some_first _ _ (some_first _ _ e)

  -- what is pending is refused, whatever follows
  last_bad : (waiting : Waiting) (rows : List Row) (p : Option (Text × List Text)) → some_kind (settle_fault rules false (held rows p)) ≡ true → (words : List Text)
      → some_kind (outcome (walk_at waiting true (held rows p)) words).0 ≡ true
  unfolding walk_fault
  last_bad waiting rows p bad [] = bad
  last_bad waiting rows p bad (x ∷ xs) = step_bad (walk_at waiting true (held rows p)) x xs (ap some_kind (last_fault waiting rows p x) ∙ bad)

  option_bad : (waiting : Waiting) (rows : List Row) (p : Option (Text × List Text)) → some_kind (settle_fault rules false (held rows p)) ≡ true → (x : Text) (xs : List Text)
      → IsUtf8 x → (k : Kind) → is_path k ≡ false → Sees x k → some_kind (outcome (walk_at waiting false (held rows p)) (x ∷ xs)).0 ≡ true
  option_bad waiting rows p bad x xs valid marker dash sees =
      step_on (walk_at waiting false (held rows p)) (walk_at waiting true (held rows p)) x xs None (marker_fault waiting rows p x sees) (marker_walk waiting rows p x sees) (last_bad waiting rows p bad xs)
  option_bad waiting rows p bad x xs valid (setting n v) dash sees = step_bad (walk_at waiting false (held rows p)) x xs (by_name (is_known names n) refl)
    where
      by_name : (b : Bool) → is_known names n ≡ b → some_kind (turn_fault shape [] (walk_at waiting false (held rows p)) x) ≡ true
      by_name true known = ap some_kind (setting_fault waiting rows p x n v sees known) ∙ some_first _ _ (some_first _ _ bad)
      by_name false unknown = setting_bad waiting rows p x n v sees unknown
  option_bad waiting rows p bad x xs valid (asking n) dash sees = step_bad (walk_at waiting false (held rows p)) x xs (by_name (is_known names n) refl)
    where
      by_name : (b : Bool) → is_known names n ≡ b → some_kind (turn_fault shape [] (walk_at waiting false (held rows p)) x) ≡ true
      by_name true known = ap some_kind (asking_fault waiting rows p x n sees known) ∙ some_first _ _ bad
      by_name false unknown = asking_bad waiting rows p x n sees unknown
  option_bad waiting rows p bad x xs valid stray dash sees = step_bad (walk_at waiting false (held rows p)) x xs (stray_bad waiting rows p x sees valid)
  option_bad waiting rows p bad x xs valid path dash sees = absurd (true≢false dash)

  -- what is pending may be used, and what was read is then held
  pub record Settles (rows : List Row) (p : Option (Text × List Text)) (parts : Parts) : Type 0 where
    pub free : settle_fault rules false (held rows p) ≡ []
    pub holds : Holds (settled_rows rules p rows) parts

  path_settles : (rows : List Row) (x : Text) (parts : Parts) → Holds rows parts → Settles rows (Some (path_id, x ∷ [])) (with_path x parts)
  path_settles rows x parts holds = record { free = refl; holds = path_used rows parts x holds }

  option_settles : (rows : List Row) (n v : Text) (parts : Parts) → is_known names n ≡ true → has_row n rows ≡ false → Holds rows parts
      → Settles rows (Some (n, v ∷ [])) (record parts { options = parts.options ++ (n, v) ∷ [] })
  option_settles rows n v parts known new holds = record {
    free = given_fault n v rows false known new;
    holds = subst (λ (rs : List Row). Holds rs (record parts { options = parts.options ++ (n, v) ∷ [] })) (sym (given_rows n v rows known))
        (option_used rows parts n v (far n known) new holds);
  }

  -- after `--`
  last_agrees : (waiting : Waiting) (rows : List Row) (p : Option (Text × List Text)) (parts : Parts) → Settles rows p parts → (words : List Text)
      → Agrees (outcome (walk_at waiting true (held rows p)) words) (parts_from names only_path parts words)
  unfolding walk_fault parts_from
  last_agrees waiting rows p parts settles [] = (settles.free, settles.holds)
  last_agrees waiting rows p parts settles (x ∷ xs) =
      step_on (walk_at waiting true (held rows p)) (walk_at positional true (held (settled_rows rules p rows) (Some (path_id, x ∷ [])))) x xs
      (parts_from names only_path (with_path x parts) xs) (last_fault waiting rows p x ∙ settles.free) (last_walk waiting rows p x)
      (last_agrees positional (settled_rows rules p rows) (Some (path_id, x ∷ [])) (with_path x parts) (path_settles (settled_rows rules p rows) x parts settles.holds) xs)

  -- an option of another name comes to nothing
  unknown_option : (n : Text) (parts : Parts) → is_known names n ≡ false → (words : List Text) → parts_from names (value n) parts words ≡ None
  unfolding parts_from
  unknown_option n parts unknown [] = refl
  unknown_option n parts unknown (x ∷ xs) = rw unknown (either_way (is_option x))
    where
      either_way : (b : Bool) → ◌≡◌ {A = Option Parts} (cond b None None) None
      either_way true = refl
      either_way false = refl

  abbrev pub Loose : Waiting → Type 0
  Loose waiting = (id : Text) → waiting ≡ option id → ⊥

  pub loose_idle : Loose idle
  loose_idle id e = true≢false (ap is_idle e)

  loose_positional : Loose positional
  loose_positional id e = true≢false (ap is_positional e)

  -- how the words after a word are read, whatever it was
  abbrev pub Onward : List Text → Type 0
  Onward xs = (waiting : Waiting) → Loose waiting → (rows : List Row) (p : Option (Text × List Text)) (parts : Parts) → Settles rows p parts
      → Agrees (outcome (walk_at waiting false (held rows p)) xs) (parts_from names any parts xs)

  abbrev pub OnwardAt : List Text → Type 0
  OnwardAt xs = (n : Text) → is_known names n ≡ true → (rows : List Row) (parts : Parts) → Holds rows parts
      → Agrees (outcome (walk_at (option n) false (held rows (Some (n, [])))) xs) (parts_from names (value n) parts xs)

  -- an option that is new, or isn't
  setting_agrees : (waiting : Waiting) (rows : List Row) (p : Option (Text × List Text)) (parts : Parts) → Settles rows p parts → (x : Text) (xs : List Text) (n v : Text)
      → Sees x (setting n v) → Onward xs → (known given : Bool) → is_known names n ≡ known → is_some (value_of n parts.options) ≡ given
      → Agrees (outcome (walk_at waiting false (held rows p)) (x ∷ xs))
      (option_and_then (λ now. parts_from names any now xs) (cond (known && not given) (Some (record parts { options = parts.options ++ (n, v) ∷ [] })) None))
  setting_agrees waiting rows p parts settles x xs n v sees onward false given known_is given_is =
      step_bad (walk_at waiting false (held rows p)) x xs (setting_bad waiting rows p x n v sees known_is)
  setting_agrees waiting rows p parts settles x xs n v sees onward true true known_is given_is =
      let old = option_fault n v (settled_rows rules p rows) true (rows_tell _ parts n (far n known_is) settles.holds ∙ given_is) in
      step_bad (walk_at waiting false (held rows p)) x xs
      (ap some_kind (setting_fault waiting rows p x n v sees known_is) ∙ rw (settles.free, old) refl)
  setting_agrees waiting rows p parts settles x xs n v sees onward true false known_is given_is =
      let new_row = rows_tell (settled_rows rules p rows) parts n (far n known_is) settles.holds ∙ given_is in
      let new = option_fault n v (settled_rows rules p rows) false new_row in
      step_on (walk_at waiting false (held rows p)) (walk_at idle false (held (used (option_rule n) (v ∷ []) (settled_rows rules p rows)) None)) x xs _
      (setting_fault waiting rows p x n v sees known_is ∙ rw (settles.free, new) refl) (setting_walk waiting rows p x n v sees known_is)
      (onward idle loose_idle (used (option_rule n) (v ∷ []) (settled_rows rules p rows)) None _
      (record { free = refl; holds = option_used (settled_rows rules p rows) parts n v (far n known_is) new_row settles.holds }))

  asking_agrees : (waiting : Waiting) (rows : List Row) (p : Option (Text × List Text)) (parts : Parts) → Settles rows p parts → (x : Text) (xs : List Text) (n : Text)
      → Sees x (asking n) → OnwardAt xs → (known : Bool) → is_known names n ≡ known
      → Agrees (outcome (walk_at waiting false (held rows p)) (x ∷ xs)) (parts_from names (value n) parts xs)
  asking_agrees waiting rows p parts settles x xs n sees onward false known_is =
      subst (Agrees (outcome (walk_at waiting false (held rows p)) (x ∷ xs))) (sym (unknown_option n parts known_is xs))
      (step_bad (walk_at waiting false (held rows p)) x xs (asking_bad waiting rows p x n sees known_is))
  asking_agrees waiting rows p parts settles x xs n sees onward true known_is =
      let free = settles.free in
      step_on (walk_at waiting false (held rows p)) (walk_at (option n) false (held (settled_rows rules p rows) (Some (n, [])))) x xs (parts_from names (value n) parts xs)
      (asking_fault waiting rows p x n sees known_is ∙ rw free refl) (asking_walk waiting rows p x n sees known_is)
      (onward n known_is (settled_rows rules p rows) parts settles.holds)

  word_agrees : (waiting : Waiting) → Loose waiting → (rows : List Row) (p : Option (Text × List Text)) (parts : Parts) → Settles rows p parts → (x : Text) (xs : List Text)
      → IsUtf8 x → Onward xs → OnwardAt xs → (k : Kind) → Sees x k
      → Agrees (outcome (walk_at waiting false (held rows p)) (x ∷ xs)) (taken names k x parts (λ turn now. parts_from names turn now xs))
  word_agrees waiting loose rows p parts settles x xs valid onward onward_at marker sees =
      step_on (walk_at waiting false (held rows p)) (walk_at waiting true (held rows p)) x xs (parts_from names only_path parts xs)
      (marker_fault waiting rows p x sees) (marker_walk waiting rows p x sees) (last_agrees waiting rows p parts settles xs)
  word_agrees waiting loose rows p parts settles x xs valid onward onward_at (setting n v) sees =
      setting_agrees waiting rows p parts settles x xs n v sees onward (is_known names n) (is_some (value_of n parts.options)) refl refl
  word_agrees waiting loose rows p parts settles x xs valid onward onward_at (asking n) sees =
      asking_agrees waiting rows p parts settles x xs n sees onward_at (is_known names n) refl
  word_agrees waiting loose rows p parts settles x xs valid onward onward_at stray sees =
      step_bad (walk_at waiting false (held rows p)) x xs (stray_bad waiting rows p x sees valid)
  word_agrees waiting loose rows p parts settles x xs valid onward onward_at path sees =
      step_on (walk_at waiting false (held rows p)) (walk_at positional false (held (settled_rows rules p rows) (Some (path_id, x ∷ [])))) x xs
      (parts_from names any (with_path x parts) xs) (path_fault waiting loose rows p x sees ∙ settles.free) (path_walk waiting loose rows p x sees)
      (onward positional loose_positional (settled_rows rules p rows) (Some (path_id, x ∷ [])) (with_path x parts) (path_settles (settled_rows rules p rows) x parts settles.holds))

  -- a value that is given again is refused, whatever follows
  loose_bad : (rows : List Row) (p : Option (Text × List Text)) → some_kind (settle_fault rules false (held rows p)) ≡ true → (words : List Text)
      → AreValid words → some_kind (outcome (walk_at idle false (held rows p)) words).0 ≡ true
  unfolding walk_fault
  loose_bad rows p bad [] valid = bad
  loose_bad rows p bad (x ∷ xs) valid = by_kind (kind_of x) (looks x)
    where
      by_kind : (k : Kind) → Sees x k → some_kind (outcome (walk_at idle false (held rows p)) (x ∷ xs)).0 ≡ true
      by_kind path sees = step_bad (walk_at idle false (held rows p)) x xs (ap some_kind (path_fault idle loose_idle rows p x sees) ∙ bad)
      by_kind marker sees = option_bad idle rows p bad x xs valid.0 marker refl sees
      by_kind (setting n v) sees = option_bad idle rows p bad x xs valid.0 (setting n v) refl sees
      by_kind (asking n) sees = option_bad idle rows p bad x xs valid.0 (asking n) refl sees
      by_kind stray sees = option_bad idle rows p bad x xs valid.0 stray refl sees

  value_agrees : (n : Text) → is_known names n ≡ true → (rows : List Row) (parts : Parts) → Holds rows parts → (x : Text) (xs : List Text) → AreValid (x ∷ xs)
      → Onward xs → (k : Kind) → Sees x k → (given : Bool) → is_some (value_of n parts.options) ≡ given
      → Agrees (outcome (walk_at (option n) false (held rows (Some (n, [])))) (x ∷ xs)) (cond (not (is_path k)) None
      (option_and_then (λ now. parts_from names any now xs) (cond (not given) (Some (record parts { options = parts.options ++ (n, x) ∷ [] })) None)))
  value_agrees n known rows parts holds x xs valid onward marker sees given given_is = option_bad (option n) rows (Some (n, [])) (unmet n rows known) x xs valid.0 marker refl sees
  value_agrees n known rows parts holds x xs valid onward (setting m v) sees given given_is =
      option_bad (option n) rows (Some (n, [])) (unmet n rows known) x xs valid.0 (setting m v) refl sees
  value_agrees n known rows parts holds x xs valid onward (asking m) sees given given_is = option_bad (option n) rows (Some (n, [])) (unmet n rows known) x xs valid.0 (asking m) refl sees
  value_agrees n known rows parts holds x xs valid onward stray sees given given_is = option_bad (option n) rows (Some (n, [])) (unmet n rows known) x xs valid.0 stray refl sees
  value_agrees n known rows parts holds x xs valid onward path sees true given_is =
      step_on (walk_at (option n) false (held rows (Some (n, [])))) (walk_at idle false (held rows (Some (n, x ∷ [])))) x xs None
      (value_fault n rows x sees) (value_walk n rows x sees known)
      (loose_bad rows (Some (n, x ∷ [])) (ap some_kind (given_fault n x rows true known (rows_tell rows parts n (far n known) holds ∙ given_is))) xs valid.1)
  value_agrees n known rows parts holds x xs valid onward path sees false given_is =
      step_on (walk_at (option n) false (held rows (Some (n, [])))) (walk_at idle false (held rows (Some (n, x ∷ [])))) x xs
      (parts_from names any (record parts { options = parts.options ++ (n, x) ∷ [] }) xs)
      (value_fault n rows x sees) (value_walk n rows x sees known)
      (onward idle loose_idle rows (Some (n, x ∷ [])) (record parts { options = parts.options ++ (n, x) ∷ [] })
      (option_settles rows n x parts known (rows_tell rows parts n (far n known) holds ∙ given_is) holds))

  value_turn : (n : Text) (parts : Parts) (x : Text) (xs : List Text) → is_known names n ≡ true
      → parts_from names (value n) parts (x ∷ xs) ≡ cond (not (is_path (kind_of x))) None
      (option_and_then (λ now. parts_from names any now xs) (cond (not (is_some (value_of n parts.options))) (Some (record parts { options = parts.options ++ (n, x) ∷ [] })) None))
  unfolding parts_from
  value_turn n parts x xs known =
      ap₂ (λ (dash : Bool) (named : Bool). cond dash None
      (option_and_then (λ now. parts_from names any now xs) (cond (named && not (is_some (value_of n parts.options))) (Some (record parts { options = parts.options ++ (n, x) ∷ [] })) None)))
      (options_look x) known

  -- the walk from where an option or a path may be, and from where an option waits for its value
  pub all_agree : (words : List Text) → AreValid words → Onward words × OnwardAt words
  unfolding walk_fault parts_from
  all_agree [] valid = (λ waiting loose rows p parts settles. (settles.free, settles.holds), λ n known rows parts holds. unmet n rows known)
  all_agree (x ∷ xs) valid =
      let behind = all_agree xs valid.1 in (
        λ waiting loose rows p parts settles. word_agrees waiting loose rows p parts settles x xs valid.0 behind.0 behind.1 (kind_of x) (looks x),
        λ n known rows parts holds. subst (Agrees (outcome (walk_at (option n) false (held rows (Some (n, [])))) (x ∷ xs))) (sym (value_turn n parts x xs known))
            (value_agrees n known rows parts holds x xs valid behind.0 (kind_of x) (looks x) (is_some (value_of n parts.options)) refl),
      )
