-- What clap's matches have after a use of an argument.
use Rattle.std.proofs.Common.{◌≡◌, ◌∙◌, Bool, true, false, cond, ◌||◌, refl, sym, ap, subst, List, [], ◌∷◌, ◌++◌, Option, Some, None, is_some, option_map, bytes_eq, true≢false, find}
use Rattle.std.specs.Option.{option_map_or}
use Rattle.std.proofs.lemmas.Slice.Eq.{bytes_eq-Decides}
use Rattle.clap.specs.Walk.{Row, Rule, at_row, has_row, stronger, used, without}
use Rattle.clap.specs.declared.parser.matches.ValueSource.TheVariants.{CommandLine}
use Rattle.clap.specs.Simple.{filled, with_index}
use Rattle.kat_words.specs.Parts.{Parts, Text, value_of, with_path}
use Rattle.kat_words.specs.Parsers.{Holds, by, option_arg, option_row, path_arg, path_id, path_row, row}

pub same_bytes : (a b : Text) → bytes_eq a b ≡ true → a ≡ b
same_bytes a b = (bytes_eq-Decides a b).0

pub bytes_same : (a : Text) → bytes_eq a a ≡ true
bytes_same a = (bytes_eq-Decides a a).1 refl

-- ---- the arguments

abbrev pub option_rule : Text → Rule
option_rule name = filled (option_arg name)

abbrev pub path_rule : Rule
path_rule = with_index 1 (filled path_arg)

-- ---- rows by their id

pub has_row_is : (id : Text) (rows : List Row) → has_row id rows ≡ is_some (find (by id) rows)
has_row_is id [] = refl
has_row_is id (r ∷ rs) = go (by id r) (has_row_is id rs) where
  go : (b : Bool) → has_row id rs ≡ is_some (find (by id) rs) → (b || has_row id rs) ≡ is_some (cond b (Some r) (find (by id) rs))
  go true e = refl
  go false e = e

none_of : {X : Type 0} (o : Option X) → is_some o ≡ false → ◌≡◌ {A = Option X} o None
none_of None e = refl
none_of (Some x) e = absurd (true≢false e)

without_none : (id : Text) (rows : List Row) → has_row id rows ≡ false → without id rows ≡ rows
without_none id [] none = refl
without_none id (r ∷ rs) none = go (by id r) none (without_none id rs) where
  go : (b : Bool) → (b || has_row id rs) ≡ false → (has_row id rs ≡ false → without id rs ≡ rs) → cond b rs (r ∷ without id rs) ≡ r ∷ rs
  go true e next = absurd (true≢false e)
  go false e next = ap (λ (xs : List Row). r ∷ xs) (next e)

-- the row of an id after a change of it, and the rows of others
module _ (id : Text) (f : Row → Row) (m : Row) (keeps : (r : Row) → (f r).id ≡ r.id) (is : m.id ≡ id) where
  abbrev changed : List Row → List Row
  changed = at_row id (λ r. f r ∷ []) (m ∷ [])

  m_here : by id m ≡ true
  m_here = ap (λ i. bytes_eq i id) is ∙ bytes_same id

  pub changed_here : (rows : List Row) → find (by id) (changed rows) ≡ Some (option_map_or f (find (by id) rows) m)
  changed_here [] = ap (λ b. cond b (Some m) None) m_here
  changed_here (r ∷ rs) = go (by id r) refl (changed_here rs) where
    go : (b : Bool) → by id r ≡ b → find (by id) (changed rs) ≡ Some (option_map_or f (find (by id) rs) m) → find (by id) (cond b (f r ∷ rs) (r ∷ changed rs)) ≡ Some (option_map_or f (cond b (Some r) (find (by id) rs)) m)
    go true e next = ap (λ b. cond b (Some (f r)) (find (by id) rs)) (ap (λ i. bytes_eq i id) (keeps r) ∙ e)
    go false e next = ap (λ b. cond b (Some r) (find (by id) (changed rs))) e ∙ next

  pub changed_other : (other : Text) → bytes_eq id other ≡ false → (rows : List Row) → find (by other) (changed rows) ≡ find (by other) rows
  changed_other other apart [] = ap (λ b. cond b (Some m) None) (ap (λ i. bytes_eq i other) is ∙ apart)
  changed_other other apart (r ∷ rs) = go (by id r) refl (changed_other other apart rs) where
    go : (b : Bool) → by id r ≡ b → find (by other) (changed rs) ≡ find (by other) rs → find (by other) (cond b (f r ∷ rs) (r ∷ changed rs)) ≡ find (by other) (r ∷ rs)
    go true e next =
        let there : by other r ≡ false = ap (λ i. bytes_eq i other) (same_bytes r.id id e) ∙ apart in
        ap (λ b. cond b (Some (f r)) (find (by other) rs)) (ap (λ i. bytes_eq i other) (keeps r) ∙ there)
        ∙ sym (ap (λ b. cond b (Some r) (find (by other) rs)) there)
    go false e next = ap (λ o. cond (by other r) (Some r) o) next

-- ---- rows that hold what was read

value_new : (name given : Text) (options : List (Text × Text)) → value_of name options ≡ None → value_of name (options ++ (name, given) ∷ []) ≡ Some given
value_new name given [] none = ap (λ b. cond b (Some given) None) (bytes_same name)
value_new name given (o ∷ os) none = go (bytes_eq o.0 name) none (value_new name given os) where
  go : (b : Bool) → cond b (Some o.1) (value_of name os) ≡ None → (value_of name os ≡ None → value_of name (os ++ (name, given) ∷ []) ≡ Some given)
      → cond b (Some o.1) (value_of name (os ++ (name, given) ∷ [])) ≡ Some given
  go true e next = absurd (true≢false (ap is_some e))
  go false e next = next e

value_old : (name given id : Text) (options : List (Text × Text)) → bytes_eq name id ≡ false → value_of id (options ++ (name, given) ∷ []) ≡ value_of id options
value_old name given id [] apart = ap (λ b. cond b (Some given) None) apart
value_old name given id (o ∷ os) apart = ap (λ v. cond (bytes_eq o.0 id) (Some o.1) v) (value_old name given id os apart)

value_none : (name : Text) (given : Option Text) → is_some (option_map (option_row name) given) ≡ false → ◌≡◌ {A = Option Text} given None
value_none name None e = refl
value_none name (Some x) e = absurd (true≢false e)

is_some_map : (name : Text) (given : Option Text) → is_some (option_map (option_row name) given) ≡ is_some given
is_some_map name None = refl
is_some_map name (Some x) = refl

-- an option has a row if and only if it has a value
pub rows_tell : (rows : List Row) (parts : Parts) (name : Text) → bytes_eq path_id name ≡ false → Holds rows parts → has_row name rows ≡ is_some (value_of name parts.options)
rows_tell rows parts name apart h = has_row_is name rows ∙ ap is_some (h.options name apart) ∙ is_some_map name (value_of name parts.options)

abbrev given_more : List Text → Row → Row
given_more values r = record r { values = r.values ++ values; source = Some (stronger r.source CommandLine) }

pub option_used : (rows : List Row) (parts : Parts) (name given : Text) → bytes_eq path_id name ≡ false → has_row name rows ≡ false → Holds rows parts
    → Holds (used (option_rule name) (given ∷ []) rows) (record parts { options = parts.options ++ (name, given) ∷ [] })
option_used rows parts name given apart new h =
    let bare = without_none name rows new in
    let none : value_of name parts.options ≡ None = none_of _ (sym (rows_tell rows parts name apart h) ∙ new) in
    let none_row : find (by name) rows ≡ None = h.options name apart ∙ ap (option_map (option_row name)) none in
    let at = λ (xs : List Row). at_row name (λ r. given_more (given ∷ []) r ∷ []) (option_row name given ∷ []) xs in
    let here : find (by name) (at (without name rows)) ≡ Some (option_row name given) =
    ap (λ xs. find (by name) (at xs)) bare ∙ changed_here name (given_more (given ∷ [])) (option_row name given) (λ r. refl) refl rows
    ∙ ap (λ o. Some (option_map_or (given_more (given ∷ [])) o (option_row name given))) none_row in
    let other = λ (id : Text) (away : bytes_eq name id ≡ false).
    ap (λ xs. find (by id) (at xs)) bare ∙ changed_other name (given_more (given ∷ [])) (option_row name given) (λ r. refl) refl id away rows in
    record {
      options = λ id far. by_name id far (bytes_eq name id) refl here (other id) none;
      paths = other path_id (apart_too apart) ∙ h.paths;
    }
  where
    apart_too : bytes_eq path_id name ≡ false → bytes_eq name path_id ≡ false
    apart_too e = go (bytes_eq name path_id) refl where
      go : (b : Bool) → bytes_eq name path_id ≡ b → b ≡ false
      go false t = refl
      go true t = absurd (true≢false (sym (bytes_same path_id) ∙ ap (bytes_eq path_id) (sym (same_bytes name path_id t)) ∙ e))

    by_name : (id : Text) → bytes_eq path_id id ≡ false → (b : Bool) → bytes_eq name id ≡ b
        → find (by name) (used (option_rule name) (given ∷ []) rows) ≡ Some (option_row name given)
        → (bytes_eq name id ≡ false → find (by id) (used (option_rule name) (given ∷ []) rows) ≡ find (by id) rows)
        → value_of name parts.options ≡ None
        → find (by id) (used (option_rule name) (given ∷ []) rows) ≡ option_map (option_row id) (value_of id (parts.options ++ (name, given) ∷ []))
    by_name id far true e here other none =
        subst (λ (i : Text). find (by i) (used (option_rule name) (given ∷ []) rows) ≡ option_map (option_row i) (value_of i (parts.options ++ (name, given) ∷ [])))
        (same_bytes name id e) (here ∙ ap (option_map (option_row name)) (sym (value_new name given parts.options none)))
    by_name id far false e here other none = other e ∙ h.options id far ∙ ap (option_map (option_row id)) (sym (value_old name given id parts.options e))

pub path_used : (rows : List Row) (parts : Parts) (word : Text) → Holds rows parts → Holds (used path_rule (word ∷ []) rows) (with_path word parts)
path_used rows parts word h = record {
  options = λ id far. changed_other path_id (given_more (word ∷ [])) (row path_id (word ∷ [])) (λ r. refl) refl id far rows ∙ h.options id far;
  paths = changed_here path_id (given_more (word ∷ [])) (row path_id (word ∷ [])) (λ r. refl) refl rows
      ∙ ap (λ o. Some (option_map_or (given_more (word ∷ [])) o (row path_id (word ∷ [])))) h.paths ∙ behind parts.paths;
}
  where
    behind : (paths : List Text) → Some (option_map_or (given_more (word ∷ [])) (path_row paths) (row path_id (word ∷ []))) ≡ path_row (paths ++ word ∷ [])
    behind [] = refl
    behind (p ∷ ps) = refl
