-- What a state needs at least falls by no more than a token counts.
use Rattle.std.proofs.Common.{◌≡◌, ℕ, suc, ◌+◌, ◌-◌, ◌≤◌, inl, inr, Bool, true, false, List, [], ◌∷◌, ◌++◌, map, length, filter, refl, sym, ◌∙◌, ap, arith, Option, None, Some, if◌then◌else◌}
use Rattle.std.specs.Prelude.{is_some, min, nat_lt, slice_get}
use Rattle.std.specs.List.{range_with_len}
use Rattle.std.proofs.lemmas.Grind.{common_steps}
use Rattle.std.proofs.lemmas.List.{length-append}
use Rattle.std.proofs.lemmas.Option.{slice_get_cases}
use Rattle.kat_num.specs.declared.values.Sort.{Sort}
use Rattle.kat_num.specs.declared.values.Sort.TheVariants as sort
use Rattle.kat_walk.specs.Machines.{IsOneOf}
use Rattle.kat_walk.specs.Pruning.{IsBehindLeast, IsLeast}
use Rattle.kat_walk.proofs.Pruned.{kept_one}
use Rattle.kat_walk.proofs.WordLemmas.{one_cases, one_from}
use Rattle.kat_design.specs.declared.kinds.Kind.{Kind}
use Rattle.kat_design.specs.declared.kinds.Kind.TheVariants as kind
use Rattle.kat_design.specs.declared.kinds.Wanted.{Wanted}
use Rattle.kat_design.specs.declared.kinds.Wanted.TheVariants.{Exactly, Ordered}
use Rattle.kat_type.specs.declared.signatures.QuerySig.{QuerySig}
use Rattle.kat_machine.specs.Choices.{argument_atoms, argument_kind, ask_choices, atom_token, atoms, choices_for, constant_atoms, is_fit, key_choices, leaf_atoms, member, name_atom, number_atom, operators, param_places, places_of, read_atom, row_atoms, set_row, shaped_row, tallies_row, tally_row, token_kind}
use Rattle.kat_rules.specs.Costs.{cost}
use Rattle.kat_decoding.specs.Room.{counted_behind, counts, keys_open, needs, needs_behind, needs_in, opened, shapes_opened, to_be_asked, want_cost, wants_cost}
use Rattle.kat_machine.specs.Grammar.{ask_at, asked_kind, at_ask, at_effect, at_parts, at_shape, at_starts, at_wants, grammar, is_finished, is_nothing, is_of, may_follow, opening_tokens, operands, shape_choices, sorts_of_op, sorts_of_query, tail_of, wants_behind, with_keys}
use Rattle.kat_rules.specs.declared.constants.Constants.{Constants}
use Rattle.kat_rules.specs.declared.constants.Setting.{Setting}
use Rattle.kat_machine.specs.declared.modes.Keyed.{Keyed}
use Rattle.kat_machine.specs.declared.modes.Keyed.TheVariants as keyed
use Rattle.kat_machine.specs.declared.modes.Mode.{Mode}
use Rattle.kat_machine.specs.declared.modes.Mode.TheVariants as mode
use Rattle.kat_machine.specs.declared.modes.Row.{Row}
use Rattle.kat_machine.specs.declared.modes.Want.{Want}
use Rattle.kat_machine.specs.declared.modes.Want.TheVariants as want
use Rattle.kat_rules.specs.declared.tokens.Token.{Token}
use Rattle.kat_rules.specs.declared.tokens.Token.TheVariants as token

-- what is after a place that begins
needs_effect : (x : Setting) (row : Row) (left : ℕ) (rows : List Row) (b : Bool) → nat_lt 0 left ≡ b → needs x (at_effect row left rows) ≡ length x.sig.queries
needs_effect x row left rows true e = rw e refl
needs_effect x row left rows false e = rw e refl

needs_starts : (x : Setting) (row : Row) (kinds : List Kind) (rows : List Row) → needs x (at_starts x row kinds rows) ≡ length x.sig.queries
needs_starts x row [] rows = needs_effect x row (length x.sig.ops) rows (nat_lt 0 (length x.sig.ops)) refl
needs_starts x row (k ∷ kinds) rows = refl

needs_shape : (x : Setting) (key : Option Sort) (chains : List Bool) (kinds : List Kind) (rows : List Row) → needs x (at_shape x key chains kinds rows) ≡ length chains + length x.sig.queries
needs_shape x key [] kinds rows = omega (arith, needs_starts x (shaped_row key kinds) kinds rows)
needs_shape x key (c ∷ chains) kinds rows = refl

needs_parts : (x : Setting) (row : Row) (left : ℕ) (todo : List Want) (rows : List Row) → needs x (at_parts row left todo rows) ≡ wants_cost todo + length x.sig.queries
needs_parts x row left [] rows = omega (arith, needs_effect x row (left - 1) rows (nat_lt 0 (left - 1)) refl)
needs_parts x row left (w ∷ todo) rows = refl

needs_query : (x : Setting) (left : ℕ) (rows : List Row) (o : Option QuerySig) → slice_get x.sig.queries (length x.sig.queries - left) ≡ o
    → min left (length x.sig.queries) ≤ needs x (ask_at (asked_kind o) left rows)
needs_query x left rows None e = elim (slice_get_cases x.sig.queries (length x.sig.queries - left)).1 as (λ _. min left (length x.sig.queries) ≤ 0) [ inl h ↦ absurd (none_some h.0 (sym e ∙ h.2)) | inr h ↦ grind (arith, common_steps, h.0) ]
  where
    none_some : (b : QuerySig) → None ≡ Some b → ⊥
    none_some b e = cc
needs_query x left rows (Some query) e = grind (arith, common_steps)

needs_ask : (x : Setting) (left : ℕ) (rows : List Row) → min left (length x.sig.queries) ≤ needs x (at_ask x left rows)
needs_ask x left rows = needs_query x left rows (slice_get x.sig.queries (length x.sig.queries - left)) refl

needs_wants : (x : Setting) (wants : List Wanted) (left : ℕ) (rows : List Row) → length wants + (min left (length x.sig.queries) - 1) ≤ needs x (at_wants x wants left rows)
needs_wants x [] left rows = let h = needs_ask x (left - 1) rows in less_left left (length x.sig.queries) (needs x (at_ask x (left - 1) rows)) h
  where
    less_left : (left n m : ℕ) → min (left - 1) n ≤ m → 0 + (min left n - 1) ≤ m
    less_left left n m h = grind (arith, common_steps)
needs_wants x (w ∷ wants) left rows = omega arith

-- what a token counts
chosen_cost : (sorts : List Sort) (w : Want) (t : Token) → IsOneOf t (choices_for sorts w) → cost t ≡ want_cost w
chosen_cost sorts (want.Key s) t h = ap cost (one_from token.At t (places_of s sorts) h).1
chosen_cost sorts (want.Member s) t h = ap cost (one_from member t (places_of s sorts) h).1
chosen_cost sorts (want.Leaf k) t h = ap cost (one_from token.Effect t _ h).1
chosen_cost sorts want.Weight t h = ap cost (one_from token.Effect t _ h).1

leaf_atom_cost : (keys : List (Option ℕ)) (c l : ℕ) (kinds : List Kind) (a : Token × Kind) → IsOneOf a (leaf_atoms keys c l kinds) → cost a.0 ≡ 1
leaf_atom_cost keys c l [] a h = absurd h
leaf_atom_cost keys c l (k ∷ kinds) a h =
    elim (one_cases a (map (read_atom c l k) keys) (leaf_atoms keys c (suc l) kinds) h) as (λ _. cost a.0 ≡ 1) [
      | inl i ↦ ap (λ (b : Token × Kind). cost b.0) (one_from (read_atom c l k) a keys i).1
      | inr i ↦ leaf_atom_cost keys c (suc l) kinds a i
    ]

row_atom_cost : (sorts : List Sort) (c : ℕ) (rows : List Row) (a : Token × Kind) → IsOneOf a (row_atoms sorts c rows) → cost a.0 ≡ 1
row_atom_cost sorts c [] a h = absurd h
row_atom_cost sorts c (row ∷ rows) a h =
    elim (one_cases a (leaf_atoms (key_choices sorts row.key) c 0 row.kinds) (row_atoms sorts (suc c) rows) h) as (λ _. cost a.0 ≡ 1) [
      | inl i ↦ leaf_atom_cost (key_choices sorts row.key) c 0 row.kinds a i
      | inr i ↦ row_atom_cost sorts (suc c) rows a i
    ]

truth_cost : (a : Token × Kind) → IsOneOf a ((token.Truth false, kind.Truth) ∷ (token.Truth true, kind.Truth) ∷ []) → cost a.0 ≡ 1
truth_cost a (inl e) = ap (λ (b : Token × Kind). cost b.0) e
truth_cost a (inr (inl e)) = ap (λ (b : Token × Kind). cost b.0) e
truth_cost a (inr (inr h)) = absurd h

constant_cost : (cs : Constants) (a : Token × Kind) → IsOneOf a (constant_atoms cs) → cost a.0 ≡ 1
constant_cost cs a h =
    elim (one_cases a (map number_atom (range_with_len 0 (length cs.numbers))) (map name_atom (range_with_len 0 (length cs.names)) ++ (token.Truth false, kind.Truth) ∷ (token.Truth true, kind.Truth) ∷ []) h) as (λ _. cost a.0 ≡ 1) [
      | inl i ↦ ap (λ (b : Token × Kind). cost b.0) (one_from number_atom a (range_with_len 0 (length cs.numbers)) i).1
      | inr i ↦
          elim (one_cases a (map name_atom (range_with_len 0 (length cs.names))) ((token.Truth false, kind.Truth) ∷ (token.Truth true, kind.Truth) ∷ []) i) as (λ _. cost a.0 ≡ 1) [
            | inl j ↦ ap (λ (b : Token × Kind). cost b.0) (one_from name_atom a (range_with_len 0 (length cs.names)) j).1
            | inr j ↦ truth_cost a j
          ]
    ]

atom_cost : (cs : Constants) (sorts : List Sort) (rows : List Row) (a : Token × Kind) → IsOneOf a (atoms cs sorts rows) → cost a.0 ≡ 1
atom_cost cs sorts rows a h =
    elim (one_cases a (row_atoms sorts 0 rows) (argument_atoms sorts ++ constant_atoms cs) h) as (λ _. cost a.0 ≡ 1) [
      | inl i ↦ row_atom_cost sorts 0 rows a i
      | inr i ↦
          elim (one_cases a (argument_atoms sorts) (constant_atoms cs) i) as (λ _. cost a.0 ≡ 1) [
            | inl j ↦ ap (λ (b : Token × Kind). cost b.0) (one_from (λ (place : ℕ). (token.Arg place, argument_kind (slice_get sorts place))) a (filter (λ (place : ℕ). is_some (slice_get sorts place)) param_places) j).1
            | inr j ↦ constant_cost cs a j
          ]
    ]

operator_cost : (w : Wanted) (t : Token) → IsOneOf t (operators w) → cost t ≡ 1
operator_cost (Exactly kind.Truth) t (inl e) = ap cost e
operator_cost (Exactly kind.Truth) t (inr (inl e)) = ap cost e
operator_cost (Exactly kind.Truth) t (inr (inr (inl e))) = ap cost e
operator_cost (Exactly kind.Truth) t (inr (inr (inr (inl e)))) = ap cost e
operator_cost (Exactly kind.Truth) t (inr (inr (inr (inr h)))) = absurd h
operator_cost (Exactly kind.Number) t (inl e) = ap cost e
operator_cost (Exactly kind.Number) t (inr (inl e)) = ap cost e
operator_cost (Exactly kind.Number) t (inr (inr h)) = absurd h
operator_cost (Exactly kind.Name) t h = absurd h
operator_cost Ordered t (inl e) = ap cost e
operator_cost Ordered t (inr (inl e)) = ap cost e
operator_cost Ordered t (inr (inr h)) = absurd h

pub asked_cost : (cs : Constants) (sorts : List Sort) (rows : List Row) (w : Wanted) (t : Token) → IsOneOf t (ask_choices cs sorts rows w) → cost t ≡ 1
asked_cost cs sorts rows w t h =
    elim (one_cases t (map atom_token (filter (is_fit w) (atoms cs sorts rows))) (operators w) h) as (λ _. cost t ≡ 1) [
      | inl i ↦
          (let from = one_from atom_token t (filter (is_fit w) (atoms cs sorts rows)) i in
          ap cost from.1 ∙ atom_cost cs sorts rows from.0 (kept_one (is_fit w) from.0 (atoms cs sorts rows) from.2))
      | inr i ↦ operator_cost w t i
    ]

-- the wants after a token are at least the others
some_behind : (sorts : List Sort) (rows : List Row) (t : Token) (w : Wanted) (wants : List Wanted) → length wants ≤ length (wants_behind sorts rows t (w ∷ wants))
some_behind sorts rows t (Exactly k) wants = let e = length-append (operands t) wants in omega (arith, e)
some_behind sorts rows t Ordered wants = let e = length-append (operands t) (Exactly (token_kind sorts rows t) ∷ wants) in omega (arith, e)

-- each mode
opening_falls : (x : Setting) (rows : List Row) (t : Token) → IsOneOf t opening_tokens → length x.sig.queries ≤ cost t + needs x ((grammar x).step (record { mode = mode.Opening; rows = rows }) t)
opening_falls x rows t (inl e) = rw e (let h = needs_ask x (length x.sig.queries) rows in whole_min (length x.sig.queries) (needs x (at_ask x (length x.sig.queries) rows)) h)
  where
    whole_min : (n m : ℕ) → min n n ≤ m → n ≤ 0 + m
    whole_min n m h = grind (arith, common_steps)
opening_falls x rows t (inr (inl e)) = rw e (omega arith)
opening_falls x rows t (inr (inr (inl e))) = rw e (omega arith)
opening_falls x rows t (inr (inr (inr (inl e)))) = rw e (omega arith)
opening_falls x rows t (inr (inr (inr (inr (inl e))))) = rw e (omega (arith, needs_effect x tally_row (length x.sig.ops) rows (nat_lt 0 (length x.sig.ops)) refl))
opening_falls x rows t (inr (inr (inr (inr (inr (inl e)))))) = rw e (omega arith)
opening_falls x rows t (inr (inr (inr (inr (inr (inr h)))))) = absurd h

keys_fall : (x : Setting) (k : Keyed) (s : Sort) (rows : List Row) → length x.sig.queries ≤ needs x (with_keys x k s rows)
keys_fall x keyed.Table s rows = omega arith
keys_fall x keyed.Set s rows = omega (arith, needs_effect x (set_row s) (length x.sig.ops) rows (nat_lt 0 (length x.sig.ops)) refl)
keys_fall x keyed.Tallies s rows = omega (arith, needs_effect x (tallies_row s) (length x.sig.ops) rows (nat_lt 0 (length x.sig.ops)) refl)

keying_falls : (x : Setting) (k : Keyed) (rows : List Row) (t : Token) → IsOneOf t (token.Keys sort.Int ∷ token.Keys sort.Nat ∷ token.Keys sort.Name ∷ [])
    → length x.sig.queries ≤ cost t + needs x ((grammar x).step (record { mode = mode.Keying k; rows = rows }) t)
keying_falls x k rows t (inl e) = rw e (omega (arith, keys_fall x k sort.Int rows))
keying_falls x k rows t (inr (inl e)) = rw e (omega (arith, keys_fall x k sort.Nat rows))
keying_falls x k rows t (inr (inr (inl e))) = rw e (omega (arith, keys_fall x k sort.Name rows))
keying_falls x k rows t (inr (inr (inr h))) = absurd h

nodes_fall : (x : Setting) (key : Option Sort) (c : Bool) (chains : List Bool) (kinds : List Kind) (rows : List Row) (t : Token) → IsOneOf t (shape_choices (false ∷ chains))
    → suc (length chains) + length x.sig.queries ≤ cost t + needs x ((grammar x).step (record { mode = mode.Shaping key (c ∷ chains) kinds; rows = rows }) t)
nodes_fall x key c chains kinds rows t (inl e) = rw e (omega (arith, needs_shape x key chains (kinds ++ kind.Number ∷ []) rows))
nodes_fall x key c chains kinds rows t (inr (inl e)) = rw e (omega (arith, needs_shape x key chains (kinds ++ kind.Name ∷ []) rows))
nodes_fall x key c chains kinds rows t (inr (inr (inl e))) = rw e (omega (arith, needs_shape x key chains (kinds ++ kind.Truth ∷ []) rows))
nodes_fall x key c chains kinds rows t (inr (inr (inr (inl e)))) = rw e (omega arith)
nodes_fall x key c chains kinds rows t (inr (inr (inr (inr (inl e))))) = rw e (omega arith)
nodes_fall x key c chains kinds rows t (inr (inr (inr (inr (inr h))))) = absurd h

pub any_shape : (c : Bool) (chains : List Bool) (t : Token) → IsOneOf t (shape_choices (c ∷ chains)) → IsOneOf t (shape_choices (false ∷ chains))
any_shape false chains t h = h
any_shape true chains t (inl e) = inl e
any_shape true chains t (inr (inl e)) = inr (inl e)
any_shape true chains t (inr (inr (inl e))) = inr (inr (inl e))
any_shape true chains t (inr (inr (inr (inl e)))) = inr (inr (inr (inl e)))
any_shape true chains t (inr (inr (inr (inr h)))) = absurd h

effecting_falls : (x : Setting) (row : Row) (left : ℕ) (rows : List Row) (b : Bool)
    → length x.sig.queries ≤ needs x (if b then at_effect row (left - 1) rows else at_parts row left (tail_of row.wants) rows)
effecting_falls x row left rows true = omega (arith, needs_effect x row (left - 1) rows (nat_lt 0 (left - 1)) refl)
effecting_falls x row left rows false = omega (arith, needs_parts x row left (tail_of row.wants) rows)

falls_in : (x : Setting) (m : Mode) (rows : List Row) (t : Token) → IsOneOf t (may_follow x m rows) → needs_in x m ≤ cost t + needs x ((grammar x).step (record { mode = m; rows = rows }) t)
falls_in x mode.Opening rows t h = opening_falls x rows t (kept_one (is_of x.kinds) t opening_tokens h)
falls_in x (mode.Keying k) rows t h = keying_falls x k rows t h
falls_in x (mode.Shaping key [] kinds) rows t h = absurd h
falls_in x (mode.Shaping key (c ∷ chains) kinds) rows t h = nodes_fall x key c chains kinds rows t (any_shape c chains t h)
falls_in x (mode.Starting row todo) rows t h = omega (arith, needs_starts x row (tail_of todo) rows)
falls_in x (mode.Effecting row left) rows t h = let e = effecting_falls x row left rows (is_nothing t) in omega (arith, e)
falls_in x (mode.Filling row left []) rows t h = absurd h
falls_in x (mode.Filling row left (w ∷ todo)) rows t h = let e = chosen_cost (sorts_of_op x left) w t h in omega (arith, e, needs_parts x row left todo rows)
falls_in x (mode.Asking [] left) rows t h = absurd h
falls_in x (mode.Asking (w ∷ wants) left) rows t h =
    let e = asked_cost x.constants (sorts_of_query x left) rows w t h in
    let f = some_behind (sorts_of_query x left) rows t w wants in
    let g = needs_wants x (wants_behind (sorts_of_query x left) rows t (w ∷ wants)) left rows in
    omega (arith, e, f, g)
falls_in x mode.Finished rows t h = absurd h
falls_in x mode.Nowhere rows t h = absurd h

ends_in : (x : Setting) (m : Mode) → is_finished m ≡ true → needs_in x m ≡ 0
ends_in x mode.Opening h = absurd cc
ends_in x (mode.Keying k) h = absurd cc
ends_in x (mode.Shaping key chains kinds) h = absurd cc
ends_in x (mode.Starting row todo) h = absurd cc
ends_in x (mode.Effecting row left) h = absurd cc
ends_in x (mode.Filling row left todo) h = absurd cc
ends_in x (mode.Asking wants left) h = absurd cc
ends_in x mode.Finished h = refl
ends_in x mode.Nowhere h = absurd cc

pub needs_least : (x : Setting) → IsLeast (grammar x) cost (needs x)
needs_least x = record { falls = λ s t h. falls_in x s.mode s.rows t h; ends = λ s h. ends_in x s.mode h }

-- what is told without the place after a token
counted : (wants : List Want) → length (filter counts wants) ≡ wants_cost wants
counted [] = refl
counted (want.Key s ∷ wants) = let e = counted wants in omega (arith, e)
counted (want.Member s ∷ wants) = let e = counted wants in omega (arith, e)
counted (want.Leaf k ∷ wants) = let e = counted wants in omega (arith, e)
counted (want.Weight ∷ wants) = let e = counted wants in omega (arith, e)

opening_told : (x : Setting) (rows : List Row) (t : Token) → IsOneOf t opening_tokens → shapes_opened t + length x.sig.queries ≤ needs x ((grammar x).step (record { mode = mode.Opening; rows = rows }) t)
opening_told x rows t (inl e) = rw e (let h = needs_ask x (length x.sig.queries) rows in whole_min (length x.sig.queries) (needs x (at_ask x (length x.sig.queries) rows)) h)
  where
    whole_min : (n m : ℕ) → min n n ≤ m → 0 + n ≤ m
    whole_min n m h = grind (arith, common_steps)
opening_told x rows t (inr (inl e)) = rw e (omega arith)
opening_told x rows t (inr (inr (inl e))) = rw e (omega arith)
opening_told x rows t (inr (inr (inr (inl e)))) = rw e (omega arith)
opening_told x rows t (inr (inr (inr (inr (inl e))))) = rw e (omega (arith, needs_effect x tally_row (length x.sig.ops) rows (nat_lt 0 (length x.sig.ops)) refl))
opening_told x rows t (inr (inr (inr (inr (inr (inl e)))))) = rw e (omega arith)
opening_told x rows t (inr (inr (inr (inr (inr (inr h)))))) = absurd h

keys_told : (x : Setting) (k : Keyed) (s : Sort) (rows : List Row) → keys_open k + length x.sig.queries ≤ needs x (with_keys x k s rows)
keys_told x keyed.Table s rows = omega arith
keys_told x keyed.Set s rows = omega (arith, needs_effect x (set_row s) (length x.sig.ops) rows (nat_lt 0 (length x.sig.ops)) refl)
keys_told x keyed.Tallies s rows = omega (arith, needs_effect x (tallies_row s) (length x.sig.ops) rows (nat_lt 0 (length x.sig.ops)) refl)

keying_told : (x : Setting) (k : Keyed) (rows : List Row) (t : Token) → IsOneOf t (token.Keys sort.Int ∷ token.Keys sort.Nat ∷ token.Keys sort.Name ∷ [])
    → keys_open k + length x.sig.queries ≤ needs x ((grammar x).step (record { mode = mode.Keying k; rows = rows }) t)
keying_told x k rows t (inl e) = rw e (keys_told x k sort.Int rows)
keying_told x k rows t (inr (inl e)) = rw e (keys_told x k sort.Nat rows)
keying_told x k rows t (inr (inr (inl e))) = rw e (keys_told x k sort.Name rows)
keying_told x k rows t (inr (inr (inr h))) = absurd h

nodes_told : (x : Setting) (key : Option Sort) (c : Bool) (chains : List Bool) (kinds : List Kind) (rows : List Row) (t : Token) → IsOneOf t (shape_choices (false ∷ chains))
    → shapes_opened t + length chains + length x.sig.queries ≤ needs x ((grammar x).step (record { mode = mode.Shaping key (c ∷ chains) kinds; rows = rows }) t)
nodes_told x key c chains kinds rows t (inl e) = rw e (omega (arith, needs_shape x key chains (kinds ++ kind.Number ∷ []) rows))
nodes_told x key c chains kinds rows t (inr (inl e)) = rw e (omega (arith, needs_shape x key chains (kinds ++ kind.Name ∷ []) rows))
nodes_told x key c chains kinds rows t (inr (inr (inl e))) = rw e (omega (arith, needs_shape x key chains (kinds ++ kind.Truth ∷ []) rows))
nodes_told x key c chains kinds rows t (inr (inr (inr (inl e)))) = rw e (omega arith)
nodes_told x key c chains kinds rows t (inr (inr (inr (inr (inl e))))) = rw e (omega arith)
nodes_told x key c chains kinds rows t (inr (inr (inr (inr (inr h))))) = absurd h

effecting_told : (x : Setting) (row : Row) (left : ℕ) (rows : List Row) (b : Bool)
    → (if b then 0 else counted_behind row.wants) + length x.sig.queries ≤ needs x (if b then at_effect row (left - 1) rows else at_parts row left (tail_of row.wants) rows)
effecting_told x row left rows true = omega (arith, needs_effect x row (left - 1) rows (nat_lt 0 (left - 1)) refl)
effecting_told x row left rows false = omega (arith, needs_parts x row left (tail_of row.wants) rows, counted (tail_of row.wants))

-- the wants after a token are its operands and the others
all_behind : (sorts : List Sort) (rows : List Row) (t : Token) (w : Wanted) (wants : List Wanted) → length (operands t) + length wants ≤ length (wants_behind sorts rows t (w ∷ wants))
all_behind sorts rows t (Exactly k) wants = let e = length-append (operands t) wants in omega (arith, e)
all_behind sorts rows t Ordered wants = let e = length-append (operands t) (Exactly (token_kind sorts rows t) ∷ wants) in omega (arith, e)

told_in : (x : Setting) (m : Mode) (rows : List Row) (t : Token) → IsOneOf t (may_follow x m rows)
    → opened m t + to_be_asked (length x.sig.queries) m ≤ needs x ((grammar x).step (record { mode = m; rows = rows }) t)
told_in x mode.Opening rows t h = opening_told x rows t (kept_one (is_of x.kinds) t opening_tokens h)
told_in x (mode.Keying k) rows t h = keying_told x k rows t h
told_in x (mode.Shaping key [] kinds) rows t h = absurd h
told_in x (mode.Shaping key (c ∷ chains) kinds) rows t h = let e = nodes_told x key c chains kinds rows t (any_shape c chains t h) in omega (arith, e)
told_in x (mode.Starting row todo) rows t h = omega (arith, needs_starts x row (tail_of todo) rows)
told_in x (mode.Effecting row left) rows t h = effecting_told x row left rows (is_nothing t)
told_in x (mode.Filling row left []) rows t h = absurd h
told_in x (mode.Filling row left (w ∷ todo)) rows t h = omega (arith, counted todo, needs_parts x row left todo rows)
told_in x (mode.Asking [] left) rows t h = absurd h
told_in x (mode.Asking (w ∷ wants) left) rows t h =
    let f = all_behind (sorts_of_query x left) rows t w wants in
    let g = needs_wants x (wants_behind (sorts_of_query x left) rows t (w ∷ wants)) left rows in
    omega (arith, f, g)
told_in x mode.Finished rows t h = absurd h
told_in x mode.Nowhere rows t h = absurd h

pub needs_told : (x : Setting) → IsBehindLeast (grammar x) (needs x) (needs_behind x)
needs_told x = λ s t h. told_in x s.mode s.rows t h
