-- What is among the tokens that may come at a place.
use Rattle.std.proofs.Common.{◌≡◌, ℕ, zero, suc, ◌+◌, ◌<◌, ◌≤◌, inl, inr, Bool, true, false, List, [], ◌∷◌, ◌++◌, map, length, filter, refl, sym, ◌∙◌, ap, subst, arith, Option, None, Some}
use Rattle.std.specs.Prelude.{is_some, slice_get}
use Rattle.std.specs.List.{range_with_len}
use Rattle.std.proofs.lemmas.Option.{slice_get_within}
use Rattle.kat_num.specs.declared.values.Sort.{Sort}
use Rattle.kat_num.specs.declared.values.Sort.TheVariants as sort
use Rattle.kat_num.specs.declared.values.Value.{Value}
use Rattle.kat_num.specs.declared.values.Value.TheVariants as value
use Rattle.kat_walk.specs.Machines.{IsOneOf}
use Rattle.kat_walk.proofs.WordLemmas.{one_left, one_mapped, one_right}
use Rattle.kat_walk.proofs.Pruned.{one_kept}
use Rattle.kat_design.specs.Designs.{ComponentForm}
use Rattle.kat_design.specs.Designs.ComponentForm.{a_cell, a_table, a_set, a_tally, tallies}
use Rattle.kat_design.specs.Faults.{gives_kind, has_sort, is_weight}
use Rattle.kat_design.specs.Kinds.{component_kinds, is_wanted, key_sort, sort_kind, value_kind}
use Rattle.kat_design.specs.Sorted.{FitsKey, GivesKind, IsParameter, IsWeight}
use Rattle.kat_design.specs.Sorted.GivesKind.{argument, time, replica, zero_leaf, one, above, below, false_leaf, true_leaf}
use Rattle.kat_design.specs.Sorted.IsWeight.{natural, time as weigh_time, replica as weigh_replica, zero_leaf as weigh_zero, one as weigh_one, above as weigh_above, below as weigh_below}
use Rattle.kat_design.specs.declared.designs.Leaf.{Leaf}
use Rattle.kat_design.specs.declared.designs.Leaf.TheVariants as given
use Rattle.kat_design.specs.declared.kinds.Kind.{Kind}
use Rattle.kat_design.specs.declared.kinds.Kind.TheVariants as kind
use Rattle.kat_design.specs.declared.kinds.Wanted.{Wanted}
use Rattle.kat_design.proofs.Converse.{leaf_given, parameter_has, weight_given}
use Rattle.kat_machine.specs.Choices.{all_leaves, argument_atoms, argument_kind, ask_choices, atoms, choices_for, constant_atoms, is_fit, atom_token, key_choices, keyed, member, read_atom, leaf_atoms, name_atom, number_atom, operators, param_places, places_of, row_atoms, row_of}
use Rattle.kat_rules.specs.Constants.{place_of}
use Rattle.kat_rules.specs.Listed.{IsConstant}
use Rattle.kat_rules.specs.Tokens.{constant_token}
use Rattle.kat_rules.specs.declared.constants.Constants.{Constants}
use Rattle.kat_machine.specs.declared.modes.Row.{Row}
use Rattle.kat_machine.specs.declared.modes.Want.TheVariants as want
use Rattle.kat_rules.specs.declared.tokens.Token.{Token}
use Rattle.kat_rules.specs.declared.tokens.Token.TheVariants as token
use Rattle.kat_rules.proofs.Values.{one_counted, place_inside}

-- the parameters of a sort
place_known : (p : ℕ) → p < 4 → IsOneOf p param_places
place_known zero h = inl refl
place_known (suc zero) h = inr (inl refl)
place_known (suc (suc zero)) h = inr (inr (inl refl))
place_known (suc (suc (suc zero))) h = inr (inr (inr (inl refl)))
place_known (suc (suc (suc (suc p)))) h = absurd (omega (arith, h))

within_four : (sorts : List Sort) (p : ℕ) (s : Sort) → length sorts ≤ 4 → slice_get sorts p ≡ Some s → p < 4
within_four sorts p s few e = let h = slice_get_within sorts p s e in omega (arith, h, few)

pub one_place : (s : Sort) (sorts : List Sort) (p : ℕ) → length sorts ≤ 4 → slice_get sorts p ≡ Some s → IsOneOf p (places_of s sorts)
one_place s sorts p few e = one_kept (λ (place : ℕ). has_sort s (slice_get sorts place)) p param_places (place_known p (within_four sorts p s few e)) (parameter_has sorts p s e)

-- what an operation may give
argument_known : (p : ℕ) → p < 4 → IsOneOf (given.Arg p) all_leaves
argument_known zero h = inl refl
argument_known (suc zero) h = inr (inl refl)
argument_known (suc (suc zero)) h = inr (inr (inl refl))
argument_known (suc (suc (suc zero))) h = inr (inr (inr (inl refl)))
argument_known (suc (suc (suc (suc p)))) h = absurd (omega (arith, h))

-- after the eight leaves that come first
behind : (l : Leaf) → IsOneOf l (given.Pos 0 ∷ given.Pos 1 ∷ given.Pos 2 ∷ given.Pos 3 ∷ given.Neg 0 ∷ given.Neg 1 ∷ given.Neg 2 ∷ given.Neg 3 ∷ given.False ∷ given.True ∷ []) → IsOneOf l all_leaves
behind l h = inr (inr (inr (inr (inr (inr (inr (inr h)))))))

above_known : (p : ℕ) → p < 4 → IsOneOf (given.Pos p) all_leaves
above_known zero h = behind (given.Pos 0) (inl refl)
above_known (suc zero) h = behind (given.Pos 1) (inr (inl refl))
above_known (suc (suc zero)) h = behind (given.Pos 2) (inr (inr (inl refl)))
above_known (suc (suc (suc zero))) h = behind (given.Pos 3) (inr (inr (inr (inl refl))))
above_known (suc (suc (suc (suc p)))) h = absurd (omega (arith, h))

below_known : (p : ℕ) → p < 4 → IsOneOf (given.Neg p) all_leaves
below_known zero h = behind (given.Neg 0) (inr (inr (inr (inr (inl refl)))))
below_known (suc zero) h = behind (given.Neg 1) (inr (inr (inr (inr (inr (inl refl))))))
below_known (suc (suc zero)) h = behind (given.Neg 2) (inr (inr (inr (inr (inr (inr (inl refl)))))))
below_known (suc (suc (suc zero))) h = behind (given.Neg 3) (inr (inr (inr (inr (inr (inr (inr (inl refl))))))))
below_known (suc (suc (suc (suc p)))) h = absurd (omega (arith, h))

time_known : IsOneOf given.Time all_leaves
time_known = inr (inr (inr (inr (inl refl))))

replica_known : IsOneOf given.Replica all_leaves
replica_known = inr (inr (inr (inr (inr (inl refl)))))

zero_known : IsOneOf given.Zero all_leaves
zero_known = inr (inr (inr (inr (inr (inr (inl refl))))))

one_known : IsOneOf given.One all_leaves
one_known = inr (inr (inr (inr (inr (inr (inr (inl refl)))))))

false_known : IsOneOf given.False all_leaves
false_known = behind given.False (inr (inr (inr (inr (inr (inr (inr (inr (inl refl)))))))))

true_known : IsOneOf given.True all_leaves
true_known = behind given.True (inr (inr (inr (inr (inr (inr (inr (inr (inr (inl refl))))))))))

leaf_known : (sorts : List Sort) (l : Leaf) (k : Kind) → length sorts ≤ 4 → GivesKind sorts l k → IsOneOf l all_leaves
leaf_known sorts l k few (argument p s h) = argument_known p (within_four sorts p s few h)
leaf_known sorts l k few time = time_known
leaf_known sorts l k few replica = replica_known
leaf_known sorts l k few zero_leaf = zero_known
leaf_known sorts l k few one = one_known
leaf_known sorts l k few (above p h) = above_known p (within_four sorts p sort.Int few h)
leaf_known sorts l k few (below p h) = below_known p (within_four sorts p sort.Int few h)
leaf_known sorts l k few false_leaf = false_known
leaf_known sorts l k few true_leaf = true_known

weight_known : (sorts : List Sort) (l : Leaf) → length sorts ≤ 4 → IsWeight sorts l → IsOneOf l all_leaves
weight_known sorts l few (natural p h) = argument_known p (within_four sorts p sort.Nat few h)
weight_known sorts l few weigh_time = time_known
weight_known sorts l few weigh_replica = replica_known
weight_known sorts l few weigh_zero = zero_known
weight_known sorts l few weigh_one = one_known
weight_known sorts l few (weigh_above p h) = above_known p (within_four sorts p sort.Int few h)
weight_known sorts l few (weigh_below p h) = below_known p (within_four sorts p sort.Int few h)

pub key_chosen : (sorts : List Sort) (s : Sort) (p : ℕ) → length sorts ≤ 4 → IsParameter sorts p s → IsOneOf (token.At p) (choices_for sorts (want.Key s))
key_chosen sorts s p few h = one_mapped token.At p (places_of s sorts) (one_place s sorts p few h)

pub member_chosen : (sorts : List Sort) (s : Sort) (p : ℕ) → length sorts ≤ 4 → IsParameter sorts p s → IsOneOf (token.Effect (given.Arg p)) (choices_for sorts (want.Member s))
member_chosen sorts s p few h = one_mapped member p (places_of s sorts) (one_place s sorts p few h)

pub leaf_chosen : (sorts : List Sort) (l : Leaf) (k : Kind) → length sorts ≤ 4 → GivesKind sorts l k → IsOneOf (token.Effect l) (choices_for sorts (want.Leaf k))
leaf_chosen sorts l k few h =
    one_mapped token.Effect l (filter (λ (m : Leaf). gives_kind sorts m k) all_leaves)
    (one_kept (λ (m : Leaf). gives_kind sorts m k) l all_leaves (leaf_known sorts l k few h) (leaf_given sorts l k h))

pub weight_chosen : (sorts : List Sort) (l : Leaf) → length sorts ≤ 4 → IsWeight sorts l → IsOneOf (token.Effect l) (choices_for sorts want.Weight)
weight_chosen sorts l few h =
    one_mapped token.Effect l (filter (is_weight sorts) all_leaves)
    (one_kept (is_weight sorts) l all_leaves (weight_known sorts l few h) (weight_given sorts l h))

-- the atoms of an ask
keys_known : (sorts : List Sort) (keys : Option Sort) (key : Option ℕ) → length sorts ≤ 4 → FitsKey sorts keys key → IsOneOf key (key_choices sorts keys)
keys_known sorts None None few h = inl refl
keys_known sorts (Some s) (Some p) few h = one_mapped keyed p (places_of s sorts) (one_place s sorts p few h)
keys_known sorts None (Some p) few h = absurd h
keys_known sorts (Some s) None few h = absurd h

one_leaf_atom : (keys : List (Option ℕ)) (c l : ℕ) (kinds : List Kind) (n m : ℕ) (k : Kind) (key : Option ℕ) → slice_get kinds n ≡ Some k → IsOneOf key keys → m ≡ l + n
    → IsOneOf {X = Token × Kind} (token.Read c m key, k) (leaf_atoms keys c l kinds)
one_leaf_atom keys c l [] n m k key e h is = absurd cc
one_leaf_atom keys c l (j ∷ kinds) zero m k key e h is =
    let same : j ≡ k = cc in
    let at : m ≡ l = omega (arith, is) in
    one_left (token.Read c m key, k) (map (read_atom c l j) keys) (leaf_atoms keys c (suc l) kinds)
    (subst (λ (i : ℕ). IsOneOf {X = Token × Kind} (token.Read c m key, k) (map (read_atom c i j) keys)) at
    (subst (λ (i : Kind). IsOneOf {X = Token × Kind} (token.Read c m key, k) (map (read_atom c m i) keys)) (sym same)
    (one_mapped (read_atom c m k) key keys h)))
one_leaf_atom keys c l (j ∷ kinds) (suc n) m k key e h is =
    one_right (token.Read c m key, k) (map (read_atom c l j) keys) (leaf_atoms keys c (suc l) kinds) (one_leaf_atom keys c (suc l) kinds n m k key e h (omega (arith, is)))

pub row_kinds : (c : ComponentForm) → (row_of c).kinds ≡ component_kinds c
row_kinds (a_cell shape starts effects) = refl
row_kinds (a_table key shape starts effects) = refl
row_kinds (a_set key effects) = refl
row_kinds (a_tally effects) = refl
row_kinds (tallies key effects) = refl

pub row_key : (c : ComponentForm) → (row_of c).key ≡ key_sort c
row_key (a_cell shape starts effects) = refl
row_key (a_table key shape starts effects) = refl
row_key (a_set key effects) = refl
row_key (a_tally effects) = refl
row_key (tallies key effects) = refl

one_row_atom : (sorts : List Sort) (c : ℕ) (rows : List Row) (p n m : ℕ) (row : Row) (k : Kind) (key : Option ℕ) → slice_get rows p ≡ Some row → slice_get row.kinds n ≡ Some k
    → IsOneOf key (key_choices sorts row.key) → m ≡ c + p → IsOneOf {X = Token × Kind} (token.Read m n key, k) (row_atoms sorts c rows)
one_row_atom sorts c [] p n m row k key e there h is = absurd cc
one_row_atom sorts c (r ∷ rows) zero n m row k key e there h is =
    let same : r ≡ row = cc in
    let at : m ≡ c = omega (arith, is) in
    one_left (token.Read m n key, k) (leaf_atoms (key_choices sorts r.key) c 0 r.kinds) (row_atoms sorts (suc c) rows)
    (subst (λ (i : ℕ). IsOneOf {X = Token × Kind} (token.Read m n key, k) (leaf_atoms (key_choices sorts r.key) i 0 r.kinds)) at
    (subst (λ (q : Row). IsOneOf {X = Token × Kind} (token.Read m n key, k) (leaf_atoms (key_choices sorts q.key) m 0 q.kinds)) (sym same)
    (one_leaf_atom (key_choices sorts row.key) m 0 row.kinds n n k key there h (omega arith))))
one_row_atom sorts c (r ∷ rows) (suc p) n m row k key e there h is =
    one_right (token.Read m n key, k) (leaf_atoms (key_choices sorts r.key) c 0 r.kinds) (row_atoms sorts (suc c) rows) (one_row_atom sorts (suc c) rows p n m row k key e there h (omega (arith, is)))

pub row_there : (components : List ComponentForm) (p : ℕ) (c : ComponentForm) → slice_get components p ≡ Some c → slice_get (map row_of components) p ≡ Some (row_of c)
row_there [] p c e = absurd cc
row_there (d ∷ components) zero c e = let same : d ≡ c = cc in ap (λ (x : ComponentForm). Some (row_of x)) same
row_there (d ∷ components) (suc p) c e = row_there components p c e

argument_atom : (sorts : List Sort) (p : ℕ) (s : Sort) → length sorts ≤ 4 → slice_get sorts p ≡ Some s → IsOneOf {X = Token × Kind} (token.Arg p, sort_kind s) (argument_atoms sorts)
argument_atom sorts p s few e =
    let there : is_some (slice_get sorts p) ≡ true = ap (λ (o : Option Sort). is_some o) e in
    subst (λ (k : Kind). IsOneOf {X = Token × Kind} (token.Arg p, k) (argument_atoms sorts)) (ap argument_kind e)
    (one_mapped (λ (place : ℕ). (token.Arg place, argument_kind (slice_get sorts place))) p (filter (λ (place : ℕ). is_some (slice_get sorts place)) param_places)
    (one_kept (λ (place : ℕ). is_some (slice_get sorts place)) p param_places (place_known p (within_four sorts p s few e)) there))

constant_atom : (cs : Constants) (v : Value) → IsConstant cs v → IsOneOf {X = Token × Kind} (constant_token cs v, value_kind v) (constant_atoms cs)
constant_atom cs (value.Num z) h =
    let place = place_of (value.Num z) cs.numbers in
    one_left (token.NumberConstant place, kind.Number) (map number_atom (range_with_len 0 (length cs.numbers)))
    (map name_atom (range_with_len 0 (length cs.names)) ++ (token.Truth false, kind.Truth) ∷ (token.Truth true, kind.Truth) ∷ [])
    (one_mapped number_atom place (range_with_len 0 (length cs.numbers))
    (one_counted 0 (length cs.numbers) place place (omega arith) (place_inside (value.Num z) cs.numbers h)))
constant_atom cs (value.Name code) h =
    let place = place_of (value.Name code) cs.names in
    one_right (token.NameConstant place, kind.Name) (map number_atom (range_with_len 0 (length cs.numbers)))
    (map name_atom (range_with_len 0 (length cs.names)) ++ (token.Truth false, kind.Truth) ∷ (token.Truth true, kind.Truth) ∷ [])
    (one_left (token.NameConstant place, kind.Name) (map name_atom (range_with_len 0 (length cs.names))) ((token.Truth false, kind.Truth) ∷ (token.Truth true, kind.Truth) ∷ [])
    (one_mapped name_atom place (range_with_len 0 (length cs.names))
    (one_counted 0 (length cs.names) place place (omega arith) (place_inside (value.Name code) cs.names h))))
constant_atom cs (value.Bool b) h =
    one_right (token.Truth b, kind.Truth) (map number_atom (range_with_len 0 (length cs.numbers)))
    (map name_atom (range_with_len 0 (length cs.names)) ++ (token.Truth false, kind.Truth) ∷ (token.Truth true, kind.Truth) ∷ [])
    (one_right (token.Truth b, kind.Truth) (map name_atom (range_with_len 0 (length cs.names))) ((token.Truth false, kind.Truth) ∷ (token.Truth true, kind.Truth) ∷ [])
    (truth_atom b))
  where
    truth_atom : (b : Bool) → IsOneOf {X = Token × Kind} (token.Truth b, kind.Truth) ((token.Truth false, kind.Truth) ∷ (token.Truth true, kind.Truth) ∷ [])
    truth_atom false = inl refl
    truth_atom true = inr (inl refl)

pub read_known : (cs : Constants) (sorts : List Sort) (components : List ComponentForm) (p n : ℕ) (key : Option ℕ) (c : ComponentForm) (k : Kind) → length sorts ≤ 4 → slice_get components p ≡ Some c
    → slice_get (component_kinds c) n ≡ Some k → FitsKey sorts (key_sort c) key → IsOneOf {X = Token × Kind} (token.Read p n key, k) (atoms cs sorts (map row_of components))
read_known cs sorts components p n key c k few e there fits =
    one_left (token.Read p n key, k) (row_atoms sorts 0 (map row_of components)) (argument_atoms sorts ++ constant_atoms cs)
    (one_row_atom sorts 0 (map row_of components) p n p (row_of c) k key (row_there components p c e) (ap (λ (kinds : List Kind). slice_get kinds n) (row_kinds c) ∙ there)
    (keys_known sorts (row_of c).key key few (subst (λ (s : Option Sort). FitsKey sorts s key) (sym (row_key c)) fits)) (omega arith))

pub given_atom : (cs : Constants) (sorts : List Sort) (rows : List Row) (p : ℕ) (s : Sort) → length sorts ≤ 4 → slice_get sorts p ≡ Some s → IsOneOf {X = Token × Kind} (token.Arg p, sort_kind s) (atoms cs sorts rows)
given_atom cs sorts rows p s few e =
    one_right (token.Arg p, sort_kind s) (row_atoms sorts 0 rows) (argument_atoms sorts ++ constant_atoms cs)
    (one_left (token.Arg p, sort_kind s) (argument_atoms sorts) (constant_atoms cs) (argument_atom sorts p s few e))

pub written_atom : (cs : Constants) (sorts : List Sort) (rows : List Row) (v : Value) → IsConstant cs v → IsOneOf {X = Token × Kind} (constant_token cs v, value_kind v) (atoms cs sorts rows)
written_atom cs sorts rows v h =
    one_right (constant_token cs v, value_kind v) (row_atoms sorts 0 rows) (argument_atoms sorts ++ constant_atoms cs)
    (one_right (constant_token cs v, value_kind v) (argument_atoms sorts) (constant_atoms cs) (constant_atom cs v h))

pub atom_chosen : (cs : Constants) (sorts : List Sort) (rows : List Row) (wanted : Wanted) (t : Token) (k : Kind) → IsOneOf {X = Token × Kind} (t, k) (atoms cs sorts rows) → is_wanted wanted k ≡ true
    → IsOneOf t (ask_choices cs sorts rows wanted)
atom_chosen cs sorts rows wanted t k h w =
    one_left t (map atom_token (filter (is_fit wanted) (atoms cs sorts rows))) (operators wanted)
    (one_mapped atom_token (t, k) (filter (is_fit wanted) (atoms cs sorts rows)) (one_kept (is_fit wanted) (t, k) (atoms cs sorts rows) h w))

pub operator_chosen : (cs : Constants) (sorts : List Sort) (rows : List Row) (wanted : Wanted) (t : Token) → IsOneOf t (operators wanted) → IsOneOf t (ask_choices cs sorts rows wanted)
operator_chosen cs sorts rows wanted t h =
    one_right t (map atom_token (filter (is_fit wanted) (atoms cs sorts rows))) (operators wanted) h
