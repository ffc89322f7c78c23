-- The tokens that may follow ascend at each place.
use Rattle.std.proofs.Common.{◌≡◌, ℕ, zero, suc, ◌+◌, ◌<◌, ◌≤◌, inl, inr, Bool, true, false, ◌&&◌, List, [], ◌∷◌, ◌++◌, map, length, filter, refl, sym, ap, subst, arith, Option, None, Some}
use Rattle.std.specs.Prelude.{is_some, slice_get}
use Rattle.std.specs.List.{range_with_len}
use Rattle.kat_num.specs.declared.values.Sort.{Sort}
use Rattle.kat_num.specs.declared.values.Sort.TheVariants as sort
use Rattle.kat_walk.specs.Machines.{Ascends, AscendsFrom, IsLess, IsOneOf}
use Rattle.kat_walk.proofs.Pruned.{ascend_kept, kept_one}
use Rattle.kat_walk.proofs.WordLemmas.{ascend_joined, one_cases, one_from}
use Rattle.kat_design.specs.Faults.{gives_kind, has_sort, is_weight}
use Rattle.kat_design.specs.declared.designs.Leaf.{Leaf}
use Rattle.kat_design.specs.declared.designs.Leaf.TheVariants as given
use Rattle.kat_design.specs.declared.kinds.Kind.{Kind}
use Rattle.kat_design.specs.declared.kinds.Kind.TheVariants as kind
use Rattle.kat_design.specs.declared.kinds.Wanted.{Wanted}
use Rattle.kat_design.specs.declared.kinds.Wanted.TheVariants.{Exactly, Ordered}
use Rattle.kat_machine.specs.Choices.{all_leaves, argument_atoms, argument_kind, ask_choices, atom_token, atoms, choices_for, constant_atoms, is_fit, key_choices, keyed, leaf_atoms, member, name_atom, number_atom, operators, param_places, places_of, read_atom, row_atoms}
use Rattle.kat_rules.specs.Constants.{of_kind}
use Rattle.kat_machine.specs.Grammar.{grammar, is_of, may_follow, opening_tokens, part_choices, shape_choices, sorts_of_op, sorts_of_query}
use Rattle.kat_rules.specs.Orders.{before, key_rank, leaf_place, rank}
use Rattle.kat_rules.specs.Tests.{is_less}
use Rattle.kat_rules.specs.declared.constants.Constants.{Constants}
use Rattle.kat_rules.specs.declared.constants.Setting.{Setting}
use Rattle.kat_machine.specs.declared.modes.Mode.{Mode}
use Rattle.kat_machine.specs.declared.modes.Mode.TheVariants as mode
use Rattle.kat_machine.specs.declared.modes.Place.{Place}
use Rattle.kat_machine.specs.declared.modes.Row.{Row}
use Rattle.kat_machine.specs.declared.modes.Want.{Want}
use Rattle.kat_machine.specs.declared.modes.Want.TheVariants as want
use Rattle.kat_rules.specs.declared.tokens.Token.{Token}
use Rattle.kat_rules.specs.declared.tokens.Token.TheVariants as token
use Rattle.kat_rules.proofs.Comparing.{under, and_first, and_second, less_by_test}

abbrev is_before_all : {X : Type 0} → (X → List ℕ) → X → List X → Bool
is_before_all f x [] = true
is_before_all f x (y ∷ ys) = is_less (f x) (f y) && is_before_all f x ys

abbrev is_rising : {X : Type 0} → (X → List ℕ) → List X → Bool
is_rising f [] = true
is_rising f (x ∷ xs) = is_before_all f x xs && is_rising f xs

before_by_test : {X : Type 0} (f : X → List ℕ) (x v : X) (xs : List X) → is_before_all f x xs ≡ true → IsOneOf v xs → IsLess under (f x) (f v)
before_by_test f x v [] h o = absurd o
before_by_test f x v (y ∷ ys) h (inl e) = subst (λ (z : _). IsLess under (f x) (f z)) (sym e) (less_by_test (f x) (f y) (and_first (is_less (f x) (f y)) (is_before_all f x ys) h))
before_by_test f x v (y ∷ ys) h (inr o) = before_by_test f x v ys (and_second (is_less (f x) (f y)) (is_before_all f x ys) h) o

rises_by_test : {X : Type 0} (f : X → List ℕ) (xs : List X) → is_rising f xs ≡ true → Ascends (λ (x : X) (y : X). IsLess under (f x) (f y)) xs
rises_by_test f [] h = tt
rises_by_test f (x ∷ xs) h = (
  λ v o. before_by_test f x v xs (and_first (is_before_all f x xs) (is_rising f xs) h) o,
  rises_by_test f xs (and_second (is_before_all f x xs) (is_rising f xs) h),
)

-- mapped lists
ascend_mapped : {X Y : Type 0} (f : X → Y) (less : X → X → Type 0) (above : Y → Y → Type 0) → ((a b : X) → less a b → above (f a) (f b)) → (xs : List X) → Ascends less xs → Ascends above (map f xs)
ascend_mapped f less above keeps [] a = tt
ascend_mapped f less above keeps (x ∷ xs) a = (
  λ v h. let from = one_from f v xs h in subst (λ (y : _). above (f x) y) (sym from.1) (keeps x from.0 (a.0 from.0 from.2)),
  ascend_mapped f less above keeps xs a.1,
)

-- numbers from one on
pub range_from : (a n j : ℕ) → IsOneOf j (range_with_len a n) → a ≤ j
range_from a zero j h = absurd h
range_from a (suc n) j (inl e) = omega (arith, e)
range_from a (suc n) j (inr h) = let l = range_from (a + 1) n j h in omega (arith, l)

range_rises : (a n : ℕ) → Ascends under (range_with_len a n)
range_rises a zero = tt
range_rises a (suc n) = (λ v h. let l = range_from (a + 1) n v h in omega (arith, l), range_rises (a + 1) n)

four_rise : Ascends under param_places
four_rise = (
  λ v o. elim o as (λ _. 0 < v) [ inl e ↦ omega (arith, e) | inr (inl e) ↦ omega (arith, e) | inr (inr (inl e)) ↦ omega (arith, e) | inr (inr (inr n)) ↦ absurd n ],
  (
    λ v o. elim o as (λ _. 1 < v) [ inl e ↦ omega (arith, e) | inr (inl e) ↦ omega (arith, e) | inr (inr n) ↦ absurd n ],
    (λ v o. elim o as (λ _. 2 < v) [ inl e ↦ omega (arith, e) | inr n ↦ absurd n ], (λ v o. absurd o, tt)),
  ),
)

places_rise : (s : Sort) (sorts : List Sort) → Ascends under (places_of s sorts)
places_rise s sorts = ascend_kept under (λ (place : ℕ). has_sort s (slice_get sorts place)) param_places four_rise

-- the choices for an effect
abbrev effect_rank : Leaf → List ℕ
effect_rank l = rank (token.Effect l)

leaves_rise : (p : Leaf → Bool) → Ascends before (map token.Effect (filter p all_leaves))
leaves_rise p =
    ascend_mapped token.Effect (λ (a : Leaf) (b : Leaf). IsLess under (effect_rank a) (effect_rank b)) before (λ a b h. h) (filter p all_leaves)
    (ascend_kept (λ (a : Leaf) (b : Leaf). IsLess under (effect_rank a) (effect_rank b)) p all_leaves (rises_by_test effect_rank all_leaves refl))

choices_rise : (sorts : List Sort) (w : Want) → Ascends before (choices_for sorts w)
choices_rise sorts (want.Key s) = ascend_mapped token.At under before (λ a b h. inr (refl, inr (refl, inl h))) (places_of s sorts) (places_rise s sorts)
choices_rise sorts (want.Member s) = ascend_mapped member under before (λ a b h. inr (refl, inr (refl, inl h))) (places_of s sorts) (places_rise s sorts)
choices_rise sorts (want.Leaf k) = leaves_rise (λ (l : Leaf). gives_kind sorts l k)
choices_rise sorts want.Weight = leaves_rise (is_weight sorts)

some_place : (l : Leaf) → 0 < leaf_place l
some_place (given.Arg p) = omega arith
some_place given.Time = omega arith
some_place given.Replica = omega arith
some_place given.Zero = omega arith
some_place given.One = omega arith
some_place (given.Pos p) = omega arith
some_place (given.Neg p) = omega arith
some_place given.False = omega arith
some_place given.True = omega arith

nothing_before : (sorts : List Sort) (w : Want) (t : Token) → IsOneOf t (choices_for sorts w) → before token.Nothing t
nothing_before sorts (want.Key s) t h = let f = one_from token.At t (places_of s sorts) h in subst (λ (u : Token). before token.Nothing u) (sym f.1) (inr (refl, inl (omega arith)))
nothing_before sorts (want.Member s) t h = let f = one_from member t (places_of s sorts) h in subst (λ (u : Token). before token.Nothing u) (sym f.1) (inr (refl, inl (omega arith)))
nothing_before sorts (want.Leaf k) t h =
    let f = one_from token.Effect t (filter (λ (l : Leaf). gives_kind sorts l k) all_leaves) h in subst (λ (u : Token). before token.Nothing u) (sym f.1) (inr (refl, inl (some_place f.0)))
nothing_before sorts want.Weight t h = let f = one_from token.Effect t (filter (is_weight sorts) all_leaves) h in subst (λ (u : Token). before token.Nothing u) (sym f.1) (inr (refl, inl (some_place f.0)))

parts_rise : (sorts : List Sort) (wants : List Want) → Ascends before (part_choices sorts wants)
parts_rise sorts [] = tt
parts_rise sorts (w ∷ wants) = choices_rise sorts w

effects_rise : (sorts : List Sort) (wants : List Want) → Ascends before (token.Nothing ∷ part_choices sorts wants)
effects_rise sorts [] = (λ v h. absurd h, tt)
effects_rise sorts (w ∷ wants) = (λ t h. nothing_before sorts w t h, choices_rise sorts w)

-- the atoms of an ask
abbrev atoms_before : Token × Kind → Token × Kind → Type 0
atoms_before a b = before a.0 b.0

-- a token of an ask, with the number of its row among them
abbrev IsIn : ℕ → Token → Type 0
IsIn i t = (rest : List ℕ) × (rank t ≡ 5 ∷ i ∷ rest)

by_row : (i j : ℕ) (t u : Token) → IsIn i t → IsIn j u → i < j → before t u
by_row i j t u h k l = rw (h.1, k.1) (inr (refl, inl l))

keys_rise : (sorts : List Sort) (o : Option Sort) → Ascends (λ (a : Option ℕ) (b : Option ℕ). key_rank a < key_rank b) (key_choices sorts o)
keys_rise sorts None = (λ v h. absurd h, tt)
keys_rise sorts (Some s) = ascend_mapped keyed under (λ (a : Option ℕ) (b : Option ℕ). key_rank a < key_rank b) (λ a b h. omega (arith, h)) (places_of s sorts) (places_rise s sorts)

leaf_read : (keys : List (Option ℕ)) (c l : ℕ) (kinds : List Kind) (a : Token × Kind) → IsOneOf a (leaf_atoms keys c l kinds) → (place : ℕ) × (key : Option ℕ) × (a.0 ≡ token.Read c place key) × (l ≤ place)
leaf_read keys c l [] a h = absurd h
leaf_read keys c l (k ∷ kinds) a h =
    elim (one_cases a (map (read_atom c l k) keys) (leaf_atoms keys c (suc l) kinds) h) as (λ _. (place : ℕ) × (key : Option ℕ) × (a.0 ≡ token.Read c place key) × (l ≤ place)) [
      | inl i ↦ (let f = one_from (read_atom c l k) a keys i in (l, f.0, ap (λ (b : Token × Kind). b.0) f.1, omega arith))
      | inr i ↦ (let f = leaf_read keys c (suc l) kinds a i in (f.0, f.1, f.2, omega (arith, f.3)))
    ]

reads_rise : (keys : List (Option ℕ)) (c l : ℕ) (kinds : List Kind) → Ascends (λ (a : Option ℕ) (b : Option ℕ). key_rank a < key_rank b) keys → Ascends atoms_before (leaf_atoms keys c l kinds)
reads_rise keys c l [] h = tt
reads_rise keys c l (k ∷ kinds) h =
    ascend_joined atoms_before (map (read_atom c l k) keys) (leaf_atoms keys c (suc l) kinds)
    (ascend_mapped (read_atom c l k) (λ (a : Option ℕ) (b : Option ℕ). key_rank a < key_rank b) atoms_before (λ a b g. inr (refl, inr (refl, inr (refl, inr (refl, inl g))))) keys h)
    (reads_rise keys c (suc l) kinds h)
    (λ a b p q.
    let f = one_from (read_atom c l k) a keys p in
    let g = leaf_read keys c (suc l) kinds b q in
    let e : a.0 ≡ token.Read c l f.0 = ap (λ (x : Token × Kind). x.0) f.1 in
    rw (e, g.2) (inr (refl, inr (refl, inr (refl, inl (omega (arith, g.3)))))))

row_read : (sorts : List Sort) (c : ℕ) (rows : List Row) (a : Token × Kind) → IsOneOf a (row_atoms sorts c rows) → (component : ℕ) × (place : ℕ) × (key : Option ℕ) × (a.0 ≡ token.Read component place key) × (c ≤ component)
row_read sorts c [] a h = absurd h
row_read sorts c (row ∷ rows) a h =
    elim (one_cases a (leaf_atoms (key_choices sorts row.key) c 0 row.kinds) (row_atoms sorts (suc c) rows) h) as (λ _. (component : ℕ) × (place : ℕ) × (key : Option ℕ) × (a.0 ≡ token.Read component place key) × (c ≤ component)) [
      | inl i ↦ (let f = leaf_read (key_choices sorts row.key) c 0 row.kinds a i in (c, f.0, f.1, f.2, omega arith))
      | inr i ↦ (let f = row_read sorts (suc c) rows a i in (f.0, f.1, f.2, f.3, omega (arith, f.4)))
    ]

rows_rise : (sorts : List Sort) (c : ℕ) (rows : List Row) → Ascends atoms_before (row_atoms sorts c rows)
rows_rise sorts c [] = tt
rows_rise sorts c (row ∷ rows) =
    ascend_joined atoms_before (leaf_atoms (key_choices sorts row.key) c 0 row.kinds) (row_atoms sorts (suc c) rows)
    (reads_rise (key_choices sorts row.key) c 0 row.kinds (keys_rise sorts row.key)) (rows_rise sorts (suc c) rows)
    (λ a b p q.
    let f = leaf_read (key_choices sorts row.key) c 0 row.kinds a p in
    let g = row_read sorts (suc c) rows b q in
    rw (f.2, g.3) (inr (refl, inr (refl, inl (omega (arith, g.4))))))

in_rows : (sorts : List Sort) (rows : List Row) (a : Token × Kind) → IsOneOf a (row_atoms sorts 0 rows) → IsIn 0 a.0
in_rows sorts rows a h = let f = row_read sorts 0 rows a h in (f.0 ∷ f.1 ∷ key_rank f.2 ∷ [], ap rank f.3)

in_arguments : (sorts : List Sort) (a : Token × Kind) → IsOneOf a (argument_atoms sorts) → IsIn 1 a.0
in_arguments sorts a h =
    let f = one_from (λ (place : ℕ). (token.Arg place, argument_kind (slice_get sorts place))) a (filter (λ (place : ℕ). is_some (slice_get sorts place)) param_places) h in
    (f.0 ∷ 0 ∷ 0 ∷ [], ap (λ (x : Token × Kind). rank x.0) f.1)

in_numbers : (n : ℕ) (a : Token × Kind) → IsOneOf a (map number_atom (range_with_len 0 n)) → IsIn 2 a.0
in_numbers n a h = let f = one_from number_atom a (range_with_len 0 n) h in (f.0 ∷ 0 ∷ 0 ∷ [], ap (λ (x : Token × Kind). rank x.0) f.1)

in_names : (n : ℕ) (a : Token × Kind) → IsOneOf a (map name_atom (range_with_len 0 n)) → IsIn 3 a.0
in_names n a h = let f = one_from name_atom a (range_with_len 0 n) h in (f.0 ∷ 0 ∷ 0 ∷ [], ap (λ (x : Token × Kind). rank x.0) f.1)

abbrev truths : List (Token × Kind)
truths = (token.Truth false, kind.Truth) ∷ (token.Truth true, kind.Truth) ∷ []

in_truths : (a : Token × Kind) → IsOneOf a truths → IsIn 4 a.0
in_truths a (inl e) = (0 ∷ 0 ∷ 0 ∷ [], ap (λ (x : Token × Kind). rank x.0) e)
in_truths a (inr (inl e)) = (1 ∷ 0 ∷ 0 ∷ [], ap (λ (x : Token × Kind). rank x.0) e)
in_truths a (inr (inr h)) = absurd h

-- in one of the rows from a number on, below another
abbrev IsWithin : ℕ → ℕ → Token → Type 0
IsWithin low high t = (i : ℕ) × IsIn i t × (low ≤ i) × (i < high)

within_before : (a b : Token) (low high mid : ℕ) → IsWithin low mid a → IsWithin mid high b → before a b
within_before a b low high mid h k = by_row h.0 k.0 a b h.1 k.1 (omega (arith, h.3, k.2))

within_constants : (cs : Constants) (a : Token × Kind) → IsOneOf a (constant_atoms cs) → IsWithin 2 5 a.0
within_constants cs a h =
    elim (one_cases a (map number_atom (range_with_len 0 (length cs.numbers))) (map name_atom (range_with_len 0 (length cs.names)) ++ truths) h) as (λ _. IsWithin 2 5 a.0) [
      | inl i ↦ (2, in_numbers (length cs.numbers) a i, omega arith, omega arith)
      | inr i ↦
          elim (one_cases a (map name_atom (range_with_len 0 (length cs.names))) truths i) as (λ _. IsWithin 2 5 a.0) [
            | inl j ↦ (3, in_names (length cs.names) a j, omega arith, omega arith)
            | inr j ↦ (4, in_truths a j, omega arith, omega arith)
          ]
    ]

within_given : (cs : Constants) (sorts : List Sort) (a : Token × Kind) → IsOneOf a (argument_atoms sorts ++ constant_atoms cs) → IsWithin 1 5 a.0
within_given cs sorts a h =
    elim (one_cases a (argument_atoms sorts) (constant_atoms cs) h) as (λ _. IsWithin 1 5 a.0) [
      | inl i ↦ (1, in_arguments sorts a i, omega arith, omega arith)
      | inr i ↦ (let w = within_constants cs a i in (w.0, w.1, omega (arith, w.2), w.3))
    ]

within_atoms : (cs : Constants) (sorts : List Sort) (rows : List Row) (a : Token × Kind) → IsOneOf a (atoms cs sorts rows) → IsWithin 0 5 a.0
within_atoms cs sorts rows a h =
    elim (one_cases a (row_atoms sorts 0 rows) (argument_atoms sorts ++ constant_atoms cs) h) as (λ _. IsWithin 0 5 a.0) [
      | inl i ↦ (0, in_rows sorts rows a i, omega arith, omega arith)
      | inr i ↦ (let w = within_given cs sorts a i in (w.0, w.1, omega arith, w.3))
    ]

truths_rise : Ascends atoms_before truths
truths_rise = rises_by_test (λ (a : Token × Kind). rank a.0) truths refl

names_rise : (n : ℕ) → Ascends atoms_before (map name_atom (range_with_len 0 n) ++ truths)
names_rise n =
    ascend_joined atoms_before (map name_atom (range_with_len 0 n)) truths
    (ascend_mapped name_atom under atoms_before (λ a b h. inr (refl, inr (refl, inl h))) (range_with_len 0 n) (range_rises 0 n)) truths_rise
    (λ a b p q. by_row 3 4 a.0 b.0 (in_names n a p) (in_truths b q) (omega arith))

constants_rise : (cs : Constants) → Ascends atoms_before (constant_atoms cs)
constants_rise cs =
    ascend_joined atoms_before (map number_atom (range_with_len 0 (length cs.numbers))) (map name_atom (range_with_len 0 (length cs.names)) ++ truths)
    (ascend_mapped number_atom under atoms_before (λ a b h. inr (refl, inr (refl, inl h))) (range_with_len 0 (length cs.numbers)) (range_rises 0 (length cs.numbers))) (names_rise (length cs.names))
    (λ a b p q.
    elim (one_cases b (map name_atom (range_with_len 0 (length cs.names))) truths q) as (λ _. atoms_before a b) [
      | inl j ↦ by_row 2 3 a.0 b.0 (in_numbers (length cs.numbers) a p) (in_names (length cs.names) b j) (omega arith)
      | inr j ↦ by_row 2 4 a.0 b.0 (in_numbers (length cs.numbers) a p) (in_truths b j) (omega arith)
    ])

arguments_rise : (sorts : List Sort) → Ascends atoms_before (argument_atoms sorts)
arguments_rise sorts =
    ascend_mapped (λ (place : ℕ). (token.Arg place, argument_kind (slice_get sorts place))) under atoms_before (λ a b h. inr (refl, inr (refl, inl h)))
    (filter (λ (place : ℕ). is_some (slice_get sorts place)) param_places) (ascend_kept under (λ (place : ℕ). is_some (slice_get sorts place)) param_places four_rise)

atoms_rise : (cs : Constants) (sorts : List Sort) (rows : List Row) → Ascends atoms_before (atoms cs sorts rows)
atoms_rise cs sorts rows =
    ascend_joined atoms_before (row_atoms sorts 0 rows) (argument_atoms sorts ++ constant_atoms cs) (rows_rise sorts 0 rows)
    (ascend_joined atoms_before (argument_atoms sorts) (constant_atoms cs) (arguments_rise sorts) (constants_rise cs)
    (λ a b p q. within_before a.0 b.0 1 5 2 (1, in_arguments sorts a p, omega arith, omega arith) (within_constants cs b q)))
    (λ a b p q. within_before a.0 b.0 0 5 1 (0, in_rows sorts rows a p, omega arith, omega arith) (within_given cs sorts b q))

within_operators : (w : Wanted) (t : Token) → IsOneOf t (operators w) → IsWithin 5 11 t
within_operators (Exactly kind.Truth) t (inl e) = (5, (0 ∷ 0 ∷ 0 ∷ [], ap rank e), omega arith, omega arith)
within_operators (Exactly kind.Truth) t (inr (inl e)) = (6, (0 ∷ 0 ∷ 0 ∷ [], ap rank e), omega arith, omega arith)
within_operators (Exactly kind.Truth) t (inr (inr (inl e))) = (7, (0 ∷ 0 ∷ 0 ∷ [], ap rank e), omega arith, omega arith)
within_operators (Exactly kind.Truth) t (inr (inr (inr (inl e)))) = (8, (0 ∷ 0 ∷ 0 ∷ [], ap rank e), omega arith, omega arith)
within_operators (Exactly kind.Truth) t (inr (inr (inr (inr h)))) = absurd h
within_operators (Exactly kind.Number) t (inl e) = (9, (0 ∷ 0 ∷ 0 ∷ [], ap rank e), omega arith, omega arith)
within_operators (Exactly kind.Number) t (inr (inl e)) = (10, (0 ∷ 0 ∷ 0 ∷ [], ap rank e), omega arith, omega arith)
within_operators (Exactly kind.Number) t (inr (inr h)) = absurd h
within_operators (Exactly kind.Name) t h = absurd h
within_operators Ordered t (inl e) = (9, (0 ∷ 0 ∷ 0 ∷ [], ap rank e), omega arith, omega arith)
within_operators Ordered t (inr (inl e)) = (10, (0 ∷ 0 ∷ 0 ∷ [], ap rank e), omega arith, omega arith)
within_operators Ordered t (inr (inr h)) = absurd h

operators_rise : (w : Wanted) → Ascends before (operators w)
operators_rise (Exactly kind.Truth) = rises_by_test rank (operators (Exactly kind.Truth)) refl
operators_rise (Exactly kind.Number) = rises_by_test rank (operators (Exactly kind.Number)) refl
operators_rise (Exactly kind.Name) = tt
operators_rise Ordered = rises_by_test rank (operators Ordered) refl

asks_rise : (cs : Constants) (sorts : List Sort) (rows : List Row) (w : Wanted) → Ascends before (ask_choices cs sorts rows w)
asks_rise cs sorts rows w =
    ascend_joined before (map atom_token (filter (is_fit w) (atoms cs sorts rows))) (operators w)
    (ascend_mapped atom_token atoms_before before (λ a b h. h) (filter (is_fit w) (atoms cs sorts rows)) (ascend_kept atoms_before (is_fit w) (atoms cs sorts rows) (atoms_rise cs sorts rows)))
    (operators_rise w)
    (λ t u p q.
    let f = one_from atom_token t (filter (is_fit w) (atoms cs sorts rows)) p in
    let g = within_atoms cs sorts rows f.0 (kept_one (is_fit w) f.0 (atoms cs sorts rows) f.2) in
    within_before t u 0 11 5 (subst (λ (x : Token). IsWithin 0 5 x) (sym f.1) g) (within_operators w u q))

-- each mode
shapes_rise : (chains : List Bool) → Ascends before (shape_choices chains)
shapes_rise [] = tt
shapes_rise (true ∷ chains) = rises_by_test rank (shape_choices (true ∷ [])) refl
shapes_rise (false ∷ chains) = rises_by_test rank (shape_choices (false ∷ [])) refl

follow_rise : (x : Setting) (m : Mode) (rows : List Row) → Ascends before (may_follow x m rows)
follow_rise x mode.Opening rows = ascend_kept before (is_of x.kinds) opening_tokens (rises_by_test rank opening_tokens refl)
follow_rise x (mode.Keying k) rows = rises_by_test rank (token.Keys sort.Int ∷ token.Keys sort.Nat ∷ token.Keys sort.Name ∷ []) refl
follow_rise x (mode.Shaping key chains kinds) rows = shapes_rise chains
follow_rise x (mode.Starting row []) rows = tt
follow_rise x (mode.Starting row (k ∷ kinds)) rows =
    ascend_mapped token.Start under before (λ a b h. inr (refl, inl h)) (range_with_len 0 (length (of_kind x.constants k))) (range_rises 0 (length (of_kind x.constants k)))
follow_rise x (mode.Effecting row left) rows = effects_rise (sorts_of_op x left) row.wants
follow_rise x (mode.Filling row left todo) rows = parts_rise (sorts_of_op x left) todo
follow_rise x (mode.Asking [] left) rows = tt
follow_rise x (mode.Asking (w ∷ wants) left) rows = asks_rise x.constants (sorts_of_query x left) rows w
follow_rise x mode.Finished rows = tt
follow_rise x mode.Nowhere rows = tt

-- the tokens that may follow ascend
pub choices_ascend : (x : Setting) → AscendsFrom before (grammar x) (λ (p : Place). Unit {0})
choices_ascend x = record { keeps = λ s t h. tt; ascends = λ s h. follow_rise x s.mode s.rows }
