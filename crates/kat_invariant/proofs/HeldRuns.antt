-- What is held after operations is what their denotation holds.
use Rattle.std.proofs.Common.{◌≡◌, ◌≢◌, ℕ, zero, suc, ◌+◌, pos, ◌+ℤ◌, Bool, true, false, ◌||◌, ◌==◌, if◌then◌else◌, List, [], ◌∷◌, ◌++◌, map, Option, Some, None, option_map, refl, sym, ap, subst, ◌∙◌, arith}
use Rattle.std.specs.Prelude.{filter, slice_get}
use Rattle.std.specs.List.{list_any}
use Rattle.std.specs.Cmp.{IsTotalOrder}
use Rattle.std.specs.Ordering.{is_eq, nat_cmp}
use Rattle.std.specs.declared.cmp.Ordering.{Ordering}
use Rattle.std.specs.declared.cmp.Ordering.TheVariants.{Less, Equal, Greater}
use Rattle.std.proofs.lemmas.Bool.{eqb-true}
use Rattle.std.proofs.lemmas.Bool.Decides.{Decides-eqb, Decides-int_eq}
use Rattle.std.proofs.lemmas.Cmp.{tied_itself}
use Rattle.std.proofs.lemmas.Int.{ints}
use Rattle.kat_num.specs.Orders.{value_order}
use Rattle.kat_num.specs.Values.{HasSort}
use Rattle.kat_num.specs.declared.values.Sort.{Sort}
use Rattle.kat_num.specs.declared.values.Sort.TheVariants as sort
use Rattle.kat_num.specs.declared.values.Value.{Value}
use Rattle.kat_num.specs.declared.values.Value.TheVariants as value
use Rattle.kat_expr.specs.Entries.{IsKey}
use Rattle.kat_expr.specs.Slots.{absent, argument, is_same}
use Rattle.kat_lattice.specs.Maps.{at_key}
use Rattle.kat_lattice.specs.Sets.{TellsApart, has_key}
use Rattle.kat_lattice.specs.Tallies.{IsTally, Sums, sum_of, total_of}
use Rattle.kat_lattice.proofs.Totals.{totals_grow}
use Rattle.kat_shape.specs.Forms.{CellForm, IsGoodForm}
use Rattle.kat_shape.specs.Values.{Filled, joined}
use Rattle.kat_type.specs.Types.{TypeForm}
use Rattle.kat_type.specs.declared.done.Done.{Done}
use Rattle.kat_type.specs.declared.signatures.OpSig.{OpSig}
use Rattle.kat_design.specs.Denotations.{added_key, bumped_key, cell_added, component_meaning, keyed_weight, part_of, table_effects, tally_weight, weight_of}
use Rattle.kat_design.specs.Designs.{ComponentForm, DesignForm}
use Rattle.kat_design.specs.Designs.ComponentForm.{a_cell, a_table, a_set, a_tally, tallies}
use Rattle.kat_design.specs.Effects.{cell_effects, effect_of, set_effects, cell_effect}
use Rattle.kat_design.specs.KeyedTallies.{table_of, weight_at}
use Rattle.kat_design.specs.Kinds.{key_sort}
use Rattle.kat_design.specs.Meanings.{denotation, states_of}
use Rattle.kat_design.specs.Readings.{given_at as given_ones, is_given, key_of_effect, leaves_given}
use Rattle.kat_design.specs.Sorted.{IsComponent, IsWellSorted}
use Rattle.kat_design.specs.Tallied.{bumped, tally_of}
use Rattle.kat_design.specs.declared.designs.Leaf.{Leaf}
use Rattle.kat_design.specs.declared.states.Part.TheVariants as part
use Rattle.kat_design.proofs.Instances.{cells_mean}
use Rattle.kat_design.proofs.KeyedTallying.{table_reads}
use Rattle.kat_design.proofs.Reading.{sets_have_added, tables_are_cells}
use Rattle.kat_design.proofs.Tallies.{bumped_is, sum_bumped, tallies_mean, tally_is}
use Rattle.kat_design.proofs.WholeDesigns.{component_means}
use Rattle.kat_invariant.specs.Asked.{part_held}
use Rattle.kat_invariant.specs.Runs.{DenotationsAreHeld, IsKeyFor, behind}
use Rattle.kat_invariant.specs.Situations.{Held, Situation, after, given_at, held_after, held_start, is_added, part_after, start_of, starts_of}
use Rattle.kat_invariant.specs.Situations.Held.{cell, member, total}
use Rattle.kat_invariant.proofs.Meaning.{component_is}
use Rattle.std.specs.Option.{option_flatten}

-- keys compare equal if they are the same
same_is_one : (u v : Value) → is_same u v ≡ true → u ≡ v
same_is_one (value.Num x) (value.Num y) e = ap value.Num ((Decides-int_eq x y).0 e)
same_is_one (value.Name x) (value.Name y) e = ap value.Name (eqb-true x y e)
same_is_one (value.Num x) (value.Name y) e = absurd (cc)
same_is_one (value.Num x) (value.Bool y) e = absurd (cc)
same_is_one (value.Name x) (value.Num y) e = absurd (cc)
same_is_one (value.Name x) (value.Bool y) e = absurd (cc)
same_is_one (value.Bool x) v e = absurd (cc)

key_itself : (u : Value) → IsKey u → is_same u u ≡ true
key_itself (value.Num x) h = (Decides-int_eq x x).1 refl
key_itself (value.Name x) h = (Decides-eqb x x).1 refl
key_itself (value.Bool x) h = absurd h

tied : (o : Ordering) → is_eq o ≡ true → o ≡ Equal
tied Equal e = refl
tied Less e = absurd (cc)
tied Greater e = absurd (cc)

module _ (ordered : IsTotalOrder value_order) (tells : TellsApart value_order) where
  keys_tied : (u v : Value) → IsKey u → is_eq (value_order u v) ≡ is_same u v
  keys_tied u v h = by_test (is_eq (value_order u v)) refl
    where
      not_same : is_eq (value_order u v) ≡ false → (b : Bool) → is_same u v ≡ b → b ≡ false
      not_same e true s =
          let one : u ≡ v = same_is_one u v s in
          let itself : is_eq (value_order u v) ≡ true = ap is_eq (subst (λ x. value_order u x ≡ Equal) one (tied_itself ordered u)) in
          absurd (let both : true ≡ false = sym itself ∙ e in cc)
      not_same e false s = refl

      by_test : (b : Bool) → is_eq (value_order u v) ≡ b → is_eq (value_order u v) ≡ is_same u v
      by_test true e = e ∙ sym (subst (λ x. is_same u x ≡ true) (tells u v (tied (value_order u v) e)) (key_itself u h))
      by_test false e = e ∙ sym (not_same e (is_same u v) refl)

  -- one operation more, after the others
  filter_last : {X : Type 0} (p : X → Bool) (xs : List X) (x : X) → filter p (xs ++ x ∷ []) ≡ (if p x then filter p xs ++ x ∷ [] else filter p xs)
  filter_last p [] x = by_test (p x)
    where
      by_test : (b : Bool) → (if b then x ∷ [] else []) ≡ (if b then [] ++ x ∷ [] else [])
      by_test true = refl
      by_test false = refl
  filter_last p (y ∷ xs) x = by_test (p y) (p x) (filter_last p xs x)
    where
      by_test : (b c : Bool) → filter p (xs ++ x ∷ []) ≡ (if c then filter p xs ++ x ∷ [] else filter p xs)
          → (if b then y ∷ filter p (xs ++ x ∷ []) else filter p (xs ++ x ∷ [])) ≡ (if c then (if b then y ∷ filter p xs else filter p xs) ++ x ∷ [] else (if b then y ∷ filter p xs else filter p xs))
      by_test true true h = ap (λ zs. y ∷ zs) h
      by_test true false h = ap (λ zs. y ∷ zs) h
      by_test false true h = h
      by_test false false h = h

  any_last : (p : Done → Bool) (xs : List Done) (x : Done) → list_any p (xs ++ x ∷ []) ≡ (list_any p xs || p x)
  any_last p [] x = or_false (p x)
    where
      or_false : (b : Bool) → (b || false) ≡ (false || b)
      or_false true = refl
      or_false false = refl
  any_last p (y ∷ xs) x = ap (λ b. p y || b) (any_last p xs x) ∙ grouped (p y) (list_any p xs) (p x)
    where
      grouped : (a b c : Bool) → (a || (b || c)) ≡ ((a || b) || c)
      grouped true b c = refl
      grouped false b c = refl

  -- cells
  cell_step : (ops : List OpSig) (shape : CellForm) (starts : List Value) (effects : List (Option (List Leaf))) (xs : List Done) (one : Done) → IsComponent ops (a_cell shape starts effects)
      → cell_added shape (denotation (cell_effects shape starts effects) xs) (effect_of effects one) one ≡ denotation (cell_effects shape starts effects) (xs ++ one ∷ [])
  cell_step ops shape starts effects xs one good = in_cell _ _ ((component_means ordered tells ops (a_cell shape starts effects) good).adds xs one)
    where
      in_cell : (a b : Filled) → part.Cell a ≡ part.Cell b → a ≡ b
      in_cell a b e = cc

  -- tables
  given_effect : (effects : List (Option (ℕ × List Leaf))) (one : Done) → effect_of (leaves_given effects) one ≡ option_map (λ (e : ℕ × List Leaf). e.1) (effect_of effects one)
  given_effect effects one = at_place effects one.op
    where
      at_place : (es : List (Option (ℕ × List Leaf))) (n : ℕ) → option_flatten (slice_get (leaves_given es) n) ≡ option_map (λ (e : ℕ × List Leaf). e.1) (option_flatten (slice_get es n))
      at_place [] n = refl
      at_place (None ∷ es) zero = refl
      at_place (Some e ∷ es) zero = refl
      at_place (e ∷ es) (suc n) = at_place es n

  table_cell : (shape : CellForm) (starts : List Value) (effects : List (Option (ℕ × List Leaf))) (key : Value) (ys : List Done) (one : Done) (e : Option (ℕ × List Leaf)) → IsGoodForm shape → IsKey key
      → effect_of effects one ≡ e
      → denotation (cell_effects shape starts (leaves_given effects)) (if is_given key (option_map (λ (x : ℕ × List Leaf). argument one.args x.0) e) then ys ++ one ∷ [] else ys)
      ≡ cell_added shape (denotation (cell_effects shape starts (leaves_given effects)) ys) (given_at key one e) one
  table_cell shape starts effects key ys one None good h is = refl
  table_cell shape starts effects key ys one (Some effect) good h is =
      ap (λ b. denotation (cell_effects shape starts (leaves_given effects)) (if b then ys ++ one ∷ [] else ys)) (keys_tied key (argument one.args effect.0) h) ∙ by_test (is_same key (argument one.args effect.0))
    where
      added_is : cell_added shape (denotation (cell_effects shape starts (leaves_given effects)) ys) (Some effect.1) one ≡ denotation (cell_effects shape starts (leaves_given effects)) (ys ++ one ∷ [])
      added_is = ap (λ o. joined (denotation (cell_effects shape starts (leaves_given effects)) ys) (cell_effect shape starts o one)) (sym (given_effect effects one ∙ ap (option_map (λ (x : ℕ × List Leaf). x.1)) is)) ∙ (cells_mean shape starts (leaves_given effects) good).adds ys one

      by_test : (b : Bool) → denotation (cell_effects shape starts (leaves_given effects)) (if b then ys ++ one ∷ [] else ys)
          ≡ cell_added shape (denotation (cell_effects shape starts (leaves_given effects)) ys) (if b then Some effect.1 else None) one
      by_test true = sym added_is
      by_test false = refl

  table_step : (shape : CellForm) (starts : List Value) (effects : List (Option (ℕ × List Leaf))) (key : Value) (xs : List Done) (one : Done) → IsGoodForm shape → IsKey key
      → cell_added shape (at_key value_order (denotation (table_effects shape starts effects) xs) key) (given_at key one (effect_of effects one)) one ≡ at_key value_order (denotation (table_effects shape starts effects) (xs ++ one ∷ [])) key
  table_step shape starts effects key xs one good h =
      let ys = given_ones (key_of_effect effects) key xs in
      let all = tables_are_cells ordered tells shape starts effects (xs ++ one ∷ []) key good in
      let before = tables_are_cells ordered tells shape starts effects xs key good in
      sym (all
      ∙ ap (denotation (cell_effects shape starts (leaves_given effects))) (filter_last (λ x. is_given key (key_of_effect effects x)) xs one)
      ∙ table_cell shape starts effects key ys one (effect_of effects one) good h refl
      ∙ ap (λ c. cell_added shape c (given_at key one (effect_of effects one)) one) (sym before))

  -- sets
  set_given : (key : Value) (e : Option ℕ) (one : Done) → IsKey key → is_given key (option_map (argument one.args) e) ≡ is_added key one e
  set_given key None one h = refl
  set_given key (Some j) one h = keys_tied key (argument one.args j) h

  set_step : (effects : List (Option ℕ)) (key : Value) (xs : List Done) (one : Done) → IsKey key
      → (has_key value_order key (denotation (set_effects value_order (added_key effects)) xs) || is_added key one (effect_of effects one)) ≡ has_key value_order key (denotation (set_effects value_order (added_key effects)) (xs ++ one ∷ []))
  set_step effects key xs one h =
      sym (sets_have_added ordered tells effects (xs ++ one ∷ []) key ∙ any_last (λ x. is_given key (added_key effects x)) xs one
      ∙ rw (sym (sets_have_added ordered tells effects xs key), set_given key (effect_of effects one) one h) refl)

  -- tallies
  grown : (sums : Sums) (replica w : ℕ) → IsTally sums → total_of (bumped sums replica w) ≡ total_of sums + w
  grown sums replica w h = totals_grow sums (bumped sums replica w) replica w h (bumped_is sums replica w h) (record { here = here; elsewhere = elsewhere })
    where
      itself : (replica == replica) ≡ true
      itself = (Decides-eqb replica replica).1 refl

      here : sum_of (bumped sums replica w) replica ≡ sum_of sums replica + w
      here = sum_bumped sums replica w replica h ∙ rw itself (omega arith)

      apart : (other : ℕ) → is_eq (nat_cmp other replica) ≡ false → (replica == other) ≡ false
      apart other e = grind arith

      elsewhere : (other : ℕ) → is_eq (nat_cmp other replica) ≡ false → sum_of (bumped sums replica w) other ≡ sum_of sums other
      elsewhere other e = sum_bumped sums replica w other h ∙ rw (apart other e) (omega arith)

  tally_step : (weight : Done → ℕ) (xs : List Done) (one : Done) → total_of (tally_of weight (xs ++ one ∷ [])) ≡ total_of (tally_of weight xs) + weight one
  tally_step weight xs one = ap total_of (sym ((tallies_mean weight).adds xs one)) ∙ grown (tally_of weight xs) one.replica (weight one) (tally_is weight xs)

  whole_sum : (a b n : ℕ) → a ≡ b + n → pos b +ℤ pos n ≡ pos a
  whole_sum a b n e = omega (arith, ints, e)

  keyed_given : (effects : List (Option (ℕ × Leaf))) (key : Value) (one : Done) (e : Option (ℕ × Leaf)) → effect_of effects one ≡ e → IsKey key → weight_at value_order (bumped_key effects) (keyed_weight effects) key one ≡ weight_of (given_at key one e) one
  keyed_given effects key one None is h = rw is (none (is_eq (value_order key absent)))
    where
      none : (b : Bool) → ◌≡◌ {A = ℕ} (if b then 0 else 0) 0
      none true = refl
      none false = refl
  keyed_given effects key one (Some effect) is h = rw (is, keys_tied key (argument one.args effect.0) h) (some (is_same key (argument one.args effect.0)))
    where
      some : (b : Bool) → (if b then weight_of (Some effect.1) one else 0) ≡ weight_of (if b then Some effect.1 else None) one
      some true = refl
      some false = refl

  tallies_step : (effects : List (Option (ℕ × Leaf))) (key : Value) (xs : List Done) (one : Done) → IsKey key
      → total_of (at_key value_order (table_of value_order (bumped_key effects) (keyed_weight effects) (xs ++ one ∷ [])) key) ≡ total_of (at_key value_order (table_of value_order (bumped_key effects) (keyed_weight effects) xs) key) + weight_of (given_at key one (effect_of effects one)) one
  tallies_step effects key xs one h =
      let weight = weight_at value_order (bumped_key effects) (keyed_weight effects) key in
      ap total_of (table_reads ordered tells (bumped_key effects) (keyed_weight effects) (xs ++ one ∷ []) key) ∙ tally_step weight xs one
      ∙ rw (sym (table_reads ordered tells (bumped_key effects) (keyed_weight effects) xs key), keyed_given effects key one (effect_of effects one) refl h) refl

  key_is : (s : Sort) (v : Value) → s ≢ sort.Bool → HasSort s v → IsKey v
  key_is sort.Bool v n h = absurd (n refl)
  key_is sort.Int (value.Num z) n h = tt
  key_is sort.Int (value.Bool z) n h = absurd h
  key_is sort.Int (value.Name z) n h = absurd h
  key_is sort.Nat (value.Num z) n h = tt
  key_is sort.Nat (value.Bool z) n h = absurd h
  key_is sort.Nat (value.Name z) n h = absurd h
  key_is sort.Name (value.Name z) n h = tt
  key_is sort.Name (value.Bool z) n h = absurd h
  key_is sort.Name (value.Num z) n h = absurd h

  abbrev part_at : ComponentForm → List Done → Value → Held
  part_at component xs key = part_held (Some (part_of component xs)) key

  held_step : (ops : List OpSig) (component : ComponentForm) (key : Value) (xs : List Done) (one : Done) → IsComponent ops component → IsKeyFor (key_sort component) key
      → held_after component one key (part_at component xs key) ≡ part_at component (xs ++ one ∷ []) key
  held_step ops (a_cell shape starts effects) key xs one good h = ap cell (cell_step ops shape starts effects xs one good)
  held_step ops (a_table q shape starts effects) key xs one good h = ap cell (table_step shape starts effects key xs one good.1 (key_is q key good.0 h))
  held_step ops (a_set q effects) key xs one good h = ap member (set_step effects key xs one (key_is q key good.0 h))
  held_step ops (a_tally effects) key xs one good h = ap total (whole_sum _ _ _ (tally_step (tally_weight effects) xs one))
  held_step ops (tallies q effects) key xs one good h = ap total (whole_sum _ _ _ (tallies_step effects key xs one (key_is q key good.0 h)))

  held_begins : (component : ComponentForm) (key : Value) → held_start component ≡ part_at component [] key
  held_begins (a_cell shape starts effects) key = refl
  held_begins (a_table q shape starts effects) key = refl
  held_begins (a_set q effects) key = refl
  held_begins (a_tally effects) key = refl
  held_begins (tallies q effects) key = refl

  append_again : (xs : List Done) (one : Done) (ys : List Done) → (xs ++ one ∷ []) ++ ys ≡ xs ++ (one ∷ ys)
  append_again [] one ys = refl
  append_again (x ∷ xs) one ys = ap (λ zs. x ∷ zs) (append_again xs one ys)

  runs_held : (ty : TypeForm) (d : DesignForm) (place : ℕ) (component : ComponentForm) (key : Value) → IsWellSorted d → slice_get d.components place ≡ Some component → IsKeyFor (key_sort component) key
      → (ys xs : List Done) (s : Situation) → s.held place key ≡ part_at component xs key → (behind ty d s ys).held place key ≡ part_at component (xs ++ ys) key
  runs_held ty d place component key sorted there h [] xs s e = e ∙ ap (λ zs. part_at component zs key) (sym (no_more xs))
    where
      no_more : (zs : List Done) → zs ++ [] ≡ zs
      no_more [] = refl
      no_more (z ∷ zs) = ap (λ w. z ∷ w) (no_more zs)
  runs_held ty d place component key sorted there h (one ∷ ys) xs s e =
      runs_held ty d place component key sorted there h ys (xs ++ one ∷ []) (after ty d one s)
      (ap (λ o. part_after o one key (s.held place key)) there ∙ ap (held_after component one key) e ∙ held_step d.sig.ops component key xs one (component_is d place component sorted there) h)
      ∙ ap (λ zs. part_at component zs key) (append_again xs one ys)

  -- the parts of a denotation
  pub part_there : (components : List ComponentForm) (ones : List Done) (place : ℕ) (component : ComponentForm) → slice_get components place ≡ Some component
      → slice_get (states_of (map component_meaning components) ones) place ≡ Some (part_of component ones)
  part_there [] ones place component e = absurd (cc)
  part_there (x ∷ components) ones zero component e = let is : x ≡ component = cc in ap (λ y. Some (part_of y ones)) is
  part_there (x ∷ components) ones (suc place) component e = part_there components ones place component e

  pub denotations_are_held : DenotationsAreHeld
  denotations_are_held ty d dones place component key sorted there h =
      runs_held ty d place component key sorted there h dones [] (start_of ty d) (ap starts_of there ∙ held_begins component key)
      ∙ sym (ap (λ o. part_held o key) (part_there d.components dones place component there))
