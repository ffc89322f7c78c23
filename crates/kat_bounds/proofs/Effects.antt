-- What an operation gives to the leaves of a component is a variable, 0 or 1, and so is what it is joined with; a sum is two of them.
use Rattle.std.proofs.Common.{ℕ, zero, suc, ◌+◌, ◌≤◌, pos, Bool, true, false, nat_lt, List, arith, Option, None, Some, ◌*◌}
use Rattle.std.specs.Prelude.{if◌then◌else◌, slice_get}
use Rattle.std.specs.Option.{option_flatten}
use Rattle.kat_linear.specs.Rows.{Form}
use Rattle.kat_expr.specs.Sorts.{Kept}
use Rattle.kat_design.specs.Designs.{ComponentForm}
use Rattle.kat_design.specs.Designs.ComponentForm.{a_cell, a_table, a_set, a_tally, tallies}
use Rattle.kat_design.specs.declared.designs.Leaf.{Leaf as Given}
use Rattle.kat_design.specs.declared.designs.Leaf.TheVariants as gives
use Rattle.kat_shape.specs.Forms.{CellForm, numbers, names, truths, lex, pair, width_of}
use Rattle.kat_type.specs.declared.types.Param.{Param}
use Rattle.kat_claims.specs.Effects.{Leaves, is_truth_parameter, above_zero, gift_read, effect_by, effect_at, greater_read, either_read, pairs_read, ordered_by, join_read, same_key_read, if_read, grown_read, added_read, cell_after, table_after, set_after, tally_after, tallies_after, leaf_after}
use Rattle.kat_symbols.specs.Connectives.{fact_lt}
use Rattle.kat_symbols.specs.Readers.{Reader, Symbol, read_name, read_once}
use Rattle.kat_symbols.specs.Sums.{numeral, minus}
use Rattle.kat_symbols.specs.Symbols.{symbol_if, symbols_lt, turned}
use Rattle.kat_symbols.specs.declared.names.Instance.{Instance}
use Rattle.kat_symbols.specs.declared.names.Instance.TheVariants.{Argument}
use Rattle.kat_symbols.specs.declared.names.Name.TheVariants.{Effect, Key, Replica, Time}
use Rattle.kat_bounds.proofs.Weights.{IsUpTo, up_more, natural_up, plus_up, minus_up}
use Rattle.kat_bounds.proofs.Facts.{most, most_above, IsLightFact, known_light, or_light, lt_light, same_light}
use Rattle.kat_bounds.proofs.Readers.{ArePairsUp, IsLight, IsSymbolUpTo, Yields, spend, choose_up, if_up, name_up, no_pairs, number_in_up, number_symbol, once_up, pair_more, symbol_more, symbols_lt_light, truth_in_light, truth_symbol, turned_up, variable_symbol}
use Rattle.kat_bounds.proofs.Caps.{leaf_low, leaf_some, name_cap}

-- how many slots the join of a leaf takes at most, and a leaf of a component after an operation
abbrev pub join_cost : CellForm → ℕ
join_cost numbers = 4
join_cost names = 4
join_cost truths = 4
join_cost (lex a b) = join_cost a + (3 * width_of a + (5 + join_cost b))
join_cost (pair a b) = join_cost a + join_cost b

abbrev pub component_cost : Option ComponentForm → ℕ
component_cost None = 1
component_cost (Some (a_cell shape starts effects)) = 1 + join_cost shape
component_cost (Some (a_table key shape starts effects)) = 3 + (join_cost shape + 1)
component_cost (Some (a_set key effects)) = 3 + (1 + 1)
component_cost (Some (a_tally effects)) = 3
component_cost (Some (tallies key effects)) = 3 + (3 + 1)

-- a reader may have this many slots
module _ (slots_most : ℕ) where
  module _ (n : ℕ) (fields : List Kept) (components : List ComponentForm) where
    abbrev caps : ℕ × ℕ × ℕ × ℕ → ℕ
    caps = name_cap n fields components

    -- what is read takes this many slots at most, and weighs so much
    abbrev pub IsReadUp : (cost m : ℕ) → (Reader → Symbol × Reader) → Type 0
    IsReadUp cost m read = (left : ℕ) (r : Reader) → IsLight slots_most caps (cost + left) r → Yields slots_most caps left (IsSymbolUpTo slots_most m) (read r)

    abbrev pub AreLeavesUp : ℕ → Leaves → Type 0
    AreLeavesUp cost leaves = (l : ℕ) → IsReadUp cost 1 (leaves l)

    pub dearer : (k cost m : ℕ) (read : Reader → Symbol × Reader) → IsReadUp k m read → k ≤ cost → IsReadUp cost m read
    dearer k cost m read p le left r h = p left r (spend slots_most caps (k + left) r h (omega (arith, le)))

    low : IsUpTo slots_most most (numeral (pos 0))
    low = natural_up slots_most most 0 (omega arith)

    one_low : (a : Form) → IsUpTo slots_most 1 a → IsUpTo slots_most most a
    one_low a h = up_more slots_most 1 most a most_above h

    above_zero_up : (a : Form) (left : ℕ) (r : Reader) → IsUpTo slots_most 1 a → IsLight slots_most caps (1 + left) r → Yields slots_most caps left (IsSymbolUpTo slots_most 1) (above_zero a r)
    above_zero_up a left r p h =
        let x = choose_up slots_most caps 1 (fact_lt a (numeral (pos 0))) (numeral (pos 0)) a left r (omega arith) most_above (lt_light slots_most a (numeral (pos 0)) (one_low a p) low) (natural_up slots_most 1 0 (omega arith)) p h in
        record { value = number_symbol slots_most 1 _ x.value; reader = x.reader }

    free : (left : ℕ) (r : Reader) → IsLight slots_most caps (2 + left) r → IsLight slots_most caps left r
    free left r h = spend slots_most caps left r h (omega arith)

    one_free : (left : ℕ) (r : Reader) → IsLight slots_most caps (2 + left) r → IsLight slots_most caps (1 + left) r
    one_free left r h = spend slots_most caps (1 + left) r h (omega arith)

    both_free : (left : ℕ) (r : Reader) → IsLight slots_most caps (2 + left) r → IsLight slots_most caps (1 + (1 + left)) r
    both_free left r h = spend slots_most caps (1 + (1 + left)) r h (omega arith)

    gift_up : (params : List Param) (gift : Given) → IsReadUp 2 1 (gift_read params gift)
    gift_up params (gives.Arg j) left r h = variable_symbol slots_most caps (is_truth_parameter (slice_get params j)) (Key (Argument j)) left r (one_free left r h)
    gift_up params gives.Time left r h = let x = name_up slots_most caps Time left r (one_free left r h) in record { value = number_symbol slots_most 1 _ x.value; reader = x.reader }
    gift_up params gives.Replica left r h = let x = name_up slots_most caps Replica left r (one_free left r h) in record { value = number_symbol slots_most 1 _ x.value; reader = x.reader }
    gift_up params gives.Zero left r h = record { value = number_symbol slots_most 1 _ (natural_up slots_most 1 0 (omega arith)); reader = free left r h }
    gift_up params gives.One left r h = record { value = number_symbol slots_most 1 _ (natural_up slots_most 1 1 (omega arith)); reader = free left r h }
    gift_up params (gives.Pos j) left r h =
        let x = name_up slots_most caps (Key (Argument j)) (1 + left) r (both_free left r h) in
        above_zero_up (read_name (Key (Argument j)) r).0 left (read_name (Key (Argument j)) r).1 x.value x.reader
    gift_up params (gives.Neg j) left r h =
        let x = name_up slots_most caps (Key (Argument j)) (1 + left) r (both_free left r h) in
        above_zero_up (minus (numeral (pos 0)) (read_name (Key (Argument j)) r).0) left (read_name (Key (Argument j)) r).1
        (minus_up slots_most 0 1 (numeral (pos 0)) _ (natural_up slots_most 0 0 (omega arith)) x.value) x.reader
    gift_up params gives.False left r h = record { value = truth_symbol slots_most 1 _ (known_light slots_most false); reader = free left r h }
    gift_up params gives.True left r h = record { value = truth_symbol slots_most 1 _ (known_light slots_most true); reader = free left r h }

    once_gift : (params : List Param) (c l : ℕ) (gift : Given) → IsReadUp 2 1 (λ r. read_once (Effect c l) (gift_read params gift) r)
    once_gift params c l gift left r h = once_up slots_most caps (Effect c l) (gift_read params gift) left r h (omega arith) (gift_up params gift left r h)

    effect_by_up : (params : List Param) (c l : ℕ) (gift : Option Given) → IsReadUp 2 1 (effect_by params c l gift)
    effect_by_up params c l None left r h = record { value = truth_symbol slots_most 1 _ (known_light slots_most false); reader = free left r h }
    effect_by_up params c l (Some gift) left r h = once_gift params c l gift left r h

    effect_up : (params : List Param) (c : ℕ) (gifts : List Given) → AreLeavesUp 2 (effect_at params c gifts)
    effect_up params c gifts l left r h = effect_by_up params c l (slice_get gifts l) left r h

    -- a second part by the first parts
    ordered_up : (ps : List (Symbol × Symbol)) (g s j : Symbol) (left : ℕ) (r : Reader) → ArePairsUp slots_most ps → IsSymbolUpTo slots_most 1 g → IsSymbolUpTo slots_most 1 s → IsSymbolUpTo slots_most 1 j → IsLight slots_most caps (2 + left) r
        → Yields slots_most caps left (IsSymbolUpTo slots_most 1) (ordered_by ps g s j r)
    ordered_up ps g s j left r pairs p q k h =
        let rest = if_up slots_most caps 1 (symbols_lt (turned ps)) s j (1 + left) r (omega arith) most_above (symbols_lt_light slots_most (turned ps) (turned_up slots_most ps pairs)) q k (both_free left r h) in
        if_up slots_most caps 1 (symbols_lt ps) g (symbol_if (symbols_lt (turned ps)) s j r).0 left (symbol_if (symbols_lt (turned ps)) s j r).1 (omega arith) most_above (symbols_lt_light slots_most ps pairs) p rest.value rest.reader

    pub same_key_up : (at : Option Instance) (j left : ℕ) (r : Reader) → IsLight slots_most caps (2 + left) r → Yields slots_most caps left (IsLightFact slots_most) (same_key_read at j r)
    same_key_up None j left r h = record { value = known_light slots_most false; reader = free left r h }
    same_key_up (Some i) j left r h =
        let a = name_up slots_most caps (Key i) (1 + left) r (both_free left r h) in
        let b = name_up slots_most caps (Key (Argument j)) left (read_name (Key i) r).1 a.reader in
        record { value = same_light slots_most _ _ (one_low _ a.value) (one_low _ b.value); reader = b.reader }

    pub if_read_up : (k l m : ℕ) (at : Option Instance) (j : ℕ) (new old : Reader → Symbol × Reader) → 1 ≤ m → m ≤ most → IsReadUp k m new → IsReadUp l m old
        → IsReadUp (3 + (k + l)) m (λ r. if_read (same_key_read at j r) new old)
    if_read_up k l m at j new old some few p q left r h =
        let same = same_key_up at j (k + (l + (1 + left))) r (spend slots_most caps (2 + (k + (l + (1 + left)))) r h (omega arith)) in
        let a = p (l + (1 + left)) (same_key_read at j r).1 same.reader in
        let b = q (1 + left) (new (same_key_read at j r).1).1 a.reader in
        if_up slots_most caps m (same_key_read at j r).0 (new (same_key_read at j r).1).0 (old (new (same_key_read at j r).1).1).0 left (old (new (same_key_read at j r).1).1).1 some few same.value a.value b.value b.reader

    module _ (old : Leaves) (olds : AreLeavesUp 1 old) where
      module _ (effect : Leaves) (effects : AreLeavesUp 2 effect) where
        greater_up : (l : ℕ) → IsReadUp 4 1 (greater_read old effect l)
        greater_up l left r h =
            let a = olds l (2 + (1 + left)) r (spend slots_most caps (1 + (2 + (1 + left))) r h (omega arith)) in
            let b = effects l (1 + left) (old l r).1 a.reader in
            let p = number_in_up slots_most 1 (old l r).0 a.value in
            let q = number_in_up slots_most 1 (effect l (old l r).1).0 b.value in
            let x = choose_up slots_most caps 1 _ _ _ left (effect l (old l r).1).1 (omega arith) most_above (lt_light slots_most _ _ (one_low _ p) (one_low _ q)) q p b.reader in
            record { value = number_symbol slots_most 1 _ x.value; reader = x.reader }

        either_up : (l : ℕ) → IsReadUp 4 1 (either_read old effect l)
        either_up l left r h =
            let a = olds l (2 + left) r (spend slots_most caps (1 + (2 + left)) r h (omega arith)) in
            let b = effects l left (old l r).1 a.reader in
            record { value = truth_symbol slots_most 1 _ (or_light slots_most _ _ (truth_in_light slots_most 1 (old l r).0 a.value) (truth_in_light slots_most 1 (effect l (old l r).1).0 b.value)); reader = b.reader }

        pairs_up : (from k left : ℕ) (r : Reader) → IsLight slots_most caps (3 * k + left) r → Yields slots_most caps left (ArePairsUp slots_most) (pairs_read old effect from k r)
        pairs_up from zero left r h = record { value = no_pairs slots_most; reader = spend slots_most caps left r h (omega arith) }
        pairs_up from (suc k) left r h =
            let a = olds from (2 + (3 * k + left)) r (spend slots_most caps (1 + (2 + (3 * k + left))) r h (omega arith)) in
            let b = effects from (3 * k + left) (old from r).1 a.reader in
            let rest = pairs_up (suc from) k left (effect from (old from r).1).1 b.reader in
            record { value = pair_more slots_most _ _ _ (symbol_more slots_most 1 most _ most_above a.value) (symbol_more slots_most 1 most _ most_above b.value) rest.value; reader = rest.reader }

        join_up : (shape : CellForm) (from l : ℕ) → IsReadUp (join_cost shape) 1 (join_read old effect shape from l)
        join_up numbers from l left r h = greater_up l left r h
        join_up names from l left r h = greater_up l left r h
        join_up truths from l left r h = either_up l left r h
        join_up (lex x y) from l left r h = by_test (nat_lt l (from + width_of x)) (join_up x from l) (join_up y (from + width_of x) l)
          where
            second : Reader → Symbol × Reader
            second s =
                let first = pairs_read old effect from (width_of x) s in
                let gift = effect l first.1 in
                let before = old l gift.1 in
                let joined = join_read old effect y (from + width_of x) l before.1 in
                ordered_by first.0 gift.0 before.0 joined.0 joined.1

            by_test : (k : Bool) → IsReadUp (join_cost x) 1 (join_read old effect x from l) → IsReadUp (join_cost y) 1 (join_read old effect y (from + width_of x) l)
                → Yields slots_most caps left (IsSymbolUpTo slots_most 1) (if k then join_read old effect x from l r else second r)
            by_test true one other = one left r (spend slots_most caps (join_cost x + left) r h (omega arith))
            by_test false one other =
                let rest = join_cost y + (2 + left) in
                let first = pairs_up from (width_of x) (2 + (1 + rest)) r (spend slots_most caps (3 * width_of x + (2 + (1 + rest))) r h (omega arith)) in
                let gift = effects l (1 + rest) (pairs_read old effect from (width_of x) r).1 first.reader in
                let before = olds l rest (effect l (pairs_read old effect from (width_of x) r).1).1 gift.reader in
                let joined = other (2 + left) (old l (effect l (pairs_read old effect from (width_of x) r).1).1).1 before.reader in
                ordered_up _ _ _ _ left _ first.value gift.value before.value joined.value joined.reader
        join_up (pair x y) from l left r h = by_test (nat_lt l (from + width_of x)) (join_up x from l) (join_up y (from + width_of x) l)
          where
            by_test : (k : Bool) → IsReadUp (join_cost x) 1 (join_read old effect x from l) → IsReadUp (join_cost y) 1 (join_read old effect y (from + width_of x) l)
                → Yields slots_most caps left (IsSymbolUpTo slots_most 1) (if k then join_read old effect x from l r else join_read old effect y (from + width_of x) l r)
            by_test true one other = one left r (spend slots_most caps (join_cost x + left) r h (omega arith))
            by_test false one other = other left r (spend slots_most caps (join_cost y + left) r h (omega arith))

      two : (k : ℕ) (read : Reader → Symbol × Reader) → IsReadUp k 1 read → IsReadUp k 2 read
      two k read p left r h = let x = p left r h in record { value = symbol_more slots_most 1 2 _ (omega arith) x.value; reader = x.reader }

      olds_two : (l : ℕ) → IsReadUp 1 2 (old l)
      olds_two l left r h = two 1 (old l) (olds l) left r h

      two_low : 2 ≤ most
      two_low = omega (arith, leaf_some, leaf_low)

      grown_up : (params : List Param) (c : ℕ) (gift : Given) (l : ℕ) → IsReadUp 3 2 (grown_read old params c gift l)
      grown_up params c gift l left r h =
          let a = olds l (2 + left) r (spend slots_most caps (1 + (2 + left)) r h (omega arith)) in
          let b = once_gift params c 0 gift left (old l r).1 a.reader in
          record { value = number_symbol slots_most 2 _ (plus_up slots_most 1 1 _ _ (number_in_up slots_most 1 _ a.value) (number_in_up slots_most 1 _ b.value)); reader = b.reader }

      added_up : (l : ℕ) → IsReadUp 1 2 (added_read old l)
      added_up l left r h = let a = olds l left r h in record { value = truth_symbol slots_most 2 _ (or_light slots_most _ _ (truth_in_light slots_most 1 _ a.value) (known_light slots_most true)); reader = a.reader }

      joined_up : (params : List Param) (c : ℕ) (shape : CellForm) (gifts : List Given) (l : ℕ) → IsReadUp (join_cost shape) 2 (join_read old (effect_at params c gifts) shape 0 l)
      joined_up params c shape gifts l left r h = two (join_cost shape) _ (join_up (effect_at params c gifts) (effect_up params c gifts) shape 0 l) left r h

      cell_up : (params : List Param) (c : ℕ) (shape : CellForm) (effects : Option (List Given)) (l : ℕ) → IsReadUp (1 + join_cost shape) 2 (cell_after old params c shape effects l)
      cell_up params c shape None l left r h = dearer 1 (1 + join_cost shape) 2 (old l) (olds_two l) (omega arith) left r h
      cell_up params c shape (Some gifts) l left r h = dearer (join_cost shape) (1 + join_cost shape) 2 _ (joined_up params c shape gifts l) (omega arith) left r h

      table_up : (params : List Param) (c : ℕ) (at : Option Instance) (shape : CellForm) (effects : Option (ℕ × List Given)) (l : ℕ) → IsReadUp (3 + (join_cost shape + 1)) 2 (table_after old params c at shape effects l)
      table_up params c at shape None l left r h = dearer 1 (3 + (join_cost shape + 1)) 2 (old l) (olds_two l) (omega arith) left r h
      table_up params c at shape (Some effect) l left r h =
          if_read_up (join_cost shape) 1 2 at effect.0 (join_read old (effect_at params c effect.1) shape 0 l) (old l) (omega arith) two_low (joined_up params c shape effect.1 l) (olds_two l) left r h

      set_up : (at : Option Instance) (effects : Option ℕ) (l : ℕ) → IsReadUp (3 + (1 + 1)) 2 (set_after old at effects l)
      set_up at None l left r h = dearer 1 (3 + (1 + 1)) 2 (old l) (olds_two l) (omega arith) left r h
      set_up at (Some key) l left r h = if_read_up 1 1 2 at key (added_read old l) (old l) (omega arith) two_low (added_up l) (olds_two l) left r h

      tally_up : (params : List Param) (c : ℕ) (effects : Option Given) (l : ℕ) → IsReadUp 3 2 (tally_after old params c effects l)
      tally_up params c None l left r h = dearer 1 3 2 (old l) (olds_two l) (omega arith) left r h
      tally_up params c (Some gift) l left r h = grown_up params c gift l left r h

      tallies_up : (params : List Param) (c : ℕ) (at : Option Instance) (effects : Option (ℕ × Given)) (l : ℕ) → IsReadUp (3 + (3 + 1)) 2 (tallies_after old params c at effects l)
      tallies_up params c at None l left r h = dearer 1 (3 + (3 + 1)) 2 (old l) (olds_two l) (omega arith) left r h
      tallies_up params c at (Some effect) l left r h =
          if_read_up 3 1 2 at effect.0 (grown_read old params c effect.1 l) (old l) (omega arith) two_low (grown_up params c effect.1 l) (olds_two l) left r h

      pub leaf_after_up : (params : List Param) (o c : ℕ) (at : Option Instance) (component : Option ComponentForm) (l : ℕ) → IsReadUp (component_cost component) 2 (leaf_after old params o c at component l)
      leaf_after_up params o c at None l left r h = olds_two l left r h
      leaf_after_up params o c at (Some (a_cell shape starts effects)) l left r h = cell_up params c shape (option_flatten (slice_get effects o)) l left r h
      leaf_after_up params o c at (Some (a_table key shape starts effects)) l left r h = table_up params c at shape (option_flatten (slice_get effects o)) l left r h
      leaf_after_up params o c at (Some (a_set key effects)) l left r h = set_up at (option_flatten (slice_get effects o)) l left r h
      leaf_after_up params o c at (Some (a_tally effects)) l left r h = tally_up params c (option_flatten (slice_get effects o)) l left r h
      leaf_after_up params o c at (Some (tallies key effects)) l left r h = tallies_up params c at (option_flatten (slice_get effects o)) l left r h
