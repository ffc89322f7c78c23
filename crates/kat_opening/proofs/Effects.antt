-- What an operation gives, in step, and the side after an operation.
use Rattle.std.proofs.Common.{ℕ, zero, suc, ◌+◌, pos, Bool, true, false, nat_eq, nat_lt, if◌then◌else◌, Option, Some, None, List, [], ◌∷◌}
use Rattle.std.specs.Prelude.{reverse, slice_get}
use Rattle.std.specs.Option.{option_flatten}
use Rattle.kat_num.specs.declared.values.Value.{Value}
use Rattle.kat_expr.specs.Terms.{Term}
use Rattle.kat_linear.specs.Rows.{Form}
use Rattle.kat_design.specs.Designs.{ComponentForm, DesignForm}
use Rattle.kat_design.specs.Designs.ComponentForm.{a_cell, a_table, a_set, a_tally, tallies}
use Rattle.kat_design.specs.declared.designs.Leaf.{Leaf as Given}
use Rattle.kat_design.specs.declared.designs.Leaf.TheVariants as given
use Rattle.kat_shape.specs.Forms.{CellForm, numbers, names, truths, lex, pair, width_of}
use Rattle.kat_type.specs.Types.{Assigned, OperationForm, TypeForm}
use Rattle.kat_type.specs.Types.Assigned.{to_field, to_entry, to_start}
use Rattle.kat_type.specs.declared.types.Param.{Param}
use Rattle.kat_type.specs.declared.types.Rank.{Rank}
use Rattle.kat_type.specs.declared.types.Rank.TheVariants as rank
use Rattle.kat_claims.specs.Effects.{Leaves, is_truth_parameter, above_zero, gift_read, effect_by, effect_at, greater_read, either_read, pairs_read, ordered_by, join_read, same_key_read, if_read, grown_read, added_read, cell_after, table_after, set_after, tally_after, tallies_after, leaf_after, leaves_of}
use Rattle.kat_symbols.specs.Readers.{Reader, Symbol}
use Rattle.kat_symbols.specs.Sides.{Side}
use Rattle.kat_claims.specs.States.{field_start, is_truth_field, old_side}
use Rattle.kat_vc.specs.Steps.{right_read, field_after, value_after, element_after, after_side}
use Rattle.kat_symbols.specs.Symbols.{symbol_of, symbols_lt, symbol_if, turned}
use Rattle.kat_symbols.specs.declared.names.Instance.{Instance}
use Rattle.kat_symbols.specs.declared.names.Instance.TheVariants.{Argument}
use Rattle.kat_symbols.specs.declared.names.Name.TheVariants.{Effect, Key, Kept, Replica, Time}
use Rattle.kat_symbols.specs.declared.names.Place.{Place}
use Rattle.kat_symbols.specs.declared.names.Place.TheVariants.{Field, Leaf}
use Rattle.kat_opening.proofs.Forms.{World, AlikeForm, numeral_alike, plus_alike, minus_alike}
use Rattle.kat_opening.proofs.Facts.{AlikeSymbol, AlikePairs, number_in_alike, truth_in_same, or_same, lt_same, equal_same, symbol_of_alike, symbols_lt_same}
use Rattle.kat_opening.proofs.Facts.SameFact.{both_known}
use Rattle.kat_opening.proofs.Facts.AlikeSymbol.{both_numbers, both_truths}
use Rattle.kat_opening.proofs.Facts.AlikePairs.{no_pairs, pair_more}
use Rattle.kat_opening.proofs.Lockstep.{Goes, stays, goes_name, goes_once}
use Rattle.kat_opening.proofs.Symbolic.{and_then, with_both, gives, chooses, goes_if, variable_twin, TwinForm, TwinFact, TwinSymbol}
use Rattle.kat_opening.proofs.Terms.{TwinSide, number_twin, truth_twin}
use Rattle.kat_opening.proofs.Claims.{TwinPairs, old_twin}

-- leaves that are read in step
abbrev pub TwinLeaves : Reader → Leaves → Type 0
TwinLeaves whole leaves = (l : ℕ) → TwinSymbol whole false (leaves l)

module _ (whole : Reader) where
  above_zero_twin : (a b e f : Reader) (x y : Form) → Goes whole false a b e f (λ w. AlikeForm w x y) → Goes whole false a b (above_zero x e).1 (above_zero y f).1 (λ w. AlikeSymbol w (above_zero x e).0 (above_zero y f).0)
  above_zero_twin a b e f x y first =
      gives (chooses {P = λ w. Unit {0}} (gives first (λ w h. record { test = lt_same w _ _ _ _ h (numeral_alike w (pos 0)); left = numeral_alike w (pos 0); right = h; besides = tt })))
      (λ w h. both_numbers _ _ h.0)

  gift_twin : (params : List Param) (gift : Given) → TwinSymbol whole false (gift_read params gift)
  gift_twin params (given.Arg j) a b = variable_twin whole false (is_truth_parameter (slice_get params j)) (Key (Argument j)) a b
  gift_twin params given.Time a b = gives (goes_name whole false Time a b) (λ w h. both_numbers _ _ h)
  gift_twin params given.Replica a b = gives (goes_name whole false Replica a b) (λ w h. both_numbers _ _ h)
  gift_twin params given.Zero a b = stays whole false a b _ (λ w. both_numbers _ _ (numeral_alike w (pos 0)))
  gift_twin params given.One a b = stays whole false a b _ (λ w. both_numbers _ _ (numeral_alike w (pos 1)))
  gift_twin params (given.Pos j) a b = above_zero_twin a b _ _ _ _ (goes_name whole false (Key (Argument j)) a b)
  gift_twin params (given.Neg j) a b = above_zero_twin a b _ _ _ _ (gives (goes_name whole false (Key (Argument j)) a b) (λ w h. minus_alike w _ _ _ _ (numeral_alike w (pos 0)) h))
  gift_twin params given.False a b = stays whole false a b _ (λ w. both_truths _ _ (both_known false))
  gift_twin params given.True a b = stays whole false a b _ (λ w. both_truths _ _ (both_known true))

  effect_by_twin : (params : List Param) (c l : ℕ) (gift : Option Given) → TwinSymbol whole false (effect_by params c l gift)
  effect_by_twin params c l None a b = stays whole false a b _ (λ w. both_truths _ _ (both_known false))
  effect_by_twin params c l (Some gift) a b = goes_once whole (Effect c l) (gift_read params gift) a b (gift_twin params gift a b)

  effect_twin : (params : List Param) (c : ℕ) (gifts : List Given) → TwinLeaves whole (effect_at params c gifts)
  effect_twin params c gifts l a b = effect_by_twin params c l (slice_get gifts l) a b

  turned_alike : (w : World) (ps qs : List (Symbol × Symbol)) → AlikePairs w ps qs → AlikePairs w (turned ps) (turned qs)
  turned_alike w _ _ no_pairs = no_pairs
  turned_alike w _ _ (pair_more a b c d ps qs p q rest) = pair_more c d a b _ _ q p (turned_alike w ps qs rest)

  -- a second part by the first parts
  ordered_twin : (a b e f : Reader) (ps qs : List (Symbol × Symbol)) (g h s t u v : Symbol) → Goes whole false a b e f (λ w. (AlikePairs w ps qs × AlikeSymbol w g h) × (AlikeSymbol w s t × AlikeSymbol w u v))
      → Goes whole false a b (ordered_by ps g s u e).1 (ordered_by qs h t v f).1 (λ w. AlikeSymbol w (ordered_by ps g s u e).0 (ordered_by qs h t v f).0)
  ordered_twin a b e f ps qs g h s t u v first =
      let rest = symbol_if (symbols_lt (turned ps)) s u e in
      let more = symbol_if (symbols_lt (turned qs)) t v f in
      gives (goes_if whole false a b rest.1 more.1 (symbols_lt ps) (symbols_lt qs) (λ w. Unit {0}) g h rest.0 more.0
      (gives (goes_if whole false a b e f (symbols_lt (turned ps)) (symbols_lt (turned qs)) (λ w. AlikePairs w ps qs × AlikeSymbol w g h) s t u v
      (gives first (λ w k. record { test = symbols_lt_same w _ _ (turned_alike w _ _ k.0.0); left = k.1.0; right = k.1.1; besides = k.0 })))
      (λ w k. record { test = symbols_lt_same w _ _ k.1.0; left = k.1.1; right = k.0; besides = tt })))
      (λ w k. k.0)

  same_key_twin : (at : Option Instance) (j : ℕ) → TwinFact whole false (same_key_read at j)
  same_key_twin None j a b = stays whole false a b _ (λ w. both_known false)
  same_key_twin (Some i) j a b = and_then (goes_name whole false (Key i) a b) (goes_name whole false (Key (Argument j)) _ _) (λ w p q. equal_same w _ _ _ _ p q)

  if_twin : (at : Option Instance) (j : ℕ) (new old : Reader → Symbol × Reader) → TwinSymbol whole false new → TwinSymbol whole false old → TwinSymbol whole false (λ r. if_read (same_key_read at j r) new old)
  if_twin at j new old first second a b =
      let x = same_key_read at j in
      gives (goes_if whole false a b (old (new (x a).1).1).1 (old (new (x b).1).1).1 (x a).0 (x b).0 (λ w. Unit {0}) (new (x a).1).0 (new (x b).1).0 (old (new (x a).1).1).0 (old (new (x b).1).1).0
      (and_then (same_key_twin at j a b) (with_both (first (x a).1 (x b).1) (second (new (x a).1).1 (new (x b).1).1)) (λ w p q. record { test = p; left = q.0; right = q.1; besides = tt })))
      (λ w k. k.0)

  module _ (old : Leaves) (olds : TwinLeaves whole old) where
    module _ (effect : Leaves) (effects : TwinLeaves whole effect) where
      greater_twin : (l : ℕ) → TwinSymbol whole false (greater_read old effect l)
      greater_twin l a b =
          gives (chooses {P = λ w. Unit {0}} (and_then (olds l a b) (effects l _ _)
          (λ w p q. record { test = lt_same w _ _ _ _ (number_in_alike w _ _ p) (number_in_alike w _ _ q); left = number_in_alike w _ _ q; right = number_in_alike w _ _ p; besides = tt })))
          (λ w h. both_numbers _ _ h.0)

      either_twin : (l : ℕ) → TwinSymbol whole false (either_read old effect l)
      either_twin l a b = and_then (olds l a b) (effects l _ _) (λ w p q. both_truths _ _ (or_same w _ _ _ _ (truth_in_same w _ _ p) (truth_in_same w _ _ q)))

      pairs_twin : (from n : ℕ) → TwinPairs whole false (pairs_read old effect from n)
      pairs_twin from zero a b = stays whole false a b _ (λ w. no_pairs)
      pairs_twin from (suc n) a b =
          and_then (with_both (olds from a b) (effects from _ _)) (pairs_twin (suc from) n _ _) (λ w p q. pair_more _ _ _ _ _ _ p.0 p.1 q)

      join_twin : (shape : CellForm) (from l : ℕ) → TwinSymbol whole false (join_read old effect shape from l)
      join_twin numbers from l a b = greater_twin l a b
      join_twin names from l a b = greater_twin l a b
      join_twin truths from l a b = either_twin l a b
      join_twin (lex x y) from l a b = by_test (nat_lt l (from + width_of x)) (join_twin x from l) (join_twin y (from + width_of x) l)
        where
          second : Reader → Symbol × Reader
          second r =
              let first = pairs_read old effect from (width_of x) r in
              let gift = effect l first.1 in
              let before = old l gift.1 in
              let joined = join_read old effect y (from + width_of x) l before.1 in
              ordered_by first.0 gift.0 before.0 joined.0 joined.1

          by_test : (k : Bool) → TwinSymbol whole false (join_read old effect x from l) → TwinSymbol whole false (join_read old effect y (from + width_of x) l)
              → Goes whole false a b (if k then join_read old effect x from l a else second a).1 (if k then join_read old effect x from l b else second b).1
              (λ w. AlikeSymbol w (if k then join_read old effect x from l a else second a).0 (if k then join_read old effect x from l b else second b).0)
          by_test true left right = left a b
          by_test false left right =
              ordered_twin a b _ _ _ _ _ _ _ _ _ _
              (with_both (with_both (pairs_twin from (width_of x) a b) (effects l _ _)) (with_both (olds l _ _) (right _ _)))
      join_twin (pair x y) from l a b = by_test (nat_lt l (from + width_of x)) (join_twin x from l) (join_twin y (from + width_of x) l)
        where
          by_test : (k : Bool) → TwinSymbol whole false (join_read old effect x from l) → TwinSymbol whole false (join_read old effect y (from + width_of x) l)
              → Goes whole false a b (if k then join_read old effect x from l a else join_read old effect y (from + width_of x) l a).1 (if k then join_read old effect x from l b else join_read old effect y (from + width_of x) l b).1
              (λ w. AlikeSymbol w (if k then join_read old effect x from l a else join_read old effect y (from + width_of x) l a).0 (if k then join_read old effect x from l b else join_read old effect y (from + width_of x) l b).0)
          by_test true left right = left a b
          by_test false left right = right a b

    grown_twin : (params : List Param) (c : ℕ) (gift : Given) → TwinLeaves whole (grown_read old params c gift)
    grown_twin params c gift l a b =
        and_then (olds l a b) (goes_once whole (Effect c 0) (gift_read params gift) _ _ (gift_twin params gift _ _))
        (λ w p q. both_numbers _ _ (plus_alike w _ _ _ _ (number_in_alike w _ _ p) (number_in_alike w _ _ q)))

    added_twin : TwinLeaves whole (added_read old)
    added_twin l a b = gives (olds l a b) (λ w h. both_truths _ _ (or_same w _ _ _ _ (truth_in_same w _ _ h) (both_known true)))

    cell_twin : (params : List Param) (c : ℕ) (shape : CellForm) (effects : Option (List Given)) → TwinLeaves whole (cell_after old params c shape effects)
    cell_twin params c shape None l a b = olds l a b
    cell_twin params c shape (Some gifts) l a b = join_twin (effect_at params c gifts) (effect_twin params c gifts) shape 0 l a b

    table_twin : (params : List Param) (c : ℕ) (at : Option Instance) (shape : CellForm) (effects : Option (ℕ × List Given)) → TwinLeaves whole (table_after old params c at shape effects)
    table_twin params c at shape None l a b = olds l a b
    table_twin params c at shape (Some effect) l a b =
        if_twin at effect.0 (join_read old (effect_at params c effect.1) shape 0 l) (old l) (join_twin (effect_at params c effect.1) (effect_twin params c effect.1) shape 0 l) (olds l) a b

    set_twin : (at : Option Instance) (effects : Option ℕ) → TwinLeaves whole (set_after old at effects)
    set_twin at None l a b = olds l a b
    set_twin at (Some key) l a b = if_twin at key (added_read old l) (old l) (added_twin l) (olds l) a b

    tally_twin : (params : List Param) (c : ℕ) (effects : Option Given) → TwinLeaves whole (tally_after old params c effects)
    tally_twin params c None l a b = olds l a b
    tally_twin params c (Some gift) l a b = grown_twin params c gift l a b

    tallies_twin : (params : List Param) (c : ℕ) (at : Option Instance) (effects : Option (ℕ × Given)) → TwinLeaves whole (tallies_after old params c at effects)
    tallies_twin params c at None l a b = olds l a b
    tallies_twin params c at (Some effect) l a b = if_twin at effect.0 (grown_read old params c effect.1 l) (old l) (grown_twin params c effect.1 l) (olds l) a b

    leaf_twin : (params : List Param) (o c : ℕ) (at : Option Instance) (component : Option ComponentForm) → TwinLeaves whole (leaf_after old params o c at component)
    leaf_twin params o c at None l a b = olds l a b
    leaf_twin params o c at (Some (a_cell shape starts effects)) l a b = cell_twin params c shape (option_flatten (slice_get effects o)) l a b
    leaf_twin params o c at (Some (a_table key shape starts effects)) l a b = table_twin params c at shape (option_flatten (slice_get effects o)) l a b
    leaf_twin params o c at (Some (a_set key effects)) l a b = set_twin at (option_flatten (slice_get effects o)) l a b
    leaf_twin params o c at (Some (a_tally effects)) l a b = tally_twin params c (option_flatten (slice_get effects o)) l a b
    leaf_twin params o c at (Some (tallies key effects)) l a b = tallies_twin params c at (option_flatten (slice_get effects o)) l a b

  -- a field after assignments
  module _ (side : Side) (twin : TwinSide whole false side) where
    right_twin : (is_truth : Bool) (t : Term) → TwinSymbol whole false (right_read side is_truth t)
    right_twin true t a b = gives (truth_twin whole false side twin None t a b) (λ w h. both_truths _ _ h)
    right_twin false t a b = gives (number_twin whole false side twin None t a b) (λ w h. both_numbers _ _ h)

    either_way : (k : Bool) (first second : Reader → Symbol × Reader) → TwinSymbol whole false first → TwinSymbol whole false second → TwinSymbol whole false (λ r. if k then first r else second r)
    either_way true first second p q = p
    either_way false first second p q = q

    field_twin : (is_truth : Bool) (start : Value) (f : ℕ) (at : Option Instance) (assigned : List Assigned) → TwinSymbol whole false (field_after side is_truth start f at assigned)
    field_twin is_truth start f at [] a b = twin.value (Field f) at a b
    field_twin is_truth start f at (to_field place right ∷ more) a b =
        either_way (nat_eq place f) (right_read side is_truth right) (field_after side is_truth start f at more) (right_twin is_truth right) (field_twin is_truth start f at more) a b
    field_twin is_truth start f at (to_entry place key right ∷ more) a b =
        either_way (nat_eq place f) (λ r. if_read (same_key_read at key r) (right_read side is_truth right) (field_after side is_truth start f at more)) (field_after side is_truth start f at more)
        (if_twin at key (right_read side is_truth right) (field_after side is_truth start f at more) (right_twin is_truth right) (field_twin is_truth start f at more)) (field_twin is_truth start f at more) a b
    field_twin is_truth start f at (to_start place ∷ more) a b =
        either_way (nat_eq place f) (λ r. (symbol_of start, r)) (field_after side is_truth start f at more) (λ p q. stays whole false p q _ (λ w. symbol_of_alike w start)) (field_twin is_truth start f at more) a b

  module _ (ty : TypeForm) (d : DesignForm) where
    value_twin : (o : ℕ) (op : OperationForm) (place : Place) (at : Option Instance) → TwinSymbol whole false (value_after ty d o op place at)
    value_twin o op (Field f) at a b = field_twin (old_side ty d) (old_twin whole false ty d) (is_truth_field (slice_get ty.fields f)) (field_start (slice_get ty.fields f)) f at (reverse op.assigned) a b
    value_twin o op (Leaf c l) at a b =
        leaf_twin (leaves_of (old_side ty d) c at) (λ i. (old_twin whole false ty d).value (Leaf c i) at) op.params o c at (slice_get d.components c) l a b

    element_twin : (quiet : Bool) (element : Option Rank) → TwinForm whole quiet (element_after element)
    element_twin quiet None a b = stays whole quiet a b _ (λ w. numeral_alike w (pos 0))
    element_twin quiet (Some (rank.Digit n)) a b = stays whole quiet a b _ (λ w. numeral_alike w (pos n))
    element_twin quiet (Some rank.Time) a b = goes_name whole quiet Time a b
    element_twin quiet (Some rank.Replica) a b = goes_name whole quiet Replica a b
    element_twin quiet (Some (rank.Arg j)) a b = goes_name whole quiet (Key (Argument j)) a b

    pub after_twin : (o : ℕ) (op : OperationForm) → TwinSide whole false (after_side ty d o op)
    after_twin o op = record {
      value = λ place at a b. goes_once whole (Kept place at) (value_after ty d o op place at) a b (value_twin o op place at a b);
      begun = λ a b. stays whole false a b _ (λ w. both_known true);
      element = λ j. element_twin false (slice_get op.ranks j);
    }

    pub elements_quiet : (o : ℕ) (op : OperationForm) (j : ℕ) → TwinForm whole true ((after_side ty d o op).element j)
    elements_quiet o op j = element_twin true (slice_get op.ranks j)
