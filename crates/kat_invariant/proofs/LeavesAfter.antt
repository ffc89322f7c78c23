-- A leaf after an operation is read as what it is.
use Rattle.std.proofs.Common.{◌≡◌, ◌≢◌, ℕ, ◌+◌, ◌<◌, ℤ, pos, ◌+ℤ◌, Bool, true, false, ◌||◌, if◌then◌else◌, List, [], ◌∷◌, length, map, get_or, Option, Some, None, option_map, refl, sym, ap, subst, ◌∙◌, arith, inl, inr}
use Rattle.std.specs.Prelude.{slice_get}
use Rattle.std.specs.Option.{option_flatten}
use Rattle.std.proofs.lemmas.List.{length-map}
use Rattle.std.proofs.lemmas.Option.{get_or_from_slice_get, slice_get-get_or, slice_get-map, slice_get_within}
use Rattle.kat_num.specs.Values.{HasSort}
use Rattle.kat_num.specs.declared.values.Sort.{Sort}
use Rattle.kat_num.specs.declared.values.Sort.TheVariants as sort
use Rattle.kat_num.specs.declared.values.Value.{Value}
use Rattle.kat_num.specs.declared.values.Value.TheVariants as value
use Rattle.kat_expr.specs.Evaluation.{number_of}
use Rattle.kat_expr.specs.Slots.{absent, argument, is_same}
use Rattle.kat_shape.specs.Flats.{filled_with}
use Rattle.kat_shape.specs.Forms.{CellForm, IsGoodForm, leaf_kind_of, leaf_kinds_of, width_of}
use Rattle.kat_shape.specs.LeafByLeaf.{joined_leaves}
use Rattle.kat_shape.specs.Values.{Filled, joined, leaves_of, shape_of}
use Rattle.kat_shape.proofs.ByLeaves.{joins_leaf_by_leaf}
use Rattle.kat_shape.proofs.Filling.{filled_leaves, filled_shape, kinds_long, leaf_kinds_of-shape_of}
use Rattle.kat_type.specs.Signatures.{op_sig, param_sorts}
use Rattle.kat_type.specs.Types.{OperationForm}
use Rattle.kat_type.specs.declared.done.Done.{Done}
use Rattle.kat_type.specs.declared.signatures.OpSig.{OpSig}
use Rattle.kat_type.specs.declared.types.Param.{Param}
use Rattle.kat_design.specs.Answers.{leaf_of}
use Rattle.kat_design.specs.Denotations.{cell_added, natural, weight_of}
use Rattle.kat_design.specs.Designs.{ComponentForm, DesignForm}
use Rattle.kat_design.specs.Designs.ComponentForm.{a_cell, a_table, a_set, a_tally, tallies}
use Rattle.kat_design.specs.Effects.{effect_of, leaf_value}
use Rattle.kat_design.specs.Kinds.{component_kinds, key_sort, kinds_of}
use Rattle.kat_design.specs.Sorted.{AreMatched, FitsCell, FitsSet, FitsTable, FitsTallies, FitsTally, GivesKind, IsComponent, IsParameter, IsWeight, IsWellSorted}
use Rattle.kat_design.specs.declared.designs.Leaf.{Leaf as Gift}
use Rattle.kat_design.specs.declared.kinds.Kind.{Kind}
use Rattle.kat_design.specs.declared.kinds.Kind.TheVariants as kind
use Rattle.kat_design.proofs.GivenLeaves.{beside}
use Rattle.kat_design.proofs.SmallDesigns.{leaf_of_kind, shape_leaves, two, value_leaf}
use Rattle.kat_claims.specs.Effects.{Leaves, added_read, cell_after, effect_at, gift_read, grown_read, join_read, leaf_after, same_key_read, set_after, table_after, tallies_after, tally_after}
use Rattle.kat_symbols.specs.Readers.{read_once}
use Rattle.kat_symbols.specs.declared.names.Instance.{Instance}
use Rattle.kat_symbols.specs.declared.names.Name.TheVariants.{Effect}
use Rattle.kat_invariant.specs.Legal.{FitsHeld}
use Rattle.kat_invariant.specs.Situations.{Held, given_at, held_after, is_added, leaf_in}
use Rattle.kat_invariant.specs.Situations.Held.{cell, member, total}
use Rattle.kat_invariant.proofs.Gifts.{ArgumentsFit, GiftFits, IsDone, gift_kind, gift_reads, if_reads, keys_equal, kind_fits, same_key_reads, weight_fits, weight_is, weight_number}
use Rattle.kat_invariant.proofs.Having.{ReadsValue, known_has, means_number, means_truth, number_as, or_has, plus_has}
use Rattle.kat_invariant.proofs.Joins.{ReadsLeaves, SameKind, join_reads, joined_kinds, leaves_alike}
use Rattle.kat_invariant.proofs.Logic.{Meant, measure, Means, reads_as, reads_once, reads_two}
use Rattle.kat_invariant.proofs.Saying.{int_same}
use Rattle.kat_invariant.proofs.Situated.{IsKeyAt, key_at}
use Rattle.std.proofs.lemmas.Int.{ints}
use Rattle.kat_seq.proofs.Sorting.{got_made}

-- what an operation gives to each leaf of a component
abbrev pub or_nothing : Option (List Gift) → List Gift
or_nothing None = []
or_nothing (Some gifts) = gifts

abbrev pub alone : Option Gift → List Gift
alone None = []
alone (Some gift) = gift ∷ []

abbrev pub without_key : {A : Type 0} → Option (ℕ × A) → Option A
without_key None = None
without_key (Some effect) = Some effect.1

abbrev pub gifts_given : Option ComponentForm → Done → List Gift
gifts_given None done = []
gifts_given (Some (a_cell shape starts effects)) done = or_nothing (effect_of effects done)
gifts_given (Some (a_table key shape starts effects)) done = or_nothing (without_key (effect_of effects done))
gifts_given (Some (a_set key effects)) done = []
gifts_given (Some (a_tally effects)) done = alone (effect_of effects done)
gifts_given (Some (tallies key effects)) done = alone (without_key (effect_of effects done))

abbrev pub gift_value : Done → Option Gift → Value
gift_value done None = absent
gift_value done (Some gift) = leaf_value done gift

abbrev pub effect_value : DesignForm → Done → ℕ → ℕ → Value
effect_value d done c l = gift_value done (slice_get (gifts_given (slice_get d.components c) done) l)

kinds_wide : (f : CellForm) → length (kinds_of f) ≡ width_of f
kinds_wide f = sym (length-map (kinds_of f) leaf_of_kind) ∙ ap length (shape_leaves f) ∙ kinds_long f

kind_inside : (f : CellForm) (l : ℕ) (k : Kind) → slice_get (kinds_of f) l ≡ Some k → l < width_of f
kind_inside f l k e = subst (λ n. l < n) (kinds_wide f) (slice_get_within (kinds_of f) l k e)

kind_of_leaf : (f : CellForm) (l : ℕ) → l < width_of f → slice_get (kinds_of f) l ≡ Some (get_or (kinds_of f) l kind.Truth)
kind_of_leaf f l lt = slice_get-get_or (kinds_of f) l kind.Truth (subst (λ n. l < n) (sym (kinds_wide f)) lt)

if_some : (shape : CellForm) (c : Filled) (done : Done) (b : Bool) (gifts : List Gift) (l : ℕ)
    → leaf_of (cell_added shape c (if b then Some gifts else None) done) l ≡ (if b then leaf_of (joined c (filled_with shape (map (leaf_value done) gifts))) l else leaf_of c l)
if_some shape c done true gifts l = refl
if_some shape c done false gifts l = refl

added_value : (b t : Bool) → (if t then value.Bool (b || true) else value.Bool b) ≡ value.Bool (b || t)
added_value true true = refl
added_value true false = refl
added_value false true = refl
added_value false false = refl

weight_if : (done : Done) (b : Bool) (gift : Gift) (z : ℤ) → (if b then value.Num (z +ℤ pos (natural (number_of (leaf_value done gift)))) else value.Num z) ≡ value.Num (z +ℤ pos (weight_of (if b then Some gift else None) done))
weight_if done true gift z = refl
weight_if done false gift z = ap value.Num (add_zero z)
  where
    add_zero : (x : ℤ) → x ≡ x +ℤ pos 0
    add_zero x = omega (arith, ints)

no_weight : (z : ℤ) → z ≡ z +ℤ pos 0
no_weight z = omega (arith, ints)

module _ (d : DesignForm) (sorted : IsWellSorted d) (done : Done) (op : OperationForm) (signed : slice_get d.sig.ops done.op ≡ Some (op_sig op)) (fit : ArgumentsFit op.params done)
    (m : Meant) (keys : Instance → Value) (means : IsDone m keys done) (c : ℕ) (at : Option Instance) (old : Leaves) where
  -- the effect of the operation
  pub record HasEffect {A : Type 0} (Match : Option A → OpSig → Type 0) (effects : List (Option A)) : Type 0 where
    pub effect : Option A
    pub is : option_flatten (slice_get effects done.op) ≡ effect
    pub fits : Match effect (op_sig op)

  effect_there : {A : Type 0} (Match : Option A → OpSig → Type 0) (effects : List (Option A)) → AreMatched Match effects d.sig.ops → HasEffect Match effects
  effect_there Match effects h =
      let b = beside Match effects d.sig.ops h done.op (op_sig op) signed in
      record { effect = b.value; is = ap option_flatten b.there; fits = b.matched }

  -- gifts to the leaves of a shape
  gift_kinds : (gifts : List Gift) (kinds : List Kind) → AreMatched (GivesKind (param_sorts op.params)) gifts kinds → map leaf_kind_of (map (leaf_value done) gifts) ≡ map leaf_of_kind kinds
  gift_kinds [] [] h = refl
  gift_kinds [] (k ∷ kinds) h = absurd h
  gift_kinds (g ∷ gifts) [] h = absurd h
  gift_kinds (g ∷ gifts) (k ∷ kinds) h =
      two (leaf_kind_of (leaf_value done g)) (leaf_of_kind k) (map leaf_kind_of (map (leaf_value done) gifts)) (map leaf_of_kind kinds)
      (value_leaf (leaf_value done g) ∙ ap leaf_of_kind (gift_kind m keys done op.params fit means g k h.0)) (gift_kinds gifts kinds h.1)

  once_reads : (l : ℕ) (gift : Gift) → GiftFits op.params gift → m.later (Effect c l) ≡ leaf_value done gift → ReadsValue m (λ r. read_once (Effect c l) (gift_read op.params gift) r) (leaf_value done gift)
  once_reads l gift h told = subst (ReadsValue m (λ r. read_once (Effect c l) (gift_read op.params gift) r)) told
      (reads_once m (Effect c l) (gift_read op.params gift) (subst (ReadsValue m (gift_read op.params gift)) (sym told) (gift_reads m keys done op.params fit means gift h)))

  gifts_read : (shape : CellForm) (gifts : List Gift) → AreMatched (GivesKind (param_sorts op.params)) gifts (kinds_of shape) → ((l : ℕ) (gift : Gift) → slice_get gifts l ≡ Some gift → m.later (Effect c l) ≡ leaf_value done gift)
      → ReadsLeaves m (effect_at op.params c gifts) 0 (width_of shape) (map (leaf_value done) gifts)
  gifts_read shape gifts h told i lt =
      let b = beside (GivesKind (param_sorts op.params)) gifts (kinds_of shape) h i (get_or (kinds_of shape) i kind.Truth) (kind_of_leaf shape i lt) in
      let here : slice_get gifts (0 + i) ≡ Some b.value = subst (λ n. slice_get gifts n ≡ Some b.value) (let same : i ≡ 0 + i = omega arith in same) b.there in
      let value_is : argument (map (leaf_value done) gifts) i ≡ leaf_value done b.value = get_or_from_slice_get (map (leaf_value done) gifts) i (leaf_value done b.value) absent (slice_get-map (leaf_value done) gifts i ∙ ap (option_map (leaf_value done)) b.there) in
      λ r. rw (here, value_is) (once_reads (0 + i) b.value (kind_fits op.params b.value _ b.matched) (told (0 + i) b.value here) r)

  module _ (shape : CellForm) (good : IsGoodForm shape) (c0 : Filled) (fits : shape_of c0 ≡ shape) (old_reads : (l : ℕ) (k : Kind) → slice_get (kinds_of shape) l ≡ Some k → ReadsValue m (old l) (leaf_of c0 l)) where
    old_kinds : map leaf_kind_of (leaves_of c0) ≡ leaf_kinds_of shape
    old_kinds = leaf_kinds_of-shape_of c0 ∙ ap leaf_kinds_of fits

    old_leaves : ReadsLeaves m old 0 (width_of shape) (leaves_of c0)
    old_leaves i lt = let same : i ≡ 0 + i = omega arith in subst (λ n. ReadsValue m (old n) (argument (leaves_of c0) i)) same (old_reads i (get_or (kinds_of shape) i kind.Truth) (kind_of_leaf shape i lt))

    new_kinds : (gifts : List Gift) → AreMatched (GivesKind (param_sorts op.params)) gifts (kinds_of shape) → map leaf_kind_of (map (leaf_value done) gifts) ≡ leaf_kinds_of shape
    new_kinds gifts h = gift_kinds gifts (kinds_of shape) h ∙ shape_leaves shape

    joined_is : (gifts : List Gift) → AreMatched (GivesKind (param_sorts op.params)) gifts (kinds_of shape)
        → leaves_of (joined c0 (filled_with shape (map (leaf_value done) gifts))) ≡ joined_leaves shape (leaves_of c0) (map (leaf_value done) gifts)
    joined_is gifts h =
        let F = filled_with shape (map (leaf_value done) gifts) in
        joins_leaf_by_leaf c0 F (subst IsGoodForm (sym fits) good) (fits ∙ sym (filled_shape shape (map (leaf_value done) gifts)))
        ∙ ap (λ f. joined_leaves f (leaves_of c0) (leaves_of F)) fits
        ∙ ap (joined_leaves shape (leaves_of c0)) (filled_leaves shape (map (leaf_value done) gifts) (new_kinds gifts h))

    pub join_is : (gifts : List Gift) → AreMatched (GivesKind (param_sorts op.params)) gifts (kinds_of shape) → ((l : ℕ) (gift : Gift) → slice_get gifts l ≡ Some gift → m.later (Effect c l) ≡ leaf_value done gift)
        → (l : ℕ) (k : Kind) → slice_get (kinds_of shape) l ≡ Some k → ReadsValue m (join_read old (effect_at op.params c gifts) shape 0 l) (leaf_of (joined c0 (filled_with shape (map (leaf_value done) gifts))) l)
    join_is gifts h told l k found =
        subst (λ vs. ReadsValue m (join_read old (effect_at op.params c gifts) shape 0 l) (argument vs l)) (sym (joined_is gifts h))
        (join_reads m old (effect_at op.params c gifts) shape (leaves_of c0) (map (leaf_value done) gifts) 0 l l old_kinds (new_kinds gifts h) old_leaves (gifts_read shape gifts h told) (omega arith) (kind_inside shape l k found))

    pub join_alike : (gifts : List Gift) → AreMatched (GivesKind (param_sorts op.params)) gifts (kinds_of shape) → (l : ℕ) → SameKind (leaf_of (joined c0 (filled_with shape (map (leaf_value done) gifts))) l) (leaf_of c0 l)
    join_alike gifts h l = subst (λ vs. SameKind (argument vs l) (leaf_of c0 l)) (sym (joined_is gifts h))
        (leaves_alike shape (joined_leaves shape (leaves_of c0) (map (leaf_value done) gifts)) (leaves_of c0) l (joined_kinds shape (leaves_of c0) (map (leaf_value done) gifts) old_kinds (new_kinds gifts h)) old_kinds)

  -- the value at the key of an instance
  key_test : (i : Instance) (k : Sort) (j : ℕ) → k ≢ sort.Bool → HasSort k (keys i) → IsParameter (param_sorts op.params) j k → int_same (measure (keys i)) (measure (argument done.args j)) ≡ is_same (keys i) (argument done.args j)
  key_test i k j ordered h e =
      let p = got_made (λ (p : Param). p.sort) op.params j k e in
      sym (keys_equal k (keys i) (argument done.args j) ordered h (subst (λ t. HasSort t (argument done.args j)) p.2 (fit j p.0 p.1)))

  grown_reads : (l : ℕ) (gift : Gift) (z : ℤ) → IsWeight (param_sorts op.params) gift → m.later (Effect c 0) ≡ leaf_value done gift → ReadsValue m (old l) (value.Num z) → ReadsValue m (grown_read old op.params c gift l) (value.Num (z +ℤ pos (natural (number_of (leaf_value done gift)))))
  grown_reads l gift z weighs told h r =
      let a = old l r in let b = read_once (Effect c 0) (gift_read op.params gift) a.1 in
      reads_two m r a.1 b.1 (Means a.0 (value.Num z)) (Means b.0 (leaf_value done gift)) _ (h r) (once_reads 0 gift (weight_fits op.params gift weighs) told a.1)
      (λ w p q. record { is = plus_has w _ _ z _ (means_number w a.0 (value.Num z) tt p) (number_as w _ _ _ (weight_is m keys done op.params fit means gift weighs) (means_number w b.0 (leaf_value done gift) (weight_number m keys done op.params fit means gift weighs) q)) })

  added_reads : (l : ℕ) (b : Bool) → ReadsValue m (old l) (value.Bool b) → ReadsValue m (added_read old l) (value.Bool (b || true))
  added_reads l b h r = reads_as m r (old l r).1 _ _ (h r) (λ w p. record { is = or_has w _ _ _ _ (means_truth w (old l r).0 (value.Bool b) tt p) (known_has w true) })

  -- each kind of component
  cell_is : (shape : CellForm) (starts : List Value) (effects : List (Option (List Gift))) (c0 : Filled) (l : ℕ) (k : Kind) → IsComponent d.sig.ops (a_cell shape starts effects) → shape_of c0 ≡ shape → slice_get (kinds_of shape) l ≡ Some k
      → ((n : ℕ) (q : Kind) → slice_get (kinds_of shape) n ≡ Some q → ReadsValue m (old n) (leaf_of c0 n))
      → ((n : ℕ) → m.later (Effect c n) ≡ gift_value done (slice_get (or_nothing (effect_of effects done)) n))
      → ReadsValue m (cell_after old op.params c shape (option_flatten (slice_get effects done.op)) l) (leaf_of (cell_added shape c0 (effect_of effects done) done) l)
  cell_is shape starts effects c0 l k component fits found old_reads told = by_effect (effect_there (FitsCell (kinds_of shape)) effects component.2)
    where
      of_effect : (e : Option (List Gift)) → option_flatten (slice_get effects done.op) ≡ e → FitsCell (kinds_of shape) e (op_sig op)
          → ReadsValue m (cell_after old op.params c shape e l) (leaf_of (cell_added shape c0 e done) l)
      of_effect None e h = old_reads l k found
      of_effect (Some gifts) e h = join_is shape component.0 c0 fits old_reads gifts h (λ n gift at'. told n ∙ ap (λ o. gift_value done (slice_get (or_nothing o) n)) e ∙ ap (gift_value done) at') l k found

      by_effect : HasEffect (FitsCell (kinds_of shape)) effects → ReadsValue m (cell_after old op.params c shape (option_flatten (slice_get effects done.op)) l) (leaf_of (cell_added shape c0 (effect_of effects done) done) l)
      by_effect h = subst (λ e. ReadsValue m (cell_after old op.params c shape e l) (leaf_of (cell_added shape c0 e done) l)) (sym h.is) (of_effect h.effect h.is h.fits)

  table_is : (i : Instance) (key : Sort) (shape : CellForm) (starts : List Value) (effects : List (Option (ℕ × List Gift))) (c0 : Filled) (l : ℕ) (k : Kind) → IsComponent d.sig.ops (a_table key shape starts effects) → HasSort key (keys i) → shape_of c0 ≡ shape → slice_get (kinds_of shape) l ≡ Some k
      → ((n : ℕ) (q : Kind) → slice_get (kinds_of shape) n ≡ Some q → ReadsValue m (old n) (leaf_of c0 n))
      → ((n : ℕ) → m.later (Effect c n) ≡ gift_value done (slice_get (or_nothing (without_key (effect_of effects done))) n))
      → ReadsValue m (table_after old op.params c (Some i) shape (option_flatten (slice_get effects done.op)) l) (leaf_of (cell_added shape c0 (given_at (keys i) done (effect_of effects done)) done) l)
  table_is i key shape starts effects c0 l k component key_fits fits found old_reads told = by_effect (effect_there (FitsTable key (kinds_of shape)) effects component.3)
    where
      of_effect : (e : Option (ℕ × List Gift)) → option_flatten (slice_get effects done.op) ≡ e → FitsTable key (kinds_of shape) e (op_sig op)
          → ReadsValue m (table_after old op.params c (Some i) shape e l) (leaf_of (cell_added shape c0 (given_at (keys i) done e) done) l)
      of_effect None e h = old_reads l k found
      of_effect (Some effect) e h =
          let new = leaf_of (joined c0 (filled_with shape (map (leaf_value done) effect.1))) l in
          let test = key_test i key effect.0 component.0 key_fits h.0 in
          let value_is : (if int_same (measure (keys i)) (measure (argument done.args effect.0)) then new else leaf_of c0 l) ≡ leaf_of (cell_added shape c0 (if is_same (keys i) (argument done.args effect.0) then Some effect.1 else None) done) l =
          ap (λ b. if b then new else leaf_of c0 l) test ∙ sym (if_some shape c0 done (is_same (keys i) (argument done.args effect.0)) effect.1 l) in
          subst (ReadsValue m (table_after old op.params c (Some i) shape (Some effect) l)) value_is
          (if_reads m (same_key_read (Some i) effect.0) (join_read old (effect_at op.params c effect.1) shape 0 l) (old l) (int_same (measure (keys i)) (measure (argument done.args effect.0))) new (leaf_of c0 l)
          (join_alike shape component.1 c0 fits old_reads effect.1 h.1 l) (same_key_reads m keys done op.params fit means i effect.0)
          (join_is shape component.1 c0 fits old_reads effect.1 h.1 (λ n gift at'. told n ∙ ap (λ o. gift_value done (slice_get (or_nothing (without_key o)) n)) e ∙ ap (gift_value done) at') l k found) (old_reads l k found))

      by_effect : HasEffect (FitsTable key (kinds_of shape)) effects → ReadsValue m (table_after old op.params c (Some i) shape (option_flatten (slice_get effects done.op)) l) (leaf_of (cell_added shape c0 (given_at (keys i) done (effect_of effects done)) done) l)
      by_effect h = subst (λ e. ReadsValue m (table_after old op.params c (Some i) shape e l) (leaf_of (cell_added shape c0 (given_at (keys i) done e) done) l)) (sym h.is) (of_effect h.effect h.is h.fits)

  set_is : (i : Instance) (key : Sort) (effects : List (Option ℕ)) (b : Bool) (l : ℕ) → IsComponent d.sig.ops (a_set key effects) → HasSort key (keys i) → ReadsValue m (old l) (value.Bool b)
      → ReadsValue m (set_after old (Some i) (option_flatten (slice_get effects done.op)) l) (value.Bool (b || is_added (keys i) done (effect_of effects done)))
  set_is i key effects b l component key_fits old_reads = by_effect (effect_there (FitsSet key) effects component.1)
    where
      or_false : (t : Bool) → t ≡ (t || false)
      or_false true = refl
      or_false false = refl

      of_effect : (e : Option ℕ) → FitsSet key e (op_sig op) → ReadsValue m (set_after old (Some i) e l) (value.Bool (b || is_added (keys i) done e))
      of_effect None h = subst (λ t. ReadsValue m (old l) (value.Bool t)) (or_false b) old_reads
      of_effect (Some j) h =
          let test = key_test i key j component.0 key_fits h in
          subst (ReadsValue m (set_after old (Some i) (Some j) l)) (ap (λ t. if t then value.Bool (b || true) else value.Bool b) test ∙ added_value b (is_same (keys i) (argument done.args j)))
          (if_reads m (same_key_read (Some i) j) (added_read old l) (old l) (int_same (measure (keys i)) (measure (argument done.args j))) (value.Bool (b || true)) (value.Bool b) (inl (tt, tt))
          (same_key_reads m keys done op.params fit means i j) (added_reads l b old_reads) old_reads)

      by_effect : HasEffect (FitsSet key) effects → ReadsValue m (set_after old (Some i) (option_flatten (slice_get effects done.op)) l) (value.Bool (b || is_added (keys i) done (effect_of effects done)))
      by_effect h = subst (λ e. ReadsValue m (set_after old (Some i) e l) (value.Bool (b || is_added (keys i) done e))) (sym h.is) (of_effect h.effect h.fits)

  tally_is : (effects : List (Option Gift)) (z : ℤ) (l : ℕ) → IsComponent d.sig.ops (a_tally effects) → ReadsValue m (old l) (value.Num z) → m.later (Effect c 0) ≡ gift_value done (slice_get (alone (effect_of effects done)) 0)
      → ReadsValue m (tally_after old op.params c (option_flatten (slice_get effects done.op)) l) (value.Num (z +ℤ pos (weight_of (effect_of effects done) done)))
  tally_is effects z l component old_reads told = by_effect (effect_there FitsTally effects component)
    where
      of_effect : (e : Option Gift) → option_flatten (slice_get effects done.op) ≡ e → FitsTally e (op_sig op) → ReadsValue m (tally_after old op.params c e l) (value.Num (z +ℤ pos (weight_of e done)))
      of_effect None e h = subst (λ x. ReadsValue m (old l) (value.Num x)) (no_weight z) old_reads
      of_effect (Some gift) e h = grown_reads l gift z h (told ∙ ap (λ o. gift_value done (slice_get (alone o) 0)) e) old_reads

      by_effect : HasEffect FitsTally effects → ReadsValue m (tally_after old op.params c (option_flatten (slice_get effects done.op)) l) (value.Num (z +ℤ pos (weight_of (effect_of effects done) done)))
      by_effect h = subst (λ e. ReadsValue m (tally_after old op.params c e l) (value.Num (z +ℤ pos (weight_of e done)))) (sym h.is) (of_effect h.effect h.is h.fits)

  tallies_is : (i : Instance) (key : Sort) (effects : List (Option (ℕ × Gift))) (z : ℤ) (l : ℕ) → IsComponent d.sig.ops (tallies key effects) → HasSort key (keys i) → ReadsValue m (old l) (value.Num z)
      → m.later (Effect c 0) ≡ gift_value done (slice_get (alone (without_key (effect_of effects done))) 0)
      → ReadsValue m (tallies_after old op.params c (Some i) (option_flatten (slice_get effects done.op)) l) (value.Num (z +ℤ pos (weight_of (given_at (keys i) done (effect_of effects done)) done)))
  tallies_is i key effects z l component key_fits old_reads told = by_effect (effect_there (FitsTallies key) effects component.1)
    where
      of_effect : (e : Option (ℕ × Gift)) → option_flatten (slice_get effects done.op) ≡ e → FitsTallies key e (op_sig op)
          → ReadsValue m (tallies_after old op.params c (Some i) e l) (value.Num (z +ℤ pos (weight_of (given_at (keys i) done e) done)))
      of_effect None e h = subst (λ x. ReadsValue m (old l) (value.Num x)) (no_weight z) old_reads
      of_effect (Some effect) e h =
          let test = key_test i key effect.0 component.0 key_fits h.0 in
          let grown = value.Num (z +ℤ pos (natural (number_of (leaf_value done effect.1)))) in
          subst (ReadsValue m (tallies_after old op.params c (Some i) (Some effect) l)) (ap (λ t. if t then grown else value.Num z) test ∙ weight_if done (is_same (keys i) (argument done.args effect.0)) effect.1 z)
          (if_reads m (same_key_read (Some i) effect.0) (grown_read old op.params c effect.1 l) (old l) (int_same (measure (keys i)) (measure (argument done.args effect.0))) grown (value.Num z) (inr (tt, tt))
          (same_key_reads m keys done op.params fit means i effect.0) (grown_reads l effect.1 z h.1 (told ∙ ap (λ o. gift_value done (slice_get (alone (without_key o)) 0)) e) old_reads) old_reads)

      by_effect : HasEffect (FitsTallies key) effects → ReadsValue m (tallies_after old op.params c (Some i) (option_flatten (slice_get effects done.op)) l) (value.Num (z +ℤ pos (weight_of (given_at (keys i) done (effect_of effects done)) done)))
      by_effect h = subst (λ e. ReadsValue m (tallies_after old op.params c (Some i) e l) (value.Num (z +ℤ pos (weight_of (given_at (keys i) done e) done)))) (sym h.is) (of_effect h.effect h.is h.fits)

  -- any component
  pub leaf_is_after : (component : ComponentForm) (h : Held) (l : ℕ) (k : Kind) → IsComponent d.sig.ops component → FitsHeld component h → IsKeyAt keys (key_sort component) at → slice_get (component_kinds component) l ≡ Some k
      → ((n : ℕ) (q : Kind) → slice_get (component_kinds component) n ≡ Some q → ReadsValue m (old n) (leaf_in h n))
      → ((n : ℕ) → m.later (Effect c n) ≡ gift_value done (slice_get (gifts_given (Some component) done) n))
      → ReadsValue m (leaf_after old op.params done.op c at (Some component) l) (leaf_in (held_after component done (key_at keys at) h) l)
  leaf_is_after (a_cell shape starts effects) (cell c0) l k good fits key found old_reads told = cell_is shape starts effects c0 l k good fits found old_reads told
  leaf_is_after (a_table q shape starts effects) (cell c0) l k good fits key found old_reads told = by_key at key
    where
      by_key : (i : Option Instance) → IsKeyAt keys (Some q) i → ReadsValue m (leaf_after old op.params done.op c i (Some (a_table q shape starts effects)) l) (leaf_in (held_after (a_table q shape starts effects) done (key_at keys i) (cell c0)) l)
      by_key None h = absurd h
      by_key (Some i) h = table_is i q shape starts effects c0 l k good h fits found old_reads told
  leaf_is_after (a_set q effects) (member b) l k good fits key found old_reads told = by_key at key
    where
      by_key : (i : Option Instance) → IsKeyAt keys (Some q) i → ReadsValue m (leaf_after old op.params done.op c i (Some (a_set q effects)) l) (leaf_in (held_after (a_set q effects) done (key_at keys i) (member b)) l)
      by_key None h = absurd h
      by_key (Some i) h = set_is i q effects b l good h (old_reads l k found)
  leaf_is_after (a_tally effects) (total z) l k good fits key found old_reads told = tally_is effects z l good (old_reads l k found) (told 0)
  leaf_is_after (tallies q effects) (total z) l k good fits key found old_reads told = by_key at key
    where
      by_key : (i : Option Instance) → IsKeyAt keys (Some q) i → ReadsValue m (leaf_after old op.params done.op c i (Some (tallies q effects)) l) (leaf_in (held_after (tallies q effects) done (key_at keys i) (total z)) l)
      by_key None h = absurd h
      by_key (Some i) h = tallies_is i q effects z l good h (old_reads l k found) (told 0)
  leaf_is_after (a_cell shape starts effects) (member b) l k good fits key found old_reads told = absurd fits
  leaf_is_after (a_cell shape starts effects) (total b) l k good fits key found old_reads told = absurd fits
  leaf_is_after (a_table q shape starts effects) (member b) l k good fits key found old_reads told = absurd fits
  leaf_is_after (a_table q shape starts effects) (total b) l k good fits key found old_reads told = absurd fits
  leaf_is_after (a_set q effects) (cell b) l k good fits key found old_reads told = absurd fits
  leaf_is_after (a_set q effects) (total b) l k good fits key found old_reads told = absurd fits
  leaf_is_after (a_tally effects) (cell b) l k good fits key found old_reads told = absurd fits
  leaf_is_after (a_tally effects) (member b) l k good fits key found old_reads told = absurd fits
  leaf_is_after (tallies q effects) (cell b) l k good fits key found old_reads told = absurd fits
  leaf_is_after (tallies q effects) (member b) l k good fits key found old_reads told = absurd fits
