-- The situation after an operation that may follow is legal.
use Rattle.std.proofs.Common.{◌≡◌, ℕ, zero, suc, ◌<◌, Bool, true, false, nat_eq, List, [], ◌∷◌, length, map, Option, Some, None, refl, sym, ap, subst, ◌∙◌, All}
use Rattle.std.specs.Prelude.{slice_get, pos, reverse}
use Rattle.std.proofs.lemmas.Bool.{eqb-true}
use Rattle.std.proofs.lemmas.Bool.Decides.{Decides-eqb}
use Rattle.std.proofs.lemmas.List.{length-map}
use Rattle.std.proofs.lemmas.List.Elements.{All-head, All-tail}
use Rattle.std.proofs.lemmas.Option.{slice_get_within}
use Rattle.kat_num.specs.Values.{HasSort}
use Rattle.kat_num.specs.declared.values.Value.{Value}
use Rattle.kat_num.specs.declared.values.Value.TheVariants as value
use Rattle.kat_expr.specs.Evaluation.{value_of}
use Rattle.kat_expr.specs.Slots.{argument, slot_at}
use Rattle.kat_expr.specs.Sorts.{FitsKept, FitsScope, FitsSort, Kept as KeptSort, Scope}
use Rattle.kat_expr.specs.Sorts.Kept.{one, each}
use Rattle.kat_expr.specs.declared.expressions.Slot.{Slot}
use Rattle.kat_expr.proofs.Sorted.{value_has_sort}
use Rattle.kat_type.specs.Alike.{element_kind as type_kind}
use Rattle.kat_type.specs.Fits.{AssignedFits, FitsEntry, FitsPlain, IsTable, OperationFits, kept_of, sorts_of}
use Rattle.kat_type.specs.Ranks.{element_value, kind_of, rank_of, stated_rank}
use Rattle.kat_type.specs.Types.{Assigned, OperationForm, TypeForm}
use Rattle.kat_type.specs.Types.Assigned.{to_field, to_entry, to_start}
use Rattle.kat_type.specs.declared.done.Done.{Done}
use Rattle.kat_type.specs.declared.types.Field.{Field as TypeField}
use Rattle.kat_type.specs.declared.types.Field.TheVariants as field
use Rattle.kat_type.specs.declared.types.Param.{Param}
use Rattle.kat_type.specs.declared.types.Rank.{Rank}
use Rattle.kat_type.specs.declared.types.Rank.TheVariants as rank
use Rattle.kat_seq.specs.Sorts.{KeepsFields}
use Rattle.kat_seq.specs.States.{stepped}
use Rattle.kat_seq.proofs.Sorting.{got_made}
use Rattle.kat_shape.specs.Flats.{filled_with}
use Rattle.kat_shape.specs.Forms.{CellForm, IsGoodForm}
use Rattle.kat_shape.specs.Laws.{shape_of-joined}
use Rattle.kat_shape.specs.Values.{Filled, shape_of}
use Rattle.kat_shape.proofs.Filling.{filled_shape}
use Rattle.kat_design.specs.Denotations.{cell_added}
use Rattle.kat_design.specs.Designs.{ComponentForm, DesignForm}
use Rattle.kat_design.specs.Designs.ComponentForm.{a_cell, a_table, a_set, a_tally, tallies}
use Rattle.kat_design.specs.Effects.{effect_of, leaf_value}
use Rattle.kat_design.specs.Sorted.{AreMatched, IsComponent, IsWellSorted}
use Rattle.kat_design.specs.declared.designs.Leaf.{Leaf as Gift}
use Rattle.kat_claims.specs.States.{field_start}
use Rattle.kat_invariant.specs.Accepted.{GoTogether, HasKeys}
use Rattle.kat_invariant.specs.Legal.{FitsHeld, HasElement, HoldsParts, IsLegal, MayFollow, StartsAt}
use Rattle.kat_invariant.specs.Situations.{Held, Last, Situation, after, given_at, held_after, part_after}
use Rattle.kat_invariant.specs.Situations.Held.{cell, member, total}
use Rattle.kat_invariant.proofs.After.{KeyFits, all_reversed, state_is}
use Rattle.kat_invariant.proofs.Claims.{RanksFit}
use Rattle.kat_invariant.proofs.FieldsAfter.{cleared_stays, fits_there, keyed_stays, plain_stays}
use Rattle.kat_invariant.proofs.Known.{ranks_fit}
use Rattle.kat_invariant.proofs.Meaning.{component_is}
use Rattle.kat_invariant.proofs.Ranking.{done_kinds, operation_fits}
use Rattle.kat_invariant.proofs.Stepping.{length_behind, place_assigned, starts_behind, state_behind, written, written_elsewhere, written_there}

-- keys of tables by their places
pub tables_fit : (fields : List TypeField) (f : ℕ) (k : KeptSort) → All HasKeys fields → slice_get (map kept_of fields) f ≡ Some k → KeyFits k
tables_fit [] f k h e = absurd (cc)
tables_fit (x ∷ fields) zero k h e = subst KeyFits (let is : kept_of x ≡ k = cc in is) (of_field x (All-head HasKeys x fields h))
  where
    of_field : (y : TypeField) → HasKeys y → KeyFits (kept_of y)
    of_field (field.Plain name s start) h = tt
    of_field (field.Keyed name key s start) h = h
tables_fit (x ∷ fields) (suc f) k h e = tables_fit fields f k (All-tail HasKeys x fields h) e

-- fields keep what they are to keep
module _ (scope : Scope) (old : List Slot) (args : List Value) (fits : FitsScope scope old args) where
  assigned_stays : (a : Assigned) (k : KeptSort) (slot : Slot) → AssignedFits scope a → slice_get scope.fields (place_assigned a) ≡ Some k → FitsKept k slot → FitsKept k (written old args a slot)
  assigned_stays (to_field place right) (one t) slot h there kept =
      let right_fits : FitsSort scope right t = fits_there (slice_get scope.fields place) (one t) (FitsPlain scope right) there h in
      plain_stays t (value_of right old args) slot (value_has_sort scope old args fits right t right_fits) kept
  assigned_stays (to_field place right) (each k t) slot h there kept = absurd (fits_there (slice_get scope.fields place) (each k t) (FitsPlain scope right) there h)
  assigned_stays (to_entry place key right) (one t) slot h there kept = absurd (fits_there (slice_get scope.fields place) (one t) (FitsEntry scope key right) there h)
  assigned_stays (to_entry place key right) (each k t) slot h there kept =
      let entry_fits : FitsEntry scope key right (each k t) = fits_there (slice_get scope.fields place) (each k t) (FitsEntry scope key right) there h in
      keyed_stays k t (argument args key) (value_of right old args) slot (fits.params key k entry_fits.0) (value_has_sort scope old args fits right t entry_fits.1) kept
  assigned_stays (to_start place) (one t) slot h there kept = absurd (fits_there (slice_get scope.fields place) (one t) IsTable there h)
  assigned_stays (to_start place) (each k t) slot h there kept = cleared_stays k t slot kept

  pub kept_behind : (f : ℕ) (k : KeptSort) → slice_get scope.fields f ≡ Some k → f < length old → FitsKept k (slot_at old f) → (more : List Assigned) → All (AssignedFits scope) more → FitsKept k (slot_at (state_behind old args more) f)
  kept_behind f k there within kept [] h = kept
  kept_behind f k there within kept (a ∷ more) h = by_test (nat_eq (place_assigned a) f) refl (kept_behind f k there within kept more (All-tail (AssignedFits scope) a more h))
    where
      not_same : nat_eq (place_assigned a) f ≡ false → f ≡ place_assigned a → ⊥
      not_same e is = let same : nat_eq (place_assigned a) f ≡ true = (Decides-eqb (place_assigned a) f).1 (sym is) in absurd (let both : true ≡ false = sym same ∙ e in cc)

      by_test : (b : Bool) → nat_eq (place_assigned a) f ≡ b → FitsKept k (slot_at (state_behind old args more) f) → FitsKept k (slot_at (state_behind old args (a ∷ more)) f)
      by_test true e rest =
          let is : place_assigned a ≡ f = eqb-true (place_assigned a) f e in
          let inside : place_assigned a < length (state_behind old args more) = subst (λ n. place_assigned a < n) (sym (length_behind old args more)) (subst (λ n. n < length old) (sym is) within) in
          let now : slot_at (state_behind old args (a ∷ more)) f ≡ written old args a (slot_at (state_behind old args more) f) = subst (λ n. slot_at (state_behind old args (a ∷ more)) n ≡ written old args a (slot_at (state_behind old args more) n)) is (written_there old args a (state_behind old args more) inside) in
          subst (FitsKept k) (sym now) (assigned_stays a k (slot_at (state_behind old args more) f) (All-head (AssignedFits scope) a more h) (ap (slice_get scope.fields) is ∙ there) rest)
      by_test false e rest = subst (FitsKept k) (sym (written_elsewhere old args a (state_behind old args more) f (not_same e))) rest

-- parts hold what they are to hold
cell_stays : (shape : CellForm) (c : Filled) (e : Option (List Gift)) (done : Done) → IsGoodForm shape → shape_of c ≡ shape → shape_of (cell_added shape c e done) ≡ shape
cell_stays shape c None done good h = h
cell_stays shape c (Some gifts) done good h =
    shape_of-joined c (filled_with shape (map (leaf_value done) gifts)) (record { good = subst IsGoodForm (sym h) good; same = h ∙ sym (filled_shape shape (map (leaf_value done) gifts)) }) ∙ h

held_stays : (d : DesignForm) (component : ComponentForm) (done : Done) (key : Value) (h : Held) → IsComponent d.sig.ops component → FitsHeld component h → FitsHeld component (held_after component done key h)
held_stays d (a_cell shape starts effects) done key (cell c) good h = cell_stays shape c (effect_of effects done) done good.0 h
held_stays d (a_table q shape starts effects) done key (cell c) good h = cell_stays shape c (given_at key done (effect_of effects done)) done good.1 h
held_stays d (a_set q effects) done key (member b) good h = tt
held_stays d (a_tally effects) done key (total z) good h = tt
held_stays d (tallies q effects) done key (total z) good h = tt
held_stays d (a_cell shape starts effects) done key (member b) good h = absurd h
held_stays d (a_cell shape starts effects) done key (total b) good h = absurd h
held_stays d (a_table q shape starts effects) done key (member b) good h = absurd h
held_stays d (a_table q shape starts effects) done key (total b) good h = absurd h
held_stays d (a_set q effects) done key (cell b) good h = absurd h
held_stays d (a_set q effects) done key (total b) good h = absurd h
held_stays d (a_tally effects) done key (cell b) good h = absurd h
held_stays d (a_tally effects) done key (member b) good h = absurd h
held_stays d (tallies q effects) done key (cell b) good h = absurd h
held_stays d (tallies q effects) done key (member b) good h = absurd h

pub parts_stay : (ty : TypeForm) (d : DesignForm) (s : Situation) (done : Done) → IsWellSorted d → HoldsParts d s.held → HoldsParts d (after ty d done s).held
parts_stay ty d s done sorted parts c component there key =
    subst (λ o. FitsHeld component (part_after o done key (s.held c key))) (sym there) (held_stays d component done key (s.held c key) (component_is d c component sorted there) (parts c component there key))

-- the rank of the operation is a legal last one
element_legal : (done : Done) (params : List Param) (es : List Rank) → map kind_of (map (element_value done) es) ≡ map (type_kind params) es
    → AreMatched (HasElement (record { rank = map (element_value done) es; time = done.time; replica = done.replica }) params) (map (element_value done) es) es
element_legal done params es kinds = each (map (element_value done) es) es kinds
  where
    one : (last : Last) (e : Rank) → last.time ≡ done.time → last.replica ≡ done.replica → kind_of (element_value done e) ≡ type_kind params e → HasElement last params (element_value done e) e
    one last (rank.Digit n) t r k = refl
    one last rank.Time t r k = ap (λ n. value.Num (pos n)) (sym t)
    one last rank.Replica t r k = ap (λ n. value.Num (pos n)) (sym r)
    one last (rank.Arg place) t r k = k

    each : (whole : List Value) (xs : List Rank) → map kind_of (map (element_value done) xs) ≡ map (type_kind params) xs
        → AreMatched (HasElement (record { rank = whole; time = done.time; replica = done.replica }) params) (map (element_value done) xs) xs
    each whole [] k = tt
    each whole (e ∷ xs) k = (one (record { rank = whole; time = done.time; replica = done.replica }) e refl refl (let first : kind_of (element_value done e) ≡ type_kind params e = cc in first), each whole xs (let rest : map kind_of (map (element_value done) xs) ≡ map (type_kind params) xs = cc in rest))

module _ (ty : TypeForm) (d : DesignForm) (go : GoTogether ty d) (s : Situation) (legal : IsLegal ty d s) (done : Done) (follows : MayFollow ty done s) where
  abbrev op : OperationForm
  op = follows.fits.operation

  op_good : OperationFits ty.fields op
  op_good = operation_fits ty done.op op go.type_sorted follows.fits.there

  tables : (f : ℕ) (k : KeptSort) → slice_get (map kept_of ty.fields) f ≡ Some k → KeyFits k
  tables f k there = tables_fit ty.fields f k go.keys there

  in_scope : FitsScope (sorts_of ty.fields op.params) s.state done.args
  in_scope = record { fields = legal.fields; params = λ j q e. let made = got_made (λ (p : Param). p.sort) op.params j q e in subst (λ t. HasSort t (argument done.args j)) made.2 (follows.fits.args j made.0 made.1) }

  behind_now : state_behind s.state done.args (reverse op.assigned) ≡ stepped ty s.state done
  behind_now = state_is ty d go.type_sorted go.ranks tables go.design_sorted go.signed s legal done follows (value.Bool true)

  pub fields_stay : KeepsFields ty (stepped ty s.state done)
  fields_stay f k there = subst (λ state. FitsKept k (slot_at state f)) behind_now
      (kept_behind (sorts_of ty.fields op.params) s.state done.args in_scope f k there (subst (λ n. f < n) (length-map ty.fields kept_of ∙ sym legal.whole) (slice_get_within (map kept_of ty.fields) f k there)) (legal.fields f k there)
      (reverse op.assigned) (all_reversed (AssignedFits (sorts_of ty.fields op.params)) op.assigned op_good.assigned))

  rank_is : rank_of ty done ≡ map (element_value done) op.ranks
  rank_is = ap (λ q. map (element_value done) (stated_rank q)) follows.fits.there

  kinds_are : map kind_of (map (element_value done) op.ranks) ≡ map (type_kind op.params) op.ranks
  kinds_are = done_kinds op.params done op.ranks op_good.ranks follows.fits.args

  pub ranks_stay : RanksFit ty (Some (record { rank = rank_of ty done; time = done.time; replica = done.replica }))
  ranks_stay = ranks_fit ty (record { rank = rank_of ty done; time = done.time; replica = done.replica }) done.op op go.type_sorted go.ranks follows.fits.there (ap (map kind_of) rank_is ∙ kinds_are)

  pub stays_legal : IsLegal ty d (after ty d done s)
  stays_legal = record {
    whole = sym (ap length behind_now) ∙ length_behind s.state done.args (reverse op.assigned) ∙ legal.whole;
    fields = fields_stay;
    starts = λ f. subst (λ state. StartsAt (field_start (slice_get ty.fields f)) (slot_at state f)) behind_now
        (starts_behind s.state done.args (field_start (slice_get ty.fields f)) f (legal.starts f) (reverse op.assigned));
    parts = parts_stay ty d s done go.design_sorted legal.parts;
    fresh = λ e. absurd (cc);
    last = record {
      time = follows.time;
      replica = follows.replica;
      op = done.op;
      operation = op;
      there = follows.fits.there;
      shape = subst (λ r. AreMatched (HasElement (record { rank = r; time = done.time; replica = done.replica }) op.params) r op.ranks) (sym rank_is) (element_legal done op.params op.ranks kinds_are);
    };
  }
