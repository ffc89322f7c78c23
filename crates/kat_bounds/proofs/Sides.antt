-- The sides at the start, before an operation and after it are light.
use Rattle.std.proofs.Common.{◌≡◌, ℕ, zero, suc, ◌*◌, ◌≤◌, pos, Bool, true, false, nat_eq, List, [], ◌∷◌, map, reverse, refl, ap, ◌∙◌, subst, arith, Option, None, Some, ◌+◌}
use Rattle.std.specs.Prelude.{if◌then◌else◌, MatchOption, option_map, slice_get, ◌^◌}
use Rattle.std.proofs.lemmas.Bool.{eqb-true}
use Rattle.std.proofs.lemmas.Option.{slice_get-map}
use Rattle.kat_num.specs.declared.values.Sort.{Sort}
use Rattle.kat_num.specs.declared.values.Sort.TheVariants.{Bool as OfBool, Int as OfInt, Nat as OfNat, Name as OfName}
use Rattle.kat_num.specs.declared.values.TheConstants.{NUMBER_LIMIT}
use Rattle.kat_num.specs.declared.values.Value.{Value}
use Rattle.kat_num.specs.declared.values.Value.TheVariants as value
use Rattle.kat_expr.specs.Slots.{argument}
use Rattle.kat_expr.specs.Sorts.{FitsSort, IsChosen, Kept as KeptSort, Scope}
use Rattle.kat_expr.specs.Terms.{Term, node_count}
use Rattle.kat_design.specs.Designs.{ComponentForm, DesignForm}
use Rattle.kat_design.specs.Designs.ComponentForm.{a_cell, a_table, a_set, a_tally, tallies}
use Rattle.kat_design.specs.Kinds.{kinds_of, leaf_kind}
use Rattle.kat_design.specs.Sorted.{AreMatched, IsStart}
use Rattle.kat_design.specs.declared.kinds.Kind.{Kind}
use Rattle.kat_type.specs.Fits.{AssignedFits, FitsEntry, FitsPlain, StartFits, kept_of, sorts_of}
use Rattle.kat_type.specs.Limits.{node_limit}
use Rattle.kat_type.specs.Types.{Assigned, OperationForm, TypeForm}
use Rattle.kat_type.specs.Types.Assigned.{to_field, to_entry, to_start}
use Rattle.kat_type.specs.Within.{IsLimited, IsLimitedRight, IsLimitedStart, right_of}
use Rattle.kat_type.specs.declared.types.Field.{Field as TypeField}
use Rattle.kat_type.specs.declared.types.Field.TheVariants as field
use Rattle.kat_type.specs.declared.types.Param.{Param}
use Rattle.kat_type.specs.declared.types.Rank.{Rank}
use Rattle.kat_type.specs.declared.types.Rank.TheVariants as rank
use Rattle.kat_claims.specs.Effects.{if_read, leaves_of, same_key_read}
use Rattle.kat_claims.specs.States.{field_start, is_truth_at, is_truth_field, is_truth_sort, leaf_start, old_side, start_at, start_side}
use Rattle.kat_vc.specs.Steps.{after_side, element_after, field_after, right_read, value_after}
use Rattle.kat_symbols.specs.Readers.{Reader, Symbol, read_name}
use Rattle.kat_symbols.specs.Symbols.{symbol_of}
use Rattle.kat_symbols.specs.declared.names.Instance.{Instance}
use Rattle.kat_symbols.specs.declared.names.Instance.TheVariants.{Argument}
use Rattle.kat_symbols.specs.declared.names.Name.{Name}
use Rattle.kat_symbols.specs.declared.names.Name.TheVariants.{Begun, Element, Key, Kept, Replica, Time}
use Rattle.kat_symbols.specs.declared.names.Place.{Place}
use Rattle.kat_symbols.specs.declared.names.Place.TheVariants.{Field, Leaf}
use Rattle.kat_bounds.specs.Named.{HasNames, StartIsNamed}
use Rattle.kat_bounds.proofs.Weights.{IsUpTo, up_more, natural_up}
use Rattle.kat_bounds.proofs.Facts.{most, most_above, nine_low, Every, known_light}
use Rattle.kat_bounds.proofs.Readers.{IsLight, IsSymbolUpTo, Yields, spend, flag_up, name_up, number_symbol, once_up, symbol_more, truth_symbol, variable_symbol}
use Rattle.kat_bounds.proofs.Caps.{kept_cap, kept_low, kept_some, kind_cap, kind_some, leaf_most, name_cap, place_cap, place_some, sort_cap, sort_more, start_up}
use Rattle.kat_bounds.proofs.Terms.{IsLightSide, number_read_up, truth_read_up}
use Rattle.kat_bounds.proofs.Asks.{written_symbol}
use Rattle.kat_bounds.proofs.Effects.{AreLeavesUp, IsReadUp, if_read_up, leaf_after_up, component_cost}

-- what an operation may leave in a field: a right side of this many nodes
unfoldable pub after_most : ℕ
after_most = NUMBER_LIMIT * node_limit

pub after_low : after_most ≤ most
unfolding after_most most
after_low = omega arith

pub after_limit : NUMBER_LIMIT ≤ after_most
unfolding after_most
after_limit = omega arith

pub limit_some : 1 ≤ NUMBER_LIMIT
limit_some = omega arith

pub nodes_low : (n : ℕ) → n ≤ node_limit → NUMBER_LIMIT * n ≤ after_most
unfolding after_most
nodes_low n h = omega (arith, h)

-- the slots that a value takes at most after an operation
unfoldable pub value_slots : ℕ
value_slots = 2 ^ 15

pub value_some : 1 ≤ value_slots
unfolding value_slots
value_some = omega arith

abbrev pub assigned_cost : Assigned → ℕ
assigned_cost (to_field place right) = 1 * node_count right
assigned_cost (to_entry place key right) = 3 + 1 * node_count right
assigned_cost (to_start place) = 0

abbrev pub field_cost : List Assigned → ℕ
field_cost [] = 1
field_cost (a ∷ more) = assigned_cost a + field_cost more

-- starts
pub record IsSound (f : TypeField) : Type 0 where
  pub fits : StartFits f
  pub few : IsLimitedStart f
  pub named : StartIsNamed f

abbrev pub IsSoundAt : Option TypeField → Type 0
IsSoundAt None = Unit {0}
IsSoundAt (Some f) = IsSound f

-- the starts of a component's leaves
abbrev pub IsRightAt : Option ComponentForm → Type 0
IsRightAt None = Unit {0}
IsRightAt (Some (a_cell shape starts effects)) = AreMatched IsStart starts (kinds_of shape)
IsRightAt (Some (a_table key shape starts effects)) = AreMatched IsStart starts (kinds_of shape)
IsRightAt (Some (a_set key effects)) = Unit {0}
IsRightAt (Some (a_tally effects)) = Unit {0}
IsRightAt (Some (tallies key effects)) = Unit {0}

-- what is known of a type and a design
pub record AreSound (ty : TypeForm) (design : DesignForm) : Type 0 where
  pub starts : (f : ℕ) → IsSoundAt (slice_get ty.fields f)
  pub leaves : (c : ℕ) → IsRightAt (slice_get design.components c)
  pub slots : (c : ℕ) → component_cost (slice_get design.components c) ≤ value_slots

abbrev pub kept_fields : TypeForm → List KeptSort
kept_fields ty = map kept_of ty.fields

-- an assignment to be trusted
pub record IsSoundAssigned (scope : Scope) (a : Assigned) : Type 0 where
  pub fits : AssignedFits scope a
  pub limited : IsLimitedRight a
  pub named : HasNames (right_of a)

-- a reader may have this many slots
module _ (slots_most : ℕ) where
  pub field_start_up : (n : ℕ) (f : Option TypeField) → NUMBER_LIMIT ≤ n → IsSoundAt f → IsSymbolUpTo slots_most (kept_cap n (option_map kept_of f)) (symbol_of (field_start f))
  field_start_up n None le h = truth_symbol slots_most n _ (known_light slots_most false)
  field_start_up n (Some (field.Plain name s start)) le h = start_up slots_most n NUMBER_LIMIT s start le h.fits h.few h.named
  field_start_up n (Some (field.Keyed name key s start)) le h = start_up slots_most n NUMBER_LIMIT s start le h.fits h.few h.named

  starts_up : (starts : List Value) (kinds : List Kind) (l : ℕ) → AreMatched IsStart starts kinds → IsSymbolUpTo slots_most (kind_cap (slice_get kinds l)) (symbol_of (argument starts l))
  starts_up [] [] l h = truth_symbol slots_most leaf_most _ (known_light slots_most false)
  starts_up (v ∷ starts) (k ∷ kinds) zero h = written_symbol slots_most v k h.0.kind_is h.0.written
  starts_up (v ∷ starts) (k ∷ kinds) (suc l) h = starts_up starts kinds l h.1
  starts_up [] (k ∷ kinds) l h = absurd h
  starts_up (v ∷ starts) [] l h = absurd h

  truth_leaf : (k : Option Kind) (b : Bool) → IsSymbolUpTo slots_most (kind_cap k) (symbol_of (value.Bool b))
  truth_leaf k b = truth_symbol slots_most _ _ (known_light slots_most b)

  zero_leaf : (k : Option Kind) → IsSymbolUpTo slots_most (kind_cap k) (symbol_of (value.Num (pos 0)))
  zero_leaf k = number_symbol slots_most _ _ (natural_up slots_most _ 0 (omega arith))

  leaf_start_up : (component : Option ComponentForm) (l : ℕ) → IsRightAt component → IsSymbolUpTo slots_most (kind_cap (leaf_kind component l)) (symbol_of (leaf_start component l))
  leaf_start_up None l h = truth_leaf None false
  leaf_start_up (Some (a_cell shape starts effects)) l h = starts_up starts (kinds_of shape) l h
  leaf_start_up (Some (a_table key shape starts effects)) l h = starts_up starts (kinds_of shape) l h
  leaf_start_up (Some (a_set key effects)) l h = truth_leaf _ false
  leaf_start_up (Some (a_tally effects)) l h = zero_leaf _
  leaf_start_up (Some (tallies key effects)) l h = zero_leaf _

  module _ (ty : TypeForm) (design : DesignForm) where
    abbrev pub caps : ℕ × ℕ × ℕ × ℕ → ℕ
    caps = name_cap after_most (kept_fields ty) design.components

    field_there : (f : ℕ) → slice_get (kept_fields ty) f ≡ option_map kept_of (slice_get ty.fields f)
    field_there f = slice_get-map kept_of ty.fields f

    one_element : (n : Name) (left : ℕ) (r : Reader) → IsLight slots_most caps (1 + left) r → Yields slots_most caps left (IsUpTo slots_most most) (read_name n r)
    one_element n left r h = let x = name_up slots_most caps n left r h in record { value = up_more slots_most 1 most _ most_above x.value; reader = x.reader }

    pub old_light : IsLightSide slots_most caps NUMBER_LIMIT 1 (kept_fields ty) design.components (old_side ty design)
    old_light = record {
      value = λ place at left r h.
          let x = variable_symbol slots_most caps (is_truth_at ty design place) (Kept place at) left r h in
          record { value = symbol_more slots_most 1 _ _ (place_some NUMBER_LIMIT (kept_fields ty) design.components place limit_some) x.value; reader = x.reader };
      begun = λ left r h. flag_up slots_most caps Begun left r h;
      element = λ j left r h. one_element (Element j) left r h;
    }

    pub old_leaves : (c : ℕ) (at : Option Instance) → AreLeavesUp slots_most after_most (kept_fields ty) design.components 1 (leaves_of (old_side ty design) c at)
    old_leaves c at l left r h = variable_symbol slots_most caps (is_truth_at ty design (Leaf c l)) (Kept (Leaf c l) at) left r h

    module _ (sound : AreSound ty design) where
      start_at_up : (place : Place) → IsSymbolUpTo slots_most (place_cap NUMBER_LIMIT (kept_fields ty) design.components place) (symbol_of (start_at ty design place))
      start_at_up (Field f) = rw (field_there f) (field_start_up NUMBER_LIMIT (slice_get ty.fields f) (omega arith) (sound.starts f))
      start_at_up (Leaf c l) = leaf_start_up (slice_get design.components c) l (sound.leaves c)

      pub start_light : IsLightSide slots_most caps NUMBER_LIMIT 1 (kept_fields ty) design.components (start_side ty design)
      start_light = record {
        value = λ place at left r h. record { value = start_at_up place; reader = spend slots_most caps left r h (omega arith) };
        begun = λ left r h. record { value = known_light slots_most false; reader = h };
        element = λ j left r h. one_element (Element j) left r h;
      }

      -- right sides, in the state before
      module _ (params : List Param) where
        abbrev scope : Scope
        scope = sorts_of ty.fields params

        abbrev IsTame : Term → Type 0
        IsTame right = IsLimited right × HasNames right

        abbrev IsRightUp : Term → ℕ → (Reader → Symbol × Reader) → Type 0
        IsRightUp right m read = IsReadUp slots_most after_most (kept_fields ty) design.components (1 * node_count right) m read

        right_low : (right : Term) → IsTame right → NUMBER_LIMIT * node_count right ≤ after_most
        right_low right tame = nodes_low (node_count right) tame.0.nodes

        right_number : (right : Term) (s : Sort) → IsChosen s → FitsSort scope right s → IsTame right → IsRightUp right (sort_cap after_most s) (λ r. right_read (old_side ty design) false right r)
        right_number right s c fits tame left r h =
            let low : NUMBER_LIMIT * node_count right ≤ most = omega (arith, right_low right tame, after_low) in
            let x = number_read_up slots_most caps NUMBER_LIMIT 1 (kept_fields ty) design.components (old_side ty design) old_light (map (λ (p : Param). p.sort) params) None (omega arith) (omega arith) right s c fits tame.0.constants tame.1 low left r h in
            record { value = number_symbol slots_most _ _ (up_more slots_most _ _ _ (sort_more _ after_most s (right_low right tame)) x.value); reader = x.reader }

        right_up : (right : Term) (s : Sort) → FitsSort scope right s → IsTame right → IsRightUp right (sort_cap after_most s) (λ r. right_read (old_side ty design) (is_truth_sort s) right r)
        right_up right OfBool fits tame left r h =
            let low : NUMBER_LIMIT * node_count right ≤ most = omega (arith, right_low right tame, after_low) in
            let x = truth_read_up slots_most caps NUMBER_LIMIT 1 (kept_fields ty) design.components (old_side ty design) old_light (map (λ (p : Param). p.sort) params) None (omega arith) (omega arith) right fits tame.0.constants tame.1 low left r h in
            record { value = truth_symbol slots_most _ _ x.value; reader = x.reader }
        right_up right OfInt fits tame left r h = right_number right OfInt tt fits tame left r h
        right_up right OfNat fits tame left r h = right_number right OfNat tt fits tame left r h
        right_up right OfName fits tame left r h = right_number right OfName tt fits tame left r h

        abbrev left_cap : Option TypeField → ℕ
        left_cap f = kept_cap after_most (option_map kept_of f)

        plain_up : (right : Term) (f : Option TypeField) → MatchOption (option_map kept_of f) ⊥ (FitsPlain scope right) → IsTame right → IsRightUp right (left_cap f) (λ r. right_read (old_side ty design) (is_truth_field f) right r)
        plain_up right None fits tame left r h = absurd fits
        plain_up right (Some (field.Plain name s start)) fits tame left r h = right_up right s fits tame left r h
        plain_up right (Some (field.Keyed name key s start)) fits tame left r h = absurd fits

        entry_up : (right : Term) (key : ℕ) (f : Option TypeField) → MatchOption (option_map kept_of f) ⊥ (FitsEntry scope key right) → IsTame right → IsRightUp right (left_cap f) (λ r. right_read (old_side ty design) (is_truth_field f) right r)
        entry_up right key None fits tame left r h = absurd fits
        entry_up right key (Some (field.Plain name s start)) fits tame left r h = absurd fits
        entry_up right key (Some (field.Keyed name k s start)) fits tame left r h = right_up right s fits.1 tame left r h

        module _ (f : ℕ) (at : Option Instance) where
          abbrev at_f : Option TypeField
          at_f = slice_get ty.fields f

          abbrev the_cap : ℕ
          the_cap = left_cap at_f

          abbrev IsFieldUp : ℕ → (Reader → Symbol × Reader) → Type 0
          IsFieldUp cost read = IsReadUp slots_most after_most (kept_fields ty) design.components cost the_cap read

          moved : (P : KeptSort → Type 0) (place : ℕ) → nat_eq place f ≡ true → MatchOption (slice_get (kept_fields ty) place) ⊥ P → MatchOption (option_map kept_of at_f) ⊥ P
          moved P place e h = subst (λ (o : Option KeptSort). MatchOption o ⊥ P) (ap (slice_get (kept_fields ty)) (eqb-true place f e) ∙ field_there f) h

          cap_some : 1 ≤ the_cap
          cap_some = kept_some after_most (option_map kept_of at_f) (omega (arith, after_limit, limit_some))

          kept_up : (left : ℕ) (r : Reader) → IsLight slots_most caps (1 + left) r → Yields slots_most caps left (IsSymbolUpTo slots_most the_cap) ((old_side ty design).value (Field f) at r)
          kept_up left r h =
              let x = variable_symbol slots_most caps (is_truth_at ty design (Field f)) (Kept (Field f) at) left r h in
              record { value = symbol_more slots_most 1 the_cap _ cap_some x.value; reader = x.reader }

          abbrev behind : List Assigned → Reader → Symbol × Reader
          behind earlier r = field_after (old_side ty design) (is_truth_field at_f) (field_start at_f) f at earlier r

          abbrev right_side : Term → Reader → Symbol × Reader
          right_side right r = right_read (old_side ty design) (is_truth_field at_f) right r

          pub field_after_up : (earlier : List Assigned) → Every (IsSoundAssigned scope) earlier → IsFieldUp (field_cost earlier) (behind earlier)
          field_after_up [] h left r light = kept_up left r light
          field_after_up (to_field place right ∷ more) h left r light = by_test (nat_eq place f) refl (field_after_up more h.1)
            where
              by_test : (b : Bool) → nat_eq place f ≡ b → IsFieldUp (field_cost more) (behind more) → Yields slots_most caps left (IsSymbolUpTo slots_most the_cap) (if b then right_side right r else behind more r)
              by_test true e rest = plain_up right at_f (moved (FitsPlain scope right) place e h.0.fits) (h.0.limited.limited, h.0.named) left r (spend slots_most caps (1 * node_count right + left) r light (omega arith))
              by_test false e rest = rest left r (spend slots_most caps (field_cost more + left) r light (omega arith))
          field_after_up (to_entry place key right ∷ more) h left r light = by_test (nat_eq place f) refl (field_after_up more h.1)
            where
              by_test : (b : Bool) → nat_eq place f ≡ b → IsFieldUp (field_cost more) (behind more)
                  → Yields slots_most caps left (IsSymbolUpTo slots_most the_cap) (if b then if_read (same_key_read at key r) (right_side right) (behind more) else behind more r)
              by_test true e rest =
                  if_read_up slots_most after_most (kept_fields ty) design.components (1 * node_count right) (field_cost more) the_cap at key (right_side right) (behind more) cap_some (kept_low after_most (option_map kept_of at_f) after_low)
                  (entry_up right key at_f (moved (FitsEntry scope key right) place e h.0.fits) (h.0.limited.limited, h.0.named)) rest left r
                  (spend slots_most caps (3 + (1 * node_count right + field_cost more) + left) r light (omega arith))
              by_test false e rest = rest left r (spend slots_most caps (field_cost more + left) r light (omega arith))
          field_after_up (to_start place ∷ more) h left r light = by_test (nat_eq place f) (field_after_up more h.1)
            where
              by_test : (b : Bool) → IsFieldUp (field_cost more) (behind more) → Yields slots_most caps left (IsSymbolUpTo slots_most the_cap) (if b then (symbol_of (field_start at_f), r) else behind more r)
              by_test true rest = record { value = field_start_up after_most at_f after_limit (sound.starts f); reader = spend slots_most caps left r light (omega arith) }
              by_test false rest = rest left r (spend slots_most caps (field_cost more + left) r light (omega arith))

      -- after an operation
      module _ (o : ℕ) (op : OperationForm) (assigned : Every (IsSoundAssigned (sorts_of ty.fields op.params)) (reverse op.assigned)) (cheap : field_cost (reverse op.assigned) ≤ value_slots) (ranks : (j n : ℕ) → slice_get op.ranks j ≡ Some (rank.Digit n) → n ≤ 9) where
        abbrev IsValueUp : Place → (Reader → Symbol × Reader) → Type 0
        IsValueUp place read = IsReadUp slots_most after_most (kept_fields ty) design.components value_slots (place_cap after_most (kept_fields ty) design.components place) read

        value_after_up : (place : Place) (at : Option Instance) → IsValueUp place (value_after ty design o op place at)
        value_after_up (Field f) at left r h =
            rw (field_there f) (field_after_up op.params f at (reverse op.assigned) assigned left r (spend slots_most caps (field_cost (reverse op.assigned) + left) r h (omega (arith, cheap))))
        value_after_up (Leaf c l) at left r h =
            let component = slice_get design.components c in
            let x = leaf_after_up slots_most after_most (kept_fields ty) design.components (leaves_of (old_side ty design) c at) (old_leaves c at) op.params o c at component l left r
            (spend slots_most caps (component_cost component + left) r h (omega (arith, sound.slots c))) in
            record { value = symbol_more slots_most 2 _ _ (kind_some (leaf_kind (slice_get design.components c) l)) x.value; reader = x.reader }

        kept_after : (place : Place) (at : Option Instance) (left : ℕ) (r : Reader) → IsLight slots_most caps (value_slots + left) r
            → Yields slots_most caps left (IsSymbolUpTo slots_most (place_cap after_most (kept_fields ty) design.components place)) ((after_side ty design o op).value place at r)
        kept_after (Field f) at left r h = once_up slots_most caps (Kept (Field f) at) (value_after ty design o op (Field f) at) left r h (omega arith) (value_after_up (Field f) at left r h)
        kept_after (Leaf c l) at left r h = once_up slots_most caps (Kept (Leaf c l) at) (value_after ty design o op (Leaf c l) at) left r h (omega arith) (value_after_up (Leaf c l) at left r h)

        element_up : (element : Option Rank) → ((n : ℕ) → element ≡ Some (rank.Digit n) → n ≤ 9) → (left : ℕ) (r : Reader) → IsLight slots_most caps (1 + left) r → Yields slots_most caps left (IsUpTo slots_most most) (element_after element r)
        element_up None digit left r h = record { value = natural_up slots_most most 0 (omega arith); reader = spend slots_most caps left r h (omega arith) }
        element_up (Some (rank.Digit n)) digit left r h = record { value = natural_up slots_most most n (omega (arith, digit n refl, nine_low)); reader = spend slots_most caps left r h (omega arith) }
        element_up (Some rank.Time) digit left r h = one_element Time left r h
        element_up (Some rank.Replica) digit left r h = one_element Replica left r h
        element_up (Some (rank.Arg j)) digit left r h = one_element (Key (Argument j)) left r h

        pub after_light : IsLightSide slots_most caps after_most value_slots (kept_fields ty) design.components (after_side ty design o op)
        after_light = record {
          value = λ place at left r h. kept_after place at left r h;
          begun = λ left r h. record { value = known_light slots_most true; reader = h };
          element = λ j left r h. element_up (slice_get op.ranks j) (ranks j) left r h;
        }
