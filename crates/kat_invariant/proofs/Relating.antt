-- The relation of a legal situation is read as true, and the start is legal.
use Rattle.std.proofs.Common.{◌≡◌, ℕ, zero, suc, ◌+◌, Bool, true, List, [], ◌∷◌, Option, Some, None, length, refl, sym, ap, subst, map, arith, All}
use Rattle.std.specs.Prelude.{slice_get}
use Rattle.std.proofs.lemmas.List.Elements.{All-nil, All-cons, All-head, All-tail}
use Rattle.kat_num.specs.Values.{HasSort}
use Rattle.kat_num.specs.declared.values.Sort.{Sort}
use Rattle.kat_num.specs.declared.values.Value.{Value}
use Rattle.kat_expr.specs.Slots.{argument, slot_at}
use Rattle.kat_type.specs.Alike.{HasAlikeRanks}
use Rattle.kat_type.specs.Fits.{IsWellSorted as IsGoodType}
use Rattle.kat_type.specs.Signatures.{signature_of}
use Rattle.kat_type.specs.Types.{TypeForm}
use Rattle.kat_type.specs.declared.types.Field.{Field as TypeField}
use Rattle.kat_type.specs.declared.types.Field.TheVariants as field
use Rattle.kat_type.specs.declared.types.Param.{Param}
use Rattle.kat_seq.specs.States.{start_slot}
use Rattle.kat_seq.proofs.Sorting.{states_keep_sorts}
use Rattle.kat_shape.proofs.Filling.{filled_shape}
use Rattle.kat_design.specs.Designs.{ComponentForm, DesignForm}
use Rattle.kat_design.specs.Designs.ComponentForm.{a_cell, a_table, a_set, a_tally, tallies}
use Rattle.kat_design.specs.Sorted.{IsWellSorted}
use Rattle.kat_relation.specs.Fits.{FitsConjunct}
use Rattle.kat_relation.specs.Keys.{conjunct_key}
use Rattle.kat_relation.specs.declared.relations.Conjunct.{Conjunct}
use Rattle.kat_claims.specs.Claims.{claim_read}
use Rattle.kat_claims.specs.Groups.{claim_each, relation_stated, stated}
use Rattle.kat_claims.specs.Places.{argument_keys, claim_keys, looked_at}
use Rattle.kat_claims.specs.States.{old_side}
use Rattle.kat_symbols.specs.declared.names.Instance.{Instance}
use Rattle.kat_symbols.specs.declared.names.Instance.TheVariants.{Claim, Argument}
use Rattle.kat_symbols.specs.declared.names.Name.{Name}
use Rattle.kat_claims.specs.States.{field_start}
use Rattle.kat_invariant.specs.Legal.{FitsHeld, IsLegal, StartsAt}
use Rattle.kat_invariant.specs.Relations.{Holds, HoldsEverywhere, holds_at}
use Rattle.kat_invariant.specs.Situations.{Situation, held_start, start_of, starts_of}
use Rattle.kat_invariant.proofs.ClaimsRead.{claim_is}
use Rattle.kat_invariant.proofs.Groups.{Nothing, Passes, true_stated}
use Rattle.kat_invariant.proofs.Known.{legal_ranks}
use Rattle.kat_invariant.proofs.Logic.{Meant, HasTruth, Reads, stays, reads_two}
use Rattle.kat_invariant.proofs.Meaning.{keys_at, names_now, old_is_side}
use Rattle.kat_invariant.proofs.Situated.{IsKeyAt, key_at}
use Rattle.kat_invariant.proofs.Spots.{IsKeyOf, looked_fit}

-- what holds everywhere holds at a key
pub holds_here : (keys : Instance → Value) (key : Option Sort) (at : Option Instance) (P : Value → Bool) → IsKeyAt keys key at → HoldsEverywhere key P → P (key_at keys at) ≡ true
holds_here keys None None P fits h = h
holds_here keys (Some s) (Some i) P fits h = h (keys i) fits
holds_here keys None (Some i) P fits h = absurd fits
holds_here keys (Some s) None P fits h = absurd fits

module _ (ty : TypeForm) (d : DesignForm) (good : IsGoodType ty) (alike : HasAlikeRanks ty) (sorted : IsWellSorted d) (signed : d.sig ≡ signature_of ty) (s : Situation) (legal : IsLegal ty d s) (keys : Instance → Value) (time replica : ℕ) (later : Name → Value) where
  abbrev m : Meant
  m = record { now = names_now s keys time replica; later = later }

  claim_passes : (c : Conjunct) → FitsConjunct ty d.components c → HoldsEverywhere (conjunct_key ty d.components c) (λ key. holds_at ty d s key c) → (ats : List (Option Instance)) → All (IsKeyAt keys (conjunct_key ty d.components c)) ats
      → Passes m (claim_each ty d (old_side ty d) c ats)
  claim_passes c fits holds [] h r = stays m r Nothing (λ w f. tt)
  claim_passes c fits holds (at ∷ ats) h r =
      let here = All-head (IsKeyAt keys (conjunct_key ty d.components c)) at ats h in
      let read = claim_is ty d good sorted signed m (old_side ty d) s keys (old_is_side ty d s legal.fields legal.parts keys time replica later) (λ i. refl) legal.fields legal.parts (legal_ranks ty s.last good alike legal.last) c at fits here in
      let next = stated (claim_read ty d (old_side ty d) c at r) in
      reads_two m r next (claim_each ty d (old_side ty d) c ats next) Nothing Nothing Nothing
      (true_stated m (claim_read ty d (old_side ty d) c at)
      (λ q. subst (λ b. Reads m q (claim_read ty d (old_side ty d) c at q).1 (HasTruth (claim_read ty d (old_side ty d) c at q).0 b)) (holds_here keys (conjunct_key ty d.components c) at (λ key. holds_at ty d s key c) here holds) (read q)) r)
      (claim_passes c fits holds ats (All-tail (IsKeyAt keys (conjunct_key ty d.components c)) at ats h) next) (λ w a b. tt)

  pub relation_passes : (ks : List (Sort × Instance)) → All (IsKeyOf ty d keys) ks → (relation : List Conjunct) → All (FitsConjunct ty d.components) relation → Holds ty d relation s → Passes m (relation_stated ty d (old_side ty d) ks relation)
  relation_passes ks k [] fits holds r = stays m r Nothing (λ w f. tt)
  relation_passes ks k (c ∷ cs) fits holds r =
      let next = claim_each ty d (old_side ty d) c (looked_at (conjunct_key ty d.components c) ks) r in
      reads_two m r next (relation_stated ty d (old_side ty d) ks cs next) Nothing Nothing Nothing
      (claim_passes c (All-head (FitsConjunct ty d.components) c cs fits) (All-head (λ x. HoldsEverywhere (conjunct_key ty d.components x) (λ key. holds_at ty d s key x)) c cs holds)
      (looked_at (conjunct_key ty d.components c) ks) (looked_fit ty d keys (conjunct_key ty d.components c) ks k) r)
      (relation_passes ks k cs (All-tail (FitsConjunct ty d.components) c cs fits) (All-tail (λ x. HoldsEverywhere (conjunct_key ty d.components x) (λ key. holds_at ty d s key x)) c cs holds) next) (λ w a b. tt)

-- the keys of a claim and of parameters
pub claim_key_fits : (ty : TypeForm) (d : DesignForm) (k : Value) (args : List Value) (claim : Option Sort) → ((q : Sort) → claim ≡ Some q → HasSort q k) → All (IsKeyOf ty d (keys_at k args)) (claim_keys claim)
claim_key_fits ty d k args None h = All-nil (IsKeyOf ty d (keys_at k args))
claim_key_fits ty d k args (Some q) h = All-cons (IsKeyOf ty d (keys_at k args)) (q, Claim) [] (h q refl) (All-nil (IsKeyOf ty d (keys_at k args)))

-- the arguments from a number on fit the parameters from there
pub argument_keys_fit : (ty : TypeForm) (d : DesignForm) (k : Value) (args : List Value) (j : ℕ) (params : List Param) → ((i : ℕ) (p : Param) → slice_get params i ≡ Some p → HasSort p.sort (argument args (j + i))) → All (IsKeyOf ty d (keys_at k args)) (argument_keys j params)
argument_keys_fit ty d k args j [] h = All-nil (IsKeyOf ty d (keys_at k args))
argument_keys_fit ty d k args j (p ∷ ps) h =
    All-cons (IsKeyOf ty d (keys_at k args)) (p.sort, Argument j) (argument_keys (suc j) ps) (subst (λ n. HasSort p.sort (argument args n)) (omega arith) (h 0 p refl))
    (argument_keys_fit ty d k args (suc j) ps (λ i q e. subst (λ n. HasSort q.sort (argument args n)) (omega arith) (h (suc i) q e)))

pub arguments_fit : (ty : TypeForm) (d : DesignForm) (k : Value) (args : List Value) (params : List Param) → ((i : ℕ) (p : Param) → slice_get params i ≡ Some p → HasSort p.sort (argument args i)) → All (IsKeyOf ty d (keys_at k args)) (argument_keys 0 params)
arguments_fit ty d k args params h = argument_keys_fit ty d k args 0 params (λ i p e. subst (λ n. HasSort p.sort (argument args n)) (omega arith) (h i p e))

-- the start
start_fits : (component : ComponentForm) → FitsHeld component (held_start component)
start_fits (a_cell shape starts effects) = filled_shape shape starts
start_fits (a_table key shape starts effects) = filled_shape shape starts
start_fits (a_set key effects) = tt
start_fits (a_tally effects) = tt
start_fits (tallies key effects) = tt

starts_long : (fields : List TypeField) → length (map start_slot fields) ≡ length fields
starts_long [] = refl
starts_long (f ∷ fields) = ap suc (starts_long fields)

starts_begin : (fields : List TypeField) (place : ℕ) → StartsAt (field_start (slice_get fields place)) (slot_at (map start_slot fields) place)
starts_begin [] place = tt
starts_begin (field.Plain name s start ∷ fields) zero = tt
starts_begin (field.Keyed name key s start ∷ fields) zero = refl
starts_begin (f ∷ fields) (suc place) = starts_begin fields place

pub start_legal : (ty : TypeForm) (d : DesignForm) → IsGoodType ty → IsLegal ty d (start_of ty d)
start_legal ty d good = record {
  whole = starts_long ty.fields;
  fields = states_keep_sorts ty [] good (All-nil _);
  starts = starts_begin ty.fields;
  parts = λ place component there key. subst (λ o. FitsHeld component (starts_of o)) (sym there) (start_fits component);
  fresh = λ e. record { fields = λ place. refl; tables = λ place key. refl; parts = λ place component there key. ap starts_of there };
  last = tt;
}
