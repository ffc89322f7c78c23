-- If the facts of a step are refuted, the operation keeps the conjunct.
use Rattle.std.proofs.Common.{◌≡◌, ℕ, false, List, Some, None, refl, ap, subst, ◌∙◌, map, All}
use Rattle.std.specs.Prelude.{slice_get}
use Rattle.std.proofs.lemmas.List.Elements.{All-append}
use Rattle.kat_num.specs.Values.{HasSort}
use Rattle.kat_num.specs.declared.values.Sort.{Sort}
use Rattle.kat_num.specs.declared.values.Value.{Value}
use Rattle.kat_expr.specs.Slots.{absent}
use Rattle.kat_expr.specs.Sorts.{Kept as KeptSort}
use Rattle.kat_type.specs.Fits.{kept_of}
use Rattle.kat_type.specs.Types.{TypeForm}
use Rattle.kat_type.specs.declared.done.Done.{Done}
use Rattle.kat_design.specs.Designs.{DesignForm}
use Rattle.kat_relation.specs.Fits.{FitsConjunct}
use Rattle.kat_relation.specs.Keys.{conjunct_key}
use Rattle.kat_relation.specs.declared.relations.Conjunct.{Conjunct}
use Rattle.kat_claims.specs.Claims.{claim_read}
use Rattle.kat_vc.specs.Conditions.{claim_at, kept_stated, state_stated, step_stated}
use Rattle.kat_claims.specs.Groups.{denied_claim, keys_stated, order_stated, relation_stated}
use Rattle.kat_claims.specs.Places.{argument_keys, claim_keys, keys_of, spots_of}
use Rattle.kat_symbols.specs.Readers.{fresh}
use Rattle.kat_claims.specs.States.{old_side}
use Rattle.kat_vc.specs.Steps.{after_side}
use Rattle.kat_invariant.specs.Accepted.{GoTogether}
use Rattle.kat_invariant.specs.Legal.{IsLegal, MayFollow}
use Rattle.kat_invariant.specs.Relations.{Holds, HoldsEverywhere, holds_at}
use Rattle.kat_invariant.specs.Situations.{Situation, after}
use Rattle.kat_invariant.proofs.After.{KeyFits, after_is, names_later, order_pass}
use Rattle.kat_invariant.proofs.ClaimsRead.{claim_is}
use Rattle.kat_invariant.proofs.Conditions.{AreRefuted, by_denial, claim_instance, claim_key_is, everywhere, passes_refuted}
use Rattle.kat_invariant.proofs.Groups.{false_denied, passes_then}
use Rattle.kat_invariant.proofs.Having.{ReadsTruth}
use Rattle.kat_invariant.proofs.Known.{keys_pass, state_passes}
use Rattle.kat_invariant.proofs.Logic.{Meant, HasTruth, Reads}
use Rattle.kat_invariant.proofs.Meaning.{keys_at, names_now}
use Rattle.kat_invariant.proofs.Relating.{arguments_fit, claim_key_fits, relation_passes}
use Rattle.kat_invariant.proofs.Spots.{IsKeyOf}
use Rattle.kat_invariant.proofs.StayLegal.{fields_stay, parts_stay, ranks_stay, tables_fit}

module _ (ty : TypeForm) (d : DesignForm) (go : GoTogether ty d) (relation : List Conjunct) (fit : All (FitsConjunct ty d.components) relation) where
  tables : (f : ℕ) (k : KeptSort) → slice_get (map kept_of ty.fields) f ≡ Some k → KeyFits k
  tables f k there = tables_fit ty.fields f k go.keys there

  pub step_holds : (c : Conjunct) → FitsConjunct ty d.components c → (s : Situation) (done : Done) → IsLegal ty d s → Holds ty d relation s → (follows : MayFollow ty done s)
      → AreRefuted (step_stated ty d relation done.op follows.fits.operation c (conjunct_key ty d.components c) fresh).facts
      → HoldsEverywhere (conjunct_key ty d.components c) (λ key. holds_at ty d (after ty d done s) key c)
  step_holds c fits s done legal held follows refuted = everywhere (conjunct_key ty d.components c) (λ key. holds_at ty d (after ty d done s) key c)
      (λ k key none. by_denial (holds_at ty d (after ty d done s) k c) (λ false_there. at_key k key none false_there))
    where
      at_key : (k : Value) → ((q : Sort) → conjunct_key ty d.components c ≡ Some q → HasSort q k) → (conjunct_key ty d.components c ≡ None → k ≡ absent) → holds_at ty d (after ty d done s) k c ≡ false → ⊥
      at_key k key none is_false =
          let claim = conjunct_key ty d.components c in
          let op = follows.fits.operation in
          let keys = keys_at k done.args in
          let later = names_later ty d done s keys in
          let m : Meant = record { now = names_now s keys done.time done.replica; later = later } in
          let side = after_side ty d done.op op in
          let own = claim_key_fits ty d k done.args claim key in
          let given = arguments_fit ty d k done.args op.params follows.fits.args in
          let both = All-append (IsKeyOf ty d keys) (claim_keys claim) (argument_keys 0 op.params) own given in
          let read = claim_is ty d go.type_sorted go.design_sorted go.signed m side (after ty d done s) keys
          (after_is ty d go.type_sorted go.ranks tables go.design_sorted go.signed s legal done follows k) (λ i. refl)
          (fields_stay ty d go s legal done follows) (parts_stay ty d s done go.design_sorted legal.parts) (ranks_stay ty d go s legal done follows) c (claim_at claim) fits (claim_instance k done.args claim key) in
          let denied : ReadsTruth m (claim_read ty d side c (claim_at claim)) false = λ r. subst (λ b. Reads m r (claim_read ty d side c (claim_at claim) r).1 (HasTruth (claim_read ty d side c (claim_at claim) r).0 b))
          (ap (λ v. holds_at ty d (after ty d done s) v c) (claim_key_is k done.args claim none) ∙ is_false) (read r) in
          let known = state_passes ty d go.type_sorted go.ranks go.design_sorted s legal keys done.time done.replica later claim op.params own given in
          let ordered = order_pass ty d go.type_sorted go.ranks tables go.design_sorted go.signed s legal done follows k in
          let same = keys_pass ty d go.type_sorted go.ranks go.design_sorted s legal keys done.time done.replica later (keys_of claim op.params) both in
          let relates = relation_passes ty d go.type_sorted go.ranks go.design_sorted go.signed s legal keys done.time done.replica later (keys_of claim op.params) both relation fit held in
          passes_refuted m (step_stated ty d relation done.op op c claim)
          (passes_then m (λ r. kept_stated ty d relation claim op.params (order_stated side (old_side ty d) op.ranks (state_stated ty d claim op.params r))) (λ r. denied_claim (claim_read ty d side c (claim_at claim) r))
          (passes_then m (λ r. order_stated side (old_side ty d) op.ranks (state_stated ty d claim op.params r)) (kept_stated ty d relation claim op.params)
          (passes_then m (state_stated ty d claim op.params) (order_stated side (old_side ty d) op.ranks) known ordered)
          (passes_then m (keys_stated (old_side ty d) (spots_of ty d) (keys_of claim op.params)) (relation_stated ty d (old_side ty d) (keys_of claim op.params) relation) same relates))
          (false_denied m (claim_read ty d side c (claim_at claim)) denied))
          refuted
