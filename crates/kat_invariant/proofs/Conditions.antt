-- If the facts of a condition are refuted, the condition holds: at the start, and of the answers.
use Rattle.std.proofs.Common.{◌≡◌, ℕ, ℤ, Bool, true, false, List, [], Option, Some, None, refl, sym, ap, subst, ◌∙◌, All}
use Rattle.std.specs.Prelude.{slice_get}
use Rattle.std.proofs.lemmas.Bool.{eqb-true}
use Rattle.std.proofs.lemmas.Bool.Decides.{Decides-int_eq}
use Rattle.std.proofs.lemmas.Option.{get_or_from_slice_get}
use Rattle.std.proofs.lemmas.List.Elements.{All-append}
use Rattle.kat_num.specs.Values.{HasSort}
use Rattle.kat_num.specs.declared.values.Sort.{Sort}
use Rattle.kat_num.specs.declared.values.Value.{Value}
use Rattle.kat_num.specs.declared.values.Value.TheVariants as value
use Rattle.kat_expr.specs.Evaluation.{value_of}
use Rattle.kat_expr.specs.Slots.{absent, argument}
use Rattle.kat_form.specs.Facts.{Fact}
use Rattle.kat_form.specs.Meanings.{holds}
use Rattle.kat_type.specs.Alike.{HasAlikeRanks}
use Rattle.kat_type.specs.Fits.{IsWellSorted as IsGoodType}
use Rattle.kat_type.specs.Signatures.{param_sorts, signature_of}
use Rattle.kat_type.specs.Types.{QueryForm, TypeForm}
use Rattle.kat_type.specs.declared.types.Param.{Param}
use Rattle.kat_seq.specs.States.{answer_of, query_at}
use Rattle.kat_seq.proofs.Sorting.{got_made}
use Rattle.kat_design.specs.Answers.{ask_at}
use Rattle.kat_design.specs.Designs.{DesignForm}
use Rattle.kat_design.specs.Sorted.{IsWellSorted}
use Rattle.kat_type.specs.Unions.{is_same_value}
use Rattle.kat_relation.specs.Fits.{FitsConjunct}
use Rattle.kat_relation.specs.Keys.{conjunct_key}
use Rattle.kat_relation.specs.declared.relations.Conjunct.{Conjunct}
use Rattle.kat_claims.specs.Claims.{answers_read, claim_read}
use Rattle.kat_vc.specs.Conditions.{answers_stated, claim_at, kept_stated, start_stated, state_stated}
use Rattle.kat_claims.specs.Groups.{denied_claim, keys_stated, naturals_stated, relation_stated}
use Rattle.kat_claims.specs.Places.{argument_keys, claim_keys, keys_of, natural_keys, spots_of}
use Rattle.kat_symbols.specs.Readers.{Reader, fresh}
use Rattle.kat_claims.specs.States.{old_side, start_side}
use Rattle.kat_symbols.specs.declared.names.Instance.{Instance}
use Rattle.kat_symbols.specs.declared.names.Instance.TheVariants.{Argument}
use Rattle.kat_symbols.specs.declared.names.Name.{Name}
use Rattle.kat_invariant.specs.Asked.{ask_held, asked}
use Rattle.kat_invariant.specs.Inductive.{FitQuery}
use Rattle.kat_invariant.specs.Legal.{IsLegal}
use Rattle.kat_invariant.specs.Relations.{Holds, HoldsEverywhere, holds_at}
use Rattle.kat_invariant.specs.Situations.{Situation, start_of}
use Rattle.kat_invariant.proofs.Answering.{answers_are, query_asked, query_good}
use Rattle.kat_invariant.proofs.ClaimsRead.{claim_is}
use Rattle.kat_invariant.proofs.Groups.{Nothing, Passes, false_denied, naturals_pass, passes_then}
use Rattle.kat_invariant.proofs.Having.{ReadsTruth}
use Rattle.kat_invariant.proofs.Known.{keys_natural, keys_pass, state_passes}
use Rattle.kat_invariant.proofs.Logic.{Meant, HasTruth, Reads, all_hold}
use Rattle.kat_invariant.proofs.Meaning.{keys_at, names_now, old_is_side, start_is_side}
use Rattle.kat_invariant.proofs.Relating.{arguments_fit, claim_key_fits, relation_passes, start_legal}
use Rattle.kat_invariant.proofs.Situated.{AreArguments, IsKeyAt, key_at}
use Rattle.kat_invariant.proofs.Spots.{IsKeyOf}
use Rattle.kat_symbols.specs.declared.names.Name.TheVariants.{Key}

-- no truth values and whole numbers make all facts hold
abbrev pub AreRefuted : List Fact → Type 0
AreRefuted facts = (truths : ℕ → Bool) (nums : ℕ → ℤ) → All (λ f. holds truths nums f ≡ true) facts → ⊥

pub passes_refuted : (m : Meant) (g : Reader → Reader) → Passes m g → AreRefuted (g fresh).facts → ⊥
passes_refuted m g p refuted = let found = all_hold m (g fresh) Nothing (p fresh) in refuted found.0.truths found.0.nums found.1

-- a claim holds if its denial can't
pub by_denial : (b : Bool) → (b ≡ false → ⊥) → b ≡ true
by_denial true h = refl
by_denial false h = absurd (h refl)

-- what is shown of every key that an instance can be
pub everywhere : (claim : Option Sort) (P : Value → Bool) → ((k : Value) → ((q : Sort) → claim ≡ Some q → HasSort q k) → (claim ≡ None → k ≡ absent) → P k ≡ true) → HoldsEverywhere claim P
everywhere None P h = h absent (λ q e. absurd (cc)) (λ e. refl)
everywhere (Some s) P h = λ k fits. h k (λ q e. let is : s ≡ q = cc in subst (λ t. HasSort t k) is fits) (λ e. absurd (cc))

pub claim_instance : (k : Value) (args : List Value) (claim : Option Sort) → ((q : Sort) → claim ≡ Some q → HasSort q k) → IsKeyAt (keys_at k args) claim (claim_at claim)
claim_instance k args None h = tt
claim_instance k args (Some q) h = h q refl

pub claim_key_is : (k : Value) (args : List Value) (claim : Option Sort) → (claim ≡ None → k ≡ absent) → key_at (keys_at k args) (claim_at claim) ≡ k
claim_key_is k args None h = sym (h refl)
claim_key_is k args (Some q) h = refl

values_one : (u v : Value) → is_same_value u v ≡ true → u ≡ v
values_one (value.Bool true) (value.Bool true) e = refl
values_one (value.Bool false) (value.Bool false) e = refl
values_one (value.Bool true) (value.Bool false) e = absurd (cc)
values_one (value.Bool false) (value.Bool true) e = absurd (cc)
values_one (value.Num x) (value.Num y) e = ap value.Num ((Decides-int_eq x y).0 e)
values_one (value.Name x) (value.Name y) e = ap value.Name (eqb-true x y e)
values_one (value.Bool b) (value.Num y) e = absurd (cc)
values_one (value.Bool b) (value.Name y) e = absurd (cc)
values_one (value.Num b) (value.Bool y) e = absurd (cc)
values_one (value.Num b) (value.Name y) e = absurd (cc)
values_one (value.Name b) (value.Bool y) e = absurd (cc)
values_one (value.Name b) (value.Num y) e = absurd (cc)

abbrev no_later : Name → Value
no_later n = absent

module _ (ty : TypeForm) (d : DesignForm) (good : IsGoodType ty) (alike : HasAlikeRanks ty) (sorted : IsWellSorted d) (signed : d.sig ≡ signature_of ty) where
  -- the start
  pub start_holds : (c : Conjunct) → FitsConjunct ty d.components c → AreRefuted (start_stated ty d c (conjunct_key ty d.components c) fresh).facts
      → HoldsEverywhere (conjunct_key ty d.components c) (λ key. holds_at ty d (start_of ty d) key c)
  start_holds c fits refuted = everywhere (conjunct_key ty d.components c) (λ key. holds_at ty d (start_of ty d) key c) (λ k key none. by_denial (holds_at ty d (start_of ty d) k c) (λ false_there. at_key k key none false_there))
    where
      at_key : (k : Value) → ((q : Sort) → conjunct_key ty d.components c ≡ Some q → HasSort q k) → (conjunct_key ty d.components c ≡ None → k ≡ absent) → holds_at ty d (start_of ty d) k c ≡ false → ⊥
      at_key k key none is_false =
          let claim = conjunct_key ty d.components c in
          let keys = keys_at k [] in
          let s = start_of ty d in
          let legal = start_legal ty d good in
          let m : Meant = record { now = names_now s keys 0 0; later = no_later } in
          let read = claim_is ty d good sorted signed m (start_side ty d) s keys (start_is_side ty d sorted keys 0 0 no_later) (λ i. refl) legal.fields legal.parts tt c (claim_at claim) fits (claim_instance k [] claim key) in
          let denied : ReadsTruth m (claim_read ty d (start_side ty d) c (claim_at claim)) false = λ r. subst (λ b. Reads m r (claim_read ty d (start_side ty d) c (claim_at claim) r).1 (HasTruth (claim_read ty d (start_side ty d) c (claim_at claim) r).0 b))
          (ap (λ v. holds_at ty d s v c) (claim_key_is k [] claim none) ∙ is_false) (read r) in
          passes_refuted m (start_stated ty d c claim)
          (passes_then m (naturals_stated (natural_keys (claim_keys claim))) (λ r. denied_claim (claim_read ty d (start_side ty d) c (claim_at claim) r))
          (naturals_pass m (natural_keys (claim_keys claim)) (keys_natural ty d good alike sorted s legal keys 0 0 no_later (claim_keys claim) (claim_key_fits ty d k [] claim key)))
          (false_denied m (claim_read ty d (start_side ty d) c (claim_at claim)) denied))
          refuted

  -- the answers
  answers_named : (args : List Value) (m : Meant) (params : List Param) → ((i : Instance) → m.now (Key i) ≡ keys_at absent args i) → ((i : ℕ) (p : Param) → slice_get params i ≡ Some p → HasSort p.sort (argument args i))
      → AreArguments m (keys_at absent args) None (param_sorts params) args
  answers_named args m params named fit = record {
    named = λ j q e. named (Argument j);
    keyed = λ j q e. refl;
    fit = λ j q e. let made = got_made (λ (p : Param). p.sort) params j q e in subst (λ t. HasSort t (argument args j)) made.2 (fit j made.0 made.1);
  }

  pub answers_hold : (relation : List Conjunct) → All (FitsConjunct ty d.components) relation → (query : ℕ) (q : QueryForm) → slice_get ty.queries query ≡ Some q → AreRefuted (answers_stated ty d relation query q fresh).facts
      → (s : Situation) (args : List Value) → IsLegal ty d s → Holds ty d relation s → FitQuery q args → answer_of ty s.state query args ≡ asked d s.held query args
  answers_hold relation fits query q there refuted s args legal holds' fit =
      let has = query_asked ty d query q sorted signed there in
      let left : query_at ty query ≡ q = get_or_from_slice_get ty.queries query q _ there in
      let right : ask_at d query ≡ has.ask = get_or_from_slice_get d.asks query has.ask _ has.there in
      let u = value_of q.right s.state args in
      let v = ask_held has.ask s.held args in
      let keys = keys_at absent args in
      let m : Meant = record { now = names_now s keys 0 0; later = no_later } in
      let none = claim_key_fits ty d absent args None (λ t e. absurd (cc)) in
      let some = arguments_fit ty d absent args q.params fit in
      let both = All-append (IsKeyOf ty d keys) (claim_keys None) (argument_keys 0 q.params) none some in
      let read = answers_are ty d m (old_side ty d) s keys (old_is_side ty d s legal.fields legal.parts keys 0 0 no_later) legal.fields legal.parts None q has.ask args (answers_named args m q.params (λ i. refl) fit) (query_good ty query q good there) has.answers in
      let one : u ≡ v = values_one u v (by_denial (is_same_value u v) (λ is_false.
      passes_refuted m (answers_stated ty d relation query q)
      (passes_then m (λ r. kept_stated ty d relation None q.params (state_stated ty d None q.params r)) (λ r. denied_claim (answers_read (old_side ty d) None (Some q) (slice_get d.asks query) r))
      (passes_then m (state_stated ty d None q.params) (kept_stated ty d relation None q.params)
      (state_passes ty d good alike sorted s legal keys 0 0 no_later None q.params none some)
      (passes_then m (keys_stated (old_side ty d) (spots_of ty d) (keys_of None q.params)) (relation_stated ty d (old_side ty d) (keys_of None q.params) relation)
      (keys_pass ty d good alike sorted s legal keys 0 0 no_later (keys_of None q.params) both)
      (relation_passes ty d good alike sorted signed s legal keys 0 0 no_later (keys_of None q.params) both relation fits holds')))
      (false_denied m (answers_read (old_side ty d) None (Some q) (slice_get d.asks query))
      (λ r. rw has.there (subst (λ b. Reads m r (answers_read (old_side ty d) None (Some q) (Some has.ask) r).1 (HasTruth (answers_read (old_side ty d) None (Some q) (Some has.ask) r).0 b)) is_false (read r)))))
      refuted)) in
      rw (left, right) one
