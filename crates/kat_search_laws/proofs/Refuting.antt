-- No history refutes the design of the cart that keeps a sum for each thing.
use Rattle.std.proofs.Common.{◌≡◌, ℕ, zero, suc, ◌≤◌, ◌↔◌, inl, inr, true, List, [], ◌∷◌, take, All, Some, refl, sym, ◌∙◌, ap, subst, arith}
use Rattle.std.specs.Prelude.{slice_get}
use Rattle.std.specs.List.{AllPairs}
use Rattle.std.specs.Ordering.{nat_cmp, ordering_then}
use Rattle.std.specs.declared.cmp.Ordering.{Ordering}
use Rattle.std.specs.declared.cmp.Ordering.TheVariants.{Equal, Less}
use Rattle.std.proofs.lemmas.Cmp.{nat_cmp_total, tied_itself}
use Rattle.std.proofs.lemmas.List.Elements.{All-head, All-tail}
use Rattle.std.proofs.lemmas.Option.{same_Some, slice_get_within}
use Rattle.kat_design.specs.Designs.{DesignForm}
use Rattle.kat_design.specs.Fitting.{FitsSignature}
use Rattle.kat_design.specs.Sorted.{AreMatched}
use Rattle.kat_expr.specs.Slots.{argument}
use Rattle.kat_histories.specs.Differing.{Differs}
use Rattle.kat_histories.specs.Histories.{FitsHistory, IsTimed, all_histories, histories}
use Rattle.kat_histories.specs.Laws.{IsHistory, stamp_cmp, stamp_of}
use Rattle.kat_histories.specs.Pools.{asks_of, calls_of}
use Rattle.kat_histories.specs.declared.calls.Call.{Call}
use Rattle.kat_histories.specs.declared.histories.History.{History}
use Rattle.kat_histories.specs.declared.histories.TheConstants.{HISTORY_LIMIT}
use Rattle.kat_invariant.specs.Inductive.{FitQuery}
use Rattle.kat_invariant.specs.Runs.{AnswersAsType}
use Rattle.kat_seq.specs.Operations.{CanBeDone}
use Rattle.kat_num.specs.Values.{HasSort, IsArgument}
use Rattle.kat_num.specs.declared.values.Sort.{Sort}
use Rattle.kat_num.specs.declared.values.Sort.TheVariants as sort
use Rattle.kat_num.specs.declared.values.Value.{Value}
use Rattle.kat_sample.specs.Carts.{cart, counting, thing}
use Rattle.kat_telling.specs.Entries.{IsRefuted}
use Rattle.kat_search.specs.Verdicts.{HasNone}
use Rattle.kat_search.specs.declared.options.Options.{Options}
use Rattle.kat_search.proofs.Refuting.{none_means}
use Rattle.kat_seq.proofs.Sorting.{got_made}
use Rattle.kat_type.specs.Alike.{FitsType}
use Rattle.kat_type.specs.Arrangements.{AreApart}
use Rattle.kat_type.specs.Lists.{Has}
use Rattle.kat_type.specs.Signatures.{op_sig, param_sorts, signature_of}
use Rattle.kat_type.specs.Types.{TypeForm}
use Rattle.kat_type.specs.declared.done.Done.{Done}
use Rattle.kat_type.specs.declared.signatures.OpSig.{OpSig}
use Rattle.kat_type.specs.declared.signatures.Signature.{Signature}
use Rattle.kat_type.specs.declared.types.Param.{Param}
use Rattle.kat_search_laws.proofs.Keeping.{sums_answer_as_cart}
use Rattle.kat_search_laws.proofs.Summing.{summing, sums_listed}

-- members of lists
taken_has : {X : Type 0} (most : ℕ) (xs : List X) (x : X) → Has (take most xs) x → Has xs x
taken_has zero xs x has = absurd has
taken_has (suc most) [] x has = absurd has
taken_has (suc most) (y ∷ xs) x (inl e) = inl e
taken_has (suc most) (y ∷ xs) x (inr has) = inr (taken_has most xs x has)

got_has : {X : Type 0} (xs : List X) (i : ℕ) (x : X) → slice_get xs i ≡ Some x → Has xs x
got_has [] i x e = let l = slice_get_within [] i x e in absurd (omega (arith, l))
got_has (y ∷ xs) zero x e = inl (same_Some y x e)
got_has (y ∷ xs) (suc i) x e = inr (got_has xs i x e)

all_has : {X : Type 0} (P : X → Type 0) (xs : List X) (x : X) → All P xs → Has xs x → P x
all_has P [] x all has = absurd has
all_has P (y ∷ xs) x all (inl e) = subst P e (All-head P y xs all)
all_has P (y ∷ xs) x all (inr has) = all_has P xs x (All-tail P y xs all) has

-- operations at ascending stamps are told apart by their stamps
abbrev Ascends : Done → Done → Type 0
Ascends earlier later = stamp_cmp (stamp_of earlier) (stamp_of later) ≡ Less

pairs_first : (x : Done) (xs : List Done) → AllPairs Ascends (x ∷ xs) → All (Ascends x) xs
pairs_first x xs pairs = λ j d l. pairs 0 (suc j) d (omega arith) (omega (arith, l))

pairs_rest : (x : Done) (xs : List Done) → AllPairs Ascends (x ∷ xs) → AllPairs Ascends xs
pairs_rest x xs pairs = λ i j d l within. pairs (suc i) (suc j) d (omega (arith, l)) (omega (arith, within))

never_itself : (n m : ℕ) → ordering_then (nat_cmp n n) (nat_cmp m m) ≡ Less → ⊥
never_itself n m e =
    let equal : Equal ≡ Less = sym (ap (λ (o : Ordering). ordering_then o (nat_cmp m m)) (tied_itself nat_cmp_total n) ∙ tied_itself nat_cmp_total m) ∙ e in absurd (cc)

never_same : (x y : Done) → x.replica ≡ y.replica → x.time ≡ y.time → Ascends x y → ⊥
never_same x y replica time less =
    never_itself y.time y.replica
    (subst (λ (n : ℕ). ordering_then (nat_cmp y.time y.time) (nat_cmp n y.replica) ≡ Less) replica
    (subst (λ (n : ℕ). ordering_then (nat_cmp n y.time) (nat_cmp x.replica y.replica) ≡ Less) time less))

apart : (ops : List Done) → AllPairs Ascends ops → AreApart ops
apart [] pairs one other has too replica time = absurd has
apart (x ∷ xs) pairs one other (inl e) (inl f) replica time = sym e ∙ f
apart (x ∷ xs) pairs one other (inl e) (inr too) replica time =
    absurd (never_same one other replica time (subst (λ (d : Done). Ascends d other) e (all_has (Ascends x) xs other (pairs_first x xs pairs) too)))
apart (x ∷ xs) pairs one other (inr has) (inl f) replica time =
    absurd (never_same other one (sym replica) (sym time) (subst (λ (d : Done). Ascends d one) f (all_has (Ascends x) xs one (pairs_first x xs pairs) has)))
apart (x ∷ xs) pairs one other (inr has) (inr too) replica time = apart xs (pairs_rest x xs pairs) one other has too replica time

-- an operation that fits the signature fits the type
arguments_fit : (params : List Param) (args : List Value) → AreMatched (λ (v : Value) (s : Sort). IsArgument s v) args (param_sorts params)
    → (place : ℕ) (p : Param) → slice_get params place ≡ Some p → HasSort p.sort (argument args place)
arguments_fit [] args fit place p e = let l = slice_get_within [] place p e in absurd (omega (arith, l))
arguments_fit (q ∷ params) [] fit place p e = absurd fit
arguments_fit (q ∷ params) (v ∷ args) fit zero p e = subst (λ (x : Param). HasSort x.sort v) (same_Some q p e) fit.0.fits
arguments_fit (q ∷ params) (v ∷ args) fit (suc place) p e = arguments_fit params args fit.1 place p e

op_fits : (ty : TypeForm) (done : Done) → FitsSignature (signature_of ty) done → FitsType ty done
op_fits ty done fits =
    let made = got_made op_sig ty.ops done.op fits.op fits.found in
    record {
      operation = made.0;
      there = made.1;
      args = arguments_fit made.0.params done.args (subst (λ (x : OpSig). AreMatched (λ (v : Value) (s : Sort). IsArgument s v) done.args x.sorts) (sym made.2) fits.args);
    }

-- the operations of a history can have been done together
can_be_done : (ty : TypeForm) (history : History) → IsHistory (signature_of ty) history → FitsHistory (signature_of ty) history → CanBeDone ty history.ops
can_be_done ty history is fits = record {
  fit = λ one has. op_fits ty one (all_has (FitsSignature (signature_of ty)) history.ops one fits.fits has);
  timed = λ one has. all_has IsTimed history.ops one fits.timed has;
  numbered = λ one has. (all_has (FitsSignature (signature_of ty)) history.ops one fits.fits has).numbered;
  once = fits.once;
  apart = apart history.ops is.ascending;
}

-- what is known of all histories
abbrev pub AreComplete : Type 0
AreComplete = (sig : Signature) (history : History) → Has (all_histories (calls_of sig)) history ↔ IsHistory sig history

abbrev pub TheyFit : Type 0
TheyFit = (sig : Signature) (i : ℕ) (history : History) → slice_get (histories sig) i ≡ Some history → FitsHistory sig history

is_history : AreComplete → (sig : Signature) (i : ℕ) (history : History) → slice_get (histories sig) i ≡ Some history → IsHistory sig history
is_history complete sig i history there =
    (complete sig history).0 (taken_has HISTORY_LIMIT (all_histories (calls_of sig)) history (got_has (histories sig) i history there))

-- a refuted design differs on operations that can have been done together
record DiffersSomewhere (ty : TypeForm) (d : DesignForm) : Type 0 where
  pub history : History
  pub can : CanBeDone ty history.ops
  pub differs : Differs ty d history

refuted_somewhere : AreComplete → TheyFit → (ty : TypeForm) (d : DesignForm) → IsRefuted ty d → DiffersSomewhere ty d
refuted_somewhere complete fit ty d refuted = record {
  history = refuted.history;
  can = can_be_done ty refuted.history (is_history complete (signature_of ty) refuted.place refuted.history refuted.there) (fit (signature_of ty) refuted.place refuted.history refuted.there);
  differs = refuted.differs;
}

-- what is asked of a cart's design
record IsCount (ask : Call) : Type 0 where
  pub number : ask.number ≡ 0
  pub key : HasSort sort.Name (argument ask.args 0)

count_is : (some ask : Call) → some ≡ ask → IsCount some → IsCount ask
count_is some ask e is = subst IsCount e is

asks_count : (ask : Call) → Has (asks_of (signature_of cart)) ask → IsCount ask
asks_count ask (inl e) = count_is _ ask e (record { number = refl; key = tt })
asks_count ask (inr (inl e)) = count_is _ ask e (record { number = refl; key = tt })
asks_count ask (inr (inr none)) = absurd none

key_fits : (args : List Value) → HasSort sort.Name (argument args 0) → FitQuery counting args
key_fits args key zero p e = subst (λ (x : Param). HasSort x.sort (argument args 0)) (same_Some thing p e) key
key_fits args key (suc place) p e = let l = slice_get_within counting.params (suc place) p e in absurd (omega (arith, l))

differs_nowhere : AnswersAsType cart summing → DiffersSomewhere cart summing → ⊥
differs_nowhere answers somewhere =
    let d = somewhere.differs in
    let ask = asks_count d.ask d.asked in
    d.unlike
    (answers somewhere.history.ops somewhere.can d.ask.number counting d.ask.args (ap (λ (n : ℕ). slice_get cart.queries n) ask.number) (key_fits d.ask.args ask.key) d.arranged
    d.arranges d.respects)

pub some_design : AreComplete → TheyFit → (options : Options) (report : List ℕ) → 4 ≤ options.size → options.kinds.tallies ≡ true → HasNone cart options report → ⊥
some_design complete fit options report large has none =
    differs_nowhere sums_answer_as_cart
    (refuted_somewhere complete fit cart summing ((none_means cart options report none).1 summing (sums_listed options large has)))
