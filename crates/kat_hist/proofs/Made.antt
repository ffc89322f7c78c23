-- Trials of histories, made when they are wanted, and kept.
use Rattle.std.proofs.Common.{◌≡◌, ℕ, zero, suc, ◌+◌, ◌<◌, ◌⊎◌, inl, inr, Bool, true, false, List, [], ◌∷◌, length, get_or, replicate, set, refl, sym, ◌∙◌, ap, subst, Result, Ok, Err, Some, None}
use Rattle.std.specs.Prelude.{All, IfOk, Option, ◌^◌, slice_get}
use Rattle.std.specs.declared.alloc.AllocError.{AllocError}
use Rattle.std.specs.Bool.{Decides}
use Rattle.std.proofs.lemmas.Option.{slice_get-get_or}
use Rattle.kat_num.specs.declared.values.Value.{Value}
use Rattle.kat_design.specs.Denotations.{denotation_of}
use Rattle.kat_design.specs.Designs.{DesignForm}
use Rattle.kat_expr.specs.Limits.{IsAtMost}
use Rattle.kat_type.specs.Signatures.{signature_of}
use Rattle.kat_type.specs.Types.{TypeForm}
use Rattle.kat_type.specs.declared.done.Done.{Done}
use Rattle.kat_type.specs.declared.signatures.Signature.{Signature}
use Rattle.kat_histories.specs.Histories.{FitsHistory, histories, history_of}
use Rattle.kat_histories.specs.Orders.{orders_of}
use Rattle.kat_histories.specs.Pools.{asks_of}
use Rattle.kat_histories.specs.declared.calls.Call.{Call}
use Rattle.kat_histories.specs.declared.histories.History.{History}
use Rattle.kat_histories.specs.Differing.{Differs}
use Rattle.kat_histories.specs.Cards.{IsCard, IsCardFor}
use Rattle.kat_histories.specs.declared.cards.Card.{Card}
use Rattle.kat_hist.specs.Firsts.{IsFirstPlace}
use Rattle.kat_hist.specs.Trials.{AreKept, IsCardAt, IsTrialAt, IsTrialOf, Tells, is_refuted}
use Rattle.kat_hist.specs.declared.trials.Trial.{Trial}
use Rattle.kat_histories.proofs.SmallAsks.{asks_small}
use Rattle.kat_hist.proofs.Asked.{differs_slice}
use Rattle.kat_hist.proofs.Seeking.{NoneBefore, first_found, none_next}

some_same : {Z : Type 0} {a b : Z} → Some a ≡ Some b → a ≡ b
some_same h = cc h

-- a history, when some list has none
some_history : History
some_history = record { ops = [] }

-- nothing is kept yet
pub none_kept : {X : Type 0} (Is : ℕ → X → Type 0) (n : ℕ) (kept : List (Option X)) → kept ≡ replicate n None → AreKept Is kept
none_kept {X} Is n kept is =
    record { each = λ number x got. absurd (nothing n number x (sym (ap (λ (l : List (Option X)). slice_get l number) is) ∙ got)) } where
      nothing : (n number : ℕ) (x : X) → slice_get (replicate n None) number ≡ Some (Some x) → ⊥
      nothing zero number x e = absurd (cc e)
      nothing (suc n) zero x e = absurd (cc e)
      nothing (suc n) (suc number) x e = nothing n number x e

-- the elements of a list in which one element was replaced
set_got : {X : Type 0} (xs : List X) (i j : ℕ) (x y : X) → slice_get (set xs i x) j ≡ Some y → ((j ≡ i) × (y ≡ x)) ⊎ (slice_get xs j ≡ Some y)
set_got [] i j x y e = inr e
set_got (z ∷ xs) zero zero x y e = inl (refl, sym (some_same e))
set_got (z ∷ xs) zero (suc j) x y e = inr e
set_got (z ∷ xs) (suc i) zero x y e = inr e
set_got (z ∷ xs) (suc i) (suc j) x y e = next (set_got xs i j x y e) where
  next : ((j ≡ i) × (y ≡ x)) ⊎ (slice_get xs j ≡ Some y) → ((suc j ≡ suc i) × (y ≡ x)) ⊎ (slice_get xs j ≡ Some y)
  next (inl p) = inl (ap suc p.0, p.1)
  next (inr q) = inr q

-- one more is kept, or none
pub one_kept : {X : Type 0} (Is : ℕ → X → Type 0) (old new : List (Option X)) (number : ℕ) (x : X) → AreKept Is old → Is number x → (new ≡ old) ⊎ (new ≡ set old number (Some x)) → AreKept Is new
one_kept {X} Is old new number x are at (inl same) = subst (λ (l : List (Option X)). AreKept Is l) (sym same) are
one_kept {X} Is old new number x are at (inr is) =
    subst (λ (l : List (Option X)). AreKept Is l) (sym is) (record { each = λ other one got. here other one (set_got old number other (Some x) (Some one) got) }) where
      here : (other : ℕ) (one : X) → ((other ≡ number) × (Some one ≡ Some x)) ⊎ (slice_get old other ≡ Some (Some one)) → Is other one
      here other one (inl p) = subst (λ (y : X). Is other y) (sym (some_same p.1)) (subst (λ (n : ℕ). Is n x) (sym p.0) at)
      here other one (inr before) = are.each other one before

-- the card of the history with a number
pub got_card : (ty : TypeForm) (whole : List History) (number : ℕ) (history : History) (card : Card) → slice_get whole number ≡ Some history → IsCard ty history card → IsCardAt ty whole number card
got_card ty whole number history card there is = λ other at. subst (λ (h : History). IsCard ty h card) (some_same (sym there ∙ at)) is

-- it can be asked of designs, and tells whether one differs
pub card_for : (ty : TypeForm) (sig : Signature) (whole : List History) (number : ℕ) (card : Card) → ((s : Signature) (i : ℕ) (h : History) → slice_get (histories s) i ≡ Some h → FitsHistory s h)
    → sig ≡ signature_of ty → whole ≡ histories (signature_of ty) → number < length whole → IsCardAt ty whole number card → IsCardFor sig card
card_for ty sig whole number card fit same is lt at =
    let history = get_or whole number some_history in
    let there : slice_get whole number ≡ Some history = slice_get-get_or whole number some_history lt in
    record {
      ty = ty;
      history = history;
      agrees = sym same;
      fits = subst (λ (s : Signature). FitsHistory s history) (sym same) (fit (signature_of ty) number history (ap (λ (l : List History). slice_get l number) (sym is) ∙ there));
      is = at history there;
    }

pub card_decides_at : (ty : TypeForm) (d : DesignForm) (whole : List History) (number : ℕ) (card : Card) (r : Result Bool AllocError) → d.sig ≡ signature_of ty
    → IsCardAt ty whole number card
    → IfOk r (λ (found : Bool). (t : TypeForm) (history : History) → signature_of t ≡ d.sig → IsCard t history card → Decides found (Differs t d history))
    → IfOk r (λ (found : Bool). (history : History) → slice_get whole number ≡ Some history → Decides found (Differs ty d history))
card_decides_at ty d whole number card (Ok found) same at decides = λ history there. decides ty history (sym same) (at history there)
card_decides_at ty d whole number card (Err e) same at decides = tt

-- what is asked is small
pub small_asks : (ty : TypeForm) (asks : List Call) → asks ≡ asks_of (signature_of ty) → All (λ (ask : Call). All (IsAtMost (2 ^ 100)) ask.args) asks
small_asks ty asks is = subst (λ (l : List Call). All (λ (ask : Call). All (IsAtMost (2 ^ 100)) ask.args) l) (sym is) (asks_small (signature_of ty))

-- a trial can be asked of designs
pub trial_fits : (ty : TypeForm) (sig : Signature) (asks : List Call) (whole : List History) (number : ℕ) (trial : Trial) (ops : List Done)
    → ((s : Signature) (i : ℕ) (history : History) → slice_get (histories s) i ≡ Some history → FitsHistory s history)
    → sig ≡ signature_of ty → whole ≡ histories (signature_of ty) → IsTrialAt ty asks whole number trial → number < length whole → ops ≡ trial.ops → FitsHistory sig (history_of ops)
trial_fits ty sig asks whole number trial ops fit same is at lt ones =
    let there : slice_get whole number ≡ Some (get_or whole number some_history) = slice_get-get_or whole number some_history lt in
    let t : IsTrialOf ty asks (get_or whole number some_history) trial = at (get_or whole number some_history) there in
    subst (λ (s : Signature). FitsHistory s (history_of ops)) (sym same)
    (subst (λ (h : History). FitsHistory (signature_of ty) h) (sym t.ops ∙ ap history_of (sym ones))
    (fit (signature_of ty) number (get_or whole number some_history) (ap (λ (l : List History). slice_get l number) (sym is) ∙ there)))

-- and tells whether a design differs
pub trial_decides : (ty : TypeForm) (d : DesignForm) (asks : List Call) (whole : List History) (number : ℕ) (trial : Trial) (ops : List Done) (b : Bool)
    → ((s : Signature) (i : ℕ) (history : History) → slice_get (histories s) i ≡ Some history → FitsHistory s history)
    → d.sig ≡ signature_of ty → whole ≡ histories (signature_of ty) → asks ≡ asks_of (signature_of ty) → IsTrialAt ty asks whole number trial
    → ops ≡ trial.ops → b ≡ is_refuted d (denotation_of d ops) asks trial.answers
    → (history : History) → slice_get whole number ≡ Some history → Decides b (Differs ty d history)
trial_decides ty d asks whole number trial ops b fit same is asked at ones e history there =
    let t : IsTrialOf ty asks history trial = at history there in
    let fits : FitsHistory (signature_of ty) history = fit (signature_of ty) number history (ap (λ (l : List History). slice_get l number) (sym is) ∙ there) in
    differs_slice ty d history trial.ops asks b (ap (λ (h : History). h.ops) t.ops) fits.once same (asked ∙ ap asks_of (sym same))
    (e ∙ ap (λ (l : List Done). is_refuted d (denotation_of d l) asks trial.answers) ones ∙ t.tells.each d (denotation_of d trial.ops))

-- what is got can be asked of designs
pub got_fits : (ty : TypeForm) (whole : List History) (number : ℕ) (history : History) → ((s : Signature) (i : ℕ) (h : History) → slice_get (histories s) i ≡ Some h → FitsHistory s h)
    → whole ≡ histories (signature_of ty) → slice_get whole number ≡ Some history → FitsHistory (signature_of ty) history
got_fits ty whole number history fit is there = fit (signature_of ty) number history (ap (λ (l : List History). slice_get l number) (sym is) ∙ there)

-- its trial
pub got_trial : (ty : TypeForm) (asks : List Call) (whole : List History) (number : ℕ) (history : History) (ops : List Done) (answers : Option (List Value))
    → slice_get whole number ≡ Some history → ops ≡ history.ops → Tells ty asks (orders_of ops) answers
    → IsTrialAt ty asks whole number (record { ops = history.ops; answers = answers })
got_trial ty asks whole number history ops answers there same tells = λ other at.
    subst (λ (h : History). IsTrialOf ty asks h (record { ops = history.ops; answers = answers })) (some_same (sym there ∙ at))
    (record { ops = refl; tells = subst (λ (l : List Done). Tells ty asks (orders_of l) answers) same tells })

-- the number of the first history on which a design differs
pub first_here : (ty : TypeForm) (d : DesignForm) (whole : List History) (number : ℕ) (b : Bool) → number < length whole
    → ((history : History) → slice_get whole number ≡ Some history → Decides b (Differs ty d history)) → b ≡ true → NoneBefore (Differs ty d) whole number
    → IsFirstPlace (Differs ty d) whole (Some number)
first_here ty d whole number b lt decides e before =
    let at = slice_get-get_or whole number some_history lt in
    first_found (Differs ty d) whole number (get_or whole number some_history) b at (decides (get_or whole number some_history) at) e before

pub none_here : (ty : TypeForm) (d : DesignForm) (whole : List History) (number : ℕ) (b : Bool) → number < length whole
    → ((history : History) → slice_get whole number ≡ Some history → Decides b (Differs ty d history)) → b ≡ false → NoneBefore (Differs ty d) whole number
    → NoneBefore (Differs ty d) whole (number + 1)
none_here ty d whole number b lt decides e before =
    let at = slice_get-get_or whole number some_history lt in
    none_next (Differs ty d) whole number (number + 1) (get_or whole number some_history) b refl at (decides (get_or whole number some_history) at) e before

-- the same of a type that is kept
pub decides_for : (ty other : TypeForm) (d : DesignForm) (whole : List History) (number : ℕ) (r : Result Bool AllocError) → ty ≡ other → whole ≡ histories (signature_of ty)
    → IfOk r (λ (found : Bool). (history : History) → slice_get whole number ≡ Some history → Decides found (Differs ty d history))
    → IfOk r (λ (found : Bool). (history : History) → slice_get (histories (signature_of other)) number ≡ Some history → Decides found (Differs other d history))
decides_for ty other d whole number r same is p =
    subst (λ (t : TypeForm). IfOk r (λ (found : Bool). (history : History) → slice_get (histories (signature_of t)) number ≡ Some history → Decides found (Differs t d history))) same
    (subst (λ (l : List History). IfOk r (λ (found : Bool). (history : History) → slice_get l number ≡ Some history → Decides found (Differs ty d history))) is p)

pub first_for : (ty other : TypeForm) (d : DesignForm) (whole : List History) (r : Result (Option ℕ) AllocError) → ty ≡ other → whole ≡ histories (signature_of ty)
    → IfOk r (IsFirstPlace (Differs ty d) whole) → IfOk r (IsFirstPlace (Differs other d) (histories (signature_of other)))
first_for ty other d whole r same is p =
    subst (λ (t : TypeForm). IfOk r (IsFirstPlace (Differs t d) (histories (signature_of t)))) same
    (subst (λ (l : List History). IfOk r (IsFirstPlace (Differs ty d) l)) is p)
