-- Facts whose forms are light: each weighs at most twice the greatest value and one.
use Rattle.std.proofs.Common.{◌≡◌, ℕ, ◌+◌, ◌≤◌, Bool, List, [], ◌∷◌, ◌++◌, refl, sym, subst, arith}
use Rattle.std.specs.Prelude.{◌^◌}
use Rattle.kat_linear.specs.Rows.{Form}
use Rattle.kat_form.specs.Facts.{Fact, Facts, forms_in, forms_in_each, listed}
use Rattle.kat_form.specs.Facts.Fact.{known, truth_is, at_most, above, all_of, any_of}
use Rattle.kat_form.specs.Facts.Facts.{none, more}
use Rattle.kat_symbols.specs.Connectives.{denied, denied_each, or_of, and_of, fact_lt, fact_le, fact_same, truth_lt, truth_same, truth_if}
use Rattle.kat_symbols.specs.Sums.{minus, raised}
use Rattle.kat_bounds.proofs.Weights.{IsUpTo, up_more, minus_up, raised_up}

-- no value weighs more: the codes of names are below it
unfoldable pub most : ℕ
most = 2 ^ 120

pub most_above : 1 ≤ most
unfolding most
most_above = omega arith

pub nine_low : 9 ≤ most
unfolding most
nine_low = omega arith

-- and no form of a fact more than this
abbrev pub fact_most : ℕ
fact_most = most + most + 1

abbrev pub Every : {X : Type 0} → (X → Type 0) → List X → Type 0
Every P [] = Unit {0}
Every P (x ∷ xs) = P x × Every P xs

pub every_append : {X : Type 0} (P : X → Type 0) (xs ys : List X) → Every P xs → Every P ys → Every P (xs ++ ys)
every_append P [] ys h k = k
every_append P (x ∷ xs) ys h k = (h.0, every_append P xs ys h.1 k)

pub every_last : {X : Type 0} (P : X → Type 0) (xs : List X) (x : X) → Every P xs → P x → Every P (xs ++ x ∷ [])
every_last P xs x h k = every_append P xs (x ∷ []) h (k, tt)

-- a reader may have this many slots
module _ (slots_most : ℕ) where
  -- a light fact
  pub record IsLightFact (f : Fact) : Type 0 where
    pub forms : Every (IsUpTo slots_most fact_most) (forms_in f)

  pub record AreLightFacts (fs : Facts) : Type 0 where
    pub forms : Every (IsUpTo slots_most fact_most) (forms_in_each fs)

  pub known_light : (b : Bool) → IsLightFact (known b)
  known_light b = record { forms = tt }

  pub flag_light : (v : ℕ) (b : Bool) → IsLightFact (truth_is v b)
  flag_light v b = record { forms = tt }

  at_most_light : (a : Form) → IsUpTo slots_most fact_most a → IsLightFact (at_most a)
  at_most_light a h = record { forms = (h, tt) }

  pub none_light : AreLightFacts none
  none_light = record { forms = tt }

  pub more_light : (f : Fact) (fs : Facts) → IsLightFact f → AreLightFacts fs → AreLightFacts (more f fs)
  more_light f fs h k = record { forms = every_append (IsUpTo slots_most fact_most) (forms_in f) (forms_in_each fs) h.forms k.forms }

  pub all_light : (fs : Facts) → AreLightFacts fs → IsLightFact (all_of fs)
  all_light fs h = record { forms = h.forms }

  pub any_light : (fs : Facts) → AreLightFacts fs → IsLightFact (any_of fs)
  any_light fs h = record { forms = h.forms }

  -- a denied fact has the same forms
  mutual
    denied_forms : (f : Fact) → forms_in (denied f) ≡ forms_in f
    denied_forms (known b) = refl
    denied_forms (truth_is v positive) = refl
    denied_forms (at_most form) = refl
    denied_forms (above form) = refl
    denied_forms (all_of fs) = denied_each_forms fs
    denied_forms (any_of fs) = denied_each_forms fs

    denied_each_forms : (fs : Facts) → forms_in_each (denied_each fs) ≡ forms_in_each fs
    denied_each_forms none = refl
    denied_each_forms (more f fs) = rw (denied_forms f, denied_each_forms fs) refl

  pub denied_light : (f : Fact) → IsLightFact f → IsLightFact (denied f)
  denied_light f h = record { forms = subst (λ forms. Every (IsUpTo slots_most fact_most) forms) (sym (denied_forms f)) h.forms }

  two_light : (f g : Fact) → IsLightFact f → IsLightFact g → AreLightFacts (listed (f ∷ g ∷ []))
  two_light f g h k = more_light f (listed (g ∷ [])) h (more_light g none k none_light)

  pub or_light : (f g : Fact) → IsLightFact f → IsLightFact g → IsLightFact (or_of f g)
  or_light f g h k = any_light (listed (f ∷ g ∷ [])) (two_light f g h k)

  pub and_light : (f g : Fact) → IsLightFact f → IsLightFact g → IsLightFact (and_of f g)
  and_light f g h k = all_light (listed (f ∷ g ∷ [])) (two_light f g h k)

  -- comparisons of values
  minus_light : (a b : Form) → IsUpTo slots_most most a → IsUpTo slots_most most b → IsUpTo slots_most (most + most) (minus a b)
  minus_light a b h k = minus_up slots_most most most a b h k

  pub le_light : (a b : Form) → IsUpTo slots_most most a → IsUpTo slots_most most b → IsLightFact (fact_le a b)
  le_light a b h k = at_most_light (minus a b) (up_more slots_most (most + most) fact_most (minus a b) (omega arith) (minus_light a b h k))

  pub lt_light : (a b : Form) → IsUpTo slots_most most a → IsUpTo slots_most most b → IsLightFact (fact_lt a b)
  lt_light a b h k = at_most_light (raised (minus a b)) (raised_up slots_most (most + most) (minus a b) (minus_light a b h k))

  pub same_light : (a b : Form) → IsUpTo slots_most most a → IsUpTo slots_most most b → IsLightFact (fact_same a b)
  same_light a b h k = and_light (fact_le a b) (fact_le b a) (le_light a b h k) (le_light b a k h)

  pub truth_lt_light : (f g : Fact) → IsLightFact f → IsLightFact g → IsLightFact (truth_lt f g)
  truth_lt_light f g h k = and_light (denied f) g (denied_light f h) k

  pub truth_same_light : (f g : Fact) → IsLightFact f → IsLightFact g → IsLightFact (truth_same f g)
  truth_same_light f g h k = and_light (or_of (denied f) g) (or_of f (denied g)) (or_light (denied f) g (denied_light f h) k) (or_light f (denied g) h (denied_light g k))

  pub truth_if_light : (c f g : Fact) → IsLightFact c → IsLightFact f → IsLightFact g → IsLightFact (truth_if c f g)
  truth_if_light c f g o h k = and_light (or_of (denied c) f) (or_of c g) (or_light (denied c) f (denied_light c o) h) (or_light c g o k)
