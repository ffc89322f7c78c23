-- Tests and orders of lists of numbers and of tokens.
use Rattle.std.proofs.Common.{◌≡◌, ℕ, ◌<◌, ◌⊎◌, inl, inr, Bool, true, false, ◌&&◌, ◌||◌, List, [], ◌∷◌, refl, subst, arith}
use Rattle.std.specs.Prelude.{nat_lt, ◌==◌}
use Rattle.std.proofs.lemmas.Grind.{common_steps}
use Rattle.std.proofs.lemmas.Bool.{eqb-true}
use Rattle.kat_walk.specs.Machines.{IsLess}
use Rattle.kat_rules.specs.Orders.{before, rank, come_before}
use Rattle.kat_rules.specs.Tests.{is_less}
use Rattle.kat_rules.specs.declared.tokens.Token.{Token}

abbrev pub under : ℕ → ℕ → Type 0
under a b = a < b

pub or_cases : (a b : Bool) → a || b ≡ true → (a ≡ true) ⊎ (b ≡ true)
or_cases true b h = inl refl
or_cases false b h = inr h

pub and_first : (a b : Bool) → a && b ≡ true → a ≡ true
and_first true b h = refl
and_first false b h = absurd cc

pub and_second : (a b : Bool) → a && b ≡ true → b ≡ true
and_second true b h = h
and_second false b h = absurd cc

less_test : (a b : ℕ) → nat_lt a b ≡ true → a < b
less_test a b h = grind (arith, common_steps)

pub less_by_test : (u v : List ℕ) → is_less u v ≡ true → IsLess under u v
less_by_test [] [] h = absurd cc
less_by_test [] (b ∷ v) h = tt
less_by_test (a ∷ u) [] h = absurd cc
less_by_test (a ∷ u) (b ∷ v) h =
    elim (or_cases (nat_lt a b) (a == b && is_less u v) h) as (λ _. IsLess under (a ∷ u) (b ∷ v)) [
      | inl l ↦ inl (less_test a b l)
      | inr e ↦ inr (eqb-true a b (and_first (a == b) (is_less u v) e), less_by_test u v (and_second (a == b) (is_less u v) e))
    ]

never_less : (u v : List ℕ) → IsLess under u v → IsLess under v u → ⊥
never_less [] [] h k = h
never_less [] (b ∷ v) h k = k
never_less (a ∷ u) [] h k = h
never_less (a ∷ u) (b ∷ v) (inl l) (inl m) = absurd (omega (arith, l, m))
never_less (a ∷ u) (b ∷ v) (inl l) (inr m) = let e = m.0 in absurd (omega (arith, l, e))
never_less (a ∷ u) (b ∷ v) (inr l) (inl m) = let e = l.0 in absurd (omega (arith, m, e))
never_less (a ∷ u) (b ∷ v) (inr l) (inr m) = never_less u v l.1 m.1

pub never_both : (u v : List Token) → come_before u v → come_before v u → ⊥
never_both [] [] h k = h
never_both [] (b ∷ v) h k = k
never_both (a ∷ u) [] h k = h
never_both (a ∷ u) (b ∷ v) (inl l) (inl m) = never_less (rank a) (rank b) l m
never_both (a ∷ u) (b ∷ v) (inl l) (inr m) = let n = subst (λ (t : Token). before a t) m.0 l in never_less (rank a) (rank a) n n
never_both (a ∷ u) (b ∷ v) (inr l) (inl m) = let n = subst (λ (t : Token). before b t) l.0 m in never_less (rank b) (rank b) n n
never_both (a ∷ u) (b ∷ v) (inr l) (inr m) = never_both u v l.1 m.1
