-- The designs of a listing can be tried.
use Rattle.std.proofs.Common.{◌≡◌, ℕ, zero, suc, ◌≤◌, inl, inr, List, [], ◌∷◌, Some, sym, arith, slice_get}
use Rattle.std.proofs.lemmas.Option.{same_Some, slice_get_within}
use Rattle.kat_design.specs.Designs.{DesignForm}
use Rattle.kat_design.specs.Sizes.{size_of}
use Rattle.kat_design.proofs.Converse.{no_faults}
use Rattle.kat_rules.specs.Listed.{IsListed, IsListing, setting_of}
use Rattle.kat_rules.specs.declared.kind_sets.Kinds.{Kinds}
use Rattle.kat_rules.proofs.Passing.{sorted_small}
use Rattle.kat_type.specs.Types.{TypeForm}
use Rattle.kat_walk.specs.Machines.{IsOneOf}
use Rattle.kat_due.specs.Readings.{IsTryable}

one_at : {A : Type 0} (xs : List A) (i : ℕ) (x : A) → slice_get xs i ≡ Some x → IsOneOf x xs
one_at [] i x h = let l = slice_get_within [] i x h in absurd (omega (arith, l))
one_at (y ∷ ys) zero x h = inl (sym (same_Some y x h))
one_at (y ∷ ys) (suc i) x h = inr (one_at ys i x h)

tryable : (ty : TypeForm) (n : ℕ) (kinds : Kinds) (d : DesignForm) → n ≤ 24 → IsListed ty n kinds d → IsTryable ty d
tryable ty n kinds d small l =
    let most : size_of d ≤ 24 = let s = l.small in omega (arith, s, small) in
    let sorted = sorted_small (setting_of ty kinds) d l.rules most in
    record { sorted = sorted; accepted = no_faults d sorted; agrees = l.rules.signature }

pub listed_tryable : (ty : TypeForm) (n : ℕ) (kinds : Kinds) (designs : List DesignForm) (place : ℕ) (d : DesignForm) → n ≤ 24 → IsListing ty n kinds designs → slice_get designs place ≡ Some d → IsTryable ty d
listed_tryable ty n kinds designs place d small listing there = tryable ty n kinds d small ((listing.exactly d).0 (one_at designs place d there))
