-- Weights as far as 2, and faults at a place.
use Rattle.std.proofs.Common.{◌≡◌, ℕ, Bool, true, false, min, refl, ◌∙◌, ap, Option, Some}
use Rattle.std.specs.Prelude.{if◌then◌else◌}
use Rattle.kat_judging.specs.Faults.{fault, first_of}
use Rattle.kat_judging.specs.declared.faults.Fault.{Fault}

pub one_small : (b : Bool) → (if b then 1 else 0) ≡ min 2 (if b then 1 else 0)
one_small true = refl
one_small false = refl

pub fault_here : (at place : ℕ) (one : Option Fault) → one ≡ Some (record { at = at; number = 9 }) → at ≡ place → one ≡ first_of (fault 9 place)
fault_here at place one is here = is ∙ ap (λ n. first_of (fault 9 n)) here
