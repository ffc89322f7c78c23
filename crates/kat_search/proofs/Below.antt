-- The designs of a listing can be tried.
use Rattle.std.proofs.Common.{ℕ, ◌≤◌, arith}
use Rattle.kat_design.specs.Designs.{DesignForm}
use Rattle.kat_design.specs.Sizes.{size_of}
use Rattle.kat_design.proofs.Converse.{no_faults}
use Rattle.kat_rules.specs.Listed.{IsListed, setting_of}
use Rattle.kat_rules.specs.declared.kind_sets.Kinds.{Kinds}
use Rattle.kat_rules.proofs.Passing.{sorted_small}
use Rattle.kat_type.specs.Types.{TypeForm}
use Rattle.kat_search.specs.Findings.{IsTryable}

pub listed_tryable : (ty : TypeForm) (n : ℕ) (kinds : Kinds) (d : DesignForm) → n ≤ 24 → IsListed ty n kinds d → IsTryable ty d
listed_tryable ty n kinds d small l =
    let most : size_of d ≤ 24 = let s = l.small in omega (arith, s, small) in
    let sorted = sorted_small (setting_of ty kinds) d l.rules most in
    record { sorted = sorted; accepted = no_faults d sorted; agrees = l.rules.signature }
