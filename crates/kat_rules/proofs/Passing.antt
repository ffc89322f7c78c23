-- The test of the rules tells the designs that keep them.
use Rattle.std.proofs.Common.{◌≡◌, ◌≤◌, true, List, [], ◌∷◌, map, length, refl, sym, ap, subst, arith}
use Rattle.std.specs.Prelude.{◌&&◌}
use Rattle.std.specs.List.{list_all}
use Rattle.kat_type.specs.declared.signatures.Signature.{Signature}
use Rattle.kat_design.specs.Designs.{DesignForm}
use Rattle.kat_design.specs.Faults.{Path, faults_of}
use Rattle.kat_design.specs.Sizes.{size_of}
use Rattle.kat_design.specs.Sorted.{AreMatched, Answers, EachHas, IsComponent, IsWellSorted}
use Rattle.kat_design.proofs.Accepted.{well_sorted}
use Rattle.kat_design.proofs.Converse.{no_faults}
use Rattle.kat_rules.specs.Listed.{AreStarts, HasConstants, HasEffect, HasKindOf, IsOrdered, KeepsRules}
use Rattle.kat_rules.specs.Tests.{are_good_asks, are_good_components, are_none, are_read, are_starts, has_constants, has_effect, has_kind_of, is_ascending, is_ordered, keeps_rules}
use Rattle.kat_rules.specs.Tokens.{component_tokens}
use Rattle.kat_rules.specs.declared.constants.Setting.{Setting}
use Rattle.kat_rules.proofs.Few.{few_components}
use Rattle.kat_rules.proofs.Comparing.{and_first, and_second}
use Rattle.kat_rules.proofs.Ruled.{all_read_is, all_read_was, ascending_is, ascending_was, both_true, constants_tell, each_tells, effects_tell, kinds_tell, orders_tell, starts_tell}

none_there : (ps : List Path) → are_none ps ≡ true → ps ≡ []
none_there [] h = refl
none_there (p ∷ ps) h = absurd cc

-- a design that passes keeps the rules
pub rules_kept : (x : Setting) (d : DesignForm) → d.sig ≡ x.sig → keeps_rules x d ≡ true → KeepsRules x d
rules_kept x d sig h =
    let reads = are_read (length d.components) d.asks in
    let components = are_good_components x d.components in
    let asks = are_good_asks x d.asks in
    let sorted = are_none (faults_of d) in
    let k = and_second reads (components && (asks && sorted)) h in
    let good : components ≡ true = and_first components (asks && sorted) k in
    let l = and_second components (asks && sorted) k in
    let right : asks ≡ true = and_first asks sorted l in
    let fit = well_sorted d (none_there (faults_of d) (and_second asks sorted l)) in
    let a = list_all (has_kind_of x.kinds) d.components in
    let b = list_all has_effect d.components in
    let c = list_all (are_starts x.constants) d.components in
    let e = is_ascending (map (component_tokens x.constants) d.components) in
    let behind = and_second a (b && (c && e)) good in
    let rest = and_second b (c && e) behind in
    record {
      signature = sig;
      components = subst (λ (s : Signature). EachHas (IsComponent s.ops) d.components) sig fit.components;
      asks = subst (λ (s : Signature). AreMatched (Answers d.components) d.asks s.queries) sig fit.asks;
      kinds = (each_tells (has_kind_of x.kinds) (HasKindOf x.kinds) (kinds_tell x.kinds)).is d.components (and_first a (b && (c && e)) good);
      effects = (each_tells has_effect HasEffect effects_tell).is d.components (and_first b (c && e) behind);
      reads = all_read_is (length d.components) d.asks (and_first reads (components && (asks && sorted)) h);
      ascend = ascending_is (component_tokens x.constants) d.components (and_second c e rest);
      ordered = (each_tells (is_ordered x.constants) (IsOrdered x.constants) (orders_tell x.constants)).is d.asks (and_second (list_all (has_constants x.constants) d.asks) (list_all (is_ordered x.constants) d.asks) right);
      starts = (each_tells (are_starts x.constants) (AreStarts x.constants) (starts_tell x.constants)).is d.components (and_first c e rest);
      constants = (each_tells (has_constants x.constants) (HasConstants x.constants) (constants_tell x.constants)).is d.asks (and_first (list_all (has_constants x.constants) d.asks) (list_all (is_ordered x.constants) d.asks) right);
    }

-- a small design that keeps the rules passes
pub sorted_small : (x : Setting) (d : DesignForm) → KeepsRules x d → size_of d ≤ 24 → IsWellSorted d
sorted_small x d rules small = record {
  few = let f = few_components x.sig.ops d rules.components rules.effects rules.reads in omega (arith, f, small);
  small = omega (arith, small);
  components = subst (λ (s : Signature). EachHas (IsComponent s.ops) d.components) (sym rules.signature) rules.components;
  asks = subst (λ (s : Signature). AreMatched (Answers d.components) d.asks s.queries) (sym rules.signature) rules.asks;
}

pub rules_pass : (x : Setting) (d : DesignForm) → KeepsRules x d → size_of d ≤ 24 → keeps_rules x d ≡ true
rules_pass x d rules small =
    let reads = are_read (length d.components) d.asks in
    let components = are_good_components x d.components in
    let asks = are_good_asks x d.asks in
    let sorted = are_none (faults_of d) in
    let a = list_all (has_kind_of x.kinds) d.components in
    let b = list_all has_effect d.components in
    let c = list_all (are_starts x.constants) d.components in
    let e = is_ascending (map (component_tokens x.constants) d.components) in
    let none : faults_of d ≡ [] = no_faults d (sorted_small x d rules small) in
    both_true reads (components && (asks && sorted)) (all_read_was (length d.components) d.asks rules.reads)
    (both_true components (asks && sorted)
    (both_true a (b && (c && e)) ((each_tells (has_kind_of x.kinds) (HasKindOf x.kinds) (kinds_tell x.kinds)).was d.components rules.kinds)
    (both_true b (c && e) ((each_tells has_effect HasEffect effects_tell).was d.components rules.effects)
    (both_true c e ((each_tells (are_starts x.constants) (AreStarts x.constants) (starts_tell x.constants)).was d.components rules.starts)
    (ascending_was (component_tokens x.constants) d.components rules.ascend))))
    (both_true asks sorted
    (both_true (list_all (has_constants x.constants) d.asks) (list_all (is_ordered x.constants) d.asks)
    ((each_tells (has_constants x.constants) (HasConstants x.constants) (constants_tell x.constants)).was d.asks rules.constants)
    ((each_tells (is_ordered x.constants) (IsOrdered x.constants) (orders_tell x.constants)).was d.asks rules.ordered))
    (ap are_none none)))
