-- The candidates of a type and a design: the conjuncts from which their relations are tried.
use Rattle.std.specs.Prelude.{◌≡◌, ◌↔◌, ℕ, ◌<◌, List, Some, slice_get}
use Rattle.std.specs.List.{AllPairs}
use Rattle.kat_design.specs.Designs.{DesignForm}
use Rattle.kat_relation.specs.Fits.{FitsConjunct}
use Rattle.kat_relation.specs.declared.relations.Conjunct.{Conjunct}
use Rattle.kat_relation.specs.declared.relations.Conjunct.TheVariants.{Query, Equal, Bounded, AtLeast, Matched, Total}
use Rattle.kat_type.specs.Lists.{Has}
use Rattle.kat_type.specs.Types.{OperationForm, TypeForm}
use Rattle.kat_type.specs.declared.types.Rank.TheVariants.{Digit}
use Rattle.kat_candidate.specs.Texts.{Precedes}

-- some operation has this digit at this position of its rank
pub record HasDigit (ty : TypeForm) (position digit : ℕ) : Type 0 where
  pub op : OperationForm
  pub among : Has ty.ops op
  pub there : slice_get op.ranks position ≡ Some (Digit digit)

-- a constant of a conjunct is a digit above 0 that some operation has at the position
abbrev pub IsConstant : TypeForm → ℕ → ℕ → Type 0
IsConstant ty position digit = (0 < digit) × HasDigit ty position digit

abbrev pub HasConstant : TypeForm → Conjunct → Type 0
HasConstant ty (Query query) = Unit {0}
HasConstant ty (Equal field leaf) = Unit {0}
HasConstant ty (Bounded leaves position) = Unit {0}
HasConstant ty (AtLeast leaf position digit) = IsConstant ty position digit
HasConstant ty (Matched first position second later digit) = IsConstant ty later digit
HasConstant ty (Total component) = Unit {0}

-- a candidate fits the type and the design, and its constant is one of the type's digits
abbrev pub IsCandidate : TypeForm → DesignForm → Conjunct → Type 0
IsCandidate ty design c = FitsConjunct ty design.components c × HasConstant ty c

-- These are the candidates: a conjunct is among them if and only if it is a candidate, and each comes before all later ones.
pub record AreCandidates (ty : TypeForm) (design : DesignForm) (conjuncts : List Conjunct) : Type 0 where
  pub members : (c : Conjunct) → Has conjuncts c ↔ IsCandidate ty design c
  pub ascending : AllPairs Precedes conjuncts
