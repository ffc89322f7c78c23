-- Used inside only.
-- The conjuncts of each form that fit, each form in its order.
use Rattle.std.specs.Prelude.{ℕ, nat_eq, if◌then◌else◌, List, [], ◌∷◌, ◌++◌}
use Rattle.kat_candidate.specs.declared.forms.Sides.{Sides}
use Rattle.kat_candidate.specs.declared.parts.Constant.{Constant}
use Rattle.kat_design.specs.Designs.{DesignForm, design_form}
use Rattle.kat_relation.specs.Fits.{are_of, conjunct_fits}
use Rattle.kat_relation.specs.declared.relations.Conjunct.{Conjunct}
use Rattle.kat_relation.specs.declared.relations.Conjunct.TheVariants.{Query, Equal, Bounded, AtLeast, Matched, Total}
use Rattle.kat_relation.specs.declared.relations.LeafRef.{LeafRef}
use Rattle.kat_type.specs.Types.{TypeForm, type_form}

-- a type with its design
pub record SidesForm : Type 0 where
  pub ty : TypeForm
  pub design : DesignForm

abbrev pub sides_form : Sides → SidesForm
sides_form s = record { ty = type_form s.ty.now; design = design_form s.design.now }

-- what a list gives for each element, one after the other
abbrev pub each_of : {X : Type 0} → (X → List Conjunct) → List X → List Conjunct
each_of f [] = []
each_of f (x ∷ xs) = f x ++ each_of f xs

-- the conjunct, if it fits
abbrev pub chosen : SidesForm → Conjunct → List Conjunct
chosen sides c = if conjunct_fits sides.ty sides.design.components c then c ∷ [] else []

abbrev pub query_of : SidesForm → ℕ → List Conjunct
query_of sides n = chosen sides (Query n)

abbrev pub equal_of : SidesForm → ℕ → LeafRef → List Conjunct
equal_of sides field leaf = chosen sides (Equal field leaf)

abbrev pub equals_of : SidesForm → List LeafRef → ℕ → List Conjunct
equals_of sides leaves field = each_of (equal_of sides field) leaves

-- Bounds of leaves, with more leaves after them: the next number of the text is a position, or the component of one more leaf.
abbrev pub behind_leaf : (List LeafRef → List Conjunct) → List LeafRef → ℕ → LeafRef → List Conjunct
behind_leaf more refs n leaf = if nat_eq leaf.component n then more (refs ++ leaf ∷ []) else []

abbrev pub longer_of : (List LeafRef → List Conjunct) → List LeafRef → List LeafRef → ℕ → List Conjunct
longer_of more leaves refs n = if are_of n refs then each_of (behind_leaf more refs n) leaves else []

abbrev pub bound_of : SidesForm → List LeafRef → (List LeafRef → List Conjunct) → List LeafRef → ℕ → List Conjunct
bound_of sides leaves more refs n = chosen sides (Bounded refs n) ++ longer_of more leaves refs n

-- at most as many leaves as there are positions
abbrev pub bounds_of : SidesForm → List LeafRef → List ℕ → List ℕ → List LeafRef → List Conjunct
bounds_of sides leaves numbers [] refs = []
bounds_of sides leaves numbers (p ∷ ps) refs = each_of (bound_of sides leaves (bounds_of sides leaves numbers ps) refs) numbers

abbrev pub first_bound_of : SidesForm → List LeafRef → List ℕ → List ℕ → LeafRef → List Conjunct
first_bound_of sides leaves numbers positions leaf = bounds_of sides leaves numbers positions (leaf ∷ [])

abbrev pub at_least_of : SidesForm → LeafRef → Constant → List Conjunct
at_least_of sides leaf k = chosen sides (AtLeast leaf k.position k.digit)

abbrev pub at_leasts_of : SidesForm → List Constant → LeafRef → List Conjunct
at_leasts_of sides constants leaf = each_of (at_least_of sides leaf) constants

abbrev pub match_of : SidesForm → LeafRef → ℕ → LeafRef → Constant → List Conjunct
match_of sides first position second k = chosen sides (Matched first position second k.position k.digit)

abbrev pub matches_with : SidesForm → List Constant → LeafRef → ℕ → LeafRef → List Conjunct
matches_with sides constants first position second = each_of (match_of sides first position second) constants

abbrev pub matches_at : SidesForm → List Constant → List LeafRef → LeafRef → ℕ → List Conjunct
matches_at sides constants leaves first position = each_of (matches_with sides constants first position) leaves

abbrev pub matches_of : SidesForm → List Constant → List LeafRef → List ℕ → LeafRef → List Conjunct
matches_of sides constants leaves positions first = each_of (matches_at sides constants leaves first) positions

abbrev pub total_of : SidesForm → ℕ → List Conjunct
total_of sides n = chosen sides (Total n)
