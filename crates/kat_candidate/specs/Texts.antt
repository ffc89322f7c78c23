-- The order of conjuncts: by their form, and then by the numbers of their text.
use Rattle.std.specs.Prelude.{◌≡◌, ℕ, nat_lt, nat_eq, Bool, true, false, ◌&&◌, ◌||◌, List, [], ◌∷◌, ◌++◌}
use Rattle.kat_relation.specs.declared.relations.Conjunct.{Conjunct}
use Rattle.kat_relation.specs.declared.relations.Conjunct.TheVariants.{Query, Equal, Bounded, AtLeast, Matched, Total}
use Rattle.kat_relation.specs.declared.relations.LeafRef.{LeafRef}

-- the numbers of a leaf, and of leaves one after the other
abbrev pub leaf_text : LeafRef → List ℕ
leaf_text ref = ref.component ∷ ref.leaf ∷ []

abbrev pub leaves_text : List LeafRef → List ℕ
leaves_text [] = []
leaves_text (ref ∷ refs) = leaf_text ref ++ leaves_text refs

-- A conjunct as numbers: its form, by its place among the six forms, and then all numbers of its text from the left.
abbrev pub text_of : Conjunct → List ℕ
text_of (Query query) = 0 ∷ query ∷ []
text_of (Equal field leaf) = 1 ∷ field ∷ leaf_text leaf
text_of (Bounded leaves position) = 2 ∷ (leaves_text leaves ++ position ∷ [])
text_of (AtLeast leaf position digit) = 3 ∷ (leaf_text leaf ++ position ∷ digit ∷ [])
text_of (Matched first position second later digit) = 4 ∷ (leaf_text first ++ position ∷ (leaf_text second ++ later ∷ digit ∷ []))
text_of (Total component) = 5 ∷ component ∷ []

-- the lists of numbers are in the order of a dictionary
abbrev pub is_less : List ℕ → List ℕ → Bool
is_less [] [] = false
is_less [] (n ∷ ns) = true
is_less (m ∷ ms) [] = false
is_less (m ∷ ms) (n ∷ ns) = nat_lt m n || (nat_eq m n && is_less ms ns)

-- a conjunct comes before another
abbrev pub Precedes : Conjunct → Conjunct → Type 0
Precedes a b = is_less (text_of a) (text_of b) ≡ true
