-- Used inside only.
-- What conjuncts are made of, listed: numbers, leaves, constants.
use Rattle.std.specs.Prelude.{ℕ, zero, suc, nat_eq, Bool, true, false, if◌then◌else◌, List, [], ◌∷◌, ◌++◌, length, Option, Some, None, slice_get}
use Rattle.kat_design.specs.Designs.{ComponentForm}
use Rattle.kat_design.specs.Kinds.{component_kinds}
use Rattle.kat_design.specs.declared.kinds.Kind.{Kind}
use Rattle.kat_relation.specs.declared.relations.LeafRef.{LeafRef}
use Rattle.kat_type.specs.Types.{OperationForm}
use Rattle.kat_type.specs.declared.types.Rank.{Rank}
use Rattle.kat_type.specs.declared.types.Rank.TheVariants.{Digit, Time, Replica, Arg}
use Rattle.kat_candidate.specs.declared.parts.Constant.{Constant}

-- this many numbers, from one on
abbrev pub numbers_from : ℕ → ℕ → List ℕ
numbers_from n zero = []
numbers_from n (suc left) = n ∷ numbers_from (suc n) left

-- the leaves of a component, from a number on, and of components
abbrev pub leaves_from : ℕ → ℕ → List Kind → List LeafRef
leaves_from c l [] = []
leaves_from c l (k ∷ ks) = record { component = c; leaf = l } ∷ leaves_from c (suc l) ks

abbrev pub leaves_of : ℕ → List ComponentForm → List LeafRef
leaves_of c [] = []
leaves_of c (x ∷ xs) = leaves_from c 0 (component_kinds x) ++ leaves_of (suc c) xs

-- some operation has the digit at the position of its rank
abbrev pub is_digit : Option Rank → ℕ → Bool
is_digit None digit = false
is_digit (Some (Digit n)) digit = nat_eq n digit
is_digit (Some Time) digit = false
is_digit (Some Replica) digit = false
is_digit (Some (Arg place)) digit = false

abbrev pub has_digit : List OperationForm → ℕ → ℕ → Bool
has_digit [] position digit = false
has_digit (o ∷ os) position digit = if is_digit (slice_get o.ranks position) digit then true else has_digit os position digit

-- the constants at a position, among digits, and those at positions
abbrev pub constants_at : List OperationForm → ℕ → List ℕ → List Constant
constants_at ops position [] = []
constants_at ops position (d ∷ ds) = if has_digit ops position d then record { position = position; digit = d } ∷ constants_at ops position ds else constants_at ops position ds

abbrev pub digits : List ℕ
digits = 1 ∷ 2 ∷ 3 ∷ 4 ∷ 5 ∷ 6 ∷ 7 ∷ 8 ∷ 9 ∷ []

abbrev pub constants_of : List OperationForm → List ℕ → List Constant
constants_of ops [] = []
constants_of ops (p ∷ ps) = constants_at ops p digits ++ constants_of ops ps

-- how many elements each rank has
abbrev pub rank_length : List OperationForm → ℕ
rank_length [] = 0
rank_length (o ∷ os) = length o.ranks
