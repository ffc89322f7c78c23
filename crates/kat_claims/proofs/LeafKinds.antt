-- The kind of a leaf among those of two parts of a shape.
use Rattle.std.proofs.Common.{◌≡◌, ℕ, ◌-◌, ◌≤◌, List, ◌++◌, length, Some, sym, ap, ◌∙◌, arith}
use Rattle.std.specs.Prelude.{slice_get}
use Rattle.std.proofs.lemmas.List.{length-append}
use Rattle.std.proofs.lemmas.Option.{slice_get_within}
use Rattle.kat_design.specs.declared.kinds.Kind.{Kind}
use Rattle.kat_claims.proofs.Appended.{get_before, get_behind}

-- it is one of the first part
pub before : (first second : List Kind) (i : ℕ) (kind : Kind) → slice_get first i ≡ Some kind → slice_get (first ++ second) i ≡ Some kind
before first second i kind found = get_before first second i (slice_get_within first i kind found) ∙ found

-- it is one of the second part
pub behind : (first second : List Kind) (i left : ℕ) (kind : Kind) → length first ≤ i → left ≡ i - length first → slice_get second left ≡ Some kind → slice_get (first ++ second) i ≡ Some kind
behind first second i left kind past is found = get_behind first second i past ∙ ap (slice_get second) (sym is) ∙ found

-- it is none of both
pub past : (first second : List Kind) (i left : ℕ) → length first ≤ i → left ≡ i - length first → length second ≤ left → length (first ++ second) ≤ i
past first second i left low is more = omega (arith, low, is, more, length-append first second)

pub left_over : (first second : List Kind) (i left rest : ℕ) → left ≡ i - length first → rest ≡ left - length second → rest ≡ i - length (first ++ second)
left_over first second i left rest is so = omega (arith, is, so, length-append first second)
