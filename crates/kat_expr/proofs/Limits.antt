-- What is within a limit is within a greater one.
use Rattle.std.proofs.Common.{ℕ, ◌≤◌, arith}
use Rattle.std.specs.Prelude.{unsigned_abs}
use Rattle.kat_num.specs.declared.values.Value.{Value}
use Rattle.kat_num.specs.declared.values.Value.TheVariants.{Bool as Truth, Num, Name}
use Rattle.kat_expr.specs.declared.expressions.Slot.{Slot}
use Rattle.kat_expr.specs.declared.expressions.Slot.TheVariants.{Plain, Keyed}
use Rattle.kat_expr.specs.Limits.{HasConstantsAtMost, IsAtMost, IsSlotAtMost}
use Rattle.kat_expr.specs.Terms.{Term}
use Rattle.kat_expr.specs.Terms.Term.{constant, field, entry, parameter, negation, both, either, less, at_most, same, sum, difference, greater, lesser, choice}

within : (size least most : ℕ) → least ≤ most → size ≤ least → size ≤ most
within size least most le h = omega arith

pub more_value : (least most : ℕ) (value : Value) → least ≤ most → IsAtMost least value → IsAtMost most value
more_value least most (Truth _) le h = tt
more_value least most (Num z) le h = within (unsigned_abs z) least most le h
more_value least most (Name _) le h = tt

pub more_slot : (least most : ℕ) (slot : Slot) → least ≤ most → IsSlotAtMost least slot → IsSlotAtMost most slot
more_slot least most (Plain value) le h = more_value least most value le h
more_slot least most (Keyed start entries) le h =
    (more_value least most start le h.0, λ i d inside. more_value least most _ le (h.1 i d inside))

pub more_constants : (least most : ℕ) (e : Term) → least ≤ most → HasConstantsAtMost least e → HasConstantsAtMost most e
more_constants least most (constant value) le h = more_value least most value le h
more_constants least most (field _) le h = tt
more_constants least most (entry _ _) le h = tt
more_constants least most (parameter _) le h = tt
more_constants least most (negation a) le h = more_constants least most a le h
more_constants least most (both a b) le h = (more_constants least most a le h.0, more_constants least most b le h.1)
more_constants least most (either a b) le h = (more_constants least most a le h.0, more_constants least most b le h.1)
more_constants least most (less a b) le h = (more_constants least most a le h.0, more_constants least most b le h.1)
more_constants least most (at_most a b) le h = (more_constants least most a le h.0, more_constants least most b le h.1)
more_constants least most (same a b) le h = (more_constants least most a le h.0, more_constants least most b le h.1)
more_constants least most (sum a b) le h = (more_constants least most a le h.0, more_constants least most b le h.1)
more_constants least most (difference a b) le h = (more_constants least most a le h.0, more_constants least most b le h.1)
more_constants least most (greater a b) le h = (more_constants least most a le h.0, more_constants least most b le h.1)
more_constants least most (lesser a b) le h = (more_constants least most a le h.0, more_constants least most b le h.1)
more_constants least most (choice a b c) le h =
    (more_constants least most a le h.0, more_constants least most b le h.1, more_constants least most c le h.2)
