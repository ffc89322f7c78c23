-- What an operation that fits a signature gives may be in a state file.
use Rattle.std.proofs.Common.{ℕ, ◌≤◌, List, [], ◌∷◌, map, refl, sym, ap, subst, arith, Option}
use Rattle.std.specs.Prelude.{ℤ, unsigned_abs, ◌≢◌}
use Rattle.std.specs.Option.{option_flatten}
use Rattle.std.proofs.lemmas.Int.{ints}
use Rattle.std.proofs.lemmas.Option.{get_or_from_slice_get}
use Rattle.kat_num.specs.Values.{IsArgument}
use Rattle.kat_num.specs.declared.values.Sort.{Sort}
use Rattle.kat_num.specs.declared.values.Sort.TheVariants as sort
use Rattle.kat_num.specs.declared.values.Value.{Value}
use Rattle.kat_num.specs.declared.values.Value.TheVariants as value
use Rattle.kat_num.specs.declared.values.TheConstants.{NUMBER_LIMIT}
use Rattle.kat_expr.specs.Slots.{absent, argument}
use Rattle.kat_type.specs.declared.done.Done.{Done}
use Rattle.kat_type.specs.declared.signatures.OpSig.{OpSig}
use Rattle.kat_type.specs.declared.signatures.Signature.{Signature}
use Rattle.kat_design.specs.Effects.{effect_of, leaf_value}
use Rattle.kat_design.specs.Fitting.{FitsSignature}
use Rattle.kat_design.specs.Sorted.{AreMatched, EachHas, GivesKind, IsParameter, IsWritten}
use Rattle.kat_design.specs.Sorted.GivesKind.{argument as by_argument, time as by_time, replica as by_replica, zero_leaf, one as by_one, above, below, false_leaf, true_leaf}
use Rattle.kat_design.specs.declared.designs.Leaf.{Leaf}
use Rattle.kat_design.specs.declared.kinds.Kind.{Kind}
use Rattle.kat_design.proofs.GivenLeaves.{beside}
use Rattle.kat_design.proofs.LowCells.{leaf_low}
use Rattle.kat_node.specs.Nodes.{IsKey}

-- the effect of an operation fits it
pub matched_effect : {A : Type 0} (Fits : Option A → OpSig → Type 0) (sig : Signature) (done : Done) (fits : FitsSignature sig done) (effects : List (Option A)) → AreMatched Fits effects sig.ops
    → Fits (effect_of effects done) fits.op
matched_effect {A} Fits sig done fits effects h =
    let b = beside Fits effects sig.ops h done.op fits.op fits.found in
    subst (λ (effect : Option A). Fits effect fits.op) (sym (ap option_flatten b.there)) b.matched

number_written : (z : ℤ) → unsigned_abs z ≤ NUMBER_LIMIT → IsWritten (value.Num z)
number_written z h = (omega (arith, ints, h), omega (arith, ints, h))

argument_written : (s : Sort) (v : Value) → IsArgument s v → IsWritten v
argument_written s (value.Bool b) is = tt
argument_written s (value.Num z) is = number_written z is.within
argument_written s (value.Name code) is = is.named

is_key : (s : Sort) (v : Value) → s ≢ sort.Bool → IsArgument s v → IsKey s v
is_key sort.Bool v other is = absurd (other refl)
is_key sort.Int (value.Num z) other is = number_written z is.within
is_key sort.Int (value.Bool b) other is = absurd is.fits
is_key sort.Int (value.Name code) other is = absurd is.fits
is_key sort.Nat (value.Num z) other is = (is.fits, number_written z is.within)
is_key sort.Nat (value.Bool b) other is = absurd is.fits
is_key sort.Nat (value.Name code) other is = absurd is.fits
is_key sort.Name (value.Name code) other is = is.named
is_key sort.Name (value.Bool b) other is = absurd is.fits
is_key sort.Name (value.Num z) other is = absurd is.fits

-- an argument by its place
given_argument : (P : Value → Type 0) (done : Done) (sorts : List Sort) (place : ℕ) (s : Sort) → AreMatched (λ (v : Value) (t : Sort). IsArgument t v) done.args sorts → IsParameter sorts place s
    → ((v : Value) → IsArgument s v → P v) → P (argument done.args place)
given_argument P done sorts place s args is by =
    let b = beside (λ (v : Value) (t : Sort). IsArgument t v) done.args sorts args place s is in
    subst P (sym (get_or_from_slice_get done.args place b.value absent b.there)) (by b.value b.matched)

pub key_given : (sig : Signature) (done : Done) (fits : FitsSignature sig done) (key : Sort) (place : ℕ) → key ≢ sort.Bool → IsParameter fits.op.sorts place key → IsKey key (argument done.args place)
key_given sig done fits key place other is = given_argument (IsKey key) done fits.op.sorts place key fits.args is (λ v h. is_key key v other h)

-- the values of leaves
leaf_written : (sig : Signature) (done : Done) (fits : FitsSignature sig done) (given : Leaf) (k : Kind) → GivesKind fits.op.sorts given k → IsWritten (leaf_value done given)
leaf_written sig done fits _ _ (by_argument place s is) = given_argument IsWritten done fits.op.sorts place s fits.args is (λ v h. argument_written s v h)
leaf_written sig done fits given _ by_time = number_written _ (leaf_low sig done given fits)
leaf_written sig done fits given _ by_replica = number_written _ (leaf_low sig done given fits)
leaf_written sig done fits given _ zero_leaf = number_written _ (leaf_low sig done given fits)
leaf_written sig done fits given _ by_one = number_written _ (leaf_low sig done given fits)
leaf_written sig done fits given _ (above place is) = number_written _ (leaf_low sig done given fits)
leaf_written sig done fits given _ (below place is) = number_written _ (leaf_low sig done given fits)
leaf_written sig done fits _ _ false_leaf = tt
leaf_written sig done fits _ _ true_leaf = tt

pub values_written : (sig : Signature) (done : Done) (fits : FitsSignature sig done) (leaves : List Leaf) (kinds : List Kind) → AreMatched (GivesKind fits.op.sorts) leaves kinds
    → EachHas IsWritten (map (leaf_value done) leaves)
values_written sig done fits [] [] h = tt
values_written sig done fits [] (k ∷ kinds) h = absurd h
values_written sig done fits (given ∷ leaves) [] h = absurd h
values_written sig done fits (given ∷ leaves) (k ∷ kinds) h = (leaf_written sig done fits given k h.0, values_written sig done fits leaves kinds h.1)
