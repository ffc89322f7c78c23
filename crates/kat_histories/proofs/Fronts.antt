-- The first of some operations.
use Rattle.std.proofs.Common.{ℕ, ◌≤◌, List, length, take, arith}
use Rattle.std.specs.Prelude.{All}
use Rattle.std.proofs.lemmas.List.{length-take}
use Rattle.std.proofs.lemmas.List.Elements.{All-take}
use Rattle.kat_design.specs.Fitting.{FitsSignature}
use Rattle.kat_type.specs.declared.done.Done.{Done}
use Rattle.kat_type.specs.declared.signatures.Signature.{Signature}

pub front_few : (ones : List Done) (i : ℕ) → length ones ≤ 100000 → length (take i ones) ≤ 100000
front_few ones i few = let t = length-take i ones in omega (arith, t, few)

pub front_fits : (sig : Signature) (ones : List Done) (i : ℕ) → All (FitsSignature sig) ones → All (FitsSignature sig) (take i ones)
front_fits sig ones i fits = All-take (FitsSignature sig) i ones fits
