use Rattle.std.proofs.Common.{◌≡◌}
use Rattle.kat_design.specs.Designs.{design_form}
use Rattle.kat_type.specs.Signatures.{signature_of}
use Rattle.kat_type.specs.Types.{type_form}
use Rattle.kat_due.specs.Differences.{DiffersOn}
use Rattle.kat_due.specs.Readings.{histories_at}
use Rattle.kat_due.proofs.Seeking.{NoneBefore}
use Rattle.kat_audit.proofs.designs.first_cited.Given as goal

abbrev pub invariant-loop-place : goal.invariant-loop-place
invariant-loop-place l = record {
  none : NoneBefore (DiffersOn (type_form l.ty) (design_form l.design)) (histories_at (signature_of (type_form l.ty)) l.fn.cited) l.place;
  of_type : l.trials ≡ l.ty;
}
