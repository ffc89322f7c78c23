use Rattle.std.proofs.Common.{◌≡◌, length}
use Rattle.kat_gram.specs.Listings.{to_come}
use Rattle.kat_type.specs.Types.{type_form}
use Rattle.kat_audit.proofs.Going.{Goes}
use Rattle.kat_audit.proofs.auditing.judge_report.Given as goal

abbrev pub invariant-designs : goal.invariant-designs
invariant-designs l = record {
  goes : Goes (type_form l.ty) l.options l.sig l.listing l.fn.reading.left.now l.reading;
  of_type : l.trials ≡ l.ty;
}

abbrev pub decreases-designs : goal.decreases-designs
decreases-designs l = length (to_come l.listing)
