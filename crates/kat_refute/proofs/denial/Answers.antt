use Rattle.std.proofs.Common.{sym}
use Rattle.kat_linear.specs.Rows.{form_of}
use Rattle.kat_form.specs.Encodings.{senses_of}
use Rattle.kat_form.proofs.Atoms.{fit_atom}
use Rattle.kat_refute.proofs.Atoms.{IsSmall-fit}
use Rattle.kat_refute.proofs.denial.Goals as goal

pub negated-requires : goal.negated-requires
negated-requires c = IsSmall-fit (form_of c.in-Some.row.now) (fit_atom (senses_of c.args.meanings.now) c.requires c.unsigned_abs.result (form_of c.in-Some.row.now) (sym c.in-Some.ensures))
