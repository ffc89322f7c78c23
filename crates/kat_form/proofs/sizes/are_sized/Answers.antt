use Rattle.std.proofs.Common.{◌↔◌, List, IsTrue, subst}
use Rattle.kat_linear.specs.Rows.{Form}
use Rattle.kat_form.specs.Facts.{AreSized}
use Rattle.kat_form.proofs.Same.{same_forms_among}
use Rattle.kat_form.proofs.sizes.are_sized.Goals as goal

pub returns : goal.returns
returns c = let P : List Form → Type 0 = λ forms. IsTrue c.have_sized_rows.result ↔ AreSized forms in subst P (same_forms_among c.args.formulas.now) c.have_sized_rows.ensures
