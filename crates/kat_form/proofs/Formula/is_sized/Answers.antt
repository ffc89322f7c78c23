use Rattle.std.proofs.Common.{◌↔◌, List, IsTrue, subst}
use Rattle.kat_linear.specs.Rows.{Form}
use Rattle.kat_form.specs.Facts.{AreSized}
use Rattle.kat_form.proofs.Same.{same_forms}
use Rattle.kat_form.proofs.Formula.is_sized.Goals as goal

pub returns : goal.returns
returns c = let P : List Form → Type 0 = λ forms. IsTrue c.has_sized_rows.result ↔ AreSized forms in subst P (same_forms c.args.self.now) c.has_sized_rows.ensures
