use Rattle.std.proofs.Common.{refl, subst}
use Rattle.kat_clause.specs.Clauses.{lists}
use Rattle.kat_clause.specs.Valuations.{AreTrueClauses}
use Rattle.kat_form.specs.Encodings.{senses_of}
use Rattle.kat_point.specs.Values.{AreRead, number_at, value_at}
use Rattle.kat_point.proofs.checking.is_model.Goals as goal

pub returns : goal.returns
returns c = λ e. record {
  count = c.if-not-has_count.ensures refl;
  narrow = c.if-not-are_narrow.ensures refl;
  atoms = subst (λ ms. AreRead (number_at c.args.nums.now) c.args.values.now (senses_of ms)) c.deref.ensures.value (c.if-not-are_read.ensures refl);
  clauses = subst (λ cs. AreTrueClauses (value_at c.args.values.now) (lists cs)) c.deref-2.ensures.value (c.are_true.ensures e);
}
