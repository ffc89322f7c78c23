use Rattle.std.proofs.Common.{refl, ap, subst, ◌∙◌}
use Rattle.kat_clause.specs.Valuations.{literal_value}
use Rattle.kat_form.specs.Encodings.{encoding, senses_of}
use Rattle.kat_cases.specs.Nodes.{truths_from}
use Rattle.kat_point.specs.Values.{IsModel, value_at}
use Rattle.kat_point.proofs.Decisive.{decisive}
use Rattle.kat_point.proofs.checking.point_of.Goals as goal

pub returns : goal.returns
returns c =
    decisive (encoding c.args.encoded.now) c.args.encoded.now.numbers c.args.nums.items c.args.values.now c.in_ok-truths.truths.items
    (subst (λ ns. IsModel (encoding c.args.encoded.now) c.args.encoded.now.numbers ns c.args.values.now) c.deref.ensures.value (c.if-not-is_model.ensures refl))
    (c.in_ok-truths.ensures ∙ ap (λ ms. truths_from (literal_value (value_at c.args.values.now)) 1 (senses_of ms)) c.deref-2.ensures.value)
