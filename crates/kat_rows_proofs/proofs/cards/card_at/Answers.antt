use Rattle.std.proofs.Common.{List, ap, sym, ◌∙◌, refl}
use Rattle.std.specs.Prelude.{slice_get}
use Rattle.kat_histories.specs.declared.histories.History.{History}
use Rattle.kat_type.specs.Signatures.{signature_of}
use Rattle.kat_type.specs.Types.{type_form}
use Rattle.kat_rows_proofs.proofs.cards.card_at.Goals as goal

pub card-requires-clause-fits : goal.card-requires-clause-fits
card-requires-clause-fits c =
    c.histories_fit.ensures (signature_of (type_form c.args.ty.now)) c.args.place c.in_ok-history.history
    (ap (λ (l : List History). slice_get l c.args.place) (sym c.requires.all) ∙ c.in_ok-history.ensures)

pub returns : goal.returns
returns c = record {
  ty = type_form c.args.ty.now;
  history = c.in_ok-history.history;
  agrees = refl;
  fits =
      c.histories_fit.ensures (signature_of (type_form c.args.ty.now)) c.args.place c.in_ok-history.history
      (ap (λ (l : List History). slice_get l c.args.place) (sym c.requires.all) ∙ c.in_ok-history.ensures);
  is = c.in_ok-found.ensures;
}
