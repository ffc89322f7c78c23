use Rattle.std.proofs.Common.{◌≡◌, List, Some, subst}
use Rattle.std.specs.Prelude.{slice_get}
use Rattle.kat_histories.specs.declared.histories.History.{History}
use Rattle.kat_type.specs.Signatures.{signature_of}
use Rattle.kat_type.specs.Types.{type_form}
use Rattle.kat_trying.proofs.ties.first_tie.Goals as goal

pub card-requires-clause-fits : goal.card-requires-clause-fits
card-requires-clause-fits c =
    c.histories_fit.ensures (signature_of (type_form c.args.ty.now)) c.histories.number c.in_ok-history.history
    (subst (λ (all : List History). slice_get all c.histories.number ≡ Some c.in_ok-history.history) c.in_ok-whole.ensures c.in_ok-history.ensures)
