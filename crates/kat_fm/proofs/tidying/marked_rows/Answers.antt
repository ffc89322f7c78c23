use Rattle.std.proofs.Common.{sym, ap, ◌∙◌}
use Rattle.std.proofs.lemmas.List.{map-id}
use Rattle.std.proofs.lemmas.Iterator.Adapters.{YieldsList-from_vec}
use Rattle.std.proofs.lemmas.Iterator.Consumers.{YieldsList-end, YieldsList-from_enumerate}
use Rattle.kat_fm.specs.Views.{marked}
use Rattle.kat_fm.proofs.tidying.marked_rows.Goals as goal

pub returns : goal.returns
returns c =
    let e = YieldsList-end (YieldsList-from_enumerate {s = c.into_iter-place-iterator.result} (YieldsList-from_vec {s = c.into_iter-place-iterator.result.iter} c.args.rows.items (cc) (cc)) (cc)) c.loop-place.yielded c.loop-place.place-iterator c.loop-place.yielded_by c.next.result c.next.new.self c.in-None.is c.next.ensures.steps in
    c.loop-place.invariant ∙ ap (marked c.args.marks.now) (sym (map-id c.loop-place.yielded) ∙ e.0)
