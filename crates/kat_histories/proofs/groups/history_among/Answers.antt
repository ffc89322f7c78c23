use Rattle.std.proofs.Common.{◌≡◌, ◌+◌, ◌^◌, ◌<◌, List, Some, length, subst, sym, take, arith}
use Rattle.std.specs.Prelude.{slice_get}
use Rattle.kat_histories.specs.Histories.{all_histories, histories_at}
use Rattle.kat_histories.specs.declared.histories.TheConstants.{HISTORY_LIMIT}
use Rattle.kat_histories.specs.declared.stamps.Stamp.{Stamp}
use Rattle.kat_histories.proofs.Finding.{seeks_few, seeks_first, seeks_found, seeks_next}
use Rattle.kat_histories.proofs.Results.{if_ok}
use Rattle.kat_histories.proofs.groups.history_among.Goals as goal

pub loop-group-init : goal.loop-group-init
loop-group-init c = seeks_first c.args.calls.now c.args.number c.requires.within

pub history_at-requires-clause-within : goal.history_at-requires-clause-within
history_at-requires-clause-within c =
    subst (λ (l : List Stamp). c.loop-group.left < length c.args.calls.now ^ length l) (sym c.as_slice.ensures)
    (seeks_few c.args.calls.now c.args.groups.now c.loop-group.group-index c.loop-group.left c.group-item.result c.requires.groups c.loop-group-test.true c.group-item.is c.if-left-group.true)

pub returns-then-left-group : goal.returns-then-left-group
returns-then-left-group c =
    if_ok c.history_at.result (λ found. slice_get (histories_at c.args.calls.now c.as_slice.result.now) c.loop-group.left ≡ Some found)
    (λ found. slice_get (take HISTORY_LIMIT (all_histories c.args.calls.now)) c.args.number ≡ Some found) c.history_at.ensures
    (λ found h. seeks_found c.args.calls.now c.args.groups.now c.loop-group.group-index c.args.number c.loop-group.left c.group-item.result found c.requires.groups c.loop-group-test.true
    c.group-item.is c.loop-group.invariant c.if-left-group.true c.requires.within
    (subst (λ (l : List Stamp). slice_get (histories_at c.args.calls.now l) c.loop-group.left ≡ Some found) c.as_slice.ensures h))

pub loop-group-preserved : goal.loop-group-preserved
loop-group-preserved c =
    seeks_next c.args.calls.now c.args.groups.now c.loop-group.group-index (c.loop-group.group-index + 1) c.args.number c.loop-group.left c.group-item.result (omega arith) c.requires.groups
    c.loop-group-test.true c.group-item.is c.loop-group.invariant (omega (arith, c.if-left-group.false))
