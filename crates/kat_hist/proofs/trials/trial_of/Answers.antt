use Rattle.std.proofs.Common.{◌≡◌, List, ap, arith, length, subst, sym}
use Rattle.kat_seq.specs.Sizes.{HaveSmallArguments}
use Rattle.kat_type.specs.Signatures.{signature_of}
use Rattle.kat_type.specs.Types.{type_form}
use Rattle.kat_type.specs.declared.done.Done.{Done}
use Rattle.kat_hist.proofs.Asked.{dones_small}
use Rattle.kat_hist.proofs.Made.{got_fits, got_trial, small_asks}
use Rattle.kat_hist.proofs.trials.trial_of.Goals as goal

pub answers_of-requires-clause-few : goal.answers_of-requires-clause-few
answers_of-requires-clause-few c =
    let fits = got_fits (type_form c.args.ty.now) c.args.whole.now c.args.number c.in_ok-history.history c.histories_fit.ensures c.requires.whole c.in_ok-history.ensures in
    let few = fits.few in
    let n : length c.as_slice.result.now ≡ length c.in_ok-history.history.ops = ap length c.as_slice.ensures in
    omega (arith, few, n)

pub answers_of-requires-clause-asks : goal.answers_of-requires-clause-asks
answers_of-requires-clause-asks c = small_asks (type_form c.args.ty.now) c.args.asks.now c.requires.asks

pub answers_of-requires-clause-args : goal.answers_of-requires-clause-args
answers_of-requires-clause-args c =
    let fits = got_fits (type_form c.args.ty.now) c.args.whole.now c.args.number c.in_ok-history.history c.histories_fit.ensures c.requires.whole c.in_ok-history.ensures in
    subst (λ (ones : List Done). HaveSmallArguments ones) (sym c.as_slice.ensures) (dones_small (signature_of (type_form c.args.ty.now)) c.in_ok-history.history.ops fits.fits)

pub returns : goal.returns
returns c =
    got_trial (type_form c.args.ty.now) c.args.asks.now c.args.whole.now c.args.number c.in_ok-history.history c.as_slice.result.now c.in_ok-answers.answers
    c.in_ok-history.ensures c.as_slice.ensures c.in_ok-answers.ensures
