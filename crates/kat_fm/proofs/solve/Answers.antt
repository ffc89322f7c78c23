use Rattle.std.proofs.Common.{◌≡◌, ◌+◌, ◌-◌, suc, arith, sym, ap, ◌∙◌, subst}
use Rattle.kat_linear.specs.Rows.{forms}
use Rattle.kat_fm.specs.Eliminations.{rounds}
use Rattle.kat_fm.specs.Views.{combinations, stack_of, comes_to, KeepsTidy}
use Rattle.kat_fm.proofs.Leaving.{rounds_steady}
use Rattle.kat_fm.proofs.Steps.{round_goes, ok_gives, elim_is}
use Rattle.kat_fm.proofs.solve.Goals as goal

pub returns-in-Ends : goal.returns-in-Ends
returns-in-Ends c =
    let vars = c.args.vars in let done = c.loop-done._done in
    let onward = rounds (suc vars - (done + 1)) vars in
    ap (comes_to onward) (sym c.in-Ends.is) ∙ ok_gives c.play_round.result _ c.in_ok-solved.field-0 (c.play_round.ensures.comes onward (rounds_steady (suc vars - (done + 1)) vars)) c.in_ok-solved.was
    ∙ sym (round_goes vars done (stack_of c.loop-done.state.taken.items) (combinations c.loop-done.state.rows.items) (omega arith)) ∙ c.loop-done.invariant.goes ∙ elim_is (forms c.args.rows.now) vars

pub loop-done-preserved : goal.loop-done-preserved
loop-done-preserved c =
    let vars = c.args.vars in let done = c.loop-done._done in
    let onward = rounds (suc vars - (done + 1)) vars in
    let tidy : KeepsTidy c.in_ok-solved.field-0 = ok_gives c.play_round.result KeepsTidy c.in_ok-solved.field-0 c.play_round.ensures.tidy c.in_ok-solved.was in
    record {
      tidy = subst KeepsTidy c.in-GoesOn.is tidy;
      goes = ap (comes_to onward) (sym c.in-GoesOn.is) ∙ ok_gives c.play_round.result _ c.in_ok-solved.field-0 (c.play_round.ensures.comes onward (rounds_steady (suc vars - (done + 1)) vars)) c.in_ok-solved.was
          ∙ sym (round_goes vars done (stack_of c.loop-done.state.taken.items) (combinations c.loop-done.state.rows.items) (omega arith)) ∙ c.loop-done.invariant.goes;
    }

pub returns : goal.returns
returns c =
    let vars = c.args.vars in
    let none : suc vars - c.loop-done._done ≡ 0 = omega arith in
    sym (ap (λ n. rounds n vars (stack_of c.loop-done.state.taken.items) (combinations c.loop-done.state.rows.items)) none) ∙ c.loop-done.invariant.goes ∙ elim_is (forms c.args.rows.now) vars
