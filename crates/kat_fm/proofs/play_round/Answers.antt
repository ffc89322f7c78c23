use Rattle.std.proofs.Common.{sym, subst}
use Rattle.kat_fm.specs.Views.{combinations, stack_of, AreTidy}
use Rattle.kat_fm.proofs.Distinct.{tidied_tidy, tidy_calm, tidy_stays}
use Rattle.kat_fm.proofs.Steps.{begins_tidy}
use Rattle.kat_fm.proofs.play_round.Goals as goal

pub returns-then-state-clause-comes : goal.returns-then-state-clause-comes
returns-then-state-clause-comes c = λ onward.
    let rows = combinations c.args.state.rows.items in
    let tidy : AreTidy (combinations c.args.state.rows.items) = c.requires c.if-state.true in
    rw (sym (begins_tidy onward c.args.vars (stack_of c.args.state.taken.items) rows rows (tidy_calm rows tidy.have) (sym (tidy_stays rows tidy)))) (c.play_tidy.ensures.comes onward)

pub play_tidy-requires-2 : goal.play_tidy-requires-2
play_tidy-requires-2 c = subst AreTidy (sym c.in_ok-rows.ensures) (tidied_tidy (combinations c.args.state.rows.items))
