use Rattle.std.proofs.Common.{◌<◌, ◌*◌, Some, arith, sym, ap, ◌∙◌, subst, refl}
use Rattle.std.proofs.lemmas.Bool.{false≢true}
use Rattle.kat_fm.specs.Eliminations.{better}
use Rattle.kat_fm.specs.Views.{chosen, IsCounted}
use Rattle.kat_fm.proofs.Counting.{better_none, better_some, takes_better}
use Rattle.kat_fm.proofs.choosing.better.Goals as goal

pub returns-then-are_none-clause-better : goal.returns-then-are_none-clause-better
returns-then-are_none-clause-better c = λ rows counted is. better_none rows (chosen c.args.best) c.args.variable c.args.counts.now (c.if-are_none.ensures.0 refl) is

pub returns-in_default-clause-better : goal.returns-in_default-clause-better
returns-in_default-clause-better c = λ rows counted is.
    let v = c.args.variable in let counts = c.args.counts.now in let kept = c.in-Some.kept in
    let less : counts.plus * counts.minus < kept.pairs = omega arith in
    better_some rows (chosen c.args.best) v counts (Some v) (λ zeros. false≢true (c.if-are_none.ensures.1 zeros)) is
    (takes_better rows kept.variable v kept.pairs counts is (subst (IsCounted rows) c.in-Some.is counted) less ∙ ap (λ o. better rows (chosen o) v) (sym c.in-Some.is))

pub returns-in_default-2-clause-better : goal.returns-in_default-2-clause-better
returns-in_default-2-clause-better c = λ rows counted is.
    let v = c.args.variable in
    better_some rows (chosen c.args.best) v c.args.counts.now (Some v) (λ zeros. false≢true (c.if-are_none.ensures.1 zeros)) is (ap (λ o. better rows (chosen o) v) (sym c.in_default.is))
