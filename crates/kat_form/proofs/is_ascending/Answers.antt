use Rattle.std.proofs.Common.{◌≡◌, suc, ◌-◌, ◌<◌, get_or, pos, refl, arith}
use Rattle.std.proofs.lemmas.Bool.{false≢true}
use Rattle.kat_form.proofs.Orders.{ascending_from, climbs_from}
use Rattle.kat_form.proofs.is_ascending.Goals as goal

pub returns-then-terms-i : goal.returns-then-terms-i
returns-then-terms-i c = (
  λ e. absurd (false≢true e),
  λ h.
      let at : suc (c.loop-i.i - 1) ≡ c.loop-i.i = omega arith in
      let climbs = climbs_from c.args.terms.now h (c.loop-i.i - 1) (0, pos 0) (omega arith) in
      let above : (get_or c.args.terms.now (c.loop-i.i - 1) (0, pos 0)).0 < (get_or c.args.terms.now c.loop-i.i (0, pos 0)).0 = rw at at climbs in
      absurd (omega (arith, above, c.if-terms-i.true)),
)

pub returns : goal.returns
returns c = (λ _. ascending_from c.args.terms.now (λ j d below. c.loop-i.invariant j d (omega arith)), λ _. refl)
