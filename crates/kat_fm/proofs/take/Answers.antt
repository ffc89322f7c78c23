use Rattle.std.proofs.Common.{sym}
use Rattle.kat_fm.specs.Views.{combinations, stack_of}
use Rattle.kat_fm.proofs.Leaving.{takes_made}
use Rattle.kat_fm.proofs.take.Goals as goal

pub returns-in-Ok-clause-comes : goal.returns-in-Ok-clause-comes
returns-in-Ok-clause-comes c = λ onward steady.
    let sides = c.args.sides in
    rw (sym (takes_made onward steady c.args.variable (stack_of c.args.taken.items) sides.plus.items sides.minus.items sides.rest.items c.deref.result.now c.deref-2.result.now
    (combinations c.combine_all.new.rows.items) c.in_ok-combine_all.field-0 c.in-Ok.field-0 c.is_crowded.result c.is_crowded.ensures c.if-is_crowded.false
    c.deref.ensures.value c.deref-2.ensures.value c.in-Ok.is c.in_ok-combine_all.ensures)) (c.go_on-in-Ok.ensures.comes onward)
