use Rattle.std.proofs.Common.{◌∙◌, sym, ap}
use Rattle.kat_judging.specs.Faults.{act_faults, clear_faults, first_of, scope_of}
use Rattle.kat_judging.proofs.assigning.assignment_fault.Goals as goal

pub returns-in-Clear : goal.returns-in-Clear
returns-in-Clear c =
    c.clear_fault.ensures ∙ ap (λ field. first_of (clear_faults c.args.before.now field c.in-Clear.table)) c.first_named.ensures
    ∙ ap (λ act. first_of (act_faults c.args.before.now (scope_of c.args.states.now c.args.params.now) act)) (sym c.in-Clear.is)
