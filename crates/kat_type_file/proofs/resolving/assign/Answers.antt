use Rattle.std.proofs.Common.{◌∙◌, sym, ap}
use Rattle.kat_type.specs.Types.Assigned.{to_start}
use Rattle.kat_judging.specs.Faults.{scope_of}
use Rattle.kat_type_file.specs.Typing.{act_in}
use Rattle.kat_type_file.proofs.resolving.assign.Goals as goal

pub returns-in-Clear : goal.returns-in-Clear
returns-in-Clear c = ap to_start c.place_of.ensures ∙ ap (act_in (scope_of c.args.states.now c.args.params.now)) (sym c.in-Clear.is)
