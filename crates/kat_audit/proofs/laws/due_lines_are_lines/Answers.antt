use Rattle.kat_audit.proofs.Cutting.{begin_cut, differs_cut, history_cut, none_cut, said_cut, stopped_cut, undecided_cut}
use Rattle.kat_audit.proofs.laws.due_lines_are_lines.Goals as goal

pub returns : goal.returns
returns c = record {
  differs = differs_cut;
  history = history_cut;
  begin = begin_cut;
  said = said_cut;
  none = none_cut;
  undecided = undecided_cut;
  stopped = stopped_cut;
}
