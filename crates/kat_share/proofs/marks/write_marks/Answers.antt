use Rattle.std.proofs.Common.{sym, subst}
use Rattle.kat_node.specs.NodeFiles.{IsNodeText}
use Rattle.kat_node.specs.Nodes.{IsNode}
use Rattle.kat_share.specs.MarksTexts.{marks_design}
use Rattle.kat_share.proofs.marks.write_marks.Goals as goal

pub returns-clause-read : goal.returns-clause-read
returns-clause-read c = record {
  number = c.args.number;
  clock = c.args.clock;
  text = subst (λ node. IsNodeText marks_design c.in_ok-text.text.items node) c.in_ok-node.ensures (c.in_ok-text.ensures.read marks_design (subst (λ node. IsNode marks_design node) (sym c.in_ok-node.ensures) c.requires));
}
