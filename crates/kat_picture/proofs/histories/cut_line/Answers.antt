use Rattle.kat_picture.proofs.Citing.{cut_here, cut_none}
use Rattle.kat_picture.proofs.histories.cut_line.Goals as goal

pub returns-then-end-text-clause-cut : goal.returns-then-end-text-clause-cut
returns-then-end-text-clause-cut c = cut_here c.args.text.now c.line_end-end.result c.line_end-end.ensures c.if-end-text.true

pub returns-else-end-text-clause-cut : goal.returns-else-end-text-clause-cut
returns-else-end-text-clause-cut c = cut_none c.args.text.now c.line_end-end.result c.line_end-end.ensures c.if-end-text.false
