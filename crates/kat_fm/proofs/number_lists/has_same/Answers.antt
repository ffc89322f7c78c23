use Rattle.kat_fm.proofs.Spreads.{unlike_entries}
use Rattle.kat_fm.proofs.number_lists.has_same.Goals as goal

pub returns-then-a-b : goal.returns-then-a-b
returns-then-a-b c = unlike_entries c.args.a.now c.args.b.now c.if-a-b.true
