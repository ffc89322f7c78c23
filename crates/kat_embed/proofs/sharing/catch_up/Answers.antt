use Rattle.kat_embed.proofs.sharing.catch_up.Goals as goal

pub returns-clause-merged : goal.returns-clause-merged
returns-clause-merged c = record {
  known = c.in-Some.known;
  are = c.in-Some.is;
  base = c.in-Ok.packet.base;
  told = c.in-Ok.packet.told.node;
  others = c.in-Ok.packet.told.marks;
  is = c.in-Ok.ensures.read;
  covered = c.leq.ensures.0 c.if-not-leq.false;
  node = c.in_ok-changed.ensures.taken;
  marks_are = c.in_ok-marks.ensures.joined;
}
