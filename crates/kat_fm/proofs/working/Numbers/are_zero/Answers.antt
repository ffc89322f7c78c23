use Rattle.std.proofs.Common.{rules}
use Rattle.kat_fm.proofs.Spreads.{are_zero_if}
use Rattle.kat_fm.proofs.working.Numbers.are_zero.Goals as goal

pub returns : goal.returns
returns c = let s = c.args.self.now in are_zero_if s.count s.entries.items s.entries.len c.is_empty.result (record { ascending = s.ascending; below = s.below; not_zero = s.not_zero }) (search rules) c.is_empty.ensures
