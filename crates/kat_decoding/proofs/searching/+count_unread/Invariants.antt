use Rattle.std.proofs.Common.{length}
use Rattle.kat_decoding.proofs.searching.+count_unread.Given as goal

abbrev pub decreases-count_unread : goal.decreases-count_unread
decreases-count_unread l = length l.flags.now
