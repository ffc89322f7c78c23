use Rattle.kat_linear.proofs.FirstWide.{pairs_are_wide}
use Rattle.kat_linear.proofs.widths.wide_numbers_are_of_wide_sums.Goals as goal

pub returns : goal.returns
returns c = pairs_are_wide
