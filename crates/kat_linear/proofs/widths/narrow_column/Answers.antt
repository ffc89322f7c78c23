use Rattle.kat_linear.specs.Rows.{forms}
use Rattle.kat_linear.proofs.FirstWide.{column_narrow}
use Rattle.kat_linear.proofs.widths.narrow_column.Goals as goal

pub unreachable-requires : goal.unreachable-requires
unreachable-requires c = column_narrow c.args.column (forms c.args.rows.now) c.args.multipliers.now c.requires.narrow c.in-None.ensures
