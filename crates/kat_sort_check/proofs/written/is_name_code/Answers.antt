use Rattle.std.proofs.Common.{length, ap, arith}
use Rattle.kat_design.proofs.ShortNames.{name_short}
use Rattle.kat_sort_check.proofs.written.is_name_code.Goals as goal

pub has_code-requires : goal.has_code-requires
has_code-requires c = omega (arith, name_short c.args.code, ap length c.deref-then-are_name_bytes.ensures.value, ap length c.in_ok-name.ensures)
