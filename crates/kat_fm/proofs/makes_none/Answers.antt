use Rattle.std.proofs.Common.{sym, ◌∙◌, rules}
use Rattle.kat_fm.proofs.Distinct.{none_made}
use Rattle.kat_fm.proofs.makes_none.Goals as goal

pub returns-else-is_empty : goal.returns-else-is_empty
returns-else-is_empty c = λ e.
    let sides = c.args.sides.now in
    none_made sides.plus.items sides.minus.items sides.minus.len (search rules) (sym c.is_empty-else-is_empty.ensures ∙ e)
