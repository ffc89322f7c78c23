use Rattle.std.proofs.Common.{◌≡◌, ◌*◌, ◌/◌, ◌^◌, sym, ap, ◌∙◌, rules}
use Rattle.kat_fm.specs.Entries.{AreEntries}
use Rattle.kat_fm.specs.Lists.{spread_from}
use Rattle.kat_fm.proofs.Spreads.{back}
use Rattle.kat_fm.proofs.tidying.list_number.Goals as goal

pub returns-clause-value : goal.returns-clause-value
returns-clause-value c =
    let cs = c.args.row.now.coefficients in
    let has : AreEntries cs.count cs.entries.items = record { ascending = cs.ascending; below = cs.below; not_zero = cs.not_zero } in
    let is : c.from.result ≡ spread_from 0 cs.entries.items = search rules in
    ap (λ n. n * c.args.count / 2 ^ 64) (is ∙ ap (spread_from 0) (sym (back cs.count cs.entries.items has)))
