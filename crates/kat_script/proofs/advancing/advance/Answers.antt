use Rattle.std.proofs.Common.{◌+◌, refl, ap}
use Rattle.kat_script.proofs.Matching.{matches_behind}
use Rattle.kat_script.proofs.advancing.advance.Goals as goal

pub returns : goal.returns
returns c =
    λ sig place m. matches_behind sig c.args.ledger.now c.change.new.ledger _ place c.args.said.now
    c.in_ok-change.ensures.changes refl refl (ap (λ n. n + 1) c.in_ok-change.ensures.lines) m
