use Rattle.std.proofs.Common.{ℕ, List, length, sym, subst, ◌≡◌, true}
use Rattle.std.specs.Prelude.{Vec}
use Rattle.std.specs.Global.{Global}
use Rattle.kat_cli.specs.Commands.{has_files}
use Rattle.kat_cli.specs.Ending.{contents}
use Rattle.kat_cli.proofs.Ending.{fits_too, judged_ends}
use Rattle.kat_cli.proofs.call.run.Goals as goal

pub judge-requires-clause-paths : goal.judge-requires-clause-paths
judge-requires-clause-paths g c =
    subst (λ (items : List (Vec ℕ Global)). has_files c.args.command (length items) ≡ true) (sym c.deref.ensures.value)
    (fits_too (λ path. path.now) c.args.command (g.F.Files.holds c.args.files.now) c.args.paths.now c.in-Ok.read.items c.in-Ok.ensures.ok c.requires.paths)

pub returns-in-Ok-clause-outcome : goal.returns-in-Ok-clause-outcome
returns-in-Ok-clause-outcome g c =
    judged_ends c.args.command _ _ (contents c.in-Ok.read.items) c.judge.result c.in-Ok.ensures.ok (rw c.deref.ensures.value at c.judge.ensures.judged)
