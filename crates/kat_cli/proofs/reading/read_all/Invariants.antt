use Rattle.std.proofs.Common.{◌≤◌, map, take}
use Rattle.kat_io.specs.Outside.{IsSame}
use Rattle.kat_cli.specs.Ending.{contents}
use Rattle.kat_cli.specs.Outcome.{AreRead}
use Rattle.kat_cli.proofs.reading.read_all.Given as goal

abbrev pub invariant-files : goal.invariant-files
invariant-files g l = record {
  read : AreRead (map (g.F.Files.holds l.initial.files) (take l.file (map (λ path. path.now) l.paths))) (contents l.read.items);
  same : IsSame (g.F.Files.holds l.initial.files) (g.F.Files.holds l.files) (g.F.Files.sure l.initial.files) (g.F.Files.sure l.files);
  later : g.F.Files.faults l.initial.files ≤ g.F.Files.faults l.files;
}
