use Rattle.std.proofs.Common.{map, arith, rules}
use Rattle.kat_script.proofs.Streaming.{err_is}
use Rattle.kat_cli.specs.Ending.{FailsToRead, contents}
use Rattle.kat_cli.proofs.Ending.{fails_there, read_there}
use Rattle.kat_cli.proofs.reading.read_all.Goals as goal

pub returns-in_err-bytes-clause-err : goal.returns-in_err-bytes-clause-err
returns-in_err-bytes-clause-err g c =
    err_is c.from_residual.result _
    (FailsToRead (record {
      told = map (g.F.Files.holds c.args.files.now) (map (λ path. path.now) c.args.paths.now);
      sure = map (g.F.Files.sure c.args.files.now) (map (λ path. path.now) c.args.paths.now);
      faults = g.F.Files.faults c.args.files.now;
      faults_after = g.F.Files.faults c.read_file.new.files;
    }))
    c.from_residual.ensures.1
    (fails_there (λ path. path.now) (g.F.Files.holds c.args.files.now) (g.F.Files.holds c.files.files) (g.F.Files.sure c.args.files.now) (g.F.Files.sure c.files.files)
    c.args.paths.now c.files.file _ (contents c.files.read.items)
    (g.F.Files.faults c.args.files.now) (g.F.Files.faults c.files.files) (g.F.Files.faults c.read_file.new.files) _
    c.files.invariant.same c.files-test.true c.files.invariant.read c.files.invariant.later c.in_err-bytes.ensures.err)

pub files-preserved : goal.files-preserved
files-preserved g c = record {
  read =
      read_there (λ path. path.now) (g.F.Files.holds c.args.files.now) (g.F.Files.holds c.files.files) (g.F.Files.sure c.args.files.now) (g.F.Files.sure c.files.files)
      c.args.paths.now c.files.file _ (contents c.files.read.items) _ c.in_ok-bytes.bytes.items
      c.files.invariant.same c.files-test.true c.files.invariant.read c.in_ok-bytes.ensures.ok c.in_ok-keep.ensures.ok;
  same = search rules;
  later = omega (arith, c.files.invariant.later, c.read_file.ensures.later);
}
