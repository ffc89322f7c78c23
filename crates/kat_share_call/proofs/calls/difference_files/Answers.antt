use Rattle.std.proofs.Common.{refl}
use Rattle.kat_share_call.proofs.Ending.{ends_so, plain_ends}
use Rattle.kat_share_call.proofs.Writing.{differed_files}
use Rattle.kat_share_call.proofs.calls.difference_files.Goals as goal

pub returns-in-Ok : goal.returns-in-Ok
returns-in-Ok g c = record {
  ends =
      ends_so _ _ _ _ _ _
      (differed_files (g.F.Files.holds c.args.files.now) c.args.design_path.now c.args.share_path.now c.in-Ok.texts.0.items c.in-Ok.texts.1.items _ _ c.in-Ok.ensures.told.0 c.in-Ok.ensures.told.1)
      (rw c.deref.ensures.value at (rw c.deref-in-Ok.ensures.value at c.write_difference.ensures));
}

pub returns-in-Err : goal.returns-in-Err
returns-in-Err g c = record { ends = plain_ends _ _ _ _ _ c.in-Err.ensures.plain refl }
