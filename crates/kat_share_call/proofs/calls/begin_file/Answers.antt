use Rattle.std.proofs.Common.{refl}
use Rattle.kat_share_call.proofs.Ending.{ends_so, plain_ends}
use Rattle.kat_share_call.proofs.Writing.{began_file}
use Rattle.kat_share_call.proofs.calls.begin_file.Goals as goal

pub returns-in-Ok : goal.returns-in-Ok
returns-in-Ok g c = record {
  ends =
      ends_so _ _ _ _ _ _ (began_file (g.F.Files.holds c.args.files.now) c.args.design_path.now c.in-Ok.design.items c.args.number _ _ c.requires.least c.requires.most c.in-Ok.ensures.told)
      (rw c.deref.ensures.value at c.write_new.ensures);
}

pub returns-in-Err : goal.returns-in-Err
returns-in-Err g c = record { ends = plain_ends _ _ _ _ _ c.in-Err.ensures.plain refl }
