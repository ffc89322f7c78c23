use Rattle.std.proofs.Common.{arith, ◌<◌, length}
use Rattle.kat_seq.proofs.Setting.{keyed_put, place_read}
use Rattle.kat_seq.proofs.changes.set_keyed.Goals as goal

pub returns-clause-back : goal.returns-clause-back
returns-clause-back c =
    let inside : c.args.place < length c.args.state.now.items = omega (arith, c.len.ensures, c.args.state.now.ok) in
    keyed_put c.args.state.now.items c.args.place c.index_mut.result.now c.put_value.new.slot c.put_value.result inside
    (place_read c.args.state.now.items c.args.place c.index_mut.result.now inside c.index_mut.ensures.value) c.put_value.ensures.back
