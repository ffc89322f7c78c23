use Rattle.std.proofs.Common.{arith, ◌<◌, length}
use Rattle.kat_seq.proofs.Setting.{plain_returns, place_read}
use Rattle.kat_seq.proofs.changes.set_plain.Goals as goal

pub returns-clause-back : goal.returns-clause-back
returns-clause-back c =
    let inside : c.args.place < length c.args.state.now.items = omega (arith, c.len.ensures, c.args.state.now.ok) in
    plain_returns c.args.state.now.items c.args.place c.index_mut.result.now c.replace_value.new.slot c.replace_value.result inside
    (place_read c.args.state.now.items c.args.place c.index_mut.result.now inside c.index_mut.ensures.value) c.replace_value.ensures.back
