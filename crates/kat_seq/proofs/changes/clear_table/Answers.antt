use Rattle.std.proofs.Common.{arith, ◌<◌, length}
use Rattle.kat_seq.proofs.Setting.{table_returns, place_read}
use Rattle.kat_seq.proofs.changes.clear_table.Goals as goal

pub returns-clause-back : goal.returns-clause-back
returns-clause-back c =
    let inside : c.args.place < length c.args.state.now.items = omega (arith, c.len.ensures, c.args.state.now.ok) in
    table_returns c.args.state.now.items c.args.place c.index_mut.result.now c.take_entries.new.slot c.take_entries.result inside
    (place_read c.args.state.now.items c.args.place c.index_mut.result.now inside c.index_mut.ensures.value) c.take_entries.ensures.back
