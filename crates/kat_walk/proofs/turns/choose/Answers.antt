use Rattle.std.proofs.Common.{◌≡◌, ◌-◌, suc, length, arith}
use Rattle.kat_walk.proofs.Stacks.{taken_last}
use Rattle.kat_walk.proofs.turns.choose.Goals as goal

pub returns : goal.returns
returns g c =
    let e : suc (c.len-top.result - 1) ≡ length c.args.frames.now.items = omega arith in
    taken_last c.args.frames.now.items (c.len-top.result - 1) c.args.token c.index_mut-frame.result.now _ e c.index_mut-frame.ensures.value
