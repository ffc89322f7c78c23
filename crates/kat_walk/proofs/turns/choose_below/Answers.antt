use Rattle.std.proofs.Common.{◌≡◌, ◌-◌, suc, length, arith, rules}
use Rattle.kat_walk.proofs.Stacks.{left_below, taken_below}
use Rattle.kat_walk.proofs.turns.choose_below.Goals as goal

pub overflow_add-frame : goal.overflow_add-frame
overflow_add-frame g c =
    let e : suc (suc (c.len-below.result - 2)) ≡ length c.args.frames.now.items = omega arith in
    let b = left_below c.args.frames.now.items (c.len-below.result - 2) c.index_mut-frame.result.now _ e c.index_mut-frame.ensures.value c.requires.left in
    let s = c.index_mut-frame.result.now.tokens.small in
    omega (arith, b, s)

pub returns : goal.returns
returns g c =
    let e : suc (suc (c.len-below.result - 2)) ≡ length c.args.frames.now.items = omega arith in
    taken_below c.args.frames.now.items (c.len-below.result - 2) c.args.token c.index_mut-frame.result.now _ e c.index_mut-frame.ensures.value
