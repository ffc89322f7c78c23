use Rattle.std.proofs.Common.{◌≡◌, length, arith}
use Rattle.kat_walk.proofs.Stacks.{word_with}
use Rattle.kat_walk.proofs.turns.word.Goals as goal

pub returns : goal.returns
returns g c =
    let n : c.len-last.result ≡ length c.in_ok-tokens.tokens.items = omega arith in
    word_with c.args.frames.now c.len-last.result c.in_ok-tokens.tokens.items c.args.token c.requires c.in_ok-tokens.ensures n
