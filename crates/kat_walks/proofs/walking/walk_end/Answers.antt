use Rattle.std.proofs.Common.{sym, subst, List, ℤ}
use Rattle.kat_form.specs.Encodings.{encoding}
use Rattle.kat_walks.specs.Stands.{StandsAt}
use Rattle.kat_walks.proofs.NodeJudgings.{first_stands}
use Rattle.kat_walks.proofs.walking.walk_end.Goals as goal

pub node-requires : goal.node-requires
node-requires c =
    let e = encoding c.args.encoded.now in
    let n = c.args.encoded.now.numbers in
    let P : List ℤ → Type 0 = StandsAt (encoding c.args.encoded.now) c.args.encoded.now.numbers c.in_ok-known.known in
    subst P (sym c.new-path.ensures.items) (first_stands e n c.in_ok-known.known c.requires.walkable c.in_ok-known.ensures.keeps c.in_ok-known.ensures.assumed)
