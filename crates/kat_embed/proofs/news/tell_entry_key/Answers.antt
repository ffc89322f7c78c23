use Rattle.std.proofs.Common.{◌≡◌, [], ◌∷◌, ◌++◌, rules}
use Rattle.kat_embed.proofs.NewKeys.{entry_grows, entry_stays}
use Rattle.kat_embed.proofs.news.tell_entry_key.Goals as goal

pub returns-then-leq : goal.returns-then-leq
returns-then-leq g c =
    entry_stays g.K.Ord.cmp g.V.Lattice.joined c.args.known.now c.args.table.now c.args.key.now c.args.into.now.items c.get.result.now c.get-2.result.now c.leq.result c.get.ensures c.get-2.ensures c.leq.ensures
    c.if-leq.true

pub returns : goal.returns
returns g c =
    let e : c.push.new.self.items ≡ c.args.into.now.items ++ c.args.key.now ∷ [] = search rules in
    entry_grows g.K.Ord.cmp g.V.Lattice.joined c.args.known.now c.args.table.now c.args.key.now c.args.into.now.items c.push.new.self.items c.get.result.now c.get-2.result.now c.leq.result c.get.ensures c.get-2.ensures
    c.leq.ensures c.if-leq.false e
