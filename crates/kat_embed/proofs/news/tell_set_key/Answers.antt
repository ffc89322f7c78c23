use Rattle.std.proofs.Common.{◌≡◌, [], ◌∷◌, ◌++◌, refl, sym, ◌∙◌, rules}
use Rattle.kat_difference.specs.Picking.{stays}
use Rattle.kat_difference.proofs.Picks.{grows_as}
use Rattle.kat_embed.proofs.news.tell_set_key.Goals as goal

pub returns-then-contains : goal.returns-then-contains
returns-then-contains g c = stays (sym c.contains.ensures ∙ c.if-contains.true)

pub returns : goal.returns
returns g c =
    let e : c.push.new.self.items ≡ c.args.into.now.items ++ c.args.key.now ∷ [] = search rules in
    grows_as c.args.into.now.items c.push.new.self.items c.args.key.now e (refl, sym c.contains.ensures ∙ c.if-contains.false)
