use Rattle.std.proofs.Common.{subst}
use Rattle.kat_links.specs.Lists.{Lists, IsArranged}
use Rattle.kat_links.specs.Arenas.{lists_of}
use Rattle.kat_links.proofs.Arenas.{arranged}
use Rattle.kat_links.proofs.Links.tells_arranged.Goals as goal

pub returns : goal.returns
returns c =
    let inside = c.self.inside in
    let P : Lists → Type 0 = λ v. IsArranged v in
    subst P c.self.view_is (arranged inside.firsts.items inside.links.items (lists_of inside.firsts.items inside.links.items) c.self.invariant)
