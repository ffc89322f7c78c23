use Rattle.kat_links.proofs.Calls.{push_done}
use Rattle.kat_links.proofs.Links.push_front.Goals as goal

pub invariant_of-self : goal.invariant_of-self
invariant_of-self c =
    let inside = c.self.inside in
    (push_done inside.firsts.items c.put_in-first.new.firsts.items inside.links.items c.put_in-first.new.links.items c.point_before.new.links.items c.args.self.now c.args.list c.args.item c.put_in-first.result
    c.self.view_is c.self.invariant c.requires.list c.requires.item c.requires.free c.put_in-first.ensures.first c.put_in-first.ensures.firsts c.put_in-first.ensures.links c.point_before.ensures).0

pub returns : goal.returns
returns c =
    let inside = c.self.inside in
    (push_done inside.firsts.items c.put_in-first.new.firsts.items inside.links.items c.put_in-first.new.links.items c.point_before.new.links.items c.args.self.now c.args.list c.args.item c.put_in-first.result
    c.self.view_is c.self.invariant c.requires.list c.requires.item c.requires.free c.put_in-first.ensures.first c.put_in-first.ensures.firsts c.put_in-first.ensures.links c.point_before.ensures).1
