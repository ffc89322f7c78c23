use Rattle.std.proofs.Common.{◌≡◌, ◌++◌, None, replicate, sym, ◌∙◌}
use Rattle.kat_links.proofs.Calls.{more_done, ok_part}
use Rattle.kat_links.proofs.Links.reserve.Goals as goal

pub invariant_of-self-else-is_err : goal.invariant_of-self-else-is_err
invariant_of-self-else-is_err c =
    let inside = c.self.inside in
    let firsts = ok_part c.extend-2.result (c.extend-2.new.items.items ≡ inside.firsts.items ++ replicate c.args.lists None) (sym c.is_err.ensures.value ∙ c.if-is_err.false) c.extend-2.ensures.ok in
    (more_done inside.firsts.items c.extend-2.new.items.items inside.links.items c.extend.new.items.items c.args.self.now c.args.lists c.args.items c.self.view_is c.self.invariant firsts c.in_ok-extend.ensures.ok).0

pub returns-clause-ok : goal.returns-clause-ok
returns-clause-ok c =
    let inside = c.self.inside in
    let firsts = ok_part c.extend-2.result (c.extend-2.new.items.items ≡ inside.firsts.items ++ replicate c.args.lists None) (sym c.is_err.ensures.value ∙ c.if-is_err.false) c.extend-2.ensures.ok in
    (more_done inside.firsts.items c.extend-2.new.items.items inside.links.items c.extend.new.items.items c.args.self.now c.args.lists c.args.items c.self.view_is c.self.invariant firsts c.in_ok-extend.ensures.ok).1
