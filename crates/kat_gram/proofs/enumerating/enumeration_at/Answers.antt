use Rattle.std.proofs.Common.{◌+◌, None, refl}
use Rattle.kat_gram.proofs.CourseLemmas.{from_mark, mark_stack}
use Rattle.kat_gram.proofs.enumerating.enumeration_at.Goals as goal

pub walk_at-requires : goal.walk_at-requires
walk_at-requires c = mark_stack c.args.setting (c.args.beyond + 1) c.args.mark.now c.in_ok-start.start c.as_slice.result.now c.requires c.in_ok-start.ensures c.as_slice.ensures

pub returns : goal.returns
returns c =
    from_mark c.args.setting (c.args.beyond + 1) c.args.mark.now
    (record { search = record { setting = c.args.setting; size = c.args.mark.now.size }; beyond = c.args.beyond; walk = c.in_ok-walk.walk; found = None })
    c.in_ok-start.start c.length_of.result c.as_slice.result.now c.requires c.in_ok-start.ensures c.length_of.ensures c.as_slice.ensures c.in_ok-walk.ensures.stack c.in_ok-walk.ensures.most refl refl refl refl
