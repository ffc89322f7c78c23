use Rattle.kat_embed.proofs.NewKeys.{kin_at}
use Rattle.kat_embed.proofs.news.new_keys_at.Goals as goal

pub new_part_keys-requires : goal.new_part_keys-requires
new_part_keys-requires c =
    kin_at c.args.known.now c.args.parts.now c.args.component c.in-Some.known.now c.in-Some-part_at.part.now c.requires c.in-Some.ensures c.in-Some-part_at.ensures

pub returns : goal.returns
returns c = rw (c.in-Some.ensures, c.in-Some-part_at.ensures) c.new_part_keys.ensures
