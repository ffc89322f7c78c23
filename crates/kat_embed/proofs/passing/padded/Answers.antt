use Rattle.std.proofs.Common.{length, sym}
use Rattle.kat_embed.proofs.Passed.{room_for}
use Rattle.kat_embed.proofs.passing.padded.Goals as goal

pub slice_bounds-copy_from_slice-end : goal.slice_bounds-copy_from_slice-end
slice_bounds-copy_from_slice-end c = sym (room_for (length c.args.bytes.now) c.requires)

pub copy_from_slice-requires : goal.copy_from_slice-requires
copy_from_slice-requires c = room_for (length c.args.bytes.now) c.requires
