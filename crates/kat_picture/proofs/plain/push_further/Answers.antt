use Rattle.std.proofs.Common.{◌++◌}
use Rattle.kat_picture.specs.Plain.{further}
use Rattle.kat_picture.proofs.Steps.{piece_more}
use Rattle.kat_picture.proofs.plain.push_further.Goals as goal

pub pieces-preserved : goal.pieces-preserved
pieces-preserved c =
    rw c.rest-behind.ensures (piece_more c.args.before.now c.args.room c.pieces.left c.pieces.behind.now
    (c.args.into.now.items ++ further c.args.before.now c.args.room c.args.count c.args.text.now) c.pieces.into.items c.push_piece.new.into.items
    c.pieces-test.true c.pieces.invariant c.in_ok-push_piece.ensures)
