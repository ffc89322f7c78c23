use Rattle.kat_shape.specs.Forms.{form_of}
use Rattle.kat_claims.specs.Changes.{old_of}
use Rattle.kat_symbols.specs.Views.{reader_of}
use Rattle.kat_claims.proofs.Found.{joined_with}
use Rattle.kat_claims.proofs.effects.Change.joined.Goals as goal

pub returns : goal.returns
returns c =
    joined_with c.join_read.result (reader_of c.join_read.new.reader) (old_of c.args.self.now) c.args.self.now.params.now c.args.self.now.component (form_of c.args.shape.now)
    c.as_slice.result.now c.args.gifts.now c.args.leaf (reader_of c.args.reader.now) c.as_slice.ensures c.join_read.ensures
