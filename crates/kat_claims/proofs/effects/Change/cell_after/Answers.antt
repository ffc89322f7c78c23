use Rattle.std.specs.Prelude.{slice_get}
use Rattle.std.specs.Option.{option_flatten}
use Rattle.kat_shape.specs.Forms.{form_of}
use Rattle.kat_claims.specs.Changes.{old_of}
use Rattle.kat_symbols.specs.Views.{reader_of}
use Rattle.kat_claims.proofs.Found.{cell_found}
use Rattle.kat_claims.proofs.effects.Change.cell_after.Goals as goal

pub returns-in-Some : goal.returns-in-Some
returns-in-Some c =
    cell_found c.joined.result (reader_of c.joined.new.reader) (old_of c.args.self.now) c.args.self.now.params.now c.args.self.now.component (form_of c.args.shape.now)
    (option_flatten (slice_get c.args.effects.now c.args.place.op)) c.in-Some.gifts.now c.args.place.leaf (reader_of c.args.reader.now)
    c.in-Some.ensures c.joined.ensures
