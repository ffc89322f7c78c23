use Rattle.std.proofs.Common.{◌≡◌, ◌++◌, [], length}
use Rattle.kat_picture.specs.Pictures.{events_from}
use Rattle.kat_picture.proofs.pictures.picture_of.Given as goal

abbrev pub invariant-lines : goal.invariant-lines
invariant-lines l = l.events.items ++ events_from l.sig l.words l.left (length l.events.items) l.ships.items l.rest ≡ events_from l.sig l.words l.answers 0 [] l.script.lines

abbrev pub decreases-lines : goal.decreases-lines
decreases-lines l = length l.rest
