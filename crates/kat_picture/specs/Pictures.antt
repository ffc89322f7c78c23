-- The picture of a script as data.
use Rattle.std.specs.Prelude.{ℕ, ◌+◌, not, List, [], ◌∷◌}
use Rattle.kat_num.specs.declared.values.Value.{Value}
use Rattle.kat_script.specs.declared.script.Line.{Line}
use Rattle.kat_script.specs.declared.script.Line.TheVariants.{Do, Ship, Deliver, Ask, Show}
use Rattle.kat_script.specs.declared.script.Script.{Script}
use Rattle.kat_type.specs.declared.signatures.Signature.{Signature}
use Rattle.kat_picture.specs.Labels.{asked_text, did_text, word_text}
use Rattle.kat_picture.specs.Packets.{is_delivered, shipping_of, ships_behind}
use Rattle.kat_picture.specs.declared.pictures.Event.{Event}
use Rattle.kat_picture.specs.declared.pictures.EventKind.{EventKind}
use Rattle.kat_picture.specs.declared.pictures.EventKind.TheVariants.{Does, Asks, Shows, Ships, Delivers}
use Rattle.kat_picture.specs.declared.pictures.Picture.{Picture}
use Rattle.kat_picture.specs.declared.shipping.Shipping.{Shipping}

abbrev pub event : ℕ → ℕ → EventKind → List ℕ → Event
event row replica kind text = record { row = row; replica = replica; kind = kind; text = text }

-- where a delivered packet comes from
abbrev pub arrow_from : Shipping → EventKind
arrow_from ship = Delivers ship.row ship.replica

-- The event of a line in this row. A packet that is shipped is lost if no later line delivers it, and one that is delivered comes from
-- where it was shipped last.
abbrev pub event_of : Signature → List ℕ → List Value → ℕ → List Shipping → Line → List Line → Event
event_of sig words answers row ships (Do done) behind = event row done.replica Does (did_text sig done)
event_of sig words answers row ships (Ship r p) behind = event row r (Ships (not (is_delivered p behind))) (word_text words p)
event_of sig words answers row ships (Deliver p r) behind = event row r (arrow_from (shipping_of p ships)) (word_text words p)
event_of sig words answers row ships (Ask r query args) behind = event row r Asks (asked_text sig query args answers)
event_of sig words answers row ships (Show r) behind = event row r Shows []

-- an ask takes the first of the answers
abbrev pub answers_behind : Line → List Value → List Value
answers_behind (Ask r query args) (answer ∷ answers) = answers
answers_behind line answers = answers

-- the events of the lines from this row on, after what was shipped
abbrev pub events_from : Signature → List ℕ → List Value → ℕ → List Shipping → List Line → List Event
events_from sig words answers row ships [] = []
events_from sig words answers row ships (line ∷ lines) =
    event_of sig words answers row ships line lines
    ∷ events_from sig words (answers_behind line answers) (row + 1) (ships_behind row line ships) lines

-- the picture of a script, with the words of its packets and the answers to its asks
abbrev pub picture_of : Signature → List ℕ → List Value → Script → Picture
picture_of sig words answers script = record { replicas = script.replicas; events = events_from sig words answers 0 [] script.lines }
