-- A picture for a terminal of 80 columns: a column for each replica, and the script downwards.
use Rattle.std.specs.Prelude.{ℕ, zero, suc, ◌+◌, ◌-◌, ◌*◌, ◌/◌, ◌%◌, Bool, true, false, ◌&&◌, ◌==◌, nat_le, nat_lt, max, List, [], ◌∷◌, ◌++◌, codes, length, take, drop, replicate, if◌then◌else◌}
use Rattle.std.specs.List.{flat_map}
use Rattle.std.specs.Fmt.{decimal}
use Rattle.kat_picture.specs.Lanes.{for_each}
use Rattle.kat_picture.specs.declared.pictures.Event.{Event}
use Rattle.kat_picture.specs.declared.pictures.EventKind.{EventKind}
use Rattle.kat_picture.specs.declared.pictures.EventKind.TheVariants.{Does, Asks, Shows, Ships, Delivers}
use Rattle.kat_picture.specs.declared.pictures.Picture.{Picture}

abbrev pub blanks : ℕ → List ℕ
blanks n = replicate n 32

-- how many columns are between the lines of this many replicas
abbrev pub gap_of : ℕ → ℕ
gap_of replicas = if nat_le replicas 8 then 3 else if nat_le replicas 16 then 2 else 1

-- how many columns are left for the text of an event, 8 at least
abbrev pub room_of : ℕ → ℕ
room_of replicas = max 8 (72 - replicas * (gap_of replicas + 1))

-- `*` does, `?` asks, `=` shows, `o` ships or takes a packet in, `x` ships one that is never delivered
abbrev pub mark_byte : EventKind → ℕ
mark_byte Does = 42
mark_byte Asks = 63
mark_byte Shows = 61
mark_byte (Ships true) = 120
mark_byte (Ships false) = 111
mark_byte (Delivers row replica) = 111

-- the arrow of an event begins at the line of a replica
abbrev pub begins : EventKind → ℕ → Bool
begins (Delivers row from) lane = lane == from
begins kind lane = false

-- what the line of a replica shows: a mark at the event's own, `+` where an arrow begins, else `|`
abbrev pub line_byte : EventKind → ℕ → ℕ → ℕ
line_byte kind at lane = if lane == at then mark_byte kind else if begins kind lane then 43 else 124

-- the arrow goes from this line to the next one, to the right or to the left
abbrev pub goes_right : EventKind → ℕ → ℕ → Bool
goes_right (Delivers row from) to lane = nat_le from lane && nat_lt lane to
goes_right kind to lane = false

abbrev pub goes_left : EventKind → ℕ → ℕ → Bool
goes_left (Delivers row from) to lane = nat_le to lane && nat_lt lane from
goes_left kind to lane = false

-- the columns after a line: of an arrow, with its tip at the end, or blanks
abbrev pub gap_text : ℕ → EventKind → ℕ → ℕ → List ℕ
gap_text gap kind at lane =
    if goes_right kind at lane then replicate (gap - 1) 45 ++ (if lane + 1 == at then 62 else 45) ∷ []
    else if goes_left kind at lane then (if lane == at then 60 else 45) ∷ replicate (gap - 1) 45
    else blanks gap

abbrev pub cell : ℕ → EventKind → ℕ → ℕ → List ℕ
cell gap kind at lane = line_byte kind at lane ∷ gap_text gap kind at lane

-- the lines of this many replicas in the row of an event
abbrev pub cells : ℕ → EventKind → ℕ → ℕ → List ℕ
cells gap kind at replicas = for_each (cell gap kind at) replicas

-- the lines when nothing happens: no replica has the number 0
abbrev pub idle : ℕ → ℕ → List ℕ
idle gap replicas = cells gap Shows 0 replicas

-- what an event says, rows counted from 1
abbrev pub event_words : EventKind → List ℕ → List ℕ
event_words Does text = text
event_words Asks text = text
event_words Shows text = codes "show"
event_words (Ships false) text = codes "ship " ++ text
event_words (Ships true) text = codes "ship " ++ text ++ codes ", never delivered"
event_words (Delivers row replica) text = codes "deliver " ++ text ++ codes ", shipped in row " ++ decimal (row + 1)

-- a number at the right end of 5 columns
abbrev pub row_number : ℕ → List ℕ
row_number row = blanks (5 - length (decimal row)) ++ decimal row

-- at most this many bytes of a text in a line
abbrev pub piece : List ℕ → ℕ → List ℕ → List ℕ
piece before room text = before ++ take room text ++ 10 ∷ []

-- the pieces of a text, this many, each in a line of its own
abbrev pub further : List ℕ → ℕ → ℕ → List ℕ → List ℕ
further before room zero text = []
further before room (suc k) text = piece before room text ++ further before room k (drop room text)

-- a text in a line, and in further ones if it doesn't fit there
abbrev pub wrapped : List ℕ → List ℕ → ℕ → List ℕ → List ℕ
wrapped before behind room text =
    piece before room text ++ further behind room ((length text - 1) / room) (drop room text)

-- an event: its row, the lines of the replicas, and what it says
abbrev pub event_text : ℕ → Event → List ℕ
event_text replicas e =
    let gap = gap_of replicas in
    wrapped (row_number (e.row + 1) ++ blanks 3 ++ cells gap e.kind e.replica replicas) (blanks 8 ++ idle gap replicas)
    (room_of replicas) (event_words e.kind e.text)

-- the tens of a number, if it has some, and its ones, each followed by a gap
abbrev pub tens : ℕ → ℕ → List ℕ
tens gap lane = (if nat_lt lane 10 then 32 else 48 + lane / 10 % 10) ∷ blanks gap

abbrev pub ones : ℕ → ℕ → List ℕ
ones gap lane = (48 + lane % 10) ∷ blanks gap

-- the numbers of the replicas
abbrev pub heads : ℕ → List ℕ
heads replicas =
    (if nat_lt replicas 10 then [] else blanks 8 ++ for_each (tens (gap_of replicas)) replicas ++ 10 ∷ [])
    ++ codes "replica " ++ for_each (ones (gap_of replicas)) replicas ++ 10 ∷ []

abbrev pub events_text : ℕ → List Event → List ℕ
events_text replicas events = flat_map (event_text replicas) events

-- the whole picture
abbrev pub picture_text : Picture → List ℕ
picture_text p = heads p.replicas ++ events_text p.replicas p.events
