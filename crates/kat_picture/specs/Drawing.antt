-- A picture as SVG: replicas from left to right, and the script downwards. Lengths are pixels.
use Rattle.std.specs.Prelude.{ℕ, ◌+◌, ◌-◌, ◌*◌, max, min, true, false, ◌==◌, List, [], ◌∷◌, ◌++◌, codes, length, if◌then◌else◌}
use Rattle.std.specs.List.{flat_map}
use Rattle.std.specs.Fmt.{decimal}
use Rattle.kat_picture.specs.Escaping.{escaped}
use Rattle.kat_picture.specs.Lanes.{for_each}
use Rattle.kat_picture.specs.declared.pictures.Event.{Event}
use Rattle.kat_picture.specs.declared.pictures.EventKind.{EventKind}
use Rattle.kat_picture.specs.declared.pictures.EventKind.TheVariants.{Does, Asks, Shows, Ships, Delivers}
use Rattle.kat_picture.specs.declared.pictures.Picture.{Picture}

-- the longest text, of which at most 160 bytes count
abbrev pub widest_from : ℕ → List Event → ℕ
widest_from widest [] = widest
widest_from widest (e ∷ events) = widest_from (max widest (min (length e.text) 160)) events

-- how far replicas are apart: there is room for the longest text, and for the name above a line, as for a text of 4 bytes
abbrev pub lane_width : List Event → ℕ
lane_width events = 56 + 8 * widest_from 4 events

-- how far to the right the line of a replica is, and how far down a row
abbrev pub x_of : ℕ → ℕ → ℕ
x_of width replica = 40 + width * (replica - 1)

abbrev pub y_of : ℕ → ℕ
y_of row = 56 + 30 * row

-- the line of a replica down to a height, and its name above
abbrev pub lane_line : ℕ → ℕ → List ℕ
lane_line x height = codes "<path class='lane' d='M" ++ decimal x ++ codes " 34V" ++ decimal height ++ codes "'/>"

abbrev pub lane_name : ℕ → ℕ → List ℕ
lane_name x replica = codes "<text class='head' x='" ++ decimal x ++ codes "' y='24'>replica " ++ decimal replica ++ codes "</text>\n"

abbrev pub lane_svg : ℕ → ℕ → ℕ → List ℕ
lane_svg width height replica = lane_line (x_of width replica) height ++ lane_name (x_of width replica) replica

-- `X Y`
abbrev pub point : ℕ → ℕ → List ℕ
point x y = decimal x ++ codes " " ++ decimal y

-- how an arrow goes on to its end: straight, or to a place at the same replica in a bend to the left
abbrev pub bend : ℕ → ℕ → ℕ → ℕ → List ℕ
bend x y to_x to_y = if x == to_x then codes "C" ++ point (x - 28) y ++ codes " " ++ point (x - 28) to_y ++ codes " " else codes "L"

-- an arrow from one place to another
abbrev pub arrow_svg : ℕ → ℕ → ℕ → ℕ → List ℕ
arrow_svg x y to_x to_y = codes "<path class='arrow' d='M" ++ point x y ++ bend x y to_x to_y ++ point to_x to_y ++ codes "'/>\n"

-- the arrow of a packet that is delivered at a place, and one that ends in a cross of a packet that never is
abbrev pub packet_svg : ℕ → ℕ → ℕ → EventKind → List ℕ
packet_svg width x y (Delivers row replica) = arrow_svg (x_of width replica) (y_of row) x y
packet_svg width x y (Ships true) = codes "<path class='lost' d='M" ++ point x y ++ codes "l22 18m-5-5l10 10m0-10l-10 10'/>\n"
packet_svg width x y (Ships false) = []
packet_svg width x y Does = []
packet_svg width x y Asks = []
packet_svg width x y Shows = []

-- how a mark begins, with what it is for its colours, and its shape from its place on: a disc, a diamond, a square, and small
-- discs for packets
abbrev pub mark_head : EventKind → List ℕ
mark_head Does = codes "<path class='do' d='M"
mark_head Asks = codes "<path class='ask' d='M"
mark_head Shows = codes "<path class='show' d='M"
mark_head (Ships lost) = codes "<path class='packet' d='M"
mark_head (Delivers row replica) = codes "<path class='packet' d='M"

abbrev pub shape : EventKind → List ℕ
shape Does = codes "m-7 0a7 7 0 1 0 14 0a7 7 0 1 0-14 0z'/>\n"
shape Asks = codes "m-8 0l8-8l8 8l-8 8z'/>\n"
shape Shows = codes "m-6-6h12v12h-12z'/>\n"
shape (Ships lost) = codes "m-3 0a3 3 0 1 0 6 0a3 3 0 1 0-6 0z'/>\n"
shape (Delivers row replica) = codes "m-3 0a3 3 0 1 0 6 0a3 3 0 1 0-6 0z'/>\n"

abbrev pub mark_svg : ℕ → ℕ → EventKind → List ℕ
mark_svg x y kind = mark_head kind ++ point x y ++ shape kind

-- the text beside a mark; a packet has its word if it is shipped
abbrev pub label_of : EventKind → List ℕ → List ℕ
label_of Does text = escaped text
label_of Asks text = escaped text
label_of Shows text = codes "show"
label_of (Ships lost) text = escaped text
label_of (Delivers row replica) text = []

abbrev pub label_head : EventKind → List ℕ
label_head Does = codes "<text class='do-text' x='"
label_head Asks = codes "<text class='ask-text' x='"
label_head Shows = codes "<text class='show-text' x='"
label_head (Ships lost) = codes "<text class='packet-text' x='"
label_head (Delivers row replica) = codes "<text class='packet-text' x='"

abbrev pub label_place : ℕ → ℕ → List ℕ
label_place x y = decimal x ++ codes "' y='" ++ decimal y ++ codes "'>"

abbrev pub label_svg : ℕ → ℕ → EventKind → List ℕ → List ℕ
label_svg x y kind text = label_head kind ++ label_place (x + 12) (y + 4) ++ label_of kind text ++ codes "</text>\n"

-- the arrows, the marks and the texts of events
abbrev pub arrows : ℕ → List Event → List ℕ
arrows width events = flat_map (λ (e : Event). packet_svg width (x_of width e.replica) (y_of e.row) e.kind) events

abbrev pub shapes : ℕ → List Event → List ℕ
shapes width events = flat_map (λ (e : Event). mark_svg (x_of width e.replica) (y_of e.row) e.kind) events

abbrev pub labels : ℕ → List Event → List ℕ
labels width events = flat_map (λ (e : Event). label_svg (x_of width e.replica) (y_of e.row) e.kind e.text) events

-- how wide and how high the picture is
abbrev pub picture_width : ℕ → ℕ → ℕ
picture_width width replicas = 40 + width * replicas

abbrev pub picture_height : List Event → ℕ
picture_height events = 56 + 30 * length events

-- the colours, the tip of an arrow, and the ground
unfoldable pub ground : List ℕ
ground = codes "<style>.lane{stroke:#999;fill:none}.head{text-anchor:middle;fill:#555}.arrow{stroke:#2a6fb0;fill:none;stroke-width:1.5;marker-end:url(#tip)}.lost{stroke:#c03030;fill:none;stroke-width:1.5}.do{fill:#2f4858}.ask{fill:#fff;stroke:#2f7d4f;stroke-width:2}.show{fill:#fff;stroke:#555;stroke-width:2}.packet{fill:#2a6fb0}.packet-text{fill:#2a6fb0;font-style:italic}.ask-text{fill:#2f7d4f}text{fill:#222;paint-order:stroke;stroke:#fff;stroke-width:4px}</style>\n<defs><marker id='tip' viewBox='0 0 8 8' refX='11' refY='4' markerWidth='7' markerHeight='7' orient='auto'><path d='M0 0L8 4L0 8z' fill='#2a6fb0'/></marker></defs>\n<rect width='100%' height='100%' fill='#fff'/>\n"

-- what comes before the drawing
unfoldable pub first_text : List ℕ
first_text = codes "<svg xmlns='http://www.w3.org/2000/svg' width='"

abbrev pub size_svg : ℕ → ℕ → List ℕ
size_svg width height = first_text ++ decimal width ++ codes "' height='" ++ decimal height

abbrev pub view_svg : ℕ → ℕ → List ℕ
view_svg width height = codes "' viewBox='0 0 " ++ point width height ++ codes "' font-family='monospace' font-size='13'>\n"

abbrev pub head_svg : ℕ → ℕ → List ℕ
head_svg width height = size_svg width height ++ view_svg width height ++ ground

-- what happens: arrows below, marks above them, and texts above all
abbrev pub drawn : ℕ → List Event → List ℕ
drawn width events = arrows width events ++ shapes width events ++ labels width events ++ codes "</svg>\n"

-- the picture of events at this many replicas, which are so far apart, down to a height
abbrev pub svg_at : ℕ → ℕ → ℕ → List Event → List ℕ
svg_at width height replicas events =
    head_svg (picture_width width replicas) height ++ for_each (lane_svg width height) replicas ++ drawn width events

-- the whole picture
abbrev pub svg : Picture → List ℕ
svg p = svg_at (lane_width p.events) (picture_height p.events) p.replicas p.events
