-- Where packets were shipped, and whether they are delivered.
use Rattle.std.specs.Prelude.{ℕ, Bool, true, false, not, ◌==◌, List, [], ◌∷◌, filter, Option, None, Some, unwrap_or, if◌then◌else◌}
use Rattle.kat_script.specs.declared.script.Line.{Line}
use Rattle.kat_script.specs.declared.script.Line.TheVariants.{Ship, Deliver}
use Rattle.kat_picture.specs.declared.shipping.Shipping.{Shipping}

abbrev pub shipping : ℕ → ℕ → ℕ → Shipping
shipping packet row replica = record { packet = packet; row = row; replica = replica }

-- where the packet was shipped last, of what was shipped, the latest first; row 0 and replica 0 if it wasn't
abbrev pub shipping_of : ℕ → List Shipping → Shipping
shipping_of packet [] = shipping packet 0 0
shipping_of packet (ship ∷ ships) = if ship.packet == packet then ship else shipping_of packet ships

-- what was shipped, except for one packet
abbrev pub ships_but : ℕ → List Shipping → List Shipping
ships_but packet ships = filter (λ (ship : Shipping). not (ship.packet == packet)) ships

-- what was shipped after a line in this row, the latest first, and each packet once
abbrev pub ships_behind : ℕ → Line → List Shipping → List Shipping
ships_behind row (Ship r p) ships = shipping p row r ∷ ships_but p ships
ships_behind row line ships = ships

-- whether the line delivers the packet, if it names it
abbrev pub fate : ℕ → Line → Option Bool
fate packet (Ship r p) = if p == packet then Some false else None
fate packet (Deliver p r) = if p == packet then Some true else None
fate packet line = None

-- the first of the lines that names the packet delivers it
abbrev pub is_delivered : ℕ → List Line → Bool
is_delivered packet [] = false
is_delivered packet (line ∷ lines) = unwrap_or (fate packet line) (is_delivered packet lines)
