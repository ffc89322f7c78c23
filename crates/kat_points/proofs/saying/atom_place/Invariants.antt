use Rattle.std.proofs.Common.{◌≡◌, ◌+◌, drop, map, option_map}
use Rattle.kat_linear.specs.Rows.{form_of}
use Rattle.kat_form.specs.Encodings.{sense_of}
use Rattle.kat_form.specs.Encodings.Sense.{atom}
use Rattle.kat_form.specs.Readings.{place_of}
use Rattle.kat_points.proofs.saying.atom_place.Given as goal

abbrev pub invariant-loop-i : goal.invariant-loop-i
invariant-loop-i l = option_map (λ k. l.i + k) (place_of (atom (form_of l.row)) (map sense_of (drop l.i l.meanings))) ≡ place_of (atom (form_of l.row)) (map sense_of l.meanings)
