-- Used inside only.
-- The setting of an encoded condition.
use Rattle.std.specs.Prelude.{ℕ, ◌≤◌, ◌^◌, pos, ◌-ℤ◌, unsigned_abs, length}
use Rattle.std.specs.List.{All}
use Rattle.kat_linear.specs.Widths.{widths}
use Rattle.kat_form.specs.Encodings.{Encoding, Sense, encoding, IsFit, IsBelow}
use Rattle.kat_form.specs.Encodings.Sense.{truth, atom, gate}
use Rattle.kat_form.specs.declared.Encoded.{Encoded}
use Rattle.kat_fm.specs.Eliminations.{elim_of}
use Rattle.kat_cases.specs.Nodes.{Setting}

-- elimination over the encoding's number variables, and the widths of multipliers as they are judged
abbrev pub setting_of : Encoded → Setting
setting_of e = record {
  encoding = encoding e;
  solve = λ forms. elim_of forms e.numbers;
  wide = λ forms ms. widths forms ms;
}

-- the constant of an atom's negation is at most 2^126 in absolute value too
abbrev pub HasNarrowNegation : Sense → Type 0
HasNarrowNegation (truth v) = Unit {0}
HasNarrowNegation (atom form) = unsigned_abs (pos 1 -ℤ form.constant) ≤ 2 ^ 126
HasNarrowNegation gate = Unit {0}

-- What a walk asks of an encoding: it has at most 2^28 variables, its clauses have literals of these, and its atoms' forms are
-- fit, as their negations are, with number variables below the stated number.
pub record IsWalkable (numbers : ℕ) (e : Encoding) : Type 0 where
  pub few : length e.senses ≤ 2 ^ 28
  pub fit : IsFit e
  pub narrow : All HasNarrowNegation e.senses
  pub below : All (IsBelow numbers) e.senses
