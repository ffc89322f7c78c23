-- The lines of a block, as they are written.
use Rattle.std.specs.Prelude.{◌≡◌, ℕ, ◌≤◌, ◌^◌, ℤ, unsigned_abs, Bool, true, false, List, [], ◌∷◌, ◌++◌, codes}
use Rattle.std.specs.Fmt.{decimal, signed_decimal}
use Rattle.std.specs.List.{All, flat_map}
use Rattle.kat_points.specs.Held.{IsHeldPoint}
use Rattle.kat_points.specs.Points.{PointForm}
use Rattle.kat_points.specs.Answers.{point_form}
use Rattle.kat_said.specs.Numerals.{whole_numeral}
use Rattle.kat_said.specs.declared.said.Place.{Place}
use Rattle.kat_said.specs.declared.said.Place.TheVariants.{Start, Step, Query}
use Rattle.kat_said.specs.declared.said.Said.{Said}
use Rattle.kat_said.specs.declared.said.Said.TheVariants as say

-- what a line says: a candidate is dropped; or how the search for a proof ended
pub data SaidForm : Type 0 where
  drops : Place → PointForm → SaidForm
  fails : ℕ → PointForm → SaidForm
  spends : Place → SaidForm
  crowds : Place → ℕ → ℕ → ℕ → List ℤ → SaidForm
  widens : Place → ℤ → ℤ → List ℤ → SaidForm
  is_long : ℕ → SaidForm

abbrev pub said_form : Said → SaidForm
said_form (say.Drop at point) = drops at (point_form point)
said_form (say.Fail query point) = fails query (point_form point)
said_form (say.Spent at) = spends at
said_form (say.Rows at plus minus rest lits) = crowds at plus minus rest lits.items
said_form (say.Wide at left right lits) = widens at left right lits.items
said_form (say.Long bytes) = is_long bytes

-- whole numbers and truth values, each after a blank
abbrev pub behind_blank : ℤ → List ℕ
behind_blank z = 32 ∷ signed_decimal z

abbrev pub bit_code : Bool → List ℕ
bit_code true = 49 ∷ []
bit_code false = 48 ∷ []

abbrev pub bit_text : Bool → List ℕ
bit_text b = 32 ∷ bit_code b

-- a number of a point after a blank, in as many digits as it has
abbrev pub numeral_text : ℤ → List ℕ
numeral_text z = 32 ∷ whole_numeral z

-- `D; N N; T T`: the denominator, the numerators and the truth values
abbrev pub point_text : PointForm → List ℕ
point_text p = whole_numeral p.den ++ 59 ∷ (flat_map numeral_text p.nums ++ 59 ∷ flat_map bit_text p.truths)

-- `start J`, `step O J` or `query Q`
abbrev pub place_text : Place → List ℕ
place_text (Start j) = codes "start " ++ decimal j
place_text (Step o j) = codes "step " ++ (decimal o ++ 32 ∷ decimal j)
place_text (Query q) = codes "query " ++ decimal q

-- the line without its newline
abbrev pub said_text : SaidForm → List ℕ
said_text (drops at p) = codes "drop " ++ (place_text at ++ (codes " at " ++ point_text p))
said_text (fails q p) = codes "fail query " ++ (decimal q ++ (codes " at " ++ point_text p))
said_text (spends at) = codes "spent " ++ place_text at
said_text (crowds at a b c lits) = codes "rows " ++ (place_text at ++ 32 ∷ (decimal a ++ 32 ∷ (decimal b ++ 32 ∷ (decimal c ++ flat_map behind_blank lits))))
said_text (widens at a b lits) = codes "wide " ++ (place_text at ++ 32 ∷ (signed_decimal a ++ 32 ∷ (signed_decimal b ++ flat_map behind_blank lits)))
said_text (is_long n) = codes "long " ++ decimal n

abbrev pub said_line : SaidForm → List ℕ
said_line s = said_text s ++ 10 ∷ []

-- no number passes 2^126, except for those of a point, of which it is asked if points are judged
abbrev pub IsNarrow : ℤ → Type 0
IsNarrow z = unsigned_abs z ≤ 2 ^ 126

abbrev pub IsNarrowPlace : Place → Type 0
IsNarrowPlace (Start j) = j ≤ 2 ^ 126
IsNarrowPlace (Step o j) = (o ≤ 2 ^ 126) × (j ≤ 2 ^ 126)
IsNarrowPlace (Query q) = q ≤ 2 ^ 126

abbrev pub IsNarrowSaid : SaidForm → Type 0
IsNarrowSaid (drops at p) = IsNarrowPlace at
IsNarrowSaid (fails q p) = q ≤ 2 ^ 126
IsNarrowSaid (spends at) = IsNarrowPlace at
IsNarrowSaid (crowds at a b c lits) = IsNarrowPlace at × ((a ≤ 2 ^ 126) × (b ≤ 2 ^ 126) × (c ≤ 2 ^ 126)) × All IsNarrow lits
IsNarrowSaid (widens at a b lits) = IsNarrowPlace at × (IsNarrow a × IsNarrow b) × All IsNarrow lits
IsNarrowSaid (is_long n) = n ≤ 2 ^ 126

-- the bytes are a line that says this, and no number of it passes 2^126 but those of its point
pub record IsLineOf (line : List ℕ) (s : SaidForm) : Type 0 where
  pub narrow : IsNarrowSaid s
  pub text : line ≡ said_line s

-- what a line says, as it is held: the numbers of a point as those of points are
pub data IsHeldSaid : SaidForm → SaidForm → Type 0 where
  a_drop : {at : Place} {p held : PointForm} → IsHeldPoint p held → IsHeldSaid (drops at p) (drops at held)
  a_fail : {q : ℕ} {p held : PointForm} → IsHeldPoint p held → IsHeldSaid (fails q p) (fails q held)
  itself : {s : SaidForm} → IsHeldSaid s s

-- the bytes are a line, and what it says is held so
pub record IsHeldLine (line : List ℕ) (held : SaidForm) : Type 0 where
  pub said : SaidForm
  pub says : IsLineOf line said
  pub kept : IsHeldSaid said held

-- a line says one thing
abbrev pub SayOneThing : Type 0
SayOneThing = (line : List ℕ) (s t : SaidForm) → IsLineOf line s → IsLineOf line t → s ≡ t
