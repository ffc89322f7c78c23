-- Used inside only.
-- What is guessed of any bytes. A line that is written as its guess says has that one reading.
use Rattle.std.specs.Prelude.{◌≡◌, ℕ, ◌+◌, ◌-◌, ◌*◌, ◌^◌, ◌==◌, nat_eq, nat_lt, if◌then◌else◌, ℤ, pos, neg_ℤ, Bool, List, [], ◌∷◌, ◌++◌, codes, map, slice_index_or}
use Rattle.std.specs.Fmt.{decimal}
use Rattle.kat_points.specs.Points.{PointForm}
use Rattle.std.specs.List.{flat_map}
use Rattle.kat_said.specs.Numerals.{numeral, whole_numeral}
use Rattle.kat_said.specs.Sayings.{IsNarrowSaid, SaidForm, bit_code, bit_text, numeral_text, place_text, point_text, said_line, said_text}
use Rattle.kat_said.specs.Sayings.SaidForm.{drops, fails, spends, crowds, widens, is_long}
use Rattle.kat_said.specs.declared.said.Place.{Place}
use Rattle.kat_said.specs.declared.said.Place.TheVariants.{Start, Step, Query}

-- what comes before the first byte d, or all; and what comes after it, or nothing
abbrev pub front : ℕ → List ℕ → List ℕ
front d [] = []
front d (b ∷ bs) = if b == d then [] else b ∷ front d bs

abbrev pub after : ℕ → List ℕ → List ℕ
after d [] = []
after d (b ∷ bs) = if b == d then bs else after d bs

-- the words after the blanks
abbrev pub words : List ℕ → List (List ℕ)
words [] = []
words (b ∷ bs) = if b == 32 then front 32 bs ∷ words bs else words bs

-- the number that digits write, up to 10^37 and one digit more
abbrev pub with_digit : ℕ → ℕ → ℕ
with_digit n c = if nat_lt n (10 ^ 37) then n * 10 + (c - 48) else 10 ^ 38

abbrev pub number_after : ℕ → List ℕ → ℕ
number_after n [] = n
number_after n (c ∷ cs) = number_after (with_digit n c) cs

abbrev pub number_in : List ℕ → ℕ
number_in bs = number_after 0 bs

abbrev pub whole_in : List ℕ → ℤ
whole_in [] = pos 0
whole_in (b ∷ bs) = if b == 45 then neg_ℤ (pos (number_in bs)) else pos (number_in (b ∷ bs))

abbrev pub bit_in : List ℕ → Bool
bit_in bs = nat_eq (slice_index_or bs 0 0) 49

abbrev pub point_in : List ℕ → PointForm
point_in bs = record { den = whole_in (front 59 bs); nums = map whole_in (words (front 59 (after 59 bs))); truths = map bit_in (words (after 59 (after 59 bs))) }

-- the number after the first blank, and after the second
abbrev pub first_number : List ℕ → ℕ
first_number bs = number_in (front 32 (after 32 bs))

abbrev pub second_number : List ℕ → ℕ
second_number bs = first_number (after 32 bs)

-- a place by its first byte, and then by its third
abbrev pub place_in : List ℕ → Place
place_in bs =
    if slice_index_or bs 0 0 == 113
    then Query (first_number bs)
    else if slice_index_or bs 2 0 == 97 then Start (first_number bs) else Step (first_number bs) (second_number bs)

-- what comes after a place and its blank
abbrev pub behind : Place → List ℕ → List ℕ
behind (Start j) bs = after 32 (after 32 bs)
behind (Step o j) bs = after 32 (after 32 (after 32 bs))
behind (Query q) bs = after 32 (after 32 bs)

abbrev pub drop_in : List ℕ → SaidForm
drop_in bs = drops (place_in bs) (point_in (after 32 (behind (place_in bs) bs)))

abbrev pub fail_in : List ℕ → SaidForm
fail_in bs = fails (first_number bs) (point_in (after 32 (after 32 (after 32 bs))))

abbrev pub crowd_by : Place → List ℕ → SaidForm
crowd_by at bs = crowds at (number_in (front 32 bs)) (number_in (front 32 (after 32 bs))) (number_in (front 32 (after 32 (after 32 bs)))) (map whole_in (words (after 32 (after 32 bs))))

abbrev pub width_by : Place → List ℕ → SaidForm
width_by at bs = widens at (whole_in (front 32 bs)) (whole_in (front 32 (after 32 bs))) (map whole_in (words (after 32 bs)))

abbrev pub crowd_in : List ℕ → SaidForm
crowd_in bs = crowd_by (place_in bs) (behind (place_in bs) bs)

abbrev pub width_in : List ℕ → SaidForm
width_in bs = width_by (place_in bs) (behind (place_in bs) bs)

-- by the first byte, from what comes after the first blank
abbrev pub said_by : ℕ → List ℕ → SaidForm
said_by tag bs =
    if tag == 100 then drop_in bs
    else if tag == 102 then fail_in bs
    else if tag == 115 then spends (place_in bs)
    else if tag == 114 then crowd_in bs
    else if tag == 119 then width_in bs
    else is_long (number_in bs)

abbrev pub said_in : List ℕ → SaidForm
said_in bs = said_by (slice_index_or bs 0 0) (after 32 bs)

abbrev pub guess : List ℕ → SaidForm
guess line = said_in (front 10 line)

-- what is read of a number in digits, of a point's numbers, and of what a line says
abbrev pub read_whole : ℤ → ℤ
read_whole z = whole_in (whole_numeral z)

abbrev pub read_point : PointForm → PointForm
read_point p = record { den = read_whole p.den; nums = map read_whole p.nums; truths = p.truths }

abbrev pub read_form : SaidForm → SaidForm
read_form (drops at p) = drops at (read_point p)
read_form (fails q p) = fails q (read_point p)
read_form (spends at) = spends at
read_form (crowds at a b c lits) = crowds at a b c lits
read_form (widens at a b lits) = widens at a b lits
read_form (is_long n) = is_long n

-- what is guessed of a line is what is read of what it says
abbrev pub LinesAreGuessed : Type 0
LinesAreGuessed = (s : SaidForm) → IsNarrowSaid s → guess (said_line s) ≡ read_form s

-- texts of a number in digits, of a whole number, of such after blanks, of truth values, of both, and of a point
abbrev pub IsNumeral : List ℕ → Type 0
IsNumeral bs = (n : ℕ) × (bs ≡ numeral n)

abbrev pub IsWhole : List ℕ → Type 0
IsWhole bs = (z : ℤ) × (bs ≡ whole_numeral z)

abbrev pub AreWholes : List ℕ → Type 0
AreWholes bs = (zs : List ℤ) × (bs ≡ flat_map numeral_text zs)

abbrev pub IsBit : List ℕ → Type 0
IsBit bs = (b : Bool) × (bs ≡ bit_code b)

abbrev pub AreBits : List ℕ → Type 0
AreBits bs = (truths : List Bool) × (bs ≡ flat_map bit_text truths)

abbrev pub AreBoth : List ℕ → Type 0
AreBoth bs = (nums : List ℤ) × (truths : List Bool) × (bs ≡ flat_map numeral_text nums ++ 59 ∷ flat_map bit_text truths)

abbrev pub IsPointText : List ℕ → Type 0
IsPointText bs = (p : PointForm) × (bs ≡ point_text p)

-- there is nothing, or a blank first
abbrev pub IsBegun : List ℕ → Type 0
IsBegun [] = Unit {0}
IsBegun (b ∷ bs) = b ≡ 32

-- whether a text has a byte
abbrev pub IsCut : ℕ → List ℕ → Type 0
IsCut d bs = bs ≡ front d bs ++ d ∷ after d bs

-- where a line's point is, if what it says has one
abbrev pub point_part : SaidForm → List ℕ → List ℕ
point_part (drops at p) line = after 32 (behind at (after 32 (front 10 line)))
point_part (fails n p) line = after 32 (after 32 (after 32 (after 32 (front 10 line))))
point_part (spends at) line = []
point_part (crowds at a b c lits) line = []
point_part (widens at a b lits) line = []
point_part (is_long n) line = []

-- these bytes are a point, if what a line says has one
abbrev pub IsPointFor : SaidForm → List ℕ → Type 0
IsPointFor (drops at p) bs = IsPointText bs
IsPointFor (fails n p) bs = IsPointText bs
IsPointFor (spends at) bs = Unit {0}
IsPointFor (crowds at a b c lits) bs = Unit {0}
IsPointFor (widens at a b lits) bs = Unit {0}
IsPointFor (is_long n) bs = Unit {0}

-- the text of what a line says with these bytes for its point
abbrev pub text_with : SaidForm → List ℕ → List ℕ
text_with (drops at p) bs = codes "drop " ++ (place_text at ++ (codes " at " ++ bs))
text_with (fails n p) bs = codes "fail query " ++ (decimal n ++ (codes " at " ++ bs))
text_with (spends at) bs = said_text (spends at)
text_with (crowds at a b c lits) bs = said_text (crowds at a b c lits)
text_with (widens at a b lits) bs = said_text (widens at a b lits)
text_with (is_long n) bs = said_text (is_long n)

abbrev pub line_with : SaidForm → List ℕ → List ℕ
line_with s bs = text_with s bs ++ 10 ∷ []

-- the line is written as what was guessed says, whichever the numbers of its point are
abbrev pub IsWritten : List ℕ → SaidForm → Type 0
IsWritten line (drops at p) = (q : PointForm) × (line ≡ said_line (drops at q))
IsWritten line (fails n p) = (q : PointForm) × (line ≡ said_line (fails n q))
IsWritten line (spends at) = line ≡ said_line (spends at)
IsWritten line (crowds at a b c lits) = line ≡ said_line (crowds at a b c lits)
IsWritten line (widens at a b lits) = line ≡ said_line (widens at a b lits)
IsWritten line (is_long n) = line ≡ said_line (is_long n)
