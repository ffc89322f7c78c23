-- What is guessed of the lines of a block.
use Rattle.std.proofs.Common.{◌≡◌, ◌↔◌, ◌⊎◌, IsTrue, ℕ, ◌≤◌, ◌^◌, ◌==◌, ◌||◌, if◌then◌else◌, inl, inr, ℤ, Bool, true, false, List, [], ◌∷◌, ◌++◌, All, map, append_assoc, refl, sym, ap, ◌∙◌, subst, arith}
use Rattle.std.specs.Prelude.{codes, slice_index_or}
use Rattle.std.specs.Fmt.{decimal, signed_decimal}
use Rattle.std.specs.List.{flat_map}
use Rattle.std.proofs.lemmas.Bool.{false≢true}
use Rattle.std.proofs.lemmas.Bool.Decides.{Decides-eqb}
use Rattle.std.proofs.lemmas.List.Elements.{All-cons, All-head, All-nil, All-tail}
use Rattle.kat_points.specs.Held.{IsHeldPoint}
use Rattle.kat_points.specs.Points.{PointForm}
use Rattle.kat_said.specs.Guesses.{IsPointFor, IsPointText, IsWhole, IsWritten, LinesAreGuessed, after, behind, crowd_by, crowd_in, drop_in, fail_in, front, guess, line_with, number_in, place_in, point_in, point_part, read_form, read_point, said_by, said_in, whole_in, width_by, width_in, words}
use Rattle.kat_said.specs.Numerals.{whole_numeral}
use Rattle.kat_said.specs.Sayings.{IsHeldLine, IsLineOf, IsNarrow, IsNarrowPlace, IsNarrowSaid, SaidForm, SayOneThing, behind_blank, bit_text, numeral_text, place_text, point_text, said_line, said_text}
use Rattle.kat_said.specs.Sayings.IsHeldSaid.{a_drop, a_fail, itself}
use Rattle.kat_said.specs.Sayings.SaidForm.{drops, fails, spends, crowds, widens, is_long}
use Rattle.kat_said.specs.declared.said.Place.{Place}
use Rattle.kat_said.specs.declared.said.Place.TheVariants.{Start, Step, Query}
use Rattle.kat_said.proofs.Parts.{Free, after_free, free_append, front_all, front_free, front_words, words_behind}
use Rattle.kat_said.proofs.Numbers.{bits_plain, number_back, number_free, signed_free, whole_back, wholes_back, wholes_free, wholes_plain}
use Rattle.kat_said.proofs.DigitTexts.{whole_decimal, whole_free}
use Rattle.kat_said.proofs.PointTexts.{numerals_early, one_point, point_back, point_held}

-- a number in front of a blank, and at the end
number_front : (n : ℕ) (rest : List ℕ) → n ≤ 2 ^ 126 → number_in (front 32 (decimal n ++ 32 ∷ rest)) ≡ n
number_front n rest small = ap number_in (front_free 32 (decimal n) rest (number_free 32 n (inl (omega arith)) small)) ∙ number_back n small

number_last : (n : ℕ) → n ≤ 2 ^ 126 → number_in (front 32 (decimal n)) ≡ n
number_last n small = ap number_in (front_all 32 (decimal n) (number_free 32 n (inl (omega arith)) small)) ∙ number_back n small

past_number : (n : ℕ) (rest : List ℕ) → n ≤ 2 ^ 126 → after 32 (decimal n ++ 32 ∷ rest) ≡ rest
past_number n rest small = after_free 32 (decimal n) rest (number_free 32 n (inl (omega arith)) small)

-- places
place_back : (at : Place) (rest : List ℕ) → IsNarrowPlace at → place_in (place_text at ++ 32 ∷ rest) ≡ at
place_back (Start j) rest small = ap Start (number_front j rest small)
place_back (Step o j) rest small =
    let tail : (decimal o ++ 32 ∷ decimal j) ++ 32 ∷ rest ≡ decimal o ++ 32 ∷ (decimal j ++ 32 ∷ rest) = append_assoc (decimal o) (32 ∷ decimal j) (32 ∷ rest) in
    ap (λ bs. Step (number_in (front 32 bs)) (number_in (front 32 (after 32 bs)))) tail
    ∙ ap (λ n. Step n (number_in (front 32 (after 32 (decimal o ++ 32 ∷ (decimal j ++ 32 ∷ rest)))))) (number_front o (decimal j ++ 32 ∷ rest) small.0)
    ∙ ap (λ bs. Step o (number_in (front 32 bs))) (past_number o (decimal j ++ 32 ∷ rest) small.0)
    ∙ ap (Step o) (number_front j rest small.1)
place_back (Query q) rest small = ap Query (number_front q rest small)

place_last : (at : Place) → IsNarrowPlace at → place_in (place_text at) ≡ at
place_last (Start j) small = ap Start (number_last j small)
place_last (Step o j) small =
    ap (λ n. Step n (number_in (front 32 (after 32 (decimal o ++ 32 ∷ decimal j))))) (number_front o (decimal j) small.0)
    ∙ ap (λ bs. Step o (number_in (front 32 bs))) (past_number o (decimal j) small.0)
    ∙ ap (Step o) (number_last j small.1)
place_last (Query q) small = ap Query (number_last q small)

behind_place : (at : Place) (rest : List ℕ) → IsNarrowPlace at → behind at (place_text at ++ 32 ∷ rest) ≡ rest
behind_place (Start j) rest small = past_number j rest small
behind_place (Step o j) rest small =
    ap (λ bs. after 32 (after 32 bs)) (append_assoc (decimal o) (32 ∷ decimal j) (32 ∷ rest))
    ∙ ap (after 32) (past_number o (decimal j ++ 32 ∷ rest) small.0) ∙ past_number j rest small.1
behind_place (Query q) rest small = past_number q rest small

crowd_same : (p : Place) (x x' y y' z z' : ℕ) (l l' : List ℤ) → x ≡ x' → y ≡ y' → z ≡ z' → l ≡ l' → crowds p x y z l ≡ crowds p x' y' z' l'
crowd_same p x x' y y' z z' l l' e f g h = cc

width_same : (p : Place) (x x' y y' : ℤ) (l l' : List ℤ) → x ≡ x' → y ≡ y' → l ≡ l' → widens p x y l ≡ widens p x' y' l'
width_same p x x' y y' l l' e f h = cc

-- what a line says, without its newline
said_back : (s : SaidForm) → IsNarrowSaid s → said_in (said_text s) ≡ read_form s
said_back (drops at p) narrow =
    let rest : List ℕ = 97 ∷ 116 ∷ 32 ∷ point_text p in
    ap (λ a. drops a (point_in (after 32 (behind a (place_text at ++ 32 ∷ rest))))) (place_back at rest narrow)
    ∙ ap (λ bs. drops at (point_in (after 32 bs))) (behind_place at rest narrow)
    ∙ ap (drops at) (point_back p)
said_back (fails q p) narrow =
    let rest : List ℕ = 97 ∷ 116 ∷ 32 ∷ point_text p in
    ap (λ n. fails n (point_in (after 32 (after 32 (decimal q ++ 32 ∷ rest))))) (number_front q rest narrow)
    ∙ ap (λ bs. fails q (point_in (after 32 bs))) (past_number q rest narrow)
    ∙ ap (fails q) (point_back p)
said_back (spends at) narrow = ap spends (place_last at narrow)
said_back (crowds at a b c lits) narrow =
    let numbers = narrow.1 in
    let last : List ℕ = decimal c ++ flat_map behind_blank lits in
    let rest : List ℕ = decimal a ++ 32 ∷ (decimal b ++ 32 ∷ last) in
    let second : after 32 (decimal a ++ 32 ∷ (decimal b ++ 32 ∷ (decimal c ++ flat_map behind_blank lits))) ≡ decimal b ++ 32 ∷ (decimal c ++ flat_map behind_blank lits) = past_number a (decimal b ++ 32 ∷ last) numbers.0 in
    let third : after 32 (after 32 (decimal a ++ 32 ∷ (decimal b ++ 32 ∷ (decimal c ++ flat_map behind_blank lits)))) ≡ decimal c ++ flat_map behind_blank lits = ap (after 32) second ∙ past_number b last numbers.1 in
    let free : Free 32 (decimal c) = number_free 32 c (inl (omega arith)) numbers.2 in
    ap (λ p. crowd_by p (behind p (place_text at ++ 32 ∷ rest))) (place_back at rest narrow.0)
    ∙ ap (crowd_by at) (behind_place at rest narrow.0)
    ∙ crowd_same at (number_in (front 32 rest)) a (number_in (front 32 (after 32 rest))) b (number_in (front 32 (after 32 (after 32 rest)))) c (map whole_in (words (after 32 (after 32 rest)))) lits
    (number_front a (decimal b ++ 32 ∷ last) numbers.0)
    (ap (λ bs. number_in (front 32 bs)) second ∙ number_front b last numbers.1)
    (ap (λ bs. number_in (front 32 bs)) third ∙ ap number_in (front_words signed_decimal (decimal c) lits free) ∙ number_back c numbers.2)
    (ap (λ bs. map whole_in (words bs)) third ∙ ap (map whole_in) (words_behind signed_decimal (decimal c) lits free (wholes_free lits narrow.2)) ∙ wholes_back lits narrow.2)
said_back (widens at a b lits) narrow =
    let numbers = narrow.1 in
    let last : List ℕ = signed_decimal b ++ flat_map behind_blank lits in
    let rest : List ℕ = signed_decimal a ++ 32 ∷ last in
    let a_free : Free 32 (signed_decimal a) = signed_free 32 a (inl (omega arith)) numbers.0 in
    let b_free : Free 32 (signed_decimal b) = signed_free 32 b (inl (omega arith)) numbers.1 in
    let second : after 32 (signed_decimal a ++ 32 ∷ (signed_decimal b ++ flat_map behind_blank lits)) ≡ signed_decimal b ++ flat_map behind_blank lits = after_free 32 (signed_decimal a) last a_free in
    ap (λ p. width_by p (behind p (place_text at ++ 32 ∷ rest))) (place_back at rest narrow.0)
    ∙ ap (width_by at) (behind_place at rest narrow.0)
    ∙ width_same at (whole_in (front 32 rest)) a (whole_in (front 32 (after 32 rest))) b (map whole_in (words (after 32 rest))) lits
    (ap whole_in (front_free 32 (signed_decimal a) last a_free) ∙ whole_back a numbers.0)
    (ap (λ bs. whole_in (front 32 bs)) second ∙ ap whole_in (front_words signed_decimal (signed_decimal b) lits b_free) ∙ whole_back b numbers.1)
    (ap (λ bs. map whole_in (words bs)) second ∙ ap (map whole_in) (words_behind signed_decimal (signed_decimal b) lits b_free (wholes_free lits narrow.2)) ∙ wholes_back lits narrow.2)
said_back (is_long n) narrow = ap is_long (number_back n narrow)

-- a line has no newline
abbrev has_newline : List ℕ → Bool
has_newline [] = false
has_newline (b ∷ bs) = (b == 10) || has_newline bs

plain : (bs : List ℕ) → has_newline bs ≡ false → Free 10 bs
plain [] e = tt
plain (b ∷ bs) e = (λ is. first (b == 10) ((Decides-eqb b 10).1 is) e, plain bs (rest (b == 10) e))
  where
    first : (t : Bool) → t ≡ true → (t || has_newline bs) ≡ false → ⊥
    first true f g = cc
    first false f g = cc

    rest : (t : Bool) → (t || has_newline bs) ≡ false → has_newline bs ≡ false
    rest true g = absurd (cc)
    rest false g = g

number_plain : (n : ℕ) → n ≤ 2 ^ 126 → Free 10 (decimal n)
number_plain n small = number_free 10 n (inl (omega arith)) small

signed_plain : (z : ℤ) → IsNarrow z → Free 10 (signed_decimal z)
signed_plain z small = signed_free 10 z (inl (omega arith)) small

literals_plain : (zs : List ℤ) → All IsNarrow zs → Free 10 (flat_map behind_blank zs)
literals_plain zs all = wholes_plain 10 zs (inl (omega arith)) (λ e. omega (arith, e)) all

point_plain : (p : PointForm) → Free 10 (point_text p)
point_plain p =
    free_append 10 (whole_numeral p.den) (59 ∷ (flat_map numeral_text p.nums ++ 59 ∷ flat_map bit_text p.truths)) (whole_free 10 p.den (inl (omega arith)))
    (λ e. omega (arith, e), free_append 10 (flat_map numeral_text p.nums) (59 ∷ flat_map bit_text p.truths) (numerals_early 10 p.nums (omega arith)) (λ e. omega (arith, e), bits_plain 10 p.truths (inl (omega arith)) (λ e. omega (arith, e))))

place_plain : (at : Place) → IsNarrowPlace at → Free 10 (place_text at)
place_plain (Start j) small = free_append 10 (codes "start ") (decimal j) (plain (codes "start ") refl) (number_plain j small)
place_plain (Step o j) small =
    free_append 10 (codes "step ") (decimal o ++ 32 ∷ decimal j) (plain (codes "step ") refl) (free_append 10 (decimal o) (32 ∷ decimal j) (number_plain o small.0) (λ e. omega (arith, e), number_plain j small.1))
place_plain (Query q) small = free_append 10 (codes "query ") (decimal q) (plain (codes "query ") refl) (number_plain q small)

pub said_plain : (s : SaidForm) → IsNarrowSaid s → Free 10 (said_text s)
said_plain (drops at p) narrow =
    free_append 10 (codes "drop ") (place_text at ++ (codes " at " ++ point_text p)) (plain (codes "drop ") refl)
    (free_append 10 (place_text at) (codes " at " ++ point_text p) (place_plain at narrow) (free_append 10 (codes " at ") (point_text p) (plain (codes " at ") refl) (point_plain p)))
said_plain (fails q p) narrow =
    free_append 10 (codes "fail query ") (decimal q ++ (codes " at " ++ point_text p)) (plain (codes "fail query ") refl)
    (free_append 10 (decimal q) (codes " at " ++ point_text p) (number_plain q narrow) (free_append 10 (codes " at ") (point_text p) (plain (codes " at ") refl) (point_plain p)))
said_plain (spends at) narrow = free_append 10 (codes "spent ") (place_text at) (plain (codes "spent ") refl) (place_plain at narrow)
said_plain (crowds at a b c lits) narrow =
    let numbers = narrow.1 in
    free_append 10 (codes "rows ") (place_text at ++ 32 ∷ (decimal a ++ 32 ∷ (decimal b ++ 32 ∷ (decimal c ++ flat_map behind_blank lits)))) (plain (codes "rows ") refl)
    (free_append 10 (place_text at) (32 ∷ (decimal a ++ 32 ∷ (decimal b ++ 32 ∷ (decimal c ++ flat_map behind_blank lits)))) (place_plain at narrow.0) (
      λ e. omega (arith, e),
      free_append 10 (decimal a) (32 ∷ (decimal b ++ 32 ∷ (decimal c ++ flat_map behind_blank lits))) (number_plain a numbers.0) (
        λ e. omega (arith, e),
        free_append 10 (decimal b) (32 ∷ (decimal c ++ flat_map behind_blank lits)) (number_plain b numbers.1)
            (λ e. omega (arith, e), free_append 10 (decimal c) (flat_map behind_blank lits) (number_plain c numbers.2) (literals_plain lits narrow.2)),
      ),
    ))
said_plain (widens at a b lits) narrow =
    let numbers = narrow.1 in
    free_append 10 (codes "wide ") (place_text at ++ 32 ∷ (signed_decimal a ++ 32 ∷ (signed_decimal b ++ flat_map behind_blank lits))) (plain (codes "wide ") refl)
    (free_append 10 (place_text at) (32 ∷ (signed_decimal a ++ 32 ∷ (signed_decimal b ++ flat_map behind_blank lits))) (place_plain at narrow.0) (
      λ e. omega (arith, e),
      free_append 10 (signed_decimal a) (32 ∷ (signed_decimal b ++ flat_map behind_blank lits)) (signed_plain a numbers.0)
          (λ e. omega (arith, e), free_append 10 (signed_decimal b) (flat_map behind_blank lits) (signed_plain b numbers.1) (literals_plain lits narrow.2)),
    ))
said_plain (is_long n) narrow = free_append 10 (codes "long ") (decimal n) (plain (codes "long ") refl) (number_plain n narrow)

pub lines_guessed : LinesAreGuessed
lines_guessed s narrow = ap said_in (front_free 10 (said_text s) [] (said_plain s narrow)) ∙ said_back s narrow

-- where the point of a line is
drop_part : (at : Place) (p q : PointForm) → IsNarrowPlace at → point_part (drops at q) (said_line (drops at p)) ≡ point_text p
drop_part at p q narrow =
    ap (λ bs. after 32 (behind at (after 32 bs))) (front_free 10 (said_text (drops at p)) [] (said_plain (drops at p) narrow))
    ∙ ap (after 32) (behind_place at (97 ∷ 116 ∷ 32 ∷ point_text p) narrow)

fail_part : (n : ℕ) (p q : PointForm) → n ≤ 2 ^ 126 → point_part (fails n q) (said_line (fails n p)) ≡ point_text p
fail_part n p q narrow =
    ap (λ bs. after 32 (after 32 (after 32 (after 32 bs)))) (front_free 10 (said_text (fails n p)) [] (said_plain (fails n p) narrow))
    ∙ ap (after 32) (past_number n (97 ∷ 116 ∷ 32 ∷ point_text p) narrow)

-- what is read as a drop or a query is one, and what has no point is read as it is
drop_from : (t : SaidForm) (at : Place) (r : PointForm) → read_form t ≡ drops at r → (q : PointForm) × (t ≡ drops at q)
drop_from (drops a p) at r e = let same : a ≡ at = cc in (p, ap (λ x. drops x p) same)
drop_from (fails n p) at r e = absurd (cc)
drop_from (spends a) at r e = absurd (cc)
drop_from (crowds a x y z lits) at r e = absurd (cc)
drop_from (widens a x y lits) at r e = absurd (cc)
drop_from (is_long n) at r e = absurd (cc)

fail_from : (t : SaidForm) (n : ℕ) (r : PointForm) → read_form t ≡ fails n r → (q : PointForm) × (t ≡ fails n q)
fail_from (drops a p) n r e = absurd (cc)
fail_from (fails m p) n r e = let same : m ≡ n = cc in (p, ap (λ x. fails x p) same)
fail_from (spends a) n r e = absurd (cc)
fail_from (crowds a x y z lits) n r e = absurd (cc)
fail_from (widens a x y lits) n r e = absurd (cc)
fail_from (is_long m) n r e = absurd (cc)

abbrev HasNoPoint : SaidForm → Type 0
HasNoPoint (drops at p) = ⊥
HasNoPoint (fails n p) = ⊥
HasNoPoint (spends at) = Unit {0}
HasNoPoint (crowds at a b c lits) = Unit {0}
HasNoPoint (widens at a b lits) = Unit {0}
HasNoPoint (is_long n) = Unit {0}

read_plain : (t x : SaidForm) → HasNoPoint x → read_form t ≡ x → t ≡ x
read_plain (drops at p) x none e = let P : SaidForm → Type 0 = HasNoPoint in absurd (subst P (sym e) none)
read_plain (fails n p) x none e = let P : SaidForm → Type 0 = HasNoPoint in absurd (subst P (sym e) none)
read_plain (spends at) x none e = e
read_plain (crowds at a b c lits) x none e = e
read_plain (widens at a b lits) x none e = e
read_plain (is_long n) x none e = e

-- a line says one thing
same_drop : (at : Place) (p q : PointForm) → IsNarrowPlace at → said_line (drops at p) ≡ said_line (drops at q) → drops at p ≡ drops at q
same_drop at p q narrow e = ap (drops at) (one_point p q (sym (drop_part at p p narrow) ∙ ap (point_part (drops at p)) e ∙ drop_part at q p narrow))

same_fail : (n : ℕ) (p q : PointForm) → n ≤ 2 ^ 126 → said_line (fails n p) ≡ said_line (fails n q) → fails n p ≡ fails n q
same_fail n p q narrow e = ap (fails n) (one_point p q (sym (fail_part n p p narrow) ∙ ap (point_part (fails n p)) e ∙ fail_part n q p narrow))

by_reading : (s t : SaidForm) → IsNarrowSaid s → read_form t ≡ read_form s → said_line s ≡ said_line t → s ≡ t
by_reading (drops at p) t narrow e same =
    let from = drop_from t at (read_point p) e in
    same_drop at p from.0 narrow (same ∙ ap said_line from.1) ∙ sym from.1
by_reading (fails n p) t narrow e same =
    let from = fail_from t n (read_point p) e in
    same_fail n p from.0 narrow (same ∙ ap said_line from.1) ∙ sym from.1
by_reading (spends at) t narrow e same = sym (read_plain t (spends at) tt e)
by_reading (crowds at a b c lits) t narrow e same = sym (read_plain t (crowds at a b c lits) tt e)
by_reading (widens at a b lits) t narrow e same = sym (read_plain t (widens at a b lits) tt e)
by_reading (is_long n) t narrow e same = sym (read_plain t (is_long n) tt e)

pub one_saying : SayOneThing
one_saying line s t a b =
    let same : said_line s ≡ said_line t = sym a.text ∙ b.text in
    by_reading s t a.narrow (sym (lines_guessed t b.narrow) ∙ ap guess (sym same) ∙ lines_guessed s a.narrow) same

-- a line is guessed as what is read of it
guessed : (line : List ℕ) (s g : SaidForm) → g ≡ guess line → IsLineOf line s → g ≡ read_form s
guessed line s g e is = e ∙ ap guess is.text ∙ lines_guessed s is.narrow

read_narrow : (s : SaidForm) → IsNarrowSaid s → IsNarrowSaid (read_form s)
read_narrow (drops at p) narrow = narrow
read_narrow (fails n p) narrow = narrow
read_narrow (spends at) narrow = narrow
read_narrow (crowds at a b c lits) narrow = narrow
read_narrow (widens at a b lits) narrow = narrow
read_narrow (is_long n) narrow = narrow

pub wide_unread : (line : List ℕ) (g : SaidForm) (b : Bool) → g ≡ guess line → (IsNarrowSaid g → b ≡ true) → b ≡ false → (s : SaidForm) → IsLineOf line s → ⊥
wide_unread line g b e told isnt s is =
    let P : SaidForm → Type 0 = IsNarrowSaid in false≢true (sym isnt ∙ told (subst P (sym (guessed line s g e is)) (read_narrow s is.narrow)))

read_written : (line : List ℕ) (s : SaidForm) → line ≡ said_line s → IsWritten line (read_form s)
read_written line (drops at p) e = (p, e)
read_written line (fails n p) e = (p, e)
read_written line (spends at) e = e
read_written line (crowds at a b c lits) e = e
read_written line (widens at a b lits) e = e
read_written line (is_long n) e = e

pub other_unread : (line : List ℕ) (g : SaidForm) (b : Bool) → g ≡ guess line → (IsWritten line g → b ≡ true) → b ≡ false → (s : SaidForm) → IsLineOf line s → ⊥
other_unread line g b e told isnt s is =
    let P : SaidForm → Type 0 = IsWritten line in false≢true (sym isnt ∙ told (subst P (sym (guessed line s g e is)) (read_written line s is.text)))

-- a line that is written as its guess says
drop_same : (at : Place) (p q : PointForm) → drops at p ≡ drops at q → p ≡ q
drop_same at p q e = cc

fail_same : (n : ℕ) (p q : PointForm) → fails n p ≡ fails n q → p ≡ q
fail_same n p q e = cc

pub written_read : (line : List ℕ) (g : SaidForm) → g ≡ guess line → IsNarrowSaid g → IsWritten line g → IsHeldLine line g
written_read line (drops at p) e narrow is =
    let held : IsHeldPoint is.0 p = subst (λ (x : PointForm). IsHeldPoint is.0 x) (drop_same at (read_point is.0) p (sym (e ∙ ap guess is.1 ∙ lines_guessed (drops at is.0) narrow))) (point_held is.0) in
    record { said = drops at is.0; says = record { narrow = narrow; text = is.1 }; kept = a_drop held }
written_read line (fails n p) e narrow is =
    let held : IsHeldPoint is.0 p = subst (λ (x : PointForm). IsHeldPoint is.0 x) (fail_same n (read_point is.0) p (sym (e ∙ ap guess is.1 ∙ lines_guessed (fails n is.0) narrow))) (point_held is.0) in
    record { said = fails n is.0; says = record { narrow = narrow; text = is.1 }; kept = a_fail held }
written_read line (spends at) e narrow is = record { said = spends at; says = record { narrow = narrow; text = is }; kept = itself }
written_read line (crowds at a b c lits) e narrow is = record { said = crowds at a b c lits; says = record { narrow = narrow; text = is }; kept = itself }
written_read line (widens at a b lits) e narrow is = record { said = widens at a b lits; says = record { narrow = narrow; text = is }; kept = itself }
written_read line (is_long n) e narrow is = record { said = is_long n; says = record { narrow = narrow; text = is }; kept = itself }

-- the line with the bytes that stand for its point
pub with_point : (s : SaidForm) (line : List ℕ) → IsPointFor s (point_part s line) → line ≡ line_with s (point_part s line) → IsWritten line s
with_point (drops at p) line is e = (is.0, e ∙ ap (line_with (drops at p)) is.1)
with_point (fails n p) line is e = (is.0, e ∙ ap (line_with (fails n p)) is.1)
with_point (spends at) line is e = e
with_point (crowds at a b c lits) line is e = e
with_point (widens at a b lits) line is e = e
with_point (is_long n) line is e = e

pub point_there : (s : SaidForm) (line : List ℕ) → IsNarrowSaid s → IsWritten line s → IsPointFor s (point_part s line) × (line ≡ line_with s (point_part s line))
point_there (drops at p) line narrow is =
    let part : point_part (drops at p) line ≡ point_text is.0 = ap (point_part (drops at p)) is.1 ∙ drop_part at is.0 p narrow in
    ((is.0, part), is.1 ∙ ap (line_with (drops at p)) (sym part))
point_there (fails n p) line narrow is =
    let part : point_part (fails n p) line ≡ point_text is.0 = ap (point_part (fails n p)) is.1 ∙ fail_part n is.0 p narrow in
    ((is.0, part), is.1 ∙ ap (line_with (fails n p)) (sym part))
point_there (spends at) line narrow is = (tt, is)
point_there (crowds at a b c lits) line narrow is = (tt, is)
point_there (widens at a b lits) line narrow is = (tt, is)
point_there (is_long n) line narrow is = (tt, is)

-- whether a line is written so, by the bytes of its point
pub written_told : (s : SaidForm) (line part shown : List ℕ) (b : Bool) → part ≡ point_part s line → IsPointFor s part → shown ≡ line_with s part → IsNarrowSaid s → IsTrue b ↔ (line ≡ shown) → IsTrue b ↔ IsWritten line s
written_told s line part shown b of is text narrow told =
    let P : List ℕ → Type 0 = IsPointFor s in
    let whole : shown ≡ line_with s (point_part s line) = text ∙ ap (line_with s) of in
    (λ e. with_point s line (subst P of is) (told.0 e ∙ whole), λ written. told.1 ((point_there s line narrow written).1 ∙ sym whole))

-- whether the lists of a line have their form, by its first byte and what comes after its first blank
abbrev Fits : List ℕ → SaidForm → Type 0
Fits line s = IsPointFor s (point_part s line)

choose : (P : SaidForm → Type 0) (b : Bool) (x y : SaidForm) → (b ≡ true → P x) → (b ≡ false → P y) → P (if b then x else y)
choose P true x y f g = f refl
choose P false x y f g = g refl

fits_by : (line bs : List ℕ) (tag : ℕ) → bs ≡ after 32 (front 10 line) → (tag ≡ 100 → IsPointText (after 32 (behind (place_in bs) bs))) → (tag ≡ 102 → IsPointText (after 32 (after 32 (after 32 bs)))) → Fits line (said_by tag bs)
fits_by line bs tag e drop fail =
    let D : List ℕ → Type 0 = λ x. IsPointText (after 32 (behind (place_in bs) x)) in
    let F : List ℕ → Type 0 = λ x. IsPointText (after 32 (after 32 (after 32 x))) in
    let w : SaidForm = if tag == 119 then width_in bs else is_long (number_in bs) in
    let r : SaidForm = if tag == 114 then crowd_in bs else w in
    let s : SaidForm = if tag == 115 then spends (place_in bs) else r in
    let f : SaidForm = if tag == 102 then fail_in bs else s in
    choose (Fits line) (tag == 100) (drop_in bs) f
    (λ is. subst D e (drop ((Decides-eqb tag 100).0 is)))
    (λ _. choose (Fits line) (tag == 102) (fail_in bs) s
    (λ is. subst F e (fail ((Decides-eqb tag 102).0 is)))
    (λ _. choose (Fits line) (tag == 115) (spends (place_in bs)) r (λ _. tt)
    (λ _. choose (Fits line) (tag == 114) (crowd_in bs) w (λ _. tt)
    (λ _. choose (Fits line) (tag == 119) (width_in bs) (is_long (number_in bs)) (λ _. tt) (λ _. tt)))))

pub point_by_tag : (line bytes bs : List ℕ) (tag : ℕ) (b : Bool) → bytes ≡ front 10 line → tag ≡ slice_index_or bytes 0 0 → bs ≡ after 32 bytes →
    (tag ≡ 100 → IsTrue b ↔ IsPointText (after 32 (behind (place_in bs) bs))) → (tag ≡ 102 → IsTrue b ↔ IsPointText (after 32 (after 32 (after 32 bs)))) → IsTrue b → Fits line (guess line)
point_by_tag line bytes bs tag b bytes_are tag_is bs_are drop fail is =
    let P : SaidForm → Type 0 = Fits line in
    let same : said_by tag bs ≡ guess line = ap (λ t. said_by t bs) tag_is ∙ ap (said_by (slice_index_or bytes 0 0)) bs_are ∙ ap said_in bytes_are in
    subst P same (fits_by line bs tag (bs_are ∙ ap (after 32) bytes_are) (λ e. (drop e).0 is) (λ e. (fail e).0 is))

literals_whole : (zs : List ℤ) → All IsNarrow zs → All IsWhole (map signed_decimal zs)
literals_whole [] all = All-nil IsWhole
literals_whole (z ∷ zs) all = All-cons IsWhole (signed_decimal z) (map signed_decimal zs) (z, sym (whole_decimal z (All-head IsNarrow z zs all))) (literals_whole zs (All-tail IsNarrow z zs all))

-- what a line of each kind has there
pub record HasForm (tag : ℕ) (bs : List ℕ) (b : Bool) : Type 0 where
  pub drop : tag ≡ 100 → IsTrue b ↔ IsPointText (after 32 (behind (place_in bs) bs))
  pub fail : tag ≡ 102 → IsTrue b ↔ IsPointText (after 32 (after 32 (after 32 bs)))
  pub rows : tag ≡ 114 → IsTrue b ↔ All IsWhole (words (after 32 (after 32 (behind (place_in bs) bs))))
  pub wide : tag ≡ 119 → IsTrue b ↔ All IsWhole (words (after 32 (behind (place_in bs) bs)))
  pub plain : (tag ≡ 115) ⊎ (tag ≡ 108) → IsTrue b

text_has_form : (s : SaidForm) (b : Bool) → IsNarrowSaid s → HasForm (slice_index_or (said_text s) 0 0) (after 32 (said_text s)) b → IsTrue b
text_has_form (drops at p) b narrow has =
    let rest : List ℕ = 97 ∷ 116 ∷ 32 ∷ point_text p in
    (has.drop refl).1 (p, ap (λ a. after 32 (behind a (place_text at ++ 32 ∷ rest))) (place_back at rest narrow) ∙ ap (after 32) (behind_place at rest narrow))
text_has_form (fails q p) b narrow has =
    let rest : List ℕ = 97 ∷ 116 ∷ 32 ∷ point_text p in
    (has.fail refl).1 (p, ap (after 32) (past_number q rest narrow))
text_has_form (spends at) b narrow has = has.plain (inl refl)
text_has_form (crowds at x y z lits) b narrow has =
    let numbers = narrow.1 in
    let last : List ℕ = decimal z ++ flat_map behind_blank lits in
    let rest : List ℕ = decimal x ++ 32 ∷ (decimal y ++ 32 ∷ last) in
    let P : List (List ℕ) → Type 0 = All IsWhole in
    let third : after 32 (after 32 (behind (place_in (place_text at ++ 32 ∷ rest)) (place_text at ++ 32 ∷ rest))) ≡ last =
    ap (λ a. after 32 (after 32 (behind a (place_text at ++ 32 ∷ rest)))) (place_back at rest narrow.0) ∙ ap (λ bs. after 32 (after 32 bs)) (behind_place at rest narrow.0)
    ∙ ap (after 32) (past_number x (decimal y ++ 32 ∷ last) numbers.0) ∙ past_number y last numbers.1 in
    (has.rows refl).1 (subst P (sym (ap words third ∙ words_behind signed_decimal (decimal z) lits (number_free 32 z (inl (omega arith)) numbers.2) (wholes_free lits narrow.2))) (literals_whole lits narrow.2))
text_has_form (widens at x y lits) b narrow has =
    let numbers = narrow.1 in
    let last : List ℕ = signed_decimal y ++ flat_map behind_blank lits in
    let rest : List ℕ = signed_decimal x ++ 32 ∷ last in
    let P : List (List ℕ) → Type 0 = All IsWhole in
    let second : after 32 (behind (place_in (place_text at ++ 32 ∷ rest)) (place_text at ++ 32 ∷ rest)) ≡ last =
    ap (λ a. after 32 (behind a (place_text at ++ 32 ∷ rest))) (place_back at rest narrow.0) ∙ ap (after 32) (behind_place at rest narrow.0)
    ∙ after_free 32 (signed_decimal x) last (signed_free 32 x (inl (omega arith)) numbers.0) in
    (has.wide refl).1 (subst P (sym (ap words second ∙ words_behind signed_decimal (signed_decimal y) lits (signed_free 32 y (inl (omega arith)) numbers.1) (wholes_free lits narrow.2))) (literals_whole lits narrow.2))
text_has_form (is_long n) b narrow has = has.plain (inr refl)

pub line_has_form : (line bytes bs : List ℕ) (tag : ℕ) (b : Bool) → bytes ≡ front 10 line → tag ≡ slice_index_or bytes 0 0 → bs ≡ after 32 bytes → HasForm tag bs b → (s : SaidForm) → IsLineOf line s → IsTrue b
line_has_form line bytes bs tag b bytes_are tag_is bs_are has s is =
    let text : bytes ≡ said_text s = bytes_are ∙ ap (front 10) is.text ∙ front_free 10 (said_text s) [] (said_plain s is.narrow) in
    let P : ℕ → Type 0 = λ t. HasForm t bs b in
    let Q : List ℕ → Type 0 = λ x. HasForm (slice_index_or (said_text s) 0 0) x b in
    text_has_form s b is.narrow (subst Q (bs_are ∙ ap (after 32) text) (subst P (tag_is ∙ ap (λ l. slice_index_or l 0 0) text) has))

pub formless_unread : (line : List ℕ) (b : Bool) → ((s : SaidForm) → IsLineOf line s → IsTrue b) → b ≡ false → (s : SaidForm) → IsLineOf line s → ⊥
formless_unread line b told isnt s is = false≢true (sym isnt ∙ told s is)
