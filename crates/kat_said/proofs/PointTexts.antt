-- Texts of points, and what is read of them.
use Rattle.std.proofs.Common.{◌≡◌, ℕ, zero, suc, ◌-◌, ◌<◌, ◌≤◌, inl, inr, ⊎_elim, ◌⊎◌, ℤ, pos, negsuc, Bool, true, false, List, [], ◌∷◌, ◌++◌, All, not, drop, take, get_or, length, map, refl, sym, ap, ◌∙◌, subst, arith}
use Rattle.std.specs.Prelude.{nat_eq}
use Rattle.std.specs.List.{flat_map}
use Rattle.std.proofs.lemmas.Bool.Decides.{Decides-eqb}
use Rattle.std.proofs.lemmas.List.{take_all}
use Rattle.std.proofs.lemmas.List.Elements.{All-cons, All-head, All-nil, All-tail}
use Rattle.kat_points.specs.Held.{IsHeldPoint}
use Rattle.kat_points.specs.Points.{PointForm}
use Rattle.kat_said.specs.Guesses.{AreBits, AreBoth, AreWholes, IsBegun, IsBit, IsCut, IsNumeral, IsPointText, IsWhole, after, bit_in, front, point_in, read_point, whole_in, words}
use Rattle.kat_said.specs.Numerals.{numeral, whole_numeral}
use Rattle.kat_said.specs.Sayings.{bit_code, bit_text, numeral_text, point_text}
use Rattle.kat_said.proofs.Numbers.{Digits, bits_back, bits_free}
use Rattle.kat_said.proofs.DigitTexts.{Leads, exact, exact_back, exacts_back, numeral_digit, numeral_digits, numeral_leads, numeral_of_digits, value_of, whole_free, whole_held, wholes_held}
use Rattle.kat_said.proofs.Parts.{EachFree, Free, after_free, cut_free, free_append, front_free, words_all, words_whole}

-- a byte that is no digit, no sign and no blank occurs in no text of whole numbers
pub numerals_plain : (d : ℕ) (zs : List ℤ) → 58 ≤ d → Free d (flat_map numeral_text zs)
numerals_plain d [] out = tt
numerals_plain d (z ∷ zs) out = free_append d (numeral_text z) (flat_map numeral_text zs) (λ e. omega (arith, e, out), whole_free d z (inr out)) (numerals_plain d zs out)

pub numerals_early : (d : ℕ) (zs : List ℤ) → d < 32 → Free d (flat_map numeral_text zs)
numerals_early d [] out = tt
numerals_early d (z ∷ zs) out = free_append d (numeral_text z) (flat_map numeral_text zs) (λ e. omega (arith, e, out), whole_free d z (inl (omega (arith, out)))) (numerals_early d zs out)

numerals_free : (zs : List ℤ) → EachFree whole_numeral zs
numerals_free [] = tt
numerals_free (z ∷ zs) = (whole_free 32 z (inl (omega arith)), numerals_free zs)

-- the parts of a point's text
pub first_part : (p : PointForm) → front 59 (point_text p) ≡ whole_numeral p.den
first_part p = front_free 59 (whole_numeral p.den) (flat_map numeral_text p.nums ++ 59 ∷ flat_map bit_text p.truths) (whole_free 59 p.den (inr (omega arith)))

pub rest_part : (p : PointForm) → after 59 (point_text p) ≡ flat_map numeral_text p.nums ++ 59 ∷ flat_map bit_text p.truths
rest_part p = after_free 59 (whole_numeral p.den) (flat_map numeral_text p.nums ++ 59 ∷ flat_map bit_text p.truths) (whole_free 59 p.den (inr (omega arith)))

pub second_part : (p : PointForm) → front 59 (after 59 (point_text p)) ≡ flat_map numeral_text p.nums
second_part p = ap (front 59) (rest_part p) ∙ front_free 59 (flat_map numeral_text p.nums) (flat_map bit_text p.truths) (numerals_plain 59 p.nums (omega arith))

pub third_part : (p : PointForm) → after 59 (after 59 (point_text p)) ≡ flat_map bit_text p.truths
third_part p = ap (after 59) (rest_part p) ∙ after_free 59 (flat_map numeral_text p.nums) (flat_map bit_text p.truths) (numerals_plain 59 p.nums (omega arith))

-- what a function reads of the numbers
abbrev point_by : (List ℕ → ℤ) → List ℕ → PointForm
point_by f bs = record { den = f (front 59 bs); nums = map f (words (front 59 (after 59 bs))); truths = map bit_in (words (after 59 (after 59 bs))) }

made : (a a' : ℤ) (b c : List ℤ) (d e : List Bool) → a ≡ a' → b ≡ c → d ≡ e → ◌≡◌ {A = PointForm} (record { den = a; nums = b; truths = d }) (record { den = a'; nums = c; truths = e })
made a a' b c d e h f g = ap (λ (z : ℤ). record { den = z; nums = b; truths = d }) h ∙ ap (λ (x : List ℤ). record { den = a'; nums = x; truths = d }) f ∙ ap (λ (y : List Bool). record { den = a'; nums = c; truths = y }) g

map_map : (f : List ℕ → ℤ) (zs : List ℤ) → map f (map whole_numeral zs) ≡ map (λ z. f (whole_numeral z)) zs
map_map f [] = refl
map_map f (z ∷ zs) = ap (λ ys. f (whole_numeral z) ∷ ys) (map_map f zs)

by_back : (f : List ℕ → ℤ) (p : PointForm) → point_by f (point_text p) ≡ record { den = f (whole_numeral p.den); nums = map (λ z. f (whole_numeral z)) p.nums; truths = p.truths }
by_back f p =
    made (f (front 59 (point_text p))) (f (whole_numeral p.den)) (map f (words (front 59 (after 59 (point_text p))))) (map (λ z. f (whole_numeral z)) p.nums) (map bit_in (words (after 59 (after 59 (point_text p))))) p.truths
    (ap f (first_part p))
    (ap (λ bs. map f (words bs)) (second_part p) ∙ ap (map f) (words_all whole_numeral p.nums (numerals_free p.nums)) ∙ map_map f p.nums)
    (ap (λ bs. map bit_in (words bs)) (third_part p) ∙ ap (map bit_in) (words_all bit_code p.truths (bits_free p.truths)) ∙ bits_back p.truths)

pub point_back : (p : PointForm) → point_in (point_text p) ≡ read_point p
point_back p = by_back whole_in p

pub point_held : (p : PointForm) → IsHeldPoint p (read_point p)
point_held p = record { den = whole_held p.den; nums = wholes_held p.nums; truths = refl }

-- a text is that of one point
exact_point : (p : PointForm) → point_by exact (point_text p) ≡ p
exact_point p = by_back exact p ∙ made (exact (whole_numeral p.den)) p.den (map (λ z. exact (whole_numeral z)) p.nums) p.nums p.truths p.truths (exact_back p.den) (exacts_back p.nums) refl

pub one_point : (p q : PointForm) → point_text p ≡ point_text q → p ≡ q
one_point p q e = sym (exact_point p) ∙ ap (point_by exact) e ∙ exact_point q

-- whole numbers after blanks
wholes_of : (ws : List (List ℕ)) → All IsWhole ws → (zs : List ℤ) × (flat_map (λ w. 32 ∷ w) ws ≡ flat_map numeral_text zs)
wholes_of [] all = ([], refl)
wholes_of (w ∷ ws) all =
    let first = All-head IsWhole w ws all in
    let rest = wholes_of ws (All-tail IsWhole w ws all) in
    (first.0 ∷ rest.0, ap (λ x. (32 ∷ x) ++ flat_map (λ y. 32 ∷ y) ws) first.1 ∙ ap (λ xs. numeral_text first.0 ++ xs) rest.1)

all_wholes : (zs : List ℤ) → All IsWhole (map whole_numeral zs)
all_wholes [] = All-nil IsWhole
all_wholes (z ∷ zs) = All-cons IsWhole (whole_numeral z) (map whole_numeral zs) (z, refl) (all_wholes zs)

wholes_begin : (zs : List ℤ) → IsBegun (flat_map numeral_text zs)
wholes_begin [] = tt
wholes_begin (z ∷ zs) = refl

pub wholes_told : (bs : List ℕ) → IsBegun bs → All IsWhole (words bs) → AreWholes bs
wholes_told bs begun all = let found = wholes_of (words bs) all in (found.0, words_whole bs begun ∙ found.1)

pub wholes_are : (bs : List ℕ) → AreWholes bs → IsBegun bs × All IsWhole (words bs)
wholes_are bs is =
    let P : List ℕ → Type 0 = IsBegun in
    let Q : List (List ℕ) → Type 0 = All IsWhole in
    (subst P (sym is.1) (wholes_begin is.0), subst Q (sym (ap words is.1 ∙ words_all whole_numeral is.0 (numerals_free is.0))) (all_wholes is.0))

-- truth values after blanks
bits_of : (ws : List (List ℕ)) → All IsBit ws → (bs : List Bool) × (flat_map (λ w. 32 ∷ w) ws ≡ flat_map bit_text bs)
bits_of [] all = ([], refl)
bits_of (w ∷ ws) all =
    let first = All-head IsBit w ws all in
    let rest = bits_of ws (All-tail IsBit w ws all) in
    (first.0 ∷ rest.0, ap (λ x. (32 ∷ x) ++ flat_map (λ y. 32 ∷ y) ws) first.1 ∙ ap (λ xs. bit_text first.0 ++ xs) rest.1)

all_bits : (bs : List Bool) → All IsBit (map bit_code bs)
all_bits [] = All-nil IsBit
all_bits (b ∷ bs) = All-cons IsBit (bit_code b) (map bit_code bs) (b, refl) (all_bits bs)

bits_begin : (bs : List Bool) → IsBegun (flat_map bit_text bs)
bits_begin [] = tt
bits_begin (b ∷ bs) = refl

pub bits_told : (bs : List ℕ) → IsBegun bs → All IsBit (words bs) → AreBits bs
bits_told bs begun all = let found = bits_of (words bs) all in (found.0, words_whole bs begun ∙ found.1)

pub bits_are : (bs : List ℕ) → AreBits bs → IsBegun bs × All IsBit (words bs)
bits_are bs is =
    let P : List ℕ → Type 0 = IsBegun in
    let Q : List (List ℕ) → Type 0 = All IsBit in
    (subst P (sym is.1) (bits_begin is.0), subst Q (sym (ap words is.1 ∙ words_all bit_code is.0 (bits_free is.0))) (all_bits is.0))

-- one word more
pub word_more : (P : List ℕ → Type 0) (ws rest : List (List ℕ)) (w : List ℕ) → ws ≡ w ∷ rest → P w → (All P rest → All P ws) × (All P ws → All P rest)
word_more P ws rest w e holds =
    let Q : List (List ℕ) → Type 0 = All P in
    (λ all. subst Q (sym e) (All-cons P w rest holds all), λ all. All-tail P w rest (subst Q e all))

pub word_first : (P : List ℕ → Type 0) (ws rest : List (List ℕ)) (w : List ℕ) → ws ≡ w ∷ rest → All P ws → P w
word_first P ws rest w e all = let Q : List (List ℕ) → Type 0 = All P in All-head P w rest (subst Q e all)

pub no_words : (P : List ℕ → Type 0) (ws : List (List ℕ)) → ws ≡ [] → All P ws
no_words P ws e = let Q : List (List ℕ) → Type 0 = All P in subst Q (sym e) (All-nil P)

-- numerators and truth values
pub both_told : (bs : List ℕ) → IsCut 59 bs → AreWholes (front 59 bs) → AreBits (after 59 bs) → AreBoth bs
both_told bs cut nums truths = (nums.0, truths.0, cut ∙ ap (λ x. x ++ 59 ∷ after 59 bs) nums.1 ∙ ap (λ x. flat_map numeral_text nums.0 ++ 59 ∷ x) truths.1)

abbrev pub HasBoth : List ℕ → Type 0
HasBoth bs = IsCut 59 bs × AreWholes (front 59 bs) × AreBits (after 59 bs)

both_of : (nums : List ℤ) (truths : List Bool) → HasBoth (flat_map numeral_text nums ++ 59 ∷ flat_map bit_text truths)
both_of nums truths =
    let plain = numerals_plain 59 nums (omega arith) in (
      cut_free 59 (flat_map numeral_text nums) (flat_map bit_text truths) plain,
      (nums, front_free 59 (flat_map numeral_text nums) (flat_map bit_text truths) plain),
      (truths, after_free 59 (flat_map numeral_text nums) (flat_map bit_text truths) plain),
    )

pub both_parts : (bs : List ℕ) → AreBoth bs → HasBoth bs
both_parts bs is = let P : List ℕ → Type 0 = HasBoth in subst P (sym is.2) (both_of is.0 is.1)

-- points
pub point_told : (bs : List ℕ) → IsCut 59 bs → IsWhole (front 59 bs) → AreBoth (after 59 bs) → IsPointText bs
point_told bs cut den both = (
  record { den = den.0; nums = both.0; truths = both.1 },
  cut ∙ ap (λ x. x ++ 59 ∷ after 59 bs) den.1 ∙ ap (λ x. whole_numeral den.0 ++ 59 ∷ x) both.2,
)

abbrev pub HasParts : List ℕ → Type 0
HasParts bs = IsCut 59 bs × IsWhole (front 59 bs) × AreBoth (after 59 bs)

parts_of : (p : PointForm) → HasParts (point_text p)
parts_of p = (
  cut_free 59 (whole_numeral p.den) (flat_map numeral_text p.nums ++ 59 ∷ flat_map bit_text p.truths) (whole_free 59 p.den (inr (omega arith))),
  (p.den, first_part p),
  (p.nums, p.truths, rest_part p),
)

pub point_parts : (bs : List ℕ) → IsPointText bs → HasParts bs
point_parts bs is = let P : List ℕ → Type 0 = HasParts in subst P (sym is.1) (parts_of is.0)

-- digits
pub digits_all : (ds : List ℕ) → All (λ c. (48 ≤ c) × (c < 58)) ds → Digits ds
digits_all [] all = tt
digits_all (c ∷ cs) all = (All-head (λ c. (48 ≤ c) × (c < 58)) c cs all, digits_all cs (All-tail (λ c. (48 ≤ c) × (c < 58)) c cs all))

all_digits : (ds : List ℕ) → Digits ds → All (λ c. (48 ≤ c) × (c < 58)) ds
all_digits [] all = All-nil (λ c. (48 ≤ c) × (c < 58))
all_digits (c ∷ cs) all = All-cons (λ c. (48 ≤ c) × (c < 58)) c cs all.0 (all_digits cs all.1)

pub zero_numeral : (bs : List ℕ) → bs ≡ 48 ∷ [] → IsNumeral bs
zero_numeral bs e = (0, e ∙ sym (numeral_digit 0 (omega arith)))

pub digits_numeral : (bs : List ℕ) → 1 ≤ length bs → (get_or bs 0 0 ≡ 48 → ⊥) → All (λ c. (48 ≤ c) × (c < 58)) bs → IsNumeral bs
digits_numeral [] some apart all = absurd (omega (arith, some))
digits_numeral (c ∷ cs) some apart all =
    let digits = digits_all (c ∷ cs) all in
    (value_of (c ∷ cs), numeral_of_digits c cs (larger c digits.0.0 apart) digits)
  where
    larger : (c : ℕ) → 48 ≤ c → (c ≡ 48 → ⊥) → 48 < c
    larger c low apart = grind (arith, low, apart)

-- a numeral is 0 alone, or begins with another digit
abbrev pub IsPlainNumeral : List ℕ → Type 0
IsPlainNumeral bs = (bs ≡ 48 ∷ []) ⊎ (Leads bs × All (λ c. (48 ≤ c) × (c < 58)) bs)

zero_or_more : (n : ℕ) → (n ≡ 0) ⊎ (0 < n)
zero_or_more n = grind arith

pub numeral_plain : (bs : List ℕ) → IsNumeral bs → IsPlainNumeral bs
numeral_plain bs is =
    let P : List ℕ → Type 0 = IsPlainNumeral in
    subst P (sym is.1) (⊎_elim
    (λ (e : is.0 ≡ 0). inl (ap numeral e ∙ numeral_digit 0 (omega arith)))
    (λ (some : 0 < is.0). inr (numeral_leads is.0 some, all_digits (numeral is.0) (numeral_digits is.0)))
    (zero_or_more is.0))

-- what is tested of digits
pub numeral_else : (bs : List ℕ) → IsNumeral bs → (bs ≡ 48 ∷ [] → ⊥) → Leads bs × All (λ c. (48 ≤ c) × (c < 58)) bs
numeral_else bs is isnt = ⊎_elim (λ (e : bs ≡ 48 ∷ []). absurd (isnt e)) (λ (h : Leads bs × All (λ c. (48 ≤ c) × (c < 58)) bs). h) (numeral_plain bs is)

pub leads_apart : (bs : List ℕ) → Leads bs → get_or bs 0 0 ≡ 48 → ⊥
leads_apart [] h e = h
leads_apart (c ∷ cs) h e = omega (arith, h, e)

nil_or_one : (bs : List ℕ) → length bs < 1 → bs ≡ 48 ∷ [] → ⊥
nil_or_one [] small e = absurd (cc)
nil_or_one (c ∷ cs) small e = omega (arith, small)

leads_some : (bs : List ℕ) → length bs < 1 → Leads bs → ⊥
leads_some [] small h = h
leads_some (c ∷ cs) small h = omega (arith, small)

pub no_numeral : (bs : List ℕ) → length bs < 1 → IsNumeral bs → ⊥
no_numeral bs small is = leads_some bs small (numeral_else bs is (nil_or_one bs small)).0

signed_digits : (bs : List ℕ) → Digits bs → get_or bs 0 0 ≡ 45 → ⊥
signed_digits [] all e = absurd (cc)
signed_digits (c ∷ cs) all e = let low = all.0.0 in omega (arith, low, e)

above_only : (bs : List ℕ) (z : ℤ) → bs ≡ whole_numeral z → (get_or bs 0 0 ≡ 45 → ⊥) → IsNumeral bs
above_only bs (pos n) e apart = (n, e)
above_only bs (negsuc n) e apart = absurd (apart (ap (λ xs. get_or xs 0 0) e))

pub whole_above : (bs : List ℕ) → (get_or bs 0 0 ≡ 45 → ⊥) → IsWhole bs → IsNumeral bs
whole_above bs apart is = above_only bs is.0 is.1 apart

pub above_whole : (bs : List ℕ) → IsNumeral bs → IsWhole bs
above_whole bs is = (pos is.0, is.1)

nil_apart : (bs : List ℕ) → length bs < 1 → get_or bs 0 0 ≡ 45 → ⊥
nil_apart [] small e = absurd (cc)
nil_apart (c ∷ cs) small e = omega (arith, small)

pub no_whole : (bs : List ℕ) → length bs < 1 → IsWhole bs → ⊥
no_whole bs small is = no_numeral bs small (whole_above bs (nil_apart bs small) is)

by_digits : (n : ℕ) (rest : List ℕ) → rest ≡ numeral n → (rest ≡ 48 ∷ [] → ⊥) → IsWhole (45 ∷ rest)
by_digits zero rest e isnt = absurd (isnt (e ∙ numeral_digit 0 (omega arith)))
by_digits (suc n) rest e isnt = (negsuc n, ap (λ ds. 45 ∷ ds) e)

-- what comes after the first byte
abbrev pub behind_first : List ℕ → List ℕ
behind_first bs = take (length bs - 1) (drop 1 bs)

behind_is : (b : ℕ) (bs : List ℕ) → behind_first (b ∷ bs) ≡ bs
behind_is b bs = let enough : length bs ≤ length (b ∷ bs) - 1 = omega arith in take_all (length (b ∷ bs) - 1) bs enough

pub below_whole : (bs : List ℕ) → 1 ≤ length bs → get_or bs 0 0 ≡ 45 → IsNumeral (behind_first bs) → (behind_first bs ≡ 48 ∷ [] → ⊥) → IsWhole bs
below_whole [] some sign is isnt = absurd (omega (arith, some))
below_whole (b ∷ bs) some sign is isnt =
    let P : ℕ → Type 0 = λ x. IsWhole (x ∷ bs) in
    subst P (sym sign) (by_digits is.0 bs (sym (behind_is b bs) ∙ is.1) (λ e. isnt (behind_is b bs ∙ e)))

below_only : (bs : List ℕ) (z : ℤ) → bs ≡ whole_numeral z → get_or bs 0 0 ≡ 45 → (n : ℕ) × (behind_first bs ≡ numeral (suc n))
below_only bs (pos n) e sign = absurd (signed_digits (numeral n) (numeral_digits n) (ap (λ xs. get_or xs 0 0) (sym e) ∙ sign))
below_only bs (negsuc n) e sign = (n, ap behind_first e ∙ behind_is 45 (numeral (suc n)))

pub whole_below : (bs : List ℕ) → get_or bs 0 0 ≡ 45 → IsWhole bs → IsNumeral (behind_first bs) × (behind_first bs ≡ 48 ∷ [] → ⊥)
whole_below bs sign is =
    let from = below_only bs is.0 is.1 sign in
    let P : List ℕ → Type 0 = Leads in
    let same : behind_first bs ≡ numeral (suc from.0) = from.1 in
    ((suc from.0, same), λ e. let leads = subst P (sym same ∙ e) (numeral_leads (suc from.0) (omega arith)) in omega (arith, leads))

-- truth values
pub not_true : (b : Bool) → (b ≡ true → ⊥) → not b ≡ true
not_true true h = absurd (h refl)
not_true false h = refl

pub true_not : (b : Bool) → not b ≡ true → b ≡ true → ⊥
true_not true e f = cc
true_not false e f = cc

pub same_not : (c : ℕ) → c ≡ 48 → not (nat_eq c 48) ≡ true → ⊥
same_not c is e = let same : nat_eq c 48 ≡ true = (Decides-eqb c 48).1 is in true_not (nat_eq c 48) e same
