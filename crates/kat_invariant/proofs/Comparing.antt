-- Lists of values are compared pair by pair, as lists of symbolic values are.
use Rattle.std.proofs.Common.{◌≡◌, ℕ, ℤ, pos, int_lt, Bool, true, false, not, ◌&&◌, ◌||◌, List, [], ◌∷◌, refl, ◌∙◌, arith}
use Rattle.std.proofs.lemmas.Int.{ints}
use Rattle.std.specs.Cmp.Lexicographic.{slice_cmp}
use Rattle.std.specs.declared.cmp.Ordering.{Ordering}
use Rattle.std.specs.declared.cmp.Ordering.TheVariants.{Less, Equal, Greater}
use Rattle.std.specs.Ordering.{int_cmp, nat_cmp, bool_cmp, ordering_then, is_lt, is_eq}
use Rattle.kat_num.specs.declared.values.Value.{Value}
use Rattle.kat_num.specs.declared.values.Value.TheVariants.{Bool as Truth, Num, Name as Word}
use Rattle.kat_symbols.specs.Readers.{Symbol}
use Rattle.kat_symbols.specs.Readers.Symbol.{number, truth}
use Rattle.kat_symbols.specs.Symbols.{symbol_lt, symbol_same, symbols_lt}
use Rattle.kat_invariant.proofs.Saying.{int_same}
use Rattle.kat_invariant.proofs.Logic.{World, HasTruth, Means}
use Rattle.kat_invariant.proofs.Having.{lt_has, same_has, and_has, or_has, not_has, known_has}

-- the order of two values of one kind: of numbers, of names by their codes, false below true
abbrev pub value_lt : Value → Value → Bool
value_lt (Truth b) (Truth c) = not b && c
value_lt (Truth b) (Num y) = false
value_lt (Truth b) (Word y) = false
value_lt (Num x) (Truth c) = false
value_lt (Num x) (Num y) = int_lt x y
value_lt (Num x) (Word y) = int_lt x (pos y)
value_lt (Word x) (Truth c) = false
value_lt (Word x) (Num y) = int_lt (pos x) y
value_lt (Word x) (Word y) = int_lt (pos x) (pos y)

abbrev pub value_same : Value → Value → Bool
value_same (Truth b) (Truth c) = (not b || c) && (b || not c)
value_same (Truth b) (Num y) = false
value_same (Truth b) (Word y) = false
value_same (Num x) (Truth c) = false
value_same (Num x) (Num y) = int_same x y
value_same (Num x) (Word y) = int_same x (pos y)
value_same (Word x) (Truth c) = false
value_same (Word x) (Num y) = int_same (pos x) y
value_same (Word x) (Word y) = int_same (pos x) (pos y)

abbrev pub values_lt : List (Value × Value) → Bool
values_lt [] = false
values_lt (p ∷ ps) = value_lt p.0 p.1 || (value_same p.0 p.1 && values_lt ps)

pub before_has : (w : World) (a b : Symbol) (u v : Value) → Means a u w → Means b v w → HasTruth (symbol_lt a b) (value_lt u v) w
before_has w (number a) (number b) (Num x) (Num y) h k = lt_has w a b x y h.is k.is
before_has w (number a) (number b) (Num x) (Word y) h k = lt_has w a b x (pos y) h.is k.is
before_has w (number a) (number b) (Word x) (Num y) h k = lt_has w a b (pos x) y h.is k.is
before_has w (number a) (number b) (Word x) (Word y) h k = lt_has w a b (pos x) (pos y) h.is k.is
before_has w (truth f) (truth g) (Truth b) (Truth c) h k = and_has w _ _ _ _ (not_has w f b h.is) k.is
before_has w (number a) (truth g) (Num x) (Truth c) h k = known_has w false
before_has w (number a) (truth g) (Word x) (Truth c) h k = known_has w false
before_has w (truth f) (number b) (Truth c) (Num y) h k = known_has w false
before_has w (truth f) (number b) (Truth c) (Word y) h k = known_has w false
before_has w (number a) b (Truth c) v h k = absurd h.is
before_has w (truth f) b (Num x) v h k = absurd h.is
before_has w (truth f) b (Word x) v h k = absurd h.is
before_has w a (number b) u (Truth c) h k = absurd k.is
before_has w a (truth g) u (Num y) h k = absurd k.is
before_has w a (truth g) u (Word y) h k = absurd k.is

pub equal_has : (w : World) (a b : Symbol) (u v : Value) → Means a u w → Means b v w → HasTruth (symbol_same a b) (value_same u v) w
equal_has w (number a) (number b) (Num x) (Num y) h k = same_has w a b x y h.is k.is
equal_has w (number a) (number b) (Num x) (Word y) h k = same_has w a b x (pos y) h.is k.is
equal_has w (number a) (number b) (Word x) (Num y) h k = same_has w a b (pos x) y h.is k.is
equal_has w (number a) (number b) (Word x) (Word y) h k = same_has w a b (pos x) (pos y) h.is k.is
equal_has w (truth f) (truth g) (Truth b) (Truth c) h k = and_has w _ _ _ _ (or_has w _ _ _ _ (not_has w f b h.is) k.is) (or_has w _ _ _ _ h.is (not_has w g c k.is))
equal_has w (number a) (truth g) (Num x) (Truth c) h k = known_has w false
equal_has w (number a) (truth g) (Word x) (Truth c) h k = known_has w false
equal_has w (truth f) (number b) (Truth c) (Num y) h k = known_has w false
equal_has w (truth f) (number b) (Truth c) (Word y) h k = known_has w false
equal_has w (number a) b (Truth c) v h k = absurd h.is
equal_has w (truth f) b (Num x) v h k = absurd h.is
equal_has w (truth f) b (Word x) v h k = absurd h.is
equal_has w a (number b) u (Truth c) h k = absurd k.is
equal_has w a (truth g) u (Num y) h k = absurd k.is
equal_has w a (truth g) u (Word y) h k = absurd k.is

abbrev pub MeanAll : List (Symbol × Symbol) → List (Value × Value) → World → Type 0
MeanAll [] [] w = Unit {0}
MeanAll (p ∷ ps) (q ∷ qs) w = Means p.0 q.0 w × Means p.1 q.1 w × MeanAll ps qs w
MeanAll [] (q ∷ qs) w = ⊥
MeanAll (p ∷ ps) [] w = ⊥

pub less_has : (w : World) (ps : List (Symbol × Symbol)) (qs : List (Value × Value)) → MeanAll ps qs w → HasTruth (symbols_lt ps) (values_lt qs) w
less_has w [] [] h = known_has w false
less_has w (p ∷ ps) (q ∷ qs) h = or_has w _ _ _ _ (before_has w p.0 p.1 q.0 q.1 h.0 h.1) (and_has w _ _ _ _ (equal_has w p.0 p.1 q.0 q.1 h.0 h.1) (less_has w ps qs h.2))
less_has w [] (q ∷ qs) h = absurd h
less_has w (p ∷ ps) [] h = absurd h

-- two lists, place by place
abbrev pub paired : {X : Type 0} → List X → List X → List (X × X)
paired [] ys = []
paired (x ∷ xs) [] = []
paired (x ∷ xs) (y ∷ ys) = (x, y) ∷ paired xs ys

-- an order answers as the values are compared
pub record Orders (cmp : Value → Value → Ordering) (u v : Value) : Type 0 where
  pub less : is_lt (cmp u v) ≡ value_lt u v
  pub equal : is_eq (cmp u v) ≡ value_same u v

-- two lists of one length, each two elements so compared
abbrev pub OrdersAll : (Value → Value → Ordering) → List Value → List Value → Type 0
OrdersAll cmp [] [] = Unit {0}
OrdersAll cmp (u ∷ us) (v ∷ vs) = Orders cmp u v × OrdersAll cmp us vs
OrdersAll cmp [] (v ∷ vs) = ⊥
OrdersAll cmp (u ∷ us) [] = ⊥

then_less : (o u : Ordering) → is_lt (ordering_then o u) ≡ (is_lt o || (is_eq o && is_lt u))
then_less Less u = refl
then_less Equal u = refl
then_less Greater u = refl

pub slices_less : (cmp : Value → Value → Ordering) (us vs : List Value) → OrdersAll cmp us vs → is_lt (slice_cmp cmp us vs) ≡ values_lt (paired us vs)
slices_less cmp [] [] h = refl
slices_less cmp (u ∷ us) (v ∷ vs) h = then_less (cmp u v) (slice_cmp cmp us vs) ∙ rw (h.0.less, h.0.equal, slices_less cmp us vs h.1) refl
slices_less cmp [] (v ∷ vs) h = absurd h
slices_less cmp (u ∷ us) [] h = absurd h

pub int_less : (x y : ℤ) → is_lt (int_cmp x y) ≡ int_lt x y
int_less x y = grind (arith, ints)

pub int_equals : (x y : ℤ) → is_eq (int_cmp x y) ≡ int_same x y
int_equals x y = grind (arith, ints)

pub nat_less : (x y : ℕ) → is_lt (nat_cmp x y) ≡ int_lt (pos x) (pos y)
nat_less x y = grind (arith, ints)

pub nat_equals : (x y : ℕ) → is_eq (nat_cmp x y) ≡ int_same (pos x) (pos y)
nat_equals x y = grind (arith, ints)

pub truth_less : (b c : Bool) → is_lt (bool_cmp b c) ≡ (not b && c)
truth_less true true = refl
truth_less true false = refl
truth_less false true = refl
truth_less false false = refl

pub truth_equals : (b c : Bool) → is_eq (bool_cmp b c) ≡ ((not b || c) && (b || not c))
truth_equals true true = refl
truth_equals true false = refl
truth_equals false true = refl
truth_equals false false = refl
