-- Symbolic values in step: variables, choices between values, and truth values as numbers.
use Rattle.std.proofs.Common.{◌≡◌, pos, Bool, true, false, refl, sym}
use Rattle.kat_linear.specs.Rows.{Form}
use Rattle.kat_form.specs.Facts.{Fact}
use Rattle.kat_form.specs.Readings.{folded_value}
use Rattle.kat_symbols.specs.Readers.{Reader, Symbol, choose}
use Rattle.kat_symbols.specs.Readers.Symbol.{number, truth}
use Rattle.kat_symbols.specs.Sums.{numeral}
use Rattle.kat_symbols.specs.Symbols.{as_number, read_variable, symbol_if}
use Rattle.kat_symbols.specs.declared.names.Name.{Name}
use Rattle.kat_opening.proofs.Forms.{World, AlikeForm, beyond_self, numeral_alike}
use Rattle.kat_opening.proofs.Facts.{SameFact, AlikeSymbol, truth_if_same}
use Rattle.kat_opening.proofs.Facts.SameFact.{both_known}
use Rattle.kat_opening.proofs.Facts.AlikeSymbol.{both_numbers, both_truths}
use Rattle.kat_opening.proofs.Lockstep.{Grows, Goes, Branches, goes_as, goes_two, goes_name, goes_flag, goes_choose, choose_grows, grows_then, grows_self}

pub and_then : {whole : Reader} {quiet : Bool} {a b c d e f : Reader} {P Q R : World → Type 0} → Goes whole quiet a b c d P → Goes whole quiet c d e f Q → ((w : World) → P w → Q w → R w) → Goes whole quiet a b e f R
and_then {whole} {quiet} {a} {b} {c} {d} {e} {f} {P} {Q} {R} first second h = goes_two whole quiet a b c d e f P Q R first second h

pub with_both : {whole : Reader} {quiet : Bool} {a b c d e f : Reader} {P Q : World → Type 0} → Goes whole quiet a b c d P → Goes whole quiet c d e f Q → Goes whole quiet a b e f (λ w. P w × Q w)
with_both {whole} {quiet} {a} {b} {c} {d} {e} {f} {P} {Q} first second = goes_two whole quiet a b c d e f P Q (λ w. P w × Q w) first second (λ w p q. (p, q))

pub passing : {whole : Reader} {quiet : Bool} {a b c d e f : Reader} {P Q : World → Type 0} → Goes whole quiet a b c d P → Goes whole quiet c d e f Q → Goes whole quiet a b e f (λ w. Unit {0})
passing {whole} {quiet} {a} {b} {c} {d} {e} {f} {P} {Q} first second = goes_two whole quiet a b c d e f P Q (λ w. Unit {0}) first second (λ w p q. tt)

pub gives : {whole : Reader} {quiet : Bool} {a b c d : Reader} {P Q : World → Type 0} → Goes whole quiet a b c d P → ((w : World) → P w → Q w) → Goes whole quiet a b c d Q
gives {whole} {quiet} {a} {b} {c} {d} {P} {Q} first h = goes_as whole quiet a b c d P Q first h

pub chooses : {whole : Reader} {quiet : Bool} {a b e f : Reader} {c d : Fact} {x y u v : Form} {P : World → Type 0} → Goes whole quiet a b e f (Branches c d x y u v P)
    → Goes whole quiet a b (choose c x u e).1 (choose d y v f).1 (λ w. AlikeForm w (choose c x u e).0 (choose d y v f).0 × P w)
chooses {whole} {quiet} {a} {b} {e} {f} {c} {d} {x} {y} {u} {v} {P} first = goes_choose whole quiet a b e f c d x y u v P first

-- a reading that gives the same from any two readers
abbrev pub TwinForm : Reader → Bool → (Reader → Form × Reader) → Type 0
TwinForm whole quiet read = (a b : Reader) → Goes whole quiet a b (read a).1 (read b).1 (λ w. AlikeForm w (read a).0 (read b).0)

abbrev pub TwinFact : Reader → Bool → (Reader → Fact × Reader) → Type 0
TwinFact whole quiet read = (a b : Reader) → Goes whole quiet a b (read a).1 (read b).1 (λ w. SameFact w (read a).0 (read b).0)

abbrev pub TwinSymbol : Reader → Bool → (Reader → Symbol × Reader) → Type 0
TwinSymbol whole quiet read = (a b : Reader) → Goes whole quiet a b (read a).1 (read b).1 (λ w. AlikeSymbol w (read a).0 (read b).0)

pub variable_twin : (whole : Reader) (quiet : Bool) (is_truth : Bool) (n : Name) → TwinSymbol whole quiet (read_variable is_truth n)
variable_twin whole quiet true n a b = gives (goes_flag whole quiet n a b) (λ w h. both_truths _ _ h)
variable_twin whole quiet false n a b = gives (goes_name whole quiet n a b) (λ w h. both_numbers _ _ h)

-- kinds that differ
clash : (w : World) (s t : Symbol) (x : Form) (g : Fact) → s ≡ number x → t ≡ truth g → AlikeSymbol w s t → ⊥
clash w _ _ x g e d (both_numbers f k h) = absurd (cc)
clash w _ _ x g e d (both_truths f k h) = absurd (cc)

clash_back : (w : World) (s t : Symbol) (x : Form) (g : Fact) → s ≡ truth g → t ≡ number x → AlikeSymbol w s t → ⊥
clash_back w _ _ x g e d (both_numbers f k h) = absurd (cc)
clash_back w _ _ x g e d (both_truths f k h) = absurd (cc)

numbers_of : (w : World) (s t : Symbol) (x y : Form) → s ≡ number x → t ≡ number y → AlikeSymbol w s t → AlikeForm w x y
numbers_of w _ _ x y e d (both_numbers f k h) = let p : f ≡ x = cc in let q : k ≡ y = cc in rw (sym p, sym q) h
numbers_of w _ _ x y e d (both_truths f k h) = absurd (cc)

truths_of : (w : World) (s t : Symbol) (x y : Fact) → s ≡ truth x → t ≡ truth y → AlikeSymbol w s t → SameFact w x y
truths_of w _ _ x y e d (both_numbers f k h) = absurd (cc)
truths_of w _ _ x y e d (both_truths f k h) = let p : f ≡ x = cc in let q : k ≡ y = cc in rw (sym p, sym q) h

-- what never happens
never : {whole : Reader} {quiet : Bool} {a b e f : Reader} {P : World → Type 0} (c d : Reader) (Q : World → Type 0) → Goes whole quiet a b e f P → ((q : Bool) → Grows q f d) → ((w : World) → P w → ⊥) → Goes whole quiet a b c d Q
never {whole} {quiet} {a} {b} {e} {f} {P} c d Q first more not_so = record {
  grows = grows_then quiet b f d first.grows (more quiet);
  goes = λ part w twins.
      let went = first.goes (grows_then false f d whole (more false) part) w twins in
      absurd (not_so went.later (went.gives went.later (beyond_self went.later)));
}

pub record SymbolBranches (c d : Fact) (s t p q : Symbol) (P : World → Type 0) (w : World) : Type 0 where
  pub test : SameFact w c d
  pub left : AlikeSymbol w s t
  pub right : AlikeSymbol w p q
  pub besides : P w

if_grows : (d : Fact) (t q : Symbol) (f : Reader) (quiet : Bool) → Grows quiet f (symbol_if d t q f).1
if_grows d (number y) (number v) f quiet = choose_grows quiet f f d y v (folded_value d) (grows_self quiet f)
if_grows d (number y) (truth v) f quiet = grows_self quiet f
if_grows d (truth y) (number v) f quiet = grows_self quiet f
if_grows d (truth y) (truth v) f quiet = grows_self quiet f

-- if the first, then the second, else the third, and what holds besides
module _ (whole : Reader) (quiet : Bool) (a b e f : Reader) (c d : Fact) (P : World → Type 0) where
  abbrev Chosen : Symbol → Symbol → Symbol → Symbol → Type 0
  Chosen s t p q = Goes whole quiet a b e f (SymbolBranches c d s t p q P) → Goes whole quiet a b (symbol_if c s p e).1 (symbol_if d t q f).1 (λ w. AlikeSymbol w (symbol_if c s p e).0 (symbol_if d t q f).0 × P w)

  pub goes_if : (s t p q : Symbol) → Chosen s t p q
  goes_if (number x) (number y) (number u) (number v) first =
      gives (chooses {c = c} {d = d} {x = x} {y = y} {u = u} {v = v} {P = P}
      (gives first (λ w h. record { test = h.test; left = numbers_of w _ _ x y refl refl h.left; right = numbers_of w _ _ u v refl refl h.right; besides = h.besides })))
      (λ w h. (both_numbers _ _ h.0, h.1))
  goes_if (truth x) (truth y) (truth u) (truth v) first =
      gives first (λ w h. (both_truths _ _ (truth_if_same w c d x y u v h.test (truths_of w _ _ x y refl refl h.left) (truths_of w _ _ u v refl refl h.right)), h.besides))
  goes_if (number x) (number y) (truth u) (truth v) first = gives first (λ w h. (both_truths _ _ (both_known false), h.besides))
  goes_if (truth x) (truth y) (number u) (number v) first = gives first (λ w h. (both_truths _ _ (both_known false), h.besides))
  goes_if (number x) (number y) (number u) (truth v) first = never _ _ _ first (if_grows d (number y) (truth v) f) (λ w h. clash w _ _ u v refl refl h.right)
  goes_if (number x) (number y) (truth u) (number v) first = never _ _ _ first (if_grows d (number y) (number v) f) (λ w h. clash_back w _ _ v u refl refl h.right)
  goes_if (truth x) (truth y) (number u) (truth v) first = never _ _ _ first (if_grows d (truth y) (truth v) f) (λ w h. clash w _ _ u v refl refl h.right)
  goes_if (truth x) (truth y) (truth u) (number v) first = never _ _ _ first (if_grows d (truth y) (number v) f) (λ w h. clash_back w _ _ v u refl refl h.right)
  goes_if (number x) (truth y) p q first = never _ _ _ first (if_grows d (truth y) q f) (λ w h. clash w _ _ x y refl refl h.left)
  goes_if (truth x) (number y) p q first = never _ _ _ first (if_grows d (number y) q f) (λ w h. clash_back w _ _ y x refl refl h.left)

as_number_grows : (t : Symbol) (f : Reader) (quiet : Bool) → Grows quiet f (as_number t f).1
as_number_grows (number y) f quiet = grows_self quiet f
as_number_grows (truth g) f quiet = choose_grows quiet f f g (numeral (pos 1)) (numeral (pos 0)) (folded_value g) (grows_self quiet f)

-- a truth value as a number, and what holds besides
pub goes_number : (whole : Reader) (quiet : Bool) (a b e f : Reader) (P : World → Type 0) (s t : Symbol) → Goes whole quiet a b e f (λ w. AlikeSymbol w s t × P w)
    → Goes whole quiet a b (as_number s e).1 (as_number t f).1 (λ w. AlikeForm w (as_number s e).0 (as_number t f).0 × P w)
goes_number whole quiet a b e f P (number x) (number y) first = gives first (λ w h. (numbers_of w _ _ x y refl refl h.0, h.1))
goes_number whole quiet a b e f P (truth x) (truth y) first =
    chooses {c = x} {d = y} {x = numeral (pos 1)} {y = numeral (pos 1)} {u = numeral (pos 0)} {v = numeral (pos 0)} {P = P}
    (gives first (λ w h. record { test = truths_of w _ _ x y refl refl h.0; left = numeral_alike w (pos 1); right = numeral_alike w (pos 0); besides = h.1 }))
goes_number whole quiet a b e f P (number x) (truth y) first = never _ _ _ first (as_number_grows (truth y) f) (λ w h. clash w _ _ x y refl refl h.0)
goes_number whole quiet a b e f P (truth x) (number y) first = never _ _ _ first (as_number_grows (number y) f) (λ w h. clash_back w _ _ y x refl refl h.0)
