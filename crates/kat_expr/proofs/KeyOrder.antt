-- The order of keys, and what is at a key of ascending entries.
use Rattle.std.proofs.Common.{◌≡◌, ℕ, zero, suc, ◌+◌, ◌-◌, ◌/◌, ◌<◌, ◌≤◌, Bool, true, false, List, [], ◌∷◌, length, drop, get_or, refl, sym, ◌∙◌, ap, subst, inl, inr, ⊎_elim, arith, ℤ}
use Rattle.std.specs.Prelude.{int_lt, nat_lt}
use Rattle.std.proofs.lemmas.Bool.{cases_Bool, cases_lt, eqb-true}
use Rattle.std.proofs.lemmas.Bool.Decides.{Decides-int_eq, nat_tests}
use Rattle.std.proofs.lemmas.Int.{ints}
use Rattle.std.proofs.lemmas.List.{drop_all, get_or_default}
use Rattle.kat_num.specs.declared.values.Value.{Value}
use Rattle.kat_num.specs.declared.values.Value.TheVariants.{Bool as Truth, Num, Name}
use Rattle.kat_expr.specs.Entries.{AreAscending, is_before}
use Rattle.kat_expr.specs.Slots.{entry_at, is_same}
use Rattle.kat_expr.proofs.Stopping.{stop}

int_trans : (x y z : ℤ) → int_lt x y ≡ true → int_lt y z ≡ true → int_lt x z ≡ true
int_trans x y z h k = grind (arith, ints)

nat_trans : (x y z : ℕ) → nat_lt x y ≡ true → nat_lt y z ≡ true → nat_lt x z ≡ true
nat_trans x y z h k = grind (arith, nat_tests)

pub before_trans : (x y z : Value) → is_before x y ≡ true → is_before y z ≡ true → is_before x z ≡ true
before_trans (Truth a) y z h k = absurd cc
before_trans (Num x) (Truth b) z h k = absurd cc
before_trans (Num x) (Num y) (Truth c) h k = absurd cc
before_trans (Num x) (Num y) (Num z) h k = int_trans x y z h k
before_trans (Num x) (Num y) (Name z) h k = refl
before_trans (Num x) (Name y) (Truth c) h k = absurd cc
before_trans (Num x) (Name y) (Num z) h k = absurd cc
before_trans (Num x) (Name y) (Name z) h k = refl
before_trans (Name x) (Truth b) z h k = absurd cc
before_trans (Name x) (Num y) z h k = absurd cc
before_trans (Name x) (Name y) (Truth c) h k = absurd cc
before_trans (Name x) (Name y) (Num z) h k = absurd cc
before_trans (Name x) (Name y) (Name z) h k = nat_trans x y z h k

pub same_key : (x y : Value) → is_same x y ≡ true → x ≡ y
same_key (Truth a) y h = absurd cc
same_key (Num x) (Truth b) h = absurd cc
same_key (Num x) (Num y) h = ap Num ((Decides-int_eq x y).0 h)
same_key (Num x) (Name y) h = absurd cc
same_key (Name x) (Truth b) h = absurd cc
same_key (Name x) (Num y) h = absurd cc
same_key (Name x) (Name y) h = ap Name (eqb-true x y h)

int_itself : (x : ℤ) → int_lt x x ≡ false
int_itself x = grind (arith, ints)

nat_itself : (x : ℕ) → nat_lt x x ≡ false
nat_itself x = grind (arith, nat_tests)

pub not_itself : (x : Value) → is_before x x ≡ false
not_itself (Truth a) = refl
not_itself (Num x) = int_itself x
not_itself (Name x) = nat_itself x

true_false : true ≡ false → ⊥
true_false e = cc

-- what comes before a key isn't the key
pub before_differs : (x key : Value) → is_before x key ≡ true → is_same x key ≡ false
before_differs x key h =
    ⊎_elim (λ (s : is_same x key ≡ true). absurd (true_false (sym h ∙ ap (λ y. is_before y key) (same_key x key s) ∙ not_itself key))) (λ f. f) (cases_Bool (is_same x key))

-- what comes after an entry that isn't before a key isn't the key
pub behind_differs : (x y key : Value) → is_before x key ≡ false → is_before x y ≡ true → is_same y key ≡ false
behind_differs x y key h k =
    ⊎_elim (λ (s : is_same y key ≡ true). absurd (true_false (sym k ∙ ap (λ z. is_before x z) (same_key y key s) ∙ h))) (λ f. f) (cases_Bool (is_same y key))

-- entries that don't have the key are passed over
skip : (key start : Value) (entries : List (Value × Value)) (i : ℕ) (d : Value × Value) → i ≤ length entries
    → ((k : ℕ) → k < i → is_same (get_or entries k d).0 key ≡ false) → entry_at key start entries ≡ entry_at key start (drop i entries)
skip key start entries zero d within none = refl
skip key start [] (suc i) d within none = absurd (omega arith)
skip key start (first ∷ entries) (suc i) d within none =
    let head : is_same first.0 key ≡ false = none 0 (omega arith) in
    rw head (skip key start entries i d (omega arith) (λ k h. none (suc k) (omega arith)))

pub found_at : (key start : Value) (entries : List (Value × Value)) (p : ℕ) (d : Value × Value) → p < length entries
    → ((i : ℕ) (d : Value × Value) → i < p → is_before (get_or entries i d).0 key ≡ true) → is_same (get_or entries p d).0 key ≡ true
    → entry_at key start entries ≡ (get_or entries p d).1
found_at key start entries p d inside before same =
    skip key start entries p d (omega arith) (λ k h. before_differs (get_or entries k d).0 key (before k d h)) ∙ stop key start entries p d inside same

differs_there : (key : Value) (entries : List (Value × Value)) (p : ℕ) (d : Value × Value) → AreAscending entries
    → ((i : ℕ) (d : Value × Value) → i < p → is_before (get_or entries i d).0 key ≡ true)
    → ((i : ℕ) (d : Value × Value) → p ≤ i → i < length entries → is_before (get_or entries i d).0 key ≡ false)
    → (p < length entries → is_same (get_or entries p d).0 key ≡ false) → (k : ℕ) → k < length entries → is_same (get_or entries k d).0 key ≡ false
differs_there key entries p d up before behind differs k inside =
    elim (cases_lt k p) [
      | inl h ↦ before_differs (get_or entries k d).0 key (before k d h)
      | inr h ↦ elim (cases_lt p k) [
        | inl l ↦ behind_differs (get_or entries p d).0 (get_or entries k d).0 key (behind p d (omega arith) (omega arith)) (up.ordered p k d l inside)
        | inr l ↦ let same : k ≡ p = omega arith in rw same (differs (omega arith))
      ]
    ]

pub not_found : (key start : Value) (entries : List (Value × Value)) (p : ℕ) (d : Value × Value) → AreAscending entries
    → ((i : ℕ) (d : Value × Value) → i < p → is_before (get_or entries i d).0 key ≡ true)
    → ((i : ℕ) (d : Value × Value) → p ≤ i → i < length entries → is_before (get_or entries i d).0 key ≡ false)
    → (p < length entries → is_same (get_or entries p d).0 key ≡ false) → entry_at key start entries ≡ start
not_found key start entries p d up before behind differs =
    skip key start entries (length entries) d (omega arith) (differs_there key entries p d up before behind differs)
    ∙ ap (λ (es : List (Value × Value)). entry_at key start es) (drop_all (length entries) entries (omega arith))

pub nonzero : (n : ℕ) → (n ≡ 0 → ⊥) → 0 < n
nonzero zero h = absurd (h refl)
nonzero (suc n) h = omega arith

-- the search goes on in the upper half
pub before_all : (entries : List (Value × Value)) (key : Value) (middle : ℕ) → AreAscending entries → middle < length entries
    → ((d : Value × Value) → is_before (get_or entries middle d).0 key ≡ true)
    → (i : ℕ) (d : Value × Value) → i < middle + 1 → is_before (get_or entries i d).0 key ≡ true
before_all entries key middle up inside h i d low =
    elim (cases_lt i middle) [
      | inl l ↦ before_trans (get_or entries i d).0 (get_or entries middle d).0 key (up.ordered i middle d l inside) (h d)
      | inr l ↦ let same : i ≡ middle = omega arith in rw same (h d)
    ]

not_true : (b : Bool) → (b ≡ true → ⊥) → b ≡ false
not_true true h = absurd (h refl)
not_true false h = refl

-- and in the lower one
pub behind_all : (entries : List (Value × Value)) (key : Value) (middle : ℕ) → AreAscending entries
    → ((d : Value × Value) → is_before (get_or entries middle d).0 key ≡ false)
    → (i : ℕ) (d : Value × Value) → middle ≤ i → i < length entries → is_before (get_or entries i d).0 key ≡ false
behind_all entries key middle up h i d low inside =
    elim (cases_lt middle i) [
      | inl l ↦ not_true (is_before (get_or entries i d).0 key)
          (λ t. true_false (sym (before_trans (get_or entries middle d).0 (get_or entries i d).0 key (up.ordered middle i d l inside) t) ∙ h d))
      | inr l ↦ let same : i ≡ middle = omega arith in rw same (h d)
    ]

-- an entry whatever the default
pub any_default : (entries : List (Value × Value)) (i : ℕ) (d e : Value × Value) (key : Value) (b : Bool) → i < length entries
    → is_before (get_or entries i d).0 key ≡ b → is_before (get_or entries i e).0 key ≡ b
any_default entries i d e key b inside h = subst (λ (x : Value × Value). is_before x.0 key ≡ b) (get_or_default entries i d e inside) h

-- a key after the last entry's is after all
pub last_of_all : (entries : List (Value × Value)) (key : Value) (d : Value × Value) → AreAscending entries → (length entries ≡ 0 → ⊥)
    → is_before (get_or entries (length entries - 1) d).0 key ≡ true → (i : ℕ) (e : Value × Value) → i < length entries → is_before (get_or entries i e).0 key ≡ true
last_of_all entries key d up some before i e inside =
    before_all entries key (length entries - 1) up (omega (arith, nonzero (length entries) some))
    (λ f. any_default entries (length entries - 1) d f key true (omega (arith, nonzero (length entries) some)) before) i e (omega arith)

pub middle_inside : (low high : ℕ) → low < high → low + (high - low) / 2 < high
middle_inside low high h = omega arith
