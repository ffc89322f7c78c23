-- Places of names among slots and flags, as the lists grow.
use Rattle.std.proofs.Common.{◌≡◌, ℕ, zero, suc, ◌<◌, ◌⊎◌, inl, inr, ⊎_elim, Bool, true, false, nat_eq, if◌then◌else◌, Option, Some, None, option_map, List, [], ◌∷◌, ◌++◌, length, refl, sym, ap, ◌∙◌, arith}
use Rattle.std.specs.Prelude.{slice_get}
use Rattle.std.proofs.lemmas.Bool.Decides.{Decides-eqb}
use Rattle.kat_symbols.specs.Readers.{code_of, same_code, same_name, is_slot_of, place_of, place_in}
use Rattle.kat_symbols.specs.declared.names.Name.{Name}
use Rattle.kat_symbols.specs.declared.names.Slot.{Slot}
use Rattle.kat_symbols.specs.declared.names.Slot.TheVariants.{Named, Chosen}
use Rattle.kat_invariant.proofs.Logic.{names_same}

itself : (n : ℕ) → nat_eq n n ≡ true
itself n = (Decides-eqb n n).1 refl

code_itself : (a : ℕ × ℕ × ℕ × ℕ) → same_code a a ≡ true
code_itself (k, a, b, i) = rw (itself k, itself a, itself b, itself i) refl

pub name_itself : (n : Name) → same_name n n ≡ true
name_itself n = code_itself (code_of n)

slots_same : (n : Name) (s : Slot) → is_slot_of n s ≡ true → s ≡ Named n
slots_same n (Named m) e = ap Named (names_same n m e)
slots_same n Chosen e = absurd (cc)

-- the place of the first that passes a test
abbrev first_place : {A : Type 0} → (A → Bool) → List A → Option ℕ
first_place p [] = None
first_place p (x ∷ xs) = if p x then Some 0 else option_map suc (first_place p xs)

slot_first : (n : Name) (ss : List Slot) → place_of n ss ≡ first_place (is_slot_of n) ss
slot_first n [] = refl
slot_first n (s ∷ ss) = rw (slot_first n ss) refl

name_first : (n : Name) (ms : List Name) → place_in n ms ≡ first_place (same_name n) ms
name_first n [] = refl
name_first n (m ∷ ms) = rw (name_first n ms) refl

-- the one at the first place passes
first_passes : {A : Type 0} (p : A → Bool) (xs : List A) (v : ℕ) → first_place p xs ≡ Some v → (x : A) × (slice_get xs v ≡ Some x) × (p x ≡ true)
first_passes p [] v e = absurd (cc)
first_passes {A} p (x ∷ xs) v e = by_test (p x) refl e (λ j. first_passes p xs j)
  where
    next : (o : Option ℕ) → first_place p xs ≡ o → option_map suc o ≡ Some v → ((j : ℕ) → first_place p xs ≡ Some j → (y : A) × (slice_get xs j ≡ Some y) × (p y ≡ true)) → (y : A) × (slice_get (x ∷ xs) v ≡ Some y) × (p y ≡ true)
    next None is e' rest = absurd (cc)
    next (Some j) is e' rest =
        let at : v ≡ suc j = cc in
        let found = rest j is in
        (found.0, ap (slice_get (x ∷ xs)) at ∙ found.1, found.2)

    by_test : (b : Bool) → p x ≡ b → first_place p (x ∷ xs) ≡ Some v → ((j : ℕ) → first_place p xs ≡ Some j → (y : A) × (slice_get xs j ≡ Some y) × (p y ≡ true)) → (y : A) × (slice_get (x ∷ xs) v ≡ Some y) × (p y ≡ true)
    by_test true h e' rest =
        let first : first_place p (x ∷ xs) ≡ Some 0 = rw h refl in
        let at : v ≡ 0 = let both : Some v ≡ Some 0 = sym e' ∙ first in cc in
        (x, ap (slice_get (x ∷ xs)) at, h)
    by_test false h e' rest =
        let later : first_place p (x ∷ xs) ≡ option_map suc (first_place p xs) = rw h refl in
        next (first_place p xs) refl (sym later ∙ e') rest

-- it stays as the list grows
first_stays : {A : Type 0} (p : A → Bool) (xs ys : List A) (v : ℕ) → first_place p xs ≡ Some v → first_place p (xs ++ ys) ≡ Some v
first_stays p [] ys v e = absurd (cc)
first_stays p (x ∷ xs) ys v e = by_test (p x) refl e (λ j. first_stays p xs ys j)
  where
    next : (o : Option ℕ) → first_place p xs ≡ o → option_map suc o ≡ Some v → ((j : ℕ) → first_place p xs ≡ Some j → first_place p (xs ++ ys) ≡ Some j) → option_map suc (first_place p (xs ++ ys)) ≡ Some v
    next None is e' rest = absurd (cc)
    next (Some j) is e' rest = rw (rest j is) e'

    by_test : (b : Bool) → p x ≡ b → first_place p (x ∷ xs) ≡ Some v → ((j : ℕ) → first_place p xs ≡ Some j → first_place p (xs ++ ys) ≡ Some j) → first_place p (x ∷ xs ++ ys) ≡ Some v
    by_test true h e' rest =
        let first : first_place p (x ∷ xs) ≡ Some 0 = rw h refl in
        let there : first_place p (x ∷ xs ++ ys) ≡ Some 0 = rw h refl in
        there ∙ sym first ∙ e'
    by_test false h e' rest =
        let later : first_place p (x ∷ xs) ≡ option_map suc (first_place p xs) = rw h refl in
        let there : first_place p (x ∷ xs ++ ys) ≡ option_map suc (first_place p (xs ++ ys)) = rw h refl in
        there ∙ next (first_place p xs) refl (sym later ∙ e') rest

-- the first that passes is put after those that don't
first_new : {A : Type 0} (p : A → Bool) (xs : List A) (y : A) → first_place p xs ≡ None → p y ≡ true → first_place p (xs ++ y ∷ []) ≡ Some (length xs)
first_new p [] y e h = rw h refl
first_new p (x ∷ xs) y e h = by_test (p x) refl e (λ f. first_new p xs y f h)
  where
    next : (o : Option ℕ) → first_place p xs ≡ o → option_map suc o ≡ None → first_place p xs ≡ None
    next None is e' = is
    next (Some j) is e' = absurd (cc)

    by_test : (b : Bool) → p x ≡ b → first_place p (x ∷ xs) ≡ None → (first_place p xs ≡ None → first_place p (xs ++ y ∷ []) ≡ Some (length xs)) → first_place p (x ∷ xs ++ y ∷ []) ≡ Some (suc (length xs))
    by_test true h' e' rest = let first : first_place p (x ∷ xs) ≡ Some 0 = rw h' refl in absurd (cc)
    by_test false h' e' rest =
        let later : first_place p (x ∷ xs) ≡ option_map suc (first_place p xs) = rw h' refl in
        let there : first_place p (x ∷ xs ++ y ∷ []) ≡ option_map suc (first_place p (xs ++ y ∷ [])) = rw h' refl in
        there ∙ ap (option_map suc) (rest (next (first_place p xs) refl (sym later ∙ e')))

-- of slots
pub slot_placed : (n : Name) (ss : List Slot) (v : ℕ) → place_of n ss ≡ Some v → slice_get ss v ≡ Some (Named n)
slot_placed n ss v e = let found = first_passes (is_slot_of n) ss v (sym (slot_first n ss) ∙ e) in found.1 ∙ ap Some (slots_same n found.0 found.2)

pub slot_stays : (n : Name) (ss ts : List Slot) (v : ℕ) → place_of n ss ≡ Some v → place_of n (ss ++ ts) ≡ Some v
slot_stays n ss ts v e = slot_first n (ss ++ ts) ∙ first_stays (is_slot_of n) ss ts v (sym (slot_first n ss) ∙ e)

pub slot_new : (n : Name) (ss : List Slot) → place_of n ss ≡ None → place_of n (ss ++ Named n ∷ []) ≡ Some (length ss)
slot_new n ss e = slot_first n (ss ++ Named n ∷ []) ∙ first_new (is_slot_of n) ss (Named n) (sym (slot_first n ss) ∙ e) (name_itself n)

-- of flags
pub flag_placed : (n : Name) (ms : List Name) (v : ℕ) → place_in n ms ≡ Some v → slice_get ms v ≡ Some n
flag_placed n ms v e = let found = first_passes (same_name n) ms v (sym (name_first n ms) ∙ e) in found.1 ∙ ap Some (names_same n found.0 found.2)

pub flag_stays : (n : Name) (ms ks : List Name) (v : ℕ) → place_in n ms ≡ Some v → place_in n (ms ++ ks) ≡ Some v
flag_stays n ms ks v e = name_first n (ms ++ ks) ∙ first_stays (same_name n) ms ks v (sym (name_first n ms) ∙ e)

pub flag_new : (n : Name) (ms : List Name) → place_in n ms ≡ None → place_in n (ms ++ n ∷ []) ≡ Some (length ms)
flag_new n ms e = name_first n (ms ++ n ∷ []) ∙ first_new (same_name n) ms n (sym (name_first n ms) ∙ e) (name_itself n)

-- the element at a place of a longer list
pub get_stays : {A : Type 0} (xs ys : List A) (v : ℕ) (x : A) → slice_get xs v ≡ Some x → slice_get (xs ++ ys) v ≡ Some x
get_stays [] ys v x e = absurd (cc)
get_stays (y ∷ xs) ys zero x e = e
get_stays (y ∷ xs) ys (suc v) x e = get_stays xs ys v x e

pub get_new : {A : Type 0} (xs ys : List A) (x : A) → slice_get (xs ++ x ∷ ys) (length xs) ≡ Some x
get_new [] ys x = refl
get_new (y ∷ xs) ys x = get_new xs ys x

pub get_cases : {A : Type 0} (xs : List A) (y : A) (v : ℕ) (x : A) → slice_get (xs ++ y ∷ []) v ≡ Some x → ((v < length xs) × (slice_get xs v ≡ Some x)) ⊎ ((v ≡ length xs) × (y ≡ x))
get_cases [] y zero x e = inr (refl, cc)
get_cases [] y (suc v) x e = absurd (cc)
get_cases (z ∷ zs) y zero x e = inl (omega arith, e)
get_cases {A} (z ∷ zs) y (suc v) x e = ⊎_elim
    (λ (h : (v < length zs) × (slice_get zs v ≡ Some x)). inl (omega (arith, h.0), h.1))
    (λ (h : (v ≡ length zs) × (y ≡ x)). inr (ap suc h.0, h.1))
    (get_cases zs y v x e)

pub get_within : {A : Type 0} (xs : List A) (v : ℕ) (x : A) → slice_get xs v ≡ Some x → v < length xs
get_within [] v x e = absurd (cc)
get_within (y ∷ xs) zero x e = omega arith
get_within (y ∷ xs) (suc v) x e = let rest : v < length xs = get_within xs v x e in omega (arith, rest)

pub length_more : {A : Type 0} (xs : List A) (x : A) → length (xs ++ x ∷ []) ≡ suc (length xs)
length_more [] x = refl
length_more (y ∷ ys) x = ap suc (length_more ys x)
