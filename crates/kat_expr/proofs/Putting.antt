-- A value is kept at a key of ascending entries.
use Rattle.std.proofs.Common.{◌≡◌, ℕ, zero, suc, ◌<◌, ◌≤◌, Bool, true, false, List, [], ◌∷◌, ◌++◌, length, take, drop, get_or, set, refl, sym, ◌∙◌, ap, subst, ⊎_elim, arith, ℤ}
use Rattle.std.specs.Prelude.{All, ◌==◌, if◌then◌else◌, int_lt, nat_lt}
use Rattle.std.specs.List.{remove}
use Rattle.std.proofs.lemmas.Bool.{cases_Bool}
use Rattle.std.proofs.lemmas.Bool.Decides.{nat_tests}
use Rattle.std.proofs.lemmas.Int.{ints}
use Rattle.std.proofs.lemmas.List.Elements.{All-cons, All-head, All-tail}
use Rattle.std.specs.Ordering.{int_eq}
use Rattle.kat_num.specs.declared.values.Value.{Value}
use Rattle.kat_num.specs.declared.values.Value.TheVariants.{Bool as Truth, Num, Name}
use Rattle.kat_expr.specs.Entries.{AreAscending, IsKey, is_before}
use Rattle.kat_expr.specs.Puts.{Undoes, taken_back, with_entry, with_value}
use Rattle.kat_expr.specs.Slots.{entry_at, is_same}
use Rattle.kat_expr.specs.declared.entries.Undo.TheVariants.{Nothing, Added, Changed}
use Rattle.kat_expr.proofs.KeyOrder.{before_trans, same_key, not_itself}

-- at a key, what is kept is an entry
pub at_key : (key value : Value) (entries : List (Value × Value)) → IsKey key → with_value key value entries ≡ with_entry key value entries
at_key (Truth b) value entries h = absurd h
at_key (Num x) value entries h = refl
at_key (Name x) value entries h = refl

pub at_no_key : (key value : Value) (entries : List (Value × Value)) → (IsKey key → ⊥) → entries ≡ with_value key value entries
at_no_key (Truth b) value entries h = refl
at_no_key (Num x) value entries h = absurd (h tt)
at_no_key (Name x) value entries h = absurd (h tt)

pub put_at : (key value : Value) (entries : List (Value × Value)) (p : ℕ) (d : Value × Value) → p < length entries
    → ((i : ℕ) (d : Value × Value) → i < p → is_before (get_or entries i d).0 key ≡ true)
    → is_before (get_or entries p d).0 key ≡ false → is_same (get_or entries p d).0 key ≡ true
    → set entries p (key, value) ≡ with_entry key value entries
put_at key value [] p d inside before not_before same = absurd (omega arith)
put_at key value (e ∷ entries) zero d inside before not_before same =
    let n : is_before e.0 key ≡ false = not_before in let s : is_same e.0 key ≡ true = same in rw (n, s) refl
put_at key value (e ∷ entries) (suc p) d inside before not_before same =
    let b : is_before e.0 key ≡ true = before 0 d (omega arith) in
    rw b (ap (λ (es : List (Value × Value)). e ∷ es) (put_at key value entries p d (omega arith) (λ i d h. before (suc i) d (omega arith)) not_before same))

pub put_in : (key value : Value) (entries : List (Value × Value)) (p : ℕ) → p ≤ length entries
    → ((i : ℕ) (d : Value × Value) → i < p → is_before (get_or entries i d).0 key ≡ true)
    → (p < length entries → (d : Value × Value) → is_before (get_or entries p d).0 key ≡ false)
    → (p < length entries → (d : Value × Value) → is_same (get_or entries p d).0 key ≡ false)
    → take p entries ++ (key, value) ∷ drop p entries ≡ with_entry key value entries
put_in key value [] zero inside before not_before other = refl
put_in key value [] (suc p) inside before not_before other = absurd (omega arith)
put_in key value (e ∷ entries) zero inside before not_before other =
    let n : is_before e.0 key ≡ false = not_before (omega arith) e in let s : is_same e.0 key ≡ false = other (omega arith) e in rw (n, s) refl
put_in key value (e ∷ entries) (suc p) inside before not_before other =
    let b : is_before e.0 key ≡ true = before 0 e (omega arith) in
    rw b (ap (λ (es : List (Value × Value)). e ∷ es)
    (put_in key value entries p (omega arith) (λ i d h. before (suc i) d (omega arith)) (λ h d. not_before (omega arith) d) (λ h d. other (omega arith) d)))

-- what holds of all entries and of the new one holds of all
pub all_with : (P : Value × Value → Type 0) (key value : Value) (entries : List (Value × Value)) → All P entries → P (key, value) → All P (with_entry key value entries)
all_with P key value [] all h = All-cons P (key, value) [] h all
all_with P key value (e ∷ entries) all h =
    elim (is_before e.0 key) as (λ b. All P (if b then e ∷ with_entry key value entries else if is_same e.0 key then (key, value) ∷ entries else (key, value) ∷ e ∷ entries)) [
      | true ↦ All-cons P e (with_entry key value entries) (All-head P e entries all) (all_with P key value entries (All-tail P e entries all) h)
      | false ↦ elim (is_same e.0 key) as (λ b. All P (if b then (key, value) ∷ entries else (key, value) ∷ e ∷ entries)) [
        | true ↦ All-cons P (key, value) entries h (All-tail P e entries all)
        | false ↦ All-cons P (key, value) (e ∷ entries) h all
      ]
    ]

Behind : Value → Value × Value → Type 0
Behind key e = is_before key e.0 ≡ true

ascends : (e : Value × Value) (entries : List (Value × Value)) → IsKey e.0 → All (λ (x : Value × Value). is_before e.0 x.0 ≡ true) entries
    → AreAscending entries → AreAscending (e ∷ entries)
ascends e entries k all up = record {
  keys = All-cons (λ (x : Value × Value). IsKey x.0) e entries k up.keys;
  ordered = ordered_from;
} where
  ordered_from : (i j : ℕ) (d : Value × Value) → i < j → j < length (e ∷ entries) → is_before (get_or (e ∷ entries) i d).0 (get_or (e ∷ entries) j d).0 ≡ true
  ordered_from zero zero d h l = absurd (omega arith)
  ordered_from zero (suc j) d h l = all j d (omega arith)
  ordered_from (suc i) zero d h l = absurd (omega arith)
  ordered_from (suc i) (suc j) d h l = up.ordered i j d (omega arith) (omega arith)

rest_ascends : (e : Value × Value) (entries : List (Value × Value)) → AreAscending (e ∷ entries) → AreAscending entries
rest_ascends e entries up = record {
  keys = λ i d h. up.keys (suc i) d (omega arith);
  ordered = λ i j d h l. up.ordered (suc i) (suc j) d (omega arith) (omega arith);
}

rest_behind : (e : Value × Value) (entries : List (Value × Value)) → AreAscending (e ∷ entries) → All (λ (x : Value × Value). is_before e.0 x.0 ≡ true) entries
rest_behind e entries up = λ i d h. up.ordered 0 (suc i) d (omega arith) (omega arith)

first_key : (e : Value × Value) (entries : List (Value × Value)) → AreAscending (e ∷ entries) → IsKey e.0
first_key e entries up = up.keys 0 e (omega arith)

int_other : (x y : ℤ) → int_lt x y ≡ false → int_eq x y ≡ false → int_lt y x ≡ true
int_other x y h k = grind (arith, ints)

nat_other : (x y : ℕ) → nat_lt x y ≡ false → (x == y) ≡ false → nat_lt y x ≡ true
nat_other x y h k = grind (arith, nat_tests)

-- of two keys one is before the other, or they are the same
other_way : (x y : Value) → IsKey x → IsKey y → is_before x y ≡ false → is_same x y ≡ false → is_before y x ≡ true
other_way (Truth a) y h k b s = absurd h
other_way (Num x) (Truth b) h k n s = absurd k
other_way (Num x) (Num y) h k n s = int_other x y n s
other_way (Num x) (Name y) h k n s = absurd cc
other_way (Name x) (Truth b) h k n s = absurd k
other_way (Name x) (Num y) h k n s = refl
other_way (Name x) (Name y) h k n s = nat_other x y n s

pub still_ascending : (key value : Value) (entries : List (Value × Value)) → IsKey key → AreAscending entries → AreAscending (with_entry key value entries)
still_ascending key value [] k up = ascends (key, value) [] k (λ i d h. absurd (omega arith)) up
still_ascending key value (e ∷ entries) k up =
    ⊎_elim
    (λ (b : is_before e.0 key ≡ true). rw b
    (ascends e (with_entry key value entries) (first_key e entries up)
    (all_with (λ (x : Value × Value). is_before e.0 x.0 ≡ true) key value entries (rest_behind e entries up) b)
    (still_ascending key value entries k (rest_ascends e entries up))))
    (λ (n : is_before e.0 key ≡ false). rw n (⊎_elim
    (λ (s : is_same e.0 key ≡ true). rw s
    (ascends (key, value) entries k
    (subst (λ (x : Value). All (λ (y : Value × Value). is_before x y.0 ≡ true) entries) (same_key e.0 key s) (rest_behind e entries up))
    (rest_ascends e entries up)))
    (λ (d : is_same e.0 key ≡ false). rw d
    (let first : is_before key e.0 ≡ true = other_way e.0 key (first_key e entries up) k n d in
    ascends (key, value) (e ∷ entries) k
    (All-cons (λ (x : Value × Value). is_before key x.0 ≡ true) e entries first
    (λ i w h. before_trans key e.0 (get_or entries i w).0 first (rest_behind e entries up i w h)))
    up))
    (cases_Bool (is_same e.0 key))))
    (cases_Bool (is_before e.0 key))

inserted_long : {E : Type 0} (xs : List E) (i : ℕ) (e : E) → i ≤ length xs → i < length (take i xs ++ e ∷ drop i xs)
inserted_long [] zero e h = omega arith
inserted_long [] (suc i) e h = absurd (omega arith)
inserted_long (x ∷ xs) zero e h = omega arith
inserted_long (x ∷ xs) (suc i) e h = (let l = inserted_long xs i e (omega arith) in omega arith)

removed_again : {E : Type 0} (xs : List E) (i : ℕ) (e : E) → i ≤ length xs → remove (take i xs ++ e ∷ drop i xs) i ≡ xs
removed_again [] zero e h = refl
removed_again [] (suc i) e h = absurd (omega arith)
removed_again (x ∷ xs) zero e h = refl
removed_again (x ∷ xs) (suc i) e h = ap (λ ys. x ∷ ys) (removed_again xs i e (omega arith))

set_long : {E : Type 0} (xs : List E) (i : ℕ) (y : E) → i < length xs → i < length (set xs i y)
set_long [] i y h = absurd (omega arith)
set_long (x ∷ xs) zero y h = omega arith
set_long (x ∷ xs) (suc i) y h = (let l = set_long xs i y (omega arith) in omega arith)

set_again : {E : Type 0} (xs : List E) (i : ℕ) (y e : E) → e ≡ get_or xs i e → set (set xs i y) i e ≡ xs
set_again [] i y e h = refl
set_again (x ∷ xs) zero y e h = (cc)
set_again (x ∷ xs) (suc i) y e h = ap (λ ys. x ∷ ys) (set_again xs i y e h)

pub undoes_nothing : (xs old : List (Value × Value)) → AreAscending xs → xs ≡ old → Undoes Nothing old old
undoes_nothing xs old up e = record { inside = tt; back = refl; kept = subst AreAscending e up }

pub undoes_added : (xs old new : List (Value × Value)) (i : ℕ) (e : Value × Value) → AreAscending xs → xs ≡ old → new ≡ take i xs ++ e ∷ drop i xs
    → i ≤ length xs → Undoes (Added i) old new
undoes_added xs old new i e up same is h = record {
  inside = subst (λ (ys : List (Value × Value)). i < length ys) (sym is) (inserted_long xs i e h);
  back = ap (λ (ys : List (Value × Value)). remove ys i) is ∙ (removed_again xs i e h ∙ same);
  kept = subst AreAscending same up;
}

pub undoes_changed : (xs old : List (Value × Value)) (i : ℕ) (e y : Value × Value) → AreAscending xs → xs ≡ old → i < length xs → e ≡ get_or xs i e
    → Undoes (Changed i e) old (set xs i y)
undoes_changed xs old i e y up same h there = record {
  inside = set_long xs i y h;
  back = set_again xs i y e there ∙ same;
  kept = subst AreAscending same up;
}

true_false : true ≡ false → ⊥
true_false e = cc

-- what comes before a key is at another key
other_key : (x key k : Value) → is_before x key ≡ true → is_same x k ≡ true → is_same key k ≡ false
other_key x key k b s =
    ⊎_elim (λ (t : is_same key k ≡ true). absurd (true_false (sym b ∙ ap (λ y. is_before y key) (same_key x k s ∙ sym (same_key key k t)) ∙ not_itself key))) (λ f. f) (cases_Bool (is_same key k))

Reads : Value → Value → Value → Value → List (Value × Value) → List (Value × Value) → Type 0
Reads k start key value entries new = entry_at k start new ≡ (if is_same key k then value else entry_at k start entries)

passed_over : (a : Bool) (b : Bool) (x v r s : Value) → (a ≡ true → b ≡ false) → r ≡ (if b then v else s) → (if a then x else r) ≡ (if b then v else if a then x else s)
passed_over true true x v r s h e = absurd (true_false (h refl))
passed_over true false x v r s h e = refl
passed_over false true x v r s h e = e
passed_over false false x v r s h e = e

pub read_again : (k start key value : Value) (entries : List (Value × Value))
    → entry_at k start (with_entry key value entries) ≡ (if is_same key k then value else entry_at k start entries)
read_again k start key value [] = refl
read_again k start key value (e ∷ entries) =
    ⊎_elim
    (λ (b : is_before e.0 key ≡ true). rw b
    (passed_over (is_same e.0 k) (is_same key k) e.1 value (entry_at k start (with_entry key value entries)) (entry_at k start entries)
    (λ s. other_key e.0 key k b s) (read_again k start key value entries)))
    (λ (n : is_before e.0 key ≡ false). rw n (⊎_elim
    (λ (s : is_same e.0 key ≡ true). rw (s, same_key e.0 key s) (same_twice (is_same key k) value e.1 (entry_at k start entries)))
    (λ (d : is_same e.0 key ≡ false). rw d refl)
    (cases_Bool (is_same e.0 key))))
    (cases_Bool (is_before e.0 key)) where
      same_twice : (b : Bool) (v x r : Value) → (if b then v else r) ≡ (if b then v else if b then x else r)
      same_twice true v x r = refl
      same_twice false v x r = refl
