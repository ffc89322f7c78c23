-- An expression has a sort by the rules exactly if no fault of it is listed.
use Rattle.std.proofs.Common.{◌≡◌, ℕ, Bool, true, false, not, List, [], ◌∷◌, ◌++◌, refl, sym, ◌∙◌, ap, subst, Option, None, Some}
use Rattle.std.specs.Prelude.{if◌then◌else◌, option_map}
use Rattle.std.proofs.lemmas.Bool.{false≢true}
use Rattle.std.proofs.lemmas.List.{append-nil}
use Rattle.kat_num.specs.declared.values.Sort.{Sort}
use Rattle.kat_num.specs.declared.values.Sort.TheVariants.{Bool as OfBool, Int as OfInt, Nat as OfNat, Name as OfName}
use Rattle.kat_grammar.specs.Phrases.{Form}
use Rattle.kat_grammar.specs.Phrases.Form.{constant, word, entry, negation, joined, chosen, branches, parens}
use Rattle.kat_grammar.specs.declared.marks.Operator.{Operator}
use Rattle.kat_grammar.specs.declared.marks.Operator.TheVariants as operator
use Rattle.kat_grammar.specs.declared.phrases.Kept.{Kept}
use Rattle.kat_grammar.specs.declared.phrases.Kept.TheVariants.{One, Each}
use Rattle.kat_grammar.specs.declared.phrases.Parameter.{Parameter}
use Rattle.kat_grammar.specs.declared.phrases.State.{State}
use Rattle.kat_judging.specs.Faults.{asked_fault, fault_if, form_faults, is_sort, is_table, key_faults, key_of, key_sort, operand_fault, start_of, table_faults, two_fault, word_faults}
use Rattle.kat_judging.specs.KnownSorts.{accepts, two_found}
use Rattle.kat_judging.specs.Names.{Scope, field_named, param_named}
use Rattle.kat_judging.specs.Sorts.{constant_sort, found_of, operator_found, plain_kept, table_found, table_kept, word_found}
use Rattle.kat_judging.specs.declared.faults.Fault.{Fault}
use Rattle.kat_judging.specs.declared.found.Found.{Found}
use Rattle.kat_judging.specs.declared.found.Found.TheVariants.{Exactly}
use Rattle.kat_judging.specs.declared.names.Declared.{Declared}
use Rattle.kat_type_file.specs.Rules.{branch_sort, chosen_sort, entry_sort, fits, joined_sort, number_sort, of_both, plain_sort, sort_of, truth_sort, value_sort, word_sort}

-- either there is no fault, and the sort that is found is the sort by the rules; or there is a fault, and no such sort
pub data Agrees : List Fault → Found → Option Sort → Type 0 where
  good : (s : Sort) → Agrees [] (Exactly s) (Some s)
  bad : {xs : List Fault} {found : Found} → (xs ≡ [] → ⊥) → Agrees xs found None

pub some_nil : (x : Fault) (xs : List Fault) → x ∷ xs ≡ [] → ⊥
some_nil x xs e = cc e

pub front_some : (xs ys : List Fault) → (xs ≡ [] → ⊥) → xs ++ ys ≡ [] → ⊥
front_some [] ys h e = h refl
front_some (x ∷ xs) ys h e = some_nil x (xs ++ ys) e

pub rest_some : (xs ys : List Fault) → (ys ≡ [] → ⊥) → xs ++ ys ≡ [] → ⊥
rest_some [] ys h e = h e
rest_some (x ∷ xs) ys h e = some_nil x (xs ++ ys) e

after_nil : {xs : List Fault} {found : Found} {sort : Option Sort} → Agrees xs found sort → Agrees (xs ++ []) found sort
after_nil (good s) = good s
after_nil {xs = xs} (bad h) = bad (front_some xs [] h)

-- words and tables at keys
kept_agrees : (k : Kept) (at : ℕ) → Agrees (fault_if (is_table k) 7 at) (plain_kept k) (plain_sort k)
kept_agrees (One sort_at s) at = good s
kept_agrees (Each table key_at key arrow sort_at s) at = bad (λ e. some_nil _ _ e)

word_agrees : (p : Option (Declared Parameter)) (f : Option (Declared State)) (at : ℕ) → Agrees (word_faults p f at) (word_found p f) (word_sort p f)
word_agrees (Some p) f at = good p.it.sort
word_agrees None None at = bad (λ e. some_nil _ _ e)
word_agrees None (Some d) at = kept_agrees d.it.kept at

by_key : (same : Bool) (s : Sort) (at : ℕ) → Agrees (fault_if (not same) 7 at) (Exactly s) (if same then Some s else None)
by_key true s at = good s
by_key false s at = bad (λ e. some_nil _ _ e)

at_key : (k : Kept) (p : Declared Parameter) (at key_at : ℕ)
    → Agrees (fault_if (not (is_table k)) 7 at ++ key_faults (key_of k) (Some p) key_at) (table_kept k) (value_sort k p.it.sort)
at_key (One sort_at s) p at key_at = bad (λ e. some_nil _ _ e)
at_key (Each table sort_key_at key arrow sort_at s) p at key_at = by_key (is_sort key p.it.sort) s key_at

pub entry_agrees : (f : Option (Declared State)) (p : Option (Declared Parameter)) (at key_at : ℕ)
    → Agrees (table_faults f at ++ key_faults (key_sort f) p key_at) (table_found f) (entry_sort f p)
entry_agrees None p at key_at = bad (λ e. some_nil _ _ e)
entry_agrees (Some d) None at key_at = bad (rest_some (table_faults (Some d) at) (key_faults (key_sort (Some d)) None key_at) (λ e. some_nil _ _ e))
entry_agrees (Some d) (Some p) at key_at = at_key d.it.kept p at key_at

-- two operands
truths_agree : (a b : Sort) (x y : ℕ) → Agrees (asked_fault OfBool (Exactly a) x ++ asked_fault OfBool (Exactly b) y) (Exactly OfBool) (truth_sort a b)
truths_agree OfBool OfBool x y = good OfBool
truths_agree OfBool b x y = bad (λ e. some_nil _ _ e)
truths_agree a b x y = bad (λ e. some_nil _ _ e)

sums_agree : (a b : Sort) (x y : ℕ)
    → Agrees (asked_fault OfInt (Exactly a) x ++ asked_fault OfInt (Exactly b) y) (operator_found operator.Plus (Exactly a) (Exactly b)) (number_sort a b)
sums_agree OfNat OfNat x y = good OfNat
sums_agree OfNat OfInt x y = good OfInt
sums_agree OfInt OfNat x y = good OfInt
sums_agree OfInt OfInt x y = good OfInt
sums_agree OfNat b x y = bad (λ e. some_nil _ _ e)
sums_agree OfInt b x y = bad (λ e. some_nil _ _ e)
sums_agree a b x y = bad (λ e. some_nil _ _ e)

differences_agree : (a b : Sort) (x y : ℕ)
    → Agrees (asked_fault OfInt (Exactly a) x ++ asked_fault OfInt (Exactly b) y) (Exactly OfInt) (option_map (λ s. OfInt) (number_sort a b))
differences_agree OfNat OfNat x y = good OfInt
differences_agree OfNat OfInt x y = good OfInt
differences_agree OfInt OfNat x y = good OfInt
differences_agree OfInt OfInt x y = good OfInt
differences_agree OfNat b x y = bad (λ e. some_nil _ _ e)
differences_agree OfInt b x y = bad (λ e. some_nil _ _ e)
differences_agree a b x y = bad (λ e. some_nil _ _ e)

two_agree : (a b : Sort) (x y : ℕ) → Agrees (two_fault (Exactly a) x (Exactly b) y) (two_found (Exactly a) (Exactly b)) (chosen_sort a b)
two_agree OfName OfName x y = good OfName
two_agree OfNat OfNat x y = good OfNat
two_agree OfNat OfInt x y = good OfInt
two_agree OfInt OfNat x y = good OfInt
two_agree OfInt OfInt x y = good OfInt
two_agree OfName b x y = bad (λ e. some_nil _ _ e)
two_agree OfNat b x y = bad (λ e. some_nil _ _ e)
two_agree OfInt b x y = bad (λ e. some_nil _ _ e)
two_agree a b x y = bad (λ e. some_nil _ _ e)

compared : {xs : List Fault} {found : Found} {sort : Option Sort} → Agrees xs found sort → Agrees xs (Exactly OfBool) (option_map (λ s. OfBool) sort)
compared (good s) = good OfBool
compared (bad h) = bad h

operands_agree : (op : Operator) (a b : Sort) (x y : ℕ) → Agrees (operand_fault op (Exactly a) x (Exactly b) y) (operator_found op (Exactly a) (Exactly b)) (joined_sort op a b)
operands_agree operator.Or a b x y = truths_agree a b x y
operands_agree operator.And a b x y = truths_agree a b x y
operands_agree operator.Less a b x y = compared (two_agree a b x y)
operands_agree operator.AtMost a b x y = compared (two_agree a b x y)
operands_agree operator.Same a b x y = compared (two_agree a b x y)
operands_agree operator.Plus a b x y = sums_agree a b x y
operands_agree operator.Minus a b x y = differences_agree a b x y

joined_agrees : (op : Operator) (x y : ℕ) {xs ys : List Fault} {f g : Found} {m n : Option Sort} → Agrees xs f m → Agrees ys g n
    → Agrees (operand_fault op f x g y ++ xs ++ ys) (operator_found op f g) (of_both (joined_sort op) m n)
joined_agrees op x y (good a) (good b) = after_nil (after_nil (operands_agree op a b x y))
joined_agrees op x y {ys = ys} {g = g} (good a) (bad h) = bad (rest_some (operand_fault op (Exactly a) x g y ++ []) ys h)
joined_agrees op x y {xs = xs} {ys = ys} {f = f} {g = g} (bad h) s =
    bad (front_some (operand_fault op f x g y ++ xs) ys (rest_some (operand_fault op f x g y) xs h))

chosen_agrees : (x y : ℕ) {xs ys : List Fault} {f g : Found} {m n : Option Sort} → Agrees xs f m → Agrees ys g n
    → Agrees (two_fault f x g y ++ xs ++ ys) (two_found f g) (of_both chosen_sort m n)
chosen_agrees x y (good a) (good b) = after_nil (after_nil (two_agree a b x y))
chosen_agrees x y {ys = ys} {g = g} (good a) (bad h) = bad (rest_some (two_fault (Exactly a) x g y ++ []) ys h)
chosen_agrees x y {xs = xs} {ys = ys} {f = f} {g = g} (bad h) s = bad (front_some (two_fault f x g y ++ xs) ys (rest_some (two_fault f x g y) xs h))

not_agrees : (x : ℕ) {xs : List Fault} {f : Found} {m : Option Sort} → Agrees xs f m
    → Agrees (asked_fault OfBool f x ++ xs) (Exactly OfBool) (of_both branch_sort m (Some OfBool))
not_agrees x (good OfBool) = good OfBool
not_agrees x (good s) = bad (λ e. some_nil _ _ e)
not_agrees x {xs = xs} {f = f} (bad h) = bad (rest_some (asked_fault OfBool f x) xs h)

-- a condition and what it chooses
branch_true : {xs : List Fault} {f : Found} {m : Option Sort} → Agrees xs f m → Agrees xs f (of_both branch_sort (Some OfBool) m)
branch_true (good s) = good s
branch_true (bad h) = bad h

branch_other : (s : Sort) (m : Option Sort) {xs : List Fault} {f : Found} → is_sort s OfBool ≡ false → (xs ≡ [] → ⊥) → Agrees xs f (of_both branch_sort (Some s) m)
branch_other OfBool m e h = absurd (false≢true (sym e))
branch_other s None e h = bad h
branch_other s (Some t) e h = bad h

branches_agree : (x y z : ℕ) {ws xs ys : List Fault} {c f g : Found} {l m n : Option Sort} → Agrees ws c l → Agrees xs f m → Agrees ys g n
    → Agrees (asked_fault OfBool c x ++ two_fault f y g z ++ ws ++ xs ++ ys) (two_found f g) (of_both branch_sort l (of_both chosen_sort m n))
branches_agree x y z {xs = xs} {ys = ys} {f = f} {g = g} {m = m} {n = n} (good OfBool) s t =
    branch_true (subst (λ faults. Agrees (faults ++ xs ++ ys) (two_found f g) (of_both chosen_sort m n)) (sym (append-nil (two_fault f y g z))) (chosen_agrees y z s t))
branches_agree x y z {m = m} {n = n} (good OfInt) s t = branch_other OfInt (of_both chosen_sort m n) refl (λ e. some_nil _ _ e)
branches_agree x y z {m = m} {n = n} (good OfNat) s t = branch_other OfNat (of_both chosen_sort m n) refl (λ e. some_nil _ _ e)
branches_agree x y z {m = m} {n = n} (good OfName) s t = branch_other OfName (of_both chosen_sort m n) refl (λ e. some_nil _ _ e)
branches_agree x y z {ws = ws} {xs = xs} {ys = ys} {c = c} {f = f} {g = g} (bad h) s t =
    let sorts : List Fault = asked_fault OfBool c x ++ two_fault f y g z in
    bad (front_some (sorts ++ ws ++ xs) ys (front_some (sorts ++ ws) xs (rest_some sorts ws h)))

pub form_agrees : (scope : Scope) (a : Form) → Agrees (form_faults scope a) (found_of scope a) (sort_of scope a)
form_agrees scope (constant c) = good (constant_sort c)
form_agrees scope (word w) = word_agrees (param_named scope w.code) (field_named scope w.code) w.at
form_agrees scope (entry table open_at key close_at) = entry_agrees (field_named scope table.code) (param_named scope key.code) table.at key.at
form_agrees scope (negation at a) = not_agrees (start_of a) (form_agrees scope a)
form_agrees scope (joined op at a b) = joined_agrees op (start_of a) (start_of b) (form_agrees scope a) (form_agrees scope b)
form_agrees scope (chosen e at open_at a comma b close_at) = chosen_agrees (start_of a) (start_of b) (form_agrees scope a) (form_agrees scope b)
form_agrees scope (branches at c then_at a else_at b) =
    branches_agree (start_of c) (start_of a) (start_of b) (form_agrees scope c) (form_agrees scope a) (form_agrees scope b)
form_agrees scope (parens open_at a close_at) = form_agrees scope a

-- an expression that is given where a sort is asked
pub fits_accepts : (asked s : Sort) → fits (Some asked) (Some s) ≡ accepts asked (Exactly s)
fits_accepts OfBool OfBool = refl
fits_accepts OfBool s = refl
fits_accepts OfInt OfInt = refl
fits_accepts OfInt OfNat = refl
fits_accepts OfInt s = refl
fits_accepts OfNat OfNat = refl
fits_accepts OfNat s = refl
fits_accepts OfName OfName = refl
fits_accepts OfName s = refl

pub never_fits : (asked : Option Sort) → fits asked None ≡ true → ⊥
never_fits None e = false≢true e
never_fits (Some OfBool) e = false≢true e
never_fits (Some OfInt) e = false≢true e
never_fits (Some OfNat) e = false≢true e
never_fits (Some OfName) e = false≢true e

pub none_if : (b : Bool) (number at : ℕ) → fault_if b number at ≡ [] → b ≡ false
none_if false number at e = refl
none_if true number at e = absurd (some_nil _ _ e)

pub if_none : (b : Bool) (number at : ℕ) → b ≡ false → fault_if b number at ≡ []
if_none b number at e = ap (λ x. fault_if x number at) e

pub not_false : (b : Bool) → not b ≡ false → b ≡ true
not_false true e = refl
not_false false e = absurd (false≢true (sym e))

pub asked_fits : (asked : Sort) (at : ℕ) {xs : List Fault} {f : Found} {m : Option Sort} → Agrees xs f m → asked_fault asked f at ≡ [] → xs ≡ [] → fits (Some asked) m ≡ true
asked_fits asked at (good s) e h = fits_accepts asked s ∙ not_false (accepts asked (Exactly s)) (none_if (not (accepts asked (Exactly s))) 7 at e)
asked_fits asked at (bad k) e h = absurd (k h)

-- no fault of an expression and of its sort
pub record IsFree (given others : List Fault) : Type 0 where
  pub sorts : given ≡ []
  pub own : others ≡ []

pub fits_asked : (asked : Sort) (at : ℕ) {xs : List Fault} {f : Found} {m : Option Sort} → Agrees xs f m → fits (Some asked) m ≡ true → IsFree (asked_fault asked f at) xs
fits_asked asked at (good s) e = record {
  sorts = if_none (not (accepts asked (Exactly s))) 7 at (ap not (sym (fits_accepts asked s) ∙ e));
  own = refl;
}
fits_asked asked at (bad k) e = absurd (never_fits (Some asked) e)
