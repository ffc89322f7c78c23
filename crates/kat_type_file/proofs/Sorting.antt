-- An expression that breaks no rule has the sort that is found of it.
use Rattle.std.proofs.Common.{◌≡◌, ℕ, ◌⊎◌, inl, inr, Bool, true, false, not, List, [], ◌∷◌, ◌++◌, map, refl, sym, ◌∙◌, ap, subst, arith, Option, None, Some, option_map}
use Rattle.std.specs.Prelude.{◌==◌, if◌then◌else◌, MatchOption, slice_get}
use Rattle.std.proofs.lemmas.Bool.{false≢true}
use Rattle.std.proofs.lemmas.Int.{ints}
use Rattle.std.proofs.lemmas.Option.{slice_get-map}
use Rattle.kat_num.specs.Values.{HasSort}
use Rattle.kat_num.specs.declared.values.Sort.{Sort}
use Rattle.kat_num.specs.declared.values.Sort.TheVariants.{Bool as OfBool, Int as OfInt, Nat as OfNat, Name as OfName}
use Rattle.kat_num.specs.declared.values.Value.{Value}
use Rattle.kat_num.specs.declared.values.Value.TheVariants as value
use Rattle.kat_expr.specs.Sorts.{Accepts, AcceptsField, AcceptsTable, FitsSort, IsChosen}
use Rattle.kat_expr.specs.Sorts as expressions
use Rattle.kat_expr.specs.Sorts.Kept.{one, each}
use Rattle.kat_expr.specs.Terms.{Term}
use Rattle.kat_expr.specs.Terms.Term.{constant as a_constant, field as a_field, entry as an_entry, parameter, negation as opposite, both, either, less, at_most, same, sum, difference, greater, lesser, choice}
use Rattle.kat_grammar.specs.Phrases.{Form}
use Rattle.kat_grammar.specs.Phrases.Form.{constant, word, entry, negation, joined, chosen, branches, parens}
use Rattle.kat_grammar.specs.declared.marks.Extreme.{Extreme}
use Rattle.kat_grammar.specs.declared.marks.Extreme.TheVariants as extreme
use Rattle.kat_grammar.specs.declared.marks.Operator.{Operator}
use Rattle.kat_grammar.specs.declared.marks.Operator.TheVariants as operator
use Rattle.kat_grammar.specs.declared.phrases.Constant.{Constant}
use Rattle.kat_grammar.specs.declared.phrases.Constant.TheVariants.{Natural, Negative, Literal, Truth}
use Rattle.kat_grammar.specs.declared.phrases.Kept.{Kept}
use Rattle.kat_grammar.specs.declared.phrases.Kept.TheVariants.{One, Each}
use Rattle.kat_grammar.specs.declared.phrases.Parameter.{Parameter}
use Rattle.kat_grammar.specs.declared.phrases.State.{State}
use Rattle.kat_type.specs.Fits.{kept_of, sorts_of}
use Rattle.kat_type.specs.declared.types.Param.{Param}
use Rattle.kat_judging.specs.Faults.{asked_fault, asked_faults, fault_if, first_of, form_faults, is_other_family, is_sort, is_table, is_truths, key_faults, key_of, key_sort, operand_fault, operand_faults, start_of, table_faults, two_fault, two_faults, word_faults}
use Rattle.kat_judging.specs.Names.{Scope, field_named, first_named, one_further, param_named}
use Rattle.kat_judging.specs.KnownSorts.{accepts, found_family, sum_found, two_found}
use Rattle.kat_judging.specs.Sorts.{constant_sort, found_of, operator_found, plain_kept, table_found, table_kept, word_found}
use Rattle.kat_type_file.specs.Typing.{chosen_term, constant_value, field_in, joined_term, kept_field, param_in, place_of, term_in, word_term}
use Rattle.kat_judging.specs.declared.faults.Fault.{Fault}
use Rattle.kat_judging.specs.declared.found.Found.{Found}
use Rattle.kat_judging.specs.declared.found.Found.TheVariants.{Exactly}
use Rattle.kat_judging.specs.declared.names.Declared.{Declared}
use Rattle.kat_type_file.proofs.Refusals.{none_front, none_rest, some_none}

-- what is found is a sort, and the expression has it
pub record FoundFits (scope : expressions.Scope) (found : Found) (t : Term) : Type 0 where
  pub sort : Sort
  pub is : found ≡ Exactly sort
  pub fits : FitsSort scope t sort

abbrev pub sorts_in : Scope → expressions.Scope
sorts_in scope = sorts_of (map field_in scope.fields) (map param_in scope.params)

pub if_none : (b : Bool) (number at : ℕ) → first_of (fault_if b number at) ≡ None → b ≡ false
if_none false number at h = refl
if_none true number at h = absurd (some_none _ h)

-- what is named is at its place
abbrev pub StandsIn : {A : Type 0} → List A → Option (Declared A) → Type 0
StandsIn xs None = Unit {0}
StandsIn xs (Some d) = slice_get xs d.place ≡ Some d.it

stands_here : {A : Type 0} (x : A) (xs : List A) (b : Bool) (found : Option (Declared A)) → StandsIn xs found
    → StandsIn (x ∷ xs) (if b then Some (record { place = 0; it = x }) else option_map one_further found)
stands_here x xs true found h = refl
stands_here x xs false None h = tt
stands_here x xs false (Some d) h = h

pub stands_in : {A : Type 0} (name : A → ℕ) (code : ℕ) (xs : List A) → StandsIn xs (first_named name code xs)
stands_in name code [] = tt
stands_in name code (x ∷ xs) = stands_here x xs (name x == code) (first_named name code xs) (stands_in name code xs)

pub mapped_at : {A B : Type 0} (f : A → B) (xs : List A) (place : ℕ) (x : A) → slice_get xs place ≡ Some x → slice_get (map f xs) place ≡ Some (f x)
mapped_at f xs place x h = slice_get-map f xs place ∙ ap (λ o. option_map f o) h

-- the sort of a parameter and what a field keeps, in the scope
pub param_at : (scope : Scope) (d : Declared Parameter) → StandsIn scope.params (Some d) → slice_get (sorts_in scope).params d.place ≡ Some d.it.sort
param_at scope d h = mapped_at (λ (p : Param). p.sort) (map param_in scope.params) d.place (param_in d.it) (mapped_at param_in scope.params d.place d.it h)

abbrev pub kept_sorts : Kept → expressions.Kept
kept_sorts (One sort_at s) = one s
kept_sorts (Each table key_at key arrow sort_at s) = each key s

kept_is : (k : Kept) (name : ℕ) (start : Value) → kept_of (kept_field k name start) ≡ kept_sorts k
kept_is (One sort_at s) name start = refl
kept_is (Each table key_at key arrow sort_at s) name start = refl

pub field_at : (scope : Scope) (d : Declared State) → StandsIn scope.fields (Some d) → slice_get (sorts_in scope).fields d.place ≡ Some (kept_sorts d.it.kept)
field_at scope d h =
    mapped_at kept_of (map field_in scope.fields) d.place (field_in d.it) (mapped_at field_in scope.fields d.place d.it h)
    ∙ ap (λ (k : expressions.Kept). Some k) (kept_is d.it.kept d.it.name.code (constant_value d.it.start))

pub accepts_same : (s : Sort) → Accepts s s
accepts_same OfBool = refl
accepts_same OfInt = refl
accepts_same OfNat = refl
accepts_same OfName = refl

accepts_wide : (s : Sort) → Accepts OfNat s → Accepts OfInt s
accepts_wide s e = subst (λ (x : Sort). Accepts OfInt x) e tt

field_wide : (k : expressions.Kept) → AcceptsField OfNat k → AcceptsField OfInt k
field_wide (one s) h = accepts_wide s h
field_wide (each key s) h = absurd h

table_wide : (key : Sort) (k : expressions.Kept) → AcceptsTable OfNat key k → AcceptsTable OfInt key k
table_wide key (one s) h = absurd h
table_wide key (each wanted s) h = (h.0, accepts_wide s h.1)

matched : {X : Type 0} (o : Option X) (P Q : X → Type 0) → ((x : X) → P x → Q x) → MatchOption o ⊥ P → MatchOption o ⊥ Q
matched None P Q f h = h
matched (Some x) P Q f h = f x h

pub value_wide : (v : Value) → HasSort OfNat v → HasSort OfInt v
value_wide (value.Num z) h = tt
value_wide (value.Bool b) h = absurd h
value_wide (value.Name n) h = absurd h

-- a `nat` may be given where `int` is required
pub widen : (scope : expressions.Scope) (t : Term) → FitsSort scope t OfNat → FitsSort scope t OfInt
widen scope (a_constant v) h = value_wide v h
widen scope (a_field place) h = matched (slice_get scope.fields place) (AcceptsField OfNat) (AcceptsField OfInt) field_wide h
widen scope (an_entry place key) h =
    matched (slice_get scope.params key) (λ given. MatchOption (slice_get scope.fields place) ⊥ (AcceptsTable OfNat given))
    (λ given. MatchOption (slice_get scope.fields place) ⊥ (AcceptsTable OfInt given))
    (λ given inner. matched (slice_get scope.fields place) (AcceptsTable OfNat given) (AcceptsTable OfInt given) (table_wide given) inner) h
widen scope (parameter place) h = matched (slice_get scope.params place) (Accepts OfNat) (Accepts OfInt) accepts_wide h
widen scope (opposite a) h = absurd h
widen scope (both a b) h = absurd h
widen scope (either a b) h = absurd h
widen scope (less a b) h = absurd h
widen scope (at_most a b) h = absurd h
widen scope (same a b) h = absurd h
widen scope (sum a b) h = (widen scope a h.0, widen scope b h.1)
widen scope (difference a b) h = absurd h
widen scope (greater a b) h = (tt, widen scope a h.1, widen scope b h.2)
widen scope (lesser a b) h = (tt, widen scope a h.1, widen scope b h.2)
widen scope (choice c a b) h = (tt, h.1, widen scope a h.2, widen scope b h.3)

pub accepted : (P : Sort → Type 0) → (P OfNat → P OfInt) → (asked s : Sort) → not (accepts asked (Exactly s)) ≡ false → P s → P asked
accepted P wide OfBool OfBool h p = p
accepted P wide OfInt OfInt h p = p
accepted P wide OfInt OfNat h p = wide p
accepted P wide OfNat OfNat h p = p
accepted P wide OfName OfName h p = p
accepted P wide asked s h p = absurd (false≢true (sym h))

pub asked_fits : (scope : expressions.Scope) (found : Found) (t : Term) (asked : Sort) (at : ℕ) → first_of (asked_fault asked found at) ≡ None
    → FoundFits scope found t → FitsSort scope t asked
asked_fits scope found t asked at h r =
    accepted (λ s. FitsSort scope t s) (widen scope t) asked r.sort
    (subst (λ (f : Found). not (accepts asked f) ≡ false) r.is (if_none (not (accepts asked found)) 7 at h)) r.fits

-- of two numbers or two names
pub record Chosen (P Q : Sort → Type 0) (found : Found) : Type 0 where
  pub sort : Sort
  pub is : found ≡ Exactly sort
  pub chosen : IsChosen sort
  pub left : P sort
  pub right : Q sort

two_chosen : (P Q : Sort → Type 0) → (P OfNat → P OfInt) → (Q OfNat → Q OfInt) → (a b : Sort) → is_truths (found_family (Exactly a)) ≡ false
    → is_other_family (found_family (Exactly a)) (found_family (Exactly b)) ≡ false → P a → Q b → Chosen P Q (two_found (Exactly a) (Exactly b))
two_chosen P Q v w OfBool b h k p q = absurd (false≢true (sym h))
two_chosen P Q v w OfInt OfInt h k p q = record { sort = OfInt; is = refl; chosen = tt; left = p; right = q }
two_chosen P Q v w OfInt OfNat h k p q = record { sort = OfInt; is = refl; chosen = tt; left = p; right = w q }
two_chosen P Q v w OfNat OfInt h k p q = record { sort = OfInt; is = refl; chosen = tt; left = v p; right = q }
two_chosen P Q v w OfNat OfNat h k p q = record { sort = OfNat; is = refl; chosen = tt; left = p; right = q }
two_chosen P Q v w OfName OfName h k p q = record { sort = OfName; is = refl; chosen = tt; left = p; right = q }
two_chosen P Q v w a b h k p q = absurd (false≢true (sym k))

two_compared : (P Q : Sort → Type 0) → (P OfNat → P OfInt) → (Q OfNat → Q OfInt) → (a b : Sort) → is_truths (found_family (Exactly a)) ≡ false
    → is_other_family (found_family (Exactly a)) (found_family (Exactly b)) ≡ false → P a → Q b → (P OfInt × Q OfInt) ⊎ (P OfName × Q OfName)
two_compared P Q v w OfBool b h k p q = absurd (false≢true (sym h))
two_compared P Q v w OfInt OfInt h k p q = inl (p, q)
two_compared P Q v w OfInt OfNat h k p q = inl (p, w q)
two_compared P Q v w OfNat OfInt h k p q = inl (v p, q)
two_compared P Q v w OfNat OfNat h k p q = inl (v p, w q)
two_compared P Q v w OfName OfName h k p q = inr (p, q)
two_compared P Q v w a b h k p q = absurd (false≢true (sym k))

pub first_truths : (a b : Found) (x y : ℕ) → first_of (two_fault a x b y) ≡ None → is_truths (found_family a) ≡ false
first_truths a b x y h =
    if_none (is_truths (found_family a)) 7 x (none_front (fault_if (is_truths (found_family a)) 7 x) (fault_if (is_other_family (found_family a) (found_family b)) 7 y) h)

pub second_family : (a b : Found) (x y : ℕ) → first_of (two_fault a x b y) ≡ None → is_other_family (found_family a) (found_family b) ≡ false
second_family a b x y h =
    if_none (is_other_family (found_family a) (found_family b)) 7 y
    (none_rest (fault_if (is_truths (found_family a)) 7 x) (fault_if (is_other_family (found_family a) (found_family b)) 7 y) h)

chosen_fits : (scope : expressions.Scope) (f g : Found) (t u : Term) (x y : ℕ) → first_of (two_fault f x g y) ≡ None → FoundFits scope f t → FoundFits scope g u
    → Chosen (λ s. FitsSort scope t s) (λ s. FitsSort scope u s) (two_found f g)
chosen_fits scope f g t u x y h r s =
    let truths : is_truths (found_family (Exactly r.sort)) ≡ false = subst (λ (a : Found). is_truths (found_family a) ≡ false) r.is (first_truths f g x y h) in
    let family : is_other_family (found_family (Exactly r.sort)) (found_family (Exactly s.sort)) ≡ false =
    subst (λ (b : Found). is_other_family (found_family (Exactly r.sort)) (found_family b) ≡ false) s.is
    (subst (λ (a : Found). is_other_family (found_family a) (found_family g) ≡ false) r.is (second_family f g x y h)) in
    let c = two_chosen (λ s. FitsSort scope t s) (λ s. FitsSort scope u s) (widen scope t) (widen scope u) r.sort s.sort truths family r.fits s.fits in
    record {
      sort = c.sort;
      is = ap (λ (a : Found). two_found a g) r.is ∙ ap (λ (b : Found). two_found (Exactly r.sort) b) s.is ∙ c.is;
      chosen = c.chosen;
      left = c.left;
      right = c.right;
    }

compared_fits : (scope : expressions.Scope) (f g : Found) (t u : Term) (x y : ℕ) → first_of (two_fault f x g y) ≡ None → FoundFits scope f t → FoundFits scope g u
    → (FitsSort scope t OfInt × FitsSort scope u OfInt) ⊎ (FitsSort scope t OfName × FitsSort scope u OfName)
compared_fits scope f g t u x y h r s =
    let truths : is_truths (found_family (Exactly r.sort)) ≡ false = subst (λ (a : Found). is_truths (found_family a) ≡ false) r.is (first_truths f g x y h) in
    let family : is_other_family (found_family (Exactly r.sort)) (found_family (Exactly s.sort)) ≡ false =
    subst (λ (b : Found). is_other_family (found_family (Exactly r.sort)) (found_family b) ≡ false) s.is
    (subst (λ (a : Found). is_other_family (found_family a) (found_family g) ≡ false) r.is (second_family f g x y h)) in
    two_compared (λ s. FitsSort scope t s) (λ s. FitsSort scope u s) (widen scope t) (widen scope u) r.sort s.sort truths family r.fits s.fits

two_summed : (scope : expressions.Scope) (t u : Term) (a b : Sort) → not (accepts OfInt (Exactly a)) ≡ false → not (accepts OfInt (Exactly b)) ≡ false
    → FitsSort scope t a → FitsSort scope u b → FoundFits scope (sum_found (Exactly a) (Exactly b)) (sum t u)
two_summed scope t u OfInt OfInt h k p q = record { sort = OfInt; is = refl; fits = (p, q) }
two_summed scope t u OfInt OfNat h k p q = record { sort = OfInt; is = refl; fits = (p, widen scope u q) }
two_summed scope t u OfNat OfInt h k p q = record { sort = OfInt; is = refl; fits = (widen scope t p, q) }
two_summed scope t u OfNat OfNat h k p q = record { sort = OfNat; is = refl; fits = (p, q) }
two_summed scope t u OfBool b h k p q = absurd (false≢true (sym h))
two_summed scope t u OfName b h k p q = absurd (false≢true (sym h))
two_summed scope t u a b h k p q = absurd (false≢true (sym k))

sum_fits : (scope : expressions.Scope) (f g : Found) (t u : Term) (x y : ℕ) → first_of (asked_fault OfInt f x) ≡ None → first_of (asked_fault OfInt g y) ≡ None
    → FoundFits scope f t → FoundFits scope g u → FoundFits scope (sum_found f g) (sum t u)
sum_fits scope f g t u x y h k r s =
    let whole = two_summed scope t u r.sort s.sort (subst (λ (a : Found). not (accepts OfInt a) ≡ false) r.is (if_none (not (accepts OfInt f)) 7 x h))
    (subst (λ (b : Found). not (accepts OfInt b) ≡ false) s.is (if_none (not (accepts OfInt g)) 7 y k)) r.fits s.fits in
    record {
      sort = whole.sort;
      is = ap (λ (a : Found). sum_found a g) r.is ∙ ap (λ (b : Found). sum_found (Exactly r.sort) b) s.is ∙ whole.is;
      fits = whole.fits;
    }

pub constant_has : (c : Constant) → HasSort (constant_sort c) (constant_value c)
constant_has (Natural at n) = omega (arith, ints)
constant_has (Negative at number_at n) = tt
constant_has (Literal at name) = tt
constant_has (Truth at b) = tt

-- a word
kept_fits : (scope : expressions.Scope) (place : ℕ) (k : Kept) (at : ℕ) → slice_get scope.fields place ≡ Some (kept_sorts k)
    → first_of (fault_if (is_table k) 7 at) ≡ None → FoundFits scope (plain_kept k) (a_field place)
kept_fits scope place (One sort_at s) at is h =
    record { sort = s; is = refl; fits = subst (λ (o : Option expressions.Kept). MatchOption o ⊥ (AcceptsField s)) (sym is) (accepts_same s) }
kept_fits scope place (Each table key_at key arrow sort_at s) at is h = absurd (some_none _ h)

word_fits : (scope : Scope) (p : Option (Declared Parameter)) (f : Option (Declared State)) (at : ℕ) → StandsIn scope.params p → StandsIn scope.fields f
    → first_of (word_faults p f at) ≡ None → FoundFits (sorts_in scope) (word_found p f) (word_term p f)
word_fits scope (Some d) f at dp df h =
    record { sort = d.it.sort; is = refl; fits = subst (λ (o : Option Sort). MatchOption o ⊥ (Accepts d.it.sort)) (sym (param_at scope d dp)) (accepts_same d.it.sort) }
word_fits scope None None at dp df h = absurd (some_none _ h)
word_fits scope None (Some d) at dp df h = kept_fits (sorts_in scope) d.place d.it.kept at (field_at scope d df) h

-- a table at a key
pub same_sort : (a b : Sort) → not (is_sort a b) ≡ false → a ≡ b
same_sort OfBool OfBool h = refl
same_sort OfInt OfInt h = refl
same_sort OfNat OfNat h = refl
same_sort OfName OfName h = refl
same_sort a b h = absurd (false≢true (sym h))

keyed_fits : (scope : expressions.Scope) (place key : ℕ) (wanted given value : Sort) → slice_get scope.fields place ≡ Some (each wanted value)
    → slice_get scope.params key ≡ Some given → wanted ≡ given → FitsSort scope (an_entry place key) value
keyed_fits scope place key wanted given value is param equal =
    subst (λ (o : Option Sort). MatchOption o ⊥ (λ s. MatchOption (slice_get scope.fields place) ⊥ (AcceptsTable value s))) (sym param)
    (subst (λ (o : Option expressions.Kept). MatchOption o ⊥ (AcceptsTable value given)) (sym is) (equal, accepts_same value))

table_fits : (scope : Scope) (d : Declared State) (k : Kept) (p : Declared Parameter) (at : ℕ) → slice_get (sorts_in scope).fields d.place ≡ Some (kept_sorts k)
    → StandsIn scope.params (Some p) → not (is_table k) ≡ false → first_of (key_faults (key_of k) (Some p) at) ≡ None
    → FoundFits (sorts_in scope) (table_kept k) (an_entry d.place p.place)
table_fits scope d (One sort_at s) p at is dp table h = absurd (false≢true (sym table))
table_fits scope d (Each table_at key_at key arrow sort_at s) p at is dp table h =
    record {
      sort = s;
      is = refl;
      fits = keyed_fits (sorts_in scope) d.place p.place key p.it.sort s is (param_at scope p dp)
          (same_sort key p.it.sort (if_none (not (is_sort key p.it.sort)) 7 at h));
    }

entry_fits : (scope : Scope) (f : Option (Declared State)) (p : Option (Declared Parameter)) (at key_at : ℕ) → StandsIn scope.fields f → StandsIn scope.params p
    → first_of (table_faults f at) ≡ None → first_of (key_faults (key_sort f) p key_at) ≡ None
    → FoundFits (sorts_in scope) (table_found f) (an_entry (place_of f) (place_of p))
entry_fits scope None p at key_at df dp h k = absurd (some_none _ h)
entry_fits scope (Some d) None at key_at df dp h k = absurd (some_none _ k)
entry_fits scope (Some d) (Some p) at key_at df dp h k =
    table_fits scope d d.it.kept p key_at (field_at scope d df) dp (if_none (not (is_table d.it.kept)) 7 at h) k

-- two operands
joined_fits : (scope : expressions.Scope) (op : Operator) (f g : Found) (t u : Term) (x y : ℕ) → first_of (operand_fault op f x g y) ≡ None
    → FoundFits scope f t → FoundFits scope g u → FoundFits scope (operator_found op f g) (joined_term op t u)
joined_fits scope operator.Or f g t u x y h r s = record {
  sort = OfBool;
  is = refl;
  fits = (
    asked_fits scope f t OfBool x (none_front (asked_fault OfBool f x) (asked_fault OfBool g y) h) r,
    asked_fits scope g u OfBool y (none_rest (asked_fault OfBool f x) (asked_fault OfBool g y) h) s,
  );
}
joined_fits scope operator.And f g t u x y h r s = record {
  sort = OfBool;
  is = refl;
  fits = (
    asked_fits scope f t OfBool x (none_front (asked_fault OfBool f x) (asked_fault OfBool g y) h) r,
    asked_fits scope g u OfBool y (none_rest (asked_fault OfBool f x) (asked_fault OfBool g y) h) s,
  );
}
joined_fits scope operator.Less f g t u x y h r s = record { sort = OfBool; is = refl; fits = compared_fits scope f g t u x y h r s }
joined_fits scope operator.AtMost f g t u x y h r s = record { sort = OfBool; is = refl; fits = compared_fits scope f g t u x y h r s }
joined_fits scope operator.Same f g t u x y h r s = record { sort = OfBool; is = refl; fits = compared_fits scope f g t u x y h r s }
joined_fits scope operator.Plus f g t u x y h r s =
    sum_fits scope f g t u x y (none_front (asked_fault OfInt f x) (asked_fault OfInt g y) h) (none_rest (asked_fault OfInt f x) (asked_fault OfInt g y) h) r s
joined_fits scope operator.Minus f g t u x y h r s = record {
  sort = OfInt;
  is = refl;
  fits = (
    asked_fits scope f t OfInt x (none_front (asked_fault OfInt f x) (asked_fault OfInt g y) h) r,
    asked_fits scope g u OfInt y (none_rest (asked_fault OfInt f x) (asked_fault OfInt g y) h) s,
  );
}

extreme_fits : (scope : expressions.Scope) (e : Extreme) (found : Found) (t u : Term) → Chosen (λ s. FitsSort scope t s) (λ s. FitsSort scope u s) found
    → FoundFits scope found (chosen_term e t u)
extreme_fits scope extreme.Greatest found t u c = record { sort = c.sort; is = c.is; fits = (c.chosen, c.left, c.right) }
extreme_fits scope extreme.Least found t u c = record { sort = c.sort; is = c.is; fits = (c.chosen, c.left, c.right) }

choice_fits : (scope : expressions.Scope) (found : Found) (v t u : Term) → FitsSort scope v OfBool → Chosen (λ s. FitsSort scope t s) (λ s. FitsSort scope u s) found
    → FoundFits scope found (choice v t u)
choice_fits scope found v t u b c = record { sort = c.sort; is = c.is; fits = (c.chosen, b, c.left, c.right) }

pub form_fits : (scope : Scope) (a : Form) → first_of (form_faults scope a) ≡ None → FoundFits (sorts_in scope) (found_of scope a) (term_in scope a)
form_fits scope (constant c) h = record { sort = constant_sort c; is = refl; fits = constant_has c }
form_fits scope (word w) h =
    word_fits scope (param_named scope w.code) (field_named scope w.code) w.at (stands_in (λ p. p.name.code) w.code scope.params) (stands_in (λ s. s.name.code) w.code scope.fields) h
form_fits scope (entry table open_at key close_at) h =
    let faults : List Fault = table_faults (field_named scope table.code) table.at in
    let keys : List Fault = key_faults (key_sort (field_named scope table.code)) (param_named scope key.code) key.at in
    entry_fits scope (field_named scope table.code) (param_named scope key.code) table.at key.at (stands_in (λ s. s.name.code) table.code scope.fields)
    (stands_in (λ p. p.name.code) key.code scope.params) (none_front faults keys h) (none_rest faults keys h)
form_fits scope (negation at a) h =
    record {
      sort = OfBool;
      is = refl;
      fits = asked_fits (sorts_in scope) (found_of scope a) (term_in scope a) OfBool (start_of a)
          (none_front (asked_faults OfBool scope a) (form_faults scope a) h) (form_fits scope a (none_rest (asked_faults OfBool scope a) (form_faults scope a) h));
    }
form_fits scope (joined op at a b) h =
    let front = none_front (operand_faults op scope a b ++ form_faults scope a) (form_faults scope b) h in
    joined_fits (sorts_in scope) op (found_of scope a) (found_of scope b) (term_in scope a) (term_in scope b) (start_of a) (start_of b)
    (none_front (operand_faults op scope a b) (form_faults scope a) front) (form_fits scope a (none_rest (operand_faults op scope a b) (form_faults scope a) front))
    (form_fits scope b (none_rest (operand_faults op scope a b ++ form_faults scope a) (form_faults scope b) h))
form_fits scope (chosen e at open_at a comma b close_at) h =
    let front = none_front (two_faults scope a b ++ form_faults scope a) (form_faults scope b) h in
    extreme_fits (sorts_in scope) e (two_found (found_of scope a) (found_of scope b)) (term_in scope a) (term_in scope b)
    (chosen_fits (sorts_in scope) (found_of scope a) (found_of scope b) (term_in scope a) (term_in scope b) (start_of a) (start_of b)
    (none_front (two_faults scope a b) (form_faults scope a) front) (form_fits scope a (none_rest (two_faults scope a b) (form_faults scope a) front))
    (form_fits scope b (none_rest (two_faults scope a b ++ form_faults scope a) (form_faults scope b) h)))
form_fits scope (branches at c then_at a else_at b) h =
    let four = none_front (asked_faults OfBool scope c ++ two_faults scope a b ++ form_faults scope c ++ form_faults scope a) (form_faults scope b) h in
    let three = none_front (asked_faults OfBool scope c ++ two_faults scope a b ++ form_faults scope c) (form_faults scope a) four in
    let two = none_front (asked_faults OfBool scope c ++ two_faults scope a b) (form_faults scope c) three in
    choice_fits (sorts_in scope) (two_found (found_of scope a) (found_of scope b)) (term_in scope c) (term_in scope a) (term_in scope b)
    (asked_fits (sorts_in scope) (found_of scope c) (term_in scope c) OfBool (start_of c) (none_front (asked_faults OfBool scope c) (two_faults scope a b) two)
    (form_fits scope c (none_rest (asked_faults OfBool scope c ++ two_faults scope a b) (form_faults scope c) three)))
    (chosen_fits (sorts_in scope) (found_of scope a) (found_of scope b) (term_in scope a) (term_in scope b) (start_of a) (start_of b)
    (none_rest (asked_faults OfBool scope c) (two_faults scope a b) two)
    (form_fits scope a (none_rest (asked_faults OfBool scope c ++ two_faults scope a b ++ form_faults scope c) (form_faults scope a) four))
    (form_fits scope b (none_rest (asked_faults OfBool scope c ++ two_faults scope a b ++ form_faults scope c ++ form_faults scope a) (form_faults scope b) h)))
form_fits scope (parens open_at a close_at) h = form_fits scope a h
