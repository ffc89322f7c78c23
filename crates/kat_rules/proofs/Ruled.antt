-- The tests of a listing's rules tell what the rules say.
use Rattle.std.proofs.Common.{◌≡◌, ℕ, zero, suc, ◌+◌, ◌<◌, ◌⊎◌, inl, inr, Bool, true, false, List, [], ◌∷◌, map, refl, sym, ◌∙◌, ap, subst, arith, Option, None, Some}
use Rattle.std.specs.Prelude.{not, ◌==◌, ◌&&◌, ◌||◌}
use Rattle.std.specs.List.{list_all, range_with_len}
use Rattle.std.proofs.lemmas.Bool.{eqb-true}
use Rattle.std.proofs.lemmas.Grind.{common_steps}
use Rattle.kat_num.specs.declared.values.Value.{Value}
use Rattle.kat_num.specs.declared.values.Value.TheVariants as value
use Rattle.kat_walk.specs.Machines.{Ascends, IsOneOf}
use Rattle.kat_design.specs.Designs.{ComponentForm, AskForm}
use Rattle.kat_design.specs.Designs.ComponentForm.{a_cell, a_table, a_set, a_tally, tallies}
use Rattle.kat_design.specs.Designs.AskForm.{leaf, parameter, constant, negation, both, either, less, sum, difference}
use Rattle.kat_design.specs.Kinds.{value_kind}
use Rattle.kat_design.specs.Sorted.{EachHas}
use Rattle.kat_rules.specs.Constants.{has_value, is_same_value, of_kind}
use Rattle.kat_rules.specs.Listed.{AreStarts, HasConstants, HasEffect, HasKindOf, HasSome, IsConstant, IsOrdered, Reads, SomeReads}
use Rattle.kat_rules.specs.Orders.{come_before}
use Rattle.kat_rules.specs.Tests.{are_read, are_starts, has_constants, has_effect, has_kind_of, has_some, in_order, is_ascending, is_below, is_constant, is_ordered, is_start, reads, some_reads}
use Rattle.kat_rules.specs.Tokens.{ask_tokens, cell_effect, set_effect, starts_of, table_effect, tallies_effect, tally_effect}
use Rattle.kat_rules.specs.declared.constants.Constants.{Constants}
use Rattle.kat_rules.specs.declared.kind_sets.Kinds.{Kinds}
use Rattle.kat_rules.specs.declared.tokens.Token.{Token}
use Rattle.kat_rules.proofs.Values.{same_value, one_counted, value_itself}
use Rattle.kat_rules.proofs.Ranked.{below_tested, below_told, never_below, not_below}
use Rattle.kat_rules.proofs.Comparing.{and_first, and_second, or_cases}

-- a test that is true if and only if something holds
pub record Tells {A : Type 0} (test : A → Bool) (P : A → Type 0) : Type 0 where
  pub is : (x : A) → test x ≡ true → P x
  pub was : (x : A) → P x → test x ≡ true

pub both_true : (a b : Bool) → a ≡ true → b ≡ true → a && b ≡ true
both_true true b h k = k
both_true false b h k = absurd cc

or_first : (a b : Bool) → a ≡ true → a || b ≡ true
or_first true b h = refl
or_first false b h = absurd cc

or_second : (a b : Bool) → b ≡ true → a || b ≡ true
or_second true b h = refl
or_second false b h = h

not_true : (a : Bool) → not a ≡ true → a ≡ false
not_true true h = absurd cc
not_true false h = refl

not_false : (a : Bool) → a ≡ false → not a ≡ true
not_false true h = absurd cc
not_false false h = refl

each_is : {A : Type 0} (test : A → Bool) (P : A → Type 0) → Tells test P → (xs : List A) → list_all test xs ≡ true → EachHas P xs
each_is test P t [] h = tt
each_is test P t (x ∷ xs) h = (t.is x (and_first (test x) (list_all test xs) h), each_is test P t xs (and_second (test x) (list_all test xs) h))

each_was : {A : Type 0} (test : A → Bool) (P : A → Type 0) → Tells test P → (xs : List A) → EachHas P xs → list_all test xs ≡ true
each_was test P t [] h = refl
each_was test P t (x ∷ xs) h = both_true (test x) (list_all test xs) (t.was x h.0) (each_was test P t xs h.1)

pub each_tells : {A : Type 0} (test : A → Bool) (P : A → Type 0) → Tells test P → Tells (list_all test) (EachHas P)
each_tells test P t = record { is = λ xs h. each_is test P t xs h; was = λ xs h. each_was test P t xs h }

-- the kinds of components
kind_is : (kinds : Kinds) (c : ComponentForm) → has_kind_of kinds c ≡ true → HasKindOf kinds c
kind_is kinds (a_cell shape starts effects) h = h
kind_is kinds (a_table key shape starts effects) h = h
kind_is kinds (a_set key effects) h = h
kind_is kinds (a_tally effects) h = h
kind_is kinds (tallies key effects) h = h

kind_was : (kinds : Kinds) (c : ComponentForm) → HasKindOf kinds c → has_kind_of kinds c ≡ true
kind_was kinds (a_cell shape starts effects) h = h
kind_was kinds (a_table key shape starts effects) h = h
kind_was kinds (a_set key effects) h = h
kind_was kinds (a_tally effects) h = h
kind_was kinds (tallies key effects) h = h

pub kinds_tell : (kinds : Kinds) → Tells (has_kind_of kinds) (HasKindOf kinds)
kinds_tell kinds = record { is = kind_is kinds; was = kind_was kinds }

-- effects
abbrev KeepsSome : {A B : Type 0} → (Option A → Option B) → Type 0
KeepsSome {A} {B} g = (g None ≡ None) × ((x : A) → (y : B) × (g (Some x) ≡ Some y))

some_is : {A B : Type 0} (g : Option A → Option B) → KeepsSome g → (es : List (Option A)) → has_some es ≡ true → HasSome (map g es)
some_is g k [] h = absurd cc
some_is g k (None ∷ es) h = subst (λ (o : Option _). HasSome (o ∷ map g es)) (sym k.0) (some_is g k es h)
some_is g k (Some x ∷ es) h = subst (λ (o : Option _). HasSome (o ∷ map g es)) (sym (k.1 x).1) tt

some_was : {A B : Type 0} (g : Option A → Option B) → KeepsSome g → (es : List (Option A)) → HasSome (map g es) → has_some es ≡ true
some_was g k [] h = absurd h
some_was g k (None ∷ es) h = some_was g k es (subst (λ (o : Option _). HasSome (o ∷ map g es)) k.0 h)
some_was g k (Some x ∷ es) h = refl

cell_keeps : KeepsSome cell_effect
cell_keeps = (refl, λ x. (_, refl))

table_keeps : KeepsSome table_effect
table_keeps = (refl, λ x. (_, refl))

set_keeps : KeepsSome set_effect
set_keeps = (refl, λ x. (_, refl))

tally_keeps : KeepsSome tally_effect
tally_keeps = (refl, λ x. (_, refl))

tallies_keep : KeepsSome tallies_effect
tallies_keep = (refl, λ x. (_, refl))

effect_is : (c : ComponentForm) → has_effect c ≡ true → HasEffect c
effect_is (a_cell shape starts effects) h = some_is cell_effect cell_keeps effects h
effect_is (a_table key shape starts effects) h = some_is table_effect table_keeps effects h
effect_is (a_set key effects) h = some_is set_effect set_keeps effects h
effect_is (a_tally effects) h = some_is tally_effect tally_keeps effects h
effect_is (tallies key effects) h = some_is tallies_effect tallies_keep effects h

effect_was : (c : ComponentForm) → HasEffect c → has_effect c ≡ true
effect_was (a_cell shape starts effects) h = some_was cell_effect cell_keeps effects h
effect_was (a_table key shape starts effects) h = some_was table_effect table_keeps effects h
effect_was (a_set key effects) h = some_was set_effect set_keeps effects h
effect_was (a_tally effects) h = some_was tally_effect tally_keeps effects h
effect_was (tallies key effects) h = some_was tallies_effect tallies_keep effects h

pub effects_tell : Tells has_effect HasEffect
effects_tell = record { is = effect_is; was = effect_was }

-- reads
number_itself : (i n : ℕ) → i ≡ n → i == n ≡ true
number_itself i n e = grind (arith, common_steps)

two_is : (a b : Bool) (P Q : Type 0) → (a ≡ true → P) → (b ≡ true → Q) → a || b ≡ true → P ⊎ Q
two_is a b P Q f g h = elim (or_cases a b h) as (λ _. P ⊎ Q) [ inl l ↦ inl (f l) | inr r ↦ inr (g r) ]

two_was : (a b : Bool) (P Q : Type 0) → (P → a ≡ true) → (Q → b ≡ true) → P ⊎ Q → a || b ≡ true
two_was a b P Q f g (inl p) = or_first a b (f p)
two_was a b P Q f g (inr q) = or_second a b (g q)

read_is : (i : ℕ) (a : AskForm) → reads i a ≡ true → Reads i a
read_is i (leaf component place key) h = eqb-true i component h
read_is i (parameter place) h = absurd cc
read_is i (constant v) h = absurd cc
read_is i (negation a) h = read_is i a h
read_is i (both a b) h = two_is (reads i a) (reads i b) (Reads i a) (Reads i b) (λ k. read_is i a k) (λ k. read_is i b k) h
read_is i (either a b) h = two_is (reads i a) (reads i b) (Reads i a) (Reads i b) (λ k. read_is i a k) (λ k. read_is i b k) h
read_is i (less a b) h = two_is (reads i a) (reads i b) (Reads i a) (Reads i b) (λ k. read_is i a k) (λ k. read_is i b k) h
read_is i (sum a b) h = two_is (reads i a) (reads i b) (Reads i a) (Reads i b) (λ k. read_is i a k) (λ k. read_is i b k) h
read_is i (difference a b) h = two_is (reads i a) (reads i b) (Reads i a) (Reads i b) (λ k. read_is i a k) (λ k. read_is i b k) h

read_was : (i : ℕ) (a : AskForm) → Reads i a → reads i a ≡ true
read_was i (leaf component place key) h = number_itself i component h
read_was i (parameter place) h = absurd h
read_was i (constant v) h = absurd h
read_was i (negation a) h = read_was i a h
read_was i (both a b) h = two_was (reads i a) (reads i b) (Reads i a) (Reads i b) (λ k. read_was i a k) (λ k. read_was i b k) h
read_was i (either a b) h = two_was (reads i a) (reads i b) (Reads i a) (Reads i b) (λ k. read_was i a k) (λ k. read_was i b k) h
read_was i (less a b) h = two_was (reads i a) (reads i b) (Reads i a) (Reads i b) (λ k. read_was i a k) (λ k. read_was i b k) h
read_was i (sum a b) h = two_was (reads i a) (reads i b) (Reads i a) (Reads i b) (λ k. read_was i a k) (λ k. read_was i b k) h
read_was i (difference a b) h = two_was (reads i a) (reads i b) (Reads i a) (Reads i b) (λ k. read_was i a k) (λ k. read_was i b k) h

some_read_is : (i : ℕ) (asks : List AskForm) → some_reads i asks ≡ true → SomeReads i asks
some_read_is i [] h = absurd cc
some_read_is i (a ∷ asks) h = two_is (reads i a) (some_reads i asks) (Reads i a) (SomeReads i asks) (λ k. read_is i a k) (λ k. some_read_is i asks k) h

some_read_was : (i : ℕ) (asks : List AskForm) → SomeReads i asks → some_reads i asks ≡ true
some_read_was i [] h = absurd h
some_read_was i (a ∷ asks) h = two_was (reads i a) (some_reads i asks) (Reads i a) (SomeReads i asks) (λ k. read_was i a k) (λ k. some_read_was i asks k) h

all_at : {A : Type 0} (test : A → Bool) (xs : List A) (x : A) → list_all test xs ≡ true → IsOneOf x xs → test x ≡ true
all_at test [] x h o = absurd o
all_at test (y ∷ ys) x h (inl e) = ap test e ∙ and_first (test y) (list_all test ys) h
all_at test (y ∷ ys) x h (inr o) = all_at test ys x (and_second (test y) (list_all test ys) h) o

all_from : {A : Type 0} (test : A → Bool) (xs : List A) → ((x : A) → IsOneOf x xs → test x ≡ true) → list_all test xs ≡ true
all_from test [] f = refl
all_from test (y ∷ ys) f = both_true (test y) (list_all test ys) (f y (inl refl)) (all_from test ys (λ x o. f x (inr o)))

range_below : (a n j : ℕ) → IsOneOf j (range_with_len a n) → j < a + n
range_below a zero j h = absurd h
range_below a (suc n) j (inl e) = omega (arith, e)
range_below a (suc n) j (inr h) = let l = range_below (a + 1) n j h in omega (arith, l)

pub all_read_is : (n : ℕ) (asks : List AskForm) → are_read n asks ≡ true → (i : ℕ) → i < n → SomeReads i asks
all_read_is n asks h i l = some_read_is i asks (all_at (λ (k : ℕ). some_reads k asks) (range_with_len 0 n) i h (one_counted 0 n i i (omega arith) l))

pub all_read_was : (n : ℕ) (asks : List AskForm) → ((i : ℕ) → i < n → SomeReads i asks) → are_read n asks ≡ true
all_read_was n asks f = all_from (λ (k : ℕ). some_reads k asks) (range_with_len 0 n) (λ k o. some_read_was k asks (f k (let b = range_below 0 n k o in omega (arith, b))))

-- ascending components
below_all : (f : ComponentForm → List Token) (w : List Token) (cs : List ComponentForm) → list_all (is_below w) (map f cs) ≡ true → (v : ComponentForm) → IsOneOf v cs → come_before w (f v)
below_all f w [] h v o = absurd o
below_all f w (c ∷ cs) h v (inl e) = subst (λ (z : ComponentForm). come_before w (f z)) (sym e) (below_tested w (f c) (and_first (is_below w (f c)) (list_all (is_below w) (map f cs)) h))
below_all f w (c ∷ cs) h v (inr o) = below_all f w cs (and_second (is_below w (f c)) (list_all (is_below w) (map f cs)) h) v o

all_below : (f : ComponentForm → List Token) (w : List Token) (cs : List ComponentForm) → ((v : ComponentForm) → IsOneOf v cs → come_before w (f v)) → list_all (is_below w) (map f cs) ≡ true
all_below f w [] h = refl
all_below f w (c ∷ cs) h = both_true (is_below w (f c)) (list_all (is_below w) (map f cs)) (below_told w (f c) (h c (inl refl))) (all_below f w cs (λ v o. h v (inr o)))

pub ascending_is : (f : ComponentForm → List Token) (cs : List ComponentForm) → is_ascending (map f cs) ≡ true → Ascends (λ (a : ComponentForm) (b : ComponentForm). come_before (f a) (f b)) cs
ascending_is f [] h = tt
ascending_is f (c ∷ cs) h = (
  below_all f (f c) cs (and_first (list_all (is_below (f c)) (map f cs)) (is_ascending (map f cs)) h),
  ascending_is f cs (and_second (list_all (is_below (f c)) (map f cs)) (is_ascending (map f cs)) h),
)

pub ascending_was : (f : ComponentForm → List Token) (cs : List ComponentForm) → Ascends (λ (a : ComponentForm) (b : ComponentForm). come_before (f a) (f b)) cs → is_ascending (map f cs) ≡ true
ascending_was f [] h = refl
ascending_was f (c ∷ cs) h = both_true (list_all (is_below (f c)) (map f cs)) (is_ascending (map f cs)) (all_below f (f c) cs h.0) (ascending_was f cs h.1)

-- operands
order_is : (cs : Constants) (a b : AskForm) → in_order cs a b ≡ true → come_before (ask_tokens cs b) (ask_tokens cs a) → ⊥
order_is cs a b h = not_below (ask_tokens cs b) (ask_tokens cs a) (not_true (is_below (ask_tokens cs b) (ask_tokens cs a)) h)

order_was : (cs : Constants) (a b : AskForm) → (come_before (ask_tokens cs b) (ask_tokens cs a) → ⊥) → in_order cs a b ≡ true
order_was cs a b h = not_false (is_below (ask_tokens cs b) (ask_tokens cs a)) (never_below (ask_tokens cs b) (ask_tokens cs a) h)

three_is : (a b c : Bool) (P Q R : Type 0) → (a ≡ true → P) → (b ≡ true → Q) → (c ≡ true → R) → a && (b && c) ≡ true → P × Q × R
three_is a b c P Q R f g k h = let r = and_second a (b && c) h in (f (and_first a (b && c) h), g (and_first b c r), k (and_second b c r))

three_was : (a b c : Bool) (P Q R : Type 0) → (P → a ≡ true) → (Q → b ≡ true) → (R → c ≡ true) → P × Q × R → a && (b && c) ≡ true
three_was a b c P Q R f g k h = both_true a (b && c) (f h.0) (both_true b c (g h.1) (k h.2))

pair_is : (a b : Bool) (P Q : Type 0) → (a ≡ true → P) → (b ≡ true → Q) → a && b ≡ true → P × Q
pair_is a b P Q f g h = (f (and_first a b h), g (and_second a b h))

pair_was : (a b : Bool) (P Q : Type 0) → (P → a ≡ true) → (Q → b ≡ true) → P × Q → a && b ≡ true
pair_was a b P Q f g h = both_true a b (f h.0) (g h.1)

abbrev IsInOrder : Constants → AskForm → AskForm → Type 0
IsInOrder cs a b = come_before (ask_tokens cs b) (ask_tokens cs a) → ⊥

ordered_is : (cs : Constants) (a : AskForm) → is_ordered cs a ≡ true → IsOrdered cs a
ordered_is cs (leaf component place key) h = tt
ordered_is cs (parameter place) h = tt
ordered_is cs (constant v) h = tt
ordered_is cs (negation a) h = ordered_is cs a h
ordered_is cs (both a b) h = three_is (in_order cs a b) (is_ordered cs a) (is_ordered cs b) (IsInOrder cs a b) (IsOrdered cs a) (IsOrdered cs b) (order_is cs a b) (λ k. ordered_is cs a k) (λ k. ordered_is cs b k) h
ordered_is cs (either a b) h = three_is (in_order cs a b) (is_ordered cs a) (is_ordered cs b) (IsInOrder cs a b) (IsOrdered cs a) (IsOrdered cs b) (order_is cs a b) (λ k. ordered_is cs a k) (λ k. ordered_is cs b k) h
ordered_is cs (less a b) h = pair_is (is_ordered cs a) (is_ordered cs b) (IsOrdered cs a) (IsOrdered cs b) (λ k. ordered_is cs a k) (λ k. ordered_is cs b k) h
ordered_is cs (sum a b) h = three_is (in_order cs a b) (is_ordered cs a) (is_ordered cs b) (IsInOrder cs a b) (IsOrdered cs a) (IsOrdered cs b) (order_is cs a b) (λ k. ordered_is cs a k) (λ k. ordered_is cs b k) h
ordered_is cs (difference a b) h = pair_is (is_ordered cs a) (is_ordered cs b) (IsOrdered cs a) (IsOrdered cs b) (λ k. ordered_is cs a k) (λ k. ordered_is cs b k) h

ordered_was : (cs : Constants) (a : AskForm) → IsOrdered cs a → is_ordered cs a ≡ true
ordered_was cs (leaf component place key) h = refl
ordered_was cs (parameter place) h = refl
ordered_was cs (constant v) h = refl
ordered_was cs (negation a) h = ordered_was cs a h
ordered_was cs (both a b) h = three_was (in_order cs a b) (is_ordered cs a) (is_ordered cs b) (IsInOrder cs a b) (IsOrdered cs a) (IsOrdered cs b) (order_was cs a b) (λ k. ordered_was cs a k) (λ k. ordered_was cs b k) h
ordered_was cs (either a b) h = three_was (in_order cs a b) (is_ordered cs a) (is_ordered cs b) (IsInOrder cs a b) (IsOrdered cs a) (IsOrdered cs b) (order_was cs a b) (λ k. ordered_was cs a k) (λ k. ordered_was cs b k) h
ordered_was cs (less a b) h = pair_was (is_ordered cs a) (is_ordered cs b) (IsOrdered cs a) (IsOrdered cs b) (λ k. ordered_was cs a k) (λ k. ordered_was cs b k) h
ordered_was cs (sum a b) h = three_was (in_order cs a b) (is_ordered cs a) (is_ordered cs b) (IsInOrder cs a b) (IsOrdered cs a) (IsOrdered cs b) (order_was cs a b) (λ k. ordered_was cs a k) (λ k. ordered_was cs b k) h
ordered_was cs (difference a b) h = pair_was (is_ordered cs a) (is_ordered cs b) (IsOrdered cs a) (IsOrdered cs b) (λ k. ordered_was cs a k) (λ k. ordered_was cs b k) h

pub orders_tell : (cs : Constants) → Tells (is_ordered cs) (IsOrdered cs)
orders_tell cs = record { is = ordered_is cs; was = ordered_was cs }

-- constants
value_is : (values : List Value) (v : Value) → has_value values v ≡ true → IsOneOf v values
value_is [] v h = absurd cc
value_is (u ∷ us) v h =
    elim (or_cases (is_same_value u v) (has_value us v) h) as (λ _. IsOneOf v (u ∷ us)) [ inl e ↦ inl (sym (same_value u v e)) | inr r ↦ inr (value_is us v r) ]

value_was : (values : List Value) (v : Value) → IsOneOf v values → has_value values v ≡ true
value_was [] v h = absurd h
value_was (u ∷ us) v (inl e) = or_first (is_same_value u v) (has_value us v) (ap (λ (x : Value). is_same_value x v) (sym e) ∙ value_itself v)
value_was (u ∷ us) v (inr h) = or_second (is_same_value u v) (has_value us v) (value_was us v h)

starts_tell_one : (cs : Constants) → Tells (is_start cs) (λ (v : Value). IsOneOf v (of_kind cs (value_kind v)))
starts_tell_one cs = record { is = λ v h. value_is (of_kind cs (value_kind v)) v h; was = λ v h. value_was (of_kind cs (value_kind v)) v h }

pub starts_tell : (cs : Constants) → Tells (are_starts cs) (AreStarts cs)
starts_tell cs =
    let e = each_tells (is_start cs) (λ (v : Value). IsOneOf v (of_kind cs (value_kind v))) (starts_tell_one cs) in
    record { is = λ c h. e.is (starts_of c) h; was = λ c h. e.was (starts_of c) h }

constant_is : (cs : Constants) (v : Value) → is_constant cs v ≡ true → IsConstant cs v
constant_is cs (value.Bool b) h = tt
constant_is cs (value.Num z) h = value_is cs.numbers (value.Num z) h
constant_is cs (value.Name code) h = value_is cs.names (value.Name code) h

constant_was : (cs : Constants) (v : Value) → IsConstant cs v → is_constant cs v ≡ true
constant_was cs (value.Bool b) h = refl
constant_was cs (value.Num z) h = value_was cs.numbers (value.Num z) h
constant_was cs (value.Name code) h = value_was cs.names (value.Name code) h

known_is : (cs : Constants) (a : AskForm) → has_constants cs a ≡ true → HasConstants cs a
known_is cs (leaf component place key) h = tt
known_is cs (parameter place) h = tt
known_is cs (constant v) h = constant_is cs v h
known_is cs (negation a) h = known_is cs a h
known_is cs (both a b) h = pair_is (has_constants cs a) (has_constants cs b) (HasConstants cs a) (HasConstants cs b) (λ k. known_is cs a k) (λ k. known_is cs b k) h
known_is cs (either a b) h = pair_is (has_constants cs a) (has_constants cs b) (HasConstants cs a) (HasConstants cs b) (λ k. known_is cs a k) (λ k. known_is cs b k) h
known_is cs (less a b) h = pair_is (has_constants cs a) (has_constants cs b) (HasConstants cs a) (HasConstants cs b) (λ k. known_is cs a k) (λ k. known_is cs b k) h
known_is cs (sum a b) h = pair_is (has_constants cs a) (has_constants cs b) (HasConstants cs a) (HasConstants cs b) (λ k. known_is cs a k) (λ k. known_is cs b k) h
known_is cs (difference a b) h = pair_is (has_constants cs a) (has_constants cs b) (HasConstants cs a) (HasConstants cs b) (λ k. known_is cs a k) (λ k. known_is cs b k) h

known_was : (cs : Constants) (a : AskForm) → HasConstants cs a → has_constants cs a ≡ true
known_was cs (leaf component place key) h = refl
known_was cs (parameter place) h = refl
known_was cs (constant v) h = constant_was cs v h
known_was cs (negation a) h = known_was cs a h
known_was cs (both a b) h = pair_was (has_constants cs a) (has_constants cs b) (HasConstants cs a) (HasConstants cs b) (λ k. known_was cs a k) (λ k. known_was cs b k) h
known_was cs (either a b) h = pair_was (has_constants cs a) (has_constants cs b) (HasConstants cs a) (HasConstants cs b) (λ k. known_was cs a k) (λ k. known_was cs b k) h
known_was cs (less a b) h = pair_was (has_constants cs a) (has_constants cs b) (HasConstants cs a) (HasConstants cs b) (λ k. known_was cs a k) (λ k. known_was cs b k) h
known_was cs (sum a b) h = pair_was (has_constants cs a) (has_constants cs b) (HasConstants cs a) (HasConstants cs b) (λ k. known_was cs a k) (λ k. known_was cs b k) h
known_was cs (difference a b) h = pair_was (has_constants cs a) (has_constants cs b) (HasConstants cs a) (HasConstants cs b) (λ k. known_was cs a k) (λ k. known_was cs b k) h

pub constants_tell : (cs : Constants) → Tells (has_constants cs) (HasConstants cs)
constants_tell cs = record { is = known_is cs; was = known_was cs }
