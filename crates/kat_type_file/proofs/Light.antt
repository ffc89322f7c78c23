-- How often an expression of an accepted type adds what it reads.
use Rattle.std.proofs.Common.{◌≡◌, ℕ, ◌+◌, ◌≤◌, Bool, true, false, not, List, [], ◌∷◌, ◌++◌, All, arith, refl, sym, ◌∙◌, ap, subst, Option, None, Some}
use Rattle.std.specs.Prelude.{if◌then◌else◌, max, nat_lt}
use Rattle.std.proofs.lemmas.Bool.{false≢true}
use Rattle.std.proofs.lemmas.List.Elements.{All-cons, All-nil}
use Rattle.kat_num.specs.declared.values.Sort.{Sort}
use Rattle.kat_num.specs.declared.values.Sort.TheVariants.{Bool as OfBool, Int as OfInt, Nat as OfNat, Name as OfName}
use Rattle.kat_expr.specs.Limits.{weight_of as term_weight}
use Rattle.kat_expr.specs.Sorts.{FitsSort}
use Rattle.kat_expr.specs.Sorts as expressions
use Rattle.kat_expr.specs.Terms.{Term}
use Rattle.kat_expr.specs.Terms.Term.{sum}
use Rattle.kat_grammar.specs.Phrases.{Form, form_of}
use Rattle.kat_grammar.specs.Phrases.Form.{constant, word, entry, negation, joined, chosen, branches, parens}
use Rattle.kat_grammar.specs.declared.marks.Extreme.{Extreme}
use Rattle.kat_grammar.specs.declared.marks.Extreme.TheVariants as extreme
use Rattle.kat_grammar.specs.declared.marks.Operator.{Operator}
use Rattle.kat_grammar.specs.declared.marks.Operator.TheVariants as operator
use Rattle.kat_grammar.specs.declared.phrases.Act.{Act}
use Rattle.kat_grammar.specs.declared.phrases.Act.TheVariants as act
use Rattle.kat_grammar.specs.declared.phrases.Assignment.{Assignment}
use Rattle.kat_grammar.specs.declared.phrases.Parameter.{Parameter}
use Rattle.kat_grammar.specs.declared.phrases.State.{State}
use Rattle.kat_judging.specs.Faults.{act_faults, act_word, asked_fault, asked_faults, assignment_faults, assignments_faults, again_faults, first_of, form_faults, is_other_family, is_truths, operand_fault, operand_faults, right_faults, start_of, target_faults, target_word, two_fault, two_faults}
use Rattle.kat_type_file.specs.Limits.{right_weight_faults, is_number, weight_of, word_weight}
use Rattle.kat_judging.specs.Names.{Scope, field_named, param_named}
use Rattle.kat_judging.specs.KnownSorts.{accepts, found_family, sum_found, two_found}
use Rattle.kat_judging.specs.Sorts.{found_of, operator_found}
use Rattle.kat_type_file.specs.Typing.{chosen_term, joined_term, term_in, word_term}
use Rattle.kat_judging.specs.declared.faults.Fault.{Fault}
use Rattle.kat_judging.specs.declared.found.Found.{Found}
use Rattle.kat_judging.specs.declared.found.Found.TheVariants.{Unknown, Exactly, SomeNumber}
use Rattle.kat_judging.specs.declared.names.Declared.{Declared}
use Rattle.kat_type_file.proofs.Refusals.{none_front, none_rest}
use Rattle.kat_type_file.proofs.Sorting.{FoundFits, first_truths, form_fits, if_none, second_family}

-- the weight if it may be a number, and otherwise 1
abbrev pub bound : Bool → ℕ → ℕ
bound number weight = if number then weight else 1

word_light : (p : Option (Declared Parameter)) (f : Option (Declared State)) (b : Bool) → term_weight (word_term p f) ≤ bound b (if b then word_weight p else 0)
word_light (Some p) f true = omega arith
word_light (Some p) f false = omega arith
word_light None f true = omega arith
word_light None f false = omega arith

entry_light : (b : Bool) → 1 ≤ bound b (if b then 1 else 0)
entry_light true = omega arith
entry_light false = omega arith

none_light : (n : ℕ) → 0 ≤ n
none_light n = omega arith

plus_light : (b x y : Bool) (t u v w : ℕ) → b ≡ true → x ≡ true → y ≡ true → t ≤ bound x v → u ≤ bound y w → t + u ≤ bound b (if b then v + w else 0)
plus_light false x y t u v w e f g h k = absurd (false≢true e)
plus_light true false y t u v w e f g h k = absurd (false≢true f)
plus_light true true false t u v w e f g h k = absurd (false≢true g)
plus_light true true true t u v w e f g h k = omega (arith, h, k)

number_accepted : (f : Found) → not (accepts OfInt f) ≡ false → is_number f ≡ true
number_accepted Unknown h = refl
number_accepted SomeNumber h = refl
number_accepted (Exactly OfBool) h = absurd (false≢true (sym h))
number_accepted (Exactly OfInt) h = refl
number_accepted (Exactly OfNat) h = refl
number_accepted (Exactly OfName) h = absurd (false≢true (sym h))

sum_number : (scope : expressions.Scope) (t u : Term) (s : Sort) → FitsSort scope (sum t u) s → is_number (Exactly s) ≡ true
sum_number scope t u OfBool h = absurd h
sum_number scope t u OfInt h = refl
sum_number scope t u OfNat h = refl
sum_number scope t u OfName h = absurd h

asked_number : (f : Found) (at : ℕ) → first_of (asked_fault OfInt f at) ≡ None → is_number f ≡ true
asked_number f at h = number_accepted f (if_none (not (accepts OfInt f)) 7 at h)

joined_light : (scope : expressions.Scope) (op : Operator) (f g : Found) (t u : Term) (x y v w : ℕ) → first_of (operand_fault op f x g y) ≡ None
    → FoundFits scope (operator_found op f g) (joined_term op t u) → term_weight t ≤ bound (is_number f) v → term_weight u ≤ bound (is_number g) w
    → term_weight (joined_term op t u) ≤ bound (is_number (operator_found op f g)) (if is_number (operator_found op f g) then v + w else 0)
joined_light scope operator.Or f g t u x y v w h r k l = none_light _
joined_light scope operator.And f g t u x y v w h r k l = none_light _
joined_light scope operator.Less f g t u x y v w h r k l = none_light _
joined_light scope operator.AtMost f g t u x y v w h r k l = none_light _
joined_light scope operator.Same f g t u x y v w h r k l = none_light _
joined_light scope operator.Plus f g t u x y v w h r k l =
    plus_light (is_number (sum_found f g)) (is_number f) (is_number g) (term_weight t) (term_weight u) v w
    (ap is_number r.is ∙ sum_number scope t u r.sort r.fits)
    (asked_number f x (none_front (asked_fault OfInt f x) (asked_fault OfInt g y) h))
    (asked_number g y (none_rest (asked_fault OfInt f x) (asked_fault OfInt g y) h)) k l
joined_light scope operator.Minus f g t u x y v w h r k l =
    plus_light true (is_number f) (is_number g) (term_weight t) (term_weight u) v w refl
    (asked_number f x (none_front (asked_fault OfInt f x) (asked_fault OfInt g y) h))
    (asked_number g y (none_rest (asked_fault OfInt f x) (asked_fault OfInt g y) h)) k l

greatest_within : (t u v w : ℕ) → t ≤ v → u ≤ w → max t u ≤ max v w
greatest_within t u v w h k = grind arith

greatest_one : (t u : ℕ) → t ≤ 1 → u ≤ 1 → max t u ≤ 1
greatest_one t u h k = grind arith

two_sorts : (a b : Sort) (t u v w : ℕ) → is_truths (found_family (Exactly a)) ≡ false → is_other_family (found_family (Exactly a)) (found_family (Exactly b)) ≡ false
    → t ≤ bound (is_number (Exactly a)) v → u ≤ bound (is_number (Exactly b)) w
    → max t u ≤ bound (is_number (two_found (Exactly a) (Exactly b))) (if is_number (two_found (Exactly a) (Exactly b)) then max v w else 0)
two_sorts OfBool b t u v w h k l m = absurd (false≢true (sym h))
two_sorts OfInt OfInt t u v w h k l m = greatest_within t u v w l m
two_sorts OfInt OfNat t u v w h k l m = greatest_within t u v w l m
two_sorts OfNat OfInt t u v w h k l m = greatest_within t u v w l m
two_sorts OfNat OfNat t u v w h k l m = greatest_within t u v w l m
two_sorts OfName OfName t u v w h k l m = greatest_one t u l m
two_sorts a b t u v w h k l m = absurd (false≢true (sym k))

two_light : (scope : expressions.Scope) (f g : Found) (t u : Term) (x y v w : ℕ) → first_of (two_fault f x g y) ≡ None → FoundFits scope f t → FoundFits scope g u
    → term_weight t ≤ bound (is_number f) v → term_weight u ≤ bound (is_number g) w
    → max (term_weight t) (term_weight u) ≤ bound (is_number (two_found f g)) (if is_number (two_found f g) then max v w else 0)
two_light scope f g t u x y v w h r s k l =
    let P : Found → Found → Type 0 = λ a b. is_truths (found_family a) ≡ false → is_other_family (found_family a) (found_family b) ≡ false
    → term_weight t ≤ bound (is_number a) v → term_weight u ≤ bound (is_number b) w
    → max (term_weight t) (term_weight u) ≤ bound (is_number (two_found a b)) (if is_number (two_found a b) then max v w else 0) in
    let sorts : P (Exactly r.sort) (Exactly s.sort) = two_sorts r.sort s.sort (term_weight t) (term_weight u) v w in
    let right : P (Exactly r.sort) g = subst (λ b. P (Exactly r.sort) b) (sym s.is) sorts in
    let whole : P f g = subst (λ a. P a g) (sym r.is) right in
    whole (first_truths f g x y h) (second_family f g x y h) k l

extreme_light : (e : Extreme) (t u : Term) (n : ℕ) → max (term_weight t) (term_weight u) ≤ n → term_weight (chosen_term e t u) ≤ n
extreme_light extreme.Greatest t u n h = h
extreme_light extreme.Least t u n h = h

-- the weight of an expression that breaks no rule is the weight of its form, if that may be a number, and otherwise at most 1
pub light : (scope : Scope) (a : Form) → first_of (form_faults scope a) ≡ None → term_weight (term_in scope a) ≤ bound (is_number (found_of scope a)) (weight_of scope a)
light scope (constant c) h = none_light _
light scope (word w) h = word_light (param_named scope w.code) (field_named scope w.code) (is_number (found_of scope (word w)))
light scope (entry table open_at key close_at) h = entry_light (is_number (found_of scope (entry table open_at key close_at)))
light scope (negation at a) h = none_light _
light scope (joined op at a b) h =
    let front = none_front (operand_faults op scope a b ++ form_faults scope a) (form_faults scope b) h in
    joined_light _ op (found_of scope a) (found_of scope b) (term_in scope a) (term_in scope b) (start_of a) (start_of b) (weight_of scope a) (weight_of scope b)
    (none_front (operand_faults op scope a b) (form_faults scope a) front) (form_fits scope (joined op at a b) h)
    (light scope a (none_rest (operand_faults op scope a b) (form_faults scope a) front))
    (light scope b (none_rest (operand_faults op scope a b ++ form_faults scope a) (form_faults scope b) h))
light scope (chosen e at open_at a comma b close_at) h =
    let front = none_front (two_faults scope a b ++ form_faults scope a) (form_faults scope b) h in
    let left = none_rest (two_faults scope a b) (form_faults scope a) front in
    let right = none_rest (two_faults scope a b ++ form_faults scope a) (form_faults scope b) h in
    extreme_light e (term_in scope a) (term_in scope b) _
    (two_light _ (found_of scope a) (found_of scope b) (term_in scope a) (term_in scope b) (start_of a) (start_of b) (weight_of scope a) (weight_of scope b)
    (none_front (two_faults scope a b) (form_faults scope a) front) (form_fits scope a left) (form_fits scope b right) (light scope a left) (light scope b right))
light scope (branches at c then_at a else_at b) h =
    let four = none_front (asked_faults OfBool scope c ++ two_faults scope a b ++ form_faults scope c ++ form_faults scope a) (form_faults scope b) h in
    let three = none_front (asked_faults OfBool scope c ++ two_faults scope a b ++ form_faults scope c) (form_faults scope a) four in
    let two = none_front (asked_faults OfBool scope c ++ two_faults scope a b) (form_faults scope c) three in
    let left = none_rest (asked_faults OfBool scope c ++ two_faults scope a b ++ form_faults scope c) (form_faults scope a) four in
    let right = none_rest (asked_faults OfBool scope c ++ two_faults scope a b ++ form_faults scope c ++ form_faults scope a) (form_faults scope b) h in
    two_light _ (found_of scope a) (found_of scope b) (term_in scope a) (term_in scope b) (start_of a) (start_of b) (weight_of scope a) (weight_of scope b)
    (none_rest (asked_faults OfBool scope c) (two_faults scope a b) two) (form_fits scope a left) (form_fits scope b right) (light scope a left) (light scope b right)
light scope (parens open_at a close_at) h = light scope a h

one_bound : (b : Bool) (n m : ℕ) → n ≤ bound b m → m ≤ 1 → n ≤ 1
one_bound true n m h k = omega (arith, h, k)
one_bound false n m h k = h

at_most_one : (n : ℕ) → nat_lt 1 n ≡ false → n ≤ 1
at_most_one n h = grind arith

-- a right side adds up at most one read
pub right_light : (scope : Scope) (right : Form) → first_of (form_faults scope right) ≡ None → first_of (right_weight_faults scope right) ≡ None
    → term_weight (term_in scope right) ≤ 1
right_light scope right h k =
    one_bound (is_number (found_of scope right)) (term_weight (term_in scope right)) (weight_of scope right) (light scope right h)
    (at_most_one (weight_of scope right) (if_none (nat_lt 1 (weight_of scope right)) 9 (start_of right) k))

-- the rules that a right side breaks, if there is one
abbrev pub right_broken : Scope → Act → List Fault
right_broken scope (act.Set to assign right) = form_faults scope (form_of right)
right_broken scope (act.Clear at table) = []

right_none : (before : List ℕ) (scope : Scope) (a : Act) → first_of (act_faults before scope a) ≡ None → first_of (right_broken scope a) ≡ None
right_none before scope (act.Set to assign right) h =
    let targets : List Fault = target_faults scope to in
    let again : List Fault = again_faults before (field_named scope (target_word to).code) (target_word to) in
    let rights : List Fault = right_faults (field_named scope (target_word to).code) scope (form_of right) in
    none_rest (targets ++ again ++ rights) (form_faults scope (form_of right)) h
right_none before scope (act.Clear at table) h = refl

pub each_right : (before : List ℕ) (scope : Scope) (xs : List Assignment) → first_of (assignments_faults before scope xs) ≡ None
    → All (λ (a : Assignment). first_of (right_broken scope a.act) ≡ None) xs
each_right before scope [] h = All-nil (λ (a : Assignment). first_of (right_broken scope a.act) ≡ None)
each_right before scope (a ∷ xs) h =
    let rest : List Fault = assignments_faults (before ++ (act_word a.act).code ∷ []) scope xs in
    All-cons (λ (a : Assignment). first_of (right_broken scope a.act) ≡ None) a xs
    (right_none before scope a.act (none_front (assignment_faults before scope a) rest h))
    (each_right (before ++ (act_word a.act).code ∷ []) scope xs (none_rest (assignment_faults before scope a) rest h))
