-- Operations and queries by their numbers.
use Rattle.std.proofs.Common.{◌≡◌, ℕ, zero, suc, ◌+◌, ◌<◌, ◌≤◌, Bool, true, false, not, cond, eqb, ltb, List, [], ◌∷◌, length, refl, sym, ◌∙◌, ap, subst, arith, Option, None, Some}
use Rattle.std.specs.Prelude.{MatchOption, option_map, position, slice_get}
use Rattle.std.specs.List.{position_or_len}
use Rattle.std.proofs.lemmas.Bool.Decides.{nat_tests}
use Rattle.kat_actions.specs.Texts.{FitsSignature}
use Rattle.kat_actions.specs.declared.calls.Call.{Call}
use Rattle.kat_actions.specs.declared.calls.Verb.{Verb}
use Rattle.kat_actions.specs.declared.calls.Verb.TheVariants.{Do, Ask}
use Rattle.kat_design.specs.Sorted.{AreMatched}
use Rattle.kat_num.specs.One.{IsTheOne}
use Rattle.kat_num.specs.declared.values.Sort.{Sort}
use Rattle.kat_num.specs.declared.values.Value.{Value}
use Rattle.kat_script.specs.Judged.{AreArguments}
use Rattle.kat_type.specs.declared.signatures.OpSig.{OpSig}
use Rattle.kat_type.specs.declared.signatures.QuerySig.{QuerySig}
use Rattle.kat_type.specs.declared.signatures.Signature.{Signature}
use Rattle.kat_embed.specs.Numbered.{IsNumbered, name_at, sorts_at}
use Rattle.kat_embed.specs.Passing.{ArePassed, Says}
use Rattle.kat_embed.specs.declared.passing.TaggedValue.{TaggedValue}
use Rattle.kat_embed.proofs.Passed.{place_less, place_none, place_some}

-- what is passed says arguments, which are of their sorts
passed_say : (sorts : List Sort) (passed : List TaggedValue) (values : List Value) → ArePassed sorts passed values → AreMatched Says passed values × AreArguments sorts values
passed_say [] [] [] h = (tt, tt)
passed_say [] [] (v ∷ values) h = absurd h
passed_say [] (one ∷ passed) values h = absurd h
passed_say (s ∷ sorts) [] values h = absurd h
passed_say (s ∷ sorts) (one ∷ passed) [] h = absurd h
passed_say (s ∷ sorts) (one ∷ passed) (v ∷ values) h = let rest = passed_say sorts passed values h.1 in ((h.0.0, rest.0), (h.0.1, rest.1))

say_passed : (sorts : List Sort) (passed : List TaggedValue) (values : List Value) → AreMatched Says passed values → AreArguments sorts values → ArePassed sorts passed values
say_passed [] [] [] says fit = tt
say_passed [] [] (v ∷ values) says fit = absurd says
say_passed [] (one ∷ passed) [] says fit = absurd says
say_passed [] (one ∷ passed) (v ∷ values) says fit = absurd fit
say_passed (s ∷ sorts) passed [] says fit = absurd fit
say_passed (s ∷ sorts) [] (v ∷ values) says fit = absurd says
say_passed (s ∷ sorts) (one ∷ passed) (v ∷ values) says fit = ((says.0, fit.0), say_passed sorts passed values says.1 fit.1)

-- the sorts that an operation or query takes
op_takes : (found : Option OpSig) (sorts : List Sort) (args : List Value) → option_map (λ op. op.sorts) found ≡ Some sorts → AreArguments sorts args
    → MatchOption found ⊥ (λ op. AreArguments op.sorts args)
op_takes None sorts args e fit = absurd cc
op_takes (Some op) sorts args e fit = let same : op.sorts ≡ sorts = cc in subst (λ (ss : List Sort). AreArguments ss args) (sym same) fit

query_takes : (found : Option QuerySig) (sorts : List Sort) (args : List Value) → option_map (λ query. query.sorts) found ≡ Some sorts → AreArguments sorts args
    → MatchOption found ⊥ (λ query. AreArguments query.sorts args)
query_takes None sorts args e fit = absurd cc
query_takes (Some query) sorts args e fit = let same : query.sorts ≡ sorts = cc in subst (λ (ss : List Sort). AreArguments ss args) (sym same) fit

takes : (verb : Verb) (sig : Signature) (sorts : List Sort) (call : Call) → sorts_at verb sig call.item ≡ Some sorts → AreArguments sorts call.args → FitsSignature verb sig call
takes Do sig sorts call e fit = op_takes (slice_get sig.ops call.item) sorts call.args e fit
takes Ask sig sorts call e fit = query_takes (slice_get sig.queries call.item) sorts call.args e fit

-- and those of a call that fits
record Takes (found : Option (List Sort)) (args : List Value) : Type 0 where
  sorts : List Sort
  is : found ≡ Some sorts
  fit : AreArguments sorts args

op_taken : (found : Option OpSig) (args : List Value) → MatchOption found ⊥ (λ op. AreArguments op.sorts args) → Takes (option_map (λ op. op.sorts) found) args
op_taken None args h = absurd h
op_taken (Some op) args h = record { sorts = op.sorts; is = refl; fit = h }

query_taken : (found : Option QuerySig) (args : List Value) → MatchOption found ⊥ (λ query. AreArguments query.sorts args) → Takes (option_map (λ query. query.sorts) found) args
query_taken None args h = absurd h
query_taken (Some query) args h = record { sorts = query.sorts; is = refl; fit = h }

taken : (verb : Verb) (sig : Signature) (call : Call) → FitsSignature verb sig call → Takes (sorts_at verb sig call.item) call.args
taken Do sig call h = op_taken (slice_get sig.ops call.item) call.args h
taken Ask sig call h = query_taken (slice_get sig.queries call.item) call.args h

-- the call of a number with what is passed
pub numbered : (verb : Verb) (sig : Signature) (sorts : List Sort) (number : ℕ) (passed : List TaggedValue) (args : List Value) → sorts_at verb sig number ≡ Some sorts
    → IsTheOne (ArePassed sorts passed) (Some args) → IsNumbered verb sig number passed (record { line = 0; item = number; args = args })
numbered verb sig sorts number passed args e is =
    let both = passed_say sorts passed args is.0 in
    record { item_is = refl; says = both.0; fits = takes verb sig sorts (record { line = 0; item = number; args = args }) e both.1 }

pub no_number : (verb : Verb) (sig : Signature) (number : ℕ) (passed : List TaggedValue) → sorts_at verb sig number ≡ None → (call : Call) → IsNumbered verb sig number passed call → ⊥
no_number verb sig number passed none call h =
    let there = taken verb sig call h.fits in
    let found : sorts_at verb sig number ≡ Some there.sorts = subst (λ (n : ℕ). sorts_at verb sig n ≡ Some there.sorts) h.item_is there.is in
    cc

no_sorts : (sorts others : List Sort) (passed : List TaggedValue) (args : List Value) → ◌≡◌ {A = Option (List Sort)} (Some others) (Some sorts) → AreMatched Says passed args → AreArguments others args
    → ArePassed sorts passed args
no_sorts sorts others passed args e says fit = let same : others ≡ sorts = cc in subst (λ (ss : List Sort). ArePassed ss passed args) same (say_passed others passed args says fit)

pub no_arguments : (verb : Verb) (sig : Signature) (sorts : List Sort) (number : ℕ) (passed : List TaggedValue) → sorts_at verb sig number ≡ Some sorts → IsTheOne (ArePassed sorts passed) None
    → (call : Call) → IsNumbered verb sig number passed call → ⊥
no_arguments verb sig sorts number passed e none call h =
    let there = taken verb sig call h.fits in
    let found : sorts_at verb sig number ≡ Some there.sorts = subst (λ (n : ℕ). sorts_at verb sig n ≡ Some there.sorts) h.item_is there.is in
    none call.args (no_sorts sorts there.sorts passed call.args (sym found ∙ e) h.says there.fit)

-- the place of a name among those of a signature
abbrev place : {X : Type 0} → (X → ℕ) → ℕ → List X → ℕ
place f code xs = position_or_len (λ x. eqb (f x) code) xs

first_step : {X : Type 0} (f : X → ℕ) (code : ℕ) (x : X) (xs : List X) (b : Bool) → eqb (f x) code ≡ b
    → (place f code xs < length xs → option_map f (slice_get xs (place f code xs)) ≡ Some code)
    → cond (not b) (1 + place f code xs) 0 < length (x ∷ xs) → option_map f (slice_get (x ∷ xs) (cond (not b) (1 + place f code xs) 0)) ≡ Some code
first_step f code x xs true is ih h = let same : f x ≡ code = grind (arith, nat_tests) in ap Some same
first_step f code x xs false is ih h =
    let more : 1 + place f code xs ≡ suc (place f code xs) = omega arith in
    let l : 1 + place f code xs < suc (length xs) = h in
    subst (λ (n : ℕ). option_map f (slice_get (x ∷ xs) n) ≡ Some code) (sym more) (ih (omega (arith, l)))

first_named : {X : Type 0} (f : X → ℕ) (code : ℕ) (xs : List X) → place f code xs < length xs → option_map f (slice_get xs (place f code xs)) ≡ Some code
first_named f code [] h = absurd (omega (arith, h))
first_named f code (x ∷ xs) h = first_step f code x xs (eqb (f x) code) refl (first_named f code xs) h

other_step : {X : Type 0} (f : X → ℕ) (code : ℕ) (x : X) (xs : List X) (b : Bool) → eqb (f x) code ≡ b
    → (length xs ≤ place f code xs → (i : ℕ) → option_map f (slice_get xs i) ≡ Some code → ⊥)
    → length (x ∷ xs) ≤ cond (not b) (1 + place f code xs) 0 → (i : ℕ) → option_map f (slice_get (x ∷ xs) i) ≡ Some code → ⊥
other_step f code x xs true is ih h i e = absurd (omega (arith, h))
other_step f code x xs false is ih h zero e = let same : f x ≡ code = cc in grind (arith, nat_tests)
other_step f code x xs false is ih h (suc i) e =
    let l : suc (length xs) ≤ 1 + place f code xs = h in ih (omega (arith, l)) i e

all_others : {X : Type 0} (f : X → ℕ) (code : ℕ) (xs : List X) → length xs ≤ place f code xs → (i : ℕ) → option_map f (slice_get xs i) ≡ Some code → ⊥
all_others f code [] h i e = absurd cc
all_others f code (x ∷ xs) h i e = other_step f code x xs (eqb (f x) code) refl (all_others f code xs) h i e

named_some : {X : Type 0} (f : X → ℕ) (code : ℕ) (xs : List X) (n : ℕ) → position (λ x. eqb (f x) code) xs ≡ Some n → option_map f (slice_get xs n) ≡ Some code
named_some f code xs n e =
    let l = place_less (place f code xs) n (length xs) (ltb (place f code xs) (length xs)) refl e in
    let same = place_some (place f code xs) n (ltb (place f code xs) (length xs)) e in
    subst (λ (m : ℕ). option_map f (slice_get xs m) ≡ Some code) same (first_named f code xs l)

named_none : {X : Type 0} (f : X → ℕ) (code : ℕ) (xs : List X) → position (λ x. eqb (f x) code) xs ≡ None → (i : ℕ) → option_map f (slice_get xs i) ≡ Some code → ⊥
named_none f code xs e = all_others f code xs (place_none (place f code xs) (length xs) (ltb (place f code xs) (length xs)) refl e)

abbrev pub IsPlace : Verb → Signature → ℕ → Option ℕ → Type 0
IsPlace verb sig code found = MatchOption found ((number : ℕ) → name_at verb sig number ≡ Some code → ⊥) (λ number. name_at verb sig number ≡ Some code)

pub op_is_place : (sig : Signature) (code : ℕ) (found : Option ℕ) → position (λ op. eqb op.name code) sig.ops ≡ found → IsPlace Do sig code found
op_is_place sig code None e = named_none (λ op. op.name) code sig.ops e
op_is_place sig code (Some n) e = named_some (λ op. op.name) code sig.ops n e

pub query_is_place : (sig : Signature) (code : ℕ) (found : Option ℕ) → position (λ query. eqb query.name code) sig.queries ≡ found → IsPlace Ask sig code found
query_is_place sig code None e = named_none (λ query. query.name) code sig.queries e
query_is_place sig code (Some n) e = named_some (λ query. query.name) code sig.queries n e
