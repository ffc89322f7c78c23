-- An addition changes the count of a thing as it changes its sum.
use Rattle.std.proofs.Common.{◌≡◌, ℕ, ℤ, pos, negsuc, ◌+ℤ◌, ◌==◌, Bool, true, false, if◌then◌else◌, List, [], ◌∷◌, Option, Some, None, refl, sym, ◌∙◌, ap, subst, arith}
use Rattle.std.specs.Prelude.{◌≤ℤ◌, slice_get}
use Rattle.std.specs.Option.{option_flatten}
use Rattle.std.proofs.lemmas.Bool.{eq-eqb, eqb-true, false≢true}
use Rattle.std.proofs.lemmas.Bool.Decides.{Decides-int_eq}
use Rattle.std.proofs.lemmas.Int.{ints}
use Rattle.kat_design.specs.Denotations.{natural, weight_of}
use Rattle.kat_design.specs.Effects.{effect_of}
use Rattle.kat_type.specs.Unions.{is_same_value}
use Rattle.kat_design.specs.declared.designs.Leaf.{Leaf}
use Rattle.kat_design.specs.declared.designs.Leaf.TheVariants as given
use Rattle.kat_expr.specs.Evaluation.{number_of}
use Rattle.kat_expr.specs.Puts.{with_entry}
use Rattle.kat_expr.specs.Slots.{argument, entry_at, is_same, read_table}
use Rattle.kat_expr.specs.Sorts.{FitsKept, each}
use Rattle.kat_expr.specs.declared.expressions.Slot.{Slot}
use Rattle.kat_expr.specs.declared.expressions.Slot.TheVariants.{Plain, Keyed}
use Rattle.kat_expr.proofs.Putting.{read_again}
use Rattle.kat_invariant.specs.Legal.{FitsHeld}
use Rattle.kat_invariant.specs.Situations.{Held, given_at, held_after, leaf_in, slot_value}
use Rattle.kat_invariant.specs.Situations.Held.{cell, member, total}
use Rattle.kat_num.specs.Values.{HasSort}
use Rattle.kat_num.specs.declared.values.Sort.TheVariants as sort
use Rattle.kat_num.specs.declared.values.Value.{Value}
use Rattle.kat_num.specs.declared.values.Value.TheVariants as value
use Rattle.kat_seq.specs.States.{with_keyed}
use Rattle.kat_type.specs.declared.done.Done.{Done}
use Rattle.kat_search_laws.proofs.Summing.{sums}

turned : (a b : ℕ) → (b == a) ≡ (a == b)
turned a b = by_tests (b == a) (a == b) refl refl
  where
    by_tests : (s t : Bool) → (b == a) ≡ s → (a == b) ≡ t → s ≡ t
    by_tests true true p q = refl
    by_tests false false p q = refl
    by_tests true false p q = absurd (false≢true (sym q ∙ eq-eqb a b (sym (eqb-true b a p))))
    by_tests false true p q = absurd (false≢true (sym p ∙ eq-eqb b a (sym (eqb-true a b q))))

whole : (c : ℤ) → pos 0 ≤ℤ c → pos (natural c) ≡ c
whole (pos n) h = refl
whole (negsuc n) h = absurd (omega (arith, ints, h))

none_more : (z : ℤ) → z +ℤ pos 0 ≡ z
none_more z = omega (arith, ints)

-- what an addition gives to the sum of a thing
abbrev weights : List (Option (ℕ × Leaf))
weights = Some (0, given.Arg 1) ∷ []

gives : (done : Done) (a b : ℕ) (c : ℤ) → done.op ≡ 0 → argument done.args 0 ≡ value.Name b → argument done.args 1 ≡ value.Num c
    → weight_of (given_at (value.Name a) done (effect_of weights done)) done ≡ (if a == b then natural c else 0)
gives done a b c op at count =
    ap (λ (n : ℕ). weight_of (given_at (value.Name a) done (option_flatten (slice_get weights n))) done) op
    ∙ ap (λ (v : Value). weight_of (if is_same (value.Name a) v then Some (given.Arg 1) else None) done) at
    ∙ by_test (a == b)
  where
    by_test : (t : Bool) → weight_of (if t then Some (given.Arg 1) else None) done ≡ (if t then natural c else 0)
    by_test true = ap (λ (v : Value). natural (number_of v)) count
    by_test false = refl

-- the count of a thing after an addition
grows : (a b : ℕ) (c z : ℤ) (start : Value) (entries : List (Value × Value)) → pos 0 ≤ℤ c → entry_at (value.Name a) start entries ≡ value.Num z
    → entry_at (value.Name a) start (with_entry (value.Name b) (value.Num (number_of (entry_at (value.Name b) start entries) +ℤ c)) entries)
    ≡ value.Num (z +ℤ pos (if a == b then natural c else 0))
grows a b c z start entries large is =
    read_again (value.Name a) start (value.Name b) new entries
    ∙ ap (λ (t : Bool). if t then new else entry_at (value.Name a) start entries) (turned a b)
    ∙ by_test (a == b) refl
  where
    new : Value
    new = value.Num (number_of (entry_at (value.Name b) start entries) +ℤ c)

    by_test : (t : Bool) → (a == b) ≡ t → (if t then new else entry_at (value.Name a) start entries) ≡ value.Num (z +ℤ pos (if t then natural c else 0))
    by_test true e =
        ap (λ (n : ℕ). value.Num (number_of (entry_at (value.Name n) start entries) +ℤ c)) (sym (eqb-true a b e))
        ∙ ap (λ (v : Value). value.Num (number_of v +ℤ c)) is
        ∙ ap (λ (w : ℤ). value.Num (z +ℤ w)) (sym (whole c large))
    by_test false e = is ∙ ap value.Num (sym (none_more z))

pub one_value : (u : Value) (z : ℤ) → is_same_value u (value.Num z) ≡ true → u ≡ value.Num z
one_value (value.Num y) z e = ap value.Num ((Decides-int_eq y z).0 e)
one_value (value.Bool b) z e = absurd (cc)
one_value (value.Name b) z e = absurd (cc)

same_value : (u : Value) (z : ℤ) → u ≡ value.Num z → is_same_value u (value.Num z) ≡ true
same_value u z e = subst (λ (v : Value). is_same_value v (value.Num z) ≡ true) (sym e) ((Decides-int_eq z z).1 refl)

-- A table and the sums that agree at each name agree there after an addition.
pub agrees_behind : (done : Done) (key at count : Value) (slot : Slot) (held : Held) → done.op ≡ 0 → argument done.args 0 ≡ at → argument done.args 1 ≡ count
    → HasSort sort.Name key → HasSort sort.Name at → HasSort sort.Nat count → FitsKept (each sort.Name sort.Nat) slot → FitsHeld sums held
    → is_same_value (slot_value key slot) (leaf_in held 0) ≡ true
    → is_same_value (slot_value key (with_keyed at (value.Num (number_of (read_table at slot) +ℤ number_of count)) slot)) (leaf_in (held_after sums done key held) 0) ≡ true
agrees_behind done (value.Bool k) at count slot held op is_at is_count h i j f g same = absurd h
agrees_behind done (value.Num k) at count slot held op is_at is_count h i j f g same = absurd h
agrees_behind done (value.Name a) (value.Bool k) count slot held op is_at is_count h i j f g same = absurd i
agrees_behind done (value.Name a) (value.Num k) count slot held op is_at is_count h i j f g same = absurd i
agrees_behind done (value.Name a) (value.Name b) (value.Bool k) slot held op is_at is_count h i j f g same = absurd j
agrees_behind done (value.Name a) (value.Name b) (value.Name k) slot held op is_at is_count h i j f g same = absurd j
agrees_behind done (value.Name a) (value.Name b) (value.Num c) (Plain v) held op is_at is_count h i j f g same = absurd f
agrees_behind done (value.Name a) (value.Name b) (value.Num c) (Keyed start entries) (cell k) op is_at is_count h i j f g same = absurd g
agrees_behind done (value.Name a) (value.Name b) (value.Num c) (Keyed start entries) (member k) op is_at is_count h i j f g same = absurd g
agrees_behind done (value.Name a) (value.Name b) (value.Num c) (Keyed start entries) (total z) op is_at is_count h i j f g same =
    same_value _ (z +ℤ pos (weight_of (given_at (value.Name a) done (effect_of weights done)) done))
    (grows a b c z start entries j (one_value (entry_at (value.Name a) start entries) z same)
    ∙ ap (λ (n : ℕ). value.Num (z +ℤ pos n)) (sym (gives done a b c op is_at is_count)))
