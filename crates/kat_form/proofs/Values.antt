-- Going through the parts of "and" and "or" from the first to the last.
use Rattle.std.proofs.Common.{◌≡◌, ℕ, ◌+◌, ◌<◌, ◌≤◌, Bool, true, false, Option, Some, None, List, length, get_or, drop, map, refl, sym, ap, ◌∙◌}
use Rattle.std.proofs.lemmas.List.{drop_more, drop_all}
use Rattle.kat_form.specs.declared.Formula.{Formula}
use Rattle.kat_form.specs.Readings.{both, either, value_of_all, value_of_any}
use Rattle.kat_form.specs.Folds.{reading_of}

both_assoc : (a b c : Option Bool) → both (both a b) c ≡ both a (both b c)
both_assoc (Some false) b c = refl
both_assoc (Some true) b c = refl
both_assoc None (Some false) c = refl
both_assoc None (Some true) c = refl
both_assoc None None (Some false) = refl
both_assoc None None (Some true) = refl
both_assoc None None None = refl

either_assoc : (a b c : Option Bool) → either (either a b) c ≡ either a (either b c)
either_assoc (Some true) b c = refl
either_assoc (Some false) b c = refl
either_assoc None (Some true) c = refl
either_assoc None (Some false) c = refl
either_assoc None None (Some true) = refl
either_assoc None None (Some false) = refl
either_assoc None None None = refl

both_true : (a : Option Bool) → both a (Some true) ≡ a
both_true (Some true) = refl
both_true (Some false) = refl
both_true None = refl

either_false : (a : Option Bool) → either a (Some false) ≡ a
either_false (Some true) = refl
either_false (Some false) = refl
either_false None = refl

pub all_more : (parts : List Formula) (i : ℕ) (part : Formula) (value : Option Bool) → i < length parts → part ≡ get_or parts i part → both value (value_of_all (map reading_of (drop i parts))) ≡ value_of_all (map reading_of parts) → both (both value (reading_of part).constant) (value_of_all (map reading_of (drop (i + 1) parts))) ≡ value_of_all (map reading_of parts)
all_more parts i part value h is before =
    both_assoc value (reading_of part).constant (value_of_all (map reading_of (drop (i + 1) parts)))
    ∙ ap (λ (x : Formula). both value (both (reading_of x).constant (value_of_all (map reading_of (drop (i + 1) parts))))) is
    ∙ ap (λ (xs : List Formula). both value (value_of_all (map reading_of xs))) (sym (drop_more parts i part h))
    ∙ before

pub any_more : (parts : List Formula) (i : ℕ) (part : Formula) (value : Option Bool) → i < length parts → part ≡ get_or parts i part → either value (value_of_any (map reading_of (drop i parts))) ≡ value_of_any (map reading_of parts) → either (either value (reading_of part).constant) (value_of_any (map reading_of (drop (i + 1) parts))) ≡ value_of_any (map reading_of parts)
any_more parts i part value h is before =
    either_assoc value (reading_of part).constant (value_of_any (map reading_of (drop (i + 1) parts)))
    ∙ ap (λ (x : Formula). either value (either (reading_of x).constant (value_of_any (map reading_of (drop (i + 1) parts))))) is
    ∙ ap (λ (xs : List Formula). either value (value_of_any (map reading_of xs))) (sym (drop_more parts i part h))
    ∙ before

pub all_whole : (parts : List Formula) (i : ℕ) (value : Option Bool) → length parts ≤ i → both value (value_of_all (map reading_of (drop i parts))) ≡ value_of_all (map reading_of parts) → value ≡ value_of_all (map reading_of parts)
all_whole parts i value h before = sym (both_true value) ∙ ap (λ (xs : List Formula). both value (value_of_all (map reading_of xs))) (sym (drop_all i parts h)) ∙ before

pub any_whole : (parts : List Formula) (i : ℕ) (value : Option Bool) → length parts ≤ i → either value (value_of_any (map reading_of (drop i parts))) ≡ value_of_any (map reading_of parts) → value ≡ value_of_any (map reading_of parts)
any_whole parts i value h before = sym (either_false value) ∙ ap (λ (xs : List Formula). either value (value_of_any (map reading_of xs))) (sym (drop_all i parts h)) ∙ before
