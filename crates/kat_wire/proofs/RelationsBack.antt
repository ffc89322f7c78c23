-- A relation or a proof without a fault of form is what is printed of what it says, and its numbers are in their ranges.
use Rattle.std.proofs.Common.{inl, inr, ◌≡◌, List, [], ℕ, ◌+◌, ◌∷◌, map, ◌<◌, pos, Bool, true, false, ap, subst, Some, None, cond, ℤ, negsuc, refl, ◌∙◌, Option, length, sym, ◌≤◌, ◌++◌, codes, arith}
use Rattle.std.specs.Prelude.{bytes_eq, ◌^◌, nat_lt, option_and_then, if◌then◌else◌, not, ◌≤ℤ◌, int_le, ◌<ℤ◌, int_lt, neg_ℤ, ◌==◌}
use Rattle.std.proofs.lemmas.Bool.{ltb-true, eqb-true}
use Rattle.std.proofs.lemmas.Int.{ints}
use Rattle.std.specs.Ordering.{int_eq}
use Rattle.std.proofs.lemmas.Bool.Decides.{Decides-int_eq, not_from_Decides}
use Rattle.kat_design.specs.Faults.{Path, each_faults, within, here_if}
use Rattle.serde_json.specs.Data.{Data, string}
use Rattle.kat_design.proofs.Accepted.{none_left, none_right}
use Rattle.kat_design.specs.Sorted.{EachHas}
use Rattle.kat_json.proofs.Backwards.{within_back, in_list_back, none_some, some_same, found_back, part_back, past_back, two_parts, list_goes_back, six_parts, GoesBack}
use Rattle.kat_json.specs.FormFaults.{list_of_faults, index_faults, part_faults, past_faults, literal_faults, multiplier_faults}
use Rattle.kat_json.specs.Lists.{elements_of, at_place, list, tag_of}
use Rattle.kat_json.specs.Parts.{list_said, index_said, part_said, literal_said, multiplier_said}
use Rattle.kat_json.specs.Words.{index_in, whole_of, index_of, spelled, is_literal, is_multiplier, literal_of, multiplier_of}
use Rattle.kat_json.specs.Printed.{natural, integer_data, integers_data}
use Rattle.kat_json.proofs.AtomsBack.{whole_data}
use Rattle.kat_wire.specs.FileForms.{IsVersion, IsIndex, HasIndices, HasOnlyIndices, IsFileLiteral, IsFileMultiplier, IsFileLine}
use Rattle.kat_wire.specs.FileFaults.{ref_faults, ref_parts_faults, conjunct_parts_faults, conjunct_faults, relation_faults, line_parts_faults, line_faults, lines_faults, proof_faults}
use Rattle.kat_wire.specs.FileParts.{ref_said, conjunct_parts_said, conjunct_said, relation_said, line_parts_said, line_said, lines_said, proof_said}
use Rattle.kat_wire.specs.Printed.{hints_data, ref_data, refs_data, conjunct_data, relation_data, line_data, lines_data, proof_data}
use Rattle.kat_json.proofs.PartsBack.{none_three, parts_two, tag_back, none_five, word_known, list_four, list_three, list_two, none_four}
use Rattle.kat_wire.specs.declared.tags.ConjunctTag.{ConjunctTag}
use Rattle.kat_wire.specs.Words.{conjunct_words, first_line_words, line_words, second_line_words}
use Rattle.kat_num.proofs.NameCodes.{and_parts}
use Rattle.kat_wire.specs.declared.tags.LineTag.{LineTag}
use Rattle.kat_wire.specs.declared.tags.ConjunctTag.TheVariants as conjunct
use Rattle.kat_wire.specs.declared.tags.LineTag.TheVariants as line

-- what has no fault says something with a property
abbrev pub Says : {A : Type 0} → (Data → List Path) → (Data → A) → (A → Type 0) → Type 0
Says faults said P = (d : Data) → faults d ≡ [] → P (said d)

each_says : {A : Type 0} (f : Data → List Path) (said : Data → A) (P : A → Type 0) (i : ℕ) (ds : List Data) → Says f said P → each_faults f i ds ≡ [] → EachHas P (map said ds)
each_says f said P i [] says none = tt
each_says f said P i (d ∷ ds) says none = (
  says d (within_back i (f d) (none_left (within i (f d)) (each_faults f (i + 1) ds) none)),
  each_says f said P (i + 1) ds says (none_right (within i (f d)) (each_faults f (i + 1) ds) none),
)

pub list_says : {A : Type 0} (f : Data → List Path) (said : Data → A) (P : A → Type 0) → Says f said P → Says (list_of_faults f) (list_said said) (EachHas P)
list_says f said P says d none = let got = in_list_back (each_faults f 0) d none in each_says f said P 0 (elements_of d) says got.1

-- indices
index_kept : (m : ℕ) (b : Bool) (n : ℕ) → nat_lt m (2 ^ 32) ≡ b → cond b (Some m) None ≡ Some n → (pos m ≡ pos n) × (n < 2 ^ 32)
index_kept m true n is h = let same = some_same m n h in (ap pos same, subst (λ k. k < 2 ^ 32) same (ltb-true m (2 ^ 32) is))
index_kept m false n is h = none_some n h

index_by : (z : ℤ) (n : ℕ) → index_in z ≡ Some n → (z ≡ pos n) × (n < 2 ^ 32)
index_by (pos m) n h = index_kept m (nat_lt m (2 ^ 32)) n refl h
index_by (negsuc m) n h = none_some n h

index_whole : (d : Data) (o : Option ℤ) (n : ℕ) → whole_of d ≡ o → option_and_then index_in o ≡ Some n → (natural n ≡ d) × (n < 2 ^ 32)
index_whole d None n is h = none_some n h
index_whole d (Some z) n is h = let got = index_by z n h in (whole_data d (pos n) (is ∙ ap Some got.0), got.1)

index_both : (d : Data) → index_faults d ≡ [] → (natural (index_said d) ≡ d) × IsIndex (index_said d)
index_both d none = index_whole d (whole_of d) (index_said d) refl (found_back (index_of d) 0 none)

-- the index at a place
index_at : (place : ℕ) (ds : List Data) → part_faults index_faults place ds ≡ []
    → (place < length ds) × (natural (part_said index_said place ds) ≡ at_place ds place) × IsIndex (part_said index_said place ds)
index_at place ds none = let there = part_back index_faults place ds none in let both = index_both (at_place ds place) there.1 in (there.0, both.0, both.1)

-- leaves
ref_both : (d : Data) → ref_faults d ≡ [] → (ref_data (ref_said d) ≡ d) × HasIndices (ref_said d)
ref_both d none =
    let got = in_list_back ref_parts_faults d none in
    let ds = elements_of d in
    let parts = none_three (part_faults index_faults 0 ds) (part_faults index_faults 1 ds) (past_faults 2 ds) got.1 in
    let first = index_at 0 ds parts.0 in
    let second = index_at 1 ds parts.1 in (
      parts_two (natural (index_said (at_place ds 0))) (natural (index_said (at_place ds 1))) (at_place ds 0) (at_place ds 1) first.1 second.1
          ∙ sym (ap list (two_parts ds second.0 (past_back 2 ds parts.2))) ∙ sym got.0,
      record { component = first.2; leaf_there = second.2 },
    )

ref_at : (place : ℕ) (ds : List Data) → part_faults ref_faults place ds ≡ []
    → (place < length ds) × (ref_data (part_said ref_said place ds) ≡ at_place ds place) × HasIndices (part_said ref_said place ds)
ref_at place ds none = let there = part_back ref_faults place ds none in let both = ref_both (at_place ds place) there.1 in (there.0, both.0, both.1)

refs_at : (place : ℕ) (ds : List Data) → part_faults (list_of_faults ref_faults) place ds ≡ []
    → (place < length ds) × (refs_data (part_said (list_said ref_said) place ds) ≡ at_place ds place) × EachHas HasIndices (part_said (list_said ref_said) place ds)
refs_at place ds none =
    let there = part_back (list_of_faults ref_faults) place ds none in (
      there.0,
      list_goes_back ref_faults ref_said ref_data (λ d h. (ref_both d h).0) (at_place ds place) there.1,
      list_says ref_faults ref_said HasIndices (λ d h. (ref_both d h).1) (at_place ds place) there.1,
    )

-- conjuncts
list_six : (d : Data) (ds : List Data) (x : ℕ) (word : List ℕ) (a b c k e : Data) → d ≡ list ds → tag_of ds ≡ x ∷ word → 5 < length ds → length ds ≤ 6 → a ≡ at_place ds 1
    → b ≡ at_place ds 2 → c ≡ at_place ds 3 → k ≡ at_place ds 4 → e ≡ at_place ds 5 → list (string (x ∷ word) ∷ a ∷ b ∷ c ∷ k ∷ e ∷ []) ≡ d
list_six d ds x word a b c k e is tag more few f g h i j = rw (is, six_parts ds more few, tag_back ds x word tag, sym f, sym g, sym h, sym i, sym j) refl

none_six : (xs ys zs ws vs us : List Path) → xs ++ ys ++ zs ++ ws ++ vs ++ us ≡ [] → (xs ≡ []) × (ys ≡ []) × (zs ≡ []) × (ws ≡ []) × (vs ≡ []) × (us ≡ [])
none_six xs ys zs ws vs us none =
    let front = none_five xs ys zs ws vs (none_left (xs ++ ys ++ zs ++ ws ++ vs) us none) in
    (front.0, front.1, front.2, front.3, front.4, none_right (xs ++ ys ++ zs ++ ws ++ vs) us none)

abbrev conjunct_word : ConjunctTag → List ℕ
conjunct_word conjunct.Query = codes "q"
conjunct_word conjunct.Equal = codes "e"
conjunct_word conjunct.Bounded = codes "k"
conjunct_word conjunct.AtLeast = codes "b"
conjunct_word conjunct.Matched = codes "c"
conjunct_word conjunct.Total = codes "t"

conjunct_is : (ds : List Data) (tag : ConjunctTag) → spelled conjunct_words (tag_of ds) ≡ Some tag → tag_of ds ≡ conjunct_word tag
conjunct_is ds tag known = word_known conjunct_word conjunct_words (refl, (refl, (refl, (refl, (refl, (refl, tt)))))) (tag_of ds) tag known

conjunct_by : (d : Data) (ds : List Data) (o : Option ConjunctTag) → d ≡ list ds → spelled conjunct_words (tag_of ds) ≡ o → conjunct_parts_faults o ds ≡ []
    → (conjunct_data (conjunct_parts_said o ds) ≡ d) × HasOnlyIndices (conjunct_parts_said o ds)
conjunct_by d ds None is known none = absurd (cc)
conjunct_by d ds (Some conjunct.Query) is known none =
    let query = index_at 1 ds (none_left (part_faults index_faults 1 ds) (past_faults 2 ds) none) in
    let few = past_back 2 ds (none_right (part_faults index_faults 1 ds) (past_faults 2 ds) none) in
    (list_two d ds _ _ _ is (conjunct_is ds conjunct.Query known) query.0 few query.1, query.2)
conjunct_by d ds (Some conjunct.Equal) is known none =
    let parts = none_three (part_faults index_faults 1 ds) (part_faults ref_faults 2 ds) (past_faults 3 ds) none in
    let field = index_at 1 ds parts.0 in
    let leaf = ref_at 2 ds parts.1 in
    (list_three d ds _ _ _ _ is (conjunct_is ds conjunct.Equal known) leaf.0 (past_back 3 ds parts.2) field.1 leaf.1, (field.2, leaf.2))
conjunct_by d ds (Some conjunct.Bounded) is known none =
    let parts = none_three (part_faults (list_of_faults ref_faults) 1 ds) (part_faults index_faults 2 ds) (past_faults 3 ds) none in
    let leaves = refs_at 1 ds parts.0 in
    let position = index_at 2 ds parts.1 in
    (list_three d ds _ _ _ _ is (conjunct_is ds conjunct.Bounded known) position.0 (past_back 3 ds parts.2) leaves.1 position.1, (leaves.2, position.2))
conjunct_by d ds (Some conjunct.AtLeast) is known none =
    let parts = none_four (part_faults ref_faults 1 ds) (part_faults index_faults 2 ds) (part_faults index_faults 3 ds) (past_faults 4 ds) none in
    let leaf = ref_at 1 ds parts.0 in
    let position = index_at 2 ds parts.1 in
    let digit = index_at 3 ds parts.2 in
    (list_four d ds _ _ _ _ _ is (conjunct_is ds conjunct.AtLeast known) digit.0 (past_back 4 ds parts.3) leaf.1 position.1 digit.1, (leaf.2, position.2, digit.2))
conjunct_by d ds (Some conjunct.Matched) is known none =
    let parts = none_six (part_faults ref_faults 1 ds) (part_faults index_faults 2 ds) (part_faults ref_faults 3 ds) (part_faults index_faults 4 ds) (part_faults index_faults 5 ds) (past_faults 6 ds) none in
    let first = ref_at 1 ds parts.0 in
    let position = index_at 2 ds parts.1 in
    let second = ref_at 3 ds parts.2 in
    let later = index_at 4 ds parts.3 in
    let digit = index_at 5 ds parts.4 in (
      list_six d ds _ _ _ _ _ _ _ is (conjunct_is ds conjunct.Matched known) digit.0 (past_back 6 ds parts.5) first.1 position.1 second.1 later.1 digit.1,
      (first.2, position.2, second.2, later.2, digit.2),
    )
conjunct_by d ds (Some conjunct.Total) is known none =
    let component = index_at 1 ds (none_left (part_faults index_faults 1 ds) (past_faults 2 ds) none) in
    let few = past_back 2 ds (none_right (part_faults index_faults 1 ds) (past_faults 2 ds) none) in
    (list_two d ds _ _ _ is (conjunct_is ds conjunct.Total known) component.0 few component.1, component.2)

conjunct_both : (d : Data) → conjunct_faults d ≡ [] → (conjunct_data (conjunct_said d) ≡ d) × HasOnlyIndices (conjunct_said d)
conjunct_both d none =
    let got = in_list_back (λ parts. conjunct_parts_faults (spelled conjunct_words (tag_of parts)) parts) d none in
    conjunct_by d (elements_of d) (spelled conjunct_words (tag_of (elements_of d))) got.0 refl got.1

pub relation_goes_back : GoesBack relation_faults relation_said relation_data
relation_goes_back = list_goes_back conjunct_faults conjunct_said conjunct_data (λ d h. (conjunct_both d h).0)

pub relation_has_indices : Says relation_faults relation_said (EachHas HasOnlyIndices)
relation_has_indices = list_says conjunct_faults conjunct_said HasOnlyIndices (λ d h. (conjunct_both d h).1)

-- literals and multipliers
tested_by : (test : ℤ → Bool) (z : ℤ) (b : Bool) (y : ℤ) → test z ≡ b → cond b (Some z) None ≡ Some y → (z ≡ y) × (test y ≡ true)
tested_by test z true y is h = let same = some_same z y h in (same, ap test (sym same) ∙ is)
tested_by test z false y is h = none_some y h

tested_whole : (test : ℤ → Bool) (d : Data) (o : Option ℤ) (y : ℤ) → whole_of d ≡ o → option_and_then (λ z. if test z then Some z else None) o ≡ Some y
    → (integer_data y ≡ d) × (test y ≡ true)
tested_whole test d None y is h = none_some y h
tested_whole test d (Some z) y is h = let got = tested_by test z (test z) y refl h in (whole_data d y (is ∙ ap Some got.0), got.1)

not_true : (b : Bool) → not b ≡ true → b ≡ false
not_true true h = absurd (cc)
not_true false h = refl

at_least : (a z : ℤ) → int_le a z ≡ true → a ≤ℤ z
at_least a z h = grind (arith, ints)

below : (z b : ℤ) → int_lt z b ≡ true → z <ℤ b
below z b h = grind (arith, ints)

literal_means : (z : ℤ) → is_literal z ≡ true → IsFileLiteral z
literal_means z h =
    let parts = and_parts (not (int_eq z (pos 0))) _ h in
    let range = and_parts (int_le (neg_ℤ (pos (2 ^ 31))) z) (int_lt z (pos (2 ^ 31))) parts.1 in
    record {
      nonzero = not_from_Decides (int_eq z (pos 0)) (Decides-int_eq z (pos 0)) (not_true (int_eq z (pos 0)) parts.0);
      least = at_least (neg_ℤ (pos (2 ^ 31))) z range.0;
      most = below z (pos (2 ^ 31)) range.1;
    }

multiplier_means : (z : ℤ) → is_multiplier z ≡ true → IsFileMultiplier z
multiplier_means z h =
    let range = and_parts (int_le (neg_ℤ (pos (2 ^ 63))) z) (int_lt z (pos (2 ^ 63))) h in
    record { least = at_least (neg_ℤ (pos (2 ^ 63))) z range.0; most = below z (pos (2 ^ 63)) range.1 }

literal_both : (d : Data) → literal_faults d ≡ [] → (integer_data (literal_said d) ≡ d) × IsFileLiteral (literal_said d)
literal_both d none =
    let got = tested_whole is_literal d (whole_of d) (literal_said d) refl (found_back (literal_of d) (pos 1) none) in
    (got.0, literal_means (literal_said d) got.1)

multiplier_both : (d : Data) → multiplier_faults d ≡ [] → (integer_data (multiplier_said d) ≡ d) × IsFileMultiplier (multiplier_said d)
multiplier_both d none =
    let got = tested_whole is_multiplier d (whole_of d) (multiplier_said d) refl (found_back (multiplier_of d) (pos 0) none) in
    (got.0, multiplier_means (multiplier_said d) got.1)

literals_at : (place : ℕ) (ds : List Data) → part_faults (list_of_faults literal_faults) place ds ≡ []
    → (place < length ds) × (integers_data (part_said (list_said literal_said) place ds) ≡ at_place ds place) × EachHas IsFileLiteral (part_said (list_said literal_said) place ds)
literals_at place ds none =
    let there = part_back (list_of_faults literal_faults) place ds none in (
      there.0,
      list_goes_back literal_faults literal_said integer_data (λ d h. (literal_both d h).0) (at_place ds place) there.1,
      list_says literal_faults literal_said IsFileLiteral (λ d h. (literal_both d h).1) (at_place ds place) there.1,
    )

multipliers_at : (place : ℕ) (ds : List Data) → part_faults (list_of_faults multiplier_faults) place ds ≡ []
    → (place < length ds) × (integers_data (part_said (list_said multiplier_said) place ds) ≡ at_place ds place) × EachHas IsFileMultiplier (part_said (list_said multiplier_said) place ds)
multipliers_at place ds none =
    let there = part_back (list_of_faults multiplier_faults) place ds none in (
      there.0,
      list_goes_back multiplier_faults multiplier_said integer_data (λ d h. (multiplier_both d h).0) (at_place ds place) there.1,
      list_says multiplier_faults multiplier_said IsFileMultiplier (λ d h. (multiplier_both d h).1) (at_place ds place) there.1,
    )

hints_at : (place : ℕ) (ds : List Data) → part_faults (list_of_faults index_faults) place ds ≡ []
    → (place < length ds) × (hints_data (part_said (list_said index_said) place ds) ≡ at_place ds place) × EachHas IsIndex (part_said (list_said index_said) place ds)
hints_at place ds none =
    let there = part_back (list_of_faults index_faults) place ds none in (
      there.0,
      list_goes_back index_faults index_said natural (λ d h. (index_both d h).0) (at_place ds place) there.1,
      list_says index_faults index_said IsIndex (λ d h. (index_both d h).1) (at_place ds place) there.1,
    )

-- lines
abbrev line_word : LineTag → List ℕ
line_word line.Propagated = codes "r"
line_word line.Hinted = codes "r"
line_word line.Linear = codes "l"

-- the version that a line with a tag has
abbrev HasTag : ℕ → LineTag → Type 0
HasTag version line.Propagated = version ≡ 1
HasTag version line.Hinted = version ≡ 2
HasTag version line.Linear = Unit {0}

first_by : (p q : Bool) (tag : LineTag) → cond p (Some line.Propagated) (cond q (Some line.Linear) None) ≡ Some tag → HasTag 1 tag
first_by true q tag h = subst (HasTag 1) (some_same line.Propagated tag h) refl
first_by false true tag h = subst (HasTag 1) (some_same line.Linear tag h) tt
first_by false false tag h = none_some tag h

second_by : (p q : Bool) (tag : LineTag) → cond p (Some line.Hinted) (cond q (Some line.Linear) None) ≡ Some tag → HasTag 2 tag
second_by true q tag h = subst (HasTag 2) (some_same line.Hinted tag h) refl
second_by false true tag h = subst (HasTag 2) (some_same line.Linear tag h) tt
second_by false false tag h = none_some tag h

-- the word with which a line begins, and its version
pub record IsSpelled (version : ℕ) (text : List ℕ) (tag : LineTag) : Type 0 where
  pub word : text ≡ line_word tag
  pub fits : HasTag version tag

first_spelled : (text : List ℕ) (tag : LineTag) → spelled first_line_words text ≡ Some tag → IsSpelled 1 text tag
first_spelled text tag known = record {
  word = word_known line_word first_line_words (refl, (refl, tt)) text tag known;
  fits = first_by (bytes_eq text (codes "r")) (bytes_eq text (codes "l")) tag known;
}

second_spelled : (text : List ℕ) (tag : LineTag) → spelled second_line_words text ≡ Some tag → IsSpelled 2 text tag
second_spelled text tag known = record {
  word = word_known line_word second_line_words (refl, (refl, tt)) text tag known;
  fits = second_by (bytes_eq text (codes "r")) (bytes_eq text (codes "l")) tag known;
}

line_spelled : (version : ℕ) → IsVersion version → (text : List ℕ) (tag : LineTag) → spelled (line_words version) text ≡ Some tag → IsSpelled version text tag
line_spelled version (inl is) = subst (λ (v : ℕ). (text : List ℕ) (tag : LineTag) → spelled (line_words v) text ≡ Some tag → IsSpelled v text tag) (sym is) first_spelled
line_spelled version (inr is) = subst (λ (v : ℕ). (text : List ℕ) (tag : LineTag) → spelled (line_words v) text ≡ Some tag → IsSpelled v text tag) (sym is) second_spelled

-- a line by propagation has two parts, and three with hints
two_there : (ds : List Data) (b : Bool) → (length ds == 2) ≡ b → cond b (part_faults (list_of_faults literal_faults) 1 ds) (here_if true) ≡ []
    → (length ds ≤ 2) × (part_faults (list_of_faults literal_faults) 1 ds ≡ [])
two_there ds true is none = let two : length ds ≡ 2 = eqb-true (length ds) 2 is in (omega (arith, two), none)
two_there ds false is none = absurd (cc)

three_there : (ds : List Data) (xs : List Path) (b : Bool) → (length ds == 3) ≡ b → cond b xs (here_if true) ≡ [] → (length ds ≤ 3) × (xs ≡ [])
three_there ds xs true is none = let three : length ds ≡ 3 = eqb-true (length ds) 3 is in (omega (arith, three), none)
three_there ds xs false is none = absurd (cc)

line_by : (version : ℕ) (d : Data) (ds : List Data) (o : Option LineTag) → IsVersion version → d ≡ list ds → spelled (line_words version) (tag_of ds) ≡ o → line_parts_faults o ds ≡ []
    → (line_data (line_parts_said o ds) ≡ d) × IsFileLine version (line_parts_said o ds)
line_by version d ds None of_version is known none = absurd (cc)
line_by version d ds (Some line.Propagated) of_version is known none =
    let begins = line_spelled version of_version (tag_of ds) line.Propagated known in
    let two = two_there ds (length ds == 2) refl none in
    let literals = literals_at 1 ds two.1 in
    (list_two d ds _ _ _ is begins.word literals.0 two.0 literals.1, (begins.fits, literals.2))
line_by version d ds (Some line.Hinted) of_version is known none =
    let begins = line_spelled version of_version (tag_of ds) line.Hinted known in
    let all = part_faults (list_of_faults literal_faults) 1 ds ++ part_faults (list_of_faults index_faults) 2 ds in
    let three = three_there ds all (length ds == 3) refl none in
    let literals = literals_at 1 ds (none_left (part_faults (list_of_faults literal_faults) 1 ds) (part_faults (list_of_faults index_faults) 2 ds) three.1) in
    let hints = hints_at 2 ds (none_right (part_faults (list_of_faults literal_faults) 1 ds) (part_faults (list_of_faults index_faults) 2 ds) three.1) in
    (list_three d ds _ _ _ _ is begins.word hints.0 three.0 literals.1 hints.1, (begins.fits, literals.2, hints.2))
line_by version d ds (Some line.Linear) of_version is known none =
    let begins = line_spelled version of_version (tag_of ds) line.Linear known in
    let parts = none_three (part_faults (list_of_faults literal_faults) 1 ds) (part_faults (list_of_faults multiplier_faults) 2 ds) (past_faults 3 ds) none in
    let literals = literals_at 1 ds parts.0 in
    let multipliers = multipliers_at 2 ds parts.1 in
    (list_three d ds _ _ _ _ is begins.word multipliers.0 (past_back 3 ds parts.2) literals.1 multipliers.1, (literals.2, multipliers.2))

line_both : (version : ℕ) → IsVersion version → (d : Data) → line_faults (line_words version) d ≡ [] → (line_data (line_said (line_words version) d) ≡ d) × IsFileLine version (line_said (line_words version) d)
line_both version of_version d none =
    let got = in_list_back (λ parts. line_parts_faults (spelled (line_words version) (tag_of parts)) parts) d none in
    line_by version d (elements_of d) (spelled (line_words version) (tag_of (elements_of d))) of_version got.0 refl got.1

lines_go_back : (version : ℕ) → IsVersion version → GoesBack (lines_faults (line_words version)) (lines_said (line_words version)) lines_data
lines_go_back version is = list_goes_back (line_faults (line_words version)) (line_said (line_words version)) line_data (λ d h. (line_both version is d h).0)

lines_fit : (version : ℕ) → IsVersion version → Says (lines_faults (line_words version)) (lines_said (line_words version)) (EachHas (IsFileLine version))
lines_fit version is = list_says (line_faults (line_words version)) (line_said (line_words version)) (IsFileLine version) (λ d h. (line_both version is d h).1)

pub proof_goes_back : (version : ℕ) → IsVersion version → GoesBack (proof_faults (line_words version)) (proof_said (line_words version)) proof_data
proof_goes_back version is = list_goes_back (lines_faults (line_words version)) (lines_said (line_words version)) lines_data (lines_go_back version is)

pub proof_fits : (version : ℕ) → IsVersion version → Says (proof_faults (line_words version)) (proof_said (line_words version)) (EachHas (EachHas (IsFileLine version)))
proof_fits version is = list_says (lines_faults (line_words version)) (lines_said (line_words version)) (EachHas (IsFileLine version)) (lines_fit version is)
