-- What is printed of a relation and a proof has no fault of form, and says what it was printed of.
use Rattle.std.proofs.Common.{inl, inr, subst, sym, List, [], ◌∷◌, ◌≡◌, ℕ, true, refl, ap, Option, Some, ap₂, ℤ, arith, pos, Bool, false, negsuc}
use Rattle.std.specs.Prelude.{◌^◌, nat_lt, unwrap_or, ◌≤ℤ◌, int_le, ◌<ℤ◌, int_lt, neg_ℤ}
use Rattle.std.proofs.lemmas.Bool.{lt-ltb}
use Rattle.std.proofs.lemmas.Int.{ints}
use Rattle.std.specs.Ordering.{int_eq}
use Rattle.std.proofs.lemmas.Bool.Decides.{Decides-int_eq}
use Rattle.kat_design.specs.Faults.{Path}
use Rattle.kat_design.specs.Sorted.{EachHas}
use Rattle.serde_json.specs.Data.{Data}
use Rattle.kat_json.proofs.Forwards.{GoesForth, list_forth}
use Rattle.kat_wire.specs.FileForms.{IsVersion, IsIndex, HasIndices, HasOnlyIndices, IsFileLiteral, IsFileMultiplier, IsFileLine}
use Rattle.kat_json.specs.FormFaults.{faults_unless, index_faults, list_of_faults, literal_faults, multiplier_faults}
use Rattle.kat_json.specs.Parts.{index_said, list_said, literal_said, multiplier_said}
use Rattle.kat_json.specs.Printed.{natural, integer_data, integers_data}
use Rattle.kat_json.specs.Words.{index_of, is_literal, is_multiplier, literal_of, multiplier_of}
use Rattle.kat_relation.specs.declared.relations.LeafRef.{LeafRef}
use Rattle.kat_wire.specs.FileFaults.{ref_faults, conjunct_faults, relation_faults, line_faults, lines_faults, proof_faults}
use Rattle.kat_wire.specs.FileParts.{ref_said, conjunct_said, relation_said, line_said, lines_said, proof_said}
use Rattle.kat_wire.specs.Words.{first_line_words, line_words, second_line_words}
use Rattle.kat_wire.specs.Printed.{hints_data, ref_data, refs_data, conjunct_data, relation_data, line_data, lines_data, proof_data}
use Rattle.kat_relation.specs.declared.relations.Conjunct.{Conjunct}
use Rattle.kat_relation.specs.declared.relations.Conjunct.TheVariants.{Query, Equal, Bounded, AtLeast, Matched, Total}
use Rattle.kat_refute.specs.Lines.{hinted, Line, rup, linear}

-- what goes forth under a condition goes forth in lists of it
pub each_goes : {A : Type 0} (f : Data → List Path) (said : Data → A) (print : A → Data) (P : A → Type 0) → ((x : A) → P x → GoesForth f said print x) → (xs : List A) → EachHas P xs → EachHas (GoesForth f said print) xs
each_goes f said print P goes [] h = tt
each_goes f said print P goes (x ∷ xs) h = (goes x h.0, each_goes f said print P goes xs h.1)

index_forth : (n : ℕ) → IsIndex n → GoesForth index_faults index_said natural n
index_forth n small =
    let fits : nat_lt n (2 ^ 32) ≡ true = lt-ltb n (2 ^ 32) small in
    let known : index_of (natural n) ≡ Some n = rw fits refl in
    record { none = ap (λ (o : Option ℕ). faults_unless o) known; back = ap (λ (o : Option ℕ). unwrap_or o 0) known }

ref_forth : (leaf : LeafRef) → HasIndices leaf → GoesForth ref_faults ref_said ref_data leaf
ref_forth leaf is =
    let first = index_forth leaf.component is.component in let second = index_forth leaf.leaf is.leaf_there in
    let f = first.none in let g = second.none in let h = first.back in let k = second.back in
    record { none = rw (f, g) refl; back = λ i. record { component = h i; leaf = k i } }

refs_forth : (leaves : List LeafRef) → EachHas HasIndices leaves → GoesForth (list_of_faults ref_faults) (list_said ref_said) refs_data leaves
refs_forth leaves is = list_forth ref_faults ref_said ref_data leaves (each_goes ref_faults ref_said ref_data HasIndices ref_forth leaves is)

conjunct_forth : (c : Conjunct) → HasOnlyIndices c → GoesForth conjunct_faults conjunct_said conjunct_data c
conjunct_forth (Query n) is = let first = index_forth n is in let f = first.none in let g = first.back in record { none = rw f refl; back = ap Query g }
conjunct_forth (Equal field leaf) is =
    let first = index_forth field is.0 in let second = ref_forth leaf is.1 in
    let f = first.none in let g = second.none in let h = first.back in let k = second.back in
    record { none = rw (f, g) refl; back = ap₂ Equal h k }
conjunct_forth (Bounded leaves position) is =
    let first = refs_forth leaves is.0 in let second = index_forth position is.1 in
    let f = first.none in let g = second.none in let h = first.back in let k = second.back in
    record { none = rw (f, g) refl; back = ap₂ Bounded h k }
conjunct_forth (AtLeast leaf position digit) is =
    let first = ref_forth leaf is.0 in let second = index_forth position is.1 in let third = index_forth digit is.2 in
    let f = first.none in let g = second.none in let h = third.none in let k = first.back in let l = second.back in let m = third.back in
    record { none = rw (f, g, h) refl; back = λ i. AtLeast (k i) (l i) (m i) }
conjunct_forth (Matched leaf position second later digit) is =
    let a = ref_forth leaf is.0 in let b = index_forth position is.1 in let c = ref_forth second is.2 in let d = index_forth later is.3 in let e = index_forth digit is.4 in
    let f = a.none in let g = b.none in let h = c.none in let k = d.none in let l = e.none in
    let m = a.back in let n = b.back in let o = c.back in let p = d.back in let q = e.back in
    record { none = rw (f, g, h, k, l) refl; back = λ i. Matched (m i) (n i) (o i) (p i) (q i) }
conjunct_forth (Total n) is = let first = index_forth n is in let f = first.none in let g = first.back in record { none = rw f refl; back = ap Total g }

pub relation_forth : (relation : List Conjunct) → EachHas HasOnlyIndices relation → GoesForth relation_faults relation_said relation_data relation
relation_forth relation is = list_forth conjunct_faults conjunct_said conjunct_data relation (each_goes conjunct_faults conjunct_said conjunct_data HasOnlyIndices conjunct_forth relation is)

-- literals and multipliers
is_at_least : (a z : ℤ) → a ≤ℤ z → int_le a z ≡ true
is_at_least a z h = grind (arith, ints)

is_below : (z b : ℤ) → z <ℤ b → int_lt z b ≡ true
is_below z b h = grind (arith, ints)

literal_known : (z : ℤ) → IsFileLiteral z → is_literal z ≡ true
literal_known z is =
    let differ : int_eq z (pos 0) ≡ false = differs (int_eq z (pos 0)) refl in
    let least = is_at_least (neg_ℤ (pos (2 ^ 31))) z is.least in
    let most = is_below z (pos (2 ^ 31)) is.most in
    rw (differ, least, most) refl where
      differs : (b : Bool) → int_eq z (pos 0) ≡ b → int_eq z (pos 0) ≡ false
      differs true same = absurd (is.nonzero ((Decides-int_eq z (pos 0)).0 same))
      differs false same = same

multiplier_known : (z : ℤ) → IsFileMultiplier z → is_multiplier z ≡ true
multiplier_known z is =
    let least = is_at_least (neg_ℤ (pos (2 ^ 63))) z is.least in
    let most = is_below z (pos (2 ^ 63)) is.most in
    rw (least, most) refl

literal_of_known : (z : ℤ) → is_literal z ≡ true → literal_of (integer_data z) ≡ Some z
literal_of_known (pos n) known = rw known refl
literal_of_known (negsuc n) known = rw known refl

multiplier_of_known : (z : ℤ) → is_multiplier z ≡ true → multiplier_of (integer_data z) ≡ Some z
multiplier_of_known (pos n) known = rw known refl
multiplier_of_known (negsuc n) known = rw known refl

literal_forth : (z : ℤ) → IsFileLiteral z → GoesForth literal_faults literal_said integer_data z
literal_forth z is =
    let known = literal_of_known z (literal_known z is) in
    record { none = ap (λ (o : Option ℤ). faults_unless o) known; back = ap (λ (o : Option ℤ). unwrap_or o (pos 1)) known }

multiplier_forth : (z : ℤ) → IsFileMultiplier z → GoesForth multiplier_faults multiplier_said integer_data z
multiplier_forth z is =
    let known = multiplier_of_known z (multiplier_known z is) in
    record { none = ap (λ (o : Option ℤ). faults_unless o) known; back = ap (λ (o : Option ℤ). unwrap_or o (pos 0)) known }

literals_forth : (zs : List ℤ) → EachHas IsFileLiteral zs → GoesForth (list_of_faults literal_faults) (list_said literal_said) integers_data zs
literals_forth zs is = list_forth literal_faults literal_said integer_data zs (each_goes literal_faults literal_said integer_data IsFileLiteral literal_forth zs is)

multipliers_forth : (zs : List ℤ) → EachHas IsFileMultiplier zs → GoesForth (list_of_faults multiplier_faults) (list_said multiplier_said) integers_data zs
multipliers_forth zs is = list_forth multiplier_faults multiplier_said integer_data zs (each_goes multiplier_faults multiplier_said integer_data IsFileMultiplier multiplier_forth zs is)

hints_forth : (hints : List ℕ) → EachHas IsIndex hints → GoesForth (list_of_faults index_faults) (list_said index_said) hints_data hints
hints_forth hints is = list_forth index_faults index_said natural hints (each_goes index_faults index_said natural IsIndex index_forth hints is)

first_forth : (line : Line) → IsFileLine 1 line → GoesForth (line_faults first_line_words) (line_said first_line_words) line_data line
first_forth (rup literals) is = let first = literals_forth literals is.1 in let f = first.none in let g = first.back in record { none = rw f refl; back = ap rup g }
first_forth (linear literals multipliers) is =
    let first = literals_forth literals is.0 in let second = multipliers_forth multipliers is.1 in
    let f = first.none in let g = second.none in let h = first.back in let k = second.back in
    record { none = rw (f, g) refl; back = ap₂ linear h k }
first_forth (hinted literals hints) is = let other = is.0 in absurd (omega (arith, other))

second_forth : (line : Line) → IsFileLine 2 line → GoesForth (line_faults second_line_words) (line_said second_line_words) line_data line
second_forth (rup literals) is = let other = is.0 in absurd (omega (arith, other))
second_forth (linear literals multipliers) is =
    let first = literals_forth literals is.0 in let second = multipliers_forth multipliers is.1 in
    let f = first.none in let g = second.none in let h = first.back in let k = second.back in
    record { none = rw (f, g) refl; back = ap₂ linear h k }
second_forth (hinted literals hints) is =
    let first = literals_forth literals is.1 in let second = hints_forth hints is.2 in
    let f = first.none in let g = second.none in let h = first.back in let k = second.back in
    record { none = rw (f, g) refl; back = ap₂ hinted h k }

line_forth : (version : ℕ) → IsVersion version → (line : Line) → IsFileLine version line → GoesForth (line_faults (line_words version)) (line_said (line_words version)) line_data line
line_forth version (inl is) = subst (λ (v : ℕ). (line : Line) → IsFileLine v line → GoesForth (line_faults (line_words v)) (line_said (line_words v)) line_data line) (sym is) first_forth
line_forth version (inr is) = subst (λ (v : ℕ). (line : Line) → IsFileLine v line → GoesForth (line_faults (line_words v)) (line_said (line_words v)) line_data line) (sym is) second_forth

lines_forth : (version : ℕ) → IsVersion version → (lines : List Line) → EachHas (IsFileLine version) lines → GoesForth (lines_faults (line_words version)) (lines_said (line_words version)) lines_data lines
lines_forth version of_version lines is =
    list_forth (line_faults (line_words version)) (line_said (line_words version)) line_data lines
    (each_goes (line_faults (line_words version)) (line_said (line_words version)) line_data (IsFileLine version) (line_forth version of_version) lines is)

pub proof_forth : (version : ℕ) → IsVersion version → (proof : List (List Line)) → EachHas (EachHas (IsFileLine version)) proof
    → GoesForth (proof_faults (line_words version)) (proof_said (line_words version)) proof_data proof
proof_forth version of_version proof is =
    list_forth (lines_faults (line_words version)) (lines_said (line_words version)) lines_data proof
    (each_goes (lines_faults (line_words version)) (lines_said (line_words version)) lines_data (EachHas (IsFileLine version)) (lines_forth version of_version) proof is)
