-- A signature without a fault of form is what is printed of what it says, and has the form of one.
use Rattle.std.proofs.Common.{◌≡◌, Bool, true, false, refl, ℕ, List, [], ◌∷◌, length, sym, ap, ◌∙◌, Some, None, cond, inl, inr, Option, ◌≤◌, map, take, subst, arith, ◌+◌, ◌++◌, ap₂, append_assoc, append-nil}
use Rattle.std.specs.Prelude.{◌||◌, ◌&&◌, nat_le, not, ◌==◌, unwrap_or, All}
use Rattle.std.specs.List.{list_all}
use Rattle.std.proofs.lemmas.Bool.{leb-true, eq-eqb}
use Rattle.std.proofs.lemmas.List.{length-map}
use Rattle.std.proofs.lemmas.List.Elements.{All-cons, All-nil}
use Rattle.kat_num.specs.Bytes.{is_digit, is_name_byte, is_word_byte, is_word_start}
use Rattle.kat_num.proofs.NameCodes.{and_parts, name_of_code-code_of}
use Rattle.kat_json.proofs.Backwards.{and_true, none_some, some_same, here_back, each_back, in_list_back, past_back, part_back, two_parts, three_parts, within_back}
use Rattle.kat_num.specs.Names.{IsName, code_of, name_of_code}
use Rattle.kat_num.specs.declared.names.TheConstants.{NAME_LIMIT}
use Rattle.kat_json.specs.Words.{is_word, word_of}
use Rattle.kat_lex.specs.Words.{is_reserved}
use Rattle.serde_json.specs.Data.{string, Data, null, boolean, number, array, object}
use Rattle.kat_design_json.specs.Signatures.{IsWordCode, IsSignature, names_in}
use Rattle.kat_type.specs.Lists.{Has, IsOnce}
use Rattle.kat_type.specs.Names.{is_among}
use Rattle.kat_design_json.specs.DesignFaults.{item_name, name_faults, few_sorts_faults, sorts_faults, operation_faults, operation_parts_faults, query_faults, query_parts_faults, items_faults, few_items_faults, names_of, signature_faults, signature_parts_faults}
use Rattle.kat_design.specs.Faults.{here_if, each_faults, Path, within}
use Rattle.kat_json.specs.FormFaults.{present, past_faults, sort_faults, part_faults}
use Rattle.kat_type.specs.Limits.{param_limit, item_limit}
use Rattle.kat_design.proofs.Accepted.{none_left, none_right}
use Rattle.kat_json.specs.Lists.{elements_of, list, at_place}
use Rattle.kat_json.specs.Parts.{list_said, sort_said}
use Rattle.kat_json.specs.Printed.{sort_data, sorts_data}
use Rattle.kat_json.proofs.AtomsBack.{sort_goes_back}
use Rattle.kat_design_json.proofs.NamedItems.{whole_front, names_said}
use Rattle.kat_design_json.specs.DesignParts.{operation_said, query_said, signature_said}
use Rattle.kat_design_json.specs.PrintedDesigns.{operation_data, query_data, signature_data}
use Rattle.kat_json.proofs.PartsBack.{none_three, parts_two, none_four}
use Rattle.kat_num.specs.declared.values.Sort.{Sort}
use Rattle.kat_design.specs.Sorted.{EachHas}
use Rattle.kat_type.proofs.Lists.{once_last}
use Rattle.kat_type.specs.declared.signatures.QuerySig.{QuerySig}
use Rattle.kat_type.specs.declared.signatures.OpSig.{OpSig}

-- the bytes of words are those of names
or_true : (a b : Bool) → a ≡ true → (a || b) ≡ true
or_true true b h = refl
or_true false b h = absurd (cc)

start_byte : (byte : ℕ) → is_word_start byte ≡ true → is_name_byte byte ≡ true
start_byte byte h = or_true (is_word_byte byte) _ (or_true (is_word_start byte) (is_digit byte) h)

word_bytes : (bytes : List ℕ) → list_all is_word_byte bytes ≡ true → list_all is_name_byte bytes ≡ true
word_bytes [] h = refl
word_bytes (byte ∷ bytes) h =
    let both = and_parts (is_word_byte byte) (list_all is_word_byte bytes) h in
    and_true (is_name_byte byte) (list_all is_name_byte bytes) (or_true (is_word_byte byte) _ both.0) (word_bytes bytes both.1)

pub word_is_name : (text : List ℕ) → is_word text ≡ true → IsName text
word_is_name [] h = absurd (cc)
word_is_name (byte ∷ bytes) h =
    let both = and_parts (nat_le (length (byte ∷ bytes)) NAME_LIMIT) (is_word_start byte && list_all is_word_byte bytes) h in
    let bytewise = and_parts (is_word_start byte) (list_all is_word_byte bytes) both.1 in
    record { short = leb-true (length (byte ∷ bytes)) NAME_LIMIT both.0; each = and_true (is_name_byte byte) (list_all is_name_byte bytes) (start_byte byte bytewise.0) (word_bytes bytes bytewise.1) }

not_false : (b : Bool) → not b ≡ true → b ≡ false
not_false true h = absurd (cc)
not_false false h = refl

-- a word is printed by its code
word_by : (text : List ℕ) (b : Bool) (code : ℕ) → (is_word text && not (is_reserved (code_of text))) ≡ b → cond b (Some (code_of text)) None ≡ Some code
    → (string (name_of_code code) ≡ string text) × IsWordCode code
word_by text true code is h =
    let both = and_parts (is_word text) (not (is_reserved (code_of text))) is in
    let same = some_same (code_of text) code h in (
      ap (λ c. string (name_of_code c)) (sym same) ∙ ap string (name_of_code-code_of text (word_is_name text both.0)),
      record { text = text; is_word = both.0; free = not_false (is_reserved (code_of text)) both.1; coded = same },
    )
word_by text false code is h = none_some code h

pub word_of_back : (d : Data) (code : ℕ) → word_of d ≡ Some code → (string (name_of_code code) ≡ d) × IsWordCode code
word_of_back null code h = none_some code h
word_of_back (boolean b) code h = none_some code h
word_of_back (number n) code h = none_some code h
word_of_back (string s) code h = word_by s (is_word s && not (is_reserved (code_of s))) code refl h
word_of_back (array ds) code h = none_some code h
word_of_back (object ms) code h = none_some code h

-- a name that wasn't used
not_among : (used : List ℕ) (name : ℕ) → is_among used name ≡ false → Has used name → ⊥
not_among [] name none has = has
not_among (other ∷ used) name none (inl same) = let equal : (other == name) ≡ true = eq-eqb other name same in among_first (other == name) (is_among used name) equal none where
  among_first : (a b : Bool) → a ≡ true → (a || b) ≡ false → ⊥
  among_first true b h none = absurd (cc)
  among_first false b h none = absurd (cc)
not_among (other ∷ used) name none (inr has) = not_among used name (among_rest (other == name) (is_among used name) none) has where
  among_rest : (a b : Bool) → (a || b) ≡ false → b ≡ false
  among_rest true b none = absurd (cc)
  among_rest false b none = none

-- an operation or a query without faults has a word as its name, which wasn't used before
pub record IsNamed (used : List ℕ) (d : Data) : Type 0 where
  pub word : IsWordCode (item_name d)
  pub unused : is_among used (item_name d) ≡ false

name_by : (used : List ℕ) (d : Data) (o : Option ℕ) → word_of d ≡ o → present (λ code. here_if (is_among used code)) o ≡ []
    → (word_of d ≡ Some (unwrap_or o 0)) × (is_among used (unwrap_or o 0) ≡ false)
name_by used d None is none = absurd (cc)
name_by used d (Some code) is none = (is, here_back (is_among used code) none)

pub name_back : (used : List ℕ) (d : Data) → name_faults used d ≡ [] → (word_of d ≡ Some (unwrap_or (word_of d) 0)) × (is_among used (unwrap_or (word_of d) 0) ≡ false)
name_back used d none = name_by used d (word_of d) refl none

-- sorts
pub sorts_back : (d : Data) → sorts_faults d ≡ [] → (sorts_data (list_said sort_said d) ≡ d) × (length (list_said sort_said d) ≤ param_limit)
sorts_back d none =
    let got = in_list_back few_sorts_faults d none in
    let ds = elements_of d in
    let past = none_right (each_faults sort_faults 0 (take param_limit ds)) (past_faults param_limit ds) got.1 in
    let whole = whole_front param_limit ds past in
    let each = subst (λ (xs : List Data). each_faults sort_faults 0 xs ≡ []) whole (none_left (each_faults sort_faults 0 (take param_limit ds)) (past_faults param_limit ds) got.1) in
    let few : length ds ≤ param_limit = past_back param_limit ds past in
    let same : length (map sort_said ds) ≡ length ds = length-map ds sort_said in
    (ap list (each_back sort_faults sort_said sort_data 0 ds sort_goes_back each) ∙ sym got.0, omega (arith, few, same))

-- operations and queries
pub operation_back : (used : List ℕ) (d : Data) → operation_faults used d ≡ [] → (operation_data (operation_said d) ≡ d) × (IsNamed used d × (length (operation_said d).sorts ≤ param_limit))
operation_back used d none =
    let got = in_list_back (operation_parts_faults used) d none in
    let ds = elements_of d in
    let parts = none_three (part_faults (name_faults used) 0 ds) (part_faults sorts_faults 1 ds) (past_faults 2 ds) got.1 in
    let name = name_back used (at_place ds 0) (part_back (name_faults used) 0 ds parts.0).1 in
    let word = word_of_back (at_place ds 0) (item_name d) name.0 in
    let second = part_back sorts_faults 1 ds parts.1 in
    let sorts = sorts_back (at_place ds 1) second.1 in (
      parts_two (string (name_of_code (item_name d))) (sorts_data (list_said sort_said (at_place ds 1))) (at_place ds 0) (at_place ds 1) word.0 sorts.0
          ∙ sym (ap list (two_parts ds second.0 (past_back 2 ds parts.2))) ∙ sym got.0,
      (record { word = word.1; unused = name.1 }, sorts.1),
    )

parts_three : (a b c x y z : Data) → a ≡ x → b ≡ y → c ≡ z → list (a ∷ b ∷ c ∷ []) ≡ list (x ∷ y ∷ z ∷ [])
parts_three a b c x y z e f g = rw (e, f, g) refl

pub query_back : (used : List ℕ) (d : Data) → query_faults used d ≡ [] → (query_data (query_said d) ≡ d) × (IsNamed used d × (length (query_said d).sorts ≤ param_limit))
query_back used d none =
    let got = in_list_back (query_parts_faults used) d none in
    let ds = elements_of d in
    let parts = none_four (part_faults (name_faults used) 0 ds) (part_faults sorts_faults 1 ds) (part_faults sort_faults 2 ds) (past_faults 3 ds) got.1 in
    let name = name_back used (at_place ds 0) (part_back (name_faults used) 0 ds parts.0).1 in
    let word = word_of_back (at_place ds 0) (item_name d) name.0 in
    let second = part_back sorts_faults 1 ds parts.1 in
    let sorts = sorts_back (at_place ds 1) second.1 in
    let third = part_back sort_faults 2 ds parts.2 in
    let sort = sort_goes_back (at_place ds 2) third.1 in (
      parts_three (string (name_of_code (item_name d))) (sorts_data (list_said sort_said (at_place ds 1))) (sort_data (sort_said (at_place ds 2))) (at_place ds 0) (at_place ds 1) (at_place ds 2) word.0 sorts.0 sort
          ∙ sym (ap list (three_parts ds third.0 (past_back 3 ds parts.3))) ∙ sym got.0,
      (record { word = word.1; unused = name.1 }, sorts.1),
    )

-- a list of them
pub record AreBack {A : Type 0} (said : Data → A) (print : A → Data) (sorts : A → List Sort) (used : List ℕ) (ds : List Data) : Type 0 where
  pub printed : map print (map said ds) ≡ ds
  pub words : EachHas IsWordCode (map item_name ds)
  pub once : IsOnce (used ++ map item_name ds)
  pub small : All (λ (x : A). length (sorts x) ≤ param_limit) (map said ds)

pub items_back : {A : Type 0} (f : List ℕ → Data → List Path) (said : Data → A) (print : A → Data) (sorts : A → List Sort)
    → ((used : List ℕ) (d : Data) → f used d ≡ [] → (print (said d) ≡ d) × (IsNamed used d × (length (sorts (said d)) ≤ param_limit)))
    → (used : List ℕ) (i : ℕ) (ds : List Data) → IsOnce used → items_faults f used i ds ≡ [] → AreBack said print sorts used ds
items_back f said print sorts back used i [] once none = record {
  printed = refl;
  words = tt;
  once = subst (λ names. IsOnce names) (sym (append-nil used)) once;
  small = All-nil (λ x. length (sorts x) ≤ param_limit);
}
items_back f said print sorts back used i (d ∷ ds) once none =
    let name = item_name d in
    let first = back used d (within_back i (f used d) (none_left (within i (f used d)) (items_faults f (used ++ name ∷ []) (i + 1) ds) none)) in
    let named = first.1.0 in
    let rest = items_back f said print sorts back (used ++ name ∷ []) (i + 1) ds (once_last used name once (not_among used name named.unused))
    (none_right (within i (f used d)) (items_faults f (used ++ name ∷ []) (i + 1) ds) none) in
    record {
      printed = ap₂ (λ x xs. x ∷ xs) first.0 rest.printed;
      words = (named.word, rest.words);
      once = subst (λ names. IsOnce names) (append_assoc used (name ∷ []) (map item_name ds)) rest.once;
      small = All-cons (λ x. length (sorts x) ≤ param_limit) (said d) (map said ds) first.1.1 rest.small;
    }

-- a list of operations or queries, as many as there may be
pub few_back : {A : Type 0} (f : List ℕ → Data → List Path) (said : Data → A) (print : A → Data) (sorts : A → List Sort)
    → ((used : List ℕ) (d : Data) → f used d ≡ [] → (print (said d) ≡ d) × (IsNamed used d × (length (sorts (said d)) ≤ param_limit)))
    → (used : List ℕ) (d : Data) → IsOnce used → few_items_faults f used d ≡ []
    → (d ≡ list (elements_of d)) × (AreBack said print sorts used (elements_of d) × (length (elements_of d) ≤ item_limit))
few_back f said print sorts back used d once none =
    let got = in_list_back (λ ds. items_faults f used 0 (take item_limit ds) ++ past_faults item_limit ds) d none in
    let ds = elements_of d in
    let past = none_right (items_faults f used 0 (take item_limit ds)) (past_faults item_limit ds) got.1 in
    let each = subst (λ (xs : List Data). items_faults f used 0 xs ≡ []) (whole_front item_limit ds past) (none_left (items_faults f used 0 (take item_limit ds)) (past_faults item_limit ds) got.1) in
    (got.0, (items_back f said print sorts back used 0 ds once each, past_back item_limit ds past))

-- the names of what is read are those in its text
query_names_said : (ds : List Data) → map (λ (query : QuerySig). query.name) (map query_said ds) ≡ map item_name ds
query_names_said [] = refl
query_names_said (d ∷ ds) = ap (λ names. item_name d ∷ names) (query_names_said ds)

each_both : {A : Type 0} (P : A → Type 0) (xs ys : List A) → EachHas P xs → EachHas P ys → EachHas P (xs ++ ys)
each_both P [] ys h k = k
each_both P (x ∷ xs) ys h k = (h.0, each_both P xs ys h.1 k)

pub signature_back : (d : Data) → signature_faults d ≡ [] → (signature_data (signature_said d) ≡ d) × IsSignature (signature_said d)
signature_back d none =
    let got = in_list_back signature_parts_faults d none in
    let ds = elements_of d in
    let used = names_of (at_place ds 0) in
    let parts = none_three (part_faults (few_items_faults operation_faults []) 0 ds) (part_faults (few_items_faults query_faults used) 1 ds) (past_faults 2 ds) got.1 in
    let ops_there = part_back (few_items_faults operation_faults []) 0 ds parts.0 in
    let queries_there = part_back (few_items_faults query_faults used) 1 ds parts.1 in
    let ops = few_back operation_faults operation_said operation_data (λ (op : OpSig). op.sorts) operation_back [] (at_place ds 0) tt ops_there.1 in
    let queries = few_back query_faults query_said query_data (λ (query : QuerySig). query.sorts) query_back used (at_place ds 1) ops.1.0.once queries_there.1 in
    let first = elements_of (at_place ds 0) in
    let second = elements_of (at_place ds 1) in
    let few_ops : length (map operation_said first) ≤ item_limit = subst (λ n. n ≤ item_limit) (sym (length-map first operation_said)) ops.1.1 in
    let few_queries : length (map query_said second) ≤ item_limit = subst (λ n. n ≤ item_limit) (sym (length-map second query_said)) queries.1.1 in
    let names : map item_name first ++ map item_name second ≡ names_in (signature_said d) = ap₂ (λ xs ys. xs ++ ys) (sym (names_said first)) (sym (query_names_said second)) in (
      parts_two (list (map operation_data (map operation_said first))) (list (map query_data (map query_said second))) (at_place ds 0) (at_place ds 1)
          (ap list ops.1.0.printed ∙ sym ops.0) (ap list queries.1.0.printed ∙ sym queries.0)
          ∙ sym (ap list (two_parts ds queries_there.0 (past_back 2 ds parts.2))) ∙ sym got.0,
      record {
        small = record { few_ops = few_ops; few_queries = few_queries; ops = ops.1.0.small; queries = queries.1.0.small };
        words = subst (λ (ns : List ℕ). EachHas IsWordCode ns) names (each_both IsWordCode (map item_name first) (map item_name second) ops.1.0.words queries.1.0.words);
        different = subst (λ (ns : List ℕ). IsOnce ns) names queries.1.0.once;
      },
    )
