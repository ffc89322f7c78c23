-- A file is read from its text.
use Rattle.std.proofs.Common.{inl, inr, ℕ, ◌+◌, ◌≤◌, List, [], ◌∷◌, arith, map, ◌<◌, false, Bool, true, cond, zero, suc, ◌≡◌, ◌++◌, refl, codes, ℤ, pos, negsuc, Option, Some, None, sym, subst}
use Rattle.std.specs.Prelude.{◌-◌, ◌%◌, ◌/◌, ◌==◌, decimal, IsUtf8, ◌^◌, ◌≤ℤ◌, neg_ℤ, sum_by}
use Rattle.std.specs.Fmt.{digit_glyph, digits_onto, digits}
use Rattle.std.specs.Str.{IsAscii}
use Rattle.std.proofs.lemmas.Str.{IsUtf8-append, IsUtf8-from_ascii}
use Rattle.std.proofs.lemmas.Int.{ints}
use Rattle.std.proofs.lemmas.List.Sums.{sum_by-cons}
use Rattle.kat_design.specs.Sorted.{EachHas, IsWritten}
use Rattle.serde_json.specs.Data.{Data, depth, items_depth}
use Rattle.serde_json.specs.View.{items_of}
use Rattle.kat_json.specs.Lists.{list}
use Rattle.json.proofs.Printed.Utf8.{IsUtf8-are_ascii, are_ascii}
use Rattle.kat_num.specs.declared.values.Sort.{Sort}
use Rattle.kat_json.specs.Printed.{natural, sort_data, value_data, key_data, leaf_data, effect_data, effects_data, keyed_data, leaves_data, sorts_data, integer_data, integers_data}
use Rattle.kat_json.proofs.RoundTrip.{IsPlain, IsWholeNumber, plain_items, line_read, line_utf8}
use Rattle.kat_shape.specs.Forms.{CellForm, numbers, names, truths, lex, pair, nodes_of}
use Rattle.kat_design_json.specs.PrintedDesigns.{shape_data, component_data, ask_data, operation_data, query_data}
use Rattle.serde_json.specs.Find.{of_integer}
use Rattle.kat_num.specs.declared.values.Value.{Value}
use Rattle.kat_json.proofs.PrintedParts.{name_is_text}
use Rattle.kat_design.specs.declared.designs.Leaf.{Leaf}
use Rattle.kat_design.specs.Designs.{ComponentForm, AskForm}
use Rattle.kat_design.specs.Designs.ComponentForm.{a_cell, a_table, a_set, a_tally, tallies}
use Rattle.kat_design_json.specs.WrittenParts.{HasWrittenStarts, HasWrittenConstants}
use Rattle.kat_design.specs.Designs.AskForm.{leaf as a_leaf, parameter, constant, negation, both, either, less as lesser, sum, difference}
use Rattle.kat_design_json.proofs.AsksBack.{HasSmallNumbers}
use Rattle.kat_num.specs.Names.{name_of_code}
use Rattle.kat_design_json.specs.Signatures.{IsWordCode}
use Rattle.kat_design_json.proofs.SignaturesBack.{word_is_name}
use Rattle.kat_type.specs.declared.signatures.OpSig.{OpSig}
use Rattle.kat_type.specs.declared.signatures.QuerySig.{QuerySig}
use Rattle.kat_wire.specs.FileForms.{IsVersion, IsIndex, HasIndices, HasOnlyIndices, IsFileLiteral, IsFileMultiplier, IsFileLine, FileForm}
use Rattle.kat_relation.specs.declared.relations.LeafRef.{LeafRef}
use Rattle.kat_wire.specs.Printed.{hints_data, ref_data, conjunct_data, line_data, lines_data, cause_data, passed_over_data, earlier_data, file_data, file_text}
use Rattle.kat_relation.specs.declared.relations.Conjunct.{Conjunct}
use Rattle.kat_relation.specs.declared.relations.Conjunct.TheVariants.{Query, Equal, Bounded, AtLeast, Matched, Total}
use Rattle.kat_refute.specs.Lines.{hinted, Line, rup, linear}
use Rattle.kat_wire.specs.declared.causes.Cause.{Cause}
use Rattle.kat_wire.specs.Files.{AreNumbered, IsFile, IsFileOf, IsFileText, IsWrittenFile}
use Rattle.kat_design.proofs.Accepted.{well_sorted}
use Rattle.kat_design_json.proofs.DesignsForth.{each_behind, each_front}
use Rattle.kat_design_json.proofs.PrintedDesigns.{asks_written, components_written}
use Rattle.kat_design_json.proofs.SmallAsks.{design_small}
use Rattle.kat_design.specs.Sizes.{component_size, ask_nodes, size_of}
use Rattle.kat_wire.specs.Builtins.{builtin_of}
use Rattle.kat_num.specs.declared.values.Sort.TheVariants as sort
use Rattle.kat_num.specs.declared.values.Value.TheVariants as value
use Rattle.kat_design.specs.declared.designs.Leaf.TheVariants as leaf
use Rattle.kat_wire.specs.declared.causes.Cause.TheVariants as cause

-- how deep lists are
list_deep : (ds : List Data) (n : ℕ) → EachHas (λ d. depth d ≤ n) ds → depth (list ds) ≤ n + 1
list_deep ds n each = let inner = items_deep ds n each in omega (arith, inner) where
  items_deep : (ds : List Data) (n : ℕ) → EachHas (λ d. depth d ≤ n) ds → items_depth (items_of ds) ≤ n
  items_deep [] n each = omega arith
  items_deep (d ∷ ds) n each = let rest = items_deep ds n each.1 in let first : depth d ≤ n = each.0 in omega (arith, rest, first)

map_has : {A : Type 0} (P : Data → Type 0) (f : A → Data) → ((x : A) → P (f x)) → (xs : List A) → EachHas P (map f xs)
map_has P f each [] = tt
map_has P f each (x ∷ xs) = (each x, map_has P f each xs)

-- numbers are written in ASCII
digit_small : (n : ℕ) → digit_glyph false (n % 10) < 128
digit_small n = grind arith

cond_ascii : (b : Bool) (xs ys : List ℕ) → IsAscii xs → IsAscii ys → IsAscii (cond b xs ys)
cond_ascii true xs ys h k = h
cond_ascii false xs ys h k = k

cons_ascii : (x : ℕ) (xs : List ℕ) → x < 128 → IsAscii xs → IsAscii (x ∷ xs)
cons_ascii x xs small rest zero = small
cons_ascii x xs small rest (suc i) = rest i

digits_ascii : (k n : ℕ) (acc : List ℕ) → IsAscii acc → IsAscii (digits_onto k 10 false n acc)
digits_ascii zero n acc h = h
digits_ascii (suc k) n acc h =
    let d = digit_glyph false (n % 10) in
    let longer = cons_ascii d acc (digit_small n) h in
    cond_ascii (n / 10 == 0) (d ∷ acc) (digits_onto k 10 false (n / 10) (d ∷ acc)) longer (digits_ascii k (n / 10) (d ∷ acc) longer)

nil_ascii : IsAscii []
nil_ascii i = omega arith

decimal_ascii : (n : ℕ) → IsAscii (decimal n)
unfolding digits
decimal_ascii n = digits_ascii 64 n [] nil_ascii

numbered_utf8 : (word : List ℕ) (place : ℕ) → are_ascii word ≡ true → IsUtf8 (word ++ decimal place)
numbered_utf8 word place is = IsUtf8-append word (decimal place) (IsUtf8-are_ascii word is) (IsUtf8-from_ascii (decimal place) (decimal_ascii place))

known : (word : List ℕ) → are_ascii word ≡ true → IsUtf8 word
known word is = IsUtf8-are_ascii word is

-- each value that is printed is plain
sort_plain : (s : Sort) → IsPlain (sort_data s)
sort_plain sort.Bool = known (codes "bool") refl
sort_plain sort.Int = known (codes "int") refl
sort_plain sort.Nat = known (codes "nat") refl
sort_plain sort.Name = known (codes "name") refl

shape_plain : (shape : CellForm) → IsPlain (shape_data shape)
shape_plain numbers = known (codes "max") refl
shape_plain names = known (codes "name") refl
shape_plain truths = known (codes "or") refl
shape_plain (lex a b) = (known (codes "lex") refl, (shape_plain a, (shape_plain b, tt)))
shape_plain (pair a b) = (known (codes "pair") refl, (shape_plain a, (shape_plain b, tt)))

number_plain : (z : ℤ) → (neg_ℤ (pos (2 ^ 63)) ≤ℤ z) × (z ≤ℤ pos (2 ^ 64 - 1)) → IsWholeNumber (of_integer z)
number_plain (pos n) h = let most = h.1 in grind (arith, ints, most)
number_plain (negsuc n) h = let least = h.0 in grind (arith, ints, least)

value_plain : (v : Value) → IsWritten v → IsPlain (value_data v)
value_plain (value.Bool b) is = tt
value_plain (value.Num z) is = number_plain z is
value_plain (value.Name code) is = name_is_text code is

key_plain : (place : ℕ) → IsPlain (key_data place)
key_plain place = numbered_utf8 (codes "p") place refl

leaf_plain : (l : Leaf) → IsPlain (leaf_data l)
leaf_plain (leaf.Arg place) = numbered_utf8 (codes "p") place refl
leaf_plain leaf.Time = known (codes "time") refl
leaf_plain leaf.Replica = known (codes "replica") refl
leaf_plain leaf.Zero = omega arith
leaf_plain leaf.One = omega arith
leaf_plain (leaf.Pos place) = numbered_utf8 (codes "pos") place refl
leaf_plain (leaf.Neg place) = numbered_utf8 (codes "neg") place refl
leaf_plain leaf.False = tt
leaf_plain leaf.True = tt

map_plain : {A : Type 0} (f : A → Data) → ((x : A) → IsPlain (f x)) → (xs : List A) → IsPlain (list (map f xs))
map_plain f each xs = plain_items (map f xs) (map_has IsPlain f each xs)

each_plain : {A : Type 0} (P : A → Type 0) (f : A → Data) → ((x : A) → P x → IsPlain (f x)) → (xs : List A) → EachHas P xs → EachHas IsPlain (map f xs)
each_plain P f plain [] each = tt
each_plain P f plain (x ∷ xs) each = (plain x each.0, each_plain P f plain xs each.1)

effect_plain : {A : Type 0} (f : A → Data) → ((x : A) → IsPlain (f x)) → (e : Option A) → IsPlain (effect_data f e)
effect_plain f each None = tt
effect_plain f each (Some x) = each x

effects_plain : {A : Type 0} (f : A → Data) → ((x : A) → IsPlain (f x)) → (es : List (Option A)) → IsPlain (effects_data f es)
effects_plain f each es = map_plain (effect_data f) (effect_plain f each) es

keyed_plain : {A : Type 0} (f : A → Data) → ((x : A) → IsPlain (f x)) → (e : ℕ × A) → IsPlain (keyed_data f e)
keyed_plain f each e = (key_plain e.0, (each e.1, tt))

leaves_plain : (ls : List Leaf) → IsPlain (leaves_data ls)
leaves_plain ls = map_plain leaf_data leaf_plain ls

starts_plain : (starts : List Value) → EachHas IsWritten starts → IsPlain (list (map value_data starts))
starts_plain starts each = plain_items (map value_data starts) (each_plain IsWritten value_data value_plain starts each)

component_plain : (c : ComponentForm) → HasWrittenStarts c → IsPlain (component_data c)
component_plain (a_cell shape starts effects) h = (known (codes "cell") refl, (shape_plain shape, (starts_plain starts h, (effects_plain leaves_data leaves_plain effects, tt))))
component_plain (a_table key shape starts effects) h =
    (known (codes "table") refl, (sort_plain key, (shape_plain shape, (starts_plain starts h, (effects_plain (keyed_data leaves_data) (keyed_plain leaves_data leaves_plain) effects, tt)))))
component_plain (a_set key effects) h = (known (codes "set") refl, (sort_plain key, (effects_plain key_data key_plain effects, tt)))
component_plain (a_tally effects) h = (known (codes "tally") refl, (effects_plain leaf_data leaf_plain effects, tt))
component_plain (tallies key effects) h = (known (codes "tallies") refl, (sort_plain key, (effects_plain (keyed_data leaf_data) (keyed_plain leaf_data leaf_plain) effects, tt)))

small_fits : (n : ℕ) → n < 2 ^ 32 - 1 → n < 2 ^ 64
small_fits n small = omega (arith, small)

ask_plain : (a : AskForm) → HasSmallNumbers a → HasWrittenConstants a → IsPlain (ask_data a)
ask_plain (a_leaf component place None) small written = (known (codes "leaf") refl, (small_fits component small.0, (small_fits place small.1, tt)))
ask_plain (a_leaf component place (Some key)) small written = (known (codes "leaf") refl, (small_fits component small.0, (small_fits place small.1, (small_fits key small.2, tt))))
ask_plain (parameter place) small written = (known (codes "p") refl, (small_fits place small, tt))
ask_plain (constant v) small written = value_plain v written
ask_plain (negation a) small written = (known (codes "not") refl, (ask_plain a small written, tt))
ask_plain (both a b) small written = (known (codes "and") refl, (ask_plain a small.0 written.0, (ask_plain b small.1 written.1, tt)))
ask_plain (either a b) small written = (known (codes "or") refl, (ask_plain a small.0 written.0, (ask_plain b small.1 written.1, tt)))
ask_plain (lesser a b) small written = (known (codes "<") refl, (ask_plain a small.0 written.0, (ask_plain b small.1 written.1, tt)))
ask_plain (sum a b) small written = (known (codes "+") refl, (ask_plain a small.0 written.0, (ask_plain b small.1 written.1, tt)))
ask_plain (difference a b) small written = (known (codes "-") refl, (ask_plain a small.0 written.0, (ask_plain b small.1 written.1, tt)))

asks_plain : (asks : List AskForm) → EachHas HasSmallNumbers asks → EachHas HasWrittenConstants asks → EachHas IsPlain (map ask_data asks)
asks_plain [] small written = tt
asks_plain (a ∷ asks) small written = (ask_plain a small.0 written.0, asks_plain asks small.1 written.1)

word_plain : (code : ℕ) → IsWordCode code → IsUtf8 (name_of_code code)
word_plain code is = name_is_text code (record { name = is.text; is_name = word_is_name is.text is.is_word; coded = is.coded })

sorts_plain : (sorts : List Sort) → IsPlain (sorts_data sorts)
sorts_plain sorts = map_plain sort_data sort_plain sorts

operations_plain : (ops : List OpSig) → EachHas IsWordCode (map (λ (o : OpSig). o.name) ops) → EachHas IsPlain (map operation_data ops)
operations_plain [] words = tt
operations_plain (op ∷ ops) words = ((word_plain op.name words.0, (sorts_plain op.sorts, tt)), operations_plain ops words.1)

queries_plain : (queries : List QuerySig) → EachHas IsWordCode (map (λ (q : QuerySig). q.name) queries) → EachHas IsPlain (map query_data queries)
queries_plain [] words = tt
queries_plain (q ∷ queries) words = ((word_plain q.name words.0, (sorts_plain q.sorts, (sort_plain q.sort, tt))), queries_plain queries words.1)

index_plain : (n : ℕ) → IsIndex n → n < 2 ^ 64
index_plain n small = omega (arith, small)

ref_plain : (leaf : LeafRef) → HasIndices leaf → IsPlain (ref_data leaf)
ref_plain leaf is = (index_plain leaf.component is.component, (index_plain leaf.leaf is.leaf_there, tt))

conjunct_plain : (c : Conjunct) → HasOnlyIndices c → IsPlain (conjunct_data c)
conjunct_plain (Query n) is = (known (codes "q") refl, (index_plain n is, tt))
conjunct_plain (Equal field leaf) is = (known (codes "e") refl, (index_plain field is.0, (ref_plain leaf is.1, tt)))
conjunct_plain (Bounded leaves position) is =
    (known (codes "k") refl, (plain_items (map ref_data leaves) (each_plain HasIndices ref_data ref_plain leaves is.0), (index_plain position is.1, tt)))
conjunct_plain (AtLeast leaf position digit) is = (known (codes "b") refl, (ref_plain leaf is.0, (index_plain position is.1, (index_plain digit is.2, tt))))
conjunct_plain (Matched first position second later digit) is =
    (known (codes "c") refl, (ref_plain first is.0, (index_plain position is.1, (ref_plain second is.2, (index_plain later is.3, (index_plain digit is.4, tt))))))
conjunct_plain (Total n) is = (known (codes "t") refl, (index_plain n is, tt))

literal_plain : (z : ℤ) → IsFileLiteral z → IsPlain (integer_data z)
literal_plain (pos n) is = let most = is.most in grind (arith, ints, most)
literal_plain (negsuc n) is = let least = is.least in grind (arith, ints, least)

multiplier_plain : (z : ℤ) → IsFileMultiplier z → IsPlain (integer_data z)
multiplier_plain (pos n) is = let most = is.most in grind (arith, ints, most)
multiplier_plain (negsuc n) is = let least = is.least in grind (arith, ints, least)

literals_plain : (zs : List ℤ) → EachHas IsFileLiteral zs → IsPlain (integers_data zs)
literals_plain zs is = plain_items (map integer_data zs) (each_plain IsFileLiteral integer_data literal_plain zs is)

multipliers_plain : (zs : List ℤ) → EachHas IsFileMultiplier zs → IsPlain (integers_data zs)
multipliers_plain zs is = plain_items (map integer_data zs) (each_plain IsFileMultiplier integer_data multiplier_plain zs is)

hints_plain : (hints : List ℕ) → EachHas IsIndex hints → IsPlain (hints_data hints)
hints_plain hints is = plain_items (map natural hints) (each_plain IsIndex natural index_plain hints is)

line_plain : (version : ℕ) (line : Line) → IsFileLine version line → IsPlain (line_data line)
line_plain version (rup literals) is = (known (codes "r") refl, (literals_plain literals is.1, tt))
line_plain version (linear literals multipliers) is = (known (codes "l") refl, (literals_plain literals is.0, (multipliers_plain multipliers is.1, tt)))
line_plain version (hinted literals hints) is = (known (codes "r") refl, (literals_plain literals is.1, (hints_plain hints is.2, tt)))

lines_plain : (version : ℕ) (lines : List Line) → EachHas (IsFileLine version) lines → IsPlain (lines_data lines)
lines_plain version lines is = plain_items (map line_data lines) (each_plain (IsFileLine version) line_data (line_plain version) lines is)

version_small : (version : ℕ) → IsVersion version → version < 2 ^ 64
version_small version (inl is) = omega (arith, is)
version_small version (inr is) = omega (arith, is)

cause_plain : (c : Cause) → IsPlain (cause_data c)
cause_plain cause.OpenCert = known (codes "open") refl
cause_plain cause.Spent = known (codes "spent") refl
cause_plain cause.Rows = known (codes "rows") refl
cause_plain cause.Wide = known (codes "wide") refl
cause_plain cause.Long = known (codes "long") refl

passed_over_plain : (item : ℕ × Cause) → item.0 < 2 ^ 64 → IsPlain (passed_over_data item)
passed_over_plain item small = (small, (cause_plain item.1, tt))

earlier_plain : (earlier : List (ℕ × Cause)) → AreNumbered earlier → IsPlain (earlier_data earlier)
earlier_plain earlier is = plain_items (map passed_over_data earlier) (each_plain (λ (item : ℕ × Cause). item.0 < 2 ^ 64) passed_over_data passed_over_plain earlier is)

file_plain : (f : FileForm) (earlier : List (ℕ × Cause)) → IsFile f → AreNumbered earlier → IsPlain (file_data f (earlier_data earlier))
file_plain f earlier is numbered =
    let d = f.design in
    let sorted = well_sorted d is.accepted in
    let names = map (λ (o : OpSig). o.name) d.sig.ops in
    let others = map (λ (q : QuerySig). q.name) d.sig.queries in
    let ops = plain_items (map operation_data d.sig.ops) (operations_plain d.sig.ops (each_front IsWordCode names others is.signature.words)) in
    let queries = plain_items (map query_data d.sig.queries) (queries_plain d.sig.queries (each_behind IsWordCode names others is.signature.words)) in
    let components = plain_items (map component_data d.components) (each_plain HasWrittenStarts component_data component_plain d.components (components_written d.sig.ops d.components sorted.components)) in
    let asks = plain_items (map ask_data d.asks) (asks_plain d.asks (design_small d sorted is.signature.small) (asks_written d.components d.asks d.sig.queries sorted.asks)) in
    let relation = plain_items (map conjunct_data f.relation) (each_plain HasOnlyIndices conjunct_data conjunct_plain f.relation is.indices) in
    let proof = plain_items (map lines_data f.proof) (each_plain (EachHas (IsFileLine f.version)) lines_data (lines_plain f.version) f.proof is.lines) in
    (known (codes "katara") refl, (version_small f.version is.version, ((ops, (queries, tt)), ((components, (asks, tt)), (relation, (proof, (earlier_plain earlier numbered, tt)))))))

-- how deep they nest
shape_deep : (shape : CellForm) → depth (shape_data shape) ≤ nodes_of shape
shape_deep numbers = omega arith
shape_deep names = omega arith
shape_deep truths = omega arith
shape_deep (lex a b) = let first = shape_deep a in let second = shape_deep b in omega (arith, first, second)
shape_deep (pair a b) = let first = shape_deep a in let second = shape_deep b in omega (arith, first, second)

value_deep : (v : Value) → depth (value_data v) ≤ 0
value_deep (value.Bool b) = omega arith
value_deep (value.Num z) = omega arith
value_deep (value.Name code) = omega arith

leaf_deep : (l : Leaf) → depth (leaf_data l) ≤ 0
leaf_deep (leaf.Arg place) = omega arith
leaf_deep leaf.Time = omega arith
leaf_deep leaf.Replica = omega arith
leaf_deep leaf.Zero = omega arith
leaf_deep leaf.One = omega arith
leaf_deep (leaf.Pos place) = omega arith
leaf_deep (leaf.Neg place) = omega arith
leaf_deep leaf.False = omega arith
leaf_deep leaf.True = omega arith

sort_deep : (s : Sort) → depth (sort_data s) ≤ 0
sort_deep sort.Bool = omega arith
sort_deep sort.Int = omega arith
sort_deep sort.Nat = omega arith
sort_deep sort.Name = omega arith

map_deep : {A : Type 0} (f : A → Data) (n : ℕ) → ((x : A) → depth (f x) ≤ n) → (xs : List A) → depth (list (map f xs)) ≤ n + 1
map_deep f n each xs = list_deep (map f xs) n (map_has (λ d. depth d ≤ n) f each xs)

effect_deep : {A : Type 0} (f : A → Data) (n : ℕ) → ((x : A) → depth (f x) ≤ n) → (e : Option A) → depth (effect_data f e) ≤ n
effect_deep f n each None = omega arith
effect_deep f n each (Some x) = each x

effects_deep : {A : Type 0} (f : A → Data) (n : ℕ) → ((x : A) → depth (f x) ≤ n) → (es : List (Option A)) → depth (effects_data f es) ≤ n + 1
effects_deep f n each es = map_deep (effect_data f) n (effect_deep f n each) es

leaves_deep : (ls : List Leaf) → depth (leaves_data ls) ≤ 1
leaves_deep ls = map_deep leaf_data 0 leaf_deep ls

keyed_deep : {A : Type 0} (f : A → Data) (n : ℕ) → ((x : A) → depth (f x) ≤ n) → (e : ℕ × A) → depth (keyed_data f e) ≤ n + 1
keyed_deep f n each e = let given = each e.1 in omega (arith, given)

component_deep : (c : ComponentForm) → depth (component_data c) ≤ component_size c + 4
component_deep (a_cell shape starts effects) =
    let s = shape_deep shape in let v = map_deep value_data 0 value_deep starts in let e = effects_deep leaves_data 1 leaves_deep effects in omega (arith, s, v, e)
component_deep (a_table key shape starts effects) =
    let k = sort_deep key in let s = shape_deep shape in let v = map_deep value_data 0 value_deep starts in
    let e = effects_deep (keyed_data leaves_data) 2 (keyed_deep leaves_data 1 leaves_deep) effects in omega (arith, k, s, v, e)
component_deep (a_set key effects) = let k = sort_deep key in let e = effects_deep key_data 0 (λ place. omega arith) effects in omega (arith, k, e)
component_deep (a_tally effects) = let e = effects_deep leaf_data 0 leaf_deep effects in omega (arith, e)
component_deep (tallies key effects) = let k = sort_deep key in let e = effects_deep (keyed_data leaf_data) 1 (keyed_deep leaf_data 0 leaf_deep) effects in omega (arith, k, e)

ask_deep : (a : AskForm) → depth (ask_data a) ≤ ask_nodes a
ask_deep (a_leaf component place None) = omega arith
ask_deep (a_leaf component place (Some key)) = omega arith
ask_deep (parameter place) = omega arith
ask_deep (constant v) = let deep = value_deep v in omega (arith, deep)
ask_deep (negation a) = let first = ask_deep a in omega (arith, first)
ask_deep (both a b) = let first = ask_deep a in let second = ask_deep b in omega (arith, first, second)
ask_deep (either a b) = let first = ask_deep a in let second = ask_deep b in omega (arith, first, second)
ask_deep (lesser a b) = let first = ask_deep a in let second = ask_deep b in omega (arith, first, second)
ask_deep (sum a b) = let first = ask_deep a in let second = ask_deep b in omega (arith, first, second)
ask_deep (difference a b) = let first = ask_deep a in let second = ask_deep b in omega (arith, first, second)

sum_deep : {A : Type 0} (f : A → Data) (size : A → ℕ) (more most : ℕ) → ((x : A) → depth (f x) ≤ size x + more) → (xs : List A) → sum_by size xs ≤ most → EachHas (λ d. depth d ≤ most + more) (map f xs)
sum_deep f size more most each [] few = tt
sum_deep f size more most each (x ∷ xs) few =
    let all = sum_by-cons size x xs in let first = each x in
    (omega (arith, all, first, few), sum_deep f size more most each xs (omega (arith, all, few)))

ask_deep_more : (a : AskForm) → depth (ask_data a) ≤ ask_nodes a + 4
ask_deep_more a = let deep = ask_deep a in omega (arith, deep)

operation_deep : (op : OpSig) → depth (operation_data op) ≤ 2
operation_deep op = let s = map_deep sort_data 0 sort_deep op.sorts in omega (arith, s)

query_deep : (q : QuerySig) → depth (query_data q) ≤ 2
query_deep q = let s = map_deep sort_data 0 sort_deep q.sorts in let t = sort_deep q.sort in omega (arith, s, t)

ref_deep : (leaf : LeafRef) → depth (ref_data leaf) ≤ 1
ref_deep leaf = omega arith

conjunct_deep : (c : Conjunct) → depth (conjunct_data c) ≤ 3
conjunct_deep (Query n) = omega arith
conjunct_deep (Equal field leaf) = let first = ref_deep leaf in omega (arith, first)
conjunct_deep (Bounded leaves position) = let first = map_deep ref_data 1 ref_deep leaves in omega (arith, first)
conjunct_deep (AtLeast leaf position digit) = let first = ref_deep leaf in omega (arith, first)
conjunct_deep (Matched leaf position second later digit) = let first = ref_deep leaf in let other = ref_deep second in omega (arith, first, other)
conjunct_deep (Total n) = omega arith

integer_deep : (z : ℤ) → depth (integer_data z) ≤ 0
integer_deep z = omega arith

natural_deep : (n : ℕ) → depth (natural n) ≤ 0
natural_deep n = omega arith

line_deep : (line : Line) → depth (line_data line) ≤ 2
line_deep (rup literals) = let first = map_deep integer_data 0 integer_deep literals in omega (arith, first)
line_deep (linear literals multipliers) =
    let first = map_deep integer_data 0 integer_deep literals in let second = map_deep integer_data 0 integer_deep multipliers in omega (arith, first, second)
line_deep (hinted literals hints) =
    let first = map_deep integer_data 0 integer_deep literals in let second = map_deep natural 0 natural_deep hints in omega (arith, first, second)

lines_deep : (lines : List Line) → depth (lines_data lines) ≤ 3
lines_deep lines = map_deep line_data 2 line_deep lines

cause_deep : (c : Cause) → depth (cause_data c) ≤ 0
cause_deep cause.OpenCert = omega arith
cause_deep cause.Spent = omega arith
cause_deep cause.Rows = omega arith
cause_deep cause.Wide = omega arith
cause_deep cause.Long = omega arith

passed_over_deep : (item : ℕ × Cause) → depth (passed_over_data item) ≤ 1
passed_over_deep item = let second = cause_deep item.1 in omega (arith, second)

file_deep : (f : FileForm) (earlier : List (ℕ × Cause)) → size_of f.design ≤ 64 → depth (file_data f (earlier_data earlier)) ≤ 127
file_deep f earlier small =
    let d = f.design in
    let parts : sum_by component_size d.components ≤ 64 = omega (arith, small) in
    let asked : sum_by ask_nodes d.asks ≤ 64 = omega (arith, small) in
    let components = list_deep (map component_data d.components) 68 (sum_deep component_data component_size 4 64 component_deep d.components parts) in
    let asks = list_deep (map ask_data d.asks) 68 (sum_deep ask_data ask_nodes 4 64 ask_deep_more d.asks asked) in
    let ops = map_deep operation_data 2 operation_deep d.sig.ops in
    let queries = map_deep query_data 2 query_deep d.sig.queries in
    let relation = map_deep conjunct_data 3 conjunct_deep f.relation in
    let proof = map_deep lines_data 3 lines_deep f.proof in
    let last = map_deep passed_over_data 1 passed_over_deep earlier in
    omega (arith, components, asks, ops, queries, relation, proof, last)

-- the text of a file is read again
pub printed_read : (f : FileForm) (earlier : List (ℕ × Cause)) → IsFile f → AreNumbered earlier → IsFileText (file_text f earlier) f
printed_read f earlier is numbered =
    let plain = file_plain f earlier is numbered in
    let sorted = well_sorted f.design is.accepted in
    let size : size_of f.design ≤ 64 = sorted.small in
    let value = file_data f (earlier_data earlier) in
    let text : IsWrittenFile (file_text f earlier) f = record {
      earlier = earlier_data earlier;
      json = record { utf8 = line_utf8 value plain; is_read = line_read value plain (file_deep f earlier size) };
      file = is;
    } in
    subst (λ o. IsFileOf o (file_text f earlier) f) (sym not_built) text where
      not_built : builtin_of (file_text f earlier) ≡ None
      not_built = refl
