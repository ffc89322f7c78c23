-- What is printed has no fault of form, and says what it was printed of: components, asks and signatures.
use Rattle.std.proofs.Common.{ℕ, ◌<◌, ◌≤◌, List, length, arith, [], ◌∷◌, Option, Some, None, map, refl, ◌≡◌, Bool, pos, negsuc, ap, true, false, sym, ◌∙◌, ◌+◌, inl, inr, ◌++◌, subst, ap₂, append_assoc, take}
use Rattle.std.specs.Prelude.{◌-◌, All, ◌^◌, ◌||◌, ◌==◌, nat_lt, unwrap_or}
use Rattle.std.proofs.lemmas.Option.{slice_get_within}
use Rattle.std.proofs.lemmas.List.Elements.{All-head, All-tail}
use Rattle.std.proofs.lemmas.Bool.{eqb-true, le-ltb}
use Rattle.std.proofs.lemmas.List.{length-map, take_all}
use Rattle.kat_num.specs.declared.values.Sort.{Sort}
use Rattle.kat_design.specs.Sorted.{IsParameter, GivesKind, IsWeight, AreMatched, EachHas, FitsCell, FitsTable, FitsSet, FitsTally, FitsTallies, IsWritten, IsComponent, IsStart}
use Rattle.kat_design.specs.Sorted.GivesKind.{argument as gives_argument, time as gives_time, replica as gives_replica, zero_leaf as gives_zero_leaf, one as gives_one, above as gives_above, below as gives_below, false_leaf as gives_false_leaf, true_leaf as gives_true_leaf}
use Rattle.kat_design.specs.declared.designs.Leaf.{Leaf}
use Rattle.kat_json.proofs.Forwards.{HasFewPlaces, GoesForth, leaf_forth, list_forth, none_forth, some_forth, keyed_forth, key_forth, leaf_something, value_forth, key_sort_forth, number_forth, each_forth, elements_known, in_list_none, sort_forth}
use Rattle.kat_design.specs.Sorted.IsWeight.{natural as weighs_natural, time as weighs_time, replica as weighs_replica, zero_leaf as weighs_zero_leaf, one as weighs_one, above as weighs_above, below as weighs_below}
use Rattle.kat_json.specs.FormFaults.{leaf_faults, list_of_faults, effect_faults, effects_faults, pair_faults, key_faults, value_faults, past_faults, sort_faults}
use Rattle.kat_json.specs.Parts.{leaf_said, list_said, effect_said, effects_said, pair_said, key_said, value_said, sort_said}
use Rattle.kat_json.specs.Printed.{leaf_data, leaves_data, effect_data, effects_data, keyed_data, key_data, value_data, sort_data, sorts_data}
use Rattle.kat_design.specs.Faults.{Path, here_if, within, each_faults}
use Rattle.serde_json.specs.Data.{Data, string}
use Rattle.kat_type.specs.Limits.{param_limit, item_limit}
use Rattle.kat_type.specs.declared.signatures.OpSig.{OpSig}
use Rattle.kat_num.specs.declared.values.Value.{Value}
use Rattle.kat_json.specs.Lists.{list}
use Rattle.kat_design.specs.Designs.{ComponentForm, AskForm}
use Rattle.kat_design.specs.Designs.ComponentForm.{a_cell, a_table, a_set, a_tally, tallies}
use Rattle.kat_design.specs.Kinds.{kinds_of}
use Rattle.kat_design_json.specs.DesignFaults.{component_faults, ask_faults, name_faults, few_sorts_faults, sorts_faults, item_name, operation_faults, query_faults, items_faults, few_items_faults, names_of, signature_faults}
use Rattle.kat_design_json.specs.DesignParts.{component_said, ask_said, operation_said, query_said, signature_said}
use Rattle.kat_design_json.specs.PrintedDesigns.{component_data, ask_data, operation_data, query_data, signature_data}
use Rattle.kat_design_json.proofs.ShapesForth.{shape_forth}
use Rattle.kat_design.specs.Designs.AskForm.{leaf as a_leaf, constant, parameter, negation, both, either, less as lesser, sum, difference}
use Rattle.kat_design_json.proofs.AsksBack.{HasSmallNumbers}
use Rattle.kat_design_json.specs.WrittenParts.{HasWrittenConstants}
use Rattle.kat_num.specs.Names.{code_of, name_of_code}
use Rattle.kat_num.proofs.NameCodes.{name_of_code-code_of}
use Rattle.kat_lex.specs.Words.{is_reserved}
use Rattle.kat_design_json.specs.Signatures.{IsWordCode, IsSignature}
use Rattle.kat_json.specs.Words.{is_word, word_of}
use Rattle.kat_design_json.proofs.SignaturesBack.{word_is_name}
use Rattle.kat_type.specs.Lists.{Has, IsOnce}
use Rattle.kat_type.specs.Names.{is_among}
use Rattle.kat_type.specs.declared.signatures.QuerySig.{QuerySig}
use Rattle.kat_type.specs.declared.signatures.Signature.{Signature}
use Rattle.kat_num.specs.declared.values.Sort.TheVariants as sort
use Rattle.kat_num.specs.declared.values.Value.TheVariants as value

-- parameters of operations are few
parameter_few : (sorts : List Sort) (place : ℕ) (s : Sort) → length sorts ≤ 4 → IsParameter sorts place s → place < 4
parameter_few sorts place s few there = let inside = slice_get_within sorts place s there in omega (arith, few, inside)

given_few : (sorts : List Sort) (l : Leaf) (k : _) → length sorts ≤ 4 → GivesKind sorts l k → HasFewPlaces l
given_few sorts _ _ few (gives_argument place s there) = parameter_few sorts place s few there
given_few sorts _ _ few gives_time = tt
given_few sorts _ _ few gives_replica = tt
given_few sorts _ _ few gives_zero_leaf = tt
given_few sorts _ _ few gives_one = tt
given_few sorts _ _ few (gives_above place there) = parameter_few sorts place sort.Int few there
given_few sorts _ _ few (gives_below place there) = parameter_few sorts place sort.Int few there
given_few sorts _ _ few gives_false_leaf = tt
given_few sorts _ _ few gives_true_leaf = tt

weight_few : (sorts : List Sort) (l : Leaf) → length sorts ≤ 4 → IsWeight sorts l → HasFewPlaces l
weight_few sorts _ few (weighs_natural place there) = parameter_few sorts place sort.Nat few there
weight_few sorts _ few weighs_time = tt
weight_few sorts _ few weighs_replica = tt
weight_few sorts _ few weighs_zero_leaf = tt
weight_few sorts _ few weighs_one = tt
weight_few sorts _ few (weighs_above place there) = parameter_few sorts place sort.Int few there
weight_few sorts _ few (weighs_below place there) = parameter_few sorts place sort.Int few there

leaves_few : {K : Type 0} (Match : Leaf → K → Type 0) → ((l : Leaf) (k : K) → Match l k → HasFewPlaces l) → (leaves : List Leaf) (kinds : List K) → AreMatched Match leaves kinds
    → EachHas (GoesForth leaf_faults leaf_said leaf_data) leaves
leaves_few Match few [] kinds h = tt
leaves_few Match few (l ∷ leaves) [] h = absurd h
leaves_few Match few (l ∷ leaves) (k ∷ kinds) h = (leaf_forth l (few l k h.0), leaves_few Match few leaves kinds h.1)

leaves_forth : (sorts : List Sort) (leaves : List Leaf) (kinds : List _) → length sorts ≤ 4 → AreMatched (GivesKind sorts) leaves kinds
    → GoesForth (list_of_faults leaf_faults) (list_said leaf_said) leaves_data leaves
leaves_forth sorts leaves kinds few h = list_forth leaf_faults leaf_said leaf_data leaves (leaves_few (GivesKind sorts) (λ l k g. given_few sorts l k few g) leaves kinds h)

-- an effect for each operation
Effects : {A : Type 0} → (Data → List Path) → (Data → A) → (A → Data) → List (Option A) → Type 0
Effects f said print effects = EachHas (GoesForth (effect_faults f) (effect_said said) (effect_data print)) effects

effects_each : {A : Type 0} (Fits : Option A → OpSig → Type 0) (f : Data → List Path) (said : Data → A) (print : A → Data)
    → ((e : Option A) (op : OpSig) → length op.sorts ≤ 4 → Fits e op → GoesForth (effect_faults f) (effect_said said) (effect_data print) e)
    → (effects : List (Option A)) (ops : List OpSig) → All (λ (op : OpSig). length op.sorts ≤ param_limit) ops → AreMatched Fits effects ops
    → GoesForth (effects_faults f) (effects_said said) (effects_data print) effects
effects_each {A} Fits f said print forth effects ops small matched = list_forth (effect_faults f) (effect_said said) (effect_data print) effects (each effects ops small matched) where
  each : (effects : List (Option A)) (ops : List OpSig) → All (λ (op : OpSig). length op.sorts ≤ param_limit) ops → AreMatched Fits effects ops
      → EachHas (GoesForth (effect_faults f) (effect_said said) (effect_data print)) effects
  each [] ops small matched = tt
  each (e ∷ effects) [] small matched = absurd matched
  each (e ∷ effects) (op ∷ ops) small matched = (
    forth e op (All-head (λ (o : OpSig). length o.sorts ≤ param_limit) op ops small) matched.0,
    each effects ops (All-tail (λ (o : OpSig). length o.sorts ≤ param_limit) op ops small) matched.1,
  )

cell_effect : (kinds : List _) (e : Option (List Leaf)) (op : OpSig) → length op.sorts ≤ 4 → FitsCell kinds e op
    → GoesForth (effect_faults (list_of_faults leaf_faults)) (effect_said (list_said leaf_said)) (effect_data leaves_data) e
cell_effect kinds None op few h = none_forth (list_of_faults leaf_faults) (list_said leaf_said) leaves_data
cell_effect kinds (Some leaves) op few h = some_forth (list_of_faults leaf_faults) (list_said leaf_said) leaves_data leaves tt (leaves_forth op.sorts leaves kinds few h)

table_effect : (key : Sort) (kinds : List _) (e : Option (ℕ × List Leaf)) (op : OpSig) → length op.sorts ≤ 4 → FitsTable key kinds e op
    → GoesForth (effect_faults (pair_faults (list_of_faults leaf_faults))) (effect_said (pair_said (list_said leaf_said))) (effect_data (keyed_data leaves_data)) e
table_effect key kinds None op few h = none_forth (pair_faults (list_of_faults leaf_faults)) (pair_said (list_said leaf_said)) (keyed_data leaves_data)
table_effect key kinds (Some e) op few h =
    some_forth (pair_faults (list_of_faults leaf_faults)) (pair_said (list_said leaf_said)) (keyed_data leaves_data) e tt
    (keyed_forth (list_of_faults leaf_faults) (list_said leaf_said) leaves_data e (parameter_few op.sorts e.0 key few h.0) (leaves_forth op.sorts e.1 kinds few h.1))

set_effect : (key : Sort) (e : Option ℕ) (op : OpSig) → length op.sorts ≤ 4 → FitsSet key e op → GoesForth (effect_faults key_faults) (effect_said key_said) (effect_data key_data) e
set_effect key None op few h = none_forth key_faults key_said key_data
set_effect key (Some place) op few h = some_forth key_faults key_said key_data place tt (key_forth place (parameter_few op.sorts place key few h))

tally_effect : (e : Option Leaf) (op : OpSig) → length op.sorts ≤ 4 → FitsTally e op → GoesForth (effect_faults leaf_faults) (effect_said leaf_said) (effect_data leaf_data) e
tally_effect None op few h = none_forth leaf_faults leaf_said leaf_data
tally_effect (Some l) op few h = some_forth leaf_faults leaf_said leaf_data l (leaf_something l) (leaf_forth l (weight_few op.sorts l few h))

tallies_effect : (key : Sort) (e : Option (ℕ × Leaf)) (op : OpSig) → length op.sorts ≤ 4 → FitsTallies key e op
    → GoesForth (effect_faults (pair_faults leaf_faults)) (effect_said (pair_said leaf_said)) (effect_data (keyed_data leaf_data)) e
tallies_effect key None op few h = none_forth (pair_faults leaf_faults) (pair_said leaf_said) (keyed_data leaf_data)
tallies_effect key (Some e) op few h =
    some_forth (pair_faults leaf_faults) (pair_said leaf_said) (keyed_data leaf_data) e tt
    (keyed_forth leaf_faults leaf_said leaf_data e (parameter_few op.sorts e.0 key few h.0) (leaf_forth e.1 (weight_few op.sorts e.1 few h.1)))

-- starts
starts_forth : {K : Type 0} (Match : Value → K → Type 0) → ((v : Value) (k : K) → Match v k → IsWritten v) → (starts : List Value) (kinds : List K) → AreMatched Match starts kinds
    → GoesForth (list_of_faults value_faults) (list_said value_said) (λ vs. list (map value_data vs)) starts
starts_forth {K} Match is starts kinds h = list_forth value_faults value_said value_data starts (each starts kinds h) where
  each : (starts : List Value) (kinds : List K) → AreMatched Match starts kinds → EachHas (GoesForth value_faults value_said value_data) starts
  each [] kinds h = tt
  each (v ∷ starts) [] h = absurd h
  each (v ∷ starts) (k ∷ kinds) h = (value_forth v (is v k h.0), each starts kinds h.1)

-- components
component_forth : (ops : List OpSig) → All (λ (op : OpSig). length op.sorts ≤ param_limit) ops → (c : ComponentForm) → IsComponent ops c → GoesForth component_faults component_said component_data c
component_forth ops small (a_cell shape starts effects) h =
    let one = shape_forth shape in
    let two = starts_forth IsStart (λ v k is. is.written) starts (kinds_of shape) h.1 in
    let three = effects_each (FitsCell (kinds_of shape)) (list_of_faults leaf_faults) (list_said leaf_said) leaves_data (cell_effect (kinds_of shape)) effects ops small h.2 in
    let f = one.none in let g = two.none in let k = three.none in let p = one.back in let q = two.back in let r = three.back in
    record { none = rw (f, g, k) refl; back = rw (p, q, r) refl }
component_forth ops small (a_table key shape starts effects) h =
    let zeroth = key_sort_forth key h.0 in
    let one = shape_forth shape in
    let two = starts_forth IsStart (λ v k is. is.written) starts (kinds_of shape) h.2 in
    let three = effects_each (FitsTable key (kinds_of shape)) (pair_faults (list_of_faults leaf_faults)) (pair_said (list_said leaf_said)) (keyed_data leaves_data) (table_effect key (kinds_of shape)) effects ops small h.3 in
    let e = zeroth.none in let f = one.none in let g = two.none in let k = three.none in let o = zeroth.back in let p = one.back in let q = two.back in let r = three.back in
    record { none = rw (e, f, g, k) refl; back = rw (o, p, q, r) refl }
component_forth ops small (a_set key effects) h =
    let zeroth = key_sort_forth key h.0 in
    let three = effects_each (FitsSet key) key_faults key_said key_data (set_effect key) effects ops small h.1 in
    let e = zeroth.none in let k = three.none in let o = zeroth.back in let r = three.back in
    record { none = rw (e, k) refl; back = rw (o, r) refl }
component_forth ops small (a_tally effects) h =
    let three = effects_each FitsTally leaf_faults leaf_said leaf_data tally_effect effects ops small h in
    let k = three.none in let r = three.back in
    record { none = rw k refl; back = rw r refl }
component_forth ops small (tallies key effects) h =
    let zeroth = key_sort_forth key h.0 in
    let three = effects_each (FitsTallies key) (pair_faults leaf_faults) (pair_said leaf_said) (keyed_data leaf_data) (tallies_effect key) effects ops small h.1 in
    let e = zeroth.none in let k = three.none in let o = zeroth.back in let r = three.back in
    record { none = rw (e, k) refl; back = rw (o, r) refl }

pub components_forth : (ops : List OpSig) (components : List ComponentForm) → All (λ (op : OpSig). length op.sorts ≤ param_limit) ops → EachHas (IsComponent ops) components
    → EachHas (GoesForth component_faults component_said component_data) components
components_forth ops [] small h = tt
components_forth ops (c ∷ components) small h = (component_forth ops small c h.0, components_forth ops components small h.1)

-- asks
leaf_ask_forth : (component place : ℕ) (key : Option ℕ) → HasSmallNumbers (a_leaf component place key) → GoesForth ask_faults ask_said ask_data (a_leaf component place key)
leaf_ask_forth component place None small =
    let one = number_forth component (below_limit component small.0) in let two = number_forth place (below_limit place small.1) in
    let f = one.none in let g = two.none in let p = one.back in let q = two.back in
    record { none = rw (f, g) refl; back = rw (p, q) refl } where
      below_limit : (n : ℕ) → n < 2 ^ 32 - 1 → n < 2 ^ 32
      below_limit n small = omega (arith, small)
leaf_ask_forth component place (Some key) small =
    let one = number_forth component (omega (arith, small.0)) in let two = number_forth place (omega (arith, small.1)) in let three = number_forth key (omega (arith, small.2)) in
    let f = one.none in let g = two.none in let h = three.none in let p = one.back in let q = two.back in let r = three.back in
    record { none = rw (f, g, h) refl; back = rw (p, q, r) refl }

constant_forth : (v : Value) → IsWritten v → GoesForth ask_faults ask_said ask_data (constant v)
constant_forth v is = let forth = value_forth v is in constant_by v forth.none forth.back where
  constant_by : (v : Value) → value_faults (value_data v) ≡ [] → value_said (value_data v) ≡ v → GoesForth ask_faults ask_said ask_data (constant v)
  constant_by (value.Bool b) none back = record { none = refl; back = ap constant back }
  constant_by (value.Num (pos n)) none back = record { none = refl; back = ap constant back }
  constant_by (value.Num (negsuc n)) none back = record { none = refl; back = ap constant back }
  constant_by (value.Name code) none back = record { none = none; back = ap constant back }

pub ask_forth : (a : AskForm) → HasSmallNumbers a → HasWrittenConstants a → GoesForth ask_faults ask_said ask_data a
ask_forth (a_leaf component place key) small written = leaf_ask_forth component place key small
ask_forth (parameter place) small written =
    let one = number_forth place (omega (arith, small)) in let f = one.none in let p = one.back in record { none = rw f refl; back = rw p refl }
ask_forth (constant v) small written = constant_forth v written
ask_forth (negation a) small written =
    let one = ask_forth a small written in let f = one.none in let p = one.back in record { none = rw f refl; back = rw p refl }
ask_forth (both a b) small written =
    let one = ask_forth a small.0 written.0 in let two = ask_forth b small.1 written.1 in let f = one.none in let g = two.none in let p = one.back in let q = two.back in
    record { none = rw (f, g) refl; back = rw (p, q) refl }
ask_forth (either a b) small written =
    let one = ask_forth a small.0 written.0 in let two = ask_forth b small.1 written.1 in let f = one.none in let g = two.none in let p = one.back in let q = two.back in
    record { none = rw (f, g) refl; back = rw (p, q) refl }
ask_forth (lesser a b) small written =
    let one = ask_forth a small.0 written.0 in let two = ask_forth b small.1 written.1 in let f = one.none in let g = two.none in let p = one.back in let q = two.back in
    record { none = rw (f, g) refl; back = rw (p, q) refl }
ask_forth (sum a b) small written =
    let one = ask_forth a small.0 written.0 in let two = ask_forth b small.1 written.1 in let f = one.none in let g = two.none in let p = one.back in let q = two.back in
    record { none = rw (f, g) refl; back = rw (p, q) refl }
ask_forth (difference a b) small written =
    let one = ask_forth a small.0 written.0 in let two = ask_forth b small.1 written.1 in let f = one.none in let g = two.none in let p = one.back in let q = two.back in
    record { none = rw (f, g) refl; back = rw (p, q) refl }

pub asks_forth : (asks : List AskForm) → EachHas HasSmallNumbers asks → EachHas HasWrittenConstants asks → EachHas (GoesForth ask_faults ask_said ask_data) asks
asks_forth [] small written = tt
asks_forth (a ∷ asks) small written = (ask_forth a small.0 written.0, asks_forth asks small.1 written.1)

-- names
word_known : (code : ℕ) → IsWordCode code → word_of (string (name_of_code code)) ≡ Some code
word_known code is =
    let same : name_of_code code ≡ is.text = ap name_of_code (sym is.coded) ∙ name_of_code-code_of is.text (word_is_name is.text is.is_word) in
    let word : is_word (name_of_code code) ≡ true = ap is_word same ∙ is.is_word in
    let coded : code_of (name_of_code code) ≡ code = ap code_of same ∙ is.coded in
    let free : is_reserved code ≡ false = ap is_reserved (sym is.coded) ∙ is.free in
    rw (word, coded, free) refl

apart : (used rest : List ℕ) (name : ℕ) → IsOnce (used ++ name ∷ rest) → Has used name → ⊥
apart [] rest name once has = has
apart (other ∷ used) rest name once (inl same) = once.0 (has_later used rest name other same) where
  has_later : (used rest : List ℕ) (name other : ℕ) → other ≡ name → Has (used ++ name ∷ rest) other
  has_later [] rest name other same = inl (sym same)
  has_later (u ∷ used) rest name other same = inr (has_later used rest name other same)
apart (other ∷ used) rest name once (inr has) = apart used rest name once.1 has

among_by : (used : List ℕ) (name : ℕ) → (Has used name → ⊥) → is_among used name ≡ false
among_by [] name no_one = refl
among_by (other ∷ used) name no_one = neither (other == name) (is_among used name) refl (among_by used name (λ has. no_one (inr has))) where
  neither : (a b : Bool) → (other == name) ≡ a → b ≡ false → (a || b) ≡ false
  neither true b is rest = absurd (no_one (inl (eqb-true other name is)))
  neither false b is rest = rest

name_forth : (used : List ℕ) (code : ℕ) → IsWordCode code → is_among used code ≡ false → name_faults used (string (name_of_code code)) ≡ []
name_forth used code word unused = let known = word_known code word in rw (known, unused) refl

past_none : (n : ℕ) (ds : List Data) → length ds ≤ n → past_faults n ds ≡ []
past_none n ds short = let fewer : nat_lt n (length ds) ≡ false = le-ltb n (length ds) short in ap (λ b. within n (here_if b)) fewer

sorts_forth : (sorts : List Sort) → length sorts ≤ param_limit → GoesForth sorts_faults (list_said sort_said) sorts_data sorts
sorts_forth sorts few =
    let all = each_forth sort_faults sort_said sort_data 0 sorts (each sorts) in
    let ds = map sort_data sorts in
    let short : length ds ≤ param_limit = subst (λ n. n ≤ param_limit) (sym (length-map sorts sort_data)) few in
    record {
      none = in_list_none few_sorts_faults ds (few_none ds short all.0);
      back = ap (λ es. map sort_said es) (elements_known ds) ∙ all.1;
    } where
      each : (sorts : List Sort) → EachHas (GoesForth sort_faults sort_said sort_data) sorts
      each [] = tt
      each (s ∷ sorts) = (sort_forth s, each sorts)

      few_none : (ds : List Data) → length ds ≤ param_limit → each_faults sort_faults 0 ds ≡ [] → few_sorts_faults ds ≡ []
      few_none ds short none = let whole = take_all param_limit ds short in let past = past_none param_limit ds short in rw (whole, none) past

-- operations and queries
record IsGood {A : Type 0} (name : A → ℕ) (sorts : A → List Sort) (x : A) : Type 0 where
  pub word : IsWordCode (name x)
  pub few : length (sorts x) ≤ param_limit

record ItemForth {A : Type 0} (f : List ℕ → Data → List Path) (said : Data → A) (print : A → Data) (name : A → ℕ) (x : A) : Type 0 where
  pub none : (used : List ℕ) → is_among used (name x) ≡ false → f used (print x) ≡ []
  pub back : said (print x) ≡ x
  pub named : item_name (print x) ≡ name x

operation_forth : (op : OpSig) → IsGood (λ (o : OpSig). o.name) (λ (o : OpSig). o.sorts) op → ItemForth operation_faults operation_said operation_data (λ (o : OpSig). o.name) op
operation_forth op good =
    let known = word_known op.name good.word in
    let sorts = sorts_forth op.sorts good.few in
    record {
      none = λ used unused. let n = name_forth used op.name good.word unused in let k = sorts.none in rw (n, k) refl;
      back = ap₂ (λ (n : ℕ) (ss : List Sort). record { name = n; sorts = ss }) (ap (λ o. unwrap_or o 0) known) sorts.back;
      named = ap (λ o. unwrap_or o 0) known;
    }

query_forth : (query : QuerySig) → IsGood (λ (q : QuerySig). q.name) (λ (q : QuerySig). q.sorts) query → ItemForth query_faults query_said query_data (λ (q : QuerySig). q.name) query
query_forth query good =
    let known = word_known query.name good.word in
    let sorts = sorts_forth query.sorts good.few in
    let sort = sort_forth query.sort in
    record {
      none = λ used unused. let n = name_forth used query.name good.word unused in let k = sorts.none in let h = sort.none in rw (n, k, h) refl;
      back = query_same (unwrap_or (word_of (string (name_of_code query.name))) 0) (list_said sort_said (sorts_data query.sorts)) (sort_said (sort_data query.sort)) query
          (ap (λ o. unwrap_or o 0) known) sorts.back sort.back;
      named = ap (λ o. unwrap_or o 0) known;
    } where
      query_same : (n : ℕ) (ss : List Sort) (s : Sort) (query : QuerySig) → n ≡ query.name → ss ≡ query.sorts → s ≡ query.sort → record { name = n; sorts = ss; sort = s } ≡ query
      query_same n ss s query e f g = λ i. record { name = e i; sorts = f i; sort = g i }

items_forth : {A : Type 0} (f : List ℕ → Data → List Path) (said : Data → A) (print : A → Data) (name : A → ℕ) (used : List ℕ) (i : ℕ) (xs : List A) → EachHas (ItemForth f said print name) xs
    → IsOnce (used ++ map name xs) → (items_faults f used i (map print xs) ≡ []) × (map said (map print xs) ≡ xs) × (map item_name (map print xs) ≡ map name xs)
items_forth f said print name used i [] each once = (refl, refl, refl)
items_forth f said print name used i (x ∷ xs) each once =
    let first = each.0 in
    let unused = among_by used (name x) (apart used (map name xs) (name x) once) in
    let later : IsOnce ((used ++ name x ∷ []) ++ map name xs) = subst (λ (ns : List ℕ). IsOnce ns) (sym (append_assoc used (name x ∷ []) (map name xs))) once in
    let rest = items_forth f said print name (used ++ name x ∷ []) (i + 1) xs each.1 later in
    let none = first.none used unused in
    let called : items_faults f (used ++ item_name (print x) ∷ []) (i + 1) (map print xs) ≡ [] = ap (λ n. items_faults f (used ++ n ∷ []) (i + 1) (map print xs)) first.named ∙ rest.0 in (
      ap (λ ps. within i ps ++ items_faults f (used ++ item_name (print x) ∷ []) (i + 1) (map print xs)) none ∙ called,
      ap₂ (λ y ys. y ∷ ys) first.back rest.1,
      ap₂ (λ y ys. y ∷ ys) first.named rest.2,
    )

few_forth : {A : Type 0} (f : List ℕ → Data → List Path) (said : Data → A) (print : A → Data) (name : A → ℕ) (used : List ℕ) (xs : List A) → EachHas (ItemForth f said print name) xs
    → IsOnce (used ++ map name xs) → length xs ≤ item_limit
    → (few_items_faults f used (list (map print xs)) ≡ []) × (list_said said (list (map print xs)) ≡ xs) × (names_of (list (map print xs)) ≡ map name xs)
few_forth f said print name used xs each once few =
    let all = items_forth f said print name used 0 xs each once in
    let ds = map print xs in
    let short : length ds ≤ item_limit = subst (λ n. n ≤ item_limit) (sym (length-map xs print)) few in
    let whole = take_all item_limit ds short in (
      in_list_none (λ es. items_faults f used 0 (take item_limit es) ++ past_faults item_limit es) ds
          (ap (λ es. items_faults f used 0 es ++ past_faults item_limit ds) whole ∙ ap (λ ps. ps ++ past_faults item_limit ds) all.0 ∙ past_none item_limit ds short),
      ap (λ es. map said es) (elements_known ds) ∙ all.1,
      ap (λ es. map item_name es) (elements_known ds) ∙ all.2,
    )

good_each : {A : Type 0} (name : A → ℕ) (sorts : A → List Sort) (xs : List A) (P : A → Type 0) → ((x : A) → IsGood name sorts x → P x) → EachHas IsWordCode (map name xs)
    → All (λ (x : A). length (sorts x) ≤ param_limit) xs → EachHas P xs
good_each name sorts [] P forth words small = tt
good_each name sorts (x ∷ xs) P forth words small = (
  forth x (record { word = words.0; few = All-head (λ y. length (sorts y) ≤ param_limit) x xs small }),
  good_each name sorts xs P forth words.1 (All-tail (λ y. length (sorts y) ≤ param_limit) x xs small),
)

pub each_front : {A : Type 0} (P : A → Type 0) (xs ys : List A) → EachHas P (xs ++ ys) → EachHas P xs
each_front P [] ys h = tt
each_front P (x ∷ xs) ys h = (h.0, each_front P xs ys h.1)

pub each_behind : {A : Type 0} (P : A → Type 0) (xs ys : List A) → EachHas P (xs ++ ys) → EachHas P ys
each_behind P [] ys h = h
each_behind P (x ∷ xs) ys h = each_behind P xs ys h.1

has_front : (xs ys : List ℕ) (x : ℕ) → Has xs x → Has (xs ++ ys) x
has_front [] ys x h = absurd h
has_front (z ∷ xs) ys x (inl e) = inl e
has_front (z ∷ xs) ys x (inr h) = inr (has_front xs ys x h)

once_front : (xs ys : List ℕ) → IsOnce (xs ++ ys) → IsOnce xs
once_front [] ys h = tt
once_front (x ∷ xs) ys h = (λ has. h.0 (has_front xs ys x has), once_front xs ys h.1)

pub signature_forth : (sig : Signature) → IsSignature sig → GoesForth signature_faults signature_said signature_data sig
signature_forth sig is =
    let op_names = map (λ (o : OpSig). o.name) sig.ops in
    let query_names = map (λ (q : QuerySig). q.name) sig.queries in
    let ops = few_forth operation_faults operation_said operation_data (λ (o : OpSig). o.name) [] sig.ops
    (good_each (λ (o : OpSig). o.name) (λ (o : OpSig). o.sorts) sig.ops (ItemForth operation_faults operation_said operation_data (λ (o : OpSig). o.name)) operation_forth (each_front IsWordCode op_names query_names is.words) is.small.ops)
    (once_front op_names query_names is.different) is.small.few_ops in
    let queries = few_forth query_faults query_said query_data (λ (q : QuerySig). q.name) op_names sig.queries
    (good_each (λ (q : QuerySig). q.name) (λ (q : QuerySig). q.sorts) sig.queries (ItemForth query_faults query_said query_data (λ (q : QuerySig). q.name)) query_forth (each_behind IsWordCode op_names query_names is.words) is.small.queries)
    is.different is.small.few_queries in
    let second : few_items_faults query_faults (names_of (list (map operation_data sig.ops))) (list (map query_data sig.queries)) ≡ []
    = ap (λ used. few_items_faults query_faults used (list (map query_data sig.queries))) ops.2 ∙ queries.0 in
    record {
      none = ap₂ (λ ps qs. within 0 ps ++ within 1 qs ++ []) ops.0 second;
      back = ap₂ (λ (os : List OpSig) (qs : List QuerySig). record { ops = os; queries = qs }) ops.1 queries.1;
    }
