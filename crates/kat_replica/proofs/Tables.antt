-- A value that was joined at a key: that is the join with a table of that key alone.
use Rattle.std.proofs.Common.{◌≡◌, ◌≢◌, ℕ, Bool, true, false, List, [], ◌∷◌, Option, None, Some, refl, sym, ◌∙◌, ap, subst, cond, ◌↔◌}
use Rattle.std.specs.Prelude.{◌==◌}
use Rattle.std.specs.Cmp.{IsTotalOrder}
use Rattle.std.specs.Ordering.{is_eq}
use Rattle.std.specs.declared.cmp.Ordering.{Ordering}
use Rattle.std.specs.declared.cmp.Ordering.TheVariants.{Less, Equal, Greater}
use Rattle.std.proofs.lemmas.Cmp.{tied_itself}
use Rattle.kat_num.specs.Orders.{value_order}
use Rattle.kat_num.specs.declared.values.Value.{Value}
use Rattle.kat_lattice.specs.Chains.{kin_left, kin_right}
use Rattle.kat_lattice.specs.JoinLaws.{IsBelow, JoinLaws}
use Rattle.kat_lattice.specs.Keyed.{by_key, found, value_or}
use Rattle.kat_lattice.specs.KeyedLaws.{found_each}
use Rattle.kat_lattice.specs.MapLaws.{at_key-joined, map_joined}
use Rattle.kat_lattice.specs.Maps.{IsKept, IsMap, JoinsAt, MapsKin, Table, at_key, maps_joined}
use Rattle.kat_lattice.specs.Sets.{TellsApart}
use Rattle.kat_lattice.specs.Tallies.{IsTally, Sums, TalliesKin, tallies_joined, tally_laws}
use Rattle.kat_lattice.proofs.Readings.{kin_at_key, maps_go, same_values_same_map}
use Rattle.kat_shape.specs.Laws.{cell_laws}
use Rattle.kat_shape.specs.Values.{Filled, OneShape, joined, leaves_of, shape_of}
use Rattle.kat_shape.specs.Laws.{shape_of-joined}
use Rattle.kat_shape.proofs.ByLeaves.{leaves_determine}
use Rattle.kat_design.specs.Denotations.{alone_at}
use Rattle.kat_design.specs.KeyedTallies.{bumped_at, single}
use Rattle.kat_design.specs.Tallied.{bumped}
use Rattle.kat_type.specs.Unions.{are_same_values}
use Rattle.kat_design.proofs.KeyedTallying.{not_empty}
use Rattle.kat_type.proofs.Same.{same-values}
use Rattle.kat_design.proofs.Tables.{alone_is}
use Rattle.kat_design.proofs.Tallies.{bumped_is, empty_is}

-- the value at each key is its own join with the start
own_value : {K V : Type 0} {kin : V → V → Type 0} {joined : V → V → V} → JoinLaws kin joined → (s : V) (o : Option (K × V)) → kin s s → ((x : K × V) → o ≡ Some x → IsKept kin joined s x.1)
    → joined (value_or s o) s ≡ value_or s o
own_value laws s None itself kept = laws.idem s itself
own_value laws s (Some x) itself kept = (let k = kept x refl in sym (laws.comm s x.1 k.goes) ∙ k.own)

own_at : {K V : Type 0} {cmp : K → K → Ordering} {kin : V → V → Type 0} {joined : V → V → V} → JoinLaws kin joined → (m : Table K V) → IsMap cmp kin joined m → kin m.start m.start → (key : K)
    → joined (at_key cmp m key) m.start ≡ at_key cmp m key
own_at {K} {V} {cmp} {kin} {joined} laws m h itself key =
    own_value laws m.start (found (by_key cmp) (key, m.start) m.entries) itself
    (λ x e. found_each (λ (y : K × V). IsKept kin joined m.start y.1) (by_key cmp) (key, m.start) x m.entries h.kept e)

equal_from : (o : Ordering) → is_eq o ≡ true → o ≡ Equal
equal_from Less e = absurd (cc)
equal_from Equal e = refl
equal_from Greater e = absurd (cc)

-- the value at k of both, whether k is the key or not
value_at_both : {K V : Type 0} {cmp : K → K → Ordering} {kin : V → V → Type 0} {joined : V → V → V} → JoinLaws kin joined → TellsApart cmp → (old new one : Table K V) (key : K) (w : V)
    → IsMap cmp kin joined old → kin old.start old.start → JoinsAt cmp joined old key w new → old.start ≡ one.start
    → joined (at_key cmp old key) w ≡ joined (at_key cmp old key) (at_key cmp one key)
    → ((k : K) → is_eq (cmp k key) ≡ false → at_key cmp one k ≡ one.start)
    → (k : K) (b : Bool) → is_eq (cmp k key) ≡ b → at_key cmp new k ≡ joined (at_key cmp old k) (at_key cmp one k)
value_at_both {K} {V} {cmp} {kin} {joined} laws tells old new one key w map itself joins starts here there k true e =
    let same : k ≡ key = tells k key (equal_from (cmp k key) e) in
    subst (λ j. at_key cmp new j ≡ joined (at_key cmp old j) (at_key cmp one j)) (sym same) (joins.here ∙ here)
value_at_both {K} {V} {cmp} {kin} {joined} laws tells old new one key w map itself joins starts here there k false e =
    joins.elsewhere k e ∙ sym (own_at laws old map itself k) ∙ ap (λ s. joined (at_key cmp old k) s) (starts ∙ sym (there k e))

joined_is : {K V : Type 0} {cmp : K → K → Ordering} {kin : V → V → Type 0} {joined : V → V → V} → IsTotalOrder cmp → JoinLaws kin joined → TellsApart cmp → (old new one : Table K V)
    → IsMap cmp kin joined old → IsMap cmp kin joined new → IsMap cmp kin joined one → kin old.start old.start → new.start ≡ old.start → old.start ≡ one.start
    → ((k : K) → at_key cmp new k ≡ joined (at_key cmp old k) (at_key cmp one k))
    → new ≡ maps_joined cmp joined old one
joined_is {K} {V} {cmp} {kin} {joined} o laws tells old new one h n i itself start starts each =
    let both = maps_joined cmp joined old one in
    let together : MapsKin cmp kin joined old one = maps_go laws old one tells h i starts itself in
    let new_itself : kin new.start new.start = subst (λ s. kin s s) (sym start) itself in
    same_values_same_map o new both (maps_go laws new both tells n (map_joined o laws old one h i starts) start new_itself)
    (λ k. each k ∙ sym (at_key-joined o laws old one together k))

pub joins_one : {K V : Type 0} {cmp : K → K → Ordering} {kin : V → V → Type 0} {joined : V → V → V} → IsTotalOrder cmp → JoinLaws kin joined → TellsApart cmp → (old new one : Table K V) (key : K) (w : V)
    → IsMap cmp kin joined old → IsMap cmp kin joined new → IsMap cmp kin joined one → kin old.start old.start → JoinsAt cmp joined old key w new → old.start ≡ one.start
    → joined (at_key cmp old key) w ≡ joined (at_key cmp old key) (at_key cmp one key)
    → ((k : K) → is_eq (cmp k key) ≡ false → at_key cmp one k ≡ one.start)
    → new ≡ maps_joined cmp joined old one
joins_one {K} {V} {cmp} {kin} {joined} o laws tells old new one key w h n i itself joins starts here there =
    joined_is o laws tells old new one h n i itself joins.start starts
    (λ k. value_at_both laws tells old new one key w h itself joins starts here there k (is_eq (cmp k key)) refl)

-- a table with one entry or none
abbrev one_entry : {K V : Type 0} → Bool → V → K → V → Table K V
one_entry b start key v = record { start = start; entries = cond b [] ((key, v) ∷ []) }

there_is_start : {K V : Type 0} (cmp : K → K → Ordering) (b : Bool) (start v : V) (key k : K) → is_eq (cmp k key) ≡ false → at_key cmp (one_entry b start key v) k ≡ start
there_is_start cmp true start v key k e = refl
there_is_start cmp false start v key k e = rw e refl

here_is_value : {K V : Type 0} {cmp : K → K → Ordering} → IsTotalOrder cmp → (b : Bool) (start v : V) (key : K) → (b ≡ true → start ≡ v) → at_key cmp (one_entry b start key v) key ≡ v
here_is_value o true start v key same = same refl
here_is_value o false start v key same = rw (tied_itself o key) refl

-- a cell that is joined at a key
start_again : (start v : Filled) → OneShape start v → are_same_values (leaves_of (joined start v)) (leaves_of start) ≡ true → start ≡ joined start v
start_again start v h e = leaves_determine start (joined start v) (sym (shape_of-joined start v h)) (sym (same-values (leaves_of (joined start v)) (leaves_of start) e))

abbrev OfCells : Table Value Filled → Type 0
OfCells table = IsMap value_order OneShape joined table

pub joins_alone : IsTotalOrder value_order → TellsApart value_order → (old new : Table Value Filled) (key : Value) (w : Filled)
    → OfCells old → OfCells new → OneShape old.start w → JoinsAt value_order joined old key w new → new ≡ maps_joined value_order joined old (alone_at old.start key w)
joins_alone o tells old new key w h n one_shape joins =
    let one = alone_at old.start key w in
    let same = are_same_values (leaves_of (joined old.start w)) (leaves_of old.start) in
    let itself : OneShape old.start old.start = record { good = one_shape.good; same = refl } in
    let there : OneShape old.start (at_key value_order old key) = kin_at_key old h itself key in
    let value : at_key value_order one key ≡ joined old.start w = here_is_value o same old.start (joined old.start w) key (start_again old.start w one_shape) in
    joins_one o cell_laws tells old new one key w h n (alone_is old.start w key one_shape) itself joins refl
    (ap (λ c. joined c w) (sym (own_at cell_laws old h itself key))
    ∙ cell_laws.assoc (at_key value_order old key) old.start w (cell_laws.kin_sym old.start (at_key value_order old key) there) one_shape
    ∙ ap (λ c. joined (at_key value_order old key) c) (sym value))
    (λ k e. there_is_start value_order same old.start (joined old.start w) key k e)

-- a cell that is absorbed at the key changes nothing
absorbed_joins : (old : Table Value Filled) (key : Value) (w : Filled) → OneShape (at_key value_order old key) w → IsBelow joined w (at_key value_order old key) → JoinsAt value_order joined old key w old
absorbed_joins old key w kin below = record {
  start = refl;
  here = sym below ∙ cell_laws.comm w (at_key value_order old key) (cell_laws.kin_sym (at_key value_order old key) w kin);
  elsewhere = λ k e. refl;
}

pub absorbed_alone : IsTotalOrder value_order → TellsApart value_order → (old : Table Value Filled) (key : Value) (w : Filled)
    → OfCells old → OneShape old.start w → OneShape (at_key value_order old key) w → IsBelow joined w (at_key value_order old key) → old ≡ maps_joined value_order joined old (alone_at old.start key w)
absorbed_alone o tells old key w h one_shape kin below = joins_alone o tells old old key w h h one_shape (absorbed_joins old key w kin below)

-- a tally that is bumped at a key
abbrev pub OfTallies : Table Value Sums → Type 0
OfTallies table = IsMap value_order TalliesKin tallies_joined table

pub single_is : (key : Value) (sums : Sums) → IsTally sums → sums ≢ [] → OfTallies (single key sums)
single_is key sums h n = record {
  ascending = (tt, tt);
  kept = (record { goes = record { left = empty_is; right = h }; own = tally_laws.comm [] sums (record { left = empty_is; right = h }); differs = n }, tt);
}

bumped_by : (table : Table Value Sums) (key : Value) (replica w : ℕ) (b : Bool) → (w == 0) ≡ b → b ≡ false
    → bumped_at value_order table key replica w ≡ maps_joined value_order tallies_joined table (single key (bumped (at_key value_order table key) replica w))
bumped_by table key replica w true e f = absurd (cc)
bumped_by table key replica w false e f = rw e refl

pub joins_bumped : IsTotalOrder value_order → TellsApart value_order → (old new : Table Value Sums) (key : Value) (replica w : ℕ) (sums : Sums)
    → OfTallies old → OfTallies new → old.start ≡ [] → IsTally (at_key value_order old key) → (w == 0) ≡ false → sums ≡ bumped (at_key value_order old key) replica w
    → JoinsAt value_order tallies_joined old key sums new → new ≡ bumped_at value_order old key replica w
joins_bumped o tells old new key replica w sums h n start tally some is joins =
    let more = bumped (at_key value_order old key) replica w in
    let one = single key more in
    let itself : TalliesKin old.start old.start = subst (λ s. TalliesKin s s) (sym start) (record { left = empty_is; right = empty_is }) in
    joins_one o tally_laws tells old new one key sums h n (single_is key more (bumped_is (at_key value_order old key) replica w tally) (not_empty (at_key value_order old key) replica w tally some)) itself joins start
    (ap (λ s. tallies_joined (at_key value_order old key) s) (is ∙ sym (here_is_value o false [] more key (λ e. absurd (cc)))))
    (λ k e. there_is_start value_order false [] more key k e)
    ∙ sym (bumped_by old key replica w false some refl)
