-- The keys at which a part has something that a known one lacks.
use Rattle.std.proofs.Common.{◌≡◌, ℕ, zero, suc, Bool, true, false, List, [], ◌∷◌, ◌++◌, Option, None, Some, refl, sym, ◌∙◌, ap, subst}
use Rattle.std.specs.Prelude.{◌↔◌, IsTrue, slice_get}
use Rattle.std.specs.declared.cmp.Ordering.{Ordering}
use Rattle.std.specs.Cmp.{IsTotalOrder}
use Rattle.std.specs.Option.{is_some}
use Rattle.kat_num.specs.Orders.{value_order}
use Rattle.kat_num.specs.declared.values.Value.{Value}
use Rattle.kat_join.specs.KeyedLaws.{found_each, found_has_key}
use Rattle.kat_lattice.specs.JoinLaws.{IsBelow, JoinLaws}
use Rattle.kat_lattice.specs.Keyed.{IsAscending, by_key, found, found_by, value_or}
use Rattle.kat_lattice.specs.Maps.{IsKept, MapsKin, Table, at_key}
use Rattle.kat_lattice.specs.Sets.{SetsKin, TellsApart, has_key}
use Rattle.kat_lattice.specs.Tallies.{tally_laws}
use Rattle.kat_shape.specs.Laws.{cell_laws}
use Rattle.kat_design.specs.Meanings.{are_kin}
use Rattle.kat_design.specs.Parts.{PartsKin}
use Rattle.kat_design.specs.declared.states.Part.{Part}
use Rattle.kat_design.specs.declared.states.Part.TheVariants as part
use Rattle.kat_difference.specs.Picking.{Grows, Picks, stays}
use Rattle.kat_difference.specs.Sets.{key_told}
use Rattle.kat_difference.proofs.Picks.{Picked, TellsKey, grows_as, picked_ascend, picked_found}
use Rattle.kat_embed.specs.KeyLists.{AreNewIn, AreNewKeys, entry_key_told, entry_keys}
use Rattle.kat_embed.specs.Keys.{AreKeys, IsNewAt, IsNewEntry}
use Rattle.kat_embed.proofs.KeyLemmas.{entries_ascend, has_entries, none_are}

-- at one key: it is among all, and what is told of it
point_forth : (told : Value → Option Value → Type 0) (Is : Type 0) (o p : Option Value) → Picked told o p → ((x one : Value) → o ≡ Some x → told x (Some one) → Is) → is_some p ≡ true → Is
point_forth told Is None p h f e = absurd (let none : is_some p ≡ false = ap (λ (t : Option Value). is_some t) h in let bad : false ≡ true = sym none ∙ e in cc)
point_forth told Is (Some x) None h f e = absurd (let bad : false ≡ true = e in cc)
point_forth told Is (Some x) (Some one) h f e = f x one refl h

point_back : (told : Value → Option Value → Type 0) (Is : Type 0) (o p : Option Value) → Picked told o p → (o ≡ None → Is → ⊥) → ((x : Value) → o ≡ Some x → told x None → Is → ⊥) → Is → is_some p ≡ true
point_back told Is None p h f g is = absurd (f refl is)
point_back told Is (Some x) None h f g is = absurd (g x refl h is)
point_back told Is (Some x) (Some one) h f g is = refl

-- those keys of a list of which something is told
told_keys : IsTotalOrder value_order → (told : Value → Option Value → Type 0) (Is : Value → Type 0) (all keys : List Value) → TellsKey value_order told → IsAscending value_order all → Picks told all keys
    → ((key x one : Value) → found value_order key all ≡ Some x → told x (Some one) → Is key) → ((key : Value) → found value_order key all ≡ None → Is key → ⊥)
    → ((key x : Value) → found value_order key all ≡ Some x → told x None → Is key → ⊥) → AreKeys Is keys
told_keys o told Is all keys tells up picks some none known = record {
  ascending = picked_ascend tells all keys up picks;
  each = λ key.
      let there : Picked told (found value_order key all) (found value_order key keys) = picked_found o tells key all keys up picks in (
        (λ e. point_forth told (Is key) (found value_order key all) (found value_order key keys) there (some key) e),
        (λ is. point_back told (Is key) (found value_order key all) (found value_order key keys) there (none key) (known key) is),
      );
}

-- keys that are found are the ones that are sought
one_key : TellsApart value_order → (all : List Value) (key x : Value) → found value_order key all ≡ Some x → key ≡ x
one_key apart all key x e = apart key x (found_has_key value_order key x all e)

pub new_keys : IsTotalOrder value_order → (known all keys : List Value) → SetsKin value_order all known → Picks (key_told value_order known) all keys
    → AreKeys (λ key. (has_key value_order key all ≡ true) × (has_key value_order key known ≡ false)) keys
new_keys o known all keys kin picks =
    told_keys o (key_told value_order known) (λ key. (has_key value_order key all ≡ true) × (has_key value_order key known ≡ false)) all keys
    (record { left = λ x one z t. ap (λ (k : Value). value_order k z) t.0; right = λ x one z t. ap (value_order z) t.0 }) kin.left picks
    (λ key x one e t.
    (ap (λ (p : Option Value). is_some p) e, subst (λ (k : Value). has_key value_order k known ≡ false) (sym (one_key kin.tells_apart all key x e)) t.1))
    (λ key e is. let gone : is_some (found value_order key all) ≡ false = ap (λ (p : Option Value). is_some p) e in let here : is_some (found value_order key all) ≡ true = is.0 in let bad : false ≡ true = sym gone ∙ here in absurd (cc))
    (λ key x e t is.
    let there : has_key value_order key known ≡ true = subst (λ (k : Value). has_key value_order k known ≡ true) (sym (one_key kin.tells_apart all key x e)) t in
    let gone : has_key value_order key known ≡ false = is.1 in
    let bad : true ≡ false = sym there ∙ gone in
    absurd (cc))

-- a table has the start where it has no entry, which is at or below what any other has
no_entry : {V : Type 0} (start : V) (o : Option (Value × V)) → is_some o ≡ false → value_or start o ≡ start
no_entry start None e = refl
no_entry start (Some x) e = absurd (let bad : true ≡ false = e in cc)

start_below : {V : Type 0} {kin : V → V → Type 0} {join : V → V → V} → JoinLaws kin join → (start : V) (o : Option (Value × V)) → kin start start → ((x : Value × V) → o ≡ Some x → IsKept kin join start x.1)
    → join start (value_or start o) ≡ value_or start o
start_below laws start None itself kept = laws.idem start itself
start_below laws start (Some x) itself kept = (let k = kept x refl in k.own)

below_known : {V : Type 0} {kin : V → V → Type 0} {join : V → V → V} → JoinLaws kin join → (known table : Table Value V) (key : Value) → MapsKin value_order kin join table known
    → is_some (found_by (λ e. value_order key e.0) table.entries) ≡ false → IsBelow join (at_key value_order table key) (at_key value_order known key)
below_known {V} {kin} {join} laws known table key h none =
    let here : at_key value_order table key ≡ table.start = no_entry table.start (found_by (λ e. value_order key e.0) table.entries) none in
    let start : at_key value_order table key ≡ known.start = here ∙ h.starts in
    let with_start : kin known.start (at_key value_order known key) = subst (λ (v : V). kin v (at_key value_order known key)) start (h.values key) in
    let q : Value × V = (key, known.start) in
    let itself : kin known.start known.start = laws.kin_trans known.start (at_key value_order known key) known.start with_start (laws.kin_sym known.start (at_key value_order known key) with_start) in
    let kept : (x : Value × V) → found (by_key value_order) q known.entries ≡ Some x → IsKept kin join known.start x.1 =
    λ x e. found_each (λ (y : Value × V). IsKept kin join known.start y.1) (by_key value_order) q x known.entries h.right.kept e in
    subst (λ (v : V). join v (at_key value_order known key) ≡ at_key value_order known key) (sym start)
    (start_below laws known.start (found (by_key value_order) q known.entries) itself kept)

pub new_entries : IsTotalOrder value_order → {V : Type 0} {kin : V → V → Type 0} {join : V → V → V} → JoinLaws kin join → (known table : Table Value V) (keys : List Value) → MapsKin value_order kin join table known
    → Picks (entry_key_told value_order join known table) (entry_keys table.entries) keys → AreKeys (IsNewEntry join known table) keys
new_entries o {V} {kin} {join} laws known table keys h picks =
    let all : List Value = entry_keys table.entries in
    told_keys o (entry_key_told value_order join known table) (IsNewEntry join known table) all keys
    (record { left = λ x one z t. ap (λ (k : Value). value_order k z) t.0; right = λ x one z t. ap (value_order z) t.0 }) (entries_ascend table.entries h.left.ascending) picks
    (λ key x one e t. subst (IsNewEntry join known table) (sym (one_key h.tells_apart all key x e)) t.1)
    (λ key e is.
    let gone : is_some (found value_order key all) ≡ false = ap (λ (p : Option Value). is_some p) e in
    is (below_known laws known table key h (sym (has_entries key table.entries) ∙ gone)))
    (λ key x e t is.
    is (subst (λ (k : Value). IsBelow join (at_key value_order table k) (at_key value_order known k)) (sym (one_key h.tells_apart all key x e)) t))

-- the keys of one part
new_in : IsTotalOrder value_order → (known one : Part) (keys : List Value) → PartsKin one known → AreNewIn known one keys → AreKeys (IsNewAt (Some known) (Some one)) keys
new_in o (part.Table known) (part.Table table) keys kin picks = new_entries o cell_laws known table keys kin picks
new_in o (part.Set known) (part.Set all) keys kin picks = new_keys o known all keys kin picks
new_in o (part.Tallies known) (part.Tallies table) keys kin picks = new_entries o tally_laws known table keys kin picks
new_in o (part.Cell known) (part.Cell cell) keys kin same = none_are (IsNewAt (Some (part.Cell known)) (Some (part.Cell cell))) keys same (λ key is. is)
new_in o (part.Tally known) (part.Tally sums) keys kin same = none_are (IsNewAt (Some (part.Tally known)) (Some (part.Tally sums))) keys same (λ key is. is)
new_in o _ _ keys kin same = absurd kin

pub new_are : IsTotalOrder value_order → (known parts : List Part) (component : ℕ) (keys : List Value) → are_kin PartsKin parts known
    → AreNewKeys (slice_get known component) (slice_get parts component) keys → AreKeys (IsNewAt (slice_get known component) (slice_get parts component)) keys
new_are o [] [] component keys kin same = none_are (IsNewAt None None) keys same (λ key is. is)
new_are o (k ∷ known) [] component keys kin same = absurd kin
new_are o [] (p ∷ parts) component keys kin same = absurd kin
new_are o (k ∷ known) (p ∷ parts) zero keys kin are = new_in o k p keys kin.0 are
new_are o (k ∷ known) (p ∷ parts) (suc component) keys kin are = new_are o known parts component keys kin.1 are

-- the parts at one place go together
pub kin_at : (known parts : List Part) (component : ℕ) (k p : Part) → are_kin PartsKin parts known → slice_get known component ≡ Some k → slice_get parts component ≡ Some p → PartsKin p k
kin_at [] [] component k p kin e f = absurd (cc)
kin_at (a ∷ known) [] component k p kin e f = absurd kin
kin_at [] (b ∷ parts) component k p kin e f = absurd kin
kin_at (a ∷ known) (b ∷ parts) zero k p kin e f = (let left : a ≡ k = cc in let right : b ≡ p = cc in subst (λ (t : Part). PartsKin p t) left (subst (λ (t : Part). PartsKin t a) right kin.0))
kin_at (a ∷ known) (b ∷ parts) (suc component) k p kin e f = kin_at known parts component k p kin.1 e f

-- one step of a pass over keys: what the test tells of the two values at a key
pub entry_stays : {K V : Type 0} (cmp : K → K → Ordering) (join : V → V → V) (known table : Table K V) (key : K) (old : List K) (a b : V) (flag : Bool) → a ≡ at_key cmp table key → b ≡ at_key cmp known key
    → IsTrue flag ↔ IsBelow join a b → flag ≡ true → Grows (entry_key_told cmp join known table key) old old
entry_stays {K} {V} cmp join known table key old a b flag e f told is =
    stays (subst (λ (v : V). IsBelow join v (at_key cmp known key)) e (subst (λ (v : V). IsBelow join a v) f (told.0 is)))

pub entry_grows : {K V : Type 0} (cmp : K → K → Ordering) (join : V → V → V) (known table : Table K V) (key : K) (old new : List K) (a b : V) (flag : Bool) → a ≡ at_key cmp table key → b ≡ at_key cmp known key
    → IsTrue flag ↔ IsBelow join a b → flag ≡ false → new ≡ old ++ key ∷ [] → Grows (entry_key_told cmp join known table key) old new
entry_grows {K} {V} cmp join known table key old new a b flag e f told is same =
    grows_as {told = entry_key_told cmp join known table key} old new key same (
      refl,
      (λ below.
          let yes : flag ≡ true = told.1 (subst (λ (v : V). IsBelow join v b) (sym e) (subst (λ (v : V). IsBelow join (at_key cmp table key) v) (sym f) below)) in
          let bad : false ≡ true = sym is ∙ yes in
          absurd (cc)),
    )

-- the keys that are told ascend
pub new_keys_ascend : {K V : Type 0} (cmp : K → K → Ordering) (join : V → V → V) (known table : Table K V) (all keys : List K) → IsAscending cmp all → Picks (entry_key_told cmp join known table) all keys → IsAscending cmp keys
new_keys_ascend {K} {V} cmp join known table all keys up picks =
    picked_ascend (record { left = λ x one z t. ap (λ (k : K). cmp k z) t.0; right = λ x one z t. ap (cmp z) t.0 }) all keys up picks

pub set_keys_ascend : {K : Type 0} (cmp : K → K → Ordering) (known all keys : List K) → IsAscending cmp all → Picks (key_told cmp known) all keys → IsAscending cmp keys
set_keys_ascend {K} cmp known all keys up picks =
    picked_ascend (record { left = λ x one z t. ap (λ (k : K). cmp k z) t.0; right = λ x one z t. ap (cmp z) t.0 }) all keys up picks
