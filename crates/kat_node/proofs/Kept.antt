-- The join of two parts that a state file can have is one.
use Rattle.std.proofs.Common.{ℕ, ◌<◌, ◌≤◌, Bool, true, false, cond, List, [], ◌∷◌, ◌++◌, sym, ◌∙◌, subst, ◌⊎◌, inl, inr, arith}
use Rattle.std.proofs.Math.Nat.{max-eq_left, max-eq_right}
use Rattle.std.proofs.lemmas.Bool.{cases_lt}
use Rattle.std.specs.Prelude.{int_lt, max}
use Rattle.std.specs.List.{AllByRecursion}
use Rattle.std.specs.Cmp.{IsTotalOrder}
use Rattle.std.specs.Ordering.{match_ordering, nat_cmp}
use Rattle.std.specs.declared.cmp.Ordering.{Ordering}
use Rattle.std.specs.declared.cmp.Ordering.TheVariants.{Less, Equal, Greater}
use Rattle.kat_num.specs.Orders.{value_order}
use Rattle.kat_num.specs.declared.values.Sort.{Sort}
use Rattle.kat_num.specs.declared.values.Value.{Value}
use Rattle.kat_num.specs.declared.values.Value.TheVariants.{Num, Name}
use Rattle.kat_lattice.specs.Keyed.{by_key, on_value, union}
use Rattle.kat_lattice.specs.KeyedLaws.{ascending_union, by_key_total, each_union, keeps_by_key}
use Rattle.kat_lattice.specs.MapLaws.{map_joined}
use Rattle.kat_lattice.specs.Sets.{first_one, keeps_first}
use Rattle.kat_lattice.specs.Tallies.{Sums, tallies_joined, tally_laws}
use Rattle.std.proofs.lemmas.Cmp.{nat_cmp_total}
use Rattle.kat_shape.specs.Forms.{CellForm, IsGoodForm}
use Rattle.kat_shape.specs.Laws.{cell_laws, shape_of-joined}
use Rattle.kat_shape.specs.Values.{Filled, a_number, a_name, a_truth, a_lex, a_pair, cells_compared, joined, leaves_of}
use Rattle.kat_design.specs.Designs.{ComponentForm}
use Rattle.kat_design.specs.Designs.ComponentForm.{a_cell, a_table, a_set, a_tally, tallies}
use Rattle.kat_design.specs.Parts.{part_joined, parts_joined}
use Rattle.kat_design.specs.Sorted.{AreMatched, EachHas, IsWritten}
use Rattle.kat_design.specs.declared.states.Part.{Part}
use Rattle.kat_design.specs.declared.states.Part.TheVariants as part
use Rattle.kat_replica.specs.Starting.{HasStarts}
use Rattle.kat_node.specs.Nodes.{AreSums, IsCell, IsEntry, IsKey, IsPart, IsSum}

-- the two ways to say what each element has
by_recursion : {A : Type 0} (P : A → Type 0) (xs : List A) → EachHas P xs → AllByRecursion P xs
by_recursion P [] each = tt
by_recursion P (x ∷ xs) each = (each.0, by_recursion P xs each.1)

from_recursion : {A : Type 0} (P : A → Type 0) (xs : List A) → AllByRecursion P xs → EachHas P xs
from_recursion P [] each = tt
from_recursion P (x ∷ xs) each = (each.0, from_recursion P xs each.1)

union_has : {E : Type 0} (cmp : E → E → Ordering) (onto : E → E → E) (P : E → Type 0) → ((x y : E) → P x → P y → P (onto x y)) → (xs ys : List E) → EachHas P xs → EachHas P ys
    → EachHas P (union cmp onto xs ys)
union_has cmp onto P both xs ys h k = from_recursion P (union cmp onto xs ys) (each_union cmp onto P both xs ys (by_recursion P xs h) (by_recursion P ys k))

-- leaves of two lists
each_both : {A : Type 0} (P : A → Type 0) (xs ys : List A) → EachHas P xs → EachHas P ys → EachHas P (xs ++ ys)
each_both P [] ys h k = k
each_both P (x ∷ xs) ys h k = (h.0, each_both P xs ys h.1 k)

each_first : {A : Type 0} (P : A → Type 0) (xs ys : List A) → EachHas P (xs ++ ys) → EachHas P xs
each_first P [] ys h = tt
each_first P (x ∷ xs) ys h = (h.0, each_first P xs ys h.1)

each_second : {A : Type 0} (P : A → Type 0) (xs ys : List A) → EachHas P (xs ++ ys) → EachHas P ys
each_second P [] ys h = h
each_second P (x ∷ xs) ys h = each_second P xs ys h.1

-- one of two, or of three
one_of : {A : Type 0} (P : A → Type 0) (b : Bool) (x y : A) → P x → P y → P (cond b x y)
one_of P true x y h k = h
one_of P false x y h k = k

one_of_three : {A : Type 0} (P : A → Type 0) (o : Ordering) (x y z : A) → P x → P y → P z → P (match_ordering o x y z)
one_of_three P Less x y z h k l = h
one_of_three P Equal x y z h k l = k
one_of_three P Greater x y z h k l = l

-- the greater of two numbers is one of them
pub max_by : (P : ℕ → Type 0) (x y : ℕ) → (x < y) ⊎ (y ≤ x) → P x → P y → P (max x y)
max_by P x y (inl less) h k = subst P (sym (max-eq_right (let l = less in omega (arith, l)))) k
max_by P x y (inr most) h k = subst P (sym (max-eq_left most)) h

max_written : (x y : ℕ) → IsWritten (Name x) → IsWritten (Name y) → IsWritten (Name (max x y))
max_written x y h k = max_by (λ n. IsWritten (Name n)) x y (cases_lt x y) h k

-- the leaves of a join are written
leaves_joined : (a b : Filled) → EachHas IsWritten (leaves_of a) → EachHas IsWritten (leaves_of b) → EachHas IsWritten (leaves_of (joined a b))
leaves_joined (a_number x) (a_number y) h k = (one_of (λ z. IsWritten (Num z)) (int_lt y x) x y h.0 k.0, tt)
leaves_joined (a_name x) (a_name y) h k = (max_written x y h.0 k.0, tt)
leaves_joined (a_truth x) (a_truth y) h k = (tt, tt)
leaves_joined (a_lex a b) (a_lex c d) h k =
    let mine = each_both IsWritten (leaves_of a) (leaves_of b) (each_first IsWritten (leaves_of a) (leaves_of b) h) (each_second IsWritten (leaves_of a) (leaves_of b) h) in
    let inner = leaves_joined b d (each_second IsWritten (leaves_of a) (leaves_of b) h) (each_second IsWritten (leaves_of c) (leaves_of d) k) in
    one_of_three (λ (v : Filled). EachHas IsWritten (leaves_of v)) (cells_compared a c) (a_lex c d) (a_lex a (joined b d)) (a_lex a b) k
    (each_both IsWritten (leaves_of a) (leaves_of (joined b d)) (each_first IsWritten (leaves_of a) (leaves_of b) h) inner) mine
leaves_joined (a_pair a b) (a_pair c d) h k =
    each_both IsWritten (leaves_of (joined a c)) (leaves_of (joined b d))
    (leaves_joined a c (each_first IsWritten (leaves_of a) (leaves_of b) h) (each_first IsWritten (leaves_of c) (leaves_of d) k))
    (leaves_joined b d (each_second IsWritten (leaves_of a) (leaves_of b) h) (each_second IsWritten (leaves_of c) (leaves_of d) k))
leaves_joined a _ h k = h

-- cells, sums, and the values at keys
cell_joined : (shape : CellForm) (a b : Filled) → IsGoodForm shape → IsCell shape a → IsCell shape b → IsCell shape (joined a b)
cell_joined shape a b good h k = record {
  shaped = shape_of-joined a b (record { good = subst IsGoodForm (sym h.shaped) good; same = h.shaped ∙ sym k.shaped }) ∙ h.shaped;
  written = leaves_joined a b h.written k.written;
}

sum_joined : (x y : ℕ × ℕ) → IsSum x → IsSum y → IsSum (on_value max x y)
sum_joined x y h k = record {
  least_replica = h.least_replica;
  most_replica = h.most_replica;
  least = (let a = h.least in omega (arith, a));
  most = (let a = h.most in let b = k.most in omega (arith, a, b));
}

sums_joined : (xs ys : Sums) → AreSums xs → AreSums ys → AreSums (tallies_joined xs ys)
sums_joined xs ys h k = record {
  ascending = ascending_union (by_key nat_cmp) (on_value max) (by_key_total nat_cmp_total) (keeps_by_key nat_cmp max) xs ys h.ascending;
  each = union_has (by_key nat_cmp) (on_value max) IsSum sum_joined xs ys h.each k.each;
}

entries_joined : {V : Type 0} (key : Sort) (Is : V → Type 0) (join : V → V → V) → ((v w : V) → Is v → Is w → Is (join v w)) → (xs ys : List (Value × V))
    → EachHas (IsEntry key Is) xs → EachHas (IsEntry key Is) ys → EachHas (IsEntry key Is) (union (by_key value_order) (on_value join) xs ys)
entries_joined key Is join both xs ys h k = union_has (by_key value_order) (on_value join) (IsEntry key Is) (λ x y p q. (p.0, both x.1 y.1 p.1 q.1)) xs ys h k

-- parts
part_joined_is : IsTotalOrder value_order → (component : ComponentForm) (p q : Part) → HasStarts component → IsPart component p → IsPart component q
    → IsPart component (part_joined p q)
part_joined_is total (a_cell shape starts effects) (part.Cell a) (part.Cell b) has h k = cell_joined shape a b has.0 h k
part_joined_is total (a_table key shape starts effects) (part.Table a) (part.Table b) has h k = record {
  start_is = h.start_is;
  map_is = map_joined total cell_laws a b h.map_is k.map_is (h.start_is ∙ sym k.start_is);
  each = entries_joined key (IsCell shape) joined (λ v w p q. cell_joined shape v w has.0 p q) a.entries b.entries h.each k.each;
}
part_joined_is total (a_set key effects) (part.Set a) (part.Set b) has h k = record {
  ascending = ascending_union value_order first_one total (keeps_first value_order) a b h.ascending;
  each = union_has value_order first_one (IsKey key) (λ x y p q. p) a b h.each k.each;
}
part_joined_is total (a_tally effects) (part.Tally a) (part.Tally b) has h k = sums_joined a b h k
part_joined_is total (tallies key effects) (part.Tallies a) (part.Tallies b) has h k = record {
  start_is = h.start_is;
  map_is = map_joined total tally_laws a b h.map_is k.map_is (h.start_is ∙ sym k.start_is);
  each = entries_joined key AreSums tallies_joined sums_joined a.entries b.entries h.each k.each;
}
part_joined_is total (a_cell shape starts effects) (part.Cell a) _ has h k = absurd k
part_joined_is total (a_table key shape starts effects) (part.Table a) _ has h k = absurd k
part_joined_is total (a_set key effects) (part.Set a) _ has h k = absurd k
part_joined_is total (a_tally effects) (part.Tally a) _ has h k = absurd k
part_joined_is total (tallies key effects) (part.Tallies a) _ has h k = absurd k
part_joined_is total (a_cell shape starts effects) _ q has h k = absurd h
part_joined_is total (a_table key shape starts effects) _ q has h k = absurd h
part_joined_is total (a_set key effects) _ q has h k = absurd h
part_joined_is total (a_tally effects) _ q has h k = absurd h
part_joined_is total (tallies key effects) _ q has h k = absurd h

pub parts_joined_are : IsTotalOrder value_order → (components : List ComponentForm) (ps qs : List Part) → EachHas HasStarts components → AreMatched IsPart components ps
    → AreMatched IsPart components qs → AreMatched IsPart components (parts_joined ps qs)
parts_joined_are total [] [] [] each h k = tt
parts_joined_are total [] [] (q ∷ qs) each h k = absurd k
parts_joined_are total [] (p ∷ ps) qs each h k = absurd h
parts_joined_are total (component ∷ components) [] qs each h k = absurd h
parts_joined_are total (component ∷ components) (p ∷ ps) [] each h k = absurd k
parts_joined_are total (component ∷ components) (p ∷ ps) (q ∷ qs) each h k = (part_joined_is total component p q each.0 h.0 k.0, parts_joined_are total components ps qs each.1 h.1 k.1)
