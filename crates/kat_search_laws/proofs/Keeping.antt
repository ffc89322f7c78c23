-- That counts are sums is an inductive invariant between the cart and its design, which so answers as the cart.
use Rattle.std.proofs.Common.{◌≡◌, ℕ, zero, suc, ◌+ℤ◌, true, rules, List, [], ◌∷◌, length, Some, refl, sym, ap, subst, arith}
use Rattle.std.specs.Prelude.{map, slice_get}
use Rattle.std.proofs.lemmas.List.Elements.{All-nil, All-cons, All-head}
use Rattle.std.proofs.lemmas.Option.{same_Some, slice_get_within}
use Rattle.kat_type.specs.Unions.{is_same_value}
use Rattle.kat_expr.specs.Evaluation.{number_of}
use Rattle.kat_expr.specs.Slots.{argument, read_table, slot_at}
use Rattle.kat_expr.specs.Sorts.{FitsKept, each}
use Rattle.kat_expr.specs.declared.expressions.Slot.{Slot}
use Rattle.kat_expr.specs.declared.expressions.Slot.TheVariants.{Plain, Keyed}
use Rattle.kat_invariant.specs.Asked.{asked}
use Rattle.kat_invariant.specs.Inductive.{FitQuery, HoldsAtStart, IsInductive, IsKept}
use Rattle.kat_invariant.specs.Legal.{FitsHeld, IsLegal, MayFollow}
use Rattle.kat_invariant.specs.Relations.{Holds, HoldsEverywhere, holds_at}
use Rattle.kat_invariant.specs.Runs.{AnswersAsType}
use Rattle.kat_invariant.specs.Situations.{Held, Situation, after, leaf_in, part_after, slot_value, start_of}
use Rattle.kat_invariant.specs.Situations.Held.{cell, member, total}
use Rattle.kat_invariant.proofs.Sequential.{inductive_designs_answer}
use Rattle.kat_lattice.specs.Sets.{TellsApart}
use Rattle.kat_num.specs.Orders.{value_order}
use Rattle.kat_num.specs.Values.{HasSort}
use Rattle.kat_num.specs.contracts.values.ValueOrd.TheImpl.Laws.{total-law}
use Rattle.kat_num.specs.declared.values.Sort.TheVariants as sort
use Rattle.kat_num.specs.declared.values.Value.{Value}
use Rattle.kat_num.specs.declared.values.Value.TheVariants as value
use Rattle.kat_relation.specs.Keys.{conjunct_key}
use Rattle.kat_relation.specs.declared.relations.Conjunct.{Conjunct}
use Rattle.kat_relation.specs.declared.relations.Conjunct.TheVariants.{Equal}
use Rattle.kat_sample.specs.Carts.{adding, cart, counting, thing}
use Rattle.kat_seq.specs.States.{answer_of, change_of, changed_by, operation_at, stepped, with_keyed}
use Rattle.kat_type.specs.Alike.{FitsType}
use Rattle.kat_type.specs.Types.{OperationForm, QueryForm}
use Rattle.kat_type.specs.declared.done.Done.{Done}
use Rattle.kat_type.specs.declared.types.Param.{Param}
use Rattle.kat_search_laws.proofs.Entries.{agrees_behind, one_value}
use Rattle.kat_search_laws.proofs.Summing.{summing, sums, together}

-- the count of each thing is its sum
abbrev counted : Conjunct
counted = Equal 0 (record { component = 0; leaf = 0 })

abbrev relation : List Conjunct
relation = counted ∷ []

abbrev Holding : Situation → Conjunct → Type 0
Holding s c = HoldsEverywhere (conjunct_key cart summing.components c) (λ key. holds_at cart summing s key c)

made : (s : Situation) → ((key : Value) → HasSort sort.Name key → holds_at cart summing s key counted ≡ true) → Holds cart summing relation s
made s holds = All-cons (Holding s) counted [] holds (All-nil (Holding s))

had : (s : Situation) → Holds cart summing relation s → (key : Value) → HasSort sort.Name key → holds_at cart summing s key counted ≡ true
had s holds = All-head (Holding s) counted [] holds

-- an operation of the cart adds
record Adds (done : Done) : Type 0 where
  pub op : done.op ≡ 0
  pub key : HasSort sort.Name (argument done.args 0)
  pub count : HasSort sort.Nat (argument done.args 1)

adds_by : (done : Done) (op : ℕ) (operation : OperationForm) → done.op ≡ op → slice_get cart.ops op ≡ Some operation
    → ((place : ℕ) (p : Param) → slice_get operation.params place ≡ Some p → HasSort p.sort (argument done.args place)) → Adds done
adds_by done zero operation is there fit =
    let same : adding ≡ operation = same_Some adding operation there in
    let fits = subst (λ (o : OperationForm). (place : ℕ) (p : Param) → slice_get o.params place ≡ Some p → HasSort p.sort (argument done.args place)) (sym same) fit in
    record { op = is; key = fits 0 thing refl; count = fits 1 _ refl }
adds_by done (suc op) operation is there fit = let l = slice_get_within cart.ops (suc op) operation there in absurd (omega (arith, l))

adds : (done : Done) → FitsType cart done → Adds done
adds done fits = adds_by done done.op fits.operation refl fits.there fits.args

-- the table once a thing was added
table_behind : (state : List Slot) (done : Done) → length state ≡ 1 → done.op ≡ 0
    → slot_at (stepped cart state done) 0
    ≡ with_keyed (argument done.args 0) (value.Num (number_of (read_table (argument done.args 0) (slot_at state 0)) +ℤ number_of (argument done.args 1))) (slot_at state 0)
table_behind [] done one op = absurd (omega (arith, one))
table_behind (slot ∷ []) done one op =
    ap (λ (n : ℕ). slot_at (changed_by (slot ∷ []) (map (change_of (slot ∷ []) done.args) (operation_at cart n).assigned)) 0) op
table_behind (slot ∷ other ∷ state) done one op = absurd (omega (arith, one))

starts : HoldsAtStart cart summing relation
starts = made (start_of cart summing) (λ key has. refl)

holds_behind : (s : Situation) (done : Done) (key : Value) → IsLegal cart summing s → Holds cart summing relation s → MayFollow cart done s → HasSort sort.Name key
    → holds_at cart summing (after cart summing done s) key counted ≡ true
holds_behind s done key legal holds may has =
    let add = adds done may.fits in
    subst (λ (slot : Slot). is_same_value (slot_value key slot) (leaf_in (part_after (Some sums) done key (s.held 0 key)) 0) ≡ true)
    (sym (table_behind s.state done legal.whole add.op))
    (agrees_behind done key (argument done.args 0) (argument done.args 1) (slot_at s.state 0) (s.held 0 key) add.op refl refl has add.key add.count
    (legal.fields 0 (each sort.Name sort.Nat) refl) (legal.parts 0 sums refl key) (had s holds key has))

keeps : IsKept cart summing relation
keeps s done legal holds may = made (after cart summing done s) (λ key has. holds_behind s done key legal holds may has)

-- what is read of the table and of the sums
read_same : (key : Value) (slot : Slot) (held : Held) → FitsKept (each sort.Name sort.Nat) slot → FitsHeld sums held → is_same_value (slot_value key slot) (leaf_in held 0) ≡ true
    → read_table key slot ≡ leaf_in held 0
read_same key (Plain v) held f g same = absurd f
read_same key (Keyed start entries) (cell c) f g same = absurd g
read_same key (Keyed start entries) (member b) f g same = absurd g
read_same key (Keyed start entries) (total z) f g same = one_value _ z same

asked_same : (s : Situation) (query : ℕ) (q : QueryForm) (args : List Value) → IsLegal cart summing s → Holds cart summing relation s
    → slice_get cart.queries query ≡ Some q → FitQuery q args → answer_of cart s.state query args ≡ asked summing s.held query args
asked_same s zero q args legal holds there fit =
    let same : counting ≡ q = same_Some counting q there in
    let fits = subst (λ (other : QueryForm). FitQuery other args) (sym same) fit in
    read_same (argument args 0) (slot_at s.state 0) (s.held 0 (argument args 0)) (legal.fields 0 (each sort.Name sort.Nat) refl) (legal.parts 0 sums refl (argument args 0))
    (had s holds (argument args 0) (fits 0 thing refl))
asked_same s (suc query) q args legal holds there fit = let l = slice_get_within cart.queries (suc query) q there in absurd (omega (arith, l))

inductive : IsInductive cart summing relation
inductive = record { start = starts; kept = keeps; answers = asked_same }

-- values that compare equal are one
tells_apart : TellsApart value_order
tells_apart = search rules

pub sums_answer_as_cart : AnswersAsType cart summing
sums_answer_as_cart = inductive_designs_answer total-law tells_apart cart summing relation together inductive
