-- What an operation gives to leaves is read as what it is.
use Rattle.std.proofs.Common.{◌≡◌, ◌≢◌, ℕ, ℤ, pos, ◌≤ℤ◌, ◌-ℤ◌, neg_ℤ, int_lt, Bool, true, false, if◌then◌else◌, List, Some, refl, sym, ap, subst, ◌∙◌, arith, negsuc}
use Rattle.std.specs.Prelude.{slice_get}
use Rattle.std.specs.Int.{int_max}
use Rattle.std.proofs.lemmas.Int.{ints}
use Rattle.kat_num.specs.Values.{HasSort}
use Rattle.kat_num.specs.declared.values.Sort.{Sort}
use Rattle.kat_num.specs.declared.values.Sort.TheVariants as sort
use Rattle.kat_num.specs.declared.values.Value.{Value}
use Rattle.kat_num.specs.declared.values.Value.TheVariants as value
use Rattle.kat_expr.specs.Evaluation.{number_of}
use Rattle.kat_expr.specs.Slots.{argument, is_same}
use Rattle.kat_expr.specs.Sorts.{IsChosen}
use Rattle.kat_type.specs.Signatures.{param_sorts}
use Rattle.kat_type.specs.declared.done.Done.{Done}
use Rattle.kat_type.specs.declared.types.Param.{Param}
use Rattle.kat_seq.proofs.Sorting.{got_made}
use Rattle.kat_design.specs.Denotations.{natural}
use Rattle.kat_design.specs.Effects.{leaf_value}
use Rattle.kat_design.specs.Kinds.{value_kind}
use Rattle.kat_design.specs.Sorted.{GivesKind, IsParameter, IsWeight}
use Rattle.kat_design.specs.Sorted.GivesKind.{argument as gives_argument, time as gives_time, replica as gives_replica, zero_leaf as gives_zero, one as gives_one, above as gives_above, below as gives_below, false_leaf as gives_false, true_leaf as gives_true}
use Rattle.kat_design.specs.Sorted.IsWeight.{natural as weighs_natural, time as weighs_time, replica as weighs_replica, zero_leaf as weighs_zero, one as weighs_one, above as weighs_above, below as weighs_below}
use Rattle.kat_design.specs.declared.designs.Leaf.{Leaf}
use Rattle.kat_design.specs.declared.designs.Leaf.TheVariants as leaf
use Rattle.kat_design.specs.declared.kinds.Kind.{Kind}
use Rattle.kat_form.specs.Facts.{Fact}
use Rattle.kat_symbols.specs.Connectives.{fact_lt}
use Rattle.kat_claims.specs.Effects.{above_zero, gift_read, if_read, is_truth_parameter, same_key_read}
use Rattle.kat_symbols.specs.Readers.{Reader, Symbol, choose, read_name}
use Rattle.kat_claims.specs.States.{is_truth_sort}
use Rattle.kat_symbols.specs.Sums.{minus, numeral}
use Rattle.kat_symbols.specs.Symbols.{symbol_if}
use Rattle.kat_symbols.specs.declared.names.Instance.{Instance}
use Rattle.kat_symbols.specs.declared.names.Instance.TheVariants.{Argument}
use Rattle.kat_symbols.specs.declared.names.Name.TheVariants.{Key, Replica, Time}
use Rattle.kat_invariant.proofs.Having.{ReadsNumber, ReadsTruth, ReadsValue, lt_has, minus_has, number_as, numbers_then, numeral_has, known_has, same_has, variable_reads, IsNumber, IsTruth}
use Rattle.kat_invariant.proofs.Joins.{SameKind, symbol_if_reads}
use Rattle.kat_invariant.proofs.Logic.{Meant, measure, HasTruth, Means, stays, reads_as, reads_choice, reads_name, reads_two}
use Rattle.kat_invariant.proofs.Meaning.{number_by_sort, truth_by_sort}
use Rattle.kat_invariant.proofs.Measures.{chosen_compare, number_measure, same_is}
use Rattle.kat_invariant.proofs.Saying.{int_same}
use Rattle.kat_linear.specs.Rows.{Form}
use Rattle.kat_invariant.proofs.LeafKinds.{sort_has_kind}

pub ordered_chosen : (s : Sort) → s ≢ sort.Bool → IsChosen s
ordered_chosen sort.Bool h = absurd (h refl)
ordered_chosen sort.Int h = tt
ordered_chosen sort.Nat h = tt
ordered_chosen sort.Name h = tt

pub same_turned : (x y : ℤ) → int_same x y ≡ int_same y x
same_turned x y = grind (arith, ints)

-- a key of a sort is another
pub keys_equal : (s : Sort) (u v : Value) → s ≢ sort.Bool → HasSort s u → HasSort s v → is_same u v ≡ int_same (measure u) (measure v)
keys_equal s u v n h k = same_is u v (chosen_compare s u v (ordered_chosen s n) h k)

-- if keys are the same, what is new, else what is there
pub if_reads : (m : Meant) (same : Reader → Fact × Reader) (new old : Reader → Symbol × Reader) (b : Bool) (u v : Value) → SameKind u v → ReadsTruth m same b → ReadsValue m new u → ReadsValue m old v
    → ReadsValue m (λ r. if_read (same r) new old) (if b then u else v)
if_reads m same new old b u v kinds p q o r =
    let s = same r in let x = new s.1 in let y = old x.1 in
    reads_as m r (symbol_if s.0 x.0 y.0 y.1).1 _ _
    (symbol_if_reads m r y.1 s.0 x.0 y.0 b u v (λ w. Unit {0}) kinds
    (reads_two m r s.1 y.1 (HasTruth s.0 b) (λ w. Means x.0 u w × Means y.0 v w) _ (p r)
    (reads_two m s.1 x.1 y.1 (Means x.0 u) (Means y.0 v) _ (q s.1) (o x.1) (λ w h k. (h, k))) (λ w h k. ((h, k.0, k.1), tt))))
    (λ w h. h.0)

-- gifts whose parameters are there
abbrev pub GiftFits : List Param → Leaf → Type 0
GiftFits params (leaf.Arg j) = (p : Param) × (slice_get params j ≡ Some p)
GiftFits params (leaf.Pos j) = (p : Param) × (slice_get params j ≡ Some p) × (p.sort ≡ sort.Int)
GiftFits params (leaf.Neg j) = (p : Param) × (slice_get params j ≡ Some p) × (p.sort ≡ sort.Int)
GiftFits params leaf.Time = Unit {0}
GiftFits params leaf.Replica = Unit {0}
GiftFits params leaf.Zero = Unit {0}
GiftFits params leaf.One = Unit {0}
GiftFits params leaf.False = Unit {0}
GiftFits params leaf.True = Unit {0}

param_there : (params : List Param) (j : ℕ) (s : Sort) → IsParameter (param_sorts params) j s → (p : Param) × (slice_get params j ≡ Some p) × (p.sort ≡ s)
param_there params j s e = got_made (λ (p : Param). p.sort) params j s e

pub kind_fits : (params : List Param) (gift : Leaf) (k : Kind) → GivesKind (param_sorts params) gift k → GiftFits params gift
kind_fits params _ _ (gives_argument j s e) = let p = param_there params j s e in (p.0, p.1)
kind_fits params _ _ gives_time = tt
kind_fits params _ _ gives_replica = tt
kind_fits params _ _ gives_zero = tt
kind_fits params _ _ gives_one = tt
kind_fits params _ _ (gives_above j e) = param_there params j sort.Int e
kind_fits params _ _ (gives_below j e) = param_there params j sort.Int e
kind_fits params _ _ gives_false = tt
kind_fits params _ _ gives_true = tt

pub weight_fits : (params : List Param) (gift : Leaf) → IsWeight (param_sorts params) gift → GiftFits params gift
weight_fits params _ (weighs_natural j e) = let p = param_there params j sort.Nat e in (p.0, p.1)
weight_fits params _ weighs_time = tt
weight_fits params _ weighs_replica = tt
weight_fits params _ weighs_zero = tt
weight_fits params _ weighs_one = tt
weight_fits params _ (weighs_above j e) = param_there params j sort.Int e
weight_fits params _ (weighs_below j e) = param_there params j sort.Int e

int_above : (z : ℤ) → (if int_lt z (pos 0) then pos 0 else z) ≡ int_max z (pos 0)
int_above z = grind (arith, ints)

below_zero : (z : ℤ) → pos 0 -ℤ z ≡ neg_ℤ z
below_zero z = omega (arith, ints)

abbrev pub ArgumentsFit : List Param → Done → Type 0
ArgumentsFit params done = (j : ℕ) (p : Param) → slice_get params j ≡ Some p → HasSort p.sort (argument done.args j)

-- what an operation means to names
pub record IsDone (m : Meant) (keys : Instance → Value) (done : Done) : Type 0 where
  pub keyed : (j : ℕ) → keys (Argument j) ≡ argument done.args j
  pub named : (i : Instance) → m.now (Key i) ≡ keys i
  pub time : m.now Time ≡ value.Num (pos done.time)
  pub replica : m.now Replica ≡ value.Num (pos done.replica)

module _ (m : Meant) (keys : Instance → Value) (done : Done) (params : List Param) (fit : ArgumentsFit params done) (means : IsDone m keys done) where
  argument_is : (j : ℕ) → m.now (Key (Argument j)) ≡ argument done.args j
  argument_is j = means.named (Argument j) ∙ means.keyed j

  above_reads : (p : Reader → Form × Reader) (z : ℤ) → ReadsNumber m p z → ReadsValue m (λ r. above_zero (p r).0 (p r).1) (value.Num (int_max z (pos 0)))
  above_reads p z h r =
      reads_as m r (choose (fact_lt (p r).0 (numeral (pos 0))) (numeral (pos 0)) (p r).0 (p r).1).1 _ _
      (reads_choice m r (p r).1 (fact_lt (p r).0 (numeral (pos 0))) (numeral (pos 0)) (p r).0 (int_lt z (pos 0)) (pos 0) z
      (reads_as m r (p r).1 _ _ (h r) (λ w q. record { test = lt_has w _ _ _ _ q (numeral_has w (pos 0)); left = numeral_has w (pos 0); right = q })))
      (λ w q. record { is = number_as w _ _ _ (int_above z) q })

  integer_is : (j : ℕ) → (p : Param) × (slice_get params j ≡ Some p) × (p.sort ≡ sort.Int) → measure (argument done.args j) ≡ number_of (argument done.args j)
  integer_is j h = sym (number_measure (argument done.args j) (subst (λ t. HasSort t (argument done.args j)) h.2 (fit j h.0 h.1)))

  number_named : (j : ℕ) → ReadsNumber m (read_name (Key (Argument j))) (measure (argument done.args j))
  number_named j r = reads_as m r (read_name (Key (Argument j)) r).1 _ _ (reads_name m (Key (Argument j)) r) (λ w q. number_as w _ _ _ (ap measure (argument_is j)) q)

  argument_reads : (j : ℕ) (p : Param) → slice_get params j ≡ Some p → ReadsValue m (gift_read params (leaf.Arg j)) (argument done.args j)
  argument_reads j p e = subst (ReadsValue m (gift_read params (leaf.Arg j))) (argument_is j)
      (variable_reads m (is_truth_parameter (slice_get params j)) (Key (Argument j))
      (λ t. subst IsTruth (sym (argument_is j)) (truth_by_sort p.sort (argument done.args j) (fit j p e) (sym (ap is_truth_parameter e) ∙ t)))
      (λ t. subst IsNumber (sym (argument_is j)) (number_by_sort p.sort (argument done.args j) (fit j p e) (sym (ap is_truth_parameter e) ∙ t))))

  pub gift_reads : (gift : Leaf) → GiftFits params gift → ReadsValue m (gift_read params gift) (leaf_value done gift)
  gift_reads (leaf.Arg j) h = argument_reads j h.0 h.1
  gift_reads leaf.Time h = λ r. reads_as m r (read_name Time r).1 _ _ (reads_name m Time r) (λ w q. record { is = number_as w _ _ _ (ap measure means.time) q })
  gift_reads leaf.Replica h = λ r. reads_as m r (read_name Replica r).1 _ _ (reads_name m Replica r) (λ w q. record { is = number_as w _ _ _ (ap measure means.replica) q })
  gift_reads leaf.Zero h = λ r. stays m r _ (λ w f. record { is = numeral_has w (pos 0) })
  gift_reads leaf.One h = λ r. stays m r _ (λ w f. record { is = numeral_has w (pos 1) })
  gift_reads (leaf.Pos j) h = subst (λ z. ReadsValue m (gift_read params (leaf.Pos j)) (value.Num (int_max z (pos 0)))) (integer_is j h) (above_reads (read_name (Key (Argument j))) (measure (argument done.args j)) (number_named j))
  gift_reads (leaf.Neg j) h = subst (λ z. ReadsValue m (gift_read params (leaf.Neg j)) (value.Num (int_max (neg_ℤ z) (pos 0)))) (integer_is j h)
      (above_reads (λ r. (minus (numeral (pos 0)) (read_name (Key (Argument j)) r).0, (read_name (Key (Argument j)) r).1)) (neg_ℤ (measure (argument done.args j)))
      (λ r. reads_as m r (read_name (Key (Argument j)) r).1 _ _ (number_named j r) (λ w q. number_as w _ _ _ (below_zero (measure (argument done.args j))) (minus_has w (numeral (pos 0)) _ _ _ (numeral_has w (pos 0)) q))))
  gift_reads leaf.False h = λ r. stays m r _ (λ w f. record { is = known_has w false })
  gift_reads leaf.True h = λ r. stays m r _ (λ w f. record { is = known_has w true })

  -- the kind of what is given
  pub gift_kind : (gift : Leaf) (k : Kind) → GivesKind (param_sorts params) gift k → value_kind (leaf_value done gift) ≡ k
  gift_kind _ _ (gives_argument j s e) = let p = param_there params j s e in sort_has_kind s (argument done.args j) (subst (λ t. HasSort t (argument done.args j)) p.2 (fit j p.0 p.1))
  gift_kind _ _ gives_time = refl
  gift_kind _ _ gives_replica = refl
  gift_kind _ _ gives_zero = refl
  gift_kind _ _ gives_one = refl
  gift_kind _ _ (gives_above j e) = refl
  gift_kind _ _ (gives_below j e) = refl
  gift_kind _ _ gives_false = refl
  gift_kind _ _ gives_true = refl

  -- a weight is a natural number
  whole_natural : (z : ℤ) → pos 0 ≤ℤ z → z ≡ pos (natural z)
  whole_natural (pos n) h = refl
  whole_natural (negsuc n) h = absurd (omega (arith, ints, h))

  nat_measure : (v : Value) → HasSort sort.Nat v → measure v ≡ pos (natural (number_of v))
  nat_measure (value.Num z) h = whole_natural z h
  nat_measure (value.Bool z) h = absurd h
  nat_measure (value.Name z) h = absurd h

  max_least : (z : ℤ) → pos 0 ≤ℤ int_max z (pos 0)
  max_least z = grind (arith, ints)

  pub weight_is : (gift : Leaf) → IsWeight (param_sorts params) gift → measure (leaf_value done gift) ≡ pos (natural (number_of (leaf_value done gift)))
  weight_is _ (weighs_natural j e) = let p = param_there params j sort.Nat e in nat_measure (argument done.args j) (subst (λ t. HasSort t (argument done.args j)) p.2 (fit j p.0 p.1))
  weight_is _ weighs_time = refl
  weight_is _ weighs_replica = refl
  weight_is _ weighs_zero = refl
  weight_is _ weighs_one = refl
  weight_is _ (weighs_above j e) = whole_natural (int_max (number_of (argument done.args j)) (pos 0)) (max_least (number_of (argument done.args j)))
  weight_is _ (weighs_below j e) = whole_natural (int_max (neg_ℤ (number_of (argument done.args j))) (pos 0)) (max_least (neg_ℤ (number_of (argument done.args j))))

  pub weight_number : (gift : Leaf) → IsWeight (param_sorts params) gift → IsNumber (leaf_value done gift)
  weight_number _ (weighs_natural j e) = let p = param_there params j sort.Nat e in number_by_sort p.0.sort (argument done.args j) (fit j p.0 p.1) (ap is_truth_sort p.2)
  weight_number _ weighs_time = tt
  weight_number _ weighs_replica = tt
  weight_number _ weighs_zero = tt
  weight_number _ weighs_one = tt
  weight_number _ (weighs_above j e) = tt
  weight_number _ (weighs_below j e) = tt

  -- a key is the one of an argument
  pub same_key_reads : (i : Instance) (j : ℕ) → ReadsTruth m (same_key_read (Some i) j) (int_same (measure (keys i)) (measure (argument done.args j)))
  same_key_reads i j r = numbers_then m (read_name (Key i)) (read_name (Key (Argument j))) (measure (keys i)) (measure (argument done.args j)) r _
      (λ q. reads_as m q (read_name (Key i) q).1 _ _ (reads_name m (Key i) q) (λ w h. number_as w _ _ _ (ap measure (means.named i)) h))
      (number_named j) (λ w p q. same_has w _ _ _ _ p q)
