-- What asks read on a side is as light as their nodes and constants allow.
use Rattle.std.proofs.Common.{◌≡◌, ℕ, ◌+◌, ◌*◌, ◌-◌, ◌≤◌, ℤ, pos, negsuc, neg_ℤ, ◌≤ℤ◌, false, List, sym, ap, ◌∙◌, subst, arith, Option, Some}
use Rattle.std.specs.Prelude.{◌^◌, option_map, slice_get, unsigned_abs}
use Rattle.std.proofs.lemmas.Int.{ints}
use Rattle.kat_num.specs.declared.values.Sort.{Sort}
use Rattle.kat_num.specs.declared.values.Value.{Value}
use Rattle.kat_num.specs.declared.values.Value.TheVariants.{Bool as Truth, Num, Name}
use Rattle.kat_expr.specs.Sorts.{Kept}
use Rattle.kat_design.specs.Designs.{AskForm, ComponentForm}
use Rattle.kat_design.specs.Kinds.{leaf_kind, sort_kind, value_kind}
use Rattle.kat_design.specs.Sizes.{ask_nodes}
use Rattle.kat_design.specs.Sorted.{HasKind, IsWritten}
use Rattle.kat_design.specs.Sorted.HasKind.{read, given as a_parameter, written, denied as a_denial, and_of as a_conjunction, or_of as a_choice, numbers_less, names_less, sum_of, difference_of}
use Rattle.kat_design.specs.declared.kinds.Kind.{Kind}
use Rattle.kat_design.specs.declared.kinds.Kind.TheVariants as kind
use Rattle.kat_claims.specs.Asks.{number_asked, truth_asked}
use Rattle.kat_symbols.specs.Readers.{Reader}
use Rattle.kat_symbols.specs.Sides.{Side, given}
use Rattle.kat_symbols.specs.Symbols.{number_in, symbol_of}
use Rattle.kat_symbols.specs.declared.names.Instance.{Instance}
use Rattle.kat_symbols.specs.declared.names.Name.TheVariants.{Key}
use Rattle.kat_symbols.specs.declared.names.Place.TheVariants.{Leaf}
use Rattle.kat_bounds.proofs.Weights.{IsUpTo, up_more, numeral_up, natural_up, plus_up, minus_up}
use Rattle.kat_bounds.proofs.Facts.{most, most_above, IsLightFact, known_light, denied_light, or_light, and_light, lt_light}
use Rattle.kat_bounds.proofs.Readers.{IsLight, IsSymbolUpTo, Yields, spend, flag_up, name_up, number_symbol, truth_symbol}
use Rattle.kat_bounds.proofs.Caps.{constant_light, kind_cap, leaf_most, leaf_some, name_small}
use Rattle.kat_bounds.proofs.Terms.{IsLightSide, first_part, number_kept_up, one_cost, one_named, one_part, one_read, second_part, sum_within, truth_kept_up, two_costs}

abbrev pub ask_cap : ℕ → Kind → ℕ
ask_cap n kind.Number = n
ask_cap n kind.Name = most
ask_cap n kind.Truth = n

ask_some : (n : ℕ) (k : Kind) → 1 ≤ n → 1 ≤ ask_cap n k
ask_some n kind.Number h = h
ask_some n kind.Name h = most_above
ask_some n kind.Truth h = h

pub ask_low : (n : ℕ) (k : Kind) → n ≤ most → ask_cap n k ≤ most
ask_low n kind.Number h = h
ask_low n kind.Name h = omega arith
ask_low n kind.Truth h = h

-- a number of 64 bits
written_small : (z : ℤ) → neg_ℤ (pos (2 ^ 63)) ≤ℤ z → z ≤ℤ pos (2 ^ 64 - 1) → unsigned_abs z ≤ leaf_most
unfolding leaf_most
written_small (pos k) low high = omega (arith, ints, high)
written_small (negsuc k) low high = omega (arith, ints, low)

-- a reader may have this many slots
module _ (slots_most : ℕ) where
  pub written_up : (n : ℕ) (v : Value) → leaf_most ≤ n → IsWritten v → IsUpTo slots_most (ask_cap n (value_kind v)) (number_in (symbol_of v))
  written_up n (Truth b) le h = natural_up slots_most n 0 (omega arith)
  written_up n (Num z) le h = numeral_up slots_most n z (omega (arith, le, written_small z h.0 h.1))
  written_up n (Name code) le h = natural_up slots_most most code (name_small code h)

  -- a start as it is kept
  pub written_symbol : (v : Value) (k : Kind) → value_kind v ≡ k → IsWritten v → IsSymbolUpTo slots_most (kind_cap (Some k)) (symbol_of v)
  written_symbol v k is h = subst (λ c. IsSymbolUpTo slots_most (kind_cap (Some c)) (symbol_of v)) is (by_value v h)
    where
      by_value : (v : Value) → IsWritten v → IsSymbolUpTo slots_most (kind_cap (Some (value_kind v))) (symbol_of v)
      by_value (Truth b) h = truth_symbol slots_most leaf_most _ (known_light slots_most b)
      by_value (Num z) h = number_symbol slots_most leaf_most _ (numeral_up slots_most leaf_most z (written_small z h.0 h.1))
      by_value (Name code) h = number_symbol slots_most most _ (natural_up slots_most most code (name_small code h))

  kind_within : (k : Kind) → kind_cap (Some k) ≤ ask_cap (leaf_most * 1) k
  kind_within kind.Number = omega arith
  kind_within kind.Name = omega arith
  kind_within kind.Truth = omega arith

  leaf_one : 1 ≤ leaf_most
  leaf_one = omega (arith, leaf_some)

  module _ (caps : ℕ × ℕ × ℕ × ℕ → ℕ) (n cost : ℕ) (fields : List Kept) (components : List ComponentForm) (side : Side) (light : IsLightSide slots_most caps n cost fields components side) (paid : 1 ≤ cost) (sorts : List Sort) (at : Option Instance) where
    abbrev top : Kind → AskForm → ℕ
    top k x = ask_cap (leaf_most * ask_nodes x) k

    leaf_up : (c l : ℕ) (key : Option Instance) (k : Kind) (component : ComponentForm) (left : ℕ) (r : Reader) → slice_get components c ≡ Some component → leaf_kind (Some component) l ≡ Some k → IsLight slots_most caps (cost + left) r
        → Yields slots_most caps left (IsUpTo slots_most (ask_cap (leaf_most * 1) k)) ((number_in (side.value (Leaf c l) key r).0), (side.value (Leaf c l) key r).1)
    leaf_up c l key k component left r there is h =
        let x = number_kept_up slots_most caps n cost fields components side light (Leaf c l) key left r h in
        let same : leaf_kind (slice_get components c) l ≡ Some k = ap (λ (o : Option ComponentForm). leaf_kind o l) there ∙ is in
        record { value = up_more slots_most _ _ _ (subst (λ (o : Option Kind). kind_cap o ≤ ask_cap (leaf_most * 1) k) (sym same) (kind_within k)) x.value; reader = x.reader }

    mutual
      pub number_asked_up : (x : AskForm) (k : Kind) → HasKind components sorts x k → leaf_most * ask_nodes x ≤ most → (left : ℕ) (r : Reader) → IsLight slots_most caps (cost * ask_nodes x + left) r → Yields slots_most caps left (IsUpTo slots_most (top k x)) (number_asked side at x r)
      number_asked_up _ _ (read c l key component k there is fits) low left r h = leaf_up c l (option_map (given at) key) k component left r there is (spend slots_most caps (cost + left) r h (one_read slots_most cost left))
      number_asked_up _ _ (a_parameter j s is) low left r h =
          let x = name_up slots_most caps (Key (given at j)) left r (spend slots_most caps (1 + left) r h (one_named slots_most cost left paid)) in record { value = up_more slots_most 1 _ _ (ask_some (leaf_most * 1) (sort_kind s) (omega (arith, leaf_one))) x.value; reader = x.reader }
      number_asked_up _ _ (written v ok) low left r h = record { value = written_up (leaf_most * 1) v (omega arith) ok; reader = spend slots_most caps left r h (omega arith) }
      number_asked_up _ _ (a_denial p) low left r h = record { value = natural_up slots_most _ 0 (omega arith); reader = spend slots_most caps left r h (omega arith) }
      number_asked_up _ _ (a_conjunction p q) low left r h = record { value = natural_up slots_most _ 0 (omega arith); reader = spend slots_most caps left r h (omega arith) }
      number_asked_up _ _ (a_choice p q) low left r h = record { value = natural_up slots_most _ 0 (omega arith); reader = spend slots_most caps left r h (omega arith) }
      number_asked_up _ _ (numbers_less p q) low left r h = record { value = natural_up slots_most _ 0 (omega arith); reader = spend slots_most caps left r h (omega arith) }
      number_asked_up _ _ (names_less p q) low left r h = record { value = natural_up slots_most _ 0 (omega arith); reader = spend slots_most caps left r h (omega arith) }
      number_asked_up _ _ (sum_of {a = a} {b = b} p q) low left r h =
          let x = number_asked_up a kind.Number p (first_part slots_most leaf_most (ask_nodes a) (ask_nodes b) low) (cost * ask_nodes b + left) r (spend slots_most caps (cost * ask_nodes a + (cost * ask_nodes b + left)) r h (two_costs slots_most cost (ask_nodes a) (ask_nodes b) left)) in
          let y = number_asked_up b kind.Number q (second_part slots_most leaf_most (ask_nodes a) (ask_nodes b) low) left (number_asked side at a r).1 x.reader in
          record { value = up_more slots_most _ _ _ (sum_within slots_most leaf_most (ask_nodes a) (ask_nodes b)) (plus_up slots_most _ _ _ _ x.value y.value); reader = y.reader }
      number_asked_up _ _ (difference_of {a = a} {b = b} p q) low left r h =
          let x = number_asked_up a kind.Number p (first_part slots_most leaf_most (ask_nodes a) (ask_nodes b) low) (cost * ask_nodes b + left) r (spend slots_most caps (cost * ask_nodes a + (cost * ask_nodes b + left)) r h (two_costs slots_most cost (ask_nodes a) (ask_nodes b) left)) in
          let y = number_asked_up b kind.Number q (second_part slots_most leaf_most (ask_nodes a) (ask_nodes b) low) left (number_asked side at a r).1 x.reader in
          record { value = up_more slots_most _ _ _ (sum_within slots_most leaf_most (ask_nodes a) (ask_nodes b)) (minus_up slots_most _ _ _ _ x.value y.value); reader = y.reader }

      pub truth_asked_up : (x : AskForm) (k : Kind) → HasKind components sorts x k → leaf_most * ask_nodes x ≤ most → (left : ℕ) (r : Reader) → IsLight slots_most caps (cost * ask_nodes x + left) r → Yields slots_most caps left (IsLightFact slots_most) (truth_asked side at x r)
      truth_asked_up _ _ (read c l key component k there is fits) low left r h = truth_kept_up slots_most caps n cost fields components side light (Leaf c l) (option_map (given at) key) left r (spend slots_most caps (cost + left) r h (one_read slots_most cost left))
      truth_asked_up _ _ (a_parameter j s is) low left r h = flag_up slots_most caps (Key (given at j)) left r (spend slots_most caps left r h (omega arith))
      truth_asked_up _ _ (written v ok) low left r h = record { value = constant_light slots_most v; reader = spend slots_most caps left r h (omega arith) }
      truth_asked_up _ _ (a_denial {a = a} p) low left r h = let x = truth_asked_up a kind.Truth p (one_part slots_most leaf_most (ask_nodes a) low) left r (spend slots_most caps (cost * ask_nodes a + left) r h (one_cost slots_most cost (ask_nodes a) left)) in record { value = denied_light slots_most _ x.value; reader = x.reader }
      truth_asked_up _ _ (a_conjunction {a = a} {b = b} p q) low left r h =
          let x = truth_asked_up a kind.Truth p (first_part slots_most leaf_most (ask_nodes a) (ask_nodes b) low) (cost * ask_nodes b + left) r (spend slots_most caps (cost * ask_nodes a + (cost * ask_nodes b + left)) r h (two_costs slots_most cost (ask_nodes a) (ask_nodes b) left)) in
          let y = truth_asked_up b kind.Truth q (second_part slots_most leaf_most (ask_nodes a) (ask_nodes b) low) left (truth_asked side at a r).1 x.reader in
          record { value = and_light slots_most _ _ x.value y.value; reader = y.reader }
      truth_asked_up _ _ (a_choice {a = a} {b = b} p q) low left r h =
          let x = truth_asked_up a kind.Truth p (first_part slots_most leaf_most (ask_nodes a) (ask_nodes b) low) (cost * ask_nodes b + left) r (spend slots_most caps (cost * ask_nodes a + (cost * ask_nodes b + left)) r h (two_costs slots_most cost (ask_nodes a) (ask_nodes b) left)) in
          let y = truth_asked_up b kind.Truth q (second_part slots_most leaf_most (ask_nodes a) (ask_nodes b) low) left (truth_asked side at a r).1 x.reader in
          record { value = or_light slots_most _ _ x.value y.value; reader = y.reader }
      truth_asked_up _ _ (numbers_less {a = a} {b = b} p q) low left r h =
          let one = first_part slots_most leaf_most (ask_nodes a) (ask_nodes b) low in
          let other = second_part slots_most leaf_most (ask_nodes a) (ask_nodes b) low in
          let x = number_asked_up a kind.Number p one (cost * ask_nodes b + left) r (spend slots_most caps (cost * ask_nodes a + (cost * ask_nodes b + left)) r h (two_costs slots_most cost (ask_nodes a) (ask_nodes b) left)) in
          let y = number_asked_up b kind.Number q other left (number_asked side at a r).1 x.reader in
          record { value = lt_light slots_most _ _ (up_more slots_most _ _ _ one x.value) (up_more slots_most _ _ _ other y.value); reader = y.reader }
      truth_asked_up _ _ (names_less {a = a} {b = b} p q) low left r h =
          let x = number_asked_up a kind.Name p (first_part slots_most leaf_most (ask_nodes a) (ask_nodes b) low) (cost * ask_nodes b + left) r (spend slots_most caps (cost * ask_nodes a + (cost * ask_nodes b + left)) r h (two_costs slots_most cost (ask_nodes a) (ask_nodes b) left)) in
          let y = number_asked_up b kind.Name q (second_part slots_most leaf_most (ask_nodes a) (ask_nodes b) low) left (number_asked side at a r).1 x.reader in
          record { value = lt_light slots_most _ _ x.value y.value; reader = y.reader }
      truth_asked_up _ _ (sum_of p q) low left r h = record { value = known_light slots_most false; reader = spend slots_most caps left r h (omega arith) }
      truth_asked_up _ _ (difference_of p q) low left r h = record { value = known_light slots_most false; reader = spend slots_most caps left r h (omega arith) }
