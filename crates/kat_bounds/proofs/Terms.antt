-- What expressions and asks read on a side is as light as their nodes and constants allow.
use Rattle.std.proofs.Common.{◌≡◌, ℕ, ◌+◌, ◌*◌, ◌≤◌, false, List, refl, arith, ◌⊎◌, ⊎_elim, Option, None, Some}
use Rattle.std.specs.Prelude.{MatchOption, slice_get}
use Rattle.kat_num.specs.declared.values.Sort.{Sort}
use Rattle.kat_num.specs.declared.values.Sort.TheVariants.{Bool as OfBool, Int as OfInt, Nat as OfNat, Name as OfName}
use Rattle.kat_num.specs.declared.values.TheConstants.{NUMBER_LIMIT}
use Rattle.kat_expr.specs.Limits.{HasConstantsAtMost}
use Rattle.kat_expr.specs.Sorts.{Accepts, AcceptsField, AcceptsTable, FitsSort, IsChosen, Kept, Scope}
use Rattle.kat_expr.specs.Sorts.Kept.{one, each}
use Rattle.kat_expr.specs.Terms.{Term, node_count}
use Rattle.kat_expr.specs.Terms.Term.{constant, field, entry, parameter, negation, both, either, less, at_most, same, sum, difference, greater, lesser, choice}
use Rattle.kat_design.specs.Designs.{ComponentForm}
use Rattle.kat_symbols.specs.Readers.{Reader}
use Rattle.kat_symbols.specs.Sides.{Side, given}
use Rattle.kat_symbols.specs.Terms.{number_kept, truth_kept, number_read, truth_read}
use Rattle.kat_symbols.specs.declared.names.Instance.{Instance}
use Rattle.kat_symbols.specs.declared.names.Name.TheVariants.{Key}
use Rattle.kat_symbols.specs.declared.names.Place.{Place}
use Rattle.kat_symbols.specs.declared.names.Place.TheVariants.{Field}
use Rattle.kat_bounds.specs.Named.{HasNames}
use Rattle.kat_bounds.proofs.Weights.{IsUpTo, up_more, plus_up, minus_up}
use Rattle.kat_bounds.proofs.Facts.{most, IsLightFact, known_light, denied_light, or_light, and_light, le_light, lt_light, same_light}
use Rattle.kat_bounds.proofs.Readers.{IsLight, IsSymbolUpTo, Yields, spend, choose_up, flag_up, name_up, number_in_up, truth_in_light}
use Rattle.kat_bounds.proofs.Caps.{accepted_cap, constant_light, constant_up, kept_cap, place_cap, sort_cap, sort_low, sort_more, sort_some}

pub opened : {A : Type 0} (o : Option A) (P : A → Type 0) → MatchOption o ⊥ P → (x : A) × (o ≡ Some x) × P x
opened None P h = absurd h
opened (Some x) P h = (x, refl, h)

-- a reader may have this many slots
module _ (slots_most : ℕ) where
  -- a side on which each place holds at most what it may; a value takes this many slots at most, and an element one
  pub record IsLightSide (caps : ℕ × ℕ × ℕ × ℕ → ℕ) (n cost : ℕ) (fields : List Kept) (components : List ComponentForm) (side : Side) : Type 0 where
    pub value : (place : Place) (at : Option Instance) (left : ℕ) (r : Reader) → IsLight slots_most caps (cost + left) r → Yields slots_most caps left (IsSymbolUpTo slots_most (place_cap n fields components place)) (side.value place at r)
    pub begun : (left : ℕ) (r : Reader) → IsLight slots_most caps left r → Yields slots_most caps left (IsLightFact slots_most) (side.begun r)
    pub element : (j left : ℕ) (r : Reader) → IsLight slots_most caps (1 + left) r → Yields slots_most caps left (IsUpTo slots_most most) (side.element j r)

  -- parts of what is at most the greatest value
  pub one_part : (n a : ℕ) → n * (1 + a) ≤ most → n * a ≤ most
  one_part n a h = omega (arith, h)

  pub first_part : (n a b : ℕ) → n * (1 + a + b) ≤ most → n * a ≤ most
  first_part n a b h = omega (arith, h)

  pub second_part : (n a b : ℕ) → n * (1 + a + b) ≤ most → n * b ≤ most
  second_part n a b h = omega (arith, h)

  first_within : (n a b : ℕ) → n * a ≤ n * (1 + a + b)
  first_within n a b = omega arith

  second_within : (n a b : ℕ) → n * b ≤ n * (1 + a + b)
  second_within n a b = omega arith

  pub sum_within : (n a b : ℕ) → n * a + n * b ≤ n * (1 + a + b)
  sum_within n a b = omega arith

  two_nodes : (n a b : ℕ) → 1 ≤ n → 1 ≤ n * (1 + a + b)
  two_nodes n a b h = omega (arith, h)

  first_of : (n c a b : ℕ) → n * (1 + c + a + b) ≤ most → n * c ≤ most
  first_of n c a b h = omega (arith, h)

  second_of : (n c a b : ℕ) → n * (1 + c + a + b) ≤ most → n * a ≤ most
  second_of n c a b h = omega (arith, h)

  third_of : (n c a b : ℕ) → n * (1 + c + a + b) ≤ most → n * b ≤ most
  third_of n c a b h = omega (arith, h)

  middle_within : (n c a b : ℕ) → n * a ≤ n * (1 + c + a + b)
  middle_within n c a b = omega arith

  last_within : (n c a b : ℕ) → n * b ≤ n * (1 + c + a + b)
  last_within n c a b = omega arith

  three_nodes : (n c a b : ℕ) → 1 ≤ n → 1 ≤ n * (1 + c + a + b)
  three_nodes n c a b h = omega (arith, h)

  -- slots of parts
  pub one_read : (cost left : ℕ) → cost + left ≤ cost * 1 + left
  one_read cost left = omega arith

  pub one_named : (cost left : ℕ) → 1 ≤ cost → 1 + left ≤ cost * 1 + left
  one_named cost left paid = omega (arith, paid)

  pub none_read : (cost left : ℕ) → left ≤ cost + left
  none_read cost left = omega arith

  pub one_cost : (cost a left : ℕ) → cost * a + left ≤ cost * (1 + a) + left
  one_cost cost a left = omega arith

  pub two_costs : (cost a b left : ℕ) → cost * a + (cost * b + left) ≤ cost * (1 + a + b) + left
  two_costs cost a b left = omega arith

  two_and_choice : (cost a b left : ℕ) → 1 ≤ cost → cost * a + (cost * b + (1 + left)) ≤ cost * (1 + a + b) + left
  two_and_choice cost a b left paid = omega (arith, paid)

  three_and_choice : (cost c a b left : ℕ) → 1 ≤ cost → cost * c + (cost * a + (cost * b + (1 + left))) ≤ cost * (1 + c + a + b) + left
  three_and_choice cost c a b left paid = omega (arith, paid)

  module _ (caps : ℕ × ℕ × ℕ × ℕ → ℕ) (n cost : ℕ) (fields : List Kept) (components : List ComponentForm) (side : Side) (light : IsLightSide caps n cost fields components side) where
    pub number_kept_up : (place : Place) (at : Option Instance) (left : ℕ) (r : Reader) → IsLight slots_most caps (cost + left) r → Yields slots_most caps left (IsUpTo slots_most (place_cap n fields components place)) (number_kept side place at r)
    number_kept_up place at left r h = let x = light.value place at left r h in record { value = number_in_up slots_most _ (side.value place at r).0 x.value; reader = x.reader }

    pub truth_kept_up : (place : Place) (at : Option Instance) (left : ℕ) (r : Reader) → IsLight slots_most caps (cost + left) r → Yields slots_most caps left (IsLightFact slots_most) (truth_kept side place at r)
    truth_kept_up place at left r h = let x = light.value place at left r h in record { value = truth_in_light slots_most _ (side.value place at r).0 x.value; reader = x.reader }

    module _ (params : List Sort) (at : Option Instance) (limit : NUMBER_LIMIT ≤ n) (paid : 1 ≤ cost) where
      abbrev scope : Scope
      scope = record { fields = fields; params = params }

      abbrev cap : Sort → Term → ℕ
      cap asked x = sort_cap (n * node_count x) asked

      some : 1 ≤ n
      some = omega (arith, limit)

      -- reads of fields
      accepted_up : (asked given : Sort) → Accepts asked given → sort_cap n given ≤ sort_cap (n * 1) asked
      accepted_up asked given h = let one_node : n ≤ n * 1 = omega arith in omega (arith, accepted_cap n asked given h, sort_more n (n * 1) asked one_node)

      field_cap : (f : ℕ) (asked : Sort) → FitsSort scope (field f) asked → kept_cap n (slice_get fields f) ≤ cap asked (field f)
      field_cap f asked h = by_kept (opened (slice_get fields f) (AcceptsField asked) h)
        where
          by_kept : (k : Kept) × (slice_get fields f ≡ Some k) × AcceptsField asked k → kept_cap n (slice_get fields f) ≤ cap asked (field f)
          by_kept (one s, is, accepts) = rw is (accepted_up asked s accepts)
          by_kept (each key s, is, accepts) = absurd accepts

      entry_cap : (f j : ℕ) (asked : Sort) → FitsSort scope (entry f j) asked → kept_cap n (slice_get fields f) ≤ cap asked (entry f j)
      entry_cap f j asked h = by_param (opened (slice_get params j) (λ g. MatchOption (slice_get fields f) ⊥ (AcceptsTable asked g)) h)
        where
          by_kept : (g : Sort) → (k : Kept) × (slice_get fields f ≡ Some k) × AcceptsTable asked g k → kept_cap n (slice_get fields f) ≤ cap asked (entry f j)
          by_kept g (one s, is, accepts) = absurd accepts
          by_kept g (each key s, is, accepts) = rw is (accepted_up asked s accepts.1)

          by_param : (g : Sort) × (slice_get params j ≡ Some g) × MatchOption (slice_get fields f) ⊥ (AcceptsTable asked g) → kept_cap n (slice_get fields f) ≤ cap asked (entry f j)
          by_param (g, there, accepts) = by_kept g (opened (slice_get fields f) (AcceptsTable asked g) accepts)

      cap_low : (asked : Sort) (x : Term) → n * node_count x ≤ most → cap asked x ≤ most
      cap_low asked x h = sort_low (n * node_count x) asked h

      lowered : (asked : Sort) (x : Term) (left : ℕ) (r : Reader) → n * node_count x ≤ most → Yields slots_most caps left (IsUpTo slots_most (cap asked x)) (number_read side at x r) → Yields slots_most caps left (IsUpTo slots_most most) (number_read side at x r)
      lowered asked x left r low h = record { value = up_more slots_most _ most _ (cap_low asked x low) h.value; reader = h.reader }

      -- two numbers, or two names
      abbrev AreCompared : Term → Term → Type 0
      AreCompared a b = (FitsSort scope a OfInt × FitsSort scope b OfInt) ⊎ (FitsSort scope a OfName × FitsSort scope b OfName)

      mutual
        pub number_read_up : (x : Term) (asked : Sort) → IsChosen asked → FitsSort scope x asked → HasConstantsAtMost NUMBER_LIMIT x → HasNames x → n * node_count x ≤ most
            → (left : ℕ) (r : Reader) → IsLight slots_most caps (cost * node_count x + left) r → Yields slots_most caps left (IsUpTo slots_most (cap asked x)) (number_read side at x r)
        number_read_up (constant v) asked c fits few named low left r h =
            record { value = up_more slots_most (sort_cap n asked) (sort_cap (n * 1) asked) _ (sort_more n (n * 1) asked (omega arith)) (constant_up slots_most n NUMBER_LIMIT asked v limit c fits few named); reader = spend slots_most caps left r h (none_read (cost * 1) left) }
        number_read_up (field f) asked c fits few named low left r h =
            let x = number_kept_up (Field f) None left r (spend slots_most caps (cost + left) r h (one_read cost left)) in record { value = up_more slots_most _ _ _ (field_cap f asked fits) x.value; reader = x.reader }
        number_read_up (entry f j) asked c fits few named low left r h =
            let x = number_kept_up (Field f) (Some (given at j)) left r (spend slots_most caps (cost + left) r h (one_read cost left)) in record { value = up_more slots_most _ _ _ (entry_cap f j asked fits) x.value; reader = x.reader }
        number_read_up (parameter j) asked c fits few named low left r h =
            let x = name_up slots_most caps (Key (given at j)) left r (spend slots_most caps (1 + left) r h (one_named cost left paid)) in
            record { value = up_more slots_most 1 _ _ (sort_some (n * 1) asked (omega (arith, some))) x.value; reader = x.reader }
        number_read_up (sum a b) OfInt c fits few named low left r h =
            let x = number_read_up a OfInt tt fits.0 few.0 named.0 (first_part n (node_count a) (node_count b) low) (cost * node_count b + left) r (spend slots_most caps (cost * node_count a + (cost * node_count b + left)) r h (two_costs cost (node_count a) (node_count b) left)) in
            let y = number_read_up b OfInt tt fits.1 few.1 named.1 (second_part n (node_count a) (node_count b) low) left (number_read side at a r).1 x.reader in
            record { value = up_more slots_most _ _ _ (sum_within n (node_count a) (node_count b)) (plus_up slots_most _ _ _ _ x.value y.value); reader = y.reader }
        number_read_up (sum a b) OfNat c fits few named low left r h =
            let x = number_read_up a OfNat tt fits.0 few.0 named.0 (first_part n (node_count a) (node_count b) low) (cost * node_count b + left) r (spend slots_most caps (cost * node_count a + (cost * node_count b + left)) r h (two_costs cost (node_count a) (node_count b) left)) in
            let y = number_read_up b OfNat tt fits.1 few.1 named.1 (second_part n (node_count a) (node_count b) low) left (number_read side at a r).1 x.reader in
            record { value = up_more slots_most _ _ _ (sum_within n (node_count a) (node_count b)) (plus_up slots_most _ _ _ _ x.value y.value); reader = y.reader }
        number_read_up (difference a b) OfInt c fits few named low left r h =
            let x = number_read_up a OfInt tt fits.0 few.0 named.0 (first_part n (node_count a) (node_count b) low) (cost * node_count b + left) r (spend slots_most caps (cost * node_count a + (cost * node_count b + left)) r h (two_costs cost (node_count a) (node_count b) left)) in
            let y = number_read_up b OfInt tt fits.1 few.1 named.1 (second_part n (node_count a) (node_count b) low) left (number_read side at a r).1 x.reader in
            record { value = up_more slots_most _ _ _ (sum_within n (node_count a) (node_count b)) (minus_up slots_most _ _ _ _ x.value y.value); reader = y.reader }
        number_read_up (greater a b) asked c fits few named low left r h =
            let p = first_part n (node_count a) (node_count b) low in
            let q = second_part n (node_count a) (node_count b) low in
            let x = number_read_up a asked c fits.1 few.0 named.0 p (cost * node_count b + (1 + left)) r (spend slots_most caps (cost * node_count a + (cost * node_count b + (1 + left))) r h (two_and_choice cost (node_count a) (node_count b) left paid)) in
            let y = number_read_up b asked c fits.2 few.1 named.1 q (1 + left) (number_read side at a r).1 x.reader in
            let less_light = lt_light slots_most _ _ (up_more slots_most _ most _ (cap_low asked a p) x.value) (up_more slots_most _ most _ (cap_low asked b q) y.value) in
            choose_up slots_most caps (cap asked (greater a b)) _ _ _ left _ (sort_some _ asked (two_nodes n (node_count a) (node_count b) some)) (cap_low asked (greater a b) low) less_light
            (up_more slots_most _ _ _ (sort_more _ _ asked (second_within n (node_count a) (node_count b))) y.value) (up_more slots_most _ _ _ (sort_more _ _ asked (first_within n (node_count a) (node_count b))) x.value) y.reader
        number_read_up (lesser a b) asked c fits few named low left r h =
            let p = first_part n (node_count a) (node_count b) low in
            let q = second_part n (node_count a) (node_count b) low in
            let x = number_read_up a asked c fits.1 few.0 named.0 p (cost * node_count b + (1 + left)) r (spend slots_most caps (cost * node_count a + (cost * node_count b + (1 + left))) r h (two_and_choice cost (node_count a) (node_count b) left paid)) in
            let y = number_read_up b asked c fits.2 few.1 named.1 q (1 + left) (number_read side at a r).1 x.reader in
            let less_light = lt_light slots_most _ _ (up_more slots_most _ most _ (cap_low asked a p) x.value) (up_more slots_most _ most _ (cap_low asked b q) y.value) in
            choose_up slots_most caps (cap asked (lesser a b)) _ _ _ left _ (sort_some _ asked (two_nodes n (node_count a) (node_count b) some)) (cap_low asked (lesser a b) low) less_light
            (up_more slots_most _ _ _ (sort_more _ _ asked (first_within n (node_count a) (node_count b))) x.value) (up_more slots_most _ _ _ (sort_more _ _ asked (second_within n (node_count a) (node_count b))) y.value) y.reader
        number_read_up (choice d a b) asked c fits few named low left r h =
            let z = truth_read_up d fits.1 few.0 named.0 (first_of n (node_count d) (node_count a) (node_count b) low) (cost * node_count a + (cost * node_count b + (1 + left))) r
            (spend slots_most caps (cost * node_count d + (cost * node_count a + (cost * node_count b + (1 + left)))) r h (three_and_choice cost (node_count d) (node_count a) (node_count b) left paid)) in
            let x = number_read_up a asked c fits.2 few.1 named.1 (second_of n (node_count d) (node_count a) (node_count b) low) (cost * node_count b + (1 + left)) (truth_read side at d r).1 z.reader in
            let y = number_read_up b asked c fits.3 few.2 named.2 (third_of n (node_count d) (node_count a) (node_count b) low) (1 + left) (number_read side at a (truth_read side at d r).1).1 x.reader in
            choose_up slots_most caps (cap asked (choice d a b)) _ _ _ left _ (sort_some _ asked (three_nodes n (node_count d) (node_count a) (node_count b) some)) (cap_low asked (choice d a b) low) z.value
            (up_more slots_most _ _ _ (sort_more _ _ asked (middle_within n (node_count d) (node_count a) (node_count b))) x.value) (up_more slots_most _ _ _ (sort_more _ _ asked (last_within n (node_count d) (node_count a) (node_count b))) y.value) y.reader
        number_read_up (negation _) OfBool c fits few named low left r h = absurd c
        number_read_up (both _ _) OfBool c fits few named low left r h = absurd c
        number_read_up (either _ _) OfBool c fits few named low left r h = absurd c
        number_read_up (less _ _) OfBool c fits few named low left r h = absurd c
        number_read_up (at_most _ _) OfBool c fits few named low left r h = absurd c
        number_read_up (same _ _) OfBool c fits few named low left r h = absurd c
        number_read_up (negation _) _ c fits few named low left r h = absurd fits
        number_read_up (both _ _) _ c fits few named low left r h = absurd fits
        number_read_up (either _ _) _ c fits few named low left r h = absurd fits
        number_read_up (less _ _) _ c fits few named low left r h = absurd fits
        number_read_up (at_most _ _) _ c fits few named low left r h = absurd fits
        number_read_up (same _ _) _ c fits few named low left r h = absurd fits
        number_read_up (sum _ _) _ c fits few named low left r h = absurd fits
        number_read_up (difference _ _) _ c fits few named low left r h = absurd fits

        pub truth_read_up : (x : Term) → FitsSort scope x OfBool → HasConstantsAtMost NUMBER_LIMIT x → HasNames x → n * node_count x ≤ most → (left : ℕ) (r : Reader) → IsLight slots_most caps (cost * node_count x + left) r → Yields slots_most caps left (IsLightFact slots_most) (truth_read side at x r)
        truth_read_up (constant v) fits few named low left r h = record { value = constant_light slots_most v; reader = spend slots_most caps left r h (none_read (cost * 1) left) }
        truth_read_up (field f) fits few named low left r h = truth_kept_up (Field f) None left r (spend slots_most caps (cost + left) r h (one_read cost left))
        truth_read_up (entry f j) fits few named low left r h = truth_kept_up (Field f) (Some (given at j)) left r (spend slots_most caps (cost + left) r h (one_read cost left))
        truth_read_up (parameter j) fits few named low left r h = flag_up slots_most caps (Key (given at j)) left r (spend slots_most caps left r h (none_read (cost * 1) left))
        truth_read_up (negation a) fits few named low left r h =
            let x = truth_read_up a fits few named (one_part n (node_count a) low) left r (spend slots_most caps (cost * node_count a + left) r h (one_cost cost (node_count a) left)) in record { value = denied_light slots_most _ x.value; reader = x.reader }
        truth_read_up (both a b) fits few named low left r h =
            let x = truth_read_up a fits.0 few.0 named.0 (first_part n (node_count a) (node_count b) low) (cost * node_count b + left) r (spend slots_most caps (cost * node_count a + (cost * node_count b + left)) r h (two_costs cost (node_count a) (node_count b) left)) in
            let y = truth_read_up b fits.1 few.1 named.1 (second_part n (node_count a) (node_count b) low) left (truth_read side at a r).1 x.reader in
            record { value = and_light slots_most _ _ x.value y.value; reader = y.reader }
        truth_read_up (either a b) fits few named low left r h =
            let x = truth_read_up a fits.0 few.0 named.0 (first_part n (node_count a) (node_count b) low) (cost * node_count b + left) r (spend slots_most caps (cost * node_count a + (cost * node_count b + left)) r h (two_costs cost (node_count a) (node_count b) left)) in
            let y = truth_read_up b fits.1 few.1 named.1 (second_part n (node_count a) (node_count b) low) left (truth_read side at a r).1 x.reader in
            record { value = or_light slots_most _ _ x.value y.value; reader = y.reader }
        truth_read_up (less a b) fits few named low left r h =
            let p = first_part n (node_count a) (node_count b) low in
            let q = second_part n (node_count a) (node_count b) low in
            let rest = cost * node_count b + left in
            let k = spend slots_most caps (cost * node_count a + rest) r h (two_costs cost (node_count a) (node_count b) left) in
            let x : Yields slots_most caps rest (IsUpTo slots_most most) (number_read side at a r) =
            ⊎_elim (λ (f : FitsSort scope a OfInt × FitsSort scope b OfInt). lowered OfInt a rest r p (number_read_up a OfInt tt f.0 few.0 named.0 p rest r k))
            (λ (f : FitsSort scope a OfName × FitsSort scope b OfName). lowered OfName a rest r p (number_read_up a OfName tt f.0 few.0 named.0 p rest r k)) fits in
            let s = (number_read side at a r).1 in
            let y : Yields slots_most caps left (IsUpTo slots_most most) (number_read side at b s) =
            ⊎_elim (λ (f : FitsSort scope a OfInt × FitsSort scope b OfInt). lowered OfInt b left s q (number_read_up b OfInt tt f.1 few.1 named.1 q left s x.reader))
            (λ (f : FitsSort scope a OfName × FitsSort scope b OfName). lowered OfName b left s q (number_read_up b OfName tt f.1 few.1 named.1 q left s x.reader)) fits in
            record { value = lt_light slots_most _ _ x.value y.value; reader = y.reader }
        truth_read_up (at_most a b) fits few named low left r h =
            let p = first_part n (node_count a) (node_count b) low in
            let q = second_part n (node_count a) (node_count b) low in
            let rest = cost * node_count b + left in
            let k = spend slots_most caps (cost * node_count a + rest) r h (two_costs cost (node_count a) (node_count b) left) in
            let x : Yields slots_most caps rest (IsUpTo slots_most most) (number_read side at a r) =
            ⊎_elim (λ (f : FitsSort scope a OfInt × FitsSort scope b OfInt). lowered OfInt a rest r p (number_read_up a OfInt tt f.0 few.0 named.0 p rest r k))
            (λ (f : FitsSort scope a OfName × FitsSort scope b OfName). lowered OfName a rest r p (number_read_up a OfName tt f.0 few.0 named.0 p rest r k)) fits in
            let s = (number_read side at a r).1 in
            let y : Yields slots_most caps left (IsUpTo slots_most most) (number_read side at b s) =
            ⊎_elim (λ (f : FitsSort scope a OfInt × FitsSort scope b OfInt). lowered OfInt b left s q (number_read_up b OfInt tt f.1 few.1 named.1 q left s x.reader))
            (λ (f : FitsSort scope a OfName × FitsSort scope b OfName). lowered OfName b left s q (number_read_up b OfName tt f.1 few.1 named.1 q left s x.reader)) fits in
            record { value = le_light slots_most _ _ x.value y.value; reader = y.reader }
        truth_read_up (same a b) fits few named low left r h =
            let p = first_part n (node_count a) (node_count b) low in
            let q = second_part n (node_count a) (node_count b) low in
            let rest = cost * node_count b + left in
            let k = spend slots_most caps (cost * node_count a + rest) r h (two_costs cost (node_count a) (node_count b) left) in
            let x : Yields slots_most caps rest (IsUpTo slots_most most) (number_read side at a r) =
            ⊎_elim (λ (f : FitsSort scope a OfInt × FitsSort scope b OfInt). lowered OfInt a rest r p (number_read_up a OfInt tt f.0 few.0 named.0 p rest r k))
            (λ (f : FitsSort scope a OfName × FitsSort scope b OfName). lowered OfName a rest r p (number_read_up a OfName tt f.0 few.0 named.0 p rest r k)) fits in
            let s = (number_read side at a r).1 in
            let y : Yields slots_most caps left (IsUpTo slots_most most) (number_read side at b s) =
            ⊎_elim (λ (f : FitsSort scope a OfInt × FitsSort scope b OfInt). lowered OfInt b left s q (number_read_up b OfInt tt f.1 few.1 named.1 q left s x.reader))
            (λ (f : FitsSort scope a OfName × FitsSort scope b OfName). lowered OfName b left s q (number_read_up b OfName tt f.1 few.1 named.1 q left s x.reader)) fits in
            record { value = same_light slots_most _ _ x.value y.value; reader = y.reader }
        truth_read_up (sum a b) fits few named low left r h = record { value = known_light slots_most false; reader = spend slots_most caps left r h (none_read (cost * (1 + node_count a + node_count b)) left) }
        truth_read_up (difference a b) fits few named low left r h = record { value = known_light slots_most false; reader = spend slots_most caps left r h (none_read (cost * (1 + node_count a + node_count b)) left) }
        truth_read_up (greater a b) fits few named low left r h = record { value = known_light slots_most false; reader = spend slots_most caps left r h (none_read (cost * (1 + node_count a + node_count b)) left) }
        truth_read_up (lesser a b) fits few named low left r h = record { value = known_light slots_most false; reader = spend slots_most caps left r h (none_read (cost * (1 + node_count a + node_count b)) left) }
        truth_read_up (choice c a b) fits few named low left r h = record { value = known_light slots_most false; reader = spend slots_most caps left r h (none_read (cost * (1 + node_count c + node_count a + node_count b)) left) }
