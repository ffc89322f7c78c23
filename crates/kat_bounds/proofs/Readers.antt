-- What light readers read: their facts are light, and what was read once is at most what its name allows.
use Rattle.std.proofs.Common.{◌≡◌, ℕ, suc, ◌+◌, ◌<◌, ◌≤◌, pos, Bool, true, false, nat_eq, List, [], ◌∷◌, length, length-append, refl, sym, subst, arith, Option, None, Some}
use Rattle.std.specs.Prelude.{◌&&◌, if◌then◌else◌, option_map}
use Rattle.std.proofs.lemmas.Bool.{and_parts, eqb-true}
use Rattle.kat_linear.specs.Rows.{Form}
use Rattle.kat_form.specs.Facts.{Fact}
use Rattle.kat_form.specs.Readings.{folded_value}
use Rattle.kat_symbols.specs.Connectives.{denied, or_of, and_of, fact_same, truth_if}
use Rattle.kat_symbols.specs.Readers.{Reader, Symbol, code_of, same_code, same_name, is_slot_of, place_of, place_in, with_slot, state, fresh, number_at, read_name, flag_at, read_flag, chosen, choose_by, choose, found, kept_by, read_once}
use Rattle.kat_symbols.specs.Readers.Symbol.{number, truth}
use Rattle.kat_symbols.specs.Sums.{numeral, variable}
use Rattle.kat_symbols.specs.Symbols.{number_in, truth_in, read_variable, symbol_lt, symbol_same, symbols_lt, turned, symbol_if, as_number}
use Rattle.kat_symbols.specs.declared.names.Name.{Name}
use Rattle.kat_symbols.specs.declared.names.Slot.{Slot}
use Rattle.kat_symbols.specs.declared.names.Slot.TheVariants.{Named, Chosen}
use Rattle.kat_bounds.proofs.Weights.{IsUpTo, up_more, natural_up, variable_up}
use Rattle.kat_bounds.proofs.Facts.{most, most_above, Every, every_last, IsLightFact, known_light, flag_light, denied_light, or_light, and_light, lt_light, same_light, truth_lt_light, truth_same_light, truth_if_light}

-- a reader may have this many slots
module _ (slots_most : ℕ) where
  -- a number of at most this weight, or a light truth value
  abbrev SymbolUp : ℕ → Symbol → Type 0
  SymbolUp n (number form) = IsUpTo slots_most n form
  SymbolUp n (truth fact) = IsLightFact slots_most fact

  pub record IsSymbolUpTo (n : ℕ) (s : Symbol) : Type 0 where
    pub up : SymbolUp n s

  pub number_symbol : (n : ℕ) (form : Form) → IsUpTo slots_most n form → IsSymbolUpTo n (number form)
  number_symbol n form h = record { up = h }

  pub truth_symbol : (n : ℕ) (fact : Fact) → IsLightFact slots_most fact → IsSymbolUpTo n (truth fact)
  truth_symbol n fact h = record { up = h }

  pub symbol_more : (m n : ℕ) (s : Symbol) → m ≤ n → IsSymbolUpTo m s → IsSymbolUpTo n s
  symbol_more m n (number form) le h = record { up = up_more slots_most m n form le h.up }
  symbol_more m n (truth fact) le h = record { up = h.up }

  pub number_in_up : (n : ℕ) (s : Symbol) → IsSymbolUpTo n s → IsUpTo slots_most n (number_in s)
  number_in_up n (number form) h = h.up
  number_in_up n (truth fact) h = natural_up slots_most n 0 (omega arith)

  pub truth_in_light : (n : ℕ) (s : Symbol) → IsSymbolUpTo n s → IsLightFact slots_most (truth_in s)
  truth_in_light n (number form) h = known_light slots_most false
  truth_in_light n (truth fact) h = h.up

  pub symbol_lt_light : (s t : Symbol) → IsSymbolUpTo most s → IsSymbolUpTo most t → IsLightFact slots_most (symbol_lt s t)
  symbol_lt_light (number a) (number b) h k = lt_light slots_most a b h.up k.up
  symbol_lt_light (number a) (truth g) h k = known_light slots_most false
  symbol_lt_light (truth f) (number b) h k = known_light slots_most false
  symbol_lt_light (truth f) (truth g) h k = truth_lt_light slots_most f g h.up k.up

  pub symbol_same_light : (s t : Symbol) → IsSymbolUpTo most s → IsSymbolUpTo most t → IsLightFact slots_most (symbol_same s t)
  symbol_same_light (number a) (number b) h k = same_light slots_most a b h.up k.up
  symbol_same_light (number a) (truth g) h k = known_light slots_most false
  symbol_same_light (truth f) (number b) h k = known_light slots_most false
  symbol_same_light (truth f) (truth g) h k = truth_same_light slots_most f g h.up k.up

  -- pairs of values
  pub record ArePairsUp (ps : List (Symbol × Symbol)) : Type 0 where
    pub each : Every (λ (p : Symbol × Symbol). IsSymbolUpTo most p.0 × IsSymbolUpTo most p.1) ps

  pub no_pairs : ArePairsUp []
  no_pairs = record { each = tt }

  pub pair_more : (s t : Symbol) (ps : List (Symbol × Symbol)) → IsSymbolUpTo most s → IsSymbolUpTo most t → ArePairsUp ps → ArePairsUp ((s, t) ∷ ps)
  pair_more s t ps h k rest = record { each = ((h, k), rest.each) }

  symbols_lt_each : (ps : List (Symbol × Symbol)) → Every (λ (p : Symbol × Symbol). IsSymbolUpTo most p.0 × IsSymbolUpTo most p.1) ps → IsLightFact slots_most (symbols_lt ps)
  symbols_lt_each [] h = known_light slots_most false
  symbols_lt_each (p ∷ ps) h =
      or_light slots_most (symbol_lt p.0 p.1) (and_of (symbol_same p.0 p.1) (symbols_lt ps)) (symbol_lt_light p.0 p.1 h.0.0 h.0.1)
      (and_light slots_most (symbol_same p.0 p.1) (symbols_lt ps) (symbol_same_light p.0 p.1 h.0.0 h.0.1) (symbols_lt_each ps h.1))

  pub symbols_lt_light : (ps : List (Symbol × Symbol)) → ArePairsUp ps → IsLightFact slots_most (symbols_lt ps)
  symbols_lt_light ps h = symbols_lt_each ps h.each

  turned_each : (ps : List (Symbol × Symbol)) → Every (λ (p : Symbol × Symbol). IsSymbolUpTo most p.0 × IsSymbolUpTo most p.1) ps
      → Every (λ (p : Symbol × Symbol). IsSymbolUpTo most p.0 × IsSymbolUpTo most p.1) (turned ps)
  turned_each [] h = tt
  turned_each (p ∷ ps) h = ((h.0.1, h.0.0), turned_each ps h.1)

  pub turned_up : (ps : List (Symbol × Symbol)) → ArePairsUp ps → ArePairsUp (turned ps)
  turned_up ps h = record { each = turned_each ps h.each }

  -- equal names have one code
  codes_same : (a b : ℕ × ℕ × ℕ × ℕ) → same_code a b ≡ true → a ≡ b
  codes_same (k, a, b, i) (l, c, d, j) e =
      let outer = and_parts (nat_eq k l && nat_eq a c && nat_eq b d) (nat_eq i j) e in
      let middle = and_parts (nat_eq k l && nat_eq a c) (nat_eq b d) outer.0 in
      let inner = and_parts (nat_eq k l) (nat_eq a c) middle.0 in
      let p : k ≡ l = eqb-true k l inner.0 in
      let q : a ≡ c = eqb-true a c inner.1 in
      let s : b ≡ d = eqb-true b d middle.1 in
      let r : i ≡ j = eqb-true i j outer.1 in
      cc

  -- a name's place is one of the slots
  place_within : (n : Name) (slots : List Slot) (v : ℕ) → place_of n slots ≡ Some v → v < length slots
  place_within n [] v e = absurd (cc)
  place_within n (s ∷ ss) v e = by_test (is_slot_of n s) (place_of n ss) e (λ j. place_within n ss j)
    where
      by_test : (b : Bool) (o : Option ℕ) → (if b then Some 0 else option_map suc o) ≡ Some v → ((j : ℕ) → o ≡ Some j → j < length ss) → v < length (s ∷ ss)
      by_test true o e rest = let zero_place : 0 ≡ v = cc in omega (arith, zero_place)
      by_test false None e rest = absurd (cc)
      by_test false (Some j) e rest = let next : suc j ≡ v = cc in omega (arith, next, rest j refl)

  -- what each name allows, by its code
  module _ (caps : ℕ × ℕ × ℕ × ℕ → ℕ) where
    abbrev IsKeptUp : Name × Symbol → Type 0
    IsKeptUp k = IsSymbolUpTo (caps (code_of k.0)) k.1

    -- a light reader, which may have this many slots more
    pub record IsLight (left : ℕ) (r : Reader) : Type 0 where
      pub facts : Every (IsLightFact slots_most) r.facts
      pub kept : Every IsKeptUp r.kept
      pub room : length r.slots + left ≤ slots_most

    pub record Yields {A : Type 0} (left : ℕ) (P : A → Type 0) (x : A × Reader) : Type 0 where
      pub value : P x.0
      pub reader : IsLight left x.1

    pub fresh_light : IsLight slots_most fresh
    fresh_light = record { facts = tt; kept = tt; room = omega arith }

    pub spend : {m : ℕ} (n : ℕ) (r : Reader) → IsLight m r → n ≤ m → IsLight n r
    spend n r h le = record { facts = h.facts; kept = h.kept; room = omega (arith, h.room, le) }

    slot_light : (s : Slot) (left : ℕ) (r : Reader) → IsLight (1 + left) r → IsLight left (with_slot s r)
    slot_light s left r h = record { facts = h.facts; kept = h.kept; room = omega (arith, h.room, length-append r.slots (s ∷ []), one_long) }
      where
        one_long : length (s ∷ []) ≡ 1
        one_long = refl

    first_free : (left : ℕ) (r : Reader) → IsLight (1 + left) r → length r.slots < slots_most
    first_free left r h = omega (arith, h.room)

    pub state_light : (f : Fact) (left : ℕ) (r : Reader) → IsLightFact slots_most f → IsLight left r → IsLight left (state f r)
    state_light f left r k h = record { facts = every_last (IsLightFact slots_most) r.facts f h.facts k; kept = h.kept; room = h.room }

    pub name_up : (n : Name) (left : ℕ) (r : Reader) → IsLight (1 + left) r → Yields left (IsUpTo slots_most 1) (read_name n r)
    name_up n left r h = by_place (place_of n r.slots) refl
      where
        by_place : (o : Option ℕ) → place_of n r.slots ≡ o → Yields left (IsUpTo slots_most 1) (number_at o n r)
        by_place (Some v) e = record { value = variable_up slots_most 1 v (omega arith) (omega (arith, h.room, place_within n r.slots v e)); reader = spend left r h (omega arith) }
        by_place None e = record { value = variable_up slots_most 1 (length r.slots) (omega arith) (first_free left r h); reader = slot_light (Named n) left r h }

    pub flag_up : (n : Name) (left : ℕ) (r : Reader) → IsLight left r → Yields left (IsLightFact slots_most) (read_flag n r)
    flag_up n left r h = by_place (place_in n r.flags)
      where
        by_place : (o : Option ℕ) → Yields left (IsLightFact slots_most) (flag_at o n r)
        by_place (Some v) = record { value = flag_light slots_most v true; reader = h }
        by_place None = record { value = flag_light slots_most (length r.flags) true; reader = record { facts = h.facts; kept = h.kept; room = h.room } }

    pub variable_symbol : (is_truth : Bool) (n : Name) (left : ℕ) (r : Reader) → IsLight (1 + left) r → Yields left (IsSymbolUpTo 1) (read_variable is_truth n r)
    variable_symbol true n left r h = let x = flag_up n left r (spend left r h (omega arith)) in record { value = truth_symbol 1 (read_flag n r).0 x.value; reader = x.reader }
    variable_symbol false n left r h = let x = name_up n left r h in record { value = number_symbol 1 (read_name n r).0 x.value; reader = x.reader }

    chosen_up : (n : ℕ) (c : Fact) (a b : Form) (left : ℕ) (r : Reader) → 1 ≤ n → n ≤ most → IsLightFact slots_most c → IsUpTo slots_most n a → IsUpTo slots_most n b → IsLight (1 + left) r → Yields left (IsUpTo slots_most n) (chosen c a b r)
    chosen_up n c a b left r some few o p q h =
        let v : Form = variable (length r.slots) in
        let one : IsUpTo slots_most most v = variable_up slots_most most (length r.slots) most_above (first_free left r h) in
        let true_side : IsLightFact slots_most (or_of (denied c) (fact_same v a)) = or_light slots_most (denied c) (fact_same v a) (denied_light slots_most c o) (same_light slots_most v a one (up_more slots_most n most a few p)) in
        let false_side : IsLightFact slots_most (or_of c (fact_same v b)) = or_light slots_most c (fact_same v b) o (same_light slots_most v b one (up_more slots_most n most b few q)) in
        record {
          value = variable_up slots_most n (length r.slots) some (first_free left r h);
          reader = state_light (or_of c (fact_same v b)) left (state (or_of (denied c) (fact_same v a)) (with_slot Chosen r)) false_side
              (state_light (or_of (denied c) (fact_same v a)) left (with_slot Chosen r) true_side (slot_light Chosen left r h));
        }

    pub choose_up : (n : ℕ) (c : Fact) (a b : Form) (left : ℕ) (r : Reader) → 1 ≤ n → n ≤ most → IsLightFact slots_most c → IsUpTo slots_most n a → IsUpTo slots_most n b → IsLight (1 + left) r → Yields left (IsUpTo slots_most n) (choose c a b r)
    choose_up n c a b left r some few o p q h = by_value (folded_value c)
      where
        by_value : (t : Option Bool) → Yields left (IsUpTo slots_most n) (choose_by t c a b r)
        by_value (Some true) = record { value = p; reader = spend left r h (omega arith) }
        by_value (Some false) = record { value = q; reader = spend left r h (omega arith) }
        by_value None = chosen_up n c a b left r some few o p q h

    pub if_up : (n : ℕ) (c : Fact) (s t : Symbol) (left : ℕ) (r : Reader) → 1 ≤ n → n ≤ most → IsLightFact slots_most c → IsSymbolUpTo n s → IsSymbolUpTo n t → IsLight (1 + left) r
        → Yields left (IsSymbolUpTo n) (symbol_if c s t r)
    if_up n c (number a) (number b) left r some few o p q h = let x = choose_up n c a b left r some few o p.up q.up h in record { value = number_symbol n (choose c a b r).0 x.value; reader = x.reader }
    if_up n c (number a) (truth g) left r some few o p q h = record { value = truth_symbol n _ (known_light slots_most false); reader = spend left r h (omega arith) }
    if_up n c (truth f) (number b) left r some few o p q h = record { value = truth_symbol n _ (known_light slots_most false); reader = spend left r h (omega arith) }
    if_up n c (truth f) (truth g) left r some few o p q h = record { value = truth_symbol n (truth_if c f g) (truth_if_light slots_most c f g o p.up q.up); reader = spend left r h (omega arith) }

    pub as_number_up : (n : ℕ) (s : Symbol) (left : ℕ) (r : Reader) → 1 ≤ n → n ≤ most → IsSymbolUpTo n s → IsLight (1 + left) r → Yields left (IsUpTo slots_most n) (as_number s r)
    as_number_up n (number a) left r some few p h = record { value = p.up; reader = spend left r h (omega arith) }
    as_number_up n (truth f) left r some few p h =
        choose_up n f (numeral (pos 1)) (numeral (pos 0)) left r some few p.up (natural_up slots_most n 1 some) (natural_up slots_most n 0 (omega arith)) h

    -- what is read once
    abbrev IsFoundUp : ℕ → Option Symbol → Type 0
    IsFoundUp n None = Unit {0}
    IsFoundUp n (Some s) = IsSymbolUpTo n s

    found_up : (n : Name) (ks : List (Name × Symbol)) → Every IsKeptUp ks → IsFoundUp (caps (code_of n)) (found n ks)
    found_up n [] h = tt
    found_up n (k ∷ ks) h = by_test (same_name n k.0) refl (found_up n ks h.1)
      where
        by_test : (b : Bool) → same_name n k.0 ≡ b → IsFoundUp (caps (code_of n)) (found n ks) → IsFoundUp (caps (code_of n)) (if b then Some k.1 else found n ks)
        by_test true e rest = subst (λ code. IsSymbolUpTo (caps code) k.1) (sym (codes_same (code_of n) (code_of k.0) e)) h.0
        by_test false e rest = rest

    pub once_up : {m : ℕ} (n : Name) (read : Reader → Symbol × Reader) (left : ℕ) (r : Reader) → IsLight m r → left ≤ m → Yields left (IsSymbolUpTo (caps (code_of n))) (read r)
        → Yields left (IsSymbolUpTo (caps (code_of n))) (read_once n read r)
    once_up n read left r h le x = by_found (found n r.kept) (found_up n r.kept h.kept)
      where
        by_found : (o : Option Symbol) → IsFoundUp (caps (code_of n)) o → Yields left (IsSymbolUpTo (caps (code_of n))) (kept_by o n read r)
        by_found (Some s) k = record { value = k; reader = spend left r h le }
        by_found None k = record {
          value = x.value;
          reader = record { facts = x.reader.facts; kept = every_last IsKeptUp (read r).1.kept (n, (read r).0) x.reader.kept x.value; room = x.reader.room };
        }
