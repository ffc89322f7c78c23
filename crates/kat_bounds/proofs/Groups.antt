-- The groups of a condition's facts keep a reader light.
use Rattle.std.proofs.Common.{ℕ, suc, ◌≤◌, List, [], ◌∷◌, arith, Option, Some, ◌+◌, ◌*◌, length}
use Rattle.kat_num.specs.declared.values.Sort.{Sort}
use Rattle.kat_num.specs.declared.values.Sort.TheVariants as sort
use Rattle.kat_form.specs.Facts.{Fact, listed}
use Rattle.kat_form.specs.Facts.Fact.{all_of}
use Rattle.kat_design.specs.Designs.{DesignForm}
use Rattle.kat_relation.specs.Keys.{conjunct_key}
use Rattle.kat_relation.specs.declared.relations.Conjunct.{Conjunct}
use Rattle.kat_type.specs.Types.{OperationForm, TypeForm}
use Rattle.kat_type.specs.declared.types.Rank.{Rank}
use Rattle.kat_type.specs.declared.types.Rank.TheVariants as rank
use Rattle.kat_claims.specs.Claims.{claim_read}
use Rattle.kat_claims.specs.Groups.{stated, in_front, same_read, same_each, start_read, at_least, naturals_stated, equal_read, digit_read, elements_match, rank_match, ranks_match, last_read, ranks_read, order_read, apart_read, stamp_stated, order_stated, same_at, same_at_both, same_keys_read, with_each, each_two, sort_stated, keys_stated, claim_each, conjunct_stated, relation_stated, denied_claim}
use Rattle.kat_claims.specs.Places.{instances_of, looked_at, places_by}
use Rattle.kat_symbols.specs.Connectives.{denied}
use Rattle.kat_symbols.specs.Readers.{Reader, Symbol, read_flag, read_name}
use Rattle.kat_symbols.specs.Sides.{Side}
use Rattle.kat_symbols.specs.declared.names.Instance.{Instance}
use Rattle.kat_symbols.specs.declared.names.Name.{Name}
use Rattle.kat_symbols.specs.declared.names.Name.TheVariants.{Begun, Element, Key, LastReplica, LastTime, Replica, Time}
use Rattle.kat_symbols.specs.declared.names.Place.{Place}
use Rattle.kat_claims.specs.declared.spots.Spot.{Spot}
use Rattle.kat_bounds.proofs.Weights.{IsUpTo, up_more, natural_up}
use Rattle.kat_bounds.proofs.Facts.{most, most_above, nine_low, Every, IsLightFact, AreLightFacts, all_light, any_light, more_light, none_light, denied_light, or_light, and_light, le_light, same_light}
use Rattle.kat_bounds.proofs.Readers.{ArePairsUp, IsLight, IsSymbolUpTo, Yields, spend, flag_up, name_up, no_pairs, number_symbol, pair_more, state_light, symbol_same_light, symbols_lt_light}
use Rattle.kat_bounds.proofs.Claims.{claim_cost}

-- a digit of a rank
abbrev pub IsDigit : Rank → Type 0
IsDigit (rank.Digit n) = n ≤ 9
IsDigit rank.Time = Unit {0}
IsDigit rank.Replica = Unit {0}
IsDigit (rank.Arg place) = Unit {0}

-- how many slots the groups take at most, if a value takes one
abbrev pub ranks_cost : List OperationForm → ℕ
ranks_cost [] = 0
ranks_cost (o ∷ ops) = 2 * length o.ranks + ranks_cost ops

abbrev pub with_cost : List Place → List Instance → ℕ
with_cost places [] = 0
with_cost places (j ∷ js) = (2 + 2 * length places) + with_cost places js

abbrev pub two_cost : List Place → List Instance → ℕ
two_cost places [] = 0
two_cost places (i ∷ keys) = with_cost places keys + two_cost places keys

abbrev pub sort_cost : List Spot → List (Sort × Instance) → Sort → ℕ
sort_cost spots keys s = two_cost (places_by (Some s) spots) (instances_of s keys)

abbrev pub keys_cost : List Spot → List (Sort × Instance) → ℕ
keys_cost spots keys = sort_cost spots keys sort.Int + (sort_cost spots keys sort.Nat + sort_cost spots keys sort.Name)

abbrev pub claims_cost : ℕ → List (Option Instance) → ℕ
claims_cost cost [] = 0
claims_cost cost (at ∷ ats) = cost + claims_cost cost ats

abbrev pub conjunct_cost : TypeForm → DesignForm → List (Sort × Instance) → Conjunct → ℕ
conjunct_cost ty design keys c = claims_cost (claim_cost 1 c) (looked_at (conjunct_key ty design.components c) keys)

abbrev pub relation_cost : TypeForm → DesignForm → List (Sort × Instance) → List Conjunct → ℕ
relation_cost ty design keys [] = 0
relation_cost ty design keys (c ∷ cs) = conjunct_cost ty design keys c + relation_cost ty design keys cs

abbrev pub order_cost : List Rank → ℕ
order_cost ranks = 2 + (2 * length ranks + 4)

-- a reader may have this many slots
module _ (slots_most : ℕ) where
  module _ (caps : ℕ × ℕ × ℕ × ℕ → ℕ) where
    -- what is read takes this many slots at most
    abbrev pub IsFactLight : ℕ → (Reader → Fact × Reader) → Type 0
    IsFactLight cost read = (left : ℕ) (r : Reader) → IsLight slots_most caps (cost + left) r → Yields slots_most caps left (IsLightFact slots_most) (read r)

    abbrev pub AreFactsLight : ℕ → (Reader → List Fact × Reader) → Type 0
    AreFactsLight cost read = (left : ℕ) (r : Reader) → IsLight slots_most caps (cost + left) r → Yields slots_most caps left (λ fs. AreLightFacts slots_most (listed fs)) (read r)

    abbrev pub IsValueUp : (Reader → Symbol × Reader) → Type 0
    IsValueUp read = (left : ℕ) (r : Reader) → IsLight slots_most caps (1 + left) r → Yields slots_most caps left (IsSymbolUpTo slots_most most) (read r)

    abbrev pub IsElementUp : Side → Type 0
    IsElementUp side = (j left : ℕ) (r : Reader) → IsLight slots_most caps (1 + left) r → Yields slots_most caps left (IsUpTo slots_most most) (side.element j r)

    abbrev pub KeepsLight : ℕ → (Reader → Reader) → Type 0
    KeepsLight cost go = (left : ℕ) (r : Reader) → IsLight slots_most caps (cost + left) r → IsLight slots_most caps left (go r)

    pub states : (cost : ℕ) (read : Reader → Fact × Reader) → IsFactLight cost read → KeepsLight cost (λ r. stated (read r))
    states cost read p left r h = let x = p left r h in state_light slots_most caps (read r).0 left (read r).1 x.value x.reader

    pub denies : (cost : ℕ) (read : Reader → Fact × Reader) → IsFactLight cost read → KeepsLight cost (λ r. denied_claim (read r))
    denies cost read p left r h = let x = p left r h in state_light slots_most caps (denied (read r).0) left (read r).1 (denied_light slots_most _ x.value) x.reader

    -- a fact in front of others
    front : (cost left : ℕ) (x : Fact × Reader) (rest : Reader → List Fact × Reader) → Yields slots_most caps (cost + left) (IsLightFact slots_most) x → AreFactsLight cost rest → Yields slots_most caps left (λ fs. AreLightFacts slots_most (listed fs)) (in_front x rest)
    front cost left x rest p q = let y = q left x.1 p.reader in record { value = more_light slots_most x.0 (listed (rest x.1).0) p.value y.value; reader = y.reader }

    one_name : (n : Name) (left : ℕ) (r : Reader) → IsLight slots_most caps (1 + left) r → Yields slots_most caps left (IsUpTo slots_most most) (read_name n r)
    one_name n left r h = let x = name_up slots_most caps n left r h in record { value = up_more slots_most 1 most _ most_above x.value; reader = x.reader }

    -- the start
    same_read_light : (one other : Side) (place : Place) (at : Option Instance) → IsValueUp (one.value place at) → IsValueUp (other.value place at) → IsFactLight 2 (same_read one other place at)
    same_read_light one other place at p q left r h =
        let x = p (1 + left) r (spend slots_most caps (1 + (1 + left)) r h (omega arith)) in
        let y = q left (one.value place at r).1 x.reader in
        record { value = symbol_same_light slots_most _ _ x.value y.value; reader = y.reader }

    same_each_light : (one other : Side) → ((place : Place) (at : Option Instance) → IsValueUp (one.value place at)) → ((place : Place) (at : Option Instance) → IsValueUp (other.value place at))
        → (seen : List (Place × Option Instance)) → AreFactsLight (2 * length seen) (same_each one other seen)
    same_each_light one other p q [] left r h = record { value = none_light slots_most; reader = spend slots_most caps left r h (omega arith) }
    same_each_light one other p q (s ∷ seen) left r h =
        front (2 * length seen) left _ (same_each one other seen)
        (same_read_light one other s.0 s.1 (p s.0 s.1) (q s.0 s.1) (2 * length seen + left) r (spend slots_most caps (2 + (2 * length seen + left)) r h (omega arith))) (same_each_light one other p q seen)

    pub start_read_light : (old start : Side) → IsFactLight 0 old.begun → ((place : Place) (at : Option Instance) → IsValueUp (old.value place at)) → ((place : Place) (at : Option Instance) → IsValueUp (start.value place at))
        → (seen : List (Place × Option Instance)) → IsFactLight (2 * length seen) (start_read old start seen)
    start_read_light old start b p q seen left r h =
        let begun = b (2 * length seen + left) r (spend slots_most caps (0 + (2 * length seen + left)) r h (omega arith)) in
        let parts = same_each_light old start p q seen left (old.begun r).1 begun.reader in
        record { value = or_light slots_most _ _ begun.value (all_light slots_most _ parts.value); reader = parts.reader }

    -- sorts, and the last operation
    at_least_light : (n : ℕ) (name : Name) → n ≤ 9 → IsFactLight 1 (at_least n name)
    at_least_light n name small left r h = let x = one_name name left r h in record { value = le_light slots_most _ _ (natural_up slots_most most n (omega (arith, small, nine_low))) x.value; reader = x.reader }

    pub naturals_light : (names : List Name) → KeepsLight (length names) (naturals_stated names)
    naturals_light [] left r h = spend slots_most caps left r h (omega arith)
    naturals_light (n ∷ ns) left r h =
        naturals_light ns left (stated (at_least 0 n r)) (states 1 (at_least 0 n) (at_least_light 0 n (omega arith)) (length ns + left) r (spend slots_most caps (1 + (length ns + left)) r h (omega arith)))

    equal_light : (n m : Name) → IsFactLight 2 (equal_read n m)
    equal_light n m left r h =
        let x = one_name n (1 + left) r (spend slots_most caps (1 + (1 + left)) r h (omega arith)) in
        let y = one_name m left (read_name n r).1 x.reader in
        record { value = same_light slots_most _ _ x.value y.value; reader = y.reader }

    digit_light : (j n : ℕ) → n ≤ 9 → IsFactLight 2 (digit_read j n)
    digit_light j n small left r h =
        let x = one_name (Element j) left r (spend slots_most caps (1 + left) r h (omega arith)) in
        record { value = same_light slots_most _ _ x.value (natural_up slots_most most n (omega (arith, small, nine_low))); reader = x.reader }

    elements_light : (j : ℕ) (ranks : List Rank) → Every IsDigit ranks → AreFactsLight (2 * length ranks) (elements_match j ranks)
    elements_light j [] d left r h = record { value = none_light slots_most; reader = spend slots_most caps left r h (omega arith) }
    elements_light j (rank.Digit n ∷ ranks) d left r h =
        front (2 * length ranks) left _ (elements_match (suc j) ranks) (digit_light j n d.0 (2 * length ranks + left) r (spend slots_most caps (2 + (2 * length ranks + left)) r h (omega arith))) (elements_light (suc j) ranks d.1)
    elements_light j (rank.Time ∷ ranks) d left r h =
        front (2 * length ranks) left _ (elements_match (suc j) ranks) (equal_light (Element j) LastTime (2 * length ranks + left) r (spend slots_most caps (2 + (2 * length ranks + left)) r h (omega arith))) (elements_light (suc j) ranks d.1)
    elements_light j (rank.Replica ∷ ranks) d left r h =
        front (2 * length ranks) left _ (elements_match (suc j) ranks) (equal_light (Element j) LastReplica (2 * length ranks + left) r (spend slots_most caps (2 + (2 * length ranks + left)) r h (omega arith))) (elements_light (suc j) ranks d.1)
    elements_light j (rank.Arg place ∷ ranks) d left r h = elements_light (suc j) ranks d.1 left r (spend slots_most caps (2 * length ranks + left) r h (omega arith))

    rank_light : (o : OperationForm) → Every IsDigit o.ranks → IsFactLight (2 * length o.ranks) (rank_match o)
    rank_light o d left r h = let x = elements_light 0 o.ranks d left r h in record { value = all_light slots_most _ x.value; reader = x.reader }

    ranks_light : (ops : List OperationForm) → Every (λ (o : OperationForm). Every IsDigit o.ranks) ops → AreFactsLight (ranks_cost ops) (ranks_match ops)
    ranks_light [] d left r h = record { value = none_light slots_most; reader = spend slots_most caps left r h (omega arith) }
    ranks_light (o ∷ ops) d left r h =
        front (ranks_cost ops) left _ (ranks_match ops) (rank_light o d.0 (ranks_cost ops + left) r (spend slots_most caps (2 * length o.ranks + (ranks_cost ops + left)) r h (omega arith))) (ranks_light ops d.1)

    three_light : (a b c : Fact) → IsLightFact slots_most a → IsLightFact slots_most b → IsLightFact slots_most c → IsLightFact slots_most (all_of (listed (a ∷ b ∷ c ∷ [])))
    three_light a b c p q s = all_light slots_most _ (more_light slots_most a _ p (more_light slots_most b _ q (more_light slots_most c _ s (none_light slots_most))))

    pub last_light : (ops : List OperationForm) → Every (λ (o : OperationForm). Every IsDigit o.ranks) ops → IsFactLight (2 + ranks_cost ops) (last_read ops)
    last_light ops d left r h =
        let rest = ranks_cost ops + left in
        let begun = flag_up slots_most caps Begun (1 + (1 + rest)) r (spend slots_most caps (1 + (1 + rest)) r h (omega arith)) in
        let time = at_least_light 1 LastTime (omega arith) (1 + rest) (read_flag Begun r).1 begun.reader in
        let replica = at_least_light 1 LastReplica (omega arith) rest (at_least 1 LastTime (read_flag Begun r).1).1 time.reader in
        let shapes = ranks_light ops d left (at_least 1 LastReplica (at_least 1 LastTime (read_flag Begun r).1).1).1 replica.reader in
        record { value = or_light slots_most _ _ (denied_light slots_most _ begun.value) (three_light _ _ _ time.value replica.value (any_light slots_most _ shapes.value)); reader = shapes.reader }

    -- the order
    ranks_read_up : (one other : Side) → IsElementUp one → IsElementUp other → (j : ℕ) (ranks : List Rank) (left : ℕ) (r : Reader) → IsLight slots_most caps (2 * length ranks + left) r → Yields slots_most caps left (ArePairsUp slots_most) (ranks_read one other j ranks r)
    ranks_read_up one other p q j [] left r h = record { value = no_pairs slots_most; reader = spend slots_most caps left r h (omega arith) }
    ranks_read_up one other p q j (e ∷ es) left r h =
        let more = 2 * length es + left in
        let x = p j (1 + more) r (spend slots_most caps (1 + (1 + more)) r h (omega arith)) in
        let y = q j more (one.element j r).1 x.reader in
        let rest = ranks_read_up one other p q (suc j) es left (other.element j (one.element j r).1).1 y.reader in
        record { value = pair_more slots_most _ _ _ (number_symbol slots_most most _ x.value) (number_symbol slots_most most _ y.value) rest.value; reader = rest.reader }

    order_light : (after old : Side) → IsElementUp after → IsElementUp old → IsFactLight 0 old.begun → (ranks : List Rank) → IsFactLight (2 * length ranks) (order_read after old ranks)
    order_light after old p q b ranks left r h =
        let begun = b (2 * length ranks + left) r (spend slots_most caps (0 + (2 * length ranks + left)) r h (omega arith)) in
        let pairs = ranks_read_up after old p q 0 ranks left (old.begun r).1 begun.reader in
        record { value = or_light slots_most _ _ (denied_light slots_most _ begun.value) (denied_light slots_most _ (symbols_lt_light slots_most _ pairs.value)); reader = pairs.reader }

    apart_light : IsFactLight 4 apart_read
    apart_light left r h =
        let begun = flag_up slots_most caps Begun (2 + (2 + left)) r (spend slots_most caps (2 + (2 + left)) r h (omega arith)) in
        let time = equal_light Time LastTime (2 + left) (read_flag Begun r).1 begun.reader in
        let replica = equal_light Replica LastReplica left (equal_read Time LastTime (read_flag Begun r).1).1 time.reader in
        record { value = or_light slots_most _ _ (denied_light slots_most _ begun.value) (denied_light slots_most _ (and_light slots_most _ _ time.value replica.value)); reader = replica.reader }

    stamp_light : KeepsLight 2 stamp_stated
    stamp_light left r h =
        states 1 (at_least 1 Replica) (at_least_light 1 Replica (omega arith)) left (stated (at_least 1 Time r))
        (states 1 (at_least 1 Time) (at_least_light 1 Time (omega arith)) (1 + left) r (spend slots_most caps (1 + (1 + left)) r h (omega arith)))

    pub order_stated_light : (after old : Side) → IsElementUp after → IsElementUp old → IsFactLight 0 old.begun → (ranks : List Rank) → KeepsLight (order_cost ranks) (order_stated after old ranks)
    order_stated_light after old p q b ranks left r h =
        states 4 apart_read apart_light left (stated (order_read after old ranks (stamp_stated r)))
        (states (2 * length ranks) (order_read after old ranks) (order_light after old p q b ranks) (4 + left) (stamp_stated r)
        (stamp_light (2 * length ranks + (4 + left)) r (spend slots_most caps (2 + (2 * length ranks + (4 + left))) r h (omega arith))))

    -- the same keys
    module _ (side : Side) (up : (place : Place) (at : Option Instance) → IsValueUp (side.value place at)) where
      same_at_light : (i j : Instance) (place : Place) → IsFactLight 2 (same_at side i j place)
      same_at_light i j place left r h =
          let x = up place (Some i) (1 + left) r (spend slots_most caps (1 + (1 + left)) r h (omega arith)) in
          let y = up place (Some j) left (side.value place (Some i) r).1 x.reader in
          record { value = symbol_same_light slots_most _ _ x.value y.value; reader = y.reader }

      same_at_both_light : (i j : Instance) (places : List Place) → AreFactsLight (2 * length places) (same_at_both side i j places)
      same_at_both_light i j [] left r h = record { value = none_light slots_most; reader = spend slots_most caps left r h (omega arith) }
      same_at_both_light i j (p ∷ ps) left r h =
          front (2 * length ps) left _ (same_at_both side i j ps) (same_at_light i j p (2 * length ps + left) r (spend slots_most caps (2 + (2 * length ps + left)) r h (omega arith))) (same_at_both_light i j ps)

      same_keys_light : (places : List Place) (i j : Instance) → IsFactLight (2 + 2 * length places) (same_keys_read side places i j)
      same_keys_light places i j left r h =
          let same = equal_light (Key i) (Key j) (2 * length places + left) r (spend slots_most caps (2 + (2 * length places + left)) r h (omega arith)) in
          let parts = same_at_both_light i j places left (equal_read (Key i) (Key j) r).1 same.reader in
          record { value = or_light slots_most _ _ (denied_light slots_most _ same.value) (all_light slots_most _ parts.value); reader = parts.reader }

      with_each_light : (places : List Place) (i : Instance) (js : List Instance) → KeepsLight (with_cost places js) (with_each side places i js)
      with_each_light places i [] left r h = spend slots_most caps left r h (omega arith)
      with_each_light places i (j ∷ js) left r h =
          with_each_light places i js left (stated (same_keys_read side places i j r))
          (states (2 + 2 * length places) (same_keys_read side places i j) (same_keys_light places i j) (with_cost places js + left) r (spend slots_most caps ((2 + 2 * length places) + (with_cost places js + left)) r h (omega arith)))

      each_two_light : (places : List Place) (keys : List Instance) → KeepsLight (two_cost places keys) (each_two side places keys)
      each_two_light places [] left r h = spend slots_most caps left r h (omega arith)
      each_two_light places (i ∷ keys) left r h =
          each_two_light places keys left (with_each side places i keys r)
          (with_each_light places i keys (two_cost places keys + left) r (spend slots_most caps (with_cost places keys + (two_cost places keys + left)) r h (omega arith)))

      sort_light : (spots : List Spot) (keys : List (Sort × Instance)) (s : Sort) → KeepsLight (sort_cost spots keys s) (sort_stated side spots keys s)
      sort_light spots keys s left r h = each_two_light (places_by (Some s) spots) (instances_of s keys) left r h

      pub keys_light : (spots : List Spot) (keys : List (Sort × Instance)) → KeepsLight (keys_cost spots keys) (keys_stated side spots keys)
      keys_light spots keys left r h =
          let n = sort_cost spots keys sort.Name in
          let m = sort_cost spots keys sort.Nat in
          sort_light spots keys sort.Name left (sort_stated side spots keys sort.Nat (sort_stated side spots keys sort.Int r))
          (sort_light spots keys sort.Nat (n + left) (sort_stated side spots keys sort.Int r)
          (sort_light spots keys sort.Int (m + (n + left)) r (spend slots_most caps (sort_cost spots keys sort.Int + (m + (n + left))) r h (omega arith))))

    -- the relation
    module _ (ty : TypeForm) (design : DesignForm) (side : Side) (Is : Conjunct → Type 0) (claims : (c : Conjunct) → Is c → (at : Option Instance) → IsFactLight (claim_cost 1 c) (claim_read ty design side c at)) where
      claim_each_light : (c : Conjunct) → Is c → (ats : List (Option Instance)) → KeepsLight (claims_cost (claim_cost 1 c) ats) (claim_each ty design side c ats)
      claim_each_light c is [] left r h = spend slots_most caps left r h (omega arith)
      claim_each_light c is (at ∷ ats) left r h =
          let cost = claim_cost 1 c in
          claim_each_light c is ats left (stated (claim_read ty design side c at r))
          (states cost (claim_read ty design side c at) (claims c is at) (claims_cost cost ats + left) r (spend slots_most caps (cost + (claims_cost cost ats + left)) r h (omega arith)))

      pub relation_light : (keys : List (Sort × Instance)) (cs : List Conjunct) → Every Is cs → KeepsLight (relation_cost ty design keys cs) (relation_stated ty design side keys cs)
      relation_light keys [] all left r h = spend slots_most caps left r h (omega arith)
      relation_light keys (c ∷ cs) all left r h =
          relation_light keys cs all.1 left (conjunct_stated ty design side keys c r)
          (claim_each_light c all.0 (looked_at (conjunct_key ty design.components c) keys) (relation_cost ty design keys cs + left) r
          (spend slots_most caps (conjunct_cost ty design keys c + (relation_cost ty design keys cs + left)) r h (omega arith)))
