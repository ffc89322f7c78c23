-- The facts of a condition in step, group by group.
use Rattle.std.proofs.Common.{ℕ, suc, pos, Bool, true, Option, Some, List, [], ◌∷◌}
use Rattle.kat_num.specs.declared.values.Sort.{Sort}
use Rattle.kat_num.specs.declared.values.Sort.TheVariants as sort
use Rattle.kat_form.specs.Facts.{Fact, listed}
use Rattle.kat_design.specs.Designs.{DesignForm}
use Rattle.kat_relation.specs.Keys.{conjunct_key}
use Rattle.kat_relation.specs.declared.relations.Conjunct.{Conjunct}
use Rattle.kat_type.specs.Types.{OperationForm, TypeForm}
use Rattle.kat_type.specs.declared.types.Param.{Param}
use Rattle.kat_type.specs.declared.types.Rank.{Rank}
use Rattle.kat_type.specs.declared.types.Rank.TheVariants as rank
use Rattle.kat_claims.specs.Claims.{claim_read}
use Rattle.kat_vc.specs.Conditions.{state_stated}
use Rattle.kat_claims.specs.Groups.{stated, same_read, same_each, start_read, at_least, naturals_stated, equal_read, digit_read, elements_match, rank_match, ranks_match, last_read, ranks_read, order_read, apart_read, stamp_stated, order_stated, same_at, same_at_both, same_keys_read, with_each, each_two, sort_stated, keys_stated, claim_each, conjunct_stated, denied_claim}
use Rattle.kat_claims.specs.Places.{all_looked_at, all_natural, instances_of, keys_of, looked_at, places_by, spots_of}
use Rattle.kat_symbols.specs.Readers.{Reader}
use Rattle.kat_symbols.specs.Sides.{Side}
use Rattle.kat_claims.specs.States.{old_side, start_side}
use Rattle.kat_vc.specs.Steps.{after_side}
use Rattle.kat_symbols.specs.declared.names.Instance.{Instance}
use Rattle.kat_symbols.specs.declared.names.Name.{Name}
use Rattle.kat_symbols.specs.declared.names.Name.TheVariants.{Begun, Element, Key, LastReplica, LastTime, Replica, Time}
use Rattle.kat_symbols.specs.declared.names.Place.{Place}
use Rattle.kat_claims.specs.declared.spots.Spot.{Spot}
use Rattle.kat_opening.proofs.Forms.{numeral_alike}
use Rattle.kat_opening.proofs.Facts.{SameFact, SameFacts, denied_same, or_same, and_same, le_same, equal_same, symbol_equal_same, symbols_lt_same}
use Rattle.kat_opening.proofs.Facts.SameFact.{both_all, both_any}
use Rattle.kat_opening.proofs.Facts.SameFacts.{both_none, both_more}
use Rattle.kat_opening.proofs.Facts.AlikeSymbol.{both_numbers}
use Rattle.kat_opening.proofs.Facts.AlikePairs.{no_pairs, pair_more}
use Rattle.kat_opening.proofs.Lockstep.{Goes, stays, goes_name, goes_flag, goes_state}
use Rattle.kat_opening.proofs.Symbolic.{and_then, with_both, gives, TwinForm, TwinFact}
use Rattle.kat_opening.proofs.Terms.{TwinSide}
use Rattle.kat_opening.proofs.Claims.{TwinPairs, old_twin, start_twin, claim_twin}
use Rattle.kat_opening.proofs.Effects.{elements_quiet}

-- lists of facts that are read in step, and what only goes on
abbrev pub TwinList : Reader → Bool → (Reader → List Fact × Reader) → Type 0
TwinList whole quiet read = (a b : Reader) → Goes whole quiet a b (read a).1 (read b).1 (λ w. SameFacts w (listed (read a).0) (listed (read b).0))

abbrev pub TwinPass : Reader → Bool → (Reader → Reader) → Type 0
TwinPass whole quiet go = (a b : Reader) → Goes whole quiet a b (go a) (go b) (λ w. Unit {0})

module _ (whole : Reader) (quiet : Bool) where
  passes_then : (f g : Reader → Reader) → TwinPass whole quiet f → TwinPass whole quiet g → TwinPass whole quiet (λ r. g (f r))
  passes_then f g p q a b = and_then (p a b) (q _ _) (λ w h k. tt)

  pub states : (read : Reader → Fact × Reader) → TwinFact whole quiet read → TwinPass whole quiet (λ r. stated (read r))
  states read twin a b = goes_state whole quiet a b (read a).1 (read b).1 (read a).0 (read b).0 (λ w. Unit {0}) (gives (twin a b) (λ w h. (h, tt)))

  pub denies : (read : Reader → Fact × Reader) → TwinFact whole quiet read → TwinPass whole quiet (λ r. denied_claim (read r))
  denies read twin a b = goes_state whole quiet a b (read a).1 (read b).1 _ _ (λ w. Unit {0}) (gives (twin a b) (λ w h. (denied_same w _ _ h, tt)))

  no_list : TwinList whole quiet (λ r. ([], r))
  no_list a b = stays whole quiet a b _ (λ w. both_none)

  front : (a b c d : Reader) (f g : Fact) (rest : Reader → List Fact × Reader) → Goes whole quiet a b c d (λ w. SameFact w f g) → TwinList whole quiet rest
      → Goes whole quiet a b (rest c).1 (rest d).1 (λ w. SameFacts w (listed (f ∷ (rest c).0)) (listed (g ∷ (rest d).0)))
  front a b c d f g rest first others = and_then first (others c d) (λ w p q. both_more _ _ _ _ p q)

  same_read_twin : (left right : Side) → TwinSide whole quiet left → TwinSide whole quiet right → (place : Place) (at : Option Instance) → TwinFact whole quiet (same_read left right place at)
  same_read_twin left right p q place at a b = and_then (p.value place at a b) (q.value place at _ _) (λ w h k. symbol_equal_same w _ _ _ _ h k)

  same_each_twin : (left right : Side) → TwinSide whole quiet left → TwinSide whole quiet right → (seen : List (Place × Option Instance)) → TwinList whole quiet (same_each left right seen)
  same_each_twin left right p q [] a b = no_list a b
  same_each_twin left right p q (at ∷ seen) a b = front a b _ _ _ _ (same_each left right seen) (same_read_twin left right p q at.0 at.1 a b) (same_each_twin left right p q seen)

  start_read_twin : (old start : Side) → TwinSide whole quiet old → TwinSide whole quiet start → (seen : List (Place × Option Instance)) → TwinFact whole quiet (start_read old start seen)
  start_read_twin old start p q seen a b = and_then (p.begun a b) (same_each_twin old start p q seen _ _) (λ w h k. or_same w _ _ _ _ h (both_all _ _ k))

  at_least_twin : (n : ℕ) (name : Name) → TwinFact whole quiet (at_least n name)
  at_least_twin n name a b = gives (goes_name whole quiet name a b) (λ w h. le_same w _ _ _ _ (numeral_alike w (pos n)) h)

  pub naturals_twin : (names : List Name) → TwinPass whole quiet (naturals_stated names)
  naturals_twin [] a b = stays whole quiet a b _ (λ w. tt)
  naturals_twin (n ∷ ns) a b = passes_then (λ r. stated (at_least 0 n r)) (naturals_stated ns) (states (at_least 0 n) (at_least_twin 0 n)) (naturals_twin ns) a b

  equal_twin : (n m : Name) → TwinFact whole quiet (equal_read n m)
  equal_twin n m a b = and_then (goes_name whole quiet n a b) (goes_name whole quiet m _ _) (λ w p q. equal_same w _ _ _ _ p q)

  digit_twin : (j n : ℕ) → TwinFact whole quiet (digit_read j n)
  digit_twin j n a b = gives (goes_name whole quiet (Element j) a b) (λ w h. equal_same w _ _ _ _ h (numeral_alike w (pos n)))

  elements_twin : (j : ℕ) (ranks : List Rank) → TwinList whole quiet (elements_match j ranks)
  elements_twin j [] a b = no_list a b
  elements_twin j (rank.Digit n ∷ ranks) a b = front a b _ _ _ _ (elements_match (suc j) ranks) (digit_twin j n a b) (elements_twin (suc j) ranks)
  elements_twin j (rank.Time ∷ ranks) a b = front a b _ _ _ _ (elements_match (suc j) ranks) (equal_twin (Element j) LastTime a b) (elements_twin (suc j) ranks)
  elements_twin j (rank.Replica ∷ ranks) a b = front a b _ _ _ _ (elements_match (suc j) ranks) (equal_twin (Element j) LastReplica a b) (elements_twin (suc j) ranks)
  elements_twin j (rank.Arg place ∷ ranks) a b = elements_twin (suc j) ranks a b

  rank_twin : (o : OperationForm) → TwinFact whole quiet (rank_match o)
  rank_twin o a b = gives (elements_twin 0 o.ranks a b) (λ w h. both_all _ _ h)

  ranks_twin : (os : List OperationForm) → TwinList whole quiet (ranks_match os)
  ranks_twin [] a b = no_list a b
  ranks_twin (o ∷ os) a b = front a b _ _ _ _ (ranks_match os) (rank_twin o a b) (ranks_twin os)

  last_twin : (ops : List OperationForm) → TwinFact whole quiet (last_read ops)
  last_twin ops a b =
      and_then (goes_flag whole quiet Begun a b) (with_both (with_both (at_least_twin 1 LastTime _ _) (at_least_twin 1 LastReplica _ _)) (ranks_twin ops _ _))
      (λ w p q. or_same w _ _ _ _ (denied_same w _ _ p) (both_all _ _ (both_more _ _ _ _ q.0.0 (both_more _ _ _ _ q.0.1 (both_more _ _ _ _ (both_any _ _ q.1) both_none)))))

  -- the order
  ranks_read_twin : (left right : Side) → ((j : ℕ) → TwinForm whole quiet (left.element j)) → ((j : ℕ) → TwinForm whole quiet (right.element j)) → (j : ℕ) (ranks : List Rank) → TwinPairs whole quiet (ranks_read left right j ranks)
  ranks_read_twin left right p q j [] a b = stays whole quiet a b _ (λ w. no_pairs)
  ranks_read_twin left right p q j (e ∷ es) a b =
      and_then (with_both (p j a b) (q j _ _)) (ranks_read_twin left right p q (suc j) es _ _) (λ w h k. pair_more _ _ _ _ _ _ (both_numbers _ _ h.0) (both_numbers _ _ h.1) k)

  order_twin : (after old : Side) → ((j : ℕ) → TwinForm whole quiet (after.element j)) → TwinSide whole quiet old → (ranks : List Rank) → TwinFact whole quiet (order_read after old ranks)
  order_twin after old p q ranks a b =
      and_then (q.begun a b) (ranks_read_twin after old p q.element 0 ranks _ _) (λ w h k. or_same w _ _ _ _ (denied_same w _ _ h) (denied_same w _ _ (symbols_lt_same w _ _ k)))

  apart_twin : TwinFact whole quiet apart_read
  apart_twin a b =
      and_then (goes_flag whole quiet Begun a b) (with_both (equal_twin Time LastTime _ _) (equal_twin Replica LastReplica _ _))
      (λ w p q. or_same w _ _ _ _ (denied_same w _ _ p) (denied_same w _ _ (and_same w _ _ _ _ q.0 q.1)))

  stamp_twin : TwinPass whole quiet stamp_stated
  stamp_twin = passes_then (λ r. stated (at_least 1 Time r)) (λ r. stated (at_least 1 Replica r)) (states (at_least 1 Time) (at_least_twin 1 Time)) (states (at_least 1 Replica) (at_least_twin 1 Replica))

  order_stated_twin : (after old : Side) → ((j : ℕ) → TwinForm whole quiet (after.element j)) → TwinSide whole quiet old → (ranks : List Rank) → TwinPass whole quiet (order_stated after old ranks)
  order_stated_twin after old p q ranks =
      passes_then (λ r. stated (order_read after old ranks (stamp_stated r))) (λ r. stated (apart_read r))
      (passes_then stamp_stated (λ r. stated (order_read after old ranks r)) stamp_twin (states (order_read after old ranks) (order_twin after old p q ranks)))
      (states apart_read apart_twin)

  -- the same keys
  module _ (side : Side) (twin : TwinSide whole quiet side) where
    same_at_twin : (i j : Instance) (place : Place) → TwinFact whole quiet (same_at side i j place)
    same_at_twin i j place a b = and_then (twin.value place (Some i) a b) (twin.value place (Some j) _ _) (λ w p q. symbol_equal_same w _ _ _ _ p q)

    same_at_both_twin : (i j : Instance) (places : List Place) → TwinList whole quiet (same_at_both side i j places)
    same_at_both_twin i j [] a b = no_list a b
    same_at_both_twin i j (p ∷ ps) a b = front a b _ _ _ _ (same_at_both side i j ps) (same_at_twin i j p a b) (same_at_both_twin i j ps)

    same_keys_twin : (places : List Place) (i j : Instance) → TwinFact whole quiet (same_keys_read side places i j)
    same_keys_twin places i j a b = and_then (equal_twin (Key i) (Key j) a b) (same_at_both_twin i j places _ _) (λ w p q. or_same w _ _ _ _ (denied_same w _ _ p) (both_all _ _ q))

    with_each_twin : (places : List Place) (i : Instance) (js : List Instance) → TwinPass whole quiet (with_each side places i js)
    with_each_twin places i [] a b = stays whole quiet a b _ (λ w. tt)
    with_each_twin places i (j ∷ js) a b = passes_then (λ r. stated (same_keys_read side places i j r)) (with_each side places i js) (states (same_keys_read side places i j) (same_keys_twin places i j)) (with_each_twin places i js) a b

    each_two_twin : (places : List Place) (keys : List Instance) → TwinPass whole quiet (each_two side places keys)
    each_two_twin places [] a b = stays whole quiet a b _ (λ w. tt)
    each_two_twin places (i ∷ keys) a b = passes_then (with_each side places i keys) (each_two side places keys) (with_each_twin places i keys) (each_two_twin places keys) a b

    sort_twin : (spots : List Spot) (keys : List (Sort × Instance)) (s : Sort) → TwinPass whole quiet (sort_stated side spots keys s)
    sort_twin spots keys s = each_two_twin (places_by (Some s) spots) (instances_of s keys)

    pub keys_twin : (spots : List Spot) (keys : List (Sort × Instance)) → TwinPass whole quiet (keys_stated side spots keys)
    keys_twin spots keys =
        passes_then (λ r. sort_stated side spots keys sort.Nat (sort_stated side spots keys sort.Int r)) (sort_stated side spots keys sort.Name)
        (passes_then (sort_stated side spots keys sort.Int) (sort_stated side spots keys sort.Nat) (sort_twin spots keys sort.Int) (sort_twin spots keys sort.Nat))
        (sort_twin spots keys sort.Name)

    claim_each_twin : (ty : TypeForm) (d : DesignForm) (c : Conjunct) (ats : List (Option Instance)) → TwinPass whole quiet (claim_each ty d side c ats)
    claim_each_twin ty d c [] a b = stays whole quiet a b _ (λ w. tt)
    claim_each_twin ty d c (at ∷ ats) a b = passes_then (λ r. stated (claim_read ty d side c at r)) (claim_each ty d side c ats) (states (claim_read ty d side c at) (claim_twin whole quiet side twin ty d c at)) (claim_each_twin ty d c ats) a b

    pub conjunct_twin : (ty : TypeForm) (d : DesignForm) (keys : List (Sort × Instance)) (c : Conjunct) → TwinPass whole quiet (conjunct_stated ty d side keys c)
    conjunct_twin ty d keys c = claim_each_twin ty d c (looked_at (conjunct_key ty d.components c) keys)

  -- any state before an operation or a query
  pub state_twin : (ty : TypeForm) (d : DesignForm) (claim : Option Sort) (params : List Param) → TwinPass whole quiet (state_stated ty d claim params)
  state_twin ty d claim params =
      passes_then (λ r. naturals_stated (all_natural ty d claim params) (stated (start_read (old_side ty d) (start_side ty d) (all_looked_at (spots_of ty d) (keys_of claim params)) r))) (λ r. stated (last_read ty.ops r))
      (passes_then (λ r. stated (start_read (old_side ty d) (start_side ty d) (all_looked_at (spots_of ty d) (keys_of claim params)) r)) (naturals_stated (all_natural ty d claim params))
      (states (start_read (old_side ty d) (start_side ty d) (all_looked_at (spots_of ty d) (keys_of claim params))) (start_read_twin (old_side ty d) (start_side ty d) (old_twin whole quiet ty d) (start_twin whole quiet ty d) (all_looked_at (spots_of ty d) (keys_of claim params))))
      (naturals_twin (all_natural ty d claim params)))
      (states (last_read ty.ops) (last_twin ty.ops))

-- the order, which reads nothing once
pub order_is_twin : (whole : Reader) (ty : TypeForm) (d : DesignForm) (o : ℕ) (op : OperationForm) → TwinPass whole true (order_stated (after_side ty d o op) (old_side ty d) op.ranks)
order_is_twin whole ty d o op = order_stated_twin whole true (after_side ty d o op) (old_side ty d) (elements_quiet whole ty d o op) (old_twin whole true ty d) op.ranks
