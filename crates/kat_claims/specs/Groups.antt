-- The facts of a condition, group by group.
use Rattle.std.specs.Prelude.{ℕ, suc, pos, List, [], ◌∷◌, Option, Some}
use Rattle.kat_num.specs.declared.values.Sort.{Sort}
use Rattle.kat_num.specs.declared.values.Sort.TheVariants as sort
use Rattle.kat_form.specs.Facts.{Fact, listed}
use Rattle.kat_form.specs.Facts.Fact.{all_of, any_of}
use Rattle.kat_design.specs.Designs.{DesignForm}
use Rattle.kat_relation.specs.Keys.{conjunct_key}
use Rattle.kat_relation.specs.declared.relations.Conjunct.{Conjunct}
use Rattle.kat_type.specs.Types.{OperationForm, TypeForm}
use Rattle.kat_type.specs.declared.types.Rank.{Rank}
use Rattle.kat_type.specs.declared.types.Rank.TheVariants as rank
use Rattle.kat_claims.specs.Claims.{claim_read}
use Rattle.kat_symbols.specs.Connectives.{denied, or_of, and_of, fact_le, fact_same}
use Rattle.kat_claims.specs.Places.{instances_of, looked_at, places_by}
use Rattle.kat_symbols.specs.Readers.{Reader, Symbol, read_flag, read_name, state}
use Rattle.kat_symbols.specs.Readers.Symbol.{number}
use Rattle.kat_symbols.specs.Sides.{Side}
use Rattle.kat_symbols.specs.Sums.{numeral}
use Rattle.kat_symbols.specs.Symbols.{symbol_same, symbols_lt}
use Rattle.kat_symbols.specs.declared.names.Instance.{Instance}
use Rattle.kat_symbols.specs.declared.names.Name.{Name}
use Rattle.kat_symbols.specs.declared.names.Name.TheVariants.{Begun, Element, Key, LastReplica, LastTime, Replica, Time}
use Rattle.kat_symbols.specs.declared.names.Place.{Place}
use Rattle.kat_claims.specs.declared.spots.Spot.{Spot}

-- a fact that is read and then stated
abbrev pub stated : Fact × Reader → Reader
stated x = state x.0 x.1

-- a fact in front of those that are read next
abbrev pub in_front : Fact × Reader → (Reader → List Fact × Reader) → List Fact × Reader
in_front x rest = let y = rest x.1 in (x.0 ∷ y.0, y.1)

-- two sides have the same at a place and a key, and at places and keys
abbrev pub same_read : Side → Side → Place → Option Instance → Reader → Fact × Reader
same_read left right place at r = let x = left.value place at r in let y = right.value place at x.1 in (symbol_same x.0 y.0, y.1)

abbrev pub same_each : Side → Side → List (Place × Option Instance) → Reader → List Fact × Reader
same_each left right [] r = ([], r)
same_each left right (p ∷ ps) r = in_front (same_read left right p.0 p.1 r) (same_each left right ps)

-- the start: there is a last operation, or everything has its start value
abbrev pub start_read : Side → Side → List (Place × Option Instance) → Reader → Fact × Reader
start_read old start seen r =
    let begun = old.begun r in let parts = same_each old start seen begun.1 in (or_of begun.0 (all_of (listed parts.0)), parts.1)

-- the sorts: each of these is at least 0
abbrev pub at_least : ℕ → Name → Reader → Fact × Reader
at_least n name r = let x = read_name name r in (fact_le (numeral (pos n)) x.0, x.1)

abbrev pub naturals_stated : List Name → Reader → Reader
naturals_stated [] r = r
naturals_stated (n ∷ ns) r = naturals_stated ns (stated (at_least 0 n r))

-- the elements of the last operation's rank are as a rank says, if it doesn't name an argument
abbrev pub equal_read : Name → Name → Reader → Fact × Reader
equal_read n m r = let x = read_name n r in let y = read_name m x.1 in (fact_same x.0 y.0, y.1)

abbrev pub digit_read : ℕ → ℕ → Reader → Fact × Reader
digit_read j n r = let x = read_name (Element j) r in (fact_same x.0 (numeral (pos n)), x.1)

abbrev pub elements_match : ℕ → List Rank → Reader → List Fact × Reader
elements_match j [] r = ([], r)
elements_match j (rank.Digit n ∷ ranks) r = in_front (digit_read j n r) (elements_match (suc j) ranks)
elements_match j (rank.Time ∷ ranks) r = in_front (equal_read (Element j) LastTime r) (elements_match (suc j) ranks)
elements_match j (rank.Replica ∷ ranks) r = in_front (equal_read (Element j) LastReplica r) (elements_match (suc j) ranks)
elements_match j (rank.Arg place ∷ ranks) r = elements_match (suc j) ranks r

abbrev pub rank_match : OperationForm → Reader → Fact × Reader
rank_match o r = let x = elements_match 0 o.ranks r in (all_of (listed x.0), x.1)

abbrev pub ranks_match : List OperationForm → Reader → List Fact × Reader
ranks_match [] r = ([], r)
ranks_match (o ∷ os) r = in_front (rank_match o r) (ranks_match os)

-- the last operation: there is none, or its time and replica are at least 1, and it has the rank of some operation
abbrev pub last_read : List OperationForm → Reader → Fact × Reader
last_read ops r =
    let begun = read_flag Begun r in
    let time = at_least 1 LastTime begun.1 in let replica = at_least 1 LastReplica time.1 in
    let shapes = ranks_match ops replica.1 in
    (or_of (denied begun.0) (all_of (listed (time.0 ∷ replica.0 ∷ any_of (listed shapes.0) ∷ []))), shapes.1)

-- elements of two sides' ranks, from a position on
abbrev pub ranks_read : Side → Side → ℕ → List Rank → Reader → List (Symbol × Symbol) × Reader
ranks_read left right j [] r = ([], r)
ranks_read left right j (e ∷ es) r =
    let x = left.element j r in let y = right.element j x.1 in let rest = ranks_read left right (suc j) es y.1 in
    ((number x.0, number y.0) ∷ rest.0, rest.1)

-- the order: there is no last operation, or the operation's rank isn't less than the last one's
abbrev pub order_read : Side → Side → List Rank → Reader → Fact × Reader
order_read after old ranks r =
    let begun = old.begun r in let pairs = ranks_read after old 0 ranks begun.1 in
    (or_of (denied begun.0) (denied (symbols_lt pairs.0)), pairs.1)

-- there is no last operation, or it doesn't have both the time and the replica of the operation
abbrev pub apart_read : Reader → Fact × Reader
apart_read r =
    let begun = read_flag Begun r in
    let time = equal_read Time LastTime begun.1 in let replica = equal_read Replica LastReplica time.1 in
    (or_of (denied begun.0) (denied (and_of time.0 replica.0)), replica.1)

-- the operation's time and replica are at least 1
abbrev pub stamp_stated : Reader → Reader
stamp_stated r = stated (at_least 1 Replica (stated (at_least 1 Time r)))

abbrev pub order_stated : Side → Side → List Rank → Reader → Reader
order_stated after old ranks r = stated (apart_read (stated (order_read after old ranks (stamp_stated r))))

-- a side has the same at two keys of a place, and of places
abbrev pub same_at : Side → Instance → Instance → Place → Reader → Fact × Reader
same_at side i j place r = let x = side.value place (Some i) r in let y = side.value place (Some j) x.1 in (symbol_same x.0 y.0, y.1)

abbrev pub same_at_both : Side → Instance → Instance → List Place → Reader → List Fact × Reader
same_at_both side i j [] r = ([], r)
same_at_both side i j (p ∷ ps) r = in_front (same_at side i j p r) (same_at_both side i j ps)

-- the same keys: two keys differ, or what is kept there is the same
abbrev pub same_keys_read : Side → List Place → Instance → Instance → Reader → Fact × Reader
same_keys_read side places i j r =
    let same = equal_read (Key i) (Key j) r in let parts = same_at_both side i j places same.1 in
    (or_of (denied same.0) (all_of (listed parts.0)), parts.1)

-- a key with each of others, and each two of some keys in order
abbrev pub with_each : Side → List Place → Instance → List Instance → Reader → Reader
with_each side places i [] r = r
with_each side places i (j ∷ js) r = with_each side places i js (stated (same_keys_read side places i j r))

abbrev pub each_two : Side → List Place → List Instance → Reader → Reader
each_two side places [] r = r
each_two side places (i ∷ is) r = each_two side places is (with_each side places i is r)

abbrev pub sort_stated : Side → List Spot → List (Sort × Instance) → Sort → Reader → Reader
sort_stated side spots keys s r = each_two side (places_by (Some s) spots) (instances_of s keys) r

abbrev pub keys_stated : Side → List Spot → List (Sort × Instance) → Reader → Reader
keys_stated side spots keys r = sort_stated side spots keys sort.Name (sort_stated side spots keys sort.Nat (sort_stated side spots keys sort.Int r))

-- the relation: each conjunct, at each key of its sort
abbrev pub claim_each : TypeForm → DesignForm → Side → Conjunct → List (Option Instance) → Reader → Reader
claim_each ty design side c [] r = r
claim_each ty design side c (at ∷ ats) r = claim_each ty design side c ats (stated (claim_read ty design side c at r))

abbrev pub conjunct_stated : TypeForm → DesignForm → Side → List (Sort × Instance) → Conjunct → Reader → Reader
conjunct_stated ty design side keys c r = claim_each ty design side c (looked_at (conjunct_key ty design.components c) keys) r

abbrev pub relation_stated : TypeForm → DesignForm → Side → List (Sort × Instance) → List Conjunct → Reader → Reader
relation_stated ty design side keys [] r = r
relation_stated ty design side keys (c ∷ cs) r = relation_stated ty design side keys cs (conjunct_stated ty design side keys c r)

-- the claim, denied
abbrev pub denied_claim : Fact × Reader → Reader
denied_claim x = state (denied x.0) x.1
