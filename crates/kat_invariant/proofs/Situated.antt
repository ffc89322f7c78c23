-- What a situation has at a place, and sides that read it.
use Rattle.std.proofs.Common.{◌≡◌, ℕ, pos, Bool, true, false, List, Option, Some, None, option_map, refl, sym, subst, map}
use Rattle.std.specs.Prelude.{slice_get}
use Rattle.kat_num.specs.Values.{HasSort}
use Rattle.kat_num.specs.declared.values.Sort.{Sort}
use Rattle.kat_num.specs.declared.values.Value.{Value}
use Rattle.kat_num.specs.declared.values.Value.TheVariants as value
use Rattle.kat_expr.specs.Slots.{absent, argument, read_plain, read_table, slot_at}
use Rattle.kat_expr.specs.Sorts.Kept.{one, each}
use Rattle.kat_type.specs.Fits.{kept_of, sorts_of}
use Rattle.kat_type.specs.Types.{TypeForm}
use Rattle.kat_type.specs.declared.types.Param.{Param}
use Rattle.kat_design.specs.Designs.{ComponentForm, DesignForm}
use Rattle.kat_design.specs.Kinds.{component_kinds, key_sort}
use Rattle.kat_design.specs.Sorted.{FitsKey}
use Rattle.kat_design.specs.declared.kinds.Kind.{Kind}
use Rattle.kat_symbols.specs.Sides.{Side, given}
use Rattle.kat_symbols.specs.declared.names.Instance.{Instance}
use Rattle.kat_symbols.specs.declared.names.Name.TheVariants.{Key}
use Rattle.kat_symbols.specs.declared.names.Place.{Place}
use Rattle.kat_symbols.specs.declared.names.Place.TheVariants.{Field, Leaf}
use Rattle.kat_invariant.specs.Asked.{key_given}
use Rattle.kat_invariant.specs.Legal.{HoldsParts}
use Rattle.kat_invariant.specs.Situations.{Last, Situation, leaf_in}
use Rattle.kat_invariant.proofs.Asks.{ReadsLeaves}
use Rattle.kat_invariant.proofs.Having.{ReadsNumber, ReadsTruth, ReadsValue}
use Rattle.kat_invariant.proofs.LeafKinds.{leaf_has_kind}
use Rattle.kat_invariant.proofs.Logic.{Meant, measure}
use Rattle.kat_invariant.proofs.Terms.{ReadsScope}

-- the key of an instance; what has no keys is read at `absent`
abbrev pub key_at : (Instance → Value) → Option Instance → Value
key_at keys None = absent
key_at keys (Some i) = keys i

abbrev pub place_value : Situation → (Instance → Value) → Place → Option Instance → Value
place_value s keys (Field f) None = read_plain (slot_at s.state f)
place_value s keys (Field f) (Some i) = read_table (keys i) (slot_at s.state f)
place_value s keys (Leaf c l) at = leaf_in (s.held c (key_at keys at)) l

-- whether there is a last operation, and an element of its rank
abbrev pub is_begun : Option Last → Bool
is_begun None = false
is_begun (Some last) = true

abbrev pub element_of : Option Last → ℕ → Value
element_of None j = value.Num (pos 0)
element_of (Some last) j = argument last.rank j

-- a key of the required sort, or none if none is required
abbrev pub IsKeyAt : (Instance → Value) → Option Sort → Option Instance → Type 0
IsKeyAt keys None None = Unit {0}
IsKeyAt keys (Some s) (Some i) = HasSort s (keys i)
IsKeyAt keys None (Some i) = ⊥
IsKeyAt keys (Some s) None = ⊥

pub record IsField (ty : TypeForm) (keys : Instance → Value) (f : ℕ) (i : Instance) : Type 0 where
  pub key : Sort
  pub sort : Sort
  pub there : slice_get (map kept_of ty.fields) f ≡ Some (each key sort)
  pub fits : HasSort key (keys i)

pub record IsLeaf (d : DesignForm) (keys : Instance → Value) (c l : ℕ) (at : Option Instance) : Type 0 where
  pub component : ComponentForm
  pub kind : Kind
  pub there : slice_get d.components c ≡ Some component
  pub found : slice_get (component_kinds component) l ≡ Some kind
  pub fits : IsKeyAt keys (key_sort component) at

-- there is such a place, at such a key
abbrev pub IsAt : TypeForm → DesignForm → (Instance → Value) → Place → Option Instance → Type 0
IsAt ty d keys (Field f) None = (s : Sort) × (slice_get (map kept_of ty.fields) f ≡ Some (one s))
IsAt ty d keys (Field f) (Some i) = IsField ty keys f i
IsAt ty d keys (Leaf c l) at = IsLeaf d keys c l at

-- a side reads what a situation has
pub record IsSide (ty : TypeForm) (d : DesignForm) (m : Meant) (side : Side) (s : Situation) (keys : Instance → Value) : Type 0 where
  pub value : (place : Place) (at : Option Instance) → IsAt ty d keys place at → ReadsValue m (side.value place at) (place_value s keys place at)
  pub begun : ReadsTruth m side.begun (is_begun s.last)
  pub element : (j : ℕ) → ReadsNumber m (side.element j) (measure (element_of s.last j))

-- the parameters of an operation or a query, and the keys that they are
pub record AreArguments (m : Meant) (keys : Instance → Value) (at : Option Instance) (sorts : List Sort) (args : List Value) : Type 0 where
  pub named : (j : ℕ) (s : Sort) → slice_get sorts j ≡ Some s → m.now (Key (given at j)) ≡ argument args j
  pub keyed : (j : ℕ) (s : Sort) → slice_get sorts j ≡ Some s → keys (given at j) ≡ argument args j
  pub fit : (j : ℕ) (s : Sort) → slice_get sorts j ≡ Some s → HasSort s (argument args j)

module _ (ty : TypeForm) (d : DesignForm) (m : Meant) (side : Side) (s : Situation) (keys : Instance → Value) (is : IsSide ty d m side s keys) where
  -- it reads the fields of expressions
  pub scope_read : (at : Option Instance) (params : List Param) (args : List Value) → AreArguments m keys at (sorts_of ty.fields params).params args → ReadsScope m side at (sorts_of ty.fields params) s.state args
  scope_read at params args given_args = record {
    field = λ f sort there. is.value (Field f) None (sort, there);
    entry = λ f j key sort there parameter.
        let same = given_args.keyed j key parameter in
        subst (λ v. ReadsValue m (side.value (Field f) (Some (given at j))) (read_table v (slot_at s.state f))) same
        (is.value (Field f) (Some (given at j)) (record { key = key; sort = sort; there = there; fits = subst (HasSort key) (sym same) (given_args.fit j key parameter) }));
    param = given_args.named;
  }

  -- and the leaves of asks
  pub leaves_read : HoldsParts d s.held → (at : Option Instance) (sorts : List Sort) (args : List Value) → AreArguments m keys at sorts args → ReadsLeaves m side at d.components sorts s.held args
  leaves_read parts at sorts args given_args = record {
    leaf = λ c l key component k there found fits. by_key c l component k there found (key_sort component) refl key fits;
    kind_is = λ c l key component k there found fits. leaf_has_kind component (s.held c (key_given key args)) l k (parts c component there (key_given key args)) found;
    param = given_args.named;
    sorts_are = given_args.fit;
  }
    where
      by_key : (c l : ℕ) (component : ComponentForm) (k : Kind) → slice_get d.components c ≡ Some component → slice_get (component_kinds component) l ≡ Some k → (o : Option Sort) → key_sort component ≡ o → (key : Option ℕ) → FitsKey sorts o key
          → ReadsValue m (side.value (Leaf c l) (option_map (given at) key)) (leaf_in (s.held c (key_given key args)) l)
      by_key c l component k there found None e None fits = is.value (Leaf c l) None (record { component = component; kind = k; there = there; found = found; fits = subst (λ o. IsKeyAt keys o None) (sym e) tt })
      by_key c l component k there found (Some sort) e (Some j) fits =
          let same = given_args.keyed j sort fits in
          subst (λ v. ReadsValue m (side.value (Leaf c l) (Some (given at j))) (leaf_in (s.held c v) l)) same
          (is.value (Leaf c l) (Some (given at j)) (record { component = component; kind = k; there = there; found = found; fits = subst (λ o. IsKeyAt keys o (Some (given at j))) (sym e) (subst (HasSort sort) (sym same) (given_args.fit j sort fits)) }))
      by_key c l component k there found None e (Some j) fits = absurd fits
      by_key c l component k there found (Some sort) e None fits = absurd fits
