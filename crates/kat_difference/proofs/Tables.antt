-- Maps told key by key.
use Rattle.std.proofs.Common.{◌≡◌, List, [], ◌∷◌, Option, Some, None, refl, sym, ◌∙◌, ap, subst}
use Rattle.std.specs.declared.cmp.Ordering.{Ordering}
use Rattle.std.specs.Cmp.{IsTotalOrder}
use Rattle.std.specs.List.{AllByRecursion}
use Rattle.std.proofs.lemmas.Cmp.{tied_itself}
use Rattle.kat_join.specs.Chains.{kin_left}
use Rattle.kat_join.specs.JoinLaws.{JoinLaws}
use Rattle.kat_join.specs.Keyed.{found, union, by_key, on_value, value_or}
use Rattle.kat_join.specs.KeyedLaws.{found_each, found_has_key, by_key_total}
use Rattle.kat_join.specs.Merging.{TellsApart}
use Rattle.kat_join.proofs.Merges.{union-nil}
use Rattle.kat_lattice.specs.Maps.{IsKept, IsMap, MapsKin, Table, at_key, maps_joined}
use Rattle.kat_lattice.specs.MapLaws.{at_key-joined, map_laws}
use Rattle.kat_lattice.proofs.Readings.{maps_go, same_values_same_map}
use Rattle.kat_difference.specs.Differences.{IsFrom, Lacks, Serves, Tells}
use Rattle.kat_difference.specs.Maps.{entry_told, value_told, with_told}
use Rattle.kat_difference.specs.Picking.{Grows, Picks, stays}
use Rattle.std.specs.Prelude.{IfSome, Result, OnOk}
use Rattle.std.proofs.lemmas.Result.{on_ok_weaker}
use Rattle.kat_difference.proofs.Picks.{Head, Picked, grows_as, TellsKey, found_first, picked_all, picked_ascend, picked_found, picked_head}
use Rattle.kat_difference.proofs.Serving.{serves, serves_none, start_from}

abbrev pub table : {K V : Type 0} → V → List (K × V) → Table K V
table start entries = record { start = start; entries = entries }

same_table : {K V : Type 0} (s t : V) (xs ys : List (K × V)) → s ≡ t → xs ≡ ys → table s xs ≡ table t ys
same_table s t xs ys e f = cc

-- the value at each key of a map is at or above the start
value_from : {K V : Type 0} {kin : V → V → Type 0} {joined : V → V → V} (s : V) (o : Option (K × V)) → IsFrom kin joined s s → ((x : K × V) → o ≡ Some x → IsKept kin joined s x.1) → IsFrom kin joined s (value_or s o)
value_from s None h f = h
value_from s (Some x) h f = (let k = f x refl in record { goes = k.goes; own = k.own })

pub at_from : {K V : Type 0} {cmp : K → K → Ordering} {kin : V → V → Type 0} {joined : V → V → V} (m : Table K V) → IsMap cmp kin joined m → IsFrom kin joined m.start m.start → (key : K) → IsFrom kin joined m.start (at_key cmp m key)
at_from {K} {V} {cmp} {kin} {joined} m h s key =
    value_from m.start (found (by_key cmp) (key, m.start) m.entries) s (λ x f. found_each (λ (y : K × V). IsKept kin joined m.start y.1) (by_key cmp) (key, m.start) x m.entries h.kept f)

told_keys : {K V : Type 0} (cmp : K → K → Ordering) (kin : V → V → Type 0) (joined : V → V → V) (exact : Type 0) (known : Table K V) → TellsKey (by_key cmp) (value_told cmp kin joined exact known)
told_keys {K} {V} cmp kin joined exact known = record { left = λ y d z t. ap (λ (x : K). cmp x z.0) t.0; right = λ y d z t. ap (λ (x : K). cmp z.0 x) t.0 }

-- at one key what is told serves in place of the value
told_serves : {K V : Type 0} (cmp : K → K → Ordering) {kin : V → V → Type 0} {joined : V → V → V} → JoinLaws kin joined → (exact : Type 0) (known : Table K V) (key : K) (o p : Option (K × V)) → IsFrom kin joined known.start (at_key cmp known key) → ((y : K × V) → o ≡ Some y → IsFrom kin joined known.start y.1) → ((y : K × V) → o ≡ Some y → key ≡ y.0) → Picked (value_told cmp kin joined exact known) o p
    → Serves kin joined exact known.start (at_key cmp known key) (value_or known.start o) (value_or known.start p)
told_serves {K} {V} cmp {kin} {joined} laws exact known key None p h from at t =
    subst (λ (x : Option (K × V)). Serves kin joined exact known.start (at_key cmp known key) known.start (value_or known.start x)) (sym t)
    (serves_none laws exact known.start (at_key cmp known key) known.start h (start_from laws known.start (at_key cmp known key) h) h.own)
told_serves {K} {V} cmp {kin} {joined} laws exact known key (Some y) None h from at t =
    serves_none laws exact known.start (at_key cmp known key) y.1 h (from y refl) (subst (λ (k : K). joined y.1 (at_key cmp known k) ≡ at_key cmp known k) (sym (at y refl)) t)
told_serves {K} {V} cmp {kin} {joined} laws exact known key (Some y) (Some d) h from at t =
    serves laws exact known.start (at_key cmp known key) y.1 (Some d.1) d.1 h (from y refl) (subst (λ (k : K). Lacks kin joined exact known.start (at_key cmp known k) y.1 (Some d.1)) (sym (at y refl)) t.1) refl

-- and if nothing is told, the value is known
told_nothing : {K V : Type 0} (cmp : K → K → Ordering) {kin : V → V → Type 0} {joined : V → V → V} (exact : Type 0) (known : Table K V) (key : K) (o : Option (K × V)) → IsFrom kin joined known.start (at_key cmp known key) → ((y : K × V) → o ≡ Some y → key ≡ y.0) → Picked (value_told cmp kin joined exact known) o None
    → joined (value_or known.start o) (at_key cmp known key) ≡ at_key cmp known key
told_nothing cmp exact known key None h at t = h.own
told_nothing {K} {V} cmp {kin} {joined} exact known key (Some y) h at t = subst (λ (k : K). joined y.1 (at_key cmp known k) ≡ at_key cmp known k) (sym (at y refl)) t

-- what all of these lemmas are given: two maps of one start, at or above an empty one, and what is told of the second
pub record Told {K V : Type 0} (cmp : K → K → Ordering) (kin : V → V → Type 0) (joined : V → V → V) (exact : Type 0) (known : Table K V) (ys ds : List (K × V)) : Type 0 where
  pub tells_apart : TellsApart cmp
  pub known_is : IsMap cmp kin joined known
  pub value_is : IsMap cmp kin joined (table known.start ys)
  pub itself : K → kin known.start known.start
  pub picks : Picks (value_told cmp kin joined exact known) ys ds

start_of : {K V : Type 0} {cmp : K → K → Ordering} {kin : V → V → Type 0} {joined : V → V → V} → JoinLaws kin joined → (exact : Type 0) (known : Table K V) (ys ds : List (K × V)) → Told cmp kin joined exact known ys ds → K → IsFrom kin joined known.start known.start
start_of laws exact known ys ds t key = record { goes = t.itself key; own = laws.idem known.start (t.itself key) }

pub told_map : {K V : Type 0} {cmp : K → K → Ordering} {kin : V → V → Type 0} {joined : V → V → V} → JoinLaws kin joined → (exact : Type 0) (known : Table K V) (ys ds : List (K × V)) → Told cmp kin joined exact known ys ds → IsMap cmp kin joined (table known.start ds)
told_map {K} {V} {cmp} {kin} {joined} laws exact known ys ds t = record {
  ascending = picked_ascend (told_keys cmp kin joined exact known) ys ds t.value_is.ascending t.picks;
  kept = picked_all (λ (e : K × V). IsKept kin joined known.start e.1) (λ y d told.
      let tells : Tells kin joined known.start (at_key cmp known y.0) y.1 d.1 = told.1.0 in
      let there : IsFrom kin joined known.start (at_key cmp known y.0) = at_from known t.known_is (start_of laws exact known ys ds t y.0) y.0 in
      record {
        goes = tells.from.goes;
        own = tells.from.own;
        differs = λ e. tells.new (subst (λ (x : V). joined x (at_key cmp known y.0) ≡ at_key cmp known y.0) (sym e) there.own);
      }) ys ds t.picks;
}

points : {K V : Type 0} {cmp : K → K → Ordering} {kin : V → V → Type 0} {joined : V → V → V} → IsTotalOrder cmp → JoinLaws kin joined → (exact : Type 0) (known : Table K V) (ys ds : List (K × V)) → Told cmp kin joined exact known ys ds → (key : K) → Serves kin joined exact known.start (at_key cmp known key) (at_key cmp (table known.start ys) key) (at_key cmp (table known.start ds) key)
points {K} {V} {cmp} {kin} {joined} o laws exact known ys ds t key =
    let q : K × V = (key, known.start) in
    let s = start_of laws exact known ys ds t key in
    told_serves cmp laws exact known key (found (by_key cmp) q ys) (found (by_key cmp) q ds) (at_from known t.known_is s key)
    (λ y f. let kept : IsKept kin joined known.start y.1 = found_each (λ (x : K × V). IsKept kin joined known.start x.1) (by_key cmp) q y ys t.value_is.kept f in record { goes = kept.goes; own = kept.own })
    (λ y f. t.tells_apart key y.0 (found_has_key (by_key cmp) q y ys f))
    (picked_found (by_key_total o) (told_keys cmp kin joined exact known) q ys ds t.value_is.ascending t.picks)

-- maps of one start go together
go : {K V : Type 0} {cmp : K → K → Ordering} {kin : V → V → Type 0} {joined : V → V → V} → JoinLaws kin joined → (a b : Table K V) → TellsApart cmp → IsMap cmp kin joined a → IsMap cmp kin joined b → a.start ≡ b.start → (K → kin a.start a.start) → MapsKin cmp kin joined a b
go laws a b tells h k e s = record { tells_apart = tells; left = h; right = k; starts = e; values = λ key. (maps_go laws a b tells h k e (s key)).values key }

pub told_lacks : {K V : Type 0} {cmp : K → K → Ordering} {kin : V → V → Type 0} {joined : V → V → V} → IsTotalOrder cmp → JoinLaws kin joined → (exact : Type 0) (start known : Table K V) (ys ds : List (K × V)) (first : K × V) (rest : List (K × V)) → Told cmp kin joined exact known ys ds → start.entries ≡ [] → MapsKin cmp kin joined start known → ds ≡ first ∷ rest
    → Lacks (MapsKin cmp kin joined) (maps_joined cmp joined) exact start known (table known.start ys) (Some (table known.start ds))
told_lacks {K} {V} {cmp} {kin} {joined} o laws exact start known ys ds first rest t empty goes is =
    let d : Table K V = table known.start ds in
    let v : Table K V = table known.start ys in
    let d_is : IsMap cmp kin joined d = told_map laws exact known ys ds t in
    let kd : MapsKin cmp kin joined known d = go laws known d t.tells_apart t.known_is d_is refl t.itself in
    let kv : MapsKin cmp kin joined known v = go laws known v t.tells_apart t.known_is t.value_is refl t.itself in
    let all : JoinLaws (MapsKin cmp kin joined) (maps_joined cmp joined) = map_laws o laws in
    let serves_at : (key : K) → Serves kin joined exact known.start (at_key cmp known key) (at_key cmp v key) (at_key cmp d key) = points o laws exact known ys ds t in
    let begun : union (by_key cmp) (on_value joined) start.entries ds ≡ ds = subst (λ (x : List (K × V)). union (by_key cmp) (on_value joined) x ds ≡ ds) (sym empty) (union-nil (by_key cmp) (on_value joined) ds d_is.ascending) in (
      record {
        from = record {
          goes = all.kin_trans start known d goes kd;
          own = same_table start.start known.start (union (by_key cmp) (on_value joined) start.entries ds) ds goes.starts begun;
        };
        same = same_values_same_map o (maps_joined cmp joined known d) (maps_joined cmp joined known v)
            (all.kin_trans (maps_joined cmp joined known d) known (maps_joined cmp joined known v) (all.kin_sym known (maps_joined cmp joined known d) (all.keeps known d kd)) (all.keeps known v kv))
            (λ key. at_key-joined o laws known d kd key ∙ ((serves_at key).same ∙ sym (at_key-joined o laws known v kv key)));
        new = λ below.
            let head : Head (value_told cmp kin joined exact known) first = picked_head ys ds first rest is t.picks in
            let key : first.0 ≡ head.entry.0 = head.is.0 in
            let q : K × V = (first.0, known.start) in
            let there : found (by_key cmp) q ds ≡ Some first = ap (found (by_key cmp) q) is ∙ found_first (by_key cmp) q first rest (tied_itself o first.0) in
            let value : at_key cmp d first.0 ≡ first.1 = ap (value_or known.start) there in
            let point : joined (at_key cmp d first.0) (at_key cmp known first.0) ≡ at_key cmp known first.0 = sym (at_key-joined o laws d known (all.kin_sym known d kd) first.0) ∙ ap (λ (m : Table K V). at_key cmp m first.0) below in
            let here : joined first.1 (at_key cmp known first.0) ≡ at_key cmp known first.0 = subst (λ (x : V). joined x (at_key cmp known first.0) ≡ at_key cmp known first.0) value point in
            head.is.1.0.new (subst (λ (k : K). joined first.1 (at_key cmp known k) ≡ at_key cmp known k) key here);
      },
      λ x. record {
        below = λ other f e.
            let ko : MapsKin cmp kin joined known other = all.kin_trans known start other (all.kin_sym start known goes) f.goes in
            let dk : MapsKin cmp kin joined d other = all.kin_trans d known other (all.kin_sym known d kd) ko in
            same_values_same_map o (maps_joined cmp joined d other) other
            (all.kin_trans (maps_joined cmp joined d other) d other (all.kin_sym d (maps_joined cmp joined d other) (all.keeps d other dk)) dk)
            (λ key.
            let s = start_of laws exact known ys ds t key in
            let there : IsFrom kin joined known.start (at_key cmp other key) = subst (λ (z : V). IsFrom kin joined z (at_key cmp other key)) (sym ko.starts) (at_from other ko.right (subst (λ (z : V). IsFrom kin joined z z) ko.starts s) key) in
            let gives : joined (at_key cmp known key) (at_key cmp other key) ≡ joined (at_key cmp known key) (at_key cmp v key) = sym (at_key-joined o laws known other ko key) ∙ (ap (λ (m : Table K V). at_key cmp m key) e ∙ at_key-joined o laws known v kv key) in
            at_key-joined o laws d other dk key ∙ ((serves_at key).least x).below (at_key cmp other key) there gives);
      },
    )

pub told_lacks_none : {K V : Type 0} {cmp : K → K → Ordering} {kin : V → V → Type 0} {joined : V → V → V} → IsTotalOrder cmp → JoinLaws kin joined → (exact : Type 0) (known : Table K V) (ys ds : List (K × V)) → Told cmp kin joined exact known ys ds → ds ≡ []
    → maps_joined cmp joined (table known.start ys) known ≡ known
told_lacks_none {K} {V} {cmp} {kin} {joined} o laws exact known ys ds t is =
    let v : Table K V = table known.start ys in
    let kv : MapsKin cmp kin joined v known = go laws v known t.tells_apart t.value_is t.known_is refl t.itself in
    let all : JoinLaws (MapsKin cmp kin joined) (maps_joined cmp joined) = map_laws o laws in
    same_values_same_map o (maps_joined cmp joined v known) known
    (all.kin_trans (maps_joined cmp joined v known) v known (all.kin_sym v (maps_joined cmp joined v known) (all.keeps v known kv)) kv)
    (λ key.
    let q : K × V = (key, known.start) in
    at_key-joined o laws v known kv key ∙ told_nothing cmp exact known key (found (by_key cmp) q ys) (at_from known t.known_is (start_of laws exact known ys ds t key) key)
    (λ y f. t.tells_apart key y.0 (found_has_key (by_key cmp) q y ys f))
    (subst (λ (x : List (K × V)). Picked (value_told cmp kin joined exact known) (found (by_key cmp) q ys) (found (by_key cmp) q x)) is (picked_found (by_key_total o) (told_keys cmp kin joined exact known) q ys ds t.value_is.ascending t.picks)))

-- what holds of two maps above an empty one
pub told_of : {K V : Type 0} {cmp : K → K → Ordering} {kin : V → V → Type 0} {joined : V → V → V} → JoinLaws kin joined → (exact : Type 0) (start known value : Table K V) (ds : List (K × V)) → start.entries ≡ [] → MapsKin cmp kin joined start known → MapsKin cmp kin joined start value → Picks (value_told cmp kin joined exact known) value.entries ds → Told cmp kin joined exact known value.entries ds
told_of {K} {V} {cmp} {kin} {joined} laws exact start known value ds empty h k picks =
    let starts : value.start ≡ known.start = sym k.starts ∙ h.starts in
    record {
      tells_apart = h.tells_apart;
      known_is = h.right;
      value_is = subst (λ (s : V). IsMap cmp kin joined (table s value.entries)) starts k.right;
      itself = λ key.
          let there : kin (at_key cmp start key) (at_key cmp known key) = h.values key in
          let begun : at_key cmp start key ≡ start.start = ap (λ (x : List (K × V)). value_or start.start (found (by_key cmp) (key, start.start) x)) empty in
          subst (λ (s : V). kin s s) h.starts (kin_left laws start.start (at_key cmp known key) (subst (λ (s : V). kin s (at_key cmp known key)) begun there));
      picks = picks;
    }

-- what a call that tells of a map gives: the entries of the value, what was picked of them, and the map made of that
pub told_value : {K V : Type 0} {cmp : K → K → Ordering} {kin : V → V → Type 0} {joined : V → V → V} → IsTotalOrder cmp → JoinLaws kin joined → (exact : V → Type 0) (start known value told : Table K V) (es ds : List (K × V)) → start.entries ≡ [] → MapsKin cmp kin joined start known → MapsKin cmp kin joined start value → es ≡ value.entries → Picks (value_told cmp kin joined (exact known.start) known) es ds → (ds ≡ [] → ⊥) → told.start ≡ known.start → told.entries ≡ ds
    → Lacks (MapsKin cmp kin joined) (maps_joined cmp joined) (exact start.start) start known value (Some told)
told_value {K} {V} {cmp} {kin} {joined} o laws exact start known value told es [] empty h k all picks full starts is = absurd (full refl)
told_value {K} {V} {cmp} {kin} {joined} o laws exact start known value told es (first ∷ rest) empty h k all picks full starts is =
    let ds : List (K × V) = first ∷ rest in
    let v : value ≡ table known.start value.entries = same_table value.start known.start value.entries value.entries (sym k.starts ∙ h.starts) refl in
    let t : told ≡ table known.start ds = same_table told.start known.start told.entries ds starts is in
    let mine : Picks (value_told cmp kin joined (exact known.start) known) value.entries ds = subst (λ (x : List (K × V)). Picks (value_told cmp kin joined (exact known.start) known) x ds) all picks in
    let lacks : Lacks (MapsKin cmp kin joined) (maps_joined cmp joined) (exact known.start) start known value (Some told) =
    subst (λ (x : Table K V). Lacks (MapsKin cmp kin joined) (maps_joined cmp joined) (exact known.start) start known x (Some told)) (sym v)
    (subst (λ (x : Table K V). Lacks (MapsKin cmp kin joined) (maps_joined cmp joined) (exact known.start) start known (table known.start value.entries) (Some x)) (sym t)
    (told_lacks o laws (exact known.start) start known value.entries ds first rest (told_of laws (exact known.start) start known value ds empty h k mine) empty h refl)) in
    (lacks.0, λ x. lacks.1 (subst exact h.starts x))

pub told_value_none : {K V : Type 0} {cmp : K → K → Ordering} {kin : V → V → Type 0} {joined : V → V → V} → IsTotalOrder cmp → JoinLaws kin joined → (exact : Type 0) (start known value : Table K V) (es ds : List (K × V)) → start.entries ≡ [] → MapsKin cmp kin joined start known → MapsKin cmp kin joined start value → es ≡ value.entries → Picks (value_told cmp kin joined exact known) es ds → ds ≡ []
    → maps_joined cmp joined value known ≡ known
told_value_none {K} {V} {cmp} {kin} {joined} o laws exact start known value es ds empty h k all picks is =
    let v : value ≡ table known.start value.entries = same_table value.start known.start value.entries value.entries (sym k.starts ∙ h.starts) refl in
    let mine : Picks (value_told cmp kin joined exact known) value.entries ds = subst (λ (x : List (K × V)). Picks (value_told cmp kin joined exact known) x ds) all picks in
    subst (λ (x : Table K V). maps_joined cmp joined x known ≡ known) (sym v) (told_lacks_none o laws exact known value.entries ds (told_of laws exact start known value ds empty h k mine) is)

pub told_value_map : {K V : Type 0} {cmp : K → K → Ordering} {kin : V → V → Type 0} {joined : V → V → V} → JoinLaws kin joined → (exact : Type 0) (start known value : Table K V) (es ds : List (K × V)) (s : V) → start.entries ≡ [] → MapsKin cmp kin joined start known → MapsKin cmp kin joined start value → es ≡ value.entries → Picks (value_told cmp kin joined exact known) es ds → s ≡ known.start → IsMap cmp kin joined (table s ds)
told_value_map {K} {V} {cmp} {kin} {joined} laws exact start known value es ds s empty h k all picks is =
    let mine : Picks (value_told cmp kin joined exact known) value.entries ds = subst (λ (x : List (K × V)). Picks (value_told cmp kin joined exact known) x ds) all picks in
    subst (λ (x : V). IsMap cmp kin joined (table x ds)) (sym is) (told_map laws exact known value.entries ds (told_of laws exact start known value ds empty h k mine))

-- the value at a key, as a call gives it
pub at_as : {K V : Type 0} {cmp : K → K → Ordering} {kin : V → V → Type 0} {joined : V → V → V} → JoinLaws kin joined → (m : Table K V) (s v : V) (key : K) (value : V) → s ≡ m.start → v ≡ at_key cmp m key → IsMap cmp kin joined m → IsFrom kin joined m.start value → IsFrom kin joined s v
at_as {K} {V} {cmp} {kin} {joined} laws m s v key value e f h from =
    subst (λ (x : V). IsFrom kin joined x v) (sym e) (subst (λ (x : V). IsFrom kin joined m.start x) (sym f) (at_from m h (start_from laws m.start value from) key))

-- the values of a map are at or above the start
kept_from : {K V : Type 0} (kin : V → V → Type 0) (joined : V → V → V) (s : V) (xs : List (K × V)) → AllByRecursion (λ (e : K × V). IsKept kin joined s e.1) xs → AllByRecursion (λ (e : K × V). IsFrom kin joined s e.1) xs
kept_from kin joined s [] h = tt
kept_from kin joined s (x ∷ xs) h = (record { goes = h.0.goes; own = h.0.own }, kept_from kin joined s xs h.1)

pub all_from : {K V : Type 0} {cmp : K → K → Ordering} {kin : V → V → Type 0} {joined : V → V → V} (start known value : Table K V) (es : List (K × V)) → MapsKin cmp kin joined start known → MapsKin cmp kin joined start value → es ≡ value.entries → AllByRecursion (λ (e : K × V). IsFrom kin joined known.start e.1) es
all_from {K} {V} {cmp} {kin} {joined} start known value es h k all =
    subst (λ (xs : List (K × V)). AllByRecursion (λ (e : K × V). IsFrom kin joined known.start e.1) xs) (sym all)
    (subst (λ (s : V). AllByRecursion (λ (e : K × V). IsFrom kin joined s e.1) value.entries) (sym k.starts ∙ h.starts) (kept_from kin joined value.start value.entries k.right.kept))

-- one step of a pass
grows_by : {K V : Type 0} (cmp : K → K → Ordering) (kin : V → V → Type 0) (joined : V → V → V) (exact : Type 0) (is_piece : V → V → Type 0) (known : Table K V) (entry : K × V) (o : Option V) (old new : List (K × V)) → Lacks kin joined exact known.start (at_key cmp known entry.0) entry.1 o → IfSome o (is_piece entry.1) → new ≡ with_told old entry.0 o → Grows (entry_told cmp kin joined exact is_piece known entry) old new
grows_by {K} {V} cmp kin joined exact is_piece known entry None old new lacks piece e = subst (λ (t : List (K × V)). Grows (entry_told cmp kin joined exact is_piece known entry) old t) (sym e) (stays (lacks, tt))
grows_by {K} {V} cmp kin joined exact is_piece known entry (Some d) old new lacks piece e = (let one : K × V = (entry.0, d) in grows_as old new one e ((refl, lacks), piece))

pub tells_one : {K V T X : Type 0} (cmp : K → K → Ordering) (kin : V → V → Type 0) (joined : V → V → V) (exact : Type 0) (is_piece : V → V → Type 0) (known : Table K V) (entry : K × V) (o : Option V) (old new : List (K × V)) (r : Result T X) → Lacks kin joined exact known.start (at_key cmp known entry.0) entry.1 o → IfSome o (is_piece entry.1) → OnOk r (new ≡ with_told old entry.0 o)
    → OnOk r (Grows (entry_told cmp kin joined exact is_piece known entry) old new)
tells_one cmp kin joined exact is_piece known entry o old new r lacks piece e = on_ok_weaker r (λ is. grows_by cmp kin joined exact is_piece known entry o old new lacks piece is) e
