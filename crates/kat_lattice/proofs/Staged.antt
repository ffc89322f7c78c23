-- What a merge asks of sets, maps and tallies that go together, and what its answers say of them.
use Rattle.std.proofs.Common.{◌≡◌, ◌↔◌, ℕ, zero, suc, ◌<◌, Bool, true, List, [], ◌∷◌, length, get_or, sym, ◌∙◌, ap, subst, arith}
use Rattle.std.specs.declared.cmp.Ordering.{Ordering}
use Rattle.std.specs.List.{AllByRecursion}
use Rattle.std.specs.Ordering.{nat_cmp}
use Rattle.kat_join.specs.JoinLaws.{JoinLaws, IsBelow}
use Rattle.kat_join.specs.Keyed.{IsAscending, by_key, on_value, union}
use Rattle.kat_join.specs.Merging.{any_two, Mergeable, values_kin}
use Rattle.kat_lattice.specs.Maps.{Table, IsKept, MapsKin, maps_joined}
use Rattle.kat_lattice.specs.Tallies.{Sums, TalliesKin}

-- the same over other names of the two lists
pub absorbed_as : {L : Type 0} (joined : L → L → L) (a b xs ys : L) (r : Bool) → xs ≡ a → ys ≡ b → ((r ≡ true) ↔ IsBelow joined xs ys) → (r ≡ true) ↔ IsBelow joined a b
absorbed_as {L} joined a b xs ys r e f h = subst (λ (u : L). (r ≡ true) ↔ IsBelow joined u b) e (subst (λ (v : L). (r ≡ true) ↔ IsBelow joined xs v) f h)

all_at : {E : Type 0} (P : E → Type 0) (xs : List E) (i : ℕ) (d : E) → AllByRecursion P xs → i < length xs → P (get_or xs i d)
all_at P [] i d h l = absurd (omega arith)
all_at P (x ∷ xs) zero d h l = h.0
all_at P (x ∷ xs) (suc i) d h l = all_at P xs i d h.1 (omega arith)

pub maps_mergeable : {K V : Type 0} {cmp : K → K → Ordering} {kin : V → V → Type 0} {joined : V → V → V} (laws : JoinLaws kin joined) (a b : Table K V) (xs ys : List (K × V)) → MapsKin cmp kin joined a b → xs ≡ a.entries → ys ≡ b.entries → Mergeable (by_key cmp) (values_kin cmp kin) xs ys
maps_mergeable {K} {V} {cmp} {kin} {joined} laws a b xs ys h e f = record {
  left = subst (λ (zs : List (K × V)). IsAscending (by_key cmp) zs) (sym e) h.left.ascending;
  right = subst (λ (zs : List (K × V)). IsAscending (by_key cmp) zs) (sym f) h.right.ascending;
  each = λ i j d g li lj.
      let x : K × V = get_or xs i d in
      let y : K × V = get_or ys j g in
      let mine : IsKept kin joined a.start x.1 = all_at (λ (z : K × V). IsKept kin joined a.start z.1) xs i d (subst (λ (zs : List (K × V)). AllByRecursion (λ (z : K × V). IsKept kin joined a.start z.1) zs) (sym e) h.left.kept) li in
      let theirs : IsKept kin joined b.start y.1 = all_at (λ (z : K × V). IsKept kin joined b.start z.1) ys j g (subst (λ (zs : List (K × V)). AllByRecursion (λ (z : K × V). IsKept kin joined b.start z.1) zs) (sym f) h.right.kept) lj in
      (h.tells_apart, laws.kin_trans x.1 a.start y.1 (laws.kin_sym a.start x.1 mine.goes) (subst (λ (s : V). kin s y.1) (sym h.starts) theirs.goes));
}

pub entries_of : {K V : Type 0} (m n : Table K V) (xs : List (K × V)) → xs ≡ m.entries → m ≡ n → xs ≡ n.entries
entries_of {K} {V} m n xs e f = e ∙ ap (λ (t : Table K V). t.entries) f

tables_same : {K V : Type 0} (s t : V) (xs ys : List (K × V)) → s ≡ t → xs ≡ ys → ◌≡◌ {A = Table K V} (record { start = s; entries = xs }) (record { start = t; entries = ys })
tables_same s t xs ys e f = cc

pub map_absorbed : {K V : Type 0} (cmp : K → K → Ordering) (joined : V → V → V) (a b : Table K V) (xs ys : List (K × V)) (r : Bool) → a.start ≡ b.start → xs ≡ a.entries → ys ≡ b.entries → ((r ≡ true) ↔ IsBelow (union (by_key cmp) (on_value joined)) xs ys) → (r ≡ true) ↔ IsBelow (maps_joined cmp joined) a b
map_absorbed {K} {V} cmp joined a b xs ys r s e f h =
    let lists = absorbed_as (union (by_key cmp) (on_value joined)) a.entries b.entries xs ys r e f h in
    (λ t. tables_same a.start b.start _ _ s (lists.0 t), λ low. lists.1 (ap (λ (t : Table K V). t.entries) low))

pub map_staged : {K V : Type 0} (cmp : K → K → Ordering) (joined : V → V → V) (a b : Table K V) (s : V) (xs ys zs : List (K × V)) → s ≡ a.start → xs ≡ a.entries → ys ≡ b.entries → zs ≡ union (by_key cmp) (on_value joined) xs ys → ◌≡◌ {A = Table K V} (record { start = s; entries = zs }) (maps_joined cmp joined a b)
map_staged {K} {V} cmp joined a b s xs ys zs e f g is =
    tables_same s a.start zs (union (by_key cmp) (on_value joined) a.entries b.entries) e
    (is ∙ (ap (λ (us : List (K × V)). union (by_key cmp) (on_value joined) us ys) f ∙ ap (λ (us : List (K × V)). union (by_key cmp) (on_value joined) a.entries us) g))

pub start_of : {K V : Type 0} (m n : Table K V) (s : V) → s ≡ m.start → m ≡ n → s ≡ n.start
start_of {K} {V} m n s e f = e ∙ ap (λ (t : Table K V). t.start) f

pub tallies_mergeable : (xs ys a b : Sums) → TalliesKin a b → xs ≡ a → ys ≡ b → Mergeable (by_key nat_cmp) any_two xs ys
tallies_mergeable xs ys a b h e f = record {
  left = subst (λ (zs : Sums). IsAscending (by_key nat_cmp) zs) (sym e) h.left.ascending;
  right = subst (λ (zs : Sums). IsAscending (by_key nat_cmp) zs) (sym f) h.right.ascending;
  each = λ i j d g li lj. tt;
}
