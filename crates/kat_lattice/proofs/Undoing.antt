-- A step taken back gives the list before it.
use Rattle.std.proofs.Common.{◌≡◌, ℕ, zero, suc, ◌<◌, ◌≤◌, List, [], ◌∷◌, ◌++◌, length, get_or, set, take, drop, refl, sym, ◌∙◌, ap, subst, arith, Ok}
use Rattle.std.specs.Prelude.{remove}
use Rattle.std.specs.declared.cmp.Ordering.{Ordering}
use Rattle.std.specs.Cmp.{IsTotalOrder}
use Rattle.kat_join.specs.JoinLaws.{JoinLaws, IsBelow}
use Rattle.kat_join.specs.Keyed.{IsAscending, by_key}
use Rattle.kat_join.specs.Places.{IsAt, IsGap}
use Rattle.kat_lattice.specs.Maps.{Table, IsMap, JoinsAt}
use Rattle.kat_lattice.proofs.MapEdits.{map_edited, joins_edited}
use Rattle.kat_lattice.specs.Undos.{Undoes, UndoesAt}
use Rattle.kat_lattice.specs.declared.undo.Undo.TheVariants.{Same, Added, Changed}

inserted_long : {E : Type 0} (xs : List E) (i : ℕ) (e : E) → i ≤ length xs → i < length (take i xs ++ e ∷ drop i xs)
inserted_long [] zero e h = omega arith
inserted_long [] (suc i) e h = absurd (omega arith)
inserted_long (x ∷ xs) zero e h = omega arith
inserted_long (x ∷ xs) (suc i) e h = (let l = inserted_long xs i e (omega arith) in omega arith)

removed_again : {E : Type 0} (xs : List E) (i : ℕ) (e : E) → i ≤ length xs → remove (take i xs ++ e ∷ drop i xs) i ≡ xs
removed_again [] zero e h = refl
removed_again [] (suc i) e h = absurd (omega arith)
removed_again (x ∷ xs) zero e h = refl
removed_again (x ∷ xs) (suc i) e h = ap (λ ys. x ∷ ys) (removed_again xs i e (omega arith))

set_long : {E : Type 0} (xs : List E) (i : ℕ) (y : E) → i < length xs → i < length (set xs i y)
set_long [] i y h = absurd (omega arith)
set_long (x ∷ xs) zero y h = omega arith
set_long (x ∷ xs) (suc i) y h = (let l = set_long xs i y (omega arith) in omega arith)

set_again : {E : Type 0} (xs : List E) (i : ℕ) (y e : E) → e ≡ get_or xs i e → set (set xs i y) i e ≡ xs
set_again [] i y e h = refl
set_again (x ∷ xs) zero y e h = (cc)
set_again (x ∷ xs) (suc i) y e h = ap (λ ys. x ∷ ys) (set_again xs i y e h)

pub undoes_nothing : {E : Type 0} (Keeps : List E → Type 0) (xs ys : List E) → xs ≡ ys → Keeps xs → Undoes Keeps Same ys ys
undoes_nothing Keeps xs ys e k = record { inside = tt; back = refl; kept = subst Keeps e k }

pub undoes_added : {E : Type 0} (Keeps : List E → Type 0) (xs old new : List E) (i : ℕ) (e : E) → xs ≡ old → new ≡ take i xs ++ e ∷ drop i xs → i ≤ length xs → Keeps xs → Undoes Keeps (Added i) old new
undoes_added {E} Keeps xs old new i e same is h k = record {
  inside = subst (λ (ys : List E). i < length ys) (sym is) (inserted_long xs i e h);
  back = ap (λ (ys : List E). remove ys i) is ∙ (removed_again xs i e h ∙ same);
  kept = subst Keeps same k;
}

pub undoes_changed : {E : Type 0} (Keeps : List E → Type 0) (xs old new : List E) (i : ℕ) (e y : E) → xs ≡ old → new ≡ set xs i y → i < length xs → e ≡ get_or xs i e → Keeps xs → Undoes Keeps (Changed i e) old new
undoes_changed {E} Keeps xs old new i e y same is h there k = record {
  inside = subst (λ (ys : List E). i < length ys) (sym is) (set_long xs i y h);
  back = ap (λ (ys : List E). set ys i e) is ∙ (set_again xs i y e there ∙ same);
  kept = subst Keeps same k;
}

-- one place read twice
same_place : {E : Type 0} (xs : List E) (i : ℕ) (x y : E) → i < length xs → x ≡ get_or xs i x → y ≡ get_or xs i y → x ≡ y
same_place [] i x y h e f = absurd (omega arith)
same_place (z ∷ zs) zero x y h e f = e ∙ sym f
same_place (z ∷ zs) (suc i) x y h e f = same_place zs i x y (omega arith) e f

pub copied_place : {K V : Type 0} (xs : List (K × V)) (i : ℕ) (x y : K × V) (u : V) → i < length xs → x ≡ get_or xs i x → y ≡ get_or xs i y → u ≡ x.1 → u ≡ y.1
copied_place {K} {V} xs i x y u l e f g = g ∙ ap (λ (t : K × V). t.1) (same_place xs i x y l e f)

pub map_replaced : {K V : Type 0} {cmp : K → K → Ordering} {kin : V → V → Type 0} {joined : V → V → V} (o : IsTotalOrder cmp) (laws : JoinLaws kin joined) (m : Table K V) (key : K) (w : V) (i : ℕ) (x : K × V) (v : V) (p : K × V) → IsMap cmp kin joined m → IsAt (λ (e : K × V). cmp e.0 key) m.entries i → x ≡ get_or m.entries i x → kin x.1 w → v ≡ joined x.1 w → p ≡ (x.0, v) → IsMap cmp kin joined (record { start = m.start; entries = set m.entries i p })
map_replaced {K} {V} {cmp} {kin} {joined} o laws m key w i x v p h at is k done e =
    subst (λ (q : K × V). IsMap cmp kin joined (record { start = m.start; entries = set m.entries i q })) (sym e) (map_edited o laws {E = Unit {0}} m key w i x v (Ok tt) h at is k done tt)

pub joins_replaced : {K V : Type 0} {cmp : K → K → Ordering} (joined : V → V → V) (o : IsTotalOrder cmp) (m n : Table K V) (key : K) (w : V) (i : ℕ) (x : K × V) (v : V) (p : K × V) → m ≡ n → IsAscending (by_key cmp) m.entries → IsAt (λ (e : K × V). cmp e.0 key) m.entries i → x ≡ get_or m.entries i x → v ≡ joined x.1 w → p ≡ (x.0, v) → JoinsAt cmp joined n key w (record { start = m.start; entries = set m.entries i p })
joins_replaced {K} {V} {cmp} joined o m n key w i x v p same asc at is done e =
    subst (λ (q : K × V). JoinsAt cmp joined n key w (record { start = m.start; entries = set m.entries i q })) (sym e) (joins_edited joined o {E = Unit {0}} m n key w i x v (Ok tt) same asc at is done)

pub undoes_replaced : {K V : Type 0} (Keeps : Table K V → Type 0) (m n : Table K V) (i : ℕ) (e p x : K × V) → m ≡ n → i < length m.entries → x ≡ get_or m.entries i x → e ≡ x → Keeps m → UndoesAt Keeps (Changed i e) n (record { start = m.start; entries = set m.entries i p })
undoes_replaced {K} {V} Keeps m n i e p x same l is r k =
    let there : e ≡ get_or m.entries i e = subst (λ (y : K × V). y ≡ get_or m.entries i y) (sym r) is in
    let whole : Table K V = record { start = m.start; entries = set m.entries i p } in
    subst (λ (t : Table K V). UndoesAt Keeps (Changed i e) t whole) same (record { start = refl; inside = set_long m.entries i p l; back = set_again m.entries i p e there; kept = k })

pub undoes_new : {K V : Type 0} (Keeps : Table K V → Type 0) (m n : Table K V) (i : ℕ) (e : K × V) (ys : List (K × V)) → m ≡ n → i ≤ length m.entries → ys ≡ take i m.entries ++ e ∷ drop i m.entries → Keeps m → UndoesAt Keeps (Added i) n (record { start = m.start; entries = ys })
undoes_new {K} {V} Keeps m n i e ys same l is k =
    let whole : Table K V = record { start = m.start; entries = ys } in
    subst (λ (t : Table K V). UndoesAt Keeps (Added i) t whole) same (record {
      start = refl;
      inside = subst (λ (zs : List (K × V)). i < length zs) (sym is) (inserted_long m.entries i e l);
      back = ap (λ (zs : List (K × V)). remove zs i) is ∙ removed_again m.entries i e l;
      kept = k;
    })

pub in_place : {K V : Type 0} (xs : List (K × V)) (i : ℕ) (key : K) (cmp : K → K → Ordering) → IsAt (λ (e : K × V). cmp e.0 key) xs i → i < length xs
in_place xs i key cmp h = h.in_range

pub in_gap : {K V : Type 0} (xs : List (K × V)) (i : ℕ) (key : K) (cmp : K → K → Ordering) → IsGap (λ (e : K × V). cmp e.0 key) xs i → i ≤ length xs
in_gap xs i key cmp h = h.in_range

-- what is absorbed already adds nothing
pub absorbed : {L : Type 0} {kin : L → L → Type 0} {joined : L → L → L} → JoinLaws kin joined → (mine theirs : L) → kin mine theirs → IsBelow joined theirs mine → mine ≡ joined mine theirs
absorbed laws mine theirs h low = sym low ∙ sym (laws.comm mine theirs h)
