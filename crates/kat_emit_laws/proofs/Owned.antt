-- A sum that grew and is kept is what one operation more adds.
use Rattle.std.proofs.Common.{◌≡◌, ℕ, ◌+◌, ◌<◌, max, Bool, true, false, cond, List, [], ◌∷◌, refl, sym, ◌∙◌, ap, subst, arith, Option, None, Some}
use Rattle.std.specs.Prelude.{◌==◌}
use Rattle.std.specs.Cmp.{IsTotalOrder}
use Rattle.std.specs.Ordering.{is_eq, match_ordering, nat_cmp}
use Rattle.std.specs.declared.cmp.Ordering.{Ordering}
use Rattle.std.specs.declared.cmp.Ordering.TheVariants.{Less, Equal, Greater}
use Rattle.std.proofs.lemmas.Bool.{eqb-true}
use Rattle.std.proofs.lemmas.Cmp.{nat_cmp_total}
use Rattle.kat_num.specs.Orders.{value_order}
use Rattle.kat_num.specs.declared.values.Value.{Value}
use Rattle.kat_lattice.specs.Keyed.{IsAscending, IsBefore, by_key, found, on_value, put, value_or}
use Rattle.kat_lattice.specs.KeyedLaws.{ascending_put, before_all, by_key_total, each_put, found_before, keeps_by_key}
use Rattle.kat_lattice.specs.Maps.{MapsKin, Table, at_key}
use Rattle.kat_lattice.specs.Tallies.{IsTally, Sums, TalliesKin, sum_of, tallies_joined, tally_joined}
use Rattle.kat_lattice.proofs.MapEdits.{value_put_here, value_put_elsewhere}
use Rattle.kat_lattice.proofs.Readings.{same_sums_same_tally, takes_greater_sums}
use Rattle.kat_design.specs.KeyedTallies.{bumped_at}
use Rattle.kat_design.specs.Tallied.{bumped}
use Rattle.kat_design.proofs.Tallies.{adds_is_bumped, bumped_is, not_zero, sum_bumped}
use Rattle.kat_emit_laws.specs.Meanings.{new_one, with_own, with_own_at}

-- numbers
nothing_grew : (s w : ℕ) → s + w ≡ 0 → s ≡ s + w
nothing_grew s w e = omega arith

no_weight : (s w : ℕ) → s + w ≡ 0 → w ≡ 0
no_weight s w e = omega arith

no_sum : (s w : ℕ) → s ≡ 0 → w ≡ 0 → s + w ≡ 0
no_sum s w e f = omega arith

above : (v : ℕ) → (v == 0) ≡ false → 0 < v
above v e = let l : 0 < 0 + v = not_zero v 0 e in omega arith

not_above : (v : ℕ) → (v == 0) ≡ false → v ≡ 0 → ⊥
not_above v e f = let l = above v e in (let m : 0 < v = l in omega arith)

-- a tally
own_is : (sums : Sums) (replica v : ℕ) → IsTally sums → 0 < v → IsTally (put (by_key nat_cmp) (on_value new_one) (replica, v) sums)
own_is sums replica v h l =
    let e : ℕ × ℕ = (replica, v) in
    record {
      ascending = ascending_put (by_key nat_cmp) (on_value new_one) (by_key_total nat_cmp_total) (keeps_by_key nat_cmp new_one) e sums h.ascending;
      counted = each_put (by_key nat_cmp) (on_value new_one) (λ (x : ℕ × ℕ). 0 < x.1) (λ x y p q. q) e sums l h.counted;
    }

own_by : (sums : Sums) (replica w : ℕ) (b : Bool) → ((sum_of sums replica + w) == 0) ≡ b → IsTally sums
    → cond b sums (put (by_key nat_cmp) (on_value new_one) (replica, sum_of sums replica + w) sums) ≡ bumped sums replica w
own_by sums replica w true e h =
    adds_is_bumped sums sums replica w h h (record { here = nothing_grew (sum_of sums replica) w (eqb-true (sum_of sums replica + w) 0 e); elsewhere = λ other n. refl })
own_by sums replica w false e h =
    let v = sum_of sums replica + w in
    adds_is_bumped sums (put (by_key nat_cmp) (on_value new_one) (replica, v) sums) replica w h (own_is sums replica v h (above v e))
    (record {
      here = value_put_here nat_cmp_total 0 replica v sums h.ascending;
      elsewhere = λ other n. value_put_elsewhere nat_cmp_total 0 replica other v sums n;
    })

pub own_grown : (sums : Sums) (replica w : ℕ) → IsTally sums → with_own sums replica (sum_of sums replica + w) ≡ bumped sums replica w
own_grown sums replica w h = own_by sums replica w ((sum_of sums replica + w) == 0) refl h

-- an entry that is there already changes nothing
none_some : {X : Type 0} (o : Option X) (x : X) → o ≡ None → o ≡ Some x → ⊥
none_some o x e f = cc

same_some : {X : Type 0} (x y : X) → Some x ≡ Some y → x ≡ y
same_some x y e = cc

again_by : {E : Type 0} (cmp : E → E → Ordering) (onto : E → E → E) (o : IsTotalOrder cmp) (e x y : E) (ys : List E) (r : Ordering) → cmp e y ≡ r
    → cond (is_eq r) (Some y) (found cmp e ys) ≡ Some x → onto x e ≡ x → IsBefore cmp y ys → (found cmp e ys ≡ Some x → put cmp onto e ys ≡ ys)
    → match_ordering r (e ∷ y ∷ ys) (onto y e ∷ ys) (y ∷ put cmp onto e ys) ≡ y ∷ ys
again_by cmp onto o e x y ys Less l f same before rest = absurd (none_some (found cmp e ys) x (found_before cmp e ys (before_all o e y ys l before)) f)
again_by cmp onto o e x y ys Equal l f same before rest = ap (λ z. z ∷ ys) (subst (λ z. onto z e ≡ z) (sym (same_some y x f)) same)
again_by cmp onto o e x y ys Greater l f same before rest = ap (λ zs. y ∷ zs) (rest f)

put_again : {E : Type 0} (cmp : E → E → Ordering) (onto : E → E → E) (o : IsTotalOrder cmp) (e x : E) (xs : List E) → IsAscending cmp xs → found cmp e xs ≡ Some x → onto x e ≡ x → put cmp onto e xs ≡ xs
put_again cmp onto o e x [] asc f same = absurd (none_some (found cmp e []) x refl f)
put_again cmp onto o e x (y ∷ ys) asc f same = again_by cmp onto o e x y ys (cmp e y) refl f same asc.0 (λ g. put_again cmp onto o e x ys asc.1 g same)

-- two ways to put an entry onto what is there, which are one there
alike_by : {E : Type 0} (cmp : E → E → Ordering) (onto other : E → E → E) (e y : E) (ys : List E) (r : Ordering) → ((x : E) → cond (is_eq r) (Some y) (found cmp e ys) ≡ Some x → onto x e ≡ other x e)
    → (((x : E) → found cmp e ys ≡ Some x → onto x e ≡ other x e) → put cmp onto e ys ≡ put cmp other e ys)
    → match_ordering r (e ∷ y ∷ ys) (onto y e ∷ ys) (y ∷ put cmp onto e ys) ≡ match_ordering r (e ∷ y ∷ ys) (other y e ∷ ys) (y ∷ put cmp other e ys)
alike_by cmp onto other e y ys Less same rest = refl
alike_by cmp onto other e y ys Equal same rest = ap (λ z. z ∷ ys) (same y refl)
alike_by cmp onto other e y ys Greater same rest = ap (λ zs. y ∷ zs) (rest same)

put_alike : {E : Type 0} (cmp : E → E → Ordering) (onto other : E → E → E) (e : E) (xs : List E) → ((x : E) → found cmp e xs ≡ Some x → onto x e ≡ other x e) → put cmp onto e xs ≡ put cmp other e xs
put_alike cmp onto other e [] same = refl
put_alike cmp onto other e (y ∷ ys) same = alike_by cmp onto other e y ys (cmp e y) same (λ h. put_alike cmp onto other e ys h)

-- a tally is at or below the one with a weight more
greater_one : (a b : ℕ) → max a (b + a) ≡ b + a
greater_one a b = omega arith

joins_bumped : (sums : Sums) (replica w : ℕ) → IsTally sums → tallies_joined sums (bumped sums replica w) ≡ bumped sums replica w
joins_bumped sums replica w h =
    let more = bumped sums replica w in
    let is = bumped_is sums replica w h in
    same_sums_same_tally (tallies_joined sums more) more (record { left = tally_joined sums more h is; right = is })
    (λ key. takes_greater_sums sums more (record { left = h; right = is }) key
    ∙ ap (λ s. max (sum_of sums key) s) (sum_bumped sums replica w key h)
    ∙ greater_one (sum_of sums key) (cond (replica == key) w 0)
    ∙ sym (sum_bumped sums replica w key h))

bumped_zero : (sums : Sums) (replica w : ℕ) → w ≡ 0 → bumped sums replica w ≡ sums
bumped_zero sums replica w e = subst (λ n. bumped sums replica n ≡ sums) (sym e) refl

-- tallies at a key
abbrev no_tallies : Table Value Sums
no_tallies = record { start = []; entries = [] }

abbrev tallies_with : Sums → List (Value × Sums) → Table Value Sums
tallies_with start entries = record { start = start; entries = entries }

abbrev one_entry : Value → Sums → Value × Sums
one_entry key sums = (key, sums)

-- what is at a key: an entry, or the start, which is empty
same_entry : (start old u : Sums) (x : Value × Sums) (o : Option (Value × Sums)) → value_or start o ≡ old → u ≡ old → o ≡ Some x → one_entry x.0 u ≡ x
same_entry start old u x o is same f =
    let there : x.1 ≡ old = ap (value_or start) (sym f) ∙ is in
    ap (λ (s : Sums). one_entry x.0 s) (same ∙ sym there)

again_there : IsTotalOrder value_order → (start old u : Sums) (key : Value) (entries : List (Value × Sums)) (o : Option (Value × Sums)) → found (by_key value_order) (one_entry key u) entries ≡ o → IsAscending (by_key value_order) entries
    → value_or start o ≡ old → u ≡ old → start ≡ [] → (old ≡ [] → ⊥) → put (by_key value_order) (on_value new_one) (one_entry key u) entries ≡ entries
again_there total start old u key entries None f asc is same empty some = absurd (some (sym is ∙ empty))
again_there total start old u key entries (Some x) f asc is same empty some =
    put_again (by_key value_order) (on_value new_one) (by_key_total total) (one_entry key u) x entries asc f (same_entry start old u x (Some x) is same refl)

-- without a weight
own_at_none : IsTotalOrder value_order → (table : Table Value Sums) (key : Value) (replica w : ℕ) (b : Bool) → ((sum_of (at_key value_order table key) replica + w) == 0) ≡ b → w ≡ 0
    → MapsKin value_order TalliesKin tallies_joined table no_tallies
    → cond b table (tallies_with table.start (put (by_key value_order) (on_value new_one) (key, with_own (at_key value_order table key) replica (sum_of (at_key value_order table key) replica + w)) table.entries)) ≡ table
own_at_none total table key replica w true e z kin = refl
own_at_none total table key replica w false e z kin =
    let old = at_key value_order table key in
    let u = with_own old replica (sum_of old replica + w) in
    let same : u ≡ old = own_grown old replica w (kin.values key).left ∙ bumped_zero old replica w z in
    ap (tallies_with table.start)
    (again_there total table.start old u key table.entries (found (by_key value_order) (one_entry key u) table.entries) refl kin.left.ascending refl same kin.starts
    (λ empty. not_above (sum_of old replica + w) e (no_sum (sum_of old replica) w (ap (λ s. sum_of s replica) empty) z)))

-- with a weight
own_at_some : (table : Table Value Sums) (key : Value) (replica w : ℕ) (b : Bool) → ((sum_of (at_key value_order table key) replica + w) == 0) ≡ b → (w == 0) ≡ false
    → MapsKin value_order TalliesKin tallies_joined table no_tallies
    → cond b table (tallies_with table.start (put (by_key value_order) (on_value new_one) (key, with_own (at_key value_order table key) replica (sum_of (at_key value_order table key) replica + w)) table.entries))
    ≡ tallies_with table.start (put (by_key value_order) (on_value tallies_joined) (key, bumped (at_key value_order table key) replica w) table.entries)
own_at_some table key replica w true e z kin =
    absurd (not_above w z (no_weight (sum_of (at_key value_order table key) replica) w (eqb-true (sum_of (at_key value_order table key) replica + w) 0 e)))
own_at_some table key replica w false e z kin =
    let old = at_key value_order table key in
    let h : IsTally old = (kin.values key).left in
    let v = bumped old replica w in
    ap (λ (u : Sums). tallies_with table.start (put (by_key value_order) (on_value new_one) (one_entry key u) table.entries)) (own_grown old replica w h)
    ∙ ap (tallies_with table.start)
    (put_alike (by_key value_order) (on_value new_one) (on_value tallies_joined) (one_entry key v) table.entries (λ x f.
    let there : x.1 ≡ old = ap (value_or table.start) (sym f) in
    ap (λ (s : Sums). one_entry x.0 s) (sym (joins_bumped old replica w h) ∙ ap (λ (s : Sums). tallies_joined s v) (sym there))))

own_at_by : IsTotalOrder value_order → (table : Table Value Sums) (key : Value) (replica w : ℕ) (b : Bool) → (w == 0) ≡ b → MapsKin value_order TalliesKin tallies_joined table no_tallies
    → with_own_at table key replica (sum_of (at_key value_order table key) replica + w)
    ≡ cond b table (tallies_with table.start (put (by_key value_order) (on_value tallies_joined) (key, bumped (at_key value_order table key) replica w) table.entries))
own_at_by total table key replica w true e kin =
    own_at_none total table key replica w ((sum_of (at_key value_order table key) replica + w) == 0) refl (eqb-true w 0 e) kin
own_at_by total table key replica w false e kin =
    own_at_some table key replica w ((sum_of (at_key value_order table key) replica + w) == 0) refl e kin

pub own_grown_at : IsTotalOrder value_order → (table : Table Value Sums) (key : Value) (replica w : ℕ) → MapsKin value_order TalliesKin tallies_joined table no_tallies
    → with_own_at table key replica (sum_of (at_key value_order table key) replica + w) ≡ bumped_at value_order table key replica w
own_grown_at total table key replica w kin = own_at_by total table key replica w (w == 0) refl kin
