-- The least entry of two lists that descend, taken from their ends.
use Rattle.std.proofs.Common.{◌≡◌, ℕ, ◌+◌, ◌<◌, ◌≤◌, List, [], ◌∷◌, ◌++◌, Option, Some, None, length, reverse, refl, sym, ◌∙◌, ap, subst, arith, append_assoc, append-nil, length-append}
use Rattle.std.specs.declared.cmp.Ordering.{Ordering}
use Rattle.std.specs.declared.cmp.Ordering.TheVariants.{Less, Equal, Greater}
use Rattle.std.specs.Cmp.{IsTotalOrder}
use Rattle.std.specs.Option.{MatchOption, option_to_list}
use Rattle.std.proofs.lemmas.List.{length-reverse, reverse-append, reverse-reverse}
use Rattle.kat_join.specs.Keyed.{IsAscending, union}
use Rattle.kat_lattice.specs.Moving.{Pops, TakesFirst, heads_compared}
use Rattle.kat_lattice.specs.Sets.{first_one, keeps_first}
use Rattle.kat_join.proofs.Merges.{union_less, union_greater, union_equal, union-nil}

-- the last entry is the first of the list turned round
pub turned : {E : Type 0} (xs ys : List E) (r : Option E) → xs ≡ ys ++ option_to_list r → reverse xs ≡ option_to_list r ++ reverse ys
turned xs ys None e = ap reverse e ∙ reverse-append ys []
turned xs ys (Some x) e = ap reverse e ∙ reverse-append ys (x ∷ [])

less_some : {E : Type 0} {cmp : E → E → Ordering} (o : IsTotalOrder cmp) (x : E) (us ys : List E) → heads_compared cmp (x ∷ us) ys ≡ Less → IsAscending cmp (x ∷ us) → IsAscending cmp ys → TakesFirst cmp (x ∷ us) ys x us ys
less_some o x us [] e h k = record { next = refl; mine = h.1; fresh = tt; fewer = omega arith }
less_some {E} {cmp} o x us (y ∷ ys) e h k = record { next = union_less cmp first_one o (keeps_first cmp) x y us ys e k; mine = h.1; fresh = k; fewer = omega arith }

less_none : {E : Type 0} (cmp : E → E → Ordering) (ys : List E) → heads_compared cmp [] ys ≡ Less → ys ≡ []
less_none cmp [] e = refl
less_none cmp (y ∷ ys) e = (cc)

pub pops_less : {E : Type 0} {cmp : E → E → Ordering} (o : IsTotalOrder cmp) (xs us ys : List E) (r : Option E) → heads_compared cmp xs ys ≡ Less → IsAscending cmp xs → IsAscending cmp ys → (r ≡ None → xs ≡ []) → xs ≡ option_to_list r ++ us → Pops cmp xs ys r us ys
pops_less {E} {cmp} o xs us ys None e h k n is =
    let empty : xs ≡ [] = n refl in
    (empty, less_none cmp ys (subst (λ (zs : List E). heads_compared cmp zs ys ≡ Less) empty e))
pops_less {E} {cmp} o xs us ys (Some x) e h k n is =
    subst (λ (zs : List E). TakesFirst cmp zs ys x us ys) (sym is) (less_some o x us ys (subst (λ (zs : List E). heads_compared cmp zs ys ≡ Less) is e) (subst (λ (zs : List E). IsAscending cmp zs) is h) k)

greater_some : {E : Type 0} {cmp : E → E → Ordering} (o : IsTotalOrder cmp) (y : E) (xs vs : List E) → heads_compared cmp xs (y ∷ vs) ≡ Greater → IsAscending cmp xs → IsAscending cmp (y ∷ vs) → TakesFirst cmp xs (y ∷ vs) y xs vs
greater_some {E} {cmp} o y [] vs e h k = record { next = union-nil cmp first_one (y ∷ vs) k ∙ ap (λ (zs : List E). y ∷ zs) (sym (union-nil cmp first_one vs k.1)); mine = tt; fresh = k.1; fewer = omega arith }
greater_some {E} {cmp} o y (x ∷ xs) vs e h k = record { next = union_greater cmp first_one o (keeps_first cmp) x y xs vs e h k; mine = h; fresh = k.1; fewer = omega arith }

greater_none : {E : Type 0} (cmp : E → E → Ordering) (xs : List E) → heads_compared cmp xs [] ≡ Greater → ⊥
greater_none cmp [] e = (cc)
greater_none cmp (x ∷ xs) e = (cc)

pub pops_greater : {E : Type 0} {cmp : E → E → Ordering} (o : IsTotalOrder cmp) (xs ys vs : List E) (r : Option E) → heads_compared cmp xs ys ≡ Greater → IsAscending cmp xs → IsAscending cmp ys → (r ≡ None → ys ≡ []) → ys ≡ option_to_list r ++ vs → Pops cmp xs ys r xs vs
pops_greater {E} {cmp} o xs ys vs None e h k n is = absurd (greater_none cmp xs (subst (λ (zs : List E). heads_compared cmp xs zs ≡ Greater) (n refl) e))
pops_greater {E} {cmp} o xs ys vs (Some y) e h k n is =
    subst (λ (zs : List E). TakesFirst cmp xs zs y xs vs) (sym is) (greater_some o y xs vs (subst (λ (zs : List E). heads_compared cmp xs zs ≡ Greater) is e) h (subst (λ (zs : List E). IsAscending cmp zs) is k))

equal_left : {E : Type 0} (cmp : E → E → Ordering) (ys : List E) → heads_compared cmp [] ys ≡ Equal → ⊥
equal_left cmp [] e = (cc)
equal_left cmp (y ∷ ys) e = (cc)

equal_right : {E : Type 0} (cmp : E → E → Ordering) (xs : List E) → heads_compared cmp xs [] ≡ Equal → ⊥
equal_right cmp [] e = (cc)
equal_right cmp (x ∷ xs) e = (cc)

equal_some : {E : Type 0} {cmp : E → E → Ordering} (o : IsTotalOrder cmp) (x y : E) (us vs : List E) → cmp x y ≡ Equal → IsAscending cmp (x ∷ us) → IsAscending cmp (y ∷ vs) → TakesFirst cmp (x ∷ us) (y ∷ vs) x us vs
equal_some {E} {cmp} o x y us vs e h k = record { next = union_equal cmp first_one o (keeps_first cmp) x y us vs e k; mine = h.1; fresh = k.1; fewer = omega arith }

pub pops_equal : {E : Type 0} {cmp : E → E → Ordering} (o : IsTotalOrder cmp) (xs ys us vs : List E) (r s : Option E) → heads_compared cmp xs ys ≡ Equal → IsAscending cmp xs → IsAscending cmp ys → (r ≡ None → xs ≡ []) → (s ≡ None → ys ≡ []) → xs ≡ option_to_list r ++ us → ys ≡ option_to_list s ++ vs → Pops cmp xs ys r us vs
pops_equal {E} {cmp} o xs ys us vs None s e h k n m is are = absurd (equal_left cmp ys (subst (λ (zs : List E). heads_compared cmp zs ys ≡ Equal) (n refl) e))
pops_equal {E} {cmp} o xs ys us vs (Some x) None e h k n m is are = absurd (equal_right cmp xs (subst (λ (zs : List E). heads_compared cmp xs zs ≡ Equal) (m refl) e))
pops_equal {E} {cmp} o xs ys us vs (Some x) (Some y) e h k n m is are =
    let first : cmp x y ≡ Equal = subst (λ (zs : List E). heads_compared cmp (x ∷ us) zs ≡ Equal) are (subst (λ (zs : List E). heads_compared cmp zs ys ≡ Equal) is e) in
    subst (λ (zs : List E). TakesFirst cmp zs ys x us vs) (sym is) (subst (λ (zs : List E). TakesFirst cmp (x ∷ us) zs x us vs) (sym are)
    (equal_some o x y us vs first (subst (λ (zs : List E). IsAscending cmp zs) is h) (subst (λ (zs : List E). IsAscending cmp zs) are k)))

empty_turned : {E : Type 0} (xs : List E) → length xs ≡ 0 → reverse xs ≡ []
empty_turned [] h = refl
empty_turned (x ∷ xs) h = (cc)

pub none_left : {E : Type 0} (xs : List E) (n m : ℕ) (Q : E → Type 0) (r : Option E) → length xs ≡ n → MatchOption r ((n ≡ 0) × (m ≡ 0)) Q → r ≡ None → reverse xs ≡ []
none_left {E} xs n m Q r l h e =
    let both : (n ≡ 0) × (m ≡ 0) = subst (λ (t : Option E). MatchOption t ((n ≡ 0) × (m ≡ 0)) Q) e h in
    empty_turned xs (l ∙ both.0)

-- what is moved, and what is left of both lists, stays the whole
pub record Moves {E : Type 0} (cmp : E → E → Ordering) (old new entries mine fresh : List E) (capacity : ℕ) : Type 0 where
  pub joined : entries ++ union cmp first_one (reverse mine) (reverse fresh) ≡ union cmp first_one old new
  pub mine_rises : IsAscending cmp (reverse mine)
  pub fresh_rises : IsAscending cmp (reverse fresh)
  pub room : length entries + (length mine + length fresh) ≤ capacity

pub moves_start : {E : Type 0} {cmp : E → E → Ordering} (old new entries mine fresh : List E) (capacity : ℕ) → entries ≡ [] → mine ≡ reverse old → fresh ≡ reverse new → IsAscending cmp old → IsAscending cmp new → length old + length new ≤ capacity → Moves cmp old new entries mine fresh capacity
moves_start {E} {cmp} old new entries mine fresh capacity e m f h k l =
    let first : reverse mine ≡ old = ap reverse m ∙ reverse-reverse old in
    let second : reverse fresh ≡ new = ap reverse f ∙ reverse-reverse new in
    let some : length mine ≡ length old = ap length m ∙ length-reverse old in
    let others : length fresh ≡ length new = ap length f ∙ length-reverse new in
    let none : length entries ≡ 0 = ap length e in
    record {
      joined = ap (λ (zs : List E). zs ++ union cmp first_one (reverse mine) (reverse fresh)) e ∙ (ap (λ (zs : List E). union cmp first_one zs (reverse fresh)) first ∙ ap (union cmp first_one old) second);
      mine_rises = subst (λ (zs : List E). IsAscending cmp zs) (sym first) h;
      fresh_rises = subst (λ (zs : List E). IsAscending cmp zs) (sym second) k;
      room = omega arith;
    }

pub moves_step : {E : Type 0} {cmp : E → E → Ordering} (old new entries mine fresh : List E) (capacity : ℕ) (e : E) (then_entries then_mine then_fresh : List E) (then_capacity : ℕ) → Moves cmp old new entries mine fresh capacity → TakesFirst cmp (reverse mine) (reverse fresh) e (reverse then_mine) (reverse then_fresh) → then_entries ≡ entries ++ e ∷ [] → capacity ≤ then_capacity → Moves cmp old new then_entries then_mine then_fresh then_capacity
moves_step {E} {cmp} old new entries mine fresh capacity e then_entries then_mine then_fresh then_capacity h k is l =
    let one : length (reverse mine) ≡ length mine = length-reverse mine in
    let two : length (reverse fresh) ≡ length fresh = length-reverse fresh in
    let three : length (reverse then_mine) ≡ length then_mine = length-reverse then_mine in
    let four : length (reverse then_fresh) ≡ length then_fresh = length-reverse then_fresh in
    let longer : length then_entries ≡ length entries + 1 = ap length is ∙ length-append entries (e ∷ []) in
    let fewer : length (reverse then_mine) + length (reverse then_fresh) < length (reverse mine) + length (reverse fresh) = k.fewer in
    let room : length entries + (length mine + length fresh) ≤ capacity = h.room in
    let rest = union cmp first_one (reverse then_mine) (reverse then_fresh) in
    record {
      joined = ap (λ (zs : List E). zs ++ rest) is ∙ (append_assoc entries (e ∷ []) rest ∙ (ap (λ (zs : List E). entries ++ zs) (sym k.next) ∙ h.joined));
      mine_rises = k.mine;
      fresh_rises = k.fresh;
      room = omega arith;
    }

pub moves_end : {E : Type 0} {cmp : E → E → Ordering} (old new entries mine fresh : List E) (capacity : ℕ) → Moves cmp old new entries mine fresh capacity → reverse mine ≡ [] → reverse fresh ≡ [] → entries ≡ union cmp first_one old new
moves_end {E} {cmp} old new entries mine fresh capacity h m f =
    sym (append-nil entries) ∙ (ap (λ (zs : List E). entries ++ union cmp first_one zs []) (sym m) ∙ (ap (λ (zs : List E). entries ++ union cmp first_one (reverse mine) zs) (sym f) ∙ h.joined))

-- a list that isn't all taken out takes room
pub moves_room : {E : Type 0} {cmp : E → E → Ordering} (old new entries mine fresh : List E) (capacity : ℕ) (e : E) (us vs : List E) → Moves cmp old new entries mine fresh capacity → TakesFirst cmp (reverse mine) (reverse fresh) e us vs → length entries < capacity
moves_room old new entries mine fresh capacity e us vs h k =
    let one : length (reverse mine) ≡ length mine = length-reverse mine in
    let two : length (reverse fresh) ≡ length fresh = length-reverse fresh in
    let fewer : length us + length vs < length (reverse mine) + length (reverse fresh) = k.fewer in
    let room : length entries + (length mine + length fresh) ≤ capacity = h.room in
    omega arith

pub moves_fall : {E : Type 0} {cmp : E → E → Ordering} (mine fresh then_mine then_fresh : List E) (e : E) → TakesFirst cmp (reverse mine) (reverse fresh) e (reverse then_mine) (reverse then_fresh) → length then_mine + length then_fresh < length mine + length fresh
moves_fall mine fresh then_mine then_fresh e k =
    let one : length (reverse mine) ≡ length mine = length-reverse mine in
    let two : length (reverse fresh) ≡ length fresh = length-reverse fresh in
    let three : length (reverse then_mine) ≡ length then_mine = length-reverse then_mine in
    let four : length (reverse then_fresh) ≡ length then_fresh = length-reverse then_fresh in
    let fewer : length (reverse then_mine) + length (reverse then_fresh) < length (reverse mine) + length (reverse fresh) = k.fewer in
    omega arith
