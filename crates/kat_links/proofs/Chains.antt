-- Items that are linked in an order.
use Rattle.std.proofs.Common.{◌≡◌, ℕ, zero, suc, ◌<◌, ◌≤◌, List, [], ◌∷◌, ◌++◌, length, Bool, true, false, ⊎_elim, refl, sym, ap, ◌∙◌, arith, Contains, Option, Some, eqb, subst}
use Rattle.std.proofs.lemmas.Bool.{ne_eqb, eqb-true}
use Rattle.std.specs.List.{IsDistinct, AllByRecursion, list_any}
use Rattle.std.proofs.lemmas.Map.Steps.{length-le_from_distinct_below}
use Rattle.kat_links.specs.declared.arena.Link.{Link}
use Rattle.kat_links.specs.Lists.{head, IsOnce}
use Rattle.kat_links.specs.Arenas.{AreLinked, link_at, follow}
use Rattle.kat_links.proofs.Members.{here, there, cons_cases, none_in}

-- the item before the one that follows this prefix
abbrev pub last_or : Option ℕ → List ℕ → Option ℕ
last_or before [] = before
last_or before (z ∷ zs) = last_or (Some z) zs

-- each item of the list is linked as one of it
pub linked_in : (links : List Link) (l : ℕ) (before : Option ℕ) (xs : List ℕ) (x : ℕ) → AreLinked links l before xs → Contains xs x → (x < length links) × ((link_at links x).list ≡ Some l)
linked_in links l before [] x are has = absurd (none_in x has)
linked_in links l before (y ∷ ys) x are has = ⊎_elim {C = (x < length links) × ((link_at links x).list ≡ Some l)}
    (λ (e : y ≡ x). let P : ℕ → Type 0 = λ z. (z < length links) × ((link_at links z).list ≡ Some l) in subst P e (are.0, ap (λ (k : Link). k.list) are.1))
    (λ (later : Contains ys x). linked_in links l (Some y) ys x are.2 later)
    (cons_cases y ys x has)

pub linked_at : (links : List Link) (l : ℕ) (before : Option ℕ) (front : List ℕ) (x : ℕ) (back : List ℕ) → AreLinked links l before (front ++ x ∷ back)
    → link_at links x ≡ record { list = Some l; before = last_or before front; next = head back }
linked_at links l before [] x back are = are.1
linked_at links l before (z ∷ zs) x back are = linked_at links l (Some z) zs x back are.2

-- links that are as they were
pub linked_frame : (links more : List Link) (l : ℕ) (before : Option ℕ) (xs : List ℕ) → length links ≤ length more → ((y : ℕ) → Contains xs y → link_at more y ≡ link_at links y) → AreLinked links l before xs → AreLinked more l before xs
linked_frame links more l before [] size same are = tt
linked_frame links more l before (y ∷ ys) size same are = (
  omega (arith, are.0, size),
  same y (here y ys) ∙ are.1,
  linked_frame links more l (Some y) ys size (λ z has. same z (there y ys z has)) are.2,
)

-- following the links gives the list
pub follow_linked : (links : List Link) (l : ℕ) (before : Option ℕ) (xs : List ℕ) (n : ℕ) → AreLinked links l before xs → length xs ≤ n → follow links n (head xs) ≡ xs
follow_linked links l before [] zero are h = refl
follow_linked links l before [] (suc n) are h = refl
follow_linked links l before (x ∷ xs) zero are h = absurd (omega arith)
follow_linked links l before (x ∷ xs) (suc n) are h =
    ap (λ (rest : List ℕ). x ∷ rest) (ap (λ (k : Link). follow links n k.next) are.1 ∙ follow_linked links l (Some x) xs n are.2 (omega arith))

differ_all : (x : ℕ) (xs : List ℕ) → (Contains xs x → ⊥) → AllByRecursion (λ (y : ℕ). eqb x y ≡ false) xs
differ_all x [] not_in = tt
differ_all x (y ∷ ys) not_in = (
  ne_eqb x y (λ e. not_in (subst (Contains (y ∷ ys)) (sym e) (here y ys))),
  differ_all x ys (λ has. not_in (there y ys x has)),
)

distinct : (xs : List ℕ) → IsOnce xs → IsDistinct eqb xs
unfolding IsDistinct
distinct [] once = tt
distinct (x ∷ xs) once = (differ_all x xs once.0, distinct xs once.1)

any_step : (q x : ℕ) (xs : List ℕ) (b : Bool) → b ≡ eqb q x → (list_any (eqb q) xs ≡ true → Contains xs q) → list_any (eqb q) (x ∷ xs) ≡ true → Contains (x ∷ xs) q
any_step q x xs true e more any = let same : x ≡ q = sym (eqb-true q x (sym e)) in subst (Contains (x ∷ xs)) same (here x xs)
any_step q x xs false e more any = let rest : list_any (eqb q) xs ≡ true = rw (sym e) at any in there x xs q (more rest)

any_in : (q : ℕ) (xs : List ℕ) → list_any (eqb q) xs ≡ true → Contains xs q
any_in q [] any = absurd (cc)
any_in q (x ∷ xs) any = any_step q x xs (eqb q x) refl (any_in q xs) any

-- a list has at most as many items as there are
pub linked_few : (links : List Link) (l : ℕ) (before : Option ℕ) (xs : List ℕ) → AreLinked links l before xs → IsOnce xs → length xs ≤ length links
linked_few links l before xs are once =
    length-le_from_distinct_below xs (length links) (distinct xs once) (λ q any. (linked_in links l before xs q are (any_in q xs any)).0)
