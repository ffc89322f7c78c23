-- Items that move to another list, and the two items of a clause.
use Rattle.std.proofs.Common.{◌≡◌, ◌≢◌, ℕ, ◌+◌, ◌*◌, ◌/◌, ◌%◌, ◌<◌, List, [], ◌∷◌, ◌++◌, length, ◌⊎◌, inl, inr, ⊎_elim, sym, ap, ◌∙◌, arith, subst, Contains, filter}
use Rattle.std.proofs.Math.ListN.{get_or-map}
use Rattle.std.proofs.lemmas.Bool.{cases_eq}
use Rattle.std.proofs.lemmas.List.{length-set, length-map, get_or-set_same, get_or-set_other}
use Rattle.kat_links.specs.Lists.{list_at, is_other, without, with_first, IsOnce}
use Rattle.kat_links.proofs.Members.{here, there, cons_cases, filter_in, filter_keeps, filter_middle}
use Rattle.kat_watch.specs.States.{partner}

-- the lists with an item in front of one, in place of where it was
abbrev pub moved : ℕ → ℕ → List (List ℕ) → List (List ℕ)
moved l y ls = with_first l y (without y ls)

without_size : (y : ℕ) (ls : List (List ℕ)) → length (without y ls) ≡ length ls
without_size y ls = length-map ls (filter (is_other y))

without_at : (y : ℕ) (ls : List (List ℕ)) (m : ℕ) → list_at (without y ls) m ≡ filter (is_other y) (list_at ls m)
without_at y ls m = get_or-map (filter (is_other y)) ls m []

pub moved_size : (l y : ℕ) (ls : List (List ℕ)) → length (moved l y ls) ≡ length ls
moved_size l y ls = length-set (without y ls) l (y ∷ list_at (without y ls) l) ∙ without_size y ls

moved_same : (l y : ℕ) (ls : List (List ℕ)) → l < length ls → list_at (moved l y ls) l ≡ y ∷ filter (is_other y) (list_at ls l)
moved_same l y ls h = get_or-set_same (without y ls) l (y ∷ list_at (without y ls) l) [] (omega (arith, without_size y ls, h)) ∙ ap (λ (xs : List ℕ). y ∷ xs) (without_at y ls l)

moved_other : (l y : ℕ) (ls : List (List ℕ)) (m : ℕ) → m ≢ l → list_at (moved l y ls) m ≡ filter (is_other y) (list_at ls m)
moved_other l y ls m ne = get_or-set_other (without y ls) l m (y ∷ list_at (without y ls) l) [] ne ∙ without_at y ls m

-- what is in a list was there, or has moved there
pub in_moved : (l y : ℕ) (ls : List (List ℕ)) (m x : ℕ) → l < length ls → Contains (list_at (moved l y ls) m) x → ((x ≡ y) × (m ≡ l)) ⊎ ((x ≢ y) × Contains (list_at ls m) x)
in_moved l y ls m x h has = ⊎_elim {C = ((x ≡ y) × (m ≡ l)) ⊎ ((x ≢ y) × Contains (list_at ls m) x)}
    (λ (e : m ≡ l).
    let at : list_at (moved l y ls) m ≡ y ∷ filter (is_other y) (list_at ls m) =
    let P : ℕ → Type 0 = λ n. list_at (moved l y ls) n ≡ y ∷ filter (is_other y) (list_at ls n) in subst P (sym e) (moved_same l y ls h) in
    let P : List ℕ → Type 0 = λ xs. Contains xs x in
    ⊎_elim {C = ((x ≡ y) × (m ≡ l)) ⊎ ((x ≢ y) × Contains (list_at ls m) x)}
    (λ (f : y ≡ x). inl (sym f, e))
    (λ (later : Contains (filter (is_other y) (list_at ls m)) x). let was = filter_in y (list_at ls m) x later in inr (was.1, was.0))
    (cons_cases y (filter (is_other y) (list_at ls m)) x (subst P at has)))
    (λ (ne : m ≡ l → ⊥).
    let P : List ℕ → Type 0 = λ xs. Contains xs x in
    let was = filter_in y (list_at ls m) x (subst P (moved_other l y ls m ne) has) in inr (was.1, was.0))
    (cases_eq m l)

-- another item stays in its list
pub moved_in : (l y : ℕ) (ls : List (List ℕ)) (m x : ℕ) → l < length ls → x ≢ y → Contains (list_at ls m) x → Contains (list_at (moved l y ls) m) x
moved_in l y ls m x h ne has =
    let P : List ℕ → Type 0 = λ xs. Contains xs x in
    let kept : Contains (filter (is_other y) (list_at ls m)) x = filter_keeps y (list_at ls m) x ne has in
    ⊎_elim
    (λ (e : m ≡ l).
    let Q : ℕ → Type 0 = λ n. list_at (moved l y ls) n ≡ y ∷ filter (is_other y) (list_at ls n) in
    subst P (sym (subst Q (sym e) (moved_same l y ls h))) (there y (filter (is_other y) (list_at ls m)) x kept))
    (λ (differs : m ≡ l → ⊥). subst P (sym (moved_other l y ls m differs)) kept)
    (cases_eq m l)

pub moved_here : (l y : ℕ) (ls : List (List ℕ)) → l < length ls → Contains (list_at (moved l y ls) l) y
moved_here l y ls h = let P : List ℕ → Type 0 = λ xs. Contains xs y in subst P (sym (moved_same l y ls h)) (here y (filter (is_other y) (list_at ls l)))

-- the list that an item has left
pub moved_split : (l y : ℕ) (ls : List (List ℕ)) (m : ℕ) (front back : List ℕ) → m ≢ l → IsOnce (list_at ls m) → list_at ls m ≡ front ++ y ∷ back → list_at (moved l y ls) m ≡ front ++ back
moved_split l y ls m front back ne once whole = moved_other l y ls m ne ∙ ap (filter (is_other y)) whole ∙ filter_middle front y back (subst IsOnce whole once)

pub partner_even : (c : ℕ) → partner (2 * c) ≡ 2 * c + 1
partner_even c = omega arith

pub partner_odd : (c : ℕ) → partner (2 * c + 1) ≡ 2 * c
partner_odd c = omega arith

pub half_even : (c : ℕ) → (2 * c) / 2 ≡ c
half_even c = omega arith

pub half_odd : (c : ℕ) → (2 * c + 1) / 2 ≡ c
half_odd c = omega arith

pub partner_twice : (x : ℕ) → partner (partner x) ≡ x
partner_twice x = omega arith

pub partner_half : (x : ℕ) → partner x / 2 ≡ x / 2
partner_half x = omega arith

pub partner_differs : (x : ℕ) → partner x ≢ x
partner_differs x e = omega arith

pub even_or_odd : (x : ℕ) → (x ≡ 2 * (x / 2)) ⊎ (x ≡ 2 * (x / 2) + 1)
even_or_odd x = ⊎_elim {C = (x ≡ 2 * (x / 2)) ⊎ (x ≡ 2 * (x / 2) + 1)} (λ (e : x % 2 ≡ 0). inl (omega arith)) (λ (ne : x % 2 ≡ 0 → ⊥). inr (omega arith)) (cases_eq (x % 2) 0)
