-- What an arena's fields stand for, after each call.
use Rattle.std.proofs.Common.{◌≡◌, ◌≢◌, ℕ, zero, suc, ◌+◌, ◌<◌, ◌≤◌, List, [], ◌∷◌, ◌++◌, length, get_or, set, map, replicate, ⊎_elim, refl, sym, ap, ◌∙◌, arith, Contains, Option, Some, None, subst, IfSome}
use Rattle.std.proofs.lemmas.Bool.{cases_eq}
use Rattle.std.proofs.lemmas.List.{length-set, length-map, length-replicate, length-append, get_or-set_same, get_or-set_other, get_or_default, same_lists}
use Rattle.std.proofs.lemmas.List.{get_or-map as mapped_at}
use Rattle.kat_links.specs.declared.arena.Link.{Link}
use Rattle.kat_links.specs.Lists.{head, list_at, with_first, IsOnce, IsArranged}
use Rattle.kat_links.specs.Arenas.{AreLinked, IsArena, link_at, first_at, nowhere, follow, lists_of, with_before, with_next}
use Rattle.kat_links.proofs.Members.{here, there, head_in}
use Rattle.kat_links.proofs.Chains.{linked_in, linked_frame, linked_few, follow_linked}
use Rattle.kat_links.proofs.Splices.{some_same, before_size, before_other, before_same, next_other}

-- the fields stand for these lists
pub shown : (firsts : List (Option ℕ)) (links : List Link) (lists : List (List ℕ)) → IsArena firsts links lists → lists_of firsts links ≡ lists
unfolding lists_of
shown firsts links lists is =
    let n = length links in
    let size : length (map (follow links n) firsts) ≡ length lists = length-map firsts (follow links n) ∙ is.size in
    same_lists (map (follow links n) firsts) lists size (λ k d h.
    let in_firsts : k < length firsts = omega (arith, h, size, is.size) in
    let in_lists : k < length lists = omega (arith, h, size) in
    mapped_at (follow links n) firsts k None d in_firsts ∙ ap (follow links n) (is.begins k)
    ∙ follow_linked links k None (list_at lists k) n (is.linked k) (linked_few links k None (list_at lists k) (is.linked k) (is.once k))
    ∙ get_or_default lists k [] d in_lists)

pub arena_again : (firsts : List (Option ℕ)) (links : List Link) (lists : List (List ℕ)) → IsArena firsts links lists → IsArena firsts links (lists_of firsts links)
arena_again firsts links lists is = let P : List (List ℕ) → Type 0 = IsArena firsts links in subst P (sym (shown firsts links lists is)) is

-- defaults after a list are not seen
pub padded : {X : Type 0} (xs : List X) (n i : ℕ) (d : X) → get_or (xs ++ replicate n d) i d ≡ get_or xs i d
padded [] zero i d = refl
padded [] (suc n) zero d = refl
padded [] (suc n) (suc i) d = padded [] n i d
padded (x ∷ xs) n zero d = refl
padded (x ∷ xs) n (suc i) d = padded xs n i d

-- an item is in one list
pub one_list : (firsts : List (Option ℕ)) (links : List Link) (lists : List (List ℕ)) → IsArena firsts links lists → (l m x : ℕ) → Contains (list_at lists l) x → Contains (list_at lists m) x → l ≡ m
one_list firsts links lists is l m x a b =
    some_same l m (sym (linked_in links l None (list_at lists l) x (is.linked l) a).1 ∙ (linked_in links m None (list_at lists m) x (is.linked m) b).1)

pub arranged : (firsts : List (Option ℕ)) (links : List Link) (lists : List (List ℕ)) → IsArena firsts links lists → IsArranged (record { items = length links; lists = lists })
arranged firsts links lists is = record {
  below = λ l x has. (linked_in links l None (list_at lists l) x (is.linked l) has).0;
  once = is.once;
  apart = one_list firsts links lists is;
}

-- all lists are empty
pub arena_none : (lists items : ℕ) → IsArena (replicate lists None) (replicate items nowhere) (replicate lists [])
arena_none lists items =
    let empty : (l : ℕ) → list_at (replicate lists []) l ≡ [] = λ l. padded {X = List ℕ} [] lists l [] in
    let free : (y : ℕ) → link_at (replicate items nowhere) y ≡ nowhere = λ y. padded {X = Link} [] items y nowhere in
    record {
      size = length-replicate {A = Option ℕ} lists None ∙ sym (length-replicate {A = List ℕ} lists []);
      begins = λ l. padded {X = Option ℕ} [] lists l None ∙ ap head (sym (empty l));
      linked = λ l. let P : List ℕ → Type 0 = AreLinked (replicate items nowhere) l None in subst P (sym (empty l)) tt;
      once = λ l. subst IsOnce (sym (empty l)) tt;
      listed = λ y l e. absurd (let clash : None ≡ Some l = sym (ap (λ (k : Link). k.list) (free y)) ∙ e in cc);
    }

-- empty lists and free items more
pub arena_more : (firsts : List (Option ℕ)) (links : List Link) (lists : List (List ℕ)) (n m : ℕ) → IsArena firsts links lists → IsArena (firsts ++ replicate n None) (links ++ replicate m nowhere) (lists ++ replicate n [])
arena_more firsts links lists n m is =
    let same : (l : ℕ) → list_at (lists ++ replicate n []) l ≡ list_at lists l = λ l. padded lists n l [] in
    record {
      size = length-append firsts (replicate n None) ∙ ap (λ (k : ℕ). length firsts + k) (length-replicate {A = Option ℕ} n None ∙ sym (length-replicate {A = List ℕ} n []))
          ∙ ap (λ (k : ℕ). k + length (replicate {A = List ℕ} n [])) is.size ∙ sym (length-append lists (replicate n []));
      begins = λ l. padded firsts n l None ∙ is.begins l ∙ ap head (sym (same l));
      linked = λ l. let P : List ℕ → Type 0 = AreLinked (links ++ replicate m nowhere) l None in
          subst P (sym (same l)) (linked_frame links (links ++ replicate m nowhere) l None (list_at lists l) (omega (arith, length-append links (replicate m nowhere))) (λ y has. padded links m y nowhere) (is.linked l));
      once = λ l. subst IsOnce (sym (same l)) (is.once l);
      listed = λ y l e.
          let was = is.listed y l (sym (ap (λ (k : Link). k.list) (padded links m y nowhere)) ∙ e) in
          (omega (arith, was.0, length-append lists (replicate n [])), subst (λ (xs : List ℕ). Contains xs y) (sym (same l)) was.1);
    }

-- writes of neighbours leave the list
pub before_list : (links : List Link) (o before : Option ℕ) (y : ℕ) → IfSome o (λ i. i < length links) → (link_at (with_before links o before) y).list ≡ (link_at links y).list
before_list links None before y h = refl
before_list links (Some i) before y h = ⊎_elim
    (λ (e : y ≡ i). let at : link_at (with_before links (Some i) before) i ≡ record (link_at links i) { before = before } = before_same links i before h in
    rw e (ap (λ (k : Link). k.list) at))
    (λ (ne : y ≡ i → ⊥). ap (λ (k : Link). k.list) (before_other links (Some i) before y (λ e. ne (some_same y i (sym e)))))
    (cases_eq y i)

pub next_list : (links : List Link) (o next : Option ℕ) (y : ℕ) → IfSome o (λ i. i < length links) → (link_at (with_next links o next) y).list ≡ (link_at links y).list
next_list links None next y h = refl
next_list links (Some i) next y h = ⊎_elim
    (λ (e : y ≡ i). let at : link_at (with_next links (Some i) next) i ≡ record (link_at links i) { next = next } = get_or-set_same links i (record (link_at links i) { next = next }) nowhere h in
    rw e (ap (λ (k : Link). k.list) at))
    (λ (ne : y ≡ i → ⊥). ap (λ (k : Link). k.list) (next_other links (Some i) next y (λ e. ne (some_same y i (sym e)))))
    (cases_eq y i)

-- AN ITEM IN FRONT

abbrev pub put_links : List Link → ℕ → ℕ → Option ℕ → List Link
put_links links list x first = with_before (set links x (record { list = Some list; before = None; next = first })) first (Some x)

-- the rest of the list after the new first item
push_rest : (links more : List Link) (l x : ℕ) (xs : List ℕ) → length links ≤ length more → IsOnce xs → ((y : ℕ) → head xs ≡ Some y → link_at more y ≡ record (link_at links y) { before = Some x })
    → ((y : ℕ) → Contains xs y → (head xs ≡ Some y → ⊥) → link_at more y ≡ link_at links y) → AreLinked links l None xs → AreLinked more l (Some x) xs
push_rest links more l x [] size once first others are = tt
push_rest links more l x (y ∷ ys) size once first others are = (
  omega (arith, are.0, size),
  first y refl ∙ ap (λ (k : Link). record k { before = Some x }) are.1,
  linked_frame links more l (Some y) ys size (λ z has. others z (there y ys z has) (λ e. once.0 (subst (Contains ys) (sym (some_same y z e)) has))) are.2,
)

pub put_size : (links : List Link) (list x : ℕ) (first : Option ℕ) → length (put_links links list x first) ≡ length links
put_size links list x first = before_size (set links x (record { list = Some list; before = None; next = first })) first (Some x) ∙ length-set links x (record { list = Some list; before = None; next = first })

pub first_below : (firsts : List (Option ℕ)) (links : List Link) (lists : List (List ℕ)) (l : ℕ) → IsArena firsts links lists → IfSome (first_at firsts l) (λ i. i < length links)
first_below firsts links lists l is = let P : Option ℕ → Type 0 = λ o. IfSome o (λ i. i < length links) in subst P (sym (is.begins l)) (head_below (list_at lists l) (is.linked l))
  where
    head_below : (xs : List ℕ) → AreLinked links l None xs → IfSome (head xs) (λ i. i < length links)
    head_below [] are = tt
    head_below (x ∷ xs) are = are.0

pub arena_push : (firsts : List (Option ℕ)) (links : List Link) (lists : List (List ℕ)) (list x : ℕ) → list < length lists → x < length links → ((l : ℕ) → Contains (list_at lists l) x → ⊥) → IsArena firsts links lists
    → IsArena (set firsts list (Some x)) (put_links links list x (first_at firsts list)) (with_first list x lists)
arena_push firsts links lists list x in_lists in_links free is =
    let first = first_at firsts list in
    let own : Link = record { list = Some list; before = None; next = first } in
    let put = set links x own in
    let more = put_links links list x first in
    let size : length links ≤ length more = omega (arith, put_size links list x first) in
    let xs = list_at lists list in
    let begins : first ≡ head xs = is.begins list in
    let in_xs : (y : ℕ) → first ≡ Some y → Contains xs y = λ y e. head_in xs y (sym begins ∙ e) in
    let not_first : first ≡ Some x → ⊥ = λ e. free list (in_xs x e) in
    let below : IfSome first (λ i. i < length put) = let P : ℕ → Type 0 = λ n. IfSome first (λ i. i < n) in subst P (sym (length-set links x own)) (first_below firsts links lists list is) in
    let others : (y : ℕ) → y ≢ x → (first ≡ Some y → ⊥) → link_at more y ≡ link_at links y = λ y ne not_it. before_other put first (Some x) y not_it ∙ get_or-set_other links x y own nowhere ne in
    let neighbour : (y : ℕ) → y ≢ x → first ≡ Some y → link_at more y ≡ record (link_at links y) { before = Some x } = λ y ne e.
    let P : Option ℕ → Type 0 = λ o. link_at (with_before put o (Some x)) y ≡ record (link_at links y) { before = Some x } in
    let inside : y < length put = let Q : Option ℕ → Type 0 = λ o. IfSome o (λ i. i < length put) in subst Q e below in
    subst P (sym e) (before_same put y (Some x) inside ∙ ap (λ (k : Link). record k { before = Some x }) (get_or-set_other links x y own nowhere ne)) in
    let same_first : list_at (with_first list x lists) list ≡ x ∷ xs = get_or-set_same lists list (x ∷ xs) [] in_lists in
    let same_other : (l : ℕ) → l ≢ list → list_at (with_first list x lists) l ≡ list_at lists l = λ l ne. get_or-set_other lists list l (x ∷ xs) [] ne in
    let not_x : (l y : ℕ) → Contains (list_at lists l) y → y ≢ x = λ l y has e. free l (subst (Contains (list_at lists l)) e has) in
    record {
      size = length-set firsts list (Some x) ∙ is.size ∙ sym (length-set lists list (x ∷ xs));
      begins = λ l. ⊎_elim
          (λ (e : l ≡ list). rw e (get_or-set_same firsts list (Some x) None (omega (arith, is.size, in_lists)) ∙ ap head (sym same_first)))
          (λ (ne : l ≡ list → ⊥). get_or-set_other firsts list l (Some x) None ne ∙ is.begins l ∙ ap head (sym (same_other l ne)))
          (cases_eq l list);
      linked = λ l. ⊎_elim
          (λ (e : l ≡ list).
          let P : List ℕ → Type 0 = AreLinked more list None in
          let Q : ℕ → Type 0 = λ m. AreLinked more m None (list_at (with_first list x lists) m) in
          subst Q (sym e) (subst P (sym same_first) (
            omega (arith, in_links, size),
            before_other put first (Some x) x not_first ∙ get_or-set_same links x own nowhere in_links ∙ ap (λ (o : Option ℕ). record { list = Some list; before = None; next = o }) begins,
            push_rest links more list x xs size (is.once list) (λ y f. neighbour y (not_x list y (head_in xs y f)) (begins ∙ f)) (λ y has not_it. others y (not_x list y has) (λ f. not_it (sym begins ∙ f))) (is.linked list),
          )))
          (λ (ne : l ≡ list → ⊥).
          let P : List ℕ → Type 0 = AreLinked more l None in
          subst P (sym (same_other l ne)) (linked_frame links more l None (list_at lists l) size
          (λ y has. others y (not_x l y has) (λ f. ne (one_list firsts links lists is l list y has (in_xs y f)))) (is.linked l)))
          (cases_eq l list);
      once = λ l. ⊎_elim
          (λ (e : l ≡ list). let Q : ℕ → Type 0 = λ m. IsOnce (list_at (with_first list x lists) m) in subst Q (sym e) (subst IsOnce (sym same_first) (free list, is.once list)))
          (λ (ne : l ≡ list → ⊥). subst IsOnce (sym (same_other l ne)) (is.once l))
          (cases_eq l list);
      listed = λ y l e. ⊎_elim
          (λ (f : y ≡ x).
          let at : (link_at more x).list ≡ Some list = before_list put first (Some x) x below ∙ ap (λ (k : Link). k.list) (get_or-set_same links x own nowhere in_links) in
          let same : list ≡ l = some_same list l (sym at ∙ ap (λ (z : ℕ). (link_at more z).list) (sym f) ∙ e) in
          let Q : ℕ → Type 0 = λ m. (m < length (with_first list x lists)) × Contains (list_at (with_first list x lists) m) y in
          let R : List ℕ → Type 0 = λ zs. Contains zs y in
          subst Q same (omega (arith, in_lists, length-set lists list (x ∷ xs)), subst R (sym same_first) (subst (Contains (x ∷ xs)) (sym f) (here x xs))))
          (λ (ne : y ≡ x → ⊥).
          let was = is.listed y l (sym (before_list put first (Some x) y below ∙ ap (λ (k : Link). k.list) (get_or-set_other links x y own nowhere ne)) ∙ e) in
          let R : List ℕ → Type 0 = λ zs. Contains zs y in (
            omega (arith, was.0, length-set lists list (x ∷ xs)),
            ⊎_elim
                (λ (f : l ≡ list). let Q : ℕ → Type 0 = λ m. Contains (list_at (with_first list x lists) m) y in let S : ℕ → Type 0 = λ m. Contains (list_at lists m) y in subst Q (sym f) (subst R (sym same_first) (there x xs y (subst S f was.1))))
                (λ (nf : l ≡ list → ⊥). subst R (sym (same_other l nf)) was.1)
                (cases_eq l list),
          ))
          (cases_eq y x);
    }
