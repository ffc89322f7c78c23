-- What an arena's fields stand for once an item has been taken out.
use Rattle.std.proofs.Common.{◌≡◌, ◌≢◌, ℕ, ◌<◌, List, [], ◌∷◌, ◌++◌, length, set, ⊎_elim, refl, sym, ap, ◌∙◌, arith, Contains, filter, Option, Some, None, subst, IfSome}
use Rattle.std.proofs.Math.ListN.{get_or-map}
use Rattle.std.proofs.lemmas.Bool.{cases_eq}
use Rattle.std.proofs.lemmas.List.{length-set, length-map, get_or-set_same, get_or-set_other}
use Rattle.kat_links.specs.declared.arena.Link.{Link}
use Rattle.kat_links.specs.Lists.{head, list_at, is_other, without, IsOnce}
use Rattle.kat_links.specs.Arenas.{AreLinked, IsArena, link_at, first_at, nowhere, first_if, first_behind, with_next}
use Rattle.kat_links.proofs.Members.{head_in, middle_in, behind_in, front_in, split_in, once_less, once_back, once_front, filter_none, filter_middle, filter_keeps}
use Rattle.kat_links.proofs.Chains.{last_or, linked_in, linked_at, linked_frame}
use Rattle.kat_links.proofs.Splices.{Heals, splice, healed, heals, last_in, before_other, next_other, next_size}
use Rattle.kat_links.proofs.Arenas.{one_list, before_list, next_list}

-- an item in a list, with what is in front of it and after it, and its neighbours
pub record StandsIn (links : List Link) (lists : List (List ℕ)) (x : ℕ) : Type 0 where
  pub list : ℕ
  pub front : List ℕ
  pub back : List ℕ
  pub whole : list_at lists list ≡ front ++ x ∷ back
  pub link : link_at links x ≡ record { list = Some list; before = last_or None front; next = head back }

pub stands_in : (firsts : List (Option ℕ)) (links : List Link) (lists : List (List ℕ)) (l x : ℕ) → IsArena firsts links lists → Contains (list_at lists l) x → StandsIn links lists x
stands_in firsts links lists l x is has =
    let s = split_in (list_at lists l) x has in
    record {
      list = l;
      front = s.0;
      back = s.1;
      whole = s.2;
      link = linked_at links l None s.0 x s.1 (subst (AreLinked links l None) s.2 (is.linked l));
    }

-- the item before is one of those in front
before_in : (front : List ℕ) (y : ℕ) → last_or None front ≡ Some y → Contains front y
before_in [] y e = absurd (cc)
before_in (z ∷ zs) y e = last_in z zs y e

is_below : (links : List Link) (o : Option ℕ) → ((y : ℕ) → o ≡ Some y → y < length links) → IfSome o (λ i. i < length links)
is_below links None below = tt
is_below links (Some y) below = below y refl

pub neighbours_below : (firsts : List (Option ℕ)) (links : List Link) (lists : List (List ℕ)) (x : ℕ) → IsArena firsts links lists → StandsIn links lists x
    → IfSome (link_at links x).before (λ i. i < length links) × IfSome (link_at links x).next (λ i. i < length links)
neighbours_below firsts links lists x is s =
    let member : (y : ℕ) → Contains (s.front ++ x ∷ s.back) y → y < length links = λ y has. (linked_in links s.list None (list_at lists s.list) y (is.linked s.list) (let P : List ℕ → Type 0 = λ zs. Contains zs y in subst P (sym s.whole) has)).0 in
    let P : Option ℕ → Type 0 = λ o. IfSome o (λ i. i < length links) in (
      subst P (sym (ap (λ (k : Link). k.before) s.link)) (is_below links (last_or None s.front) (λ y e. member y (front_in s.front x s.back y (before_in s.front y e)))),
      subst P (sym (ap (λ (k : Link). k.next) s.link)) (is_below links (head s.back) (λ y e. member y (behind_in s.front x s.back y (head_in s.back y e)))),
    )

last_some : (z : ℕ) (zs : List ℕ) → (y : ℕ) × (last_or (Some z) zs ≡ Some y)
last_some z [] = (z, refl)
last_some z (w ∷ ws) = last_some w ws

first_kept : (firsts : List (Option ℕ)) (list y : ℕ) (next : Option ℕ) → first_if firsts (Some list) (Some y) next ≡ firsts
first_kept firsts list y next = refl

if_size : (firsts : List (Option ℕ)) (list before next : Option ℕ) → length (first_if firsts list before next) ≡ length firsts
if_size firsts list (Some b) next = refl
if_size firsts None None next = refl
if_size firsts (Some l) None next = length-set firsts l next

if_other : (firsts : List (Option ℕ)) (list : ℕ) (before next : Option ℕ) (l : ℕ) → l ≢ list → first_at (first_if firsts (Some list) before next) l ≡ first_at firsts l
if_other firsts list (Some b) next l ne = refl
if_other firsts list None next l ne = get_or-set_other firsts list l next None ne

-- the first item of the list without the item
if_same : (firsts : List (Option ℕ)) (list : ℕ) (front : List ℕ) (x : ℕ) (back : List ℕ) → list < length firsts → first_at firsts list ≡ head (front ++ x ∷ back)
    → first_at (first_if firsts (Some list) (last_or None front) (head back)) list ≡ head (front ++ back)
if_same firsts list [] x back h begins = get_or-set_same firsts list (head back) None h
if_same firsts list (z ∷ zs) x back h begins =
    let some = last_some z zs in
    let P : Option ℕ → Type 0 = λ o. first_at (first_if firsts (Some list) o (head back)) list ≡ Some z in
    subst P (sym some.1) begins

arena_out : (firsts : List (Option ℕ)) (links : List Link) (lists : List (List ℕ)) (x : ℕ) → IsArena firsts links lists → (s : StandsIn links lists x)
    → IsArena (first_if firsts (Some s.list) (last_or None s.front) (head s.back)) (healed links x (last_or None s.front) (head s.back)) (without x lists)
arena_out firsts links lists x is s =
    let list = s.list in
    let before = last_or None s.front in
    let next = head s.back in
    let more = healed links x before next in
    let whole = s.front ++ x ∷ s.back in
    let member : (y : ℕ) → Contains whole y → Contains (list_at lists list) y = λ y has. (let P : List ℕ → Type 0 = λ zs. Contains zs y in subst P (sym s.whole) has) in
    let in_before : (y : ℕ) → before ≡ Some y → Contains whole y = λ y e. front_in s.front x s.back y (before_in s.front y e) in
    let in_next : (y : ℕ) → next ≡ Some y → Contains whole y = λ y e. behind_in s.front x s.back y (head_in s.back y e) in
    let small : (y : ℕ) → Contains whole y → y < length links = λ y has. (linked_in links list None (list_at lists list) y (is.linked list) (member y has)).0 in
    let before_small : IfSome before (λ i. i < length links) = is_below links before (λ y e. small y (in_before y e)) in
    let next_small : IfSome next (λ i. i < length links) = is_below links next (λ y e. small y (in_next y e)) in
    let h : Heals links more x before next = heals links x before next before_small next_small in
    let once : IsOnce whole = subst IsOnce s.whole (is.once list) in
    let not_before : before ≡ Some x → ⊥ = λ e. once_front s.front x s.back once (before_in s.front x e) in
    let not_next : next ≡ Some x → ⊥ = λ e. once_back s.front x s.back once (head_in s.back x e) in
    let mine : list_at (without x lists) list ≡ s.front ++ s.back = get_or-map (filter (is_other x)) lists list [] ∙ ap (filter (is_other x)) s.whole ∙ filter_middle s.front x s.back once in
    let own : Contains (list_at lists list) x = member x (middle_in s.front x s.back) in
    let apart : (l : ℕ) → l ≢ list → Contains (list_at lists l) x → ⊥ = λ l ne has. ne (one_list firsts links lists is l list x has own) in
    let others : (l : ℕ) → l ≢ list → list_at (without x lists) l ≡ list_at lists l = λ l ne. get_or-map (filter (is_other x)) lists l [] ∙ filter_none x (list_at lists l) (apart l ne) in
    let there_is : list < length lists = (is.listed x list (ap (λ (k : Link). k.list) s.link)).0 in
    record {
      size = if_size firsts (Some list) before next ∙ is.size ∙ sym (length-map lists (filter (is_other x)));
      begins = λ l. ⊎_elim
          (λ (e : l ≡ list).
          let Q : ℕ → Type 0 = λ m. first_at (first_if firsts (Some list) before next) m ≡ head (list_at (without x lists) m) in
          subst Q (sym e) (if_same firsts list s.front x s.back (omega (arith, there_is, is.size)) (is.begins list ∙ ap head s.whole) ∙ ap head (sym mine)))
          (λ (ne : l ≡ list → ⊥). if_other firsts list before next l ne ∙ is.begins l ∙ ap head (sym (others l ne)))
          (cases_eq l list);
      linked = λ l. ⊎_elim
          (λ (e : l ≡ list).
          let Q : ℕ → Type 0 = λ m. AreLinked more m None (list_at (without x lists) m) in
          subst Q (sym e) (subst (AreLinked more list None) (sym mine) (splice links more list None s.front x s.back h once (λ y f. absurd (cc)) (subst (AreLinked links list None) s.whole (is.linked list)))))
          (λ (ne : l ≡ list → ⊥).
          subst (AreLinked more l None) (sym (others l ne)) (linked_frame links more l None (list_at lists l) h.size (λ y has. h.others y
          (λ e. apart l ne (subst (Contains (list_at lists l)) e has))
          (λ e. ne (one_list firsts links lists is l list y has (member y (in_before y e))))
          (λ e. ne (one_list firsts links lists is l list y has (member y (in_next y e))))) (is.linked l)))
          (cases_eq l list);
      once = λ l. ⊎_elim
          (λ (e : l ≡ list). let Q : ℕ → Type 0 = λ m. IsOnce (list_at (without x lists) m) in subst Q (sym e) (subst IsOnce (sym mine) (once_less s.front x s.back once)))
          (λ (ne : l ≡ list → ⊥). subst IsOnce (sym (others l ne)) (is.once l))
          (cases_eq l list);
      listed = λ y l e. ⊎_elim
          (λ (f : y ≡ x).
          let out : link_at more x ≡ nowhere = before_other (with_next (set links x nowhere) before next) next before x not_next ∙ next_other (set links x nowhere) before next x not_before ∙ get_or-set_same links x nowhere nowhere (small x (middle_in s.front x s.back)) in
          absurd (let clash : None ≡ Some l = sym (ap (λ (k : Link). k.list) out) ∙ ap (λ (z : ℕ). (link_at more z).list) (sym f) ∙ e in cc))
          (λ (ne : y ≡ x → ⊥).
          let put = set links x nowhere in
          let put_size : length put ≡ length links = length-set links x nowhere in
          let P : ℕ → Type 0 = λ n. IfSome before (λ i. i < n) in
          let R : ℕ → Type 0 = λ n. IfSome next (λ i. i < n) in
          let mid_size : length (with_next put before next) ≡ length links = mid put put_size in
          let same : (link_at more y).list ≡ (link_at links y).list =
          before_list (with_next put before next) next before y (subst R (sym mid_size) next_small) ∙ next_list put before next y (subst P (sym put_size) before_small) ∙ ap (λ (k : Link). k.list) (get_or-set_other links x y nowhere nowhere ne) in
          let was = is.listed y l (sym same ∙ e) in
          let S : List ℕ → Type 0 = λ zs. Contains zs y in
          (omega (arith, was.0, length-map lists (filter (is_other x))), subst S (sym (get_or-map (filter (is_other x)) lists l [])) (filter_keeps x (list_at lists l) y ne was.1)))
          (cases_eq y x);
    }
  where
    mid : (put : List Link) → length put ≡ length links → length (with_next put (last_or None s.front) (head s.back)) ≡ length links
    mid put e = next_size put (last_or None s.front) (head s.back) ∙ e

-- the fields as they are written
pub arena_unlink : (firsts : List (Option ℕ)) (links : List Link) (lists : List (List ℕ)) (x : ℕ) → IsArena firsts links lists → StandsIn links lists x
    → IsArena (first_behind firsts (link_at links x)) (healed links x (link_at links x).before (link_at links x).next) (without x lists)
arena_unlink firsts links lists x is s =
    let P : Link → Type 0 = λ k. IsArena (first_behind firsts k) (healed links x k.before k.next) (without x lists) in
    subst P (sym s.link) (arena_out firsts links lists x is s)
