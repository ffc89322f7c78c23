-- Each call's writes, and what the fields stand for after them.
use Rattle.std.proofs.Common.{◌≡◌, ℕ, ◌+◌, ◌<◌, List, [], ◌∷◌, ◌++◌, length, set, replicate, refl, sym, ap, ◌∙◌, Contains, Option, Some, None, subst, IfSome, MatchOption, get_or, filter, Result, Ok, Err, false, is_err, OnOk}
use Rattle.std.proofs.Math.ListN.{get_or-map}
use Rattle.std.proofs.lemmas.List.{length-set, length-append, length-replicate, get_or_default}
use Rattle.kat_links.specs.declared.arena.Link.{Link}
use Rattle.kat_links.specs.Lists.{Lists, head, list_at, is_other, without, with_first, IsFree, IsListed, IsArranged}
use Rattle.kat_links.specs.Arenas.{AreLinked, IsArena, link_at, first_at, nowhere, lists_of, with_before, with_next, first_behind}
use Rattle.kat_links.proofs.Chains.{linked_in, linked_at}
use Rattle.kat_links.proofs.Members.{filter_in}
use Rattle.kat_links.proofs.Splices.{healed, healed_size, next_size}
use Rattle.kat_links.proofs.Arenas.{shown, arena_again, arena_none, arena_more, arena_push, put_links, put_size}
use Rattle.kat_links.proofs.Unlinks.{StandsIn, stands_in, neighbours_below, arena_unlink}

-- what the fields stand for
abbrev pub view : List (Option ℕ) → List Link → Lists
view firsts links = record { items = length links; lists = lists_of firsts links }

abbrev pub Holds : List (Option ℕ) → List Link → Type 0
Holds firsts links = IsArena firsts links (lists_of firsts links)

-- the fields stand for a value, and the invariant holds
abbrev pub Becomes : List (Option ℕ) → List Link → Lists → Type 0
Becomes firsts links v = Holds firsts links × (view firsts links ≡ v)

made : (m n : ℕ) (a b : List (List ℕ)) → m ≡ n → a ≡ b → ◌≡◌ {A = Lists} (record { items = m; lists = a }) (record { items = n; lists = b })
made m n a b e f = λ i. record { items = e i; lists = f i }

becomes : (firsts : List (Option ℕ)) (links : List Link) (n : ℕ) (lists : List (List ℕ)) → IsArena firsts links lists → length links ≡ n → Becomes firsts links (record { items = n; lists = lists })
becomes firsts links n lists is size = (arena_again firsts links lists is, made (length links) n (lists_of firsts links) lists size (shown firsts links lists is))

pub new_done : (firsts : List (Option ℕ)) (links : List Link) (lists items : ℕ) → firsts ≡ replicate lists None → links ≡ replicate items nowhere → Becomes firsts links (record { items = items; lists = replicate lists [] })
new_done firsts links lists items e f =
    let goal : Lists = record { items = items; lists = replicate lists [] } in
    let P : List (Option ℕ) → Type 0 = λ fs. Becomes fs links goal in
    let Q : List Link → Type 0 = λ ls. Becomes (replicate lists None) ls goal in
    subst P (sym e) (subst Q (sym f) (becomes (replicate lists None) (replicate items nowhere) items (replicate lists []) (arena_none lists items) (length-replicate items nowhere)))

pub more_done : (firsts firsts' : List (Option ℕ)) (links links' : List Link) (v : Lists) (n m : ℕ) → view firsts links ≡ v → Holds firsts links → firsts' ≡ firsts ++ replicate n None → links' ≡ links ++ replicate m nowhere
    → Becomes firsts' links' (record { items = v.items + m; lists = v.lists ++ replicate n [] })
more_done firsts firsts' links links' v n m e holds ef el =
    let lists = lists_of firsts links in
    let size : length (links ++ replicate m nowhere) ≡ length links + m = length-append links (replicate m nowhere) ∙ ap (λ (k : ℕ). length links + k) (length-replicate m nowhere) in
    let is = becomes (firsts ++ replicate n None) (links ++ replicate m nowhere) (length links + m) (lists ++ replicate n []) (arena_more firsts links lists n m holds) size in
    let P : Lists → Type 0 = λ w. Becomes (firsts ++ replicate n None) (links ++ replicate m nowhere) (record { items = w.items + m; lists = w.lists ++ replicate n [] }) in
    let goal : Lists = record { items = v.items + m; lists = v.lists ++ replicate n [] } in
    let Q : List (Option ℕ) → Type 0 = λ fs. Becomes fs links' goal in
    let R : List Link → Type 0 = λ ls. Becomes (firsts ++ replicate n None) ls goal in
    subst Q (sym ef) (subst R (sym el) (subst P e is))

pub push_done : (firsts firsts' : List (Option ℕ)) (links mid links' : List Link) (v : Lists) (list x : ℕ) (first : Option ℕ) → view firsts links ≡ v → Holds firsts links
    → list < length v.lists → x < v.items → IsFree v x → first ≡ first_at firsts list → firsts' ≡ set firsts list (Some x) → mid ≡ set links x (record { list = Some list; before = None; next = first })
    → links' ≡ with_before mid first (Some x) → Becomes firsts' links' (record { items = v.items; lists = with_first list x v.lists })
push_done firsts firsts' links mid links' v list x first e holds list_in x_in free efirst ef emid el =
    let lists = lists_of firsts links in
    let put = put_links links list x (first_at firsts list) in
    let there : list < length lists = let P : Lists → Type 0 = λ w. list < length w.lists in subst P (sym e) list_in in
    let inside : x < length links = let P : Lists → Type 0 = λ w. x < w.items in subst P (sym e) x_in in
    let out : IsFree (view firsts links) x = let P : Lists → Type 0 = λ w. IsFree w x in subst P (sym e) free in
    let is = becomes (set firsts list (Some x)) put (length links) (with_first list x lists) (arena_push firsts links lists list x there inside out holds) (put_size links list x (first_at firsts list)) in
    let P : Lists → Type 0 = λ w. Becomes (set firsts list (Some x)) put (record { items = w.items; lists = with_first list x w.lists }) in
    let goal : Lists = record { items = v.items; lists = with_first list x v.lists } in
    let same : links' ≡ put = el ∙ ap (λ (ls : List Link). with_before ls first (Some x)) emid ∙ ap (λ (o : Option ℕ). put_links links list x o) efirst in
    let Q : List (Option ℕ) → Type 0 = λ fs. Becomes fs links' goal in
    let R : List Link → Type 0 = λ ls. Becomes (set firsts list (Some x)) ls goal in
    subst Q (sym ef) (subst R (sym same) (subst P e is))

pub listed_in : (firsts : List (Option ℕ)) (links : List Link) (v : Lists) (x : ℕ) → view firsts links ≡ v → Holds firsts links → IsListed v x → StandsIn links (lists_of firsts links) x
listed_in firsts links v x e holds listed =
    let was : IsListed (view firsts links) x = let P : Lists → Type 0 = λ w. IsListed w x in subst P (sym e) listed in
    stands_in firsts links (lists_of firsts links) was.0 x holds was.1

pub listed_below : (firsts : List (Option ℕ)) (links : List Link) (v : Lists) (x : ℕ) → view firsts links ≡ v → Holds firsts links → IsListed v x → x < length links
listed_below firsts links v x e holds listed =
    let was : IsListed (view firsts links) x = let P : Lists → Type 0 = λ w. IsListed w x in subst P (sym e) listed in
    (linked_in links was.0 None (list_at (lists_of firsts links) was.0) x (holds.linked was.0) was.1).0

pub before_below : (firsts : List (Option ℕ)) (links mid : List Link) (v : Lists) (x : ℕ) (k : Link) → view firsts links ≡ v → Holds firsts links → IsListed v x → k ≡ link_at links x → mid ≡ set links x nowhere
    → IfSome k.before (λ i. i < length mid)
before_below firsts links mid v x k e holds listed ek emid =
    let is = (neighbours_below firsts links (lists_of firsts links) x holds (listed_in firsts links v x e holds listed)).0 in
    let size : length links ≡ length mid = sym (ap length emid ∙ length-set links x nowhere) in
    let P : ℕ → Type 0 = λ n. IfSome (link_at links x).before (λ i. i < n) in
    let Q : Link → Type 0 = λ j. IfSome j.before (λ i. i < length mid) in
    subst Q (sym ek) (subst P size is)

pub next_below : (firsts : List (Option ℕ)) (links mid last : List Link) (v : Lists) (x : ℕ) (k : Link) → view firsts links ≡ v → Holds firsts links → IsListed v x → k ≡ link_at links x → mid ≡ set links x nowhere
    → last ≡ with_next mid k.before k.next → IfSome k.next (λ i. i < length last)
next_below firsts links mid last v x k e holds listed ek emid elast =
    let is = (neighbours_below firsts links (lists_of firsts links) x holds (listed_in firsts links v x e holds listed)).1 in
    let size : length links ≡ length last = sym (ap length elast ∙ next_size mid k.before k.next ∙ ap length emid ∙ length-set links x nowhere) in
    let P : ℕ → Type 0 = λ n. IfSome (link_at links x).next (λ i. i < n) in
    let Q : Link → Type 0 = λ j. IfSome j.next (λ i. i < length last) in
    subst Q (sym ek) (subst P size is)

pub unlink_done : (firsts firsts' : List (Option ℕ)) (links mid last links' : List Link) (v : Lists) (x : ℕ) (k : Link) → view firsts links ≡ v → Holds firsts links → IsListed v x → k ≡ link_at links x → mid ≡ set links x nowhere
    → last ≡ with_next mid k.before k.next → links' ≡ with_before last k.next k.before → firsts' ≡ first_behind firsts k → Becomes firsts' links' (record { items = v.items; lists = without x v.lists })
unlink_done firsts firsts' links mid last links' v x k e holds listed ek emid elast el ef =
    let lists = lists_of firsts links in
    let at = link_at links x in
    let whole : List Link = healed links x at.before at.next in
    let is = becomes (first_behind firsts at) whole (length links) (without x lists) (arena_unlink firsts links lists x holds (listed_in firsts links v x e holds listed)) (healed_size links x at.before at.next) in
    let P : Lists → Type 0 = λ w. Becomes (first_behind firsts at) whole (record { items = w.items; lists = without x w.lists }) in
    let goal : Lists = record { items = v.items; lists = without x v.lists } in
    let same : links' ≡ whole = el ∙ ap (λ (ls : List Link). with_before ls k.next k.before) (elast ∙ ap (λ (ls : List Link). with_next ls k.before k.next) emid) ∙ ap (λ (j : Link). healed links x j.before j.next) ek in
    let Q : List (Option ℕ) → Type 0 = λ fs. Becomes fs links' goal in
    let R : List Link → Type 0 = λ ls. Becomes (first_behind firsts at) ls goal in
    subst Q (sym (ef ∙ ap (first_behind firsts) ek)) (subst R (sym same) (subst P e is))

-- the list that an item is in
list_told : (firsts : List (Option ℕ)) (links : List Link) (lists : List (List ℕ)) (x : ℕ) (o : Option ℕ) → IsArena firsts links lists → o ≡ (link_at links x).list
    → MatchOption o ((l : ℕ) → Contains (list_at lists l) x → ⊥) (λ l. (l < length lists) × Contains (list_at lists l) x)
list_told firsts links lists x None is e = λ l has. let clash : None ≡ Some l = e ∙ (linked_in links l None (list_at lists l) x (is.linked l) has).1 in absurd (cc)
list_told firsts links lists x (Some l) is e = is.listed x l (sym e)

pub list_done : (firsts : List (Option ℕ)) (links : List Link) (v : Lists) (x : ℕ) (k : Link) → view firsts links ≡ v → Holds firsts links → x < v.items → k ≡ get_or links x k
    → MatchOption k.list (IsFree v x) (λ l. (l < length v.lists) × Contains (list_at v.lists l) x)
list_done firsts links v x k e holds x_in read =
    let inside : x < length links = let P : Lists → Type 0 = λ w. x < w.items in subst P (sym e) x_in in
    let at : k ≡ link_at links x = read ∙ get_or_default links x k nowhere inside in
    let P : Lists → Type 0 = λ w. MatchOption k.list (IsFree w x) (λ l. (l < length w.lists) × Contains (list_at w.lists l) x) in
    subst P e (list_told firsts links (lists_of firsts links) x k.list holds (ap (λ (j : Link). j.list) at))

-- the item after an item
pub next_done : (firsts : List (Option ℕ)) (links : List Link) (v : Lists) (x : ℕ) (k : Link) → view firsts links ≡ v → Holds firsts links → IsListed v x → k ≡ get_or links x k
    → (l : ℕ) (front back : List ℕ) → list_at v.lists l ≡ front ++ x ∷ back → k.next ≡ head back
next_done firsts links v x k e holds listed read l front back whole =
    let at : k ≡ link_at links x = read ∙ get_or_default links x k nowhere (listed_below firsts links v x e holds listed) in
    let here : list_at (lists_of firsts links) l ≡ front ++ x ∷ back = ap (λ (w : Lists). list_at w.lists l) e ∙ whole in
    ap (λ (j : Link). j.next) (at ∙ linked_at links l None front x back (subst (AreLinked links l None) here (holds.linked l)))

-- no list has an item any more
pub out_of_all : (v : Lists) (x l : ℕ) → Contains (list_at (without x v.lists) l) x → ⊥
out_of_all v x l has =
    let P : List ℕ → Type 0 = λ zs. Contains zs x in
    (filter_in x (list_at v.lists l) x (subst P (get_or-map (filter (is_other x)) v.lists l []) has)).1 refl

pub listed_items : (v : Lists) (x : ℕ) → IsListed v x → IsArranged v → x < v.items
listed_items v x listed is = is.below listed.0 x listed.1

pub ok_part : {T E : Type 0} (r : Result T E) (P : Type 0) → is_err r ≡ false → OnOk r P → P
ok_part (Ok x) P e p = p
ok_part (Err x) P e p = absurd (cc)
