-- Links after an item has been taken out, or put in front.
use Rattle.std.proofs.Common.{◌≡◌, ◌≢◌, ℕ, ◌<◌, ◌≤◌, List, [], ◌∷◌, ◌++◌, length, set, ◌⊎◌, inl, inr, ⊎_elim, refl, sym, ap, ◌∙◌, arith, Contains, Option, Some, None, subst, IfSome}
use Rattle.std.proofs.lemmas.Bool.{cases_eq}
use Rattle.std.proofs.lemmas.List.{length-set, get_or-set_same, get_or-set_other}
use Rattle.kat_links.specs.declared.arena.Link.{Link}
use Rattle.kat_links.specs.Lists.{head, IsOnce}
use Rattle.kat_links.specs.Arenas.{AreLinked, link_at, nowhere, with_next, with_before}
use Rattle.kat_links.proofs.Members.{here, there, head_in, middle_in, behind_in, front_in}
use Rattle.kat_links.proofs.Chains.{last_or, linked_frame}

-- An item is out, and its neighbours know each other.
pub record Heals (links more : List Link) (x : ℕ) (before next : Option ℕ) : Type 0 where
  pub size : length links ≤ length more
  pub ahead : (y : ℕ) → y ≢ x → before ≡ Some y → (next ≡ Some y → ⊥) → link_at more y ≡ record (link_at links y) { next = next }
  pub behind : (y : ℕ) → y ≢ x → next ≡ Some y → (before ≡ Some y → ⊥) → link_at more y ≡ record (link_at links y) { before = before }
  pub others : (y : ℕ) → y ≢ x → (before ≡ Some y → ⊥) → (next ≡ Some y → ⊥) → link_at more y ≡ link_at links y

pub last_in : (z : ℕ) (zs : List ℕ) (y : ℕ) → last_or (Some z) zs ≡ Some y → Contains (z ∷ zs) y
last_in z [] y e = let same : z ≡ y = cc in subst (Contains (z ∷ [])) same (here z [])
last_in z (w ∷ ws) y e = there z (w ∷ ws) y (last_in w ws y e)

pub some_same : (x y : ℕ) → Some x ≡ Some y → x ≡ y
some_same x y e = cc

-- the items after the one that is removed
splice_back : (links more : List Link) (l x : ℕ) (before : Option ℕ) (back : List ℕ) → Heals links more x before (head back) → IsOnce (x ∷ back)
    → ((y : ℕ) → before ≡ Some y → Contains (x ∷ back) y → ⊥) → AreLinked links l (Some x) back → AreLinked more l before back
splice_back links more l x before [] heals once apart are = tt
splice_back links more l x before (y ∷ ys) heals once apart are =
    let differs : (z : ℕ) → Contains (y ∷ ys) z → z ≢ x = λ z has e. once.0 (subst (Contains (y ∷ ys)) e has) in
    let not_before : (z : ℕ) → Contains (y ∷ ys) z → before ≡ Some z → ⊥ = λ z has e. apart z e (there x (y ∷ ys) z has) in (
      omega (arith, are.0, heals.size),
      heals.behind y (differs y (here y ys)) refl (not_before y (here y ys)) ∙ ap (λ (k : Link). record k { before = before }) are.1,
      linked_frame links more l (Some y) ys heals.size
          (λ z has. heals.others z (differs z (there y ys z has)) (not_before z (there y ys z has))
          (λ e. once.1.0 (subst (Contains ys) (sym (some_same y z e)) has)))
          are.2,
    )

-- the items of a list without the one that is out
pub splice : (links more : List Link) (l : ℕ) (before : Option ℕ) (front : List ℕ) (x : ℕ) (back : List ℕ) → Heals links more x (last_or before front) (head back) → IsOnce (front ++ x ∷ back)
    → ((y : ℕ) → before ≡ Some y → Contains (front ++ x ∷ back) y → ⊥) → AreLinked links l before (front ++ x ∷ back) → AreLinked more l before (front ++ back)
splice links more l before [] x back heals once apart are = splice_back links more l x before back heals once apart are.2
splice links more l before (z ∷ []) x back heals once apart are =
    let differs : z ≢ x = λ e. once.0 (subst (Contains (x ∷ back)) (sym e) (here x back)) in
    let not_next : head back ≡ Some z → ⊥ = λ e. once.0 (there x back z (head_in back z e)) in (
      omega (arith, are.0, heals.size),
      heals.ahead z differs refl not_next ∙ ap (λ (k : Link). record k { next = head back }) are.1,
      splice links more l (Some z) [] x back heals once.1 (λ y e has. once.0 (subst (Contains (x ∷ back)) (sym (some_same z y e)) has)) are.2,
    )
splice links more l before (z ∷ w ∷ ws) x back heals once apart are =
    let whole = w ∷ (ws ++ x ∷ back) in
    let differs : z ≢ x = λ e. once.0 (subst (Contains whole) (sym e) (middle_in (w ∷ ws) x back)) in
    let not_next : head back ≡ Some z → ⊥ = λ e. once.0 (behind_in (w ∷ ws) x back z (head_in back z e)) in
    let not_before : last_or (Some z) (w ∷ ws) ≡ Some z → ⊥ = λ e. once.0 (front_in (w ∷ ws) x back z (last_in w ws z e)) in (
      omega (arith, are.0, heals.size),
      heals.others z differs not_before not_next ∙ are.1,
      splice links more l (Some z) (w ∷ ws) x back heals once.1 (λ y e has. once.0 (subst (Contains whole) (sym (some_same z y e)) has)) are.2,
    )

cases_some : (o : Option ℕ) (y : ℕ) → (o ≡ Some y) ⊎ (o ≡ Some y → ⊥)
cases_some None y = inr (λ e. absurd (cc))
cases_some (Some x) y = ⊎_elim (λ (e : x ≡ y). inl (ap (λ (n : ℕ). Some n) e)) (λ (ne : x ≡ y → ⊥). inr (λ e. ne (some_same x y e))) (cases_eq x y)

-- single writes
pub next_size : (links : List Link) (o next : Option ℕ) → length (with_next links o next) ≡ length links
next_size links None next = refl
next_size links (Some i) next = length-set links i (record (link_at links i) { next = next })

pub before_size : (links : List Link) (o before : Option ℕ) → length (with_before links o before) ≡ length links
before_size links None before = refl
before_size links (Some i) before = length-set links i (record (link_at links i) { before = before })

pub next_other : (links : List Link) (o next : Option ℕ) (y : ℕ) → (o ≡ Some y → ⊥) → link_at (with_next links o next) y ≡ link_at links y
next_other links None next y ne = refl
next_other links (Some i) next y ne = get_or-set_other links i y (record (link_at links i) { next = next }) nowhere (λ e. ne (ap (λ (n : ℕ). Some n) (sym e)))

pub before_other : (links : List Link) (o before : Option ℕ) (y : ℕ) → (o ≡ Some y → ⊥) → link_at (with_before links o before) y ≡ link_at links y
before_other links None before y ne = refl
before_other links (Some i) before y ne = get_or-set_other links i y (record (link_at links i) { before = before }) nowhere (λ e. ne (ap (λ (n : ℕ). Some n) (sym e)))

pub next_same : (links : List Link) (y : ℕ) (next : Option ℕ) → y < length links → link_at (with_next links (Some y) next) y ≡ record (link_at links y) { next = next }
next_same links y next h = get_or-set_same links y (record (link_at links y) { next = next }) nowhere h

pub before_same : (links : List Link) (y : ℕ) (before : Option ℕ) → y < length links → link_at (with_before links (Some y) before) y ≡ record (link_at links y) { before = before }
before_same links y before h = get_or-set_same links y (record (link_at links y) { before = before }) nowhere h

abbrev pub healed : List Link → ℕ → Option ℕ → Option ℕ → List Link
healed links x before next = with_before (with_next (set links x nowhere) before next) next before

pub healed_size : (links : List Link) (x : ℕ) (before next : Option ℕ) → length (healed links x before next) ≡ length links
healed_size links x before next = before_size (with_next (set links x nowhere) before next) next before ∙ next_size (set links x nowhere) before next ∙ length-set links x nowhere

-- what is written when an item is removed
pub heals : (links : List Link) (x : ℕ) (before next : Option ℕ) → IfSome before (λ b. b < length links) → IfSome next (λ n. n < length links) → Heals links (healed links x before next) x before next
heals links x before next before_in next_in = record {
  size = omega (arith, healed_size links x before next);
  ahead = λ y ne is not_next. before_other (with_next (set links x nowhere) before next) next before y not_next ∙ ahead y ne is;
  behind = λ y ne is not_before. behind y ne is not_before;
  others = λ y ne not_before not_next. before_other (with_next (set links x nowhere) before next) next before y not_next ∙ next_other (set links x nowhere) before next y not_before ∙ get_or-set_other links x y nowhere nowhere ne;
}
  where
    below : (o : Option ℕ) (y : ℕ) → o ≡ Some y → IfSome o (λ b. b < length links) → y < length links
    below o y e h = let P : Option ℕ → Type 0 = λ p. IfSome p (λ b. b < length links) in subst P e h

    ahead : (y : ℕ) → y ≢ x → before ≡ Some y → link_at (with_next (set links x nowhere) before next) y ≡ record (link_at links y) { next = next }
    ahead y ne is =
        let P : Option ℕ → Type 0 = λ o. link_at (with_next (set links x nowhere) o next) y ≡ record (link_at links y) { next = next } in
        subst P (sym is) (next_same (set links x nowhere) y next (omega (arith, below before y is before_in, length-set links x nowhere)) ∙ ap (λ (k : Link). record k { next = next }) (get_or-set_other links x y nowhere nowhere ne))

    behind : (y : ℕ) → y ≢ x → next ≡ Some y → (before ≡ Some y → ⊥) → link_at (healed links x before next) y ≡ record (link_at links y) { before = before }
    behind y ne is not_before =
        let inner = with_next (set links x nowhere) before next in
        let P : Option ℕ → Type 0 = λ o. link_at (with_before inner o before) y ≡ record (link_at links y) { before = before } in
        subst P (sym is)
        (before_same inner y before (omega (arith, below next y is next_in, length-set links x nowhere, next_size (set links x nowhere) before next))
        ∙ ap (λ (k : Link). record k { before = before }) (next_other (set links x nowhere) before next y not_before ∙ get_or-set_other links x y nowhere nowhere ne))
