-- The entries whose keys are new: what is found among them, and that with them a list has every key of both.
use Rattle.std.proofs.Common.{◌≡◌, ℕ, zero, suc, ◌<◌, Bool, true, false, not, cond, if◌then◌else◌, List, [], ◌∷◌, Option, Some, None, length, get_or, refl, sym, ◌∙◌, ap, subst, arith, inl, inr, ◌⊎◌}
use Rattle.std.specs.declared.cmp.Ordering.{Ordering}
use Rattle.std.specs.declared.cmp.Ordering.TheVariants.{Less, Equal, Greater}
use Rattle.std.specs.Cmp.{IsTotalOrder}
use Rattle.std.specs.List.{AllByRecursion, filter}
use Rattle.std.specs.Option.{is_some}
use Rattle.std.specs.Ordering.{is_eq}
use Rattle.std.proofs.lemmas.Cmp.{tied_itself}
use Rattle.kat_join.specs.Keyed.{IsBefore, IsAscending, found, put, union, either_of, KeepsKey}
use Rattle.kat_join.specs.KeyedLaws.{Compared, less, same, greater, compared, before_all, ascending_union, found_before, found_union, same_lists}
use Rattle.kat_lattice.specs.Sets.{first_one, keeps_first}

-- the entry's key is new
abbrev pub is_new : {E : Type 0} → (E → E → Ordering) → List E → E → Bool
is_new cmp xs e = not (is_some (found cmp e xs))

abbrev pub news : {E : Type 0} → (E → E → Ordering) → List E → List E → List E
news cmp xs ys = filter (is_new cmp xs) ys

before_filter : {E : Type 0} (cmp : E → E → Ordering) (p : E → Bool) (e : E) (xs : List E) → IsBefore cmp e xs → IsBefore cmp e (filter p xs)
before_filter cmp p e [] h = tt
before_filter cmp p e (x ∷ xs) h =
    elim (p x) as (λ b. IsBefore cmp e (cond b (x ∷ filter p xs) (filter p xs))) [
      | true ↦ (h.0, before_filter cmp p e xs h.1)
      | false ↦ before_filter cmp p e xs h.1
    ]

pub ascending_filter : {E : Type 0} (cmp : E → E → Ordering) (p : E → Bool) (xs : List E) → IsAscending cmp xs → IsAscending cmp (filter p xs)
ascending_filter cmp p [] h = tt
ascending_filter cmp p (x ∷ xs) h =
    elim (p x) as (λ b. IsAscending cmp (cond b (x ∷ filter p xs) (filter p xs))) [
      | true ↦ (before_filter cmp p x xs h.0, ascending_filter cmp p xs h.1)
      | false ↦ ascending_filter cmp p xs h.1
    ]

pub each_filter : {E : Type 0} (P : E → Type 0) (p : E → Bool) (xs : List E) → AllByRecursion P xs → AllByRecursion P (filter p xs)
each_filter P p [] h = tt
each_filter P p (x ∷ xs) h =
    elim (p x) as (λ b. AllByRecursion P (cond b (x ∷ filter p xs) (filter p xs))) [
      | true ↦ (h.0, each_filter P p xs h.1)
      | false ↦ each_filter P p xs h.1
    ]

-- equal keys find the same
found_alike : {E : Type 0} {cmp : E → E → Ordering} (o : IsTotalOrder cmp) (q y : E) (xs : List E) → cmp q y ≡ Equal → found cmp q xs ≡ found cmp y xs
found_alike o q y [] h = refl
found_alike {E} {cmp} o q y (x ∷ xs) h =
    let here : cmp q x ≡ cmp y x = o.congr q y x h in
    ap (λ r. if is_eq r then Some x else found cmp q xs) here ∙ ap (λ t. if is_eq (cmp y x) then Some x else t) (found_alike o q y xs h)

abbrev unless : {E : Type 0} → Option E → Option E → Option E
unless m t = if is_some m then None else t

unless_none : {E : Type 0} (m : Option E) → None ≡ unless m None
unless_none None = refl
unless_none (Some x) = refl

unless_there : {E : Type 0} (m t : Option E) → is_some m ≡ true → unless m t ≡ None
unless_there None t h = (cc)
unless_there (Some x) t h = refl

unless_absent : {E : Type 0} (m t : Option E) → is_some m ≡ false → unless m t ≡ t
unless_absent None t h = refl
unless_absent (Some x) t h = (cc)

keyed : {E : Type 0} (cmp : E → E → Ordering) (q e : E) → (cmp q e ≡ Equal) ⊎ (is_eq (cmp q e) ≡ false)
keyed cmp q e = elim (cmp q e) as (λ r. (r ≡ Equal) ⊎ (is_eq r ≡ false)) [ Less ↦ inr refl | Equal ↦ inl refl | Greater ↦ inr refl ]

found_first : {E : Type 0} (cmp : E → E → Ordering) (q x : E) (xs : List E) → cmp q x ≡ Equal → found cmp q (x ∷ xs) ≡ Some x
found_first cmp q x xs h = rw h

found_other : {E : Type 0} (cmp : E → E → Ordering) (q x : E) (xs : List E) → is_eq (cmp q x) ≡ false → found cmp q (x ∷ xs) ≡ found cmp q xs
found_other cmp q x xs h = rw h

news_step : {E : Type 0} {cmp : E → E → Ordering} (o : IsTotalOrder cmp) (q y : E) (xs ys : List E) (b : Bool) → is_some (found cmp y xs) ≡ b → found cmp q (news cmp xs ys) ≡ unless (found cmp q xs) (found cmp q ys) → found cmp q (cond (not b) (y ∷ news cmp xs ys) (news cmp xs ys)) ≡ unless (found cmp q xs) (found cmp q (y ∷ ys))
news_step {E} {cmp} o q y xs ys true h ih =
    elim (keyed cmp q y) as (λ _. found cmp q (news cmp xs ys) ≡ unless (found cmp q xs) (found cmp q (y ∷ ys))) [
      | inl e ↦ (let there : is_some (found cmp q xs) ≡ true = ap is_some (found_alike o q y xs e) ∙ h in
          ih ∙ (unless_there (found cmp q xs) (found cmp q ys) there ∙ sym (unless_there (found cmp q xs) (found cmp q (y ∷ ys)) there)))
      | inr e ↦ ih ∙ ap (unless (found cmp q xs)) (sym (found_other cmp q y ys e))
    ]
news_step {E} {cmp} o q y xs ys false h ih =
    elim (keyed cmp q y) as (λ _. found cmp q (y ∷ news cmp xs ys) ≡ unless (found cmp q xs) (found cmp q (y ∷ ys))) [
      | inl e ↦ (let absent : is_some (found cmp q xs) ≡ false = ap is_some (found_alike o q y xs e) ∙ h in
          found_first cmp q y (news cmp xs ys) e ∙ sym (unless_absent (found cmp q xs) (found cmp q (y ∷ ys)) absent ∙ found_first cmp q y ys e))
      | inr e ↦ found_other cmp q y (news cmp xs ys) e ∙ (ih ∙ ap (unless (found cmp q xs)) (sym (found_other cmp q y ys e)))
    ]

-- among the new entries is found what the other list has and this one hasn't
pub found_news : {E : Type 0} {cmp : E → E → Ordering} (o : IsTotalOrder cmp) (q : E) (xs ys : List E) → found cmp q (news cmp xs ys) ≡ unless (found cmp q xs) (found cmp q ys)
found_news {E} {cmp} o q xs [] = unless_none (found cmp q xs)
found_news {E} {cmp} o q xs (y ∷ ys) = news_step o q y xs ys (is_some (found cmp y xs)) refl (found_news o q xs ys)

either_news : {E : Type 0} (onto : E → E → E) (m t : Option E) → ((x : E) → t ≡ Some x → onto x x ≡ x) → either_of onto (either_of first_one m (unless m t)) t ≡ either_of onto m t
either_news onto None None h = refl
either_news onto None (Some y) h = ap Some (h y refl)
either_news onto (Some x) None h = refl
either_news onto (Some x) (Some y) h = refl

-- putting in the new entries first changes nothing of the union
pub union_news : {E : Type 0} {cmp : E → E → Ordering} (onto : E → E → E) (o : IsTotalOrder cmp) (keeps : KeepsKey cmp onto) (xs ys : List E) → IsAscending cmp xs → IsAscending cmp ys → ((q x : E) → found cmp q ys ≡ Some x → onto x x ≡ x) → union cmp onto (union cmp first_one xs (news cmp xs ys)) ys ≡ union cmp onto xs ys
union_news {E} {cmp} onto o keeps xs ys h k idem =
    let fresh = news cmp xs ys in
    let with_news = union cmp first_one xs fresh in
    let asc = ascending_union cmp first_one o (keeps_first cmp) xs fresh h in
    same_lists cmp o (union cmp onto with_news ys) (union cmp onto xs ys) (ascending_union cmp onto o keeps with_news ys asc) (ascending_union cmp onto o keeps xs ys h)
    (λ q. found_union cmp onto o keeps q with_news ys asc k
    ∙ (ap (λ t. either_of onto t (found cmp q ys)) (found_union cmp first_one o (keeps_first cmp) q xs fresh h (ascending_filter cmp (is_new cmp xs) ys k) ∙ ap (either_of first_one (found cmp q xs)) (found_news o q xs ys))
    ∙ (either_news onto (found cmp q xs) (found cmp q ys) (idem q) ∙ sym (found_union cmp onto o keeps q xs ys h k))))

later : {E : Type 0} (x : E) (t : Option E) (r : Ordering) → is_some t ≡ true → is_some (if is_eq r then Some x else t) ≡ true
later x t Less h = h
later x t Equal h = refl
later x t Greater h = h

-- a list whose keys zs has
pub all_present : {E : Type 0} {cmp : E → E → Ordering} (o : IsTotalOrder cmp) (zs ys : List E) → ((q : E) → is_some (found cmp q ys) ≡ true → is_some (found cmp q zs) ≡ true) → AllByRecursion (λ y. is_some (found cmp y zs) ≡ true) ys
all_present o zs [] h = tt
all_present {E} {cmp} o zs (y ∷ ys) h = (
  h y (ap is_some (found_first cmp y y ys (tied_itself o y))),
  all_present o zs ys (λ q e. h q (later y (found cmp q ys) (cmp q y) e)),
)

either_some : {E : Type 0} (onto : E → E → E) (m t : Option E) → is_some m ≡ true → is_some (either_of onto m t) ≡ true
either_some onto None t h = (cc)
either_some onto (Some x) None h = refl
either_some onto (Some x) (Some y) h = refl

put_present_at : {E : Type 0} (cmp : E → E → Ordering) (onto : E → E → E) (o : IsTotalOrder cmp) (e z : E) (zs : List E) → Compared cmp e z → IsAscending cmp (z ∷ zs) → is_some (found cmp e (z ∷ zs)) ≡ true → (is_some (found cmp e zs) ≡ true → length (put cmp onto e zs) ≡ length zs) → length (put cmp onto e (z ∷ zs)) ≡ length (z ∷ zs)
put_present_at cmp onto o e z zs (less p q) asc there ih =
    let none : found cmp e (z ∷ zs) ≡ None = found_before cmp e (z ∷ zs) (p, before_all o e z zs p asc.0) in
    let bad : is_some (found cmp e (z ∷ zs)) ≡ false = ap is_some none in
    cc
put_present_at cmp onto o e z zs (same p q) asc there ih = rw p refl
put_present_at cmp onto o e z zs (greater p q) asc there ih =
    let step : found cmp e (z ∷ zs) ≡ found cmp e zs = rw p refl in
    let one : length (put cmp onto e zs) ≡ length zs = ih (ap is_some (sym step) ∙ there) in
    rw p (ap suc one)

put_present : {E : Type 0} (cmp : E → E → Ordering) (onto : E → E → E) (o : IsTotalOrder cmp) (e : E) (zs : List E) → IsAscending cmp zs → is_some (found cmp e zs) ≡ true → length (put cmp onto e zs) ≡ length zs
put_present cmp onto o e [] asc there = (cc)
put_present cmp onto o e (z ∷ zs) asc there = put_present_at cmp onto o e z zs (compared o e z) asc there (λ t. put_present cmp onto o e zs asc.1 t)

-- a union with keys that are there has no further entries
pub length_present : {E : Type 0} (cmp : E → E → Ordering) (onto : E → E → E) (o : IsTotalOrder cmp) (keeps : KeepsKey cmp onto) (xs ys : List E) → IsAscending cmp xs → IsAscending cmp ys → AllByRecursion (λ y. is_some (found cmp y xs) ≡ true) ys → length (union cmp onto xs ys) ≡ length xs
length_present cmp onto o keeps xs [] h k a = refl
length_present cmp onto o keeps xs (y ∷ ys) h k a =
    let there : is_some (found cmp y (union cmp onto xs ys)) ≡ true = ap is_some (found_union cmp onto o keeps y xs ys h k.1) ∙ either_some onto (found cmp y xs) (found cmp y ys) a.0 in
    put_present cmp onto o y (union cmp onto xs ys) (ascending_union cmp onto o keeps xs ys h) there ∙ length_present cmp onto o keeps xs ys h k.1 a.1

nothing_new : {E : Type 0} (m t : Option E) → None ≡ unless m t → is_some t ≡ true → is_some m ≡ true
nothing_new None None e h = h
nothing_new None (Some y) e h = (cc)
nothing_new (Some x) t e h = refl

either_has : {E : Type 0} (m t : Option E) → is_some t ≡ true → is_some (either_of first_one m (unless m t)) ≡ true
either_has None None h = h
either_has None (Some y) h = refl
either_has (Some x) t h = refl

-- if no key is new
pub present_none : {E : Type 0} (cmp : E → E → Ordering) (onto : E → E → E) (o : IsTotalOrder cmp) (keeps : KeepsKey cmp onto) (xs ys : List E) → IsAscending cmp xs → IsAscending cmp ys → news cmp xs ys ≡ [] → length (union cmp onto xs ys) ≡ length xs
present_none cmp onto o keeps xs ys h k none =
    length_present cmp onto o keeps xs ys h k (all_present o xs ys (λ q e. nothing_new (found cmp q xs) (found cmp q ys) (ap (found cmp q) (sym none) ∙ found_news o q xs ys) e))

-- with the new entries put in
pub present_some : {E : Type 0} (cmp : E → E → Ordering) (onto : E → E → E) (o : IsTotalOrder cmp) (keeps : KeepsKey cmp onto) (xs ys : List E) → IsAscending cmp xs → IsAscending cmp ys → length (union cmp onto (union cmp first_one xs (news cmp xs ys)) ys) ≡ length (union cmp first_one xs (news cmp xs ys))
present_some cmp onto o keeps xs ys h k =
    let fresh = news cmp xs ys in
    let with_news = union cmp first_one xs fresh in
    length_present cmp onto o keeps with_news ys (ascending_union cmp first_one o (keeps_first cmp) xs fresh h) k (all_present o with_news ys (λ q e.
    ap is_some (found_union cmp first_one o (keeps_first cmp) q xs fresh h (ascending_filter cmp (is_new cmp xs) ys k) ∙ ap (either_of first_one (found cmp q xs)) (found_news o q xs ys))
    ∙ either_has (found cmp q xs) (found cmp q ys) e))

-- an entry that passes is kept
pub filter_kept : {E : Type 0} (p : E → Bool) (xs : List E) (i : ℕ) (d : E) → i < length xs → p (get_or xs i d) ≡ true → filter p xs ≡ [] → ⊥
filter_kept p [] i d l h e = absurd (omega arith)
filter_kept p (x ∷ xs) zero d l h e = (let f : cond true (x ∷ filter p xs) (filter p xs) ≡ [] = subst (λ b. cond b (x ∷ filter p xs) (filter p xs) ≡ []) h e in cc)
filter_kept p (x ∷ xs) (suc i) d l h e = filter_rest p x xs (p x) e (filter_kept p xs i d (omega arith) h)
  where
    filter_rest : {E : Type 0} (p : E → Bool) (x : E) (xs : List E) (b : Bool) → cond b (x ∷ filter p xs) (filter p xs) ≡ [] → (filter p xs ≡ [] → ⊥) → ⊥
    filter_rest p x xs true e f = (cc)
    filter_rest p x xs false e f = f e

-- a key that isn't there is new
pub still_new : {E : Type 0} (cmp : E → E → Ordering) (xs ys : List E) (i : ℕ) (x : E) (b : Bool) → i < length ys → x ≡ get_or ys i x → b ≡ is_some (found cmp x xs) → b ≡ false → news cmp xs ys ≡ [] → ⊥
still_new cmp xs ys i x b l is e f none =
    let here : is_new cmp xs x ≡ true = ap not (sym e ∙ f) in
    filter_kept (is_new cmp xs) ys i x l (ap (is_new cmp xs) (sym is) ∙ here) none
