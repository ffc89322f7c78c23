-- The first fault of lists that are looked through one element after the other.
use Rattle.std.proofs.Common.{◌≡◌, ℕ, ◌+◌, Bool, true, false, List, [], ◌∷◌, ◌++◌, length, refl, sym, ◌∙◌, ap, subst, Option, None, Some, Result}
use Rattle.std.specs.Prelude.{IfOk, ◌==◌, is_some}
use Rattle.std.proofs.lemmas.Bool.{eq-eqb}
use Rattle.kat_design.specs.Faults.{Path, first_of, here_if, within, each_faults, matched_faults, list_faults}
use Rattle.kat_sort_check.specs.Places.{earlier, placed}

pub first_append : (xs ys : List Path) → first_of (xs ++ ys) ≡ earlier (first_of xs) (first_of ys)
first_append [] ys = refl
first_append (x ∷ xs) ys = refl

pub first_within : (index : ℕ) (xs : List Path) → first_of (within index xs) ≡ placed index (first_of xs)
first_within index [] = refl
first_within index (x ∷ xs) = refl

-- what is known of a result is known of what equals it
pub ok_to : {E : Type 0} (r : Result (Option Path) E) (a b : Option Path) → IfOk r (λ p. p ≡ a) → a ≡ b → IfOk r (λ p. p ≡ b)
ok_to r a b h e = subst (λ (w : Option Path). IfOk r (λ p. p ≡ w)) e h

-- a first fault in an element is that of the whole
earlier_found : (i : ℕ) (fault rest : Option Path) → is_some fault ≡ true → earlier (placed i fault) rest ≡ placed i fault
earlier_found i None rest h = absurd (cc)
earlier_found i (Some path) rest h = refl

earlier_missed : (i : ℕ) (fault rest : Option Path) → is_some fault ≡ false → earlier (placed i fault) rest ≡ rest
earlier_missed i None rest h = refl
earlier_missed i (Some path) rest h = absurd (cc)

each_step : {A : Type 0} (f : A → List Path) (i : ℕ) (left rest : List A) (x : A) → left ≡ x ∷ rest
    → first_of (each_faults f i left) ≡ earlier (placed i (first_of (f x))) (first_of (each_faults f (i + 1) rest))
each_step f i left rest x e =
    ap (λ v. first_of (each_faults f i v)) e
    ∙ (first_append (within i (f x)) (each_faults f (i + 1) rest) ∙ ap (λ o. earlier o (first_of (each_faults f (i + 1) rest))) (first_within i (f x)))

matched_step : {A B : Type 0} (f : A → B → List Path) (i : ℕ) (left rest : List A) (others behind : List B) (x : A) (y : B) → left ≡ x ∷ rest → others ≡ y ∷ behind
    → first_of (matched_faults f i left others) ≡ earlier (placed i (first_of (f x y))) (first_of (matched_faults f (i + 1) rest behind))
matched_step f i left rest others behind x y e k =
    ap (λ v. first_of (matched_faults f i v others)) e ∙ ap (λ v. first_of (matched_faults f i (x ∷ rest) v)) k
    ∙ (first_append (within i (f x y)) (matched_faults f (i + 1) rest behind) ∙ ap (λ o. earlier o (first_of (matched_faults f (i + 1) rest behind))) (first_within i (f x y)))

-- what is left from an index on has the first fault of the whole
pub record EachLeft {A : Type 0} (f : A → List Path) (whole : List A) (i : ℕ) (left : List A) : Type 0 where
  pub same : first_of (each_faults f 0 whole) ≡ first_of (each_faults f i left)

pub record MatchedLeft {A B : Type 0} (f : A → B → List Path) (whole : List A) (others : List B) (i : ℕ) (left : List A) (behind : List B) : Type 0 where
  pub same : first_of (matched_faults f 0 whole others) ≡ first_of (matched_faults f i left behind)

pub each_next : {A : Type 0} (f : A → List Path) (whole : List A) (i : ℕ) (left rest : List A) (x : A) (fault : Option Path)
    → EachLeft f whole i left → left ≡ x ∷ rest → fault ≡ first_of (f x) → is_some fault ≡ false → EachLeft f whole (i + 1) rest
each_next f whole i left rest x fault l e k none = record {
  same = l.same ∙ each_step f i left rest x e ∙ ap (λ o. earlier (placed i o) (first_of (each_faults f (i + 1) rest))) (sym k)
      ∙ earlier_missed i fault (first_of (each_faults f (i + 1) rest)) none;
}

pub each_found : {E A : Type 0} (r : Result (Option Path) E) (f : A → List Path) (whole : List A) (i : ℕ) (left rest : List A) (x : A) (fault : Option Path)
    → EachLeft f whole i left → left ≡ x ∷ rest → fault ≡ first_of (f x) → is_some fault ≡ true → IfOk r (λ p. p ≡ placed i fault)
    → IfOk r (λ p. p ≡ first_of (each_faults f 0 whole))
each_found r f whole i left rest x fault l e k some is =
    ok_to r (placed i fault) (first_of (each_faults f 0 whole)) is
    (sym (l.same ∙ each_step f i left rest x e ∙ ap (λ o. earlier (placed i o) (first_of (each_faults f (i + 1) rest))) (sym k)
    ∙ earlier_found i fault (first_of (each_faults f (i + 1) rest)) some))

pub each_none : {A : Type 0} (f : A → List Path) (whole : List A) (i : ℕ) (left : List A) → EachLeft f whole i left → left ≡ [] → None ≡ first_of (each_faults f 0 whole)
each_none f whole i left l e = sym (l.same ∙ ap (λ v. first_of (each_faults f i v)) e)

-- lists of one length
list_matched : {A B : Type 0} (f : A → B → List Path) (whole : List A) (others : List B) → length whole ≡ length others
    → first_of (list_faults f whole others) ≡ first_of (matched_faults f 0 whole others)
list_matched f whole others e = let t : (length whole == length others) ≡ true = eq-eqb (length whole) (length others) e in rw t refl

pub list_uneven : {A B : Type 0} (f : A → B → List Path) (whole : List A) (others : List B) → (length whole == length others) ≡ false
    → Some [] ≡ first_of (list_faults f whole others)
list_uneven f whole others e = rw e refl

pub matched_next : {A B : Type 0} (f : A → B → List Path) (whole : List A) (others : List B) (i : ℕ) (left rest : List A) (behind last : List B) (x : A) (y : B) (fault : Option Path)
    → MatchedLeft f whole others i left behind → left ≡ x ∷ rest → behind ≡ y ∷ last → fault ≡ first_of (f x y) → is_some fault ≡ false
    → MatchedLeft f whole others (i + 1) rest last
matched_next f whole others i left rest behind last x y fault l e g k none = record {
  same = l.same ∙ matched_step f i left rest behind last x y e g ∙ ap (λ o. earlier (placed i o) (first_of (matched_faults f (i + 1) rest last))) (sym k)
      ∙ earlier_missed i fault (first_of (matched_faults f (i + 1) rest last)) none;
}

pub matched_found : {E A B : Type 0} (r : Result (Option Path) E) (f : A → B → List Path) (whole : List A) (others : List B) (i : ℕ) (left rest : List A) (behind last : List B) (x : A) (y : B) (fault : Option Path)
    → length whole ≡ length others → MatchedLeft f whole others i left behind → left ≡ x ∷ rest → behind ≡ y ∷ last → fault ≡ first_of (f x y) → is_some fault ≡ true
    → IfOk r (λ p. p ≡ placed i fault) → IfOk r (λ p. p ≡ first_of (list_faults f whole others))
matched_found r f whole others i left rest behind last x y fault even l e g k some is =
    ok_to r (placed i fault) (first_of (list_faults f whole others)) is
    (sym (list_matched f whole others even ∙ l.same ∙ matched_step f i left rest behind last x y e g
    ∙ ap (λ o. earlier (placed i o) (first_of (matched_faults f (i + 1) rest last))) (sym k)
    ∙ earlier_found i fault (first_of (matched_faults f (i + 1) rest last)) some))

pub matched_none : {A B : Type 0} (f : A → B → List Path) (whole : List A) (others : List B) (i : ℕ) (left : List A) (behind : List B)
    → length whole ≡ length others → MatchedLeft f whole others i left behind → left ≡ [] → None ≡ first_of (list_faults f whole others)
matched_none f whole others i left behind even l e = sym (list_matched f whole others even ∙ l.same ∙ ap (λ v. first_of (matched_faults f i v behind)) e)

-- the first fault inside an element, and that of two lists
pub placed_first : (index : ℕ) (xs : List Path) (a b : Option Path) → a ≡ placed index b → b ≡ first_of xs → a ≡ first_of (within index xs)
placed_first index xs a b e k = e ∙ ap (λ o. placed index o) k ∙ sym (first_within index xs)

pub both_first : (xs ys : List Path) (a b whole : Option Path) → a ≡ first_of xs → b ≡ first_of ys → whole ≡ earlier a b → whole ≡ first_of (xs ++ ys)
both_first xs ys a b whole e k is = is ∙ ap (λ o. earlier o b) e ∙ ap (λ o. earlier (first_of xs) o) k ∙ sym (first_append xs ys)

-- the first fault of a design that isn't too large
pub design_first : (large : Bool) (xs ys : List Path) (a b whole : Option Path) → large ≡ false → a ≡ first_of xs → b ≡ first_of ys → whole ≡ earlier a b
    → placed 3 whole ≡ first_of (within 3 (here_if large ++ xs ++ ys))
design_first large xs ys a b whole small e k is =
    subst (λ (l : Bool). placed 3 whole ≡ first_of (within 3 (here_if l ++ xs ++ ys))) (sym small)
    (ap (λ o. placed 3 o) (both_first xs ys a b whole e k is) ∙ sym (first_within 3 (xs ++ ys)))
