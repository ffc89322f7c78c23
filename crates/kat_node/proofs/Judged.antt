-- Elements that are judged one after the other, each with the key of the one before it.
use Rattle.std.proofs.Common.{◌≡◌, ℕ, ◌+◌, ◌<◌, true, Bool, false, List, [], ◌∷◌, ◌++◌, drop, get_or, length, refl, sym, ap, ◌∙◌, subst, Option, Some, None, Result, Ok, Err}
use Rattle.std.specs.Prelude.{IfOk, not}
use Rattle.std.specs.declared.cmp.Ordering.{Ordering}
use Rattle.std.specs.declared.cmp.Ordering.TheVariants.{Less, Equal, Greater}
use Rattle.std.specs.Ordering.{is_lt, on}
use Rattle.std.specs.Cmp.{IsTotalOrder}
use Rattle.std.proofs.lemmas.Cmp.{on_total}
use Rattle.kat_lattice.specs.Keyed.{IsAscending, IsBefore}
use Rattle.kat_lattice.specs.KeyedLaws.{before_all}
use Rattle.kat_design.proofs.Accepted.{none_left, none_right}
use Rattle.kat_design.proofs.Firsts.{left_drop}
use Rattle.kat_design.specs.Faults.{Path, each_faults, here_if, within}
use Rattle.kat_json.proofs.Backwards.{here_back, within_back}
use Rattle.kat_json.proofs.Refusing.{refused_front, refused_same, within_none}
use Rattle.kat_json.specs.Refused.{IsRefused}
use Rattle.kat_json.specs.declared.errors.WireError.{WireError}
use Rattle.kat_node.specs.Possible.{element_faults, follows, with_last}

-- no fault before the index
pub record JudgedSoFar {P : Type 0} (faults : P → List Path) (from : ℕ) (whole : List P) (i : ℕ) (left : List P) : Type 0 where
  pub same : each_faults faults from whole ≡ each_faults faults i left

pub judged_none : {P : Type 0} (faults : P → List Path) (from : ℕ) (whole : List P) → JudgedSoFar faults from whole from whole
judged_none faults from whole = record { same = refl }

pub judged_next : {P : Type 0} (faults : P → List Path) (from : ℕ) (whole : List P) (i : ℕ) (left rest : List P) (p : P) → JudgedSoFar faults from whole i left → left ≡ p ∷ rest → faults p ≡ []
    → JudgedSoFar faults from whole (i + 1) rest
judged_next faults from whole i left rest p so next none = record {
  same = so.same ∙ ap (λ ps. each_faults faults i ps) next ∙ ap (λ fs. fs ++ each_faults faults (i + 1) rest) (within_none i (faults p) none);
}

pub judged_refused : {P : Type 0} (faults : P → List Path) (from : ℕ) (whole : List P) (i : ℕ) (left rest : List P) (p : P) (e : WireError) → JudgedSoFar faults from whole i left → left ≡ p ∷ rest
    → IsRefused (within i (faults p)) e → IsRefused (each_faults faults from whole) e
judged_refused faults from whole i left rest p e so next h =
    refused_same (each_faults faults from whole) (within i (faults p) ++ each_faults faults (i + 1) rest) e (so.same ∙ ap (λ ps. each_faults faults i ps) next)
    (refused_front (within i (faults p)) (each_faults faults (i + 1) rest) e h)

pub judged_all : {P : Type 0} (faults : P → List Path) (from : ℕ) (whole : List P) (i : ℕ) (left : List P) → JudgedSoFar faults from whole i left → left ≡ [] → each_faults faults from whole ≡ []
judged_all faults from whole i left so ended = so.same ∙ ap (λ ps. each_faults faults i ps) ended

-- the element at an index, with the key before it
pub last_left : {K E : Type 0} (key : E → K) (last : Option K) (xs : List E) (i : ℕ) (x : E) → i < length xs → x ≡ get_or xs i x
    → with_last key last (drop i xs) ≡ (last, x) ∷ with_last key (Some (key x)) (drop (i + 1) xs)
last_left key last xs i x inside is = ap (λ ys. with_last key last ys) (left_drop xs i x inside is)

-- elements without a fault ascend
pub not_back : (b : Bool) → not b ≡ false → b ≡ true
not_back true h = refl
not_back false h = sym h

pub less_back : (o : Ordering) → is_lt o ≡ true → o ≡ Less
less_back Less h = refl
less_back Equal h = absurd (cc)
less_back Greater h = absurd (cc)

comes_behind : {K E : Type 0} (ascend : K → K → Bool) (key : E → K) (f : E → List Path) (last : K) (x : E) → element_faults ascend key f (Some last, x) ≡ [] → ascend last (key x) ≡ true
comes_behind ascend key f last x none = not_back (ascend last (key x)) (here_back (not (ascend last (key x))) (none_left (here_if (not (ascend last (key x)))) (f x) none))

-- of two elements without a fault that may follow one another, the first is less
abbrev pub AreLess : {K E : Type 0} → (K → K → Ordering) → (K → K → Bool) → (E → K) → (E → List Path) → Type 0
AreLess {K} {E} cmp ascend key f = (a b : E) → f a ≡ [] → f b ≡ [] → ascend (key a) (key b) ≡ true → cmp (key a) (key b) ≡ Less

pub first_none : {P : Type 0} (faults : P → List Path) (i : ℕ) (p : P) (ps : List P) → each_faults faults i (p ∷ ps) ≡ [] → faults p ≡ []
first_none faults i p ps none = within_back i (faults p) (none_left (within i (faults p)) (each_faults faults (i + 1) ps) none)

pub rest_none : {P : Type 0} (faults : P → List Path) (i : ℕ) (p : P) (ps : List P) → each_faults faults i (p ∷ ps) ≡ [] → each_faults faults (i + 1) ps ≡ []
rest_none faults i p ps none = none_right (within i (faults p)) (each_faults faults (i + 1) ps) none

chained : {K E : Type 0} {cmp : K → K → Ordering} (o : IsTotalOrder cmp) (ascend : K → K → Bool) (key : E → K) (f : E → List Path) → AreLess cmp ascend key f → (i : ℕ) (e : E) (xs : List E) → f e ≡ []
    → each_faults (element_faults ascend key f) i (with_last key (Some (key e)) xs) ≡ [] → IsBefore (on key cmp) e xs × IsAscending (on key cmp) xs
chained o ascend key f less i e [] is none = (tt, tt)
chained {cmp = cmp} o ascend key f less i e (x ∷ xs) is none =
    let here = first_none (element_faults ascend key f) i (Some (key e), x) (with_last key (Some (key x)) xs) none in
    let own = none_right (here_if (not (ascend (key e) (key x)))) (f x) here in
    let first = less e x is own (comes_behind ascend key f (key e) x here) in
    let rest = chained o ascend key f less (i + 1) x xs own (rest_none (element_faults ascend key f) i (Some (key e), x) (with_last key (Some (key x)) xs) none) in
    ((first, before_all (on_total key o) e x xs first rest.0), rest)

pub ascending : {K E : Type 0} {cmp : K → K → Ordering} (o : IsTotalOrder cmp) (ascend : K → K → Bool) (key : E → K) (f : E → List Path) → AreLess cmp ascend key f → (xs : List E)
    → each_faults (element_faults ascend key f) 0 (with_last key None xs) ≡ [] → IsAscending (on key cmp) xs
ascending o ascend key f less [] none = tt
ascending {cmp = cmp} o ascend key f less (x ∷ xs) none =
    let here = first_none (element_faults ascend key f) 0 (None, x) (with_last key (Some (key x)) xs) none in
    chained o ascend key f less 1 x xs (none_right (here_if (not (follows ascend None (key x)))) (f x) here) (rest_none (element_faults ascend key f) 0 (None, x) (with_last key (Some (key x)) xs) none)

-- what was judged without an error has no fault
pub done_by : {T E : Type 0} (r : Result T E) (x : T) (faults : List Path) → r ≡ Ok x → IfOk r (λ _. faults ≡ []) → faults ≡ []
done_by (Ok y) x faults is done = done
done_by (Err e) x faults is done = absurd (cc)

pub ok_none : {T E : Type 0} (r : Result T E) (xs ys : List Path) → xs ≡ ys → IfOk r (λ _. ys ≡ []) → IfOk r (λ _. xs ≡ [])
ok_none (Ok y) xs ys same none = same ∙ none
ok_none (Err e) xs ys same none = tt

-- what holds of a result holds of what it is
same_ok : {T E : Type 0} (y x : T) → ◌≡◌ {A = Result T E} (Ok y) (Ok x) → y ≡ x
same_ok y x is = cc

pub said_by : {T E : Type 0} (r : Result T E) (x : T) (P : T → Type 0) → r ≡ Ok x → IfOk r P → P x
said_by {T} {E} (Ok y) x P is h = subst P (same_ok {T = T} {E = E} y x is) h
said_by (Err e) x P is h = absurd (cc)
