-- Loops that compute each number of a list in turn, up to the first that passes its limit.
use Rattle.std.proofs.Common.{◌≡◌, ℕ, ◌+◌, ◌<◌, ◌≤◌, ℤ, List, [], ◌∷◌, ◌++◌, length, drop, get_or, refl, sym, ap, ◌∙◌, arith, append_assoc, map}
use Rattle.std.specs.List.{zip}
use Rattle.std.proofs.lemmas.List.{append-nil, drop_all, drop_more}
use Rattle.std.proofs.lemmas.Slice.Zip.{length-zip, get_or-zip}
use Rattle.kat_fm.specs.Limits.{Checked, and_then, checked_map}
use Rattle.kat_fm.specs.Limits.Checked.{fits, passes}
use Rattle.kat_fm.specs.EntryViews.{behind}

pub nested : {A B C : Type 0} (x : Checked A) (f : A → Checked B) (g : B → Checked C) → and_then x (λ y. and_then (f y) g) ≡ and_then (and_then x f) g
nested (fits x) f g = refl
nested (passes left right) f g = refl

pub begins : {A B : Type 0} (f : A → Checked B) (xs : List A) → behind f xs [] ≡ checked_map f xs
begins {A} {B} f xs = same (checked_map f xs)
  where
    same : (c : Checked (List B)) → and_then c (λ ys. fits ([] ++ ys)) ≡ c
    same (fits ys) = refl
    same (passes left right) = refl

push_checked : {B : Type 0} (W : Checked (List B)) (z : B) (front : List B) → and_then (and_then W (λ zs. fits (z ∷ zs))) (λ zs. fits (front ++ zs)) ≡ and_then W (λ zs. fits ((front ++ z ∷ []) ++ zs))
push_checked (fits zs) z front = ap fits (sym (append_assoc front (z ∷ []) zs))
push_checked (passes left right) z front = refl

at_place : {A B : Type 0} (f : A → Checked B) (xs : List A) (i : ℕ) (d : A) (done : List B) → i < length xs → behind f (drop i xs) done ≡ behind f (get_or xs i d ∷ drop (i + 1) xs) done
at_place f xs i d done h = ap (λ ys. behind f ys done) (drop_more xs i d h)

pub goes_on : {A B : Type 0} (f : A → Checked B) (xs : List A) (i : ℕ) (x : A) (y : B) (done : List B) (whole : Checked (List B)) → i < length xs → x ≡ get_or xs i x → fits y ≡ f x → behind f (drop i xs) done ≡ whole → behind f (drop (i + 1) xs) (done ++ y ∷ []) ≡ whole
goes_on {A} {B} f xs i x y done whole h is e before =
    let W = checked_map f (drop (i + 1) xs) in
    let F : Checked B → Checked (List B) = λ c. and_then (and_then c (λ y. and_then W (λ ys. fits (y ∷ ys)))) (λ ys. fits (done ++ ys)) in
    sym (push_checked W y done) ∙ ap F (e ∙ ap f is) ∙ sym (at_place f xs i x done h) ∙ before

pub stops : {A B : Type 0} (f : A → Checked B) (xs : List A) (i : ℕ) (x : A) (left right : ℤ) (done : List B) (whole : Checked (List B)) → i < length xs → x ≡ get_or xs i x → passes left right ≡ f x → behind f (drop i xs) done ≡ whole → passes left right ≡ whole
stops {A} {B} f xs i x left right done whole h is e before =
    let W = checked_map f (drop (i + 1) xs) in
    let F : Checked B → Checked (List B) = λ c. and_then (and_then c (λ y. and_then W (λ ys. fits (y ∷ ys)))) (λ ys. fits (done ++ ys)) in
    ap F (e ∙ ap f is) ∙ sym (at_place f xs i x done h) ∙ before

pub ends : {A B : Type 0} (f : A → Checked B) (xs : List A) (i : ℕ) (done : List B) (whole : Checked (List B)) → length xs ≤ i → behind f (drop i xs) done ≡ whole → fits done ≡ whole
ends f xs i done whole h before =
    ap fits (sym (append-nil done)) ∙ ap (λ ys. behind f ys done) (sym (drop_all i xs h)) ∙ before

-- the places of two lists side by side
pub zip_below : {A B : Type 0} (xs : List A) (ys : List B) (i : ℕ) → i < length xs → i < length ys → i < length (zip xs ys)
zip_below xs ys i h k = omega (arith, length-zip xs ys)

pub zip_past : {A B : Type 0} (xs : List A) (ys : List B) (i : ℕ) → length xs ≤ i → length (zip xs ys) ≤ i
zip_past xs ys i h = omega (arith, length-zip xs ys)

pub zip_short : {A B : Type 0} (xs : List A) (ys : List B) (i : ℕ) → length ys ≤ i → length (zip xs ys) ≤ i
zip_short xs ys i h = omega (arith, length-zip xs ys)

-- the pair at a place of two lists
pub zip_at : {A B : Type 0} (xs : List A) (ys : List B) (i : ℕ) (x : A) (y : B) → i < length xs → i < length ys → x ≡ get_or xs i x → y ≡ get_or ys i y → ◌≡◌ {A = A × B} (x, y) (get_or (zip xs ys) i (x, y))
zip_at {A} {B} xs ys i x y h k e f =
    let pair : ◌≡◌ {A = A × B} (x, y) (get_or xs i x, get_or ys i y) = λ j. (e j, f j) in
    pair ∙ sym (get_or-zip xs ys i (x, y) h k)

-- one list after another, and a list that is made of another
first_of_both : {A B : Type 0} (f : A → Checked B) (xs ys : List A) (done : List B) (c : Checked B)
    → ((more : List B) → behind f (xs ++ ys) more ≡ and_then (behind f xs more) (λ d. behind f ys d))
    → and_then (and_then c (λ y. and_then (checked_map f (xs ++ ys)) (λ zs. fits (y ∷ zs)))) (λ zs. fits (done ++ zs))
    ≡ and_then (and_then (and_then c (λ y. and_then (checked_map f xs) (λ zs. fits (y ∷ zs)))) (λ zs. fits (done ++ zs))) (λ d. behind f ys d)
first_of_both f xs ys done (passes left right) h = refl
first_of_both f xs ys done (fits y) h =
    push_checked (checked_map f (xs ++ ys)) y done ∙ h (done ++ y ∷ []) ∙ ap (λ c. and_then c (λ d. behind f ys d)) (sym (push_checked (checked_map f xs) y done))

pub behind_append : {A B : Type 0} (f : A → Checked B) (xs ys : List A) (done : List B) → behind f (xs ++ ys) done ≡ and_then (behind f xs done) (λ d. behind f ys d)
behind_append f [] ys done = ap (λ d. behind f ys d) (sym (append-nil done))
behind_append f (x ∷ xs) ys done = first_of_both f xs ys done (f x) (λ more. behind_append f xs ys more)

pub map_checked : {A B C : Type 0} (f : B → Checked C) (g : A → B) (xs : List A) → checked_map f (map g xs) ≡ checked_map (λ x. f (g x)) xs
map_checked f g [] = refl
map_checked f g (x ∷ xs) = ap (λ c. and_then (f (g x)) (λ y. and_then c (λ ys. fits (y ∷ ys)))) (map_checked f g xs)
