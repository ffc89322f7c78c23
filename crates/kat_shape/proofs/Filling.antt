-- What the flat list of a shape's leaves says of the value that it fills.
use Rattle.std.proofs.Common.{◌≡◌, ◌↔◌, Bool, true, ℕ, ◌+◌, ◌≤◌, List, [], ◌∷◌, ◌++◌, map, length, take, drop, refl, sym, ◌∙◌, ap, subst, arith, length-append, take-append-drop}
use Rattle.std.proofs.lemmas.List.{length-map, map-append}
use Rattle.kat_num.specs.declared.values.Value.{Value}
use Rattle.kat_num.specs.declared.values.Value.TheVariants.{Bool as Truth, Num, Name}
use Rattle.kat_shape.specs.Forms.{CellForm, numbers, names, truths, lex, pair, LeafKind, leaf_kind_of, leaf_kinds_of, IsGoodForm, width_of}
use Rattle.kat_shape.specs.Values.{Filled, a_number, a_name, a_truth, a_lex, a_pair, shape_of, leaves_of, joined, OneShape}
use Rattle.kat_shape.specs.Flats.{filled_with, Fits, FitBoth, IsFlat}

-- the kinds of a value's leaves are those of its shape
pub leaf_kinds_of-shape_of : (a : Filled) → map leaf_kind_of (leaves_of a) ≡ leaf_kinds_of (shape_of a)
leaf_kinds_of-shape_of (a_number z) = refl
leaf_kinds_of-shape_of (a_name n) = refl
leaf_kinds_of-shape_of (a_truth b) = refl
leaf_kinds_of-shape_of (a_lex a b) = map-append leaf_kind_of (leaves_of a) (leaves_of b) ∙ (let e = leaf_kinds_of-shape_of a in let f = leaf_kinds_of-shape_of b in cc)
leaf_kinds_of-shape_of (a_pair a b) = map-append leaf_kind_of (leaves_of a) (leaves_of b) ∙ (let e = leaf_kinds_of-shape_of a in let f = leaf_kinds_of-shape_of b in cc)

-- the number of leaves
pub kinds_long : (f : CellForm) → length (leaf_kinds_of f) ≡ width_of f
kinds_long numbers = refl
kinds_long names = refl
kinds_long truths = refl
kinds_long (lex a b) = length-append (leaf_kinds_of a) (leaf_kinds_of b) ∙ (let e = kinds_long a in let f = kinds_long b in cc)
kinds_long (pair a b) = length-append (leaf_kinds_of a) (leaf_kinds_of b) ∙ (let e = kinds_long a in let f = kinds_long b in cc)

pub fits_long : (f : CellForm) (vs : List Value) → Fits f vs → length vs ≡ width_of f
fits_long f vs h = sym (length-map vs leaf_kind_of) ∙ (ap length h.kinds ∙ kinds_long f)

front_kinds : (ks ls : List LeafKind) (vs : List Value) → map leaf_kind_of vs ≡ ks ++ ls → map leaf_kind_of (take (length ks) vs) ≡ ks
front_kinds [] ls vs h = refl
front_kinds (k ∷ ks) ls [] h = (cc)
front_kinds (k ∷ ks) ls (v ∷ vs) h = (let e = front_kinds ks ls vs (cc) in let f : leaf_kind_of v ≡ k = (cc) in cc)

back_kinds : (ks ls : List LeafKind) (vs : List Value) → map leaf_kind_of vs ≡ ks ++ ls → map leaf_kind_of (drop (length ks) vs) ≡ ls
back_kinds [] ls vs h = h
back_kinds (k ∷ ks) ls [] h = (cc)
back_kinds (k ∷ ks) ls (v ∷ vs) h = back_kinds ks ls vs (cc)

pub fits_front : (a b : CellForm) (vs : List Value) → map leaf_kind_of vs ≡ leaf_kinds_of a ++ leaf_kinds_of b → Fits a (take (width_of a) vs)
fits_front a b vs h = record { kinds = subst (λ n. map leaf_kind_of (take n vs) ≡ leaf_kinds_of a) (kinds_long a) (front_kinds (leaf_kinds_of a) (leaf_kinds_of b) vs h) }

pub fits_back : (a b : CellForm) (vs : List Value) → map leaf_kind_of vs ≡ leaf_kinds_of a ++ leaf_kinds_of b → Fits b (drop (width_of a) vs)
fits_back a b vs h = record { kinds = subst (λ n. map leaf_kind_of (drop n vs) ≡ leaf_kinds_of b) (kinds_long a) (back_kinds (leaf_kinds_of a) (leaf_kinds_of b) vs h) }

pub fits_both : (a b : CellForm) (xs ys : List Value) → Fits a xs → Fits b ys → map leaf_kind_of (xs ++ ys) ≡ leaf_kinds_of a ++ leaf_kinds_of b
fits_both a b xs ys h k = map-append leaf_kind_of xs ys ∙ (let e = h.kinds in let f = k.kinds in cc)

take_first : {X : Type 0} (xs ys : List X) → take (length xs) (xs ++ ys) ≡ xs
take_first [] ys = refl
take_first (x ∷ xs) ys = ap (λ zs. x ∷ zs) (take_first xs ys)

drop_first : {X : Type 0} (xs ys : List X) → drop (length xs) (xs ++ ys) ≡ ys
drop_first [] ys = refl
drop_first (x ∷ xs) ys = drop_first xs ys

pub take_fit : (a : CellForm) (xs ys : List Value) → Fits a xs → take (width_of a) (xs ++ ys) ≡ xs
take_fit a xs ys h = ap (λ n. take n (xs ++ ys)) (sym (fits_long a xs h)) ∙ take_first xs ys

pub drop_fit : (a : CellForm) (xs ys : List Value) → Fits a xs → drop (width_of a) (xs ++ ys) ≡ ys
drop_fit a xs ys h = ap (λ n. drop n (xs ++ ys)) (sym (fits_long a xs h)) ∙ drop_first xs ys

pub shape_of-filled : (f : CellForm) (vs : List Value) → shape_of (filled_with f vs) ≡ f
shape_of-filled numbers vs = refl
shape_of-filled names vs = refl
shape_of-filled truths vs = refl
shape_of-filled (lex a b) vs = (let e = shape_of-filled a (take (width_of a) vs) in let f = shape_of-filled b (drop (width_of a) vs) in cc)
shape_of-filled (pair a b) vs = (let e = shape_of-filled a (take (width_of a) vs) in let f = shape_of-filled b (drop (width_of a) vs) in cc)

one_number : (vs : List Value) → Fits numbers vs → leaves_of (filled_with numbers vs) ≡ vs
one_number [] h = (let e = h.kinds in cc)
one_number (Num z ∷ []) h = refl
one_number (Name n ∷ vs) h = (let e = h.kinds in cc)
one_number (Truth b ∷ vs) h = (let e = h.kinds in cc)
one_number (Num z ∷ v ∷ vs) h = (let e = h.kinds in cc)

one_name : (vs : List Value) → Fits names vs → leaves_of (filled_with names vs) ≡ vs
one_name [] h = (let e = h.kinds in cc)
one_name (Name n ∷ []) h = refl
one_name (Num z ∷ vs) h = (let e = h.kinds in cc)
one_name (Truth b ∷ vs) h = (let e = h.kinds in cc)
one_name (Name n ∷ v ∷ vs) h = (let e = h.kinds in cc)

one_truth : (vs : List Value) → Fits truths vs → leaves_of (filled_with truths vs) ≡ vs
one_truth [] h = (let e = h.kinds in cc)
one_truth (Truth b ∷ []) h = refl
one_truth (Num z ∷ vs) h = (let e = h.kinds in cc)
one_truth (Name n ∷ vs) h = (let e = h.kinds in cc)
one_truth (Truth b ∷ v ∷ vs) h = (let e = h.kinds in cc)

pub leaves_of-filled : (f : CellForm) (vs : List Value) → Fits f vs → leaves_of (filled_with f vs) ≡ vs
leaves_of-filled numbers vs h = one_number vs h
leaves_of-filled names vs h = one_name vs h
leaves_of-filled truths vs h = one_truth vs h
leaves_of-filled (lex a b) vs h =
    let e = leaves_of-filled a (take (width_of a) vs) (fits_front a b vs h.kinds) in
    let f = leaves_of-filled b (drop (width_of a) vs) (fits_back a b vs h.kinds) in
    let whole : take (width_of a) vs ++ drop (width_of a) vs ≡ vs = take-append-drop (width_of a) vs in
    cc
leaves_of-filled (pair a b) vs h =
    let e = leaves_of-filled a (take (width_of a) vs) (fits_front a b vs h.kinds) in
    let f = leaves_of-filled b (drop (width_of a) vs) (fits_back a b vs h.kinds) in
    let whole : take (width_of a) vs ++ drop (width_of a) vs ≡ vs = take-append-drop (width_of a) vs in
    cc

-- the leaves of a value, from the list that it keeps
pub kept_leaves : (f : CellForm) (vs : List Value) (a : Filled) → Fits f vs → filled_with f vs ≡ a → leaves_of a ≡ vs
kept_leaves f vs a h e = ap leaves_of (sym e) ∙ leaves_of-filled f vs h

front_within : (f g : CellForm) (vs : List Value) → FitBoth f g vs → width_of f ≤ length vs
front_within f g vs h =
    let e : length vs ≡ length (leaf_kinds_of f ++ leaf_kinds_of g) = sym (length-map vs leaf_kind_of) ∙ ap length h.kinds in
    let k : length (leaf_kinds_of f ++ leaf_kinds_of g) ≡ length (leaf_kinds_of f) + length (leaf_kinds_of g) = length-append (leaf_kinds_of f) (leaf_kinds_of g) in
    let l : length (leaf_kinds_of f) ≡ width_of f = kinds_long f in
    omega arith

pub front_in : (f g : CellForm) (vs : List Value) → FitBoth f g vs → width_of f ≤ length vs
front_in f g vs h = front_within f g vs h

pub fits_first : (f g : CellForm) (vs : List Value) → FitBoth f g vs → Fits f (take (width_of f) vs)
fits_first f g vs h = fits_front f g vs h.kinds

pub fits_second : (f g : CellForm) (vs : List Value) → FitBoth f g vs → Fits g (drop (width_of f) vs)
fits_second f g vs h = fits_back f g vs h.kinds

pub filled_shape : (f : CellForm) (vs : List Value) → shape_of (filled_with f vs) ≡ f
filled_shape f vs = shape_of-filled f vs

pub filled_leaves : (f : CellForm) (vs : List Value) → map leaf_kind_of vs ≡ leaf_kinds_of f → leaves_of (filled_with f vs) ≡ vs
filled_leaves f vs h = leaves_of-filled f vs (record { kinds = h })

-- the parts of a value, as the code cuts them
pub part_front : (f g h : CellForm) (vs xs : List Value) → f ≡ h → g ≡ h → xs ≡ take (width_of g) vs → filled_with f xs ≡ filled_with h (take (width_of h) vs)
part_front f g h vs xs e k is = cc

pub part_back : (f g h j : CellForm) (vs xs : List Value) → f ≡ j → g ≡ h → xs ≡ drop (width_of g) vs → filled_with f xs ≡ filled_with j (drop (width_of h) vs)
part_back f g h j vs xs e k is = cc

-- two cells of one shape
pub one_form : (f g : CellForm) (vs ws : List Value) (a b : Filled) → filled_with f vs ≡ a → filled_with g ws ≡ b → shape_of a ≡ shape_of b → f ≡ g
one_form f g vs ws a b e k s = sym (shape_of-filled f vs) ∙ (ap shape_of e ∙ (s ∙ (ap shape_of (sym k) ∙ shape_of-filled g ws)))

pub fits_as : (f h g : CellForm) (vs ws : List Value) → f ≡ h → h ≡ g → ws ≡ vs → Fits g vs → Fits f ws
fits_as f h g vs ws e k is fits = record { kinds = (let l = fits.kinds in cc) }

pub below_as : (f h g : CellForm) (ms vs ts ws : List Value) (a b : Filled) (r : Bool) → f ≡ h → h ≡ g → ms ≡ vs → ts ≡ ws → filled_with h vs ≡ a → filled_with g ws ≡ b → ((r ≡ true) ↔ (joined (filled_with f ms) (filled_with f ts) ≡ filled_with f ts)) → (r ≡ true) ↔ (joined a b ≡ b)
below_as f h g ms vs ts ws a b r e k is are va vb low = (λ t. let j = low.0 t in (cc), λ t. low.1 (cc))

pub joined_as : (f h g : CellForm) (new ms vs ts ws : List Value) (a b : Filled) → f ≡ h → h ≡ g → ms ≡ vs → ts ≡ ws → filled_with h vs ≡ a → filled_with g ws ≡ b → filled_with f new ≡ joined (filled_with f ms) (filled_with f ts) → filled_with h new ≡ joined a b
joined_as f h g new ms vs ts ws a b e k is are va vb j = cc

-- the parts of the values of a pair
pub pair_front : (f g h j : CellForm) (vs xs : List Value) (n : ℕ) → f ≡ h → g ≡ h → n ≡ width_of g → xs ≡ take n vs → FitBoth h j vs → Fits f xs
pair_front f g h j vs xs n e k l is both =
    let there : xs ≡ take (width_of h) vs = is ∙ ap (λ m. take m vs) (l ∙ ap width_of k) in
    subst (λ t. Fits t xs) (sym e) (subst (Fits h) (sym there) (fits_first h j vs both))

pub pair_back : (f g h j : CellForm) (vs xs : List Value) (n : ℕ) → f ≡ j → g ≡ h → n ≡ width_of g → xs ≡ drop n vs → FitBoth h j vs → Fits f xs
pair_back f g h j vs xs n e k l is both =
    let there : xs ≡ drop (width_of h) vs = is ∙ ap (λ m. drop m vs) (l ∙ ap width_of k) in
    subst (λ t. Fits t xs) (sym e) (subst (Fits j) (sym there) (fits_second h j vs both))

pub whole_taken : {X : Type 0} (xs ys : List X) (n : ℕ) → length xs ≡ n → take n (xs ++ ys) ≡ xs
whole_taken {X} xs ys n h = subst (λ (m : ℕ). take m (xs ++ ys) ≡ xs) h (take_first xs ys)

-- two cells of one shape go together
pub go_together : (f : CellForm) (vs : List Value) (a b : Filled) → IsFlat f vs → filled_with f vs ≡ a → shape_of a ≡ shape_of b → OneShape a b
go_together f vs a b h e same = record { good = subst IsGoodForm (sym (shape_of-filled f vs) ∙ ap shape_of e) h.good; same = same }
