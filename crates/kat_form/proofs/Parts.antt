-- Going through the parts of a formula from the first to the last.
use Rattle.std.proofs.Common.{◌≡◌, ℕ, zero, suc, ◌+◌, ◌<◌, ◌≤◌, ℤ, Bool, false, Option, Some, None, is_some, List, [], ◌∷◌, ◌++◌, length, get_or, drop, map, refl, sym, ap, ◌∙◌, arith, append_assoc, subst, ◌↔◌, Vec, rules}
use Rattle.std.specs.Global.{Global}
use denote.Param.Weighed.{at_most, most}
use Rattle.kat_form.proofs.Formula.TheLaws.{the_size}
use Rattle.std.proofs.lemmas.List.{at_drop_more}
use Rattle.std.proofs.lemmas.List.Elements.{All-nil, All-cons, All-append, All-head, All-tail}
use Rattle.kat_linear.specs.Rows.{Form, form_of}
use Rattle.kat_linear.specs.declared.Row.{Row}
use Rattle.kat_form.specs.declared.Formula.{Formula}
use Rattle.kat_form.specs.declared.Formula.TheVariants.{AtMost, Above, And, Or}
use Rattle.kat_form.specs.declared.Formula.TheFolds.{the_lemmas}
use Rattle.kat_form.specs.Encodings.{Encoding}
use Rattle.kat_form.specs.Readings.{Reading, kept, kept_by, literals_of}
use Rattle.kat_form.specs.Facts.{IsSized, AreSized}
use Rattle.kat_form.specs.Folds.{reading_of, rows_of, rows_of_all}

-- literals before those of an encoding step
abbrev pub behind : List ℤ → List ℤ × Encoding → List ℤ × Encoding
behind ls p = (ls ++ p.0, p.1)

stays : (o : Option Bool) (r : Reading) (rs : List Reading) → is_some o ≡ false → kept_by o r rs ≡ r ∷ rs
stays (Some b) r rs e = absurd (cc)
stays None r rs e = refl

-- a part that does not fold away is the next that is kept
pub kept_more : (parts : List Formula) (i : ℕ) (part : Formula) → i < length parts → part ≡ get_or parts i part → is_some (reading_of part).constant ≡ false → kept (map reading_of (drop i parts)) ≡ reading_of part ∷ kept (map reading_of (drop (i + 1) parts))
kept_more parts i part h is open' =
    at_drop_more (λ (xs : List Formula). kept (map reading_of xs)) parts i part h
    ∙ ap (λ (x : Formula). kept_by (reading_of x).constant (reading_of x) (kept (map reading_of (drop (i + 1) parts)))) (sym is)
    ∙ stays (reading_of part).constant (reading_of part) (kept (map reading_of (drop (i + 1) parts))) open'

-- the rows of a part are rows of the whole
left : (xs ys : List Form) → AreSized (xs ++ ys) → AreSized xs
left [] ys h = All-nil IsSized
left (x ∷ xs) ys h = All-cons IsSized x xs (All-head IsSized x (xs ++ ys) h) (left xs ys (All-tail IsSized x (xs ++ ys) h))

right : (xs ys : List Form) → AreSized (xs ++ ys) → AreSized ys
right [] ys h = h
right (x ∷ xs) ys h = right xs ys (All-tail IsSized x (xs ++ ys) h)

sized_get : (parts : List Formula) (i : ℕ) (d : Formula) → i < length parts → AreSized (rows_of_all parts) → AreSized (rows_of (get_or parts i d))
sized_get [] i d h all = absurd (omega arith)
sized_get (p ∷ ps) zero d h all = left (rows_of p) (rows_of_all ps) all
sized_get (p ∷ ps) (suc i) d h all = sized_get ps i d (omega arith) (right (rows_of p) (rows_of_all ps) all)

pub sized_at : (parts : List Formula) (i : ℕ) (part : Formula) → i < length parts → part ≡ get_or parts i part → AreSized (rows_of_all parts) → AreSized (rows_of part)
sized_at parts i part h is all = rw is (sized_get parts i part h all)

-- taking literals, one part more
pub literals_more : (parts : List Formula) (i : ℕ) (part : Formula) (ls : List ℤ) (l : ℤ) (e e' : Encoding) → i < length parts → part ≡ get_or parts i part → is_some (reading_of part).constant ≡ false
    → l ≡ ((reading_of part).literal e).0 → e' ≡ ((reading_of part).literal e).1
    → behind (ls ++ l ∷ []) (literals_of (kept (map reading_of (drop (i + 1) parts))) e') ≡ behind ls (literals_of (kept (map reading_of (drop i parts))) e)
literals_more parts i part ls l e e' h is open' first left' =
    rw (kept_more parts i part h is open', first, left', append_assoc) refl

-- as many parts as there are, at most
kept_by_length : (o : Option Bool) (r : Reading) (rs : List Reading) → length (kept_by o r rs) ≤ suc (length rs)
kept_by_length (Some b) r rs = omega arith
kept_by_length None r rs = omega arith

pub kept_length : (parts : List Formula) → length (kept (map reading_of parts)) ≤ length parts
kept_length [] = omega arith
kept_length (p ∷ ps) =
    let rest : length (kept (map reading_of ps)) ≤ length ps = kept_length ps in
    let here : length (kept_by (reading_of p).constant (reading_of p) (kept (map reading_of ps))) ≤ suc (length (kept (map reading_of ps))) = kept_by_length (reading_of p).constant (reading_of p) (kept (map reading_of ps)) in
    omega (arith, rest, here)

-- the only row of an atom
rows_at_most : (row : Row) → rows_of (AtMost row) ≡ form_of row ∷ []
rows_at_most row = search (rules, the_lemmas)

rows_above : (row : Row) → rows_of (Above row) ≡ form_of row ∷ []
rows_above row = search (rules, the_lemmas)

pub sized_at_most : (formula : Formula) (row : Row) → formula ≡ AtMost row → AreSized (rows_of formula) → IsSized (form_of row)
sized_at_most formula row is h =
    let P : List Form → Type 0 = AreSized in
    let Q : Formula → Type 0 = λ f. AreSized (rows_of f) in
    All-head IsSized (form_of row) [] (subst P (rows_at_most row) (subst Q is h))

pub sized_above : (formula : Formula) (row : Row) → formula ≡ Above row → AreSized (rows_of formula) → IsSized (form_of row)
sized_above formula row is h =
    let P : List Form → Type 0 = AreSized in
    let Q : Formula → Type 0 = λ f. AreSized (rows_of f) in
    All-head IsSized (form_of row) [] (subst P (rows_above row) (subst Q is h))

-- a part is no deeper than the deepest
pub no_deeper : (parts : List Formula) (i : ℕ) (part : Formula) → i < length parts → part ≡ get_or parts i part → the_size part ≤ most the_size parts
no_deeper parts i part h is = rw is (at_most the_size parts i part h)

-- the rows of what is left begin with those of a part
pub sized_back : (parts : List Formula) (i : ℕ) (part : Formula) → i < length parts → part ≡ get_or parts i part → AreSized (rows_of part) → AreSized (rows_of_all (drop (i + 1) parts)) → AreSized (rows_of_all (drop i parts))
sized_back parts i part h is here rest =
    let P : List Form → Type 0 = AreSized in
    let e : rows_of_all (drop i parts) ≡ rows_of part ++ rows_of_all (drop (i + 1) parts) =
    at_drop_more rows_of_all parts i part h ∙ ap (λ (x : Formula). rows_of x ++ rows_of_all (drop (i + 1) parts)) (sym is) in
    subst P (sym e) (All-append IsSized (rows_of part) (rows_of_all (drop (i + 1) parts)) here rest)

pub rows_same_at_most : (formula : Formula) (row : Row) → formula ≡ AtMost row → rows_of formula ≡ form_of row ∷ []
rows_same_at_most formula row is = ap rows_of is ∙ rows_at_most row

pub rows_same_above : (formula : Formula) (row : Row) → formula ≡ Above row → rows_of formula ≡ form_of row ∷ []
rows_same_above formula row is = ap rows_of is ∙ rows_above row

-- one row alone
pub sized_alone : (rows : List Form) (form : Form) → rows ≡ form ∷ [] → AreSized rows ↔ IsSized form
sized_alone rows form e =
    let P : List Form → Type 0 = AreSized in (
      λ h. All-head IsSized form [] (subst P e h),
      λ h. subst P (sym e) (All-cons IsSized form [] h (All-nil IsSized)),
    )

-- the rows of an "and" and of an "or" are those of the parts
pub rows_and : (parts : Vec Formula Global) → rows_of (And parts) ≡ rows_of_all parts.items
rows_and parts = search (rules, the_lemmas)

pub rows_or : (parts : Vec Formula Global) → rows_of (Or parts) ≡ rows_of_all parts.items
rows_or parts = search (rules, the_lemmas)
