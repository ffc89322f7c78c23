-- A found variable has the sense that was asked.
use Rattle.std.proofs.Common.{◌≡◌, ℕ, zero, suc, ℤ, Bool, true, false, ◌&&◌, nat_eq, Option, Some, None, option_map, if◌then◌else◌, List, [], ◌∷◌, refl, sym, ap, ◌∙◌}
use Rattle.std.specs.Ordering.{int_eq}
use Rattle.std.proofs.lemmas.Bool.Decides.{Decides-eqb, Decides-int_eq}
use Rattle.kat_linear.specs.Rows.{Form, Term}
use Rattle.kat_form.specs.Encodings.{Sense, atom_at}
use Rattle.kat_form.specs.Encodings.Sense.{truth, atom, gate}
use Rattle.kat_form.specs.Readings.{same_terms, place_of}

pub both_hold : (a b : Bool) → (a && b) ≡ true → (a ≡ true) × (b ≡ true)
both_hold true b e = (refl, e)
both_hold false b e = absurd (cc)

same_terms_equal : (ts us : List Term) → same_terms ts us ≡ true → ts ≡ us
same_terms_equal [] [] e = refl
same_terms_equal [] (u ∷ us) e = absurd (cc)
same_terms_equal (t ∷ ts) [] e = absurd (cc)
same_terms_equal ((v, a) ∷ ts) ((w, b) ∷ us) e =
    let outer = both_hold (nat_eq v w && int_eq a b) (same_terms ts us) e in
    let inner = both_hold (nat_eq v w) (int_eq a b) outer.0 in
    let variables : v ≡ w = (Decides-eqb v w).0 inner.0 in
    let coefficients : a ≡ b = (Decides-int_eq a b).0 inner.1 in
    let rest : ts ≡ us = same_terms_equal ts us outer.1 in
    cc

pub same_form : (f g : Form) → (same_terms f.terms g.terms && int_eq f.constant g.constant) ≡ true → g ≡ f
same_form f g e =
    let parts = both_hold (same_terms f.terms g.terms) (int_eq f.constant g.constant) e in
    let terms : f.terms ≡ g.terms = same_terms_equal f.terms g.terms parts.0 in
    let constant : f.constant ≡ g.constant = (Decides-int_eq f.constant g.constant).0 parts.1 in
    sym (ap (λ (ts : List Term). record { terms = ts; constant = f.constant }) terms ∙ ap (λ (c : ℤ). record { terms = g.terms; constant = c }) constant)

-- the number found in what follows, one further
further : (form : Form) (t : Sense) (ts : List Sense) (o : Option ℕ) (n : ℕ) → ((k : ℕ) → o ≡ Some k → atom_at ts k ≡ Some form) → option_map suc o ≡ Some n → atom_at (t ∷ ts) n ≡ Some form
further form t ts None n h e = absurd (cc)
further form t ts (Some zero) n h e = let none : atom_at ts 0 ≡ Some form = h 0 refl in absurd (cc)
further form t ts (Some (suc k)) n h e =
    let at : suc (suc k) ≡ n = cc in
    rw (sym at) (h (suc k) refl)

here : (form g : Form) (ts : List Sense) (b : Bool) (n : ℕ) → (same_terms form.terms g.terms && int_eq form.constant g.constant) ≡ b → ((k : ℕ) → place_of (atom form) ts ≡ Some k → atom_at ts k ≡ Some form)
    → (if b then Some 1 else option_map suc (place_of (atom form) ts)) ≡ Some n → atom_at (atom g ∷ ts) n ≡ Some form
here form g ts true n same h e =
    let at : 1 ≡ n = cc in
    rw (sym at) (ap (λ (f : Form). Some f) (same_form form g same))
here form g ts false n same h e = further form (atom g) ts (place_of (atom form) ts) n h e

pub found : (form : Form) (senses : List Sense) (n : ℕ) → place_of (atom form) senses ≡ Some n → atom_at senses n ≡ Some form
found form [] n e = absurd (cc)
found form (truth v ∷ ts) n e = further form (truth v) ts (place_of (atom form) ts) n (found form ts) e
found form (gate ∷ ts) n e = further form gate ts (place_of (atom form) ts) n (found form ts) e
found form (atom g ∷ ts) n e = here form g ts (same_terms form.terms g.terms && int_eq form.constant g.constant) n refl (found form ts) e
