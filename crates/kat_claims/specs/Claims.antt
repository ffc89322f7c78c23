-- What a conjunct claims, as a fact on a side.
use Rattle.std.specs.Prelude.{ℕ, suc, pos, Bool, true, false, List, [], ◌∷◌, Option, None, Some, slice_get}
use Rattle.kat_form.specs.Facts.{Fact, listed}
use Rattle.kat_form.specs.Facts.Fact.{known, any_of}
use Rattle.kat_design.specs.Designs.{AskForm, DesignForm}
use Rattle.kat_relation.specs.declared.relations.Conjunct.{Conjunct}
use Rattle.kat_relation.specs.declared.relations.Conjunct.TheVariants.{Query, Equal, Bounded, AtLeast, Matched, Total}
use Rattle.kat_relation.specs.declared.relations.LeafRef.{LeafRef}
use Rattle.kat_type.specs.Types.{QueryForm, TypeForm}
use Rattle.kat_claims.specs.Asks.{number_asked, truth_asked}
use Rattle.kat_symbols.specs.Connectives.{denied, or_of, and_of, fact_le, fact_same, truth_same}
use Rattle.kat_symbols.specs.Readers.{Reader, Symbol}
use Rattle.kat_symbols.specs.Readers.Symbol.{number}
use Rattle.kat_symbols.specs.Sides.{Side}
use Rattle.kat_claims.specs.States.{is_truth_sort}
use Rattle.kat_symbols.specs.Sums.{numeral}
use Rattle.kat_symbols.specs.Symbols.{as_number, symbol_same, symbols_lt}
use Rattle.kat_symbols.specs.Terms.{number_kept, number_read, truth_kept, truth_read}
use Rattle.kat_symbols.specs.declared.names.Instance.{Instance}
use Rattle.kat_symbols.specs.declared.names.Place.{Place}
use Rattle.kat_symbols.specs.declared.names.Place.TheVariants.{Field, Leaf}

-- the type and the design answer a query the same
abbrev pub same_answers : Side → Option Instance → QueryForm → AskForm → Bool → Reader → Fact × Reader
same_answers side at query ask true r =
    let x = truth_read side at query.right r in let y = truth_asked side at ask x.1 in (truth_same x.0 y.0, y.1)
same_answers side at query ask false r =
    let x = number_read side at query.right r in let y = number_asked side at ask x.1 in (fact_same x.0 y.0, y.1)

abbrev pub answers_read : Side → Option Instance → Option QueryForm → Option AskForm → Reader → Fact × Reader
answers_read side at None ask r = (known false, r)
answers_read side at (Some query) None r = (known false, r)
answers_read side at (Some query) (Some ask) r = same_answers side at query ask (is_truth_sort query.sort) r

abbrev pub place_of_ref : LeafRef → Place
place_of_ref ref = Leaf ref.component ref.leaf

-- elements of the rank from a position on, each with its leaf, whose truth value is a number
abbrev pub elements_read : Side → Option Instance → ℕ → List LeafRef → Reader → List (Symbol × Symbol) × Reader
elements_read side at position [] r = ([], r)
elements_read side at position (ref ∷ refs) r =
    let e = side.element position r in let x = side.value (place_of_ref ref) at e.1 in let y = as_number x.0 x.1 in
    let rest = elements_read side at (suc position) refs y.1 in ((number e.0, number y.0) ∷ rest.0, rest.1)

-- a field is a leaf
abbrev pub equal_claim : Side → Option Instance → ℕ → LeafRef → Reader → Fact × Reader
equal_claim side at f leaf r = let x = side.value (Field f) at r in let y = side.value (place_of_ref leaf) at x.1 in (symbol_same x.0 y.0, y.1)

-- there is no last operation, or its elements from a position on aren't less than the leaves
abbrev pub bounded_claim : Side → Option Instance → List LeafRef → ℕ → Reader → Fact × Reader
bounded_claim side at leaves position r =
    let begun = side.begun r in let pairs = elements_read side at position leaves begun.1 in
    (or_of (denied begun.0) (denied (symbols_lt pairs.0)), pairs.1)

-- the leaf is false, or there is a last operation whose element is at least the digit
abbrev pub at_least_claim : Side → Option Instance → LeafRef → (position digit : ℕ) → Reader → Fact × Reader
at_least_claim side at leaf position digit r =
    let begun = side.begun r in let x = truth_kept side (place_of_ref leaf) at begun.1 in let e = side.element position x.1 in
    (or_of (denied x.0) (and_of begun.0 (fact_le (numeral (pos digit)) e.0)), e.1)

-- there is no last operation, the first leaf isn't its element, the second leaf is false, or the later element is at least the
-- digit
abbrev pub matched_claim : Side → Option Instance → LeafRef → ℕ → LeafRef → (later digit : ℕ) → Reader → Fact × Reader
matched_claim side at first position second later digit r =
    let begun = side.begun r in
    let x = number_kept side (place_of_ref first) at begun.1 in let e = side.element position x.1 in
    let y = truth_kept side (place_of_ref second) at e.1 in let d = side.element later y.1 in
    (any_of (listed (denied begun.0 ∷ denied (fact_same x.0 e.0) ∷ denied y.0 ∷ fact_le (numeral (pos digit)) d.0 ∷ [])), d.1)

-- the sum is at least 0
abbrev pub total_claim : Side → Option Instance → ℕ → Reader → Fact × Reader
total_claim side at component r = let x = number_kept side (Leaf component 0) at r in (fact_le (numeral (pos 0)) x.0, x.1)

-- the claim of a conjunct at a key
abbrev pub claim_read : TypeForm → DesignForm → Side → Conjunct → Option Instance → Reader → Fact × Reader
claim_read ty design side (Query query) at r = answers_read side at (slice_get ty.queries query) (slice_get design.asks query) r
claim_read ty design side (Equal f leaf) at r = equal_claim side at f leaf r
claim_read ty design side (Bounded leaves position) at r = bounded_claim side at leaves position r
claim_read ty design side (AtLeast leaf position digit) at r = at_least_claim side at leaf position digit r
claim_read ty design side (Matched first position second later digit) at r = matched_claim side at first position second later digit r
claim_read ty design side (Total component) at r = total_claim side at component r
