use Rattle.std.proofs.Common.{◌≡◌, ℕ, List, length, get_or, arith, sym, ap, ◌∙◌, subst}
use Rattle.std.specs.Prelude.{not}
use Rattle.std.proofs.lemmas.List.{length-map}
use Rattle.kat_fm.specs.Lists.{list_number, AreLinked, Leads}
use Rattle.kat_fm.specs.Views.{combinations, is_beaten_at}
use Rattle.kat_fm.proofs.Couplings.{as_many}
use Rattle.kat_fm.proofs.Listings.{linked_beats}
use Rattle.kat_fm.proofs.Tidiness.{marked_more}
use Rattle.kat_fm.proofs.tidying.standing.Goals as goal

pub is_beaten-requires-clause-listed : goal.is_beaten-requires-clause-listed
is_beaten-requires-clause-listed c = λ k e.
    let rows = c.args.rows.now in let place = c.loop-place.place in
    let numbers = c.in_ok-numbers.numbers.items in let first = c.in_ok-links.links.first.items in let next = c.in_ok-links.links.next.items in
    let many : length numbers ≡ length (combinations rows) = ap length c.in_ok-numbers.ensures.value ∙ length-map (combinations rows) (list_number (length rows)) in
    let P : List ℕ → Type 0 = λ xs. AreLinked xs 0 first next in
    let are : AreLinked numbers 0 first next = subst P c.deref.ensures.value c.in_ok-links.ensures in
    let from : c.number_at-from.result ≡ get_or first (get_or numbers place 0) 0 =
    c.number_at-from.ensures ∙ ap (λ (xs : List ℕ). get_or xs c.number_at.result 0) c.deref-in-loop-place.ensures.value
    ∙ ap (λ n. get_or first n 0) (c.number_at.ensures ∙ ap (λ (xs : List ℕ). get_or xs place 0) c.deref-in-loop-place-2.ensures.value) in
    let R : ℕ → Type 0 = λ n. Leads next n k in
    let S : List ℕ → Type 0 = λ xs. Leads xs c.number_at-from.result k in
    subst S (sym c.deref-in-loop-place-3.ensures.value) (subst R (sym from)
    (linked_beats (length rows) (combinations rows) numbers first next place k c.in_ok-numbers.ensures.value are (omega (arith, as_many rows, c.loop-place-test.true)) e))

pub loop-place-preserved : goal.loop-place-preserved
loop-place-preserved c =
    marked_more (λ k. not (is_beaten_at (combinations c.args.rows.now) k)) c.loop-place.place c.loop-place.stays.items _ _ c.loop-place.invariant c.in_ok-push.ensures.items (ap not c.is_beaten.ensures)
