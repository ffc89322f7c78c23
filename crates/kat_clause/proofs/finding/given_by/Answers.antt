use Rattle.std.proofs.Common.{◌≡◌, ◌<◌, ℤ, pos, length, get_or, true, false, refl, sym, ap, ◌∙◌, rules, FitsSigned, subst, Contains}
use Rattle.std.specs.Int.{w32}
use Rattle.std.proofs.lemmas.Int.{to_z-of_z}
use Rattle.std.proofs.lemmas.Bool.{false≢true}
use Rattle.kat_clause.specs.Literals.{code_of}
use Rattle.kat_clause.specs.Choices.{IsUnit}
use Rattle.kat_clause.specs.Hints.{IsOnlyOpen}
use Rattle.kat_clause.proofs.Codes.{Contains-at}
use Rattle.kat_clause.proofs.HintLemmas.{only_one}
use Rattle.kat_clause.proofs.ReadingSteps.{read_falsified, read_many, read_only}
use Rattle.kat_clause.proofs.WalkSteps.{marked_read}
use Rattle.kat_clause.proofs.finding.given_by.Goals as goal

pub returns-in_default : goal.returns-in_default
returns-in_default c = λ gives. gives.1.only.free (read_falsified c.args.clause.now c.args.set.now c.requires.set (rw c.deref.ensures.value at c.in_default.ensures) gives.0 gives.1.only.has)

pub returns-then-not-is_only_open : goal.returns-then-not-is_only_open
returns-then-not-is_only_open c =
    let found = rw c.deref.ensures.value at c.in-Some.ensures in
    let more = rw c.deref-2.ensures.value at c.if-not-is_only_open.ensures.1 in
    λ gives. read_many c.args.clause.now c.args.set.now c.in-Some.first c.requires.set found.0 found.1 (λ all. false≢true (more all)) gives.0 gives.1.only

pub returns-then-index : goal.returns-then-index
returns-then-index c =
    let found = rw c.deref.ensures.value at c.in-Some.ensures in
    let behind = rw c.deref-2.ensures.value at (c.if-not-is_only_open.ensures.0 refl) in
    let literal = get_or c.args.clause.now c.in-Some.first (pos 0) in
    let fits : FitsSigned w32 literal = search rules in
    let only : IsOnlyOpen c.args.set.now.trail.items c.args.clause.now literal = read_only c.args.clause.now c.args.set.now c.in-Some.first c.requires.set found.0 found.1 found.2 behind in
    let below : code_of literal < length c.args.set.now.marks.items = (c.requires.below literal (Contains-at c.args.clause.now c.in-Some.first found.0)).0 in
    let code : c.code.result ≡ code_of literal = c.code.ensures ∙ ap code_of (to_z-of_z w32 literal fits) in
    let marked : get_or c.args.set.now.marks.items (code_of literal) false ≡ true = marked_read c.args.set.now.marks.items c.code.result (code_of literal) c.index.result.now false c.index.ensures code below ∙ c.if-index.true in
    λ gives.
    let same : literal ≡ gives.0 = only_one c.args.set.now.trail.items c.args.clause.now literal gives.0 only gives.1.only in
    let P : ℤ → Type 0 = Contains c.args.set.now.trail.items in
    gives.1.fresh (subst P same (c.requires.set.listed literal marked))

pub returns : goal.returns
returns c =
    let found = rw c.deref.ensures.value at c.in-Some.ensures in
    let behind = rw c.deref-2.ensures.value at (c.if-not-is_only_open.ensures.0 refl) in
    let literal = get_or c.args.clause.now c.in-Some.first (pos 0) in
    let fits : FitsSigned w32 literal = search rules in
    let only : IsOnlyOpen c.args.set.now.trail.items c.args.clause.now literal = read_only c.args.clause.now c.args.set.now c.in-Some.first c.requires.set found.0 found.1 found.2 behind in
    let below : code_of literal < length c.args.set.now.marks.items = (c.requires.below literal (Contains-at c.args.clause.now c.in-Some.first found.0)).0 in
    let code : c.code.result ≡ code_of literal = c.code.ensures ∙ ap code_of (to_z-of_z w32 literal fits) in
    let unmarked : get_or c.args.set.now.marks.items (code_of literal) false ≡ false = marked_read c.args.set.now.marks.items c.code.result (code_of literal) c.index.result.now false c.index.ensures code below ∙ c.if-index.false in
    let P : ℤ → Type 0 = IsUnit c.args.set.now.trail.items c.args.clause.now in
    subst P (sym (to_z-of_z w32 literal fits)) (record { only = only; fresh = λ has. false≢true (sym unmarked ∙ c.requires.set.marked literal has) })
