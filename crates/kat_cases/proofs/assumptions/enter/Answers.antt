use Rattle.std.proofs.Common.{◌≡◌, ℤ, neg_ℤ, refl, sym, ap, ◌∙◌, rules, subst, Contains, FitsSigned, to_z, of_z}
use Rattle.std.specs.Int.{w32}
use Rattle.std.proofs.lemmas.Bool.{false≢true}
use Rattle.std.proofs.lemmas.Int.{to_z-of_z}
use Rattle.kat_watch.specs.Watched.{literals}
use Rattle.kat_cases.specs.Entering.Entered.{behind, clashes}
use Rattle.kat_cases.proofs.Assuming.{some_of, none_of}
use Rattle.kat_cases.proofs.assumptions.enter.Goals as goal

pub returns-then-is_some : goal.returns-then-is_some
returns-then-is_some c = let s = some_of c.args.clash.now (sym c.is_some.ensures ∙ c.if-is_some.true) in behind s.0 s.1 s.1 refl

pub returns-then-has-2 : goal.returns-then-has-2
returns-then-has-2 c =
    let k = c.args.literal in
    let r = c.opposite.result in
    let fits : FitsSigned w32 k = search rules in
    let fits_r : FitsSigned w32 r = search rules in
    let back : to_z w32 (of_z w32 r) ≡ neg_ℤ k = to_z-of_z w32 r fits_r ∙ c.opposite.ensures ∙ ap neg_ℤ (to_z-of_z w32 k fits) in
    let P : ℤ → Type 0 = Contains (literals c.args.watches.now.trail) in
    clashes (none_of c.args.clash.now (sym c.is_some.ensures ∙ c.if-is_some.false)) refl refl (subst P back (c.has-2.ensures.0 c.if-has-2.true))

pub assume-requires-clause-open : goal.assume-requires-clause-open
assume-requires-clause-open c =
    let k = c.args.literal in
    let r = c.opposite.result in
    let fits : FitsSigned w32 k = search rules in
    let fits_r : FitsSigned w32 r = search rules in
    let back : to_z w32 (of_z w32 r) ≡ neg_ℤ (to_z w32 (of_z w32 k)) = to_z-of_z w32 r fits_r ∙ c.opposite.ensures in
    let P : ℤ → Type 0 = Contains (literals c.args.watches.now.trail) in
    (λ has. false≢true (sym c.if-has.false ∙ c.has.ensures.1 has), λ has. false≢true (sym c.if-has-2.false ∙ c.has-2.ensures.1 (subst P (sym back) has)))
