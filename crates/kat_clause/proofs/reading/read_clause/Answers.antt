use Rattle.std.proofs.Common.{◌<◌, ℤ, pos, length, get_or, refl, rules, FitsSigned, subst}
use Rattle.std.specs.Int.{w32}
use Rattle.std.proofs.lemmas.Int.{to_z-of_z}
use Rattle.kat_clause.specs.Literals.{code_of}
use Rattle.kat_clause.specs.Opens.{Opens}
use Rattle.kat_clause.specs.declared.opens.Open.TheVariants.{Nothing, One, Several}
use Rattle.kat_clause.specs.Propagations.{Enters}
use Rattle.kat_clause.proofs.Codes.{Contains-at}
use Rattle.kat_clause.proofs.Sets.{Grows-enters}
use Rattle.kat_clause.proofs.ReadingSteps.{members_enter, read_falsified, read_unfalsified, read_many, read_only}
use Rattle.kat_clause.proofs.reading.read_clause.Goals as goal

pub returns-in-Nothing-clause-step : goal.returns-in-Nothing-clause-step
returns-in-Nothing-clause-step c =
    let clause = c.args.clause.now in let state = c.args.set.now in
    let opens : Opens clause state.marks.items c.open_of.result = rw c.deref.ensures.value at c.open_of.ensures in
    let all : Opens clause state.marks.items Nothing = subst (Opens clause state.marks.items) c.in-Nothing.is opens in
    (read_falsified clause state c.requires.set all, refl)

pub returns-in-Several-clause-step : goal.returns-in-Several-clause-step
returns-in-Several-clause-step c =
    let clause = c.args.clause.now in let state = c.args.set.now in
    let opens : Opens clause state.marks.items c.open_of.result = rw c.deref.ensures.value at c.open_of.ensures in
    let two : Opens clause state.marks.items Several = subst (Opens clause state.marks.items) c.in-Several.is opens in (
      read_unfalsified clause state two.0 c.requires.set two.1.0 two.1.1,
      read_many clause state two.0 c.requires.set two.1.0 two.1.1 two.2,
      refl,
    )

pub returns-in_ok-enter-in-One-clause-set : goal.returns-in_ok-enter-in-One-clause-set
returns-in_ok-enter-in-One-clause-set c =
    let clause = c.args.clause.now in let state = c.args.set.now in let first = c.in-One.first in
    let opens : Opens clause state.marks.items c.open_of.result = rw c.deref.ensures.value at c.open_of.ensures in
    let one : Opens clause state.marks.items (One first) = subst (Opens clause state.marks.items) c.in-One.is opens in
    let literal = get_or clause first (pos 0) in
    let below : code_of literal < length state.marks.items = (c.requires.below literal (Contains-at clause first one.0.0)).0 in
    let fits : FitsSigned w32 literal = search rules in
    let P : ℤ → Type 0 = Enters state c.enter.new.self in
    let enters : Enters state c.enter.new.self literal = subst P (to_z-of_z w32 literal fits) c.in_ok-enter-in-One.ensures.ok in
    (Grows-enters state c.enter.new.self literal below enters).set c.requires.set

pub returns-in_ok-enter-in-One-clause-step : goal.returns-in_ok-enter-in-One-clause-step
returns-in_ok-enter-in-One-clause-step c =
    let clause = c.args.clause.now in let state = c.args.set.now in let first = c.in-One.first in
    let opens : Opens clause state.marks.items c.open_of.result = rw c.deref.ensures.value at c.open_of.ensures in
    let one : Opens clause state.marks.items (One first) = subst (Opens clause state.marks.items) c.in-One.is opens in
    let literal = get_or clause first (pos 0) in
    let fits : FitsSigned w32 literal = search rules in
    let P : ℤ → Type 0 = Enters state c.enter.new.self in
    let enters : Enters state c.enter.new.self literal = subst P (to_z-of_z w32 literal fits) c.in_ok-enter-in-One.ensures.ok in
    (literal, read_only clause state first c.requires.set one.0.0 one.0.1 one.0.2 one.1, members_enter state c.enter.new.self literal c.requires.set enters)
