use Rattle.std.proofs.Common.{◌≡◌, ℕ, ◌-◌, ◌<◌, ◌≤◌, ◌++◌, ℤ, List, [], length, get_or, sym, ap, ◌∙◌, subst, arith}
use Rattle.std.proofs.lemmas.List.Elements.{All-get_or, All-more}
use Rattle.kat_clause.specs.declared.reading.HintStep.{HintStep}
use Rattle.kat_clause.specs.declared.reading.HintStep.TheVariants.{Falsified, Gives, Useless}
use Rattle.kat_clause.specs.Clauses.{lists, SameMembers, opposites}
use Rattle.kat_clause.specs.Hints.{numbered}
use Rattle.kat_clause.specs.Known.{AreUpTo}
use Rattle.kat_clause.specs.Readings.{Given, Reads}
use Rattle.kat_clause.proofs.HintLemmas.{leads_same}
use Rattle.kat_clause.proofs.ReadingSteps.{hinted_goes}
use Rattle.kat_refute.proofs.HintedSteps.{shown_ends, shown_fails}
use Rattle.kat_refute.proofs.leads_on.Goals as goal

pub loop-i-init : goal.loop-i-init
loop-i-init c =
    let clauses = lists c.args.clauses.now in
    let literals = c.args.literals.now in
    let known = c.deny.new.self.known in
    let start : c.args.reader.now.known ≡ [] = ap (λ (g : Given). g.known) c.requires.reader in
    let P : List ℤ → Type 0 = λ old. SameMembers known (old ++ opposites literals) in
    let same : SameMembers known (opposites literals) = subst P start c.in_ok-deny.ensures.ok in (
      c.in_ok-deny.ensures.greatest ∙ ap (λ (g : Given). g.greatest) c.requires.reader,
      (λ k d h. absurd (omega (arith, h))),
      (
        leads_same clauses known (opposites literals) c.args.hints.now same,
        leads_same clauses (opposites literals) known c.args.hints.now (λ k. ((same k).1, (same k).0)),
      ),
    )

pub read-requires : goal.read-requires
read-requires c =
    let clauses = lists c.args.clauses.now in
    let n = c.args.count in
    let hint = get_or c.args.hints.now c.loop-i.i 0 in
    let found = c.in-Some.ensures in
    let P : List ℤ → Type 0 = AreUpTo n in
    let Q : ℕ → Type 0 = λ g. AreUpTo g c.in-Some.clause.now in
    subst Q (sym c.loop-i.invariant.0) (subst P (sym found.2) (All-get_or P clauses (hint - 1) [] (omega (arith, found.0, found.1)) c.requires.own))

pub returns-in-Falsified-clause-shown : goal.returns-in-Falsified-clause-shown
returns-in-Falsified-clause-shown c =
    let clauses = lists c.args.clauses.now in
    let hints = c.args.hints.now in
    let i = c.loop-i.i in
    let known = c.loop-i.reader.known in
    let new = c.read.new.self.known in
    let found = c.in-Some.ensures in
    let P : List ℤ → Type 0 = λ clause. Reads clause known new Falsified in
    let Q : HintStep → Type 0 = Reads c.in-Some.clause.now known new in
    let read : Reads (numbered clauses (get_or hints i 0)) known new Falsified = subst P found.2 (subst Q c.in-Falsified.is c.in_ok-read.ensures.step) in
    shown_ends clauses c.args.literals.now known new hints i c.loop-i-test.true read (found.0, found.1) c.loop-i.invariant.1 c.loop-i.invariant.2

pub returns-in-Useless-clause-shown : goal.returns-in-Useless-clause-shown
returns-in-Useless-clause-shown c =
    let clauses = lists c.args.clauses.now in
    let hints = c.args.hints.now in
    let i = c.loop-i.i in
    let known = c.loop-i.reader.known in
    let new = c.read.new.self.known in
    let found = c.in-Some.ensures in
    let P : List ℤ → Type 0 = λ clause. Reads clause known new Useless in
    let Q : HintStep → Type 0 = Reads c.in-Some.clause.now known new in
    let read : Reads (numbered clauses (get_or hints i 0)) known new Useless = subst P found.2 (subst Q c.in-Useless.is c.in_ok-read.ensures.step) in
    shown_fails clauses c.args.literals.now known new hints i c.loop-i-test.true read c.loop-i.invariant.2

pub loop-i-preserved : goal.loop-i-preserved
loop-i-preserved c =
    let clauses = lists c.args.clauses.now in
    let hints = c.args.hints.now in
    let i = c.loop-i.i in
    let known = c.loop-i.reader.known in
    let new = c.read.new.self.known in
    let found = c.in-Some.ensures in
    let P : List ℤ → Type 0 = λ clause. Reads clause known new Gives in
    let Q : HintStep → Type 0 = Reads c.in-Some.clause.now known new in
    let read : Reads (numbered clauses (get_or hints i 0)) known new Gives = subst P found.2 (subst Q c.in-Gives.is c.in_ok-read.ensures.step) in (
      c.in_ok-read.ensures.greatest ∙ c.loop-i.invariant.0,
      All-more (λ x. (0 < x) × (x ≤ length clauses)) hints i 0 c.loop-i-test.true c.loop-i.invariant.1 (found.0, found.1),
      hinted_goes clauses c.args.literals.now known new hints i c.loop-i-test.true read c.loop-i.invariant.2,
    )
