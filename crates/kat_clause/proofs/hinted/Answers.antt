use Rattle.std.proofs.Common.{◌≡◌, ℕ, ◌+◌, ◌-◌, ℤ, List, [], ◌++◌, length, get_or, sym, ap, ◌∙◌, subst, arith}
use Rattle.std.proofs.lemmas.Bool.{eqb-true, eq-eqb, false≢true}
use Rattle.std.proofs.lemmas.List.Elements.{All-get_or}
use Rattle.kat_clause.specs.declared.reading.HintStep.{HintStep}
use Rattle.kat_clause.specs.declared.reading.HintStep.TheVariants.{Falsified, Gives, Useless}
use Rattle.kat_clause.specs.Clauses.{lists, opposites, SameMembers}
use Rattle.kat_clause.specs.Hints.{numbered}
use Rattle.kat_clause.specs.Known.{AreUpTo}
use Rattle.kat_clause.specs.Readings.{Given, Reads}
use Rattle.kat_clause.proofs.Runs.{clause_lists}
use Rattle.kat_clause.proofs.HintLemmas.{leads_same}
use Rattle.kat_clause.proofs.ReadingSteps.{hinted_goes, hinted_ends, hinted_fails}
use Rattle.kat_clause.proofs.hinted.Goals as goal

pub loop-i-init : goal.loop-i-init
loop-i-init c =
    let start : c.in_ok-reader.reader.known ≡ [] = ap (λ (g : Given). g.known) c.in_ok-reader.ensures in
    let greatest : c.in_ok-reader.reader.greatest ≡ c.greatest_named-greatest.result = ap (λ (g : Given). g.greatest) c.in_ok-reader.ensures in
    let clauses = lists c.args.clauses.now in
    let known = c.deny.new.self.known in
    let P : List ℤ → Type 0 = λ old. SameMembers known (old ++ opposites c.args.line.now) in
    let same : SameMembers known (opposites c.args.line.now) = subst P start c.in_ok-deny.ensures.ok in (
      c.in_ok-deny.ensures.greatest ∙ greatest,
      (
        leads_same clauses known (opposites c.args.line.now) c.args.hints.now same,
        leads_same clauses (opposites c.args.line.now) known c.args.hints.now (λ k. ((same k).1, (same k).0)),
      ),
    )

pub read-requires : goal.read-requires
read-requires c =
    let clauses = lists c.args.clauses.now in
    let hints = c.args.hints.now in
    let i = c.loop-i.i in
    let there = c.requires i 0 c.loop-i-test.true in
    let at : numbered clauses (get_or hints i 0) ≡ c.deref.result.now = clause_lists c.args.clauses.now (get_or hints i 0 - 1) c.index-clauses-hint.result (omega (arith, there.0, there.1)) c.index-clauses-hint.is ∙ sym c.deref.ensures.value in
    let P : List ℤ → Type 0 = AreUpTo c.loop-i.reader.greatest in
    let Q : ℕ → Type 0 = λ g. AreUpTo g (numbered clauses (get_or hints i 0)) in
    subst P at (subst Q (sym c.loop-i.invariant.0) (All-get_or (λ hint. AreUpTo c.greatest_named-greatest.result (numbered clauses hint)) hints i 0 c.loop-i-test.true c.greatest_named-greatest.ensures.clauses))

pub returns-in-Falsified : goal.returns-in-Falsified
returns-in-Falsified c =
    let clauses = lists c.args.clauses.now in
    let hints = c.args.hints.now in
    let i = c.loop-i.i in
    let there = c.requires i 0 c.loop-i-test.true in
    let at : numbered clauses (get_or hints i 0) ≡ c.deref.result.now = clause_lists c.args.clauses.now (get_or hints i 0 - 1) c.index-clauses-hint.result (omega (arith, there.0, there.1)) c.index-clauses-hint.is ∙ sym c.deref.ensures.value in
    let P : List ℤ → Type 0 = λ clause. Reads clause c.loop-i.reader.known c.read.new.self.known Falsified in
    let Q : HintStep → Type 0 = Reads c.deref.result.now c.loop-i.reader.known c.read.new.self.known in
    let read : Reads (numbered clauses (get_or hints i 0)) c.loop-i.reader.known c.read.new.self.known Falsified = subst P (sym at) (subst Q c.in-Falsified.is c.in_ok-read.ensures.step) in
    let is = hinted_ends clauses c.args.line.now c.loop-i.reader.known c.read.new.self.known hints i c.loop-i-test.true read c.loop-i.invariant.1 in
    (λ e. is.0 (eqb-true (i + 1) (length hints) e), λ h. eq-eqb (i + 1) (length hints) (is.1 h))

pub returns-in-Useless : goal.returns-in-Useless
returns-in-Useless c =
    let clauses = lists c.args.clauses.now in
    let hints = c.args.hints.now in
    let i = c.loop-i.i in
    let there = c.requires i 0 c.loop-i-test.true in
    let at : numbered clauses (get_or hints i 0) ≡ c.deref.result.now = clause_lists c.args.clauses.now (get_or hints i 0 - 1) c.index-clauses-hint.result (omega (arith, there.0, there.1)) c.index-clauses-hint.is ∙ sym c.deref.ensures.value in
    let P : List ℤ → Type 0 = λ clause. Reads clause c.loop-i.reader.known c.read.new.self.known Useless in
    let Q : HintStep → Type 0 = Reads c.deref.result.now c.loop-i.reader.known c.read.new.self.known in
    let read : Reads (numbered clauses (get_or hints i 0)) c.loop-i.reader.known c.read.new.self.known Useless = subst P (sym at) (subst Q c.in-Useless.is c.in_ok-read.ensures.step) in
    (λ e. absurd (false≢true e), λ h. absurd (hinted_fails clauses c.args.line.now c.loop-i.reader.known c.read.new.self.known hints i c.loop-i-test.true read c.loop-i.invariant.1 h))

pub loop-i-preserved : goal.loop-i-preserved
loop-i-preserved c =
    let clauses = lists c.args.clauses.now in
    let hints = c.args.hints.now in
    let i = c.loop-i.i in
    let there = c.requires i 0 c.loop-i-test.true in
    let at : numbered clauses (get_or hints i 0) ≡ c.deref.result.now = clause_lists c.args.clauses.now (get_or hints i 0 - 1) c.index-clauses-hint.result (omega (arith, there.0, there.1)) c.index-clauses-hint.is ∙ sym c.deref.ensures.value in
    let P : List ℤ → Type 0 = λ clause. Reads clause c.loop-i.reader.known c.read.new.self.known Gives in
    let Q : HintStep → Type 0 = Reads c.deref.result.now c.loop-i.reader.known c.read.new.self.known in
    let read : Reads (numbered clauses (get_or hints i 0)) c.loop-i.reader.known c.read.new.self.known Gives = subst P (sym at) (subst Q c.in-Gives.is c.in_ok-read.ensures.step) in
    (c.in_ok-read.ensures.greatest ∙ c.loop-i.invariant.0, hinted_goes clauses c.args.line.now c.loop-i.reader.known c.read.new.self.known hints i c.loop-i-test.true read c.loop-i.invariant.1)
