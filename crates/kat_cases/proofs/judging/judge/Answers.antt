use Rattle.std.proofs.Common.{◌≡◌, ◌∙◌, ℤ, Option, reverse, rules, sym, subst, IsTrue, FitsSigned}
use Rattle.std.specs.Int.{w32}
use Rattle.std.specs.Prelude.{IfSome}
use Rattle.std.proofs.lemmas.Int.{to_z-of_z}
use Rattle.std.proofs.lemmas.Bool.{false≢true}
use Rattle.kat_clause.specs.Clauses.{Derived, Follows, opposites}
use Rattle.kat_clause.specs.Literals.{has_of}
use Rattle.kat_clause.specs.Known.{Known}
use Rattle.kat_cases.specs.Nodes.{IsJudged, judged}
use Rattle.kat_cases.specs.Nodes.IsJudged.{not_falsified}
use Rattle.kat_cases.specs.Nodes.Judgement.{splits}
use Rattle.kat_cases.specs.Settings.{setting_of}
use Rattle.kat_cases.proofs.Judgings.{judged_falsified, is_table, judged_ok, never_denies}
use Rattle.kat_cases.proofs.judging.judge.Goals as goal

pub returns-then-propagate-clause-judged : goal.returns-then-propagate-clause-judged
returns-then-propagate-clause-judged c = judged_falsified (setting_of c.args.encoded.now) c.args.known.now c.requires.keeps (c.propagate.ensures.falsified.0 c.if-propagate.true)

pub returns-clause-judged : goal.returns-clause-judged
returns-clause-judged c =
    let s = setting_of c.args.encoded.now in
    let known = c.args.known.now in
    let has = has_of c.marks-2.result.now in
    let P : Known → Type 0 = λ v. (k : ℤ) → (IsTrue (has_of c.marks-2.result.now k) → Derived v.clauses (opposites v.assumed) k) × (Derived v.clauses (opposites v.assumed) k → IsTrue (has_of c.marks-2.result.now k)) in
    let never : Follows c.args.known.now.clauses (opposites c.args.known.now.assumed) → ⊥ = λ f. false≢true (sym c.if-propagate.false ∙ c.propagate.ensures.falsified.1 f) in
    judged_ok s (reverse known.assumed) has c.judge_open.result (is_table s known has c.requires.keeps (subst P c.propagate.ensures.state c.marks-2.ensures)) (never_denies s known c.requires.keeps never) c.judge_open.ensures.judged

pub returns-in-Some-clause-judged : goal.returns-in-Some-clause-judged
returns-in-Some-clause-judged c =
    let s = setting_of c.args.encoded.now in
    let known = c.args.known.now in
    let has = has_of c.marks.result.now in
    let P : Known → Type 0 = λ v. (k : ℤ) → (IsTrue (has_of c.marks.result.now k) → Derived v.clauses (opposites v.assumed) k) × (Derived v.clauses (opposites v.assumed) k → IsTrue (has_of c.marks.result.now k)) in
    let never : Follows c.args.known.now.clauses (opposites c.args.known.now.assumed) → ⊥ = λ f. false≢true (sym c.if-propagate.false ∙ c.propagate.ensures.falsified.1 f) in
    let l = c.in-Some.literal in
    let fits : FitsSigned w32 c.in-Some.literal = search rules in
    let Q : Option ℤ → Type 0 = λ o. IfSome o (λ k. splits k ≡ judged (setting_of c.args.encoded.now) (has_of c.marks.result.now)) in
    let R : ℤ → Type 0 = λ k. IsJudged (setting_of c.args.encoded.now) (reverse c.args.known.now.assumed) (splits k) in
    subst R (sym (to_z-of_z w32 l fits))
    (not_falsified (never_denies s known c.requires.keeps never) has (is_table s known has c.requires.keeps (subst P c.propagate.ensures.state c.marks.ensures)) (subst Q c.in-Some.is c.in_ok-literal.ensures))
