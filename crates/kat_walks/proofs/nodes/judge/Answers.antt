use Rattle.std.proofs.Common.{ℤ, IsTrue, not, sym, subst, ◌∙◌}
use Rattle.std.proofs.lemmas.Bool.{false≢true}
use Rattle.kat_clause.specs.Clauses.{Derived, Follows, opposites}
use Rattle.kat_clause.specs.Known.{Known}
use Rattle.kat_clause.specs.Literals.{has_of}
use Rattle.kat_form.specs.Encodings.{encoding}
use Rattle.kat_walks.specs.Stands.{StandsAt}
use Rattle.kat_walks.proofs.NodeJudgings.{closed_node, literal_ok, never_closed, node_ok, ok_always, settled_stands, tests_of}
use Rattle.kat_walks.proofs.nodes.judge.Goals as goal

pub returns-then-branch-clause-node : goal.returns-then-branch-clause-node
returns-then-branch-clause-node c = closed_node (encoding c.args.encoded.now) c.args.encoded.now.numbers c.args.known.now c.args.path.now c.requires (c.in_ok-propagate.ensures.falsified.0 c.if-branch.true)

pub returns-then-branch-clause-stands : goal.returns-then-branch-clause-stands
returns-then-branch-clause-stands c = settled_stands (encoding c.args.encoded.now) c.args.encoded.now.numbers c.args.known.now c.propagate.new.self c.args.path.now (not c.in_ok-propagate.field-0) c.requires c.in_ok-propagate.ensures.ok

pub returns-clause-node : goal.returns-clause-node
returns-clause-node c =
    let e = encoding c.args.encoded.now in
    let n = c.args.encoded.now.numbers in
    let known = c.args.known.now in
    let has = has_of c.marks.result.now in
    let P : Known → Type 0 = λ v. (k : ℤ) → (IsTrue (has_of c.marks.result.now k) → Derived v.clauses (opposites v.assumed) k) × (Derived v.clauses (opposites v.assumed) k → IsTrue (has_of c.marks.result.now k)) in
    let never : Follows c.args.known.now.clauses (opposites c.args.known.now.assumed) → ⊥ = λ f. false≢true (sym c.if-branch.false ∙ c.in_ok-propagate.ensures.falsified.1 f) in
    node_ok e n c.args.path.now has c.judge_open.result (tests_of e n known c.args.path.now has c.requires (subst P c.in_ok-propagate.ensures.ok c.marks.ensures)) (never_closed e n known c.args.path.now c.requires never) c.judge_open.ensures

pub returns-clause-literal : goal.returns-clause-literal
returns-clause-literal c = literal_ok (encoding c.args.encoded.now) c.args.encoded.now.numbers (has_of c.marks.result.now) c.judge_open.result c.requires.walkable c.judge_open.ensures

pub returns-clause-stands : goal.returns-clause-stands
returns-clause-stands c =
    ok_always c.judge_open.result (StandsAt (encoding c.args.encoded.now) c.args.encoded.now.numbers c.propagate.new.self c.args.path.now)
    (settled_stands (encoding c.args.encoded.now) c.args.encoded.now.numbers c.args.known.now c.propagate.new.self c.args.path.now (not c.in_ok-propagate.field-0) c.requires c.in_ok-propagate.ensures.ok)
