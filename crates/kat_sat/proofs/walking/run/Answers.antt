use Rattle.std.proofs.Common.{◌≡◌, ◌<◌, ◌+◌, ◌*◌, ℤ, neg_ℤ, Contains, List, [], ◌∷◌, Bool, option_map, length, ap, refl, ◌∙◌, reverse, subst, sym, rules, FitsSigned, to_z, of_z}
use Rattle.std.specs.Int.{w32}
use Rattle.std.proofs.lemmas.Int.{to_z-of_z}
use Rattle.std.proofs.lemmas.List.{reverse-append}
use Rattle.kat_clause.specs.Known.{Known}
use Rattle.kat_watch.specs.Watched.{IsLiteral}
use Rattle.kat_form.specs.Encodings.{encoding}
use Rattle.kat_refute.specs.Lines.{Line, line_of}
use Rattle.kat_cases.specs.declared.judging.Judged.{Judged}
use Rattle.kat_cases.specs.Nodes.{IsJudged}
use Rattle.kat_cases.specs.Walks.{Answer, WalkGives}
use Rattle.kat_cases.specs.Walks.Answer.{refuted}
use Rattle.kat_cases.specs.Frees.{free}
use Rattle.kat_cases.specs.Settings.{setting_of}
use Rattle.kat_cases.specs.Stacks.{Progress, Stands, Unwound, Keeps, path_of, end_of, judgement_of}
use Rattle.kat_cases.specs.Stacks.Step.{first_of}
use Rattle.kat_cases.proofs.Branches.{here_judged, end_given, spent_given, falls_split, falls_leaf, keeps_along}
use Rattle.kat_cases.proofs.Judgings.{line_literals}
use Rattle.kat_cases.proofs.Ways.{path_is, split_literal, split_path}
use Rattle.kat_cases.proofs.Paths.{in_reverse}
use Rattle.kat_sat.proofs.walking.run.Goals as goal

pub nodes-init : goal.nodes-init
nodes-init c =
    let P : Progress → Type 0 = λ p. Stands (setting_of c.args.encoded.now) c.args.effort p.steps p.left p.lines in
    record { keeps = c.requires.keeps; assumed = ap reverse c.requires.none ∙ ap (λ (p : Progress). path_of p.steps) (sym c.new-walk.ensures); stands = subst P (sym c.new-walk.ensures) (refl, refl); recalls = tt }

pub returns-in-Ends : goal.returns-in-Ends
returns-in-Ends c =
    let e = c.args.encoded.now in
    let s = setting_of c.args.encoded.now in
    let at = c.nodes.walk in
    let judged = here_judged s c.nodes.known.assumed at.steps (judgement_of c.in_ok-end.field-0) c.nodes.invariant.assumed c.in_ok-end.ensures.judged in
    let J : Judged → Type 0 = λ j. IsJudged (setting_of c.args.encoded.now) (path_of c.nodes.walk.steps) (judgement_of j) in
    let greatest : c.judge.new.known.greatest ≡ length (encoding c.args.encoded.now).senses = c.in_ok-end.ensures.same.greatest ∙ c.nodes.invariant.keeps.greatest in
    let P : Answer → Type 0 = WalkGives s c.args.effort in
    subst P (sym c.decided.ensures) (end_given s c.args.effort at.steps at.left at.lines (end_of c.in-Ends.end) c.nodes.invariant.stands (subst J c.in-Ends.is judged))

pub descend-requires-clause-literal : goal.descend-requires-clause-literal
descend-requires-clause-literal c =
    let e = c.args.encoded.now in
    let s = setting_of c.args.encoded.now in
    let at = c.nodes.walk in
    let judged = here_judged s c.nodes.known.assumed at.steps (judgement_of c.in_ok-end.field-0) c.nodes.invariant.assumed c.in_ok-end.ensures.judged in
    let J : Judged → Type 0 = λ j. IsJudged (setting_of c.args.encoded.now) (path_of c.nodes.walk.steps) (judgement_of j) in
    let greatest : c.judge.new.known.greatest ≡ length (encoding c.args.encoded.now).senses = c.in_ok-end.ensures.same.greatest ∙ c.nodes.invariant.keeps.greatest in
    let l = c.in-Splits.literal in
    let fits : FitsSigned w32 c.in-Splits.literal = search rules in
    let split = subst J c.in-Splits.is judged in
    let P : ℤ → Type 0 = IsLiteral c.judge.new.known.greatest in
    subst P (sym (to_z-of_z w32 l fits)) (split_literal s c.judge.new.known.greatest (path_of at.steps) l greatest c.requires.walkable.fit split)

pub descend-requires-clause-apart : goal.descend-requires-clause-apart
descend-requires-clause-apart c =
    let e = c.args.encoded.now in
    let s = setting_of c.args.encoded.now in
    let at = c.nodes.walk in
    let judged = here_judged s c.nodes.known.assumed at.steps (judgement_of c.in_ok-end.field-0) c.nodes.invariant.assumed c.in_ok-end.ensures.judged in
    let J : Judged → Type 0 = λ j. IsJudged (setting_of c.args.encoded.now) (path_of c.nodes.walk.steps) (judgement_of j) in
    let greatest : c.judge.new.known.greatest ≡ length (encoding c.args.encoded.now).senses = c.in_ok-end.ensures.same.greatest ∙ c.nodes.invariant.keeps.greatest in
    let l = c.in-Splits.literal in
    let fits : FitsSigned w32 c.in-Splits.literal = search rules in
    let split = subst J c.in-Splits.is judged in
    let P : ℤ → Type 0 = λ x. Contains c.judge.new.known.assumed (neg_ℤ x) → ⊥ in
    let within : Contains c.judge.new.known.assumed (neg_ℤ l) → Contains (path_of at.steps) (neg_ℤ l) = λ has. (let Q : List ℤ → Type 0 = λ xs. Contains xs (neg_ℤ l) in subst Q (c.in_ok-end.ensures.same.assumed ∙ c.nodes.invariant.assumed) (in_reverse c.judge.new.known.assumed (neg_ℤ l) has)) in
    subst P (sym (to_z-of_z w32 l fits)) (λ has. (split_path s (path_of at.steps) l split).1 (within has))

pub nodes-smaller-in_ok-descend-in-Splits : goal.nodes-smaller-in_ok-descend-in-Splits
nodes-smaller-in_ok-descend-in-Splits c =
    let e = c.args.encoded.now in
    let s = setting_of c.args.encoded.now in
    let at = c.nodes.walk in
    let judged = here_judged s c.nodes.known.assumed at.steps (judgement_of c.in_ok-end.field-0) c.nodes.invariant.assumed c.in_ok-end.ensures.judged in
    let J : Judged → Type 0 = λ j. IsJudged (setting_of c.args.encoded.now) (path_of c.nodes.walk.steps) (judgement_of j) in
    let greatest : c.judge.new.known.greatest ≡ length (encoding c.args.encoded.now).senses = c.in_ok-end.ensures.same.greatest ∙ c.nodes.invariant.keeps.greatest in
    let l = c.in-Splits.literal in
    let fits : FitsSigned w32 c.in-Splits.literal = search rules in
    let split = subst J c.in-Splits.is judged in
    let walked : c.descend.new.self ≡ record { steps = first_of c.in-Splits.literal ∷ c.nodes.walk.steps; lines = c.nodes.walk.lines; left = c.nodes.walk.left } =
    c.in_ok-descend-in-Splits.ensures.walk ∙ ap (λ (x : ℤ). let p : Progress = record { steps = first_of x ∷ c.nodes.walk.steps; lines = c.nodes.walk.lines; left = c.nodes.walk.left } in p) (to_z-of_z w32 l fits) in
    let n = length (encoding e).senses in
    let D : Progress → Type 0 = λ p. p.left * (n + 1) + free s (path_of p.steps) < at.left * (n + 1) + free s (path_of at.steps) in
    subst D (sym walked) (falls_split s n at.left l at.steps c.requires.walkable.fit split)

pub nodes-preserved-in_ok-descend-in-Splits : goal.nodes-preserved-in_ok-descend-in-Splits
nodes-preserved-in_ok-descend-in-Splits c =
    let e = c.args.encoded.now in
    let s = setting_of c.args.encoded.now in
    let at = c.nodes.walk in
    let judged = here_judged s c.nodes.known.assumed at.steps (judgement_of c.in_ok-end.field-0) c.nodes.invariant.assumed c.in_ok-end.ensures.judged in
    let J : Judged → Type 0 = λ j. IsJudged (setting_of c.args.encoded.now) (path_of c.nodes.walk.steps) (judgement_of j) in
    let greatest : c.judge.new.known.greatest ≡ length (encoding c.args.encoded.now).senses = c.in_ok-end.ensures.same.greatest ∙ c.nodes.invariant.keeps.greatest in
    let l = c.in-Splits.literal in
    let fits : FitsSigned w32 c.in-Splits.literal = search rules in
    let split = subst J c.in-Splits.is judged in
    let walked : c.descend.new.self ≡ record { steps = first_of c.in-Splits.literal ∷ c.nodes.walk.steps; lines = c.nodes.walk.lines; left = c.nodes.walk.left } =
    c.in_ok-descend-in-Splits.ensures.walk ∙ ap (λ (x : ℤ). let p : Progress = record { steps = first_of x ∷ c.nodes.walk.steps; lines = c.nodes.walk.lines; left = c.nodes.walk.left } in p) (to_z-of_z w32 l fits) in
    let keeps : Keeps (encoding c.args.encoded.now) c.judge.new.known = keeps_along (encoding e) c.nodes.known c.judge.new.known c.nodes.invariant.keeps c.in_ok-end.ensures.same.greatest c.in_ok-end.ensures.same.clauses in
    let known = c.in_ok-descend-in-Splits.ensures.known in
    let k = to_z w32 (of_z w32 l) in
    let S : Progress → Type 0 = λ p. Stands (setting_of c.args.encoded.now) c.args.effort p.steps p.left p.lines in
    record {
      keeps = keeps_along (encoding e) c.judge.new.known c.descend.new.known keeps (ap (λ (v : Known). v.greatest) known) (ap (λ (v : Known). v.clauses) known);
      assumed = ap (λ (v : Known). reverse v.assumed) known ∙ reverse-append c.judge.new.known.assumed (k ∷ []) ∙ ap (λ (xs : List ℤ). k ∷ xs) (c.in_ok-end.ensures.same.assumed ∙ c.nodes.invariant.assumed) ∙ sym (ap (λ (p : Progress). path_of p.steps) c.in_ok-descend-in-Splits.ensures.walk);
      stands = subst S (sym walked) (split, c.nodes.invariant.stands);
      recalls = c.in_ok-end.ensures.recalls;
    }

pub returns-then-is_spent : goal.returns-then-is_spent
returns-then-is_spent c =
    let e = c.args.encoded.now in
    let s = setting_of c.args.encoded.now in
    let at = c.nodes.walk in
    let judged = here_judged s c.nodes.known.assumed at.steps (judgement_of c.in_ok-end.field-0) c.nodes.invariant.assumed c.in_ok-end.ensures.judged in
    let J : Judged → Type 0 = λ j. IsJudged (setting_of c.args.encoded.now) (path_of c.nodes.walk.steps) (judgement_of j) in
    let greatest : c.judge.new.known.greatest ≡ length (encoding c.args.encoded.now).senses = c.in_ok-end.ensures.same.greatest ∙ c.nodes.invariant.keeps.greatest in
    let leaf' = subst J c.in-Leaf.is judged in
    spent_given s c.args.effort at.steps at.left at.lines (option_map line_of c.in-Leaf.line) (c.is_spent.ensures.0 c.if-is_spent.true) c.nodes.invariant.stands leaf'

pub pass_leaf-requires-clause-path : goal.pass_leaf-requires-clause-path
pass_leaf-requires-clause-path c =
    let e = c.args.encoded.now in
    let s = setting_of c.args.encoded.now in
    let at = c.nodes.walk in
    let judged = here_judged s c.nodes.known.assumed at.steps (judgement_of c.in_ok-end.field-0) c.nodes.invariant.assumed c.in_ok-end.ensures.judged in
    let J : Judged → Type 0 = λ j. IsJudged (setting_of c.args.encoded.now) (path_of c.nodes.walk.steps) (judgement_of j) in
    let greatest : c.judge.new.known.greatest ≡ length (encoding c.args.encoded.now).senses = c.in_ok-end.ensures.same.greatest ∙ c.nodes.invariant.keeps.greatest in
    path_is s c.judge.new.known.greatest greatest c.requires.walkable.fit c.args.effort at.steps at.left at.lines c.nodes.invariant.stands

pub pass_leaf-requires-clause-literals : goal.pass_leaf-requires-clause-literals
pass_leaf-requires-clause-literals c =
    let e = c.args.encoded.now in
    let s = setting_of c.args.encoded.now in
    let at = c.nodes.walk in
    let judged = here_judged s c.nodes.known.assumed at.steps (judgement_of c.in_ok-end.field-0) c.nodes.invariant.assumed c.in_ok-end.ensures.judged in
    let J : Judged → Type 0 = λ j. IsJudged (setting_of c.args.encoded.now) (path_of c.nodes.walk.steps) (judgement_of j) in
    let greatest : c.judge.new.known.greatest ≡ length (encoding c.args.encoded.now).senses = c.in_ok-end.ensures.same.greatest ∙ c.nodes.invariant.keeps.greatest in
    let leaf' = subst J c.in-Leaf.is judged in
    line_literals s (path_of at.steps) (option_map line_of c.in-Leaf.line) c.judge.new.known.greatest greatest leaf'

pub returns-then-not-branch : goal.returns-then-not-branch
returns-then-not-branch c =
    let e = c.args.encoded.now in
    let s = setting_of c.args.encoded.now in
    let at = c.nodes.walk in
    let judged = here_judged s c.nodes.known.assumed at.steps (judgement_of c.in_ok-end.field-0) c.nodes.invariant.assumed c.in_ok-end.ensures.judged in
    let J : Judged → Type 0 = λ j. IsJudged (setting_of c.args.encoded.now) (path_of c.nodes.walk.steps) (judgement_of j) in
    let greatest : c.judge.new.known.greatest ≡ length (encoding c.args.encoded.now).senses = c.in_ok-end.ensures.same.greatest ∙ c.nodes.invariant.keeps.greatest in
    let leaf' = subst J c.in-Leaf.is judged in
    let keeps : Keeps (encoding c.args.encoded.now) c.judge.new.known = keeps_along (encoding e) c.nodes.known c.judge.new.known c.nodes.invariant.keeps c.in_ok-end.ensures.same.greatest c.in_ok-end.ensures.same.clauses in
    let R : Bool → Type 0 = Unwound s c.args.effort c.pass_leaf.new.walk in
    let P : List Line → Type 0 = λ lines. WalkGives s c.args.effort (refuted lines) in
    subst P (sym c.into_lines.ensures) (subst R c.if-not-branch.true (c.in_ok-pass_leaf-in-Leaf.ensures.unwound s c.args.effort keeps leaf' c.nodes.invariant.stands))

pub nodes-smaller : goal.nodes-smaller
nodes-smaller c = falls_leaf (setting_of c.args.encoded.now) c.nodes.walk.left c.pass_leaf.new.walk.left (path_of c.nodes.walk.steps) (path_of c.pass_leaf.new.walk.steps) c.in_ok-pass_leaf-in-Leaf.ensures.leaves

pub nodes-preserved : goal.nodes-preserved
nodes-preserved c =
    let e = c.args.encoded.now in
    let s = setting_of c.args.encoded.now in
    let at = c.nodes.walk in
    let judged = here_judged s c.nodes.known.assumed at.steps (judgement_of c.in_ok-end.field-0) c.nodes.invariant.assumed c.in_ok-end.ensures.judged in
    let J : Judged → Type 0 = λ j. IsJudged (setting_of c.args.encoded.now) (path_of c.nodes.walk.steps) (judgement_of j) in
    let greatest : c.judge.new.known.greatest ≡ length (encoding c.args.encoded.now).senses = c.in_ok-end.ensures.same.greatest ∙ c.nodes.invariant.keeps.greatest in
    let leaf' = subst J c.in-Leaf.is judged in
    let keeps : Keeps (encoding c.args.encoded.now) c.judge.new.known = keeps_along (encoding e) c.nodes.known c.judge.new.known c.nodes.invariant.keeps c.in_ok-end.ensures.same.greatest c.in_ok-end.ensures.same.clauses in
    let R : Bool → Type 0 = Unwound s c.args.effort c.pass_leaf.new.walk in
    let known = c.in_ok-pass_leaf-in-Leaf.ensures.known c.if-not-branch.false in
    record {
      keeps = keeps_along (encoding e) c.judge.new.known c.pass_leaf.new.known keeps known.greatest known.clauses;
      assumed = known.assumed;
      stands = subst R c.if-not-branch.false (c.in_ok-pass_leaf-in-Leaf.ensures.unwound s c.args.effort keeps leaf' c.nodes.invariant.stands);
      recalls = c.in_ok-end.ensures.recalls;
    }
