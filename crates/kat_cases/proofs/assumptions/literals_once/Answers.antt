use Rattle.std.proofs.Common.{◌≡◌, ◌+◌, ◌<◌, ◌≤◌, ℤ, pos, List, [], ◌∷◌, ◌++◌, length, take, get_or, true, false, sym, ap, ◌∙◌, rules, arith, subst, Contains, ⊎_elim, FitsSigned}
use Rattle.std.specs.Int.{w32}
use Rattle.std.proofs.lemmas.Int.{to_z-of_z}
use Rattle.std.proofs.lemmas.Bool.{cases_lt, false≢true}
use Rattle.std.proofs.lemmas.List.{take_more, take_all, length_push, get_or_append_left, get_or_push}
use Rattle.std.proofs.lemmas.List.Elements.{Contains-get_or}
use Rattle.kat_clause.specs.Clauses.{SameMembers}
use Rattle.kat_clause.proofs.Members.{members_again, members_more}
use Rattle.kat_watch.specs.Watched.{IsPlain}
use Rattle.kat_cases.specs.Walks.{has_literal}
use Rattle.kat_cases.proofs.Members.{has_in, in_has}
use Rattle.kat_cases.proofs.assumptions.literals_once.Goals as goal

-- a literal more that isn't there yet
plain_push : (once new : List ℤ) (x : ℤ) → IsPlain once → (Contains once x → ⊥) → new ≡ once ++ x ∷ [] → IsPlain new
plain_push once new x plain none e =
    let whole : IsPlain (once ++ x ∷ []) = λ i j less h same.
    let size : length (once ++ x ∷ []) ≡ length once + 1 = length_push once x in
    let at_i : get_or (once ++ x ∷ []) i (pos 0) ≡ get_or once i (pos 0) = get_or_append_left once (x ∷ []) (pos 0) i (omega (arith, less, h, size)) in
    ⊎_elim {C = ⊥}
    (λ (l : j < length once). plain i j less l (sym at_i ∙ same ∙ get_or_append_left once (x ∷ []) (pos 0) j l))
    (λ (l : length once ≤ j).
    let last : length once ≡ j = omega (arith, l, h, size) in
    let at_j : get_or (once ++ x ∷ []) j (pos 0) ≡ x = get_or_push once x (pos 0) j last in
    none (subst (Contains once) (sym at_i ∙ same ∙ at_j) (Contains-get_or once i (pos 0) (omega (arith, less, last)))))
    (cases_lt j (length once)) in
    let P : List ℤ → Type 0 = IsPlain in subst P (sym e) whole

pub loop-literal-preserved-then-uses : goal.loop-literal-preserved-then-uses
loop-literal-preserved-then-uses c =
    let clause = c.args.clause.now in
    let i = c.loop-literal.literal-index in
    let literal = get_or clause i (pos 0) in
    let once = c.loop-literal.once.items in
    let fits : FitsSigned w32 literal = search rules in
    let used : has_literal literal once ≡ true = sym (c.uses.ensures ∙ ap (λ (x : ℤ). has_literal x c.deref.result.now) (to_z-of_z w32 literal fits) ∙ ap (has_literal literal) c.deref.ensures.value) ∙ c.if-uses.true in
    let Q : List ℤ → Type 0 = SameMembers once in
    (subst Q (sym (take_more clause i (pos 0) c.loop-literal-test.true)) (members_again once (take i clause) literal (has_in literal once used) c.loop-literal.invariant.0), c.loop-literal.invariant.1)

pub loop-literal-preserved : goal.loop-literal-preserved
loop-literal-preserved c =
    let clause = c.args.clause.now in
    let i = c.loop-literal.literal-index in
    let literal = get_or clause i (pos 0) in
    let once = c.loop-literal.once.items in
    let fits : FitsSigned w32 literal = search rules in
    let unused : has_literal literal once ≡ false = sym (c.uses.ensures ∙ ap (λ (x : ℤ). has_literal x c.deref.result.now) (to_z-of_z w32 literal fits) ∙ ap (has_literal literal) c.deref.ensures.value) ∙ c.if-uses.false in
    let pushed : c.push.new.self.items ≡ once ++ literal ∷ [] = c.in_ok-push.ensures.items ∙ ap (λ (x : ℤ). once ++ x ∷ []) (to_z-of_z w32 literal fits) in
    let P : List ℤ → Type 0 = λ xs. SameMembers xs (take (i + 1) clause) in
    let Q : List ℤ → Type 0 = SameMembers (once ++ literal ∷ []) in (
      subst P (sym pushed) (subst Q (sym (take_more clause i (pos 0) c.loop-literal-test.true)) (members_more once (take i clause) literal c.loop-literal.invariant.0)),
      plain_push once c.push.new.self.items literal c.loop-literal.invariant.1 (λ has. false≢true (sym unused ∙ in_has literal once has)) pushed,
    )

pub returns-clause-same : goal.returns-clause-same
returns-clause-same c =
    let P : List ℤ → Type 0 = SameMembers c.loop-literal.once.items in
    subst P (take_all c.loop-literal.literal-index c.args.clause.now (omega arith)) c.loop-literal.invariant.0
