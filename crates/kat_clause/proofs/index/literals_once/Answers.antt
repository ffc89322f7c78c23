use Rattle.std.proofs.Common.{◌≡◌, ◌+◌, ℤ, pos, List, [], ◌∷◌, ◌++◌, take, get_or, refl, sym, ap, ◌∙◌, rules, subst, Contains, FitsSigned}
use Rattle.std.specs.Int.{w32}
use Rattle.std.proofs.lemmas.Int.{to_z-of_z}
use Rattle.std.proofs.lemmas.List.{take_more, take_all}
use Rattle.std.proofs.lemmas.List.Sorted.{Contains-permutation, IsPermutation-sym}
use Rattle.kat_clause.specs.Clauses.{SameMembers}
use Rattle.kat_clause.proofs.Members.{members_again, members_more, members_trans}
use Rattle.kat_clause.proofs.index.literals_once.Goals as goal

pub loop-literal-preserved-then-ends_with : goal.loop-literal-preserved-then-ends_with
loop-literal-preserved-then-ends_with c =
    let sorted = c.deref-literal-items.result.now in
    let i = c.loop-literal.literal-index in
    let literal = get_or sorted i (pos 0) in
    let fits : FitsSigned w32 literal = search rules in
    let P : ℤ → Type 0 = Contains c.loop-literal.once.items in
    let there : Contains c.loop-literal.once.items literal = subst P (to_z-of_z w32 literal fits) (rw c.deref.ensures.value at (c.if-ends_with.ensures refl)) in
    let Q : List ℤ → Type 0 = SameMembers c.loop-literal.once.items in
    subst Q (sym (take_more sorted i (pos 0) c.loop-literal-test.true)) (members_again c.loop-literal.once.items (take i sorted) literal there c.loop-literal.invariant)

pub loop-literal-preserved : goal.loop-literal-preserved
loop-literal-preserved c =
    let sorted = c.deref-literal-items.result.now in
    let i = c.loop-literal.literal-index in
    let literal = get_or sorted i (pos 0) in
    let fits : FitsSigned w32 literal = search rules in
    let pushed : c.push.new.self.items ≡ c.loop-literal.once.items ++ literal ∷ [] = c.in_ok-push.ensures.items ∙ ap (λ (x : ℤ). c.loop-literal.once.items ++ x ∷ []) (to_z-of_z w32 literal fits) in
    let P : List ℤ → Type 0 = λ once. SameMembers once (take (i + 1) sorted) in
    let Q : List ℤ → Type 0 = SameMembers (c.loop-literal.once.items ++ literal ∷ []) in
    subst P (sym pushed) (subst Q (sym (take_more sorted i (pos 0) c.loop-literal-test.true)) (members_more c.loop-literal.once.items (take i sorted) literal c.loop-literal.invariant))

pub returns : goal.returns
returns c =
    let sorted = c.deref-literal-items.result.now in
    let P : List ℤ → Type 0 = SameMembers c.loop-literal.once.items in
    let whole : SameMembers c.loop-literal.once.items sorted = subst P (take_all c.loop-literal.literal-index sorted c.loop-literal-test.false) c.loop-literal.invariant in
    let all : SameMembers c.loop-literal.once.items c.sort.new.self.items = subst P c.deref-literal-items.ensures.value whole in
    let given = c.in_ok-literals.literals.items in
    let mixed : SameMembers c.sort.new.self.items given = λ k. (
      λ has. Contains-permutation c.sort.new.self.items given k (IsPermutation-sym given c.sort.new.self.items c.in_ok-sort.ensures.permutation) has,
      λ has. Contains-permutation given c.sort.new.self.items k c.in_ok-sort.ensures.permutation has,
    ) in
    subst P c.in_ok-literals.ensures.items (members_trans c.loop-literal.once.items c.sort.new.self.items given all mixed)
