use Rattle.std.proofs.Common.{◌≡◌, ◌<◌, ◌≤◌, ◌^◌, ℕ, ℤ, pos, negsuc, neg_ℤ, List, ◌++◌, length, take, get_or, unsigned_abs, sym, ap, ◌∙◌, subst, arith, rules, FitsSigned, to_z, of_z}
use Rattle.std.specs.Int.{w32}
use Rattle.std.proofs.lemmas.Int.{to_z-of_z}
use Rattle.std.proofs.lemmas.List.{take_more, take_all}
use Rattle.kat_clause.specs.declared.propagation.Propagation.{Propagation}
use Rattle.kat_clause.specs.Clauses.{SameMembers, opposites}
use Rattle.kat_clause.specs.Literals.{code_of}
use Rattle.kat_clause.specs.Propagations.{Enters, Grows}
use Rattle.kat_clause.proofs.Codes.{Contains-at}
use Rattle.kat_clause.proofs.Sets.{Grows-enters}
use Rattle.kat_clause.proofs.ReadingSteps.{members_enter, deny_more}
use Rattle.kat_clause.proofs.reading.deny_all.Goals as goal

small : (k : ℤ) (size : ℕ) → code_of k < size → size ≤ 2 ^ 30 → unsigned_abs k < 2 ^ 31
small (pos n) size h l = omega arith
small (negsuc n) size h l = omega arith

pub opposite-requires : goal.opposite-requires
opposite-requires c =
    let line = c.args.line.now in
    let i = c.loop-literal.literal-index in
    let literal = get_or line i (pos 0) in
    let fits : FitsSigned w32 literal = search rules in
    rw (to_z-of_z w32 literal fits) (small literal (length c.args.set.now.marks.items) (c.requires.below literal (Contains-at line i c.loop-literal-test.true)).0 c.requires.limit)

-- the literal that enters
enters_opposite : (old new : Propagation) (given : ℤ) (literal : ℤ) → given ≡ neg_ℤ literal → FitsSigned w32 given → Enters old new (to_z w32 (of_z w32 given)) → Enters old new (neg_ℤ literal)
enters_opposite old new given literal is fits enters = let P : ℤ → Type 0 = Enters old new in subst P (to_z-of_z w32 given fits ∙ is) enters

pub loop-literal-preserved : goal.loop-literal-preserved
loop-literal-preserved c =
    let line = c.args.line.now in
    let i = c.loop-literal.literal-index in
    let literal = get_or line i (pos 0) in
    let old = c.loop-literal.set in
    let new = c.enter.new.self in
    let fits : FitsSigned w32 literal = search rules in
    let is : c.opposite.result ≡ neg_ℤ literal = c.opposite.ensures ∙ ap neg_ℤ (to_z-of_z w32 literal fits) in
    let out : FitsSigned w32 c.opposite.result = search rules in
    let enters : Enters old new (neg_ℤ literal) = enters_opposite old new c.opposite.result literal is out c.in_ok-enter.ensures.ok in
    let below : code_of (neg_ℤ literal) < length old.marks.items = rw c.loop-literal.invariant.1 (c.requires.below literal (Contains-at line i c.loop-literal-test.true)).1 in
    let grows : Grows old new = Grows-enters old new (neg_ℤ literal) below enters in
    let P : List ℤ → Type 0 = λ front. SameMembers new.trail.items (c.args.set.now.trail.items ++ opposites front) in (
      grows.set c.loop-literal.invariant.0,
      grows.size ∙ c.loop-literal.invariant.1,
      subst P (sym (take_more line i (pos 0) c.loop-literal-test.true))
          (deny_more c.args.set.now.trail.items (take i line) literal old.trail.items new.trail.items c.loop-literal.invariant.2 (members_enter old new (neg_ℤ literal) c.loop-literal.invariant.0 enters)),
    )

pub returns-clause-ok : goal.returns-clause-ok
returns-clause-ok c =
    let P : List ℤ → Type 0 = λ front. SameMembers c.loop-literal.set.trail.items (c.args.set.now.trail.items ++ opposites front) in
    subst P (take_all c.loop-literal.literal-index c.args.line.now c.loop-literal-test.false) c.loop-literal.invariant.2
