use Rattle.std.proofs.Common.{◌≡◌, ◌+◌, ◌++◌, ◌∷◌, [], ℕ, length, take, set, false, refl, sym, ap, ◌∙◌, arith, rules, FitsSigned}
use Rattle.std.specs.Int.{w32}
use Rattle.std.proofs.lemmas.Int.{to_z-of_z}
use Rattle.std.proofs.lemmas.List.{length-set, length_push, take_at, take-take}
use Rattle.kat_clause.specs.Literals.{code_of}
use Rattle.kat_clause.proofs.Sets.{IsSet-leaves}
use Rattle.kat_clause.proofs.propagation.Propagation.leave.Goals as goal

pub loop-self-preserved : goal.loop-self-preserved
loop-self-preserved c =
    let literal = c.in-Some.literal in
    let fits : FitsSigned w32 literal = search rules in
    let code : c.code.result ≡ code_of literal = c.code.ensures ∙ ap code_of (to_z-of_z w32 literal fits) in
    let trail : c.loop-self.self.trail.items ≡ c.pop.new.self.items ++ literal ∷ [] = c.in-Some.ensures.items in
    let longer : length c.loop-self.self.trail.items ≡ length c.pop.new.self.items + 1 = ap length trail ∙ length_push c.pop.new.self.items literal in
    let all = c.args.self.now.trail.items in
    let n = length c.pop.new.self.items in
    let front : c.pop.new.self.items ≡ take n all =
    sym (take_at c.pop.new.self.items (literal ∷ []) n refl) ∙ ap (take n) (sym trail ∙ c.loop-self.invariant.2) ∙ take-take n (length c.loop-self.self.trail.items) all (omega (arith, longer)) in (
      IsSet-leaves c.loop-self.self _ c.pop.new.self.items literal trail (ap (λ (x : ℕ). set c.loop-self.self.marks.items x false) code) refl c.loop-self.invariant.0,
      length-set c.loop-self.self.marks.items c.code.result false ∙ c.loop-self.invariant.1,
      front,
      omega (arith, longer, c.loop-self-test.true, c.len.ensures),
      omega (arith, longer, c.loop-self.invariant.4),
    )
