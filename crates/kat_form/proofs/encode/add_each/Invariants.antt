use Rattle.std.proofs.Common.{◌≡◌, [], ◌∷◌, take, map}
use Rattle.kat_form.specs.Readings.{with_clauses}
use Rattle.kat_form.proofs.encode.add_each.Given as goal

abbrev pub invariant-loop-literal : goal.invariant-loop-literal
invariant-loop-literal l = l.draft ≡ with_clauses (map (λ k. l.first ∷ k ∷ []) (take l.literal-index l.literals)) l.fn.draft
