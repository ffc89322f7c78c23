use Rattle.std.proofs.Common.{◌≡◌, ℕ, ℤ, length, inr, sym, subst, Vec}
use Rattle.std.specs.Global.{Global}
use Rattle.std.proofs.lemmas.List.{length-map}
use Rattle.kat_clause.specs.Clauses.{lists}
use Rattle.kat_clause.specs.Tables.{rows}
use Rattle.kat_clause.specs.Numberings.{IsNotedClause}
use Rattle.kat_clause.proofs.hinter.note_set.Goals as goal

pub returns-clause-noted : goal.returns-clause-noted
returns-clause-noted c =
    let sets = c.args.sets.now in
    let number : length sets ≡ length (lists sets) = sym (length-map sets (λ (v : Vec ℤ Global). v.items)) in
    let P : ℕ → Type 0 = IsNotedClause (rows c.note_literals.new.table.items) c.note_short.new.short.items c.args.set.now in
    inr (subst P number (c.in_ok-note_literals.ensures.noted, c.in_ok-note_short.ensures.noted))
