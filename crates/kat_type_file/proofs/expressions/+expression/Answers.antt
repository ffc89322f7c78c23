use Rattle.kat_expr.specs.Terms.Term.{entry}
use Rattle.kat_type_file.proofs.expressions.+expression.Goals as goal

pub expression-returns-in-Entry : goal.expression-returns-in-Entry
expression-returns-in-Entry t c = rw c.in-Entry.is (λ i. entry (c.place_of.ensures i) (c.place_of-in-Entry.ensures i))
