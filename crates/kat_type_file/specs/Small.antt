-- Used inside only.
-- An operation and a query with few parameters, whose rank has digits of one place.
use Rattle.std.specs.Prelude.{◌≤◌, length, All}
use Rattle.kat_grammar.specs.Lines.{IsElement}
use Rattle.kat_grammar.specs.declared.phrases.Operation.{Operation}
use Rattle.kat_grammar.specs.declared.phrases.Query.{Query}
use Rattle.kat_grammar.specs.declared.phrases.RankPart.{RankPart}
use Rattle.kat_type.specs.Limits.{param_limit}

pub record IsSmallOperation (o : Operation) : Type 0 where
  pub params : length o.params ≤ param_limit
  pub digits : All (λ (part : RankPart). IsElement part.element) o.rank

pub record IsSmallQuery (q : Query) : Type 0 where
  pub params : length q.params ≤ param_limit
