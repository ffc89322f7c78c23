use Rattle.std.proofs.Common.{rules}
use Rattle.kat_grammar.specs.Phrases.{form_of}
use Rattle.kat_judging.specs.Faults.{scope_of}
use Rattle.kat_judging.proofs.Parts.{IsJudged}
use Rattle.kat_judging.proofs.Queries.{query_first}
use Rattle.kat_judging.proofs.items.query_fault.Goals as goal

pub returns : goal.returns
returns c =
    let right : IsJudged (scope_of c.args.states.now c.args.query.now.params) (form_of c.args.query.now.right) c.judge-right.result = record { found = search rules; start = search rules; fault = search rules } in
    query_first c.args.states.now c.args.query.now c.judge-right.result c.in_ok-named.named c.asked.result c.earlier.result c.earlier-2.result
    right (search rules) c.asked.ensures c.earlier.ensures c.earlier-2.ensures
