use Rattle.std.proofs.Common.{◌∙◌, rules}
use Rattle.kat_judging.specs.Faults.{scope_of}
use Rattle.kat_grammar.specs.Phrases.{form_of}
use Rattle.kat_judging.proofs.Parts.{IsJudged, joined_first, chosen_first, branches_first}
use Rattle.kat_judging.proofs.judging.+judge.Goals as goal

pub returns-in-Binary-clause-fault : goal.returns-in-Binary-clause-fault
returns-in-Binary-clause-fault t c =
    let left : IsJudged (scope_of c.args.states.now c.args.params.now) (form_of c.in-Binary.left.value) c.judge-left.result = record { found = search rules; start = search rules; fault = search rules } in
    let right : IsJudged (scope_of c.args.states.now c.args.params.now) (form_of c.in-Binary.right.value) c.judge-right.result = record { found = search rules; start = search rules; fault = search rules } in
    rw c.in-Binary.is (c.judge_binary.ensures.fault ∙ joined_first (scope_of c.args.states.now c.args.params.now) c.in-Binary.operator c.in-Binary.at
    (form_of c.in-Binary.left.value) (form_of c.in-Binary.right.value) c.judge-left.result c.judge-right.result left right)

pub returns-in-Extreme-clause-fault : goal.returns-in-Extreme-clause-fault
returns-in-Extreme-clause-fault t c =
    let left : IsJudged (scope_of c.args.states.now c.args.params.now) (form_of c.in-Extreme.left.value) c.judge-left-in-Extreme.result = record { found = search rules; start = search rules; fault = search rules } in
    let right : IsJudged (scope_of c.args.states.now c.args.params.now) (form_of c.in-Extreme.right.value) c.judge-right-in-Extreme.result = record { found = search rules; start = search rules; fault = search rules } in
    rw c.in-Extreme.is (c.judge_extreme.ensures.fault ∙ chosen_first (scope_of c.args.states.now c.args.params.now) c.in-Extreme.extreme c.in-Extreme.at c.in-Extreme.open_at c.in-Extreme.comma c.in-Extreme.close_at
    (form_of c.in-Extreme.left.value) (form_of c.in-Extreme.right.value) c.judge-left-in-Extreme.result c.judge-right-in-Extreme.result left right)

pub returns-in-If-clause-fault : goal.returns-in-If-clause-fault
returns-in-If-clause-fault t c =
    let test : IsJudged (scope_of c.args.states.now c.args.params.now) (form_of c.in-If.condition.value) c.judge-condition.result = record { found = search rules; start = search rules; fault = search rules } in
    let left : IsJudged (scope_of c.args.states.now c.args.params.now) (form_of c.in-If.left.value) c.judge-left-in-If.result = record { found = search rules; start = search rules; fault = search rules } in
    let right : IsJudged (scope_of c.args.states.now c.args.params.now) (form_of c.in-If.right.value) c.judge-right-in-If.result = record { found = search rules; start = search rules; fault = search rules } in
    rw c.in-If.is (c.judge_if.ensures.fault ∙ branches_first (scope_of c.args.states.now c.args.params.now) c.in-If.at c.in-If.then_at c.in-If.else_at
    (form_of c.in-If.condition.value) (form_of c.in-If.left.value) (form_of c.in-If.right.value) c.judge-condition.result c.judge-left-in-If.result c.judge-right-in-If.result test left right)
