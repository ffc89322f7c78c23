use Rattle.std.proofs.Common.{rules, ◌≡◌, ◌-◌, List, ◌∷◌, ◌++◌, length, drop, take, map, option_map, IfOk, subst}
use Rattle.std.proofs.lemmas.List.{take_rest}
use Rattle.kat_type.specs.declared.types.Operation.{Operation}
use Rattle.std.specs.Prelude.{slice_get}
use Rattle.kat_type.specs.Types.{operation_form, query_form}
use Rattle.kat_vc.specs.Conditions.{answers_of_each, steps_of_each}
use Rattle.kat_vc.specs.Numbered.{condition_of}
use Rattle.kat_vc.proofs.Numbering.{later_found, step_found}
use Rattle.kat_vc.proofs.by_number.+later.Goals as goal

pub returns-in-Some : goal.returns-in-Some
returns-in-Some t c =
    let shape : c.args.ops.now ≡ c.op-item.result ∷ drop 1 c.args.ops.now = search rules in
    rw shape (step_found c.args.number (operation_form c.op-item.result) (map operation_form (drop 1 c.args.ops.now)) c.args.conjuncts.now
    (answers_of_each 0 (map query_form c.args.queries.now)) c.args.place c.in-Some.claim.now c.in-Some.ensures.found)

pub returns-in_ok-next-in-None : goal.returns-in_ok-next-in-None
returns-in_ok-next-in-None t c =
    let shape : c.args.ops.now ≡ c.op-item.result ∷ drop 1 c.args.ops.now = search rules in
    let more : take (length c.args.ops.now - 1) (drop 1 c.args.ops.now) ≡ drop 1 c.args.ops.now = take_rest c.args.ops.now 1 in
    let given : IfOk c.later.result (λ condition. option_map condition_of condition ≡ slice_get (steps_of_each c.in_ok-next-in-None.next (map operation_form (take (length c.args.ops.now - 1) (drop 1 c.args.ops.now))) c.args.conjuncts.now ++ answers_of_each 0 (map query_form c.args.queries.now)) c.behind-left.result) = c.later.ensures in
    let was = subst (λ (ops : List Operation). IfOk c.later.result (λ condition. option_map condition_of condition ≡ slice_get (steps_of_each c.in_ok-next-in-None.next (map operation_form ops) c.args.conjuncts.now ++ answers_of_each 0 (map query_form c.args.queries.now)) c.behind-left.result)) more given in
    rw shape (later_found c.later.result c.args.number c.in_ok-next-in-None.next (operation_form c.op-item.result) (map operation_form (drop 1 c.args.ops.now)) c.args.conjuncts.now
    (answers_of_each 0 (map query_form c.args.queries.now)) c.args.place c.behind-left.result c.in-None.ensures.past c.behind-left.ensures c.in_ok-next-in-None.ensures was)
