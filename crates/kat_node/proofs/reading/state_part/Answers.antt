use Rattle.std.proofs.Common.{◌≤◌, rules, [], ◌∷◌, length, map}
use Rattle.serde_json.specs.View.{view}
use Rattle.kat_design.specs.Designs.{component_form}
use Rattle.kat_json.proofs.ListLemmas.{got_at, got_none}
use Rattle.kat_json.proofs.Refusing.{err_same, part_missing, part_there, refused_here}
use Rattle.kat_node.specs.StateForms.{state_faults}
use Rattle.kat_node.proofs.reading.state_part.Goals as goal

pub returns-in-Some-clause-refused : goal.returns-in-Some-clause-refused
returns-in-Some-clause-refused c =
    let vs = c.args.parts.now in
    let v = c.in-Some.value.now in
    let f = state_faults (map component_form c.args.components.now) in
    let there = got_at view vs c.args.place v c.in-Some.ensures.lookup.3.0 (c.in-Some.ensures.lookup.3.1 v) in
    err_same c.within.result _ _ (part_there f c.args.place (map view vs) (view v) there)
    (c.within.ensures.err (f (view v)) c.state.ensures.refused)

pub returns-in-None-clause-refused : goal.returns-in-None-clause-refused
returns-in-None-clause-refused c =
    let vs = c.args.parts.now in
    let f = state_faults (map component_form c.args.components.now) in
    let missing : length vs ≤ c.args.place = search rules in
    err_same c.within-in-None.result _ _ (part_missing f c.args.place (map view vs) (got_none view vs c.args.place missing))
    (c.within-in-None.ensures.err ([] ∷ []) (refused_here c.here.result c.here.ensures))
