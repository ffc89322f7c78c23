use Rattle.std.proofs.Common.{◌≡◌, ◌≤◌, rules, arith, [], ◌∷◌, length, map, Some, None}
use Rattle.serde_json.specs.View.{view}
use Rattle.kat_design.specs.Designs.{ask_form}
use Rattle.kat_design_json.specs.DesignFaults.{ask_faults}
use Rattle.kat_design_json.specs.Joined.{list_ask_faults}
use Rattle.kat_json.specs.Lists.{list_of, tag_of}
use Rattle.kat_design_json.specs.DesignParts.{ask_said}
use Rattle.kat_design_json.specs.Words.{ask_words}
use Rattle.kat_json.specs.Words.{spelled}
use Rattle.kat_design.specs.Faults.{within}
use Rattle.kat_json.proofs.ListLemmas.{got_at, got_none}
use Rattle.kat_design_json.proofs.Nesting.{deeper, no_deeper, ask_list_faults, ask_list_said, unknown_tag}
use Rattle.kat_json.proofs.Refusing.{err_first, err_same, ok_same, part_missing, part_read, part_there, refused_here}
use Rattle.kat_design_json.proofs.asks.+ask.Goals as goal

pub ask-list_ask-requires : goal.ask-list_ask-requires
ask-list_ask-requires t c =
    let ds = map view c.in-Some.parts.now in
    let is : Some ds ≡ list_of (view c.args.value.now) = search rules in
    (omega (arith, deeper (view c.args.value.now) ds is), tt)

pub ask-returns-in-Some-clause-said : goal.ask-returns-in-Some-clause-said
ask-returns-in-Some-clause-said t c =
    let d = view c.args.value.now in
    let ds = map view c.in-Some.parts.now in
    let is : Some ds ≡ list_of d = search rules in
    ok_same c.list_ask.result ask_form _ _ _ _ (ask_list_faults d ds is) (ask_list_said d ds is) c.list_ask.ensures.said

pub ask-returns-in-Some-clause-refused : goal.ask-returns-in-Some-clause-refused
ask-returns-in-Some-clause-refused t c =
    let d = view c.args.value.now in
    let ds = map view c.in-Some.parts.now in
    let is : Some ds ≡ list_of d = search rules in
    err_same c.list_ask.result _ _ (ask_list_faults d ds is) c.list_ask.ensures.refused

pub list_ask-returns-in-None-clause-refused : goal.list_ask-returns-in-None-clause-refused
list_ask-returns-in-None-clause-refused t c =
    let ds = map view c.args.parts.now in
    let unknown : spelled ask_words (tag_of ds) ≡ None = search rules in
    err_first c.within.result (within 0 ([] ∷ [])) (list_ask_faults (spelled ask_words (tag_of ds)) ds) (unknown_tag ds unknown) (c.within.ensures.err ([] ∷ []) (refused_here c.here.result c.here.ensures))

pub ask_part-ask-requires : goal.ask_part-ask-requires
ask_part-ask-requires t c =
    let vs = c.args.parts.now in
    let v = c.in-Some.value.now in
    let there = got_at view vs c.args.place v c.in-Some.ensures.lookup.3.0 (c.in-Some.ensures.lookup.3.1 v) in
    (omega (arith, no_deeper (map view vs) c.args.place (view v) there), tt)

pub ask_part-returns-in-Some-clause-said : goal.ask_part-returns-in-Some-clause-said
ask_part-returns-in-Some-clause-said t c =
    let vs = c.args.parts.now in
    let v = c.in-Some.value.now in
    let there = got_at view vs c.args.place v c.in-Some.ensures.lookup.3.0 (c.in-Some.ensures.lookup.3.1 v) in
    part_read c.within.result c.ask.result ask_form ask_faults ask_said c.args.place (map view vs) (view v) there c.within.ensures.ok c.ask.ensures.said

pub ask_part-returns-in-Some-clause-refused : goal.ask_part-returns-in-Some-clause-refused
ask_part-returns-in-Some-clause-refused t c =
    let vs = c.args.parts.now in
    let v = c.in-Some.value.now in
    let there = got_at view vs c.args.place v c.in-Some.ensures.lookup.3.0 (c.in-Some.ensures.lookup.3.1 v) in
    err_same c.within.result _ _ (part_there ask_faults c.args.place (map view vs) (view v) there)
    (c.within.ensures.err (ask_faults (view v)) c.ask.ensures.refused)

pub ask_part-returns-in-None-clause-refused : goal.ask_part-returns-in-None-clause-refused
ask_part-returns-in-None-clause-refused t c =
    let vs = c.args.parts.now in
    let missing : length vs ≤ c.args.place = search rules in
    err_same c.within-in-None.result _ _ (part_missing ask_faults c.args.place (map view vs) (got_none view vs c.args.place missing))
    (c.within-in-None.ensures.err ([] ∷ []) (refused_here c.here.result c.here.ensures))
