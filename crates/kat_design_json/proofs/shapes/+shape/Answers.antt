use Rattle.std.proofs.Common.{◌≡◌, ◌≤◌, rules, arith, [], ◌∷◌, length, map, Some, None}
use Rattle.serde_json.specs.View.{view}
use Rattle.kat_shape.specs.Forms.{form_of}
use Rattle.kat_design_json.specs.DesignFaults.{shape_faults}
use Rattle.kat_design_json.specs.Joined.{joined_faults}
use Rattle.kat_json.specs.Lists.{list_of, tag_of}
use Rattle.kat_design_json.specs.DesignParts.{shape_said}
use Rattle.kat_design_json.specs.Words.{joint_words}
use Rattle.kat_json.specs.Words.{spelled}
use Rattle.kat_design.specs.Faults.{within}
use Rattle.kat_json.proofs.ListLemmas.{got_at, got_none}
use Rattle.kat_design_json.proofs.Nesting.{deeper, no_deeper, shape_list_faults, shape_list_said, unknown_joint}
use Rattle.kat_json.proofs.Refusing.{err_first, err_same, ok_same, part_missing, part_read, part_there, refused_here}
use Rattle.kat_design_json.proofs.shapes.+shape.Goals as goal

pub shape-shape_of_parts-requires : goal.shape-shape_of_parts-requires
shape-shape_of_parts-requires t c =
    let ds = map view c.in-Some.parts.now in
    let is : Some ds ≡ list_of (view c.args.value.now) = search rules in
    (omega (arith, deeper (view c.args.value.now) ds is), tt)

pub shape-returns-in-Some-clause-said : goal.shape-returns-in-Some-clause-said
shape-returns-in-Some-clause-said t c =
    let d = view c.args.value.now in
    let ds = map view c.in-Some.parts.now in
    let is : Some ds ≡ list_of d = search rules in
    ok_same c.shape_of_parts.result form_of _ _ _ _ (shape_list_faults d ds is) (shape_list_said d ds is) c.shape_of_parts.ensures.said

pub shape-returns-in-Some-clause-refused : goal.shape-returns-in-Some-clause-refused
shape-returns-in-Some-clause-refused t c =
    let d = view c.args.value.now in
    let ds = map view c.in-Some.parts.now in
    let is : Some ds ≡ list_of d = search rules in
    err_same c.shape_of_parts.result _ _ (shape_list_faults d ds is) c.shape_of_parts.ensures.refused

pub shape_of_parts-returns-in_default-clause-refused : goal.shape_of_parts-returns-in_default-clause-refused
shape_of_parts-returns-in_default-clause-refused t c =
    let ds = map view c.args.parts.now in
    let unknown : spelled joint_words (tag_of ds) ≡ None = search rules in
    err_first c.within.result (within 0 ([] ∷ [])) (joined_faults ds) (unknown_joint ds unknown) (c.within.ensures.err ([] ∷ []) (refused_here c.here.result c.here.ensures))

pub shape_part-shape-requires : goal.shape_part-shape-requires
shape_part-shape-requires t c =
    let vs = c.args.parts.now in
    let v = c.in-Some.value.now in
    let there = got_at view vs c.args.place v c.in-Some.ensures.lookup.3.0 (c.in-Some.ensures.lookup.3.1 v) in
    (omega (arith, no_deeper (map view vs) c.args.place (view v) there), tt)

pub shape_part-returns-in-Some-clause-said : goal.shape_part-returns-in-Some-clause-said
shape_part-returns-in-Some-clause-said t c =
    let vs = c.args.parts.now in
    let v = c.in-Some.value.now in
    let there = got_at view vs c.args.place v c.in-Some.ensures.lookup.3.0 (c.in-Some.ensures.lookup.3.1 v) in
    part_read c.within.result c.shape.result form_of shape_faults shape_said c.args.place (map view vs) (view v) there c.within.ensures.ok c.shape.ensures.said

pub shape_part-returns-in-Some-clause-refused : goal.shape_part-returns-in-Some-clause-refused
shape_part-returns-in-Some-clause-refused t c =
    let vs = c.args.parts.now in
    let v = c.in-Some.value.now in
    let there = got_at view vs c.args.place v c.in-Some.ensures.lookup.3.0 (c.in-Some.ensures.lookup.3.1 v) in
    err_same c.within.result _ _ (part_there shape_faults c.args.place (map view vs) (view v) there)
    (c.within.ensures.err (shape_faults (view v)) c.shape.ensures.refused)

pub shape_part-returns-in-None-clause-refused : goal.shape_part-returns-in-None-clause-refused
shape_part-returns-in-None-clause-refused t c =
    let vs = c.args.parts.now in
    let missing : length vs ≤ c.args.place = search rules in
    err_same c.within-in-None.result _ _ (part_missing shape_faults c.args.place (map view vs) (got_none view vs c.args.place missing))
    (c.within-in-None.ensures.err ([] ∷ []) (refused_here c.here.result c.here.ensures))
