use Rattle.std.proofs.Common.{◌≤◌, rules, length, map}
use Rattle.serde_json.specs.View.{view}
use Rattle.kat_json.proofs.ListLemmas.{got_at, got_none}
use Rattle.kat_json.proofs.Refusing.{handed, optional_missing, optional_read, optional_there, refused_same}
use Rattle.kat_json.proofs.forms.optional.Goals as goal

pub returns-in_err-item-in-Some-clause-refused : goal.returns-in_err-item-in-Some-clause-refused
returns-in_err-item-in-Some-clause-refused g c =
    let vs = c.args.parts.now in
    let v = c.in-Some.value.now in
    let there = got_at view vs c.args.place v c.in-Some.ensures.lookup.3.0 (c.in-Some.ensures.lookup.3.1 v) in
    let e = c.in_err-item-in-Some.field-0.0 in
    handed c.from_residual.result e _ c.from_residual.ensures.1
    (refused_same _ _ e (optional_there g.F.Form.faults c.args.place (map view vs) (view v) there) (c.in_err-item-in-Some.ensures.err (g.F.Form.faults (view v)) c.read.ensures.refused))

pub returns-in_ok-item-in-Some-clause-said : goal.returns-in_ok-item-in-Some-clause-said
returns-in_ok-item-in-Some-clause-said g c =
    let vs = c.args.parts.now in
    let v = c.in-Some.value.now in
    let there = got_at view vs c.args.place v c.in-Some.ensures.lookup.3.0 (c.in-Some.ensures.lookup.3.1 v) in
    optional_read c.read.result c.in_ok-item-in-Some.item g.F.Form.faults g.F.Form.said c.args.place (map view vs) (view v) there c.in_ok-item-in-Some.ensures.ok c.read.ensures.said

pub returns-in-None-clause-said : goal.returns-in-None-clause-said
returns-in-None-clause-said g c =
    let vs = c.args.parts.now in
    let missing : length vs ≤ c.args.place = search rules in
    optional_missing g.F.Form.faults g.F.Form.said c.args.place (map view vs) (got_none view vs c.args.place missing)
