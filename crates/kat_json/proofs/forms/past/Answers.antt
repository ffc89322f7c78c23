use Rattle.std.proofs.Common.{◌<◌, rules, [], ◌∷◌, length, map}
use Rattle.serde_json.specs.View.{view}
use Rattle.kat_json.proofs.ListLemmas.{longer_than}
use Rattle.kat_json.proofs.Refusing.{err_same, past_some, refused_here}
use Rattle.kat_json.proofs.forms.past.Goals as goal

pub returns-then-parts-count-clause-refused : goal.returns-then-parts-count-clause-refused
returns-then-parts-count-clause-refused c =
    let vs = c.args.parts.now in
    let more : c.args.count < length vs = search rules in
    err_same c.within.result _ _ (past_some c.args.count (map view vs) (longer_than view vs c.args.count more))
    (c.within.ensures.err ([] ∷ []) (refused_here c.here.result c.here.ensures))
