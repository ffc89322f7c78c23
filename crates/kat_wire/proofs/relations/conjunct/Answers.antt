use Rattle.std.proofs.Common.{◌≡◌, [], ◌∷◌, map, rules, None}
use Rattle.serde_json.specs.View.{view}
use Rattle.kat_design.specs.Faults.{within}
use Rattle.kat_json.specs.Lists.{tag_of}
use Rattle.kat_wire.specs.Words.{conjunct_words}
use Rattle.kat_json.specs.Words.{spelled}
use Rattle.kat_wire.proofs.UnknownWords.{unknown_conjunct}
use Rattle.kat_json.proofs.Refusing.{err_first, refused_here}
use Rattle.kat_wire.proofs.relations.conjunct.Goals as goal

pub returns-in-None-clause-refused : goal.returns-in-None-clause-refused
returns-in-None-clause-refused c =
    let ds = map view c.args.parts.now in
    let unknown : spelled conjunct_words (tag_of ds) ≡ None = search rules in
    err_first c.within.result (within 0 ([] ∷ [])) _ (unknown_conjunct ds unknown) (c.within.ensures.err ([] ∷ []) (refused_here c.here.result c.here.ensures))
