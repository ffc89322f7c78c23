use Rattle.std.proofs.Common.{◌<◌, length, rules}
use Rattle.kat_join.specs.Keyed.{by_key}
use Rattle.kat_lattice.proofs.NewKeys.{still_new}
use Rattle.kat_lattice.proofs.in_place.new_of.Goals as goal

pub returns-in_err-value-clause-present : goal.returns-in_err-value-clause-present
returns-in_err-value-clause-present g c =
    λ none. absurd (let l : c.loop-entry.entry-index < length c.args.theirs.now = search rules in
    still_new (by_key g.K.Ord.cmp) c.args.mine.now c.args.theirs.now c.loop-entry.entry-index c.entry-item.result c.has_key.result l c.entry-item.is c.has_key.ensures c.if-has_key.false none)

pub returns-in_err-push-clause-present : goal.returns-in_err-push-clause-present
returns-in_err-push-clause-present g c =
    λ none. absurd (let l : c.loop-entry.entry-index < length c.args.theirs.now = search rules in
    still_new (by_key g.K.Ord.cmp) c.args.mine.now c.args.theirs.now c.loop-entry.entry-index c.entry-item.result c.has_key.result l c.entry-item.is c.has_key.ensures c.if-has_key.false none)
