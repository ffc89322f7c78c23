use Rattle.std.proofs.Common.{◌≡◌, [], ◌∷◌, pos, ap, ◌∙◌, rules}
use Rattle.kat_fm.specs.Entries.{numbers_at}
use Rattle.kat_fm.proofs.GivenEntries.{unit_is}
use Rattle.kat_fm.proofs.multipliers.unit.Goals as goal

pub returns : goal.returns
returns c = let items : c.push.new.self.items ≡ (c.args.place, pos 1) ∷ [] = search rules in ap (numbers_at c.args.count) items ∙ unit_is c.args.count c.args.place
